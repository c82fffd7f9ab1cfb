use Rattle.yd_num.specs.Number.{SpellsUnsigned, unsigned_at}
use Rattle.yd_num.specs.Signed.{SpellsSigned, signed_at}
use Rattle.yd_num.specs.Text.{SpellsBlob, SpellsText, blob_at, text_at}
use Rattle.yd_num.proofs.BlobLemmas.{blob_only, text_only}
use Rattle.yd_num.proofs.NumberLemmas.{unsigned_only}
use Rattle.yd_num.proofs.SignedLemmas.{signed_only}
use Rattle.yd_num.proofs.WrittenLemmas.{spells_one}
use Rattle.yd_num.proofs.law.spelled_is_one.Goals as goal

pub returns : goal.returns
returns c = record {
  numbers = spells_one unsigned_at SpellsUnsigned unsigned_only;
  signed_numbers = spells_one signed_at SpellsSigned signed_only;
  blobs = spells_one blob_at SpellsBlob blob_only;
  texts = spells_one text_at SpellsText text_only;
}
