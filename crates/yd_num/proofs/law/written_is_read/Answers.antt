use Rattle.std.proofs.Common.{ℕ, List, ◌^◌, ◌<◌, length}
use Rattle.std.specs.Prelude.{IsUtf8}
use Rattle.yd_num.specs.declared.signed.Signed.{Signed}
use Rattle.yd_num.specs.Number.{SpellsUnsigned, unsigned_at}
use Rattle.yd_num.specs.Signed.{SpellsSigned, signed_at}
use Rattle.yd_num.specs.Text.{SpellsBlob, SpellsText, blob_at, text_at}
use Rattle.yd_num.specs.Writing.{shortest, shortest_signed, shortest_blob}
use Rattle.yd_num.proofs.BlobLemmas.{blob_only, text_only}
use Rattle.yd_num.proofs.NumberLemmas.{unsigned_only}
use Rattle.yd_num.proofs.ShortestLemmas.{unsigned_spells}
use Rattle.yd_num.proofs.ShortestSignedLemmas.{signed_spells}
use Rattle.yd_num.proofs.SignedLemmas.{signed_only}
use Rattle.yd_num.proofs.WrittenLemmas.{blob_spells, text_spells, read_again}
use Rattle.yd_num.proofs.law.written_is_read.Goals as goal

pub returns : goal.returns
returns c = record {
  numbers = read_again unsigned_at SpellsUnsigned (λ (v : ℕ). v < 2 ^ 53) shortest unsigned_only unsigned_spells;
  signed_numbers = read_again signed_at SpellsSigned (λ (s : Signed). s.size < 2 ^ 55) shortest_signed signed_only signed_spells;
  blobs = read_again blob_at SpellsBlob (λ (blob : List ℕ). length blob < 2 ^ 53) shortest_blob blob_only blob_spells;
  texts = read_again text_at SpellsText (λ (text : List ℕ). (length text < 2 ^ 53) × IsUtf8 text) shortest_blob text_only text_spells;
}
