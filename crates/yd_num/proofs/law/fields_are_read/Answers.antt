use Rattle.yd_num.proofs.BlobLemmas.{byte_found, byte_only, bytes_front, bytes_again, blob_found, blob_only, text_found, text_only}
use Rattle.yd_num.proofs.NumberLemmas.{unsigned_found, unsigned_only}
use Rattle.yd_num.proofs.SignedLemmas.{signed_found, signed_only}
use Rattle.yd_num.proofs.law.fields_are_read.Goals as goal

pub returns : goal.returns
returns c = record {
  one_byte = record { found = byte_found; only = byte_only };
  some_bytes = λ count. record { found = bytes_front count; only = bytes_again count };
  numbers = record { found = unsigned_found; only = unsigned_only };
  signed_numbers = record { found = signed_found; only = signed_only };
  blobs = record { found = blob_found; only = blob_only };
  texts = record { found = text_found; only = text_only };
}
