use Rattle.yd_num.proofs.BlobFaultLemmas.{blob_fails, text_fails}
use Rattle.yd_num.proofs.FaultLemmas.{byte_fails, bytes_fails}
use Rattle.yd_num.proofs.NumberFaultLemmas.{unsigned_fails}
use Rattle.yd_num.proofs.SignedFaultLemmas.{signed_fails}
use Rattle.yd_num.proofs.law.faults_are_exact.Goals as goal

pub returns : goal.returns
returns c = record { one_byte = byte_fails; some_bytes = bytes_fails; numbers = unsigned_fails; signed_numbers = signed_fails; blobs = blob_fails; texts = text_fails }
