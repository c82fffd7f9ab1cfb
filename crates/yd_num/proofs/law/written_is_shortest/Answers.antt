use Rattle.yd_num.proofs.ShortestLemmas.{unsigned_least}
use Rattle.yd_num.proofs.ShortestSignedLemmas.{signed_least}
use Rattle.yd_num.proofs.WrittenLemmas.{blob_least, text_least}
use Rattle.yd_num.proofs.law.written_is_shortest.Goals as goal

pub returns : goal.returns
returns c = record { numbers = unsigned_least; signed_numbers = signed_least; blobs = blob_least; texts = text_least }
