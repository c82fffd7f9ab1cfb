use Rattle.yd_ops.proofs.RunLemmas.{run_written}
use Rattle.yd_agreement.specs.Differing.{content_of, place_of}
use Rattle.yd_agreement.proofs.ApartLemmas.{contents_apart, places_apart}
use Rattle.yd_agreement.proofs.SweepLemmas.{next_first}
use Rattle.yd_agreement.proofs.law.next_is_compared_with_cover.Goals as goal

pub returns : goal.returns
returns c = record { contents = next_first content_of contents_apart run_written; places = next_first place_of places_apart run_written }
