use Rattle.yd_origins.proofs.NextLemmas.{next_is_table, next_fits, next_place}
use Rattle.yd_origins.proofs.law.next_row_fits.Goals as goal

pub returns : goal.returns
returns c = λ table new t f n. record {
  is_table = next_is_table table t f new n;
  fits = next_fits table t f new n;
  place = next_place table t f new n;
}
