use Rattle.yd_origins.proofs.TableLemmas.{lines_decide, not_itself}
use Rattle.yd_origins.proofs.law.lines_decide.Goals as goal

pub returns : goal.returns
returns c = record { two_rows = λ table a b t p q ne. lines_decide table t a b p q ne; one_row = λ table a. not_itself table a }
