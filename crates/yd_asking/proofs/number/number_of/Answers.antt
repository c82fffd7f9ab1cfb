use Rattle.std.proofs.Common.{ℕ, sym, ◌∙◌, arith}
use Rattle.yd_asking.proofs.TableLemmas.{number_parsed, number_unparsed}
use Rattle.yd_asking.proofs.number.number_of.Goals as goal

pub returns-in-Ok : goal.returns-in-Ok
returns-in-Ok c = c.number_with.ensures ∙ number_parsed ℕ c.args.end c.args.word.now c.in-Ok.number (omega arith) c.in-Ok.ensures.value.0

pub returns-in-Err : goal.returns-in-Err
returns-in-Err c = sym (number_unparsed _ c.args.end c.args.word.now c.in-Err.field-0 (omega arith) c.in-Err.ensures.value.0)
