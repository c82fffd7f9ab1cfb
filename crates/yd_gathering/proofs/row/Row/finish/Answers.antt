use Rattle.yd_gathering.proofs.RowLemmas.{row_finished}
use Rattle.yd_gathering.proofs.row.Row.finish.Goals as goal

pub returns : goal.returns
returns c = λ taken gathers. row_finished c.args.self c.push.new.self _ taken c.in-Ok.ensures c.in-Ok-of_spans.ensures.exact c.in_ok-push.ensures.appended gathers
