use Rattle.std.proofs.Common.{map, subst, sym, ap, ◌∙◌}
use Rattle.yd_words.specs.Each.{Each}
use Rattle.yd_ops.specs.View.{run_value}
use Rattle.yd_origins.specs.Sorted.{origin_order}
use Rattle.yd_origins.specs.Table.{IsTable}
use Rattle.yd_order.specs.Stretch.{EndsAtClock, rows_of_stretches, among_rows}
use Rattle.yd_order.proofs.RunLemmas.{rows_of_runs, stretches_end}
use Rattle.yd_order.proofs.runs.arrange.Goals as goal

pub arrange_stretches-requires-clause-clocks : goal.arrange_stretches-requires-clause-clocks
arrange_stretches-requires-clause-clocks c =
    subst (Each EndsAtClock) (sym (c.deref.ensures.value ∙ c.in_ok-stretches.ensures)) (stretches_end (map run_value c.args.runs.now) c.requires.clocks)

pub arrange_stretches-requires-clause-table : goal.arrange_stretches-requires-clause-table
arrange_stretches-requires-clause-table c =
    subst (λ rows. IsTable (among_rows rows)) (rows_of_runs (map run_value c.args.runs.now) ∙ ap rows_of_stretches (sym (c.deref.ensures.value ∙ c.in_ok-stretches.ensures))) c.requires.table

pub returns : goal.returns
returns c =
    c.in_ok-order.ensures
    ∙ ap (λ rows. origin_order (among_rows rows)) (ap rows_of_stretches (c.deref.ensures.value ∙ c.in_ok-stretches.ensures) ∙ sym (rows_of_runs (map run_value c.args.runs.now)))
