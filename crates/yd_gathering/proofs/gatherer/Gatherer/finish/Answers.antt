use Rattle.std.proofs.Common.{map, ap, ◌∙◌, subst, sym}
use Rattle.std.proofs.lemmas.List.{map-append}
use Rattle.yd_ops.specs.View.{update_value}
use Rattle.yd_gathering.specs.Gathered.{StandsAs}
use Rattle.yd_gathering.proofs.GathererLemmas.{finished_late, finished_row}
use Rattle.yd_gathering.proofs.gatherer.Gatherer.finish.Goals as goal

pub finish-requires : goal.finish-requires
finish-requires c = (c.requires.1.front, c.requires.1.row)

pub returns-then-is_empty : goal.returns-then-is_empty
returns-then-is_empty c = λ taken gathers. finished_row c.args.self (map update_value c.in_ok-list.list) taken (c.is_empty.ensures c.if-is_empty.true) c.in_ok-list.ensures gathers

pub settled-requires-clause-before : goal.settled-requires-clause-before
settled-requires-clause-before c = rw c.as_slice.ensures (c.in_ok-list.ensures c.requires.1.front c.requires.1.row).valid

pub settled-requires-clause-late : goal.settled-requires-clause-late
settled-requires-clause-late c = c.requires.1.bodies

pub returns : goal.returns
returns c = λ taken gathers. subst (StandsAs taken) (sym (ap (map update_value) c.in_ok-append.ensures.appended ∙ map-append update_value c.in_ok-list.list c.in_ok-behind.behind))
    (finished_late c.args.self (map update_value c.in_ok-list.list) (map update_value c.in_ok-behind.behind) taken c.in_ok-list.ensures (rw c.as_slice.ensures at c.in_ok-behind.ensures) gathers)
