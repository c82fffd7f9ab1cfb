use Rattle.std.proofs.Common.{sym, ◌∙◌, refl, subst}
use Rattle.yd_meaning.specs.Order.{list_or_root}
use Rattle.yd_entries.specs.Entries.{carried_of}
use Rattle.yd_held.specs.Numbering.{NumbersName}
use Rattle.yd_held.proofs.StandLemmas.{stand_tells, carries}
use Rattle.yd_held.proofs.placing.place_for.Goals as goal

pub returns-in-Lost-clause-place : goal.returns-in-Lost-clause-place
returns-in-Lost-clause-place c = (stand_tells c.args.received.now c.args.entry _ (sym c.in-Lost.is ∙ c.stand_for.ensures), refl)

pub returns-in-In-clause-place : goal.returns-in-In-clause-place
returns-in-In-clause-place c =
    let tells = stand_tells c.args.received.now c.args.entry _ (sym c.in-In.is ∙ c.stand_for.ensures) in
    (tells.0, tells.1 _ c.args.names.now)

pub number_carried-requires-clause-told : goal.number_carried-requires-clause-told
number_carried-requires-clause-told c = (stand_tells c.args.received.now c.args.entry _ (sym c.in-Absent.is ∙ c.stand_for.ensures)).1

pub number_carried-requires-clause-left : goal.number_carried-requires-clause-left
number_carried-requires-clause-left c = (stand_tells c.args.received.now c.args.entry _ (sym c.in-Absent.is ∙ c.stand_for.ensures)).2

pub number_carried-requires-clause-right : goal.number_carried-requires-clause-right
number_carried-requires-clause-right c = (stand_tells c.args.received.now c.args.entry _ (sym c.in-Absent.is ∙ c.stand_for.ensures)).3

pub number_carried-requires-clause-entry : goal.number_carried-requires-clause-entry
number_carried-requires-clause-entry c = rw c.runs.ensures c.requires.entry

pub returns-in_ok-number-in-Absent-clause-place : goal.returns-in_ok-number-in-Absent-clause-place
returns-in_ok-number-in-Absent-clause-place c =
    carries c.args.received.now c.args.entry c.args.names.now c.number_carried.new.names c.in_ok-number-in-Absent.number
    (stand_tells c.args.received.now c.args.entry _ (sym c.in-Absent.is ∙ c.stand_for.ensures))
    (subst (λ runs. NumbersName (list_or_root (carried_of runs c.args.entry)) c.args.names.now c.number_carried.new.names c.in_ok-number-in-Absent.number) c.runs.ensures
    c.in_ok-number-in-Absent.ensures.number)
