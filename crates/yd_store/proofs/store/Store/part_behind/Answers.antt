use Rattle.std.proofs.Common.{◌+◌, ◌∙◌, arith}
use Rattle.yd_store.proofs.IntegratingLemmas.{border_end, border_found, unit_stays}
use Rattle.yd_store.proofs.store.Store.part_behind.Goals as goal

pub returns-then-before-len_at-clause-border : goal.returns-then-before-len_at-clause-border
returns-then-before-len_at-clause-border c =
    border_end c.args.self.now c.args.id c.in-Some.found.place c.in-Some.found.before c.is_sound.ensures.arena c.in-Some.ensures.found (c.if-before-len_at.true ∙ c.len_at.ensures)

pub returns-clause-place : goal.returns-clause-place
returns-clause-place c = (
  c.in-Some.found.before,
  unit_stays c.args.self.now.placed c.split_found.new.self.placed c.in-Some.found.place (c.in-Some.found.before + 1) c.in-Some.found.before c.args.id c.in_ok-split_found.ensures.cut c.in-Some.ensures.found (omega arith),
)

pub returns-clause-border : goal.returns-clause-border
returns-clause-border c =
    border_found c.split_found.new.self (record { client = c.args.id.client; clock = c.args.id.clock + 1 }) c.in_ok-split_found.field-0 c.is_sound-2.ensures.arena c.in_ok-split_found.ensures.begins
