use Rattle.std.proofs.Common.{◌∙◌, sym, true≢false}
use Rattle.yd_store.proofs.store.Store.high_half.Goals.{else-is_next-via-then-is_next+then-is_high+else-is_low, else-is_next-via-then-is_next+else-is_high, else-is_next-via-else-is_next}
use Rattle.yd_store.proofs.HalvesLemmas.{no_low, no_left, no_high, are_pair}
use Rattle.yd_store.proofs.store.Store.high_half.Goals as goal

pub returns-in_default-clause-none : goal.returns-in_default-clause-none
returns-in_default-clause-none c = no_low c.args.self.now c.is_sound.ensures.arena c.is_sound.ensures.told c.args.low c.in_default.ensures.none

pub returns-in_default-left-clause-none : goal.returns-in_default-left-clause-none
returns-in_default-left-clause-none c =
    no_left c.args.self.now c.is_sound.ensures.arena c.is_sound.ensures.told c.args.low c.in-Some.second c.in-Some.ensures.found c.in_default-left.is

pub returns-in_default-text_unit-clause-none : goal.returns-in_default-text_unit-clause-none
returns-in_default-text_unit-clause-none c =
    no_high c.args.self.now c.is_sound.ensures.arena c.is_sound.ensures.told c.args.low c.in-Some.second c.in-Some.ensures.found c.in-Some-left.high c.in-Some-left.is c.in_default-text_unit.ensures.none

pub returns-else-is_next-clause-none : goal.returns-else-is_next-clause-none
returns-else-is_next-clause-none c = λ high p.
    let r = are_pair c.args.self.now c.is_sound.ensures.arena c.is_sound.ensures.told c.args.low c.in-Some.second c.in-Some.ensures.found c.in-Some-left.high c.in-Some-left.is c.in-Some-text_unit.first c.in-Some-text_unit.ensures.found high p in
    elim c.else-is_next.branch [
      | else-is_next-via-then-is_next+then-is_high+else-is_low w ↦ true≢false (sym (w.is_low.ensures.1 r.2) ∙ w.if-is_low.false)
      | else-is_next-via-then-is_next+else-is_high w ↦ true≢false (sym (w.is_high.ensures.1 r.1) ∙ w.if-is_high.false)
      | else-is_next-via-else-is_next w ↦ true≢false (sym (c.is_next.ensures.1 r.0) ∙ w.if-is_next.false)
    ]
