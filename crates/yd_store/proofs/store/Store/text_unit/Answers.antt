use Rattle.std.proofs.Common.{sym, subst}
use Rattle.yd_ids.specs.declared.id.Id.{Id}
use Rattle.std.proofs.Common.{Option}
use Rattle.yd_ops.specs.View.{run_value}
use Rattle.yd_store.specs.Halves.{HasText}
use Rattle.yd_store.proofs.HalvesLemmas.{no_text_above, no_text_gone, no_text_here, text_here, text_clock}
use Rattle.yd_store.proofs.store.Store.text_unit.Goals as goal

pub returns-in_default-clause-none : goal.returns-in_default-clause-none
returns-in_default-clause-none c = no_text_above c.args.self.now c.is_sound.ensures.arena c.is_sound.ensures.told c.args.id c.in_default.ensures.missing

pub returns-in_default-run_of-clause-none : goal.returns-in_default-run_of-clause-none
returns-in_default-run_of-clause-none c =
    no_text_gone c.args.self.now c.is_sound.ensures.arena c.is_sound.ensures.told c.in-Some.found.place c.in-Some.found.before c.args.id c.in-Some.ensures.found (sym c.in_default-run_of.ensures)

pub returns-in_default-text_at-clause-none : goal.returns-in_default-text_at-clause-none
returns-in_default-text_at-clause-none c =
    no_text_here c.args.self.now c.is_sound.ensures.arena c.is_sound.ensures.told c.in-Some.found.place c.in-Some.found.before c.args.id c.in-Some.ensures.found
    (run_value c.in-Some-run_of.run'.now) (sym c.in-Some-run_of.ensures) (sym c.in_default-text_at.ensures)

pub left_at-requires : goal.left_at-requires
left_at-requires c =
    text_clock c.args.self.now c.is_sound.ensures.arena c.is_sound.ensures.told c.in-Some.found.place c.in-Some.found.before c.args.id c.in-Some.ensures.found
    (run_value c.in-Some-run_of.run'.now) (sym c.in-Some-run_of.ensures)

pub returns-clause-found : goal.returns-clause-found
returns-clause-found c =
    subst (λ (left : Option Id). HasText c.args.self.now c.args.id (record { unit = c.in-Some-text_at.unit; left = left })) (sym c.left_at.ensures)
    (text_here c.args.self.now c.is_sound.ensures.arena c.is_sound.ensures.told c.in-Some.found.place c.in-Some.found.before c.args.id c.in-Some.ensures.found
    (run_value c.in-Some-run_of.run'.now) (sym c.in-Some-run_of.ensures) c.in-Some-text_at.unit (sym c.in-Some-text_at.ensures))
