use Rattle.std.proofs.Common.{◌∙◌, ◌+◌, Some, ◌++◌, ◌∷◌, [], set, sym, ap, subst, arith}
use Rattle.std.proofs.lemmas.Option.{slice_get-get_or}
use Rattle.yd_names.specs.Slots.{AreSlots}
use Rattle.yd_names.proofs.SlotsLemmas.{pushed_slots}
use Rattle.yd_names.proofs.slots.Slots.push.Goals as goal

pub returns-clause-pushed : goal.returns-clause-pushed
returns-clause-pushed c = λ slots s.
    subst (λ before. AreSlots (slots ++ c.args.slot ∷ []) (set c.args.self.now.heads.items c.args.slot (c.len-place.result + 1)) before) (sym c.in_ok-push.ensures.items)
    (pushed_slots slots c.args.self.now.heads.items c.args.self.now.before.items c.args.slot c.index.result.now (c.len-place.result + 1) s c.requires
    (ap (λ n. Some n) c.index.ensures ∙ sym (slice_get-get_or c.args.self.now.heads.items c.args.slot c.index.result.now c.requires)) (omega (arith, c.len-place.ensures)))
