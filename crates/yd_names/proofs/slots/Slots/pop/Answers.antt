use Rattle.std.proofs.Common.{◌≡◌, ◌∙◌, ◌++◌, ◌∷◌, [], ap, subst}
use Rattle.std.specs.Option.{option_to_list}
use Rattle.yd_names.specs.Slots.{AreSlots}
use Rattle.yd_names.proofs.SlotsLemmas.{popped_slots}
use Rattle.yd_names.proofs.slots.Slots.pop.Goals as goal

pub returns-in-Some-clause-popped : goal.returns-in-Some-clause-popped
returns-in-Some-clause-popped c = λ slots s.
    popped_slots slots c.args.self.now.heads.items c.pop.new.self.items c.args.slot c.in-Some.number
    (subst (λ bs. AreSlots (slots ++ c.args.slot ∷ []) c.args.self.now.heads.items bs) places s) c.requires
  where
    places : c.args.self.now.before.items ≡ c.pop.new.self.items ++ c.in-Some.number ∷ []
    places = c.pop.ensures.items ∙ ap (λ o. c.pop.new.self.items ++ option_to_list o) c.in-Some.is
