use Rattle.std.proofs.Common.{◌≡◌, subst, sym}
use Rattle.yd_held.specs.Held.{HeldValue}
use Rattle.yd_kept.specs.Kept.{KeptValue, KeepsHeld}
use Rattle.yd_kept.specs.Telling.{IsSoundStore}
use Rattle.yd_state.specs.Grown.{IsWhole}
use Rattle.yd_state.specs.declared.sets.Sets.{Sets}
use Rattle.yd_state.proofs.PlacingLawLemmas.{held_lists}
use Rattle.yd_state.proofs.TakeLemmas.{grown_of, still_sound}
use Rattle.yd_state.proofs.state.State.reserve.Goals as goal

-- a state stays whole where its store has room for more
still_whole : (held now : HeldValue) (kept it : KeptValue) (sets : Sets) → IsWhole (grown_of held kept sets) → now ≡ held → KeepsHeld kept it → IsSoundStore it.store → IsWhole (grown_of now it sets)
still_whole held now kept it sets whole same keeps store =
    subst (λ h. IsWhole (grown_of h it sets)) (sym same) (still_sound (grown_of held kept sets) whole it (held_lists kept it keeps) store)

pub invariant_of-self : goal.invariant_of-self
invariant_of-self c = subst (λ h. IsWhole (grown_of h c.self.inside.kept c.self.inside.sets)) (sym c.reserve.ensures) c.self.invariant

pub invariant_of-self-in_err-reserved : goal.invariant_of-self-in_err-reserved
invariant_of-self-in_err-reserved c =
    still_whole c.self.inside.held _ c.self.inside.kept c.reserve_places-reserved.new.self c.self.inside.sets
    c.self.invariant c.reserve.ensures c.reserve_places-reserved.ensures.kept (record { lists = c.store.ensures.lists; told = c.store.ensures.told })

pub invariant_of-self-2 : goal.invariant_of-self-2
invariant_of-self-2 c =
    still_whole c.self.inside.held _ c.self.inside.kept c.reserve_places-reserved.new.self c.self.inside.sets
    c.self.invariant c.reserve.ensures c.reserve_places-reserved.ensures.kept (record { lists = c.store.ensures.lists; told = c.store.ensures.told })
