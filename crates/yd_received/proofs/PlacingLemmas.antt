-- An entry at another place has the same operations, and so have entries that all wait.
use Rattle.std.proofs.Common.{◌≡◌, ℕ, zero, suc, Bool, true, false, List, [], ◌∷◌, ◌++◌, Some, map, set, refl, sym, ap, ◌∙◌, subst}
use Rattle.std.specs.Prelude.{filter, slice_get}
use Rattle.yd_words.specs.Each.{Each}
use Rattle.yd_words.proofs.EachLemmas.{each_set}
use Rattle.yd_words.proofs.MemberLemmas.{each_in}
use Rattle.yd_words.proofs.OptionLemmas.{some_is}
use Rattle.yd_ops.specs.declared.runs.Run.{Run}
use Rattle.yd_ops.specs.ReceivedLaw.{ArePaired}
use Rattle.yd_entries.specs.declared.entry.Entry.{Entry}
use Rattle.yd_entries.specs.declared.place.Place.{Place}
use Rattle.yd_entries.specs.declared.place.Place.TheVariants.{Waits}
use Rattle.yd_entries.specs.Entries.{operations_told, operations_of_taken, operations_in, TellsRight, IsTakenOf, StandsBefore, AreInOrder, AreTaken, is_held}
use Rattle.yd_entries.proofs.ChangeLemmas.{entry_got}
use Rattle.yd_received.specs.Received.{with_place}

-- ---- another place for an entry

module _ (t : Entry) (p : Place) where
  taken_with_place : (runs : List Run) → IsTakenOf runs t → IsTakenOf runs (with_place t p)
  taken_with_place runs k = record {
    run_there = k.run_there;
    client = k.client;
    has_units = k.has_units;
    id = k.id;
    end = k.end;
    left = k.left;
    right = k.right;
    told = told t.is_gone k.told;
  }
    where
      told : (gone : Bool) → TellsRight gone runs t → TellsRight gone runs (with_place t p)
      told true k = record { left = k.left; right = k.right }
      told false k = record { within = k.within; fits = k.fits; list = k.list; content = k.content; begins_whole = k.begins_whole; ends_whole = k.ends_whole }

  pub operations-placed : (runs : List Run) → operations_of_taken runs (with_place t p) ≡ operations_of_taken runs t
  operations-placed runs = go t.is_gone
    where
      go : (gone : Bool) → operations_told gone runs (with_place t p) ≡ operations_told gone runs t
      go true = refl
      go false = refl

  pub each_taken-place : (runs : List Run) (ts : List Entry) (at : ℕ) → slice_get ts at ≡ Some t → Each (IsTakenOf runs) ts →
      Each (IsTakenOf runs) (set ts at (with_place t p))
  each_taken-place runs ts at e each = each_set (IsTakenOf runs) ts at (with_place t p) each
      (taken_with_place runs (each_in (IsTakenOf runs) ts each t (entry_got ts at t e)))

  pub order-place : (ts : List Entry) (at : ℕ) → slice_get ts at ≡ Some t → AreInOrder ts → AreInOrder (set ts at (with_place t p))
  order-place [] at e order = tt
  order-place (s ∷ ss) zero e order = (subst (λ r. Each (StandsBefore r) ss) (some_is s t e) order.0, order.1)
  order-place (s ∷ ss) (suc at) e order = (
    each_set (StandsBefore s) ss at (with_place t p) order.0 (each_in (StandsBefore s) ss order.0 t (entry_got ss at t e)),
    order-place ss at e order.1,
  )

  pub operations-place : (runs : List Run) (ts : List Entry) (at : ℕ) → slice_get ts at ≡ Some t →
      operations_in runs (set ts at (with_place t p)) ≡ operations_in runs ts
  operations-place runs [] at e = refl
  operations-place runs (s ∷ ss) zero e = ap (λ os. os ++ operations_in runs ss) (operations-placed runs ∙ ap (λ r. operations_of_taken runs r) (sym (some_is s t e)))
  operations-place runs (s ∷ ss) (suc at) e = ap (λ os. operations_of_taken runs s ++ os) (operations-place runs ss at e)

  pub are_taken-place : (runs : List Run) (ts : List Entry) (at : ℕ) → slice_get ts at ≡ Some t → AreTaken runs ts → AreTaken runs (set ts at (with_place t p))
  are_taken-place runs ts at e are = record {
    each = each_taken-place runs ts at e are.each;
    in_order = order-place ts at e are.in_order;
    paired = subst ArePaired (sym (operations-place runs ts at e)) are.paired;
  }

-- ---- all of them

-- entries that all wait are as they were, but for that
pub operations-wait : (runs : List Run) (ts : List Entry) → operations_in runs (map (λ (t : Entry). with_place t Waits) ts) ≡ operations_in runs ts
operations-wait runs [] = refl
operations-wait runs (t ∷ ts) = ap (λ os. os ++ operations_in runs (map (λ (t : Entry). with_place t Waits) ts)) (operations-placed t Waits runs)
    ∙ ap (λ os. operations_of_taken runs t ++ os) (operations-wait runs ts)

wait_each : (runs : List Run) (ts : List Entry) → Each (IsTakenOf runs) ts → Each (IsTakenOf runs) (map (λ (t : Entry). with_place t Waits) ts)
wait_each runs [] each = tt
wait_each runs (t ∷ ts) each = (taken_with_place t Waits runs each.0, wait_each runs ts each.1)

wait_before : (s : Entry) (ts : List Entry) → Each (StandsBefore s) ts → Each (StandsBefore (with_place s Waits)) (map (λ (t : Entry). with_place t Waits) ts)
wait_before s [] each = tt
wait_before s (t ∷ ts) each = (each.0, wait_before s ts each.1)

wait_order : (ts : List Entry) → AreInOrder ts → AreInOrder (map (λ (t : Entry). with_place t Waits) ts)
wait_order [] order = tt
wait_order (t ∷ ts) order = (wait_before t ts order.0, wait_order ts order.1)

pub are_taken-wait : (runs : List Run) (ts : List Entry) → AreTaken runs ts → AreTaken runs (map (λ (t : Entry). with_place t Waits) ts)
are_taken-wait runs ts are = record {
  each = wait_each runs ts are.each;
  in_order = wait_order ts are.in_order;
  paired = subst ArePaired (sym (operations-wait runs ts)) are.paired;
}

-- none of them is held
pub none_held-wait : (ts : List Entry) → filter is_held (map (λ (t : Entry). with_place t Waits) ts) ≡ []
none_held-wait [] = refl
none_held-wait (t ∷ ts) = none_held-wait ts
