-- Which list a unit is in: that of its entry, by its number; and where no entry of a list has the id, it is in none.
use Rattle.std.proofs.Common.{◌≡◌, ◌≢◌, ◌<◌, ◌^◌, ℕ, true, false, List, Some, None, inl, inr, refl, sym, ap, ◌∙◌, subst, true≢false}
use Rattle.std.specs.Prelude.{slice_get, IfSome}
use Rattle.std.proofs.lemmas.Bool.{cases_Bool}
use Rattle.yd_words.proofs.MemberLemmas.{each_in}
use Rattle.yd_ids.specs.declared.id.Id.{Id}
use Rattle.yd_ops.specs.Operation.{Operation}
use Rattle.yd_ops.specs.Received.{has_operation, IsWritten}
use Rattle.yd_meaning.specs.Held.{standing}
use Rattle.yd_meaning.specs.Order.{list_of}
use Rattle.yd_meaning.proofs.VectorLemmas.{held_below}
use Rattle.yd_entries.specs.declared.entry.Entry.{Entry}
use Rattle.yd_entries.specs.declared.place.Place.{Place}
use Rattle.yd_entries.specs.declared.place.Place.TheVariants.{Waits, Lost, In}
use Rattle.yd_entries.specs.Entries.{is_held, is_listed, is_listed_at}
use Rattle.yd_received.specs.Received.{taken_of, listed_of}
use Rattle.yd_entries.specs.Taking.{is_covered}
use Rattle.yd_entries.proofs.TakenLemmas.{in_written}
use Rattle.yd_held.specs.Numbered.{list_at_place}
use Rattle.yd_held.proofs.HeldUnitLemmas.{covers_less}
use Rattle.yd_held.proofs.HeldEntryLemmas.{is_taken, id_chosen, chosen_id, chosen_covered, covers_chosen}
use Rattle.yd_held.proofs.KeptLemmas.{holds_holding}
use Rattle.yd_held.proofs.ListedLemmas.{units_list}
use Rattle.yd_state.specs.State.{StateValue, received_in, IsSound}
use Rattle.yd_making.specs.Standing.{stands_in, list_where, IsPlaceOf, IsReached}

-- what is in a list is held
listed_held : (p : Place) → is_listed_at p ≡ true → (t : Entry) → t.place ≡ p → is_held t ≡ true
listed_held Waits e t f = absurd (true≢false (sym e))
listed_held Lost e t f = absurd (true≢false (sym e))
listed_held (In n) e t f = rw f refl

module _ (s : StateValue) (sound : IsSound s) (x : Id) where
  abbrev listed : List Operation
  listed = listed_of s.held.received

  -- what is in lists is what stands
  listed_stands : listed ≡ stands_in (received_in s)
  listed_stands = sound.holds.stands ∙ ap standing sound.holds.held

  written : IsWritten (taken_of s.held.received)
  written = in_written s.held.received.runs s.held.received.entries sound.holds.in_order.each sound.holds.in_order.in_order

  -- an id that is reached is that of an entry
  pub reached_covered : IsReached (received_in s) x → is_covered s.held.received.entries x ≡ true
  reached_covered is = chosen_covered is_held s.held.received sound.holds.in_order x
      (subst (λ os. has_operation os x ≡ true) (sym sound.holds.held) ((held_below (taken_of s.held.received) written x.client x.clock).1 is.1))

  none_of : has_operation listed x ≡ false → list_where (stands_in (received_in s)) x ≡ None
  none_of e = rw (sym (ap (λ os. has_operation os x) listed_stands) ∙ e) refl

  has_list : has_operation listed x ≡ true → list_where (stands_in (received_in s)) x ≡ Some (list_of listed x)
  has_list e = subst (λ os. list_where os x ≡ Some (list_of listed x)) listed_stands (rw e refl)

  -- an id that is not reached is in no list
  pub unreached_none : (IsReached (received_in s) x → ⊥) → list_where (stands_in (received_in s)) x ≡ None
  unreached_none not_reached = elim (cases_Bool (has_operation listed x)) [
    | inl has ↦
        let (t, i, passes, c) = id_chosen is_listed s.held.received sound.holds.in_order x has in
        let held = chosen_id is_held s.held.received sound.holds.in_order t x i (listed_held t.place passes t refl) c in
        let client = subst (λ n. n < 2 ^ 53) (covers_less t x c).0 (is_taken s.held.received sound.holds.in_order t i).id.client in
        absurd (not_reached (client, (held_below (taken_of s.held.received) written x.client x.clock).0 (subst (λ os. has_operation os x ≡ true) sound.holds.held held)))
    | inr none ↦ none_of none
  ]

  -- nor is the id of an entry that is in none
  pub unlisted_none : (p : Place) → IsPlaceOf s.held.received x p → is_listed_at p ≡ false → list_where (stands_in (received_in s)) x ≡ None
  unlisted_none p at fails = elim (cases_Bool (has_operation listed x)) [
    | inl has ↦ let (t, i, c, e) = at in
        absurd (true≢false (sym (covers_chosen is_listed s.held.received sound.holds.in_order t x i c has) ∙ ap is_listed_at e ∙ fails))
    | inr none ↦ none_of none
  ]

  -- the id of an entry in the list with a number is in the list of that number's name
  pub numbered_list : (n : ℕ) → IsPlaceOf s.held.received x (In n) → list_where (stands_in (received_in s)) x ≡ slice_get s.held.names n
  numbered_list n at =
      let (t, i, c, e) = at in
      let number : list_at_place t.place ≡ Some n = ap list_at_place e in
      let is : is_listed t ≡ true = ap is_listed_at e in
      let named = subst (λ z. IfSome z (λ m. slice_get s.held.names m ≡ Some (list_of listed t.id))) number
      (each_in (λ (t : Entry). IfSome (list_at_place t.place) (λ n. slice_get s.held.names n ≡ Some (list_of listed t.id))) s.held.received.entries sound.holds.numbered.named t i) in
      let same : list_of listed x ≡ list_of listed t.id = units_list s.held (holds_holding s.held sound.holds) t i is x c in
      has_list (chosen_id is_listed s.held.received sound.holds.in_order t x i is c) ∙ ap Some same ∙ sym named

-- a place that is in no list
pub not_in : (p : Place) → ((n : ℕ) → p ≢ In n) → is_listed_at p ≡ false
not_in Waits none = refl
not_in Lost none = refl
not_in (In n) none = absurd (none n refl)
