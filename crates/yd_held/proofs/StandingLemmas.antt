-- What stands is what is in lists: where each place is as its origins ask, the held operations in lists are those that are not lost.
use Rattle.std.proofs.Common.{◌≡◌, ℕ, ◌⊎◌, Bool, true, false, cond, List, [], ◌∷◌, inl, inr, Option, Some, None, refl, sym, ap, ◌∙◌, subst, arith, true≢false}
use Rattle.std.specs.Prelude.{not, is_some, ◌&&◌}
use Rattle.yd_words.specs.Member.{IsIn}
use Rattle.yd_words.proofs.MemberLemmas.{each_in}
use Rattle.yd_words.proofs.TestLemmas.{both_hold, hold_both}
use Rattle.yd_ids.specs.declared.id.Id.{Id}
use Rattle.yd_ops.specs.declared.lists.List.{List as DocList}
use Rattle.yd_ops.specs.Operation.{Operation}
use Rattle.yd_ops.specs.Received.{has_operation}
use Rattle.yd_ops.proofs.OneOfLemmas.{ids_stay}
use Rattle.yd_meaning.specs.Held.{item_carried, sources, is_gone, standing}
use Rattle.yd_meaning.proofs.NeedLemmas.{left_source, right_source, item_source}
use Rattle.yd_meaning.proofs.StandingLemmas.{standing_alone}
use Rattle.yd_entries.specs.declared.entry.Entry.{Entry}
use Rattle.yd_entries.specs.declared.place.Place.{Place}
use Rattle.yd_entries.specs.declared.place.Place.TheVariants.{Waits, Lost, In}
use Rattle.yd_entries.specs.Entries.{operations_of_taken, carried_of, covers, is_held, is_held_at, is_listed, is_listed_at}
use Rattle.yd_received.specs.Received.{ReceivedValue, held_of, listed_of}
use Rattle.yd_held.specs.Held.{HeldValue}
use Rattle.yd_held.specs.Holding.{IsHolding}
use Rattle.yd_held.specs.Numbered.{list_at_place, number_of}
use Rattle.yd_held.specs.Placed.{is_none_or_listed, can_stand, IsPlaced}
use Rattle.yd_held.specs.Readiness.{IsOriginOf}
use Rattle.yd_held.proofs.HeldUnitLemmas.{IsFirst, Follows, id_at, unit_cases, unit_gone, covers_later}
use Rattle.yd_held.proofs.HeldEntryLemmas.{is_taken, chosen_written, chosen_entry, entry_chosen, id_chosen, chosen_id, covers_chosen}
use Rattle.yd_held.proofs.HoldingLemmas.{unit_sources, is_written}
use Rattle.yd_held.proofs.NumberOfLemmas.{number_of-one}

-- ---- numbers

listed_at : (p : Place) → is_listed_at p ≡ is_some (list_at_place p)
listed_at Waits = refl
listed_at Lost = refl
listed_at (In n) = refl

-- an id with a number is of an entry in a list
number_entry : (ts : List Entry) (x : Id) → is_some (number_of ts x) ≡ true → (t : Entry) × IsIn t ts × (covers t x ≡ true) × (is_listed t ≡ true)
number_entry [] x e = absurd (true≢false (sym e))
number_entry (t ∷ ts) x e = go (covers t x) refl e (number_entry ts x)
  where
    go : (b : Bool) → covers t x ≡ b → is_some (cond b (list_at_place t.place) (number_of ts x)) ≡ true →
        (is_some (number_of ts x) ≡ true → (s : Entry) × IsIn s ts × (covers s x ≡ true) × (is_listed s ≡ true)) →
        (s : Entry) × IsIn s (t ∷ ts) × (covers s x ≡ true) × (is_listed s ≡ true)
    go true c e rest = (t, inl refl, c, listed_at t.place ∙ e)
    go false c e rest = let (s, i, d, l) = rest e in (s, inr i, d, l)

-- ---- where units can stand

-- units are told, and what they stand on is in lists
pub record IsStanding (r : ReceivedValue) (t : Entry) : Type 0 where
  pub told : t.is_gone ≡ false
  pub origins : (x : Id) → IsOriginOf x t.left t.right (carried_of r.runs t) → is_some (number_of r.entries x) ≡ true

some_listed : (ts : List Entry) (z : Option Id) → is_none_or_listed ts z ≡ true → (x : Id) → z ≡ Some x → is_some (number_of ts x) ≡ true
some_listed ts z e x f = subst (λ w. is_none_or_listed ts w ≡ true) f e

listed_some : (ts : List Entry) (z : Option Id) → ((x : Id) → z ≡ Some x → is_some (number_of ts x) ≡ true) → is_none_or_listed ts z ≡ true
listed_some ts None f = refl
listed_some ts (Some x) f = f x refl

pub can_is : (r : ReceivedValue) (t : Entry) → can_stand r t ≡ true → IsStanding r t
can_is r t e =
    let (told, a) = both_hold (not t.is_gone) (is_none_or_listed r.entries t.left
    && (is_none_or_listed r.entries t.right && is_none_or_listed r.entries (item_carried (carried_of r.runs t)))) e in
    let (left, b) = both_hold (is_none_or_listed r.entries t.left) (is_none_or_listed r.entries t.right && is_none_or_listed r.entries (item_carried (carried_of r.runs t))) a in
    let (right, item) = both_hold (is_none_or_listed r.entries t.right) (is_none_or_listed r.entries (item_carried (carried_of r.runs t))) b in
    record {
      told = not_true t.is_gone told;
      origins = λ x o. elim o [
        | inl f ↦ some_listed r.entries t.left left x f
        | inr (inl f) ↦ some_listed r.entries t.right right x f
        | inr (inr f) ↦ some_listed r.entries (item_carried (carried_of r.runs t)) item x f
      ];
    }
  where
    not_true : (b : Bool) → not b ≡ true → b ≡ false
    not_true true e = sym e
    not_true false e = refl

pub is_can : (r : ReceivedValue) (t : Entry) → IsStanding r t → can_stand r t ≡ true
is_can r t is = hold_both _ _ (ap not is.told)
    (hold_both _ _ (listed_some r.entries t.left (λ x e. is.origins x (inl e)))
    (hold_both _ _ (listed_some r.entries t.right (λ x e. is.origins x (inr (inl e))))
    (listed_some r.entries (item_carried (carried_of r.runs t)) (λ x e. is.origins x (inr (inr e))))))

-- of held units the place tells whether they can stand
placed_stands : (r : ReceivedValue) (names : List DocList) (t : Entry) (p : Place) → IsPlaced r names t p → is_listed_at p ≡ true → can_stand r t ≡ true
placed_stands r names t Waits is e = absurd (true≢false (sym e))
placed_stands r names t Lost is e = absurd (true≢false (sym e))
placed_stands r names t (In n) is e = is.0

stands_placed : (r : ReceivedValue) (names : List DocList) (t : Entry) (p : Place) → IsPlaced r names t p → is_held_at p ≡ true → can_stand r t ≡ true → is_listed_at p ≡ true
stands_placed r names t Waits is e f = absurd (true≢false (sym e))
stands_placed r names t Lost is e f = absurd (true≢false (sym f ∙ is))
stands_placed r names t (In n) is e f = refl

pub listed_held : (p : Place) → is_listed_at p ≡ true → is_held_at p ≡ true
listed_held Waits e = absurd (true≢false (sym e))
listed_held Lost e = absurd (true≢false (sym e))
listed_held (In n) e = refl

-- ---- lemmas for callers

module _ (k : HeldValue) (h : IsHolding k) where
  abbrev r : ReceivedValue
  r = k.received

  abbrev listed : List Operation
  listed = listed_of r

  pub listed_number : (x : Id) → has_operation listed x ≡ true → is_some (number_of r.entries x) ≡ true
  listed_number x e = let (t, i, l, c) = id_chosen is_listed r h.in_order x e in
      ap is_some (number_of-one r.entries h.in_order.in_order t x i c) ∙ sym (listed_at t.place) ∙ l

  pub number_listed : (x : Id) → is_some (number_of r.entries x) ≡ true → has_operation listed x ≡ true
  number_listed x e = let (t, i, c, l) = number_entry r.entries x e in chosen_id is_listed r h.in_order t x i l c

  -- what is in a list is held
  pub listed_is_held : (o : Operation) → IsIn o listed → IsIn o (held_of r)
  listed_is_held o i = let (t, j, l, m) = chosen_entry is_listed r h.in_order o i in entry_chosen is_held r h.in_order t j (listed_held t.place l) o m

  pub listed_id_held : (x : Id) → has_operation listed x ≡ true → has_operation (held_of r) x ≡ true
  listed_id_held x e = ids_stay listed (held_of r) x listed_is_held e

  pub placed_at : (t : Entry) → IsIn t r.entries → IsPlaced r k.names t t.place
  placed_at = each_in (λ t. IsPlaced r k.names t t.place) r.entries h.placed

  -- what is in a list is told, and so is what it stands on
  pub listed_sound : (o : Operation) → IsIn o listed → (is_gone o ≡ false) × ((x : Id) → IsIn x (sources o) → has_operation listed x ≡ true)
  listed_sound o i =
      let (t, j, l, m) = chosen_entry is_listed r h.in_order o i in
      let stands = can_is r t (placed_stands r k.names t t.place (placed_at t j) l) in (
        unit_gone r.runs t (is_taken r h.in_order t j) o m ∙ stands.told,
        (λ x s. elim (unit_sources r.runs t (is_taken r h.in_order t j) o m x s) [
          | inl (n, later, is) ↦ subst (λ y. has_operation listed y ≡ true) (sym is)
              (chosen_id is_listed r h.in_order t (id_at t.id.client n) j l (covers_later r.runs t (is_taken r h.in_order t j) n later.above (omega (arith, later.below))))
          | inr origin ↦ number_listed x (stands.origins x origin)
        ]),
      )

  -- what is held and told is in a list, where what it stands on is
  pub listed_whole : (o : Operation) → IsIn o (held_of r) → is_gone o ≡ false → ((x : Id) → IsIn x (sources o) → has_operation listed x ≡ true) → IsIn o listed
  listed_whole o i told there =
      let (t, j, held, m) = chosen_entry is_held r h.in_order o i in
      entry_chosen is_listed r h.in_order t j (go t j held m (unit_cases r.runs t (is_taken r h.in_order t j) o m)) o m
    where
      go : (t : Entry) → IsIn t r.entries → is_held t ≡ true → IsIn o (operations_of_taken r.runs t) → IsFirst r.runs t o ⊎ ((n : ℕ) × Follows t o n) → is_listed t ≡ true
      go t j held m (inl first) = stands_placed r k.names t t.place (placed_at t j) held (is_can r t (record {
        told = sym (unit_gone r.runs t (is_taken r h.in_order t j) o m) ∙ told;
        origins = λ x origin. listed_number x (there x (elim origin [
          | inl e ↦ left_source o x (first.has_left ∙ e)
          | inr (inl e) ↦ right_source o x (first.has_right ∙ e)
          | inr (inr e) ↦ item_source o x (ap item_carried first.has_list ∙ e)
        ]));
      }))
      go t j held m (inr (n, later)) = elim later.has_left [
        | inl left ↦ covers_chosen is_listed r h.in_order t (id_at t.id.client n) j
            (covers_later r.runs t (is_taken r h.in_order t j) n later.above (omega (arith, later.below)))
            (there (id_at t.id.client n) (left_source o (id_at t.id.client n) left))
        | inr gone ↦ absurd (true≢false (sym (unit_gone r.runs t (is_taken r h.in_order t j) o m ∙ gone.0) ∙ told))
      ]

  -- what is in lists is what is not lost
  pub stands_all : listed ≡ standing (held_of r)
  stands_all = subst (λ hs. listed ≡ standing hs) (sym h.own) (standing_alone (held_of r) (is_written k h) listed (chosen_written is_listed r h.in_order)
      (λ o i. subst (λ hs. IsIn o hs) h.own (listed_is_held o i))
      (λ o i. (listed_sound o, (λ b. listed_whole o (subst (λ hs. IsIn o hs) (sym h.own) i) b.0 b.1))))
