-- One entry more is held: it has the place that its origins give, and the places of all others stay right.
use Rattle.std.proofs.Common.{◌≡◌, ◌≢◌, ℕ, zero, suc, ◌+◌, ◌<◌, Bool, true, false, List, [], ◌∷◌, ◌++◌, ◌⊎◌, inl, inr, Option, Some, None, length, refl, sym, ap, ap₂, ◌∙◌, subst}
use Rattle.std.specs.Prelude.{slice_get, is_some, not, ◌&&◌}
use Rattle.std.proofs.lemmas.Option.{slice_get_within}
use Rattle.yd_words.specs.Member.{IsIn}
use Rattle.yd_words.proofs.MemberLemmas.{in_each}
use Rattle.yd_ids.specs.declared.id.Client.{Client}
use Rattle.yd_ids.specs.declared.id.Id.{Id}
use Rattle.yd_ids.specs.Vector.{RaisesOnly}
use Rattle.yd_ops.specs.declared.lists.List.{List as DocList}
use Rattle.yd_ops.specs.Valid.{CarriesList}
use Rattle.yd_ops.specs.Received.{has_operation}
use Rattle.yd_meaning.specs.Names.{item_of_list}
use Rattle.yd_meaning.specs.Held.{item_carried}
use Rattle.yd_meaning.specs.Order.{list_or_root, list_of}
use Rattle.yd_entries.specs.declared.entry.Entry.{Entry}
use Rattle.yd_entries.specs.declared.place.Place.{Place}
use Rattle.yd_entries.specs.declared.place.Place.TheVariants.{Waits, Lost, In}
use Rattle.yd_entries.specs.Entries.{carried_of, is_held_at, TellsRight}
use Rattle.yd_received.specs.Received.{ReceivedValue, held_of, listed_of, with_place}
use Rattle.yd_entries.proofs.ChangeLemmas.{set_is}
use Rattle.yd_held.specs.Held.{HeldValue}
use Rattle.yd_held.specs.Holding.{IsHolding}
use Rattle.yd_held.specs.Numbered.{number_of}
use Rattle.yd_held.specs.Numbering.{NumbersList, PlacesEntry}
use Rattle.yd_held.specs.Placed.{is_none_or_listed, can_stand, HasNumber, IsPlaced, ArePlaced}
use Rattle.yd_held.specs.Readiness.{IsOriginOf}
use Rattle.yd_held.proofs.HeldUnitLemmas.{carried_at_place}
use Rattle.yd_held.proofs.HoldingLemmas.{origins_held}
use Rattle.yd_held.proofs.HoldStepLemmas.{Setting, then_received, this_taken, origin_held, held_elsewhere, own_after, taken_after, tells_after}
use Rattle.yd_held.proofs.ListedLemmas.{numbered_id}
use Rattle.yd_held.proofs.NumberOfLemmas.{number_of-set}
use Rattle.yd_held.proofs.StandingLemmas.{can_is, number_listed, listed_id_held, placed_at}

-- ---- names with one more

module _ {X : Type 0} (x : X) where
  got_stays : (xs : List X) (m : ℕ) (y : X) → slice_get xs m ≡ Some y → slice_get (xs ++ x ∷ []) m ≡ Some y
  got_stays [] m y e = absurd cc
  got_stays (z ∷ zs) zero y e = e
  got_stays (z ∷ zs) (suc m) y e = got_stays zs m y e

  got_before : (xs : List X) (m : ℕ) (y : X) → slice_get (xs ++ x ∷ []) m ≡ Some y → (slice_get xs m ≡ Some y) ⊎ ((m ≡ length xs) × (y ≡ x))
  got_before [] zero y e = inr (refl, cc)
  got_before [] (suc m) y e = absurd cc
  got_before (z ∷ zs) zero y e = inl e
  got_before (z ∷ zs) (suc m) y e = elim (got_before zs m y e) [ inl f ↦ inl f | inr (f, g) ↦ inr (ap suc f, g) ]

abbrev AreOne : List DocList → Type 0
AreOne names = (m n : ℕ) (name : DocList) → slice_get names m ≡ Some name → slice_get names n ≡ Some name → m ≡ n

one_more : (names : List DocList) (name : DocList) → AreOne names → ((m : ℕ) → slice_get names m ≢ Some name) → AreOne (names ++ name ∷ [])
one_more names name one fresh m n other e f = elim (got_before name names m other e) [
  | inl g ↦ elim (got_before name names n other f) [
    | inl h ↦ one m n other g h
    | inr (h, same) ↦ absurd (fresh m (subst (λ z. slice_get names m ≡ Some z) same g))
  ]
  | inr (g, same) ↦ elim (got_before name names n other f) [
    | inl h ↦ absurd (fresh n (subst (λ z. slice_get names n ≡ Some z) same h))
    | inr (h, again) ↦ g ∙ sym h
  ]
]

-- ---- places that stay

none_alike : (ts us : List Entry) (z : Option Id) → ((x : Id) → z ≡ Some x → number_of us x ≡ number_of ts x) → is_none_or_listed us z ≡ is_none_or_listed ts z
none_alike ts us None f = refl
none_alike ts us (Some x) f = ap is_some (f x refl)

module _ (r q : ReceivedValue) (names more : List DocList) (t : Entry) (same : carried_of q.runs t ≡ carried_of r.runs t)
    (numbers : (x : Id) → IsOriginOf x t.left t.right (carried_of r.runs t) → number_of q.entries x ≡ number_of r.entries x)
    (stay : (n : ℕ) (name : DocList) → slice_get names n ≡ Some name → slice_get more n ≡ Some name) where
  can_alike : can_stand q t ≡ can_stand r t
  can_alike = ap (λ b. not t.is_gone && b)
      (ap₂ (λ (a b : Bool). a && b) (none_alike r.entries q.entries t.left (λ x e. numbers x (inl e)))
      (ap₂ (λ (a b : Bool). a && b) (none_alike r.entries q.entries t.right (λ x e. numbers x (inr (inl e))))
      (ap (λ list. is_none_or_listed q.entries (item_carried list)) same ∙ none_alike r.entries q.entries (item_carried (carried_of r.runs t)) (λ x e. numbers x (inr (inr e))))))

  number_alike : (n : ℕ) → HasNumber t.left t.right (list_or_root (carried_of r.runs t)) r.entries names n →
      HasNumber t.left t.right (list_or_root (carried_of q.runs t)) q.entries more n
  number_alike n number = go t.left t.right number (λ y e. numbers y (inl e)) (λ y e. numbers y (inr (inl e)))
    where
      go : (z w : Option Id) → HasNumber z w (list_or_root (carried_of r.runs t)) r.entries names n → ((y : Id) → z ≡ Some y → number_of q.entries y ≡ number_of r.entries y) →
          ((y : Id) → w ≡ Some y → number_of q.entries y ≡ number_of r.entries y) → HasNumber z w (list_or_root (carried_of q.runs t)) q.entries more n
      go (Some y) w number f g = f y refl ∙ number
      go None (Some y) number f g = g y refl ∙ number
      go None None number f g = stay n (list_or_root (carried_of q.runs t)) (number ∙ ap (λ list. Some (list_or_root list)) (sym same))

  -- a place stays right where what the units stand on keeps its numbers, and names stay
  pub placed_alike : (p : Place) → IsPlaced r names t p → IsPlaced q more t p
  placed_alike Waits is = tt
  placed_alike Lost is = can_alike ∙ is
  placed_alike (In n) is = (can_alike ∙ is.0, number_alike n is.1)

-- ---- one entry more

-- the names stay, or one more comes, of units that stand, have no origins and carry a new name
record AddsName (r : ReceivedValue) (t : Entry) (old new : List DocList) : Type 0 where
  stands : can_stand r t ≡ true
  left : t.left ≡ None
  right : t.right ≡ None
  added : new ≡ old ++ list_or_root (carried_of r.runs t) ∷ []
  fresh : (m : ℕ) → slice_get old m ≢ Some (list_or_root (carried_of r.runs t))

grows : (r : ReceivedValue) (old new : List DocList) (t : Entry) (p : Place) → PlacesEntry r old new t p → (new ≡ old) ⊎ AddsName r t old new
grows r old new t Waits known = absurd known
grows r old new t Lost known = inl known.1
grows r old new t (In n) known = go t.left t.right refl refl known.1
  where
    go : (z w : Option Id) → t.left ≡ z → t.right ≡ w → NumbersList z w (list_or_root (carried_of r.runs t)) r.entries old new n → (new ≡ old) ⊎ AddsName r t old new
    go (Some y) w e f j = inl j.1
    go None (Some y) e f j = inl j.1
    go None None e f j = elim j.grown [
      | inl same ↦ inl same
      | inr (added, fresh) ↦ inr (record { stands = known.0; left = e; right = f; added = added; fresh = fresh })
    ]

pub places_held : (r : ReceivedValue) (old new : List DocList) (t : Entry) (p : Place) → PlacesEntry r old new t p → is_held_at p ≡ true
places_held r old new t Waits known = absurd known
places_held r old new t Lost known = refl
places_held r old new t (In n) known = refl

-- a list without origins that carries its item
carried_item : (z : Option DocList) → CarriesList None None z → (y : Id) → item_of_list (list_or_root z) ≡ Some y → item_carried z ≡ Some y
carried_item None k y e = absurd k
carried_item (Some list) k y e = e

module _ (k : HeldValue) (at : ℕ) (t : Entry) (s : Setting k at t) (p : Place) (new : List DocList) (known : PlacesEntry k.received k.names new t p) where
  abbrev r : ReceivedValue
  r = k.received

  pub held : is_held_at p ≡ true
  held = places_held r k.names new t p known

  abbrev pub after : ReceivedValue
  after = then_received k at t s p held

  growth : (new ≡ k.names) ⊎ AddsName r t k.names new
  growth = grows r k.names new t p known

  name_stays : (m : ℕ) (other : DocList) → slice_get k.names m ≡ Some other → slice_get new m ≡ Some other
  name_stays m other e = elim growth [
    | inl f ↦ subst (λ l. slice_get l m ≡ Some other) (sym f) e
    | inr f ↦ subst (λ l. slice_get l m ≡ Some other) (sym f.added) (got_stays (list_or_root (carried_of r.runs t)) k.names m other e)
  ]

  -- held ids keep their numbers
  number_stays : (x : Id) → has_operation (held_of r) x ≡ true → number_of after.entries x ≡ number_of r.entries x
  number_stays x e = number_of-set t p r.entries at s.got x (held_elsewhere k at t s p held x e)

  origin_stays : (x : Id) → IsOriginOf x t.left t.right (carried_of r.runs t) → number_of after.entries x ≡ number_of r.entries x
  origin_stays x origin = number_stays x (origin_held k at t s p held x origin)

  this_placed : IsPlaced r new t p
  this_placed = go p known
    where
      number : (n : ℕ) (z w : Option Id) → NumbersList z w (list_or_root (carried_of r.runs t)) r.entries k.names new n →
          HasNumber z w (list_or_root (carried_of r.runs t)) r.entries new n
      number n (Some y) w j = j.0
      number n None (Some y) j = j.0
      number n None None j = j.there

      go : (p : Place) → PlacesEntry r k.names new t p → IsPlaced r new t p
      go Waits known = absurd known
      go Lost known = known.0
      go (In n) known = (known.0, number n t.left t.right known.1)

  placed_after : ArePlaced after new
  placed_after = in_each (λ u. IsPlaced after new u u.place) after.entries (λ u i. elim (set_is t (with_place t p) r.entries at u i) [
    | inl e ↦ subst (λ v. IsPlaced after new v v.place) (sym e) here
    | inr j ↦ old u j u.place refl (placed_at k s.holding u j)
  ])
    where
      here : IsPlaced after new (with_place t p) p
      here = placed_alike r after new new (with_place t p) refl
          (λ x origin. origin_stays x (subst (λ list. IsOriginOf x t.left t.right list) (carried_at_place r.runs t p) origin)) (λ n name e. e) p
          (placed_as p this_placed)
        where
          placed_as : (q : Place) → IsPlaced r new t q → IsPlaced r new (with_place t p) q
          placed_as Waits is = tt
          placed_as Lost is = rw (carried_at_place r.runs t p) is
          placed_as (In n) is = rw (carried_at_place r.runs t p) is

      old : (u : Entry) → IsIn u r.entries → (q : Place) → u.place ≡ q → IsPlaced r k.names u q → IsPlaced after new u q
      old u j Waits e is = tt
      old u j Lost e is = placed_alike r after k.names new u refl
          (λ x origin. number_stays x (origins_held k s.holding u j (ap is_held_at e) x origin)) name_stays Lost is
      old u j (In n) e is = placed_alike r after k.names new u refl
          (λ x origin. number_stays x (origins_held k s.holding u j (ap is_held_at e) x origin)) name_stays (In n) is

  distinct_after : AreOne new
  distinct_after = elim growth [
    | inl f ↦ subst AreOne (sym f) s.holding.distinct
    | inr f ↦ subst AreOne (sym f.added) (one_more k.names (list_or_root (carried_of r.runs t)) s.holding.distinct f.fresh)
  ]

  -- the item of a new list has a number, and a smaller one
  new_parent : AddsName r t k.names new → (y : Id) → item_of_list (list_or_root (carried_of r.runs t)) ≡ Some y →
      (j : ℕ) × (j < length k.names) × (number_of r.entries y ≡ Some j)
  new_parent added y e =
      let stands = can_is r t added.stands in
      let item = carried_item (carried_of r.runs t) (carries stands.told) y e in
      let (j, number, got) = numbered_id k s.holding y (number_listed k s.holding y (stands.origins y (inr (inr item)))) in
      (j, slice_get_within k.names j (list_of (listed_of r) y) got, number)
    where
      carries : t.is_gone ≡ false → CarriesList None None (carried_of r.runs t)
      carries e = subst (λ z. CarriesList None z (carried_of r.runs t)) added.right (subst (λ z. CarriesList z t.right (carried_of r.runs t)) added.left
          (rw e (subst (λ b. TellsRight b r.runs t) e (this_taken k at t s p held).told).list))

  parents_after : (m : ℕ) (other : DocList) (y : Id) → slice_get new m ≡ Some other → item_of_list other ≡ Some y →
      (j : ℕ) × (j < m) × (number_of after.entries y ≡ Some j)
  parents_after m other y e f = elim growth [
    | inl same ↦ old (subst (λ l. slice_get l m ≡ Some other) same e)
    | inr added ↦ elim (got_before (list_or_root (carried_of r.runs t)) k.names m other (subst (λ l. slice_get l m ≡ Some other) added.added e)) [
      | inl g ↦ old g
      | inr (last, is_name) ↦ let (j, less, number) = new_parent added y (sym (ap item_of_list is_name) ∙ f) in
          (j, subst (λ i. j < i) (sym last) less, stays y j number)
    ]
  ]
    where
      stays : (y : Id) (j : ℕ) → number_of r.entries y ≡ Some j → number_of after.entries y ≡ Some j
      stays y j number = number_stays y (listed_id_held k s.holding y (number_listed k s.holding y (ap is_some number))) ∙ number

      old : slice_get k.names m ≡ Some other → (j : ℕ) × (j < m) × (number_of after.entries y ≡ Some j)
      old g = let (j, less, number) = s.holding.parents m other y g f in (j, less, stays y j number)

  -- ---- lemmas for callers

  pub holding_after : (raised : List (Client × ℕ)) → RaisesOnly k.vector raised t.id.client.0 (t.id.clock + t.len) → (k_then : HeldValue) →
      k_then.received ≡ after → k_then.vector ≡ raised → k_then.names ≡ new → IsHolding k_then
  holding_after raised raises k_then e f g = record {
    in_order = rw e (taken_after k at t s p held);
    own = rw e (sym (own_after k at t s p held raised raises));
    tells = rw (e, f) (tells_after k at t s p held raised raises);
    placed = rw (e, g) placed_after;
    distinct = rw g distinct_after;
    parents = rw (e, g) parents_after;
  }
