-- What breaks agreement is what its test says.
use Rattle.std.specs.Bool.{beq}
use Rattle.std.specs.Prelude.{Decides, nat_eq, nat_lt}
use Rattle.std.proofs.Common.{◌≡◌, ◌↔◌, ℕ, ◌<◌, Bool, true, false, ◌&&◌, ◌||◌, not, List, [], ◌∷◌, ◌⊎◌, Option, Some, None, inl, inr, refl, sym, ap, subst, arith, tests, true≢false}
use Rattle.std.proofs.lemmas.Bool.Decides.{Decides-and, Decides-or, Decides-not, Decides-like}
use Rattle.yd_words.specs.Member.{IsIn}
use Rattle.yd_ids.specs.Ids.{is_same, is_same_neighbour}
use Rattle.yd_ids.specs.declared.id.Id.{Id}
use Rattle.yd_ops.specs.Operation.{Operation, level_of, operations_of}
use Rattle.yd_ops.specs.Value.{UpdateValue}
use Rattle.yd_ops.specs.declared.lists.List.{List as DocList}
use Rattle.yd_ops.proofs.JoinLemmas.{neighbour_itself, neighbours-same}
use Rattle.yd_ops.specs.Agreement.{operations_of_all}
use Rattle.yd_ops.specs.Deletes.{SpellLess}
use Rattle.yd_ops.specs.Pairs.{are_partners}
use Rattle.yd_ops.proofs.PartnerLemmas.{same_decides}
use Rattle.yd_meaning.specs.ListNames.{same_list_decides}
use Rattle.yd_meaning.specs.Names.{same_carried}
use Rattle.yd_grouping.specs.Disagreement.{AreElsewhere, BreaksAgreement, HoldOther, IsHalfCollected, IsUnlike, are_unlike, breaks_agreement, is_half_collected, is_unlike, some_passes, spells_less}
use Rattle.yd_grouping.specs.Sameness.{same_content}
use Rattle.yd_grouping.proofs.SamenessLemmas.{content_decides, number_decides}

-- ---- tests on what operations have

never_true : {P : Type 0} → false ≡ true → P
never_true e = absurd (true≢false (sym e))

less_decides : (m n : ℕ) → Decides (nat_lt m n) (m < n)
less_decides m n = ((λ e. grind (arith, tests)), (λ e. grind (arith, tests)))

neighbours_decide : (z w : Option Id) → Decides (is_same_neighbour z w) (z ≡ w)
neighbours_decide z w = (neighbours-same z w, λ e. subst (λ y. is_same_neighbour z y ≡ true) e (neighbour_itself z))

carried_decides : (z w : Option DocList) → Decides (same_carried z w) (z ≡ w)
carried_decides None None = ((λ e. refl), (λ one. refl))
carried_decides None (Some b) = (never_true, λ one. absurd cc)
carried_decides (Some a) None = (never_true, λ one. absurd cc)
carried_decides (Some a) (Some b) = ((λ e. ap (λ x. Some x) ((same_list_decides a b).0 e)), (λ one. (same_list_decides a b).1 cc))

three_decide : {P Q R : Type 0} (s t u : Bool) → Decides s P → Decides t Q → Decides u R → Decides (s && t && u) (P × Q × R)
three_decide s t u p q r = Decides-like (s && t && u) (λ e. (e.0.0, e.0.1, e.1)) (λ e. ((e.0, e.1), e.2)) (Decides-and (s && t) u (Decides-and s t p q) r)

pub both_ways : {P Q : Type 0} (s t : Bool) → Decides s P → Decides t Q → Decides (beq s t) (P ↔ Q)
both_ways true true p q = ((λ e. ((λ a. q.0 refl), (λ b. p.0 refl))), (λ both. refl))
both_ways true false p q = (never_true, λ both. absurd (true≢false (sym (q.1 (both.0 (p.0 refl))))))
both_ways false true p q = (never_true, λ both. absurd (true≢false (sym (p.1 (both.1 (q.0 refl))))))
both_ways false false p q = ((λ e. ((λ a. absurd (true≢false (sym (p.1 a)))), (λ b. absurd (true≢false (sym (q.1 b)))))), (λ both. refl))

-- what is tested is so, where it is not refuted
pub not_refuted : {P : Type 0} (t : Bool) → Decides t P → ((P → ⊥) → ⊥) → P
not_refuted true d n = d.0 refl
not_refuted false d n = absurd (n (λ p. true≢false (sym (d.1 p))))

some_passes_decides : {X : Type 0} (P : X → Type 0) (test : X → Bool) → ((x : X) → Decides (test x) (P x)) → (xs : List X) → Decides (some_passes test xs) ((x : X) × IsIn x xs × P x)
some_passes_decides P test each [] = (never_true, λ there. absurd there.1)
some_passes_decides {X = X} P test each (x ∷ xs) = Decides-like (some_passes test (x ∷ xs)) there back
    (Decides-or (test x) (some_passes test xs) (each x) (some_passes_decides P test each xs))
  where
    there : P x ⊎ ((y : X) × IsIn y xs × P y) → (y : X) × IsIn y (x ∷ xs) × P y
    there (inl p) = (x, inl refl, p)
    there (inr (y, i, q)) = (y, inr i, q)

    back : ((y : X) × IsIn y (x ∷ xs) × P y) → P x ⊎ ((y : X) × IsIn y xs × P y)
    back (y, inl e, q) = inl (subst P e q)
    back (y, inr i, q) = inr (y, i, q)

-- ---- what breaks agreement

pub same_all : (o p : Operation) → Decides (is_same_neighbour o.left_origin p.left_origin && is_same_neighbour o.right_origin p.right_origin && same_carried o.list p.list)
    ((o.left_origin ≡ p.left_origin) × (o.right_origin ≡ p.right_origin) × (o.list ≡ p.list))
same_all o p = three_decide (is_same_neighbour o.left_origin p.left_origin) (is_same_neighbour o.right_origin p.right_origin) (same_carried o.list p.list)
    (neighbours_decide o.left_origin p.left_origin) (neighbours_decide o.right_origin p.right_origin) (carried_decides o.list p.list)

-- the two are of one id, and unlike
abbrev AreUnlike : Operation → Operation → Type 0
AreUnlike o p = (o.id ≡ p.id) × (AreElsewhere o p ⊎ HoldOther o p)

unlike_decides : (o p : Operation) → Decides (are_unlike o p) (AreUnlike o p)
unlike_decides o p = Decides-and (is_same o.id p.id)
    ((nat_lt 0 (level_of o.content) && nat_lt 0 (level_of p.content)
    && not (is_same_neighbour o.left_origin p.left_origin && is_same_neighbour o.right_origin p.right_origin && same_carried o.list p.list))
    || (nat_eq (level_of o.content) 2 && nat_eq (level_of p.content) 2 && not (same_content o.content p.content)))
    (same_decides o.id p.id)
    (Decides-or (nat_lt 0 (level_of o.content) && nat_lt 0 (level_of p.content)
    && not (is_same_neighbour o.left_origin p.left_origin && is_same_neighbour o.right_origin p.right_origin && same_carried o.list p.list))
    (nat_eq (level_of o.content) 2 && nat_eq (level_of p.content) 2 && not (same_content o.content p.content))
    (three_decide (nat_lt 0 (level_of o.content)) (nat_lt 0 (level_of p.content)) (not (is_same_neighbour o.left_origin p.left_origin && is_same_neighbour
    o.right_origin p.right_origin && same_carried o.list p.list))
    (less_decides 0 (level_of o.content)) (less_decides 0 (level_of p.content))
    (Decides-not (is_same_neighbour o.left_origin p.left_origin && is_same_neighbour o.right_origin p.right_origin && same_carried o.list p.list) (same_all o p)))
    (three_decide (nat_eq (level_of o.content) 2) (nat_eq (level_of p.content) 2) (not (same_content o.content p.content))
    (number_decides (level_of o.content) 2) (number_decides (level_of p.content) 2) (Decides-not (same_content o.content p.content) (content_decides o.content p.content))))

abbrev IsLess : Id → Operation → Type 0
IsLess x o = (o.id ≡ x) × (level_of o.content < 2)

pub less_spelled_decides : (os : List Operation) (x : Id) → Decides (spells_less os x) (SpellLess os x)
less_spelled_decides os x = Decides-like (spells_less os x) (λ t. (t.0, t.1, t.2.0, t.2.1)) (λ t. (t.0, t.1, (t.2, t.3)))
    (some_passes_decides (IsLess x) (λ o. is_same o.id x && nat_lt (level_of o.content) 2)
    (λ o. Decides-and (is_same o.id x) (nat_lt (level_of o.content) 2) (same_decides o.id x) (less_decides (level_of o.content) 2)) os)

module _ (updates : List UpdateValue) where
  abbrev all : List Operation
  all = operations_of_all updates

  abbrev HasUnlike : Operation → Type 0
  HasUnlike o = (p : Operation) × IsIn p all × AreUnlike o p

  abbrev IsUnlikeAt : Id → Operation → Type 0
  IsUnlikeAt x o = (o.id ≡ x) × HasUnlike o

  unlike_there : (x : Id) → ((o : Operation) × IsIn o all × IsUnlikeAt x o) → IsUnlike updates x
  unlike_there x (o, i, (e, (p, j, (same, unlike)))) = record { one = o; other = p; one_there = i; other_there = j; id = e; same_id = same; unlike = unlike }

  is_unlike_decides : (x : Id) → Decides (is_unlike updates x) (IsUnlike updates x)
  is_unlike_decides x = Decides-like (is_unlike updates x) (unlike_there x) (λ u. (u.one, u.one_there, (u.id, (u.other, u.other_there, (u.same_id, u.unlike)))))
      (some_passes_decides (IsUnlikeAt x) (λ o. is_same o.id x && some_passes (are_unlike o) all)
      (λ o. Decides-and (is_same o.id x) (some_passes (are_unlike o) all) (same_decides o.id x) (some_passes_decides (AreUnlike o) (are_unlike o) (λ p. unlike_decides o p) all)) all)

  abbrev SpellsOneLess : Operation → Operation → UpdateValue → Type 0
  SpellsOneLess high low other = SpellLess (operations_of other) high.id ↔ SpellLess (operations_of other) low.id → ⊥

  abbrev spells_one_less : Operation → Operation → UpdateValue → Bool
  spells_one_less high low other = not (beq (spells_less (operations_of other) high.id) (spells_less (operations_of other) low.id))

  abbrev IsParted : Operation → Operation → Type 0
  IsParted high low = (other : UpdateValue) × IsIn other updates × SpellsOneLess high low other

  other_decides : (high low : Operation) → Decides (some_passes (spells_one_less high low) updates) (IsParted high low)
  other_decides high low = some_passes_decides (SpellsOneLess high low) (spells_one_less high low)
      (λ other. Decides-not (beq (spells_less (operations_of other) high.id) (spells_less (operations_of other) low.id))
      (both_ways (spells_less (operations_of other) high.id) (spells_less (operations_of other) low.id) (less_spelled_decides (operations_of other) high.id)
      (less_spelled_decides (operations_of other) low.id))) updates

  abbrev ArePartedPartners : Operation → Operation → Type 0
  ArePartedPartners high low = (are_partners high low ≡ true) × IsParted high low

  abbrev HasLow : UpdateValue → Operation → Type 0
  HasLow update high = (low : Operation) × IsIn low (operations_of update) × ArePartedPartners high low

  abbrev has_low : UpdateValue → Operation → Bool
  has_low update high = some_passes (λ low. are_partners high low && some_passes (spells_one_less high low) updates) (operations_of update)

  itself_decides : (t : Bool) → Decides t (t ≡ true)
  itself_decides t = ((λ e. e), (λ e. e))

  low_decides : (update : UpdateValue) (high : Operation) → Decides (has_low update high) (HasLow update high)
  low_decides update high = some_passes_decides (ArePartedPartners high) (λ low. are_partners high low && some_passes (spells_one_less high low) updates)
      (λ low. Decides-and (are_partners high low) (some_passes (spells_one_less high low) updates) (itself_decides (are_partners high low)) (other_decides high low))
      (operations_of update)

  abbrev IsHighAt : Id → UpdateValue → Operation → Type 0
  IsHighAt x update high = (high.id ≡ x) × HasLow update high

  abbrev HasHigh : Id → UpdateValue → Type 0
  HasHigh x update = (high : Operation) × IsIn high (operations_of update) × IsHighAt x update high

  collected_there : (x : Id) → ((update : UpdateValue) × IsIn update updates × HasHigh x update) → IsHalfCollected updates x
  collected_there x (update, i, (high, j, (e, (low, k, (pair, (other, l, differ)))))) =
      record { update = update; high = high; low = low; other = other; update_there = i; high_there = j; low_there = k; other_there = l; id = e; partners = pair; one_less = differ }

  half_collected_decides : (x : Id) → Decides (is_half_collected updates x) (IsHalfCollected updates x)
  half_collected_decides x = Decides-like (is_half_collected updates x) (collected_there x)
      (λ h. (h.update, h.update_there, (h.high, h.high_there, (h.id, (h.low, h.low_there, (h.partners, (h.other, h.other_there, h.one_less)))))))
      (some_passes_decides (HasHigh x) (λ update. some_passes (λ high. is_same high.id x && has_low update high) (operations_of update))
      (λ update. some_passes_decides (IsHighAt x update) (λ high. is_same high.id x && has_low update high)
      (λ high. Decides-and (is_same high.id x) (has_low update high) (same_decides high.id x) (low_decides update high)) (operations_of update)) updates)

  pub breaks_decides : (x : Id) → Decides (breaks_agreement updates x) (BreaksAgreement updates x)
  breaks_decides x = Decides-or (is_unlike updates x) (is_half_collected updates x) (is_unlike_decides x) (half_collected_decides x)
