-- What remains of clocks and states is one, in any order and repeated.
use Rattle.std.proofs.Common.{◌≡◌, ◌⊎◌, ℕ, ◌<◌, ◌≤◌, Bool, true, false, cond, ◌&&◌, ◌||◌, List, [], ◌∷◌, Option, Some, None, is_some, is_none, inl, inr, refl, sym, ap, ◌∙◌, subst, arith, tests, true≢false, nat_eq, nat_lt}
use Rattle.yd_words.specs.Member.{IsIn}
use Rattle.yd_sync.specs.Standing.{Standing, is_newer, join, join_all, AgreeOn}
use Rattle.yd_sync.proofs.PresenceLemmas.{tested}

-- ---- two

less_of : (m n : ℕ) → nat_lt m n ≡ true → m < n
less_of m n e = grind (arith, tests)

not_less_of : (m n : ℕ) → nat_lt m n ≡ false → n ≤ m
not_less_of m n e = grind (arith, tests)

same_of : (m n : ℕ) → nat_eq m n ≡ true → m ≡ n
same_of m n e = grind (arith, tests)

not_same_of : (m n : ℕ) → nat_lt m n ≡ false → nat_eq m n ≡ false → n < m
not_same_of m n e f = grind (arith, tests)

-- one that is newer, and one that is not
newer_says : (a b : Standing) → is_newer a b ≡ true → (a.clock < b.clock) ⊎ ((a.clock ≡ b.clock) × (b.state ≡ None))
newer_says a b e = elim (tested (nat_lt a.clock b.clock)) [
  | inl less ↦ inl (less_of a.clock b.clock less)
  | inr more ↦ elim (tested (nat_eq a.clock b.clock)) [
    | inl same ↦ inr (same_of a.clock b.clock same, ends b.state (is_some a.state) (sym (λ i. more i || (same i && (is_none b.state && is_some a.state))) ∙ e))
    | inr other ↦ absurd (true≢false (sym e ∙ (λ i. more i || (other i && (is_none b.state && is_some a.state)))))
  ]
]
  where
    ends : (s : Option (List ℕ)) (t : Bool) → is_none s && t ≡ true → s ≡ None
    ends None t f = refl
    ends (Some s) t f = absurd (true≢false (sym f))

not_newer_says : (a b : Standing) → is_newer a b ≡ false → (b.clock < a.clock) ⊎ ((a.clock ≡ b.clock) × (b.state ≡ None → a.state ≡ None))
not_newer_says a b e = elim (tested (nat_lt a.clock b.clock)) [
  | inl less ↦ absurd (true≢false ((λ i. sym less i || (nat_eq a.clock b.clock && (is_none b.state && is_some a.state))) ∙ e))
  | inr more ↦ elim (tested (nat_eq a.clock b.clock)) [
    | inl same ↦ inr (same_of a.clock b.clock same, ends a.state b.state (sym (λ i. more i || (same i && (is_none b.state && is_some a.state))) ∙ e))
    | inr other ↦ inl (not_same_of a.clock b.clock more other)
  ]
]
  where
    ends : (s t : Option (List ℕ)) → is_none t && is_some s ≡ false → t ≡ None → s ≡ None
    ends None t f g = refl
    ends (Some s) None f g = absurd (true≢false f)
    ends (Some s) (Some t) f g = absurd (true≢false (ap (λ o. is_some o) g))

-- ---- many

-- what remains is one of them, of the greatest clock, and has no state where one of that clock has none
pub record IsJoinOf (all : List Standing) (m : Standing) : Type 0 where
  pub there : IsIn m all
  pub clocks : (e : Standing) → IsIn e all → e.clock ≤ m.clock
  pub none : (e : Standing) → IsIn e all → e.clock ≡ m.clock → e.state ≡ None → m.state ≡ None

join_is : (a b : Standing) → IsJoinOf (a ∷ b ∷ []) (join a b)
join_is a b = elim (tested (is_newer a b)) [
  | inl e ↦ subst (λ t. IsJoinOf (a ∷ b ∷ []) (cond t b a)) (sym e) (newer (newer_says a b e))
  | inr e ↦ subst (λ t. IsJoinOf (a ∷ b ∷ []) (cond t b a)) (sym e) (older (not_newer_says a b e))
]
  where
    newer : (a.clock < b.clock) ⊎ ((a.clock ≡ b.clock) × (b.state ≡ None)) → IsJoinOf (a ∷ b ∷ []) b
    newer h = record {
      there = inr (inl refl);
      clocks = λ e i. elim i [
        | inl f ↦ elim h [ inl lt ↦ omega (arith, ap (λ s. s.clock) f, lt) | inr same ↦ omega (arith, ap (λ s. s.clock) f, same.0) ]
        | inr (inl f) ↦ omega (arith, ap (λ s. s.clock) f)
        | inr (inr k) ↦ absurd k
      ];
      none = λ e i same ends. elim i [
        | inl f ↦ elim h [ inl lt ↦ absurd (omega (arith, ap (λ s. s.clock) f, lt, same)) | inr both ↦ both.1 ]
        | inr (inl f) ↦ sym (ap (λ s. s.state) f) ∙ ends
        | inr (inr k) ↦ absurd k
      ];
    }

    older : (b.clock < a.clock) ⊎ ((a.clock ≡ b.clock) × (b.state ≡ None → a.state ≡ None)) → IsJoinOf (a ∷ b ∷ []) a
    older h = record {
      there = inl refl;
      clocks = λ e i. elim i [
        | inl f ↦ omega (arith, ap (λ s. s.clock) f)
        | inr (inl f) ↦ elim h [ inl lt ↦ omega (arith, ap (λ s. s.clock) f, lt) | inr same ↦ omega (arith, ap (λ s. s.clock) f, same.0) ]
        | inr (inr k) ↦ absurd k
      ];
      none = λ e i same ends. elim i [
        | inl f ↦ sym (ap (λ s. s.state) f) ∙ ends
        | inr (inl f) ↦ elim h [ inl lt ↦ absurd (omega (arith, ap (λ s. s.clock) f, lt, same)) | inr both ↦ both.1 (sym (ap (λ s. s.state) f) ∙ ends) ]
        | inr (inr k) ↦ absurd k
      ];
    }

pub join_all_is : (held : Standing) (others : List Standing) → IsJoinOf (held ∷ others) (join_all held others)
join_all_is held [] = record { there = inl refl; clocks = λ e i. elim i [ inl f ↦ omega (arith, ap (λ s. s.clock) f) | inr k ↦ absurd k ]; none = λ e i same ends. elim i [ inl f ↦ sym (ap (λ s. s.state) f) ∙ ends | inr k ↦ absurd k ] }
join_all_is held (other ∷ others) = go (join_is held other) (join_all_is (join held other) others)
  where
    go : {two m : Standing} → IsJoinOf (held ∷ other ∷ []) two → IsJoinOf (two ∷ others) m → IsJoinOf (held ∷ other ∷ others) m
    go {two} {m} first rest = record {
      there = elim rest.there [
        | inl e ↦ elim first.there [ inl f ↦ inl (e ∙ f) | inr (inl f) ↦ inr (inl (e ∙ f)) | inr (inr k) ↦ absurd k ]
        | inr i ↦ inr (inr i)
      ];
      clocks = λ e i. elim i [
        | inl f ↦ omega (arith, first.clocks e (inl f), rest.clocks two (inl refl))
        | inr (inl f) ↦ omega (arith, first.clocks e (inr (inl f)), rest.clocks two (inl refl))
        | inr (inr j) ↦ rest.clocks e (inr j)
      ];
      none = λ e i same ends. elim i [
        | inl f ↦ let at : two.clock ≡ m.clock = omega (arith, first.clocks e (inl f), rest.clocks two (inl refl), same) in
            rest.none two (inl refl) at (first.none e (inl f) (same ∙ sym at) ends)
        | inr (inl f) ↦ let at : two.clock ≡ m.clock = omega (arith, first.clocks e (inr (inl f)), rest.clocks two (inl refl), same) in
            rest.none two (inl refl) at (first.none e (inr (inl f)) (same ∙ sym at) ends)
        | inr (inr j) ↦ rest.none e (inr j) same ends
      ];
    }

states_one : (s t : Option (List ℕ)) → (s ≡ None → t ≡ None) → (t ≡ None → s ≡ None) → ((x y : List ℕ) → s ≡ Some x → t ≡ Some y → x ≡ y) → s ≡ t
states_one None t f g h = sym (f refl)
states_one (Some x) None f g h = g refl
states_one (Some x) (Some y) f g h = ap (λ (z : List ℕ). Some z) (h x y refl refl)

-- ---- for callers

pub joins_one : (all other : List Standing) (m n : Standing) → IsJoinOf all m → IsJoinOf other n → ((e : Standing) → IsIn e all → IsIn e other) → ((e : Standing) → IsIn e other → IsIn e all) →
    ((a b : Standing) → IsIn a all → IsIn b all → AgreeOn a b) → m ≡ n
joins_one all other m n one two there back agree =
    let clock : m.clock ≡ n.clock = omega (arith, two.clocks m (there m one.there), one.clocks n (back n two.there)) in
    let state : m.state ≡ n.state = states_one m.state n.state (λ e. two.none m (there m one.there) clock e) (λ e. one.none n (back n two.there) (sym clock) e)
    (λ x y e f. agree m n one.there (back n two.there) x y clock e f) in
    λ i. record { clock = clock i; state = state i }
