-- What is behind a row is behind its left, in every table; and where a row is in front of its right.
use Rattle.std.proofs.Common.{◌≡◌, ◌≢◌, ℕ, zero, suc, ◌<◌, Bool, true, false, ◌⊎◌, inl, inr, Option, Some, None, refl, sym, ap, ◌∙◌, subst, arith, true≢false}
use Rattle.std.specs.Prelude.{IfSome}
use Rattle.yd_words.specs.Member.{IsIn}
use Rattle.yd_words.specs.Test.{is_some_and}
use Rattle.yd_words.proofs.TestLemmas.{test_fails}
use Rattle.yd_ids.specs.declared.id.Id.{Id}
use Rattle.yd_ids.specs.Ids.{is_same_neighbour, is_smaller}
use Rattle.yd_origins.specs.Before.{is_up_to, is_later_left, is_before}
use Rattle.yd_origins.specs.Table.{OriginTable, ids_of, left_of, right_of, IsTable}
use Rattle.yd_origins.proofs.LineLemmas.{first_of_lines}
use Rattle.yd_origins.proofs.TableLemmas.{lines_decide, not_itself, total}
use Rattle.yd_firsts.proofs.CollapsedLemmas.{is_up, not_up, up_true}
use Rattle.yd_firsts.proofs.PieceOrderLemmas.{by_left}

second_off : (a b c d e tie f : Bool) → a ≡ false → first_of_lines a b c d e tie f ≡ true → b ≡ false
second_off true b c d e tie f g h = absurd (true≢false g)
second_off false true c d e tie f g h = absurd (true≢false (sym h))
second_off false false c d e tie f g h = refl

third_on : (a b c d e tie f : Bool) → b ≡ false → c ≡ true → first_of_lines a b c d e tie f ≡ true
third_on true b c d e tie f g h = refl
third_on false true c d e tie f g h = absurd (true≢false g)
third_on false false true d e tie f g h = refl
third_on false false false d e tie f g h = absurd (true≢false (sym h))

some_passes : (f : Id → Bool) (z : Option Id) → is_some_and f z ≡ true → (y : Id) × (z ≡ Some y) × (f y ≡ true)
some_passes f None e = absurd (true≢false (sym e))
some_passes f (Some y) e = (y, refl, e)

none_passes : (f : Id → Bool) (z : Option Id) → ((y : Id) → z ≡ Some y → f y ≡ false) → is_some_and f z ≡ false
none_passes f None h = refl
none_passes f (Some y) h = h y refl

module _ (table : OriginTable) (t : IsTable table) where
  abbrev b : Id → Id → Bool
  b = is_before table

  abbrev P : Id → Type 0
  P x = IsIn x (ids_of table)

  abbrev height : Id → ℕ
  height = t.ends.height

  left_in : (x p : Id) → P x → left_of table x ≡ Some p → P p × (height p < height x)
  left_in x p i e = (subst (λ z. IfSome z P) e (t.has_left x i), subst (λ z. IfSome z (λ y. height y < height x)) e (t.ends.falls_left x i))

  differ : (x y : Id) → height x < height y → x ≢ y
  differ x y lt e = omega (arith, lt, ap height e)

  other : (x y : Id) → b x y ≡ true → x ≢ y
  other x y e one = true≢false (sym e ∙ subst (λ v. b x v ≡ false) one (not_itself table x))

  through_within : (n : ℕ) (x y p : Id) → P x → P y → left_of table x ≡ Some p → b x y ≡ true → height y < n → (p ≢ y) × (b p y ≡ true)
  through_within zero x y p i j e f lt = absurd (omega (arith, lt))
  through_within (suc n) x y p i j e f lt = go (is_some_and (λ q. is_up_to b x q) (left_of table y)) refl (λ q k. through_within n x q p i (left_in y q j k).0 e)
      (λ q k. through_within n p q q (left_in x p i e).0 (left_in y q j k).0)
    where
      low : height p < height x
      low = (left_in x p i e).1

      p_in : P p
      p_in = (left_in x p i e).0

      before_x : b p x ≡ true
      before_x = by_left table t p x p p_in i (differ p x low) e (inl refl)

      go : (v : Bool) → is_some_and (λ q. is_up_to b x q) (left_of table y) ≡ v →
          ((q : Id) → left_of table y ≡ Some q → b x q ≡ true → height q < n → (p ≢ q) × (b p q ≡ true)) →
          ((q : Id) → left_of table y ≡ Some q → left_of table p ≡ Some q → b p q ≡ true → height q < n → (q ≢ q) × (b q q ≡ true)) → (p ≢ y) × (b p y ≡ true)
      go true g rec itself = let (q, k, up) = some_passes (λ q. is_up_to b x q) (left_of table y) g in by_up q k (is_up b x q up)
        where
          by_up : (q : Id) → left_of table y ≡ Some q → (x ≡ q) ⊎ (b x q ≡ true) → (p ≢ y) × (b p y ≡ true)
          by_up q k (inl one) = (ne, by_left table t p y q p_in j ne k (inr (subst (λ v. b p v ≡ true) one before_x)))
            where
              ne : p ≢ y
              ne = differ p y (omega (arith, low, ap height one, (left_in y q j k).1))
          by_up q k (inr less) = let (apart, more) = rec q k less (omega (arith, lt, (left_in y q j k).1)) in last q k more
            where
              last : (q : Id) → left_of table y ≡ Some q → b p q ≡ true → (p ≢ y) × (b p y ≡ true)
              last q k more = (ne, by_left table t p y q p_in j ne k (inr more))
                where
                  ne : p ≢ y
                  ne one = (itself q k (ap (left_of table) one ∙ k) more (omega (arith, lt, (left_in y q j k).1))).0 refl
      go false g rec itself = elim (total table t p y p_in j (λ one. off.0 (sym one))) [ inl h ↦ ((λ one. off.0 (sym one)), h) | inr h ↦ absurd (true≢false (sym h ∙ off.1)) ]
        where
          second : is_some_and (λ q. is_up_to b y q) (left_of table x) ≡ false
          second = second_off (is_some_and (λ q. is_up_to b x q) (left_of table y)) (is_some_and (λ q. is_up_to b y q) (left_of table x))
              (is_some_and (λ r. is_up_to b r y) (right_of table x)) (is_some_and (λ r. is_up_to b r x) (right_of table y))
              (is_same_neighbour (left_of table x) (left_of table y)) (is_smaller x y) (is_later_left b (left_of table x) (left_of table y))
              g (sym (lines_decide table t x y i j (other x y f)) ∙ f)

          off : (y ≢ p) × (b y p ≡ false)
          off = not_up b y p (subst (λ z. is_some_and (λ q. is_up_to b y q) z ≡ false) e second)

  -- ---- lemmas for callers

  -- what is behind a row is behind its left
  pub left_before : (x y p : Id) → P x → P y → left_of table x ≡ Some p → b x y ≡ true → (p ≢ y) × (b p y ≡ true)
  left_before x y p i j e f = through_within (suc (height y)) x y p i j e f (omega arith)

  -- a row is in front of its right, where that is not up to its left
  pub before_own_right : (x r : Id) → P x → right_of table x ≡ Some r → ((q : Id) → left_of table x ≡ Some q → (r ≢ q) × (b r q ≡ false)) → b x r ≡ true
  before_own_right x r i e apart = lines_decide table t x r i r_in (λ one. differ r x low (sym one)) ∙ third_on
      (is_some_and (λ q. is_up_to b x q) (left_of table r)) (is_some_and (λ q. is_up_to b r q) (left_of table x))
      (is_some_and (λ s. is_up_to b s r) (right_of table x)) (is_some_and (λ s. is_up_to b s x) (right_of table r))
      (is_same_neighbour (left_of table x) (left_of table r)) (is_smaller x r) (is_later_left b (left_of table x) (left_of table r))
      (none_passes (λ q. is_up_to b r q) (left_of table x) (λ q k. not_up_to r q (apart q k)))
      (ap (is_some_and (λ s. is_up_to b s r)) e ∙ up_true b r r (inl refl))
    where
      r_in : P r
      r_in = subst (λ z. IfSome z P) e (t.has_right x i)

      low : height r < height x
      low = subst (λ z. IfSome z (λ y. height y < height x)) e (t.ends.falls_right x i)

      not_up_to : (a c : Id) → (a ≢ c) × (b a c ≡ false) → is_up_to b a c ≡ false
      not_up_to a c (ne, f) = test_fails (is_up_to b a c) (λ up. elim (is_up b a c up) [ inl one ↦ ne one | inr g ↦ true≢false (sym g ∙ f) ])
