-- The order of two rows asks for no more than what is reached from them, and for no more uses of the lines than they need.
use Rattle.std.proofs.Common.{◌≡◌, ℕ, zero, suc, ◌+◌, ◌<◌, ◌≤◌, Bool, true, false, Option, Some, None, refl, ap, ◌∙◌, arith}
use Rattle.std.specs.Prelude.{IfSome}
use Rattle.yd_words.specs.Test.{is_some_and}
use Rattle.yd_words.proofs.OptionLemmas.{if_some_map, if_some_both, test_alike}
use Rattle.yd_ids.specs.declared.id.Id.{Id}
use Rattle.yd_ids.specs.Ids.{is_same, is_same_neighbour, is_smaller}
use Rattle.yd_origins.specs.Before.{is_up_to, is_later_left, by_lines, is_before_within}
use Rattle.yd_origins.proofs.LineLemmas.{first_of_lines}

up_to_alike : (f g : Id → Id → Bool) (a b : Id) → f a b ≡ g a b → is_up_to f a b ≡ is_up_to g a b
up_to_alike f g a b e = go (is_same a b) e
  where
    go : (t : Bool) → f a b ≡ g a b → elim t as (λ x. Bool) [ true ↦ true | false ↦ f a b ] ≡ elim t as (λ x. Bool) [ true ↦ true | false ↦ g a b ]
    go true e = refl
    go false e = e

later_left_alike : (f g : Id → Id → Bool) (z w : Option Id) → IfSome w (λ q. IfSome z (λ p. f q p ≡ g q p)) → is_later_left f z w ≡ is_later_left g z w
later_left_alike f g None w e = refl
later_left_alike f g (Some p) None e = refl
later_left_alike f g (Some p) (Some q) e = e

-- what two answers have to agree on for the lines at a and b to agree
pub record AgreeAt (left right : Id → Option Id) (f g : Id → Id → Bool) (a b : Id) : Type 0 where
  pub to_left : IfSome (left b) (λ y. f a y ≡ g a y)
  pub to_left_back : IfSome (left a) (λ y. f b y ≡ g b y)
  pub from_right : IfSome (right a) (λ y. f y b ≡ g y b)
  pub from_right_back : IfSome (right b) (λ y. f y a ≡ g y a)
  pub lefts : IfSome (left b) (λ q. IfSome (left a) (λ p. f q p ≡ g q p))

pub lines_alike : (left right : Id → Option Id) (f g : Id → Id → Bool) (a b : Id) → AgreeAt left right f g a b →
    by_lines left right f a b ≡ by_lines left right g a b
lines_alike left right f g a b agree = λ i. first_of_lines (first_same i) (second_same i) (third_same i) (fourth_same i) (is_same_neighbour (left a) (left b))
    (is_smaller a b)
    (later_left_alike f g (left a) (left b) agree.lefts i)
  where
    first_same : is_some_and (λ p. is_up_to f a p) (left b) ≡ is_some_and (λ p. is_up_to g a p) (left b)
    first_same = test_alike (λ p. is_up_to f a p) (λ p. is_up_to g a p) (left b)
        (if_some_map (λ y. f a y ≡ g a y) (λ y. is_up_to f a y ≡ is_up_to g a y) (left b) (λ y e. up_to_alike f g a y e) agree.to_left)

    second_same : is_some_and (λ p. is_up_to f b p) (left a) ≡ is_some_and (λ p. is_up_to g b p) (left a)
    second_same = test_alike (λ p. is_up_to f b p) (λ p. is_up_to g b p) (left a)
        (if_some_map (λ y. f b y ≡ g b y) (λ y. is_up_to f b y ≡ is_up_to g b y) (left a) (λ y e. up_to_alike f g b y e) agree.to_left_back)

    third_same : is_some_and (λ r. is_up_to f r b) (right a) ≡ is_some_and (λ r. is_up_to g r b) (right a)
    third_same = test_alike (λ r. is_up_to f r b) (λ r. is_up_to g r b) (right a)
        (if_some_map (λ y. f y b ≡ g y b) (λ y. is_up_to f y b ≡ is_up_to g y b) (right a) (λ y e. up_to_alike f g y b e) agree.from_right)

    fourth_same : is_some_and (λ r. is_up_to f r a) (right b) ≡ is_some_and (λ r. is_up_to g r a) (right b)
    fourth_same = test_alike (λ r. is_up_to f r a) (λ r. is_up_to g r a) (right b)
        (if_some_map (λ y. f y a ≡ g y a) (λ y. is_up_to f y a ≡ is_up_to g y a) (right b) (λ y e. up_to_alike f g y a e) agree.from_right_back)

-- one use more, where the answers below agree
pub use_more : (left right : Id → Option Id) (n m : ℕ) (a b : Id) →
    by_lines left right (is_before_within left right m) a b ≡ by_lines left right (is_before_within left right n) a b →
    is_before_within left right (suc m) a b ≡ is_before_within left right (suc n) a b
use_more left right n m a b e = ap (λ t. elim (is_same a b) as (λ x. Bool) [ true ↦ false | false ↦ t ]) e

-- ---- lemmas for callers

-- more uses than the heights ask for change nothing
module _ (left right : Id → Option Id) (P : Id → Type 0) (height : Id → ℕ)
    (in_left : (x : Id) → P x → IfSome (left x) P) (in_right : (x : Id) → P x → IfSome (right x) P)
    (low_left : (x : Id) → P x → IfSome (left x) (λ y. height y < height x)) (low_right : (x : Id) → P x → IfSome (right x) (λ y. height y < height x)) where
  pub more_uses : (n m : ℕ) (a b : Id) → P a → P b → height a + height b < n → n ≤ m → is_before_within left right m a b ≡ is_before_within left right n a b
  more_uses zero m a b p q small le = absurd (omega arith)
  more_uses (suc n) zero a b p q small le = absurd (omega arith)
  more_uses (suc n) (suc m) a b p q small le = use_more left right n m a b (lines_alike left right most least a b (record {
    to_left = if_some_both P (λ y. height y < height b) (λ y. most a y ≡ least a y) (left b) (λ y r lt. more_uses n m a y p r (omega arith) (omega arith))
        (in_left b q) (low_left b q);
    to_left_back = if_some_both P (λ y. height y < height a) (λ y. most b y ≡ least b y) (left a) (λ y r lt. more_uses n m b y q r (omega arith) (omega arith))
        (in_left a p) (low_left a p);
    from_right = if_some_both P (λ y. height y < height a) (λ y. most y b ≡ least y b) (right a) (λ y r lt. more_uses n m y b r q (omega arith) (omega arith))
        (in_right a p) (low_right a p);
    from_right_back = if_some_both P (λ y. height y < height b) (λ y. most y a ≡ least y a) (right b) (λ y r lt. more_uses n m y a r p (omega arith) (omega arith))
        (in_right b q) (low_right b q);
    lefts = if_some_both P (λ y. height y < height b) (λ y. IfSome (left a) (λ z. most y z ≡ least y z)) (left b)
        (λ y r lt. if_some_both P (λ z. height z < height a) (λ z. most y z ≡ least y z) (left a) (λ z s less. more_uses n m y z r s (omega arith) (omega arith))
        (in_left a p) (low_left a p))
        (in_left b q) (low_left b q);
  }))
    where
      most : Id → Id → Bool
      most = is_before_within left right m

      least : Id → Id → Bool
      least = is_before_within left right n

-- two choices of lefts and rights that agree on what is reached give the same
module _ (left right other_left other_right : Id → Option Id) (P : Id → Type 0)
    (in_left : (x : Id) → P x → IfSome (left x) P) (in_right : (x : Id) → P x → IfSome (right x) P)
    (left_same : (x : Id) → P x → left x ≡ other_left x) (right_same : (x : Id) → P x → right x ≡ other_right x) where
  pub uses_agree : (n : ℕ) (a b : Id) → P a → P b → is_before_within left right n a b ≡ is_before_within other_left other_right n a b
  uses_agree zero a b p q = refl
  uses_agree (suc n) a b p q = ap (λ t. elim (is_same a b) as (λ x. Bool) [ true ↦ false | false ↦ t ]) (
      lines_alike left right one other a b (record {
        to_left = if_some_map P (λ y. one a y ≡ other a y) (left b) (λ y r. uses_agree n a y p r) (in_left b q);
        to_left_back = if_some_map P (λ y. one b y ≡ other b y) (left a) (λ y r. uses_agree n b y q r) (in_left a p);
        from_right = if_some_map P (λ y. one y b ≡ other y b) (right a) (λ y r. uses_agree n y b r q) (in_right a p);
        from_right_back = if_some_map P (λ y. one y a ≡ other y a) (right b) (λ y r. uses_agree n y a r p) (in_right b q);
        lefts = if_some_map P (λ y. IfSome (left a) (λ z. one y z ≡ other y z)) (left b)
            (λ y r. if_some_map P (λ z. one y z ≡ other y z) (left a) (λ z s. uses_agree n y z r s) (in_left a p)) (in_left b q);
      }) ∙ (λ i. by_lines_at (left_same a p i) (left_same b q i) (right_same a p i) (right_same b q i))
      )
    where
      one : Id → Id → Bool
      one = is_before_within left right n

      other : Id → Id → Bool
      other = is_before_within other_left other_right n

      -- the lines, over the lefts and rights of a and b
      by_lines_at : Option Id → Option Id → Option Id → Option Id → Bool
      by_lines_at la lb ra rb = first_of_lines (is_some_and (λ p. is_up_to other a p) lb) (is_some_and (λ p. is_up_to other b p) la)
          (is_some_and (λ r. is_up_to other r b) ra) (is_some_and (λ r. is_up_to other r a) rb) (is_same_neighbour la lb) (is_smaller a b) (is_later_left other la lb)
