-- Two tables that share some rows, with all that is reached from them, have one order of these.
use Rattle.std.proofs.Common.{◌≡◌, Bool, ◌≢◌, ℕ, suc, ◌*◌, true, inl, inr, Some, None, Option, length, sym, ◌∙◌, arith}
use Rattle.std.specs.Prelude.{IfSome}
use Rattle.yd_words.specs.Member.{IsIn}
use Rattle.yd_words.proofs.TestLemmas.{split}
use Rattle.yd_words.proofs.OptionLemmas.{if_some_both}
use Rattle.yd_ids.specs.declared.id.Id.{Id}
use Rattle.yd_origins.specs.Table.{OriginTable, ids_of, left_of, right_of, IsTable}
use Rattle.yd_origins.specs.Before.{is_before_within, is_before, IsLeftFirst, IsBetween}
use Rattle.yd_origins.proofs.BeforeLemmas.{more_uses, uses_agree}
use Rattle.yd_origins.proofs.TableLemmas.{height, height_small, low_left, low_right}

-- ---- two orders that agree on some ids

module _ (f g : Id → Id → Bool) (P : Id → Type 0) (same : (a b : Id) → P a → P b → f a b ≡ g a b) where
  pub between_alike : (z w : Option Id) → IfSome z P → IfSome w P → (y : Id) → P y → IsBetween f z w y → IsBetween g z w y
  between_alike z w i j y p between = (
    if_some_both P (λ q. (q ≢ y) × (f q y ≡ true)) (λ q. (q ≢ y) × (g q y ≡ true)) z (λ q k e. (e.0, sym (same q y k p) ∙ e.1)) i between.0,
    if_some_both P (λ q. (y ≢ q) × (f y q ≡ true)) (λ q. (y ≢ q) × (g y q ≡ true)) w (λ q k e. (e.0, sym (same y q p k) ∙ e.1)) j between.1,
  )

  pub left_first_alike : (z w : Option Id) → IfSome z P → IfSome w P → IsLeftFirst f z w → IsLeftFirst g z w
  left_first_alike None w i j first = tt
  left_first_alike (Some q) None i j first = tt
  left_first_alike (Some q) (Some r) i j first = (first.0, sym (same q r i j) ∙ first.1)

-- ---- two tables that share some rows

-- ids of two tables, with what is reached from them, where both tables have the same lefts and rights
pub record Share (one other : OriginTable) (P : Id → Type 0) : Type 0 where
  pub in_one : (x : Id) → P x → IsIn x (ids_of one)
  pub in_other : (x : Id) → P x → IsIn x (ids_of other)
  pub has_left : (x : Id) → P x → IfSome (left_of one x) P
  pub has_right : (x : Id) → P x → IfSome (right_of one x) P
  pub left_same : (x : Id) → P x → left_of one x ≡ left_of other x
  pub right_same : (x : Id) → P x → right_of one x ≡ right_of other x

module _ (one other : OriginTable) (t : IsTable one) (u : IsTable other) (P : Id → Type 0) (s : Share one other P) where
  -- both tables say the same of two of them
  pub share_order : (a b : Id) → P a → P b → is_before one a b ≡ is_before other a b
  share_order a b p q = elim (split (length (ids_of one)) (length (ids_of other))) [
    | inl le ↦ sym (more_uses (left_of one) (right_of one) (λ x. IsIn x (ids_of one)) (height one t) t.has_left t.has_right (low_left one t) (low_right one t)
        (suc (2 * length (ids_of one))) (suc (2 * length (ids_of other))) a b (s.in_one a p) (s.in_one b q)
        (omega (arith, height_small one t a (s.in_one a p), height_small one t b (s.in_one b q))) (omega arith))
        ∙ uses (suc (2 * length (ids_of other)))
    | inr lt ↦ uses (suc (2 * length (ids_of one)))
        ∙ more_uses (left_of other) (right_of other) (λ x. IsIn x (ids_of other)) (height other u) u.has_left u.has_right (low_left other u) (low_right other u)
        (suc (2 * length (ids_of other))) (suc (2 * length (ids_of one))) a b (s.in_other a p) (s.in_other b q)
        (omega (arith, height_small other u a (s.in_other a p), height_small other u b (s.in_other b q))) (omega arith)
  ]
    where
      uses : (n : ℕ) → is_before_within (left_of one) (right_of one) n a b ≡ is_before_within (left_of other) (right_of other) n a b
      uses n = uses_agree (left_of one) (right_of one) (left_of other) (right_of other) P s.has_left s.has_right s.left_same s.right_same n a b p q

  share_order_back : (a b : Id) → P a → P b → is_before other a b ≡ is_before one a b
  share_order_back a b p q = sym (share_order a b p q)

  pub share_between_back : (z w : Option Id) → IfSome z P → IfSome w P → (y : Id) → P y → IsBetween (is_before other) z w y → IsBetween (is_before one) z w y
  share_between_back = between_alike (is_before other) (is_before one) P share_order_back

  pub share_between : (z w : Option Id) → IfSome z P → IfSome w P → (y : Id) → P y → IsBetween (is_before one) z w y → IsBetween (is_before other) z w y
  share_between = between_alike (is_before one) (is_before other) P share_order

  pub share_left_first : (z w : Option Id) → IfSome z P → IfSome w P → IsLeftFirst (is_before one) z w → IsLeftFirst (is_before other) z w
  share_left_first = left_first_alike (is_before one) (is_before other) P share_order

  pub share_left_first_back : (z w : Option Id) → IfSome z P → IfSome w P → IsLeftFirst (is_before other) z w → IsLeftFirst (is_before one) z w
  share_left_first_back = left_first_alike (is_before other) (is_before one) P share_order_back
