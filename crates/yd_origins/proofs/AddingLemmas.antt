-- A table with one row more, whose left and right are rows, is a table.
use Rattle.std.proofs.Common.{◌≡◌, ℕ, suc, ◌+◌, ◌<◌, false, cond, ◌∷◌, inl, inr, Some, None, Option, refl, sym, subst, arith}
use Rattle.std.specs.Prelude.{IfSome}
use Rattle.yd_words.specs.Member.{IsIn}
use Rattle.yd_words.proofs.OptionLemmas.{if_some_map, if_some_both}
use Rattle.yd_ids.specs.declared.id.Id.{Id}
use Rattle.yd_ids.specs.Ids.{is_same}
use Rattle.yd_ids.proofs.IdLemmas.{same_itself, other_id}
use Rattle.yd_origins.specs.Table.{Row, OriginTable, ids_of, left_of, right_of, IsTable}

abbrev height_of : (Id → ℕ) → Option Id → ℕ
height_of h None = 0
height_of h (Some y) = h y

height_low : (h : Id → ℕ) (n : ℕ) (z : Option Id) (P : Id → Type 0) → height_of h z < n → IfSome z P → IfSome z (λ y. P y × (h y < n))
height_low h n None P lt w = tt
height_low h n (Some y) P lt w = (w, lt)

module _ (table : OriginTable) (t : IsTable table) (new : Row) (fresh : IsIn new.id (ids_of table) → ⊥)
    (left_there : IfSome new.left (λ y. IsIn y (ids_of table))) (right_there : IfSome new.right (λ y. IsIn y (ids_of table))) where
  abbrev P : Id → Type 0
  P x = IsIn x (ids_of table)

  abbrev larger : OriginTable
  larger = new ∷ table

  is_not_new : (x : Id) → P x → is_same new.id x ≡ false
  is_not_new x p = other_id new.id x (λ e. fresh (subst P (sym e) p))

  pub old_left : (x : Id) → P x → left_of larger x ≡ left_of table x
  old_left x p = rw (is_not_new x p) refl

  pub old_right : (x : Id) → P x → right_of larger x ≡ right_of table x
  old_right x p = rw (is_not_new x p) refl

  pub new_left : left_of larger new.id ≡ new.left
  new_left = rw (same_itself new.id) refl

  pub new_right : right_of larger new.id ≡ new.right
  new_right = rw (same_itself new.id) refl

  height : Id → ℕ
  height x = cond (is_same new.id x) (suc (height_of t.ends.height new.left + height_of t.ends.height new.right)) (t.ends.height x)

  height_old : (x : Id) → P x → height x ≡ t.ends.height x
  unfolding height
  height_old x p = rw (is_not_new x p) refl

  height_new : height new.id ≡ suc (height_of t.ends.height new.left + height_of t.ends.height new.right)
  unfolding height
  height_new = rw (same_itself new.id) refl

  -- the left and the right of a row are old rows, and lower
  lower_new : (z : Option Id) → height_of t.ends.height z < height new.id → IfSome z P → IfSome z (λ y. P y × (height y < height new.id))
  lower_new z lt w = if_some_map (λ y. P y × (t.ends.height y < height new.id)) (λ y. P y × (height y < height new.id)) z
      (λ y v. (v.0, omega (arith, v.1, height_old y v.0)))
      (height_low t.ends.height (height new.id) z P lt w)

  lower_old : (x : Id) → P x → (z : Option Id) → IfSome z P → IfSome z (λ y. t.ends.height y < t.ends.height x) → IfSome z (λ y. P y × (height y < height x))
  lower_old x p z v w = if_some_both P (λ y. t.ends.height y < t.ends.height x) (λ y. P y × (height y < height x)) z
      (λ y q lt. (q, omega (arith, height_old y q, height_old x p))) v w

  lower_left : (x : Id) → IsIn x (ids_of larger) → IfSome (left_of larger x) (λ y. P y × (height y < height x))
  lower_left x (inl e) = subst (λ v. IfSome (left_of larger v) (λ y. P y × (height y < height v))) (sym e)
      (subst (λ z. IfSome z (λ y. P y × (height y < height new.id))) (sym new_left) (lower_new new.left (omega (arith, height_new)) left_there))
  lower_left x (inr p) = subst (λ z. IfSome z (λ y. P y × (height y < height x))) (sym (old_left x p))
      (lower_old x p (left_of table x) (t.has_left x p) (t.ends.falls_left x p))

  lower_right : (x : Id) → IsIn x (ids_of larger) → IfSome (right_of larger x) (λ y. P y × (height y < height x))
  lower_right x (inl e) = subst (λ v. IfSome (right_of larger v) (λ y. P y × (height y < height v))) (sym e)
      (subst (λ z. IfSome z (λ y. P y × (height y < height new.id))) (sym new_right) (lower_new new.right (omega (arith, height_new)) right_there))
  lower_right x (inr p) = subst (λ z. IfSome z (λ y. P y × (height y < height x))) (sym (old_right x p))
      (lower_old x p (right_of table x) (t.has_right x p) (t.ends.falls_right x p))

  pub new_lefts : (x : Id) → IsIn x (ids_of larger) → IfSome (left_of larger x) P
  new_lefts x i = if_some_map (λ y. P y × (height y < height x)) P (left_of larger x) (λ y w. w.0) (lower_left x i)

  pub new_rights : (x : Id) → IsIn x (ids_of larger) → IfSome (right_of larger x) P
  new_rights x i = if_some_map (λ y. P y × (height y < height x)) P (right_of larger x) (λ y w. w.0) (lower_right x i)

  pub added_is_table : IsTable larger
  added_is_table = record {
    distinct = (fresh, t.distinct);
    has_left = λ x i. if_some_map P (λ y. IsIn y (ids_of larger)) (left_of larger x) (λ y w. inr w) (new_lefts x i);
    has_right = λ x i. if_some_map P (λ y. IsIn y (ids_of larger)) (right_of larger x) (λ y w. inr w) (new_rights x i);
    ends = record {
      height = height;
      falls_left = λ x i. if_some_map (λ y. P y × (height y < height x)) (λ y. height y < height x) (left_of larger x) (λ y w. w.1) (lower_left x i);
      falls_right = λ x i. if_some_map (λ y. P y × (height y < height x)) (λ y. height y < height x) (right_of larger x) (λ y w. w.1) (lower_right x i);
    };
  }
