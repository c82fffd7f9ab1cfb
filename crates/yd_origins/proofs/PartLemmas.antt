-- A part that has the lefts and the rights of its rows is a table with the same order, and fits where the table does.
use Rattle.std.proofs.Common.{◌≡◌, ◌<◌, [], ◌∷◌, inl, inr, refl, sym, ap, ◌∙◌, subst}
use Rattle.std.specs.Prelude.{IfSome}
use Rattle.yd_words.specs.Member.{IsIn, AreDistinct}
use Rattle.yd_ids.specs.declared.id.Id.{Id}
use Rattle.yd_ids.proofs.IdLemmas.{same_itself, other_id}
use Rattle.yd_origins.specs.Table.{Row, OriginTable, ids_of, left_of, right_of, IsTable, IsPart}
use Rattle.yd_origins.specs.Before.{is_before, IsLeftFirst, IsBetween, Reaches, by_left, by_right, onward, Fits}
use Rattle.yd_origins.proofs.SharingLemmas.{Share, share_order, share_between, share_left_first_back}

-- ---- the rows of a table

pub row_id_in : (row : Row) (table : OriginTable) → IsIn row table → IsIn row.id (ids_of table)
row_id_in row [] i = absurd i
row_id_in row (r ∷ rs) (inl e) = inl (ap (λ v. v.id) e)
row_id_in row (r ∷ rs) (inr i) = inr (row_id_in row rs i)

-- the left that is found for a row's id is the row's, and so is the right
pub found_left : (row : Row) (table : OriginTable) → AreDistinct (ids_of table) → IsIn row table → left_of table row.id ≡ row.left
found_left row [] d i = absurd i
found_left row (r ∷ rs) d (inl e) = rw (e, same_itself r.id) refl
found_left row (r ∷ rs) d (inr i) = rw (other_id r.id row.id (λ e. d.0 (subst (λ v. IsIn v (ids_of rs)) (sym e) (row_id_in row rs i)))) (found_left row rs d.1 i)

pub found_right : (row : Row) (table : OriginTable) → AreDistinct (ids_of table) → IsIn row table → right_of table row.id ≡ row.right
found_right row [] d i = absurd i
found_right row (r ∷ rs) d (inl e) = rw (e, same_itself r.id) refl
found_right row (r ∷ rs) d (inr i) = rw (other_id r.id row.id (λ e. d.0 (subst (λ v. IsIn v (ids_of rs)) (sym e) (row_id_in row rs i)))) (found_right row rs d.1 i)

-- an id of a table is that of a row
pub row_of_id : (table : OriginTable) (x : Id) → IsIn x (ids_of table) → (row : Row) × IsIn row table × (row.id ≡ x)
row_of_id [] x i = absurd i
row_of_id (r ∷ rs) x (inl e) = (r, inl refl, sym e)
row_of_id (r ∷ rs) x (inr i) = let (row, j, e) = row_of_id rs x i in (row, inr j, e)

-- ---- a part

-- rows of a table that are a table themselves are a part
pub table_is_part : (part table : OriginTable) → IsTable part → ((row : Row) → IsIn row part → IsIn row table) → IsPart part table
table_is_part part table t within = record { within = within; distinct = t.distinct; has_left = t.has_left; has_right = t.has_right }

module _ (part table : OriginTable) (t : IsTable table) (p : IsPart part table) where
  abbrev P : Id → Type 0
  P x = IsIn x (ids_of part)

  pub part_member : (x : Id) → P x → IsIn x (ids_of table)
  part_member x i = let (row, j, e) = row_of_id part x i in subst (λ v. IsIn v (ids_of table)) e (row_id_in row table (p.within row j))

  pub part_left : (x : Id) → P x → left_of part x ≡ left_of table x
  part_left x i = let (row, j, e) = row_of_id part x i in
      subst (λ v. left_of part v ≡ left_of table v) e (found_left row part p.distinct j ∙ sym (found_left row table t.distinct (p.within row j)))

  pub part_right : (x : Id) → P x → right_of part x ≡ right_of table x
  part_right x i = let (row, j, e) = row_of_id part x i in
      subst (λ v. right_of part v ≡ right_of table v) e (found_right row part p.distinct j ∙ sym (found_right row table t.distinct (p.within row j)))

  pub part_is_table : IsTable part
  part_is_table = record {
    distinct = p.distinct;
    has_left = p.has_left;
    has_right = p.has_right;
    ends = record {
      height = t.ends.height;
      falls_left = λ x i. subst (λ z. IfSome z (λ y. t.ends.height y < t.ends.height x)) (sym (part_left x i)) (t.ends.falls_left x (part_member x i));
      falls_right = λ x i. subst (λ z. IfSome z (λ y. t.ends.height y < t.ends.height x)) (sym (part_right x i)) (t.ends.falls_right x (part_member x i));
    };
  }

  pub part_shares : Share part table P
  part_shares = record {
    in_one = λ x i. i;
    in_other = part_member;
    has_left = p.has_left;
    has_right = p.has_right;
    left_same = part_left;
    right_same = part_right;
  }

  pub part_order : (a b : Id) → P a → P b → is_before part a b ≡ is_before table a b
  part_order = share_order part table part_is_table t P part_shares

  -- what is reached in the part is reached in the table, and is in the part
  part_reaches : {x y : Id} → Reaches (left_of part) (right_of part) x y → P x → Reaches (left_of table) (right_of table) x y × P y
  part_reaches (by_left {x = x} e) i = (by_left (sym (part_left x i) ∙ e), rw e at (p.has_left x i))
  part_reaches (by_right {x = x} e) i = (by_right (sym (part_right x i) ∙ e), rw e at (p.has_right x i))
  part_reaches (onward r s) i = let (u, j) = part_reaches r i in let (v, k) = part_reaches s j in (onward u v, k)

  part_between : (x y : Id) → P x → P y → IsBetween (is_before part) (left_of part x) (right_of part x) y →
      IsBetween (is_before table) (left_of table x) (right_of table x) y
  part_between x y i j g = subst (λ z. IsBetween (is_before table) z (right_of table x) y) (part_left x i)
      (subst (λ w. IsBetween (is_before table) (left_of part x) w y) (part_right x i)
      (share_between part table part_is_table t P part_shares (left_of part x) (right_of part x) (p.has_left x i) (p.has_right x i) y j g))

  pub part_fits : Fits table → Fits part
  part_fits f = record {
    left_first = λ x i. share_left_first_back part table part_is_table t P part_shares (left_of part x) (right_of part x) (p.has_left x i) (p.has_right x i)
        (subst (λ z. IsLeftFirst (is_before table) z (right_of part x)) (sym (part_left x i))
        (subst (λ w. IsLeftFirst (is_before table) (left_of table x) w) (sym (part_right x i)) (f.left_first x (part_member x i))));
    reached_outside = λ x y i j r g. f.reached_outside x y (part_member x i) (part_member y j) (part_reaches r i).0 (part_between x y i j g);
    own_outside = λ x y i j c g. f.own_outside x y (part_member x i) (part_member y j) c (part_between x y i j g);
  }
