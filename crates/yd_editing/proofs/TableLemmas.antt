-- Tables with the same rows have one order.
use Rattle.std.proofs.Common.{◌≡◌, ◌↔◌, sym, ap, ◌∙◌, subst}
use Rattle.yd_words.specs.Member.{IsIn, AreDistinct}
use Rattle.yd_ids.specs.declared.id.Id.{Id}
use Rattle.yd_origins.specs.Table.{Row, OriginTable, ids_of, left_of, right_of, IsTable}
use Rattle.yd_origins.specs.Before.{Fits}
use Rattle.yd_origins.specs.Sorted.{origin_order}
use Rattle.yd_origins.proofs.PartLemmas.{row_id_in, found_left, found_right, row_of_id}
use Rattle.yd_origins.proofs.ArrangingLemmas.{any_arrangement}

one_row : (r s : Row) → r.id ≡ s.id → r.left ≡ s.left → r.right ≡ s.right → r ≡ s
one_row r s ids lefts rights = λ i. record { id = ids i; left = lefts i; right = rights i }

-- a row is in another table that has its id with the same left and right
rows_alike : (one other : OriginTable) → AreDistinct (ids_of one) → AreDistinct (ids_of other) → ((x : Id) → IsIn x (ids_of one) → IsIn x (ids_of other)) →
    ((x : Id) → IsIn x (ids_of one) → left_of one x ≡ left_of other x) → ((x : Id) → IsIn x (ids_of one) → right_of one x ≡ right_of other x) →
    (row : Row) → IsIn row one → IsIn row other
rows_alike one other distinct differ ids lefts rights row i =
    let x : IsIn row.id (ids_of one) = row_id_in row one i in
    let (found, j, e) = row_of_id other row.id (ids row.id x) in
    subst (λ r. IsIn r other) (one_row found row e
    (sym (found_left found other differ j) ∙ ap (left_of other) e ∙ sym (lefts row.id x) ∙ found_left row one distinct i)
    (sym (found_right found other differ j) ∙ ap (right_of other) e ∙ sym (rights row.id x) ∙ found_right row one distinct i)) j

-- ---- lemmas for callers

pub orders_alike : (one other : OriginTable) → IsTable one → Fits one → IsTable other → ((x : Id) → IsIn x (ids_of one) ↔ IsIn x (ids_of other)) →
    ((x : Id) → IsIn x (ids_of one) → left_of one x ≡ left_of other x) → ((x : Id) → IsIn x (ids_of one) → right_of one x ≡ right_of other x) →
    origin_order other ≡ origin_order one
orders_alike one other t f u ids lefts rights = any_arrangement one other t f u (λ row. (
  rows_alike one other t.distinct u.distinct (λ x. (ids x).0) lefts rights row,
  rows_alike other one u.distinct t.distinct (λ x. (ids x).1) (λ x i. sym (lefts x ((ids x).1 i))) (λ x i. sym (rights x ((ids x).1 i))) row,
))
