-- Linked rows as a table: what stands at a place.
use Rattle.std.proofs.Common.{◌≡◌, ℕ, zero, suc, ◌<◌, List, [], ◌∷◌, map, length, get_or, inl, inr, refl, sym, ap, subst, arith}
use Rattle.std.specs.Prelude.{IfSome}
use Rattle.yd_words.specs.Each.{Each}
use Rattle.yd_words.specs.Member.{IsIn, AreDistinct}
use Rattle.yd_ids.specs.declared.id.Id.{Id}
use Rattle.yd_ids.proofs.IdLemmas.{same_itself, other_id}
use Rattle.yd_origins.specs.Table.{ids_of, left_of, right_of}
use Rattle.yd_order.specs.declared.linking.LinkedRow.{LinkedRow}
use Rattle.yd_order.specs.Linking.{id_at, left_at, right_at, id_of_link, unlinked, table_of_linked, HasLinks, AreLinked}

-- ---- what is read at a place

pub id_read : (rows : List LinkedRow) (at : ℕ) (d : LinkedRow) → at < length rows → (get_or rows at d).id ≡ id_at rows at
id_read [] at d lt = absurd (omega arith)
id_read (row ∷ rows) zero d lt = refl
id_read (row ∷ rows) (suc at) d lt = id_read rows at d (omega arith)

pub left_read : (rows : List LinkedRow) (at : ℕ) (d : LinkedRow) → at < length rows → (get_or rows at d).left ≡ left_at rows at
left_read [] at d lt = absurd (omega arith)
left_read (row ∷ rows) zero d lt = refl
left_read (row ∷ rows) (suc at) d lt = left_read rows at d (omega arith)

pub right_read : (rows : List LinkedRow) (at : ℕ) (d : LinkedRow) → at < length rows → (get_or rows at d).right ≡ right_at rows at
right_read [] at d lt = absurd (omega arith)
right_read (row ∷ rows) zero d lt = refl
right_read (row ∷ rows) (suc at) d lt = right_read rows at d (omega arith)

links_at : (count : ℕ) (rows : List LinkedRow) (at : ℕ) → Each (HasLinks count) rows → at < length rows →
    IfSome (left_at rows at) (λ p. p < count) × IfSome (right_at rows at) (λ p. p < count)
links_at count [] at e lt = absurd (omega arith)
links_at count (row ∷ rows) zero e lt = (e.0.left, e.0.right)
links_at count (row ∷ rows) (suc at) e lt = links_at count rows at e.1 (omega arith)

-- the left of a row is a row, and so is its right
pub left_inside : (rows : List LinkedRow) (at : ℕ) → AreLinked rows → at < length rows → IfSome (left_at rows at) (λ p. p < length rows)
left_inside rows at linked lt = (links_at (length rows) rows at linked lt).0

pub right_inside : (rows : List LinkedRow) (at : ℕ) → AreLinked rows → at < length rows → IfSome (right_at rows at) (λ p. p < length rows)
right_inside rows at linked lt = (links_at (length rows) rows at linked lt).1

-- ---- the table

in_rows : (all rows : List LinkedRow) (at : ℕ) → at < length rows → IsIn (id_at rows at) (ids_of (map (unlinked all) rows))
in_rows all [] at lt = absurd (omega arith)
in_rows all (row ∷ rows) zero lt = inl refl
in_rows all (row ∷ rows) (suc at) lt = inr (in_rows all rows at (omega arith))

-- the id at a place is one of the table's
pub in_table : (rows : List LinkedRow) (at : ℕ) → at < length rows → IsIn (id_at rows at) (ids_of (table_of_linked rows))
in_table rows = in_rows rows rows

apart_rows : (all rows : List LinkedRow) (a b : ℕ) → AreDistinct (ids_of (map (unlinked all) rows)) → a < length rows → b < length rows → id_at rows a ≡ id_at rows b →
    a ≡ b
apart_rows all [] a b d lt less e = absurd (omega arith)
apart_rows all (row ∷ rows) zero zero d lt less e = refl
apart_rows all (row ∷ rows) zero (suc b) d lt less e = absurd (d.0 (subst (λ (x : Id). IsIn x (ids_of (map (unlinked all) rows))) (sym e) (in_rows all rows b (omega arith))))
apart_rows all (row ∷ rows) (suc a) zero d lt less e = absurd (d.0 (subst (λ (x : Id). IsIn x (ids_of (map (unlinked all) rows))) e (in_rows all rows a (omega arith))))
apart_rows all (row ∷ rows) (suc a) (suc b) d lt less e = ap suc (apart_rows all rows a b d.1 (omega arith) (omega arith) e)

-- one id stands at one place
pub one_place : (rows : List LinkedRow) (a b : ℕ) → AreDistinct (ids_of (table_of_linked rows)) → a < length rows → b < length rows → id_at rows a ≡ id_at rows b → a ≡ b
one_place rows = apart_rows rows rows

left_rows : (all rows : List LinkedRow) (at : ℕ) → AreDistinct (ids_of (map (unlinked all) rows)) → at < length rows →
    left_of (map (unlinked all) rows) (id_at rows at) ≡ id_of_link all (left_at rows at)
left_rows all [] at d lt = absurd (omega arith)
left_rows all (row ∷ rows) zero d lt = rw (same_itself row.id) refl
left_rows all (row ∷ rows) (suc at) d lt = rw (other_id row.id (id_at rows at) (λ e. d.0 (subst (λ (x : Id). IsIn x (ids_of (map (unlinked all) rows))) (sym e) (in_rows all rows at (omega arith)))))
    (left_rows all rows at d.1 (omega arith))

right_rows : (all rows : List LinkedRow) (at : ℕ) → AreDistinct (ids_of (map (unlinked all) rows)) → at < length rows →
    right_of (map (unlinked all) rows) (id_at rows at) ≡ id_of_link all (right_at rows at)
right_rows all [] at d lt = absurd (omega arith)
right_rows all (row ∷ rows) zero d lt = rw (same_itself row.id) refl
right_rows all (row ∷ rows) (suc at) d lt = rw (other_id row.id (id_at rows at) (λ e. d.0 (subst (λ (x : Id). IsIn x (ids_of (map (unlinked all) rows))) (sym e) (in_rows all rows at (omega arith)))))
    (right_rows all rows at d.1 (omega arith))

-- the table's left and right of a row are the ids at the ends of its links
pub left_is : (rows : List LinkedRow) (at : ℕ) → AreDistinct (ids_of (table_of_linked rows)) → at < length rows →
    left_of (table_of_linked rows) (id_at rows at) ≡ id_of_link rows (left_at rows at)
left_is rows = left_rows rows rows

pub right_is : (rows : List LinkedRow) (at : ℕ) → AreDistinct (ids_of (table_of_linked rows)) → at < length rows →
    right_of (table_of_linked rows) (id_at rows at) ≡ id_of_link rows (right_at rows at)
right_is rows = right_rows rows rows

ids_length : (all rows : List LinkedRow) → length (ids_of (map (unlinked all) rows)) ≡ length rows
ids_length all [] = refl
ids_length all (row ∷ rows) = ap suc (ids_length all rows)

-- the table has as many ids as there are rows
pub length-ids : (rows : List LinkedRow) → length (ids_of (table_of_linked rows)) ≡ length rows
length-ids rows = ids_length rows rows
