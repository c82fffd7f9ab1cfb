-- Rows with the places of their neighbours stand for the rows with their neighbours, where a right that is no row counts as absent.
use Rattle.std.proofs.Common.{◌≡◌, ℕ, suc, ◌<◌, List, [], ◌∷◌, map, length, Option, Some, None, inl, inr, refl, sym, ap, ap₂, ◌∙◌, subst, arith}
use Rattle.std.specs.Prelude.{IfSome, option_map, if◌then◌else◌}
use Rattle.std.proofs.lemmas.List.{length-map}
use Rattle.yd_words.specs.Each.{Each}
use Rattle.yd_words.specs.Member.{IsIn, AreDistinct}
use Rattle.yd_ids.specs.declared.id.Id.{Id}
use Rattle.yd_ids.specs.Ids.{has_id}
use Rattle.yd_ids.proofs.IdLemmas.{same_says, has_says}
use Rattle.yd_origins.specs.Table.{Row, OriginTable, ids_of, left_of, right_of, IsTable}
use Rattle.yd_origins.specs.Operations.{with_rights}
use Rattle.yd_origins.proofs.PartLemmas.{found_left, found_right, row_id_in}
use Rattle.yd_origins.proofs.ListLemmas.{rights_ids, rights_left}
use Rattle.yd_order.specs.declared.rows.OriginRow.{OriginRow}
use Rattle.yd_order.specs.declared.linking.LinkedRow.{LinkedRow}
use Rattle.yd_order.specs.Rows.{row_of, table_of, place_of, place_of_neighbour}
use Rattle.yd_order.specs.Stretch.{right_among, among_rows}
use Rattle.yd_order.specs.Linking.{linked_row, id_of_link, unlinked, table_of_linked, HasLinks, AreLinked}

-- where the rows among themselves are a table, their ids differ
pub distinct_rows : (table : OriginTable) → IsTable (among_rows table) → AreDistinct (ids_of table)
distinct_rows table t = subst AreDistinct (rights_ids (λ x. right_among (ids_of table) (right_of table x)) table) t.distinct

-- an id that is there stays
there : (ids : List Id) (z : Option Id) → IfSome z (λ y. IsIn y ids) → right_among ids z ≡ z
there ids None w = refl
there ids (Some x) w = elim (has_says ids x) [ inl e ↦ rw e.0 refl | inr e ↦ absurd (e.1 w) ]

-- ---- the place of a neighbour, and the id there

-- a row in front moves each place by one
behind_row : (row : LinkedRow) (rows : List LinkedRow) (z : Option ℕ) → id_of_link (row ∷ rows) (option_map suc z) ≡ id_of_link rows z
behind_row row rows None = refl
behind_row row rows (Some at) = refl

id_of_place : (f : OriginRow → LinkedRow) → ((row : OriginRow) → (f row).id ≡ row.id) → (rows : List OriginRow) (x : Id) →
    id_of_link (map f rows) (place_of rows x) ≡ (if has_id (ids_of (table_of rows)) x then Some x else None)
id_of_place f same [] x = refl
id_of_place f same (row ∷ rows) x = elim (same_says row.id x) [
  | inl e ↦ rw e.0 (ap Some (same row ∙ e.1))
  | inr e ↦ rw e.0 (behind_row (f row) (map f rows) (place_of rows x) ∙ id_of_place f same rows x)
]

module _ (rows : List OriginRow) where
  abbrev table : OriginTable
  table = table_of rows

  abbrev links : List LinkedRow
  links = map (linked_row rows) rows

  neighbour_among : (z : Option Id) → id_of_link links (place_of_neighbour rows z) ≡ right_among (ids_of table) z
  neighbour_among None = refl
  neighbour_among (Some x) = id_of_place (linked_row rows) (λ row. refl) rows x

  module _ (t : IsTable (among_rows table)) where
    lefts_there : (x : Id) → IsIn x (ids_of table) → IfSome (left_of table x) (λ y. IsIn y (ids_of table))
    lefts_there x i = subst (λ (z : Option Id). IfSome z (λ y. IsIn y (ids_of table))) (rights_left (λ y. right_among (ids_of table) (right_of table y)) table x)
        (subst (λ (xs : List Id). IfSome (left_of (among_rows table) x) (λ y. IsIn y xs)) same
        (t.has_left x (subst (λ (xs : List Id). IsIn x xs) (sym same) i)))
      where
        same : ids_of (among_rows table) ≡ ids_of table
        same = rights_ids (λ y. right_among (ids_of table) (right_of table y)) table

    unlinked_row : (row : OriginRow) → IsIn (row_of row) table →
        unlinked links (linked_row rows row) ≡ record { id = row.id; left = row.left; right = right_among (ids_of table) (right_of table row.id) }
    unlinked_row row i = ap₂ (λ (l r : Option Id). record { id = row.id; left = l; right = r })
        (neighbour_among row.left ∙ there (ids_of table) row.left
        (subst (λ (z : Option Id). IfSome z (λ y. IsIn y (ids_of table))) (found_left (row_of row) table (distinct_rows table t) i) (lefts_there row.id (row_id_in (row_of row) table i))))
        (neighbour_among row.right ∙ ap (right_among (ids_of table)) (sym (found_right (row_of row) table (distinct_rows table t) i)))

    unlinked_rows : (some : List OriginRow) → ((row : Row) → IsIn row (table_of some) → IsIn row table) →
        map (unlinked links) (map (linked_row rows) some) ≡ with_rights (λ x. right_among (ids_of table) (right_of table x)) (table_of some)
    unlinked_rows [] within = refl
    unlinked_rows (row ∷ some) within = ap₂ (λ (r : Row) (rs : OriginTable). r ∷ rs) (unlinked_row row (within (row_of row) (inl refl)))
        (unlinked_rows some (λ r i. within r (inr i)))

    -- the linked rows stand for the rows
    pub linked_table : table_of_linked links ≡ among_rows table
    linked_table = unlinked_rows rows (λ row i. i)

-- ---- the links lead to rows

place_inside : (rows : List OriginRow) (x : Id) → IfSome (place_of rows x) (λ at. at < length rows)
place_inside [] x = tt
place_inside (row ∷ rows) x = elim (same_says row.id x) [
  | inl e ↦ rw e.0 (omega arith)
  | inr e ↦ rw e.0 (moved (place_of rows x) (place_inside rows x))
]
  where
    moved : (z : Option ℕ) → IfSome z (λ at. at < length rows) → IfSome (option_map suc z) (λ at. at < suc (length rows))
    moved None w = tt
    moved (Some at) w = omega arith

neighbour_inside : (rows : List OriginRow) (z : Option Id) → IfSome (place_of_neighbour rows z) (λ at. at < length rows)
neighbour_inside rows None = tt
neighbour_inside rows (Some x) = place_inside rows x

some_linked : (rows some : List OriginRow) → Each (HasLinks (length rows)) (map (linked_row rows) some)
some_linked rows [] = tt
some_linked rows (row ∷ some) = (record { left = neighbour_inside rows row.left; right = neighbour_inside rows row.right }, some_linked rows some)

-- all links lead to rows
pub are_linked : (rows : List OriginRow) → AreLinked (map (linked_row rows) rows)
are_linked rows = subst (λ (n : ℕ). Each (HasLinks n) (map (linked_row rows) rows)) (sym (length-map rows (linked_row rows))) (some_linked rows rows)
