-- Rows among themselves, where a right that is no row counts as absent, in another arrangement.
use Rattle.std.proofs.Common.{◌≡◌, Bool, List, [], ◌∷◌, map, Option, Some, None, inl, inr, refl, sym, ap, ◌∙◌, subst}
use Rattle.std.specs.Prelude.{if◌then◌else◌}
use Rattle.std.specs.List.Sorted.{IsPermutation}
use Rattle.std.proofs.lemmas.List.Sorted.{IsPermutation-map, IsPermutation-sym}
use Rattle.yd_words.specs.Member.{IsIn, AreDistinct}
use Rattle.yd_ids.specs.declared.id.Id.{Id}
use Rattle.yd_ids.proofs.IdLemmas.{has_says}
use Rattle.yd_origins.specs.Table.{Row, OriginTable, ids_of, right_of, IsTable}
use Rattle.yd_origins.specs.Operations.{with_rights}
use Rattle.yd_origins.specs.Sorted.{origin_order}
use Rattle.yd_origins.proofs.ListLemmas.{rights_alike}
use Rattle.yd_order.specs.Stretch.{right_among, among_rows}
use Rattle.yd_order.proofs.ArrangementLemmas.{one_order}
use Rattle.yd_order.proofs.LinkingLemmas.{distinct_rows}
use Rattle.yd_order.proofs.PermutedLemmas.{permuted_row, permuted_table, rights_same, ids_there, ids_back}

rights_are : (f : Id → Option Id) (table : OriginTable) → with_rights f table ≡ map (λ (row : Row). record { id = row.id; left = row.left; right = f row.id }) table
rights_are f [] = refl
rights_are f (row ∷ rows) = ap (λ (rs : OriginTable). record { id = row.id; left = row.left; right = f row.id } ∷ rs) (rights_are f rows)

among_alike : (ids others : List Id) (z : Option Id) → ((x : Id) → IsIn x ids → IsIn x others) → ((x : Id) → IsIn x others → IsIn x ids) → right_among ids z ≡ right_among others z
among_alike ids others None there back = refl
among_alike ids others (Some r) there back = ap (λ (b : Bool). if b then Some r else None) (elim (has_says ids r) [
  | inl e ↦ elim (has_says others r) [ inl f ↦ e.0 ∙ sym f.0 | inr f ↦ absurd (f.1 (there r e.1)) ]
  | inr e ↦ elim (has_says others r) [ inl f ↦ absurd (e.1 (back r f.1)) | inr f ↦ e.0 ∙ sym f.0 ]
])

module _ (table other : OriginTable) (d : AreDistinct (ids_of table)) (moved : IsPermutation table other) where
  -- the rows among themselves are moved alike
  pub among_moved : IsPermutation (among_rows table) (among_rows other)
  among_moved = subst (λ (rows : OriginTable). IsPermutation rows (among_rows other)) (sym (rights_are f table))
      (subst (IsPermutation (map (λ (row : Row). record { id = row.id; left = row.left; right = f row.id }) table)) (sym others)
      (IsPermutation-map (λ (row : Row). record { id = row.id; left = row.left; right = f row.id }) table other moved))
    where
      f : Id → Option Id
      f x = right_among (ids_of table) (right_of table x)

      g : Id → Option Id
      g x = right_among (ids_of other) (right_of other x)

      same : (x : Id) → IsIn x (ids_of other) → g x ≡ f x
      same x i = among_alike (ids_of other) (ids_of table) (right_of other x) (ids_back table other moved) (ids_there table other moved)
          ∙ ap (right_among (ids_of table)) (rights_same table other d moved x i)

      others : among_rows other ≡ map (λ (row : Row). record { id = row.id; left = row.left; right = f row.id }) other
      others = rights_alike g f other same ∙ rights_are f other

module _ (table other : OriginTable) (t : IsTable (among_rows table)) (moved : IsPermutation table other) where
  pub among_table : IsTable (among_rows other)
  among_table = permuted_table (among_rows table) (among_rows other) t (among_moved table other (distinct_rows table t) moved)

  -- and have one order
  pub among_order : origin_order (among_rows other) ≡ origin_order (among_rows table)
  among_order = one_order (among_rows table) (among_rows other) t among_table (λ row. (
    permuted_row (among_rows table) (among_rows other) (among_moved table other (distinct_rows table t) moved) row,
    permuted_row (among_rows other) (among_rows table) (IsPermutation-sym (among_rows table) (among_rows other) (among_moved table other (distinct_rows table t) moved)) row,
  ))
