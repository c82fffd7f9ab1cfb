-- The table of a list: the rows of that list, where a right that is not the id of one of them counts as absent.
use Rattle.std.proofs.Common.{◌≡◌, Bool, true, false, [], ◌∷◌, Option, Some, None, inl, inr, refl, sym, ap, ◌∙◌, subst, true≢false}
use Rattle.std.specs.Prelude.{IfSome, filter, if◌then◌else◌}
use Rattle.yd_words.specs.Member.{IsIn}
use Rattle.yd_words.proofs.TestLemmas.{test_fails}
use Rattle.yd_ids.specs.declared.id.Id.{Id}
use Rattle.yd_ids.specs.Ids.{is_same, has_id}
use Rattle.yd_ids.proofs.IdLemmas.{other_id, has_says}
use Rattle.yd_origins.specs.Table.{Row, OriginTable, ids_of, right_of, IsTable}
use Rattle.yd_origins.specs.Operations.{ListNames, OperationSet, list_of_operation, kept_right, with_rights, table_of_list}
use Rattle.yd_origins.proofs.ListLemmas.{rights_alike}
use Rattle.yd_origins.proofs.ListTableLemmas.{where_in, in_where, own_is_table}
use Rattle.yd_order.specs.Stretch.{right_among, among_rows}

-- the rows whose ids pass a test
abbrev pub rows_where : (Id → Bool) → OriginTable → OriginTable
rows_where test rows = filter (λ (row : Row). test row.id) rows

-- ---- chosen rows

where-with_rights : (test : Id → Bool) (f : Id → Option Id) (rows : OriginTable) → rows_where test (with_rights f rows) ≡ with_rights f (rows_where test rows)
where-with_rights test f [] = refl
where-with_rights test f (r ∷ rs) = go (test r.id) (where-with_rights test f rs)
  where
    go : (u : Bool) → rows_where test (with_rights f rs) ≡ with_rights f (rows_where test rs) →
        (if u then record { id = r.id; left = r.left; right = f r.id } ∷ rows_where test (with_rights f rs) else rows_where test (with_rights f rs))
        ≡ with_rights f (if u then r ∷ rows_where test rs else rows_where test rs)
    go true e = ap (λ (rows : OriginTable). record { id = r.id; left = r.left; right = f r.id } ∷ rows) e
    go false e = e

right_of-where : (test : Id → Bool) (rows : OriginTable) (x : Id) → test x ≡ true → right_of (rows_where test rows) x ≡ right_of rows x
right_of-where test [] x passes = refl
right_of-where test (r ∷ rs) x passes = go (test r.id) refl (right_of-where test rs x passes)
  where
    go : (u : Bool) → test r.id ≡ u → right_of (rows_where test rs) x ≡ right_of rs x →
        right_of (if u then r ∷ rows_where test rs else rows_where test rs) x ≡ right_of (r ∷ rs) x
    go true e f = ap (λ z. if is_same r.id x then r.right else z) f
    go false e f = rw (other_id r.id x (λ g. true≢false (sym passes ∙ ap test (sym g) ∙ e))) f

-- ---- lemmas for callers

module _ {Name : Type 0} {names : ListNames Name} (set : OperationSet names) (t : IsTable set.origins) (name : Name) where
  -- whether an operation is of the list
  abbrev pub is_own : Id → Bool
  is_own x = names.is_same (list_of_operation set x) name

  abbrev own : OriginTable
  own = rows_where is_own set.origins

  -- an operation is of the list where its id is that of one of the list's rows
  is_own-has : (r : Id) → IsIn r (ids_of set.origins) → is_own r ≡ has_id (ids_of own) r
  is_own-has r i = elim (has_says (ids_of own) r) [
    | inl h ↦ (where_in is_own set.origins r h.1).0 ∙ sym h.0
    | inr h ↦ test_fails (is_own r) (λ e. h.1 (in_where is_own set.origins r e i)) ∙ sym h.0
  ]

  kept_right-among : (x : Id) → IsIn x (ids_of own) → kept_right set x (right_of set.origins x) ≡ right_among (ids_of own) (right_of own x)
  kept_right-among x i = go (right_of set.origins x) (t.has_right x here.1)
      ∙ ap (right_among (ids_of own)) (sym (right_of-where is_own set.origins x here.0))
    where
      here : (is_own x ≡ true) × IsIn x (ids_of set.origins)
      here = where_in is_own set.origins x i

      go : (z : Option Id) → IfSome z (λ y. IsIn y (ids_of set.origins)) → kept_right set x z ≡ right_among (ids_of own) z
      go None there = refl
      go (Some r) there = ap (λ u. if u then Some r else None)
          (ap (names.is_same (list_of_operation set r)) ((names.decides (list_of_operation set x) name).0 here.0) ∙ is_own-has r there)

  pub table_of_list-among : table_of_list set name ≡ among_rows (rows_where is_own set.origins)
  table_of_list-among = where-with_rights is_own (λ x. kept_right set x (right_of set.origins x)) set.origins
      ∙ rights_alike (λ x. kept_right set x (right_of set.origins x)) (λ x. right_among (ids_of own) (right_of own x)) own kept_right-among

  pub among_is_table : IsTable (among_rows (rows_where is_own set.origins))
  among_is_table = subst IsTable table_of_list-among (own_is_table set t name)
