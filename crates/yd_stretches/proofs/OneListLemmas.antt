-- The units of an entry are of one list, so the rows of a list are those of the entries with its number.
use Rattle.std.proofs.Common.{◌≡◌, ℕ, Bool, true, false, List, [], ◌∷◌, ◌++◌, Option, Some, None, inl, inr, map, refl, ap, ap₂, ◌∙◌}
use Rattle.std.specs.Prelude.{IfSome, filter, if◌then◌else◌, nat_eq}
use Rattle.std.proofs.lemmas.List.Elements.{filter-append}
use Rattle.yd_words.specs.Each.{Each}
use Rattle.yd_words.specs.Member.{IsIn}
use Rattle.yd_ids.specs.declared.id.Id.{Id}
use Rattle.yd_ops.specs.declared.lists.List.{List as DocList}
use Rattle.yd_ops.specs.Operation.{UnitContent, Operation, later_id, operations_from}
use Rattle.yd_origins.specs.Table.{Row, OriginTable, ids_of, IsTable}
use Rattle.yd_meaning.specs.Order.{rows_of, list_of}
use Rattle.yd_meaning.proofs.HeldListLemmas.{list_of-left}
use Rattle.yd_order.specs.Stretch.{rows_of_stretch, rows_of_stretches}
use Rattle.yd_entries.specs.declared.entry.Entry.{Entry}
use Rattle.yd_entries.specs.declared.place.Place.{Place}
use Rattle.yd_entries.specs.declared.place.Place.TheVariants.{Waits, Lost, In}
use Rattle.yd_entries.specs.Entries.{is_listed}
use Rattle.yd_received.specs.Received.{with_place}
use Rattle.yd_held.specs.Numbered.{list_at_place, is_in_list}
use Rattle.yd_stretches.specs.Stretches.{stretch_of, stretches_in}
use Rattle.yd_stretches.proofs.AmongLemmas.{rows_where}

-- ---- one list

-- of units in a row that stand, each is of the list of the first
pub list_of-later : (stands : List Operation) → IsTable (rows_of stands) → (id : Id) (left right : Option Id) (list : Option DocList) (units : List UnitContent) →
    ((o : Operation) → IsIn o (operations_from id left right list units) → IsIn o stands) →
    (o : Operation) → IsIn o (operations_from id left right list units) → list_of stands o.id ≡ list_of stands id
list_of-later stands t id left right list [] within o i = absurd i
list_of-later stands t id left right list (unit ∷ units) within o (inl e) = ap (λ q. list_of stands q.id) e
list_of-later stands t id left right list (unit ∷ units) within o (inr i) =
    list_of-later stands t (later_id id 1) (Some id) right None units (λ p j. within p (inr j)) o i ∙ next units i (λ p j. within p (inr j))
  where
    next : (us : List UnitContent) → IsIn o (operations_from (later_id id 1) (Some id) right None us) →
        ((p : Operation) → IsIn p (operations_from (later_id id 1) (Some id) right None us) → IsIn p stands) → list_of stands (later_id id 1) ≡ list_of stands id
    next [] j inside = absurd j
    next (u ∷ us) j inside =
        let second : Operation = record { id = later_id id 1; left_origin = Some id; right_origin = right; list = None; content = u } in
        list_of-left stands t second (inside second (inl refl)) id refl

-- ---- the rows of a list

-- a test with one answer keeps all or nothing
where_constant : (test : Id → Bool) (u : Bool) (rows : OriginTable) → ((x : Id) → IsIn x (ids_of rows) → test x ≡ u) → rows_where test rows ≡ (if u then rows else [])
where_constant test true [] same = refl
where_constant test false [] same = refl
where_constant test true (r ∷ rs) same = rw (same r.id (inl refl)) (ap (λ (rows : OriginTable). r ∷ rows) (where_constant test true rs (λ x i. same x (inr i))))
where_constant test false (r ∷ rs) same = rw (same r.id (inl refl)) (where_constant test false rs (λ x i. same x (inr i)))

-- a test that tells which entries in lists have a number keeps their rows
pub where-listed : (test : Id → Bool) (n : ℕ) (ts : List Entry) →
    Each (λ (t : Entry). IfSome (list_at_place t.place) (λ m. (x : Id) → IsIn x (ids_of (rows_of_stretch (stretch_of t))) → test x ≡ nat_eq m n)) ts →
    rows_where test (rows_of_stretches (map stretch_of (filter is_listed ts))) ≡ rows_of_stretches (stretches_in n ts)
where-listed test n [] each = refl
where-listed test n (t ∷ ts) each = go t.place each.0 (where-listed test n ts each.1)
  where
    own : OriginTable
    own = rows_of_stretch (stretch_of t)

    rest : OriginTable
    rest = rows_of_stretches (map stretch_of (filter is_listed ts))

    go : (p : Place) → IfSome (list_at_place p) (λ m. (x : Id) → IsIn x (ids_of (rows_of_stretch (stretch_of t))) → test x ≡ nat_eq m n) →
        rows_where test (rows_of_stretches (map stretch_of (filter is_listed ts))) ≡ rows_of_stretches (stretches_in n ts) →
        rows_where test (rows_of_stretches (map stretch_of (filter is_listed (with_place t p ∷ ts)))) ≡ rows_of_stretches (stretches_in n (with_place t p ∷ ts))
    go Waits same e = e
    go Lost same e = e
    go (In m) same e = filter-append (λ (row : Row). test row.id) own rest ∙ ap₂ (λ (xs ys : OriginTable). xs ++ ys) (where_constant test (nat_eq m n) own same) e
        ∙ ends (nat_eq m n)
      where
        ends : (u : Bool) → (if u then own else []) ++ rows_of_stretches (stretches_in n ts)
            ≡ rows_of_stretches (map stretch_of (if u then with_place t (In m) ∷ filter (is_in_list n) ts else filter (is_in_list n) ts))
        ends true = refl
        ends false = refl
