-- The operations of one list are a table, with the order that all operations have.
use Rattle.std.proofs.Common.{◌≡◌, Bool, true, false, [], ◌∷◌, inl, inr, Option, refl, sym, ap, ◌∙◌, subst, true≢false}
use Rattle.std.specs.Prelude.{IfSome, filter, if◌then◌else◌}
use Rattle.yd_words.specs.Member.{IsIn, AreDistinct}
use Rattle.yd_words.proofs.OptionLemmas.{if_some_map}
use Rattle.yd_ids.specs.declared.id.Id.{Id}
use Rattle.yd_ids.specs.Ids.{is_same}
use Rattle.yd_ids.proofs.IdLemmas.{other_id}
use Rattle.yd_origins.specs.Table.{Row, OriginTable, ids_of, left_of, right_of, IsTable, IsPart}
use Rattle.yd_origins.specs.Before.{is_before}
use Rattle.yd_origins.specs.Operations.{ListNames, OperationSet, list_of_operation, kept_right, table_of_all, table_of_list}
use Rattle.yd_origins.proofs.PartLemmas.{part_is_table, part_order}
use Rattle.yd_origins.proofs.ListLemmas.{all_in, in_all, all_left, all_right, all_is_table, left_in_list, right_in_list}

-- ---- chosen rows

pub where_in : (test : Id → Bool) (rows : OriginTable) (x : Id) → IsIn x (ids_of (filter (λ (row : Row). test row.id) rows)) →
    (test x ≡ true) × IsIn x (ids_of rows)
where_in test [] x i = absurd i
where_in test (r ∷ rs) x i = go (test r.id) refl i (λ j. where_in test rs x j)
  where
    go : (u : Bool) → test r.id ≡ u → IsIn x (ids_of (if u then r ∷ filter (λ (row : Row). test row.id) rs else filter (λ (row : Row). test row.id) rs)) →
        (IsIn x (ids_of (filter (λ (row : Row). test row.id) rs)) → (test x ≡ true) × IsIn x (ids_of rs)) → (test x ≡ true) × IsIn x (ids_of (r ∷ rs))
    go true e (inl g) f = (ap test g ∙ e, inl g)
    go true e (inr j) f = ((f j).0, inr (f j).1)
    go false e j f = ((f j).0, inr (f j).1)

pub in_where : (test : Id → Bool) (rows : OriginTable) (x : Id) → test x ≡ true → IsIn x (ids_of rows) →
    IsIn x (ids_of (filter (λ (row : Row). test row.id) rows))
in_where test [] x u i = absurd i
in_where test (r ∷ rs) x passes i = go (test r.id) refl i (λ j. in_where test rs x passes j)
  where
    go : (u : Bool) → test r.id ≡ u → IsIn x (ids_of (r ∷ rs)) → (IsIn x (ids_of rs) → IsIn x (ids_of (filter (λ (row : Row). test row.id) rs))) →
        IsIn x (ids_of (if u then r ∷ filter (λ (row : Row). test row.id) rs else filter (λ (row : Row). test row.id) rs))
    go true e (inl g) f = inl g
    go true e (inr j) f = inr (f j)
    go false e (inl g) f = absurd (true≢false (sym passes ∙ ap test g ∙ e))
    go false e (inr j) f = f j

where_row : (test : Id → Bool) (rows : OriginTable) (r : Row) → IsIn r (filter (λ (row : Row). test row.id) rows) → IsIn r rows
where_row test [] r i = i
where_row test (q ∷ qs) r i = go (test q.id) i (λ j. where_row test qs r j)
  where
    go : (u : Bool) → IsIn r (if u then q ∷ filter (λ (row : Row). test row.id) qs else filter (λ (row : Row). test row.id) qs) →
        (IsIn r (filter (λ (row : Row). test row.id) qs) → IsIn r qs) → IsIn r (q ∷ qs)
    go true (inl e) f = inl e
    go true (inr j) f = inr (f j)
    go false j f = inr (f j)

where_distinct : (test : Id → Bool) (rows : OriginTable) → AreDistinct (ids_of rows) → AreDistinct (ids_of (filter (λ (row : Row). test row.id) rows))
where_distinct test [] a = tt
where_distinct test (r ∷ rs) a = go (test r.id) (where_distinct test rs a.1)
  where
    go : (u : Bool) → AreDistinct (ids_of (filter (λ (row : Row). test row.id) rs)) →
        AreDistinct (ids_of (if u then r ∷ filter (λ (row : Row). test row.id) rs else filter (λ (row : Row). test row.id) rs))
    go true f = ((λ i. a.0 (where_in test rs r.id i).1), f)
    go false f = f

where_left : (test : Id → Bool) (rows : OriginTable) (x : Id) → test x ≡ true → left_of (filter (λ (row : Row). test row.id) rows) x ≡ left_of rows x
where_left test [] x u = refl
where_left test (r ∷ rs) x passes = go (test r.id) refl (where_left test rs x passes)
  where
    go : (u : Bool) → test r.id ≡ u → left_of (filter (λ (row : Row). test row.id) rs) x ≡ left_of rs x →
        left_of (if u then r ∷ filter (λ (row : Row). test row.id) rs else filter (λ (row : Row). test row.id) rs) x ≡ left_of (r ∷ rs) x
    go true e f = ap (λ z. if is_same r.id x then r.left else z) f
    go false e f = rw (other_id r.id x (λ g. true≢false (sym passes ∙ ap test (sym g) ∙ e))) f

where_right : (test : Id → Bool) (rows : OriginTable) (x : Id) → test x ≡ true → right_of (filter (λ (row : Row). test row.id) rows) x ≡ right_of rows x
where_right test [] x u = refl
where_right test (r ∷ rs) x passes = go (test r.id) refl (where_right test rs x passes)
  where
    go : (u : Bool) → test r.id ≡ u → right_of (filter (λ (row : Row). test row.id) rs) x ≡ right_of rs x →
        right_of (if u then r ∷ filter (λ (row : Row). test row.id) rs else filter (λ (row : Row). test row.id) rs) x ≡ right_of (r ∷ rs) x
    go true e f = ap (λ z. if is_same r.id x then r.right else z) f
    go false e f = rw (other_id r.id x (λ g. true≢false (sym passes ∙ ap test (sym g) ∙ e))) f

pub where_alike : (f g : Id → Bool) (rows : OriginTable) → ((x : Id) → IsIn x (ids_of rows) → f x ≡ g x) →
    filter (λ (row : Row). f row.id) rows ≡ filter (λ (row : Row). g row.id) rows
where_alike f g [] same = refl
where_alike f g (r ∷ rs) same = rw (same r.id (inl refl), where_alike f g rs (λ x i. same x (inr i))) refl

-- ---- the table of a list

module _ {Name : Type 0} {names : ListNames Name} (set : OperationSet names) (t : IsTable set.origins) (name : Name) where
  abbrev P : Id → Type 0
  P x = IsIn x (ids_of set.origins)

  abbrev list : Id → Name
  list = list_of_operation set

  abbrev own : OriginTable
  own = table_of_list set name

  abbrev Q : Id → Type 0
  Q x = IsIn x (ids_of own)

  abbrev is_own : Id → Bool
  is_own x = names.is_same (list x) name

  pub own_member : (x : Id) → Q x → P x
  own_member x i = all_in set t x (where_in is_own (table_of_all set) x i).1

  pub own_list : (x : Id) → Q x → list x ≡ name
  own_list x i = (names.decides (list x) name).0 (where_in is_own (table_of_all set) x i).0

  pub in_own : (x : Id) → P x → list x ≡ name → Q x
  in_own x p e = in_where is_own (table_of_all set) x ((names.decides (list x) name).1 e) (in_all set t x p)

  pub own_left : (x : Id) → Q x → left_of own x ≡ left_of set.origins x
  own_left x i = where_left is_own (table_of_all set) x (where_in is_own (table_of_all set) x i).0 ∙ all_left set t x

  pub own_right : (x : Id) → Q x → right_of own x ≡ kept_right set x (right_of set.origins x)
  own_right x i = where_right is_own (table_of_all set) x (where_in is_own (table_of_all set) x i).0 ∙ all_right set t x (own_member x i)

  neighbour_in_own : (x : Id) → Q x → (z : Option Id) → IfSome z (λ y. P y × (list y ≡ list x)) → IfSome z Q
  neighbour_in_own x i z w = if_some_map (λ y. P y × (list y ≡ list x)) Q z (λ y v. in_own y v.0 (v.1 ∙ own_list x i)) w

  pub own_is_part : IsPart own (table_of_all set)
  own_is_part = record {
    within = where_row is_own (table_of_all set);
    distinct = where_distinct is_own (table_of_all set) (all_is_table set t).distinct;
    has_left = λ x i. subst (λ z. IfSome z Q) (sym (own_left x i)) (neighbour_in_own x i (left_of set.origins x) (left_in_list set t x (own_member x i)));
    has_right = λ x i. subst (λ z. IfSome z Q) (sym (own_right x i)) (neighbour_in_own x i (kept_right set x (right_of set.origins x))
        (right_in_list set t x (own_member x i)));
  }

  -- the operations of one list are a table, with the order that all operations have
  pub own_is_table : IsTable own
  own_is_table = part_is_table own (table_of_all set) (all_is_table set t) own_is_part

  pub own_order : (a b : Id) → Q a → Q b → is_before own a b ≡ is_before (table_of_all set) a b
  own_order = part_order own (table_of_all set) (all_is_table set t) own_is_part
