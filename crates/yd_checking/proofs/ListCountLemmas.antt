-- How many lists have a held unit: as many as have a name and a unit in the document.
use Rattle.std.proofs.Common.{◌≡◌, ℕ, suc, ◌<◌, ◌⊎◌, ◌||◌, Bool, true, false, List, [], ◌∷◌, Some, None, is_some, inl, inr, map, length, nat_lt, get_or, take, ◌+◌, refl, sym, ap, ◌∙◌, subst, arith, tests, true≢false}
use Rattle.std.specs.Prelude.{slice_get, filter, cond, if◌then◌else◌}
use Rattle.std.proofs.lemmas.List.{length-map}
use Rattle.std.proofs.lemmas.List.Filters.{length-filter_more}
use Rattle.yd_words.specs.Test.{one_if}
use Rattle.yd_words.specs.Member.{IsIn, AreDistinct}
use Rattle.yd_words.proofs.FilterLemmas.{kept_one, one_kept}
use Rattle.yd_ids.specs.declared.id.Id.{Id}
use Rattle.yd_origins.specs.Deleted.{last_of}
use Rattle.yd_ops.specs.declared.lists.List.{List as DocList}
use Rattle.yd_ops.specs.Operation.{Operation}
use Rattle.yd_ops.specs.Received.{Received}
use Rattle.yd_ops.proofs.OneOfLemmas.{id_is_there}
use Rattle.yd_grouping.specs.Disagreement.{some_passes}
use Rattle.yd_meaning.specs.Replica.{IsReplicaDocument}
use Rattle.yd_meaning.specs.Document.{Document}
use Rattle.yd_meaning.specs.Held.{held_set, standing}
use Rattle.yd_meaning.specs.ListNames.{same_list_decides}
use Rattle.yd_meaning.specs.Names.{same_list}
use Rattle.yd_meaning.specs.Order.{list_of, list_or_root}
use Rattle.yd_state.specs.Lent.{last_unit}
use Rattle.yd_checking.specs.Counts.{with_list, lists_among, is_used}
use Rattle.yd_checking.proofs.DistinctLemmas.{one_length, distinct_pass, distinct_places, in_place}

-- the list of no name, for look-ups that never fail
abbrev pub no_name : DocList
no_name = list_or_root None

-- ---- each list once

passes_in : (list : DocList) (lists : List DocList) → some_passes (same_list list) lists ≡ true → IsIn list lists
passes_in list [] e = absurd (true≢false (sym e))
passes_in list (other ∷ lists) e = go (same_list list other) refl e (λ f. passes_in list lists f)
  where
    go : (t : Bool) → same_list list other ≡ t → t || some_passes (same_list list) lists ≡ true → (some_passes (same_list list) lists ≡ true → IsIn list lists) → IsIn list (other ∷ lists)
    go true same f rest = inl ((same_list_decides list other).0 same)
    go false same f rest = inr (rest f)

in_passes : (list : DocList) (lists : List DocList) → some_passes (same_list list) lists ≡ false → IsIn list lists → ⊥
in_passes list [] e i = i
in_passes list (other ∷ lists) e i = go (same_list list other) refl e (λ f. in_passes list lists f) i
  where
    go : (t : Bool) → same_list list other ≡ t → t || some_passes (same_list list) lists ≡ false → (some_passes (same_list list) lists ≡ false → IsIn list lists → ⊥) → IsIn list (other ∷ lists) → ⊥
    go true same f rest j = true≢false f
    go false same f rest (inl e) = true≢false (sym ((same_list_decides list other).1 e) ∙ same)
    go false same f rest (inr j) = rest f j

one_more : (list : DocList) (lists : List DocList) → AreDistinct lists → AreDistinct (with_list list lists)
one_more list lists distinct = go (some_passes (same_list list) lists) refl
  where
    go : (t : Bool) → some_passes (same_list list) lists ≡ t → AreDistinct (if t then lists else list ∷ lists)
    go true e = distinct
    go false e = (in_passes list lists e, distinct)

more_has : (list other : DocList) (lists : List DocList) → IsIn other lists → IsIn other (with_list list lists)
more_has list other lists i = go (some_passes (same_list list) lists)
  where
    go : (t : Bool) → IsIn other (if t then lists else list ∷ lists)
    go true = i
    go false = inr i

has_more : (list : DocList) (lists : List DocList) → IsIn list (with_list list lists)
has_more list lists = go (some_passes (same_list list) lists) refl
  where
    go : (t : Bool) → some_passes (same_list list) lists ≡ t → IsIn list (if t then lists else list ∷ lists)
    go true e = passes_in list lists e
    go false e = inl refl

from_more : (list other : DocList) (lists : List DocList) → IsIn other (with_list list lists) → (other ≡ list) ⊎ IsIn other lists
from_more list other lists i = go (some_passes (same_list list) lists) i
  where
    go : (t : Bool) → IsIn other (if t then lists else list ∷ lists) → (other ≡ list) ⊎ IsIn other lists
    go true j = inr j
    go false j = j

lists_distinct : (stands os : List Operation) → AreDistinct (lists_among stands os)
lists_distinct stands [] = tt
lists_distinct stands (o ∷ os) = one_more (list_of stands o.id) (lists_among stands os) (lists_distinct stands os)

among_has : (stands os : List Operation) (o : Operation) → IsIn o os → IsIn (list_of stands o.id) (lists_among stands os)
among_has stands [] o i = absurd i
among_has stands (p ∷ os) o (inl e) = subst (λ (q : Operation). IsIn (list_of stands q.id) (lists_among stands (p ∷ os))) (sym e) (has_more (list_of stands p.id) (lists_among stands os))
among_has stands (p ∷ os) o (inr i) = more_has (list_of stands p.id) (list_of stands o.id) (lists_among stands os) (among_has stands os o i)

among_from : (stands os : List Operation) (list : DocList) → IsIn list (lists_among stands os) → (o : Operation) × IsIn o os × (list_of stands o.id ≡ list)
among_from stands [] list i = absurd i
among_from stands (o ∷ os) list i = elim (from_more (list_of stands o.id) list (lists_among stands os) i) [
  | inl e ↦ (o, inl refl, sym e)
  | inr j ↦ let (p, k, same) = among_from stands os list j in (p, inr k, same)
]

-- ---- lists of the document

some_there : {X : Type 0} (xs : List X) → nat_lt 0 (length xs) ≡ true → (x : X) × IsIn x xs
some_there [] e = absurd (true≢false (sym e))
some_there (x ∷ xs) e = (x, inl refl)

there_some : {X : Type 0} (xs : List X) (x : X) → IsIn x xs → nat_lt 0 (length xs) ≡ true
there_some [] x i = absurd i
there_some (y ∷ ys) x i = grind (arith, tests)

mapped_in : {X Y : Type 0} (f : X → Y) (xs : List X) (x : X) → IsIn x xs → IsIn (f x) (map f xs)
mapped_in f [] x i = absurd i
mapped_in f (y ∷ ys) x (inl e) = inl (ap f e)
mapped_in f (y ∷ ys) x (inr i) = inr (mapped_in f ys x i)

in_mapped : {X Y : Type 0} (f : X → Y) (xs : List X) (y : Y) → IsIn y (map f xs) → (x : X) × IsIn x xs
in_mapped f [] y i = absurd i
in_mapped f (x ∷ xs) y i = (x, inl refl)

module _ (r : Received) (document : Document) (is : IsReplicaDocument document r) where
  abbrev stands : List Operation
  stands = standing (held_set r.operations)

  used_stands : (list : DocList) → is_used document list ≡ true → (o : Operation) × IsIn o stands × (list_of stands o.id ≡ list)
  used_stands list e =
      let (o, i) = some_there (document.units list) e in
      (o, is.as_held list o i, ((is.each list o.id).0 (mapped_in (λ (p : Operation). p.id) (document.units list) o i)).1)

  stands_used : (o : Operation) → IsIn o stands → (p : Operation) × IsIn p (document.units (list_of stands o.id))
  stands_used o i =
      let list = list_of stands o.id in
      in_mapped (λ (p : Operation). p.id) (document.units list) o.id ((is.each list o.id).1 (id_is_there stands o i, refl))

  -- where each list with a unit has a name, and no two names are one, the names of lists with units are as many as the lists of
  -- what stands
  pub names_count : (names : List DocList) → ((m n : ℕ) (name : DocList) → slice_get names m ≡ Some name → slice_get names n ≡ Some name → m ≡ n) →
      ((list : DocList) (o : Operation) → IsIn o (document.units list) → (n : ℕ) × (slice_get names n ≡ Some list)) →
      length (filter (is_used document) names) ≡ length (lists_among stands stands)
  names_count names distinct all = one_length (filter (is_used document) names) (lists_among stands stands)
      (distinct_pass (is_used document) names (distinct_places names distinct)) (lists_distinct stands stands) to from
    where
      to : (list : DocList) → IsIn list (filter (is_used document) names) → IsIn list (lists_among stands stands)
      to list i = let (o, j, same) = used_stands list (kept_one (is_used document) names list i).0 in
          subst (λ (l : DocList). IsIn l (lists_among stands stands)) same (among_has stands stands o j)

      from : (list : DocList) → IsIn list (lists_among stands stands) → IsIn list (filter (is_used document) names)
      from list i =
          let (o, j, same) = among_from stands stands list i in
          let (p, k) = stands_used o j in
          let unit : IsIn p (document.units list) = subst (λ (l : DocList). IsIn p (document.units l)) same k in
          let (n, at) = all list p unit in
          one_kept (is_used document) names list (there_some (document.units list) p unit) (in_place names n list at)

-- one name more
pub used_more : (document : Document) (names : List DocList) (n : ℕ) (e : DocList) (used : Bool) → n < length names → used ≡ is_used document (get_or names n e) →
    length (filter (is_used document) (take (n + 1) names)) ≡ length (filter (is_used document) (take n names)) + one_if used
used_more document names n e used less same = length-filter_more (is_used document) names n e less
    ∙ ap (λ m. length (filter (is_used document) (take n names)) + m) (go (is_used document (get_or names n e)) ∙ ap one_if (sym same))
  where
    go : (t : Bool) → cond t 1 0 ≡ one_if t
    go true = refl
    go false = refl

-- an id stands last where some stand
last_there : (xs : List Id) → is_some (last_of xs) ≡ nat_lt 0 (length xs)
last_there [] = refl
last_there (x ∷ []) = refl
last_there (x ∷ y ∷ xs) = last_there (y ∷ xs) ∙ some (length xs) ∙ sym (some (suc (length xs)))
  where
    some : (n : ℕ) → nat_lt 0 (suc n) ≡ true
    some n = grind (arith, tests)

-- a list has a unit where one stands last
pub last_used : (document : Document) (list : DocList) → is_some (last_unit document list) ≡ is_used document list
last_used document list = last_there (map (λ (o : Operation). o.id) (document.units list)) ∙ ap (nat_lt 0) (length-map (document.units list) (λ (o : Operation). o.id))
