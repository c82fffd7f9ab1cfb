-- The lists of a store by their names.
use Rattle.std.proofs.Common.{◌≡◌, ◌≢◌, ℕ, zero, suc, ◌+◌, Bool, true, false, List, [], ◌∷◌, inl, inr, Option, Some, None, map, length, refl, sym, ap, ◌∙◌, arith}
use Rattle.std.specs.Prelude.{IfSome, IfNone, slice_get, if◌then◌else◌}
use Rattle.yd_words.specs.Member.{IsIn}
use Rattle.yd_words.proofs.OptionLemmas.{some_is, if_some_map}
use Rattle.yd_words.proofs.TestLemmas.{test_fails}
use Rattle.yd_ops.specs.declared.lists.List.{List as DocList}
use Rattle.yd_ops.specs.Operation.{Operation}
use Rattle.yd_arena.specs.Arena.{count_of}
use Rattle.yd_store.specs.Store.{Stored}
use Rattle.yd_store.specs.Units.{operations_in}
use Rattle.yd_meaning.specs.Names.{same_list}
use Rattle.yd_meaning.specs.ListNames.{same_list_decides}
use Rattle.yd_kept.specs.Telling.{IsSoundStore}
use Rattle.yd_kept.proofs.FillingLemmas.{within_names}
use Rattle.yd_kept.proofs.TellingLemmas.{lists_tell_units}
use Rattle.yd_kept.specs.Kept.{KeptValue}
use Rattle.yd_listing.specs.Law.{HasLists}
use Rattle.yd_listing.proofs.LawLemmas.{find_name}
use Rattle.yd_state.specs.Grown.{units_named, units_of, ids_of}

-- no two numbers have one name
abbrev pub AreDistinctNames : List DocList → Type 0
AreDistinctNames names = (m n : ℕ) (name : DocList) → slice_get names m ≡ Some name → slice_get names n ≡ Some name → m ≡ n

pub if-true : {X : Type 0} (t : Bool) (a b : X) → t ≡ true → (if t then a else b) ≡ a
if-true t a b e = ap (λ (s : Bool). if s then a else b) e

pub if-false : {X : Type 0} (t : Bool) (a b : X) → t ≡ false → (if t then a else b) ≡ b
if-false t a b e = ap (λ (s : Bool). if s then a else b) e

-- the list with a name is that of its number
name_at : (it : Stored) (names : List DocList) → AreDistinctNames names → (n k all : ℕ) (name : DocList) → n + k ≡ all → slice_get names n ≡ Some name →
    units_named it k names name ≡ operations_in it all
name_at it [] distinct n k all name e got = absurd cc
name_at it (y ∷ ys) distinct zero k all name e got =
    if-true (same_list y name) (operations_in it k) (units_named it (suc k) ys name) ((same_list_decides y name).1 (some_is y name got)) ∙ ap (operations_in it) (omega (arith, e))
name_at it (y ∷ ys) distinct (suc m) k all name e got =
    if-false (same_list y name) (operations_in it k) (units_named it (suc k) ys name) other ∙ name_at it ys rest m (suc k) all name (omega (arith, e)) got
  where
    rest : AreDistinctNames ys
    rest i j x f g = (let w : suc i ≡ suc j = distinct (suc i) (suc j) x f g in omega (arith, w))

    other : same_list y name ≡ false
    other = test_fails (same_list y name) (λ same.
        (let w : 0 ≡ suc m = distinct 0 (suc m) name (ap (λ (l : DocList). Some l) ((same_list_decides y name).0 same)) got in absurd (omega (arith, w))))

-- no list has a name that is none of the names
no_name : (it : Stored) (names : List DocList) (k : ℕ) (name : DocList) → (IsIn name names → ⊥) → units_named it k names name ≡ []
no_name it [] k name none = refl
no_name it (y ∷ ys) k name none = if-false (same_list y name) (operations_in it k) (units_named it (suc k) ys name) other ∙ no_name it ys (suc k) name (λ i. none (inr i))
  where
    other : same_list y name ≡ false
    other = test_fails (same_list y name) (λ same. none (inl (sym ((same_list_decides y name).0 same))))

if_none_map : {X : Type 0} {A B : Type 0} (z : Option X) → (A → B) → IfNone z A → IfNone z B
if_none_map None f a = f a
if_none_map (Some x) f a = tt

-- ---- lemmas for callers

module _ (it : KeptValue) (distinct : AreDistinctNames it.names) where
  pub units_at : (n : ℕ) (name : DocList) → slice_get it.names n ≡ Some name → units_of it name ≡ operations_in it.store n
  units_at n name e = name_at it.store it.names distinct n 0 n name (omega arith) e

  pub units_none : (name : DocList) → (IsIn name it.names → ⊥) → units_of it name ≡ []
  units_none name none = no_name it.store it.names 0 name none

  -- the ids by name are the units of the lists
  pub has_lists : IsSoundStore it.store → length it.names ≡ count_of it.store.placed → HasLists it (ids_of it)
  has_lists sound count = record {
    named = λ n name e. ap (map (λ (o : Operation). o.id)) (units_at n name e)
        ∙ lists_tell_units it.store sound n (let lt = within_names it.names n name e in omega (arith, lt, count));
    others = λ name none. ap (map (λ (o : Operation). o.id)) (units_none name none);
  }

  -- the number of a name is that of its units, and without one there are none
  pub found_units : (z : Option ℕ) (name : DocList) → IfSome z (λ n. slice_get it.names n ≡ Some name) → IfSome z (λ n. units_of it name ≡ operations_in it.store n)
  found_units z name there = if_some_map (λ n. slice_get it.names n ≡ Some name) (λ n. units_of it name ≡ operations_in it.store n) z (λ n e. units_at n name e) there

  pub missing_units : (z : Option ℕ) (name : DocList) → IfNone z ((n : ℕ) → slice_get it.names n ≢ Some name) → IfNone z (units_of it name ≡ [])
  missing_units z name none = if_none_map z (λ never. units_none name (λ i. elim (find_name it.names name) [
    | inl found ↦ never found.0 found.1
    | inr out ↦ out i
  ])) none
