-- Whether a list is one of a parent's and has a unit.
use Rattle.std.proofs.Common.{◌≡◌, ◌≢◌, ℕ, zero, suc, ◌+◌, ◌-◌, ◌<◌, ◌≤◌, ◌⊎◌, inl, inr, Bool, true, false, ◌&&◌, List, [], ◌∷◌, ◌++◌, Option, Some, None, map, length, take, drop, refl, sym, ap, ◌∙◌, subst, arith, length-append, length-drop}
use Rattle.std.specs.Prelude.{slice_get, IfSome, IfNone, is_some, if◌then◌else◌}
use Rattle.std.proofs.lemmas.List.{length-take-le, length-map}
use Rattle.yd_ids.specs.declared.id.Id.{Id}
use Rattle.yd_ops.specs.declared.lists.List.{List as DocList}
use Rattle.yd_ops.specs.declared.lists.Parent.{Parent}
use Rattle.yd_ops.specs.Operation.{UnitContent, Operation, later_id, units_of_content}
use Rattle.yd_ops.specs.View.{content_value}
use Rattle.yd_ops.proofs.OperationLemmas.{length-units_of_content}
use Rattle.yd_meaning.specs.Names.{same_parent}
use Rattle.yd_meaning.specs.Document.{Document, with_key, with_key_of}
use Rattle.yd_words.specs.Member.{IsIn}
use Rattle.yd_kept.specs.Kept.{KeptValue}
use Rattle.yd_listing.specs.Listing.{Tells}
use Rattle.yd_listing.proofs.LawLemmas.{find_name}
use Rattle.yd_state.specs.declared.listing.RunView.{RunView}
use Rattle.yd_state.specs.Lent.{Lent, lent, lent_from, lent_units, units_of_view, IsWithin}
use Rattle.yd_words.proofs.OptionLemmas.{some_is}
use Rattle.yd_meaning.specs.ListNames.{same_parent_is}
use Rattle.yd_names.specs.Names.{IsOf, IsLastOf}
use Rattle.std.proofs.lemmas.Option.{slice_get_within}
use Rattle.yd_doc.specs.Keys.{has_some, is_used, with_name, with_names}

-- a piece of one unit lends one
one_lent : (view : RunView) → IsWithin view → view.len ≡ 1 → length (units_of_view view) ≡ 1
one_lent view within one = length-from view.id view.deleted units
    ∙ length-take-le view.len (drop view.offset (units_of_content (content_value view.content.now)))
    (omega (arith, within.units, length-units_of_content (content_value view.content.now), length-drop view.offset (units_of_content (content_value view.content.now))))
    ∙ one
  where
    units : List UnitContent
    units = take view.len (drop view.offset (units_of_content (content_value view.content.now)))

    length-from : (id : Id) (deleted : Bool) (us : List UnitContent) → length (lent_from id deleted us) ≡ length us
    length-from id deleted [] = refl
    length-from id deleted (u ∷ us) = ap suc (length-from (later_id id 1) deleted us)

some_there : {X : Type 0} (xs : List X) → 0 < length xs → has_some xs ≡ true
some_there [] less = absurd (omega arith)
some_there (x ∷ xs) less = refl

-- ---- lemmas for callers

pub used_then : (d : Document) (p : Parent) (name : DocList) (view : Option RunView) (left : List Lent) → same_parent name.parent p ≡ true → left ≡ lent_units d name →
    IfNone view (left ≡ []) → IfSome view (λ v. (front : List Lent) × (left ≡ front ++ units_of_view v)) → IfSome view (λ v. v.len ≡ 1) → IfSome view IsWithin →
    is_some view ≡ is_used d p name
used_then d p name None left same lends none last one within = sym (ap (λ t. t && has_some (d.units name)) same ∙ no_unit (d.units name) (sym lends ∙ none))
  where
    no_unit : (os : List Operation) → map (lent d.deleted) os ≡ [] → has_some os ≡ false
    no_unit [] e = refl
    no_unit (o ∷ os) e = absurd cc
used_then d p name (Some view) left same lends none (front, e) one within = sym (ap (λ t. t && has_some (d.units name)) same ∙ some_there (d.units name)
    (omega (arith, length-map (d.units name) (lent d.deleted), ap length (sym lends ∙ e), length-append front (units_of_view view), one_lent view within one)))

-- a list under no key adds none
pub with_none : (d : Document) (p : Parent) (name : DocList) (ks : List (List ℕ)) → name.key ≡ None → ks ≡ with_name d p name ks
with_none d p name ks none = go (is_used d p name) ∙ ap (λ k. if is_used d p name then with_key_of k ks else ks) (sym none)
  where
    go : (t : Bool) → ks ≡ (if t then ks else ks)
    go true = refl
    go false = refl

-- nor does one without a unit
pub with_unused : (d : Document) (p : Parent) (name : DocList) (ks : List (List ℕ)) → is_used d p name ≡ false → ks ≡ with_name d p name ks
with_unused d p name ks unused = sym (ap (λ t. if t then with_key_of name.key ks else ks) unused)

-- one with a unit adds its key
pub with_used : (d : Document) (p : Parent) (name : DocList) (key : List ℕ) (ks : List (List ℕ)) → name.key ≡ Some key → is_used d p name ≡ true →
    with_key key ks ≡ with_name d p name ks
with_used d p name key ks under used = ap (λ k. with_key_of k ks) (sym under) ∙ sym (ap (λ t. if t then with_key_of name.key ks else ks) used)

-- ---- all names

-- each list that has a unit has a name in the store that tells the document
pub all_named : (it : KeptValue) (d : Document) → Tells it d → (list : DocList) (o : Operation) → IsIn o (d.units list) → (n : ℕ) × (slice_get it.names n ≡ Some list)
all_named it d tells list o i = elim (find_name it.names list) [
  | inl found ↦ found
  | inr none ↦ absurd (subst (IsIn o) (tells.lists.others list none) i)
]

-- ---- the lists of a parent, from the last one on

-- how many of the names are not looked at yet
abbrev pub left_of : Option ℕ → ℕ
left_of None = 0
left_of (Some n) = suc n

-- the names are as before where none of them is of the parent
no_more : (d : Document) (p : Parent) (names : List DocList) (more n : ℕ) →
    ((m : ℕ) (list : DocList) → n ≤ m → m < n + more → slice_get names m ≡ Some list → list.parent ≢ p) →
    with_names d p (drop n names) [] ≡ with_names d p (drop (n + more) names) []
no_more d p names zero n none = ap (λ k. with_names d p (drop k names) []) (omega arith)
no_more d p names (suc more) n none = one_less names n (λ list e. none n list (omega arith) (omega arith) e)
    ∙ no_more d p names more (suc n) (λ m list from below e. none m list (omega arith) (omega arith) e)
    ∙ ap (λ k. with_names d p (drop k names) []) (omega arith)
  where
    one_less : (names : List DocList) (n : ℕ) → ((list : DocList) → slice_get names n ≡ Some list → list.parent ≢ p) →
        with_names d p (drop n names) [] ≡ with_names d p (drop (suc n) names) []
    one_less [] zero none = refl
    one_less [] (suc n) none = refl
    one_less (name ∷ names) zero none = ap (λ t. if t && has_some (d.units name) then with_key_of name.key (with_names d p names []) else with_names d p names []) other
      where
        other : same_parent name.parent p ≡ false
        other = elim (tested (same_parent name.parent p)) [ inl e ↦ absurd (none name refl (same_parent_is name.parent p e)) | inr e ↦ e ]
          where
            tested : (b : Bool) → (b ≡ true) ⊎ (b ≡ false)
            tested true = inl refl
            tested false = inr refl
    one_less (name ∷ names) (suc n) none = one_less names n none

-- the next one is the last of the parent's below a number, so those between add no key
pub goes_down : (d : Document) (p : Parent) (names : List DocList) (top : ℕ) (next : Option ℕ) → top ≤ length names → IsLastOf names p top next →
    with_names d p (drop (left_of next) names) [] ≡ with_names d p (drop top names) []
goes_down d p names top None le last = no_more d p names top 0 (λ m list from below e. last m list (omega arith) e)
    ∙ ap (λ k. with_names d p (drop k names) []) (omega arith)
goes_down d p names top (Some n) le last = let lt : n < top = last.1 in
    no_more d p names (top - suc n) (suc n) (λ m list from below e. last.2 m list (omega arith) (omega arith) e)
    ∙ ap (λ k. with_names d p (drop k names) []) (omega arith)

-- with the key of the list with a number, it is one name more
pub found_next : (d : Document) (p : Parent) (names : List DocList) (n : ℕ) (name : DocList) (old new : List (List ℕ)) → slice_get names n ≡ Some name →
    new ≡ with_name d p name old → old ≡ with_names d p (drop (suc n) names) [] → new ≡ with_names d p (drop n names) []
found_next d p names n name old new there made was = made ∙ ap (with_name d p name) was ∙ go names n there
  where
    go : (names : List DocList) (n : ℕ) → slice_get names n ≡ Some name → with_name d p name (with_names d p (drop (suc n) names) []) ≡ with_names d p (drop n names) []
    go [] n e = absurd cc
    go (other ∷ names) zero e = ap (λ l. with_name d p l (with_names d p names [])) (sym (some_is other name e))
    go (other ∷ names) (suc n) e = go names n e

pub is_own : (p : Parent) (names : List DocList) (top : ℕ) (next : Option ℕ) → IsLastOf names p top next → IfSome next (IsOf names p)
is_own p names top None last = tt
is_own p names top (Some n) last = last.0

drop_all : (names : List DocList) → drop (length names) names ≡ []
drop_all [] = refl
drop_all (name ∷ names) = drop_all names

-- before any is looked at there is no key
pub walk_begins : (d : Document) (p : Parent) (names : List DocList) (next : Option ℕ) → IsLastOf names p (length names) next →
    IfSome next (IsOf names p) × ([] ≡ with_names d p (drop (left_of next) names) [])
walk_begins d p names next last = (
  is_own p names (length names) next last,
  sym (goes_down d p names (length names) next (omega arith) last ∙ ap (λ ns. with_names d p ns []) (drop_all names)),
)

-- with the keys from a number on, the next one is the last before it
pub walk_goes_on : (d : Document) (p : Parent) (names : List DocList) (n : ℕ) (next : Option ℕ) (keys : List (List ℕ)) → IsOf names p n → IsLastOf names p n next →
    keys ≡ with_names d p (drop n names) [] → IfSome next (IsOf names p) × (keys ≡ with_names d p (drop (left_of next) names) [])
walk_goes_on d p names n next keys own last e = let less = slice_get_within names n own.list own.there in (
  is_own p names n next last,
  e ∙ sym (goes_down d p names n next (omega (arith, less)) last),
)

-- the next one has a smaller number
pub walk_descends : (p : Parent) (names : List DocList) (n : ℕ) (next : Option ℕ) → IsLastOf names p n next → left_of next < suc n
walk_descends p names n None last = omega arith
walk_descends p names n (Some m) last = let lt : m < n = last.1 in omega arith
