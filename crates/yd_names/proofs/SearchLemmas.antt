-- Where a code can still stand, while the places of its slot are looked at from the last one on.
use Rattle.std.proofs.Common.{◌≡◌, ◌∙◌, ℕ, suc, ◌<◌, ◌≤◌, List, Option, Some, None, IfSome, get_or, length, map, take, refl, sym, ap, subst, arith, le_refl, le_of_eq}
use Rattle.std.specs.Prelude.{slice_get}
use Rattle.std.specs.Option.{option_map}
use Rattle.std.proofs.lemmas.List.{length-map, take_all}
use Rattle.std.proofs.lemmas.Option.{slice_get_within, slice_get-map, slice_get-get_or}
use Rattle.yd_words.proofs.OptionLemmas.{some_is}
use Rattle.yd_names.specs.Codes.{last_place}
use Rattle.yd_names.specs.Slots.{bound_of, slot_of, AreFound, IsSearched}
use Rattle.yd_names.proofs.NamesLemmas.{IsLookedFor, looked, has_code, front_has, front_long, got_in_front, begins_before}

-- places of the code are looked for
abbrev pub IsPlaceOf : List ℕ → ℕ → ℕ → Type 0
IsPlaceOf codes code n = slice_get codes n ≡ Some code

pub slot_there : (codes : List ℕ) (size code n : ℕ) → IsPlaceOf codes code n → slice_get (map (slot_of size) codes) n ≡ Some (slot_of size code)
slot_there codes size code n e = slice_get-map (slot_of size) codes n ∙ ap (λ o. option_map (slot_of size) o) e

abbrev pub CodeLookedFor : List ℕ → ℕ → ℕ → ℕ → Option ℕ → Type 0
CodeLookedFor codes size code top next = IsLookedFor (map (slot_of size) codes) (IsPlaceOf codes code) (slot_of size code) (slot_there codes size code) top next

-- so it is wherever the search began
abbrev pub IsSearching : List ℕ → List ℕ → ℕ → ℕ → Option ℕ → Type 0
IsSearching codes before code from next = (it : IsSearched codes before code from) → CodeLookedFor codes it.size code it.top next

pub bound_same : (a b : Option ℕ) → bound_of a ≡ bound_of b → a ≡ b
bound_same None None e = refl
bound_same None (Some n) e = absurd (omega arith)
bound_same (Some m) None e = absurd (omega arith)
bound_same (Some m) (Some n) e = ap (λ n. Some n) (omega arith)

module _ (codes before : List ℕ) (code from : ℕ) where
  pub search_begins : (next : Option ℕ) → bound_of next ≡ from → IsSearching codes before code from next
  search_begins next e it = subst (CodeLookedFor codes it.size code it.top) (sym (bound_same next _ (e ∙ it.begins)))
      (begins_before (map (slot_of it.size) codes) (IsPlaceOf codes code) (slot_of it.size code) (slot_there codes it.size code) it.top)

  pub place_inside : IsSearched codes before code from → (number : ℕ) → IsSearching codes before code from (Some number) → number < length codes
  place_inside it number was = subst (λ n. suc number ≤ n) (length-map codes (slot_of it.size)) (was it).inside

  -- the place before a place, in its slot
  pub next_is : (it : IsSearched codes before code from) (number was : ℕ) (next : Option ℕ) → slice_get before number ≡ Some was → bound_of next ≡ was →
      IfSome (slice_get (map (slot_of it.size) codes) number) (λ slot. next ≡ last_place slot (take number (map (slot_of it.size) codes)))
  next_is it number was next there e = go (slice_get (map (slot_of it.size) codes) number) refl
    where
      go : (o : Option ℕ) → slice_get (map (slot_of it.size) codes) number ≡ o → IfSome o (λ slot. next ≡ last_place slot (take number (map (slot_of it.size) codes)))
      go None f = cc
      go (Some slot) f = bound_same next _ (e ∙ some_is was _ (sym there ∙ it.earlier number slot f))

  -- the last place below the top is the one that was found, or there is none
  pub search_ends : (it : IsSearched codes before code from) (next : Option ℕ) → CodeLookedFor codes it.size code it.top next → IfSome next (λ n. slice_get codes n ≡ Some code) →
      next ≡ last_place code (take it.top codes)
  search_ends it next was here = go next (last_place code (take it.top codes)) was here refl (has_code code (take it.top codes))
    where
      inside : (m : ℕ) → slice_get (take it.top codes) m ≡ Some code → m < it.top
      inside m e = let lt = slice_get_within (take it.top codes) m code e in let le = front_long it.top codes in omega arith

      go : (next o : Option ℕ) → CodeLookedFor codes it.size code it.top next → IfSome next (λ n. slice_get codes n ≡ Some code) → last_place code (take it.top codes) ≡ o →
          IfSome o (λ n. slice_get (take it.top codes) n ≡ Some code) → next ≡ o
      go None None was here e there = refl
      go None (Some m) was here e there = let lt : m < 0 = was.before m (inside m there) (got_in_front it.top codes m code there) in absurd (omega arith)
      go (Some n) o was here e there = last o e there
        where
          below : n < it.top
          below = let le : suc n ≤ it.top = was.below in omega arith

          least : n < bound_of (last_place code (take it.top codes))
          least = looked code (take it.top codes) n (front_has it.top codes n below ∙ here)

          last : (o : Option ℕ) → last_place code (take it.top codes) ≡ o → IfSome o (λ n. slice_get (take it.top codes) n ≡ Some code) → ◌≡◌ {A = Option ℕ} (Some n) o
          last None e there = let lt : n < 0 = subst (λ o. n < bound_of o) e least in absurd (omega arith)
          last (Some m) e there = ap (λ n. Some n)
              (let lt : n < suc m = subst (λ o. n < bound_of o) e least in
              let less : m < suc n = was.before m (inside m there) (got_in_front it.top codes m code there) in omega arith)

-- ---- where a search begins

-- the last place of a code is found from the one of its slot on
abbrev pub from_end : (codes heads before : List ℕ) (code from : ℕ) → AreFound codes heads before → slot_of (length heads) code < length heads →
    from ≡ get_or heads (slot_of (length heads) code) from → IsSearched codes before code from
from_end codes heads before code from f lt e = record {
  size = length heads;
  top = length codes;
  each = f.slots.each ∙ length-map codes (slot_of (length heads));
  earlier = f.slots.earlier;
  begins = some_is from _ (ap (λ n. Some n) e ∙ sym (slice_get-get_or heads (slot_of (length heads) code) from lt) ∙ f.slots.latest (slot_of (length heads) code) lt)
      ∙ ap (λ l. bound_of (last_place (slot_of (length heads) code) l)) (sym (take_all (length codes) (map (slot_of (length heads)) codes) (le_of_eq (length-map codes (slot_of (length heads))))));
}

-- and the last one before a place from the one before it in its slot on
abbrev pub from_place : (codes heads before : List ℕ) (code from place : ℕ) → AreFound codes heads before → place < length codes → code ≡ get_or codes place code →
    from ≡ get_or before place from → IsSearched codes before code from
from_place codes heads before code from place f lt e g = record {
  size = length heads;
  top = place;
  each = f.slots.each ∙ length-map codes (slot_of (length heads));
  earlier = f.slots.earlier;
  begins = some_is from _ (ap (λ n. Some n) g ∙ sym (slice_get-get_or before place from inside) ∙ f.slots.earlier place (slot_of (length heads) code) stands);
}
  where
    inside : place < length before
    inside = subst (λ n. place < n) (sym (f.slots.each ∙ length-map codes (slot_of (length heads)))) lt

    stands : slice_get (map (slot_of (length heads)) codes) place ≡ Some (slot_of (length heads) code)
    stands = slice_get-map (slot_of (length heads)) codes place ∙ ap (λ o. option_map (slot_of (length heads)) o) (slice_get-get_or codes place code lt ∙ ap (λ c. Some c) (sym e))

-- what a search promises
abbrev pub IsAnswer : List ℕ → List ℕ → ℕ → ℕ → Option ℕ → Type 0
IsAnswer codes before code from result = (it : IsSearched codes before code from) → result ≡ last_place code (take it.top codes)

pub answer_from_end : (codes heads before : List ℕ) (code from : ℕ) (result : Option ℕ) → AreFound codes heads before → slot_of (length heads) code < length heads →
    from ≡ get_or heads (slot_of (length heads) code) from → IsAnswer codes before code from result → result ≡ last_place code codes
answer_from_end codes heads before code from result f lt e ends = ends (from_end codes heads before code from f lt e)
    ∙ ap (λ l. last_place code l) (take_all (length codes) codes (le_refl (length codes)))

pub answer_from_place : (codes heads before : List ℕ) (code from place : ℕ) (result : Option ℕ) → AreFound codes heads before → place < length codes → code ≡ get_or codes place code →
    from ≡ get_or before place from → IsAnswer codes before code from result → IfSome (slice_get codes place) (λ code. result ≡ last_place code (take place codes))
answer_from_place codes heads before code from place result f lt e g ends = subst (λ o. IfSome o (λ code. result ≡ last_place code (take place codes)))
    (sym (slice_get-get_or codes place code lt ∙ ap (λ c. Some c) (sym e))) (ends (from_place codes heads before code from place f lt e g))
