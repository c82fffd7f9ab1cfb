-- Where a name can still stand, while the places of its code are looked at from the last one on.
use Rattle.std.proofs.Common.{◌≡◌, ◌≢◌, ◌∙◌, ℕ, zero, suc, ◌<◌, ◌≤◌, Bool, true, false, cond, List, [], ◌∷◌, Option, Some, None, IfSome, length, take, refl, sym, ap, subst, arith, tests, nat_eq}
use Rattle.std.specs.Prelude.{slice_get}
use Rattle.yd_words.proofs.OptionLemmas.{some_is}
use Rattle.yd_names.specs.Codes.{one_later, place_or, last_place}
use Rattle.yd_names.specs.Slots.{bound_of}

-- ---- the last place of a code

is_equal : (n : ℕ) → nat_eq n n ≡ true
is_equal n = grind (arith, tests)

later_below : (l t : Option ℕ) (m : ℕ) → m < bound_of l → suc m < bound_of (place_or (one_later l) t)
later_below None t m lt = absurd (omega arith)
later_below (Some n) t m lt = omega arith

first_below : (l t : Option ℕ) → t ≡ Some 0 → 0 < bound_of (place_or (one_later l) t)
first_below None t e = subst (λ t. 0 < bound_of t) (sym e) (omega arith)
first_below (Some n) t e = omega arith

later_within : (l t : Option ℕ) (n : ℕ) → bound_of l ≤ n → bound_of t ≤ 1 → bound_of (place_or (one_later l) t) ≤ suc n
later_within None t n le small = omega arith
later_within (Some m) t n le small = omega arith

small : (b : Bool) → bound_of (cond b (Some 0) None) ≤ 1
small true = omega arith
small false = omega arith

pub looked : (code : ℕ) (cs : List ℕ) (m : ℕ) → slice_get cs m ≡ Some code → m < bound_of (last_place code cs)
looked code [] m e = absurd cc
looked code (c ∷ cs) zero e = first_below (last_place code cs) (cond (nat_eq c code) (Some 0) None)
    (ap (λ b. cond b (Some 0) None) (ap (λ d. nat_eq d code) (some_is c code e) ∙ is_equal code))
looked code (c ∷ cs) (suc m) e = later_below (last_place code cs) (cond (nat_eq c code) (Some 0) None) m (looked code cs m e)

within : (code : ℕ) (cs : List ℕ) → bound_of (last_place code cs) ≤ length cs
within code [] = omega arith
within code (c ∷ cs) = later_within (last_place code cs) (cond (nat_eq c code) (Some 0) None) (length cs) (within code cs) (small (nat_eq c code))

pub has_code : (code : ℕ) (cs : List ℕ) → IfSome (last_place code cs) (λ n. slice_get cs n ≡ Some code)
has_code code [] = cc
has_code code (c ∷ cs) = later (last_place code cs) (nat_eq c code) refl (has_code code cs)
  where
    later : (l : Option ℕ) (b : Bool) → nat_eq c code ≡ b → IfSome l (λ n. slice_get cs n ≡ Some code) →
        IfSome (place_or (one_later l) (cond b (Some 0) None)) (λ n. slice_get (c ∷ cs) n ≡ Some code)
    later None true e i = ap (λ d. Some d) (same c code e)
      where
        same : (m n : ℕ) → nat_eq m n ≡ true → m ≡ n
        same m n e = grind (arith, tests)
    later None false e i = cc
    later (Some n) b e i = i

-- ---- the front of a list

pub got_in_front : {X : Type 0} (k : ℕ) (xs : List X) (n : ℕ) (x : X) → slice_get (take k xs) n ≡ Some x → slice_get xs n ≡ Some x
got_in_front zero xs n x e = absurd cc
got_in_front (suc k) [] n x e = absurd cc
got_in_front (suc k) (y ∷ ys) zero x e = e
got_in_front (suc k) (y ∷ ys) (suc n) x e = got_in_front k ys n x e

pub front_has : {X : Type 0} (k : ℕ) (xs : List X) (n : ℕ) → n < k → slice_get (take k xs) n ≡ slice_get xs n
front_has zero xs n lt = absurd (omega arith)
front_has (suc k) [] n lt = refl
front_has (suc k) (y ∷ ys) zero lt = refl
front_has (suc k) (y ∷ ys) (suc n) lt = front_has k ys n (omega arith)

pub front_long : (k : ℕ) (cs : List ℕ) → length (take k cs) ≤ k
front_long zero cs = omega arith
front_long (suc k) [] = omega arith
front_long (suc k) (c ∷ cs) = let le = front_long k cs in omega arith

front_within : (code k : ℕ) (cs : List ℕ) → bound_of (last_place code (take k cs)) ≤ length cs
front_within code k cs = let le = within code (take k cs) in let less = shorter k cs in omega arith
  where
    shorter : (k : ℕ) (cs : List ℕ) → length (take k cs) ≤ length cs
    shorter zero cs = omega arith
    shorter (suc k) [] = omega arith
    shorter (suc k) (c ∷ cs) = let le = shorter k cs in omega arith

-- ---- places by their codes

-- the codes, and the places that are looked for, which have one code
module _ (codes : List ℕ) (wanted : ℕ → Type 0) (code : ℕ) (coded_so : (n : ℕ) → wanted n → slice_get codes n ≡ Some code) where
  -- below a bound none that is looked for stands behind the next place, and the code stands there
  pub record IsLookedFor (top : ℕ) (next : Option ℕ) : Type 0 where
    pub inside : bound_of next ≤ length codes
    pub below : bound_of next ≤ top
    pub before : (n : ℕ) → n < top → wanted n → n < bound_of next
    pub coded : IfSome next (λ n. slice_get codes n ≡ Some code)

  deeper : (number : ℕ) (o : Option ℕ) → IfSome o (λ n. slice_get (take number codes) n ≡ Some code) → IfSome o (λ n. slice_get codes n ≡ Some code)
  deeper number None i = i
  deeper number (Some n) i = got_in_front number codes n code i

  -- the last place of the code is the first to be looked at
  pub begins : IsLookedFor (length codes) (last_place code codes)
  begins = record {
    inside = within code codes;
    below = within code codes;
    before = λ n lt want. looked code codes n (coded_so n want);
    coded = has_code code codes;
  }

  -- and so it is before a place
  pub begins_before : (number : ℕ) → IsLookedFor number (last_place code (take number codes))
  begins_before number = record {
    inside = front_within code number codes;
    below = let le = within code (take number codes) in let less = front_long number codes in omega arith;
    before = λ n lt want. looked code (take number codes) n (front_has number codes n lt ∙ coded_so n want);
    coded = deeper number (last_place code (take number codes)) (has_code code (take number codes));
  }

  found_before : (number : ℕ) (next : Option ℕ) → slice_get codes number ≡ Some code →
      IfSome (slice_get codes number) (λ code. next ≡ last_place code (take number codes)) → next ≡ last_place code (take number codes)
  found_before number next e is = subst (λ o. IfSome o (λ code. next ≡ last_place code (take number codes))) e is

  -- where the next place is not looked for, the place before it with the code is the next one
  pub goes_on : (top number : ℕ) (next : Option ℕ) → IsLookedFor top (Some number) → (wanted number → ⊥) →
      IfSome (slice_get codes number) (λ code. next ≡ last_place code (take number codes)) → IsLookedFor top next
  goes_on top number next was other is = record {
    inside = subst (λ o. bound_of o ≤ length codes) (sym found) (begins_before number).inside;
    below = let le : bound_of next ≤ number = subst (λ o. bound_of o ≤ number) (sym found) (begins_before number).below in let less : suc number ≤ top = was.below in omega arith;
    before = λ n lt want. subst (λ o. n < bound_of o) (sym found) ((begins_before number).before n (lower n lt want) want);
    coded = subst (λ o. IfSome o (λ n. slice_get codes n ≡ Some code)) (sym found) (begins_before number).coded;
  }
    where
      found : next ≡ last_place code (take number codes)
      found = found_before number next was.coded is

      lower : (n : ℕ) → n < top → wanted n → n < number
      lower n lt want = let less : n < suc number = was.before n lt want in
          let apart : n ≢ number = (λ same. other (subst wanted same want)) in omega arith

  pub goes_down : (top number : ℕ) (next : Option ℕ) → IsLookedFor top (Some number) →
      IfSome (slice_get codes number) (λ code. next ≡ last_place code (take number codes)) → bound_of next < bound_of (Some number)
  goes_down top number next was is = let le : bound_of next ≤ number = subst (λ o. bound_of o ≤ number) (sym (found_before number next was.coded is)) (begins_before number).below in
      omega arith
