-- Lists of places that are kept by links, the links being two functions (own).
use Rattle.std.specs.Prelude.{◌≡◌, ◌≢◌, ◌==◌, ℕ, zero, suc, List, [], ◌∷◌, Option, Some, None, IfSome, if◌then◌else◌, ◌++◌}

-- the first place
abbrev pub first_of : List ℕ → Option ℕ
first_of [] = None
first_of (x ∷ xs) = Some x

-- the last place, or the one before where there is none
abbrev pub last_from : Option ℕ → List ℕ → Option ℕ
last_from before [] = before
last_from before (x ∷ xs) = last_from (Some x) xs

-- the last place
abbrev pub last_of : List ℕ → Option ℕ
last_of places = last_from None places

-- the list up to a place and with it, where no place is the front
abbrev pub up_to : Option ℕ → List ℕ → List ℕ
up_to None list = []
up_to (Some p) [] = []
up_to (Some p) (x ∷ xs) = x ∷ (if x == p then [] else up_to (Some p) xs)

-- what stands behind a place in the list
abbrev pub behind : Option ℕ → List ℕ → List ℕ
behind None list = list
behind (Some p) [] = []
behind (Some p) (x ∷ xs) = if x == p then xs else behind (Some p) xs

-- what stands before a place in the list
abbrev pub before : ℕ → List ℕ → List ℕ
before p [] = []
before p (x ∷ xs) = if x == p then [] else x ∷ before p xs

-- the list with one place more, behind a place or at the front
abbrev pub put_behind : Option ℕ → ℕ → List ℕ → List ℕ
put_behind after new list = up_to after list ++ new ∷ behind after list

-- the list without a place
abbrev pub without : ℕ → List ℕ → List ℕ
without p list = before p list ++ behind (Some p) list

-- the first of a chain with one place more between two neighbours
abbrev pub first_with : Option ℕ → Option ℕ → ℕ → Option ℕ
first_with first None new = Some new
first_with first (Some b) new = first

-- and its last
abbrev pub last_with : Option ℕ → Option ℕ → ℕ → Option ℕ
last_with last None new = Some new
last_with last (Some a) new = last

-- the first of a chain without what stands between two neighbours, and its last by the neighbours the other way round
abbrev pub first_over : Option ℕ → Option ℕ → Option ℕ → Option ℕ
first_over first None after = after
first_over first (Some b) after = first

-- each place of the list names the one before it and the one behind it, from one before all of them on
abbrev pub IsLinked : (ℕ → Option ℕ) → (ℕ → Option ℕ) → Option ℕ → List ℕ → Type 0
IsLinked prev next before [] = Unit {0}
IsLinked prev next before (x ∷ xs) = (prev x ≡ before) × (next x ≡ first_of xs) × IsLinked prev next (Some x) xs

-- the places that so many steps from one to the next go through
abbrev pub walked : (ℕ → Option ℕ) → ℕ → Option ℕ → List ℕ
walked next zero at = []
walked next (suc n) None = []
walked next (suc n) (Some x) = x ∷ walked next n (next x)

-- one place more is linked in between two neighbours
pub record LinksIn (prev next new_prev new_next : ℕ → Option ℕ) (before behind : Option ℕ) (new : ℕ) : Type 0 where
  pub prev_is : new_prev new ≡ before
  pub next_is : new_next new ≡ behind
  pub at_before : IfSome before (λ p. new_next p ≡ Some new)
  pub at_behind : IfSome behind (λ p. new_prev p ≡ Some new)
  pub other_nexts : (i : ℕ) → i ≢ new → before ≢ Some i → new_next i ≡ next i
  pub other_prevs : (i : ℕ) → i ≢ new → behind ≢ Some i → new_prev i ≡ prev i

-- two places become neighbours
pub record LinksOver (prev next new_prev new_next : ℕ → Option ℕ) (before behind : Option ℕ) : Type 0 where
  pub at_before : IfSome before (λ p. new_next p ≡ behind)
  pub at_behind : IfSome behind (λ p. new_prev p ≡ before)
  pub other_nexts : (i : ℕ) → before ≢ Some i → new_next i ≡ next i
  pub other_prevs : (i : ℕ) → behind ≢ Some i → new_prev i ≡ prev i
