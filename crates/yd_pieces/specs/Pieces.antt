-- A list in pieces, and what a contract sees of it (own).
use Rattle.std.specs.Prelude.{◌≡◌, ◌<◌, ◌≤◌, ◌-◌, ◌++◌, ℕ, zero, suc, Bool, true, false, List, Option, Some, None, Vec, All, HoldsAt, flat_map, length, slice_get, refl}
use Rattle.std.specs.Coded.{Coded, code_by, coded×, coded_ℕ, coded_list}

-- the elements, and how many pushes cannot fail
pub record Listed (T : Type 0) : Type 0 where
  pub items : List T
  pub room : ℕ

-- what a contract sees is coded as the pair of its fields
abbrev pub listed_code : {T : Type 0} → Coded T → Coded (Listed T)
listed_code {T} code =
    code_by (List T × ℕ) (coded× (coded_list code) coded_ℕ) (λ it. (it.items, it.room)) (λ p. record { items = p.0; room = p.1 }) (λ _. refl)

module _ {T A : Type 0} where
  -- the elements of the pieces, one piece after another
  abbrev pub joined : List (Vec T A) → List T
  joined pieces = flat_map (λ piece. piece.items) pieces

  -- the piece has an element
  abbrev pub IsFilled : Vec T A → Type 0
  IsFilled piece = 0 < length piece.items

  -- no piece before the last is empty, and the number is that of all elements, which is at most the limit
  pub record ArePieces (closed : List (Vec T A)) (last : List T) (len limit : ℕ) : Type 0 where
    pub filled : All IsFilled closed
    pub counted : length (joined closed ++ last) ≡ len
    pub bound : len ≤ limit

-- at the place, the element in front passes and the one behind does not, where there are such elements
abbrev pub IsBoundary : {T : Type 0} → (T → Bool) → List T → ℕ → Type 0
IsBoundary p xs n = (0 < n → HoldsAt (λ y. p y ≡ true) xs (n - 1)) × (n < length xs → HoldsAt (λ y. p y ≡ false) xs n)

-- the element in front of a place, and none at the start
abbrev pub in_front : {T : Type 0} → List T → ℕ → Option T
in_front xs zero = None
in_front xs (suc n) = slice_get xs n

-- the element in front of a place where those that pass end
pub record IsLastPassed {T : Type 0} (p : T → Bool) (xs : List T) (found : Option T) : Type 0 where
  pub place : ℕ
  pub bound : place ≤ length xs
  pub boundary : IsBoundary p xs place
  pub element : found ≡ in_front xs place

-- whether the last element of a piece passes
abbrev pub ends_with : {T A : Type 0} → (T → Bool) → Vec T A → Bool
ends_with p piece = elim (slice_get piece.items (length piece.items - 1)) [
  | None ↦ false
  | Some x ↦ p x
]

-- how far a search has come: the element below passes, and the one above does not
pub record IsNarrowed {T : Type 0} (p : T → Bool) (xs : List T) (low high : ℕ) : Type 0 where
  pub order : low ≤ high
  pub bound : high ≤ length xs
  pub below : 0 < low → HoldsAt (λ y. p y ≡ true) xs (low - 1)
  pub above : high < length xs → HoldsAt (λ y. p y ≡ false) xs high
