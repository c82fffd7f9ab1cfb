-- Which of two rows of a table is before the other: the order that lefts and rights alone give (own).
--
-- For distinct rows a and b the first line that applies decides. A line that names an absent left or right does not
-- apply, unless it says so.
--
--   1  a is b's left, or a is before b's left                  a is before b
--   2  b is a's left, or b is before a's left                  a is not before b
--   3  b is a's right, or a's right is before b                a is before b
--   4  a is b's right, or b's right is before a                a is not before b
--   5  a and b have one left, or both none                     a is before b where its id is smaller
--   6  otherwise                                               a is before b where a has a left, and b none or one before it
--
-- Each use goes from a row to its left or right, so it ends. No scan and no history of arrivals occurs in it.
use Rattle.std.specs.Prelude.{◌≡◌, ◌≢◌, ℕ, zero, suc, ◌*◌, Bool, true, false, List, [], ◌∷◌, Option, Some, None, IfSome, length}
use Rattle.yd_words.specs.Test.{is_some_and}
use Rattle.yd_words.specs.Member.{IsIn}
use Rattle.yd_ids.specs.declared.id.Id.{Id}
use Rattle.yd_ids.specs.Ids.{is_same, is_smaller, HasSmallerClock, is_same_neighbour}
use Rattle.yd_origins.specs.Table.{OriginTable, ids_of, left_of, right_of}

-- whether two rows are one, or the first is before the second
abbrev pub is_up_to : (Id → Id → Bool) → Id → Id → Bool
is_up_to before a b = elim (is_same a b) [ true ↦ true | false ↦ before a b ]

-- whether the first left is there, and the second is absent or before it
abbrev pub is_later_left : (Id → Id → Bool) → Option Id → Option Id → Bool
is_later_left before None other = false
is_later_left before (Some p) None = true
is_later_left before (Some p) (Some q) = before q p

-- what the six lines say of a and b, where `before` says it of rows that are reached from them
abbrev pub by_lines : (Id → Option Id) → (Id → Option Id) → (Id → Id → Bool) → Id → Id → Bool
by_lines left right before a b =
    elim (is_some_and (λ p. is_up_to before a p) (left b)) [
      | true ↦ true
      | false ↦ elim (is_some_and (λ p. is_up_to before b p) (left a)) [
        | true ↦ false
        | false ↦ elim (is_some_and (λ r. is_up_to before r b) (right a)) [
          | true ↦ true
          | false ↦ elim (is_some_and (λ r. is_up_to before r a) (right b)) [
            | true ↦ false
            | false ↦ elim (is_same_neighbour (left a) (left b)) [
              | true ↦ is_smaller a b
              | false ↦ is_later_left before (left a) (left b)
            ]
          ]
        ]
      ]
    ]

-- whether a row is before another, by at most so many uses of the lines
abbrev pub is_before_within : (Id → Option Id) → (Id → Option Id) → ℕ → Id → Id → Bool
is_before_within left right zero a b = false
is_before_within left right (suc n) a b = elim (is_same a b) [ true ↦ false | false ↦ by_lines left right (is_before_within left right n) a b ]

-- whether a row of the table is before another; twice as many uses as there are rows are never too few
abbrev pub is_before : OriginTable → Id → Id → Bool
is_before table = is_before_within (left_of table) (right_of table) (suc (2 * length (ids_of table)))

-- a row of the table is before another
abbrev pub IsBefore : OriginTable → Id → Id → Type 0
IsBefore table a b = is_before table a b ≡ true

-- each stands before all that stand behind it in the list
abbrev pub IsInOrder : (Id → Id → Bool) → List Id → Type 0
IsInOrder before [] = Unit {0}
IsInOrder before (x ∷ xs) = ((y : Id) → IsIn y xs → (x ≢ y) × (before x y ≡ true)) × IsInOrder before xs

-- the left is before the right, where both are there
abbrev pub IsLeftFirst : (Id → Id → Bool) → Option Id → Option Id → Type 0
IsLeftFirst before None right = Unit {0}
IsLeftFirst before (Some p) None = Unit {0}
IsLeftFirst before (Some p) (Some r) = (p ≢ r) × (before p r ≡ true)

-- the row stands strictly between a left and a right; an absent left is the front, and an absent right the end
abbrev pub IsBetween : (Id → Id → Bool) → Option Id → Option Id → Id → Type 0
IsBetween before left right x = IfSome left (λ p. (p ≢ x) × (before p x ≡ true)) × IfSome right (λ r. (x ≢ r) × (before x r ≡ true))

-- from one row another is reached over lefts and rights
pub data Reaches (left right : Id → Option Id) : Id → Id → Type 0 where
  by_left : {x y : Id} → left x ≡ Some y → Reaches left right x y
  by_right : {x y : Id} → right x ≡ Some y → Reaches left right x y
  onward : {x y z : Id} → Reaches left right x y → Reaches left right y z → Reaches left right x z

-- each row's left is before its right, and between the two stands no row that its maker had: none that is reached from
-- it, and none of its client with a smaller clock
pub record Fits (table : OriginTable) : Type 0 where
  pub left_first : (x : Id) → IsIn x (ids_of table) → IsLeftFirst (is_before table) (left_of table x) (right_of table x)
  pub reached_outside : (x y : Id) → IsIn x (ids_of table) → IsIn y (ids_of table) → Reaches (left_of table) (right_of table) x y →
      IsBetween (is_before table) (left_of table x) (right_of table x) y → ⊥
  pub own_outside : (x y : Id) → IsIn x (ids_of table) → IsIn y (ids_of table) → HasSmallerClock y x →
      IsBetween (is_before table) (left_of table x) (right_of table x) y → ⊥
