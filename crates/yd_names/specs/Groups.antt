-- Places in groups, each of which has a code and knows its places (own).
use Rattle.std.specs.Prelude.{◌≡◌, ◌<◌, ℕ, List, [], ◌∷◌, ◌++◌, Some, length, slice_get, take}
use Rattle.yd_names.specs.Slots.{AreSlots}

-- what is seen of groups: the codes of the groups by number, and the numbers of the groups by place
pub record GroupTable : Type 0 where
  pub codes : List ℕ
  pub numbers : List ℕ

-- with one place more in a group
abbrev pub with_place : GroupTable → ℕ → GroupTable
with_place groups number = record { codes = groups.codes; numbers = groups.numbers ++ number ∷ [] }

-- with one group more, which has one place more
abbrev pub with_group : GroupTable → ℕ → GroupTable
with_group groups code = record { codes = groups.codes ++ code ∷ []; numbers = groups.numbers ++ length groups.codes ∷ [] }

-- each place is in a group, and the places of each group are known
pub record AreGrouped (codes numbers heads before : List ℕ) : Type 0 where
  pub each : length heads ≡ length codes
  pub inside : (n number : ℕ) → slice_get numbers n ≡ Some number → number < length codes
  pub places : AreSlots numbers heads before

-- other codes: those of groups that have places are the same
abbrev pub KeepsCodes : List ℕ → List ℕ → List ℕ → Type 0
KeepsCodes codes others numbers = (n number : ℕ) → slice_get numbers n ≡ Some number → slice_get others number ≡ slice_get codes number

-- other codes and places of groups: those of groups that have places are the same
abbrev pub KeepsGroups : List ℕ → List ℕ → List ℕ → List ℕ → Type 0
KeepsGroups codes others heads other_heads = (numbers before : List ℕ) → AreGrouped codes numbers heads before →
    AreGrouped others numbers other_heads before × KeepsCodes codes others numbers

-- the first places stay in their groups
pub record KeepsFront (len : ℕ) (old new : GroupTable) : Type 0 where
  pub front : new.numbers ≡ take len old.numbers
  pub kept : KeepsCodes old.codes new.codes new.numbers
