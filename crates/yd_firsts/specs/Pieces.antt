-- Pieces of stretches, and what stands for them (own).
use Rattle.std.specs.Prelude.{◌≡◌, ◌<◌, ◌⊎◌, ◌++◌, ◌-◌, ℕ, List, [], ◌∷◌, Option, Some, None, IfSome, length, map, nat_lt, slice_get, if◌then◌else◌}
use Rattle.yd_words.specs.Each.{Each}
use Rattle.yd_words.specs.Member.{IsIn}
use Rattle.yd_ids.specs.declared.id.Id.{Id}
use Rattle.yd_ops.specs.Operation.{later_id}
use Rattle.yd_order.specs.Stretch.{EndsAtClock, rows_of_stretch, rows_of_stretches}
use Rattle.yd_order.specs.declared.stretch.Stretch.{Stretch}
use Rattle.yd_firsts.specs.Firsts.{HaveStarts}

-- there are units
abbrev pub HasUnits : Stretch → Type 0
HasUnits s = 0 < s.len

-- the first units
abbrev pub firsts_of : List Stretch → List Id
firsts_of stretches = map (λ (s : Stretch). s.id) stretches

-- the last unit
abbrev pub last_of : Stretch → Id
last_of s = later_id s.id (s.len - 1)

-- the pieces have the units of the stretches as rows, and each stretch begins with one
pub record ArePiecesOf (pieces stretches : List Stretch) : Type 0 where
  pub rows : rows_of_stretches pieces ≡ rows_of_stretches stretches
  pub clocks : Each EndsAtClock pieces
  pub units : Each HasUnits pieces
  pub starts : HaveStarts stretches (firsts_of pieces)

-- pieces were put behind others, which with the rest have the rows that those had with all
pub record CutsOff (old new : List Stretch) (all rest : Stretch) : Type 0 where
  pub rows : rows_of_stretches new ++ rows_of_stretch rest ≡ rows_of_stretches old ++ rows_of_stretch all
  pub clocks : Each EndsAtClock old → EndsAtClock all → Each EndsAtClock new
  pub end : EndsAtClock all → EndsAtClock rest
  pub units : Each HasUnits old → Each HasUnits new
  pub kept : (x : Id) → IsIn x (firsts_of old) → IsIn x (firsts_of new)
  pub start : (rest ≡ all) ⊎ IsIn all.id (firsts_of new)

-- the pieces of one more stretch were put behind others
pub record PutsPieces (old new : List Stretch) (stretch : Stretch) : Type 0 where
  pub rows : rows_of_stretches new ≡ rows_of_stretches old ++ rows_of_stretch stretch
  pub clocks : Each EndsAtClock old → Each EndsAtClock new
  pub units : Each HasUnits old → Each HasUnits new
  pub kept : (x : Id) → IsIn x (firsts_of old) → IsIn x (firsts_of new)
  pub start : 0 < stretch.len → IsIn stretch.id (firsts_of new)

-- what is left of a stretch behind so many units
abbrev pub rest_behind : Stretch → ℕ → Stretch
rest_behind s count = record { id = later_id s.id count; len = s.len - count; left = Some (later_id s.id (count - 1)); right = s.right }

-- with a stretch behind, if it has units
abbrev pub with_rest : List Stretch → Stretch → List Stretch
with_rest pieces rest = if nat_lt 0 rest.len then pieces ++ rest ∷ [] else pieces

-- ---- what stands for a piece

-- both are absent, or the second is the first unit of a piece that ends with the first
abbrev pub IsPieceOf : List Stretch → Option Id → Option Id → Type 0
IsPieceOf pieces None None = Unit {0}
IsPieceOf pieces None (Some x) = ⊥
IsPieceOf pieces (Some p) None = ⊥
IsPieceOf pieces (Some p) (Some x) = (q : Stretch) × IsIn q pieces × (last_of q ≡ p) × (q.id ≡ x)

-- a piece begins with the id
abbrev pub IsFirstOf : List Stretch → Id → Type 0
IsFirstOf pieces x = (q : Stretch) × IsIn q pieces × (q.id ≡ x)

-- one unit stands for a piece: its left is the piece of the piece's left origin, and its right that origin, which begins a piece
pub record StandsFor (pieces : List Stretch) (piece one : Stretch) : Type 0 where
  pub id : one.id ≡ piece.id
  pub single : one.len ≡ 1
  pub left : IsPieceOf pieces piece.left one.left
  pub right : one.right ≡ piece.right
  pub right_first : IfSome piece.right (IsFirstOf pieces)

-- one by one
abbrev pub StandFor : List Stretch → List Stretch → List Stretch → Type 0
StandFor pieces [] [] = Unit {0}
StandFor pieces [] (d ∷ ds) = ⊥
StandFor pieces (s ∷ ss) [] = ⊥
StandFor pieces (s ∷ ss) (d ∷ ds) = StandsFor pieces s d × StandFor pieces ss ds

-- each is the last unit of a piece, and the other its first
pub record AreLasts (pieces : List Stretch) (ids lasts : List Id) : Type 0 where
  pub as_many : length lasts ≡ length ids
  pub each : (n : ℕ) (x y : Id) → slice_get ids n ≡ Some x → slice_get lasts n ≡ Some y → (q : Stretch) × IsIn q pieces × (q.id ≡ x) × (last_of q ≡ y)

-- the piece at a place begins with the id
abbrev pub BeginsWith : List Stretch → Id → ℕ → Type 0
BeginsWith pieces x at = (q : Stretch) × (slice_get pieces at ≡ Some q) × (q.id ≡ x)

-- the piece at a place ends with the id
abbrev pub EndsWith : List Stretch → Id → ℕ → Type 0
EndsWith pieces x at = (q : Stretch) × (slice_get pieces at ≡ Some q) × (last_of q ≡ x)
