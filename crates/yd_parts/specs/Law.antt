-- The laws of parts and of any-values.
use Rattle.std.specs.Prelude.{◌≡◌, ℕ, List, ◌++◌, IsOkAnd, IsTrue}
use Rattle.yd_any.specs.Tree.{AnyTree}
use Rattle.yd_any.specs.Valid.{is_valid_any}
use Rattle.yd_parts.specs.AnyBytes.{IsWritable, bytes_of_any}
use Rattle.yd_parts.specs.AnyPlan.{any_plan}
use Rattle.yd_parts.specs.Exact.{ReadsExactly}
use Rattle.yd_parts.specs.Part.{Unread, last_spot, part_at}
use Rattle.yd_parts.specs.PartGrammar.{FailsPart, StandsPart}
use Rattle.yd_parts.specs.Plan.{read_by}

-- what is read of a part is what stands there, and it fails just where none does
abbrev pub PartsAreRead : Type 0
PartsAreRead = ReadsExactly part_at last_spot StandsPart FailsPart

-- what is written of a valid any-value, with texts in UTF-8, is read as it, and what follows is left
abbrev pub AnyValuesAreReadAgain : Type 0
AnyValuesAreReadAgain = (t : AnyTree) (left : Unread) (rest : List ℕ) → IsTrue (is_valid_any t) → IsWritable t → left.bytes ≡ bytes_of_any t ++ rest →
    IsOkAnd (read_by part_at last_spot (any_plan 100) left) (λ read. (read.0 ≡ t) × (read.1.bytes ≡ rest))
