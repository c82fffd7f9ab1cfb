-- Attributes in force, as fields.
use Rattle.std.specs.Prelude.{◌≡◌, ◌<◌, ◌≤◌, ℕ, List, [], ◌∷◌, length, set}
use Rattle.std.specs.List.{insert}
use Rattle.yd_any.specs.Tree.{AnyFields, no_fields, field}
use Rattle.yd_any.specs.Carried.{put}
use Rattle.yd_any.specs.JsonView.{json_tree}
use Rattle.yd_modes.specs.declared.marks.Mark.{Mark}
use Rattle.yd_modes.specs.declared.marks.Place.{Place}
use Rattle.yd_modes.specs.declared.marks.Place.TheVariants.{At, Before}

-- the keys and values of marks
abbrev pub marks_fields : List Mark → AnyFields
marks_fields [] = no_fields
marks_fields (m ∷ ms) = field m.key.now (json_tree m.value.now) (marks_fields ms)

-- a mark with the key that is put there is put in the order of the keys
abbrev pub IsPlace : List ℕ → List Mark → Place → Type 0
IsPlace key marks (At i) =
    (i < length marks) × ((m : Mark) → m.key.now ≡ key → marks_fields (set marks i m) ≡ put key (json_tree m.value.now) (marks_fields marks))
IsPlace key marks (Before i) =
    (i ≤ length marks) × ((m : Mark) → m.key.now ≡ key → marks_fields (insert marks i m) ≡ put key (json_tree m.value.now) (marks_fields marks))
