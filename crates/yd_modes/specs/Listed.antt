-- The values of a list that came so far, and what they become with the units that come.
use Rattle.std.specs.Prelude.{◌≡◌, ◌++◌, false, List, [], ◌∷◌}
use Rattle.yd_any.specs.Tree.{AnyTree, AnyTrees, no_trees, tree, no_fields}
use Rattle.yd_ops.specs.Operation.{Operation}
use Rattle.yd_state.specs.Lent.{Lent}
use Rattle.yd_value.specs.View.{shown_trees}
use Rattle.yd_view.specs.Halves.{shown_last}
use Rattle.yd_modes.specs.declared.listed.Listed.{Listed}
use Rattle.yd_modes.specs.Roles.{Values}
use Rattle.yd_modes.specs.Gathering.{Told, parts, closed_text, IsSilent}

-- values as they are told, without attributes
abbrev pub plain_told : AnyTrees → List Told
plain_told no_trees = []
plain_told (tree t ts) = (t, no_fields) ∷ plain_told ts

-- the values that came and those of the units that come
abbrev pub listed : (Operation → AnyTree) → Listed → List Lent → List Told
listed show l us = parts Values show (plain_told (shown_trees l.values)) l.halves.shown.items l.halves.joined l.halves.last no_fields no_fields us

-- these units came next
abbrev pub Lists : (Operation → AnyTree) → Listed → Listed → List Lent → Type 0
Lists show old new came = (us : List Lent) → listed show new us ≡ listed show old (came ++ us)

-- a unit that is no text came, so the one before is shown
pub record Silences (old new : Listed) : Type 0 where
  pub values : shown_trees new.values ≡ shown_trees old.values
  pub shown : new.halves.shown.items ≡ old.halves.shown.items ++ shown_last old.halves.joined old.halves.last false []
  pub silent : IsSilent new.halves.last

-- the open text became a value
pub record Ends (old new : Listed) : Type 0 where
  pub values : plain_told (shown_trees new.values) ≡ plain_told (shown_trees old.values) ++ closed_text old.halves.shown.items no_fields
  pub shown : new.halves.shown.items ≡ []
  pub silent : IsSilent old.halves.last → IsSilent new.halves.last
