-- What `show` writes of updates (own).
use Rattle.std.specs.Prelude.{◌≡◌, ℕ, List, [], ◌∷◌, ◌++◌}
use Rattle.yd_meaning.specs.Document.{Document}
use Rattle.yd_meaning.specs.Replica.{IsReplicaDocument}
use Rattle.yd_modes.specs.Modes.{mode_of}
use Rattle.yd_modes.specs.declared.mode.Mode.{Mode}
use Rattle.yd_ops.specs.declared.lists.Parent.TheVariants.{Root}
use Rattle.yd_ops.specs.Value.{UpdateValue}
use Rattle.yd_ops.specs.Received.{received_set}
use Rattle.yd_shown.specs.Shown.{printed_text, shown}

-- what the root shows in a mode in a document, as it is printed, and a line feed
abbrev pub shown_line : Mode → List ℕ → Document → List ℕ
shown_line mode root document = printed_text (mode_of mode) (shown document (Root root) (mode_of mode)) ++ 10 ∷ []

-- the line is so of a document that a replica may have of what the updates bring together
pub record IsShown (mode : Mode) (root : List ℕ) (updates : List UpdateValue) (line : List ℕ) : Type 0 where
  pub document : Document
  pub is_document : IsReplicaDocument document (received_set updates)
  pub line_is : line ≡ shown_line mode root document
