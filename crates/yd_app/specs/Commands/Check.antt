-- What `check` writes of updates: seven lines, of what was found of them (own).
use Rattle.std.specs.Prelude.{◌≡◌, ℕ, List, ◌++◌, codes, decimal, Option, Some, None}
use Rattle.yd_checking.specs.Findings.{IsFound}
use Rattle.yd_checking.specs.declared.checking.Findings.{Findings}
use Rattle.yd_ids.specs.declared.id.Id.{Id}
use Rattle.yd_ops.specs.Value.{UpdateValue}

-- a line with a number
abbrev pub count_line : List ℕ → ℕ → List ℕ
count_line name count = name ++ codes " " ++ decimal count ++ codes "\n"

-- a line that says yes, or the client and the clock of the smallest id that breaks what is asked
abbrev pub verdict_line : List ℕ → Option Id → List ℕ
verdict_line name None = name ++ codes " yes\n"
verdict_line name (Some id) = name ++ codes " no " ++ decimal id.client.0 ++ codes " " ++ decimal id.clock ++ codes "\n"

-- how many operations are held and how many wait, how many deleted ids wait, how many held operations are deleted, and how many lists
-- have one; and whether the updates agree and what is held keeps the edit rules
abbrev pub findings_text : Findings → List ℕ
findings_text found =
    count_line (codes "held") found.counts.held
    ++ count_line (codes "waiting") found.counts.waiting
    ++ count_line (codes "waiting deletes") found.counts.waiting_deletes
    ++ count_line (codes "deleted") found.counts.deleted
    ++ count_line (codes "lists") found.counts.lists
    ++ verdict_line (codes "agree") found.disagreement
    ++ verdict_line (codes "honest") found.dishonest

-- the bytes are so of what a replica may find that received the updates
pub record IsChecked (updates : List UpdateValue) (bytes : List ℕ) : Type 0 where
  pub found : Findings
  pub is_found : IsFound found updates
  pub bytes_are : bytes ≡ findings_text found
