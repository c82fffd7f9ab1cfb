-- What a cut has written of the structs that it took, while it meets nothing but what it treats (own).
use Rattle.std.specs.Prelude.{◌≡◌, ◌⊎◌, ℕ, ◌<◌, ◌≤◌, false, List, [], ◌∷◌, Option, Some, None, map}
use Rattle.yd_words.specs.Each.{Each}
use Rattle.yd_ids.specs.Vector.{clock_of}
use Rattle.yd_ids.specs.declared.id.Client.{Client}
use Rattle.yd_ids.specs.declared.id.Id.{Id}
use Rattle.yd_ids.specs.declared.id.Span.{Span}
use Rattle.yd_ops.specs.Valid.{IsValidUpdate}
use Rattle.yd_ops.specs.Value.{UpdateValue}
use Rattle.yd_grouping.specs.Building.{Built, all_pushed, nothing_built}
use Rattle.yd_grouping.specs.Groups.{Group}
use Rattle.yd_merge.specs.Cutting.{cut_lents}
use Rattle.yd_merge.specs.Lending.{AreInTurn, IsLent, lent_group}
use Rattle.yd_merge.specs.declared.lending.Lent.{Lent}
use Rattle.yd_reading.specs.Taking.{Section, sections_of}
use Rattle.yd_skimming.specs.GroupWriting.{HasBuilt}
use Rattle.yd_skimming.specs.Sections.{groups_of_sections, spans_of_sections}
use Rattle.yd_skimming.specs.Tails.{id_behind}
use Rattle.yd_skimming.specs.declared.cutter.Cutter.{Cutter}
use Rattle.yd_skimming.specs.declared.group_writing.GroupWriter.{GroupWriter}

-- ---- in turn

-- the id behind the last of some groups, if there is one
abbrev pub end_of_groups : List Group → Option Id
end_of_groups [] = None
end_of_groups (group ∷ []) = Some (id_behind group)
end_of_groups (group ∷ next ∷ groups) = end_of_groups (next ∷ groups)

-- what begins at the second id is written wholly behind what ends before the first: it is of a smaller client, or of the same one and begins not before the end
abbrev pub IsBehind : Option Id → Id → Type 0
IsBehind None id = Unit {0}
IsBehind (Some end) id = (id.client.0 < end.client.0) ⊎ ((end.client.0 ≡ id.client.0) × (end.clock ≤ id.clock))

-- ---- what is written

-- what is built of what is lent and in the cut
abbrev pub built_by : (ℕ → ℕ) → List Lent → Built
built_by vector lents = all_pushed nothing_built (cut_lents vector lents)

-- the groups came in turn, and what of them is in the cut is written
pub record HasCut (vector : ℕ → ℕ) (behind : Option Id) (writer : GroupWriter) (groups : List Group) : Type 0 where
  pub lents : List Lent
  pub are : map lent_group lents ≡ groups
  pub each : Each IsLent lents
  pub in_turn : AreInTurn groups
  pub behind_is : behind ≡ end_of_groups groups
  pub built : HasBuilt writer (built_by vector lents)

-- the cut by the vector has the groups of these sections, and the ids that they spell deleted or gone are named
pub record HasTaken (vector : List (Client × ℕ)) (cutter : Cutter) (sections : List Section) : Type 0 where
  pub vector_is : cutter.vector ≡ vector
  pub cut : HasCut (clock_of vector) cutter.behind cutter.writer (groups_of_sections sections)
  pub named : cutter.named.items ≡ spans_of_sections sections

-- it met what it does not treat, or it has taken these sections
abbrev pub TookCut : List (Client × ℕ) → Cutter → List Section → Type 0
TookCut vector cutter sections = (cutter.is_plain ≡ false) ⊎ HasTaken vector cutter sections

-- the update is valid, the cut has taken its structs, and these are its deletions
pub record EndsCut (vector : List (Client × ℕ)) (cutter : Cutter) (deletes : List Span) (update : UpdateValue) : Type 0 where
  pub valid : IsValidUpdate update
  pub taken : HasTaken vector cutter (sections_of update)
  pub deletes_are : deletes ≡ update.deletes
