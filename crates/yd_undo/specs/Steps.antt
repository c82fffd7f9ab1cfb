-- The steps that undo an entry: what it inserted is removed first, and then what it deleted is made again (own).
use Rattle.std.specs.Prelude.{Bool, ◌&&◌, not, List, ◌∷◌, nat_lt}
use Rattle.yd_ids.specs.declared.id.Id.{Id}
use Rattle.yd_editing.specs.Step.{Step, remove}
use Rattle.yd_subsets.specs.Part.{part_that}
use Rattle.yd_undo.specs.declared.entry.Entry.{Entry}
use Rattle.yd_undo.specs.Remade.{Seen, remade_steps}

-- whether a unit is live: it is held, and not deleted
abbrev pub is_live : Seen → Id → Bool
is_live seen x = nat_lt x.clock (seen.basis.vector x.client.0) && not (seen.basis.document.deleted x)

-- the live ids that the entry inserted are removed, and what it deleted is made again
abbrev pub undo_steps : Seen → Entry → List Step
undo_steps seen e = remove (part_that (is_live seen) e.inserted) ∷ remade_steps seen e.deleted
