-- The ids that updates delete by name, as spans in any order (own).
use Rattle.std.specs.Prelude.{List, [], ◌∷◌, ◌++◌}
use Rattle.yd_ids.specs.declared.id.Span.{Span}
use Rattle.yd_ops.specs.Value.{UpdateValue}
use Rattle.yd_ops.specs.Deletes.{blocks_spans}

-- those that an update spells deleted or gone, and those that its deletions name
abbrev pub named_spans : UpdateValue → List Span
named_spans update = blocks_spans update.blocks ++ update.deletes

-- those of some updates, one after another
abbrev pub all_named : List UpdateValue → List Span
all_named [] = []
all_named (update ∷ updates) = named_spans update ++ all_named updates
