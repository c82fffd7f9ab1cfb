-- The live counted units of a list, among the units that are lent (Yjs 13, the length of a type).
use Rattle.std.specs.Prelude.{ℕ, zero, suc, Bool, true, false, ◌&&◌, not, List, [], ◌∷◌, if◌then◌else◌}
use Rattle.yd_ids.specs.declared.id.Id.{Id}
use Rattle.yd_ops.specs.Operation.{later_id}
use Rattle.yd_ops.specs.Value.{ContentValue, json, binary, string, embed, format, nested, any, deleted}
use Rattle.yd_shown.specs.Shown.{is_counted}
use Rattle.yd_state.specs.Lent.{Lent}

-- whether the units of a content are counted
abbrev pub counts : ContentValue → Bool
counts (json units) = true
counts (binary blob) = true
counts (string units) = true
counts (embed value) = true
counts (format key value) = false
counts (nested kind) = true
counts (any values) = true
counts (deleted count) = false

-- the ids of those of some lent units that are live and counted
abbrev pub counted_ids : List Lent → List Id
counted_ids [] = []
counted_ids (u ∷ us) = if not u.is_deleted && is_counted u.content then u.id ∷ counted_ids us else counted_ids us

-- so many ids of a client in a row, from one on
abbrev pub ids_from : Id → ℕ → List Id
ids_from id zero = []
ids_from id (suc n) = id ∷ ids_from (later_id id 1) n
