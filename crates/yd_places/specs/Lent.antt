-- Units up to one of them, as they are lent (own).
use Rattle.std.specs.Prelude.{ℕ, Bool, true, false, List, [], ◌∷◌, if◌then◌else◌}
use Rattle.yd_ids.specs.declared.id.Id.{Id}
use Rattle.yd_ids.specs.Ids.{is_same}
use Rattle.yd_state.specs.declared.listing.RunView.{RunView}
use Rattle.yd_state.specs.Lent.{Lent}

-- the lent units up to the one with an id; with that one, if it is to be counted in
abbrev pub lent_to : Bool → Id → List Lent → List Lent
lent_to with_it x [] = []
lent_to with_it x (u ∷ us) = if is_same u.id x then (if with_it then u ∷ [] else []) else u ∷ lent_to with_it x us

-- so many first units of a piece
abbrev pub front_of : RunView → ℕ → RunView
front_of piece len = record { id = piece.id; len = len; deleted = piece.deleted; content = piece.content; offset = piece.offset }

-- how many units a unit is, where it is to be counted in
abbrev pub one_if : Bool → ℕ
one_if true = 1
one_if false = 0
