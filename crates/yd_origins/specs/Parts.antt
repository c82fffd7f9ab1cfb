-- Parts of a list of ids: its first, and what stands up to an id and behind it.
use Rattle.std.specs.Prelude.{List, [], ◌∷◌, Option, Some, None, if◌then◌else◌}
use Rattle.yd_ids.specs.declared.id.Id.{Id}
use Rattle.yd_ids.specs.Ids.{is_same}

-- the id that stands first
abbrev pub first_of : List Id → Option Id
first_of [] = None
first_of (x ∷ xs) = Some x

-- the list up to an id, with it; an absent one is the front
abbrev pub up_to : Option Id → List Id → List Id
up_to None list = []
up_to (Some p) [] = []
up_to (Some p) (x ∷ xs) = x ∷ (if is_same x p then [] else up_to (Some p) xs)

-- what stands behind an id in the list
abbrev pub behind : Option Id → List Id → List Id
behind None list = list
behind (Some p) [] = []
behind (Some p) (x ∷ xs) = if is_same x p then xs else behind (Some p) xs
