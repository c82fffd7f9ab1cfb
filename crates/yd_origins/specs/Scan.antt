-- The integration scan: where a new row goes in a list (YATA; Yjs 13, `integrate` of an item).
--
-- The scan begins behind the new row's left and goes up to its right. The place stands behind the left at first, and the
-- scan may move it behind a row that it has scanned:
--
--   .. left │ passed .. │ conflicting .. │ next .. right ..
--           │           ↑ the place      │
--           └──────── scanned ───────────┘
--
-- Yjs calls the scanned items "before the origin", and those that were scanned since the place last moved
-- "conflicting". A scanned row's own left tells what it does:
--
--   it is the new row's right                                  the scan stops in front of it
--   its left is the new row's left, or both have none:
--     its client is smaller                                    the place moves behind it
--     its client is not smaller, and its right the same        the scan stops
--     its client is not smaller, and its right another         the place stays
--   its left is conflicting                                    the place stays
--   its left is passed                                         the place moves behind it
--   otherwise                                                  the scan stops
use Rattle.std.specs.Prelude.{List, [], ◌∷◌, ◌++◌, Option, nat_lt, if◌then◌else◌}
use Rattle.yd_words.specs.Test.{is_some_and}
use Rattle.yd_ids.specs.declared.id.Id.{Id}
use Rattle.yd_ids.specs.Ids.{is_same, is_same_neighbour, has_id}
use Rattle.yd_origins.specs.Parts.{up_to, behind}

-- what a scanned row does: the scan stops in front of it, the place moves behind it, or the scan goes on and the place stays
pub data Verdict : Type 0 where
  stops : Verdict
  moves : Verdict
  stays : Verdict

-- what the next row does to the scan for a new one
abbrev pub verdict : (Id → Option Id) → (Id → Option Id) → Id → List Id → List Id → Id → Verdict
verdict left right new passed conflicting next =
    if is_some_and (is_same next) (right new) then stops
    else if is_same_neighbour (left next) (left new) then (
    if nat_lt next.client.0 new.client.0 then moves
    else if is_same_neighbour (right next) (right new) then stops
    else stays
    )
    else if is_some_and (has_id conflicting) (left next) then stays
    else if is_some_and (has_id passed) (left next) then moves
    else stops

-- what comes to stand before the new row, and what behind it, of all that stands behind its left
abbrev pub walk : (Id → Option Id) → (Id → Option Id) → Id → List Id → List Id → List Id → List Id × List Id
walk left right new passed conflicting [] = (passed, conflicting)
walk left right new passed conflicting (next ∷ rest) = elim (verdict left right new passed conflicting next) [
  | stops ↦ (passed, conflicting ++ next ∷ rest)
  | moves ↦ walk left right new (passed ++ conflicting ++ next ∷ []) [] rest
  | stays ↦ walk left right new passed (conflicting ++ next ∷ []) rest
]

-- the place that the scan finds: what of the list stands before the new row, and what behind it
abbrev pub scan_place : (Id → Option Id) → (Id → Option Id) → List Id → Id → List Id × List Id
scan_place left right list new =
    let parts : List Id × List Id = walk left right new [] [] (behind (left new) list) in
    (up_to (left new) list ++ parts.0, parts.1)

-- the list with the new row at the place that the scan finds
abbrev pub after_scan : (Id → Option Id) → (Id → Option Id) → List Id → Id → List Id
after_scan left right list new =
    let place : List Id × List Id = scan_place left right list new in
    place.0 ++ new ∷ place.1

-- the list after the scan of each of some rows in turn
abbrev pub after_scans : (Id → Option Id) → (Id → Option Id) → List Id → List Id → List Id
after_scans left right list [] = list
after_scans left right list (new ∷ others) = after_scans left right (after_scan left right list new) others
