-- The scan over runs, with a mark at each place (Yjs 13, `integrate`; marks in the place of sets are own).
use Rattle.std.specs.Prelude.{◌≡◌, ◌<◌, ◌≤◌, ◌+◌, ◌++◌, ℕ, Bool, false, nat_lt, List, [], Option, Some, None, IfSome, length, get_or, if◌then◌else◌}
use Rattle.yd_ids.specs.declared.id.Id.{Id}
use Rattle.yd_words.specs.Test.{is_some_and}
use Rattle.yd_ids.specs.Ids.{is_same, is_same_neighbour}
use Rattle.yd_origins.specs.Scan.{Verdict, stops, moves, stays, walk, scan_place}
use Rattle.yd_words.specs.Member.{IsIn, AreDistinct}
use Rattle.yd_chains.specs.Chain.{first_of, last_from, up_to, behind}
use Rattle.yd_scan.specs.declared.stretch.Stretch.{Stretch}
use Rattle.yd_scan.specs.Stretches.{stretch_at, units_at, HasOrigins, IsNoLater, IsIndex, EndsLeft}

-- whether the run at a place has a mark above a bound
abbrev pub is_above_at : List ℕ → ℕ → Option ℕ → Bool
is_above_at marks bound None = false
is_above_at marks bound (Some i) = nat_lt bound (get_or marks i 0)

-- whether the run that an origin stands in has one
abbrev pub is_above : (Id → Option ℕ) → List ℕ → ℕ → Option Id → Bool
is_above places marks bound None = false
is_above places marks bound (Some id) = is_above_at marks bound (places id)

-- what a scanned run does, where its left is conflicting, or scanned, or neither
abbrev pub verdict_by_left : Bool → Bool → Verdict
verdict_by_left conflicts scanned = if conflicts then stays else if scanned then moves else stops

-- what a scanned run does
abbrev pub verdict_on : Stretch → Stretch → Bool → Bool → Verdict
verdict_on next new conflicts scanned =
    if is_some_and (is_same next.id) new.right then stops
    else if is_same_neighbour next.left new.left then (
    if nat_lt next.id.client.0 new.id.client.0 then moves
    else if is_same_neighbour next.right new.right then stops
    else stays
    )
    else verdict_by_left conflicts scanned

-- how far a scan has come: what was passed, what conflicts, and what is still to be scanned
pub record IsScanning (stretches : List Stretch) (list : List ℕ) (after : Option ℕ) (new : Stretch) (start : ℕ) (marks : List ℕ) (counter moved : ℕ) (place at : Option ℕ) : Type 0 where
  pub passed : List ℕ
  pub conflicting : List ℕ
  pub rest : List ℕ
  pub parts : behind after list ≡ passed ++ (conflicting ++ rest)
  pub at_is : at ≡ first_of rest
  pub place_is : place ≡ last_from after passed
  pub walked : (left right : Id → Option Id) → HasOrigins left right stretches list new →
      walk left right new.id [] [] (units_at stretches (behind after list)) ≡ walk left right new.id (units_at stretches passed) (units_at stretches conflicting) (units_at stretches rest)
  pub marked_conflicting : (i : ℕ) → IsIn i conflicting → moved < get_or marks i 0
  pub marked_passed : (i : ℕ) → IsIn i passed → (start < get_or marks i 0) × (get_or marks i 0 ≤ moved)
  pub marked_others : (i : ℕ) → (IsIn i passed → ⊥) → (IsIn i conflicting → ⊥) → get_or marks i 0 ≤ start
  pub start_low : start ≤ moved
  pub counted : counter ≡ start + (length passed + length conflicting)
  pub moved_low : moved ≤ counter
  pub marks_low : (i : ℕ) → get_or marks i 0 ≤ counter
  pub marks_len : length stretches ≤ length marks

-- the place behind which a new run goes is that of its first unit by the scan over units
pub record IsScanPlace (stretches : List Stretch) (list : List ℕ) (new : Stretch) (place : Option ℕ) (left right : Id → Option Id) : Type 0 where
  pub front : units_at stretches (up_to place list) ≡ (scan_place left right (units_at stretches list) new.id).0
  pub back : units_at stretches (behind place list) ≡ (scan_place left right (units_at stretches list) new.id).1

-- all that the scan of a new run stands on: each unit is found, the list has different places of runs that are not empty,
-- the left origin ends the run at a place of it, and the right origin is no later unit of a run of it
pub record IsReady (places : Id → Option ℕ) (stretches : List Stretch) (list : List ℕ) (after : Option ℕ) (new : Stretch) : Type 0 where
  pub index : IsIndex places stretches
  pub filled : (i : ℕ) → IsIn i list → 0 < (stretch_at stretches i).len
  pub within : (i : ℕ) → IsIn i list → i < length stretches
  pub distinct : AreDistinct list
  pub has_after : IfSome after (λ p. IsIn p list)
  pub ends_left : EndsLeft stretches new.left after
  pub right_begins : IsNoLater stretches list new.right

-- what the scan of a new run asks of its caller, the list being one of chains
pub record Stands (places : Id → Option ℕ) (stretches : List Stretch) (list : List ℕ) (after : Option ℕ) (new : Stretch) : Type 0 where
  pub index : IsIndex places stretches
  pub filled : (i : ℕ) → IsIn i list → 0 < (stretch_at stretches i).len
  pub within : (i : ℕ) → IsIn i list → i < length stretches
  pub has_after : IfSome after (λ p. IsIn p list)
  pub ends_left : EndsLeft stretches new.left after
  pub right_begins : IsNoLater stretches list new.right
