-- Small tables, and what is computed of them (own; the lists that scans give in `TwoClients`, `RightOrigin` and `BrokenRules` are those of Yjs 13).
use Rattle.std.specs.Prelude.{◌≡◌, true, false, ℕ, List, [], ◌∷◌, ◌++◌, Option, Some, None, refl, nat_lt, if◌then◌else◌}
use Rattle.yd_words.specs.Test.{is_some_and}
use Rattle.yd_ids.specs.declared.id.Id.{Id}
use Rattle.yd_ids.specs.Ids.{is_same_neighbour, has_id}
use Rattle.yd_origins.specs.Table.{Row, OriginTable, left_of, right_of}
use Rattle.yd_origins.specs.Before.{is_before, IsBetween, Reaches}
use Rattle.yd_origins.specs.Sorted.{origin_order}
use Rattle.yd_origins.specs.Operations.{ListNames, OperationSet, MeetsRules, IsHonest}
use Rattle.yd_origins.specs.Scan.{Verdict, stops, moves, stays, verdict, after_scan, after_scans}

-- ---- rows

-- a client's unit with a clock
abbrev pub id_of : ℕ → ℕ → Id
id_of client clock = record { client = record { 0 = client }; clock = clock }

-- a row
abbrev pub row_of : Id → Option Id → Option Id → Row
row_of id left right = record { id = id; left = left; right = right }

-- the list after the scans of some ids, from nothing
abbrev pub grown : OriginTable → List Id → List Id
grown table news = after_scans (left_of table) (right_of table) [] news

-- the name of a single list, which belongs to no item and has no key
abbrev pub one_name : ListNames (Unit {0})
one_name = record { is_same = λ a b. true; decides = λ a b. ((λ e. refl), (λ e. refl)); item_of = λ a. None; has_key = λ a. false }

-- rows as operations of that list
abbrev pub of_one_list : OriginTable → OperationSet one_name
of_one_list table = record { origins = table; carried = λ x. tt }

-- ---- the order and the scan agree

-- two units that two clients put into an empty list
abbrev pub two_clients : OriginTable
two_clients =
    row_of (id_of 1 0) None None
    ∷ row_of (id_of 2 0) None None
    ∷ []

-- the smaller client's unit stands first, in whichever order they come
pub record TwoClients : Type 0 where
  pub honest : IsHonest (of_one_list two_clients)
  pub order : origin_order two_clients ≡ id_of 1 0 ∷ id_of 2 0 ∷ []
  pub smaller_first : grown two_clients (id_of 1 0 ∷ id_of 2 0 ∷ []) ≡ id_of 1 0 ∷ id_of 2 0 ∷ []
  pub greater_first : grown two_clients (id_of 2 0 ∷ id_of 1 0 ∷ []) ≡ id_of 1 0 ∷ id_of 2 0 ∷ []

-- two units of an empty list, and one that client 3 put in front of client 0's
abbrev pub three_clients : OriginTable
three_clients =
    row_of (id_of 0 0) None None
    ∷ row_of (id_of 1 0) None None
    ∷ row_of (id_of 3 0) None (Some (id_of 0 0))
    ∷ []

-- the unit of client 3 stands in front of its right, and so before a unit of a smaller client, in whichever order they come
pub record RightOrigin : Type 0 where
  pub honest : IsHonest (of_one_list three_clients)
  pub order : origin_order three_clients ≡ id_of 3 0 ∷ id_of 0 0 ∷ id_of 1 0 ∷ []
  pub one_last : grown three_clients (id_of 0 0 ∷ id_of 3 0 ∷ id_of 1 0 ∷ []) ≡ id_of 3 0 ∷ id_of 0 0 ∷ id_of 1 0 ∷ []
  pub three_last : grown three_clients (id_of 0 0 ∷ id_of 1 0 ∷ id_of 3 0 ∷ []) ≡ id_of 3 0 ∷ id_of 0 0 ∷ id_of 1 0 ∷ []
  pub one_first : grown three_clients (id_of 1 0 ∷ id_of 0 0 ∷ id_of 3 0 ∷ []) ≡ id_of 3 0 ∷ id_of 0 0 ∷ id_of 1 0 ∷ []

-- ---- other scans

-- a walk by another verdict of the scanned rows, over what is passed and what is conflicting
abbrev pub walk_by : (List Id → List Id → Id → Verdict) → List Id → List Id → List Id → List Id × List Id
walk_by says passed conflicting [] = (passed, conflicting)
walk_by says passed conflicting (next ∷ rest) = elim (says passed conflicting next) [
  | stops ↦ (passed, conflicting ++ next ∷ rest)
  | moves ↦ walk_by says (passed ++ conflicting ++ next ∷ []) [] rest
  | stays ↦ walk_by says passed (conflicting ++ next ∷ []) rest
]

-- the list after a scan by another verdict, of a row that has no left
abbrev pub after_scan_by : (OriginTable → Id → List Id → List Id → Id → Verdict) → OriginTable → List Id → Id → List Id
after_scan_by says table list new =
    let parts : List Id × List Id = walk_by (says table new) [] [] list in
    parts.0 ++ new ∷ parts.1

-- the scan's own verdict
abbrev pub own_verdict : OriginTable → Id → List Id → List Id → Id → Verdict
own_verdict table new = verdict (left_of table) (right_of table) new

-- the scan stops at the first greater client with the new row's left, whatever its right
abbrev pub stops_at_greater : OriginTable → Id → List Id → List Id → Id → Verdict
stops_at_greater table new passed conflicting next =
    if is_same_neighbour (left_of table next) (left_of table new) then (if nat_lt next.client.0 new.client.0 then moves else stops)
    else own_verdict table new passed conflicting next

-- the place moves behind a greater client in place of a smaller one
abbrev pub greater_goes_first : OriginTable → Id → List Id → List Id → Id → Verdict
greater_goes_first table new passed conflicting next =
    if is_same_neighbour (left_of table next) (left_of table new) then (if nat_lt new.client.0 next.client.0 then moves else stops)
    else own_verdict table new passed conflicting next

-- the place moves behind each row whose left was scanned
abbrev pub moves_with_left : OriginTable → Id → List Id → List Id → Id → Verdict
moves_with_left table new passed conflicting next =
    if is_some_and (has_id conflicting) (left_of table next) then moves else own_verdict table new passed conflicting next

-- client 2 put two units in front of client 3's, and client 1 one into the empty list
abbrev pub unit_with_follower : OriginTable
unit_with_follower =
    row_of (id_of 3 0) None None
    ∷ row_of (id_of 2 0) None (Some (id_of 3 0))
    ∷ row_of (id_of 2 1) (Some (id_of 2 0)) (Some (id_of 3 0))
    ∷ row_of (id_of 1 0) None None
    ∷ []

-- on honest sets each of the other scans gives another list than the origin order, which the scan gives
pub record OtherScans : Type 0 where
  pub honest : IsHonest (of_one_list unit_with_follower)
  pub stops_early : after_scan_by stops_at_greater three_clients (id_of 3 0 ∷ id_of 0 0 ∷ []) (id_of 1 0)
      ≡ id_of 1 0 ∷ id_of 3 0 ∷ id_of 0 0 ∷ []
  pub goes_on : after_scan (left_of three_clients) (right_of three_clients) (id_of 3 0 ∷ id_of 0 0 ∷ []) (id_of 1 0)
      ≡ origin_order three_clients
  pub greater_first : after_scan_by greater_goes_first two_clients (id_of 2 0 ∷ []) (id_of 1 0) ≡ id_of 2 0 ∷ id_of 1 0 ∷ []
  pub smaller_first : after_scan (left_of two_clients) (right_of two_clients) (id_of 2 0 ∷ []) (id_of 1 0)
      ≡ origin_order two_clients
  pub moves_always : after_scan_by moves_with_left unit_with_follower (id_of 2 0 ∷ id_of 2 1 ∷ id_of 3 0 ∷ []) (id_of 1 0)
      ≡ id_of 2 0 ∷ id_of 2 1 ∷ id_of 1 0 ∷ id_of 3 0 ∷ []
  pub stays : after_scan (left_of unit_with_follower) (right_of unit_with_follower) (id_of 2 0 ∷ id_of 2 1 ∷ id_of 3 0 ∷ []) (id_of 1 0)
      ≡ origin_order unit_with_follower
  pub order : origin_order unit_with_follower ≡ id_of 1 0 ∷ id_of 2 0 ∷ id_of 2 1 ∷ id_of 3 0 ∷ []

-- ---- sets that break the edit rules

-- client 1 put in two units, one behind the other, and client 2 one that has the second as its left and the first as its right
abbrev pub crossed : OriginTable
crossed =
    row_of (id_of 1 0) None None
    ∷ row_of (id_of 1 1) (Some (id_of 1 0)) None
    ∷ row_of (id_of 2 0) (Some (id_of 1 1)) (Some (id_of 1 0))
    ∷ []

-- client 1 put a unit into an empty list, and then a second one as if the list were empty still
abbrev pub both_first : OriginTable
both_first =
    row_of (id_of 1 0) None None
    ∷ row_of (id_of 1 1) None None
    ∷ []

-- the units of client 1 in the first set meet the rules, and client 2's does not; in the second set client 1's second unit
-- does not, and the scan puts it in front of the first, where the order has it behind
pub record BrokenRules : Type 0 where
  pub first_meets : MeetsRules (of_one_list crossed) (id_of 1 0)
  pub second_meets : MeetsRules (of_one_list crossed) (id_of 1 1)
  pub crossed_breaks : MeetsRules (of_one_list crossed) (id_of 2 0) → ⊥
  pub one_meets : MeetsRules (of_one_list both_first) (id_of 1 0)
  pub other_breaks : MeetsRules (of_one_list both_first) (id_of 1 1) → ⊥
  pub order : origin_order both_first ≡ id_of 1 0 ∷ id_of 1 1 ∷ []
  pub scan : grown both_first (id_of 1 0 ∷ id_of 1 1 ∷ []) ≡ id_of 1 1 ∷ id_of 1 0 ∷ []

-- client 3's row has client 0's as its right and the front as its left, with client 2's between them, which is the left of
-- its right
abbrev pub row_between : OriginTable
row_between =
    row_of (id_of 2 0) None None
    ∷ row_of (id_of 0 0) (Some (id_of 2 0)) None
    ∷ row_of (id_of 3 0) None (Some (id_of 0 0))
    ∷ row_of (id_of 1 0) (Some (id_of 2 0)) None
    ∷ []

-- a row that is reached stands between a row's neighbours: the scan for client 1's stops at that row, where the order goes on
pub record RowBetween : Type 0 where
  pub reached : Reaches (left_of row_between) (right_of row_between) (id_of 3 0) (id_of 2 0)
  pub between : IsBetween (is_before row_between) (left_of row_between (id_of 3 0)) (right_of row_between (id_of 3 0)) (id_of 2 0)
  pub order : origin_order row_between ≡ id_of 2 0 ∷ id_of 3 0 ∷ id_of 0 0 ∷ id_of 1 0 ∷ []
  pub scan : after_scan (left_of row_between) (right_of row_between) (id_of 2 0 ∷ id_of 3 0 ∷ id_of 0 0 ∷ []) (id_of 1 0)
      ≡ id_of 2 0 ∷ id_of 1 0 ∷ id_of 3 0 ∷ id_of 0 0 ∷ []
