-- The loop of the scan, over chains.
use Rattle.std.proofs.Common.{◌≡◌, ℕ, ◌+◌, ◌<◌, ◌≤◌, List, [], Option, Some, None, length, get_or, set, sym, subst}
use Rattle.std.specs.Prelude.{IfSome}
use Rattle.yd_ids.specs.declared.id.Id.{Id}
use Rattle.yd_words.specs.Member.{IsIn}
use Rattle.yd_origins.specs.Scan.{stops, moves, stays}
use Rattle.yd_chains.specs.Chain.{first_of, behind as places_behind}
use Rattle.yd_chains.proofs.ChainLemmas as chain
use Rattle.yd_scan.specs.declared.stretch.Stretch.{Stretch}
use Rattle.yd_scan.specs.Stretches.{stretch_at, HasOrigins}
use Rattle.yd_scan.specs.Scanning.{is_above, verdict_on, IsScanning, IsScanPlace, IsReady, Stands}
use Rattle.yd_chains.specs.Link.{Chained, AreSound}
use Rattle.yd_scan.proofs.ScanningLemmas.{scan_starts, counter_low, place_in, scan_ends, next_in, counter_lower, scan_stops, scan_moves, scan_stays}

-- what the scan stands on, with what the chains say of the list
pub are_ready : (places : Id → Option ℕ) (stretches : List Stretch) (chains : Chained) (k : ℕ) (after : Option ℕ) (new : Stretch) → AreSound chains → k < length chains.chains →
    Stands places stretches (get_or chains.chains k []) after new → IsReady places stretches (get_or chains.chains k []) after new
are_ready places stretches chains k after new sound kl s = record {
  index = s.index;
  filled = s.filled;
  within = s.within;
  distinct = sound.distinct k kl;
  has_after = s.has_after;
  ends_left = s.ends_left;
  right_begins = s.right_begins;
}

-- ---- the verdicts of the loop

module _ (places : Id → Option ℕ) (stretches : List Stretch) (chains : Chained) (k : ℕ) (after : Option ℕ) (new : Stretch) (sound : AreSound chains) (kl : k < length chains.chains)
    (stands : Stands places stretches (get_or chains.chains k []) after new) where
  abbrev list : List ℕ
  list = get_or chains.chains k []

  ready : IsReady places stretches list after new
  ready = are_ready places stretches chains k after new sound kl stands

  short : length list ≤ length stretches
  short = chain.length_within (length stretches) list ready.distinct ready.within

  pub begins : (start : ℕ) (marks : List ℕ) (at : Option ℕ) → ((i : ℕ) → get_or marks i 0 ≤ start) → length stretches ≤ length marks → at ≡ first_of (places_behind after list) →
      IsScanning stretches list after new start marks start start after at
  begins start marks at low same e = subst (λ z. IsScanning stretches list after new start marks start start after z) (sym e) (scan_starts places stretches list after new ready start marks low same)

  module _ (start : ℕ) (marks : List ℕ) (counter moved : ℕ) (place at : Option ℕ) (s : IsScanning stretches list after new start marks counter moved place at) where
    pub low : counter ≤ start + length stretches
    low = counter_low places stretches list after new ready start marks counter moved place at s short

    pub in_place : IfSome place (λ p. IsIn p list)
    in_place = place_in places stretches list after new ready start marks counter moved place at s

    pub ends : at ≡ None → (left right : Id → Option Id) → HasOrigins left right stretches list new → IsScanPlace stretches list new place left right
    ends = scan_ends places stretches list after new ready start marks counter moved place at s

    module _ (i : ℕ) (e : at ≡ Some i) where
      pub in_list : IsIn i list
      in_list = next_in places stretches list after new ready start marks counter moved place at s i e

      pub in_range : i < length stretches
      in_range = ready.within i in_list

      pub lower : counter + 1 ≤ start + length stretches
      lower = counter_lower places stretches list after new ready start marks counter moved place at s short i e

      pub stopped : stops ≡ verdict_on (stretch_at stretches i) new (is_above places marks moved (stretch_at stretches i).left) (is_above places marks start (stretch_at stretches i).left) →
          (left right : Id → Option Id) → HasOrigins left right stretches list new → IsScanPlace stretches list new place left right
      stopped v = scan_stops places stretches list after new ready start marks counter moved place at s i e (sym v)

      next_of_list : (next : Option ℕ) → ((j : ℕ) → j < length chains.chains → IsIn i (get_or chains.chains j []) → next ≡ first_of (places_behind (Some i) (get_or chains.chains j []))) → next ≡ first_of (places_behind (Some i) list)
      next_of_list next f = f k kl in_list

      pub moved_on : (marks2 : List ℕ) (counter2 moved2 : ℕ) (place2 next : Option ℕ) → moves ≡ verdict_on (stretch_at stretches i) new (is_above places marks moved (stretch_at stretches i).left) (is_above places marks start (stretch_at stretches i).left) →
          ((j : ℕ) → j < length chains.chains → IsIn i (get_or chains.chains j []) → next ≡ first_of (places_behind (Some i) (get_or chains.chains j []))) →
          marks2 ≡ set marks i (counter + 1) → counter2 ≡ counter + 1 → moved2 ≡ counter + 1 → place2 ≡ Some i →
          IsScanning stretches list after new start marks2 counter2 moved2 place2 next
      moved_on marks2 counter2 moved2 place2 next v f em ec eo ep =
          rw (em, ec, eo, ep, next_of_list next f) (scan_moves places stretches list after new ready start marks counter moved place at s i e (sym v))

      pub stayed_on : (marks2 : List ℕ) (counter2 moved2 : ℕ) (place2 next : Option ℕ) → stays ≡ verdict_on (stretch_at stretches i) new (is_above places marks moved (stretch_at stretches i).left) (is_above places marks start (stretch_at stretches i).left) →
          ((j : ℕ) → j < length chains.chains → IsIn i (get_or chains.chains j []) → next ≡ first_of (places_behind (Some i) (get_or chains.chains j []))) →
          marks2 ≡ set marks i (counter + 1) → counter2 ≡ counter + 1 → moved2 ≡ moved → place2 ≡ place →
          IsScanning stretches list after new start marks2 counter2 moved2 place2 next
      stayed_on marks2 counter2 moved2 place2 next v f em ec eo ep =
          rw (em, ec, eo, ep, next_of_list next f) (scan_stays places stretches list after new ready start marks counter moved place at s i e (sym v))
