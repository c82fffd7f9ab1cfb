-- Each turn of the scan over runs is one over their units.
use Rattle.std.proofs.Common.{◌≡◌, ◌≢◌, ℕ, ◌+◌, ◌-◌, ◌<◌, ◌≤◌, ◌⊎◌, inl, inr, List, [], ◌∷◌, ◌++◌, Option, Some, None, length, get_or, set, refl, sym, ap, ap₂, ◌∙◌, subst, arith, append_assoc, append-nil}
use Rattle.std.specs.Prelude.{IfSome}
use Rattle.std.proofs.lemmas.List.{length-append, length-set}
use Rattle.yd_ids.specs.declared.id.Id.{Id}
use Rattle.yd_words.specs.Member.{IsIn, AreDistinct}
use Rattle.yd_words.proofs.MemberLemmas.{in_left_part, in_right_part, in_parts}
use Rattle.yd_origins.specs.Parts.{up_to, behind}
use Rattle.yd_origins.specs.Growing.{run_walk}
use Rattle.yd_origins.specs.Scan.{stops, moves, stays, walk}
use Rattle.yd_chains.specs.Chain.{first_of, last_from, last_of, up_to as places_to, behind as places_behind, before}
use Rattle.yd_chains.proofs.ChainLemmas as chain
use Rattle.yd_scan.specs.declared.stretch.Stretch.{Stretch}
use Rattle.yd_scan.specs.Stretches.{units_from, units_of, stretch_at, units_at, HasOrigins, EndsLeft}
use Rattle.yd_scan.specs.Scanning.{is_above, verdict_on, IsScanning, IsScanPlace, IsReady}
use Rattle.yd_scan.proofs.UnitLemmas.{units_last, from_below, units_append, not_in_units, cut_behind_last, last_append, ids_cut, to_before}
use Rattle.yd_scan.proofs.StandingLemmas as standing
use Rattle.yd_scan.proofs.StandingLemmas.{next_part, other_mark, same_mark}

module _ (places : Id → Option ℕ) (stretches : List Stretch) (list : List ℕ) (after : Option ℕ) (new : Stretch) (ready : IsReady places stretches list after new) where
  -- no mark is above the one that is given next
  still_low : (marks : List ℕ) (counter i : ℕ) → i < length marks → ((j : ℕ) → get_or marks j 0 ≤ counter) →
      (j : ℕ) → get_or (set marks i (counter + 1)) j 0 ≤ counter + 1
  still_low marks counter i inside low j = elim (chain.same_place j i) [
    | inl t ↦ omega (arith, ap (λ k. get_or (set marks i (counter + 1)) k 0) t.1, same_mark marks i (counter + 1) inside)
    | inr t ↦ omega (arith, other_mark marks i (counter + 1) j t.1, low j)
  ]

  -- the next run stays
  pub scan_stays : (start : ℕ) (marks : List ℕ) (counter moved : ℕ) (place at : Option ℕ) → IsScanning stretches list after new start marks counter moved place at →
      (i : ℕ) → at ≡ Some i → verdict_on (stretch_at stretches i) new (is_above places marks moved (stretch_at stretches i).left) (is_above places marks start (stretch_at stretches i).left) ≡ stays →
      IsScanning stretches list after new start (set marks i (counter + 1)) (counter + 1) moved place (first_of (places_behind (Some i) list))
  scan_stays start marks counter moved place at s i e turn =
      let cut = next_part s.rest i (sym s.at_is ∙ e) in
      let tail = cut.0 in
      let parts : places_behind after list ≡ s.passed ++ (s.conflicting ++ i ∷ tail) = s.parts ∙ ap (λ xs. s.passed ++ (s.conflicting ++ xs)) cut.1 in
      let here : IsIn i (places_behind after list) = subst (IsIn i) (sym parts) (in_right_part i s.passed (s.conflicting ++ i ∷ tail) (in_right_part i s.conflicting (i ∷ tail) (inl refl))) in
      let lt = (standing.behind_within places stretches list after new ready) i here in
      let fresh = (standing.not_scanned places stretches list after new ready) s.passed s.conflicting tail i parts in
      record {
        passed = s.passed;
        conflicting = s.conflicting ++ i ∷ [];
        rest = tail;
        parts = parts ∙ ap (λ xs. s.passed ++ xs) (sym (append_assoc s.conflicting (i ∷ []) tail));
        at_is = ap first_of ((standing.next_is places stretches list after new ready) s.passed s.conflicting tail i parts);
        place_is = s.place_is;
        walked = λ left right o. s.walked left right o
            ∙ ap (λ xs. walk left right new.id (units_at stretches s.passed) (units_at stretches s.conflicting) (units_at stretches xs)) cut.1
            ∙ (standing.whole places stretches list after new ready) left right o i tail (units_at stretches s.passed) (units_at stretches s.conflicting) here
            ∙ ap (λ v. run_walk left right new.id (units_at stretches s.passed) (units_at stretches s.conflicting) (units_of (stretch_at stretches i)) (units_at stretches tail) v)
            ((standing.turn_is places stretches list after new ready) start marks counter moved place at s i ((standing.behind_in places stretches list after new ready) i here) stays turn left right o)
            ∙ ap (λ xs. walk left right new.id (units_at stretches s.passed) xs (units_at stretches tail))
            (ap (λ xs. units_at stretches s.conflicting ++ xs) (sym (append-nil (units_of (stretch_at stretches i)))) ∙ sym (units_append stretches s.conflicting (i ∷ [])));
        marked_conflicting = λ j h. elim (chain.same_place j i) [
          | inl t ↦ omega (arith, ap (λ k. get_or (set marks i (counter + 1)) k 0) t.1, same_mark marks i (counter + 1) (omega (arith, lt, s.marks_len)), s.moved_low)
          | inr t ↦ omega (arith, other_mark marks i (counter + 1) j t.1, s.marked_conflicting j (still j s.conflicting t.1 h))
        ];
        marked_passed = λ j h.
            let n : j ≢ i = λ q. fresh (inl (subst (λ k. IsIn k s.passed) q h)) in
            (omega (arith, other_mark marks i (counter + 1) j n, (s.marked_passed j h).0), omega (arith, other_mark marks i (counter + 1) j n, (s.marked_passed j h).1));
        marked_others = λ j p q.
            let n : j ≢ i = λ k. q (in_right_part j s.conflicting (i ∷ []) (inl k)) in
            omega (arith, other_mark marks i (counter + 1) j n, s.marked_others j p (λ k. q (in_left_part j s.conflicting (i ∷ []) k)));
        start_low = s.start_low;
        counted = omega (arith, s.counted, length-append s.conflicting (i ∷ []));
        moved_low = omega (arith, s.moved_low);
        marks_low = still_low marks counter i (omega (arith, lt, s.marks_len)) s.marks_low;
        marks_len = omega (arith, length-set marks i (counter + 1), s.marks_len);
      }
    where
      still : (j : ℕ) (xs : List ℕ) → j ≢ i → IsIn j (xs ++ i ∷ []) → IsIn j xs
      still j xs n h = elim (in_parts j xs (i ∷ []) h) [ inl k ↦ k | inr (inl k) ↦ absurd (n k) | inr (inr k) ↦ absurd k ]

  -- what was scanned before the next run has a mark above that at the start
  above_start : (start : ℕ) (marks : List ℕ) (counter moved : ℕ) (place at : Option ℕ) (s : IsScanning stretches list after new start marks counter moved place at)
      (i j : ℕ) → j ≢ i → IsIn j (s.passed ++ (s.conflicting ++ i ∷ [])) → start < get_or marks j 0
  above_start start marks counter moved place at s i j n h = elim (in_parts j s.passed (s.conflicting ++ i ∷ []) h) [
    | inl k ↦ (s.marked_passed j k).0
    | inr k ↦ elim (in_parts j s.conflicting (i ∷ []) k) [
      | inl m ↦ omega (arith, s.marked_conflicting j m, s.start_low)
      | inr (inl m) ↦ absurd (n m)
      | inr (inr m) ↦ absurd m
    ]
  ]

  -- with its own mark they are marked above that at the start, and none above the next one
  passed_marks : (start : ℕ) (marks : List ℕ) (counter moved : ℕ) (place at : Option ℕ) (s : IsScanning stretches list after new start marks counter moved place at)
      (i : ℕ) → i < length marks → (j : ℕ) → IsIn j (s.passed ++ (s.conflicting ++ i ∷ [])) →
      (start < get_or (set marks i (counter + 1)) j 0) × (get_or (set marks i (counter + 1)) j 0 ≤ counter + 1)
  passed_marks start marks counter moved place at s i inside j h = (above, still_low marks counter i inside s.marks_low j)
    where
      above : start < get_or (set marks i (counter + 1)) j 0
      above = elim (chain.same_place j i) [
        | inl t ↦ omega (arith, ap (λ k. get_or (set marks i (counter + 1)) k 0) t.1, same_mark marks i (counter + 1) inside, s.moved_low, s.start_low)
        | inr t ↦ omega (arith, other_mark marks i (counter + 1) j t.1, above_start start marks counter moved place at s i j t.1 h)
      ]

  -- the place moves behind the next run
  pub scan_moves : (start : ℕ) (marks : List ℕ) (counter moved : ℕ) (place at : Option ℕ) → IsScanning stretches list after new start marks counter moved place at →
      (i : ℕ) → at ≡ Some i → verdict_on (stretch_at stretches i) new (is_above places marks moved (stretch_at stretches i).left) (is_above places marks start (stretch_at stretches i).left) ≡ moves →
      IsScanning stretches list after new start (set marks i (counter + 1)) (counter + 1) (counter + 1) (Some i) (first_of (places_behind (Some i) list))
  scan_moves start marks counter moved place at s i e turn =
      let cut = next_part s.rest i (sym s.at_is ∙ e) in
      let tail = cut.0 in
      let parts : places_behind after list ≡ s.passed ++ (s.conflicting ++ i ∷ tail) = s.parts ∙ ap (λ xs. s.passed ++ (s.conflicting ++ xs)) cut.1 in
      let here : IsIn i (places_behind after list) = subst (IsIn i) (sym parts) (in_right_part i s.passed (s.conflicting ++ i ∷ tail) (in_right_part i s.conflicting (i ∷ tail) (inl refl))) in
      let lt = (standing.behind_within places stretches list after new ready) i here in
      let fresh = (standing.not_scanned places stretches list after new ready) s.passed s.conflicting tail i parts in
      record {
        passed = s.passed ++ (s.conflicting ++ i ∷ []);
        conflicting = [];
        rest = tail;
        parts = parts ∙ ap (λ xs. s.passed ++ xs) (sym (append_assoc s.conflicting (i ∷ []) tail)) ∙ sym (append_assoc s.passed (s.conflicting ++ i ∷ []) tail);
        at_is = ap first_of ((standing.next_is places stretches list after new ready) s.passed s.conflicting tail i parts);
        place_is = sym (last_append after s.passed (s.conflicting ++ i ∷ []) ∙ last_append (last_from after s.passed) s.conflicting (i ∷ []));
        walked = λ left right o. s.walked left right o
            ∙ ap (λ xs. walk left right new.id (units_at stretches s.passed) (units_at stretches s.conflicting) (units_at stretches xs)) cut.1
            ∙ (standing.whole places stretches list after new ready) left right o i tail (units_at stretches s.passed) (units_at stretches s.conflicting) here
            ∙ ap (λ v. run_walk left right new.id (units_at stretches s.passed) (units_at stretches s.conflicting) (units_of (stretch_at stretches i)) (units_at stretches tail) v)
            ((standing.turn_is places stretches list after new ready) start marks counter moved place at s i ((standing.behind_in places stretches list after new ready) i here) moves turn left right o)
            ∙ ap (λ xs. walk left right new.id xs [] (units_at stretches tail))
            (append_assoc (units_at stretches s.passed) (units_at stretches s.conflicting) (units_of (stretch_at stretches i))
            ∙ ap (λ xs. units_at stretches s.passed ++ (units_at stretches s.conflicting ++ xs)) (sym (append-nil (units_of (stretch_at stretches i))))
            ∙ ap (λ xs. units_at stretches s.passed ++ xs) (sym (units_append stretches s.conflicting (i ∷ [])))
            ∙ sym (units_append stretches s.passed (s.conflicting ++ i ∷ [])));
        marked_conflicting = λ j h. absurd h;
        marked_passed = passed_marks start marks counter moved place at s i (omega (arith, lt, s.marks_len));
        marked_others = λ j p q.
            let n : j ≢ i = λ k. p (in_right_part j s.passed (s.conflicting ++ i ∷ []) (in_right_part j s.conflicting (i ∷ []) (inl k))) in
            omega (arith, other_mark marks i (counter + 1) j n, s.marked_others j (λ k. p (in_left_part j s.passed (s.conflicting ++ i ∷ []) k)) (λ k. p (in_right_part j s.passed (s.conflicting ++ i ∷ []) (in_left_part j s.conflicting (i ∷ []) k))));
        start_low = omega (arith, s.start_low, s.moved_low);
        counted = omega (arith, s.counted, length-append s.conflicting (i ∷ []), length-append s.passed (s.conflicting ++ i ∷ []));
        moved_low = omega arith;
        marks_low = still_low marks counter i (omega (arith, lt, s.marks_len)) s.marks_low;
        marks_len = omega (arith, length-set marks i (counter + 1), s.marks_len);
      }

  -- the scan begins
  pub scan_starts : (start : ℕ) (marks : List ℕ) → ((i : ℕ) → get_or marks i 0 ≤ start) → length stretches ≤ length marks →
      IsScanning stretches list after new start marks start start after (first_of (places_behind after list))
  scan_starts start marks low len = record {
    passed = [];
    conflicting = [];
    rest = places_behind after list;
    parts = refl;
    at_is = refl;
    place_is = refl;
    walked = λ left right o. refl;
    marked_conflicting = λ i h. absurd h;
    marked_passed = λ i h. absurd h;
    marked_others = λ i p q. low i;
    start_low = omega arith;
    counted = omega arith;
    moved_low = omega arith;
    marks_low = low;
    marks_len = len;
  }

  -- ---- the place

  -- the units up to the left's run are those up to the left
  front_is : (places_behind after list ≡ places_behind after list) → (units_at stretches (places_to after list) ≡ up_to new.left (units_at stretches list)) × (units_at stretches (places_behind after list) ≡ behind new.left (units_at stretches list))
  front_is same = go new.left after ready.ends_left ready.has_after
    where
      go : (z : Option Id) (p : Option ℕ) → EndsLeft stretches z p → IfSome p (λ q. IsIn q list) →
          (units_at stretches (places_to p list) ≡ up_to z (units_at stretches list)) × (units_at stretches (places_behind p list) ≡ behind z (units_at stretches list))
      go None None e m = (refl, refl)
      go None (Some p) e m = absurd e
      go (Some l) None e m = absurd e
      go (Some l) (Some p) e m =
          let stretch = stretch_at stretches p in
          let early = units_from stretch.id.client stretch.id.clock (stretch.len - 1) in
          let back = units_at stretches (places_behind (Some p) list) in
          let ends : units_of stretch ≡ early ++ l ∷ [] = units_last stretch (ready.filled p m) ∙ ap (λ x. early ++ x ∷ []) (sym e.1) in
          let front : units_at stretches (places_to (Some p) list) ≡ (units_at stretches (before p list) ++ early) ++ l ∷ [] =
          ap (units_at stretches) (to_before p list m) ∙ units_append stretches (before p list) (p ∷ [])
          ∙ ap (λ xs. units_at stretches (before p list) ++ xs) (append-nil (units_of stretch) ∙ ends)
          ∙ sym (append_assoc (units_at stretches (before p list)) early (l ∷ [])) in
          let all : units_at stretches list ≡ (units_at stretches (before p list) ++ early) ++ l ∷ back =
          ap (units_at stretches) (sym (chain.parts_are (Some p) list)) ∙ units_append stretches (places_to (Some p) list) (places_behind (Some p) list)
          ∙ ap (λ xs. xs ++ back) front ∙ append_assoc (units_at stretches (before p list) ++ early) (l ∷ []) back in
          let cut = ids_cut (units_at stretches (before p list) ++ early) back l (λ h. elim (in_parts l (units_at stretches (before p list)) early h) [
            | inl k ↦
                let w : before p list ++ p ∷ places_behind (Some p) list ≡ list = chain.around p list m in
                not_in_units places stretches (before p list) l p ready.index (λ i q. ready.within i (subst (IsIn i) w (in_left_part i (before p list) (p ∷ places_behind (Some p) list) q)))
                (ready.index.found p l e.0 (rw ends (in_right_part l early (l ∷ []) (inl refl))))
                (λ q. chain.distinct_out p (before p list) (places_behind (Some p) list) (subst AreDistinct (sym w) ready.distinct) (in_left_part p (before p list) (places_behind (Some p) list) q)) k
            | inr k ↦ absurd (omega (arith, from_below stretch.id.client (stretch.len - 1) stretch.id.clock l k, ap (λ (x : Id). x.clock) e.1))
          ]) in
          (front ∙ sym (ap (up_to (Some l)) all ∙ cut.0), sym (ap (behind (Some l)) all ∙ cut.1))

  -- where the walk ends, the place is the one of the units
  pub scan_done : (start : ℕ) (marks : List ℕ) (counter moved : ℕ) (place at : Option ℕ) (s : IsScanning stretches list after new start marks counter moved place at) →
      (left right : Id → Option Id) → HasOrigins left right stretches list new →
      walk left right new.id (units_at stretches s.passed) (units_at stretches s.conflicting) (units_at stretches s.rest) ≡ (units_at stretches s.passed, units_at stretches s.conflicting ++ units_at stretches s.rest) →
      IsScanPlace stretches list new place left right
  scan_done start marks counter moved place at s left right o ended =
      let tail = s.conflicting ++ s.rest in
      let front = places_to after list in
      let w : (front ++ s.passed) ++ tail ≡ list = append_assoc front s.passed tail ∙ ap (λ xs. front ++ xs) (sym s.parts) ∙ (chain.parts_are after list) in
      let place_last : place ≡ last_of (front ++ s.passed) = s.place_is ∙ ap (λ z. last_from z s.passed) (sym (chain.last_is after list ready.has_after)) ∙ sym (last_append None front s.passed) in
      let cut = cut_behind_last (front ++ s.passed) tail (subst AreDistinct (sym w) ready.distinct) in
      let to_place : places_to place list ≡ front ++ s.passed = ap₂ places_to place_last (sym w) ∙ cut.0 in
      let behind_place : places_behind place list ≡ tail = ap₂ places_behind place_last (sym w) ∙ cut.1 in
      let both = front_is refl in
      let walk_all : walk left right new.id [] [] (behind (left new.id) (units_at stretches list)) ≡ (units_at stretches s.passed, units_at stretches tail) =
      ap (λ z. walk left right new.id [] [] (behind z (units_at stretches list))) o.new_left ∙ ap (walk left right new.id [] []) (sym both.1) ∙ s.walked left right o ∙ ended
      ∙ ap (λ xs. (units_at stretches s.passed, xs)) (sym (units_append stretches s.conflicting s.rest)) in
      record {
        front = ap (units_at stretches) to_place ∙ units_append stretches front s.passed
            ∙ ap₂ (λ xs ys. xs ++ ys) (both.0 ∙ ap (λ z. up_to z (units_at stretches list)) (sym o.new_left)) (sym (ap (λ (p : List Id × List Id). p.0) walk_all));
        back = ap (units_at stretches) behind_place ∙ sym (ap (λ (p : List Id × List Id). p.1) walk_all);
      }

  -- the scan stops in front of the next run
  pub scan_stops : (start : ℕ) (marks : List ℕ) (counter moved : ℕ) (place at : Option ℕ) → IsScanning stretches list after new start marks counter moved place at →
      (i : ℕ) → at ≡ Some i → verdict_on (stretch_at stretches i) new (is_above places marks moved (stretch_at stretches i).left) (is_above places marks start (stretch_at stretches i).left) ≡ stops →
      (left right : Id → Option Id) → HasOrigins left right stretches list new → IsScanPlace stretches list new place left right
  scan_stops start marks counter moved place at s i e turn left right o =
      let cut = next_part s.rest i (sym s.at_is ∙ e) in
      let tail = cut.0 in
      let parts : places_behind after list ≡ s.passed ++ (s.conflicting ++ i ∷ tail) = s.parts ∙ ap (λ xs. s.passed ++ (s.conflicting ++ xs)) cut.1 in
      let here : IsIn i (places_behind after list) = subst (IsIn i) (sym parts) (in_right_part i s.passed (s.conflicting ++ i ∷ tail) (in_right_part i s.conflicting (i ∷ tail) (inl refl))) in
      scan_done start marks counter moved place at s left right o
      (ap (λ xs. walk left right new.id (units_at stretches s.passed) (units_at stretches s.conflicting) (units_at stretches xs)) cut.1
      ∙ (standing.whole places stretches list after new ready) left right o i tail (units_at stretches s.passed) (units_at stretches s.conflicting) here
      ∙ ap (λ v. run_walk left right new.id (units_at stretches s.passed) (units_at stretches s.conflicting) (units_of (stretch_at stretches i)) (units_at stretches tail) v)
      ((standing.turn_is places stretches list after new ready) start marks counter moved place at s i ((standing.behind_in places stretches list after new ready) i here) stops turn left right o)
      ∙ ap (λ xs. (units_at stretches s.passed, xs)) (append_assoc (units_at stretches s.conflicting) (units_of (stretch_at stretches i)) (units_at stretches tail) ∙ ap (λ xs. units_at stretches s.conflicting ++ units_at stretches xs) (sym cut.1)))

  -- the list ends
  pub scan_ends : (start : ℕ) (marks : List ℕ) (counter moved : ℕ) (place at : Option ℕ) → IsScanning stretches list after new start marks counter moved place at → at ≡ None →
      (left right : Id → Option Id) → HasOrigins left right stretches list new → IsScanPlace stretches list new place left right
  scan_ends start marks counter moved place at s e left right o =
      let none : s.rest ≡ [] = nothing s.rest (sym s.at_is ∙ e) in
      scan_done start marks counter moved place at s left right o
      (ap (λ xs. walk left right new.id (units_at stretches s.passed) (units_at stretches s.conflicting) (units_at stretches xs)) none
      ∙ ap (λ xs. (units_at stretches s.passed, xs)) (sym (append-nil (units_at stretches s.conflicting)) ∙ ap (λ xs. units_at stretches s.conflicting ++ units_at stretches xs) (sym none)))
    where
      nothing : (xs : List ℕ) → first_of xs ≡ None → xs ≡ []
      nothing [] e = refl
      nothing (x ∷ xs) e = absurd cc

  -- no more marks are given than there are runs
  pub counter_low : (start : ℕ) (marks : List ℕ) (counter moved : ℕ) (place at : Option ℕ) → IsScanning stretches list after new start marks counter moved place at → length list ≤ length stretches →
      counter ≤ start + length stretches
  counter_low start marks counter moved place at s short =
      omega (arith, s.counted, short, ap length (chain.parts_are after list), length-append (places_to after list) (places_behind after list), ap length s.parts, length-append s.passed (s.conflicting ++ s.rest), length-append s.conflicting s.rest)

  pub counter_lower : (start : ℕ) (marks : List ℕ) (counter moved : ℕ) (place at : Option ℕ) → IsScanning stretches list after new start marks counter moved place at → length list ≤ length stretches →
      (i : ℕ) → at ≡ Some i → counter + 1 ≤ start + length stretches
  counter_lower start marks counter moved place at s short i e =
      let cut = next_part s.rest i (sym s.at_is ∙ e) in
      omega (arith, s.counted, short, ap length (chain.parts_are after list), length-append (places_to after list) (places_behind after list), ap length s.parts, length-append s.passed (s.conflicting ++ s.rest), length-append s.conflicting s.rest, ap length cut.1)

  -- the place is one of the list
  pub place_in : (start : ℕ) (marks : List ℕ) (counter moved : ℕ) (place at : Option ℕ) → IsScanning stretches list after new start marks counter moved place at → IfSome place (λ p. IsIn p list)
  place_in start marks counter moved place at s = go place refl
    where
      last_among : (b : Option ℕ) (xs : List ℕ) (p : ℕ) → last_from b xs ≡ Some p → (b ≡ Some p) ⊎ IsIn p xs
      last_among b [] p e = inl e
      last_among b (x ∷ xs) p e = elim (last_among (Some x) xs p e) [ inl k ↦ inr (inl cc) | inr k ↦ inr (inr k) ]

      after_in : (z : Option ℕ) (p : ℕ) → z ≡ Some p → IfSome z (λ q. IsIn q list) → IsIn p list
      after_in None p e h = absurd cc
      after_in (Some q) p e h = let same : q ≡ p = cc in subst (λ j. IsIn j list) same h

      go : (z : Option ℕ) → place ≡ z → IfSome z (λ p. IsIn p list)
      go None e = tt
      go (Some p) e = elim (last_among after s.passed p (sym s.place_is ∙ e)) [
        | inl k ↦ after_in after p k ready.has_after
        | inr k ↦ subst (IsIn p) (chain.parts_are after list) (in_right_part p (places_to after list) (places_behind after list) (subst (IsIn p) (sym s.parts) (in_left_part p s.passed (s.conflicting ++ s.rest) k)))
      ]

  -- the next place is one of the list
  pub next_in : (start : ℕ) (marks : List ℕ) (counter moved : ℕ) (place at : Option ℕ) → IsScanning stretches list after new start marks counter moved place at → (i : ℕ) → at ≡ Some i → IsIn i list
  next_in start marks counter moved place at s i e =
      let cut = next_part s.rest i (sym s.at_is ∙ e) in
      subst (IsIn i) (chain.parts_are after list) (in_right_part i (places_to after list) (places_behind after list) (subst (IsIn i) (sym s.parts) (in_right_part i s.passed (s.conflicting ++ s.rest)
      (in_right_part i s.conflicting s.rest (subst (IsIn i) (sym cut.1) (inl refl))))))
