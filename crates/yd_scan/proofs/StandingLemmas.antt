-- What stands where in a list that is scanned, and the verdict on a run.
use Rattle.std.proofs.Common.{◌≡◌, ◌≢◌, ℕ, ◌-◌, ◌<◌, ◌⊎◌, inl, inr, Bool, true, false, List, [], ◌∷◌, ◌++◌, Option, Some, None, length, get_or, set, refl, sym, ap, ◌∙◌, subst, arith, eq-eqb, append_assoc}
use Rattle.std.specs.Prelude.{nat_lt, IfSome, if◌then◌else◌}
use Rattle.std.proofs.lemmas.List.{get_or-set_same, get_or-set_other}
use Rattle.yd_ids.specs.declared.id.Id.{Id}
use Rattle.yd_words.specs.Member.{IsIn, AreDistinct}
use Rattle.yd_words.specs.Test.{is_some_and}
use Rattle.yd_words.proofs.MemberLemmas.{in_left_part, in_right_part, in_parts}
use Rattle.yd_ids.specs.Ids.{is_same, is_same_neighbour, has_id}
use Rattle.yd_origins.specs.Growing.{IsNotAmong, run_walk}
use Rattle.yd_origins.specs.Scan.{Verdict, stops, moves, stays, verdict, walk}
use Rattle.yd_origins.proofs.RunLemmas.{run_whole}
use Rattle.yd_chains.specs.Chain.{first_of, up_to as places_to, behind as places_behind, before}
use Rattle.yd_chains.proofs.ChainLemmas as chain
use Rattle.yd_scan.specs.declared.stretch.Stretch.{Stretch}
use Rattle.yd_scan.specs.Stretches.{units_from, units_of, later_units, last_unit, stretch_at, units_at, HasOrigins, EndsLeft}
use Rattle.yd_scan.specs.Scanning.{is_above, verdict_on, IsScanning, IsReady}
use Rattle.yd_scan.proofs.UnitLemmas.{units_head, units_last, units_append, above_is, some_has_first, to_before}

-- ---- the verdict on a run

verdicts : (a b c d : Bool) (k s hc hp : Bool) → k ≡ hc → (k ≡ false → s ≡ hp) →
    (if a then stops else if b then (if c then moves else if d then stops else stays) else if hc then stays else if hp then moves else stops)
    ≡ (if a then stops else if b then (if c then moves else if d then stops else stays) else if k then stays else if s then moves else stops)
verdicts a b c d true s hc hp e f = rw (← e) refl
verdicts a b c d false s hc hp e f = rw (← e, ← f refl) refl

pub verdict_is : (left right : Id → Option Id) (stretches : List Stretch) (list : List ℕ) (new : Stretch) (i : ℕ) (passed conflicting : List Id) (k s : Bool) → HasOrigins left right stretches list new → IsIn i list →
    k ≡ is_some_and (has_id conflicting) (stretch_at stretches i).left → (k ≡ false → s ≡ is_some_and (has_id passed) (stretch_at stretches i).left) →
    verdict left right new.id passed conflicting (stretch_at stretches i).id ≡ verdict_on (stretch_at stretches i) new k s
verdict_is left right stretches list new i passed conflicting k s o lt e f =
    rw (verdict, o.new_right, o.first_left i lt, o.new_left, o.first_right i lt)
    (verdicts (is_some_and (is_same (stretch_at stretches i).id) new.right) (is_same_neighbour (stretch_at stretches i).left new.left) (nat_lt (stretch_at stretches i).id.client.0 new.id.client.0)
    (is_same_neighbour (stretch_at stretches i).right new.right) k s (is_some_and (has_id conflicting) (stretch_at stretches i).left) (is_some_and (has_id passed) (stretch_at stretches i).left) e f)

-- ---- lists and marks

-- what is scanned next
pub next_part : (rest : List ℕ) (i : ℕ) → first_of rest ≡ Some i → (tail : List ℕ) × (rest ≡ i ∷ tail)
next_part [] i e = absurd cc
next_part (x ∷ tail) i e = (tail, let same : x ≡ i = cc in ap (λ k. k ∷ tail) same)

pub other_mark : (marks : List ℕ) (i v j : ℕ) → j ≢ i → get_or (set marks i v) j 0 ≡ get_or marks j 0
other_mark marks i v j n = get_or-set_other marks i j v 0 n

pub same_mark : (marks : List ℕ) (i v : ℕ) → i < length marks → get_or (set marks i v) i 0 ≡ v
same_mark marks i v lt = get_or-set_same marks i v 0 lt

-- ---- what stands where

module _ (places : Id → Option ℕ) (stretches : List Stretch) (list : List ℕ) (after : Option ℕ) (new : Stretch) (ready : IsReady places stretches list after new) where
  pub list_is : places_to after list ++ places_behind after list ≡ list
  list_is = chain.parts_are after list

  -- a place behind is not one before
  pub apart : (i : ℕ) → IsIn i (places_to after list) → IsIn i (places_behind after list) → ⊥
  apart i a b = go (places_to after list) (places_behind after list) (subst AreDistinct (sym list_is) ready.distinct) a b
    where
      go : (xs ys : List ℕ) → AreDistinct (xs ++ ys) → IsIn i xs → IsIn i ys → ⊥
      go [] ys d a b = a
      go (x ∷ xs) ys d (inl e) b = d.0 (in_right_part x xs ys (subst (λ j. IsIn j ys) e b))
      go (x ∷ xs) ys d (inr a) b = go xs ys d.1 a b

  pub behind_in : (i : ℕ) → IsIn i (places_behind after list) → IsIn i list
  behind_in i h = subst (IsIn i) list_is (in_right_part i (places_to after list) (places_behind after list) h)

  pub behind_within : (i : ℕ) → IsIn i (places_behind after list) → i < length stretches
  behind_within i h = ready.within i (subst (IsIn i) list_is (in_right_part i (places_to after list) (places_behind after list) h))

  -- the left's unit is none of a run behind
  pub left_out : (left right : Id → Option Id) → HasOrigins left right stretches list new → (i : ℕ) → IsIn i (places_behind after list) → IsNotAmong (left new.id) (units_of (stretch_at stretches i))
  left_out left right o i h = rw o.new_left (go new.left after ready.ends_left ready.has_after refl)
    where
      none_among : (l : Id) (xs : List Id) → (IsIn l xs → ⊥) → IsNotAmong (Some l) xs
      none_among l [] n = tt
      none_among l (x ∷ xs) n = ((λ e. let same : l ≡ x = cc in n (inl same)), none_among l xs (λ k. n (inr k)))

      absent : (xs : List Id) → IsNotAmong None xs
      absent [] = tt
      absent (x ∷ xs) = ((λ e. cc), absent xs)

      go : (z : Option Id) (p : Option ℕ) → EndsLeft stretches z p → IfSome p (λ q. IsIn q list) → p ≡ after → IsNotAmong z (units_of (stretch_at stretches i))
      go None None e m q = absent (units_of (stretch_at stretches i))
      go None (Some p) e m q = absurd e
      go (Some l) None e m q = absurd e
      go (Some l) (Some p) e m q = none_among l (units_of (stretch_at stretches i)) (λ k.
          let at_p : IsIn l (units_of (stretch_at stretches p)) = rw (units_last (stretch_at stretches p) (ready.filled p m), e.1) (last_in (units_from (stretch_at stretches p).id.client (stretch_at stretches p).id.clock ((stretch_at stretches p).len - 1)) (last_unit (stretch_at stretches p))) in
          let one : Some p ≡ Some i = sym (ready.index.found p l e.0 at_p) ∙ ready.index.found i l (behind_within i h) k in
          let same : p ≡ i = cc in
          apart i (subst (λ j. IsIn j (places_to after list)) same (subst (λ w. IsIn p (places_to w list)) q (subst (IsIn p) (sym (to_before p list m)) (in_right_part p (before p list) (p ∷ []) (inl refl))))) h)
        where
          last_in : (xs : List Id) (l : Id) → IsIn l (xs ++ l ∷ [])
          last_in [] l = inl refl
          last_in (x ∷ xs) l = inr (last_in xs l)

  -- a scanned run goes as its first unit goes
  pub whole : (left right : Id → Option Id) → HasOrigins left right stretches list new → (i : ℕ) (rest : List ℕ) (passed conflicting : List Id) → IsIn i (places_behind after list) →
      walk left right new.id passed conflicting (units_at stretches (i ∷ rest))
      ≡ run_walk left right new.id passed conflicting (units_of (stretch_at stretches i)) (units_at stretches rest) (verdict left right new.id passed conflicting (stretch_at stretches i).id)
  whole left right o i rest passed conflicting h =
      let lt = behind_within i h in
      let e = units_head (stretch_at stretches i) (ready.filled i (behind_in i h)) in
      let r : IsNotAmong (right new.id) (later_units (stretch_at stretches i)) = rw o.new_right (ready.right_begins i (behind_in i h)) in
      let l : IsNotAmong (left new.id) ((stretch_at stretches i).id ∷ later_units (stretch_at stretches i)) = subst (IsNotAmong (left new.id)) e (left_out left right o i h) in
      ap (λ xs. walk left right new.id passed conflicting (xs ++ units_at stretches rest)) e
      ∙ run_whole left right new.id (stretch_at stretches i).id (later_units (stretch_at stretches i)) passed conflicting (units_at stretches rest) (o.later_left i (behind_in i h)) r l
      ∙ ap (λ xs. run_walk left right new.id passed conflicting xs (units_at stretches rest) (verdict left right new.id passed conflicting (stretch_at stretches i).id)) (sym e)

  -- the turn that the marks tell is the verdict
  pub turn_is : (start : ℕ) (marks : List ℕ) (counter moved : ℕ) (place at : Option ℕ) (s : IsScanning stretches list after new start marks counter moved place at) (i : ℕ) →
      IsIn i list → (v : Verdict) →
      verdict_on (stretch_at stretches i) new (is_above places marks moved (stretch_at stretches i).left) (is_above places marks start (stretch_at stretches i).left) ≡ v →
      (left right : Id → Option Id) → HasOrigins left right stretches list new →
      verdict left right new.id (units_at stretches s.passed) (units_at stretches s.conflicting) (stretch_at stretches i).id ≡ v
  turn_is start marks counter moved place at s i lt v e left right o =
      verdict_is left right stretches list new i (units_at stretches s.passed) (units_at stretches s.conflicting)
      (is_above places marks moved (stretch_at stretches i).left) (is_above places marks start (stretch_at stretches i).left) o lt
      in_conflicting
      (λ no. above_is places stretches (s.passed ++ s.conflicting) marks start (stretch_at stretches i).left ready.index within_both (λ j h. elim (in_parts j s.passed s.conflicting h) [
        | inl k ↦ (s.marked_passed j k).0
        | inr k ↦ omega (arith, s.marked_conflicting j k, s.start_low)
      ]) (λ j out. s.marked_others j (λ k. out (in_left_part j s.passed s.conflicting k)) (λ k. out (in_right_part j s.passed s.conflicting k)))
      ∙ ap (λ xs. is_some_and (has_id xs) (stretch_at stretches i).left) (units_append stretches s.passed s.conflicting)
      ∙ some_has_first (units_at stretches s.passed) (units_at stretches s.conflicting) (stretch_at stretches i).left (sym in_conflicting ∙ no))
      ∙ e
    where
      has_part : (j : ℕ) → IsIn j (s.passed ++ (s.conflicting ++ s.rest)) → j < length stretches
      has_part j h = behind_within j (subst (IsIn j) (sym s.parts) h)

      within_conflicting : (j : ℕ) → IsIn j s.conflicting → j < length stretches
      within_conflicting j h = has_part j (in_right_part j s.passed (s.conflicting ++ s.rest) (in_left_part j s.conflicting s.rest h))

      within_both : (j : ℕ) → IsIn j (s.passed ++ s.conflicting) → j < length stretches
      within_both j h = elim (in_parts j s.passed s.conflicting h) [
        | inl k ↦ has_part j (in_left_part j s.passed (s.conflicting ++ s.rest) k)
        | inr k ↦ within_conflicting j k
      ]

      in_conflicting : is_above places marks moved (stretch_at stretches i).left ≡ is_some_and (has_id (units_at stretches s.conflicting)) (stretch_at stretches i).left
      in_conflicting = above_is places stretches s.conflicting marks moved (stretch_at stretches i).left ready.index within_conflicting s.marked_conflicting (λ j out. elim (chain.has_place j s.passed) [
        | inl k ↦ (s.marked_passed j k).1
        | inr k ↦ omega (arith, s.marked_others j k out, s.start_low)
      ])

  -- the whole list, with what is scanned next
  pub split_at : (passed conflicting tail : List ℕ) (i : ℕ) → places_behind after list ≡ passed ++ (conflicting ++ i ∷ tail) → (places_to after list ++ (passed ++ conflicting)) ++ i ∷ tail ≡ list
  split_at passed conflicting tail i e =
      append_assoc (places_to after list) (passed ++ conflicting) (i ∷ tail)
      ∙ ap (λ xs. places_to after list ++ xs) (append_assoc passed conflicting (i ∷ tail) ∙ sym e) ∙ list_is

  pub behind_at : (xs ys : List ℕ) (i : ℕ) → AreDistinct (xs ++ i ∷ ys) → places_behind (Some i) (xs ++ i ∷ ys) ≡ ys
  behind_at [] ys i d = rw (eq-eqb i i refl) refl
  behind_at (x ∷ xs) ys i d = elim (chain.same_place x i) [
    | inl t ↦ absurd (d.0 (in_right_part x xs (i ∷ ys) (inl t.1)))
    | inr t ↦ rw t.0 (behind_at xs ys i d.1)
  ]

  pub next_is : (passed conflicting tail : List ℕ) (i : ℕ) → places_behind after list ≡ passed ++ (conflicting ++ i ∷ tail) → places_behind (Some i) list ≡ tail
  next_is passed conflicting tail i e =
      let w = split_at passed conflicting tail i e in
      ap (places_behind (Some i)) (sym w) ∙ behind_at (places_to after list ++ (passed ++ conflicting)) tail i (subst AreDistinct (sym w) ready.distinct)

  pub not_scanned : (passed conflicting tail : List ℕ) (i : ℕ) → places_behind after list ≡ passed ++ (conflicting ++ i ∷ tail) → (IsIn i passed ⊎ IsIn i conflicting) → ⊥
  not_scanned passed conflicting tail i e h =
      let w = split_at passed conflicting tail i e in
      chain.distinct_out i (places_to after list ++ (passed ++ conflicting)) tail (subst AreDistinct (sym w) ready.distinct)
      (in_left_part i (places_to after list ++ (passed ++ conflicting)) tail (in_right_part i (places_to after list) (passed ++ conflicting) (elim h [
        | inl k ↦ in_left_part i passed conflicting k
        | inr k ↦ in_right_part i passed conflicting k
      ])))
