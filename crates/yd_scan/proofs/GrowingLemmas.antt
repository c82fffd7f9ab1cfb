-- With a new run at the scan's place the units have grown by the scans of its units.
use Rattle.std.proofs.Common.{◌≡◌, ℕ, zero, suc, ◌<◌, ◌≤◌, ◌⊎◌, inl, inr, List, [], ◌∷◌, ◌++◌, Option, Some, None, length, refl, sym, ap, ap₂, ◌∙◌, subst, arith}
use Rattle.std.specs.Prelude.{IfSome}
use Rattle.std.proofs.lemmas.List.{get_or_append_left, get_or_at}
use Rattle.yd_ids.specs.declared.id.Id.{Id}
use Rattle.yd_ids.specs.declared.id.Client.{Client}
use Rattle.yd_words.specs.Member.{IsIn, AreDistinct}
use Rattle.yd_words.proofs.MemberLemmas.{in_left_part, in_right_part}
use Rattle.yd_origins.specs.Growing.{IsRun, IsNotAmong}
use Rattle.yd_origins.specs.Scan.{after_scans}
use Rattle.yd_origins.proofs.RunLemmas.{run_together}
use Rattle.yd_chains.specs.Chain.{up_to as places_to, behind as places_behind, put_behind}
use Rattle.yd_chains.proofs.ChainLemmas as chain
use Rattle.yd_scan.specs.declared.stretch.Stretch.{Stretch}
use Rattle.yd_scan.specs.Stretches.{units_from, units_of, later_units, no_stretch, stretch_at, units_at, HasOrigins, EndsLeft}
use Rattle.yd_scan.specs.Scanning.{IsReady, IsScanPlace}
use Rattle.yd_scan.specs.Law.{IsUnheld, ListsGrow}
use Rattle.yd_scan.proofs.UnitLemmas.{units_head, units_append, in_units, units_in, last_unit_in}

none_among : (l : Id) (xs : List Id) → (IsIn l xs → ⊥) → IsNotAmong (Some l) xs
none_among l [] n = tt
none_among l (x ∷ xs) n = ((λ e. let same : l ≡ x = cc in n (inl same)), none_among l xs (λ k. n (inr k)))

absent : (xs : List Id) → IsNotAmong None xs
absent [] = tt
absent (x ∷ xs) = ((λ e. cc), absent xs)

from_above : (client : Client) (n clock : ℕ) (u : Id) → IsIn u (units_from client clock n) → clock ≤ u.clock
from_above client zero clock u h = absurd h
from_above client (suc n) clock u (inl e) = omega (arith, ap (λ (x : Id). x.clock) e)
from_above client (suc n) clock u (inr h) = omega (arith, from_above client n (suc clock) u h)

from_distinct : (client : Client) (n clock : ℕ) → AreDistinct (units_from client clock n)
from_distinct client zero clock = tt
from_distinct client (suc n) clock = ((λ h. absurd (omega (arith, from_above client n (suc clock) (record { client = client; clock = clock }) h))), from_distinct client n (suc clock))

-- the left of a later unit is a unit of the run
left_within : (left : Id → Option Id) (first : Id) (units : List Id) (x : Id) → IsRun left first units → IsIn x units → (y : Id) × (left x ≡ Some y) × IsIn y (first ∷ units)
left_within left first [] x r h = absurd h
left_within left first (u ∷ us) x r (inl e) = (first, ap left e ∙ r.0, inl refl)
left_within left first (u ∷ us) x r (inr h) = let d = left_within left u us x r.1 h in (d.0, d.1, inr d.2)

-- a run more changes none of the others
units_grown : (stretches : List Stretch) (new : Stretch) (ps : List ℕ) → ((i : ℕ) → IsIn i ps → i < length stretches) → units_at (stretches ++ new ∷ []) ps ≡ units_at stretches ps
units_grown stretches new [] w = refl
units_grown stretches new (p ∷ ps) w = ap₂ (λ xs ys. xs ++ ys) (ap units_of (get_or_append_left stretches (new ∷ []) no_stretch p (w p (inl refl)))) (units_grown stretches new ps (λ i h. w i (inr h)))

module _ (left right : Id → Option Id) (places : Id → Option ℕ) (stretches : List Stretch) (list : List ℕ) (after place : Option ℕ) (new : Stretch)
    (ready : IsReady places stretches list after new) (o : HasOrigins left right stretches list new) (u : IsUnheld left places stretches list new) (found : IsScanPlace stretches list new place left right) where
  abbrev own : List Id
  own = new.id ∷ later_units new

  own_is : units_of new ≡ own
  own_is = units_head new u.filled

  -- no unit of the new run has a place
  not_own : (x : Id) (i : ℕ) → places x ≡ Some i → IsIn x own → ⊥
  not_own x i e h = let no : None ≡ Some i = sym (u.unheld x (subst (IsIn x) (sym own_is) h)) ∙ e in cc

  held_out : (x : Id) → IsIn x (units_at stretches list) → IsIn x own → ⊥
  held_out x h k = let d = in_units stretches list x h in not_own x d.0 (ready.index.found d.0 x (ready.within d.0 d.1) d.2) k

  new_left_out : IsNotAmong (left new.id) own
  new_left_out = subst (λ z. IsNotAmong z own) (sym o.new_left) (go new.left after ready.ends_left ready.has_after)
    where
      go : (z : Option Id) (p : Option ℕ) → EndsLeft stretches z p → IfSome p (λ q. IsIn q list) → IsNotAmong z own
      go None None e m = absent own
      go None (Some p) e m = absurd e
      go (Some l) None e m = absurd e
      go (Some l) (Some p) e m = none_among l own (not_own l p (ready.index.found p l e.0 (rw e.1 (last_unit_in (stretch_at stretches p) (ready.filled p m)))))

  held_left_out : (x : Id) → IsIn x (units_at stretches list) → IsNotAmong (left x) own
  held_left_out x h =
      let d = in_units stretches list x h in
      let stretch = stretch_at stretches d.0 in
      let e = units_head stretch (ready.filled d.0 d.1) in
      go d.0 d.1 (subst (IsIn x) e d.2)
    where
      given : (z : Option Id) → IfSome z (λ l. IsIn l (units_at stretches list)) → IsNotAmong z own
      given None m = absent own
      given (Some l) m = none_among l own (held_out l m)

      go : (i : ℕ) → IsIn i list → IsIn x ((stretch_at stretches i).id ∷ later_units (stretch_at stretches i)) → IsNotAmong (left x) own
      go i m (inl e) = subst (λ z. IsNotAmong z own) (sym (ap left e ∙ o.first_left i m)) (given (stretch_at stretches i).left (u.held_lefts i m))
      go i m (inr k) =
          let w = left_within left (stretch_at stretches i).id (later_units (stretch_at stretches i)) x (o.later_left i m) k in
          subst (λ z. IsNotAmong z own) (sym w.1) (none_among w.0 own (held_out w.0 (units_in stretches list w.0 i m (subst (IsIn w.0) (sym (units_head (stretch_at stretches i) (ready.filled i m))) w.2))))

  others : (x : Id) → IsIn x (new.id ∷ units_at stretches list) → IsNotAmong (left x) own
  others x (inl e) = subst (λ y. IsNotAmong (left y) own) (sym e) new_left_out
  others x (inr h) = held_left_out x h

  part_within : (i : ℕ) → (IsIn i (places_to place list) ⊎ IsIn i (places_behind place list)) → i < length stretches
  part_within i h = ready.within i (subst (IsIn i) (chain.parts_are place list) (elim h [
    | inl k ↦ in_left_part i (places_to place list) (places_behind place list) k
    | inr k ↦ in_right_part i (places_to place list) (places_behind place list) k
  ]))

  pub grown : units_at (stretches ++ new ∷ []) (put_behind place (length stretches) list) ≡ after_scans left right (units_at stretches list) (units_of new)
  grown =
      let front = places_to place list in
      let back = places_behind place list in
      units_append (stretches ++ new ∷ []) front (length stretches ∷ back)
      ∙ ap₂ (λ xs ys. xs ++ ys) (units_grown stretches new front (λ i h. part_within i (inl h)))
      (ap₂ (λ xs ys. xs ++ ys) (ap units_of (get_or_at stretches new [] no_stretch (length stretches) refl) ∙ own_is) (units_grown stretches new back (λ i h. part_within i (inr h))))
      ∙ ap₂ (λ xs ys. xs ++ (own ++ ys)) found.front found.back
      ∙ sym (run_together left right (units_at stretches list) new.id (later_units new) u.is_run (subst AreDistinct own_is (from_distinct new.id.client new.len new.id.clock)) (λ x k h. held_out x h k) others)
      ∙ ap (after_scans left right (units_at stretches list)) (sym own_is)

pub lists_grow : ListsGrow
lists_grow = λ left right places stretches list after place new ready o u found. grown left right places stretches list after place new ready o u found
