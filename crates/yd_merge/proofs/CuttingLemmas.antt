-- What a cut leaves of one entry: the part that has the operations of the cut.
use Rattle.std.specs.Prelude.{IfSome, filter, nat_lt, slice_get, if◌then◌else◌}
use Rattle.std.proofs.Common.{◌≡◌, ◌↔◌, ℕ, zero, suc, ◌+◌, ◌<◌, ◌≤◌, Bool, true, false, List, [], ◌∷◌, ◌++◌, inl, inr, Option, Some, None, take, drop, refl, sym, ap, ap₂, ◌∙◌, subst, arith, tests, true≢false, append-nil}
use Rattle.std.proofs.lemmas.List.Elements.{filter-append}
use Rattle.yd_words.specs.Member.{IsIn}
use Rattle.yd_words.proofs.FilterLemmas.{filter-all, one_kept}
use Rattle.yd_words.proofs.MemberLemmas.{in_left_part, in_right_part}
use Rattle.yd_words.proofs.OptionLemmas.{some_is}
use Rattle.yd_ids.specs.declared.id.Id.{Id}
use Rattle.yd_ops.specs.Operation.{ArePartners, IsHighUnit, Operation, UnitContent, later_id}
use Rattle.yd_ops.specs.Valid.{IsValidContent}
use Rattle.yd_ops.specs.View.{content_value}
use Rattle.yd_ops.specs.declared.runs.Run.{Run}
use Rattle.yd_ops.proofs.MendingLemmas.{HasPartners}
use Rattle.yd_ops.proofs.PartnerLemmas.{IsHalf, high_partner}
use Rattle.yd_grouping.specs.Merged.{is_cut_in}
use Rattle.yd_grouping.proofs.CutLemmas.{IsKept, cut_is, cut_passes}
use Rattle.yd_entries.specs.Entries.{IsTakenOf, IsTold, PartsPair, TellsRight, list_at, operations_in, operations_of_taken, operations_told, units_of}
use Rattle.yd_entries.specs.Splitting.{IsSplittable, PartsPairOf, back_of, front_of}
use Rattle.yd_entries.specs.declared.entry.Entry.{Entry}
use Rattle.yd_entries.proofs.CutLemmas.{cut_high, high_cut}
use Rattle.yd_entries.proofs.PairLemmas.{splittable}
use Rattle.yd_entries.proofs.PartLemmas.{back-id, back_taken, both_operations, front_taken}
use Rattle.yd_entries.proofs.PieceLemmas.{get_in_drop, get_in_take}
use Rattle.yd_entries.proofs.StepLemmas.{gone_no_half}
use Rattle.yd_entries.proofs.TakenLemmas.{taken_id, units_taken}
use Rattle.yd_entries.proofs.UnitLemmas.{from_gone, from_unit}
use Rattle.yd_merge.specs.Cutting.{behind, parts_behind}
use Rattle.yd_merge.proofs.LeavingLemmas.{IsLeftOut}

-- ---- the units behind

-- an operation of an entry, by its place, and where it is a high half
record IsUnitOf (runs : List Run) (t : Entry) (o : Operation) : Type 0 where
  place : ℕ
  inside : place < t.len
  id : o.id ≡ later_id t.id place
  high : IsHighUnit o.content ↔ PartsPairOf runs t (place + 1)

unit_in : (runs : List Run) (t : Entry) (o : Operation) → IsTakenOf runs t → IsIn o (operations_of_taken runs t) → IsUnitOf runs t o
unit_in runs t o is i = go t.is_gone refl is.told i
  where
    in_run : (k : ℕ) → t.is_gone ≡ false → IsTold runs t → (r : Option Run) → slice_get runs t.run ≡ r → slice_get (units_of r) (t.offset + k) ≡ Some o.content →
        IsHighUnit o.content ↔ PartsPairOf runs t (k + 1)
    in_run k told tells None here u = absurd (none_there u)
      where
        none_there : slice_get {X = UnitContent} [] (t.offset + k) ≡ Some o.content → ⊥
        none_there e = absurd cc
    in_run k told tells (Some run) here u = (
      (λ high. (told, (run, here, subst (PartsPair (content_value run.content)) next (high_cut (content_value run.content) (t.offset + k) o.content valid u high)))),
      (λ parts. cut_high (content_value run.content) (t.offset + k) o.content (subst (PartsPair (content_value run.content)) (sym next)
          (subst (λ (r : Run). PartsPair (content_value r.content) (t.offset + (k + 1))) (some_is parts.1.0 run (sym parts.1.1 ∙ here)) parts.1.2)) u),
    )
      where
        next : t.offset + k + 1 ≡ t.offset + (k + 1)
        next = omega arith

        valid : IsValidContent (content_value run.content)
        valid = subst (λ r. IfSome r (λ (run : Run). IsValidContent (content_value run.content))) here tells.content

    told_unit : (k : ℕ) → t.is_gone ≡ false → IsTold runs t → k < t.len → o.id ≡ later_id t.id k → slice_get (units_of (slice_get runs t.run)) (t.offset + k) ≡ Some o.content →
        IsUnitOf runs t o
    told_unit k e tells lt f u = record { place = k; inside = lt; id = f; high = in_run k e tells (slice_get runs t.run) refl u }

    go : (gone : Bool) → t.is_gone ≡ gone → TellsRight gone runs t → IsIn o (operations_told gone runs t) → IsUnitOf runs t o
    go true e tells j = let (k, lt, f) = from_gone t.id t.len o j in record {
      place = k;
      inside = lt;
      id = ap (λ (q : Operation). q.id) f;
      high = (
        (λ high. absurd (gone_no_half (later_id t.id k) (subst (λ (q : Operation). IsHalf q.content) f (inl high)))),
        (λ parts. absurd (true≢false (sym e ∙ parts.0))),
      );
    }
    go false e tells j =
        let (k, lt, f, u) = from_unit t.id t.left t.right (list_at (slice_get runs t.run) t.offset) (take t.len (drop t.offset (units_of (slice_get runs t.run)))) o j in
        told_unit k e tells (omega (arith, lt, units_taken runs t tells)) f
        (sym (get_in_drop t.offset (units_of (slice_get runs t.run)) k) ∙ get_in_take t.len (drop t.offset (units_of (slice_get runs t.run))) k o.content u)

-- ---- one entry

pub filter-none : {X : Type 0} (test : X → Bool) (xs : List X) → ((x : X) → IsIn x xs → test x ≡ false) → filter test xs ≡ []
filter-none test [] fails = refl
filter-none test (x ∷ xs) fails = rw (fails x (inl refl), filter-none test xs (λ y i. fails y (inr i))) refl

-- operations of which the first ones fail the test and the others pass it
pub two_parts : (test : Operation → Bool) (front back os : List Operation) → front ++ back ≡ os → ((o : Operation) → IsIn o front → test o ≡ false) →
    ((o : Operation) → IsIn o back → test o ≡ true) → back ≡ filter test os
two_parts test front back os e fails passes = sym (ap (filter test) (sym e) ∙ filter-append test front back
    ∙ ap₂ (λ ps qs. ps ++ qs) (filter-none test front fails) (filter-all test back passes))

module _ (runs : List Run) (os : List Operation) (vector : ℕ → ℕ) (partners : HasPartners os) (t : Entry) (is : IsTakenOf runs t)
    (there : (o : Operation) → IsIn o (operations_of_taken runs t) → IsIn o os) (n : ℕ) (out : IsLeftOut runs (vector t.id.client.0) t n) where
  clock_at : (o : Operation) → o.id.client ≡ t.id.client → vector o.id.client.0 ≡ vector t.id.client.0
  clock_at o e = ap (λ c. vector c.0) e

  -- one of the first units is not in the cut
  is_out : (o : Operation) → IsIn o (operations_of_taken runs t) → o.id.clock < t.id.clock + n → is_cut_in os vector o ≡ false
  is_out o i low = go (is_cut_in os vector o) refl
    where
      unit : IsUnitOf runs t o
      unit = unit_in runs t o is i

      client : vector o.id.client.0 ≡ vector t.id.client.0
      client = clock_at o (ap (λ (x : Id). x.client) unit.id)

      clock : o.id.clock ≡ t.id.clock + unit.place
      clock = ap (λ (x : Id). x.clock) unit.id

      none : IsKept os vector o → ⊥
      none (inl le) = let less = (out.below unit.place (omega (arith, low, clock))).0 in absurd (omega (arith, le, less, client, clock))
      none (inr (p, j, pair, e)) =
          let last = (out.below unit.place (omega (arith, low, clock))).1 (omega (arith, e, client, clock, ap (λ (x : Id). x.clock) pair.next_clock)) in
          out.whole (subst (PartsPairOf runs t) last (unit.high.0 pair.high_half))

      go : (b : Bool) → is_cut_in os vector o ≡ b → is_cut_in os vector o ≡ false
      go true e = absurd (none ((cut_is os vector o).0 (one_kept (is_cut_in os vector) os o e (there o i))).1)
      go false e = e

  -- each of the others is
  is_in : (o : Operation) → IsIn o (operations_of_taken runs t) → t.id.clock + n ≤ o.id.clock → is_cut_in os vector o ≡ true
  is_in o i high = cut_passes os vector o (elim (out.above unit.place (omega (arith, high, clock)) unit.inside) [
    | inl le ↦ inl (omega (arith, le, client, clock))
    | inr (at, parts) ↦ inr (with_partner at (unit.high.1 parts))
  ])
    where
      unit : IsUnitOf runs t o
      unit = unit_in runs t o is i

      client : vector o.id.client.0 ≡ vector t.id.client.0
      client = clock_at o (ap (λ (x : Id). x.client) unit.id)

      clock : o.id.clock ≡ t.id.clock + unit.place
      clock = ap (λ (x : Id). x.clock) unit.id

      with_partner : t.id.clock + unit.place + 1 ≡ vector t.id.client.0 → IsHighUnit o.content →
          (p : Operation) × IsIn p os × ArePartners o p × (p.id.clock ≡ vector o.id.client.0)
      with_partner at half = let (p, j, pair) = partners o (there o i) (inl half) in let both = high_partner o p half pair in
          (p, j, both, omega (arith, at, client, clock, ap (λ (x : Id). x.clock) both.next_clock))

  -- the first units and the others, where there are some of both
  behind_operations : 0 < n → n < t.len → operations_of_taken runs (back_of t n) ≡ filter (is_cut_in os vector) (operations_of_taken runs t)
  behind_operations some fewer = two_parts (is_cut_in os vector) (operations_of_taken runs (front_of t n)) (operations_of_taken runs (back_of t n)) (operations_of_taken runs t)
      (both_operations runs t n is can) front back
    where
      can : IsSplittable t n
      can = splittable runs t n is some fewer

      front : (o : Operation) → IsIn o (operations_of_taken runs (front_of t n)) → is_cut_in os vector o ≡ false
      front o j = let (k, lt, e) = taken_id runs (front_of t n) o (front_taken runs t n is can out.whole) j in
          is_out o (subst (IsIn o) (both_operations runs t n is can) (in_left_part o (operations_of_taken runs (front_of t n)) (operations_of_taken runs (back_of t n)) j))
          (omega (arith, lt, ap (λ (x : Id). x.clock) e))

      back : (o : Operation) → IsIn o (operations_of_taken runs (back_of t n)) → is_cut_in os vector o ≡ true
      back o j = let (k, lt, e) = taken_id runs (back_of t n) o (back_taken runs t n is can out.whole) j in
          is_in o (subst (IsIn o) (both_operations runs t n is can) (in_right_part o (operations_of_taken runs (front_of t n)) (operations_of_taken runs (back_of t n)) j))
          (omega (arith, ap (λ (x : Id). x.clock) e, ap (λ (x : Id). x.clock) (back-id t n)))

  at_place : (o : Operation) → IsIn o (operations_of_taken runs t) → (t.id.clock ≤ o.id.clock) × (o.id.clock < t.id.clock + t.len)
  at_place o i = let (k, lt, e) = taken_id runs t o is i in (omega (arith, ap (λ (x : Id). x.clock) e), omega (arith, lt, ap (λ (x : Id). x.clock) e))

  -- the units behind the first ones have the operations that are in the cut
  pub parts_operations : operations_in runs (parts_behind t n) ≡ filter (is_cut_in os vector) (operations_of_taken runs t)
  parts_operations = go (nat_lt n t.len) refl
    where
      here : (k : ℕ) → k ≡ n → n < t.len → operations_of_taken runs (behind t k) ≡ filter (is_cut_in os vector) (operations_of_taken runs t)
      here zero e lt = sym (filter-all (is_cut_in os vector) (operations_of_taken runs t) (λ o i. is_in o i (omega (arith, e, (at_place o i).0))))
      here (suc k) e lt = subst (λ m. operations_of_taken runs (back_of t m) ≡ filter (is_cut_in os vector) (operations_of_taken runs t)) (sym e)
          (behind_operations (omega (arith, e)) lt)

      go : (b : Bool) → nat_lt n t.len ≡ b → operations_in runs (if b then behind t n ∷ [] else []) ≡ filter (is_cut_in os vector) (operations_of_taken runs t)
      go true e = append-nil (operations_of_taken runs (behind t n)) ∙ here n refl (grind (arith, tests))
      go false e = sym (filter-none (is_cut_in os vector) (operations_of_taken runs t) (λ o i. is_out o i (omega (arith, none, (at_place o i).1))))
        where
          none : t.len ≤ n
          none = grind (arith, tests)
