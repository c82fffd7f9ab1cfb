-- An entry that is single: the others are those that there were, of the runs that there were.
use Rattle.std.proofs.Common.{◌≡◌, ℕ, zero, suc, ◌+◌, ◌-◌, ◌<◌, ◌≤◌, Bool, true, false, nat_lt, cond, List, [], ◌∷◌, Some, length, get_or, map, take, drop, refl, sym, ap, ◌∙◌, subst, arith, tests, true≢false, length-append}
use Rattle.std.specs.Prelude.{slice_get, filter}
use Rattle.std.proofs.lemmas.Option.{slice_get-get_or, slice_get_within}
use Rattle.yd_words.specs.Each.{Each}
use Rattle.yd_words.proofs.EachLemmas.{each_weaker, each_at}
use Rattle.yd_words.proofs.FilterLemmas.{length-filter}
use Rattle.yd_words.proofs.OptionLemmas.{some_is}
use Rattle.yd_ids.specs.declared.id.Client.{Client}
use Rattle.yd_ops.specs.declared.runs.Run.{Run}
use Rattle.yd_entries.specs.declared.entry.Entry.{Entry}
use Rattle.yd_entries.specs.Entries.{is_of_first, GrowBy, OnlyAdds}
use Rattle.yd_entries.specs.Joining.{IsOfOther, IsSingle}
use Rattle.yd_received.specs.Received.{ReceivedValue, is_below, undone, IsReceived}
use Rattle.yd_received.proofs.RestoringLemmas.{of_first, filter-all}
use Rattle.yd_held.specs.Held.{HeldValue}
use Rattle.yd_held.specs.Holding.{OnlyHolds}
use Rattle.yd_held.specs.Joining.{CameAlone}
use Rattle.yd_held.specs.Turn.{clocks_with, AreHeldInTurn}

-- ---- all but one pass a test

module _ (test : Entry → Bool) where
  -- whether the first passes or not, how many do
  long : (t : Entry) (ts : List Entry) (b : Bool) → test t ≡ b → length (filter test (t ∷ ts)) ≡ length (cond b (t ∷ filter test ts) (filter test ts))
  long t ts b e = ap (λ c. length (cond c (t ∷ filter test ts) (filter test ts))) e

  all_pass : (ts : List Entry) → length (filter test ts) ≡ length ts → Each (λ (t : Entry). test t ≡ true) ts
  all_pass [] e = tt
  all_pass (t ∷ ts) e = go (test t) refl (λ f. all_pass ts f)
    where
      go : (b : Bool) → test t ≡ b → (length (filter test ts) ≡ length ts → Each (λ (s : Entry). test s ≡ true) ts) → (test t ≡ true) × Each (λ (s : Entry). test s ≡ true) ts
      go true f rest = (f, rest (omega (arith, e, long t ts true f)))
      go false f rest = absurd (omega (arith, e, long t ts false f, length-filter test ts))

  passes : (ts : List Entry) (at : ℕ) (t : Entry) → slice_get ts at ≡ Some t → Each (λ (s : Entry). test s ≡ true) ts → test t ≡ true
  passes [] at t there each = absurd cc
  passes (s ∷ ss) zero t there each = subst (λ r. test r ≡ true) (some_is s t there) each.0
  passes (s ∷ ss) (suc at) t there each = passes ss at t there each.1

  one_fails : (ts : List Entry) (at : ℕ) (t : Entry) → slice_get ts at ≡ Some t → test t ≡ false → suc (length (filter test ts)) ≡ length ts →
      Each (λ (s : Entry). test s ≡ true) (take at ts) × Each (λ (s : Entry). test s ≡ true) (drop (suc at) ts)
  one_fails [] at t there fails e = absurd cc
  one_fails (s ∷ ss) zero t there fails e = (tt, all_pass ss (omega (arith, e, long s ss false (ap test (some_is s t there) ∙ fails))))
  one_fails (s ∷ ss) (suc at) t there fails e = go (test s) refl (λ f. one_fails ss at t there fails f)
    where
      go : (b : Bool) → test s ≡ b →
          (suc (length (filter test ss)) ≡ length ss → Each (λ (r : Entry). test r ≡ true) (take at ss) × Each (λ (r : Entry). test r ≡ true) (drop (suc at) ss)) →
          Each (λ (r : Entry). test r ≡ true) (s ∷ take at ss) × Each (λ (r : Entry). test r ≡ true) (drop (suc at) ss)
      go true f rest = let (before, behind) = rest (omega (arith, e, long s ss true f)) in ((f, before), behind)
      go false f rest = absurd (true≢false (sym (passes ss at t there (all_pass ss (omega (arith, e, long s ss false f)))) ∙ fails))

-- ---- lemmas for callers

single_at : (runs : List Run) (ts : List Entry) (at from count : ℕ) (d : Entry) → length (filter (is_of_first from) ts) ≡ count → length runs - from ≡ 1 →
    length ts - count ≡ 1 → at < length ts → (get_or ts at d).run ≡ from → IsSingle runs ts at
single_at runs ts at from count d were one_run one_more inside last = record {
  inside = inside;
  before = each_weaker (λ (s : Entry). is_of_first from s ≡ true) (IsOfOther runs) other (take at ts) parts.0;
  behind = each_weaker (λ (s : Entry). is_of_first from s ≡ true) (IsOfOther runs) other (drop (at + 1) ts)
      (subst (λ i. Each (λ (s : Entry). is_of_first from s ≡ true) (drop i ts)) next parts.1);
}
  where
    next : suc at ≡ at + 1
    next = omega arith

    later : is_of_first from (get_or ts at d) ≡ false
    later = grind (arith, tests, last)

    parts : Each (λ (s : Entry). is_of_first from s ≡ true) (take at ts) × Each (λ (s : Entry). is_of_first from s ≡ true) (drop (suc at) ts)
    parts = one_fails (is_of_first from) ts at (get_or ts at d) (slice_get-get_or ts at d inside) later (omega (arith, were, one_more))

    less : (n : ℕ) → nat_lt n from ≡ true → n < from
    less n e = grind (arith, tests)

    other : (s : Entry) → is_of_first from s ≡ true → IsOfOther runs s
    other s e = omega (arith, less s.run e, one_run)

only_one : (order : List ℕ) → length order ≡ 1 → order ≡ get_or order 0 0 ∷ []
only_one [] e = absurd (omega (arith, e))
only_one (at ∷ []) e = refl
only_one (at ∷ k ∷ ks) e = absurd (omega (arith, e))

pub came_alone : (k : HeldValue) (order : List ℕ) (from count : ℕ) (t : Entry) → t ≡ get_or k.received.entries (get_or order 0 0) t → length (filter (is_of_first from) k.received.entries) ≡ count → length k.received.runs - from ≡ 1 →
    length k.received.entries - count ≡ 1 → Each (λ at. at < length k.received.entries) order → length order ≡ 1 → t.run ≡ from →
    CameAlone order k (get_or order 0 0)
came_alone k order from count t is were one_run one_more within one last = record {
  order_is = only_one order one;
  single = single_at k.received.runs k.received.entries (get_or order 0 0) from count t were one_run one_more
      (each_at (λ at. at < length k.received.entries) order 0 0 within (omega (arith, one))) (ap (λ (u : Entry). u.run) (sym is) ∙ last);
}

-- the entries of the first runs are as many while others are held
module _ (vector : List (Client × ℕ)) (count : ℕ) where
  of_undone : (t : Entry) → is_of_first count (undone vector t) ≡ is_of_first count t
  of_undone t = go (is_below vector t.id) refl
    where
      go : (b : Bool) → is_below vector t.id ≡ b → is_of_first count (undone vector t) ≡ is_of_first count t
      go true e = rw e refl
      go false e = rw e refl

  length-undone : (ts : List Entry) → length (filter (is_of_first count) (map (undone vector) ts)) ≡ length (filter (is_of_first count) ts)
  length-undone [] = refl
  length-undone (t ∷ ts) = rw (of_undone t) (go (is_of_first count t) (length-undone ts))
    where
      go : (b : Bool) → length (filter (is_of_first count) (map (undone vector) ts)) ≡ length (filter (is_of_first count) ts) →
          length (cond b (undone vector t ∷ filter (is_of_first count) (map (undone vector) ts)) (filter (is_of_first count) (map (undone vector) ts)))
          ≡ length (cond b (t ∷ filter (is_of_first count) ts) (filter (is_of_first count) ts))
      go true e = ap suc e
      go false e = e

pub firsts_stay : (old mid : ReceivedValue) (is : IsReceived old) → OnlyAdds (length old.runs) old.entries mid.entries → (k new : HeldValue) → k.received ≡ mid → OnlyHolds k new →
    (from count : ℕ) → from ≡ length old.runs → count ≡ length old.entries → length (filter (is_of_first from) new.received.entries) ≡ count
firsts_stay old mid is adds k new same only from count e f =
    sym (length-undone k.vector from new.received.entries)
    ∙ ap (λ ts. length (filter (is_of_first from) ts)) only.undone_is
    ∙ length-undone k.vector from k.received.entries
    ∙ ap (λ (r : ReceivedValue). length (filter (is_of_first from) r.entries)) same
    ∙ ap (λ n. length (filter (is_of_first n) mid.entries)) e
    ∙ ap length (adds.first (length old.runs) (omega arith) ∙ filter-all (length old.runs) old.entries (of_first old.runs old.entries is.each))
    ∙ sym f

pub runs_more : (old mid new : List Run) (from : ℕ) → from ≡ length old → GrowBy old mid → new ≡ mid → from ≤ length new
runs_more old mid new from e (more, grown) same = omega (arith, e, ap length same, ap length grown, length-append old more)

-- what is held in turn are entries
pub turn_inside : (runs : List Run) (ts : List Entry) (clocks : ℕ → ℕ) (order : List ℕ) (after : ℕ → ℕ) → AreHeldInTurn runs ts clocks order after → Each (λ at. at < length ts) order
turn_inside runs ts clocks [] after turn = tt
turn_inside runs ts clocks (at ∷ order) after (t, there, next, rest) = (slice_get_within ts at t there, turn_inside runs ts (clocks_with t clocks) order after rest)
