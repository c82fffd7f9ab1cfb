-- The steps in which a pair that a cut parts is split, as the code takes them.
use Rattle.std.proofs.Common.{◌≡◌, ℕ, ◌-◌, ◌<◌, List, length, get_or, Some, sym, subst, arith}
use Rattle.std.specs.Prelude.{slice_get}
use Rattle.std.proofs.lemmas.Option.{slice_get_within, get_or_from_slice_get}
use Rattle.yd_words.specs.Each.{Each}
use Rattle.yd_words.proofs.MemberLemmas.{each_in}
use Rattle.yd_ops.specs.declared.runs.Run.{Run}
use Rattle.yd_ops.specs.Operation.{later_id}
use Rattle.yd_entries.specs.declared.entry.Entry.{Entry}
use Rattle.yd_entries.specs.Entries.{IsTakenOf, AreInOrder}
use Rattle.yd_entries.specs.Lowering.{torn_at, IsBeside, with_run}
use Rattle.yd_entries.specs.Splitting.{IsSplittable, split_in, split_behind, place_behind, PartsPairOf, Recuts, KeepsTwo, Tears, SplitsPair}
use Rattle.yd_entries.proofs.ChangeLemmas.{entry_got}
use Rattle.yd_entries.proofs.PairLemmas.{IsFront, to_front, front_alone, splittable}
use Rattle.yd_entries.proofs.TearLemmas.{pair_splittable, pair_there, pair_recuts, pair_beside}

module _ (runs : List Run) (ts : List Entry) (at : ℕ) (t : Entry) (there : slice_get ts at ≡ Some t) (each : Each (IsTakenOf runs) ts) (order : AreInOrder ts) (n : ℕ)
    (some : 0 < n) (fewer : n < t.len) (parts : PartsPairOf runs t n) (first : List Entry) (p : ℕ) (split : first ≡ split_behind at (n - 1) ts) (place : p ≡ place_behind at (n - 1)) where
  front : IsFront runs ts first p (later_id t.id n)
  front = subst (λ us. IsFront runs ts us p (later_id t.id n)) (sym split) (subst (λ q. IsFront runs ts (split_behind at (n - 1) ts) q (later_id t.id n)) (sym place)
      (to_front runs ts at t there each order n some fewer parts))

  front_is : IsTakenOf runs front.entry
  front_is = each_in (IsTakenOf runs) first front.each front.entry (entry_got first p front.entry front.there)

  pub front_inside : p < length first
  front_inside = slice_get_within first p front.entry front.there

  pub front_splittable : (d : Entry) → 2 < (get_or first p d).len → IsSplittable (get_or first p d) 2
  front_splittable d = subst (λ s. 2 < s.len → IsSplittable s 2) (sym (get_or_from_slice_get first p front.entry d front.there))
      (λ many. splittable runs front.entry 2 front_is (omega arith) many)

  module _ (kept : List Entry) (keeps : KeepsTwo first kept p) where
    alone : (f : IsFront runs ts kept p (later_id t.id n)) × (f.entry.len ≡ 2)
    alone = front_alone runs ts first kept p (later_id t.id n) front keeps

    pub alone_inside : p < length kept
    alone_inside = slice_get_within kept p alone.0.entry alone.0.there

    pub alone_taken : (d : Entry) → IsTakenOf runs (get_or kept p d)
    alone_taken d = subst (IsTakenOf runs) (sym (get_or_from_slice_get kept p alone.0.entry d alone.0.there))
        (each_in (IsTakenOf runs) kept alone.0.each alone.0.entry (entry_got kept p alone.0.entry alone.0.there))

    module _ (new : List Run) (torn : List Entry) (tears : Tears runs kept new torn p) where
      pub torn_inside : p < length torn
      torn_inside = slice_get_within torn p (with_run alone.0.entry (length runs) 0) (pair_there runs ts kept p (later_id t.id n) alone.0 alone.1 new torn tears)

      pub torn_splittable : (d : Entry) → IsSplittable (get_or torn p d) 1
      torn_splittable d = subst (λ s. IsSplittable s 1)
          (sym (get_or_from_slice_get torn p (with_run alone.0.entry (length runs) 0) d (pair_there runs ts kept p (later_id t.id n) alone.0 alone.1 new torn tears)))
          (pair_splittable runs ts kept p (later_id t.id n) alone.0 alone.1 new torn tears)

      pub pair_splits : (last : List Entry) → last ≡ split_in p 1 torn → SplitsPair runs ts new last at n
      pair_splits last e = record {
        entry = t;
        there = there;
        recuts = subst (λ us. Recuts runs ts new us (torn_at (later_id t.id n))) (sym e) (pair_recuts runs ts kept p (later_id t.id n) alone.0 alone.1 new torn tears);
        beside = subst (Each (IsBeside (later_id t.id n))) (sym e) (pair_beside runs ts kept p (later_id t.id n) alone.0 alone.1 new torn tears);
      }
