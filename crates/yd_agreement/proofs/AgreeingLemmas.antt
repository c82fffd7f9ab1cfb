-- What breaks agreement, by the runs that updates spell.
use Rattle.std.proofs.Common.{◌≡◌, ◌↔◌, ◌<◌, true, List, ◌⊎◌, inl, inr, Option, refl, sym, ap, ◌∙◌, subst, arith}
use Rattle.yd_words.specs.Each.{Each}
use Rattle.yd_words.specs.Member.{IsIn}
use Rattle.yd_words.proofs.FilterLemmas.{kept_one, one_kept}
use Rattle.yd_words.proofs.MemberLemmas.{in_each}
use Rattle.yd_ids.specs.declared.id.Id.{Id}
use Rattle.yd_ops.specs.Operation.{ArePartners, IsHighUnit, Operation, UnitContent, any_unit, bytes, deleted_unit, embedded, gone_unit, json_unit, later_id, level_of, mark, nested_type, operations_of, operations_of_run, text_unit}
use Rattle.yd_ops.specs.Valid.{IsValidContent, IsValidUpdate}
use Rattle.yd_ops.specs.Value.{RunValue, UpdateValue}
use Rattle.yd_ops.specs.Agreement.{operations_of_all}
use Rattle.yd_ops.specs.Deletes.{SpellLess}
use Rattle.yd_ops.proofs.PartnerLemmas.{partners_decide}
use Rattle.yd_grouping.specs.Disagreement.{BreaksAgreement, IsHalfCollected, IsUnlike, disagreement_of}
use Rattle.yd_agreement.specs.Differing.{DifferAmong, HasRange, Place, content_of, place_of}
use Rattle.yd_agreement.specs.First.{IsFirst, IsFirstBut, first_of}
use Rattle.yd_agreement.specs.Parting.{AreWhole, HasPair, HavePair, IsParted}
use Rattle.yd_agreement.specs.Runs.{HaveSameRuns, full_runs, is_full, runs_of_blocks, runs_of_updates}
use Rattle.yd_agreement.proofs.FirstLemmas.{but_first, first_alike, first_breaking, first_either}
use Rattle.yd_agreement.proofs.PartingLemmas.{pair_of_high}
use Rattle.yd_agreement.proofs.SpelledLemmas.{IsSound, runs_sound}
use Rattle.yd_agreement.proofs.LevelLemmas.{full_run, run_full, run_told}
use Rattle.yd_agreement.proofs.RunLemmas.{IsOfRun, blocks_run, of_update, run_blocks, run_updates, update_of, updates_run}

-- ---- some runs that are those of the updates

module _ (updates : List UpdateValue) (valid : Each IsValidUpdate updates) (runs : List RunValue) (same : HaveSameRuns runs (runs_of_updates updates)) where
  sound_of : (run : RunValue) → IsIn run runs → IsSound run
  sound_of run i = runs_sound updates valid run ((same run).0 i)

  pub all_ranges : Each HasRange runs
  all_ranges = in_each HasRange runs (λ run i. (sound_of run i).range)

  full_one : (run : RunValue) → IsIn run (full_runs runs) → (is_full run.content ≡ true) × IsIn run runs
  full_one run i = kept_one (λ (r : RunValue). is_full r.content) runs run i

  pub full_ranges : Each HasRange (full_runs runs)
  full_ranges = in_each HasRange (full_runs runs) (λ run i. (sound_of run (full_one run i).1).range)

  pub full_whole : AreWhole (full_runs runs)
  full_whole = in_each (λ (run : RunValue). IsValidContent run.content) (full_runs runs) (λ run i. (sound_of run (full_one run i).1).content)

  -- an operation that is not gone is one of the runs', and one that is full is one of the full runs'
  told_run : (o : Operation) → IsIn o (operations_of_all updates) → 0 < level_of o.content → IsOfRun runs o
  told_run o i some = let (run, j, k) = updates_run updates o i some in (run, (same run).1 j, k)

  full_of : (o : Operation) → IsOfRun runs o → level_of o.content ≡ 2 → IsOfRun (full_runs runs) o
  full_of o (run, i, j) full = (run, one_kept (λ (r : RunValue). is_full r.content) runs run (full_run run o j full) i, j)

  there_of : (run : RunValue) (o : Operation) → IsIn run runs → IsIn o (operations_of_run run) → IsIn o (operations_of_all updates)
  there_of run o i j = run_updates updates o (run, (same run).0 i, j)

  -- ---- what is unlike

  abbrev Unlike : Id → Type 0
  Unlike x = DifferAmong place_of runs x ⊎ DifferAmong content_of (full_runs runs) x

  unlike_there : (x : Id) → IsUnlike updates x → Unlike x
  unlike_there x u = elim u.unlike [ inl e ↦ inl (places e.0 e.1 e.2) | inr h ↦ inr (contents h.0 h.1 h.2) ]
    where
      places : 0 < level_of u.one.content → 0 < level_of u.other.content → ((u.one.left_origin ≡ u.other.left_origin) × (u.one.right_origin ≡ u.other.right_origin) ×
          (u.one.list ≡ u.other.list) → ⊥) →
          DifferAmong place_of runs x
      places some more differ = go (told_run u.one u.one_there some) (told_run u.other u.other_there more)
        where
          go : IsOfRun runs u.one → IsOfRun runs u.other → DifferAmong place_of runs x
          go (r, i, j) (s, k, l) = record {
            one = r;
            other = s;
            one_there = i;
            other_there = k;
            differ = record {
              one = u.one;
              other = u.other;
              one_there = j;
              other_there = l;
              id = u.id;
              other_id = sym u.same_id ∙ u.id;
              differ = λ e. differ (ap (λ (p : Place). p.left) e, ap (λ (p : Place). p.right) e, ap (λ (p : Place). p.list) e);
            };
          }

      contents : level_of u.one.content ≡ 2 → level_of u.other.content ≡ 2 → (u.one.content ≡ u.other.content → ⊥) → DifferAmong content_of (full_runs runs) x
      contents full also differ = go (full_of u.one (told_run u.one u.one_there (omega (arith, full))) full)
          (full_of u.other (told_run u.other u.other_there (omega (arith, also))) also)
        where
          go : IsOfRun (full_runs runs) u.one → IsOfRun (full_runs runs) u.other → DifferAmong content_of (full_runs runs) x
          go (r, i, j) (s, k, l) = record {
            one = r;
            other = s;
            one_there = i;
            other_there = k;
            differ = record { one = u.one; other = u.other; one_there = j; other_there = l; id = u.id; other_id = sym u.same_id ∙ u.id; differ = differ };
          }

  unlike_back : (x : Id) → Unlike x → IsUnlike updates x
  unlike_back x (inl d) = record {
    one = d.differ.one;
    other = d.differ.other;
    one_there = there_of d.one d.differ.one d.one_there d.differ.one_there;
    other_there = there_of d.other d.differ.other d.other_there d.differ.other_there;
    id = d.differ.id;
    same_id = d.differ.id ∙ sym d.differ.other_id;
    unlike = inl (
      run_told d.one d.differ.one d.differ.one_there,
      run_told d.other d.differ.other d.differ.other_there,
      λ e. d.differ.differ (λ i. record { left = e.0 i; right = e.1 i; list = e.2 i }),
    );
  }
  unlike_back x (inr d) = record {
    one = d.differ.one;
    other = d.differ.other;
    one_there = there_of d.one d.differ.one (full_one d.one d.one_there).1 d.differ.one_there;
    other_there = there_of d.other d.differ.other (full_one d.other d.other_there).1 d.differ.other_there;
    id = d.differ.id;
    same_id = d.differ.id ∙ sym d.differ.other_id;
    unlike = inr (
      run_full d.one d.differ.one d.differ.one_there (full_one d.one d.one_there).0,
      run_full d.other d.differ.other d.differ.other_there (full_one d.other d.other_there).0,
      d.differ.differ,
    );
  }

  -- ---- what is half collected

  collected_there : (x : Id) → IsHalfCollected updates x → IsParted (full_runs runs) updates x
  collected_there x h = record {
    pair = go (blocks_run h.update.blocks h.high h.high_there (omega (arith, full)));
    other = h.other;
    there = h.other_there;
    one_less = λ both. h.one_less (subst (λ y. SpellLess (operations_of h.other) h.high.id ↔ SpellLess (operations_of h.other) y) (sym pair.next_clock)
        (subst (λ y. SpellLess (operations_of h.other) y ↔ SpellLess (operations_of h.other) (later_id y 1)) (sym h.id) both));
  }
    where
      pair : ArePartners h.high h.low
      pair = (partners_decide h.high h.low).0 h.partners

      high_full : (unit : UnitContent) → IsHighUnit unit → level_of unit ≡ 2
      high_full (text_unit unit) high = refl
      high_full (any_unit value) high = absurd high
      high_full (json_unit value) high = absurd high
      high_full (bytes blob) high = absurd high
      high_full (embedded value) high = absurd high
      high_full (mark key value) high = absurd high
      high_full (nested_type kind) high = absurd high
      high_full deleted_unit high = absurd high
      high_full gone_unit high = absurd high

      full : level_of h.high.content ≡ 2
      full = high_full h.high.content pair.high_half

      go : IsOfRun (runs_of_blocks h.update.blocks) h.high → HavePair (full_runs runs) x
      go (run, i, j) = let there = (same run).1 (of_update updates h.update run h.update_there i) in record {
        run = run;
        there = one_kept (λ (r : RunValue). is_full r.content) runs run (full_run run h.high j full) there;
        pair = subst (HasPair run) h.id (pair_of_high run (sound_of run there).content h.high j pair.high_half);
      }

  collected_back : (x : Id) → IsParted (full_runs runs) updates x → IsHalfCollected updates x
  collected_back x p = go (update_of updates p.pair.run ((same p.pair.run).0 (full_one p.pair.run p.pair.there).1))
    where
      pair : HasPair p.pair.run x
      pair = p.pair.pair

      partners : ArePartners pair.high pair.low
      partners = (partners_decide pair.high pair.low).0 pair.partners

      go : (update : UpdateValue) × IsIn update updates × IsIn p.pair.run (runs_of_blocks update.blocks) → IsHalfCollected updates x
      go (update, i, j) = record {
        update = update;
        high = pair.high;
        low = pair.low;
        other = p.other;
        update_there = i;
        high_there = run_blocks update.blocks pair.high (p.pair.run, j, pair.high_there);
        low_there = run_blocks update.blocks pair.low (p.pair.run, j, pair.low_there);
        other_there = p.there;
        id = pair.id;
        partners = pair.partners;
        one_less = λ both. p.one_less (subst (λ y. SpellLess (operations_of p.other) y ↔ SpellLess (operations_of p.other) (later_id y 1)) pair.id
            (subst (λ y. SpellLess (operations_of p.other) pair.high.id ↔ SpellLess (operations_of p.other) y) partners.next_clock both));
      }

  -- ---- lemmas for callers

  pub broken_by : (x : Id) → (DifferAmong place_of runs x ⊎ (DifferAmong content_of (full_runs runs) x ⊎ IsParted (full_runs runs) updates x)) ↔ BreaksAgreement updates x
  broken_by x = (there, back)
    where
      there : DifferAmong place_of runs x ⊎ (DifferAmong content_of (full_runs runs) x ⊎ IsParted (full_runs runs) updates x) → BreaksAgreement updates x
      there (inl d) = inl (unlike_back x (inl d))
      there (inr (inl d)) = inl (unlike_back x (inr d))
      there (inr (inr p)) = inr (collected_back x p)

      back : BreaksAgreement updates x → DifferAmong place_of runs x ⊎ (DifferAmong content_of (full_runs runs) x ⊎ IsParted (full_runs runs) updates x)
      back (inl u) = elim (unlike_there x u) [ inl d ↦ inl d | inr d ↦ inr (inl d) ]
      back (inr h) = inr (inr (collected_there x h))

  -- the smallest of the three first ids is the disagreement
  pub smallest_broken : (place content parted contents found : Option Id) → IsFirst (DifferAmong place_of runs) place → IsFirst (DifferAmong content_of (full_runs runs)) content →
      IsFirstBut (IsParted (full_runs runs) updates) (DifferAmong content_of (full_runs runs)) parted → contents ≡ first_of content parted → found ≡ first_of place contents →
      found ≡ disagreement_of updates
  smallest_broken place content parted contents found p d h e f = f ∙ ap (first_of place) e ∙ first_breaking updates (first_of place (first_of content parted))
      (first_alike (λ x. DifferAmong place_of runs x ⊎ (DifferAmong content_of (full_runs runs) x ⊎ IsParted (full_runs runs) updates x)) (BreaksAgreement updates)
      (first_of place (first_of content parted)) broken_by
      (first_either (DifferAmong place_of runs) (λ x. DifferAmong content_of (full_runs runs) x ⊎ IsParted (full_runs runs) updates x) place (first_of content parted) p
      (but_first (IsParted (full_runs runs) updates) (DifferAmong content_of (full_runs runs)) content parted d h)))
