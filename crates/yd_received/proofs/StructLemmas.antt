-- A struct is taken in: its new operations are added, and it lowers what was there.
use Rattle.std.proofs.Common.{◌≡◌, ◌↔◌, Bool, true, false, ◌||◌, List, [], ◌∷◌, length, ◌<◌, Option, Some, None, inl, inr, refl, sym, ap, ◌∙◌, subst, arith, true≢false}
use Rattle.std.specs.Prelude.{IsTrue}
use Rattle.std.specs.Bool.{OnTrue, OnFalse}
use Rattle.std.proofs.lemmas.Bool.{cases_Bool, or_cases, or_left, or_right}
use Rattle.yd_words.specs.Member.{IsIn}
use Rattle.yd_ops.specs.declared.runs.Run.{Run}
use Rattle.yd_ops.specs.Operation.{Operation, level_of, operations_of_run}
use Rattle.yd_ops.specs.Value.{RunValue, len_of}
use Rattle.yd_ops.specs.Received.{has_operation, all_taken, with_group}
use Rattle.yd_ops.specs.ReceivedLaw.{ArePaired}
use Rattle.yd_ops.proofs.OneOfLemmas.{operation_with, id_is_there}
use Rattle.yd_ops.proofs.LevelLemmas.{level_at_most, half_full}
use Rattle.yd_ops.proofs.PartnerLemmas.{pair_flip, pair_half}
use Rattle.yd_ops.proofs.MendingLemmas.{HasPartners, paired_has, has_paired, mended_partners}
use Rattle.yd_ops.proofs.TakingLemmas.{pair_is}
use Rattle.yd_ops.proofs.AddingLemmas.{with_group_alone}
use Rattle.yd_ops.proofs.RunLemmas.{run_partners, run_written}
use Rattle.yd_entries.specs.declared.entry.Entry.{Entry}
use Rattle.yd_entries.specs.Entries.{AreTaken, operations_in, OnlyAdds, GrowBy}
use Rattle.yd_entries.specs.Lowering.{is_among, lowered_with, level_of_content, level_from, SaysMore, Lowers}
use Rattle.yd_entries.specs.Staying.{KeepsPlaces}
use Rattle.yd_received.specs.Structs.{TakesIn, KeepsToLower}
use Rattle.yd_received.proofs.LoweringLemmas.{lowers_received}
use Rattle.yd_entries.specs.Taking.{BringsOne, IsRun, operations_from_run, IsParted, IsAdded, AddsGroup, AddsOne, AreUnchanged}
use Rattle.yd_entries.proofs.BorderLemmas.{map_alike}
use Rattle.yd_entries.proofs.LoweredLemmas.{IsLess, AreWith, lowered_group}
use Rattle.yd_entries.proofs.SpelledLemmas.{run_level, run_less}
use Rattle.yd_entries.proofs.StayingLemmas.{stays_added, stays_more}
use Rattle.yd_entries.proofs.StepLemmas.{is_added}
use Rattle.yd_entries.proofs.TakenLemmas.{in_written}
use Rattle.yd_entries.proofs.TornLemmas.{with_low, with_other, partner_away}
use Rattle.yd_words.proofs.TestLemmas.{split}

-- what a struct gives has whole pairs
pub group_taken : (old_runs runs : List Run) (old taken : List Entry) (group : List Operation) → operations_in runs taken ≡ with_group group (operations_in old_runs old) →
    ArePaired (operations_in runs taken)
group_taken old_runs runs old taken group same =
    subst ArePaired (sym same) (has_paired (with_group group (operations_in old_runs old)) (mended_partners (all_taken group (operations_in old_runs old))))

-- ---- a full run

module _ (runs : List Run) (old : List Entry) (run : RunValue) (are : AreTaken runs old) (is : IsRun false run) (full : level_of_content run.content ≡ 2) where
  pub full_takes : (new_runs : List Run) (taken : List Entry) → AddsGroup runs old new_runs taken (operations_of_run run) →
      GrowBy runs new_runs → OnlyAdds (length runs) old taken → TakesIn runs old new_runs taken (operations_of_run run ∷ [])
  full_takes new_runs taken adds grows only = record {
    received = same;
    kept = record { each = adds.each; in_order = adds.in_order; paired = group_taken runs new_runs old taken (operations_of_run run) same };
    places = stays_added runs new_runs old taken grows are.each are.in_order adds.in_order only;
  }
    where
      same : operations_in new_runs taken ≡ with_group (operations_of_run run) (operations_in runs old)
      same = with_group_alone (operations_of_run run) (operations_in runs old) (run_written run) (run_partners run is.content) (in_written runs old are.each are.in_order)
          (paired_has (operations_in runs old) are.paired)
          (λ o p i j e. omega (arith, run_level run o i, full, level_at_most p.content))
          (operations_in new_runs taken) (in_written new_runs taken adds.each adds.in_order)
          (λ q. let to = is_added (operations_of_run run) (operations_in runs old) q in let so = adds.operations q in (
            (λ i. elim (so.0 i) [ inl j ↦ inl j | inr j ↦ inr (to.1 j) ]),
            (λ i. so.1 (elim i [ inl j ↦ inl j | inr j ↦ inr (to.0 j) ])),
          ))

  -- it brings something exactly where it has a new id
  pub full_brings : (says : Bool) → IsTrue says ↔ AddsOne (operations_of_run run) (operations_in runs old) →
      IsTrue says ↔ BringsOne (operations_of_run run) (operations_in runs old)
  full_brings says adds = ((λ e. let (o, i, new) = adds.0 e in (o, i, inl new)), (λ brings. adds.1 (there brings)))
    where
      there : BringsOne (operations_of_run run) (operations_in runs old) → AddsOne (operations_of_run run) (operations_in runs old)
      there (o, i, inl new) = (o, i, new)
      there (o, i, inr (p, j, e, less)) = absurd (omega (arith, run_level run o i, full, less, level_at_most p.content))

-- ---- one that spells less

module _ (is_gone : Bool) (runs : List Run) (old : List Entry) (run : RunValue) (are : AreTaken runs old) (is : IsRun is_gone run) (one : level_of_content run.content ≡ 1)
    (mid_runs : List Run) (mid : List Entry) (adds : AddsGroup runs old mid_runs mid (operations_from_run is_gone run)) where
  abbrev group : List Operation
  group = operations_from_run is_gone run

  less : IsLess group run.id (len_of run.content) (level_from is_gone)
  less = run_less is_gone run is.has_units one

  not_parted : (o : Operation) → IsIn o group → IsParted group (operations_in runs old) o → ⊥
  not_parted o i (p, j, pair, there) =
      absurd (omega (arith, half_full o.content (pair_half p o (pair_flip o p (pair_is o p pair))), less.levels o i, less.low))

  both : AreWith group (operations_in runs old) (operations_in mid_runs mid)
  both q = ((λ i. elim ((adds.operations q).0 i) [ inl j ↦ inl j | inr j ↦ inr (there j) ]), (λ i. (adds.operations q).1 (elim i [ inl j ↦ inl j | inr j ↦ inr (back j) ])))
    where
      there : IsAdded group (operations_in runs old) group q → IsIn q group × (has_operation (operations_in runs old) q.id ≡ false)
      there (o, i, new, inl (e, whole)) = (subst (λ r. IsIn r group) (sym e) i, subst (λ (r : Operation). has_operation (operations_in runs old) r.id ≡ false) (sym e) new)
      there (o, i, new, inr (e, parted)) = absurd (not_parted o i parted)

      back : IsIn q group × (has_operation (operations_in runs old) q.id ≡ false) → IsAdded group (operations_in runs old) group q
      back (i, new) = (q, i, new, inl (refl, not_parted q i))

  pub less_takes : (new_runs : List Run) (taken : List Entry) → Lowers mid_runs mid new_runs taken run.id (len_of run.content) (level_from is_gone) →
      KeepsPlaces runs old new_runs taken → TakesIn runs old new_runs taken (operations_from_run is_gone run ∷ [])
  less_takes new_runs taken lowers places = record {
    received = same;
    kept = record { each = lowers.each; in_order = lowers.in_order; paired = group_taken runs new_runs old taken (operations_from_run is_gone run) same };
    places = places;
  }
    where
      same : operations_in new_runs taken ≡ with_group (operations_from_run is_gone run) (operations_in runs old)
      same = lowered_group (operations_from_run is_gone run) (operations_in runs old) (operations_in mid_runs mid) run.id (len_of run.content) (level_from is_gone) less
          (in_written runs old are.each are.in_order) (paired_has (operations_in runs old) are.paired) both
          (operations_in new_runs taken) (in_written new_runs taken lowers.each lowers.in_order) lowers.operations

  partners : HasPartners (operations_in mid_runs mid)
  partners o i half = elim ((both o).0 i) [
    | inl j ↦ let (p, k, pair) = paired_has (operations_in runs old) are.paired o j half in (p, (both p).1 (inl k), pair)
    | inr (j, new) ↦ absurd (omega (arith, half_full o.content half, less.levels o j, less.low))
  ]

  -- where no operation says more than the level, none is lowered
  none_lowered : (SaysMore run.id (len_of run.content) (level_from is_gone) (operations_in mid_runs mid) → ⊥) → (o : Operation) → IsIn o (operations_in mid_runs mid) →
      lowered_with run.id (len_of run.content) (level_from is_gone) o ≡ o
  none_lowered none o i = elim (cases_Bool (is_among run.id (len_of run.content) o.id)) [
    | inl among ↦ with_low run.id (len_of run.content) (level_from is_gone) less.some less.low o (elim (split (level_of o.content) (level_from is_gone)) [
      | inl le ↦ le
      | inr more ↦ absurd (none (o, i, among, more))
    ])
    | inr away ↦ with_other run.id (len_of run.content) (level_from is_gone) less.some less.low o away (λ beside.
        let (p, j, pair) = partners o i (elim beside [ inl h ↦ inl h.0 | inr l ↦ inr l.0 ]) in
        elim (cases_Bool (is_among run.id (len_of run.content) p.id)) [
          | inl among ↦ none (p, j, among, omega (arith, half_full p.content (pair_half o p pair), less.low))
          | inr apart ↦ partner_away run.id (len_of run.content) (level_from is_gone) less.some less.low o p pair apart beside
        ])
  ]

  -- so it is taken in, whether it lowers something or nothing
  pub less_taken : (lowered : Bool) (new_runs : List Run) (taken : List Entry) →
      IsTrue lowered ↔ SaysMore run.id (len_of run.content) (level_from is_gone) (operations_in mid_runs mid) →
      OnTrue lowered (Lowers mid_runs mid new_runs taken run.id (len_of run.content) (level_from is_gone)) → OnFalse lowered (AreUnchanged mid_runs mid new_runs taken) →
      GrowBy runs mid_runs → OnlyAdds (length runs) old mid → KeepsPlaces mid_runs mid new_runs taken → TakesIn runs old new_runs taken (operations_from_run is_gone run ∷ [])
  less_taken true new_runs taken more lowers same grows only places = less_takes new_runs taken lowers
      (stays_more runs mid_runs new_runs old mid taken grows (stays_added runs mid_runs old mid grows are.each are.in_order adds.in_order only) places)
  less_taken false new_runs taken more lowers same grows only places =
      subst (λ rs. TakesIn runs old rs taken (operations_from_run is_gone run ∷ [])) (sym same.0) (subst (λ ts. TakesIn runs old mid_runs ts (operations_from_run is_gone run ∷ [])) (sym same.1)
      (less_takes mid_runs mid (record {
        operations = sym (map_alike (lowered_with run.id (len_of run.content) (level_from is_gone)) (operations_in mid_runs mid) (none_lowered (λ says. true≢false (sym (more.1 says)))));
        each = adds.each;
        in_order = adds.in_order;
      }) (stays_added runs mid_runs old mid grows are.each are.in_order adds.in_order only)))

  -- where one says more than the level, it was there before, and one of the group has its id
  says_more : SaysMore run.id (len_of run.content) (level_from is_gone) (operations_in mid_runs mid) →
      (o : Operation) × IsIn o group × (p : Operation) × IsIn p (operations_in runs old) × (p.id ≡ o.id) × (level_of o.content < level_of p.content)
  says_more (p, j, among, higher) = elim ((both p).0 j) [
    | inl k ↦
        let (o, i, e) = operation_with group p.id (less.ids p.id ∙ among) in
        (o, i, p, k, sym e, omega (arith, less.levels o i, higher))
    | inr (k, new) ↦ absurd (omega (arith, less.levels p k, higher))
  ]

  -- it brings something exactly where it has a new id, or lowers something
  pub less_brings : (added lowered : Bool) → IsTrue added ↔ AddsOne (operations_from_run is_gone run) (operations_in runs old) →
      IsTrue lowered ↔ SaysMore run.id (len_of run.content) (level_from is_gone) (operations_in mid_runs mid) →
      IsTrue (added || lowered) ↔ BringsOne (operations_from_run is_gone run) (operations_in runs old)
  less_brings added lowered some more = ((λ e. elim (or_cases added lowered e) [ inl a ↦ by_new (some.0 a) | inr l ↦ by_more (more.0 l) ]), back)
    where
      by_new : AddsOne group (operations_in runs old) → BringsOne group (operations_in runs old)
      by_new (o, i, new) = (o, i, inl new)

      by_more : SaysMore run.id (len_of run.content) (level_from is_gone) (operations_in mid_runs mid) → BringsOne group (operations_in runs old)
      by_more more = let (o, i, p, k, e, higher) = says_more more in (o, i, inr (p, k, e, higher))

      back : BringsOne group (operations_in runs old) → IsTrue (added || lowered)
      back (o, i, inl new) = or_left added lowered (some.1 (o, i, new))
      back (o, i, inr (p, j, e, higher)) = or_right added lowered (more.1 (
        p,
        (both p).1 (inl j),
        ap (λ x. is_among run.id (len_of run.content) x) e ∙ sym (less.ids o.id) ∙ id_is_there group o i,
        omega (arith, less.levels o i, higher),
      ))

  -- entries are kept aside only where it lowers something
  pub less_keeps : (lowered : Bool) (before now : Option (List Entry)) → IsTrue lowered ↔ SaysMore run.id (len_of run.content) (level_from is_gone) (operations_in mid_runs mid) →
      OnFalse lowered (now ≡ before) → KeepsToLower before now (operations_from_run is_gone run) (operations_in runs old)
  less_keeps lowered (Some before) now more same = tt
  less_keeps lowered None None more same = tt
  less_keeps false None (Some kept) more same = subst (λ b. KeepsToLower None b group (operations_in runs old)) (sym same) tt
  less_keeps true None (Some kept) more same =
      let (o, i, p, k, e, higher) = says_more (more.0 refl) in lowers_received group (operations_in runs old) o p i k e higher

-- where neither of two changed anything, nothing changed
pub unchanged_more : (a b c : List Run) (x y z : List Entry) (s t : Bool) → OnFalse s (AreUnchanged a x b y) → OnFalse t (AreUnchanged b y c z) →
    OnFalse (s || t) (AreUnchanged a x c z)
unchanged_more a b c x y z true t first second = tt
unchanged_more a b c x y z false true first second = tt
unchanged_more a b c x y z false false first second = (second.0 ∙ first.0, second.1 ∙ first.1)
