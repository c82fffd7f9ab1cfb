-- What a cut by a vector leaves of what is lent: groups that have the operations of the cut.
use Rattle.std.specs.Prelude.{filter, nat_lt, if◌then◌else◌}
use denote.Ref.{Bor}
use Rattle.std.proofs.Common.{◌≡◌, ℕ, zero, suc, ◌+◌, ◌-◌, ◌<◌, ◌≤◌, ◌⊎◌, Bool, true, false, List, [], ◌∷◌, ◌++◌, Option, Some, None, inl, inr, map, drop, length, get_or, refl, sym, ap, ap₂, ◌∙◌, subst, arith, tests, append-nil}
use Rattle.std.specs.List.Sorted.{IsPermutation}
use Rattle.std.proofs.lemmas.List.{drop_all, drop_more, take_all}
use Rattle.std.proofs.lemmas.List.Elements.{filter-append}
use Rattle.yd_words.specs.Each.{Each}
use Rattle.yd_words.specs.Member.{IsIn}
use Rattle.yd_words.proofs.EachLemmas.{each_append}
use Rattle.yd_words.proofs.FilterLemmas.{one_kept}
use Rattle.yd_words.proofs.MemberLemmas.{in_left_part, in_right_part}
use Rattle.yd_ids.specs.Id.{IsClient, IsClock}
use Rattle.yd_ids.specs.declared.id.Id.{Id}
use Rattle.yd_ids.specs.declared.id.Span.{Span}
use Rattle.yd_ops.specs.Operation.{IsHighUnit, Operation, gone_from, gone_operation, later_id, operations_from, operations_of_run, units_of_content}
use Rattle.yd_ops.specs.Valid.{IsRunAt, IsValidUpdate}
use Rattle.yd_ops.specs.Value.{ContentValue, UpdateValue, any, binary, deleted, embed, format, json, len_of, nested, string}
use Rattle.yd_ops.specs.View.{content_value, run_value}
use Rattle.yd_ops.specs.declared.runs.Run.{Run}
use Rattle.yd_ops.proofs.OperationLemmas.{later_later, later_none, length-units_of_content}
use Rattle.yd_ops.specs.Received.{IsWritten, received_set}
use Rattle.yd_ops.proofs.MendingLemmas.{HasPartners, paired_has}
use Rattle.yd_grouping.specs.Building.{Built, all_pushed, finished, nothing_built}
use Rattle.yd_grouping.specs.Groupable.{AreGroupable}
use Rattle.yd_grouping.specs.Grouped.{grouping_of}
use Rattle.yd_grouping.specs.Groups.{Group, IsGroup, of_gone, of_run, operations_of_group, operations_of_groups, start_of}
use Rattle.yd_grouping.specs.Merged.{cut_of, cut_update, is_cut_in}
use Rattle.yd_grouping.proofs.BuilderLemmas.{builder_groups}
use Rattle.yd_grouping.proofs.CutLemmas.{IsKept, cut_is, cut_passes, filter_written}
use Rattle.yd_entries.specs.Entries.{IsTakenOf, PartsPair, operations_of_taken}
use Rattle.yd_entries.proofs.StepLemmas.{gone_no_half}
use Rattle.yd_entries.proofs.UnitLemmas.{from_gone}
use Rattle.yd_merge.specs.Cutting.{cut_entry, cut_gone, cut_in, cut_lent, cut_lents, left_out, whole_entry}
use Rattle.yd_merge.specs.Lending.{AreInTurn, IsLent, IsOfUpdate, blocks_groups, group_in, lent_group}
use Rattle.yd_merge.specs.Told.{group_of_entry}
use Rattle.yd_merge.specs.declared.lending.Lent.{Lent}
use Rattle.yd_merge.proofs.CutEntriesLemmas.{cut_taken, pushed-append}
use Rattle.yd_merge.proofs.CuttingLemmas.{filter-none, parts_operations, two_parts}
use Rattle.yd_merge.proofs.LeavingLemmas.{is_left_out}
use Rattle.yd_merge.proofs.ToldLemmas.{entries-operations, entries_groups}
use Rattle.yd_merge.proofs.TurnLemmas.{groups-append, of_update, turn_groupable, turn_received}

-- ---- a run as an entry of it alone

no_parts : (content : ContentValue) (n : ℕ) → (n ≡ 0) ⊎ (n ≡ len_of content) → PartsPair content n → ⊥
no_parts (string units) n (inl e) cut = let some = cut.inside.0 in omega (arith, e, some)
no_parts (string units) n (inr e) cut = let fewer = cut.inside.1 in omega (arith, e, fewer)
no_parts (json values) n e cut = cut
no_parts (binary blob) n e cut = cut
no_parts (embed t) n e cut = cut
no_parts (format key t) n e cut = cut
no_parts (nested kind) n e cut = cut
no_parts (any ts) n e cut = cut
no_parts (deleted count) n e cut = cut

pub whole_taken : (run : Run) → IsClient run.id.client → IsRunAt run.id.client run.id.clock (run_value run) → IsClock (run.id.clock + len_of (content_value run.content)) →
    IsTakenOf (run ∷ []) (whole_entry run)
whole_taken run client is end = record {
  run_there = omega arith;
  client = refl;
  has_units = is.has_units;
  id = record { client = client; clock = omega (arith, end) };
  end = end;
  left = is.left;
  right = is.right;
  told = record {
    within = omega (arith, length-units_of_content (content_value run.content));
    fits = omega (arith, end);
    list = is.list;
    content = is.content;
    begins_whole = no_parts (content_value run.content) 0 (inl refl);
    ends_whole = no_parts (content_value run.content) (0 + len_of (content_value run.content)) (inr (omega arith));
  };
}

whole-operations : (run : Run) → operations_of_taken (run ∷ []) (whole_entry run) ≡ operations_of_run (run_value run)
whole-operations run = ap (operations_from run.id run.left run.right run.list)
    (take_all (len_of (content_value run.content)) (units_of_content (content_value run.content)) (omega (arith, length-units_of_content (content_value run.content))))

-- ---- gone units

gone_both : (n m all : ℕ) (id : Id) → n + m ≡ all → gone_from id n ++ gone_from (later_id id n) m ≡ gone_from id all
gone_both zero m all id e = ap₂ gone_from (later_none id) (omega (arith, e))
gone_both (suc n) m zero id e = absurd (omega (arith, e))
gone_both (suc n) m (suc all) id e = ap (λ ps. gone_operation id ∷ ps)
    (ap (λ x. gone_from (later_id id 1) n ++ gone_from x m) (ap (later_id id) one ∙ sym (later_later id 1 n)) ∙ gone_both n m all (later_id id 1) (omega (arith, e)))
  where
    one : suc n ≡ 1 + n
    one = omega arith

module _ (os : List Operation) (vector : ℕ → ℕ) where
  gone_out : (o : Operation) (id : Id) → IsIn o os → o ≡ gone_operation id → id.clock < vector id.client.0 → is_cut_in os vector o ≡ false
  gone_out o id i e low = go (is_cut_in os vector o) refl
    where
      none : IsKept os vector o → ⊥
      none (inl le) = omega (arith, le, low, ap (λ (p : Operation). p.id.clock) e, ap (λ (p : Operation). vector p.id.client.0) e)
      none (inr (p, j, pair, f)) = gone_no_half id (inl (subst (λ (q : Operation). IsHighUnit q.content) e pair.high_half))

      go : (b : Bool) → is_cut_in os vector o ≡ b → is_cut_in os vector o ≡ false
      go true f = absurd (none ((cut_is os vector o).0 (one_kept (is_cut_in os vector) os o f i)).1)
      go false f = f

  gone_in : (o : Operation) (id : Id) → o ≡ gone_operation id → vector id.client.0 ≤ id.clock → is_cut_in os vector o ≡ true
  gone_in o id e le = cut_passes os vector o (inl (omega (arith, le, ap (λ (p : Operation). p.id.clock) e, ap (λ (p : Operation). vector p.id.client.0) e)))

  gone-cut : (id : Id) (len : ℕ) → ((o : Operation) → IsIn o (gone_from id len) → IsIn o os) →
      operations_of_groups (cut_gone (vector id.client.0) id len) ≡ filter (is_cut_in os vector) (gone_from id len)
  gone-cut id len there = go (nat_lt n len) refl
    where
      n : ℕ
      n = vector id.client.0 - id.clock

      go : (b : Bool) → nat_lt n len ≡ b → operations_of_groups (if b then of_gone (later_id id n) (len - n) ∷ [] else []) ≡ filter (is_cut_in os vector) (gone_from id len)
      go true e = append-nil (gone_from (later_id id n) (len - n))
          ∙ two_parts (is_cut_in os vector) (gone_from id n) (gone_from (later_id id n) (len - n)) (gone_from id len) both out some
        where
          fewer : n < len
          fewer = grind (arith, tests)

          both : gone_from id n ++ gone_from (later_id id n) (len - n) ≡ gone_from id len
          both = gone_both n (len - n) len id (omega (arith, fewer))

          out : (o : Operation) → IsIn o (gone_from id n) → is_cut_in os vector o ≡ false
          out o i = let (k, lt, f) = from_gone id n o i in
              gone_out o (later_id id k) (there o (subst (IsIn o) both (in_left_part o (gone_from id n) (gone_from (later_id id n) (len - n)) i))) f (omega (arith, lt))

          some : (o : Operation) → IsIn o (gone_from (later_id id n) (len - n)) → is_cut_in os vector o ≡ true
          some o i = let (k, lt, f) = from_gone (later_id id n) (len - n) o i in gone_in o (later_id (later_id id n) k) f (omega arith)
      go false e = sym (filter-none (is_cut_in os vector) (gone_from id len) (λ o i. let (k, lt, f) = from_gone id len o i in gone_out o (later_id id k) (there o i) f (omega (arith, lt, more))))
        where
          more : len ≤ n
          more = grind (arith, tests)

  -- ---- one

  module _ (partners : HasPartners os) where
    run-cut : (run : Run) → IsOfUpdate (of_run (run_value run)) → ((o : Operation) → IsIn o (operations_of_run (run_value run)) → IsIn o os) →
        operations_of_groups (map (group_of_entry (run ∷ [])) (cut_entry (run ∷ []) (vector run.id.client.0) (whole_entry run))) ≡ filter (is_cut_in os vector) (operations_of_run (run_value run))
    run-cut run is there = entries-operations (run ∷ []) (cut_entry (run ∷ []) (vector run.id.client.0) (whole_entry run)) each
        ∙ parts_operations (run ∷ []) os vector partners (whole_entry run) taken (λ o i. there o (subst (IsIn o) (whole-operations run) i))
        (left_out (run ∷ []) (vector run.id.client.0) (whole_entry run)) (is_left_out (run ∷ []) (vector run.id.client.0) (whole_entry run) taken)
        ∙ ap (filter (is_cut_in os vector)) (whole-operations run)
      where
        taken : IsTakenOf (run ∷ []) (whole_entry run)
        taken = whole_taken run is.client is.struct is.end

        each : Each (IsTakenOf (run ∷ [])) (cut_entry (run ∷ []) (vector run.id.client.0) (whole_entry run))
        each = subst (Each (IsTakenOf (run ∷ []))) (append-nil (cut_entry (run ∷ []) (vector run.id.client.0) (whole_entry run)))
            (cut_taken (run ∷ []) vector (whole_entry run ∷ []) (taken, tt))

    one-cut : (run : Option (Bor Run)) (id : Id) (len clock : ℕ) → IsOfUpdate (group_in run id len) → clock ≡ vector id.client.0 →
        ((r : Bor Run) → run ≡ Some r → r.now.id ≡ id) → ((o : Operation) → IsIn o (operations_of_group (group_in run id len)) → IsIn o os) →
        operations_of_groups (cut_in clock run id len) ≡ filter (is_cut_in os vector) (operations_of_group (group_in run id len))
    one-cut None id len clock is e same there = ap (λ k. operations_of_groups (cut_gone k id len)) e ∙ gone-cut id len there
    one-cut (Some run) id len clock is e same there =
        ap (λ k. operations_of_groups (map (group_of_entry (run.now ∷ [])) (cut_entry (run.now ∷ []) k (whole_entry run.now)))) (e ∙ ap (λ (x : Id). vector x.client.0) (sym (same run refl)))
        ∙ run-cut run.now is there

    -- ---- all

    lent-cut : (lent : Lent) → IsLent lent → ((o : Operation) → IsIn o (operations_of_group (lent_group lent)) → IsIn o os) →
        operations_of_groups (cut_lent (vector lent.id.client.0) lent) ≡ filter (is_cut_in os vector) (operations_of_group (lent_group lent))
    lent-cut lent is there = one-cut lent.run lent.id lent.len (vector lent.id.client.0) is.valid refl
        (λ r e. subst (λ (z : Option (Bor Run)). start_of (group_in z lent.id lent.len) ≡ lent.id) e is.id) there

    lents-cut : (lents : List Lent) → Each IsLent lents → ((o : Operation) → IsIn o (operations_of_groups (map lent_group lents)) → IsIn o os) →
        operations_of_groups (cut_lents vector lents) ≡ filter (is_cut_in os vector) (operations_of_groups (map lent_group lents))
    lents-cut [] each there = refl
    lents-cut (lent ∷ lents) each there = groups-append (cut_lent (vector lent.id.client.0) lent) (cut_lents vector lents)
        ∙ ap₂ (λ ps qs. ps ++ qs)
        (lent-cut lent each.0 (λ o i. there o (in_left_part o (operations_of_group (lent_group lent)) (operations_of_groups (map lent_group lents)) i)))
        (lents-cut lents each.1 (λ o i. there o (in_right_part o (operations_of_group (lent_group lent)) (operations_of_groups (map lent_group lents)) i)))
        ∙ sym (filter-append (is_cut_in os vector) (operations_of_group (lent_group lent)) (operations_of_groups (map lent_group lents)))

-- ---- they are groups

gone_groups : (clock : ℕ) (id : Id) (len : ℕ) → Each IsGroup (cut_gone clock id len)
gone_groups clock id len = go (nat_lt (clock - id.clock) len) refl
  where
    go : (b : Bool) → nat_lt (clock - id.clock) len ≡ b → Each IsGroup (if b then of_gone (later_id id (clock - id.clock)) (len - (clock - id.clock)) ∷ [] else [])
    go true e = (grind (arith, tests), tt)
    go false e = tt

run_groups : (run : Run) (clock : ℕ) → IsOfUpdate (of_run (run_value run)) → Each IsGroup (map (group_of_entry (run ∷ [])) (cut_entry (run ∷ []) clock (whole_entry run)))
run_groups run clock is = entries_groups (run ∷ []) (cut_entry (run ∷ []) clock (whole_entry run))
    (subst (Each (IsTakenOf (run ∷ []))) (append-nil (cut_entry (run ∷ []) clock (whole_entry run)))
    (cut_taken (run ∷ []) (λ client. clock) (whole_entry run ∷ []) (whole_taken run is.client is.struct is.end, tt)))

in_groups : (run : Option (Bor Run)) (id : Id) (len clock : ℕ) → IsOfUpdate (group_in run id len) → Each IsGroup (cut_in clock run id len)
in_groups None id len clock is = gone_groups clock id len
in_groups (Some run) id len clock is = run_groups run.now clock is

lents_groups : (vector : ℕ → ℕ) (lents : List Lent) → Each IsLent lents → Each IsGroup (cut_lents vector lents)
lents_groups vector [] each = tt
lents_groups vector (lent ∷ lents) each = each_append IsGroup (cut_lent (vector lent.id.client.0) lent) (cut_lents vector lents)
    (in_groups lent.run lent.id lent.len (vector lent.id.client.0) each.0.valid) (lents_groups vector lents each.1)

-- ---- lemmas for callers

-- what is lent of a run, is taken of it alone
pub run_taken : (lent : Lent) (run : Bor Run) → IsLent lent → lent.run ≡ Some run → IsTakenOf (run.now ∷ []) (whole_entry run.now)
run_taken lent run is e = let valid = subst (λ (z : Option (Bor Run)). IsOfUpdate (group_in z lent.id lent.len)) e is.valid in whole_taken run.now valid.client valid.struct valid.end

pub lent_next : (vector : ℕ → ℕ) (lents : List Lent) (i : ℕ) (lent : Lent) (clock : ℕ) (old new : Built) → i < length lents → lent ≡ get_or lents i lent →
    clock ≡ vector lent.id.client.0 → new ≡ all_pushed old (cut_lent clock lent) →
    all_pushed new (cut_lents vector (drop (i + 1) lents)) ≡ all_pushed old (cut_lents vector (drop i lents))
lent_next vector lents i lent clock old new lt at e f =
    ap (λ b. all_pushed b (cut_lents vector (drop (i + 1) lents))) (f ∙ ap (λ k. all_pushed old (cut_lent k lent)) e)
    ∙ sym (pushed-append old (cut_lent (vector lent.id.client.0) lent) (cut_lents vector (drop (i + 1) lents)))
    ∙ ap (λ ls. all_pushed old (cut_lents vector ls)) (sym (drop_more lents i lent lt ∙ ap (λ (l : Lent). l ∷ drop (i + 1) lents) (sym at)))

-- at the end all are pushed that are in the cut, and so grouped
pub all_lent_cut : (vector : ℕ → ℕ) (lents : List Lent) (i : ℕ) (built : Built) (deletes : List Span) → Each IsLent lents → AreInTurn (map lent_group lents) → length lents ≤ i →
    all_pushed built (cut_lents vector (drop i lents)) ≡ all_pushed nothing_built (cut_lents vector lents) →
    finished built deletes ≡ grouping_of (cut_of (operations_of_groups (map lent_group lents)) vector) deletes
all_lent_cut vector lents i built deletes each turn le e =
    ap (λ b. finished b deletes) (sym (ap (λ ls. all_pushed built (cut_lents vector ls)) (drop_all i lents le)) ∙ e)
    ∙ builder_groups (cut_lents vector lents) deletes (lents_groups vector lents each) (subst IsWritten (sym cut) (filter_written (is_cut_in os vector) os are.written))
    ∙ ap (λ ps. grouping_of ps deletes) cut
  where
    os : List Operation
    os = operations_of_groups (map lent_group lents)

    are : AreGroupable os
    are = turn_groupable (map lent_group lents) (of_update lents each) turn

    cut : operations_of_groups (cut_lents vector lents) ≡ filter (is_cut_in os vector) os
    cut = lents-cut os vector (paired_has os are.paired) lents each (λ o i. i)

-- what a valid update has, put in turn and cut, is its cut
pub turn_cut : (update : UpdateValue) (groups : List Group) (vector : ℕ → ℕ) (deletes : List Span) → IsValidUpdate update → Each IsOfUpdate groups →
    IsPermutation (blocks_groups update.blocks) groups → AreInTurn groups → deletes ≡ (received_set (update ∷ [])).deletes →
    grouping_of (cut_of (operations_of_groups groups) vector) deletes ≡ cut_update update vector
turn_cut update groups vector deletes valid each p turn e = ap₂ (λ os ds. grouping_of (cut_of os vector) ds)
    (turn_received (update ∷ []) groups (valid, tt) each (subst (λ gs. IsPermutation gs groups) (sym (append-nil (blocks_groups update.blocks))) p) turn) e
