-- The update of an edit is grouped: its runs follow one another in one block, and none goes on with the next.
use Rattle.std.proofs.Common.{◌≡◌, ◌+◌, ◌-◌, ◌<◌, ℕ, Bool, true, false, ◌&&◌, List, [], ◌∷◌, ◌++◌, map, nat_eq, Option, Some, None, refl, sym, ap, ◌∙◌, subst, arith, tests}
use Rattle.std.specs.Prelude.{IfSome, if◌then◌else◌}
use Rattle.yd_words.specs.Each.{Each}
use Rattle.yd_words.specs.Member.{IsIn}
use Rattle.yd_words.proofs.MemberLemmas.{in_left_part, in_right_part}
use Rattle.yd_ids.specs.declared.id.Client.{Client}
use Rattle.yd_ids.specs.declared.id.Id.{Id}
use Rattle.yd_ids.specs.Ids.{is_same, is_same_neighbour}
use Rattle.yd_ids.proofs.IdLemmas.{same_is, same_numbers}
use Rattle.yd_ops.specs.declared.lists.List.{List as DocList}
use Rattle.yd_ops.specs.Joining.{stands_behind, are_of_one_kind, run_joins}
use Rattle.yd_ops.specs.Operation.{Operation, later_id, operations_of_run}
use Rattle.yd_ops.specs.Value.{len_of, RunValue, StructValue, item}
use Rattle.yd_ops.specs.Received.{Received, has_operation}
use Rattle.yd_grouping.specs.Groups.{Group, of_run, operations_of_groups, AreApart}
use Rattle.yd_grouping.specs.Grouped.{blocks_of, front_block, grouping_of, with_gap, IsGrouped}
use Rattle.yd_grouping.specs.Law.{HaveUnits, Ascend}
use Rattle.yd_grouping.proofs.BlockLemmas.{group_has}
use Rattle.yd_grouping.proofs.GroupedLemmas.{built_grouped}
use Rattle.yd_editing.specs.Basis.{Basis}
use Rattle.yd_editing.specs.Law.{EditIsTakenOn, IsStepInRange, IsValidEditOn}
use Rattle.yd_editing.specs.Made.{run_of_step, lists_with, runs_of, runs_on, operations_of_runs, block_of_runs, removed_by, update_of_edit}
use Rattle.yd_editing.specs.Step.{Step, make, remove}

-- ---- runs that follow one another

-- runs of a client from a clock on, each of at least one unit
abbrev Follow : Client → ℕ → List RunValue → Type 0
Follow client clock [] = Unit {0}
Follow client clock (run ∷ runs) = (run.id ≡ record { client = client; clock = clock }) × (0 < len_of run.content) × Follow client (clock + len_of run.content) runs

follow : (steps : List Step) (client : Client) (clock : ℕ) (lists : DocList → List Operation) → Each IsStepInRange steps → Follow client clock (runs_of client clock lists steps)
follow [] client clock lists each = tt
follow (make name after content ∷ steps) client clock lists each = (
  refl,
  each.0.1,
  follow steps client (clock + len_of content) (lists_with lists name after (operations_of_run (run_of_step client clock lists name after content))) each.1,
)
follow (remove spans ∷ steps) client clock lists each = follow steps client clock lists each.1

-- ---- their groups

-- each run as a group
abbrev groups_of : List RunValue → List Group
groups_of runs = map (λ run. of_run run) runs

have_units : (client : Client) (clock : ℕ) (runs : List RunValue) → Follow client clock runs → HaveUnits (groups_of runs)
have_units client clock [] f = tt
have_units client clock (run ∷ runs) f = (f.1, have_units client (clock + len_of run.content) runs f.2)

ascend : (client : Client) (clock : ℕ) (runs : List RunValue) → Follow client clock runs → Ascend (groups_of runs)
ascend client clock [] f = tt
ascend client clock (run ∷ []) f = tt
ascend client clock (run ∷ next ∷ runs) f = (
  (λ same. omega (arith, ap (λ (x : Id). x.clock) f.0, ap (λ (x : Id). x.clock) f.2.0)),
  ascend client (clock + len_of run.content) (next ∷ runs) f.2,
)

operations_are : (runs : List RunValue) → operations_of_groups (groups_of runs) ≡ operations_of_runs runs
operations_are [] = refl
operations_are (run ∷ runs) = ap (λ os. operations_of_run run ++ os) (operations_are runs)

-- ---- their block

no_gap : (n : ℕ) (structs : List StructValue) → n ≡ 0 → with_gap n structs ≡ structs
no_gap n structs e = ap (λ m. with_gap m structs) e

one_block : (client : Client) (clock : ℕ) (run next : RunValue) (runs : List RunValue) → Follow client clock (run ∷ next ∷ runs) →
    front_block (of_run run) (block_of_runs (next ∷ runs)) ≡ block_of_runs (run ∷ next ∷ runs)
one_block client clock run next runs f = go (nat_eq next.id.client.0 run.id.client.0) (is_client (sym (ap (λ (x : Id). x.client.0) f.2.0)) (ap (λ (x : Id). x.client.0) f.0))
  where
    structs : List StructValue
    structs = map (λ r. item r) (next ∷ runs)

    is_client : client.0 ≡ next.id.client.0 → run.id.client.0 ≡ client.0 → nat_eq next.id.client.0 run.id.client.0 ≡ true
    is_client a b = grind (arith, tests)

    gap : next.id.clock - (run.id.clock + len_of run.content) ≡ 0
    gap = omega (arith, ap (λ (x : Id). x.clock) f.0, ap (λ (x : Id). x.clock) f.2.0)

    go : (t : Bool) → t ≡ true →
        (if t then record { client = run.id.client; clock = run.id.clock; structs = item run ∷ with_gap (next.id.clock - (run.id.clock + len_of run.content)) structs } ∷ []
        else record { client = run.id.client; clock = run.id.clock; structs = item run ∷ [] } ∷ block_of_runs (next ∷ runs))
        ≡ block_of_runs (run ∷ next ∷ runs)
    go true e = ap (λ ss. record { client = run.id.client; clock = run.id.clock; structs = item run ∷ ss } ∷ []) (no_gap _ structs gap)
    go false e = absurd (grind (arith, tests))

blocks_are : (client : Client) (clock : ℕ) (runs : List RunValue) → Follow client clock runs → blocks_of (groups_of runs) ≡ block_of_runs runs
blocks_are client clock [] f = refl
blocks_are client clock (run ∷ []) f = refl
blocks_are client clock (run ∷ next ∷ runs) f = ap (front_block (of_run run)) (blocks_are client (clock + len_of run.content) (next ∷ runs) f.2) ∙ one_block client clock run next runs f

-- ---- none goes on with the next

none : (a b c d : Bool) → b ≡ false → (a && b && c && d) ≡ false
none a b c d e = subst (λ (t : Bool). (a && t && c && d) ≡ false) (sym e) (go a)
  where
    go : (a : Bool) → (a && false && c && d) ≡ false
    go true = refl
    go false = refl

module _ (has : Id → Bool) where
  -- a unit behind which something is made was there before, and the last unit of a made run was not
  not_joined : (client : Client) (clock : ℕ) (run next : RunValue) → run.id ≡ record { client = client; clock = clock } → 0 < len_of run.content →
      next.id ≡ record { client = client; clock = clock + len_of run.content } → IfSome next.left (λ y. has y ≡ true) →
      ((o : Operation) → IsIn o (operations_of_run run) → has o.id ≡ false) → run_joins run next ≡ false
  not_joined client clock run next first some second there new =
      none (is_same next.id (later_id run.id (len_of run.content))) (stands_behind next.left next.id) (is_same_neighbour run.right next.right)
      (are_of_one_kind run.content next.content) (go next.left there)
    where
      other : (y : Id) → has y ≡ true → is_same next.id (later_id y 1) ≡ true → false ≡ true
      other y h e =
          let behind = same_is next.id (later_id y 1) e in
          let (o, i, is) = group_has (of_run run) (len_of run.content - 1) (omega (arith, some)) in
          let last : o.id ≡ y = is ∙ same_numbers (later_id run.id (len_of run.content - 1)) y
          (ap (λ (x : Id). x.client.0) first ∙ sym (ap (λ (x : Id). x.client.0) second) ∙ ap (λ (x : Id). x.client.0) behind)
          (omega (arith, some, ap (λ (x : Id). x.clock) first, ap (λ (x : Id). x.clock) second, ap (λ (x : Id). x.clock) behind)) in
          sym (new o i) ∙ ap has last ∙ h

      go : (left : Option Id) → IfSome left (λ y. has y ≡ true) → stands_behind left next.id ≡ false
      go None h = refl
      go (Some y) h = by_test (is_same next.id (later_id y 1)) (other y h)
        where
          by_test : (t : Bool) → (t ≡ true → false ≡ true) → t ≡ false
          by_test true f = sym (f refl)
          by_test false f = refl

  apart : (client : Client) (clock : ℕ) (runs : List RunValue) → Follow client clock runs → Each (λ run. IfSome run.left (λ y. has y ≡ true)) runs →
      ((o : Operation) → IsIn o (operations_of_runs runs) → has o.id ≡ false) → AreApart (groups_of runs)
  apart client clock [] f lefts new = tt
  apart client clock (run ∷ []) f lefts new = tt
  apart client clock (run ∷ next ∷ runs) f lefts new = (
    not_joined client clock run next f.0 f.1 f.2.0 lefts.1.0 (λ o i. new o (in_left_part o (operations_of_run run) (operations_of_runs (next ∷ runs)) i)),
    apart client (clock + len_of run.content) (next ∷ runs) f.2 lefts.1 (λ o i. new o (in_right_part o (operations_of_run run) (operations_of_runs (next ∷ runs)) i)),
  )

-- ---- lemmas for callers

pub edit_grouped : (basis : Basis) (r : Received) (steps : List Step) → Each IsStepInRange steps → IsValidEditOn basis r steps → EditIsTakenOn basis r steps →
    IsGrouped (update_of_edit basis steps)
edit_grouped basis r steps each valid taken =
    ap (λ blocks. record { blocks = blocks; deletes = removed_by steps }) (sym (blocks_are basis.client clock runs in_row))
    ∙ built_grouped (groups_of runs) (removed_by steps) (have_units basis.client clock runs in_row) (ascend basis.client clock runs in_row)
    (apart (has_operation r.operations) basis.client clock runs in_row valid.lefts taken.new)
    ∙ ap (λ os. grouping_of os (removed_by steps)) (operations_are runs ∙ sym taken.made)
  where
    clock : ℕ
    clock = basis.vector basis.client.0

    runs : List RunValue
    runs = runs_on basis steps

    in_row : Follow basis.client clock runs
    in_row = follow steps basis.client clock basis.document.units each
