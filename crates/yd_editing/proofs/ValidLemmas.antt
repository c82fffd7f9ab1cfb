-- The update of an edit is valid.
use Rattle.std.proofs.Common.{◌≡◌, ◌+◌, ◌^◌, ◌<◌, ℕ, Bool, true, false, List, [], ◌∷◌, ◌++◌, map, nat_le, Option, Some, None, inl, inr, refl, sym, subst, arith, tests}
use Rattle.std.specs.Prelude.{IfSome, if◌then◌else◌}
use Rattle.yd_words.specs.Each.{Each}
use Rattle.yd_words.specs.Member.{IsIn}
use Rattle.yd_words.proofs.OptionLemmas.{if_some_map}
use Rattle.yd_words.proofs.MemberLemmas.{in_parts}
use Rattle.yd_ids.specs.declared.id.Client.{Client}
use Rattle.yd_ids.specs.declared.id.Id.{Id}
use Rattle.yd_ids.specs.Id.{IsClient, IsClock, IsId}
use Rattle.yd_ids.specs.Set.{AreMaximal}
use Rattle.yd_ids.proofs.UnionLemmas.{union_maximal}
use Rattle.yd_ops.specs.declared.lists.List.{List as DocList}
use Rattle.yd_ops.specs.Value.{ContentValue, len_of, RunValue, item}
use Rattle.yd_ops.specs.Valid.{IsParent, CarriesList, AreStructsFrom, IsValidBlock, IsValidContent}
use Rattle.yd_ops.specs.Operation.{Operation, operations_of_run}
use Rattle.yd_ops.specs.Received.{has_operation, Received, IsWritten}
use Rattle.yd_ops.specs.ReceivedLaw.{IsReceived}
use Rattle.yd_ops.proofs.OneOfLemmas.{operation_with, ids_stay}
use Rattle.yd_meaning.specs.Names.{same_list}
use Rattle.yd_meaning.specs.Held.{held_set, held_clock, standing}
use Rattle.yd_meaning.specs.Order.{order_of}
use Rattle.yd_meaning.specs.Document.{Document, document_of}
use Rattle.yd_meaning.proofs.HeldLemmas.{held_in}
use Rattle.yd_meaning.proofs.StandingLemmas.{standing_in}
use Rattle.yd_meaning.proofs.VectorLemmas.{held_written}
use Rattle.yd_meaning.specs.Replica.{IsReplicaDocument}
use Rattle.yd_meaning.proofs.ReplicaLemmas.{defined_is}
use Rattle.yd_editing.specs.Step.{Step, make, remove, clock_full}
use Rattle.yd_editing.specs.Basis.{Basis, basis_over, basis_of}
use Rattle.yd_editing.specs.Made.{units_up_to, units_behind, id_of_first, put_behind, list_where_alone, run_of_step, lists_with, runs_of, block_of_runs, runs_on, removed_by}
use Rattle.yd_editing.specs.Refused.{first_of_steps, place_refusal, removal_refusal, pair_refusal, waiting_refusal, clock_refusal, refusal_of}
use Rattle.yd_editing.specs.Law.{CanStep, IsStepInRange, IsValidEditOn, IsValidEdit}
use Rattle.yd_editing.proofs.OrderLemmas.{up_to_in, behind_in}
use Rattle.yd_editing.proofs.UnitLemmas.{written_in_list, written_held_id}
use Rattle.yd_editing.proofs.RefusalLemmas.{neither, not_some, can_step}
use Rattle.yd_editing.proofs.TakenLemmas.{run_within}

-- ---- clocks

clock_fits : (clock : ℕ) (name : DocList) (after : Option Id) (content : ContentValue) (steps : List Step) → clock_refusal clock (make name after content ∷ steps) ≡ None →
    IsClock (clock + len_of content) × (clock_refusal (clock + len_of content) steps ≡ None)
clock_fits clock name after content steps e = go (nat_le (2 ^ 53) (clock + len_of content)) refl e
  where
    go : (t : Bool) → nat_le (2 ^ 53) (clock + len_of content) ≡ t → (if t then Some (clock_full clock) else clock_refusal (clock + len_of content) steps) ≡ None →
        IsClock (clock + len_of content) × (clock_refusal (clock + len_of content) steps ≡ None)
    go true f g = absurd (not_some (clock_full clock) g)
    go false f g = (grind (arith, tests), g)

clocks_fit : (basis : Basis) (steps : List Step) → refusal_of basis steps ≡ None → clock_refusal (basis.vector basis.client.0) steps ≡ None
clocks_fit basis steps e =
    let a = neither (first_of_steps (place_refusal basis) steps) _ e in
    let b = neither (first_of_steps (removal_refusal basis) steps) _ a.1 in
    let c = neither (first_of_steps (pair_refusal basis) steps) _ b.1 in
    let d = neither (first_of_steps (waiting_refusal basis) steps) _ c.1 in d.1

-- ---- runs

-- all ids of the lists are in range
abbrev AreInRange : (DocList → List Operation) → Type 0
AreInRange lists = (name : DocList) (o : Operation) → IsIn o (lists name) → IsId o.id

-- the units behind which runs are made are in range
abbrev AreAfters : List Step → Type 0
AreAfters [] = Unit {0}
AreAfters (make name after content ∷ steps) = IfSome after IsId × AreAfters steps
AreAfters (remove spans ∷ steps) = AreAfters steps

first_in_range : (os : List Operation) → ((o : Operation) → IsIn o os → IsId o.id) → IfSome (id_of_first os) IsId
first_in_range [] f = tt
first_in_range (o ∷ os) f = f o (inl refl)

carries : (left right : Option Id) (name : DocList) → IsParent name.parent → CarriesList left right (list_where_alone left right name)
carries None None name p = p
carries None (Some r) name p = tt
carries (Some l) right name p = tt

grown_in_range : (client : Client) (clock : ℕ) (lists : DocList → List Operation) (name : DocList) (after : Option Id) (content : ContentValue) → IsClient client →
    IsClock (clock + len_of content) →
    AreInRange lists → AreInRange (lists_with lists name after (operations_of_run (run_of_step client clock lists name after content)))
grown_in_range client clock lists name after content c fits in_range other o i = go (same_list other name) i
  where
    news : List Operation
    news = operations_of_run (run_of_step client clock lists name after content)

    of_news : IsIn o (operations_of_run (run_of_step client clock lists name after content)) → IsId o.id
    of_news j = let (one, low, high) = run_within (run_of_step client clock lists name after content) o j in
        record { client = subst (λ d. IsClient d) (sym one) c; clock = omega (arith, high, fits) }

    go : (t : Bool) → IsIn o (if t then put_behind after (operations_of_run (run_of_step client clock lists name after content)) (lists other) else lists other) → IsId o.id
    go true j = elim (in_parts o (units_up_to after (lists other)) (operations_of_run (run_of_step client clock lists name after content) ++ units_behind after (lists other)) j) [
      | inl k ↦ in_range other o (up_to_in after (lists other) o k)
      | inr k ↦ elim (in_parts o (operations_of_run (run_of_step client clock lists name after content)) (units_behind after (lists other)) k) [
        | inl l ↦ of_news l
        | inr l ↦ in_range other o (behind_in after (lists other) o l)
      ]
    ]
    go false j = in_range other o j

-- a step makes what is in range: a valid content of at least one unit for a list whose parent is in range
abbrev pub MakesInRange : Step → Type 0
MakesInRange (make name after content) = IsValidContent content × (0 < len_of content) × IsParent name.parent
MakesInRange (remove spans) = Unit {0}

structs_valid : (steps : List Step) (client : Client) (clock : ℕ) (lists : DocList → List Operation) → IsClient client → AreInRange lists → AreAfters steps →
    Each MakesInRange steps →
    clock_refusal clock steps ≡ None → AreStructsFrom client clock (map (λ r. item r) (runs_of client clock lists steps))
structs_valid [] client clock lists c in_range afters each e = tt
structs_valid (make name after content ∷ steps) client clock lists c in_range afters each e =
    let (fits, rest) = clock_fits clock name after content steps e in (
      record {
        begins = refl;
        has_units = each.0.1;
        left = afters.0;
        right = first_in_range (units_behind after (lists name)) (λ o i. in_range name o (behind_in after (lists name) o i));
        list = carries after (id_of_first (units_behind after (lists name))) name each.0.2;
        content = each.0.0;
      },
      fits,
      structs_valid steps client (clock + len_of content) (lists_with lists name after (operations_of_run (run_of_step client clock lists name after content))) c
          (grown_in_range client clock lists name after content c fits in_range) afters.1 each.1 rest,
    )
structs_valid (remove spans ∷ steps) client clock lists c in_range afters each e = structs_valid steps client clock lists c in_range afters each.1 e

blocks_valid : (steps : List Step) (client : Client) (clock : ℕ) (lists : DocList → List Operation) → IsClient client → AreInRange lists → AreAfters steps →
    Each MakesInRange steps →
    clock_refusal clock steps ≡ None → Each IsValidBlock (block_of_runs (runs_of client clock lists steps))
blocks_valid [] client clock lists c in_range afters each e = tt
blocks_valid (make name after content ∷ steps) client clock lists c in_range afters each e =
    let (fits, rest) = clock_fits clock name after content steps e in
    (record { client = c; clock = omega (arith, fits); structs = structs_valid (make name after content ∷ steps) client clock lists c in_range afters each e }, tt)
blocks_valid (remove spans ∷ steps) client clock lists c in_range afters each e = blocks_valid steps client clock lists c in_range afters each.1 e

removed_maximal : (steps : List Step) → Each IsStepInRange steps → AreMaximal (removed_by steps)
removed_maximal [] each = tt
removed_maximal (make name after content ∷ steps) each = removed_maximal steps each.1
removed_maximal (remove spans ∷ steps) each = union_maximal spans (removed_by steps) each.0 (removed_maximal steps each.1)

lefts_of : (P : Id → Type 0) (steps : List Step) (client : Client) (clock : ℕ) (lists : DocList → List Operation) (held : List Operation) → Each (CanStep held) steps →
    ((name : DocList) (y : Id) → IsIn y (order_of (standing held) name) → P y) → Each (λ (run : RunValue). IfSome run.left P) (runs_of client clock lists steps)
lefts_of P [] client clock lists held can f = tt
lefts_of P (make name after content ∷ steps) client clock lists held can f = (
  if_some_map (λ y. IsIn y (order_of (standing held) name)) P after (f name) can.0.of_list,
  lefts_of P steps client (clock + len_of content) (lists_with lists name after (operations_of_run (run_of_step client clock lists name after content))) held can.1 f,
)
lefts_of P (remove spans ∷ steps) client clock lists held can f = lefts_of P steps client clock lists held can.1 f

afters_of : (steps : List Step) (held : List Operation) → Each (CanStep held) steps → ((name : DocList) (y : Id) → IsIn y (order_of (standing held) name) → IsId y) →
    AreAfters steps
afters_of [] held can f = tt
afters_of (make name after content ∷ steps) held can f = (if_some_map (λ y. IsIn y (order_of (standing held) name)) IsId after (f name) can.0.of_list, afters_of steps held can.1 f)
afters_of (remove spans ∷ steps) held can f = afters_of steps held can.1 f

-- what is in range makes what is so
makes_in_range : (steps : List Step) → Each IsStepInRange steps → Each MakesInRange steps
makes_in_range [] each = tt
makes_in_range (make name after content ∷ steps) each = (each.0, makes_in_range steps each.1)
makes_in_range (remove spans ∷ steps) each = (tt, makes_in_range steps each.1)

module _ (client : Client) (document : Document) (r : Received) (steps : List Step) (received : IsReceived r) (is : IsReplicaDocument document r)
    (ids : (o : Operation) → IsIn o r.operations → IsId o.id) (done : refusal_of (basis_over client document r) steps ≡ None) where
  abbrev held : List Operation
  held = held_set r.operations

  w : IsWritten (held_set r.operations)
  w = held_written r.operations received.written

  can : Each (CanStep (held_set r.operations)) steps
  can = can_step client document r w is steps done

  held_range : (o : Operation) → IsIn o (standing (held_set r.operations)) → IsId o.id
  held_range o i = ids o (held_in r.operations o (standing_in (held_set r.operations) w o i).0)

  in_range : (name : DocList) (y : Id) → IsIn y (order_of (standing (held_set r.operations)) name) → IsId y
  in_range name y i = let (o, j, e) = operation_with (standing (held_set r.operations)) y ((written_in_list (held_set r.operations) w name y).0 i).0 in subst
      (λ x. IsId x) e (held_range o j)

  -- ---- lemmas for callers

  -- the made runs are valid, whatever is removed
  pub own_valid_blocks : Each MakesInRange steps → IsClient client → Each IsValidBlock (block_of_runs (runs_on (basis_over client document r) steps))
  own_valid_blocks each c = blocks_valid steps client (held_clock held client.0) document.units c (λ name o i. held_range o (is.as_held name o i))
      (afters_of steps held can in_range) each (clocks_fit (basis_over client document r) steps done)

  pub own_valid_edit : Each IsStepInRange steps → IsClient client → IsValidEditOn (basis_over client document r) r steps
  own_valid_edit each c = record {
    valid = record { blocks = own_valid_blocks (makes_in_range steps each) c; deletes = removed_maximal steps each };
    lefts = lefts_of (λ y. has_operation r.operations y ≡ true) steps client (held_clock held client.0) document.units held can
        (λ name y i. ids_stay held r.operations y (λ o j. held_in r.operations o j) (written_held_id held w y ((written_in_list held w name y).0 i).0));
  }

-- the same over the defined document
module _ (client : Client) (r : Received) (steps : List Step) (received : IsReceived r) where
  pub valid_blocks : Each MakesInRange steps → IsClient client → ((o : Operation) → IsIn o r.operations → IsId o.id) → refusal_of (basis_of client r) steps ≡ None →
      Each IsValidBlock (block_of_runs (runs_on (basis_of client r) steps))
  valid_blocks each c ids done = own_valid_blocks client (document_of r) r steps received (defined_is r received.written) ids done each c

  pub valid_edit : Each IsStepInRange steps → IsClient client → ((o : Operation) → IsIn o r.operations → IsId o.id) → refusal_of (basis_of client r) steps ≡ None →
      IsValidEdit client r steps
  valid_edit each c ids done = own_valid_edit client (document_of r) r steps received (defined_is r received.written) ids done each c
