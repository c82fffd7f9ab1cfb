-- The update of an edit is taken: its operations are new, so they are there as they were made.
use Rattle.std.proofs.Common.{append-nil, ◌≡◌, ◌↔◌, ◌⊎◌, ◌<◌, ◌≤◌, ◌+◌, ℕ, true, List, [], ◌∷◌, ◌++◌, map, Option, Some, None, inl, inr, refl, sym, ap, ◌∙◌, subst, arith, tests}
use Rattle.std.proofs.lemmas.Bool.{false_from_ne_true}
use Rattle.yd_words.specs.Each.{Each}
use Rattle.yd_words.specs.Member.{IsIn}
use Rattle.yd_words.proofs.MemberLemmas.{in_parts}
use Rattle.yd_ids.specs.declared.id.Client.{Client}
use Rattle.yd_ids.specs.declared.id.Id.{Id}
use Rattle.yd_ids.specs.Set.{HasId}
use Rattle.yd_ids.proofs.UnionLemmas.{union_ids}
use Rattle.yd_ids.specs.Ids.{is_written_before}
use Rattle.yd_any.specs.Tree.{AnyTree, AnyTrees, no_trees, tree}
use Rattle.yd_ops.specs.declared.lists.List.{List as DocList}
use Rattle.yd_ops.specs.Value.{ContentValue, json, binary, string, embed, format, nested, any, deleted, len_of, RunValue, item, UpdateValue}
use Rattle.yd_ops.specs.Operation.{UnitContent, json_unit, units_of_trees, Operation, later_id, units_of_content, operations_from, operations_of_run, operations_of}
use Rattle.yd_ops.proofs.OperationLemmas.{length-units_of_content}
use Rattle.yd_ops.proofs.PartnerLemmas.{IsHalf}
use Rattle.yd_ops.specs.Received.{has_operation, IsWritten, all_taken, Received, received_after, groups_of_structs, groups_of, with_groups}
use Rattle.yd_ops.specs.Deletes.{deletes_of, content_spans, SpellLess}
use Rattle.yd_ops.specs.ReceivedLaw.{IsReceived}
use Rattle.yd_ops.proofs.OneOfLemmas.{operation_with}
use Rattle.yd_ops.proofs.MendingLemmas.{HasPartners, paired_has}
use Rattle.yd_ops.proofs.GroupLemmas.{all_of, update_groups, deletes_of-ids}
use Rattle.yd_ops.proofs.RunLemmas.{run_written, run_partners}
use Rattle.yd_ops.proofs.SpellingLemmas.{content_less}
use Rattle.yd_meaning.specs.Held.{held_set, held_clock}
use Rattle.yd_meaning.specs.Order.{AreHonest}
use Rattle.yd_meaning.specs.Document.{Document, document_of}
use Rattle.yd_meaning.proofs.HeldLemmas.{held_needs, held_set-part}
use Rattle.yd_meaning.proofs.VectorLemmas.{held_written, held_below}
use Rattle.yd_meaning.specs.Replica.{IsReplicaDocument}
use Rattle.yd_meaning.proofs.ReplicaLemmas.{defined_is}
use Rattle.yd_editing.specs.Step.{Step, make, remove}
use Rattle.yd_editing.specs.Basis.{basis_over, basis_of}
use Rattle.yd_editing.specs.Made.{run_of_step, lists_with, runs_of, operations_of_runs, block_of_runs, runs_on, made_on, evolved_on, removed_by, update_of_edit}
use Rattle.yd_editing.specs.Refused.{refusal_of}
use Rattle.yd_editing.specs.Law.{IsHonestHeld, units_of, StandAfter, IsMakeable, MakesContent, after_edit, made_by, evolved_by, EditIsTakenOn, EditIsTaken, EditIsHeld}
use Rattle.yd_editing.proofs.StepLemmas.{from_within, steps_stand}
use Rattle.yd_editing.proofs.FreshLemmas.{AreNew, written_both, fresh_taken, groups_taken}
use Rattle.yd_editing.proofs.RefusalLemmas.{can_step, none_waits, waits_not}

-- ---- what is held is held of itself

pub honest_held : (os : List Operation) → IsWritten os → AreHonest (held_set os) → IsHonestHeld (held_set os)
honest_held os w honest = record { written = held_written os w; whole = held_set-part os (held_set os) w (λ o i. i) (held_needs os); honest = honest }

-- ---- contents

-- what has no halves has no partners to look for
quiet_from : (units : List UnitContent) → Each (λ unit. IsHalf unit → ⊥) units → (id : Id) (left right : Option Id) (list : Option DocList) →
    HasPartners (operations_from id left right list units)
quiet_from units none id left right list o i half = absurd (no_half units none id left right list o i half)
  where
    no_half : (us : List UnitContent) → Each (λ unit. IsHalf unit → ⊥) us → (x : Id) (y z : Option Id) (l : Option DocList) (p : Operation) →
        IsIn p (operations_from x y z l us) → IsHalf p.content → ⊥
    no_half [] n x y z l p j h = j
    no_half (u ∷ us) n x y z l p (inl e) h = n.0 (subst (λ (q : Operation). IsHalf q.content) e h)
    no_half (u ∷ us) n x y z l p (inr j) h = no_half us n.1 (later_id x 1) (Some x) z None p j h

json_quiet : (values : List (Option AnyTree)) → Each (λ unit. IsHalf unit → ⊥) (map json_unit values)
json_quiet [] = tt
json_quiet (v ∷ vs) = ((λ h. elim h [ inl i ↦ i | inr i ↦ i ]), json_quiet vs)

trees_quiet : (values : AnyTrees) → Each (λ unit. IsHalf unit → ⊥) (units_of_trees values)
trees_quiet no_trees = tt
trees_quiet (tree v vs) = ((λ h. elim h [ inl i ↦ i | inr i ↦ i ]), trees_quiet vs)

makeable_partners : (content : ContentValue) → IsMakeable content → (id : Id) (left right : Option Id) (list : Option DocList) →
    HasPartners (operations_from id left right list (units_of_content content))
makeable_partners (json units) m id left right list = quiet_from (units_of_content (json units)) (json_quiet units) id left right list
makeable_partners (binary blob) m id left right list = quiet_from (units_of_content (binary blob)) ((λ h. elim h [ inl i ↦ i | inr i ↦ i ]), tt) id left right list
makeable_partners (string units) m id left right list = run_partners (record { id = id; left = left; right = right; list = list; content = string units }) m
makeable_partners (embed value) m id left right list = quiet_from (units_of_content (embed value)) ((λ h. elim h [ inl i ↦ i | inr i ↦ i ]), tt) id left right list
makeable_partners (format key value) m id left right list = quiet_from (units_of_content (format key value)) ((λ h. elim h [ inl i ↦ i | inr i ↦ i ]), tt) id left right list
makeable_partners (nested kind) m id left right list = quiet_from (units_of_content (nested kind)) ((λ h. elim h [ inl i ↦ i | inr i ↦ i ]), tt) id left right list
makeable_partners (any values) m id left right list = quiet_from (units_of_content (any values)) (trees_quiet values) id left right list
makeable_partners (deleted count) m id left right list = absurd m

makeable_full : (content : ContentValue) → IsMakeable content → (id : Id) → content_spans id content ≡ []
makeable_full (json units) m id = refl
makeable_full (binary blob) m id = refl
makeable_full (string units) m id = refl
makeable_full (embed value) m id = refl
makeable_full (format key value) m id = refl
makeable_full (nested kind) m id = refl
makeable_full (any values) m id = refl
makeable_full (deleted count) m id = absurd m

run_full : (run : RunValue) → IsMakeable run.content → (x : Id) → SpellLess (operations_of_run run) x → ⊥
run_full run m x less = subst (λ spans. HasId spans x) (makeable_full run.content m run.id) ((content_less run.id run.left run.right run.list run.content x).0 less)

-- ---- the runs of an edit

runs_makeable : (steps : List Step) → Each MakesContent steps → (client : Client) (clock : ℕ) (lists : DocList → List Operation) →
    Each (λ run. IsMakeable run.content) (runs_of client clock lists steps)
runs_makeable [] each client clock lists = tt
runs_makeable (make name after content ∷ steps) each client clock lists = (
  each.0,
  runs_makeable steps each.1 client (clock + len_of content)
      (lists_with lists name after (operations_of_run (run_of_step client clock lists name after content))),
)
runs_makeable (remove spans ∷ steps) each client clock lists = runs_makeable steps each.1 client clock lists

pub run_within : (run : RunValue) (o : Operation) → IsIn o (operations_of_run run) →
    (o.id.client ≡ run.id.client) × (run.id.clock ≤ o.id.clock) × (o.id.clock < run.id.clock + len_of run.content)
run_within run o i = let (c, low, high) = from_within (units_of_content run.content) run.id run.left run.right run.list o i in
    (c, low, subst (λ n. o.id.clock < run.id.clock + n) (length-units_of_content run.content) high)

-- they are of the client, from the clock on
runs_from : (steps : List Step) (client : Client) (clock : ℕ) (lists : DocList → List Operation) (o : Operation) →
    IsIn o (operations_of_runs (runs_of client clock lists steps)) →
    (o.id.client ≡ client) × (clock ≤ o.id.clock)
runs_from [] client clock lists o i = absurd i
runs_from (make name after content ∷ steps) client clock lists o i = go (in_parts o (operations_of_run (run_of_step client clock lists name after content)) _ i)
    (λ j. runs_from steps client (clock + len_of content) (lists_with lists name after (operations_of_run (run_of_step client clock lists name after content))) o j)
  where
    go : IsIn o (operations_of_run (run_of_step client clock lists name after content))
        ⊎ IsIn o (operations_of_runs (runs_of client (clock + len_of content) (lists_with lists name after
        (operations_of_run (run_of_step client clock lists name after content))) steps)) →
        (IsIn o (operations_of_runs (runs_of client (clock + len_of content) (lists_with lists name after
        (operations_of_run (run_of_step client clock lists name after content))) steps)) →
        (o.id.client ≡ client) × (clock + len_of content ≤ o.id.clock)) → (o.id.client ≡ client) × (clock ≤ o.id.clock)
    go (inl j) f = let (c, low, high) = run_within (run_of_step client clock lists name after content) o j in (c, low)
    go (inr j) f = let (c, low) = f j in (c, omega (arith, low))
runs_from (remove spans ∷ steps) client clock lists o i = runs_from steps client clock lists o i

-- in the order of writing
runs_written : (steps : List Step) (client : Client) (clock : ℕ) (lists : DocList → List Operation) → IsWritten (operations_of_runs (runs_of client clock lists steps))
runs_written [] client clock lists = tt
runs_written (make name after content ∷ steps) client clock lists =
    written_both (operations_of_run (run_of_step client clock lists name after content))
    (operations_of_runs (runs_of client (clock + len_of content) (lists_with lists name after (operations_of_run (run_of_step client clock lists name after content))) steps))
    (run_written (run_of_step client clock lists name after content))
    (runs_written steps client (clock + len_of content) (lists_with lists name after (operations_of_run (run_of_step client clock lists name after content))))
    (λ o p i j. apart o p (run_within (run_of_step client clock lists name after content) o i)
    (runs_from steps client (clock + len_of content) (lists_with lists name after (operations_of_run (run_of_step client clock lists name after content))) p j))
  where
    apart : (o p : Operation) → (o.id.client ≡ client) × (clock ≤ o.id.clock) × (o.id.clock < clock + len_of content) →
        (p.id.client ≡ client) × (clock + len_of content ≤ p.id.clock) →
        is_written_before o.id p.id ≡ true
    apart o p a b = let one : o.id.client.0 ≡ client.0 = ap (λ (c : Client). c.0) a.0 in let other : p.id.client.0 ≡ client.0 = ap (λ (c : Client). c.0) b.0 in
        let less : o.id.clock < p.id.clock = omega (arith, a.2, b.1) in grind (arith, tests)
runs_written (remove spans ∷ steps) client clock lists = runs_written steps client clock lists

-- ---- the update

structs_are : (runs : List RunValue) (client : Client) (clock : ℕ) → groups_of_structs client clock (map (λ r. item r) runs) ≡ map operations_of_run runs
structs_are [] client clock = refl
structs_are (run ∷ runs) client clock = ap (λ groups. operations_of_run run ∷ groups) (structs_are runs client (clock + len_of run.content))

block_groups : (runs : List RunValue) (spans : List _) → groups_of (record { blocks = block_of_runs runs; deletes = spans }) ≡ map operations_of_run runs
block_groups [] spans = refl
block_groups (run ∷ runs) spans = append-nil (groups_of_structs run.id.client run.id.clock (map (λ r. item r) (run ∷ runs)))
    ∙ structs_are (run ∷ runs) run.id.client run.id.clock

all_runs : (runs : List RunValue) → all_of (map operations_of_run runs) ≡ operations_of_runs runs
all_runs [] = refl
all_runs (run ∷ runs) = ap (λ os. operations_of_run run ++ os) (all_runs runs)

runs_partners : (runs : List RunValue) → Each (λ run. IsMakeable run.content) runs → Each HasPartners (map operations_of_run runs)
runs_partners [] each = tt
runs_partners (run ∷ runs) each = (makeable_partners run.content each.0 run.id run.left run.right run.list, runs_partners runs each.1)

runs_full : (runs : List RunValue) → Each (λ run. IsMakeable run.content) runs → (x : Id) → SpellLess (operations_of_runs runs) x → ⊥
runs_full [] each x (o, i, e, low) = i
runs_full (run ∷ runs) each x (o, i, e, low) = elim (in_parts o (operations_of_run run) (operations_of_runs runs) i) [
  | inl j ↦ run_full run each.0 x (o, j, e, low)
  | inr j ↦ runs_full runs each.1 x (o, j, e, low)
]

module _ (client : Client) (document : Document) (r : Received) (steps : List Step) (received : IsReceived r) (is : IsReplicaDocument document r)
    (makes : Each MakesContent steps) (done : refusal_of (basis_over client document r) steps ≡ None) where
  abbrev held : List Operation
  held = held_set r.operations

  abbrev runs : List RunValue
  runs = runs_on (basis_over client document r) steps

  abbrev news : List Operation
  news = made_on (basis_over client document r) steps

  abbrev update : UpdateValue
  update = update_of_edit (basis_over client document r) steps

  contents : Each (λ run. IsMakeable run.content) runs
  contents = runs_makeable steps makes client (held_clock held client.0) document.units

  groups_are : groups_of update ≡ map operations_of_run runs
  groups_are = block_groups runs (removed_by steps)

  made_is : operations_of update ≡ news
  made_is = sym (update_groups update) ∙ ap all_of groups_are ∙ all_runs runs

  -- the made operations are of no id that is received
  are_new : AreNew news r.operations
  are_new o i = elim (waits_not (basis_over client document r) steps done) [
    | inr nothing ↦ absurd (subst (λ rs. IsIn o (operations_of_runs rs)) (nothing client (held_clock held client.0) document.units) i)
    | inl none ↦ false_from_ne_true (has_operation r.operations o.id) (λ e.
        let (p, j, f) = operation_with r.operations o.id e in
        let (c, low) = runs_from steps client (held_clock held client.0) document.units o i in
        let own : p.id.client.0 ≡ client.0 = ap (λ (x : Id). x.client.0) f ∙ ap (λ (d : Client). d.0) c in
        let there : has_operation held o.id ≡ true = subst (λ x. has_operation held x ≡ true) f (none_waits held client.0 r.operations none p j own) in
        let below : o.id.clock < held_clock held o.id.client.0 = (held_below r.operations received.written o.id.client o.id.clock).0 there in
        absurd (omega (arith, low, subst (λ (d : Client). o.id.clock < held_clock held d.0) c below)))
  ]

  news_written : IsWritten news
  news_written = runs_written steps client (held_clock held client.0) document.units

  operations_are : (received_after r update).operations ≡ all_taken news r.operations
  operations_are = ap (λ groups. with_these groups) groups_are
      ∙ groups_taken (map operations_of_run runs) r.operations (subst (λ os. IsWritten os) (sym (all_runs runs)) news_written) received.written
      (subst (λ os. AreNew os r.operations) (sym (all_runs runs)) are_new) (runs_partners runs contents) (paired_has r.operations received.paired)
      ∙ ap (λ os. all_taken os r.operations) (all_runs runs)
    where
      with_these : List (List Operation) → List Operation
      with_these groups = with_groups groups r.operations

  members_are : (o : Operation) → IsIn o (received_after r update).operations ↔ (IsIn o news ⊎ IsIn o r.operations)
  members_are o = subst (λ os. IsIn o os ↔ (IsIn o news ⊎ IsIn o r.operations)) (sym operations_are) (fresh_taken news r.operations news_written received.written are_new o)

  deletes_are : (x : Id) → HasId (received_after r update).deletes x ↔ (HasId r.deletes x ⊎ HasId (removed_by steps) x)
  deletes_are x = let both = union_ids r.deletes (deletes_of update) x in let own = deletes_of-ids update x in (
    (λ h. elim (both.0 h) [
      | inl k ↦ inl k
      | inr k ↦ elim (own.0 k) [ inl less ↦ absurd (runs_full runs contents x (subst (λ os. SpellLess os x) made_is less)) | inr l ↦ inr l ]
    ]),
    (λ h. elim h [ inl k ↦ both.1 (inl k) | inr k ↦ both.1 (inr (own.1 (inr k))) ]),
  )

  moment_is : AreHonest (held_set r.operations) → StandAfter held news (evolved_on (basis_over client document r) steps)
  moment_is honest = subst (λ (d : Document). StandAfter held (made_on (basis_over client d r) steps) (evolved_on (basis_over client d r) steps)) (sym (is.defined honest))
      (steps_stand held (honest_held r.operations received.written honest) client steps (can_step client document r (held_written r.operations received.written) is steps done))

  -- ---- lemmas for callers

  pub own_edit_is_taken : EditIsTakenOn (basis_over client document r) r steps
  own_edit_is_taken = record { made = made_is; new = are_new; operations = operations_are; members = members_are; deletes = deletes_are; moment = moment_is }

module _ (client : Client) (r : Received) (steps : List Step) (received : IsReceived r) (makes : Each MakesContent steps)
    (done : refusal_of (basis_of client r) steps ≡ None) where
  pub edit_is_taken : EditIsTaken client r steps
  edit_is_taken = own_edit_is_taken client (document_of r) r steps received (defined_is r received.written) makes done

  module _ (all : held_set r.operations ≡ r.operations) (honest : AreHonest (held_set r.operations)) where
    abbrev all_news : List Operation
    all_news = made_by client r steps

    moment : StandAfter (held_set r.operations) (made_by client r steps) (evolved_by client r steps)
    moment = edit_is_taken.moment honest

    in_all : (after_edit client r steps).operations ≡ all_taken all_news (held_set r.operations)
    in_all = edit_is_taken.operations ∙ ap (all_taken all_news) (sym all)

    pub edit_is_held : EditIsHeld client r steps
    edit_is_held = record {
      all_held = subst (λ os. IsHonestHeld os) (sym in_all) moment.all_held;
      held = ap held_set in_all ∙ moment.all_held.whole;
      lists = λ name. ap (λ os. units_of os name) (ap held_set in_all ∙ moment.all_held.whole) ∙ moment.lists name;
    }
