-- What is known of an edit that is not refused.
use Rattle.std.proofs.Common.{◌≡◌, ◌⊎◌, ℕ, Bool, true, false, ◌&&◌, ◌||◌, not, List, [], ◌∷◌, nat_eq, Option, Some, None, inl, inr, refl, sym, ap, subst, arith, tests, true≢false}
use Rattle.std.specs.Prelude.{IfSome, if◌then◌else◌, map}
use Rattle.yd_words.specs.Each.{Each}
use Rattle.yd_words.specs.Member.{IsIn}
use Rattle.yd_ids.specs.declared.id.Client.{Client}
use Rattle.yd_ids.specs.declared.id.Id.{Id}
use Rattle.yd_ids.specs.Ids.{is_same}
use Rattle.yd_ops.specs.declared.lists.List.{List as DocList}
use Rattle.yd_ops.specs.Operation.{Operation}
use Rattle.yd_ops.specs.Received.{IsWritten, has_operation, Received}
use Rattle.yd_ops.proofs.OneOfLemmas.{operation_with}
use Rattle.yd_meaning.specs.Held.{held_set, standing}
use Rattle.yd_meaning.specs.Names.{item_of_list}
use Rattle.yd_meaning.specs.Order.{order_of}
use Rattle.yd_meaning.specs.Document.{Document}
use Rattle.yd_meaning.specs.Own.{ids_in}
use Rattle.yd_meaning.specs.Replica.{IsReplicaDocument}
use Rattle.yd_editing.specs.Step.{Step, make, remove, Refusal, no_place, own_waiting, first_or}
use Rattle.yd_editing.specs.Basis.{Basis, basis_over, is_type, has_type_item, first_waiting}
use Rattle.yd_editing.specs.Made.{runs_of}
use Rattle.yd_editing.specs.Refused.{first_of_steps, parent_refusal, after_refusal, place_refusal, removal_refusal, pair_refusal, waiting_refusal, clock_refusal, refusal_of}
use Rattle.yd_editing.specs.Law.{CanStep}
use Rattle.yd_editing.proofs.UnitLemmas.{written_in_list}

-- ---- no refusal of two

some_or : (refusal : Refusal) (b : Option Refusal) → first_or (Some refusal) b ≡ None → ⊥
some_or refusal b e = absurd cc

pub neither : (a b : Option Refusal) → first_or a b ≡ None → (a ≡ None) × (b ≡ None)
neither None b e = (refl, e)
neither (Some refusal) b e = absurd (some_or refusal b e)

pub no_step : (asks : Step → Option Refusal) (steps : List Step) → first_of_steps asks steps ≡ None → Each (λ step. asks step ≡ None) steps
no_step asks [] e = tt
no_step asks (step ∷ steps) e = let b = neither (asks step) (first_of_steps asks steps) e in (b.0, no_step asks steps b.1)

pub not_some : (refusal : Refusal) → ◌≡◌ {A = Option Refusal} (Some refusal) None → ⊥
not_some refusal e = absurd cc

held_or : (t : Bool) (refusal : Refusal) → ◌≡◌ {A = Option Refusal} (if t then None else Some refusal) None → t ≡ true
held_or true refusal e = refl
held_or false refusal e = absurd (not_some refusal e)

-- ---- places

type_stands : (os : List Operation) (x : Id) → has_type_item os x ≡ true → has_operation os x ≡ true
type_stands [] x e = absurd (true≢false (sym e))
type_stands (o ∷ os) x e = go (is_same o.id x) e (λ f. type_stands os x f)
  where
    go : (t : Bool) → (if t then is_type o.content else has_type_item os x) ≡ true → (has_type_item os x ≡ true → has_operation os x ≡ true) → (t || has_operation os x) ≡ true
    go true e f = refl
    go false e f = f e

pub id_in_map : (os : List Operation) (o : Operation) → IsIn o os → IsIn o.id (map (λ (p : Operation). p.id) os)
id_in_map [] o i = absurd i
id_in_map (p ∷ ps) o (inl e) = inl (ap (λ (q : Operation). q.id) e)
id_in_map (p ∷ ps) o (inr i) = inr (id_in_map ps o i)

module _ (client : Client) (document : Document) (r : Received) (w : IsWritten (held_set r.operations)) (is : IsReplicaDocument document r) where
  abbrev held : List Operation
  held = held_set r.operations

  abbrev basis_r : Basis
  basis_r = basis_over client document r

  parent_there : (item : Option Id) → parent_refusal basis_r item ≡ None → IfSome item (λ y. has_operation (standing held) y ≡ true)
  parent_there None e = tt
  parent_there (Some y) e = type_stands (standing held) y (held_or (has_type_item (standing held) y) (no_place y) e)

  after_there : (name : DocList) (after : Option Id) → after_refusal (document.units name) after ≡ None → IfSome after (λ y. IsIn y (order_of (standing held) name))
  after_there name None e = tt
  after_there name (Some y) e = let (o, i, f) = operation_with (document.units name) y (held_or (has_operation (document.units name) y) (no_place y) e) in
      (written_in_list held w name y).1 ((is.each name y).0 (subst (λ x. IsIn x (ids_in document name)) f (id_in_map (document.units name) o i)))

  places : (steps : List Step) → Each (λ step. place_refusal basis_r step ≡ None) steps → Each (CanStep held) steps
  places [] each = tt
  places (make name after content ∷ steps) each =
      let b = neither (parent_refusal basis_r (item_of_list name)) (after_refusal (document.units name) after) each.0 in
      (record { parent = parent_there (item_of_list name) b.0; of_list = after_there name after b.1 }, places steps each.1)
  places (remove spans ∷ steps) each = (tt, places steps each.1)

  -- an edit that is not refused has its places
  pub can_step : (steps : List Step) → refusal_of basis_r steps ≡ None → Each (CanStep held) steps
  can_step steps e = places steps (no_step (place_refusal basis_r) steps (neither (first_of_steps (place_refusal basis_r) steps)
      (first_or (first_of_steps (removal_refusal basis_r) steps) (first_or (first_of_steps (pair_refusal basis_r) steps)
      (first_or (first_of_steps (waiting_refusal basis_r) steps) (clock_refusal (basis_r.vector client.0) steps)))) e).0)

-- ---- what waits

-- where nothing of the client waits, all that it has is held
pub none_waits : (held : List Operation) (client : ℕ) (os : List Operation) → first_waiting held client os ≡ None → (o : Operation) → IsIn o os → o.id.client.0 ≡ client →
    has_operation held o.id ≡ true
none_waits held client [] e o i c = absurd i
none_waits held client (p ∷ ps) e o i c = go (nat_eq p.id.client.0 client && not (has_operation held p.id)) refl e (λ f j. none_waits held client ps f o j c)
  where
    not_some_clock : (n : ℕ) → ◌≡◌ {A = Option ℕ} (Some n) None → ⊥
    not_some_clock n f = absurd cc

    here : nat_eq p.id.client.0 client && not (has_operation held p.id) ≡ false → p.id.client.0 ≡ client → has_operation held p.id ≡ true
    here f d = grind (arith, tests)

    go : (t : Bool) → (nat_eq p.id.client.0 client && not (has_operation held p.id)) ≡ t → (if t then Some p.id.clock else first_waiting held client ps) ≡ None →
        (first_waiting held client ps ≡ None → IsIn o ps → has_operation held o.id ≡ true) → has_operation held o.id ≡ true
    go true f g rest = absurd (not_some_clock p.id.clock g)
    go false f g rest = elim i [
      | inl h ↦ subst (λ (q : Operation). has_operation held q.id ≡ true) (sym h) (here f (subst (λ (q : Operation). q.id.client.0 ≡ client) h c))
      | inr j ↦ rest g j
    ]

waits_step : (waits : Option ℕ) → ◌≡◌ {A = Option Refusal} (elim waits [ None ↦ None | Some clock ↦ Some (own_waiting clock) ]) None → waits ≡ None
waits_step None e = refl
waits_step (Some clock) e = absurd (not_some (own_waiting clock) e)

-- nothing of the own client waits, or no step makes anything
pub waits_or_nothing : (base : Basis) (steps : List Step) → Each (λ step. waiting_refusal base step ≡ None) steps →
    (base.waits ≡ None) ⊎ ((client : Client) (clock : ℕ) (lists : DocList → List Operation) → runs_of client clock lists steps ≡ [])
waits_or_nothing base [] each = inr (λ client clock lists. refl)
waits_or_nothing base (make name after content ∷ steps) each = inl (waits_step base.waits each.0)
waits_or_nothing base (remove spans ∷ steps) each = elim (waits_or_nothing base steps each.1) [ inl e ↦ inl e | inr f ↦ inr (λ client clock lists. f client clock lists) ]

pub waits_not : (base : Basis) (steps : List Step) → refusal_of base steps ≡ None →
    (base.waits ≡ None) ⊎ ((client : Client) (clock : ℕ) (lists : DocList → List Operation) → runs_of client clock lists steps ≡ [])
waits_not base steps e =
    let a = neither (first_of_steps (place_refusal base) steps) (first_or (first_of_steps (removal_refusal base) steps) (first_or (first_of_steps (pair_refusal base) steps)
    (first_or (first_of_steps (waiting_refusal base) steps) (clock_refusal (base.vector base.client.0) steps)))) e in
    let b = neither (first_of_steps (removal_refusal base) steps) (first_or (first_of_steps (pair_refusal base) steps)
    (first_or (first_of_steps (waiting_refusal base) steps) (clock_refusal (base.vector base.client.0) steps))) a.1 in
    let c = neither (first_of_steps (pair_refusal base) steps) (first_or (first_of_steps (waiting_refusal base) steps) (clock_refusal (base.vector base.client.0) steps)) b.1 in
    let d = neither (first_of_steps (waiting_refusal base) steps) (clock_refusal (base.vector base.client.0) steps) c.1 in
    waits_or_nothing base steps (no_step (waiting_refusal base) steps d.0)
