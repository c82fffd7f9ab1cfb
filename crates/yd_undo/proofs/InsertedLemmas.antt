-- What an update inserts: its spans have just the ids of its operations.
use Rattle.std.proofs.Common.{◌≡◌, ◌↔◌, ℕ, zero, suc, ◌+◌, ◌<◌, ◌≤◌, not, Bool, true, false, List, [], ◌∷◌, ◌++◌, length, Option, Some, None, inl, inr, refl, sym, ap, ◌∙◌, subst, arith, true≢false}
use Rattle.yd_words.specs.Each.{Each}
use Rattle.yd_words.specs.Member.{IsIn}
use Rattle.yd_words.proofs.MemberLemmas.{in_left_part, in_right_part, in_parts}
use Rattle.yd_words.proofs.TestLemmas.{split}
use Rattle.yd_ids.specs.declared.id.Client.{Client}
use Rattle.yd_ids.specs.declared.id.Id.{Id}
use Rattle.yd_ids.specs.declared.id.Span.{Span}
use Rattle.yd_ids.specs.Span.{InSpan}
use Rattle.yd_ids.specs.Set.{HasId}
use Rattle.yd_ids.proofs.IdLemmas.{same_numbers}
use Rattle.yd_ids.proofs.SetLemmas.{has_front, has_either}
use Rattle.yd_ids.proofs.SetOfLemmas.{set_of_ids}
use Rattle.yd_ops.specs.declared.lists.List.{List as DocList}
use Rattle.yd_ops.specs.Operation.{UnitContent, Operation, later_id, units_of_content, operations_from, operations_of_run, gone_operation, gone_from, operations_of_struct, operations_of_structs, operations_of_blocks}
use Rattle.yd_ops.specs.Valid.{AreStructsFrom, IsValidBlock, IsValidUpdate}
use Rattle.yd_ops.specs.Value.{BlockValue, StructValue, item, skip, gone, clocks_of, len_of, UpdateValue}
use Rattle.yd_ops.proofs.OperationLemmas.{length-units_of_content}
use Rattle.yd_meaning.specs.Held.{is_named}
use Rattle.yd_editing.proofs.NamedLemmas.{has_named, named_has}
use Rattle.yd_subsets.proofs.PartLemmas.{part_ids}
use Rattle.yd_undo.specs.Entry.{struct_ids, structs_ids, blocks_ids}
use Rattle.yd_undo.specs.Law.{HasOne, EntriesAreOfUpdates}

-- so many ids in a row, from one on
abbrev pub InRow : Id → ℕ → Id → Type 0
InRow id len x = (id.client.0 ≡ x.client.0) × (id.clock ≤ x.clock) × (x.clock < id.clock + len)

-- ---- units of a run

row_has : (us : List UnitContent) (id : Id) (left right : Option Id) (list : Option DocList) (x : Id) → InRow id (length us) x → HasOne (operations_from id left right list us) x
row_has [] id left right list x r = absurd (omega (arith, r.1, r.2))
row_has (u ∷ us) id left right list x r = elim (split (suc id.clock) x.clock) [
  | inl later ↦ let (o, i, e) = row_has us (later_id id 1) (Some id) right None x (r.0, omega (arith, later), omega (arith, r.2)) in (o, inr i, e)
  | inr here ↦ (record { id = id; left_origin = left; right_origin = right; list = list; content = u }, inl refl, same_numbers id x r.0 (omega (arith, here, r.1)))
]

has_row : (us : List UnitContent) (id : Id) (left right : Option Id) (list : Option DocList) (x : Id) → HasOne (operations_from id left right list us) x → InRow id (length us) x
has_row [] id left right list x (o, i, e) = absurd i
has_row (u ∷ us) id left right list x (o, inl h, e) = (
  ap (λ (y : Id). y.client.0) (sym (ap (λ (p : Operation). p.id) h) ∙ e),
  omega (arith, ap (λ (y : Id). y.clock) (sym (ap (λ (p : Operation). p.id) h) ∙ e)),
  omega (arith, ap (λ (y : Id). y.clock) (sym (ap (λ (p : Operation). p.id) h) ∙ e)),
)
has_row (u ∷ us) id left right list x (o, inr i, e) = let (c, low, high) = has_row us (later_id id 1) (Some id) right None x (o, i, e) in (c, omega (arith, low), omega (arith, high))

gone_has : (count : ℕ) (id x : Id) → InRow id count x → HasOne (gone_from id count) x
gone_has zero id x r = absurd (omega (arith, r.1, r.2))
gone_has (suc count) id x r = elim (split (suc id.clock) x.clock) [
  | inl later ↦ let (o, i, e) = gone_has count (later_id id 1) x (r.0, omega (arith, later), omega (arith, r.2)) in (o, inr i, e)
  | inr here ↦ (gone_operation id, inl refl, same_numbers id x r.0 (omega (arith, here, r.1)))
]

has_gone : (count : ℕ) (id x : Id) → HasOne (gone_from id count) x → InRow id count x
has_gone zero id x (o, i, e) = absurd i
has_gone (suc count) id x (o, inl h, e) = (
  ap (λ (y : Id). y.client.0) (sym (ap (λ (p : Operation). p.id) h) ∙ e),
  omega (arith, ap (λ (y : Id). y.clock) (sym (ap (λ (p : Operation). p.id) h) ∙ e)),
  omega (arith, ap (λ (y : Id). y.clock) (sym (ap (λ (p : Operation). p.id) h) ∙ e)),
)
has_gone (suc count) id x (o, inr i, e) = let (c, low, high) = has_gone count (later_id id 1) x (o, i, e) in (c, omega (arith, low), omega (arith, high))

-- ---- structs

one_left : (xs ys : List Operation) (x : Id) → HasOne xs x → HasOne (xs ++ ys) x
one_left xs ys x (o, i, e) = (o, in_left_part o xs ys i, e)

one_right : (xs ys : List Operation) (x : Id) → HasOne ys x → HasOne (xs ++ ys) x
one_right xs ys x (o, i, e) = (o, in_right_part o xs ys i, e)

struct_has : (client : Client) (clock : ℕ) (s : StructValue) (structs : List StructValue) → AreStructsFrom client clock (s ∷ structs) → (x : Id) →
    HasId (struct_ids client clock s) x ↔ HasOne (operations_of_struct client clock s) x
struct_has client clock (item run) structs valid x = (
  (λ h. elim h [ inl i ↦ row_has (units_of_content run.content) run.id run.left run.right run.list x (to i) | inr k ↦ absurd k ]),
  (λ h. inl (from (has_row (units_of_content run.content) run.id run.left run.right run.list x h))),
)
  where
    begins : run.id ≡ record { client = client; clock = clock }
    begins = valid.0.begins

    count : length (units_of_content run.content) ≡ len_of run.content
    count = length-units_of_content run.content

    to : InSpan (record { client = client; clock = clock; len = len_of run.content }) x → InRow run.id (length (units_of_content run.content)) x
    to i = subst (λ n. InRow run.id n x) (sym count) (subst (λ (y : Id). InRow y (len_of run.content) x) (sym begins) i)

    from : InRow run.id (length (units_of_content run.content)) x → InSpan (record { client = client; clock = clock; len = len_of run.content }) x
    from i = subst (λ (y : Id). InRow y (len_of run.content) x) begins (subst (λ n. InRow run.id n x) count i)
struct_has client clock (skip count) structs valid x = ((λ h. absurd h), (λ h. absurd h.1))
struct_has client clock (gone count) structs valid x = (
  (λ h. elim h [ inl i ↦ gone_has count (record { client = client; clock = clock }) x i | inr k ↦ absurd k ]),
  (λ h. inl (has_gone count (record { client = client; clock = clock }) x h)),
)

structs_have : (client : Client) (clock : ℕ) (structs : List StructValue) → AreStructsFrom client clock structs → (x : Id) →
    HasId (structs_ids client clock structs) x ↔ HasOne (operations_of_structs client clock structs) x
structs_have client clock [] valid x = ((λ h. absurd h), (λ h. absurd h.1))
structs_have client clock (s ∷ structs) valid x = (
  (λ h. elim (has_front (struct_ids client clock s) rest x h) [
    | inl a ↦ one_left (operations_of_struct client clock s) more x ((struct_has client clock s structs valid x).0 a)
    | inr b ↦ one_right (operations_of_struct client clock s) more x ((structs_have client (clock + clocks_of s) structs valid.2 x).0 b)
  ]),
  (λ h. elim (in_parts h.0 (operations_of_struct client clock s) more h.1) [
    | inl a ↦ has_either (struct_ids client clock s) rest x (inl ((struct_has client clock s structs valid x).1 (h.0, a, h.2)))
    | inr b ↦ has_either (struct_ids client clock s) rest x (inr ((structs_have client (clock + clocks_of s) structs valid.2 x).1 (h.0, b, h.2)))
  ]),
)
  where
    rest : List Span
    rest = structs_ids client (clock + clocks_of s) structs

    more : List Operation
    more = operations_of_structs client (clock + clocks_of s) structs

blocks_have : (blocks : List BlockValue) → Each IsValidBlock blocks → (x : Id) → HasId (blocks_ids blocks) x ↔ HasOne (operations_of_blocks blocks) x
blocks_have [] valid x = ((λ h. absurd h), (λ h. absurd h.1))
blocks_have (block ∷ blocks) valid x = (
  (λ h. elim (has_front (structs_ids block.client block.clock block.structs) (blocks_ids blocks) x h) [
    | inl a ↦ one_left first (operations_of_blocks blocks) x ((structs_have block.client block.clock block.structs valid.0.structs x).0 a)
    | inr b ↦ one_right first (operations_of_blocks blocks) x ((blocks_have blocks valid.1 x).0 b)
  ]),
  (λ h. elim (in_parts h.0 first (operations_of_blocks blocks) h.1) [
    | inl a ↦ has_either (structs_ids block.client block.clock block.structs) (blocks_ids blocks) x
        (inl ((structs_have block.client block.clock block.structs valid.0.structs x).1 (h.0, a, h.2)))
    | inr b ↦ has_either (structs_ids block.client block.clock block.structs) (blocks_ids blocks) x (inr ((blocks_have blocks valid.1 x).1 (h.0, b, h.2)))
  ]),
)
  where
    first : List Operation
    first = operations_of_structs block.client block.clock block.structs

-- ---- lemmas for callers

pub entries_of : EntriesAreOfUpdates
entries_of noted update valid = record {
  inserted = λ x. let ids = set_of_ids (blocks_ids update.blocks) x in let have = blocks_have update.blocks valid.blocks x in
      ((λ h. have.0 (ids.0 h)), (λ h. ids.1 (have.1 h)));
  deleted = λ x. let part = part_ids (λ y. not (is_named noted y)) update.deletes x in (
    (λ h. ((part.0 h).0, λ k. true≢false (sym (sym (ap not (has_named noted x k)) ∙ (part.0 h).1)))),
    (λ h. part.1 (h.0, none x h.1)),
  );
}
  where
    none : (x : Id) → (HasId noted x → ⊥) → not (is_named noted x) ≡ true
    none x f = go (is_named noted x) refl
      where
        go : (t : Bool) → is_named noted x ≡ t → not t ≡ true
        go true e = absurd (f (named_has noted x e))
        go false e = refl
