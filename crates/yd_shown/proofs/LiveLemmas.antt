-- What is live in a replica is named by no deletion, and spelled in full.
use Rattle.std.proofs.Common.{◌≡◌, ◌<◌, Bool, true, false, not, List, [], ◌∷◌, inl, inr, refl, sym, ap, ◌∙◌, arith, tests, true≢false}
use Rattle.std.proofs.lemmas.Bool.{or_left, or_right}
use Rattle.yd_words.specs.Member.{IsIn}
use Rattle.yd_words.proofs.FilterLemmas.{kept_one}
use Rattle.yd_words.proofs.TestLemmas.{split}
use Rattle.yd_ids.specs.declared.id.Id.{Id}
use Rattle.yd_ids.specs.declared.id.Span.{Span}
use Rattle.yd_ids.specs.Set.{HasId}
use Rattle.yd_ops.specs.declared.lists.List.{List as DocList}
use Rattle.yd_ops.specs.Operation.{Operation, level_of}
use Rattle.yd_ops.specs.Received.{Received, has_operation}
use Rattle.yd_ops.specs.ReceivedLaw.{IsReceived}
use Rattle.yd_ops.proofs.LevelLemmas.{level_at_most}
use Rattle.yd_ops.proofs.OneOfLemmas.{id_is_there}
use Rattle.yd_meaning.specs.Held.{held_set, standing, is_named, is_in_span}
use Rattle.yd_meaning.specs.Order.{AreHonest}
use Rattle.yd_meaning.specs.Deleted.{is_in_delete_set}
use Rattle.yd_meaning.specs.Document.{Document}
use Rattle.yd_meaning.specs.Text.{live_units}
use Rattle.yd_meaning.proofs.HeldLemmas.{held_in}
use Rattle.yd_meaning.proofs.StandingLemmas.{standing_in}
use Rattle.yd_meaning.proofs.VectorLemmas.{held_written}
use Rattle.yd_meaning.specs.Replica.{IsReplicaDocument}
use Rattle.yd_meaning.proofs.ReplicaLemmas.{named_are_deleted}

not_true : (t : Bool) → not t ≡ true → t ≡ false
not_true true e = absurd (true≢false (sym e))
not_true false e = refl

-- an id of spans is named
has_named : (spans : List Span) (x : Id) → HasId spans x → is_named spans x ≡ true
has_named [] x h = absurd h
has_named (span ∷ spans) x (inl (client, from, to)) = or_left (is_in_span span x) (is_named spans x) (grind (arith, tests))
has_named (span ∷ spans) x (inr h) = or_right (is_in_span span x) (is_named spans x) (has_named spans x h)

-- a test that is not true is false
not_so : (t : Bool) → (t ≡ true → ⊥) → t ≡ false
not_so true no_so = absurd (no_so refl)
not_so false no_so = refl

module _ (r : Received) (document : Document) (of_r : IsReplicaDocument document r) where
  -- a live unit is not deleted, and stands
  live_stands : (list : DocList) (o : Operation) → IsIn o (live_units document list) → (document.deleted o.id ≡ false) × IsIn o (standing (held_set r.operations))
  live_stands list o i =
      let (live, in_units) = kept_one (λ p. not (document.deleted p.id)) (document.units list) o i in
      (not_true (document.deleted o.id) live, of_r.as_held list o in_units)

  -- what stands and is named is deleted
  unnamed : IsReceived r → (o : Operation) → document.deleted o.id ≡ false → IsIn o (standing (held_set r.operations)) → is_named r.deletes o.id ≡ false
  unnamed received o live stands = not_so (is_named r.deletes o.id) (λ named. true≢false (sym (named_are_deleted r document of_r o.id there named) ∙ live))
    where
      there : has_operation (held_set r.operations) o.id ≡ true
      there = id_is_there (held_set r.operations) o (standing_in (held_set r.operations) (held_written r.operations received.written) o stands).0

  -- what stands and is spelled less is named
  less_named : IsReceived r → (o : Operation) → IsIn o (standing (held_set r.operations)) → level_of o.content < 2 → is_named r.deletes o.id ≡ true
  less_named received o stands less = has_named r.deletes o.id (received.named o.id (o, there, refl, less))
    where
      there : IsIn o r.operations
      there = held_in r.operations o ((standing_in (held_set r.operations) (held_written r.operations received.written) o stands).0)

  -- ---- lemmas for callers

  pub live_is_full : IsReceived r → (list : DocList) (o : Operation) → IsIn o (live_units document list) → (is_named r.deletes o.id ≡ false) × (level_of o.content ≡ 2)
  live_is_full received list o i = let (live, stands) = live_stands list o i in go stands (unnamed received o live stands)
    where
      go : IsIn o (standing (held_set r.operations)) → is_named r.deletes o.id ≡ false → (is_named r.deletes o.id ≡ false) × (level_of o.content ≡ 2)
      go stands none = (
        none,
        elim (split 2 (level_of o.content)) [
          | inl full ↦ omega (arith, full, level_at_most o.content)
          | inr less ↦ absurd (true≢false (sym (less_named received o stands less) ∙ none))
        ],
      )

  -- where the edit rules are kept, the deleted ids are the delete set
  pub live_in_none : AreHonest (held_set r.operations) → (list : DocList) (o : Operation) → IsIn o (live_units document list) → is_in_delete_set r o.id ≡ false
  live_in_none honest list o i = sym (ap (λ (d : Document). d.deleted o.id) (of_r.defined honest)) ∙ (live_stands list o i).0
