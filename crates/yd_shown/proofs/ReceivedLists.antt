-- The units of a list of a replica: they are held, not lost, and of the list.
use Rattle.std.proofs.Common.{◌≡◌, List, [], ◌∷◌, map, inl, inr, refl, ap}
use Rattle.yd_ids.specs.declared.id.Id.{Id}
use Rattle.yd_ops.specs.declared.lists.List.{List as DocList}
use Rattle.yd_ops.specs.Operation.{Operation}
use Rattle.yd_words.specs.Member.{IsIn}
use Rattle.yd_ops.specs.Received.{Received}
use Rattle.yd_ops.proofs.OneOfLemmas.{id_is_there}
use Rattle.yd_meaning.specs.Held.{held_set, standing}
use Rattle.yd_meaning.specs.Order.{list_of}
use Rattle.yd_meaning.specs.Document.{Document}
use Rattle.yd_meaning.specs.Replica.{IsReplicaDocument}

-- an operation's id is one of the ids
id_in : (os : List Operation) (o : Operation) → IsIn o os → IsIn o.id (map (λ (p : Operation). p.id) os)
id_in [] o i = absurd i
id_in (p ∷ os) o (inl e) = inl (ap (λ (q : Operation). q.id) e)
id_in (p ∷ os) o (inr i) = inr (id_in os o i)

-- an operation of an id among the ids
of_id : (os : List Operation) (x : Id) → IsIn x (map (λ (p : Operation). p.id) os) → (o : Operation) × IsIn o os
of_id [] x i = absurd i
of_id (p ∷ os) x (inl e) = (p, inl refl)
of_id (p ∷ os) x (inr i) = let (o, j) = of_id os x i in (o, inr j)

-- ---- lemmas for callers

module _ (r : Received) (document : Document) (of_r : IsReplicaDocument document r) where
  -- a list of which an operation is not lost has a unit
  pub has_unit : (list : DocList) (o : Operation) → IsIn o (standing (held_set r.operations)) → list_of (standing (held_set r.operations)) o.id ≡ list →
      (p : Operation) × IsIn p (document.units list)
  has_unit list o i e = of_id (document.units list) o.id ((of_r.each list o.id).1 (id_is_there (standing (held_set r.operations)) o i, e))

  pub in_list : (list : DocList) (o : Operation) → IsIn o (document.units list) →
      IsIn o (standing (held_set r.operations)) × (list_of (standing (held_set r.operations)) o.id ≡ list)
  in_list list o i = (of_r.as_held list o i, ((of_r.each list o.id).0 (id_in (document.units list) o i)).1)
