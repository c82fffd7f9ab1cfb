-- Where the edit rules are kept, a replica's own document is the one that is defined.
use Rattle.std.proofs.Common.{◌≡◌, Bool, ◌&&◌, List, [], ◌∷◌, map, inl, inr, refl, sym, ap, ◌∙◌}
use Rattle.yd_words.specs.Member.{IsIn, AreDistinct}
use Rattle.yd_ids.specs.declared.id.Id.{Id}
use Rattle.yd_ops.specs.declared.lists.List.{List as DocList}
use Rattle.yd_ops.specs.Operation.{Operation}
use Rattle.yd_origins.specs.Table.{ids_of}
use Rattle.yd_ops.specs.Received.{has_operation, IsWritten}
use Rattle.yd_meaning.specs.Held.{held_set, standing}
use Rattle.yd_meaning.specs.Order.{rows_of, order_of, AreHonest}
use Rattle.yd_meaning.specs.Deleted.{is_deleted}
use Rattle.yd_meaning.specs.Document.{Document, operations_at, document_with}
use Rattle.yd_meaning.proofs.DocumentLemmas.{found_before}
use Rattle.yd_meaning.proofs.HonestLemmas.{honest_set}
use Rattle.yd_meaning.proofs.StandingTableLemmas.{standing_table}
use Rattle.yd_meaning.proofs.VectorLemmas.{held_written}
use Rattle.yd_meaning.specs.Grown.{StandsHonest}
use Rattle.yd_meaning.specs.Own.{ids_in, IsOwnDocument}
use Rattle.yd_meaning.proofs.DeletionLemmas.{least_is_deleted}
use Rattle.yd_meaning.proofs.GrownHonestLemmas.{grown_is_order}

-- operations of a table are those at their ids
at_their_ids : (stands : List Operation) → AreDistinct (ids_of (rows_of stands)) → (os : List Operation) → ((o : Operation) → IsIn o os → IsIn o stands) →
    os ≡ operations_at stands (map (λ (o : Operation). o.id) os)
at_their_ids stands a [] f = refl
at_their_ids stands a (o ∷ os) f = ap (λ ps. o ∷ ps) (at_their_ids stands a os (λ p i. f p (inr i)))
    ∙ sym (found_before stands o (operations_at stands (map (λ (p : Operation). p.id) os)) a (f o (inl refl)))

module _ (received : List Operation) (written : IsWritten received) (honest : AreHonest (held_set received)) (document : Document) (named : Id → Bool)
    (own : IsOwnDocument document (held_set received) named) where
  abbrev held : List Operation
  held = held_set received

  is_written : IsWritten held
  is_written = held_written received written

  stands_honest : StandsHonest held
  stands_honest = honest_set received written honest

  ordered : (list : DocList) → ids_in document list ≡ order_of (standing held) list
  ordered list = grown_is_order held is_written stands_honest list (ids_in document list) (own.lists.grown list)
      (λ x e of. (own.lists.each list x).1 (e, of))

  units_are : (list : DocList) → document.units list ≡ operations_at (standing held) (order_of (standing held) list)
  units_are list = at_their_ids (standing held) (standing_table held is_written).distinct (document.units list) (own.lists.as_held list)
      ∙ ap (operations_at (standing held)) (ordered list)

  deleted_are : (x : Id) → document.deleted x ≡ (has_operation held x && is_deleted held named x)
  deleted_are = least_is_deleted held is_written named (ids_in document) ordered document.deleted own.closed own.least

  -- ---- lemmas for callers

  pub own_is_defined : document ≡ document_with held named
  own_is_defined = λ i. record { units = λ list. units_are list i; deleted = λ x. deleted_are x i; keys = λ parent. own.keys parent i }
