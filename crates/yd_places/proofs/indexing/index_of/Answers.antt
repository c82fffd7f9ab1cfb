use Rattle.std.proofs.Common.{subst, sym, Option}
use Rattle.std.specs.Prelude.{ℕ, IfSome}
use Rattle.yd_ops.specs.declared.lists.List.{List as DocList}
use Rattle.yd_ops.specs.Valid.{IsParent}
use Rattle.yd_places.proofs.RangeLemmas.{place_in_range}
use Rattle.yd_places.proofs.indexing.index_of.Goals as goal

pub returns-clause-in_range : goal.returns-clause-in_range
returns-clause-in_range c =
    subst (λ (place : Option (DocList × ℕ)). IfSome place (λ both. IsParent both.0.parent)) (sym c.in_ok-place.ensures)
    (place_in_range c.args.replica.now c.received_can_be_grouped.ensures c.args.position.now)
