use Rattle.std.proofs.Common.{◌≡◌, ℕ, Some, subst}
use Rattle.std.specs.Prelude.{slice_get}
use Rattle.yd_words.specs.Member.{IsIn}
use Rattle.yd_ops.specs.declared.lists.List.{List as DocList}
use Rattle.yd_ops.specs.Operation.{Operation}
use Rattle.yd_state.specs.State.{StateValue, document_in}
use Rattle.yd_state.proofs.DocumentLemmas.{seen_names}
use Rattle.yd_state.proofs.state.State.names.Goals as goal

pub returns-clause-all : goal.returns-clause-all
returns-clause-all c = subst (λ (s : StateValue). (list : DocList) (o : Operation) → IsIn o ((document_in s).units list) → (n : ℕ) × (slice_get s.held.names n ≡ Some list))
    c.self.view_is (seen_names _ c.self.invariant)
