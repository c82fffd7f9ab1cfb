use Rattle.std.proofs.Common.{◌≡◌, ◌≢◌, ◌∙◌, ℕ, Some, IfSome, subst}
use Rattle.std.specs.Prelude.{slice_get, IfNone}
use Rattle.yd_names.specs.Coding.{code_of_list}
use Rattle.yd_names.specs.Crowds.{IsTied}
use Rattle.yd_names.specs.Order.{list_cmp}
use Rattle.yd_names.proofs.CodedLemmas.{crowded_there, crowded_none}
use Rattle.yd_names.proofs.names.Names.number_of.Goals as goal

pub returns-clause-there : goal.returns-clause-there
returns-clause-there c = subst (λ names. IfSome c.number_in_crowd.result (λ n. slice_get names n ≡ Some c.args.name.now)) (c.deref-3.ensures.value ∙ c.self.view_is)
    (crowded_there c.deref-3.result.now c.args.name.now c.deref-2.result.now c.number_in_crowd.result c.number_in_crowd.ensures.there)

pub returns-clause-none : goal.returns-clause-none
returns-clause-none c = subst (λ names. IfNone c.number_in_crowd.result ((n : ℕ) → slice_get names n ≢ Some c.args.name.now)) c.self.view_is
    (crowded_none c.self.inside.names.items c.args.name.now c.self.inside.codes c.self.inside.crowd.items c.number_in_crowd.result c.self.invariant
    (subst (λ names. IfNone c.number_in_crowd.result ((n : ℕ) → IsTied list_cmp names c.self.inside.crowd.items c.args.name.now n → ⊥)) c.deref-3.ensures.value
    (subst (λ crowd. IfNone c.number_in_crowd.result ((n : ℕ) → IsTied list_cmp c.deref-3.result.now crowd c.args.name.now n → ⊥)) c.deref-2.ensures.value c.number_in_crowd.ensures.none))
    (subst (λ names. (n : ℕ) → slice_get c.self.inside.codes n ≡ Some (code_of_list c.args.name.now) → slice_get names n ≢ Some c.args.name.now) c.deref.ensures.value c.in_default.ensures.none))
