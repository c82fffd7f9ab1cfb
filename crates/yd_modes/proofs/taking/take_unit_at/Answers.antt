use Rattle.std.proofs.Common.{◌≡◌, ℕ, Some, [], ◌∷◌, sym, ◌∙◌, subst}
use Rattle.std.proofs.lemmas.Result.{on_ok_weaker}
use Rattle.yd_ops.specs.Operation.{text_unit}
use Rattle.yd_modes.specs.Gathering.{Gathers, live}
use Rattle.yd_modes.proofs.taking.take_unit_at.Goals as goal

one_of : {x y : ℕ} → Some x ≡ Some y → x ≡ y
one_of e = cc

pub returns-in-Some-clause-gathers : goal.returns-in-Some-clause-gathers
returns-in-Some-clause-gathers c = on_ok_weaker c.take_unit.result (λ gathers way show unit there.
    subst (λ u. Gathers way show c.args.gathering.now c.take_unit.new.self (live c.args.id (text_unit u) ∷ [])) (one_of (sym c.in-Some.is ∙ c.unit.ensures ∙ there)) (gathers way show))
    c.take_unit.ensures.gathers
