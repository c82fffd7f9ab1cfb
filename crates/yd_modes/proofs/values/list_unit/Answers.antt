use Rattle.std.proofs.Common.{◌≡◌, ℕ, Some, [], ◌∷◌, sym, ◌∙◌, subst}
use Rattle.std.proofs.lemmas.Result.{on_ok_weaker}
use Rattle.yd_ops.specs.Operation.{text_unit}
use Rattle.yd_modes.specs.Gathering.{live}
use Rattle.yd_modes.specs.Listed.{Lists}
use Rattle.yd_modes.proofs.values.list_unit.Goals as goal

one_of : {x y : ℕ} → Some x ≡ Some y → x ≡ y
one_of e = cc

pub returns-in-Some : goal.returns-in-Some
returns-in-Some c = on_ok_weaker c.take_unit.result (λ lists show unit there.
    subst (λ u. Lists show c.args.listed.now c.take_unit.new.self (live c.args.id (text_unit u) ∷ [])) (one_of (sym c.in-Some.is ∙ c.unit.ensures ∙ there)) (lists show))
    c.take_unit.ensures
