use Rattle.std.proofs.Common.{sym, subst, ◌∙◌}
use Rattle.std.specs.Prelude.{IfSome}
use Rattle.yd_firsts.specs.Pieces.{IsFirstOf}
use Rattle.yd_firsts.proofs.FoundLemmas.{found_first}
use Rattle.yd_firsts.proofs.collapsing.begins_piece.Goals as goal

pub returns-in-Some : goal.returns-in-Some
returns-in-Some c e = subst (λ z. IfSome z (IsFirstOf c.args.pieces.now)) (sym c.in-Some.is)
    (found_first c.args.pieces.now c.in-Some.id c.beginning_with.result c.beginning_with.ensures (sym c.is_some.ensures ∙ e))
