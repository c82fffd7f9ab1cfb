use Rattle.std.proofs.Common.{◌<◌, [], ◌∷◌, length, subst, sym, arith}
use Rattle.yd_words.specs.Each.{Each}
use Rattle.yd_words.proofs.EachLemmas.{each_append}
use Rattle.yd_order.proofs.turns.give_turn.Goals as goal

pub returns : goal.returns
returns c = subst (Each (λ at. at < length c.args.rows.now)) (sym c.in_ok-push.ensures.items)
    (each_append (λ at. at < length c.args.rows.now) c.args.turns.now.items (c.args.at ∷ []) c.requires (omega arith, tt))
