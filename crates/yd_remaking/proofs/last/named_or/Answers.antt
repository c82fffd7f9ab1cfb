use Rattle.std.proofs.Common.{Some, sym, ap, ◌∙◌}
use Rattle.std.specs.Prelude.{if◌then◌else◌}
use Rattle.yd_words.proofs.TestLemmas.{one_answer}
use Rattle.yd_meaning.specs.Held.{is_named}
use Rattle.yd_state.proofs.NamedLemmas.{named_decides}
use Rattle.yd_remaking.proofs.last.named_or.Goals as goal

pub returns-then-has : goal.returns-then-has
returns-then-has c = ap (λ t. if t then Some c.args.id else c.args.before)
    (sym c.if-has.true ∙ one_answer c.has.result (is_named c.args.named.now c.args.id) c.has.ensures.found (named_decides c.args.named.now c.args.id))

pub returns : goal.returns
returns c = ap (λ t. if t then Some c.args.id else c.args.before)
    (sym c.if-has.false ∙ one_answer c.has.result (is_named c.args.named.now c.args.id) c.has.ensures.found (named_decides c.args.named.now c.args.id))
