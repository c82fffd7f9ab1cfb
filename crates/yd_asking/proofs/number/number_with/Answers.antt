use Rattle.std.proofs.Common.{sym, ap, ◌∙◌, arith}
use Rattle.std.specs.Str.{bytes_eq}
use Rattle.yd_asking.proofs.TableLemmas.{number_past, number_other, number_some}
use Rattle.yd_asking.proofs.number.number_with.Goals as goal

pub returns-then-number-end : goal.returns-then-number-end
returns-then-number-end c = sym (number_past c.args.end c.args.word.now c.args.number (omega (arith, c.if-number-end.true)))

pub returns-then-eq : goal.returns-then-eq
returns-then-eq c = sym (number_some c.args.end c.args.word.now c.args.number (omega (arith, c.if-number-end.false))
    (ap (bytes_eq c.args.word.now) (sym c.format.ensures.text) ∙ sym c.eq.ensures ∙ c.if-eq.true))

pub returns : goal.returns
returns c = sym (number_other c.args.end c.args.word.now c.args.number (ap (bytes_eq c.args.word.now) (sym c.format.ensures.text) ∙ sym c.eq.ensures ∙ c.if-eq.false))
