use Rattle.std.proofs.Common.{◌≡◌, true, false, sym, subst, ◌∙◌, arith}
use Rattle.yd_entries.specs.Lookup.{begins_by}
use Rattle.yd_entries.proofs.LookupLemmas.{parts_low, parts_high}
use Rattle.yd_entries.proofs.lookup.look.Goals as goal

pub returns-then-is_begun-clause-part : goal.returns-then-is_begun-clause-part
returns-then-is_begun-clause-part c =
    parts_low c.args.taken.now c.args.id c.args.bounds c.args.at c.get.result c.requires.order (omega (arith, c.requires.at.1, c.requires.within))
    (subst (λ t. begins_by t c.args.id ≡ true) c.get.ensures (sym c.is_begun.ensures ∙ c.if-is_begun.true))

pub returns-clause-part : goal.returns-clause-part
returns-clause-part c =
    parts_high c.args.taken.now c.args.id c.args.bounds c.args.at c.get.result c.requires.order (omega (arith, c.requires.at.1, c.requires.within))
    (subst (λ t. begins_by t c.args.id ≡ false) c.get.ensures (sym c.is_begun.ensures ∙ c.if-is_begun.false))
