use Rattle.std.proofs.Common.{◌∙◌, sym, ap}
use Rattle.yd_making.specs.Waiting.{clock_if_of}
use Rattle.yd_making.proofs.WaitingLemmas.{first_not_passed}
use Rattle.yd_making.proofs.waiting.first_clock.Goals as goal

pub returns-in-None : goal.returns-in-None
returns-in-None c = sym (ap (clock_if_of c.args.client.0) c.in-None.ensures.none)
    ∙ first_not_passed c.args.client.0 c.args.reached c.args.entries.now c.passed-at.result c.requires.in_order c.requires.held c.passed-at.ensures.before
    c.passed-at.ensures.behind

pub returns-in-Some : goal.returns-in-Some
returns-in-Some c = c.clock_if_of.ensures ∙ sym (ap (clock_if_of c.args.client.0) c.in-Some.ensures.found)
    ∙ first_not_passed c.args.client.0 c.args.reached c.args.entries.now c.passed-at.result c.requires.in_order c.requires.held c.passed-at.ensures.before
    c.passed-at.ensures.behind
