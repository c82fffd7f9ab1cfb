use Rattle.std.proofs.Common.{◌∙◌, sym}
use Rattle.yd_words.proofs.OptionLemmas.{some_is}
use Rattle.yd_ops.specs.View.{run_value}
use Rattle.yd_kept.proofs.HoldingLemmas.{origin_tells, list_told, list_carried}
use Rattle.yd_kept.proofs.kept.Kept.list_for.Goals as goal

pub unreachable-requires : goal.unreachable-requires
unreachable-requires c =
    let some = c.requires.comes in
    let t = origin_tells some.held some.written c.args.self.now (run_value c.args.run.now) c.store.ensures.lists some.filled some.comes c.in-Some.origin (sym c.origin_of.ensures ∙ c.in-Some.is) in
    c.in_default-list_of.not-Some t.number (c.list_of.ensures t.number t.within t.stands)

pub returns-in-Some-clause-list : goal.returns-in-Some-clause-list
returns-in-Some-clause-list c =
    list_told c.args.self.now (run_value c.args.run.now) c.in-Some-list_of.list c.in-Some.origin c.store.ensures.lists (sym c.origin_of.ensures ∙ c.in-Some.is)
    (λ n lt s. some_is n c.in-Some-list_of.list (sym (c.list_of.ensures n lt s) ∙ c.in-Some-list_of.is))

pub returns-clause-list : goal.returns-clause-list
returns-clause-list c =
    list_carried c.list_named.new.self (run_value c.args.run.now) c.in_ok-list.list c.in-Some-list.name (sym c.origin_of.ensures ∙ c.in_default.is) c.in-Some-list.is c.in_ok-list.ensures.named
