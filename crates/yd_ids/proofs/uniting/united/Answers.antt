use Rattle.std.proofs.Common.{sym, subst}
use Rattle.yd_ids.proofs.UnitingLemmas.{IsUniting, goes_on}
use Rattle.yd_ids.proofs.uniting.united.Goals as goal

pub loop-span-preserved : goal.loop-span-preserved
loop-span-preserved c =
    subst (λ both. IsUniting c.args.left.now.items c.args.right.now.items both c.next_of.new.left c.next_of.new.right) (sym c.in_ok-add_last.ensures)
    (goes_on c.args.left.now.items c.args.right.now.items c.loop-span.both.items c.loop-span.lefts c.loop-span.rights c.next_of.new.left c.next_of.new.right c.in-Some.span c.loop-span.invariant c.in-Some.ensures)
