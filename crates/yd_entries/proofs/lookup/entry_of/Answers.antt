use Rattle.std.proofs.Common.{◌≡◌, ◌-◌, get_or, true, subst, arith}
use Rattle.yd_entries.specs.Entries.{covers}
use Rattle.yd_entries.proofs.LookupLemmas.{entry_before}
use Rattle.yd_entries.proofs.lookup.entry_of.Goals as goal

pub overflow_sub-result : goal.overflow_sub-result
overflow_sub-result c =
    let (m, same, has) = entry_before c.args.taken.now c.args.id c.place.result c.requires.in_order c.requires.covered c.place.ensures.bound c.place.ensures.before c.place.ensures.behind in
    omega arith

pub returns-clause-covers : goal.returns-clause-covers
returns-clause-covers c d =
    let (m, same, has) = entry_before c.args.taken.now c.args.id c.place.result c.requires.in_order c.requires.covered c.place.ensures.bound c.place.ensures.before c.place.ensures.behind in
    let last : m ≡ c.place.result - 1 = omega arith in
    subst (λ k. covers (get_or c.args.taken.now k d) c.args.id ≡ true) last (has d)
