use Rattle.std.proofs.Common.{◌≡◌, ◌≢◌, ◌-◌, get_or, subst, arith}
use Rattle.yd_entries.proofs.EntryLemmas.{no_entry}
use Rattle.yd_entries.proofs.LookupLemmas.{ids_apart, none_at}
use Rattle.yd_entries.proofs.lookup.entry_at.Goals.{then-count-eq0-via-then-count-eq0, then-count-eq0-via-else-count-eq0+then-ne}
use Rattle.yd_entries.proofs.lookup.entry_at.Goals as goal

pub returns-then-count-eq0-clause-none : goal.returns-then-count-eq0-clause-none
returns-then-count-eq0-clause-none c =
    elim c.then-count-eq0.branch [
      | then-count-eq0-via-then-count-eq0 w ↦ none_at c.args.taken.now c.args.id c.place-count.result no_entry c.requires.in_order c.requires.each c.place-count.ensures.bound c.place-count.ensures.before c.place-count.ensures.behind
          (λ m e. absurd (omega arith))
      | then-count-eq0-via-else-count-eq0+then-ne w ↦ none_at c.args.taken.now c.args.id c.place-count.result w.get.result c.requires.in_order c.requires.each c.place-count.ensures.bound c.place-count.ensures.before c.place-count.ensures.behind
          (λ m e.
          let last : c.place-count.result - 1 ≡ m = omega arith in
          subst (λ k. (get_or c.args.taken.now k w.get.result).id ≢ c.args.id) last (subst (λ t. t.id ≢ c.args.id) w.get.ensures (ids_apart _ c.args.id w.if-ne.ensures)))
    ]
