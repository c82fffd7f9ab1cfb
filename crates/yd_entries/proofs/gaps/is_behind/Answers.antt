use Rattle.std.proofs.Common.{◌≡◌, ◌∙◌, true, false, sym, subst, arith}
use Rattle.std.proofs.lemmas.Bool.{OnTrue_from, OnFalse_from}
use Rattle.yd_entries.specs.Taking.{ends_by}
use Rattle.yd_entries.proofs.EntryLemmas.{ends_before, ends_behind}
use Rattle.yd_entries.proofs.gaps.is_behind.Goals as goal

pub returns-else-count-eq0-clause-all : goal.returns-else-count-eq0-clause-all
returns-else-count-eq0-clause-all c = OnTrue_from _ _ (λ e.
    ends_before c.args.taken.now c.args.id c.args.count c.get.result c.requires.in_order (omega arith) c.requires.bound
    (subst (λ t. ends_by c.args.id t ≡ true) c.get.ensures (sym c.ends_by.ensures ∙ e)))

pub returns-else-count-eq0-clause-last : goal.returns-else-count-eq0-clause-last
returns-else-count-eq0-clause-last c = OnFalse_from _ _ (λ e.
    ends_behind c.args.taken.now c.args.id c.args.count c.get.result c.requires.in_order (omega arith) c.requires.bound
    (subst (λ t. ends_by c.args.id t ≡ false) c.get.ensures (sym c.ends_by.ensures ∙ e)))
