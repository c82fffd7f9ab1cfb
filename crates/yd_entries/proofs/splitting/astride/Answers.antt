use Rattle.std.proofs.Common.{◌≡◌, ◌∙◌, false, sym, subst, arith, tests}
use Rattle.yd_entries.specs.Splitting.{begins_before}
use Rattle.yd_entries.proofs.EntryLemmas.{no_entry}
use Rattle.yd_entries.proofs.ScanLemmas.{all_beside}
use Rattle.yd_entries.proofs.splitting.astride.Goals.{else-at-len-via-then-at-len+else-begins_before, else-at-len-via-else-at-len}
use Rattle.yd_entries.proofs.splitting.astride.Goals as goal

pub returns-clause-none : goal.returns-clause-none
returns-clause-none c =
    elim c.else-at-len.branch [
      | else-at-len-via-then-at-len+else-begins_before w ↦ all_beside c.args.taken.now c.args.id c.place-at.result w.get.result c.requires c.place-at.ensures.before c.place-at.ensures.behind (λ lt.
          subst (λ t. begins_before c.args.id t ≡ false) w.get.ensures (sym w.begins_before.ensures ∙ w.if-begins_before.false))
      | else-at-len-via-else-at-len w ↦ all_beside c.args.taken.now c.args.id c.place-at.result no_entry c.requires c.place-at.ensures.before c.place-at.ensures.behind (λ lt. absurd (omega (arith, w.if-at-len.false, c.len.ensures)))
    ]
