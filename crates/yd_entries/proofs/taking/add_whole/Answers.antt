use Rattle.std.proofs.Common.{◌≡◌, ◌∙◌, ◌++◌, ◌∷◌, [], length, ap, refl, arith}
use Rattle.yd_ops.specs.View.{run_value}
use Rattle.yd_entries.proofs.WholeRunLemmas.{whole_added}
use Rattle.yd_entries.proofs.taking.add_whole.Goals as goal

pub returns-clause-added : goal.returns-clause-added
returns-clause-added c =
    let count : c.len-index.result ≡ length c.args.runs.now.items = omega (arith, c.len-index.ensures, c.args.runs.now.ok.0) in
    whole_added c.args.is_gone (run_value c.args.run) c.args.runs.now.items c.args.taken.now c.args.at c.requires.taken c.requires.run c.requires.gap
    c.args.run _ _ (c.push_reserved.ensures.items ∙ ap (λ runs. runs ++ c.args.run ∷ []) c.in_ok-reserve.ensures.items) refl (rw (count, c.len-len.ensures) at c.in_ok-take_whole.ensures.entry)
