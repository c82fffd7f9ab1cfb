use Rattle.std.proofs.Common.{[], ◌∷◌, sym, subst}
use Rattle.yd_entries.specs.Entries.{IsTakenOf}
use Rattle.yd_merge.proofs.LentCutLemmas.{run_taken}
use Rattle.yd_merge.proofs.lent_cutting.push_lent.Goals as goal

pub push_cut-requires : goal.push_cut-requires
push_cut-requires c = subst (λ runs. IsTakenOf runs c.whole_entry.result) (sym c.from_ref.ensures.value)
    (subst (IsTakenOf (c.in-Some.run'.now ∷ [])) (sym c.whole_entry.ensures) (run_taken c.args.lent.now c.in-Some.run' c.requires c.in-Some.is))
