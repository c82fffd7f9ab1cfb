use Rattle.std.proofs.Common.{length, refl, sym, subst, arith}
use Rattle.std.proofs.lemmas.Option.{slice_get_read}
use Rattle.yd_entries.specs.Lowering.{LowersEntry}
use Rattle.yd_entries.proofs.SetLemmas.{lowers_none, lowers_gone, lowers_deleted}
use Rattle.yd_entries.proofs.lowering.lower_entry.Goals as goal

pub returns-then-level_of-level-clause-lowered : goal.returns-then-level_of-level-clause-lowered
returns-then-level_of-level-clause-lowered c =
    let ts = c.args.taken.now in
    let t = c.get-entry.result in
    lowers_none c.args.runs.now.items ts c.args.at c.args.level t (slice_get_read ts (length ts) c.args.at t refl c.requires.inside c.get-entry.ensures) (c.requires.entry t)
    (omega (arith, (rw c.deref.ensures.value at c.level_of.ensures), c.if-level_of-level.true))

pub returns-then-level-eq-GONE-clause-lowered : goal.returns-then-level-eq-GONE-clause-lowered
returns-then-level-eq-GONE-clause-lowered c =
    let ts = c.args.taken.now in
    let t = c.get-entry.result in
    subst (λ xs. LowersEntry c.args.runs.now.items ts c.args.runs.now.items xs c.args.at c.args.level) (sym c.set.ensures)
    (lowers_gone c.args.runs.now.items ts c.args.at c.args.level t (slice_get_read ts (length ts) c.args.at t refl c.requires.inside c.get-entry.ensures) (c.requires.entry t)
    (omega (arith, (rw c.deref.ensures.value at c.level_of.ensures), c.if-level_of-level.false)) (omega arith) c.gone.result c.gone.ensures)

pub returns-clause-lowered : goal.returns-clause-lowered
returns-clause-lowered c =
    let ts = c.args.taken.now in
    let t = c.get-entry.result in
    subst (λ xs. LowersEntry c.args.runs.now.items ts c.push.new.self.items xs c.args.at c.args.level) (sym c.set-2.ensures)
    (lowers_deleted c.args.runs.now.items ts c.args.at c.args.level t (slice_get_read ts (length ts) c.args.at t refl c.requires.inside c.get-entry.ensures) (c.requires.entry t)
    (omega (arith, (rw c.deref.ensures.value at c.level_of.ensures), c.if-level_of-level.false)) (omega (arith, c.if-level-eq-GONE.false, c.requires.level)) c.push.new.self.items c.in_ok-run.run' c.len-index.result
    c.in_ok-push.ensures.items (rw c.deref-2.ensures.value at c.in_ok-run.ensures) (omega arith))
