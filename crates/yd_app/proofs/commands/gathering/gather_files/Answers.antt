use Rattle.std.proofs.Common.{sym, ap, subst}
use Rattle.yd_files.specs.Verdict.{Inputs}
use Rattle.yd_ops.specs.Valid.{IsValidUpdate}
use Rattle.yd_words.specs.Each.{Each}
use Rattle.yd_files.specs.Seen.{inputs_of}
use Rattle.yd_app.proofs.GatheredLemmas.{all_gathered}
use Rattle.yd_app.proofs.commands.gathering.gather_files.Goals as goal

pub finish-requires : goal.finish-requires
finish-requires g c = let takes = c.in_ok-take_files.ensures.read in (takes.inputs.updates, takes.took.updates)

pub returns-then-not-has_log-clause-gathered : goal.returns-then-not-has_log-clause-gathered
returns-then-not-has_log-clause-gathered g c = all_gathered (g.L.Library.told c.args.library.now) _ (inputs_of c.in_ok-inputs.inputs) c.in_ok-inputs.ensures.read

pub returns-clause-gathered : goal.returns-clause-gathered
returns-clause-gathered g c =
    let takes = c.in_ok-take_files.ensures.read in
    let stands = c.in_ok-gathered.ensures takes.inputs.updates takes.took.updates in
    record {
      all = takes.inputs;
      stand = takes.stand;
      gathered = rw c.with.ensures (record {
        kinds = ap (λ (i : Inputs). i.kinds) (sym takes.took.inputs_are);
        vectors = ap (λ (i : Inputs). i.vectors) (sym takes.took.inputs_are);
        scripts = ap (λ (i : Inputs). i.scripts) (sym takes.took.inputs_are);
        received = stands.received;
      });
    }

pub returns-clause-valid : goal.returns-clause-valid
returns-clause-valid g c =
    let takes = c.in_ok-take_files.ensures.read in
    let stands = c.in_ok-gathered.ensures takes.inputs.updates takes.took.updates in
    subst (λ (i : Inputs). Each IsValidUpdate i.updates) (sym c.with.ensures) stands.valid
