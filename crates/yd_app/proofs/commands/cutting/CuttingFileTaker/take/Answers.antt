use Rattle.std.proofs.Common.{map}
use Rattle.yd_ops.specs.View.{update_value}
use Rattle.yd_parts.proofs.FaultLemmas.{passes_fault}
use Rattle.yd_v1.specs.Reading.{v1_reading}
use Rattle.yd_files.specs.Seen.{inputs_with}
use Rattle.yd_files.proofs.TakingLemmas.{v1_refused}
use Rattle.yd_app.proofs.CutLemmas.{takes_cut}
use Rattle.yd_app.proofs.commands.cutting.CuttingFileTaker.take.Goals as goal

pub returns-in_err-cut-clause-refused : goal.returns-in_err-cut-clause-refused
returns-in_err-cut-clause-refused c = v1_refused c.args.kind c.args.bytes.now c.from_residual.result
    (passes_fault _ _ _ _ c.from_residual.ensures.1 c.in_err-cut.ensures.fails (λ fault there. there)) c.in-Some.ensures.is_v1

pub returns-in-Some-clause-taken : goal.returns-in-Some-clause-taken
returns-in-Some-clause-taken c =
    let kept = inputs_with c.args.self.now.kept.others (map update_value c.args.self.now.kept.updates) in
    takes_cut c.args.kind c.args.bytes.now kept kept c.args.self.now.cut c.in-Some.vector.now c.in_ok-cut.cut c.in-Some.ensures c.in_ok-cut.ensures.cut
