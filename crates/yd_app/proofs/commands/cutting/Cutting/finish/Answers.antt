use Rattle.std.proofs.Common.{map}
use Rattle.yd_ops.specs.View.{update_value}
use Rattle.yd_files.specs.Seen.{inputs_with}
use Rattle.yd_app.proofs.CutLemmas.{kept_all}
use Rattle.yd_app.proofs.commands.cutting.Cutting.finish.Goals as goal

pub returns-in-None : goal.returns-in-None
returns-in-None c = kept_all c.args.self.cut (inputs_with c.args.self.kept.others (map update_value c.args.self.kept.updates)) c.cut_inputs.result c.in-None.is c.cut_inputs.ensures
