use Rattle.std.proofs.Common.{refl}
use Rattle.yd_skimming.proofs.CutterLemmas.{struct_taken}
use Rattle.yd_skimming.proofs.cutter.Cutter.take_units.Goals as goal

pub returns : goal.returns
returns c = λ vector sections taken. struct_taken vector c.args.self.now _ sections c.args.id c.args.entry.now c.len.result c.get-clock.result taken c.requires.placed c.requires.units
    (c.is_behind.ensures.0 c.if-not-is_behind.false) c.len.ensures c.get-clock.ensures.clock c.get-clock.ensures.same refl c.in_ok-note.ensures c.in_ok-self.ensures
