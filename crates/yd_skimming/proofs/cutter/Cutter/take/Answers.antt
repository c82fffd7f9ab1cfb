use Rattle.std.proofs.Common.{inl, sym, ◌∙◌}
use Rattle.yd_fields.specs.Lent.{lent_struct}
use Rattle.yd_skimming.proofs.CutterLemmas.{skip_taken}
use Rattle.yd_skimming.proofs.cutter.Cutter.take.Goals as goal
use Rattle.yd_skimming.proofs.cutter.Cutter.take.Goals.{else-self-via-then-self+else-not-is_skip, else-self-via-else-self}

pub returns-else-self : goal.returns-else-self
returns-else-self c = λ vector sections taken. elim c.else-self.branch [
  | else-self-via-then-self+else-not-is_skip w ↦ skip_taken vector c.args.self.now sections c.args.id (lent_struct c.args.entry.now) (sym w.is_skip.ensures ∙ w.if-not-is_skip.false) taken
  | else-self-via-else-self w ↦ inl w.if-self.false
]
