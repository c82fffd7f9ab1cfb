use Rattle.yd_arena.specs.Arena.{runs_of}
use Rattle.yd_store.specs.Contents.{told_of}
use Rattle.yd_store.proofs.LoweringLemmas.{told_lowered, noted_lowered}
use Rattle.yd_store.proofs.store.Store.lower_runs.Goals as goal

pub invariant_of-self : goal.invariant_of-self
invariant_of-self c = record {
  counted = c.self.invariant.counted;
  told = told_lowered (runs_of c.self.inside.arena) c.args.level (told_of c.self.inside.contents) (told_of c.lower.new.self) c.args.span c.self.invariant.told c.lower.ensures.lowered;
  noted = noted_lowered (runs_of c.self.inside.arena) c.args.level c.self.inside.marks.rows (told_of c.self.inside.contents) (told_of c.lower.new.self) c.args.span c.self.invariant.told.each c.self.invariant.noted c.lower.ensures.lowered;
}
