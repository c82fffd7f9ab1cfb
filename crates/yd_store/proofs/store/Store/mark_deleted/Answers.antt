use Rattle.std.proofs.Common.{◌+◌}
use Rattle.yd_arena.specs.Arena.{runs_of}
use Rattle.yd_store.specs.Contents.{told_of}
use Rattle.yd_store.proofs.NotedLemmas.{noted_marked}
use Rattle.yd_store.proofs.store.Store.mark_deleted.Goals as goal

pub invariant_of-self : goal.invariant_of-self
invariant_of-self c = record {
  counted = c.mark_deleted.ensures.counted;
  told = c.self.invariant.told;
  noted = noted_marked (runs_of c.self.inside.arena) c.self.inside.marks.rows c.mark_deleted.new.self.rows (told_of c.self.inside.contents) c.args.span.client.0 c.args.span.clock (c.args.span.clock + c.args.span.len) c.mark_deleted.ensures.marked c.self.invariant.told.each c.self.invariant.noted;
}
