use Rattle.std.proofs.Common.{refl, sym, subst}
use Rattle.yd_skimming.specs.declared.block_writing.BlockWriter.{BlockWriter}
use Rattle.yd_skimming.specs.BlockWriting.{IsReadyFor}
use Rattle.yd_skimming.proofs.BlockWritingLemmas.{ready_first, ready_other, ready_same}
use Rattle.yd_skimming.proofs.block_writing.BlockWriter.last_for.Goals as goal
use Rattle.yd_skimming.proofs.block_writing.BlockWriter.last_for.Goals.{in-Some+else-last-id+in_ok-write_block+in_ok-self, in_default}

pub returns-then-last-id : goal.returns-then-last-id
returns-then-last-id c = λ blocks written. ready_same c.args.self.now c.in-Some.last c.args.id blocks c.in-Some.is c.if-last-id.true written

pub returns : goal.returns
returns c = λ blocks written.
    let last = c.in_ok-last.last in
    let begun = c.in_ok-last.ensures in
    let IsReadyAs : BlockWriter → Type 0 = λ (w : BlockWriter). IsReadyFor c.args.id blocks (record w { body = c.begin_block.new.body }) last in
    elim c.match-self.branch [
      | in-Some+else-last-id+in_ok-write_block+in_ok-self w ↦ subst IsReadyAs (sym w.self-is)
          (ready_other c.args.self.now _ w.in-Some.last last c.args.id blocks w.in-Some.is w.if-last-id.false w.in_ok-write_block.ensures w.in_ok-self.ensures begun written)
      | in_default w ↦ subst IsReadyAs (sym w.self-is) (ready_first c.args.self.now _ last c.args.id blocks w.in_default.is refl refl begun written)
    ]
