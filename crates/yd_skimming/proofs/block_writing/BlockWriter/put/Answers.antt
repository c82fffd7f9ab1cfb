use Rattle.std.proofs.Common.{ℕ, ◌-◌, ap}
use Rattle.yd_grouping.specs.Building.{block_and}
use Rattle.yd_fields.specs.Lent.{lent_struct}
use Rattle.yd_skimming.proofs.BlockWritingLemmas.{grown_last}
use Rattle.yd_skimming.proofs.block_writing.BlockWriter.put.Goals as goal

pub returns : goal.returns
returns c = λ blocks group at written.
    let last = c.in_ok-last.last in
    let ready = c.in_ok-last.ensures blocks written in
    record {
      front = ready.front;
      done = ready.done;
      last = (
        block_and ready.block group,
        grown_last last c.in_ok-grown.grown c.last_for.new.self.body c.put_behind.new.body c.args.id (lent_struct c.args.entry.now) (c.max.result - last.end) c.len.result ready.block group
            (ap (λ (begins : ℕ). begins - last.end) c.max.ensures) c.len.ensures c.in_ok-grown.ensures c.in_ok-put_behind.ensures at ready.is_last,
        ready.grows group at.starts,
      );
    }
