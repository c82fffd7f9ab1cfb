use Rattle.yd_words.proofs.EachLemmas.{each_at}
use Rattle.yd_ids.specs.Vector.{IsEntry}
use Rattle.yd_ids.proofs.EntriesLemmas.{raising_raises}
use Rattle.yd_ids.proofs.vector.raised_by.Goals as goal

pub raise_in-requires-clause-is_client : goal.raise_in-requires-clause-is_client
raise_in-requires-clause-is_client c = let is = each_at IsEntry c.args.entries.now c.loop-entry.entry-index (record { 0 = 0 }, 0) c.requires c.loop-entry-test.true in is.client

pub raise_in-requires-clause-is_clock : goal.raise_in-requires-clause-is_clock
raise_in-requires-clause-is_clock c = let is = each_at IsEntry c.args.entries.now c.loop-entry.entry-index (record { 0 = 0 }, 0) c.requires c.loop-entry-test.true in is.clock

pub loop-entry-preserved : goal.loop-entry-preserved
loop-entry-preserved c =
    raising_raises c.args.entries.now c.loop-entry.vector.items c.raise_in.new.entries.items c.loop-entry.entry-index (record { 0 = 0 }, 0) c.loop-entry-test.true c.loop-entry.invariant c.in_ok-raise_in.ensures.kept c.in_ok-raise_in.ensures.raised
