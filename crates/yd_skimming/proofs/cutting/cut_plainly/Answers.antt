use Rattle.yd_skimming.specs.Cutter.{TookCut}
use Rattle.yd_skimming.proofs.CuttingLemmas.{cuts_taken, ends_so}
use Rattle.yd_skimming.proofs.cutting.cut_plainly.Goals as goal

pub finish-requires : goal.finish-requires
finish-requires g c = (
  c.args.vector.now,
  c.in_ok-deletes.ensures.took.update,
  ends_so g.V.CutBy.vector c.args.vector.now c.args.bytes.now c.in_ok-deletes.deletes c.new.result c.take_structs_v1.new.taker.cutter c.requires c.new.ensures
      c.in_ok-deletes.ensures.took c.if-not-writer.false,
)

pub returns-clause-cut : goal.returns-clause-cut
returns-clause-cut g c = cuts_taken c.args.vector.now c.args.bytes.now c.in_ok-deletes.deletes c.take_structs_v1.new.taker.cutter (TookCut g.V.CutBy.vector c.new.result)
    (TookCut g.V.CutBy.vector c.take_structs_v1.new.taker.cutter) c.in_ok-written.written.items c.in_ok-deletes.ensures.took
    (ends_so g.V.CutBy.vector c.args.vector.now c.args.bytes.now c.in_ok-deletes.deletes c.new.result c.take_structs_v1.new.taker.cutter c.requires c.new.ensures
    c.in_ok-deletes.ensures.took c.if-not-writer.false) c.in_ok-written.ensures
