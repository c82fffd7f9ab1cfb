use Rattle.std.proofs.Common.{◌∙◌, arith}
use Rattle.yd_files.proofs.LoadingLemmas.{reading_more, too_large}
use Rattle.yd_files.proofs.loading.read_all.Goals as goal

pub loop-filled-preserved : goal.loop-filled-preserved
loop-filled-preserved g c =
    let s = c.loop-filled.invariant in
    let room = c.in_ok-make_room.ensures in
    let read = c.in_ok-count.ensures in
    record {
      within = omega (arith, read.reads.within, read.reads.length_of, read.len);
      small = omega (arith, read.len, room.small);
      reading = reading_more _ _ _ c.args.name.now c.loop-filled.buffer.items c.make_room.new.buffer.items c.read_piece.new.buffer.items c.loop-filled.filled c.in_ok-count.count (omega arith) room.kept s.reading read.reads;
      counts = omega (arith, s.counts, read.cause);
      calm = λ calm named. let before = s.calm calm named in let after = read.calm before.0 in (after.0, after.2 ∙ before.1);
    }

pub returns-clause-loads : goal.returns-clause-loads
returns-clause-loads g c =
    let s = c.loop-filled.invariant in
    too_large _ _ c.args.name.now c.loop-filled.buffer.items c.loop-filled.filled s.within s.small (omega arith) s.reading
