use Rattle.std.proofs.Common.{◌++◌}
use Rattle.yd_ending.proofs.WritingLemmas.{if_err, on_err, part_then, then_all, then_part}
use Rattle.yd_ending.proofs.writing.write_line.Goals as goal

pub returns-in_err-write_out-2-clause-part : goal.returns-in_err-write_out-2-clause-part
returns-in_err-write_out-2-clause-part g c =
    let taken = g.S.Sink.bytes_taken in
    let old = taken c.args.sink.now in
    let first = taken c.write_out.new.out in
    let second = taken c.write_out-2.new.out in
    if_err c.from_residual-in_err-write_out-2.result
    (part_then old second (c.args.before.now ++ c.args.middle.now) c.args.after.now (then_part old first second c.args.before.now c.args.middle.now (rw (← c.as_bytes.ensures.value) c.in_ok-write_out.ensures.whole) (rw (← c.as_bytes-2.ensures.value) c.in_err-write_out-2.ensures.part)))

pub returns-clause-part : goal.returns-clause-part
returns-clause-part g c =
    let taken = g.S.Sink.bytes_taken in
    let old = taken c.args.sink.now in
    let first = taken c.write_out.new.out in
    let second = taken c.write_out-2.new.out in
    let both = then_all old first second c.args.before.now c.args.middle.now (rw (← c.as_bytes.ensures.value) c.in_ok-write_out.ensures.whole) (rw (← c.as_bytes-2.ensures.value) c.in_ok-write_out-2.ensures.whole) in
    on_err c.write_out-3.result (then_part old second (taken c.write_out-3.new.out) (c.args.before.now ++ c.args.middle.now) c.args.after.now both) (rw (← c.as_bytes-3.ensures.value) c.write_out-3.ensures.part)
