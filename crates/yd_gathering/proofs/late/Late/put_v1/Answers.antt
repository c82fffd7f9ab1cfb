use Rattle.yd_gathering.proofs.LateLemmas.{put_off}
use Rattle.yd_gathering.proofs.late.Late.put_v1.Goals as goal

pub returns-clause-took : goal.returns-clause-took
returns-clause-took c =
    let t = c.in_ok-take_structs_v1.ensures.took in
    put_off c.args.self.now c.keep.new.self c.args.bytes.now t.update t.is_read t.valid c.in_ok-keep.ensures
