use Rattle.yd_skimming.proofs.CutterLemmas.{cut_ends, named_spans_are}
use Rattle.yd_skimming.proofs.cutter.Cutter.finish.Goals as goal

pub of_spans-requires : goal.of_spans-requires
of_spans-requires c = named_spans_are c.requires.0 c.args.self c.args.deletes.now c.requires.1 c.note_deletes.new.named.items c.requires.2 c.in_ok-note_deletes.ensures

pub returns-in_ok-bytes-in-Ok : goal.returns-in_ok-bytes-in-Ok
returns-in_ok-bytes-in-Ok c = λ vector update end. cut_ends vector c.args.self c.args.deletes.now update c.note_deletes.new.named.items c.in-Ok.deletes end c.in_ok-note_deletes.ensures
    c.in-Ok.ensures.maximal c.in-Ok.ensures.ids c.in_ok-bytes-in-Ok.bytes.items c.in_ok-bytes-in-Ok.ensures
