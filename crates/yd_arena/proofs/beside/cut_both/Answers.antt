use Rattle.yd_arena.proofs.BesideLemmas.{cut_begins, uncut_stays}
use Rattle.yd_arena.proofs.beside.cut_both.Goals as goal

pub uncut-requires : goal.uncut-requires
uncut-requires g c = cut_begins c.args.index.now c.cut.new.self c.args.id c.args.more c.requires.inside c.requires.fills c.in_ok-cut.ensures.done

pub returns-in-Err-clause-unchanged : goal.returns-in-Err-clause-unchanged
returns-in-Err-clause-unchanged g c = uncut_stays c.args.index.now c.cut.new.self c.args.id c.args.more c.requires.inside c.requires.fills c.in_ok-cut.ensures.done c.uncut.new.self c.uncut.ensures.done
