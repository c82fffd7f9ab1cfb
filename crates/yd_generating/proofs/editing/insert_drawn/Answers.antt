use Rattle.std.proofs.Common.{refl}
use Rattle.yd_generating.proofs.DrawnLemmas.{first_done, first_refused}
use Rattle.yd_generator.specs.Generated.{inserts}
use Rattle.yd_generating.proofs.editing.insert_drawn.Goals as goal

pub returns-in-Ok-clause-done : goal.returns-in-Ok-clause-done
returns-in-Ok-clause-done c = first_done c.args.replica.now c.args.draws c.args.list.now c.requires.list c.args.len c.requires.len (inserts c.args.len c.args.draws.x) refl
    c.requires.test c.place-index.result c.place-index.ensures c.insert_letter.new.replica c.in-Ok.ensures.done

pub returns-in-Err-clause-refused : goal.returns-in-Err-clause-refused
returns-in-Err-clause-refused c = first_refused c.args.replica.now c.args.draws c.args.list.now c.requires.list c.args.len c.requires.len (inserts c.args.len c.args.draws.x) refl
    c.requires.test c.place-index.result c.place-index.ensures c.in-Err.fault c.in-Err.ensures.refused
