use Rattle.yd_store.proofs.LoweredLemmas.{lowers_store}
use Rattle.yd_store.proofs.store.Store.lower_parted.Goals as goal

pub returns-clause-maps : goal.returns-clause-maps
returns-clause-maps c =
    lowers_store c.args.self.now c.lower_runs.new.self c.args.span c.args.level c.is_sound.ensures.told c.is_sound.ensures.lists c.requires.front c.requires.back
    c.lower_runs.ensures.lowered c.lower_runs.ensures.placed c.lower_runs.ensures.marks
