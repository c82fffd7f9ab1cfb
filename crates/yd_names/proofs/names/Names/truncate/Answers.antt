use Rattle.std.proofs.Common.{sym, take, subst}
use Rattle.yd_names.specs.Names.{AreCoded}
use Rattle.yd_names.proofs.CodedLemmas.{coded_front}
use Rattle.yd_names.proofs.names.Names.truncate.Goals as goal

pub invariant_of-self : goal.invariant_of-self
invariant_of-self c = subst (λ names. AreCoded names c.truncate-2.new.self c.keep_below.new.crowd.items) (sym c.truncate.ensures.items)
    (subst (λ codes. AreCoded (take c.args.len c.self.inside.names.items) codes c.keep_below.new.crowd.items) (sym c.truncate-2.ensures)
    (subst (λ crowd. AreCoded (take c.args.len c.self.inside.names.items) (take c.args.len c.self.inside.codes) crowd) (sym c.keep_below.ensures)
    (coded_front c.self.inside.names.items c.self.inside.codes c.self.inside.crowd.items c.args.len c.self.invariant)))
