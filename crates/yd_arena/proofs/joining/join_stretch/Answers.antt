use Rattle.std.proofs.Common.{◌∙◌, ◌++◌, ap, arith}
use Rattle.std.specs.Option.{option_to_list}
use Rattle.yd_arena.proofs.JoiningLemmas.{joined_is}
use Rattle.yd_arena.proofs.joining.join_stretch.Goals as goal

pub returns-clause-items : goal.returns-clause-items
returns-clause-items c =
    joined_is c.args.stretches.now.items c.pop.new.self.items c.in-Some.next c.index_mut.result.now c.args.place
    (c.pop.ensures.items ∙ ap (λ o. c.pop.new.self.items ++ option_to_list o) c.in-Some.is) (omega (arith, c.requires.inside, c.pop.ensures.len, c.in-Some.ensures.cases)) c.index_mut.ensures.value c.requires.continues
