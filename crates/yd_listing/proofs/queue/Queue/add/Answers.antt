use Rattle.std.proofs.Common.{◌≡◌, ◌∙◌, ◌∷◌, ◌++◌, [], ap, sym}
use Rattle.yd_listing.proofs.QueueLemmas.{pushed_queue, pushed_there}
use Rattle.yd_listing.proofs.queue.Queue.add.Goals as goal

pub invariant_of-self-in-Continue-branch-3 : goal.invariant_of-self-in-Continue-branch-3
invariant_of-self-in-Continue-branch-3 c = pushed_queue c.self.inside.lists.items c.push.new.self.items c.self.inside.seen c.insert.new.self c.args.number c.self.invariant
    (sym c.if-is_new.true ∙ c.in_ok-is_new.ensures.added) c.in_ok-is_new.ensures.updates.0 new
  where
    new : c.push.new.self.items ≡ c.self.inside.lists.items ++ c.args.number ∷ []
    new = c.in_ok-push.ensures.items ∙ ap (λ ls. ls ++ c.args.number ∷ []) c.reserve.ensures.items

pub returns-in_ok-push-clause-there : goal.returns-in_ok-push-clause-there
returns-in_ok-push-clause-there c = pushed_there c.reserve.new.self.items c.push.new.self.items c.args.number c.in_ok-push.ensures.items
