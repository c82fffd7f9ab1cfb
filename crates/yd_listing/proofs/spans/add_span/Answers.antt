use Rattle.yd_listing.proofs.AddingLemmas.{pushed_adds, pushed_all}
use Rattle.yd_listing.proofs.spans.add_span.Goals as goal

pub returns-in_ok-push-clause-adds : goal.returns-in_ok-push-clause-adds
returns-in_ok-push-clause-adds c = pushed_adds c.args.spans.now.items c.push.new.self.items c.args.span c.requires c.in_ok-push.ensures.items

pub returns-in_ok-push-clause-all : goal.returns-in_ok-push-clause-all
returns-in_ok-push-clause-all c = pushed_all c.args.spans.now.items c.push.new.self.items c.args.span c.in_ok-push.ensures.items
