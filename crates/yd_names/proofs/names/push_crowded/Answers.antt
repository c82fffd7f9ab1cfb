use Rattle.std.proofs.Common.{sym, subst, ◌++◌, ◌∷◌, []}
use Rattle.std.proofs.lemmas.Cmp.{tied_itself}
use Rattle.yd_names.specs.Names.{AreCoded}
use Rattle.yd_names.specs.Order.{list_total}
use Rattle.yd_names.proofs.ItemsLemmas.{on_success}
use Rattle.yd_names.proofs.CodedLemmas.{coded_joined}
use Rattle.yd_names.proofs.names.push_crowded.Goals as goal

pub returns-clause-pushed : goal.returns-clause-pushed
returns-clause-pushed c = subst (λ codes. AreCoded (c.args.names.now ++ c.args.name.now ∷ []) codes c.join_crowd.new.crowd.items) (sym c.in_ok-push.ensures.pushed)
    (coded_joined c.args.names.now c.args.name.now c.args.codes.now c.args.crowd.now.items c.join_crowd.new.crowd.items 4294967295 c.requires
    (on_success c.join_crowd.result c.if-is_err.ensures.negation c.join_crowd.ensures.joined c.args.name.now (tied_itself list_total c.args.name.now)))
