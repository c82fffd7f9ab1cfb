use Rattle.std.proofs.Common.{sym, subst, ◌++◌, ◌∷◌, []}
use Rattle.yd_names.specs.Names.{AreCoded}
use Rattle.yd_names.proofs.CodedLemmas.{coded_beside}
use Rattle.yd_names.proofs.names.push_code.Goals as goal

pub returns-clause-pushed : goal.returns-clause-pushed
returns-clause-pushed c = subst (λ codes. AreCoded (c.args.names.now ++ c.args.name.now ∷ []) codes c.args.crowd.now.items) (sym c.in_ok-push.ensures.pushed)
    (coded_beside c.args.names.now c.args.name.now c.args.codes.now c.args.crowd.now.items c.code_of_list-code.result c.requires c.code_of_list-code.ensures)
