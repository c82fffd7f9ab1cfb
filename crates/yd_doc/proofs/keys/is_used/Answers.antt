use Rattle.std.proofs.Common.{◌≡◌, ap, ◌∙◌, sym, subst}
use Rattle.std.specs.Prelude.{IfSome}
use Rattle.yd_meaning.specs.Names.{same_parent}
use Rattle.yd_meaning.specs.ListNames.{same_parent_itself}
use Rattle.yd_state.specs.Lent.{units_left}
use Rattle.yd_doc.specs.Keys.{is_used}
use Rattle.yd_doc.proofs.UsedLemmas.{used_then}
use Rattle.yd_doc.proofs.keys.is_used.Goals as goal

pub returns : goal.returns
returns c = λ d tells.
    let own = c.requires.own in
    let p = c.args.parent.now in
    subst (λ z. IfSome z (λ name. c.is_some.result ≡ is_used d p name)) (sym own.there)
    (c.is_some.ensures ∙ used_then d p own.list c.last.result (units_left c.of_lent.result) (ap (λ q. same_parent q p) own.own ∙ same_parent_itself p)
    (c.of_lent.ensures ∙ c.list_at.ensures d tells own.list own.there) c.last.ensures.none c.last.ensures.last c.last.ensures.one c.last.ensures.within)
