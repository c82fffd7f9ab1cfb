use Rattle.std.proofs.Common.{◌∙◌, ap, sym, subst, rules, of_calls, All}
use Rattle.std.proofs.lemmas.Fn.{filter_same}
use Rattle.yd_pieces.specs.Pieces.{joined, IsFilled}
use Rattle.yd_pieces.proofs.KeepingLemmas.{has_some, joined_filled, all_filled}
use Rattle.yd_pieces.proofs.keeping.drop_empty.Goals as goal

pub returns-clause-same : goal.returns-clause-same
returns-clause-same g c =
    let kept = filter_same _ has_some _ (λ x b f' k. search (rules, of_calls)) _ _ c.retain.ensures.filtered in
    ap joined kept ∙ joined_filled c.args.pieces.now.items

pub returns-clause-filled : goal.returns-clause-filled
returns-clause-filled g c =
    let kept = filter_same _ has_some _ (λ x b f' k. search (rules, of_calls)) _ _ c.retain.ensures.filtered in
    subst (All IsFilled) (sym kept) (all_filled c.args.pieces.now.items)
