use Rattle.std.proofs.Common.{◌+◌, ◌≤◌, refl, sym, subst}
use Rattle.std.proofs.lemmas.Result.{on_ok_weaker}
use Rattle.yd_any.specs.JsonView.{json_tree}
use Rattle.yd_ops.specs.Value.{len_of}
use Rattle.yd_ops.specs.Operation.{mark}
use Rattle.yd_ops.specs.View.{content_value}
use Rattle.yd_ops.specs.declared.contents.Content.TheVariants.{Str, Format}
use Rattle.yd_modes.specs.Roles.{Delta}
use Rattle.yd_modes.specs.Gathering.{Gathers}
use Rattle.yd_modes.proofs.TakingLemmas.{view_is, one_view, is_other}
use Rattle.yd_modes.proofs.taking.take_piece.Goals as goal

pub take_text-requires-clause-within : goal.take_text-requires-clause-within
take_text-requires-clause-within c = subst (λ v. c.args.piece.now.offset + c.args.piece.now.len ≤ len_of (content_value v)) c.in-Str.is c.requires.within.units

pub returns-in-Str : goal.returns-in-Str
returns-in-Str c = on_ok_weaker c.take_text.result (λ gathers show plain.
    subst (λ us. Gathers Delta show c.args.gathering.now c.take_text.new.gathering us) (sym (view_is c.args.piece.now (Str c.in-Str.units) c.requires.live c.in-Str.is))
    (gathers Delta show)) c.take_text.ensures

pub returns-in-Format : goal.returns-in-Format
returns-in-Format c = on_ok_weaker c.take_mark.result (λ gathers show plain.
    let within = subst (λ v. c.args.piece.now.offset + c.args.piece.now.len ≤ len_of (content_value v)) c.in-Format.is c.requires.within.units in
    subst (λ us. Gathers Delta show c.args.gathering.now c.take_mark.new.self us)
    (sym (one_view c.args.piece.now (Format c.in-Format.key c.in-Format.value) (mark c.in-Format.key (json_tree c.in-Format.value)) c.requires.live c.in-Format.is refl c.requires.some within))
    (gathers show)) c.take_mark.ensures

pub take_others-requires-clause-other : goal.take_others-requires-clause-other
take_others-requires-clause-other c = is_other c.args.piece.now.content.now c.in_default.not-Str c.in_default.not-Format c.requires.plain
