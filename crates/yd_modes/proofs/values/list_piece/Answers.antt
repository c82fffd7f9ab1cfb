use Rattle.std.proofs.Common.{◌+◌, ◌≤◌, sym, subst}
use Rattle.std.proofs.lemmas.Result.{on_ok_weaker}
use Rattle.yd_ops.specs.Value.{len_of}
use Rattle.yd_ops.specs.View.{content_value}
use Rattle.yd_ops.specs.declared.contents.Content.TheVariants.{Str}
use Rattle.yd_modes.specs.Listed.{Lists}
use Rattle.yd_modes.proofs.TakingLemmas.{view_is}
use Rattle.yd_modes.proofs.values.list_piece.Goals as goal

pub list_units-requires-clause-within : goal.list_units-requires-clause-within
list_units-requires-clause-within c = subst (λ v. c.args.piece.now.offset + c.args.piece.now.len ≤ len_of (content_value v)) c.in-Str.is c.requires.within.units

pub returns-in-Str : goal.returns-in-Str
returns-in-Str c = on_ok_weaker c.list_units.result (λ lists show plain.
    subst (Lists show c.args.listed.now c.list_units.new.listed) (sym (view_is c.args.piece.now (Str c.in-Str.units) c.requires.live c.in-Str.is)) (lists show)) c.list_units.ensures
