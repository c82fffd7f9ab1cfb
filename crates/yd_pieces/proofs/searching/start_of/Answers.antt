use Rattle.std.proofs.Common.{◌∙◌, length, sym, ap, arith}
use Rattle.std.proofs.lemmas.List.{take_all}
use Rattle.yd_pieces.specs.Pieces.{joined}
use Rattle.yd_pieces.proofs.searching.start_of.Goals as goal

pub returns-then-end-pieces : goal.returns-then-end-pieces
returns-then-end-pieces g c = c.requires.all ∙ ap (λ ps. length (joined ps)) (sym (take_all c.args.end c.args.pieces.now (omega arith)))
