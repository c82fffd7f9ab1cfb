use Rattle.std.proofs.Common.{◌≡◌, arith, length, sym}
use Rattle.std.proofs.lemmas.Bool.{eqb-true}
use Rattle.yd_pieces.proofs.DrainLemmas.{joined_drained, drained_whole, drained_within}
use Rattle.yd_pieces.proofs.PieceLemmas.{read_back}
use Rattle.yd_pieces.proofs.draining.drain_at.Goals as goal

pub returns-then-is_empty-clause-within : goal.returns-then-is_empty-clause-within
returns-then-is_empty-clause-within g c = drained_within c.args.pieces.now.items c.args.i c.args.at c.drain_in-count.result c.index_mut.result.now c.requires.bound c.index_mut.ensures.value c.drain_in-count.ensures.within

pub returns-then-is_empty-clause-done : goal.returns-then-is_empty-clause-done
returns-then-is_empty-clause-done g c =
    let none : length c.index.result.now.items ≡ 0 = omega (arith, c.index.result.now.ok.0, eqb-true _ _ (sym c.if-is_empty.ensures)) in
    rw c.remove.ensures.items
    (drained_whole c.args.pieces.now.items c.args.i c.args.at c.drain_in-count.result c.index_mut.result.now c.drain_in-count.new.piece c.requires.bound c.index_mut.ensures.value c.drain_in-count.ensures.within c.drain_in-count.ensures.done
    (read_back c.args.pieces.now.items c.args.i c.drain_in-count.new.piece c.index.result.now c.requires.bound c.index.ensures none))

pub returns-else-is_empty-clause-within : goal.returns-else-is_empty-clause-within
returns-else-is_empty-clause-within g c = drained_within c.args.pieces.now.items c.args.i c.args.at c.drain_in-count.result c.index_mut.result.now c.requires.bound c.index_mut.ensures.value c.drain_in-count.ensures.within

pub returns-else-is_empty-clause-done : goal.returns-else-is_empty-clause-done
returns-else-is_empty-clause-done g c =
    joined_drained c.args.pieces.now.items c.args.i c.args.at c.drain_in-count.result c.index_mut.result.now c.drain_in-count.new.piece c.requires.bound c.index_mut.ensures.value c.drain_in-count.ensures.within c.drain_in-count.ensures.done
