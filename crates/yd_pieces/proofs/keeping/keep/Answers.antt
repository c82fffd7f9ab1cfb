use Rattle.std.proofs.Common.{◌≡◌, ◌∙◌, ◌+◌, ◌≤◌, ◌++◌, ap, arith, length, take}
use Rattle.std.proofs.lemmas.List.{length-append, take_all}
use Rattle.yd_pieces.specs.Pieces.{joined}
use Rattle.yd_pieces.proofs.KeepingLemmas.{kept_both, kept_count}
use Rattle.yd_pieces.proofs.keeping.keep.Goals as goal

pub returns-clause-kept : goal.returns-clause-kept
returns-clause-kept g c =
    kept_both (g.P.Test.passes c.args.test.now) (joined c.args.pieces.now.items) c.args.last.now.items _ _
    (c.drop_empty.ensures.same ∙ c.keep_in_each.ensures) c.keep_in.ensures.kept

pub len_before-requires-clause-fits : goal.len_before-requires-clause-fits
len_before-requires-clause-fits g c =
    let fewer = kept_count (g.P.Test.passes c.args.test.now) (joined c.args.pieces.now.items) c.args.last.now.items _ _ (c.drop_empty.ensures.same ∙ c.keep_in_each.ensures) c.keep_in.ensures.kept in
    omega (arith, fewer, c.requires, ap (λ xs. length (joined xs)) c.deref.ensures.value)

pub returns-clause-count : goal.returns-clause-count
returns-clause-count g c =
    let whole : length c.drop_empty.new.pieces.items ≤ c.len.result = omega (arith, c.len.ensures, c.drop_empty.new.pieces.ok.0) in
    let all : c.len_before.result ≡ length (joined c.drop_empty.new.pieces.items) =
    c.len_before.ensures ∙ ap (λ xs. length (joined (take c.len.result xs))) c.deref.ensures.value ∙ ap (λ xs. length (joined xs)) (take_all c.len.result c.drop_empty.new.pieces.items whole) in
    omega (arith, all, c.len-2.ensures, c.keep_in.new.piece.ok.0, length-append (joined c.drop_empty.new.pieces.items) c.keep_in.new.piece.items)

pub returns-clause-fewer : goal.returns-clause-fewer
returns-clause-fewer g c =
    let fewer = kept_count (g.P.Test.passes c.args.test.now) (joined c.args.pieces.now.items) c.args.last.now.items _ _ (c.drop_empty.ensures.same ∙ c.keep_in_each.ensures) c.keep_in.ensures.kept in
    let count : c.len_before.result + c.len-2.result ≡ length (joined c.drop_empty.new.pieces.items ++ c.keep_in.new.piece.items) = returns-clause-count g c in
    omega (arith, fewer, count, length-append (joined c.drop_empty.new.pieces.items) c.keep_in.new.piece.items)

pub overflow_add-result : goal.overflow_add-result
overflow_add-result g c =
    let fewer = kept_count (g.P.Test.passes c.args.test.now) (joined c.args.pieces.now.items) c.args.last.now.items _ _ (c.drop_empty.ensures.same ∙ c.keep_in_each.ensures) c.keep_in.ensures.kept in
    let whole : length c.drop_empty.new.pieces.items ≤ c.len.result = omega (arith, c.len.ensures, c.drop_empty.new.pieces.ok.0) in
    let all : c.len_before.result ≡ length (joined c.drop_empty.new.pieces.items) =
    c.len_before.ensures ∙ ap (λ xs. length (joined (take c.len.result xs))) c.deref.ensures.value ∙ ap (λ xs. length (joined xs)) (take_all c.len.result c.drop_empty.new.pieces.items whole) in
    omega (arith, fewer, all, c.requires, c.len-2.ensures, c.keep_in.new.piece.ok.0)
