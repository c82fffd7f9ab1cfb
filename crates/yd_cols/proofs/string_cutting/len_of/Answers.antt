use Rattle.std.proofs.Common.{◌≡◌, length, subst, arith}
use Rattle.std.proofs.lemmas.List.{nil_from_length}
use Rattle.std.specs.Char.Escape.{encode_utf16}
use Rattle.yd_cols.proofs.CuttingLemmas.{CutSoFar, cut-between, cut-done, cut-half, cut-more, cut-short}
use Rattle.yd_cols.proofs.UnitLemmas.{unit_count}
use Rattle.yd_cols.proofs.string_cutting.len_of.Goals as goal

pub returns-then-left-eq0-clause-cut : goal.returns-then-left-eq0-clause-cut
returns-then-left-eq0-clause-cut c = cut-done c.args.text.now c.args.units c.loop-c.left c.loop-c.len _ c.loop-c.invariant c.if-left-eq0.true

pub returns-then-left-eq0-clause-between : goal.returns-then-left-eq0-clause-between
returns-then-left-eq0-clause-between c = cut-between c.args.text.now c.args.units c.loop-c.left c.loop-c.len _ c.loop-c.invariant

pub returns-then-count-left-clause-refused : goal.returns-then-count-left-clause-refused
returns-then-count-left-clause-refused c =
    let count : c.len_utf16-count.result ≡ length (encode_utf16 c.in-Some.c) = unit_count c.in-Some.c c.len_utf16-count.result c.len_utf16-count.ensures.bmp c.len_utf16-count.ensures.surrogate_pair in
    cut-half c.args.text.now c.args.units c.loop-c.left c.loop-c.len _ _ c.in-Some.c c.loop-c.invariant c.in-Some.ensures.steps.0 (omega arith) (omega arith)

pub loop-c-preserved : goal.loop-c-preserved
loop-c-preserved c =
    let count = unit_count c.in-Some.c c.len_utf16-count.result c.len_utf16-count.ensures.bmp c.len_utf16-count.ensures.surrogate_pair in
    cut-more c.args.text.now c.args.units c.loop-c.left c.loop-c.len _ _ c.in-Some.c _ _ c.loop-c.invariant c.in-Some.ensures.steps.0 count c.len_utf8-len.ensures.len (omega arith)

pub returns-then-left-gt0-clause-refused : goal.returns-then-left-gt0-clause-refused
returns-then-left-gt0-clause-refused c =
    let at_end = subst (CutSoFar c.args.text.now c.args.units c.loop-c.left c.loop-c.len) (nil_from_length _ c.in-None.ensures.steps.0.0) c.loop-c.invariant in
    cut-short c.args.text.now c.args.units c.loop-c.left c.loop-c.len at_end (omega arith)

pub returns-clause-cut : goal.returns-clause-cut
returns-clause-cut c = cut-done c.args.text.now c.args.units c.loop-c.left c.loop-c.len _ c.loop-c.invariant (omega arith)
