use Rattle.std.proofs.Common.{rules, ◌++◌, take, ◌∙◌, arith}
use Rattle.yd_ending.proofs.WritingLemmas.{if_err, more_after_ok, part_of_all, parts_more, same_after_err, same_after_none}
use Rattle.yd_ending.proofs.writing.write_out.Goals as goal

pub returns-in_err-count-clause-part : goal.returns-in_err-count-clause-part
returns-in_err-count-clause-part g c =
    let s = c.loop-rest.invariant in
    if_err c.from_residual.result
    (part_of_all _ _ s.front c.loop-rest.rest.now c.args.bytes.now s.parts (search rules) (same_after_err _ _ _ s.front c.loop-rest.rest.now _ s.takes c.in_err-count.ensures.takes))

pub returns-then-count-eq0-clause-part : goal.returns-then-count-eq0-clause-part
returns-then-count-eq0-clause-part g c =
    let s = c.loop-rest.invariant in
    let rest = c.loop-rest.rest.now in
    part_of_all _ _ s.front rest c.args.bytes.now s.parts (search rules) (same_after_none _ _ _ s.front rest c.in_ok-count.count (search rules) s.takes c.in_ok-count.ensures.takes)

pub loop-rest-preserved : goal.loop-rest-preserved
loop-rest-preserved g c =
    let s = c.loop-rest.invariant in
    let count = c.in_ok-count.count in
    record {
      front = s.front ++ take count c.loop-rest.rest.now;
      parts = rw c.split_at.ensures.back (parts_more c.args.bytes.now s.front c.loop-rest.rest.now count s.parts);
      takes = more_after_ok _ _ _ s.front c.loop-rest.rest.now count s.takes c.in_ok-count.ensures.takes;
      no_fault = c.in_ok-count.ensures.none.1 (omega arith) ∙ s.no_fault;
      calm = λ calm. (c.in_ok-count.ensures.calm (s.calm calm)).0;
    }
