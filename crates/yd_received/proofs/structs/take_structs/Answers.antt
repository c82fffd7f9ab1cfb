use Rattle.std.proofs.Common.{◌+◌, arith}
use Rattle.std.specs.Vec.Iter.{into_iter_len}
use Rattle.yd_entries.proofs.BackedLemmas.{backed_none, backed_grown}
use Rattle.yd_received.proofs.LoweringLemmas.{keeps_none}
use Rattle.yd_received.proofs.RestLemmas.{all_left, next_within, next_there, rest_left}
use Rattle.yd_received.proofs.SequenceLemmas.{taken_none, struct_next, struct_more, clock_more, struct_keeps}
use Rattle.yd_received.proofs.structs.take_structs.Goals as goal

pub loop-entry-init : goal.loop-entry-init
loop-entry-init c =
    let gives = c.into_iter-entry-iterator.ensures.into_iter_gives in (
      0,
      all_left _ _ _ gives.0 (omega (arith, gives.1, c.args.structs.ok.0)),
      taken_none c.args.runs.now.items c.args.taken.now c.requires.taken,
      backed_none _ c.args.before.now c.args.taken.now,
      omega arith,
      keeps_none c.args.before.now _ _,
    )

pub take_struct-requires-clause-entry : goal.take_struct-requires-clause-entry
take_struct-requires-clause-entry c =
    let (n, rest, taken, backed, clock, keeps) = c.loop-entry.invariant in
    let step = c.in-Some.ensures.steps.0 in
    struct_next c.args.first.client c.args.first.clock c.args.structs.items n c.loop-entry.clock c.in-Some.entry c.requires.client c.requires.structs
    (next_within _ n c.in-Some.entry _ _ _ rest step) (next_there _ n c.in-Some.entry _ _ _ rest step) clock

pub returns-in_err-more-clause-backed : goal.returns-in_err-more-clause-backed
returns-in_err-more-clause-backed c =
    let (n, rest, taken, backed, clock, keeps) = c.loop-entry.invariant in
    backed_grown c.args.runs.now.items c.loop-entry.runs.items c.args.before.now c.loop-entry.before c.take_struct.new.before c.args.taken.now c.loop-entry.taken c.take_struct.new.taken
    taken.grows backed c.in_err-more.ensures.backed

pub overflow_add-clock : goal.overflow_add-clock
overflow_add-clock c =
    let (n, rest, taken, backed, clock, keeps) = c.loop-entry.invariant in
    let step = c.in-Some.ensures.steps.0 in
    let next = struct_next c.args.first.client c.args.first.clock c.args.structs.items n c.loop-entry.clock c.in-Some.entry c.requires.client c.requires.structs
    (next_within _ n c.in-Some.entry _ _ _ rest step) (next_there _ n c.in-Some.entry _ _ _ rest step) clock in
    omega (arith, next.end, c.len-len.ensures)

pub loop-entry-preserved : goal.loop-entry-preserved
loop-entry-preserved c =
    let (n, rest, taken, backed, clock, keeps) = c.loop-entry.invariant in
    let step = c.in-Some.ensures.steps.0 in
    let within = next_within _ n c.in-Some.entry _ _ _ rest step in
    let there = next_there _ n c.in-Some.entry _ _ _ rest step in (
      n + 1,
      rest_left _ n c.in-Some.entry _ _ _ rest step (into_iter_len c.next.new.self) (omega (arith, c.in-Some.ensures.steps.1)),
      struct_more c.args.first.client c.args.first.clock c.args.runs.now.items c.loop-entry.runs.items _ c.args.taken.now c.loop-entry.taken _ c.loop-entry.brings c.in_ok-more.more
          c.args.structs.items n c.loop-entry.clock c.in-Some.entry within there clock taken c.in_ok-more.ensures.taken c.in_ok-more.ensures.brings c.in_ok-more.ensures.unchanged
          c.in_ok-more.ensures.grows,
      backed_grown c.args.runs.now.items c.loop-entry.runs.items c.args.before.now c.loop-entry.before c.take_struct.new.before c.args.taken.now c.loop-entry.taken
          c.take_struct.new.taken taken.grows backed c.in_ok-more.ensures.backed,
      clock_more c.args.first.clock c.loop-entry.clock c.len-len.result c.args.structs.items n c.in-Some.entry within there clock c.len-len.ensures,
      struct_keeps c.args.runs.now.items c.loop-entry.runs.items c.args.taken.now c.loop-entry.taken c.loop-entry.brings c.args.before.now c.loop-entry.before
          c.take_struct.new.before c.requires.taken c.args.first.client c.args.first.clock c.args.structs.items n c.loop-entry.clock c.in-Some.entry within there clock taken keeps
          c.in_ok-more.ensures.lowers,
    )
