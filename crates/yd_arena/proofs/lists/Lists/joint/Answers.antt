use Rattle.std.proofs.Common.{◌≡◌, ◌+◌, length, arith}
use Rattle.yd_arena.specs.declared.lists.TheConstants.{MOST}
use Rattle.yd_arena.proofs.JoiningLemmas.{prev_within, run_read, joint_found}
use Rattle.yd_arena.proofs.lists.Lists.joint.Goals as goal

pub index-requires : goal.index-requires
index-requires c =
    let found = c.in_ok-chain_of.ensures.found in
    omega (
      arith,
      c.self.inside.stretches.ok.0,
      prev_within c.self.inside.chains c.self.inside.stretches.items c.self.inside.marks.items c.self.inside.counter MOST c.in_ok-chain_of.field-0 c.in_ok-last.last c.in_ok-place.place c.self.invariant
          found.0 found.1 (c.in_ok-place.ensures.value c.in_ok-chain_of.field-0 found.0 found.1),
    )

pub returns-then-continues : goal.returns-then-continues
returns-then-continues c =
    let found = c.in_ok-chain_of.ensures.found in
    let prev = c.in_ok-place.ensures.value c.in_ok-chain_of.field-0 found.0 found.1 in
    let low = prev_within c.self.inside.chains c.self.inside.stretches.items c.self.inside.marks.items c.self.inside.counter MOST c.in_ok-chain_of.field-0 c.in_ok-last.last c.in_ok-place.place c.self.invariant found.0 found.1 prev in
    let is_last : length c.self.inside.stretches.items ≡ c.in_ok-last.last + 1 = omega (arith, c.in_ok-last.ensures, c.len.ensures, c.self.inside.stretches.ok.0) in
    rw (← c.self.view_is) (joint_found c.self.inside.chains c.self.inside.stretches.items _ c.in_ok-chain_of.field-0 c.in_ok-last.last c.in_ok-place.place c.index.result.now c.index-2.result.now
    found.0 found.1 prev is_last (run_read c.self.inside.stretches.items c.in_ok-place.place c.index.result.now low c.index.ensures)
    (run_read c.self.inside.stretches.items c.in_ok-last.last c.index-2.result.now (omega (arith, is_last)) c.index-2.ensures) (c.continues.ensures c.if-continues.true))
