use Rattle.std.proofs.Common.{◌∙◌, ◌+◌, ap, arith, length, length-set, refl, ℕ, Vec, Global}
use Rattle.yd_scan.proofs.LoopLemmas.{begins, in_place, low, ends, in_range, lower, stopped, moved_on, stayed_on}
use Rattle.yd_scan.proofs.scanning.scan.Goals as goal
use Rattle.yd_scan.proofs.scanning.scan.Goals.{in-Moves, in-Stays}

pub loop-at-init : goal.loop-at-init
loop-at-init g c = record {
  sound = c.next_place-at.ensures.sound;
  started = refl;
  kept = refl;
  scanning = begins _ c.args.stretches.now c.args.chains.now c.args.chain c.args.after c.args.new.now c.next_place-at.ensures.sound c.requires.chain c.requires.stands
      c.args.counter.now c.args.marks.now.items c.next_place-at.result c.requires.low c.requires.marks c.next_place-at.ensures.value;
}

pub verdict_at-requires : goal.verdict_at-requires
verdict_at-requires g c =
    in_range _ c.args.stretches.now c.args.chains.now c.args.chain c.args.after c.args.new.now c.next_place-at.ensures.sound c.requires.chain c.requires.stands
    c.args.counter.now c.loop-at.marks.items c.loop-at.counter c.loop-at.moved c.loop-at.place c.loop-at.at c.loop-at.invariant.scanning c.in-Some.i c.in-Some.is

pub returns-in-Stops-clause-place : goal.returns-in-Stops-clause-place
returns-in-Stops-clause-place g c =
    stopped _ c.args.stretches.now c.args.chains.now c.args.chain c.args.after c.args.new.now c.next_place-at.ensures.sound c.requires.chain c.requires.stands
    c.args.counter.now c.loop-at.marks.items c.loop-at.counter c.loop-at.moved c.loop-at.place c.loop-at.at c.loop-at.invariant.scanning c.in-Some.i c.in-Some.is (rw c.deref.ensures.value at c.in-Stops.ensures)

pub returns-in-Stops-clause-counter : goal.returns-in-Stops-clause-counter
returns-in-Stops-clause-counter g c =
    low _ c.args.stretches.now c.args.chains.now c.args.chain c.args.after c.args.new.now c.next_place-at.ensures.sound c.requires.chain c.requires.stands
    c.args.counter.now c.loop-at.marks.items c.loop-at.counter c.loop-at.moved c.loop-at.place c.loop-at.at c.loop-at.invariant.scanning

pub mark-requires-clause-place : goal.mark-requires-clause-place
mark-requires-clause-place g c =
    let at = in_range _ c.args.stretches.now c.args.chains.now c.args.chain c.args.after c.args.new.now c.next_place-at.ensures.sound c.requires.chain c.requires.stands
    c.args.counter.now c.loop-at.marks.items c.loop-at.counter c.loop-at.moved c.loop-at.place c.loop-at.at c.loop-at.invariant.scanning c.in-Some.i c.in-Some.is in
    omega (arith, at, c.loop-at.invariant.scanning.marks_len)

pub mark-requires-clause-room : goal.mark-requires-clause-room
mark-requires-clause-room g c =
    let at = lower _ c.args.stretches.now c.args.chains.now c.args.chain c.args.after c.args.new.now c.next_place-at.ensures.sound c.requires.chain c.requires.stands
    c.args.counter.now c.loop-at.marks.items c.loop-at.counter c.loop-at.moved c.loop-at.place c.loop-at.at c.loop-at.invariant.scanning c.in-Some.i c.in-Some.is in
    omega (arith, at, c.requires.room)

pub mark-requires-in-Stays-clause-place : goal.mark-requires-in-Stays-clause-place
mark-requires-in-Stays-clause-place g c =
    let at = in_range _ c.args.stretches.now c.args.chains.now c.args.chain c.args.after c.args.new.now c.next_place-at.ensures.sound c.requires.chain c.requires.stands
    c.args.counter.now c.loop-at.marks.items c.loop-at.counter c.loop-at.moved c.loop-at.place c.loop-at.at c.loop-at.invariant.scanning c.in-Some.i c.in-Some.is in
    omega (arith, at, c.loop-at.invariant.scanning.marks_len)

pub mark-requires-in-Stays-clause-room : goal.mark-requires-in-Stays-clause-room
mark-requires-in-Stays-clause-room g c =
    let at = lower _ c.args.stretches.now c.args.chains.now c.args.chain c.args.after c.args.new.now c.next_place-at.ensures.sound c.requires.chain c.requires.stands
    c.args.counter.now c.loop-at.marks.items c.loop-at.counter c.loop-at.moved c.loop-at.place c.loop-at.at c.loop-at.invariant.scanning c.in-Some.i c.in-Some.is in
    omega (arith, at, c.requires.room)

pub next-at-requires : goal.next-at-requires
next-at-requires g c =
    let at = in_range _ c.args.stretches.now c.args.chains.now c.args.chain c.args.after c.args.new.now c.next_place-at.ensures.sound c.requires.chain c.requires.stands
    c.args.counter.now c.loop-at.marks.items c.loop-at.counter c.loop-at.moved c.loop-at.place c.loop-at.at c.loop-at.invariant.scanning c.in-Some.i c.in-Some.is in
    omega (arith, at, c.requires.stretches)

pub loop-at-smaller : goal.loop-at-smaller
loop-at-smaller g c =
    let at = lower _ c.args.stretches.now c.args.chains.now c.args.chain c.args.after c.args.new.now c.next_place-at.ensures.sound c.requires.chain c.requires.stands
    c.args.counter.now c.loop-at.marks.items c.loop-at.counter c.loop-at.moved c.loop-at.place c.loop-at.at c.loop-at.invariant.scanning c.in-Some.i c.in-Some.is in
    elim c.match-verdict_at.branch [
      | in-Moves w ↦ omega (arith, at, w.counter-is, w.mark.ensures.counter)
      | in-Stays w ↦ omega (arith, at, w.counter-is, w.mark-in-Stays.ensures.counter)
    ]

pub loop-at-preserved : goal.loop-at-preserved
loop-at-preserved g c = record {
  sound = c.next_place-at.ensures.sound;
  started = refl;
  kept = elim c.match-verdict_at.branch [
    | in-Moves w ↦ ap (λ (v : Vec ℕ Global). length v.items) w.marks-is ∙ ap length w.mark.ensures.marks ∙ length-set c.loop-at.marks.items c.in-Some.i (c.loop-at.counter + 1) ∙ c.loop-at.invariant.kept
    | in-Stays w ↦ ap (λ (v : Vec ℕ Global). length v.items) w.marks-is ∙ ap length w.mark-in-Stays.ensures.marks ∙ length-set c.loop-at.marks.items c.in-Some.i (c.loop-at.counter + 1) ∙ c.loop-at.invariant.kept
  ];
  scanning = elim c.match-verdict_at.branch [
    | in-Moves w ↦ moved_on _ c.args.stretches.now c.args.chains.now c.args.chain c.args.after c.args.new.now c.next_place-at.ensures.sound c.requires.chain c.requires.stands
        c.args.counter.now c.loop-at.marks.items c.loop-at.counter c.loop-at.moved c.loop-at.place c.loop-at.at c.loop-at.invariant.scanning c.in-Some.i c.in-Some.is
        c.match-verdict_at.marks.items c.match-verdict_at.counter c.match-verdict_at.moved c.match-verdict_at.place c.next-at.result
        (rw c.deref.ensures.value at w.in-Moves.ensures) c.next-at.ensures.value (ap (λ (v : Vec ℕ Global). v.items) w.marks-is ∙ w.mark.ensures.marks)
        (w.counter-is ∙ w.mark.ensures.counter) (w.moved-is ∙ w.mark.ensures.counter) w.place-is
    | in-Stays w ↦ stayed_on _ c.args.stretches.now c.args.chains.now c.args.chain c.args.after c.args.new.now c.next_place-at.ensures.sound c.requires.chain c.requires.stands
        c.args.counter.now c.loop-at.marks.items c.loop-at.counter c.loop-at.moved c.loop-at.place c.loop-at.at c.loop-at.invariant.scanning c.in-Some.i c.in-Some.is
        c.match-verdict_at.marks.items c.match-verdict_at.counter c.match-verdict_at.moved c.match-verdict_at.place c.next-at.result
        (rw c.deref.ensures.value at w.in-Stays.ensures) c.next-at.ensures.value (ap (λ (v : Vec ℕ Global). v.items) w.marks-is ∙ w.mark-in-Stays.ensures.marks)
        (w.counter-is ∙ w.mark-in-Stays.ensures.counter) w.moved-is w.place-is
  ];
}

pub returns-clause-place : goal.returns-clause-place
returns-clause-place g c =
    ends _ c.args.stretches.now c.args.chains.now c.args.chain c.args.after c.args.new.now c.next_place-at.ensures.sound c.requires.chain c.requires.stands
    c.args.counter.now c.loop-at.marks.items c.loop-at.counter c.loop-at.moved c.loop-at.place c.loop-at.at c.loop-at.invariant.scanning c.in_default.is

pub returns-clause-counter : goal.returns-clause-counter
returns-clause-counter g c =
    low _ c.args.stretches.now c.args.chains.now c.args.chain c.args.after c.args.new.now c.next_place-at.ensures.sound c.requires.chain c.requires.stands
    c.args.counter.now c.loop-at.marks.items c.loop-at.counter c.loop-at.moved c.loop-at.place c.loop-at.at c.loop-at.invariant.scanning

pub returns-in-Stops-clause-within : goal.returns-in-Stops-clause-within
returns-in-Stops-clause-within g c =
    in_place _ c.args.stretches.now c.args.chains.now c.args.chain c.args.after c.args.new.now c.next_place-at.ensures.sound c.requires.chain c.requires.stands
    c.args.counter.now c.loop-at.marks.items c.loop-at.counter c.loop-at.moved c.loop-at.place c.loop-at.at c.loop-at.invariant.scanning

pub returns-clause-within : goal.returns-clause-within
returns-clause-within g c =
    in_place _ c.args.stretches.now c.args.chains.now c.args.chain c.args.after c.args.new.now c.next_place-at.ensures.sound c.requires.chain c.requires.stands
    c.args.counter.now c.loop-at.marks.items c.loop-at.counter c.loop-at.moved c.loop-at.place c.loop-at.at c.loop-at.invariant.scanning
