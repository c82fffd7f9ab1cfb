use Rattle.std.proofs.Common.{◌≡◌, ◌∙◌, ap, arith, length}
use Rattle.yd_scan.specs.declared.stretch.Stretch.{Stretch}
use Rattle.yd_scan.specs.Stretches.{stretch_at}
use Rattle.yd_index.specs.Lines.{Cuts}
use Rattle.yd_arena.proofs.ArenaLemmas.{unit_id, index_cut, unit_clock, cut_inside, cut_nexts, arena_cut}
use Rattle.yd_arena.proofs.GrowthLemmas.{run_cut}
use Rattle.yd_arena.proofs.arena.Arena.cut.Goals as goal

pub overflow_add-id : goal.overflow_add-id
overflow_add-id c =
    let e : c.stretch.result ≡ stretch_at c.self.inside.lists.stretches c.args.place = c.stretch.ensures ∙ ap (λ rs. stretch_at rs c.args.place) c.reserve.ensures.stretches in
    omega (
      arith,
      ap (λ (r : Stretch). r.id.clock) e,
      unit_clock c.self.inside.index c.self.inside.lists.stretches c.self.invariant c.args.place c.args.n
          (rw (← c.self.view_is) at c.requires.place) (rw (← c.self.view_is) at c.requires.within),
    )

pub cut-requires : goal.cut-requires
cut-requires c =
    let e : c.stretch.result ≡ stretch_at c.self.inside.lists.stretches c.args.place = c.stretch.ensures ∙ ap (λ rs. stretch_at rs c.args.place) c.reserve.ensures.stretches in
    rw e (cut_inside c.self.inside.index c.self.inside.lists.stretches c.self.invariant c.args.place c.args.n
    (rw (← c.self.view_is) at c.requires.place) (rw (← c.self.view_is) at c.requires.within) c.requires.before)

pub cut-requires-2-clause-fits : goal.cut-requires-2-clause-fits
cut-requires-2-clause-fits c =
    rw c.reserve.ensures.stretches (omega (
      arith,
      unit_clock c.self.inside.index c.self.inside.lists.stretches c.self.invariant c.args.place c.args.n
          (rw (← c.self.view_is) at c.requires.place) (rw (← c.self.view_is) at c.requires.within),
    ))

pub invariant_of-self-2 : goal.invariant_of-self-2
invariant_of-self-2 c =
    let old = c.self.inside.index in
    let runs = c.self.inside.lists.stretches in
    let e : c.stretch.result ≡ stretch_at runs c.args.place = c.stretch.ensures ∙ ap (λ rs. stretch_at rs c.args.place) c.reserve.ensures.stretches in
    let more : c.len-more.result ≡ length runs = c.len-more.ensures ∙ ap length c.reserve.ensures.stretches in
    let done : Cuts old c.cut.new.self (unit_id runs c.args.place c.args.n) (length runs) = index_cut old c.cut.new.self runs c.args.place c.args.n c.stretch.result c.len-more.result e more c.in_ok-cut.ensures.done in
    rw (c.cut-2.ensures.stretches, c.reserve.ensures.stretches) (arena_cut old runs c.self.invariant c.args.place c.args.n
    (rw (← c.self.view_is) at c.requires.place) (rw (← c.self.view_is) at c.requires.within) c.requires.before c.cut.new.self done)

pub returns-clause-done : goal.returns-clause-done
returns-clause-done c =
    let old = c.self.inside.index in
    let runs = c.self.inside.lists.stretches in
    let e : c.stretch.result ≡ stretch_at runs c.args.place = c.stretch.ensures ∙ ap (λ rs. stretch_at rs c.args.place) c.reserve.ensures.stretches in
    let more : c.len-more.result ≡ length runs = c.len-more.ensures ∙ ap length c.reserve.ensures.stretches in
    let done : Cuts old c.cut.new.self (unit_id runs c.args.place c.args.n) (length runs) = index_cut old c.cut.new.self runs c.args.place c.args.n c.stretch.result c.len-more.result e more c.in_ok-cut.ensures.done in
    rw (← c.self.view_is) (run_cut (record { lines = old; linked = c.self.inside.lists }) (record { lines = c.cut.new.self; linked = c.cut-2.new.self }) c.reserve.new.self c.args.place c.args.n c.cut-2.result
    c.reserve.ensures.stretches c.reserve.ensures.lists c.cut-2.ensures.sound (rw (← c.self.view_is) at c.requires.place) (rw (← c.self.view_is) at c.requires.within)
    c.cut-2.ensures.stretches c.cut-2.ensures.place c.cut-2.ensures.lists
    (cut_nexts old runs c.self.invariant c.args.place c.args.n (rw (← c.self.view_is) at c.requires.place) (rw (← c.self.view_is) at c.requires.within) c.requires.before c.cut.new.self done))
