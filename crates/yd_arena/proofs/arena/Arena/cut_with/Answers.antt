use Rattle.std.proofs.Common.{◌≡◌, ◌∙◌, ap, arith, length}
use Rattle.yd_scan.specs.declared.stretch.Stretch.{Stretch}
use Rattle.yd_scan.specs.Stretches.{stretch_at}
use Rattle.yd_index.specs.Lines.{entries_of, next_of, Cuts}
use Rattle.yd_index.proofs.RowLemmas.{fills_of}
use Rattle.yd_arena.proofs.ArenaLemmas.{unit_id, index_cut, unit_clock, cut_inside, cut_nexts, arena_cut}
use Rattle.yd_arena.proofs.GrowthLemmas.{run_cut}
use Rattle.yd_arena.proofs.arena.Arena.cut_with.Goals as goal

pub overflow_add-id : goal.overflow_add-id
overflow_add-id g c =
    let e : c.stretch.result ≡ stretch_at c.self.inside.lists.stretches c.args.place = c.stretch.ensures ∙ ap (λ rs. stretch_at rs c.args.place) c.reserve.ensures.stretches in
    omega (
      arith,
      ap (λ (r : Stretch). r.id.clock) e,
      unit_clock c.self.inside.index c.self.inside.lists.stretches c.self.invariant c.args.place c.args.n
          (rw (← c.self.view_is) at c.requires.place) (rw (← c.self.view_is) at c.requires.within),
    )

pub cut_both-requires-clause-inside : goal.cut_both-requires-clause-inside
cut_both-requires-clause-inside g c =
    let e : c.stretch.result ≡ stretch_at c.self.inside.lists.stretches c.args.place = c.stretch.ensures ∙ ap (λ rs. stretch_at rs c.args.place) c.reserve.ensures.stretches in
    rw e (cut_inside c.self.inside.index c.self.inside.lists.stretches c.self.invariant c.args.place c.args.n
    (rw (← c.self.view_is) at c.requires.place) (rw (← c.self.view_is) at c.requires.within) c.requires.before)

pub cut-requires-clause-fits : goal.cut-requires-clause-fits
cut-requires-clause-fits g c =
    rw c.reserve.ensures.stretches (omega (
      arith,
      unit_clock c.self.inside.index c.self.inside.lists.stretches c.self.invariant c.args.place c.args.n
          (rw (← c.self.view_is) at c.requires.place) (rw (← c.self.view_is) at c.requires.within),
    ))

pub invariant_of-self-2 : goal.invariant_of-self-2
invariant_of-self-2 g c =
    let old = c.self.inside.index in
    let runs = c.self.inside.lists.stretches in
    let e : c.stretch.result ≡ stretch_at runs c.args.place = c.stretch.ensures ∙ ap (λ rs. stretch_at rs c.args.place) c.reserve.ensures.stretches in
    let more : c.len-more.result ≡ length runs = c.len-more.ensures ∙ ap length c.reserve.ensures.stretches in
    let done : Cuts old c.cut_both.new.index (unit_id runs c.args.place c.args.n) (length runs) = index_cut old c.cut_both.new.index runs c.args.place c.args.n c.stretch.result c.len-more.result e more c.in_ok-cut_both.ensures.done in
    rw (c.cut.ensures.stretches, c.reserve.ensures.stretches) (arena_cut old runs c.self.invariant c.args.place c.args.n
    (rw (← c.self.view_is) at c.requires.place) (rw (← c.self.view_is) at c.requires.within) c.requires.before c.cut_both.new.index done)

pub returns-clause-done : goal.returns-clause-done
returns-clause-done g c =
    let old = c.self.inside.index in
    let runs = c.self.inside.lists.stretches in
    let e : c.stretch.result ≡ stretch_at runs c.args.place = c.stretch.ensures ∙ ap (λ rs. stretch_at rs c.args.place) c.reserve.ensures.stretches in
    let more : c.len-more.result ≡ length runs = c.len-more.ensures ∙ ap length c.reserve.ensures.stretches in
    let done : Cuts old c.cut_both.new.index (unit_id runs c.args.place c.args.n) (length runs) = index_cut old c.cut_both.new.index runs c.args.place c.args.n c.stretch.result c.len-more.result e more c.in_ok-cut_both.ensures.done in
    rw (← c.self.view_is) (run_cut (record { lines = old; linked = c.self.inside.lists }) (record { lines = c.cut_both.new.index; linked = c.cut.new.self }) c.reserve.new.self c.args.place c.args.n c.cut.result
    c.reserve.ensures.stretches c.reserve.ensures.lists c.cut.ensures.sound (rw (← c.self.view_is) at c.requires.place) (rw (← c.self.view_is) at c.requires.within)
    c.cut.ensures.stretches c.cut.ensures.place c.cut.ensures.lists
    (cut_nexts old runs c.self.invariant c.args.place c.args.n (rw (← c.self.view_is) at c.requires.place) (rw (← c.self.view_is) at c.requires.within) c.requires.before c.cut_both.new.index done))

pub cut_both-requires-clause-fills : goal.cut_both-requires-clause-fills
cut_both-requires-clause-fills g c =
    let k = c.stretch.result.id.client.0 in
    fills_of c.self.inside.lists.stretches k (entries_of c.self.inside.index k) 0 (next_of c.self.inside.index k) (c.self.invariant.holds.fills k)
