use Rattle.std.proofs.Common.{◌≡◌, true, Some, refl, sym, subst, arith}
use Rattle.yd_entries.specs.Entries.{covers}
use Rattle.yd_entries.proofs.EntryLemmas.{covers_in}
use Rattle.yd_store.specs.Halves.{IsFreed}
use Rattle.yd_kept.proofs.PartedLemmas.{known_held}
use Rattle.yd_state.proofs.ReadyingLemmas.{entry_is_taken, unit_known, half_tells, cuts_both, freeing_none, freeing_more}
use Rattle.yd_state.proofs.less.ready_halves.Goals as goal

pub loop-n-init : goal.loop-n-init
loop-n-init c = freeing_none c.args.held.now c.args.entry c.args.less.now.items c.args.kept.now

pub overflow_add-half : goal.overflow_add-half
overflow_add-half c = let taken = entry_is_taken c.args.held.now c.received.ensures.holds c.args.entry c.args.kept.now.store c.requires.entry in omega (arith, taken.end)

pub free_half-requires : goal.free_half-requires
free_half-requires c = known_held c.args.kept.now c.loop-n.kept _ c.loop-n.invariant.cuts.keeps
    (unit_known c.args.held.now c.received.ensures.holds c.args.entry c.args.kept.now.store c.requires.entry c.requires.full c.loop-n.n (omega arith))

pub returns-in_err-torn-clause-cuts : goal.returns-in_err-torn-clause-cuts
returns-in_err-torn-clause-cuts c = cuts_both c.args.kept.now c.loop-n.kept c.free_half.new.self c.loop-n.invariant.cuts
    (record { keeps = c.free_half.ensures.kept; names = c.free_half.ensures.names; count = c.free_half.ensures.units.count })

pub returns-in_err-push-clause-cuts : goal.returns-in_err-push-clause-cuts
returns-in_err-push-clause-cuts c = cuts_both c.args.kept.now c.loop-n.kept c.free_half.new.self c.loop-n.invariant.cuts
    (record { keeps = c.free_half.ensures.kept; names = c.free_half.ensures.names; count = c.free_half.ensures.units.count })

pub loop-n-preserved : goal.loop-n-preserved
loop-n-preserved c =
    let t = c.args.entry in
    let torn = c.in_ok-torn.torn in
    let freed = c.in_ok-torn.ensures.freed in
    freeing_more c.args.held.now c.received.ensures.holds t c.args.less.now.items c.loop-n.less.items c.push.new.self.items c.args.kept.now c.loop-n.kept c.free_half.new.self c.loop-n.n c.loop-n.invariant
    (record { keeps = c.free_half.ensures.kept; names = c.free_half.ensures.names; count = c.free_half.ensures.units.count })
    torn freed.0 (subst (λ h. IsFreed c.free_half.new.self.store (Some h) (Some torn)) (sym freed.0) freed)
    (half_tells c.args.held.now c.received.ensures.holds t c.args.kept.now.store c.requires.entry c.requires.full torn
    (subst (λ h. covers t h ≡ true) (sym freed.0) (covers_in t _ refl (omega arith) (omega arith))))
    c.in_ok-push.ensures.items
