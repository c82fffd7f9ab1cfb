use Rattle.std.proofs.Common.{◌≤◌, ◌∙◌, subst, sym}
use Rattle.std.specs.Prelude.{◌↔◌, ◌⊎◌}
use Rattle.yd_ids.specs.declared.id.Id.{Id}
use Rattle.yd_ids.specs.Set.{HasId}
use Rattle.yd_ids.specs.Vector.{clock_of}
use Rattle.yd_state.specs.Settling.{AreLeft, CanSettle, DeletesAnew, Settles, known_of}
use Rattle.yd_state.proofs.settling.settle.Goals.{then-anew+in_ok-settle_anew, else-anew+in_ok-settle_on}
use Rattle.yd_state.proofs.settling.settle.Goals as goal

pub settle_anew-requires : goal.settle_anew-requires
settle_anew-requires c = subst (λ b. CanSettle b c.args.held.now c.args.told.now c.args.order.now c.args.kept.now) c.if-anew.true c.requires

pub settle_on-requires : goal.settle_on-requires
settle_on-requires c =
    let can = subst (λ b. CanSettle b c.args.held.now c.args.told.now c.args.order.now c.args.kept.now) c.if-anew.false c.requires in
    record { placed = can.0; less = can.1 }

pub returns-clause-settled : goal.returns-clause-settled
returns-clause-settled c =
    let k = c.args.held.now in
    let sets = c.args.sets.now in
    let left = c.in_ok-waiting.waiting in
    let waits : AreLeft k (known_of c.args.anew sets) c.args.more left = subst (λ known. AreLeft k known c.args.more left) c.known.ensures
    (subst (λ v. (x : Id) → HasId left x ↔ ((HasId c.known.result.now x ⊎ HasId c.args.more x) × (clock_of v x.client.0 ≤ x.clock))) c.vector.ensures.vector c.in_ok-waiting.ensures) in
    elim c.if-anew.branch [
      | then-anew+in_ok-settle_anew w ↦ subst (λ now. Settles c.args.anew k sets c.args.more c.args.kept.now c.if-anew.kept left now.deletes) (sym w.sets-is)
          (subst (λ it. Settles c.args.anew k sets c.args.more c.args.kept.now it left w.settle_anew.new.deletes) (sym w.kept-is)
          (subst (λ b. Settles b k sets c.args.more c.args.kept.now w.settle_anew.new.kept left w.settle_anew.new.deletes) (sym w.if-anew.true) (record {
            keeps = w.in_ok-settle_anew.ensures.all;
            store = w.in_ok-settle_anew.ensures.store;
            waits = subst (λ b. AreLeft k (known_of b sets) c.args.more left) w.if-anew.true waits;
            deletes = subst (λ named. DeletesAnew k named c.args.more w.settle_anew.new.kept w.settle_anew.new.deletes) (w.ids.ensures ∙ c.grown.ensures.unchanged) w.in_ok-settle_anew.ensures.deletes;
            marks = w.in_ok-settle_anew.ensures.marks;
            grows = tt;
          })))
      | else-anew+in_ok-settle_on w ↦ subst (λ now. Settles c.args.anew k sets c.args.more c.args.kept.now c.if-anew.kept left now.deletes) (sym w.sets-is)
          (subst (λ it. Settles c.args.anew k sets c.args.more c.args.kept.now it left w.settle_on.new.deletes) (sym w.kept-is)
          (subst (λ b. Settles b k sets c.args.more c.args.kept.now w.settle_on.new.kept left w.settle_on.new.deletes) (sym w.if-anew.false) (record {
            keeps = w.in_ok-settle_on.ensures.all;
            store = w.in_ok-settle_on.ensures.store;
            waits = subst (λ b. AreLeft k (known_of b sets) c.args.more left) w.if-anew.false waits;
            deletes = w.in_ok-settle_on.ensures.deletes;
            marks = w.in_ok-settle_on.ensures.marks;
            grows = w.in_ok-settle_on.ensures.grows;
          })))
    ]
