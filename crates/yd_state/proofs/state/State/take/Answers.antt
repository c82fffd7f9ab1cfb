use Rattle.std.proofs.Common.{◌≡◌, ◌||◌, inl, inr, ap, sym, ◌∙◌, subst}
use Rattle.std.specs.Prelude.{◌↔◌, ◌⊎◌, IsTrue}
use Rattle.yd_ids.specs.declared.id.Id.{Id}
use Rattle.yd_ids.specs.Set.{HasId}
use Rattle.yd_ops.specs.View.{update_value}
use Rattle.yd_state.specs.Brings.{BringsUnknown}
use Rattle.yd_held.specs.Held.{HeldValue}
use Rattle.yd_held.specs.Turn.{TellsOrder}
use Rattle.yd_state.specs.declared.sets.Sets.{Sets}
use Rattle.yd_state.specs.Grown.{GrownValue, seen_of, IsWhole}
use Rattle.yd_received.specs.Received.{taken_of, LowersOne}
use Rattle.yd_ops.specs.Operation.{operations_of}
use Rattle.yd_state.specs.Growing.{LosesNone, Grows}
use Rattle.yd_state.specs.State.{received_in, IsSound}
use Rattle.yd_state.specs.Settling.{CanSettle}
use Rattle.yd_state.proofs.BringsLemmas.{either_tells}
use Rattle.yd_state.proofs.DocumentLemmas.{seen_sound}
use Rattle.yd_state.proofs.GrowingLemmas.{grows_then, loses_then}
use Rattle.yd_state.proofs.JoinedLemmas.{kept_same, joined_whole, joined_grows, joined_loses}
use Rattle.yd_state.proofs.PlacingLawLemmas.{held_lists}
use Rattle.yd_state.proofs.TakeLemmas.{grown_of, can_settle, settled_whole, still_sound, still_seen}
use Rattle.yd_state.proofs.state.State.take.Goals.{then-brings, else-brings}
use Rattle.yd_state.proofs.state.State.take.Goals as goal

pub settle-requires : goal.settle-requires
settle-requires c =
    let anew = c.in_ok-taken.taken.anew in
    let k = c.take.new.self in
    subst (λ told. CanSettle anew k told c.deref-2.result.now c.self.inside.kept) (sym c.deref.ensures.value)
    (subst (λ order. CanSettle anew k c.in_ok-taken.taken.told.items order c.self.inside.kept) (sym c.deref-2.ensures.value)
    (can_settle anew c.self.inside.held k c.self.invariant.holds c.in_ok-taken.ensures.holds
    c.in_ok-taken.taken.told.items c.in_ok-taken.taken.order.items c.in_ok-taken.ensures.order c.self.inside.kept c.self.invariant.keeps))

pub keep-requires : goal.keep-requires
keep-requires c = subst (λ (h : HeldValue). TellsOrder c.in_ok-taken.taken.anew c.in_ok-taken.taken.told.items c.in_ok-taken.taken.order.items h c.take.new.self)
    (sym c.in_ok-taken.ensures.back) c.in_ok-taken.ensures.order

pub invariant_of-self-in-Ok : goal.invariant_of-self-in-Ok
invariant_of-self-in-Ok c = joined_whole (grown_of c.take.new.self c.settle.new.kept c.settle.new.sets)
    (settled_whole c.self.inside.held c.self.inside.kept c.self.inside.sets c.self.invariant (update_value c.args.update) c.requires
    c.take.new.self c.in_ok-taken.ensures.holds c.in_ok-taken.ensures.received c.in_ok-more.more c.in_ok-more.ensures
    c.in_ok-taken.taken.anew c.in_ok-taken.taken.told.items c.in_ok-taken.taken.order.items c.in_ok-taken.ensures.order
    c.settle.new.kept c.settle.new.sets c.in-Ok.ensures.named c.in-Ok.ensures.settled)
    c.join.new.held (kept_same c.take.new.self c.keep.new.self c.join.new.held c.keep.ensures c.join.ensures.held) c.join.new.kept c.join.ensures.kept c.received-in-Ok.ensures.holds
    (record { lists = c.store.ensures.lists; told = c.store.ensures.told })

pub returns-after-brings-clause-sound : goal.returns-after-brings-clause-sound
returns-after-brings-clause-sound c = seen_sound (grown_of c.join.new.held c.join.new.kept c.settle.new.sets)
    (joined_whole (grown_of c.take.new.self c.settle.new.kept c.settle.new.sets)
    (settled_whole c.self.inside.held c.self.inside.kept c.self.inside.sets c.self.invariant (update_value c.args.update) c.requires
    c.take.new.self c.in_ok-taken.ensures.holds c.in_ok-taken.ensures.received c.in_ok-more.more c.in_ok-more.ensures
    c.in_ok-taken.taken.anew c.in_ok-taken.taken.told.items c.in_ok-taken.taken.order.items c.in_ok-taken.ensures.order
    c.settle.new.kept c.settle.new.sets c.in-Ok.ensures.named c.in-Ok.ensures.settled)
    c.join.new.held (kept_same c.take.new.self c.keep.new.self c.join.new.held c.keep.ensures c.join.ensures.held) c.join.new.kept c.join.ensures.kept c.received-in-Ok.ensures.holds
    (record { lists = c.store.ensures.lists; told = c.store.ensures.told }))

pub returns-after-brings-clause-brings : goal.returns-after-brings-clause-brings
returns-after-brings-clause-brings c =
    let update = update_value c.args.update in
    let one = c.in_ok-taken.taken.brings in
    let more = c.brings_deletion-deletes.result in
    let either : c.if-brings.result ≡ one || more = elim c.if-brings.branch [
      | then-brings w ↦ w.result-is ∙ w.if-brings.true ∙ sym (ap (λ b. b || more) w.if-brings.true)
      | else-brings w ↦ w.result-is ∙ sym (ap (λ b. b || more) w.if-brings.false)
    ] in
    let deletes : IsTrue more ↔ (((x : Id) → HasId c.in_ok-more.more x → HasId c.self.inside.sets.named x ⊎ HasId c.self.inside.sets.deletes x) → ⊥) =
    subst (λ named. IsTrue more ↔ (((x : Id) → HasId c.in_ok-more.more x → HasId named x ⊎ HasId c.self.inside.sets.deletes x) → ⊥)) c.ids.ensures
    (subst (λ deleted. IsTrue more ↔ (((x : Id) → HasId c.in_ok-more.more x → HasId c.ids.result.now x ⊎ HasId deleted x) → ⊥)) c.ids-2.ensures
    c.brings_deletion-deletes.ensures) in
    subst (λ result. IsTrue result ↔ BringsUnknown update (received_in c.args.self.now) c.args.self.now.deletes) (sym either)
    (subst (λ s. IsTrue (one || more) ↔ BringsUnknown update (received_in s) s.deletes) c.self.view_is
    (either_tells one more c.in_ok-taken.ensures.brings
    (subst (λ named. IsTrue more ↔ (((x : Id) → HasId named x → HasId c.self.inside.sets.named x ⊎ HasId c.self.inside.sets.deletes x) → ⊥)) c.in_ok-more.ensures deletes)))

pub invariant_of-self-in-Err-1 : goal.invariant_of-self-in-Err-1
invariant_of-self-in-Err-1 c = subst (λ (sets : Sets). IsWhole (grown_of c.put_back.new.self c.settle.new.kept sets)) (sym c.in-Err.ensures.sets)
    (subst (λ (h : HeldValue). IsWhole (grown_of h c.settle.new.kept c.self.inside.sets)) (sym (c.put_back.ensures ∙ c.in_ok-taken.ensures.back))
    (still_sound (grown_of c.self.inside.held c.self.inside.kept c.self.inside.sets)
    c.self.invariant c.settle.new.kept (held_lists c.self.inside.kept c.settle.new.kept c.in-Err.ensures.unchanged) (record { lists = c.store-in-Err.ensures.lists; told = c.store-in-Err.ensures.told })))

pub returns-in-Err-clause-sound : goal.returns-in-Err-clause-sound
returns-in-Err-clause-sound c = seen_sound (grown_of c.put_back.new.self c.settle.new.kept c.settle.new.sets)
    (subst (λ (sets : Sets). IsWhole (grown_of c.put_back.new.self c.settle.new.kept sets)) (sym c.in-Err.ensures.sets)
    (subst (λ (h : HeldValue). IsWhole (grown_of h c.settle.new.kept c.self.inside.sets)) (sym (c.put_back.ensures ∙ c.in_ok-taken.ensures.back))
    (still_sound (grown_of c.self.inside.held c.self.inside.kept c.self.inside.sets)
    c.self.invariant c.settle.new.kept (held_lists c.self.inside.kept c.settle.new.kept c.in-Err.ensures.unchanged) (record { lists = c.store-in-Err.ensures.lists; told = c.store-in-Err.ensures.told }))))

pub returns-in-Err-clause-unchanged : goal.returns-in-Err-clause-unchanged
returns-in-Err-clause-unchanged c = ap (λ (sets : Sets). seen_of (grown_of c.put_back.new.self c.settle.new.kept sets)) c.in-Err.ensures.sets
    ∙ ap (λ (h : HeldValue). seen_of (grown_of h c.settle.new.kept c.self.inside.sets)) (c.put_back.ensures ∙ c.in_ok-taken.ensures.back)
    ∙ still_seen (grown_of c.self.inside.held c.self.inside.kept c.self.inside.sets)
    c.self.invariant c.settle.new.kept (held_lists c.self.inside.kept c.settle.new.kept c.in-Err.ensures.unchanged)
    ∙ c.self.view_is

pub returns-in_err-more-clause-sound : goal.returns-in_err-more-clause-sound
returns-in_err-more-clause-sound c = subst IsSound c.self.view_is (seen_sound _ c.self.invariant)

pub returns-in_err-taken-clause-sound : goal.returns-in_err-taken-clause-sound
returns-in_err-taken-clause-sound c = seen_sound (grown_of c.take.new.self c.self.inside.kept c.self.inside.sets) (subst (λ (h : HeldValue). IsWhole (grown_of h c.self.inside.kept c.self.inside.sets)) (sym c.in_err-taken.ensures.unchanged) c.self.invariant)

pub returns-after-brings-clause-grows : goal.returns-after-brings-clause-grows
returns-after-brings-clause-grows c =
    let old : GrownValue = grown_of c.self.inside.held c.self.inside.kept c.self.inside.sets in
    let new : GrownValue = grown_of c.take.new.self c.settle.new.kept c.settle.new.sets in
    let whole : IsWhole new = settled_whole c.self.inside.held c.self.inside.kept c.self.inside.sets c.self.invariant (update_value c.args.update) c.requires
    c.take.new.self c.in_ok-taken.ensures.holds c.in_ok-taken.ensures.received c.in_ok-more.more c.in_ok-more.ensures
    c.in_ok-taken.taken.anew c.in_ok-taken.taken.told.items c.in_ok-taken.taken.order.items c.in_ok-taken.ensures.order
    c.settle.new.kept c.settle.new.sets c.in-Ok.ensures.named c.in-Ok.ensures.settled in
    subst (λ s. Grows s (seen_of (grown_of c.join.new.held c.join.new.kept c.settle.new.sets))) c.self.view_is
    (joined_grows new whole c.join.new.held (kept_same c.take.new.self c.keep.new.self c.join.new.held c.keep.ensures c.join.ensures.held) c.join.new.kept c.join.ensures.kept (seen_of old)
    (grows_then old new c.self.invariant whole c.in_ok-taken.taken.anew (λ anew. (c.in_ok-taken.ensures.anew anew).1) c.in-Ok.ensures.settled.grows))

pub returns-after-brings-clause-loses : goal.returns-after-brings-clause-loses
returns-after-brings-clause-loses c =
    let old : GrownValue = grown_of c.self.inside.held c.self.inside.kept c.self.inside.sets in
    let new : GrownValue = grown_of c.take.new.self c.settle.new.kept c.settle.new.sets in
    let whole : IsWhole new = settled_whole c.self.inside.held c.self.inside.kept c.self.inside.sets c.self.invariant (update_value c.args.update) c.requires
    c.take.new.self c.in_ok-taken.ensures.holds c.in_ok-taken.ensures.received c.in_ok-more.more c.in_ok-more.ensures
    c.in_ok-taken.taken.anew c.in_ok-taken.taken.told.items c.in_ok-taken.taken.order.items c.in_ok-taken.ensures.order
    c.settle.new.kept c.settle.new.sets c.in-Ok.ensures.named c.in-Ok.ensures.settled in
    let less : Type 0 = LowersOne (operations_of (update_value c.args.update)) (taken_of c.self.inside.held.received) in
    subst (λ s. LosesNone s (seen_of (grown_of c.join.new.held c.join.new.kept c.settle.new.sets))
    ⊎ LowersOne (operations_of (update_value c.args.update)) (received_in s).operations) c.self.view_is
    (elim (loses_then old new c.self.invariant less c.in_ok-taken.taken.anew c.in_ok-taken.taken.told.items c.in_ok-taken.taken.order.items c.in_ok-taken.ensures.order
    (λ anew. (c.in_ok-taken.ensures.anew anew).0)) [
      | inl none ↦ inl (joined_loses new whole c.join.new.held (kept_same c.take.new.self c.keep.new.self c.join.new.held c.keep.ensures c.join.ensures.held) c.join.new.kept c.join.ensures.kept (seen_of old) none)
      | inr lowers ↦ inr lowers
    ])
