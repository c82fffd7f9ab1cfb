use Rattle.std.proofs.Common.{◌≡◌, ◌<◌, ◌≤◌, ◌-◌, min, sym, subst, length, arith}
use Rattle.yd_entries.specs.declared.entry.Entry.{Entry}
use Rattle.yd_entries.specs.Taking.{AreCovered, IsGap}
use Rattle.yd_entries.proofs.EntryLemmas.{gap_last, gap_of_client, gap_before, covered_from}
use Rattle.yd_entries.proofs.gaps.ids_from.Goals as goal

pub returns-then-at-len-clause-new : goal.returns-then-at-len-clause-new
returns-then-at-len-clause-new c =
    gap_last c.args.taken.now c.place-at.result c.args.id c.args.most c.requires.in_order c.requires.each c.place-at.ensures.before c.place-at.ensures.behind
    (omega (arith, c.if-at-len.true, c.len.ensures)) c.place-at.ensures.bound

pub returns-then-next-id-clause-new : goal.returns-then-next-id-clause-new
returns-then-next-id-clause-new c =
    let lt : c.place-at.result < length c.args.taken.now = omega (arith, c.if-at-len.false, c.len.ensures) in
    gap_of_client c.args.taken.now c.place-at.result c.args.id c.args.most c.requires.in_order c.requires.each c.place-at.ensures.before c.place-at.ensures.behind c.get-next.result lt
    (subst (λ (t : Entry). (t.id.client.0 ≡ c.args.id.client.0) → ⊥) c.get-next.ensures c.if-next-id.true)

pub returns-then-id-next-clause-new : goal.returns-then-id-next-clause-new
returns-then-id-next-clause-new c =
    let next = c.get-next.result in
    let lt : c.place-at.result < length c.args.taken.now = omega (arith, c.if-at-len.false, c.len.ensures) in
    let gap = gap_before c.args.taken.now c.place-at.result c.args.id c.args.most c.requires.in_order c.requires.each c.place-at.ensures.before c.place-at.ensures.behind next lt
    (subst (λ (t : Entry). t.id.client.0 ≡ c.args.id.client.0) c.get-next.ensures c.if-next-id.false) (subst (λ (t : Entry). c.args.id.clock < t.id.clock) c.get-next.ensures c.if-id-next.true) in
    subst (λ n. IsGap c.args.taken.now c.place-at.result c.args.id n c.args.most) (sym c.min-len.ensures)
    (subst (λ (t : Entry). IsGap c.args.taken.now c.place-at.result c.args.id (min c.args.most (t.id.clock - c.args.id.clock)) c.args.most) (sym c.get-next.ensures) gap)

pub returns-clause-old : goal.returns-clause-old
returns-clause-old c =
    let next = c.get-next.result in
    let lt : c.place-at.result < length c.args.taken.now = omega (arith, c.if-at-len.false, c.len.ensures) in
    let covered = covered_from c.args.taken.now c.place-at.result c.args.id c.args.most c.requires.in_order c.requires.each c.place-at.ensures.before c.place-at.ensures.behind next lt
    (subst (λ (t : Entry). t.id.client.0 ≡ c.args.id.client.0) c.get-next.ensures c.if-next-id.false) (subst (λ (t : Entry). t.id.clock ≤ c.args.id.clock) c.get-next.ensures c.if-id-next.false) in
    subst (AreCovered c.args.taken.now c.args.id) (sym c.min-len-2.ensures)
    (subst (λ (t : Entry). AreCovered c.args.taken.now c.args.id (min c.args.most (t.len - (c.args.id.clock - t.id.clock)))) (sym c.get-next.ensures) covered)
