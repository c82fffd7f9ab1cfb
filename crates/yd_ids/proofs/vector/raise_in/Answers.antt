use Rattle.std.proofs.Common.{ℕ, max, Result, Ok, Err, OnErr, subst, sym, ap, ◌∙◌}
use Rattle.yd_ids.specs.declared.id.Client.{Client}
use Rattle.yd_ids.specs.Vector.{IsVector, RaisesOnly}
use Rattle.yd_ids.proofs.VectorLemmas.{HasPlace, place_of, clock_missing, raised_only, raised_vector, put_only, put_vector}
use Rattle.yd_ids.proofs.vector.raise_in.Goals as goal

pub returns-then-is_at-clause-raised : goal.returns-then-is_at-clause-raised
returns-then-is_at-clause-raised c =
    raised_only c.args.entries.now.items c.place-at.result c.index.result.now (c.args.client, c.max.result) c.args.clock c.requires.vector
    (rw c.deref-2.ensures.value at c.if-is_at.ensures.inside) (rw c.deref-2.ensures.value at (c.if-is_at.ensures.found c.index.result.now))
    (c.max.ensures ∙ ap (λ (z : Client × ℕ). max z.1 c.args.clock) c.index.ensures)

pub returns-then-is_at-clause-kept : goal.returns-then-is_at-clause-kept
returns-then-is_at-clause-kept c =
    raised_vector c.args.entries.now.items c.place-at.result c.index.result.now (c.args.client, c.max.result) c.args.clock c.requires.vector c.requires.is_clock
    (rw c.deref-2.ensures.value at c.if-is_at.ensures.inside) (rw c.deref-2.ensures.value at (c.if-is_at.ensures.found c.index.result.now))
    (c.max.ensures ∙ ap (λ (z : Client × ℕ). max z.1 c.args.clock) c.index.ensures)

on_err : {T E P : Type 0} (result : Result T E) → P → OnErr result P
on_err (Ok x) p = tt
on_err (Err e) p = p

pub returns-in_err-insert-clause-only_new : goal.returns-in_err-insert-clause-only_new
returns-in_err-insert-clause-only_new c =
    let at = place_of c.args.entries.now.items _ _ c.place-at.result c.args.client.0 c.requires.vector c.deref.ensures.value c.deref-2.ensures.value c.place-at.ensures.before c.place-at.ensures.behind c.if-is_at.ensures.other in
    on_err c.from_residual.result (sym (clock_missing c.args.entries.now.items c.place-at.result c.args.client.0 at), c.if-clock-gt0.true)

-- the client has no entry, and this is its place
at_place : (c : goal.In_ok-insert) → HasPlace c.args.entries.now.items c.place-at.result c.args.client.0
at_place c =
    place_of c.args.entries.now.items _ _ c.place-at.result c.args.client.0 c.requires.vector c.deref.ensures.value c.deref-2.ensures.value c.place-at.ensures.before c.place-at.ensures.behind c.if-is_at.ensures.other

pub returns-in_ok-insert-clause-raised : goal.returns-in_ok-insert-clause-raised
returns-in_ok-insert-clause-raised c =
    subst (λ new. RaisesOnly c.args.entries.now.items new c.args.client.0 c.args.clock) (sym c.in_ok-insert.ensures.items)
    (put_only c.args.entries.now.items c.place-at.result (c.args.client, c.args.clock) (at_place c))

pub returns-in_ok-insert-clause-kept : goal.returns-in_ok-insert-clause-kept
returns-in_ok-insert-clause-kept c =
    subst IsVector (sym c.in_ok-insert.ensures.items)
    (put_vector c.args.entries.now.items c.place-at.result (c.args.client, c.args.clock) c.requires.vector (at_place c) c.requires.is_client c.if-clock-gt0.true c.requires.is_clock)
