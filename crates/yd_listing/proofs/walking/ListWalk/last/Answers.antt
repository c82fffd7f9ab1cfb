use Rattle.std.proofs.Common.{◌≡◌, ◌∷◌, ◌++◌, [], List, Some, arith, sym, subst}
use Rattle.yd_listing.specs.Lending.{Lent, Walk, IsRow, units_of_run, units_left}
use Rattle.yd_listing.proofs.RowLemmas.{row_last, has_last}
use Rattle.yd_listing.proofs.WalkLemmas.{place_told, ends_in}
use Rattle.yd_listing.proofs.walking.ListWalk.last.Goals as goal

pub lent_run-requires-clause-place : goal.lent_run-requires-clause-place
lent_run-requires-clause-place c =
    let i = has_last c.self.inside.store.now c.self.inside.list c.self.invariant.row c.in_ok-ends.ends (subst (IsRow c.self.inside.store.now c.self.inside.list c.self.invariant.row) c.in_ok-ends.was c.self.invariant.is_row) in
    c.self.invariant.lists.within c.self.inside.list c.in_ok-ends.ends.last c.self.invariant.within i

pub lent_run-requires-clause-told : goal.lent_run-requires-clause-told
lent_run-requires-clause-told c =
    let i = has_last c.self.inside.store.now c.self.inside.list c.self.invariant.row c.in_ok-ends.ends (subst (IsRow c.self.inside.store.now c.self.inside.list c.self.invariant.row) c.in_ok-ends.was c.self.invariant.is_row) in
    place_told c.self.inside.store.now c.self.inside.list c.in_ok-ends.ends.last c.self.invariant.lists c.self.invariant.within i c.self.invariant.has_no_gone

pub returns-clause-last : goal.returns-clause-last
returns-clause-last c =
    let last = row_last c.self.inside.store.now c.self.inside.list c.self.invariant.row c.in_ok-ends.ends (subst (IsRow c.self.inside.store.now c.self.inside.list c.self.invariant.row) c.in_ok-ends.was c.self.invariant.is_row) in
    let old = subst (λ row. IsRow c.self.inside.store.now c.self.inside.list row (Some c.in_ok-ends.ends)) last.1 (subst (IsRow c.self.inside.store.now c.self.inside.list c.self.invariant.row) c.in_ok-ends.was c.self.invariant.is_row) in
    subst (λ (w : Walk). (front : List Lent) × (units_left w ≡ front ++ units_of_run c.lent_run.result)) c.self.view_is
    (ends_in c.self.inside.store.now c.self.inside.list (c.self.invariant.lists.distinct c.self.inside.list c.self.invariant.within) last.0 c.in_ok-ends.ends.last c.self.inside.ends (units_of_run c.lent_run.result)
    (subst (IsRow c.self.inside.store.now c.self.inside.list (last.0 ++ c.in_ok-ends.ends.last ∷ [])) (sym c.in_ok-ends.was) old) c.lent_run.ensures.units)

pub returns-clause-some : goal.returns-clause-some
returns-clause-some c =
    let i = has_last c.self.inside.store.now c.self.inside.list c.self.invariant.row c.in_ok-ends.ends (subst (IsRow c.self.inside.store.now c.self.inside.list c.self.invariant.row) c.in_ok-ends.was c.self.invariant.is_row) in
    omega (arith, c.lent_run.ensures.len, c.self.invariant.lists.filled c.self.inside.list c.in_ok-ends.ends.last c.self.invariant.within i)
