use Rattle.std.proofs.Common.{◌≡◌, ◌∷◌, ◌++◌, Some, arith, sym, subst}
use Rattle.yd_listing.specs.Lending.{Walk, IsRow, units_of_run, units_left}
use Rattle.yd_listing.proofs.RowLemmas.{row_first, has_first}
use Rattle.yd_listing.proofs.WalkLemmas.{place_told, goes_on}
use Rattle.yd_listing.proofs.walking.ListWalk.next.Goals as goal

pub lent_run-run-requires-clause-place : goal.lent_run-run-requires-clause-place
lent_run-run-requires-clause-place c =
    let i = has_first c.self.inside.store.now c.self.inside.list c.self.invariant.row c.in_ok-ends.ends (subst (IsRow c.self.inside.store.now c.self.inside.list c.self.invariant.row) c.in_ok-ends.was c.self.invariant.is_row) in
    c.self.invariant.lists.within c.self.inside.list c.in_ok-ends.ends.first c.self.invariant.within i

pub lent_run-run-requires-clause-told : goal.lent_run-run-requires-clause-told
lent_run-run-requires-clause-told c =
    let i = has_first c.self.inside.store.now c.self.inside.list c.self.invariant.row c.in_ok-ends.ends (subst (IsRow c.self.inside.store.now c.self.inside.list c.self.invariant.row) c.in_ok-ends.was c.self.invariant.is_row) in
    place_told c.self.inside.store.now c.self.inside.list c.in_ok-ends.ends.first c.self.invariant.lists c.self.invariant.within i c.self.invariant.has_no_gone

pub without_first-self-inside-requires-clause-place : goal.without_first-self-inside-requires-clause-place
without_first-self-inside-requires-clause-place c = has_first c.self.inside.store.now c.self.inside.list c.self.invariant.row c.in_ok-ends.ends (subst (IsRow c.self.inside.store.now c.self.inside.list c.self.invariant.row) c.in_ok-ends.was c.self.invariant.is_row)

pub invariant_of-self : goal.invariant_of-self
invariant_of-self c =
    let first = row_first c.self.inside.store.now c.self.inside.list c.self.invariant.row c.in_ok-ends.ends (subst (IsRow c.self.inside.store.now c.self.inside.list c.self.invariant.row) c.in_ok-ends.was c.self.invariant.is_row) in record {
      within = c.self.invariant.within;
      row = first.0;
      is_row = c.without_first-self-inside.ensures first.0 (subst (λ row. IsRow c.self.inside.store.now c.self.inside.list row (Some c.in_ok-ends.ends)) first.1 (subst (IsRow c.self.inside.store.now c.self.inside.list c.self.invariant.row) c.in_ok-ends.was c.self.invariant.is_row));
      has_no_gone = c.self.invariant.has_no_gone;
      lists = c.self.invariant.lists;
      told = c.self.invariant.told;
    }

pub returns-clause-lends : goal.returns-clause-lends
returns-clause-lends c =
    let first = row_first c.self.inside.store.now c.self.inside.list c.self.invariant.row c.in_ok-ends.ends (subst (IsRow c.self.inside.store.now c.self.inside.list c.self.invariant.row) c.in_ok-ends.was c.self.invariant.is_row) in
    let old = subst (λ row. IsRow c.self.inside.store.now c.self.inside.list row (Some c.in_ok-ends.ends)) first.1 (subst (IsRow c.self.inside.store.now c.self.inside.list c.self.invariant.row) c.in_ok-ends.was c.self.invariant.is_row) in
    subst (λ (w : Walk). units_left w ≡ units_of_run c.lent_run-run.result
    ++ units_left (record { store = c.self.inside.store.now; list = c.self.inside.list; ends = c.without_first-self-inside.result })) c.self.view_is
    (goes_on c.self.inside.store.now c.self.inside.list (c.self.invariant.lists.distinct c.self.inside.list c.self.invariant.within) first.0 c.in_ok-ends.ends.first c.self.inside.ends c.without_first-self-inside.result (units_of_run c.lent_run-run.result)
    (subst (IsRow c.self.inside.store.now c.self.inside.list (c.in_ok-ends.ends.first ∷ first.0)) (sym c.in_ok-ends.was) old) (c.without_first-self-inside.ensures first.0 old) c.lent_run-run.ensures.units)

pub returns-clause-some : goal.returns-clause-some
returns-clause-some c =
    let i = has_first c.self.inside.store.now c.self.inside.list c.self.invariant.row c.in_ok-ends.ends (subst (IsRow c.self.inside.store.now c.self.inside.list c.self.invariant.row) c.in_ok-ends.was c.self.invariant.is_row) in
    omega (arith, c.lent_run-run.ensures.len, c.self.invariant.lists.filled c.self.inside.list c.in_ok-ends.ends.first c.self.invariant.within i)
