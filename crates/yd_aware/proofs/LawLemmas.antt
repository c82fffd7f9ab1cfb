-- What happens to a table is what happens to its rows.
use Rattle.std.proofs.Common.{◌≡◌, ℕ, Bool, true, false, ◌&&◌, List, [], ◌∷◌, Some, inl, inr, refl, ap, ◌∙◌, arith, tests, nat_eq}
use Rattle.yd_words.specs.Each.{Each}
use Rattle.yd_ids.specs.declared.id.Client.{Client}
use Rattle.yd_sync.specs.Table.{Row, is_of, standing_in, without_states}
use Rattle.yd_sync.specs.TableEvent.{TableEvent, aged, came, dropped, left, table_after, tables_after}
use Rattle.yd_sync.proofs.OwnLemmas.{own_not_old, own_stays}
use Rattle.yd_sync.proofs.PresenceLemmas.{tested}
use Rattle.yd_aware.specs.AwareLaw.{IsOfOthers, after_events}
use Rattle.yd_aware.specs.AwareTable.{AwareTable, after_event}

pub rows-after_events : (events : List TableEvent) (table : AwareTable) → (after_events events table).rows ≡ tables_after table.own events table.rows
rows-after_events [] table = refl
rows-after_events (event ∷ events) table = rows-after_events events (after_event event table)

-- another client's state that is dropped
other_dropped : (client own : ℕ) (rows : List Row) → nat_eq client own ≡ false → standing_in (without_states (is_of client) rows) own ≡ standing_in rows own
other_dropped client own [] other = refl
other_dropped client own (row ∷ rest) other = elim (tested (is_of client row)) [
  | inr e ↦ elim (tested (nat_eq row.0 own)) [ inl here ↦ rw (e, here) | inr there ↦ rw (e, there) (other_dropped client own rest other) ]
  | inl e ↦ elim (tested (nat_eq row.0 own)) [
    | inr there ↦ rw (e, there) (other_dropped client own rest other)
    | inl here ↦ absurd (apart row.0 client own (first (nat_eq row.0 client) _ e) here other)
  ]
]
  where
    first : (t u : Bool) → t && u ≡ true → t ≡ true
    first true u e = refl
    first false u e = e

    apart : (m k n : ℕ) → nat_eq m k ≡ true → nat_eq m n ≡ true → nat_eq k n ≡ false → ⊥
    apart m k n e f g = grind (arith, tests)

one_stays : (own : Client) (event : TableEvent) (rows : List Row) (s : List ℕ) → (standing_in rows own.0).state ≡ Some s → IsOfOthers own event →
    (standing_in (table_after (Some own) event rows) own.0).state ≡ Some s
one_stays own (came now source es) rows s held others = own_stays own now source es rows s held others
one_stays own (aged now) rows s held others = ap (λ x. x.state) (own_not_old own now rows) ∙ held
one_stays own (dropped client) rows s held others = ap (λ x. x.state) (other_dropped client own.0 rows others) ∙ held
one_stays own (left source) rows s held others = absurd others

pub all_stay : (own : Client) (events : List TableEvent) (rows : List Row) (s : List ℕ) → (standing_in rows own.0).state ≡ Some s → Each (IsOfOthers own) events →
    (standing_in (tables_after (Some own) events rows) own.0).state ≡ Some s
all_stay own [] rows s held all = held
all_stay own (event ∷ events) rows s held all = all_stay own events (table_after (Some own) event rows) s (one_stays own event rows s held all.0) all.1
