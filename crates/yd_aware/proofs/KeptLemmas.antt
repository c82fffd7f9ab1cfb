-- What a table tells are entries, whatever comes.
use Rattle.std.proofs.Common.{◌≡◌, ◌<◌, ℕ, suc, ◌-◌, ◌^◌, Bool, true, false, List, [], ◌∷◌, Option, Some, None, is_some, inl, inr, sym, subst, arith, tests, nat_eq, nat_lt}
use Rattle.std.specs.Prelude.{IfOk, IfSome, OnErr, OnOk, Result, Ok, Err}
use Rattle.yd_words.specs.Each.{Each}
use Rattle.yd_words.proofs.EachLemmas.{each_append}
use Rattle.yd_ids.specs.declared.id.Client.{Client}
use Rattle.yd_ids.specs.Id.{IsClient}
use Rattle.yd_sync.specs.declared.entry.AwareEntry.{AwareEntry}
use Rattle.yd_sync.specs.Entry.{IsEntry, IsState}
use Rattle.yd_sync.specs.Table.{Row, after_entries, after_entry, after_local, ended_of, ends_own, is_newer_in, is_taken, own_entry, raised, row_of, seated, standing_in, states_of, taken_of, where_so, without_states}
use Rattle.yd_sync.proofs.PresenceLemmas.{tested}
use Rattle.yd_sync.proofs.RowLemmas.{after_entries_rows, emptied_rows, seated_rows}
use Rattle.yd_aware.specs.AwareTable.{IsRow, IsTable, after_renewal}

-- ---- rows

seated_told : (row : Row) (rows : List Row) → IsRow row → Each IsRow rows → Each IsRow (seated row rows)
seated_told row [] is all = (is, tt)
seated_told row (first ∷ rest) is all = elim (tested (nat_lt row.0 first.0)) [
  | inl less ↦ rw less (is, all)
  | inr more ↦ elim (tested (nat_eq row.0 first.0)) [
    | inl same ↦ rw (more, same) (is, all.1)
    | inr other ↦ rw (more, other) (all.0, seated_told row rest is all.1)
  ]
]

raised_told : (client clock : ℕ) (rows : List Row) → clock < 2 ^ 53 → Each IsRow rows → Each IsRow (raised client clock rows)
raised_told client clock [] fits all = tt
raised_told client clock (row ∷ rest) fits all = elim (tested (nat_eq row.0 client)) [
  | inl same ↦ rw same (record { client = all.0.client; clock = fits; state = all.0.state }, all.1)
  | inr other ↦ rw other (all.0, raised_told client clock rest fits all.1)
]

emptied_told : (test : Row → Bool) (rows : List Row) → Each IsRow rows → Each IsRow (without_states test rows)
emptied_told test [] all = tt
emptied_told test (row ∷ rest) all = elim (tested (test row)) [
  | inl e ↦ rw e (record { client = all.0.client; clock = all.0.clock; state = tt }, emptied_told test rest all.1)
  | inr e ↦ rw e (all.0, emptied_told test rest all.1)
]

above : (clock : ℕ) → nat_lt clock (2 ^ 53 - 1) ≡ true → suc clock < 2 ^ 53
above clock e = grind (arith, tests)

entry_told : (own : Option Client) (now source : ℕ) (e : AwareEntry) (rows : List Row) → IsEntry e → Each IsRow rows → Each IsRow (after_entry own now source e rows)
entry_told own now source e rows is all = elim (tested (is_newer_in rows e)) [
  | inr old ↦ rw old all
  | inl new ↦ elim (tested (ends_own own rows e)) [
    | inr other ↦ rw (new, other) (seated_told (row_of now source e) rows (record { client = is.client; clock = is.clock; state = is.state }) all)
    | inl ends ↦ elim (tested (nat_lt e.clock (2 ^ 53 - 1))) [
      | inl less ↦ rw (new, ends, less) (raised_told e.client.0 (suc e.clock) rows (above e.clock less) all)
      | inr full ↦ rw (new, ends, full) all
    ]
  ]
]

entries_told : (own : Option Client) (now source : ℕ) (es : List AwareEntry) (rows : List Row) → Each IsEntry es → Each IsRow rows →
    Each IsRow (after_entries own now source es rows)
entries_told own now source [] rows are all = all
entries_told own now source (e ∷ es) rows are all = entries_told own now source es (after_entry own now source e rows) are.1 (entry_told own now source e rows are.0 all)

-- ---- tables

pub entries_kept : (own : Option Client) (now source : ℕ) (es : List AwareEntry) (rows : List Row) → Each IsEntry es → IsTable rows →
    IsTable (after_entries own now source es rows)
entries_kept own now source es rows are table =
    record { ascend = after_entries_rows own now source es rows table.ascend; told = entries_told own now source es rows are table.told }

pub seated_kept : (row : Row) (rows : List Row) → IsRow row → IsTable rows → IsTable (seated row rows)
seated_kept row rows is table = record { ascend = seated_rows row rows table.ascend; told = seated_told row rows is table.told }

pub emptied_kept : (test : Row → Bool) (rows : List Row) → IsTable rows → IsTable (without_states test rows)
emptied_kept test rows table = record { ascend = emptied_rows test rows table.ascend; told = emptied_told test rows table.told }

-- ---- what is answered

where_told : (t : Bool) (e : AwareEntry) → IsEntry e → Each IsEntry (where_so t e)
where_told true e is = (is, tt)
where_told false e is = tt

pub taken_told : (own : Option Client) (now source : ℕ) (es : List AwareEntry) (rows : List Row) → Each IsEntry es → Each IsEntry (taken_of own now source es rows)
taken_told own now source [] rows are = tt
taken_told own now source (e ∷ es) rows are =
    each_append IsEntry (where_so (is_taken own rows e) e) (taken_of own now source es (after_entry own now source e rows))
    (where_told (is_taken own rows e) e are.0) (taken_told own now source es (after_entry own now source e rows) are.1)

pub ended_told : (test : Row → Bool) (rows : List Row) → Each IsRow rows → Each IsEntry (ended_of test rows)
ended_told test [] all = tt
ended_told test (row ∷ rest) all =
    each_append IsEntry _ (ended_of test rest) (where_told (test row) _ (record { client = all.0.client; clock = all.0.clock; state = tt })) (ended_told test rest all.1)

pub states_told : (rows : List Row) → Each IsRow rows → Each IsEntry (states_of rows)
states_told [] all = tt
states_told (row ∷ rest) all = each_append IsEntry _ (states_of rest) (where_told (is_some row.1.state) _ all.0) (states_told rest all.1)

-- what is known of a client is told as an entry
pub standing_told : (rows : List Row) (client : ℕ) → Each IsRow rows → ((standing_in rows client).clock < 2 ^ 53) × IfSome (standing_in rows client).state IsState
standing_told [] client all = (none_fits, tt)
  where
    none_fits : 0 < 2 ^ 53
    none_fits = omega arith
standing_told (row ∷ rest) client all = elim (tested (nat_eq row.0 client)) [
  | inl same ↦ rw same (all.0.clock, all.0.state)
  | inr other ↦ rw other (standing_told rest client all.1)
]

pub own_told : (own : Option Client) (rows : List Row) → IfSome own IsClient → Each IsRow rows → Each IsEntry (own_entry own rows)
own_told None rows is all = tt
own_told (Some own) rows is all =
    let told = standing_told rows own.0 all in
    (record { client = is; clock = told.0; state = told.1 }, tt)

-- ---- the own state

-- a state that is set
pub set_kept : (own : Client) (state : Option (List ℕ)) (now : ℕ) (rows : List Row) → IsClient own → IfSome state IsState →
    suc (standing_in rows own.0).clock < 2 ^ 53 → IsTable rows → IsTable (after_local own state now rows)
set_kept own state now rows is stated fits table =
    seated_kept (own.0, record { clock = suc (standing_in rows own.0).clock; state = state; moment = now; source = 0 }) rows
    (record { client = is; clock = fits; state = stated }) table

-- one that is set again
pub renewal_kept : (own : Client) (now : ℕ) (rows : List Row) → IsClient own →
    (is_some (standing_in rows own.0).state ≡ true → suc (standing_in rows own.0).clock < 2 ^ 53) → IsTable rows → IsTable (after_renewal (Some own) now rows)
renewal_kept own now rows is fits table = elim (tested (is_some (standing_in rows own.0).state)) [
  | inl stated ↦ rw stated (set_kept own (standing_in rows own.0).state now rows is (standing_told rows own.0 table.told).1 (fits stated) table)
  | inr none ↦ rw none table
]

-- where a call sets the rows or leaves them
pub result_kept : {X E : Type 0} (result : Result X E) (old new set : List Row) (Fits : Type 0) → OnOk result (new ≡ set) → OnErr result (new ≡ old) →
    OnOk result Fits → (Fits → IsTable set) → IsTable old → IsTable new
result_kept (Ok u) old new set Fits is stays fits table kept = rw is (table fits)
result_kept (Err e) old new set Fits is stays fits table kept = rw stays kept

-- what is answered are entries, where these are
pub answer_told : {E : Type 0} (result : Result (List AwareEntry) E) (es : List AwareEntry) → IfOk result (λ told. told ≡ es) → Each IsEntry es →
    IfOk result (Each IsEntry)
answer_told (Ok told) es is all = subst (Each IsEntry) (sym is) all
answer_told (Err e) es is all = tt
