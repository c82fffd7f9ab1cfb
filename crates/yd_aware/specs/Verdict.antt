-- What becomes of an entry that comes, by what is held of its client.
use Rattle.std.specs.Prelude.{ℕ, suc, ◌-◌, ◌^◌, Bool, true, false, ◌&&◌, ◌||◌, List, Option, is_some, is_none, if◌then◌else◌, nat_eq, nat_lt}
use Rattle.yd_ids.specs.declared.id.Client.{Client}
use Rattle.yd_sync.specs.declared.entry.AwareEntry.{AwareEntry}
use Rattle.yd_sync.specs.Standing.{Standing}
use Rattle.yd_sync.specs.Table.{Row, is_own, raised, row_of, seated}
use Rattle.yd_aware.specs.declared.verdict.Verdict.{Verdict}
use Rattle.yd_aware.specs.declared.verdict.Verdict.TheVariants.{Left, Raises, Taken}

-- by the clock that is held, and whether a state is
abbrev pub verdict_by : Option Client → ℕ → Bool → AwareEntry → Verdict
verdict_by own clock has_state e =
    if nat_lt clock e.clock || (nat_eq clock e.clock && (is_none e.state && has_state))
    then (if is_own own e.client.0 && (is_none e.state && has_state)
    then (if nat_lt e.clock (2 ^ 53 - 1) then Raises (suc e.clock) else Left)
    else Taken)
    else Left

-- what becomes of an entry
abbrev pub verdict_of : Option Client → Standing → AwareEntry → Verdict
verdict_of own held e = verdict_by own held.clock (is_some held.state) e

-- the rows after an entry, which came at a moment from a source
abbrev pub after_verdict : Verdict → ℕ → ℕ → AwareEntry → List Row → List Row
after_verdict Left now source e rows = rows
after_verdict (Raises clock) now source e rows = raised e.client.0 clock rows
after_verdict Taken now source e rows = seated (row_of now source e) rows

-- the entry is taken
abbrev pub takes : Verdict → Bool
takes Left = false
takes (Raises clock) = false
takes Taken = true
