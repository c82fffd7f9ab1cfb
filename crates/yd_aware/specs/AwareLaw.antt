-- The laws of a kept table, as statements.
use Rattle.std.specs.Prelude.{◌≡◌, ℕ, false, List, [], ◌∷◌, Option, Some, None, nat_eq}
use Rattle.yd_words.specs.Each.{Each}
use Rattle.yd_words.specs.Member.{IsIn}
use Rattle.yd_ids.specs.declared.id.Client.{Client}
use Rattle.yd_sync.specs.declared.entry.AwareEntry.{AwareEntry}
use Rattle.yd_sync.specs.Table.{is_own, standing_in}
use Rattle.yd_sync.specs.TableEvent.{TableEvent, aged, all_entries, came, dropped, left}
use Rattle.yd_sync.specs.TableLaw.{AreSameEntries, NoneDisagree}
use Rattle.yd_aware.specs.AwareTable.{AwareTable, after_event, nobody}

-- the table after all that happened, one after another
abbrev pub after_events : List TableEvent → AwareTable → AwareTable
after_events [] table = table
after_events (event ∷ events) table = after_events events (after_event event table)

-- two tables of which nobody was known, and which took the same entries, in any order and repeated, where no two disagree, have the same
-- of each client but their own
abbrev pub AwarenessMeets : Type 0
AwarenessMeets = (own other : Option Client) (events others : List TableEvent) → AreSameEntries (all_entries own events []) (all_entries other others []) →
    NoneDisagree (all_entries own events []) → (client : ℕ) → is_own own client ≡ false → is_own other client ≡ false →
    standing_in (after_events events (nobody own)).rows client ≡ standing_in (after_events others (nobody other)).rows client

-- others do it: no entry that came has a state of the own client, and no call drops it
abbrev pub IsOfOthers : Client → TableEvent → Type 0
IsOfOthers own (came now source es) = (e : AwareEntry) → IsIn e es → e.client.0 ≡ own.0 → e.state ≡ None
IsOfOthers own (aged now) = Unit {0}
IsOfOthers own (dropped client) = nat_eq client own.0 ≡ false
IsOfOthers own (left source) = ⊥

-- whatever others do so, and however much time passes, the own state stays
abbrev pub OwnStateLasts : Type 0
OwnStateLasts = (own : Client) (events : List TableEvent) (table : AwareTable) (s : List ℕ) → table.own ≡ Some own →
    (standing_in table.rows own.0).state ≡ Some s → Each (IsOfOthers own) events → (standing_in (after_events events table).rows own.0).state ≡ Some s
