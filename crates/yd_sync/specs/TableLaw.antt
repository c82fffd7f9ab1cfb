-- The laws of awareness, as statements.
use Rattle.std.specs.Prelude.{◌≡◌, ◌↔◌, ℕ, suc, ◌-◌, ◌^◌, true, false, List, [], Option, Some, None, nat_lt}
use Rattle.yd_words.specs.Member.{IsIn}
use Rattle.yd_ids.specs.declared.id.Client.{Client}
use Rattle.yd_sync.specs.declared.entry.AwareEntry.{AwareEntry}
use Rattle.yd_sync.specs.Standing.{AgreeOn, join_all, standing_of_entry, standings}
use Rattle.yd_sync.specs.Table.{AreRows, Row, after_entries, after_entry, is_newer_in, is_old, is_own, standing_in, taken_of, without_states}
use Rattle.yd_sync.specs.TableEvent.{TableEvent, all_entries, tables_after}

-- of each client but one's own a table has what remains of the entries that came or were answered, whatever happened
abbrev pub TablesJoin : Type 0
TablesJoin = (own : Option Client) (events : List TableEvent) (table : List Row) (client : ℕ) → is_own own client ≡ false → AreRows table →
    standing_in (tables_after own events table) client ≡ join_all (standing_in table client) (standings client (all_entries own events table))

-- no two entries of a client disagree
abbrev pub NoneDisagree : List AwareEntry → Type 0
NoneDisagree es = (a b : AwareEntry) → IsIn a es → IsIn b es → a.client.0 ≡ b.client.0 → AgreeOn (standing_of_entry a) (standing_of_entry b)

-- the same entries, in any order and repeated
abbrev pub AreSameEntries : List AwareEntry → List AwareEntry → Type 0
AreSameEntries es fs = (e : AwareEntry) → IsIn e es ↔ IsIn e fs

-- so two tables that took the same entries have the same of each client but one's own
abbrev pub TablesMeet : Type 0
TablesMeet = (own other : Option Client) (events others : List TableEvent) → AreSameEntries (all_entries own events []) (all_entries other others []) →
    NoneDisagree (all_entries own events []) → (client : ℕ) → is_own own client ≡ false → is_own other client ≡ false →
    standing_in (tables_after own events []) client ≡ standing_in (tables_after other others []) client

-- the entries that a table without an own client took bring it to the same as all that came, so a server need not pass on more
abbrev pub TakenSuffice : Type 0
TakenSuffice = (now source : ℕ) (es : List AwareEntry) (table : List Row) →
    after_entries None now source (taken_of None now source es table) table ≡ after_entries None now source es table

-- what others send of one's own client, while one has a state: entries without a state never end it, and raise the own clock
-- above theirs or are ignored; one with a state and a greater clock is taken; and time does not end it
pub record OwnStateStays : Type 0 where
  pub stays : (own : Client) (now source : ℕ) (es : List AwareEntry) (table : List Row) (s : List ℕ) → (standing_in table own.0).state ≡ Some s →
      ((e : AwareEntry) → IsIn e es → e.client.0 ≡ own.0 → e.state ≡ None) → (standing_in (after_entries (Some own) now source es table) own.0).state ≡ Some s
  pub rises : (own : Client) (now source : ℕ) (e : AwareEntry) (table : List Row) (s : List ℕ) → (standing_in table own.0).state ≡ Some s → e.client.0 ≡ own.0 → e.state ≡ None →
      is_newer_in table e ≡ true → nat_lt e.clock (2 ^ 53 - 1) ≡ true → (standing_in (after_entry (Some own) now source e table) own.0).clock ≡ suc e.clock
  pub ignored : (own : Client) (now source : ℕ) (e : AwareEntry) (table : List Row) (s : List ℕ) → (standing_in table own.0).state ≡ Some s → e.client.0 ≡ own.0 → e.state ≡ None →
      nat_lt e.clock (2 ^ 53 - 1) ≡ false → after_entry (Some own) now source e table ≡ table
  pub taken : (own : Client) (now source : ℕ) (e : AwareEntry) (table : List Row) (t : List ℕ) → e.client.0 ≡ own.0 → e.state ≡ Some t → nat_lt (standing_in table own.0).clock e.clock ≡ true →
      standing_in (after_entry (Some own) now source e table) own.0 ≡ standing_of_entry e
  pub not_old : (own : Client) (now : ℕ) (table : List Row) → standing_in (without_states (is_old (Some own) now) table) own.0 ≡ standing_in table own.0
