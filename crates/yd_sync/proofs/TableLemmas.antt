-- Of each client but one's own a table has what remains of all entries that came or are answered; one's own state stays.
use Rattle.std.proofs.Common.{◌≡◌, ◌≢◌, ◌⊎◌, ℕ, Bool, true, false, ◌&&◌, cond, List, [], ◌∷◌, ◌++◌, Option, Some, None, is_some, is_none, inl, inr, refl, sym, ap, ◌∙◌, subst, arith, tests, true≢false, nat_eq, nat_lt}
use Rattle.std.proofs.lemmas.Bool.{eq-eqb, ne_eqb}
use Rattle.yd_words.specs.Member.{IsIn}
use Rattle.yd_words.specs.Each.{Each}
use Rattle.yd_ids.specs.declared.id.Client.{Client}
use Rattle.yd_sync.specs.declared.entry.AwareEntry.{AwareEntry}
use Rattle.yd_sync.specs.Standing.{Standing, absent, join, join_all, AgreeOn, standing_of_entry, standings}
use Rattle.yd_sync.specs.Table.{AreRows, Row, after_entries, after_entry, ended_of, ends_own, is_from, is_of, is_old, is_own, standing_in, without_states}
use Rattle.yd_sync.specs.TableEvent.{TableEvent, came, aged, dropped, left, table_after, entries_of, tables_after, all_entries}
use Rattle.yd_sync.proofs.PresenceLemmas.{tested, same_number, other_number, after_entry_other, after_entry_this}
use Rattle.yd_sync.proofs.RowLemmas.{Behind, after_entries_rows, emptied_rows}
use Rattle.yd_sync.proofs.JoinLemmas.{join_all_is, joins_one}

-- ---- lists

pub standings_append : (client : ℕ) (es fs : List AwareEntry) → standings client (es ++ fs) ≡ standings client es ++ standings client fs
standings_append client [] fs = refl
standings_append client (e ∷ es) fs = elim (tested (nat_eq e.client.0 client)) [
  | inl same ↦ rw same (ap (λ ss. standing_of_entry e ∷ ss) (standings_append client es fs))
  | inr other ↦ rw other (standings_append client es fs)
]

pub join_all-append : (held : Standing) (ss ts : List Standing) → join_all held (ss ++ ts) ≡ join_all (join_all held ss) ts
join_all-append held [] ts = refl
join_all-append held (s ∷ ss) ts = join_all-append (join held s) ss ts

-- ---- entries that come

not_own : (own : Option Client) (table : List Row) (e : AwareEntry) (client : ℕ) → is_own own client ≡ false → e.client.0 ≡ client → ends_own own table e ≡ false
not_own own table e client foreign same = ap (λ c. is_own own c && (is_none e.state && is_some (standing_in table e.client.0).state)) same
    ∙ ap (λ t. t && (is_none e.state && is_some (standing_in table e.client.0).state)) foreign

entries_join : (own : Option Client) (now source : ℕ) (es : List AwareEntry) (table : List Row) (client : ℕ) → is_own own client ≡ false →
    standing_in (after_entries own now source es table) client ≡ join_all (standing_in table client) (standings client es)
entries_join own now source [] table client foreign = refl
entries_join own now source (e ∷ es) table client foreign = elim (tested (nat_eq e.client.0 client)) [
  | inl same ↦ rw same (entries_join own now source es (after_entry own now source e table) client foreign
      ∙ ap (λ s. join_all s (standings client es)) (this (same_number e.client.0 client same)))
  | inr other ↦ rw other (entries_join own now source es (after_entry own now source e table) client foreign
      ∙ ap (λ s. join_all s (standings client es)) (after_entry_other own now source e table client (other_number e.client.0 client other)))
]
  where
    this : e.client.0 ≡ client → standing_in (after_entry own now source e table) client ≡ join (standing_in table client) (standing_of_entry e)
    this same = subst (λ c. standing_in (after_entry own now source e table) c ≡ join (standing_in table c) (standing_of_entry e)) same
        (after_entry_this own now source e table (not_own own table e client foreign same))

-- ---- states that end

none_behind : (client : ℕ) (test : Row → Bool) (table : List Row) → Each (Behind client) table → standings client (ended_of test table) ≡ []
none_behind client test [] all = refl
none_behind client test (row ∷ rest) all = elim (tested (test row)) [
  | inl e ↦ rw (e, ne_eqb row.0 client (behind client row.0 all.0)) (none_behind client test rest all.1)
  | inr e ↦ rw e (none_behind client test rest all.1)
]
  where
    behind : (m n : ℕ) → nat_lt m n ≡ true → n ≢ m
    behind m n less same = grind (arith, tests)

-- no state at one clock wins
join_none : (clock : ℕ) (state : Option (List ℕ)) → join (record { clock = clock; state = state }) (record { clock = clock; state = None }) ≡ record { clock = clock; state = None }
join_none clock None = rw (not_below clock clock refl, eq-eqb clock clock refl)
  where
    not_below : (m n : ℕ) → m ≡ n → nat_lt m n ≡ false
    not_below m n e = grind (arith, tests)
join_none clock (Some s) = rw (not_below clock clock refl, eq-eqb clock clock refl)
  where
    not_below : (m n : ℕ) → m ≡ n → nat_lt m n ≡ false
    not_below m n e = grind (arith, tests)

ended_join : (test : Row → Bool) (table : List Row) (client : ℕ) → AreRows table →
    standing_in (without_states test table) client ≡ join_all (standing_in table client) (standings client (ended_of test table))
ended_join test [] client are = refl
ended_join test (row ∷ rest) client are = elim (tested (nat_eq row.0 client)) [
  | inl same ↦ elim (tested (test row)) [
    | inl e ↦ rw (e, same, none_behind client test rest (subst (λ c. Each (Behind c) rest) (same_number row.0 client same) are.0)) (sym (join_none row.1.clock row.1.state))
    | inr e ↦ rw (e, same, none_behind client test rest (subst (λ c. Each (Behind c) rest) (same_number row.0 client same) are.0))
  ]
  | inr other ↦ elim (tested (test row)) [
    | inl e ↦ rw (e, other) (ended_join test rest client are.1)
    | inr e ↦ rw (e, other) (ended_join test rest client are.1)
  ]
]

-- ---- all that happens

event_joins : (own : Option Client) (event : TableEvent) (table : List Row) (client : ℕ) → is_own own client ≡ false → AreRows table →
    standing_in (table_after own event table) client ≡ join_all (standing_in table client) (standings client (entries_of own event table))
event_joins own (came now source es) table client foreign are = entries_join own now source es table client foreign
event_joins own (aged now) table client foreign are = ended_join (is_old own now) table client are
event_joins own (dropped c) table client foreign are = ended_join (is_of c) table client are
event_joins own (left source) table client foreign are = ended_join (is_from source) table client are

pub event_rows : (own : Option Client) (event : TableEvent) (table : List Row) → AreRows table → AreRows (table_after own event table)
event_rows own (came now source es) table are = after_entries_rows own now source es table are
event_rows own (aged now) table are = emptied_rows (is_old own now) table are
event_rows own (dropped c) table are = emptied_rows (is_of c) table are
event_rows own (left source) table are = emptied_rows (is_from source) table are

pub events_join : (own : Option Client) (events : List TableEvent) (table : List Row) (client : ℕ) → is_own own client ≡ false → AreRows table →
    standing_in (tables_after own events table) client ≡ join_all (standing_in table client) (standings client (all_entries own events table))
events_join own [] table client foreign are = refl
events_join own (event ∷ events) table client foreign are =
    events_join own events (table_after own event table) client foreign (event_rows own event table are)
    ∙ ap (λ s. join_all s (standings client (all_entries own events (table_after own event table)))) (event_joins own event table client foreign are)
    ∙ sym (join_all-append (standing_in table client) (standings client (entries_of own event table)) (standings client (all_entries own events (table_after own event table))))
    ∙ ap (λ ss. join_all (standing_in table client) ss) (sym (standings_append client (entries_of own event table) (all_entries own events (table_after own event table))))

-- ---- two tables

-- a clock and state of a client are those of an entry
from_entry : (client : ℕ) (es : List AwareEntry) (s : Standing) → IsIn s (standings client es) → (e : AwareEntry) × IsIn e es × (e.client.0 ≡ client) × (s ≡ standing_of_entry e)
from_entry client [] s i = absurd i
from_entry client (e ∷ es) s i = go (tested (nat_eq e.client.0 client))
    (λ same. subst (λ t. IsIn s (cond t (standing_of_entry e ∷ standings client es) (standings client es))) same i)
    (λ other. subst (λ t. IsIn s (cond t (standing_of_entry e ∷ standings client es) (standings client es))) other i) (λ j. from_entry client es s j)
  where
    go : (nat_eq e.client.0 client ≡ true) ⊎ (nat_eq e.client.0 client ≡ false) → (nat_eq e.client.0 client ≡ true → IsIn s (standing_of_entry e ∷ standings client es)) →
        (nat_eq e.client.0 client ≡ false → IsIn s (standings client es)) → (IsIn s (standings client es) → (f : AwareEntry) × IsIn f es × (f.client.0 ≡ client) × (s ≡ standing_of_entry f)) →
        (f : AwareEntry) × IsIn f (e ∷ es) × (f.client.0 ≡ client) × (s ≡ standing_of_entry f)
    go (inl same) here there rest = elim (here same) [
      | inl f ↦ (e, inl refl, same_number e.client.0 client same, f)
      | inr j ↦ let (f, k, g, h) = rest j in (f, inr k, g, h)
    ]
    go (inr other) here there rest = let (f, k, g, h) = rest (there other) in (f, inr k, g, h)

of_entry : (client : ℕ) (es : List AwareEntry) (e : AwareEntry) → IsIn e es → e.client.0 ≡ client → IsIn (standing_of_entry e) (standings client es)
of_entry client [] e i same = absurd i
of_entry client (f ∷ es) e (inl g) same = rw (eq-eqb f.client.0 client (sym (ap (λ h. h.client.0) g) ∙ same)) (inl (ap standing_of_entry g))
of_entry client (f ∷ es) e (inr i) same = elim (tested (nat_eq f.client.0 client)) [
  | inl t ↦ rw t (inr (of_entry client es e i same))
  | inr t ↦ rw t (of_entry client es e i same)
]

-- the same entries, in any order and repeated
pub tables_one : (client : ℕ) (es fs : List AwareEntry) → ((e : AwareEntry) → IsIn e es → IsIn e fs) → ((e : AwareEntry) → IsIn e fs → IsIn e es) →
    ((a b : AwareEntry) → IsIn a es → IsIn b es → a.client.0 ≡ b.client.0 → AgreeOn (standing_of_entry a) (standing_of_entry b)) →
    join_all absent (standings client es) ≡ join_all absent (standings client fs)
tables_one client es fs there back agree = joins_one (absent ∷ standings client es) (absent ∷ standings client fs) (join_all absent (standings client es)) (join_all absent (standings client fs))
    (join_all_is absent (standings client es)) (join_all_is absent (standings client fs)) (move es fs there) (move fs es back) both
  where
    move : (gs hs : List AwareEntry) → ((e : AwareEntry) → IsIn e gs → IsIn e hs) → (s : Standing) → IsIn s (absent ∷ standings client gs) → IsIn s (absent ∷ standings client hs)
    move gs hs over s (inl e) = inl e
    move gs hs over s (inr i) = let (e, j, same, f) = from_entry client gs s i in inr (subst (λ t. IsIn t (standings client hs)) (sym f) (of_entry client hs e (over e j) same))

    no_state : (s t : List ℕ) → Some s ≡ None → s ≡ t
    no_state s t e = absurd (true≢false (ap (λ o. is_some o) e))

    both : (a b : Standing) → IsIn a (absent ∷ standings client es) → IsIn b (absent ∷ standings client es) → AgreeOn a b
    both a b (inl e) j s t clock f g = no_state s t (sym f ∙ ap (λ x. x.state) e)
    both a b (inr i) (inl e) s t clock f g = absurd (true≢false (ap (λ o. is_some o) (sym g ∙ ap (λ x. x.state) e)))
    both a b (inr i) (inr j) s t clock f g =
        let (e, k, same, h) = from_entry client es a i in
        let (e2, k2, same2, h2) = from_entry client es b j in
        agree e e2 k k2 (same ∙ sym same2) s t (sym (ap (λ x. x.clock) h) ∙ clock ∙ ap (λ x. x.clock) h2) (sym (ap (λ x. x.state) h) ∙ f) (sym (ap (λ x. x.state) h2) ∙ g)
