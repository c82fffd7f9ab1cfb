-- The own state of a peer: what is told of it, set, and set again.
use Rattle.std.proofs.Common.{◌≡◌, ℕ, suc, ◌+◌, Bool, true, false, ◌&&◌, List, [], ◌∷◌, Option, Some, None, Result, Ok, Err, refl, sym, ap, ◌∙◌, subst, nat_le, true≢false}
use Rattle.std.specs.Prelude.{is_some, if◌then◌else◌}
use Rattle.yd_words.proofs.TestLemmas.{both_hold}
use Rattle.yd_ids.specs.declared.id.Client.{Client}
use Rattle.yd_sync.specs.Message.{MessageValue, aware}
use Rattle.yd_sync.specs.MessageReading.{message_reading}
use Rattle.yd_sync.specs.Table.{Row, after_local, is_due, is_old, moment_in, own_entry, standing_in, without_states}
use Rattle.yd_sync.proofs.OwnLemmas.{own_not_old}
use Rattle.yd_sync.proofs.PresenceLemmas.{seated_this}
use Rattle.yd_aware.specs.AwareTable as kept
use Rattle.yd_hub.specs.Answers.{Answers}
use Rattle.yd_hub.specs.Peer.{PeerState, Refusal, after_stated, clock_full, is_clock_full, message_of, own_state, peer_after, peer_answer, stated, table_ticked, tick}
use Rattle.yd_machines.specs.Telling.{next_entry}

-- messages that answer
abbrev answered : List MessageValue → Result (List MessageValue) Refusal
answered ms = Ok ms

-- the one answer or the other
abbrev chosen : Bool → Result (List MessageValue) Refusal → Result (List MessageValue) Refusal → Result (List MessageValue) Refusal
chosen t a b = if t then a else b

-- ---- the own clock and state

pub same_full : (own : Option Client) (rows : List Row) → kept.is_clock_full own rows ≡ is_clock_full own rows
same_full None rows = refl
same_full (Some own) rows = refl

pub same_set : (own : Option Client) (state : Option (List ℕ)) (now : ℕ) (rows : List Row) → kept.after_set own state now rows ≡ after_stated own state now rows
same_set None state now rows = refl
same_set (Some own) state now rows = refl

-- ---- what is told

pub nobody_told : (own : Option Client) (rows : List Row) → own ≡ None → [] ≡ own_state own rows
nobody_told None rows e = refl
nobody_told (Some own) rows e = absurd cc

pub nothing_told : (own : Option Client) (client : Client) (rows : List Row) → own ≡ Some client → is_some (standing_in rows client.0).state ≡ false → [] ≡ own_state own rows
nothing_told None client rows e none = absurd cc
nothing_told (Some own) client rows e none = subst (λ (o : Option Client). [] ≡ own_state o rows) (sym e) (rw none)

pub state_told : (own : Option Client) (client : Client) (rows : List Row) → own ≡ Some client → is_some (standing_in rows client.0).state ≡ true → own_entry own rows ≡ own_state own rows
state_told None client rows e some = absurd cc
state_told (Some own) client rows e some = subst (λ (o : Option Client). own_entry o rows ≡ own_state o rows) (sym e) (rw some)

-- the entry of a state that is set
set_told : (own : Client) (state : Option (List ℕ)) (now : ℕ) (rows : List Row) → own_entry (Some own) (after_local own state now rows) ≡ next_entry own (standing_in rows own.0).clock state ∷ []
set_told own state now rows = ap (λ s. record { client = own; clock = s.clock; state = s.state } ∷ [])
    (seated_this (own.0, record { clock = suc (standing_in rows own.0).clock; state = state; moment = now; source = 0 }) rows)

-- ---- setting, where the clock is not the greatest

pub stated_after : (peer : PeerState) (state : Option (List ℕ)) (now : ℕ) → is_clock_full peer.own peer.table ≡ false →
    record peer { table = after_stated peer.own state now peer.table } ≡ peer_after message_reading peer (stated state now)
stated_after peer state now room = rw room

stated_told : (own : Client) (table : List Row) (state : Option (List ℕ)) (now : ℕ) →
    message_of (own_entry (Some own) (after_stated (Some own) state now table)) ≡ aware (next_entry own (standing_in table own.0).clock state ∷ []) ∷ []
stated_told own table state now = ap message_of (set_told own state now table)

pub stated_answer : (answers : Answers) (peer : PeerState) (own : Client) (state : Option (List ℕ)) (now : ℕ) → peer.own ≡ Some own → is_clock_full peer.own peer.table ≡ false →
    peer_answer message_reading answers peer (stated state now) ≡ Ok (aware (next_entry own (standing_in peer.table own.0).clock state ∷ []) ∷ [])
stated_answer answers peer own state now is room =
    ap (λ (t : Bool). chosen t (Err clock_full) (answered (message_of (own_entry peer.own (after_stated peer.own state now peer.table))))) room ∙ ap answered
    (subst (λ (o : Option Client). message_of (own_entry o (after_stated o state now peer.table)) ≡ aware (next_entry own (standing_in peer.table own.0).clock state ∷ []) ∷ []) (sym is)
    (stated_told own peer.table state now))

-- and so where the parts are told one by one
pub stated_sent : (answers : Answers) (peer : PeerState) (own : Client) (state : Option (List ℕ)) (now clock : ℕ) (copied : Option (List ℕ)) (sent : List MessageValue) →
    peer.own ≡ Some own → kept.is_clock_full peer.own peer.table ≡ false → clock ≡ (standing_in peer.table own.0).clock → copied ≡ state →
    sent ≡ aware (next_entry own clock copied ∷ []) ∷ [] → peer_answer message_reading answers peer (stated state now) ≡ Ok sent
stated_sent answers peer own state now clock copied sent is room clock_is copied_is sent_is =
    stated_answer answers peer own state now is (sym (same_full peer.own peer.table) ∙ room) ∙ ap answered (sym (sent_is ∙ told))
  where
    told : ◌≡◌ {A = List MessageValue} (aware (next_entry own clock copied ∷ []) ∷ []) (aware (next_entry own (standing_in peer.table own.0).clock state ∷ []) ∷ [])
    told = (λ i. aware (next_entry own (clock_is i) (copied_is i) ∷ []) ∷ [])

pub stated_refused : (answers : Answers) (peer : PeerState) (state : Option (List ℕ)) (now : ℕ) → is_clock_full peer.own peer.table ≡ true →
    peer_answer message_reading answers peer (stated state now) ≡ Err clock_full
stated_refused answers peer state now full = rw full

-- without an own client nothing is set
pub nobody_after : (peer : PeerState) (state : Option (List ℕ)) (now : ℕ) → peer.own ≡ None → peer ≡ peer_after message_reading peer (stated state now)
nobody_after peer state now none = subst (λ (o : Option Client). peer ≡ (if is_clock_full o peer.table then peer else record peer { table = after_stated o state now peer.table })) (sym none) refl

pub nobody_answer : (answers : Answers) (peer : PeerState) (state : Option (List ℕ)) (now : ℕ) → peer.own ≡ None →
    peer_answer message_reading answers peer (stated state now) ≡ Ok []
nobody_answer answers peer state now none =
    subst (λ (o : Option Client). ◌≡◌ {A = Result (List MessageValue) Refusal} (if is_clock_full o peer.table then Err clock_full else Ok (message_of (own_entry o (after_stated o state now peer.table)))) (Ok []))
    (sym none) refl

-- ---- a tick

-- nothing is due
pub idle_after : (peer : PeerState) (now : ℕ) → is_due peer.own now peer.table ≡ false →
    record peer { table = without_states (is_old peer.own now) peer.table } ≡ peer_after message_reading peer (tick now)
idle_after peer now due = rw due

pub idle_answer : (answers : Answers) (peer : PeerState) (now : ℕ) → is_due peer.own now peer.table ≡ false → peer_answer message_reading answers peer (tick now) ≡ Ok []
idle_answer answers peer now due = rw due

pub tick_refused : (answers : Answers) (peer : PeerState) (now : ℕ) → is_due peer.own now peer.table ≡ true → is_clock_full peer.own peer.table ≡ true →
    peer_answer message_reading answers peer (tick now) ≡ Err clock_full
tick_refused answers peer now due full = rw (due, full)

-- the own state is due, and its clock is not the greatest
due_stated : (own : Client) (now : ℕ) (table : List Row) → is_due (Some own) now table ≡ true → is_some (standing_in table own.0).state ≡ true
due_stated own now table due = (both_hold (is_some (standing_in table own.0).state) (nat_le (moment_in table own.0 + 15000) now) due).0

renewed : (own : Client) (now : ℕ) (table : List Row) → is_some (standing_in table own.0).state ≡ true →
    kept.after_renewal (Some own) now (without_states (is_old (Some own) now) table) ≡ after_local own (standing_in table own.0).state now (without_states (is_old (Some own) now) table)
renewed own now table some = rw (own_not_old own now table, some)

ticked : (own : Option Client) (client : Client) (now : ℕ) (table : List Row) → own ≡ Some client → is_due own now table ≡ true →
    kept.after_renewal own now (without_states (is_old own now) table) ≡ table_ticked own now table
ticked None client now table e due = absurd cc
ticked (Some own) client now table e due = rw due (renewed own now table (due_stated own now table due))

not_stuck : (s t : Bool) → t ≡ false → s && t ≡ false
not_stuck true t e = e
not_stuck false t e = refl

pub ticked_after : (peer : PeerState) (own : Client) (now : ℕ) → peer.own ≡ Some own → is_due peer.own now peer.table ≡ true → is_clock_full peer.own peer.table ≡ false →
    record peer { table = kept.after_renewal peer.own now (without_states (is_old peer.own now) peer.table) } ≡ peer_after message_reading peer (tick now)
ticked_after peer own now is due room = ap (λ (rows : List Row). record peer { table = rows }) (ticked peer.own own now peer.table is due)
    ∙ sym (ap (λ (t : Bool). if t then peer else record peer { table = table_ticked peer.own now peer.table }) (not_stuck (is_due peer.own now peer.table) (is_clock_full peer.own peer.table) room))

ticked_told : (own : Option Client) (client : Client) (now : ℕ) (table : List Row) → own ≡ Some client → is_due own now table ≡ true →
    message_of (own_entry own (table_ticked own now table)) ≡ aware (next_entry client (standing_in table client.0).clock (standing_in table client.0).state ∷ []) ∷ []
ticked_told None client now table e due = absurd cc
ticked_told (Some own) client now table e due = subst (λ (c : Client). message_of (own_entry (Some own) (table_ticked (Some own) now table))
    ≡ aware (next_entry c (standing_in table c.0).clock (standing_in table c.0).state ∷ []) ∷ []) same
    (rw due (ap message_of (set_told own (standing_in table own.0).state now (without_states (is_old (Some own) now) table)
    ∙ ap (λ s. next_entry own s.clock (standing_in table own.0).state ∷ []) (own_not_old own now table))))
  where
    same : own ≡ client
    same = cc

pub ticked_answer : (answers : Answers) (peer : PeerState) (own : Client) (now : ℕ) → peer.own ≡ Some own → is_due peer.own now peer.table ≡ true → is_clock_full peer.own peer.table ≡ false →
    peer_answer message_reading answers peer (tick now) ≡ Ok (aware (next_entry own (standing_in peer.table own.0).clock (standing_in peer.table own.0).state ∷ []) ∷ [])
ticked_answer answers peer own now is due room =
    ap (λ (t : Bool). chosen t (Err clock_full) (chosen (is_due peer.own now peer.table) (answered (message_of (own_entry peer.own (table_ticked peer.own now peer.table)))) (answered [])))
    (not_stuck (is_due peer.own now peer.table) (is_clock_full peer.own peer.table) room)
    ∙ ap (λ (t : Bool). chosen t (answered (message_of (own_entry peer.own (table_ticked peer.own now peer.table)))) (answered [])) due
    ∙ ap answered (ticked_told peer.own own now peer.table is due)

-- and so where the parts are told one by one
pub ticked_sent : (answers : Answers) (peer : PeerState) (own : Client) (now clock : ℕ) (copied : Option (List ℕ)) (sent : List MessageValue) →
    peer.own ≡ Some own → is_due peer.own now peer.table ≡ true → kept.is_clock_full peer.own peer.table ≡ false →
    clock ≡ (standing_in peer.table own.0).clock → copied ≡ (standing_in peer.table own.0).state →
    sent ≡ aware (next_entry own clock copied ∷ []) ∷ [] → peer_answer message_reading answers peer (tick now) ≡ Ok sent
ticked_sent answers peer own now clock copied sent is due room clock_is copied_is sent_is =
    ticked_answer answers peer own now is due (sym (same_full peer.own peer.table) ∙ room) ∙ ap answered (sym (sent_is ∙ told))
  where
    told : ◌≡◌ {A = List MessageValue} (aware (next_entry own clock copied ∷ []) ∷ []) (aware (next_entry own (standing_in peer.table own.0).clock (standing_in peer.table own.0).state ∷ []) ∷ [])
    told = (λ i. aware (next_entry own (clock_is i) (copied_is i) ∷ []) ∷ [])

-- a state that is due is another's never, so where nobody is one's own nothing is due
pub nobody_due : (own : Option Client) (now : ℕ) (table : List Row) → own ≡ None → is_due own now table ≡ true → ⊥
nobody_due None now table e due = true≢false (sym due)
nobody_due (Some own) now table e due = absurd cc

-- what is old is another's, so the own clock stays, and it can be set
pub still_room : (own : Option Client) (now : ℕ) (table : List Row) → kept.is_clock_full own (without_states (is_old own now) table) ≡ kept.is_clock_full own table
still_room None now table = refl
still_room (Some own) now table = ap (λ s. nat_le 9007199254740991 s.clock) (own_not_old own now table)

-- ---- a table whose old states ended, and whose own state was set again

pub renewed_table : (one other last : kept.AwareTable) (now : ℕ) → other ≡ kept.with_rows one (without_states (is_old one.own now) one.rows) →
    last ≡ kept.with_rows other (kept.after_renewal other.own now other.rows) →
    last ≡ kept.with_rows one (kept.after_renewal one.own now (without_states (is_old one.own now) one.rows))
renewed_table one other last now e f = f ∙ ap (λ (t : kept.AwareTable). kept.with_rows t (kept.after_renewal t.own now t.rows)) e

pub never_full : (one other : kept.AwareTable) (now : ℕ) → other ≡ kept.with_rows one (without_states (is_old one.own now) one.rows) →
    kept.is_clock_full one.own one.rows ≡ false → kept.is_clock_full other.own other.rows ≡ true → ⊥
never_full one other now e room full = true≢false (sym full ∙ ap (λ (t : kept.AwareTable). kept.is_clock_full t.own t.rows) e ∙ still_room one.own now one.rows ∙ room)
