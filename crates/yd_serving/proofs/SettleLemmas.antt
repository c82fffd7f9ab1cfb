-- The hub gets Closed of each session that failed, one after another.
use Rattle.std.proofs.Common.{◌≡◌, ◌+◌, ◌-◌, ◌<◌, ◌≤◌, ℕ, zero, suc, Bool, true, false, List, [], ◌∷◌, ◌++◌, length, map, Result, Ok, Err, refl, sym, ap, ◌∙◌, subst, arith, inl, inr, append_assoc, append-nil, nat_eq, true≢false}
use Rattle.std.proofs.lemmas.Bool.{eq-eqb, or_left, or_right}
use Rattle.std.proofs.lemmas.List.{length-append}
use Rattle.std.specs.Prelude.{IsErr, remove, slice_index_or}
use Rattle.yd_words.specs.Each.{Each}
use Rattle.yd_world.specs.declared.board.Sent.{Sent}
use Rattle.yd_sync.specs.MessageReading.{message_reading}
use Rattle.yd_sync.specs.MessageWriting.{bytes_of_message}
use Rattle.yd_sync.specs.Table.{ended_of, is_from}
use Rattle.yd_sync.proofs.PresenceLemmas.{tested}
use Rattle.yd_hub.specs.Sessions.{is_open, without}
use Rattle.yd_hub.specs.Actions.{ActionValue, IsOrder, IsSendTo, close, send}
use Rattle.yd_hub.specs.Hub.{HubState, actions_if_open, closed_if_open}
use Rattle.yd_hub.specs.Carrying.{Outcome, Settled, carried, settled, settled_behind, with_told}
use Rattle.yd_hub.proofs.OpenLemmas.{open_differs, without_falls, without_other}
use Rattle.yd_hub.proofs.CarryingLemmas.{AreOnce as AreOnceThere, failed_once, failed_within, sends_entries}
use Rattle.yd_serving.specs.Board.{Board, Trades}
use Rattle.yd_serving.specs.Carried.{Carries, CarriesFront}
use Rattle.yd_serving.specs.Reason.{reason_of}
use Rattle.yd_serving.specs.Settled.{AreEnding, AreOnce, Settles, SettlesFront, SettlesOn, hub_closed}
use Rattle.yd_serving.proofs.BoardLemmas.{trades_both, trades_none}

-- ---- sessions that failed

once_there : (ss : List ℕ) → AreOnce ss → AreOnceThere ss
once_there [] once = tt
once_there (s ∷ ss) once = (once.0, once_there ss once.1)

once_here : (ss : List ℕ) → AreOnceThere ss → AreOnce ss
once_here [] once = tt
once_here (s ∷ ss) once = (once.0, once_here ss once.1)

first_open : (hub : HubState) (session : ℕ) (failed : List ℕ) → AreEnding hub (session ∷ failed) → is_open hub.sessions session ≡ true
first_open hub session failed ending = ending.0 session (or_left (nat_eq session session) (is_open failed session) (eq-eqb session session refl))

closed_sessions : (hub : HubState) (session : ℕ) → is_open hub.sessions session ≡ true → (closed_if_open hub session).sessions ≡ without session hub.sessions
closed_sessions hub session there = rw there

closed_falls : (hub : HubState) (session : ℕ) → is_open hub.sessions session ≡ true → length (closed_if_open hub session).sessions < length hub.sessions
closed_falls hub session there = subst (λ (ss : List ℕ). length ss < length hub.sessions) (sym (closed_sessions hub session there)) (without_falls session hub.sessions there)

-- what it orders when it gets Closed of a session only sends to those that are left
closed_sends : (hub : HubState) (session : ℕ) → Each (IsSendTo (without session hub.sessions)) (actions_if_open hub session)
closed_sends hub session = elim (tested (is_open hub.sessions session)) [
  | inl there ↦ rw there (sends_entries (ended_of (is_from session) hub.table) (without session hub.sessions) (without session hub.sessions) (λ s e. e))
  | inr other ↦ rw other tt
]

-- those that are left, and those that fail in what the hub orders then
failed_next : (hub : HubState) (session : ℕ) (failed : List ℕ) (fails : List Bool) → AreEnding hub (session ∷ failed) →
    AreEnding (closed_if_open hub session) (carried bytes_of_message reason_of (actions_if_open hub session) failed fails).failed
failed_next hub session failed fails ending = (
  subst (λ (ss : List ℕ). (s : ℕ) → is_open (carried bytes_of_message reason_of (actions_if_open hub session) failed fails).failed s ≡ true → is_open ss s ≡ true)
      (sym (closed_sessions hub session (first_open hub session failed ending)))
      (failed_within bytes_of_message reason_of (without session hub.sessions) (actions_if_open hub session) failed fails (closed_sends hub session) rest),
  once_here _ (failed_once bytes_of_message reason_of (without session hub.sessions) (actions_if_open hub session) failed fails (closed_sends hub session) (once_there failed ending.1.1)),
)
  where
    rest : (s : ℕ) → is_open failed s ≡ true → is_open (without session hub.sessions) s ≡ true
    rest s e = without_other session s hub.sessions (λ same. open_differs failed s session e ending.1.0 (sym same)) ∙ ending.0 s (or_right (nat_eq session s) (is_open failed s) e)

ending_next : (hub : HubState) (session : ℕ) (failed failed_now : List ℕ) (a b : Board) → AreEnding hub (session ∷ failed) → Carries (actions_if_open hub session) failed failed_now a b →
    AreEnding (closed_if_open hub session) failed_now
ending_next hub session failed failed_now a b ending carries =
    subst (λ (ss : List ℕ). AreEnding (closed_if_open hub session) ss) (ap (λ (o : Outcome). o.failed) (carries.outcome [])) (failed_next hub session failed (carries.fails ++ []) ending)

-- those that failed in what was ordered: at most one close, and sends to open sessions
pub order_ends : (hub : HubState) (actions : List ActionValue) (fails : List Bool) → IsOrder hub.sessions actions → AreEnding hub (carried bytes_of_message reason_of actions [] fails).failed
order_ends hub [] fails order = (λ s e. absurd (true≢false (sym e)), tt)
order_ends hub (send to message ∷ actions) fails order = (
  failed_within bytes_of_message reason_of hub.sessions (send to message ∷ actions) [] fails order (λ s e. absurd (true≢false (sym e))),
  once_here _ (failed_once bytes_of_message reason_of hub.sessions (send to message ∷ actions) [] fails order tt),
)
order_ends hub (close to cause ∷ actions) fails order = (
  failed_within bytes_of_message reason_of hub.sessions actions [] fails order.1 (λ s e. absurd (true≢false (sym e))),
  once_here _ (failed_once bytes_of_message reason_of hub.sessions actions [] fails order.1 tt),
)

-- ---- so far

-- before what was settled, the hub got Closed of these, and this was told
abbrev before : List ℕ → List Sent → Settled → Settled
before closed told s = record { hub = s.hub; outcome = with_told told s.outcome; closed = closed ++ s.closed }

-- the hub got Closed of some of the sessions, and what it ordered was carried out
pub record SoFar (now : ℕ) (first hub : HubState) (failed_first failed : List ℕ) (old board : Board) : Type 0 where
  pub told : List Sent
  pub closed : List ℕ
  pub fails : List Bool
  pub outcome : (n : ℕ) (more : List Bool) → settled bytes_of_message reason_of (length closed + n) first failed_first (fails ++ more)
      ≡ before closed told (settled bytes_of_message reason_of n hub failed more)
  pub state : hub ≡ hub_closed now first closed
  pub few : length closed + length hub.sessions ≤ length first.sessions
  pub ending : AreEnding hub failed
  pub trades : Trades old board [] told

zero_plus : (n : ℕ) → 0 + n ≡ n
zero_plus n = omega arith

none_more : (n : ℕ) → 0 + n ≤ n
none_more n = omega arith

pub so_far_none : (now : ℕ) (hub : HubState) (failed : List ℕ) (b : Board) → AreEnding hub failed → SoFar now hub hub failed failed b b
so_far_none now hub failed b ending = record {
  told = [];
  closed = [];
  fails = [];
  outcome = λ n more. ap (λ (k : ℕ). settled bytes_of_message reason_of k hub failed more) (zero_plus n);
  state = refl;
  few = none_more (length hub.sessions);
  ending = ending;
  trades = trades_none b;
}

hub_closed_more : (now : ℕ) (hub : HubState) (closed : List ℕ) (session : ℕ) → hub_closed now hub (closed ++ session ∷ []) ≡ closed_if_open (hub_closed now hub closed) session
hub_closed_more now hub [] session = refl
hub_closed_more now hub (s ∷ closed) session = hub_closed_more now (closed_if_open hub s) closed session

-- before one Closed more
before_more : (closed : List ℕ) (told : List Sent) (session : ℕ) (told_then : List Sent) (s : Settled) →
    before closed told (settled_behind session told_then s) ≡ before (closed ++ session ∷ []) (told ++ told_then) s
before_more closed told session told_then s =
    ap (λ (sent : List Sent). record { hub = s.hub; outcome = record (s.outcome) { told = sent }; closed = closed ++ session ∷ s.closed }) (sym (append_assoc told told_then s.outcome.told))
    ∙ ap (λ (all : List ℕ). record { hub = s.hub; outcome = with_told (told ++ told_then) s.outcome; closed = all }) (sym (append_assoc closed (session ∷ []) s.closed))

count_more : (closed : List ℕ) (session n : ℕ) → length (closed ++ session ∷ []) + n ≡ length closed + suc n
count_more closed session n = let is : length (closed ++ session ∷ []) ≡ length closed + 1 = length-append closed (session ∷ []) in omega (arith, is)

pub so_far_more : (now : ℕ) (first hub : HubState) (failed_first : List ℕ) (session : ℕ) (failed failed_now : List ℕ) (a b c : Board) → SoFar now first hub failed_first (session ∷ failed) a b →
    Carries (actions_if_open hub session) failed failed_now b c → SoFar now first (closed_if_open hub session) failed_first failed_now a c
so_far_more now first hub failed_first session failed failed_now a b c so carries = record {
  told = so.told ++ carries.told;
  closed = so.closed ++ session ∷ [];
  fails = so.fails ++ carries.fails;
  outcome = λ n more. ap (λ (k : ℕ). settled bytes_of_message reason_of k first failed_first ((so.fails ++ carries.fails) ++ more)) (count_more so.closed session n)
      ∙ ap (λ (fails : List Bool). settled bytes_of_message reason_of (length so.closed + suc n) first failed_first fails) (append_assoc so.fails carries.fails more)
      ∙ so.outcome (suc n) (carries.fails ++ more)
      ∙ ap (λ (o : Outcome). before so.closed so.told (settled_behind session o.told (settled bytes_of_message reason_of n (closed_if_open hub session) o.failed o.fails))) (carries.outcome more)
      ∙ before_more so.closed so.told session carries.told (settled bytes_of_message reason_of n (closed_if_open hub session) failed_now more);
  state = ap (λ (h : HubState). closed_if_open h session) so.state ∙ sym (hub_closed_more now first so.closed session);
  few = let is : length (so.closed ++ session ∷ []) ≡ length so.closed + 1 = length-append so.closed (session ∷ []) in
      omega (arith, is, so.few, closed_falls hub session (first_open hub session failed so.ending));
  ending = ending_next hub session failed failed_now b c so.ending carries;
  trades = trades_both a b c [] [] so.told carries.told so.trades carries.trades;
}

-- ---- the end

settled_none : (n : ℕ) (hub : HubState) → settled bytes_of_message reason_of n hub [] [] ≡ record { hub = hub; outcome = record { told = []; failed = []; fails = [] }; closed = [] }
settled_none zero hub = refl
settled_none (suc n) hub = refl

-- the measure, with what is left of it
settled_left : (now : ℕ) (first hub : HubState) (failed_first failed : List ℕ) (a b : Board) (so : SoFar now first hub failed_first failed a b) →
    settled bytes_of_message reason_of (length first.sessions) first failed_first so.fails
    ≡ before so.closed so.told (settled bytes_of_message reason_of (length first.sessions - length so.closed) hub failed [])
settled_left now first hub failed_first failed a b so =
    ap (λ (k : ℕ). settled bytes_of_message reason_of k first failed_first so.fails) left
    ∙ ap (λ (fails : List Bool). settled bytes_of_message reason_of (length so.closed + (length first.sessions - length so.closed)) first failed_first fails) (sym (append-nil so.fails))
    ∙ so.outcome (length first.sessions - length so.closed) []
  where
    left : length first.sessions ≡ length so.closed + (length first.sessions - length so.closed)
    left = omega (arith, so.few)

pub settles_all : (now : ℕ) (first hub : HubState) (failed_first : List ℕ) (a b : Board) → SoFar now first hub failed_first [] a b → Settles first hub failed_first a b
settles_all now first hub failed_first a b so = record {
  told = so.told;
  closed = so.closed;
  fails = so.fails;
  outcome = settled_left now first hub failed_first [] a b so
      ∙ ap (λ (s : Settled). before so.closed so.told s) (settled_none (length first.sessions - length so.closed) hub)
      ∙ ap (λ (told : List Sent). record { hub = hub; outcome = record { told = told; failed = []; fails = [] }; closed = so.closed ++ [] }) (append-nil so.told)
      ∙ ap (λ (closed : List ℕ). record { hub = hub; outcome = record { told = so.told; failed = []; fails = [] }; closed = closed }) (append-nil so.closed);
  trades = so.trades;
}

-- memory ended before the next Closed
pub settles_front : (now : ℕ) (first hub : HubState) (failed_first failed : List ℕ) (a b : Board) → SoFar now first hub failed_first failed a b → SettlesFront now first hub failed_first a b
settles_front now first hub failed_first failed a b so = record {
  told = so.told;
  rest = rest.outcome.told;
  closed = so.closed;
  later = rest.closed;
  fails = so.fails;
  front = ap (λ (s : Settled). s.outcome.told) (settled_left now first hub failed_first failed a b so);
  ends = ap (λ (s : Settled). s.closed) (settled_left now first hub failed_first failed a b so);
  state = so.state;
  trades = so.trades;
}
  where
    rest : Settled
    rest = settled bytes_of_message reason_of (length first.sessions - length so.closed) hub failed []

-- memory ended within what the hub ordered at the next Closed
pub settles_within : (now : ℕ) (first hub : HubState) (failed_first : List ℕ) (session : ℕ) (failed : List ℕ) (a b c : Board) → SoFar now first hub failed_first (session ∷ failed) a b →
    CarriesFront (actions_if_open hub session) failed b c → SettlesFront now first (closed_if_open hub session) failed_first a c
settles_within now first hub failed_first session failed a b c so stops = record {
  told = so.told ++ stops.told;
  rest = stops.rest ++ rest.outcome.told;
  closed = so.closed ++ session ∷ [];
  later = rest.closed;
  fails = so.fails ++ stops.fails;
  front = ap (λ (s : Settled). s.outcome.told) whole
      ∙ ap (λ (told : List Sent). so.told ++ (told ++ rest.outcome.told)) stops.front
      ∙ ap (λ (told : List Sent). so.told ++ told) (append_assoc stops.told stops.rest rest.outcome.told)
      ∙ sym (append_assoc so.told stops.told (stops.rest ++ rest.outcome.told));
  ends = ap (λ (s : Settled). s.closed) whole ∙ sym (append_assoc so.closed (session ∷ []) rest.closed);
  state = ap (λ (h : HubState). closed_if_open h session) so.state ∙ sym (hub_closed_more now first so.closed session);
  trades = trades_both a b c [] [] so.told stops.told so.trades stops.trades;
}
  where
    left : ℕ
    left = (length first.sessions - length so.closed) - 1

    outcome : Outcome
    outcome = carried bytes_of_message reason_of (actions_if_open hub session) failed stops.fails

    rest : Settled
    rest = settled bytes_of_message reason_of left (closed_if_open hub session) outcome.failed outcome.fails

    measure : length first.sessions ≡ length so.closed + suc left
    measure = omega (arith, so.few, closed_falls hub session (first_open hub session failed so.ending))

    whole : settled bytes_of_message reason_of (length first.sessions) first failed_first (so.fails ++ stops.fails)
        ≡ before so.closed so.told (settled_behind session outcome.told rest)
    whole = ap (λ (k : ℕ). settled bytes_of_message reason_of k first failed_first (so.fails ++ stops.fails)) measure ∙ so.outcome (suc left) stops.fails

-- ---- as the code has it

-- the first number, and the others
pub first_taken : (numbers rest : List ℕ) (first : ℕ) → 0 < length numbers → first ≡ slice_index_or numbers 0 first → rest ≡ remove numbers 0 → numbers ≡ first ∷ rest
first_taken [] rest first some value others = absurd (omega (arith, some))
first_taken (n ∷ numbers) rest first some value others = ap (λ (x : ℕ). x ∷ numbers) (sym value) ∙ ap (λ (ns : List ℕ). first ∷ ns) (sym others)

none_left : (numbers : List ℕ) → length numbers ≡ 0 → numbers ≡ []
none_left [] none = refl
none_left (n ∷ numbers) none = absurd (omega (arith, none))

-- the hub got Closed of the next session, and what it ordered was carried out
pub settle_more : (now : ℕ) (first hub hub_now : HubState) (failed_first numbers : List ℕ) (session : ℕ) (failed failed_now : List ℕ) (orders : List ActionValue) (a b c : Board) →
    SoFar now first hub failed_first numbers a b → numbers ≡ session ∷ failed → hub_now ≡ closed_if_open hub session → actions_if_open hub session ≡ orders →
    Carries orders failed failed_now b c → SoFar now first hub_now failed_first failed_now a c
settle_more now first hub hub_now failed_first numbers session failed failed_now orders a b c so is after ordered carries =
    subst (λ (h : HubState). SoFar now first h failed_first failed_now a c) (sym after)
    (so_far_more now first hub failed_first session failed failed_now a b c (subst (λ (ns : List ℕ). SoFar now first hub failed_first ns a b) is so)
    (subst (λ (as_ordered : List ActionValue). Carries as_ordered failed failed_now b c) (sym ordered) carries))

pub settle_falls : (now : ℕ) (first hub hub_now : HubState) (failed_first numbers : List ℕ) (session : ℕ) (failed : List ℕ) (a b : Board) →
    SoFar now first hub failed_first numbers a b → numbers ≡ session ∷ failed → hub_now ≡ closed_if_open hub session → length hub_now.sessions < length hub.sessions
settle_falls now first hub hub_now failed_first numbers session failed a b so is after =
    subst (λ (h : HubState). length h.sessions < length hub.sessions) (sym after)
    (closed_falls hub session (first_open hub session failed (subst (λ (ns : List ℕ). AreEnding hub ns) is so.ending)))

-- memory ended before, or within what it ordered
pub settle_stops : {E : Type 0} (now : ℕ) (first hub hub_now : HubState) (failed_first failed : List ℕ) (a b : Board) (result : Result (Unit {0}) E) → IsErr result → hub_now ≡ hub →
    SoFar now first hub failed_first failed a b → SettlesOn now first hub_now failed_first a b result
settle_stops now first hub hub_now failed_first failed a b (Ok done) is same so = absurd (true≢false (sym is))
settle_stops now first hub hub_now failed_first failed a b (Err e) is same so =
    subst (λ (h : HubState). SettlesFront now first h failed_first a b) (sym same) (settles_front now first hub failed_first failed a b so)

pub settle_cut : {E : Type 0} (now : ℕ) (first hub hub_now : HubState) (failed_first numbers : List ℕ) (session : ℕ) (failed : List ℕ) (orders : List ActionValue) (a b c : Board) (result : Result (Unit {0}) E) →
    IsErr result → SoFar now first hub failed_first numbers a b → numbers ≡ session ∷ failed → hub_now ≡ closed_if_open hub session → actions_if_open hub session ≡ orders →
    CarriesFront orders failed b c → SettlesOn now first hub_now failed_first a c result
settle_cut now first hub hub_now failed_first numbers session failed orders a b c (Ok done) is so are after ordered stops = absurd (true≢false (sym is))
settle_cut now first hub hub_now failed_first numbers session failed orders a b c (Err e) is so are after ordered stops =
    subst (λ (h : HubState). SettlesFront now first h failed_first a c) (sym after)
    (settles_within now first hub failed_first session failed a b c (subst (λ (ns : List ℕ). SoFar now first hub failed_first ns a b) are so)
    (subst (λ (as_ordered : List ActionValue). CarriesFront as_ordered failed b c) (sym ordered) stops))

pub settle_ends : (now : ℕ) (first hub : HubState) (failed_first failed : List ℕ) (a b : Board) → SoFar now first hub failed_first failed a b → length failed ≡ 0 → Settles first hub failed_first a b
settle_ends now first hub failed_first failed a b so none = settles_all now first hub failed_first a b (subst (λ (ns : List ℕ). SoFar now first hub failed_first ns a b) (none_left failed none) so)
