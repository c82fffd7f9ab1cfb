-- Actions carried out one after another.
use Rattle.std.proofs.Common.{◌≡◌, ◌+◌, ◌<◌, ℕ, zero, suc, Result, Ok, Err, arith, true≢false, Bool, true, false, List, [], ◌∷◌, ◌++◌, length, take, drop, get_or, refl, sym, ap, ◌∙◌, subst, append_assoc, append-nil}
use Rattle.std.proofs.lemmas.List.{take-append-drop, take_more}
use Rattle.std.specs.Prelude.{IsErr}
use Rattle.yd_world.specs.declared.board.Sent.{Sent}
use Rattle.yd_world.specs.declared.board.Sent.TheVariants.{Message as Told, Close as Ended}
use Rattle.yd_sync.specs.Message.{MessageValue}
use Rattle.yd_sync.specs.MessageWriting.{bytes_of_message}
use Rattle.yd_hub.specs.declared.action.Action.{Action}
use Rattle.yd_hub.specs.declared.action.CloseCause.{CloseCause}
use Rattle.yd_hub.specs.Sessions.{is_open}
use Rattle.yd_hub.specs.Actions.{ActionValue, close, send, to_each}
use Rattle.yd_hub.specs.Orders.{orders_in, orders_of}
use Rattle.yd_hub.specs.Carrying.{Outcome, carried, send_failed, with_told}
use Rattle.yd_hub.proofs.FlagLemmas.{carried_parts}
use Rattle.yd_serving.specs.Board.{Board, Trades}
use Rattle.yd_serving.specs.Carried.{Carries, CarriesFront, CarriesOn}
use Rattle.yd_serving.specs.Reason.{reason_of}
use Rattle.yd_serving.proofs.BoardLemmas.{trades_both, trades_none}

-- ---- actions in two parts

-- what follows an outcome
abbrev behind : List ActionValue → Outcome → Outcome
behind others first = with_told first.told (carried bytes_of_message reason_of others first.failed first.fails)

pub carries_none : (failed : List ℕ) (b : Board) → Carries [] failed failed b b
carries_none failed b = record { told = []; fails = []; outcome = λ more. refl; trades = trades_none b }

carries_both : (actions others : List ActionValue) (f g h : List ℕ) (a b c : Board) → Carries actions f g a b → Carries others g h b c → Carries (actions ++ others) f h a c
carries_both actions others f g h a b c one two = record {
  told = one.told ++ two.told;
  fails = one.fails ++ two.fails;
  outcome = λ more. ap (λ (fails : List Bool). carried bytes_of_message reason_of (actions ++ others) f fails) (append_assoc one.fails two.fails more)
      ∙ carried_parts bytes_of_message reason_of actions others f (one.fails ++ (two.fails ++ more))
      ∙ ap (λ (first : Outcome). behind others first) (one.outcome (two.fails ++ more))
      ∙ ap (λ (second : Outcome). with_told one.told second) (two.outcome more);
  trades = trades_both a b c [] [] one.told two.told one.trades two.trades;
}

-- nothing of them was carried out
pub front_none : (actions : List ActionValue) (failed : List ℕ) (b : Board) → CarriesFront actions failed b b
front_none actions failed b = record { told = []; rest = (carried bytes_of_message reason_of actions failed []).told; fails = []; front = refl; trades = trades_none b }

front_behind : (actions others : List ActionValue) (f g : List ℕ) (a b c : Board) → Carries actions f g a b → CarriesFront others g b c → CarriesFront (actions ++ others) f a c
front_behind actions others f g a b c one two = record {
  told = one.told ++ two.told;
  rest = two.rest;
  fails = one.fails ++ two.fails;
  front = ap (λ (o : Outcome). o.told) (carried_parts bytes_of_message reason_of actions others f (one.fails ++ two.fails) ∙ ap (λ (first : Outcome). behind others first) (one.outcome two.fails))
      ∙ ap (λ (told : List Sent). one.told ++ told) two.front ∙ sym (append_assoc one.told two.told two.rest);
  trades = trades_both a b c [] [] one.told two.told one.trades two.trades;
}

front_longer : (actions others : List ActionValue) (f : List ℕ) (a b : Board) → CarriesFront actions f a b → CarriesFront (actions ++ others) f a b
front_longer actions others f a b one = record {
  told = one.told;
  rest = one.rest ++ (carried bytes_of_message reason_of others first.failed first.fails).told;
  fails = one.fails;
  front = ap (λ (o : Outcome). o.told) (carried_parts bytes_of_message reason_of actions others f one.fails)
      ∙ ap (λ (told : List Sent). told ++ (carried bytes_of_message reason_of others first.failed first.fails).told) one.front
      ∙ append_assoc one.told one.rest (carried bytes_of_message reason_of others first.failed first.fails).told;
  trades = one.trades;
}
  where
    first : Outcome
    first = carried bytes_of_message reason_of actions f one.fails

-- ---- a row of things, each with its actions

module _ {X : Type 0} (one : X → List ActionValue) (all : List X → List ActionValue) (none : all [] ≡ []) (more : (x : X) (xs : List X) → all (x ∷ xs) ≡ one x ++ all xs) where
  all_append : (xs ys : List X) → all (xs ++ ys) ≡ all xs ++ all ys
  all_append [] ys = ap (λ (l : List ActionValue). l ++ all ys) (sym none)
  all_append (x ∷ xs) ys = more x (xs ++ ys) ∙ ap (λ (l : List ActionValue). one x ++ l) (all_append xs ys)
      ∙ sym (append_assoc (one x) (all xs) (all ys)) ∙ ap (λ (l : List ActionValue). l ++ all ys) (sym (more x xs))

  all_next : (xs : List X) (i : ℕ) (x : X) → i < length xs → x ≡ get_or xs i x → all (take (i + 1) xs) ≡ all (take i xs) ++ one x
  all_next xs i x lt is = ap all (take_more xs i x lt ∙ ap (λ (y : X). take i xs ++ y ∷ []) (sym is)) ∙ all_append (take i xs) (x ∷ [])
      ∙ ap (λ (l : List ActionValue). all (take i xs) ++ l) (more x [] ∙ ap (λ (l : List ActionValue). one x ++ l) none ∙ append-nil (one x))

  all_whole : (xs : List X) (i : ℕ) (x : X) → i < length xs → x ≡ get_or xs i x → all xs ≡ (all (take i xs) ++ one x) ++ all (drop (i + 1) xs)
  all_whole xs i x lt is = ap all (sym (take-append-drop (i + 1) xs)) ∙ all_append (take (i + 1) xs) (drop (i + 1) xs)
      ∙ ap (λ (l : List ActionValue). l ++ all (drop (i + 1) xs)) (all_next xs i x lt is)

  pub row_next : (xs : List X) (i : ℕ) (x : X) (f g h : List ℕ) (a b c : Board) → i < length xs → x ≡ get_or xs i x →
      Carries (all (take i xs)) f g a b → Carries (one x) g h b c → Carries (all (take (i + 1) xs)) f h a c
  row_next xs i x f g h a b c lt is done next =
      subst (λ (l : List ActionValue). Carries l f h a c) (sym (all_next xs i x lt is)) (carries_both (all (take i xs)) (one x) f g h a b c done next)

  pub row_stops : (xs : List X) (i : ℕ) (x : X) (f g : List ℕ) (a b c : Board) → i < length xs → x ≡ get_or xs i x →
      Carries (all (take i xs)) f g a b → CarriesFront (one x) g b c → CarriesFront (all xs) f a c
  row_stops xs i x f g a b c lt is done stops =
      subst (λ (l : List ActionValue). CarriesFront l f a c) (sym (all_whole xs i x lt is))
      (front_longer (all (take i xs) ++ one x) (all (drop (i + 1) xs)) f a c (front_behind (all (take i xs)) (one x) f g a b c done stops))

-- ---- lemmas for callers: a row of actions, and a row of sessions

pub orders_next : (actions : List Action) (i : ℕ) (action : Action) (f g h : List ℕ) (a b c : Board) → i < length actions → action ≡ get_or actions i action →
    Carries (orders_of (take i actions)) f g a b → Carries (orders_in action) g h b c → Carries (orders_of (take (i + 1) actions)) f h a c
orders_next = row_next orders_in orders_of refl (λ x xs. refl)

pub orders_stop : (actions : List Action) (i : ℕ) (action : Action) (f g : List ℕ) (a b c : Board) → i < length actions → action ≡ get_or actions i action →
    Carries (orders_of (take i actions)) f g a b → CarriesFront (orders_in action) g b c → CarriesFront (orders_of actions) f a c
orders_stop = row_stops orders_in orders_of refl (λ x xs. refl)

pub sends_next : (message : MessageValue) (to : List ℕ) (i session : ℕ) (f g h : List ℕ) (a b c : Board) → i < length to → session ≡ get_or to i session →
    Carries (to_each message (take i to)) f g a b → Carries (send session message ∷ []) g h b c → Carries (to_each message (take (i + 1) to)) f h a c
sends_next message = row_next (λ session. send session message ∷ []) (to_each message) refl (λ x xs. refl)

pub sends_stop : (message : MessageValue) (to : List ℕ) (i session : ℕ) (f g : List ℕ) (a b c : Board) → i < length to → session ≡ get_or to i session →
    Carries (to_each message (take i to)) f g a b → CarriesFront (send session message ∷ []) g b c → CarriesFront (to_each message to) f a c
sends_stop message = row_stops (λ session. send session message ∷ []) (to_each message) refl (λ x xs. refl)

-- ---- one action

pub send_skipped : (to : ℕ) (message : MessageValue) (failed : List ℕ) (b : Board) → is_open failed to ≡ true → Carries (send to message ∷ []) failed failed b b
send_skipped to message failed b gone = record { told = []; fails = []; outcome = λ more. rw gone refl; trades = trades_none b }

pub send_went : (to : ℕ) (bytes : List ℕ) (message : MessageValue) (failed : List ℕ) (a b : Board) → bytes ≡ bytes_of_message message → is_open failed to ≡ false →
    Trades a b [] (Told (record { 0 = to }) bytes false ∷ []) → Carries (send to message ∷ []) failed failed a b
send_went to bytes message failed a b is there trades = record {
  told = Told (record { 0 = to }) (bytes_of_message message) false ∷ [];
  fails = false ∷ [];
  outcome = λ more. rw there refl;
  trades = subst (λ (bs : List ℕ). Trades a b [] (Told (record { 0 = to }) bs false ∷ [])) is trades;
}

pub send_fell : (to : ℕ) (bytes : List ℕ) (message : MessageValue) (failed : List ℕ) (a b : Board) → bytes ≡ bytes_of_message message → is_open failed to ≡ false →
    Trades a b [] (Told (record { 0 = to }) bytes true ∷ Ended (record { 0 = to }) send_failed ∷ []) → Carries (send to message ∷ []) failed (failed ++ to ∷ []) a b
send_fell to bytes message failed a b is there trades = record {
  told = Told (record { 0 = to }) (bytes_of_message message) true ∷ Ended (record { 0 = to }) send_failed ∷ [];
  fails = true ∷ [];
  outcome = λ more. rw there refl;
  trades = subst (λ (bs : List ℕ). Trades a b [] (Told (record { 0 = to }) bs true ∷ Ended (record { 0 = to }) send_failed ∷ [])) is trades;
}

-- a send that failed, and memory that ended before its session was closed, or behind that
pub send_unclosed : (to : ℕ) (bytes : List ℕ) (message : MessageValue) (failed : List ℕ) (a b : Board) → bytes ≡ bytes_of_message message → is_open failed to ≡ false →
    Trades a b [] (Told (record { 0 = to }) bytes true ∷ []) → CarriesFront (send to message ∷ []) failed a b
send_unclosed to bytes message failed a b is there trades = record {
  told = Told (record { 0 = to }) (bytes_of_message message) true ∷ [];
  rest = Ended (record { 0 = to }) send_failed ∷ [];
  fails = true ∷ [];
  front = rw there refl;
  trades = subst (λ (bs : List ℕ). Trades a b [] (Told (record { 0 = to }) bs true ∷ [])) is trades;
}

pub send_unnoted : (to : ℕ) (bytes : List ℕ) (message : MessageValue) (failed : List ℕ) (a b : Board) → bytes ≡ bytes_of_message message → is_open failed to ≡ false →
    Trades a b [] (Told (record { 0 = to }) bytes true ∷ Ended (record { 0 = to }) send_failed ∷ []) → CarriesFront (send to message ∷ []) failed a b
send_unnoted to bytes message failed a b is there trades = record {
  told = Told (record { 0 = to }) (bytes_of_message message) true ∷ Ended (record { 0 = to }) send_failed ∷ [];
  rest = [];
  fails = true ∷ [];
  front = rw there refl;
  trades = subst (λ (bs : List ℕ). Trades a b [] (Told (record { 0 = to }) bs true ∷ Ended (record { 0 = to }) send_failed ∷ [])) is trades;
}

-- nothing was told, and memory ended
pub front_untold : (actions : List ActionValue) (failed : List ℕ) (a b : Board) → Trades a b [] [] → CarriesFront actions failed a b
front_untold actions failed a b trades = record { told = []; rest = (carried bytes_of_message reason_of actions failed []).told; fails = []; front = refl; trades = trades }

pub close_skipped : (to : ℕ) (cause : CloseCause) (failed : List ℕ) (b : Board) → is_open failed to ≡ true → Carries (close to cause ∷ []) failed failed b b
close_skipped to cause failed b gone = record { told = []; fails = []; outcome = λ more. rw gone refl; trades = trades_none b }

pub close_went : (to : ℕ) (why : List ℕ) (cause : CloseCause) (failed : List ℕ) (a b : Board) → why ≡ reason_of cause → is_open failed to ≡ false →
    Trades a b [] (Ended (record { 0 = to }) why ∷ []) → Carries (close to cause ∷ []) failed failed a b
close_went to why cause failed a b is there trades = record {
  told = Ended (record { 0 = to }) (reason_of cause) ∷ [];
  fails = [];
  outcome = λ more. rw there refl;
  trades = subst (λ (w : List ℕ). Trades a b [] (Ended (record { 0 = to }) w ∷ [])) is trades;
}

-- memory ended, so the answer is an error
pub cut_on : {E : Type 0} (actions : List ActionValue) (failed failed_now : List ℕ) (a b : Board) (result : Result (Unit {0}) E) → IsErr result → CarriesFront actions failed a b →
    CarriesOn actions failed failed_now a b result
cut_on actions failed failed_now a b (Ok done) is front = absurd (true≢false (sym is))
cut_on actions failed failed_now a b (Err e) is front = front

-- the session at a place
pub same_at : (sessions : List ℕ) (i other : ℕ) → i < length sessions → get_or sessions i other ≡ get_or sessions i (get_or sessions i other)
same_at [] i other lt = refl
same_at (s ∷ sessions) zero other lt = refl
same_at (s ∷ sessions) (suc i) other lt = same_at sessions i other (omega (arith, lt))
