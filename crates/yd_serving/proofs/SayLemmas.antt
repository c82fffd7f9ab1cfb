-- Messages to one session, up to one whose send fails.
use Rattle.std.proofs.Common.{◌≡◌, ◌+◌, ◌<◌, ◌≤◌, ℕ, zero, suc, Bool, true, false, List, [], ◌∷◌, ◌++◌, take, drop, length, get_or, Result, Ok, Err, refl, sym, ap, ◌∙◌, subst, arith, true≢false}
use Rattle.std.proofs.lemmas.List.{take-append-drop, take_more}
use Rattle.std.specs.Prelude.{IsErr}
use Rattle.yd_words.specs.Each.{Each}
use Rattle.yd_world.specs.declared.board.Sent.{Sent}
use Rattle.yd_world.specs.declared.board.Sent.TheVariants.{Message as Told}
use Rattle.yd_sync.specs.declared.message.Message.{Message}
use Rattle.yd_sync.specs.Message.{IsValidMessage, MessageValue, message_value}
use Rattle.yd_sync.specs.MessageReading.{message_reading}
use Rattle.yd_sync.specs.MessageWriting.{bytes_of_message}
use Rattle.yd_hub.specs.Syncing.{Said, said}
use Rattle.yd_machines.specs.Sent.{values_of}
use Rattle.yd_machines.proofs.PeerLemmas.{values_with}
use Rattle.yd_serving.specs.Board.{Board, Trades, TradesFew}
use Rattle.yd_serving.specs.Exchange.{Says, SaysOn}
use Rattle.yd_serving.proofs.BoardLemmas.{trades_both}

-- a send of a message
abbrev sent : MessageValue → Bool → Sent
sent message failed = Told (record { 0 = 0 }) (bytes_of_message message) failed

-- sends of messages, none of which failed
abbrev pub sent_all : List MessageValue → List Sent
sent_all [] = []
sent_all (m ∷ ms) = sent m false ∷ sent_all ms

abbrev none_fails : List MessageValue → List Bool
none_fails [] = []
none_fails (m ∷ ms) = false ∷ none_fails ms

sent_append : (ms : List MessageValue) (m : MessageValue) → sent_all (ms ++ m ∷ []) ≡ sent_all ms ++ sent m false ∷ []
sent_append [] m = refl
sent_append (n ∷ ms) m = ap (λ (told : List Sent). sent n false ∷ told) (sent_append ms m)

said_all : (ms : List MessageValue) → said message_reading bytes_of_message ms [] ≡ record { told = sent_all ms; failed = false }
said_all [] = refl
said_all (m ∷ ms) = ap (λ (later : Said). record { told = sent m false ∷ later.told; failed = later.failed }) (said_all ms)

said_stops : (ms : List MessageValue) (m : MessageValue) (rest : List MessageValue) → said message_reading bytes_of_message (ms ++ m ∷ rest) (none_fails ms ++ true ∷ [])
    ≡ record { told = sent_all ms ++ sent m true ∷ []; failed = true }
said_stops [] m rest = refl
said_stops (n ∷ ms) m rest = ap (λ (later : Said). record { told = sent n false ∷ later.told; failed = later.failed }) (said_stops ms m rest)

-- ---- as the code has them

values_append : (xs ys : List Message) → values_of (xs ++ ys) ≡ values_of xs ++ values_of ys
values_append [] ys = refl
values_append (x ∷ xs) ys = ap (λ (vs : List MessageValue). message_value x ∷ vs) (values_append xs ys)

values_next : (xs : List Message) (i : ℕ) (x : Message) → i < length xs → x ≡ get_or xs i x → values_of (take (i + 1) xs) ≡ values_of (take i xs) ++ message_value x ∷ []
values_next xs i x lt is = ap values_of (take_more xs i x lt ∙ ap (λ (y : Message). take i xs ++ y ∷ []) (sym is)) ∙ values_with (take i xs) x

values_whole : (xs : List Message) (i : ℕ) (x : Message) → i < length xs → x ≡ get_or xs i x → values_of xs ≡ values_of (take i xs) ++ message_value x ∷ values_of (drop (i + 1) xs)
values_whole xs i x lt is = ap values_of (sym (take-append-drop (i + 1) xs)) ∙ values_append (take (i + 1) xs) (drop (i + 1) xs)
    ∙ ap (λ (vs : List MessageValue). vs ++ values_of (drop (i + 1) xs)) (values_next xs i x lt is) ∙ both (values_of (take i xs))
  where
    both : (vs : List MessageValue) → (vs ++ message_value x ∷ []) ++ values_of (drop (i + 1) xs) ≡ vs ++ message_value x ∷ values_of (drop (i + 1) xs)
    both [] = refl
    both (v ∷ vs) = ap (λ (ws : List MessageValue). v ∷ ws) (both vs)

pub valid_at : (xs : List Message) (i : ℕ) (x : Message) → i < length xs → x ≡ get_or xs i x → Each IsValidMessage (values_of xs) → IsValidMessage (message_value x)
valid_at [] i x lt is all = absurd (omega (arith, lt))
valid_at (y ∷ xs) zero x lt is all = subst (λ (z : Message). IsValidMessage (message_value z)) (sym is) all.0
valid_at (y ∷ xs) (suc i) x lt is all = valid_at xs i x (omega (arith, lt)) is all.1

-- ---- for callers

-- none of these failed
pub says_next : (xs : List Message) (i : ℕ) (x : Message) (bytes : List ℕ) (a b c : Board) → i < length xs → x ≡ get_or xs i x → bytes ≡ bytes_of_message (message_value x) →
    Trades a b [] (sent_all (values_of (take i xs))) → Trades b c [] (Told (record { 0 = 0 }) bytes false ∷ []) → Trades a c [] (sent_all (values_of (take (i + 1) xs)))
says_next xs i x bytes a b c lt is written so next =
    subst (λ (told : List Sent). Trades a c [] told) (sym (ap sent_all (values_next xs i x lt is) ∙ sent_append (values_of (take i xs)) (message_value x)))
    (trades_both a b c [] [] (sent_all (values_of (take i xs))) (sent (message_value x) false ∷ []) so
    (subst (λ (bs : List ℕ). Trades b c [] (Told (record { 0 = 0 }) bs false ∷ [])) written next))

-- this one failed
pub says_stop : (xs : List Message) (i : ℕ) (x : Message) (bytes : List ℕ) (a b c : Board) → i < length xs → x ≡ get_or xs i x → bytes ≡ bytes_of_message (message_value x) →
    Trades a b [] (sent_all (values_of (take i xs))) → Trades b c [] (Told (record { 0 = 0 }) bytes true ∷ []) → Says (values_of xs) true a c
says_stop xs i x bytes a b c lt is written so next = record {
  fails = none_fails (values_of (take i xs)) ++ true ∷ [];
  told = sent_all (values_of (take i xs)) ++ sent (message_value x) true ∷ [];
  outcome = ap (λ (ms : List MessageValue). said message_reading bytes_of_message ms (none_fails (values_of (take i xs)) ++ true ∷ [])) (values_whole xs i x lt is)
      ∙ said_stops (values_of (take i xs)) (message_value x) (values_of (drop (i + 1) xs));
  trades = trades_both a b c [] [] (sent_all (values_of (take i xs))) (sent (message_value x) true ∷ []) so
      (subst (λ (bs : List ℕ). Trades b c [] (Told (record { 0 = 0 }) bs true ∷ [])) written next);
}

take_whole : (xs : List Message) (i : ℕ) → length xs ≤ i → take i xs ≡ xs
take_whole [] zero le = refl
take_whole [] (suc i) le = refl
take_whole (x ∷ xs) zero le = absurd (omega (arith, le))
take_whole (x ∷ xs) (suc i) le = ap (λ (ys : List Message). x ∷ ys) (take_whole xs i (omega (arith, le)))

-- all were sent
pub says_all : (xs : List Message) (i : ℕ) (a b : Board) → length xs ≤ i → Trades a b [] (sent_all (values_of (take i xs))) → Says (values_of xs) false a b
says_all xs i a b le so = record {
  fails = [];
  told = sent_all (values_of xs);
  outcome = said_all (values_of xs);
  trades = subst (λ (ys : List Message). Trades a b [] (sent_all (values_of ys))) (take_whole xs i le) so;
}

-- memory ended
pub says_front : {E : Type 0} (ms : List MessageValue) (told : List Sent) (a b : Board) (result : Result Bool E) → IsErr result → Trades a b [] told → SaysOn ms a b result
says_front ms told a b (Ok failed) is so = absurd (true≢false (sym is))
says_front ms told a b (Err e) is so = record { events = []; told = told; few = omega arith; trades = so }
