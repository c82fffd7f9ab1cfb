-- What was taken of a board and told to it, one after another.
use Rattle.std.proofs.Common.{◌≡◌, ◌≢◌, ◌≤◌, ◌^◌, ◌-◌, ℕ, true, false, List, [], ◌∷◌, ◌++◌, Option, Some, None, Result, Ok, Err, inl, inr, refl, sym, ap, ◌∙◌, subst, arith, append_assoc, append-nil}
use Rattle.yd_words.specs.Each.{Each}
use Rattle.yd_words.proofs.EachLemmas.{each_append}
use Rattle.yd_words.proofs.TestLemmas.{same_or_other, split}
use Rattle.yd_world.specs.Faults.{HasOutage, Rose}
use Rattle.yd_world.specs.Traffic.{Adds, Keeps, TakesEvent, Traffic}
use Rattle.yd_world.specs.declared.board.Sent.{Sent}
use Rattle.yd_world.specs.declared.board.Sent.TheVariants.{Message, Close}
use Rattle.yd_world.specs.declared.event.Event.{Event}
use Rattle.yd_world.specs.declared.fault.Outage.{Outage}
use Rattle.yd_world.specs.declared.fault.Outage.TheVariants.{NoMemory, Failed}
use Rattle.yd_serving.specs.Board.{Board, IsCounted, Passes, Trades}

-- ---- what is told

passes_none : (told : Option Traffic) → Passes told told [] []
passes_none None = tt
passes_none (Some traffic) = (refl, sym (append-nil traffic.sent))

passes_both : (a b c : Option Traffic) (es fs : List Event) (ss ts : List Sent) → Passes a b es ss → Passes b c fs ts → Passes a c (es ++ fs) (ss ++ ts)
passes_both None b c es fs ss ts one two = tt
passes_both (Some a) None c es fs ss ts one two = absurd one
passes_both (Some a) (Some b) None es fs ss ts one two = absurd two
passes_both (Some a) (Some b) (Some c) es fs ss ts one two = (
  one.0 ∙ ap (λ (later : List Event). es ++ later) two.0 ∙ sym (append_assoc es fs c.coming),
  two.1 ∙ ap (λ (sent : List Sent). sent ++ ts) one.1 ∙ append_assoc a.sent ss ts,
)

pub passes_added : (old new : Option Traffic) (sent : Sent) → Adds old new sent → Passes old new [] (sent ∷ [])
passes_added None new sent h = tt
passes_added (Some old) None sent h = absurd h
passes_added (Some old) (Some new) sent h = (sym h.0, h.1)

pub passes_kept : (old new : Option Traffic) → Keeps old new → Passes old new [] []
passes_kept None new h = tt
passes_kept (Some old) None h = absurd h
passes_kept (Some old) (Some new) h = (ap (λ (t : Traffic). t.coming) (sym h), ap (λ (t : Traffic). t.sent) h ∙ sym (append-nil old.sent))

pub passes_event : (old new : Option Traffic) (event : Event) → TakesEvent {E = Outage} old new (Ok event) → Passes old new (event ∷ []) []
passes_event None new event h = tt
passes_event (Some old) None event h = absurd h
passes_event (Some old) (Some new) event h = (h.0, h.1 ∙ sym (append-nil old.sent))

-- ---- counts

rose_later : (a b c : ℕ) → Rose a b → b ≤ c → Rose a c
rose_later a b c (inl rose) le = inl (omega (arith, rose, le))
rose_later a b c (inr full) le = inr full

pub rose_earlier : (a b c : ℕ) → a ≤ b → b ≤ c → Rose b c → Rose a c
rose_earlier a b c le more (inl rose) = inl (omega (arith, rose, le))
rose_earlier a b c le more (inr full) = elim (split (2 ^ 64 - 1) a) [ inl at ↦ inr at | inr under ↦ inl (omega (arith, under, full, more)) ]

counted_later : (a b c : ℕ → ℕ) → ((s : ℕ) → b s ≤ c s) → (ss : List Sent) → Each (IsCounted a b) ss → Each (IsCounted a c) ss
counted_later a b c le [] all = tt
counted_later a b c le (Message to bytes true ∷ ss) all = (rose_later (a to.0) (b to.0) (c to.0) all.0 (le to.0), counted_later a b c le ss all.1)
counted_later a b c le (Message to bytes false ∷ ss) all = (tt, counted_later a b c le ss all.1)
counted_later a b c le (Close to reason ∷ ss) all = (tt, counted_later a b c le ss all.1)

counted_earlier : (a b c : ℕ → ℕ) → ((s : ℕ) → a s ≤ b s) → ((s : ℕ) → b s ≤ c s) → (ss : List Sent) → Each (IsCounted b c) ss → Each (IsCounted a c) ss
counted_earlier a b c le more [] all = tt
counted_earlier a b c le more (Message to bytes true ∷ ss) all = (rose_earlier (a to.0) (b to.0) (c to.0) (le to.0) (more to.0) all.0, counted_earlier a b c le more ss all.1)
counted_earlier a b c le more (Message to bytes false ∷ ss) all = (tt, counted_earlier a b c le more ss all.1)
counted_earlier a b c le more (Close to reason ∷ ss) all = (tt, counted_earlier a b c le more ss all.1)

-- a call's count did not fall
outage_le : {X : Type 0} (before now : ℕ) (result : Result X Outage) → HasOutage before now result → before ≤ now
outage_le before now (Ok x) h = h
outage_le before now (Err NoMemory) h = omega (arith, h)
outage_le before now (Err Failed) h = h.0

-- the counts of sends, where one session's alone may have risen
sends_le : {X : Type 0} (before now : ℕ → ℕ) (to : ℕ) (result : Result X Outage) → HasOutage (before to) (now to) result → ((other : ℕ) → other ≢ to → now other ≡ before other) → (s : ℕ) → before s ≤ now s
sends_le before now to result cause others s = elim (same_or_other s to) [
  | inl same ↦ subst (λ (t : ℕ). before t ≤ now t) (sym same) (outage_le (before to) (now to) result cause)
  | inr other ↦ let is : now s ≡ before s = others s other in omega (arith, is)
]

same_le : (before now : ℕ → ℕ) → now ≡ before → (s : ℕ) → before s ≤ now s
same_le before now same s = let is : now s ≡ before s = ap (λ (f : ℕ → ℕ). f s) same in omega (arith, is)

-- ---- lemmas for callers

pub trades_none : (b : Board) → Trades b b [] []
trades_none b = record { passes = passes_none b.told; links = omega arith; sends = λ s. omega arith; failed = tt }

pub trades_both : (a b c : Board) (es fs : List Event) (ss ts : List Sent) → Trades a b es ss → Trades b c fs ts → Trades a c (es ++ fs) (ss ++ ts)
trades_both a b c es fs ss ts one two = record {
  passes = passes_both a.told b.told c.told es fs ss ts one.passes two.passes;
  links = omega (arith, one.links, two.links);
  sends = λ s. omega (arith, one.sends s, two.sends s);
  failed = each_append (IsCounted a.send_faults c.send_faults) ss ts (counted_later a.send_faults b.send_faults c.send_faults two.sends ss one.failed)
      (counted_earlier a.send_faults b.send_faults c.send_faults one.sends two.sends ts two.failed);
}

-- a send
pub trades_send : {X : Type 0} (old new : Board) (to : ℕ) (bytes : List ℕ) (x : X) → Adds old.told new.told (Message (record { 0 = to }) bytes false) →
    HasOutage (old.send_faults to) (new.send_faults to) (Ok x) → ((other : ℕ) → other ≢ to → new.send_faults other ≡ old.send_faults other) → new.faults ≡ old.faults →
    Trades old new [] (Message (record { 0 = to }) bytes false ∷ [])
trades_send old new to bytes x sent cause others links = record {
  passes = passes_added old.told new.told (Message (record { 0 = to }) bytes false) sent;
  links = omega (arith, links);
  sends = sends_le old.send_faults new.send_faults to (Ok x) cause others;
  failed = (tt, tt);
}

-- a send that failed
pub trades_fail : (old new : Board) (to : ℕ) (bytes : List ℕ) → Adds old.told new.told (Message (record { 0 = to }) bytes true) →
    (old.send_faults to ≤ new.send_faults to) × Rose (old.send_faults to) (new.send_faults to) →
    ((other : ℕ) → other ≢ to → new.send_faults other ≡ old.send_faults other) → new.faults ≡ old.faults → Trades old new [] (Message (record { 0 = to }) bytes true ∷ [])
trades_fail old new to bytes sent cause others links = record {
  passes = passes_added old.told new.told (Message (record { 0 = to }) bytes true) sent;
  links = omega (arith, links);
  sends = sends_le {X = Unit {0}} old.send_faults new.send_faults to (Err Failed) cause others;
  failed = (cause.1, tt);
}

-- a send that found no memory
pub trades_unsent : (old new : Board) (to : ℕ) → Keeps old.told new.told → new.send_faults to ≡ old.send_faults to →
    ((other : ℕ) → other ≢ to → new.send_faults other ≡ old.send_faults other) → new.faults ≡ old.faults → Trades old new [] []
trades_unsent old new to kept cause others links = record {
  passes = passes_kept old.told new.told kept;
  links = omega (arith, links);
  sends = sends_le {X = Unit {0}} old.send_faults new.send_faults to (Err NoMemory) cause others;
  failed = tt;
}

-- a close
pub trades_close : (old new : Board) (to : ℕ) (reason : List ℕ) → Adds old.told new.told (Close (record { 0 = to }) reason) → new.send_faults ≡ old.send_faults → new.faults ≡ old.faults →
    Trades old new [] (Close (record { 0 = to }) reason ∷ [])
trades_close old new to reason sent sends links = record {
  passes = passes_added old.told new.told (Close (record { 0 = to }) reason) sent;
  links = omega (arith, links);
  sends = same_le old.send_faults new.send_faults sends;
  failed = (tt, tt);
}

-- a close that found no memory
pub trades_unclosed : (old new : Board) → Keeps old.told new.told → new.send_faults ≡ old.send_faults → new.faults ≡ old.faults → Trades old new [] []
trades_unclosed old new kept sends links = record { passes = passes_kept old.told new.told kept; links = omega (arith, links); sends = same_le old.send_faults new.send_faults sends; failed = tt }

-- what happens next
pub trades_next : (old new : Board) (event : Event) → TakesEvent {E = Outage} old.told new.told (Ok event) → old.faults ≤ new.faults → new.send_faults ≡ old.send_faults → Trades old new (event ∷ []) []
trades_next old new event taken links sends = record { passes = passes_event old.told new.told event taken; links = links; sends = same_le old.send_faults new.send_faults sends; failed = tt }

-- nothing that was told
pub trades_nothing : (old new : Board) → Keeps old.told new.told → old.faults ≤ new.faults → new.send_faults ≡ old.send_faults → Trades old new [] []
trades_nothing old new kept links sends = record { passes = passes_kept old.told new.told kept; links = links; sends = same_le old.send_faults new.send_faults sends; failed = tt }
