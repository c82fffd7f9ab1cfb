-- One round of holding: units that were found ready are held, and what lacked them is to be tried.
use Rattle.std.proofs.Common.{◌≡◌, ℕ, zero, suc, ◌≤◌, true, List, [], ◌∷◌, ◌++◌, Some, None, set, get_or, refl, sym, ap, ◌∙◌, subst, arith, append-nil, append_assoc}
use Rattle.std.specs.Prelude.{slice_get}
use Rattle.std.proofs.lemmas.Option.{slice_get_within, slice_get-get_or}
use Rattle.yd_words.proofs.OptionLemmas.{some_is}
use Rattle.yd_ids.specs.declared.id.Client.{Client}
use Rattle.yd_ids.specs.Vector.{clock_of}
use Rattle.yd_entries.specs.declared.entry.Entry.{Entry}
use Rattle.yd_entries.specs.Entries.{GrowBy}
use Rattle.yd_received.specs.Received.{taken_of}
use Rattle.yd_held.specs.declared.noting.Lack.{Lack}
use Rattle.yd_held.specs.Held.{HeldValue}
use Rattle.yd_held.specs.Holding.{IsHolding, HoldsEntry, HoldsRest, OnlyHolds, AreUnready}
use Rattle.yd_held.specs.Noted.{AreNoted, AreMissing, StayMissing, Finds, Wakes}
use Rattle.yd_held.specs.Readiness.{is_ready}
use Rattle.yd_held.specs.Turn.{AreHeldInTurn, HoldsInTurn}
use Rattle.yd_held.proofs.HoldingLemmas.{IsReady, ready_is}
use Rattle.yd_held.proofs.ListedLemmas.{numbered_all}
use Rattle.yd_held.proofs.NotedLemmas.{noted_after, missing_after}
use Rattle.yd_held.proofs.ReadyLemmas.{held_all, counted_all}
use Rattle.yd_held.proofs.StandingLemmas.{stands_all}
use Rattle.yd_held.proofs.TurnLemmas.{turn_held, stays_held}
use Rattle.yd_held.proofs.UndoneLemmas.{undone_after, rises_after}
use Rattle.yd_held.proofs.UnreadyLemmas.{none_ready}

-- what stays true from round to round, with the clients that are still to be tried
pub record IsRound (first k : HeldValue) (tries : List Client) (order : List ℕ) : Type 0 where
  pub holding : IsHolding k
  pub operations : taken_of k.received ≡ taken_of first.received
  pub noted : AreNoted k.vector k.received.runs k.lacks tries k.received.entries
  pub missing : AreMissing k.vector k.lacks
  pub rises : (client : ℕ) → clock_of first.vector client ≤ clock_of k.vector client
  pub only : OnlyHolds first k
  pub turn : HoldsInTurn order first k

-- ---- lists that grow

pub grow_none : {X : Type 0} (xs : List X) → GrowBy xs xs
grow_none xs = ([], sym (append-nil xs))

grow_then : {X : Type 0} (xs ys zs : List X) → GrowBy xs ys → GrowBy ys zs → GrowBy xs zs
grow_then xs ys zs (more, e) (others, f) = (more ++ others, f ∙ ap (λ l. l ++ others) e ∙ append_assoc xs more others)

pub only_none : (k : HeldValue) → OnlyHolds k k
only_none k = record { runs_are = refl; undone_is = refl; grows = grow_none k.names }

-- ---- before the first round

pub round_first : (k : HeldValue) (tries : List Client) (order : List ℕ) → order ≡ [] → IsHolding k → AreNoted k.vector k.received.runs k.lacks tries k.received.entries →
    AreMissing k.vector k.lacks → IsRound k k tries order
round_first k tries order none h noted missing = record {
  holding = h;
  operations = refl;
  noted = noted;
  missing = missing;
  rises = λ client. omega arith;
  only = only_none k;
  turn = record {
    stays = λ o i. i;
    turn = subst (λ ns. AreHeldInTurn k.received.runs k.received.entries (clock_of k.vector) ns (clock_of k.vector)) (sym none) (λ client. refl);
  };
}

-- ---- a round

module _ (first old new : HeldValue) (at : ℕ) (lacks : List Lack) (tries : List Client) (found : Finds old.vector old.received.runs old.received.entries lacks tries (Some at))
    (h : HoldsEntry at old.received.entries new.received.entries old.vector new.vector) (runs : new.received.runs ≡ old.received.runs) (grows : GrowBy old.names new.names) where
  abbrev IsFound : Entry → Type 0
  IsFound t = (is_ready old.vector old.received.runs t ≡ true) × AreNoted old.vector old.received.runs lacks (t.id.client ∷ tries) old.received.entries

  here : IsFound h.entry
  here = subst IsFound (some_is (get_or old.received.entries at h.entry) h.entry
      (sym (slice_get-get_or old.received.entries at h.entry (slice_get_within old.received.entries at h.entry h.there)) ∙ h.there)) (found.1 h.entry)

  ready : IsReady old.vector old.received.runs h.entry
  ready = ready_is old.vector old.received.runs h.entry here.0

  begins : h.entry.id.clock ≡ clock_of old.vector h.entry.id.client.0
  begins = ready.begins

  -- what was held before is as it was when the units wait again
  pub only_then : ((client : ℕ) → clock_of first.vector client ≤ clock_of old.vector client) → OnlyHolds first old → OnlyHolds first new
  only_then rises only = record {
    runs_are = runs ∙ only.runs_are;
    undone_is = undone_after first.vector at old.received.entries new.received.entries old.vector new.vector h rises begins ∙ only.undone_is;
    grows = grow_then first.names old.names new.names only.grows grows;
  }

  module _ (left : List Lack) (more : List Client) (d : Entry) (wakes : Wakes (get_or new.received.entries at d) lacks left tries more) where
    entry_wakes : Wakes h.entry lacks left tries more
    entry_wakes = let w = subst (λ u. Wakes u lacks left tries more) (ap (λ us. get_or us at d) h.placed ∙ got_set old.received.entries at h.entry _ h.there) wakes in
        record { stays = w.stays; tried = w.tried }
      where
        got_set : (us : List Entry) (k : ℕ) (u v : Entry) → slice_get us k ≡ Some u → get_or (set us k v) k d ≡ v
        got_set [] k u v e = absurd cc
        got_set (w ∷ ws) zero u v e = refl
        got_set (w ∷ ws) (suc k) u v e = got_set ws k u v e

    -- all stays true in the next round
    pub round_then : (pending : List Client) (order news : List ℕ) → news ≡ order ++ at ∷ [] → IsRound first old pending order → StayMissing old.vector old.lacks old.vector lacks →
        IsHolding new → taken_of new.received ≡ taken_of old.received →
        IsRound first (record { received = new.received; vector = new.vector; names = new.names; lacks = left }) more news
    round_then pending order news one_more r missing holding same = record {
      holding = record {
        in_order = holding.in_order;
        own = holding.own;
        tells = holding.tells;
        placed = holding.placed;
        distinct = holding.distinct;
        parents = holding.parents;
      };
      operations = same ∙ r.operations;
      noted = subst (λ rs. AreNoted new.vector rs left more new.received.entries) (sym runs)
          (noted_after old.vector old.received.runs lacks left tries more at old.received.entries new.received.entries new.vector h entry_wakes begins here.1);
      missing = missing_after old.vector old.received.runs lacks left tries more at old.received.entries new.received.entries new.vector h entry_wakes begins (missing r.missing);
      rises = rises_after first.vector at old.received.entries new.received.entries old.vector new.vector h r.rises;
      only = let only = only_then r.rises r.only in record { runs_are = only.runs_are; undone_is = only.undone_is; grows = only.grows };
      turn = record {
        stays = λ o i. stays_held at old.received new.received old.vector new.vector h runs ready h.held r.holding.in_order holding.in_order o (r.turn.stays o i);
        turn = subst (λ ns. AreHeldInTurn new.received.runs new.received.entries (clock_of first.vector) ns (clock_of new.vector)) (sym one_more)
            (turn_held at old.received new.received old.vector new.vector h runs ready h.held order (clock_of first.vector) r.turn.turn);
      };
    }

-- ---- behind the last round

-- where nothing more is ready, all is held that can be
pub round_last : (first k : HeldValue) (tries : List Client) (lacks : List Lack) (order : List ℕ) → IsRound first k tries order →
    Finds k.vector k.received.runs k.received.entries lacks [] None → StayMissing k.vector k.lacks k.vector lacks →
    HoldsRest first (record { received = k.received; vector = k.vector; names = k.names; lacks = lacks })
round_last first k tries lacks order r noted missing = record {
  holds = record {
    in_order = r.holding.in_order;
    held = held_all k r.holding unready;
    stands = stands_all k r.holding;
    counted = counted_all k r.holding unready;
    placed = r.holding.placed;
    numbered = numbered_all k r.holding;
    noted = noted;
    missing = missing r.missing;
  };
  operations = r.operations;
}
  where
    unready : AreUnready k.vector k.received.runs k.received.entries
    unready = none_ready k.received.runs k.received.entries k.vector lacks noted
