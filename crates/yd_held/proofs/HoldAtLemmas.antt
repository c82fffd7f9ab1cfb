-- Holding one entry: that its origins were taken, and that what is held then is as it should be.
use Rattle.std.proofs.Common.{◌≡◌, ℕ, ◌+◌, ◌<◌, true, List, inl, inr, Option, Some, length, set, get_or, refl, sym, ap, ◌∙◌, subst}
use Rattle.std.specs.Prelude.{HoldsAt, IfSome}
use Rattle.std.proofs.lemmas.Option.{slice_get_read}
use Rattle.yd_words.proofs.OptionLemmas.{some_is, if_some_each}
use Rattle.yd_ids.specs.declared.id.Client.{Client}
use Rattle.yd_ids.specs.declared.id.Id.{Id}
use Rattle.yd_ids.specs.Vector.{RaisesOnly}
use Rattle.yd_ops.specs.declared.lists.List.{List as DocList}
use Rattle.yd_meaning.specs.Held.{item_carried}
use Rattle.yd_entries.specs.declared.entry.Entry.{Entry}
use Rattle.yd_entries.specs.declared.place.Place.{Place}
use Rattle.yd_entries.specs.Entries.{carried_of, is_held, IsTakenOf}
use Rattle.yd_received.specs.Received.{ReceivedValue, taken_of, GetsPlace, with_place}
use Rattle.yd_entries.specs.Taking.{is_covered}
use Rattle.yd_entries.proofs.ChangeLemmas.{entry_got}
use Rattle.yd_received.proofs.PlacingLemmas.{operations-place}
use Rattle.yd_held.specs.Held.{HeldValue}
use Rattle.yd_held.specs.Holding.{IsHolding, HoldsEntry, count_waiting}
use Rattle.yd_held.specs.Numbering.{PlacesEntry}
use Rattle.yd_held.specs.Placed.{AreOriginsCovered}
use Rattle.yd_held.specs.Readiness.{IsOriginOf, is_ready}
use Rattle.yd_held.proofs.HeldEntryLemmas.{is_taken, chosen_covered}
use Rattle.yd_held.proofs.HoldingLemmas.{ready_is}
use Rattle.yd_held.proofs.HoldStepLemmas.{Setting}
use Rattle.yd_held.proofs.NumberingLemmas.{fewer_wait}
use Rattle.yd_held.proofs.PlacedLemmas.{places_held, after, holding_after}

module _ (k : HeldValue) (at : ℕ) (t : Entry) (s : Setting k at t) where
  abbrev r : ReceivedValue
  r = k.received

  origin_covered : (z : Option Id) → ((x : Id) → z ≡ Some x → IsOriginOf x t.left t.right (carried_of r.runs t)) → IfSome z (λ x. is_covered r.entries x ≡ true)
  origin_covered z of = if_some_each (λ x. is_covered r.entries x ≡ true) z (λ x e.
      chosen_covered is_held r s.holding.in_order x ((s.holding.tells x).1 (s.ready.origins x (of x e))))

-- ---- lemmas for callers, of an entry that is ready at its place

module _ (k : HeldValue) (seen : List Entry) (at : ℕ) (t : Entry) (same : seen ≡ k.received.entries) (is : t ≡ get_or seen at t) (h : IsHolding k) (lt : at < length k.received.entries)
    (ready : HoldsAt (λ u. is_ready k.vector k.received.runs u ≡ true) k.received.entries at) where
  abbrev ts : List Entry
  ts = k.received.entries

  s : Setting k at t
  s = record {
    holding = h;
    got = slice_get_read ts (length ts) at t refl lt here;
    ready = ready_is k.vector k.received.runs t (subst (λ u. is_ready k.vector k.received.runs u ≡ true) (sym here) (ready t));
  }
    where
      here : t ≡ get_or ts at t
      here = is ∙ ap (λ us. get_or us at t) same

  -- what it stands on was taken
  pub origins_covered : AreOriginsCovered k.received t
  origins_covered = record {
    left = origin_covered k at t s t.left (λ x e. inl e);
    right = origin_covered k at t s t.right (λ x e. inr (inl e));
    item = origin_covered k at t s (item_carried (carried_of k.received.runs t)) (λ x e. inr (inr e));
  }

  pub is_entry : IsTakenOf k.received.runs t
  is_entry = is_taken k.received h.in_order t (entry_got ts at t s.got)

  module _ (p : Place) (new : ReceivedValue) (g : GetsPlace at p k.received new) (more : List DocList) (known : PlacesEntry k.received k.names more t p) where
    placed_is : new ≡ after k at t s p more known
    placed_is = λ i. record { runs = g.runs_are i; entries = entries i }
      where
        entries : new.entries ≡ set ts at (with_place t p)
        entries = g.placed ∙ ap (λ u. set ts at (with_place u p)) (some_is g.entry t (sym g.there ∙ s.got))

    pub fewer_waiting : count_waiting new.entries < count_waiting ts
    fewer_waiting = subst (λ (q : ReceivedValue). count_waiting q.entries < count_waiting ts) (sym placed_is)
        (fewer_wait t p s.ready.waits (places_held k.received k.names more t p known) ts at s.got)

    pub holds_entry : (raised : List (Client × ℕ)) → RaisesOnly k.vector raised t.id.client.0 (t.id.clock + t.len) → HoldsEntry at ts new.entries k.vector raised
    holds_entry raised raises = record {
      entry = t;
      place = p;
      there = s.got;
      placed = ap (λ (q : ReceivedValue). q.entries) placed_is;
      held = places_held k.received k.names more t p known;
      raises = raises;
    }

    pub holding_then : (k_then : HeldValue) → k_then.received ≡ new → RaisesOnly k.vector k_then.vector t.id.client.0 (t.id.clock + t.len) → k_then.names ≡ more → IsHolding k_then
    holding_then k_then e raises f = holding_after k at t s p more known k_then.vector raises k_then (e ∙ placed_is) refl f

    -- the same is received
    pub same_received : taken_of new ≡ taken_of k.received
    same_received = ap taken_of placed_is ∙ operations-place t p k.received.runs ts at s.got
