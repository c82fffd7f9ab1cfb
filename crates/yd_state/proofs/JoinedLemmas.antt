-- Where what is held and a store keep what they tell, so does a state.
use Rattle.std.proofs.Common.{◌≡◌, true, List, map, sym, subst}
use Rattle.yd_ops.specs.declared.lists.List.{List as DocList}
use Rattle.yd_ops.specs.Operation.{Operation}
use Rattle.yd_ops.specs.ReceivedLaw.{IsReceived}
use Rattle.yd_meaning.specs.Held.{standing, is_named, is_lost}
use Rattle.yd_meaning.specs.Document.{Document, operations_at, keys_among}
use Rattle.yd_kept.specs.Telling.{IsSoundStore}
use Rattle.yd_kept.specs.Kept.{KeptValue, JoinsHeld}
use Rattle.yd_held.specs.Held.{HeldValue, HoldsAll}
use Rattle.yd_held.specs.Joining.{StaysSame}
use Rattle.yd_state.specs.Placing.{KeepsAll}
use Rattle.yd_state.specs.State.{StateValue, order_named, document_in, held_in}
use Rattle.yd_state.specs.Grown.{GrownValue, ids_of, AreWaiting, AreOwnDeletions, seen_of, IsWhole}
use Rattle.yd_state.specs.Growing.{GrowsTo, LosesNone, Grows}
use Rattle.yd_state.proofs.TakeLemmas.{joined_lists, still_sound, still_seen}

-- what stays the same of what is kept does so of what was taken
pub kept_same : (taken kept joined : HeldValue) → kept ≡ taken → StaysSame kept joined → StaysSame taken joined
kept_same taken kept joined e = subst (λ k. StaysSame k joined) e

module _ (s : GrownValue) (whole : IsWhole s) (k : HeldValue) (same : StaysSame s.held k) (it : KeptValue) (joins : JoinsHeld s.kept it) where
  -- with the store that is joined
  abbrev mid : GrownValue
  mid = record { held = s.held; named = s.named; waiting = s.waiting; kept = it; deletes = s.deletes }

  -- and with what is held besides
  abbrev after : GrownValue
  after = record { held = k; named = s.named; waiting = s.waiting; kept = it; deletes = s.deletes }

  pub joined_whole : HoldsAll k → IsSoundStore it.store → IsWhole after
  joined_whole holds store =
      let w : IsWhole mid = still_sound s whole it (joined_lists s.kept it joins) store in record {
        received = subst (λ (os : List Operation). IsReceived (record { operations = os; deletes = s.named })) (sym same.taken) w.received;
        holds = holds;
        waits = subst (λ vector. AreWaiting vector s.named s.waiting) (sym same.vector) w.waits;
        keeps = subst (λ (os : List Operation). KeepsAll os it) (sym same.held) w.keeps;
        store = store;
        own = subst (λ (os : List Operation). AreOwnDeletions it os s.named s.deletes) (sym same.held) w.own;
        marks = w.marks;
      }

  -- the document that it has of held operations, in lists with these names
  abbrev document_with : List Operation → List DocList → Document
  document_with os names = record {
    units = λ list. operations_at (standing os) (order_named names (map (ids_of it) names) list);
    deleted = is_named s.deletes;
    keys = keys_among (standing os);
  }

  document_after : document_in (seen_of after) ≡ document_in (seen_of mid)
  document_after = λ i. document_with (same.held i) (same.names i)

  -- its lists grew as they had before
  pub joined_grows : (old : StateValue) → Grows old (seen_of s) → Grows old (seen_of after)
  joined_grows old grows none =
      subst (λ (d : Document). GrowsTo (held_in (seen_of after)) (document_in old) d) (sym document_after)
      (subst (λ (os : List Operation). GrowsTo os (document_in old) (document_in (seen_of mid))) (sym same.held)
      (subst (λ (v : StateValue). GrowsTo (held_in v) (document_in old) (document_in v)) (sym (still_seen s whole it (joined_lists s.kept it joins))) (grows (λ list x i lost. none list x i (subst (λ (os : List Operation). is_lost os x ≡ true) (sym same.held) lost)))))

  -- and no unit of them is lost that was not before
  pub joined_loses : (old : StateValue) → LosesNone old (seen_of s) → LosesNone old (seen_of after)
  joined_loses old none list x i lost = none list x i (subst (λ (os : List Operation). is_lost os x ≡ true) same.held lost)
