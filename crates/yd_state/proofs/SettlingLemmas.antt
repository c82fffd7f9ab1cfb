-- What is deleted goes on to be a store's own, from what was, and from nothing.
use Rattle.std.proofs.Common.{◌≡◌, ℕ, true, List, [], inr, Some, map, length, sym, ap, ◌∙◌, subst, arith, true≢false}
use Rattle.std.specs.Prelude.{slice_get}
use Rattle.yd_words.specs.Member.{IsIn}
use Rattle.yd_words.proofs.TestLemmas.{one_answer}
use Rattle.yd_ids.specs.declared.id.Id.{Id}
use Rattle.yd_ids.specs.declared.id.Span.{Span}
use Rattle.yd_ids.specs.Set.{HasId, union_of}
use Rattle.yd_ids.proofs.UnionLemmas.{union_ids}
use Rattle.yd_ops.specs.declared.lists.List.{List as DocList}
use Rattle.yd_ops.specs.Operation.{Operation}
use Rattle.yd_meaning.specs.Held.{is_named}
use Rattle.yd_meaning.specs.Staying.{StaysHeld}
use Rattle.yd_meaning.specs.Deletions.{MustBeDeleted, for_name, for_loss, for_key, for_item, AreClosedDeletions, AreLeastDeletions}
use Rattle.yd_kept.specs.Filling.{FillsLists}
use Rattle.yd_kept.specs.Telling.{IsSoundStore}
use Rattle.yd_kept.proofs.FillingLemmas.{filling_starts}
use Rattle.yd_kept.specs.Kept.{KeptValue}
use Rattle.yd_received.specs.Received.{held_of}
use Rattle.yd_held.specs.Held.{HeldValue, HoldsAll}
use Rattle.yd_listing.specs.Law.{is_gone}
use Rattle.yd_listing.proofs.LawLemmas.{has_named, named_has, gone_has, has_gone, deletions_go_on}
use Rattle.yd_state.specs.PlacingLaw.{IsEmptyStore}
use Rattle.yd_state.specs.Placing.{KeepsIds, KeepsAll, CanBePlaced, PlacesAll}
use Rattle.yd_state.specs.Grown.{units_named, ids_of, AreOwnDeletions}
use Rattle.yd_state.specs.Settling.{DeletesBy, DeletesOn, DeletesAnew}
use Rattle.yd_state.proofs.CameLemmas.{written}
use Rattle.yd_state.proofs.BecameLemmas.{became_held}

-- ---- what was deleted, and what is so besides

is_gone-named : (deleted besides now : List Span) → now ≡ union_of deleted besides → is_gone deleted besides ≡ is_named now
is_gone-named deleted besides now e = λ i x. same x i
  where
    to : (x : Id) → is_gone deleted besides x ≡ true → HasId now x
    to x f = subst (λ s. HasId s x) (sym e) ((union_ids deleted besides x).1 (gone_has deleted besides x f))

    from : (x : Id) → HasId now x → is_gone deleted besides x ≡ true
    from x h = has_gone deleted besides x ((union_ids deleted besides x).0 (subst (λ s. HasId s x) e h))

    same : (x : Id) → is_gone deleted besides x ≡ is_named now x
    same x = one_answer {P = HasId now x} (is_gone deleted besides x) (is_named now x) (to x, from x) (named_has now x, has_named now x)

module _ (k : HeldValue) (holds : HoldsAll k) (was it : KeptValue) (order : List ℕ) (can : CanBePlaced k order was) (placed : PlacesAll k was it)
    (keeps : KeepsIds (held_of k.received) it) (sound : IsSoundStore it.store) where
  pub deletes_on : (deleted waiting more besides now : List Span) → DeletesBy k order it deleted waiting more besides now → DeletesOn k deleted waiting more was it now
  deletes_on deleted waiting more besides now by part named news from =
      let same = is_gone-named deleted besides now by.grown in
      let on = deletions_go_on it deleted waiting more by.came besides by.drops part (held_of k.received) (written k holds it keeps) from.stays (ids_of was) (ids_of it)
      (became_held k holds part from.stays was it from.keeps from.store order can placed keeps sound by.came by.came_are)
      (is_named named) (is_named news) from.became from.own.closed from.own.least in record {
        closed = subst (AreClosedDeletions (ids_of it) (held_of k.received) (is_named news)) same on.closed;
        least = subst (AreLeastDeletions (ids_of it) (held_of k.received) (is_named news)) same on.least;
      }

-- so it is with another store that has the same lists
pub own_still : (k : HeldValue) (was it new : KeptValue) → ((list : DocList) → ids_of new list ≡ ids_of it list) → (deleted waiting more now : List Span) →
    DeletesOn k deleted waiting more was it now → DeletesOn k deleted waiting more was new now
own_still k was it new same deleted waiting more now on part named news from =
    let own = on part named news from in record {
      closed = subst (λ lists. AreClosedDeletions lists (held_of k.received) (is_named news) (is_named now)) (λ i list. sym (same list) i) own.closed;
      least = subst (λ lists. AreLeastDeletions lists (held_of k.received) (is_named news) (is_named now)) (λ i list. sym (same list) i) own.least;
    }

-- ---- from nothing

nothing_stays : (held : List Operation) → StaysHeld [] held
nothing_stays held = record {
  written = tt;
  ids = λ x e. absurd (true≢false (sym e));
  clocks = λ x y e c. absurd (true≢false (sym e));
  stands = λ o i. absurd i;
  lost = λ x e. absurd (true≢false (sym e));
}

nameless : (n : ℕ) (name : DocList) → slice_get [] n ≡ Some name → ⊥
nameless n name e = cc

pub nothing_kept : (it : KeptValue) → IsEmptyStore it → KeepsAll [] it
nothing_kept it empty = record {
  ids = record {
    filled = subst (λ ns. FillsLists [] ns it.store.placed) (sym empty.names) (filling_starts [] it.store.placed empty.lists empty.clocks);
    all = λ x e. absurd (true≢false (sym e));
    below = λ x low. absurd (omega (arith, low, empty.clocks x.client.0));
    grown = λ n name e. absurd (nameless n name (ap (λ ns. slice_get ns n) (sym empty.names) ∙ e));
  };
  no_more = λ o i. absurd (omega (arith, i.within, ap length empty.runs));
}

pub nothing_deleted : (it : KeptValue) → it.names ≡ [] → AreOwnDeletions it [] [] []
nothing_deleted it names = record {
  closed = record { all = must; only_held = λ x e. absurd (true≢false (sym e)) };
  least = λ other closed x e. absurd (true≢false (sym e));
}
  where
    no_unit : (list : DocList) (x : Id) → IsIn x (ids_of it list) → ⊥
    no_unit list x i = subst (IsIn x) (ap (λ ns. map (λ (o : Operation). o.id) (units_named it.store 0 ns list)) names) i

    must : (x : Id) → MustBeDeleted (ids_of it) [] (is_named []) (is_named []) x → is_named [] x ≡ true
    must x (for_name there by) = absurd (true≢false (sym there))
    must x (for_loss lost) = absurd (true≢false (sym lost))
    must x (for_key list i keyed other) = absurd (no_unit list x i)
    must x (for_item list i item by) = absurd (no_unit list x i)

pub deletes_anew : (k : HeldValue) (fresh it : KeptValue) → IsEmptyStore fresh → IsSoundStore fresh.store → (named more now : List Span) →
    DeletesOn k [] named more fresh it now → DeletesAnew k named more it now
deletes_anew k fresh it empty sound named more now on news same = on [] [] news (record {
  stays = nothing_stays (held_of k.received);
  keeps = (nothing_kept fresh empty).ids;
  store = sound;
  own = nothing_deleted fresh empty.names;
  became = record {
    stays = λ x e. absurd (true≢false (sym e));
    known = λ x these. has_named news x ((same x).1 these);
    all = λ x there by. inr ((same x).0 (named_has news x by));
  };
})
