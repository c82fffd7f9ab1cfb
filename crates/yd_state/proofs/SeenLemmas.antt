-- An entry that is placed as its run: what the calls of a store want of it, and what they leave.
use Rattle.std.proofs.Common.{◌≡◌, ℕ, ◌+◌, ◌<◌, true, false, List, Some, None, get_or, sym, ap, ap₂, ◌∙◌, subst, arith}
use Rattle.std.specs.Prelude.{slice_get}
use Rattle.std.proofs.lemmas.Option.{slice_get_within}
use Rattle.yd_words.specs.Member.{IsIn}
use Rattle.yd_words.proofs.OptionLemmas.{some_is}
use Rattle.yd_ids.specs.declared.id.Id.{Id}
use Rattle.yd_ids.specs.declared.id.Span.{Span}
use Rattle.yd_ids.specs.Id.{IsClock}
use Rattle.yd_ops.specs.declared.runs.Run.{Run}
use Rattle.yd_ops.specs.Operation.{gone_from}
use Rattle.yd_ops.specs.Valid.{CarriesList}
use Rattle.yd_ops.specs.Value.{len_of}
use Rattle.yd_ops.specs.View.{run_value}
use Rattle.yd_arena.specs.Arena.{IsArena, runs_of, next_clock}
use Rattle.yd_arena.proofs.BorderLemmas.{next_border_of}
use Rattle.yd_store.specs.Store.{stretch_of, gone_stretch}
use Rattle.yd_store.specs.Units.{AddsApart}
use Rattle.yd_kept.specs.Kept.{KeptValue, IsFilled, ComesNextOfSome, FillsByLost, HoldsRun}
use Rattle.yd_entries.specs.declared.entry.Entry.{Entry}
use Rattle.yd_entries.specs.Entries.{operations_told, operations_of_taken, is_listed}
use Rattle.yd_received.specs.Received.{held_of}
use Rattle.yd_entries.proofs.ChangeLemmas.{entry_got}
use Rattle.yd_held.specs.Held.{HeldValue, HoldsAll}
use Rattle.yd_held.specs.Turn.{IsNextHeld}
use Rattle.yd_building.specs.declared.group.Group.{Group as OwnedGroup}
use Rattle.yd_building.specs.declared.group.Group.TheVariants.{Run as RunGroup, Gone as GoneGroup}
use Rattle.yd_building.specs.Builder.{group_value}
use Rattle.yd_merge.specs.Told.{group_of_entry}
use Rattle.yd_state.specs.Placing.{IsNextFor, AddsEntry, PlacesEntry}
use Rattle.yd_state.proofs.EntryLemmas.{read_at, IsRunOfEntry, run_of_entry, IsGoneOfEntry, gone_of_entry, entry_taken, gone_unlisted}
use Rattle.yd_state.proofs.StepLemmas.{run_next, run_filled, run_of_some, held_adds, apart_adds}

module _ (k : HeldValue) (holds : HoldsAll k) (old : KeptValue) (at : ℕ) (n : IsNextFor k old at) (seen : List Entry) (same : seen ≡ k.received.entries) (t : Entry) (t_is : t ≡ get_or seen at t) where
  there : slice_get k.received.entries at ≡ Some t
  there = read_at seen same at t t (slice_get_within seen at n.entry (ap (λ ts. slice_get ts at) same ∙ n.there)) t_is

  next : IsNextHeld k.received.runs (next_clock old.store.placed) t
  next = subst (IsNextHeld k.received.runs (next_clock old.store.placed)) (some_is n.entry t (sym n.there ∙ there)) n.next

  here : IsIn t k.received.entries
  here = entry_got k.received.entries at t there

  -- it is placed, and begins at a border
  placed : IsArena old.store.placed.lines (runs_of old.store.placed) → (new : KeptValue) → AddsEntry k t old new → PlacesEntry k at old new
  placed arena new adds = record {
    entry = t;
    there = there;
    adds = adds;
    begins = adds.borders t.id.client.0 t.id.clock (omega (arith, next.begins))
        (next_border_of old.store.placed.lines (runs_of old.store.placed) t.id.client.0 t.id.clock arena (omega (arith, next.begins)));
  }

  module _ (runs : List Run) (same_runs : runs ≡ k.received.runs) (group : OwnedGroup) (told : group_value group ≡ group_of_entry runs t) where
    told_now : group_value group ≡ group_of_entry k.received.runs t
    told_now = told ∙ ap (λ rs. group_of_entry rs t) same_runs

    -- ---- a run

    module _ (run : Run) (is : group ≡ RunGroup run) where
      r : IsRunOfEntry k.received.runs t (run_value run)
      r = run_of_entry k.received.runs t (run_value run) (entry_taken k holds t here) (sym (ap group_value is) ∙ told_now)

      pub seen_next : (run_value run).id.clock ≡ next_clock old.store.placed (run_value run).id.client.0
      seen_next = run_next k holds t here old next (run_value run) r

      pub seen_filled : 0 < len_of (run_value run).content
      seen_filled = run_filled k holds t here old next (run_value run) r

      pub seen_fits : IsClock ((run_value run).id.clock + len_of (run_value run).content)
      seen_fits = omega (arith, (entry_taken k holds t here).end, r.len, ap (λ (x : Id). x.clock) r.id)

      pub seen_carries : CarriesList (run_value run).left (run_value run).right (run_value run).list
      seen_carries = r.list

      pub seen_comes : IsFilled (held_of k.received) old → is_listed t ≡ true → ComesNextOfSome old (run_value run)
      seen_comes = run_of_some k holds t here old next (run_value run) r

      pub listed_placed : IsArena old.store.placed.lines (runs_of old.store.placed) → IsFilled (held_of k.received) old → is_listed t ≡ true → (new : KeptValue) →
          HoldsRun old new (run_value run) → PlacesEntry k at old new
      listed_placed arena filled listed new h = placed arena new (held_adds k holds t here old next (run_value run) r filled listed new h)

      pub lost_placed : IsArena old.store.placed.lines (runs_of old.store.placed) → IsFilled (held_of k.received) old → is_listed t ≡ false → (new : KeptValue) →
          AddsApart old.store new.store (stretch_of (run_value run) None) (Some (run_value run)) → FillsByLost old new (stretch_of (run_value run) None) → PlacesEntry k at old new
      lost_placed arena filled lost new a fills = placed arena new
          (apart_adds k holds t here old next (stretch_of (run_value run) None) r.id r.len (Some (run_value run)) r.operations filled lost new a fills)

    -- ---- gone units

    module _ (id : Id) (len : ℕ) (is : group ≡ GoneGroup id len) where
      g : IsGoneOfEntry t id len
      g = gone_of_entry k.received.runs t id len (entry_taken k holds t here) (sym (ap group_value is) ∙ told_now)

      pub gone_placed : IsArena old.store.placed.lines (runs_of old.store.placed) → IsFilled (held_of k.received) old → (new : KeptValue) → (span : Span) →
          span ≡ record { client = id.client; clock = id.clock; len = len } → AddsApart old.store new.store (gone_stretch span) None →
          FillsByLost old new (gone_stretch span) → PlacesEntry k at old new
      gone_placed arena filled new span e a fills = placed arena new
          (apart_adds k holds t here old next (gone_stretch span) (ap (λ (s : Span). (gone_stretch s).id) e ∙ g.id_is) (ap (λ (s : Span). s.len) e ∙ g.len) None
          told_gone filled (gone_unlisted k holds t here g.gone) new a fills)
        where
          told_gone : gone_from (gone_stretch span).id (gone_stretch span).len ≡ operations_of_taken k.received.runs t
          told_gone = ap₂ gone_from (ap (λ (s : Span). (gone_stretch s).id) e ∙ g.id_is) (ap (λ (s : Span). s.len) e ∙ g.len)
              ∙ ap (λ b. operations_told b k.received.runs t) (sym g.gone)
