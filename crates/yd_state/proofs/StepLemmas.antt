-- One entry is placed: what becomes of a store where its units go into a list, or into none.
use Rattle.std.proofs.Common.{◌≡◌, ℕ, ◌+◌, ◌<◌, Bool, true, false, List, ◌++◌, inl, inr, Option, sym, ap, ◌∙◌, subst, arith, true≢false, append-nil}
use Rattle.std.specs.Prelude.{filter}
use Rattle.yd_words.specs.Member.{IsIn}
use Rattle.yd_words.proofs.OptionLemmas.{if_some_each}
use Rattle.yd_words.proofs.TestLemmas.{same_or_other}
use Rattle.yd_ids.specs.declared.id.Id.{Id}
use Rattle.yd_ops.specs.Operation.{Operation, operations_of_run}
use Rattle.yd_ops.specs.Value.{RunValue, len_of}
use Rattle.yd_scan.specs.declared.stretch.Stretch.{Stretch}
use Rattle.yd_arena.specs.Arena.{count_of, next_clock}
use Rattle.yd_store.specs.Store.{IsKept}
use Rattle.yd_store.specs.Units.{operations_told, operations_in, AddsApart}
use Rattle.yd_store.proofs.KeepingLemmas.{kept_keeps}
use Rattle.yd_store.proofs.TakingLemmas.{filter_none, filter_append}
use Rattle.yd_ops.specs.Received.{IsWritten}
use Rattle.yd_kept.specs.Filling.{ComesNext}
use Rattle.yd_kept.specs.Kept.{KeptValue, IsFilled, ComesNextOfSome, FillsByLost, KeepsHeld, HoldsRun}
use Rattle.yd_kept.proofs.ChangeLemmas.{units_keep}
use Rattle.yd_entries.specs.declared.entry.Entry.{Entry}
use Rattle.yd_entries.specs.Entries.{operations_of_taken, is_listed}
use Rattle.yd_received.specs.Received.{held_of}
use Rattle.yd_held.specs.Held.{HeldValue, HoldsAll}
use Rattle.yd_held.specs.Turn.{IsNextHeld}
use Rattle.yd_held.proofs.HoldingLemmas.{is_written}
use Rattle.yd_held.proofs.KeptLemmas.{holds_holding}
use Rattle.yd_state.specs.Placing.{AddsEntry}
use Rattle.yd_state.proofs.EntryLemmas.{IsRunOfEntry, covered_unit, unit_covered, entry_taken, listed_stands, other_lost}

-- a test that none of some in a row passes finds the others
without : (test : Operation → Bool) (before news behind : List Operation) → ((o : Operation) → IsIn o news → test o ≡ false) →
    filter test (before ++ news ++ behind) ≡ filter test (before ++ behind)
without test before news behind none =
    filter_append test (before ++ news) behind
    ∙ ap (λ os. os ++ filter test behind) (filter_append test before news ∙ (ap (λ os. filter test before ++ os) (filter_none test news none) ∙ append-nil (filter test before)))
    ∙ sym (filter_append test before behind)

-- no unit has changed where all is as before but the room
pub kept_held : (old new : KeptValue) → IsKept old.store new.store → new.names ≡ old.names → KeepsHeld old new
kept_held old new kept names = subst (λ ns. KeepsHeld old (record { store = new.store; names = ns })) (sym names) (units_keep old.names old.store new.store (kept_keeps old.store new.store kept))

module _ (k : HeldValue) (holds : HoldsAll k) (t : Entry) (i : IsIn t k.received.entries) (old : KeptValue) (next : IsNextHeld k.received.runs (next_clock old.store.placed) t) where
  pub written : IsWritten (held_of k.received)
  written = is_written k (holds_holding k holds)

  -- ---- a run that goes into a list

  module _ (run : RunValue) (r : IsRunOfEntry k.received.runs t run) where
    pub run_next : run.id.clock ≡ next_clock old.store.placed run.id.client.0
    run_next = subst (λ (x : Id). x.clock ≡ next_clock old.store.placed x.client.0) (sym r.id) next.begins

    pub run_filled : 0 < len_of run.content
    run_filled = omega (arith, (entry_taken k holds t i).has_units, r.len)

    run_comes : is_listed t ≡ true → ComesNext (held_of k.received) old.store.placed run
    run_comes listed = record {
      stands = λ o j. listed_stands k holds t i listed o (subst (λ os. IsIn o os) r.operations j);
      filled = run_filled;
      next = run_next;
      left = if_some_each (λ y. y.clock < next_clock old.store.placed y.client.0) run.left (λ y e. next.origins y (inl (sym r.left ∙ e)));
      right = if_some_each (λ y. y.clock < next_clock old.store.placed y.client.0) run.right (λ y e. next.origins y (inr (inl (sym r.right ∙ e))));
    }

    pub run_of_some : IsFilled (held_of k.received) old → is_listed t ≡ true → ComesNextOfSome old run
    run_of_some filled listed = record { held = held_of k.received; written = written; filled = filled; comes = run_comes listed }

    pub held_adds : IsFilled (held_of k.received) old → is_listed t ≡ true → (new : KeptValue) → HoldsRun old new run → AddsEntry k t old new
    held_adds filled listed new h = record {
      further = h.filled (held_of k.received) written filled (run_comes listed);
      count = omega (arith, h.keeps.count, h.adds.count);
      lists = λ test none list lt. left test none list (omega (arith, lt, h.keeps.count)) ∙ ap (filter test) (h.keeps.lists list lt);
      made = λ test none list le lt. left test none list (omega (arith, lt, h.adds.count)) ∙ ap (filter test) (h.keeps.made list le (omega (arith, lt, h.adds.count)));
      operations = λ o. (
        (λ g. elim ((h.adds.operations o).0 g) [ inl was ↦ inl ((h.keeps.operations o).0 was) | inr news ↦ inr (subst (λ os. IsIn o os) r.operations news) ]),
        (λ g. (h.adds.operations o).1 (elim g [ inl was ↦ inl ((h.keeps.operations o).1 was) | inr news ↦ inr (subst (λ os. IsIn o os) (sym r.operations) news) ])),
      );
      marks = λ id. (
        (λ m. inl ((h.keeps.marks id).0 ((h.adds.marks id).0 m))),
        (λ m. (h.adds.marks id).1 ((h.keeps.marks id).1 (elim m [ inl was ↦ was | inr other ↦ absurd (true≢false (sym listed ∙ other.0)) ]))),
      );
      next = subst (λ (x : Id). next_clock new.store.placed x.client.0 ≡ x.clock + t.len) r.id (h.adds.next ∙ ap (λ n. run.id.clock + n) r.len);
      other_nexts = λ client other. h.adds.other_nexts client (λ e. other (e ∙ ap (λ (x : Id). x.client.0) r.id)) ∙ h.keeps.nexts client;
      borders = λ client clock le border. h.adds.borders client clock (omega (arith, le, h.keeps.nexts client)) (h.keeps.borders client clock border);
    }
      where
        left : (test : Operation → Bool) → ((o : Operation) → IsIn o (operations_of_taken k.received.runs t) → test o ≡ false) → (list : ℕ) →
            list < count_of h.ready.store.placed → filter test (operations_in new.store list) ≡ filter test (operations_in h.ready.store list)
        left test none list lt = elim (same_or_other list h.list) [
          | inl same ↦ ap (λ n. filter test (operations_in new.store n)) same
              ∙ ap (filter test) h.adds.list_is
              ∙ without test h.adds.before (operations_of_run run) h.adds.behind (λ o j. none o (subst (λ os. IsIn o os) r.operations j))
              ∙ ap (filter test) (sym h.adds.parts)
              ∙ ap (λ n. filter test (operations_in h.ready.store n)) (sym same)
          | inr other ↦ ap (filter test) (h.adds.others list lt other)
        ]

  -- ---- units that go into none

  module _ (s : Stretch) (id_is : s.id ≡ t.id) (len_is : s.len ≡ t.len) (z : Option RunValue) (told : operations_told s z ≡ operations_of_taken k.received.runs t) where
    pub apart_adds : IsFilled (held_of k.received) old → is_listed t ≡ false → (new : KeptValue) → AddsApart old.store new.store s z → FillsByLost old new s → AddsEntry k t old new
    apart_adds filled lost new a fills = record {
      further = fills (held_of k.received) written filled (λ x j. other_lost k holds t i lost x (covered_unit t s x id_is len_is j));
      count = omega (arith, a.count);
      lists = λ test none list lt. ap (filter test) (a.lists list lt);
      made = λ test none list le lt. absurd (omega (arith, le, lt, a.count));
      operations = λ o. (
        (λ g. elim ((a.operations o).0 g) [ inl was ↦ inl was | inr news ↦ inr (subst (λ os. IsIn o os) told news) ]),
        (λ g. (a.operations o).1 (elim g [ inl was ↦ inl was | inr news ↦ inr (subst (λ os. IsIn o os) (sym told) news) ])),
      );
      marks = λ id. (
        (λ m. elim ((a.marks id).0 m) [ inl was ↦ inl was | inr news ↦ inr (lost, covered_unit t s id id_is len_is news) ]),
        (λ m. (a.marks id).1 (elim m [ inl was ↦ inl was | inr news ↦ inr (unit_covered t s id id_is len_is news.1) ])),
      );
      next = subst (λ (x : Id). next_clock new.store.placed x.client.0 ≡ x.clock + t.len) id_is (a.next ∙ ap (λ n. s.id.clock + n) len_is);
      other_nexts = λ client other. a.other_nexts client (λ e. other (e ∙ ap (λ (x : Id). x.client.0) id_is));
      borders = λ client clock le border. a.borders client clock le border;
    }
