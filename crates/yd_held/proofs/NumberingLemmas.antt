-- An entry that becomes held: one entry fewer waits.
use Rattle.std.proofs.Common.{◌≡◌, ℕ, zero, suc, ◌<◌, Bool, true, false, cond, List, [], ◌∷◌, Some, set, sym, subst, arith}
use Rattle.std.specs.Prelude.{slice_get}
use Rattle.yd_words.proofs.OptionLemmas.{some_is}
use Rattle.yd_entries.specs.declared.entry.Entry.{Entry}
use Rattle.yd_entries.specs.declared.place.Place.{Place}
use Rattle.yd_entries.specs.Entries.{is_held, is_held_at}
use Rattle.yd_received.specs.Received.{with_place}
use Rattle.yd_held.specs.Holding.{count_waiting}

module _ (t : Entry) (p : Place) (waits : is_held t ≡ false) (held : is_held_at p ≡ true) where
  pub fewer_wait : (ts : List Entry) (at : ℕ) → slice_get ts at ≡ Some t → count_waiting (set ts at (with_place t p)) < count_waiting ts
  fewer_wait [] at e = absurd cc
  fewer_wait (s ∷ ss) zero e = subst (λ r. count_waiting (with_place t p ∷ ss) < count_waiting (r ∷ ss)) (sym (some_is s t e)) (rw (waits, held) (omega arith))
  fewer_wait (s ∷ ss) (suc at) e = go (is_held s) (fewer_wait ss at e)
    where
      go : (b : Bool) → count_waiting (set ss at (with_place t p)) < count_waiting ss →
          cond b (count_waiting (set ss at (with_place t p))) (suc (count_waiting (set ss at (with_place t p)))) < cond b (count_waiting ss) (suc (count_waiting ss))
      go true lt = lt
      go false lt = omega arith
