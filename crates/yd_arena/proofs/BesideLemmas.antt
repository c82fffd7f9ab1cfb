-- A cut of the index that is undone, since what lies beside the run could not be cut.
use Rattle.std.proofs.Common.{ℕ, List, refl, ap, ◌∙◌, arith}
use Rattle.yd_ids.specs.declared.id.Id.{Id}
use Rattle.yd_index.specs.Line.{Lined, Fills, IsInside, Begins, without_cut}
use Rattle.yd_index.specs.Lines.{entries_of, next_of, Cuts, Uncuts, Stays}
use Rattle.yd_index.proofs.UncutLemmas.{uncut_is, cut_found}

module _ (old mid : List Lined) (id : Id) (place : ℕ) (inside : IsInside (entries_of old id.client.0) (next_of old id.client.0) id.clock) (fills : Fills 0 (entries_of old id.client.0) (next_of old id.client.0))
    (cuts : Cuts old mid id place) where
  -- the second part begins with the id
  pub cut_begins : Begins (entries_of mid id.client.0) (next_of mid id.client.0) id.clock
  cut_begins = record {
    entry = record { clock = id.clock; place = place };
    found = rw (cuts.entries_are, cuts.next_is) (cut_found (entries_of old id.client.0) 0 (next_of old id.client.0) id.clock place inside.entry fills inside.found inside.behind_first);
    begins = refl;
    later = omega (arith, inside.behind_first);
  }

  -- without it all is as before
  pub uncut_stays : (new : List Lined) → Uncuts mid new id → Stays old new id.client.0
  uncut_stays new undone = record {
    entries_are = undone.entries_are ∙ ap (λ es. without_cut es id.clock) cuts.entries_are ∙ uncut_is (entries_of old id.client.0) 0 (next_of old id.client.0) id.clock place inside.entry fills inside.found inside.behind_first;
    next_is = undone.next_is ∙ cuts.next_is;
    other_entries = λ k ne. undone.other_entries k ne ∙ cuts.other_entries k ne;
    other_nexts = λ k ne. undone.other_nexts k ne ∙ cuts.other_nexts k ne;
  }
