-- The list that units without origins carry.
use Rattle.std.proofs.Common.{◌≡◌, ◌<◌, ℕ, zero, suc, false, List, Option, Some, None, length, get_or, sym, ap, ◌∙◌, subst}
use Rattle.std.specs.Prelude.{slice_get}
use Rattle.std.proofs.lemmas.Option.{slice_get-get_or}
use Rattle.yd_ids.specs.declared.id.Id.{Id}
use Rattle.yd_ops.specs.declared.lists.List.{List as DocList}
use Rattle.yd_ops.specs.declared.runs.Run.{Run}
use Rattle.yd_ops.specs.Valid.{CarriesList}
use Rattle.yd_meaning.specs.Order.{list_or_root}
use Rattle.yd_entries.specs.declared.entry.Entry.{Entry}
use Rattle.yd_entries.specs.Entries.{list_at, carried_of, IsTakenOf, TellsRight}

-- units without origins are the first of their run, and carry its list
run_list : (runs : List Run) (at : ℕ) (run : Run) (offset : ℕ) (left right : Option Id) (name : DocList) → at < length runs → run ≡ get_or runs at run →
    left ≡ None → right ≡ None → CarriesList left right (list_at (slice_get runs at) offset) → run.list ≡ Some name →
    list_or_root (list_at (slice_get runs at) offset) ≡ name
run_list runs at run offset left right name inside is no_left no_right carries named =
    go (slice_get runs at) offset (slice_get-get_or runs at run inside ∙ ap (λ r. Some r) (sym is))
    (subst (λ z. CarriesList None z (list_at (slice_get runs at) offset)) no_right (subst (λ z. CarriesList z right (list_at (slice_get runs at) offset)) no_left carries))
  where
    go : (z : Option Run) (k : ℕ) → z ≡ Some run → CarriesList None None (list_at z k) → list_or_root (list_at z k) ≡ name
    go None k e c = absurd c
    go (Some r) zero e c = ap list_or_root (ap (λ s. s.list) (the_run e) ∙ named)
      where
        the_run : {a b : Run} → Some a ≡ Some b → a ≡ b
        the_run e = cc
    go (Some r) (suc k) e c = absurd c

pub carried_is : (runs : List Run) (t : Entry) (run : Run) (name : DocList) → IsTakenOf runs t → t.is_gone ≡ false → run ≡ get_or runs t.run run →
    t.left ≡ None → t.right ≡ None → run.list ≡ Some name → list_or_root (carried_of runs t) ≡ name
carried_is runs t run name is told here no_left no_right named = rw told
    (run_list runs t.run run t.offset t.left t.right name is.run_there here no_left no_right (subst (λ b. TellsRight b runs t) told is.told).list named)
