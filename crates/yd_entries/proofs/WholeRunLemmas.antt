-- A run all of whose units are new and go to one place, and which is kept itself.
use Rattle.std.proofs.Common.{◌≡◌, ℕ, ◌+◌, ◌-◌, Bool, false, true≢false, List, [], ◌∷◌, ◌++◌, length, take, drop, inr, refl, sym, subst, arith}
use Rattle.yd_ops.specs.declared.runs.Run.{Run}
use Rattle.yd_ops.specs.Value.{RunValue, len_of}
use Rattle.yd_ops.specs.View.{run_value}
use Rattle.yd_ops.proofs.OperationLemmas.{length-units_of_content, later_none}
use Rattle.yd_entries.specs.declared.entry.Entry.{Entry}
use Rattle.yd_entries.specs.Entries.{AreTaken, operations_in, PartsPair, GrowBy}
use Rattle.yd_entries.specs.Taking.{IsGap, IsRun, IsPiece, IsTakenNext, entry_from, operations_from_run, AddsGroup, AddsOne}
use Rattle.yd_entries.proofs.AddingLemmas.{whole_adds}
use Rattle.yd_entries.proofs.BringingLemmas.{kept_last, grown_are, adds_behind, new_adds}
use Rattle.yd_entries.proofs.CutLemmas.{cut_inside}
use Rattle.yd_entries.proofs.EntryLemmas.{room_is_free}
use Rattle.yd_entries.proofs.StepLemmas.{walk_known, walk_on, walk_ends}

module _ (is_gone : Bool) (run : RunValue) (runs : List Run) (taken : List Entry) (at : ℕ) (are : AreTaken runs taken) (is : IsRun is_gone run)
    (gap : IsGap taken at run.id (len_of run.content) (len_of run.content)) where
  -- all its units are one piece
  is_piece : IsPiece run.content 0 (0 + len_of run.content) (len_of run.content) false
  is_piece = record {
    bound = (is.has_units, omega arith);
    torn = λ torn. absurd (true≢false (sym torn));
    whole = λ e. ((λ cut. omega (arith, (cut_inside run.content 0 cut).0)), (λ same. at_end));
    rest = λ cut. absurd (at_end cut);
  }
    where
      at_end : PartsPair run.content (0 + len_of run.content) → ⊥
      at_end cut = omega (arith, (cut_inside run.content (0 + len_of run.content) cut).1, length-units_of_content run.content)

  pub whole_added : (kept : Run) (new_runs : List Run) (new_taken : List Entry) → new_runs ≡ runs ++ kept ∷ [] → run_value kept ≡ run →
      new_taken ≡ take at taken ++ entry_from is_gone run 0 (length runs) (len_of run.content) ∷ drop at taken →
      AddsGroup runs taken new_runs new_taken (operations_from_run is_gone run)
  whole_added kept new_runs new_taken grown same placed =
      let grows : GrowBy runs new_runs = (kept ∷ [], grown) in
      let there = kept_last runs new_runs kept run (length runs) grown refl same in
      let new_are = grown_are runs new_runs taken grows are in
      let all : len_of run.content - 0 ≡ len_of run.content = omega arith in
      let next : IsTakenNext is_gone new_runs taken new_runs new_taken run 0 (len_of run.content) = record {
        at = at;
        new = len_of run.content;
        torn = false;
        gap = rw (later_none run.id, all) gap;
        piece = is_piece;
        adds = whole_adds new_runs taken run at 0 is_gone is (length runs) (len_of run.content) (0 + len_of run.content) new_taken there is_piece (omega arith) placed;
      } in
      adds_behind runs new_runs new_runs taken new_taken (operations_from_run is_gone run) grows are
      (walk_ends is_gone run new_runs taken new_runs new_taken (len_of run.content)
      (walk_on is_gone run new_runs taken new_runs taken 0 (len_of run.content) is
      (walk_known is_gone run new_runs taken 0 new_are (omega arith) (λ k less. absurd (omega arith))) is.has_units (omega arith) new_runs new_taken (inr (subst (IsTakenNext is_gone new_runs taken new_runs new_taken run 0) (sym all) next)))
      (omega arith))

  pub whole_is_new : AddsOne (operations_from_run is_gone run) (operations_in runs taken)
  whole_is_new = new_adds is_gone runs taken run 0 are is.has_units (room_is_free taken at run.id (len_of run.content) 0 gap.room is.has_units)
