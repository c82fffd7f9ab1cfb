-- The newest entry of a stack, and the others.
use Rattle.std.proofs.Common.{◌≡◌, ◌-◌, suc, List, [], ◌∷◌, Option, Some, None, length, take, refl, ap, ◌∙◌, arith}
use Rattle.std.specs.Prelude.{slice_get}
use Rattle.yd_ops.specs.Value.{UpdateValue}
use Rattle.yd_doc.specs.Editing.{IsCommitted}
use Rattle.yd_doc.specs.Kept.{Kept}
use Rattle.yd_undo.specs.declared.entry.Entry.{Entry}
use Rattle.yd_undo.specs.Stacks.{newest_entry, older_entries, IsUndone}
use Rattle.yd_undo.specs.Turn.{IsReady}

one_less : (e f : Entry) (es : List Entry) → length (e ∷ f ∷ es) - 1 ≡ suc (length (f ∷ es) - 1)
one_less e f es = grind arith

-- ---- lemmas for callers

pub newest_is : (es : List Entry) → slice_get es (length es - 1) ≡ newest_entry es
newest_is [] = refl
newest_is (e ∷ []) = refl
newest_is (e ∷ f ∷ es) = ap (slice_get (e ∷ f ∷ es)) (one_less e f es) ∙ newest_is (f ∷ es)

pub older_is : (es : List Entry) → take (length es - 1) es ≡ older_entries es
older_is [] = refl
older_is (e ∷ []) = refl
older_is (e ∷ f ∷ es) = ap (λ n. take n (e ∷ f ∷ es)) (one_less e f es) ∙ ap (λ (gs : List Entry). e ∷ gs) (older_is (f ∷ es))

-- an update that is ready and taken undoes the entry
pub undone : (entry : Option Entry) (old new : Kept) (update : UpdateValue) → IsReady entry old update → IsCommitted old new update → IsUndone entry old new update
undone None old new update ready taken = ready
undone (Some e) old new update ready taken = record {
  accepted = ready.accepted;
  made = ready.made;
  valid = ready.valid;
  received = taken.received;
  client = taken.client;
  is_behind = taken.is_behind;
  grows = taken.grows;
}
