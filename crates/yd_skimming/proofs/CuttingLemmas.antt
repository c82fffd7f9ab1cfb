-- What reading a file in V1 answers, as its reading, and the cut of an update that was read.
use Rattle.std.proofs.Common.{◌≡◌, ℕ, true, List, [], None, Err, inl, inr, sym, subst, ◌∙◌, true≢false}
use Rattle.yd_ids.specs.Vector.{clock_of}
use Rattle.yd_ids.specs.declared.id.Client.{Client}
use Rattle.yd_ids.specs.declared.id.Span.{Span}
use Rattle.yd_ops.specs.Valid.{IsValidUpdate}
use Rattle.yd_ops.specs.Value.{UpdateValue}
use Rattle.yd_grouping.specs.Merged.{cut_update}
use Rattle.yd_parts.specs.Fault.{IsFaultOf}
use Rattle.yd_parts.specs.declared.fault.ReadError.{ReadError}
use Rattle.yd_parts.specs.declared.fault.ReadError.TheVariants as errors
use Rattle.yd_fields.specs.UpdateFields.{fields_of_update}
use Rattle.yd_fields.specs.UpdatePlan.{update_plan}
use Rattle.yd_reading.specs.Answer.{AnswersRightly}
use Rattle.yd_reading.specs.Taking.{Section, sections_of}
use Rattle.yd_v1.specs.Bytes.{v1_bytes_of_all}
use Rattle.yd_v1.specs.Grammar.{HasFirstFaultV1, StandsForV1}
use Rattle.yd_v1.specs.Reading.{v1_reading}
use Rattle.yd_v1.specs.Taking.{TakesStructsV1}
use Rattle.yd_v1.proofs.FileLemmas.{files_read}
use Rattle.yd_skimming.specs.BlockWriting.{IsWrittenAs}
use Rattle.yd_skimming.specs.Cutter.{EndsCut, HasTaken, TookCut}
use Rattle.yd_skimming.specs.Cutting.{CutsV1}
use Rattle.yd_skimming.specs.declared.cutter.Cutter.{Cutter}

-- ---- lemmas for callers

-- the fault that is answered is that of the reading
pub fails_so : {X : Type 0} (value : X → UpdateValue) (bytes : List ℕ) (e : ReadError) → AnswersRightly value (StandsForV1 bytes) (HasFirstFaultV1 bytes) (Err e) → IsFaultOf (v1_reading bytes) e
fails_so value bytes errors.NoMemory right = tt
fails_so value bytes (errors.Fault cause spot) right = ((files_read (update_plan None)).faults bytes (record { cause = cause; spot = spot })).1 right

-- the cut of the update that bytes stand for
pub cuts_so : (bytes written : List ℕ) (vector : ℕ → ℕ) (update : UpdateValue) → StandsForV1 bytes update → IsValidUpdate update → IsWrittenAs written (cut_update update vector) →
    CutsV1 bytes vector written
cuts_so bytes written vector update stands valid is = record {
  update = update;
  read = ((files_read (update_plan None)).values bytes update).1 stands;
  valid = valid;
  written_is = is.written;
  again = is.again;
}

pub written_so : (written : List ℕ) (cut whole : UpdateValue) → cut ≡ whole → written ≡ v1_bytes_of_all (fields_of_update cut) → StandsForV1 written cut → IsWrittenAs written whole
written_so written cut whole is bytes_are again = subst (IsWrittenAs written) is (record { written = bytes_are; again = again })

-- what is plain at the end has taken all
plain_taken : (vector : List (Client × ℕ)) (cutter : Cutter) (sections : List Section) → cutter.is_plain ≡ true → TookCut vector cutter sections → HasTaken vector cutter sections
plain_taken vector cutter sections plain (inl e) = absurd (true≢false (sym plain ∙ e))
plain_taken vector cutter sections plain (inr taken) = taken

pub ends_so : (mine vector : List (Client × ℕ)) (bytes : List ℕ) (deletes : List Span) (old new : Cutter) → mine ≡ vector → HasTaken vector old [] →
    (took : TakesStructsV1 bytes deletes (TookCut mine old) (TookCut mine new)) → new.is_plain ≡ true → EndsCut vector new deletes took.update
ends_so mine vector bytes deletes old new e has took plain = record {
  valid = took.valid;
  taken = subst (λ v. HasTaken v new (sections_of took.update)) e
      (plain_taken mine new (sections_of took.update) plain (took.taken [] (inr (subst (λ v. HasTaken v old []) (sym e) has))));
  deletes_are = took.deletes_are;
}

pub cuts_taken : (vector : List (Client × ℕ)) (bytes : List ℕ) (deletes : List Span) (cutter : Cutter) (Took TookNow : List Section → Type 0) (written : List ℕ) →
    (took : TakesStructsV1 bytes deletes Took TookNow) → EndsCut vector cutter deletes took.update →
    ((v : List (Client × ℕ)) (u : UpdateValue) → EndsCut v cutter deletes u → IsWrittenAs written (cut_update u (clock_of v))) → CutsV1 bytes (clock_of vector) written
cuts_taken vector bytes deletes cutter Took TookNow written took ends writes = let is = writes vector took.update ends in record {
  update = took.update;
  read = took.is_read;
  valid = took.valid;
  written_is = is.written;
  again = is.again;
}
