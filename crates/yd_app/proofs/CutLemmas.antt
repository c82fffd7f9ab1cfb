-- What the taker of the files of a cut has taken, file by file.
use Rattle.std.proofs.Common.{◌≡◌, ◌∙◌, ℕ, List, [], ◌∷◌, ◌++◌, map, Option, Some, None, Result, Ok, Err, IfOk, refl, subst, sym, ap}
use Rattle.std.specs.Global.{Vec}
use Rattle.yd_grouping.specs.Merged.{cut_update}
use Rattle.yd_ids.specs.Vector.{clock_of}
use Rattle.yd_ids.specs.declared.id.Client.{Client}
use Rattle.yd_ops.specs.Value.{UpdateValue}
use Rattle.yd_ops.specs.View.{update_value}
use Rattle.yd_ops.specs.declared.updates.Update.{Update}
use Rattle.yd_fields.specs.UpdatePlan.{update_plan}
use Rattle.yd_v1.specs.Grammar.{StandsForV1}
use Rattle.yd_v1.proofs.FileLemmas.{whole_fills}
use Rattle.yd_skimming.specs.Cutting.{CutsV1}
use Rattle.yd_files.specs.Reading.{HaveTaken, TakesFile, no_inputs, with_content}
use Rattle.yd_files.specs.Seen.{inputs_with}
use Rattle.yd_files.specs.Verdict.{Content, Inputs, StandsIn, one_update, updates_of, vectors_of}
use Rattle.yd_files.specs.declared.inputs.Others.{Others}
use Rattle.yd_files.specs.declared.kind.Kind.{Kind}
use Rattle.yd_files.specs.declared.kind.Kind.TheVariants as kinds
use Rattle.yd_asking.specs.Command.{cut}
use Rattle.yd_app.specs.Commands.Cut.{HasCutOf, IsCutBehind, IsFirstVector, CutStandsAgain, cut_output}
use Rattle.yd_app.specs.Output.{IsMadeOf}

-- what was cut stays what the files begin with, whatever follows
behind_more : (inputs : Inputs) (kind : Kind) (content : Content) (bytes : List ℕ) → IsCutBehind inputs bytes → IsCutBehind (with_content inputs kind content) bytes
behind_more inputs kind content bytes b = record {
  vector = b.vector;
  update = b.update;
  kinds = (b.kinds.0 ++ kind ∷ [], ap (λ (ks : List Kind). ks ++ kind ∷ []) b.kinds.1);
  vectors = (b.vectors.0 ++ vectors_of content, ap (λ (vs : List (List (Client × ℕ))). vs ++ vectors_of content) b.vectors.1);
  updates = (b.updates.0 ++ updates_of content, ap (λ (us : List UpdateValue). us ++ updates_of content) b.updates.1);
  written = b.written;
  again = b.again;
}

-- an update in V1 behind one state vector
first_behind : (inputs kept : Inputs) (kind : Kind) (done : Option (Vec ℕ)) (vector : List (Client × ℕ)) (bytes written : List ℕ) → inputs ≡ kept → IsFirstVector kind kept done vector → (cuts : CutsV1 bytes (clock_of vector) written)
    → IsCutBehind (with_content inputs kind (one_update cuts.update)) written
first_behind inputs kept kind done vector bytes written same first cuts = record {
  vector = vector;
  update = cuts.update;
  kinds = ([], ap (λ (i : Inputs). i.kinds ++ kind ∷ []) same ∙ ap (λ (ks : List Kind). ks ++ kind ∷ []) first.kinds ∙ ap (λ (k : Kind). kinds.Vector ∷ k ∷ []) first.is_v1);
  vectors = (first.vectors.0 ++ [], ap (λ (i : Inputs). i.vectors ++ []) same ∙ ap (λ (vs : List (List (Client × ℕ))). vs ++ []) first.vectors.1);
  updates = ([], ap (λ (i : Inputs). i.updates ++ cuts.update ∷ []) same ∙ ap (λ (us : List UpdateValue). us ++ cuts.update ∷ []) first.updates);
  written = cuts.written_is;
  again = cuts.again;
}

v1_stands : (kind : Kind) (bytes : List ℕ) (u : UpdateValue) → kind ≡ kinds.V1 → StandsForV1 bytes u → StandsIn kind bytes (one_update u)
v1_stands kind bytes u is stands = subst (λ (k : Kind). StandsIn k bytes (one_update u)) (sym is) (u, refl, stands)

-- ---- lemmas for callers

-- before the first file nothing is kept
pub cuts_none : (others : Others) (updates : List Update) → inputs_with others [] ≡ no_inputs → updates ≡ [] → no_inputs ≡ inputs_with others (map update_value updates)
cuts_none others updates none empty = sym none ∙ ap (λ (us : List Update). inputs_with others (map update_value us)) (sym empty)

-- an update that was cut while it was read
pub takes_cut : (kind : Kind) (bytes : List ℕ) (kept now : Inputs) (done : Option (Vec ℕ)) (vector : List (Client × ℕ)) (written : Vec ℕ) → IsFirstVector kind kept done vector → CutsV1 bytes (clock_of vector) written.items
    → TakesFile kind bytes (HasCutOf done kept) (HasCutOf (Some written) now)
takes_cut kind bytes kept now done vector written first cuts = record {
  content = one_update cuts.update;
  stands = v1_stands kind bytes cuts.update first.is_v1 (whole_fills (update_plan None) bytes cuts.update cuts.read);
  valid = (cuts.valid, tt);
  taken = λ before had. first_behind before kept kind done vector bytes written.items (subst (λ (c : Option (Vec ℕ)). HasCutOf c kept before) first.none_cut had) first cuts;
}

-- a file that was kept, or one behind what was cut
pub takes_kept : (kind : Kind) (bytes : List ℕ) (done : Option (Vec ℕ)) (old new : Others) (us vs : List Update)
    → TakesFile kind bytes (HaveTaken old (λ taken. taken ≡ map update_value us)) (HaveTaken new (λ taken. taken ≡ map update_value vs))
    → TakesFile kind bytes (HasCutOf done (inputs_with old (map update_value us))) (HasCutOf done (inputs_with new (map update_value vs)))
takes_kept kind bytes None old new us vs takes = record {
  content = takes.content;
  stands = takes.stands;
  valid = takes.valid;
  taken = λ before is.
      let updates : before.updates ≡ map update_value us = ap (λ (i : Inputs). i.updates) is in
      let now = takes.taken before (record { inputs_are = is ∙ ap (inputs_with old) (sym updates); updates = updates }) in
      now.inputs_are ∙ ap (inputs_with new) now.updates;
}
takes_kept kind bytes (Some written) old new us vs takes = record {
  content = takes.content;
  stands = takes.stands;
  valid = takes.valid;
  taken = λ before behind. behind_more before kind takes.content written.items behind;
}

-- what was cut is what the command makes
pub behind_made : (name : List ℕ) (inputs : Inputs) (bytes : List ℕ) → IsCutBehind inputs bytes → IsMadeOf (cut name) inputs bytes
behind_made name inputs bytes b = record {
  is_output = rw (b.kinds.1, b.vectors.1, b.updates.1) b.written;
  again = rw (b.kinds.1, b.vectors.1, b.updates.1) (subst (λ (bs : List ℕ). StandsForV1 bs (cut_update b.update (clock_of b.vector))) b.written b.again);
}

-- and so is what is made of what was kept
pub kept_made : (name : List ℕ) (done : Option (Vec ℕ)) (kept inputs : Inputs) (bytes : List ℕ) → done ≡ None → HasCutOf done kept inputs → IsMadeOf (cut name) kept bytes → IsMadeOf (cut name) inputs bytes
kept_made name done kept inputs bytes none had made =
    subst (λ (i : Inputs). IsMadeOf (cut name) i bytes) (sym (subst (λ (c : Option (Vec ℕ)). HasCutOf c kept inputs) none had)) made

pub kept_all : {E : Type 0} (done : Option (Vec ℕ)) (kept : Inputs) (result : Result (Vec ℕ) E) → done ≡ None → ((name : List ℕ) → IfOk result (λ bytes. IsMadeOf (cut name) kept bytes.items))
    → IfOk result (λ bytes. (name : List ℕ) (inputs : Inputs) → HasCutOf done kept inputs → IsMadeOf (cut name) inputs bytes.items)
kept_all done kept (Ok bytes) none made = λ name inputs had. kept_made name done kept inputs bytes.items none had (made name)
kept_all done kept (Err e) none made = tt
