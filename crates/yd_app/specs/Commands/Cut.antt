-- What `cut` writes of an update and a state vector (Yjs 13, diffUpdate; that it is grouped and keeps pairs whole is own).
use Rattle.std.specs.Prelude.{◌≡◌, ℕ, List, [], ◌∷◌, map, Option, None, Some}
use Rattle.std.specs.Global.{Vec}
use Rattle.yd_grouping.specs.Merged.{cut_update}
use Rattle.yd_ids.specs.Vector.{clock_of}
use Rattle.yd_ids.specs.declared.id.Client.{Client}
use Rattle.yd_ops.specs.Value.{UpdateValue}
use Rattle.yd_ops.specs.View.{update_value}
use Rattle.yd_files.specs.Seen.{inputs_with}
use Rattle.yd_files.specs.Verdict.{Inputs}
use Rattle.yd_files.specs.declared.kind.Kind.{Kind}
use Rattle.yd_files.specs.declared.kind.Kind.TheVariants as kinds
use Rattle.yd_app.specs.declared.commands.cutting.Cutting.{Cutting}
use Rattle.yd_app.specs.Commands.Convert.{StandsAgain, converted_bytes}
use Rattle.yd_asking.specs.declared.format.Format.{Format}
use Rattle.yd_asking.specs.declared.format.Format.TheVariants.{V1, V2}

-- the format of a file of the kind
abbrev pub form_of_kind : Kind → Format
form_of_kind kinds.V1 = V1
form_of_kind kinds.V2 = V2
form_of_kind kinds.Log = V1
form_of_kind kinds.Vector = V1
form_of_kind kinds.Script = V1

-- the format of the update's file, which stands behind that of the state vector
abbrev pub form_of : List Kind → Format
form_of [] = V1
form_of (first ∷ []) = V1
form_of (first ∷ kind ∷ more) = form_of_kind kind

-- of the first update what it has from the state vector on, with all its deletions, in the format
abbrev pub cut_bytes : Format → List (Client × ℕ) → List UpdateValue → List ℕ
cut_bytes form vector [] = []
cut_bytes form vector (update ∷ updates) = converted_bytes form (cut_update update (clock_of vector))

-- so of the update's format and of the first state vector
abbrev pub cut_output : List Kind → List (List (Client × ℕ)) → List UpdateValue → List ℕ
cut_output files [] updates = []
cut_output files (vector ∷ vectors) updates = cut_bytes (form_of files) vector updates

-- what is written stands for the cut
abbrev pub CutStands : Format → List (Client × ℕ) → List UpdateValue → Type 0
CutStands form vector [] = Unit {0}
CutStands form vector (update ∷ updates) = StandsAgain form (cut_bytes form vector (update ∷ updates)) (cut_update update (clock_of vector))

abbrev pub CutStandsAgain : List Kind → List (List (Client × ℕ)) → List UpdateValue → Type 0
CutStandsAgain files [] updates = Unit {0}
CutStandsAgain files (vector ∷ vectors) updates = CutStands (form_of files) vector updates

-- ---- files that are taken one after another

-- the files begin with a state vector and an update in V1, whatever follows, and the bytes are the cut of that update by that vector
pub record IsCutBehind (inputs : Inputs) (bytes : List ℕ) : Type 0 where
  pub vector : List (Client × ℕ)
  pub update : UpdateValue
  pub kinds : (more : List Kind) × (inputs.kinds ≡ kinds.Vector ∷ kinds.V1 ∷ more)
  pub vectors : (more : List (List (Client × ℕ))) × (inputs.vectors ≡ vector ∷ more)
  pub updates : (more : List UpdateValue) × (inputs.updates ≡ update ∷ more)
  pub written : bytes ≡ converted_bytes V1 (cut_update update (clock_of vector))
  pub again : StandsAgain V1 bytes (cut_update update (clock_of vector))

-- the files stand for what was kept, where nothing was cut; else they begin with what was cut
abbrev pub HasCutOf : Option (Vec ℕ) → Inputs → Inputs → Type 0
HasCutOf None kept inputs = inputs ≡ kept
HasCutOf (Some bytes) kept inputs = IsCutBehind inputs bytes.items

abbrev pub HasCut : Cutting → Inputs → Type 0
HasCut cutting inputs = HasCutOf cutting.cut (inputs_with cutting.kept.others (map update_value cutting.kept.updates)) inputs

-- the file is an update in V1 behind one state vector, which is this, and nothing was cut yet
pub record IsFirstVector (kind : Kind) (kept : Inputs) (cut : Option (Vec ℕ)) (vector : List (Client × ℕ)) : Type 0 where
  pub is_v1 : kind ≡ kinds.V1
  pub none_cut : cut ≡ None
  pub kinds : kept.kinds ≡ kinds.Vector ∷ []
  pub vectors : (more : List (List (Client × ℕ))) × (kept.vectors ≡ vector ∷ more)
  pub updates : kept.updates ≡ []
