-- What it is that a file in V2 spells fields (Yjs 13, update format V2): each column stands for the values that go there, and the rest for the others.
use Rattle.std.specs.Prelude.{◌≡◌, ◌↔◌, ℕ, List, [], ◌∷◌, ◌++◌, Some}
use Rattle.yd_cols.specs.Column.{SpellsBytes, SpellsDiffs, SpellsStrings, SpellsUints}
use Rattle.yd_fields.specs.Field.{Field}
use Rattle.yd_fields.specs.UpdatePlan.{update_plan}
use Rattle.yd_ops.specs.Value.{UpdateValue}
use Rattle.yd_parts.specs.Part.{Unread, all_of}
use Rattle.yd_parts.specs.PartGrammar.{StandsPart}
use Rattle.yd_parts.specs.Plan.{Expects, PlanGives, give, ◌>>=◌}
use Rattle.yd_parts.specs.declared.fault.Column.TheVariants.{Head}
use Rattle.yd_v2.specs.Grammar.{StandsForV2}
use Rattle.yd_v2.specs.Part.{V2Plan}
use Rattle.yd_v2.specs.Plan.{FieldRead, v2_plan}
use Rattle.yd_v2.specs.Reading.{Columns, head_plan, most_structs}
use Rattle.yd_v2.specs.Standing.{SpellParts, V2Thing, among, clients_of, infos_of, keys_of, kinds_of, lefts_of, lengths_of, parents_of, rest_of, rights_of, strings_of}

-- a field without its place: its value, and the keys that are known behind it
abbrev pub placeless : {X : Type 0} → FieldRead X → V2Plan (X × List (List ℕ))
placeless read = give (read.value, read.known)

-- the field is these parts, where these keys are known, and then those are
abbrev pub IsInParts : Field → List (List ℕ) → List V2Thing → List (List ℕ) → Type 0
IsInParts f known things behind = Expects (v2_plan f.0 known >>= placeless) things (f.1, behind)

-- fields, one behind the other
abbrev pub AreInParts : List (List ℕ) → List Field → List V2Thing → Type 0
AreInParts known [] things = things ≡ []
AreInParts known (f ∷ fs) things = (front : List V2Thing) × (back : List V2Thing) × (behind : List (List ℕ)) × IsInParts f known front behind × AreInParts behind fs back × (things ≡ front ++ back)

-- a flag and nine columns stand at the head, each column stands for the values of the fields that go there, and the bytes behind the head for the other parts
pub record SpellsFields (bytes : List ℕ) (fields : List Field) : Type 0 where
  pub columns : Columns
  pub behind : Unread
  pub head : PlanGives StandsPart head_plan (all_of Head bytes) columns behind
  pub things : List V2Thing
  pub parts : AreInParts [] fields things
  pub keys : SpellsDiffs columns.keys (among keys_of things)
  pub clients : SpellsUints columns.clients (among clients_of things)
  pub lefts : SpellsDiffs columns.lefts (among lefts_of things)
  pub rights : SpellsDiffs columns.rights (among rights_of things)
  pub infos : SpellsBytes columns.infos (among infos_of things)
  pub strings : SpellsStrings columns.strings (among strings_of things)
  pub parents : SpellsBytes columns.parents (among parents_of things)
  pub kinds : SpellsUints columns.kinds (among kinds_of things)
  pub lengths : SpellsUints columns.lengths (among lengths_of things)
  pub rest : SpellParts (among rest_of things) behind.bytes

-- a file stands for an update just where it spells fields that make it
abbrev pub FilesAreColumns : Type 0
FilesAreColumns = (bytes : List ℕ) (u : UpdateValue) → StandsForV2 bytes u ↔ ((fields : List Field) × Expects (update_plan (Some most_structs)) fields u × SpellsFields bytes fields)
