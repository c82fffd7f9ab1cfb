-- Which parts are left of a file in V2: each column has those that go there, in their order, and the rest has the others.
use Rattle.std.specs.Prelude.{◌≡◌, ℕ, List, [], ◌∷◌, ◌++◌, IsUtf8}
use Rattle.yd_cols.specs.Standing.{BytesStand, DiffsStand, StringsStand, UintsStand}
use Rattle.yd_num.specs.Grammar.{Joins}
use Rattle.yd_parts.specs.Part.{Part, PartValue}
use Rattle.yd_parts.specs.PartGrammar.{SpellsPart}
use Rattle.yd_v2.specs.Left.{V2Left}
use Rattle.yd_v2.specs.Part.{V2Part, V2Value, client, flag, info, key_number, kind, left_clock, len, rest, right_clock, string}

-- a part, and what it holds
abbrev pub V2Thing : Type 0
V2Thing = (t : V2Part) × V2Value t

-- ---- where a part goes

-- the numbers of keys: those of a part
abbrev pub keys_of : (t : V2Part) → V2Value t → List ℕ
keys_of key_number v = v ∷ []
keys_of t v = []

-- the clients: those of a part
abbrev pub clients_of : (t : V2Part) → V2Value t → List ℕ
clients_of client v = v ∷ []
clients_of t v = []

-- the clocks of left origins: those of a part
abbrev pub lefts_of : (t : V2Part) → V2Value t → List ℕ
lefts_of left_clock v = v ∷ []
lefts_of t v = []

-- the clocks of right origins: those of a part
abbrev pub rights_of : (t : V2Part) → V2Value t → List ℕ
rights_of right_clock v = v ∷ []
rights_of t v = []

-- the info bytes: those of a part
abbrev pub infos_of : (t : V2Part) → V2Value t → List ℕ
infos_of info v = v ∷ []
infos_of t v = []

-- the strings: those of a part
abbrev pub strings_of : (t : V2Part) → V2Value t → List (List ℕ)
strings_of string v = v ∷ []
strings_of t v = []

-- the flags of parents: those of a part
abbrev pub parents_of : (t : V2Part) → V2Value t → List ℕ
parents_of flag v = v ∷ []
parents_of t v = []

-- the numbers of types: those of a part
abbrev pub kinds_of : (t : V2Part) → V2Value t → List ℕ
kinds_of kind v = v ∷ []
kinds_of t v = []

-- the lengths: those of a part
abbrev pub lengths_of : (t : V2Part) → V2Value t → List ℕ
lengths_of len v = v ∷ []
lengths_of t v = []

-- a part of the rest, and what it holds
abbrev pub RestThing : Type 0
RestThing = (t : Part) × PartValue t

-- the parts of the rest: those of a part
abbrev pub rest_of : (t : V2Part) → V2Value t → List RestThing
rest_of (rest part) v = (part, v) ∷ []
rest_of t v = []

-- those of parts, one part after another
abbrev pub among : {V : Type 0} → ((t : V2Part) → V2Value t → List V) → List V2Thing → List V
among of_part [] = []
among of_part (thing ∷ things) = of_part thing.0 thing.1 ++ among of_part things

-- the bytes spell parts, one after another
abbrev pub SpellParts : List RestThing → List ℕ → Type 0
SpellParts [] bytes = bytes ≡ []
SpellParts (thing ∷ things) bytes = Joins (λ front. SpellsPart thing.0 thing.1 front) (λ back. SpellParts things back) bytes

-- ---- what is left

-- these parts are left, and no others
pub record PartsStand (left : V2Left) (things : List V2Thing) : Type 0 where
  pub keys : DiffsStand left.keys (among keys_of things)
  pub clients : UintsStand left.clients (among clients_of things)
  pub lefts : DiffsStand left.lefts (among lefts_of things)
  pub rights : DiffsStand left.rights (among rights_of things)
  pub infos : BytesStand left.infos (among infos_of things)
  pub strings : StringsStand left.strings (among strings_of things)
  pub parents : BytesStand left.parents (among parents_of things)
  pub kinds : UintsStand left.kinds (among kinds_of things)
  pub lengths : UintsStand left.lengths (among lengths_of things)
  pub rest : SpellParts (among rest_of things) left.rest.bytes
  pub text : IsUtf8 left.strings.text
