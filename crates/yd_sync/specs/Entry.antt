-- Entries as they are sent: a client, a clock, and the text of a state, where the text `null` says that there is none (y-protocols,
-- encodeAwarenessUpdate; that no other text is read is own).
use Rattle.std.specs.Prelude.{◌≡◌, ℕ, false, List, [], ◌∷◌, ◌++◌, length, Option, Some, None, IfSome, codes, if◌then◌else◌}
use Rattle.std.specs.Str.{bytes_eq}
use Rattle.yd_ids.specs.Id.{IsClient, IsClock}
use Rattle.yd_fields.specs.Field.{Field, FieldPlan}
use Rattle.yd_fields.specs.Field as field
use Rattle.yd_parts.specs.Plan.{give, want, repeated}
use Rattle.yd_sync.specs.declared.entry.AwareEntry.{AwareEntry}

-- the state that a text tells
abbrev pub state_of : List ℕ → Option (List ℕ)
state_of text = if bytes_eq text (codes "null") then None else Some text

-- the text that tells a state
abbrev pub text_of_state : Option (List ℕ) → List ℕ
text_of_state None = codes "null"
text_of_state (Some text) = text

-- the text is a state
abbrev pub IsState : List ℕ → Type 0
IsState text = bytes_eq text (codes "null") ≡ false

-- an entry's client and clock are below 2^53, and its state, if it has one, is none of `null`
pub record IsEntry (e : AwareEntry) : Type 0 where
  pub client : IsClient e.client
  pub clock : IsClock e.clock
  pub state : IfSome e.state IsState

-- one more entry, behind those that were read
unfoldable pub aware_step : List AwareEntry → FieldPlan (List AwareEntry)
aware_step found = want field.number (λ client spot. want field.number (λ clock at. want field.string (λ text place.
    give (found ++ record { client = record { 0 = client }; clock = clock; state = state_of text } ∷ []))))

-- entries: how many there are, and then these
unfoldable pub aware_plan : FieldPlan (List AwareEntry)
aware_plan = want field.number (λ count spot. repeated aware_step count [])

-- the fields of entries, one after another
abbrev pub fields_of_each : List AwareEntry → List Field
fields_of_each [] = []
fields_of_each (e ∷ es) = (field.number, e.client.0) ∷ (field.number, e.clock) ∷ (field.string, text_of_state e.state) ∷ fields_of_each es

-- the fields of all entries
abbrev pub fields_of_aware : List AwareEntry → List Field
fields_of_aware es = (field.number, length es) ∷ fields_of_each es
