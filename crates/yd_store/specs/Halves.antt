-- The halves of a pair in a store, and what becomes of one whose partner is told less (that it becomes U+FFFD is own).
use Rattle.std.specs.Prelude.{◌≡◌, ◌⊎◌, ◌+◌, ℕ, zero, suc, List, [], ◌∷◌, Option, Some, None, slice_get, if◌then◌else◌}
use Rattle.yd_ids.specs.declared.id.Id.{Id}
use Rattle.yd_ids.specs.declared.id.Span.{Span}
use Rattle.yd_ids.specs.Ids.{is_same}
use Rattle.yd_ids.specs.Span.{InSpan}
use Rattle.yd_ops.specs.Value.{ContentValue, json, binary, string, embed, format, nested, any, deleted, RunValue}
use Rattle.yd_ops.specs.Operation.{text_unit, Operation, ArePartners, later_id}
use Rattle.yd_store.specs.declared.halves.Torn.{Torn}
use Rattle.yd_store.specs.declared.halves.TextUnit.{TextUnit}
use Rattle.yd_store.specs.Store.{Stored}
use Rattle.yd_store.specs.Units.{HasOperation}
use Rattle.yd_store.specs.Integrating.{IsBorderAt, IsBorderBehind}

-- the units with the ids are one pair, the first its high half and the second its low one
pub record HasPair (it : Stored) (high low : Id) : Type 0 where
  pub first : Operation
  pub second : Operation
  pub has_first : HasOperation it first
  pub has_second : HasOperation it second
  pub first_id : first.id ≡ high
  pub second_id : second.id ≡ low
  pub partners : ArePartners first second

-- the first id of a span, and the one behind its last
abbrev pub first_id : Span → Id
first_id span = record { client = span.client; clock = span.clock }

abbrev pub end_id : Span → Id
end_id span = record { client = span.client; clock = span.clock + span.len }

-- the unit with the id is none of the span, and its partner is one
pub record LosesPartner (it : Stored) (span : Span) (id : Id) : Type 0 where
  pub outside : InSpan span id → ⊥
  pub partner : Id
  pub inside : InSpan span partner
  pub pair : HasPair it id partner ⊎ HasPair it partner id

-- an operation as U+FFFD
abbrev pub torn : Operation → Operation
torn o = record { id = o.id; left_origin = o.left_origin; right_origin = o.right_origin; list = o.list; content = text_unit 0xFFFD }

-- an operation, as U+FFFD where it has the id
abbrev pub torn_at : Option Id → Operation → Operation
torn_at None o = o
torn_at (Some id) o = if is_same o.id id then torn o else o

-- ---- what a store tells of one id

-- the text unit that a content has behind so many others
abbrev pub text_at : ContentValue → ℕ → Option ℕ
text_at (string units) n = slice_get units n
text_at (json values) n = None
text_at (binary blob) n = None
text_at (embed t) n = None
text_at (format key t) n = None
text_at (nested kind) n = None
text_at (any ts) n = None
text_at (deleted count) n = None

-- the left origin of a run's unit behind so many others
abbrev pub left_at : Id → Option Id → ℕ → Option Id
left_at id left zero = left
left_at id left (suc n) = Some (later_id id n)

-- the unit with the id is of a text
pub record HasText (it : Stored) (id : Id) (text : TextUnit) : Type 0 where
  pub operation : Operation
  pub there : HasOperation it operation
  pub id_is : operation.id ≡ id
  pub content_is : operation.content ≡ text_unit text.unit
  pub left_is : operation.left_origin ≡ text.left

-- the unit with the id is told, and is of a text
pub record IsKnown (it : Stored) (id : Id) : Type 0 where
  pub operation : Operation
  pub there : HasOperation it operation
  pub id_is : operation.id ≡ id
  pub unit : ℕ
  pub known : operation.content ≡ text_unit unit

-- the unit with the id is of a text, and it is a run of its own
pub record IsAlone (it : Stored) (id : Id) : Type 0 where
  pub known : IsKnown it id
  pub front : IsBorderAt it id
  pub back : IsBorderBehind it id

-- the half, if there is one, is a run of its own, and the one unit U+FFFD is to stand for it
abbrev pub IsFreed : Stored → Option Id → Option Torn → Type 0
IsFreed it None None = Unit {0}
IsFreed it None (Some t) = ⊥
IsFreed it (Some half) None = ⊥
IsFreed it (Some half) (Some t) = (t.half ≡ half) × (t.units ≡ 0xFFFD ∷ []) × IsAlone it half

-- the half for which U+FFFD stands
abbrev pub half_of : Option Torn → Option Id
half_of None = None
half_of (Some t) = Some t.half

-- what a place tells, with a text in place of what it holds
abbrev pub told_as : List ℕ → Option RunValue → Option RunValue
told_as units None = None
told_as units (Some run) = Some (record { id = run.id; left = run.left; right = run.right; list = run.list; content = string units })

-- a content is a text
abbrev pub IsString : ContentValue → Type 0
IsString (string units) = Unit {0}
IsString (json values) = ⊥
IsString (binary blob) = ⊥
IsString (embed t) = ⊥
IsString (format key t) = ⊥
IsString (nested kind) = ⊥
IsString (any ts) = ⊥
IsString (deleted count) = ⊥

-- what a place tells is a text, if it tells anything
abbrev pub HoldsText : Option RunValue → Type 0
HoldsText None = Unit {0}
HoldsText (Some run) = IsString run.content
