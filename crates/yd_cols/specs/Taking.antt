-- Which value is the next of a column, and why there is none: the grammar, without reading.
use Rattle.std.specs.Prelude.{◌≡◌, ◌≢◌, ◌⊎◌, ℕ, suc, ◌+◌, ◌^◌, ◌<◌, ◌≤◌, ℤ, pos, ◌+ℤ◌, ◌*ℤ◌, ◌<ℤ◌, ◌≤ℤ◌, true, false, List, [], ◌∷◌, ◌++◌, length, encode_utf8_all}
use Rattle.std.specs.Char.Escape.{encode_utf16}
use Rattle.std.specs.List.{flat_map}
use Rattle.std.specs.Str.{chars}
use Rattle.yd_cols.specs.Column.{SpellsByteRun, SpellsDiffRun, SpellsInteger, SpellsUintRun}
use Rattle.yd_cols.specs.Reading.{BytesLeft, DiffsLeft, RunsLeft, StringsLeft}
use Rattle.yd_cols.specs.declared.fault.ColCause.{ColCause}
use Rattle.yd_cols.specs.declared.fault.ColCause.TheVariants.{ShortInput, NumberTooLarge, BadUtf8, HalfPair, ColumnLeft}
use Rattle.yd_cols.specs.declared.fault.ColFault.{ColFault}
use Rattle.yd_cols.specs.declared.run.Run.{Run}
use Rattle.yd_num.specs.Grammar.{Begins, EndsInside, Joins}
use Rattle.yd_num.specs.Number.{IsTooLarge, IsTooLong, SpellsUnsigned}
use Rattle.yd_num.specs.Signed.{SpellsSigned}
use Rattle.yd_num.specs.declared.signed.Signed.{Signed}

-- ---- runs

-- the value is in hand
pub record IsInHand {V : Type 0} (left : RunsLeft V) (v : V) (next : RunsLeft V) : Type 0 where
  pub more : ℕ
  pub there : left.more ≡ suc more
  pub value : v ≡ left.value
  pub next_is : next ≡ record { value = left.value; more = more; at = left.at; place = left.place; bytes = left.bytes }

-- none is in hand, and the value is that of the run at the front
pub record OpensRun {V : Type 0} (Spells : List ℕ → Run V → Type 0) (left : RunsLeft V) (v : V) (next : RunsLeft V) : Type 0 where
  pub none : left.more ≡ 0
  pub run : Run V
  pub front : List ℕ
  pub rest : List ℕ
  pub spelled : Spells front run
  pub joined : left.bytes ≡ front ++ rest
  pub value : v ≡ run.value
  pub next_is : next ≡ record { value = run.value; more = run.more; at = left.place; place = left.place + length front; bytes = rest }

-- the value is the next one, and this is left behind it
abbrev pub TakesRun : {V : Type 0} → (List ℕ → Run V → Type 0) → RunsLeft V → V → RunsLeft V → Type 0
TakesRun Spells left v next = IsInHand left v next ⊎ OpensRun Spells left v next

-- none is in hand, and no run stands at the front, for a cause that lies in its bytes
pub record LacksRun {V : Type 0} (Lacking : List ℕ → ColCause → Type 0) (left : RunsLeft V) (fault : ColFault) : Type 0 where
  pub none : left.more ≡ 0
  pub lacking : Lacking left.bytes fault.cause
  pub place : fault.at ≡ left.place

-- ---- numbers

-- the number is the next one
abbrev pub TakesUint : RunsLeft ℕ → ℕ → RunsLeft ℕ → Type 0
TakesUint left v next = TakesRun SpellsUintRun left v next

-- a number in range with a minus stands at the front, and behind it no count, for this reason
abbrev pub LacksCount : (List ℕ → Type 0) → List ℕ → Type 0
LacksCount Behind bytes = (v : ℕ) × (v < 2 ^ 53) × Joins (λ front. SpellsSigned front (record { negative = true; size = v })) Behind bytes

-- a signed number whose size is out of range stands at the front
abbrev pub IsPastRange : List ℕ → Type 0
IsPastRange bytes = (n : Signed) × (2 ^ 53 ≤ n.size) × Begins (λ front. SpellsSigned front n) bytes

-- no run of numbers stands at the front, for this cause
abbrev pub LacksUintRun : List ℕ → ColCause → Type 0
LacksUintRun bytes ShortInput = EndsInside SpellsSigned bytes ⊎ LacksCount (EndsInside SpellsUnsigned) bytes
LacksUintRun bytes NumberTooLarge = IsTooLong bytes ⊎ IsPastRange bytes ⊎ LacksCount IsTooLarge bytes
LacksUintRun bytes BadUtf8 = ⊥
LacksUintRun bytes HalfPair = ⊥
LacksUintRun bytes ColumnLeft = ⊥

-- there is no next number
abbrev pub LacksUint : RunsLeft ℕ → ColFault → Type 0
LacksUint left fault = LacksRun LacksUintRun left fault

-- ---- differences

-- the number is the next one: as far from the one before it as the next difference says
pub record TakesDiff (left : DiffsLeft) (v : ℕ) (next : DiffsLeft) : Type 0 where
  pub step : ℤ
  pub taken : TakesRun SpellsDiffRun left.runs step next.runs
  pub value : pos left.before +ℤ step ≡ pos v
  pub in_range : v < 2 ^ 53
  pub before : next.before ≡ v

-- a number that opens a run of several differences stands at the front, which is odd, and behind it no count, for this reason
abbrev pub LacksDiffCount : (List ℕ → Type 0) → List ℕ → Type 0
LacksDiffCount Behind bytes = (d : ℤ) × Joins (λ front. SpellsInteger front ((pos 2 *ℤ d) +ℤ pos 1)) Behind bytes

-- no run of differences stands at the front, for this cause
abbrev pub LacksDiffRun : List ℕ → ColCause → Type 0
LacksDiffRun bytes ShortInput = EndsInside SpellsSigned bytes ⊎ LacksDiffCount (EndsInside SpellsUnsigned) bytes
LacksDiffRun bytes NumberTooLarge = IsTooLong bytes ⊎ LacksDiffCount IsTooLarge bytes
LacksDiffRun bytes BadUtf8 = ⊥
LacksDiffRun bytes HalfPair = ⊥
LacksDiffRun bytes ColumnLeft = ⊥

-- the next difference leads out of range
pub record StepsOut (left : DiffsLeft) (fault : ColFault) : Type 0 where
  pub step : ℤ
  pub runs : RunsLeft ℤ
  pub taken : TakesRun SpellsDiffRun left.runs step runs
  pub out : ((pos left.before +ℤ step) <ℤ pos 0) ⊎ (pos (2 ^ 53) ≤ℤ (pos left.before +ℤ step))
  pub fault_is : fault ≡ record { cause = NumberTooLarge; at = runs.at }

-- there is no next number
abbrev pub LacksDiff : DiffsLeft → ColFault → Type 0
LacksDiff left fault = LacksRun LacksDiffRun left.runs fault ⊎ StepsOut left fault

-- ---- bytes

-- the last run has no count, and gives one more of its byte
pub record IsOpen (left : BytesLeft) (b : ℕ) (next : BytesLeft) : Type 0 where
  pub opened : left.is_open ≡ true
  pub value : b ≡ left.runs.value
  pub next_is : next ≡ left

-- the byte is in hand, or opens a run with a count
pub record IsCounted (left : BytesLeft) (b : ℕ) (next : BytesLeft) : Type 0 where
  pub closed : left.is_open ≡ false
  pub still_closed : next.is_open ≡ false
  pub taken : TakesRun SpellsByteRun left.runs b next.runs

-- none is in hand, and the byte is the only one that is left
pub record OpensLast (left : BytesLeft) (b : ℕ) (next : BytesLeft) : Type 0 where
  pub closed : left.is_open ≡ false
  pub none : left.runs.more ≡ 0
  pub only : left.runs.bytes ≡ b ∷ []
  pub next_is : next ≡ record { is_open = true; runs = record { value = b; more = 0; at = left.runs.place; place = suc left.runs.place; bytes = [] } }

-- the byte is the next one
abbrev pub TakesByte : BytesLeft → ℕ → BytesLeft → Type 0
TakesByte left b next = IsOpen left b next ⊎ IsCounted left b next ⊎ OpensLast left b next

-- a byte stands at the front with some behind it, and these are no count, for this reason
abbrev pub LacksByteCount : (List ℕ → Type 0) → List ℕ → Type 0
LacksByteCount Behind bytes = (b : ℕ) × (rest : List ℕ) × (rest ≢ []) × (bytes ≡ b ∷ rest) × Behind rest

-- no run of bytes stands at the front, for this cause
abbrev pub LacksByteRun : List ℕ → ColCause → Type 0
LacksByteRun bytes ShortInput = (bytes ≡ []) ⊎ LacksByteCount (EndsInside SpellsUnsigned) bytes
LacksByteRun bytes NumberTooLarge = LacksByteCount IsTooLarge bytes
LacksByteRun bytes BadUtf8 = ⊥
LacksByteRun bytes HalfPair = ⊥
LacksByteRun bytes ColumnLeft = ⊥

-- there is no next byte
pub record LacksByte (left : BytesLeft) (fault : ColFault) : Type 0 where
  pub closed : left.is_open ≡ false
  pub lacking : LacksRun LacksByteRun left.runs fault

-- ---- strings

-- how many units characters have
abbrev pub units_of_chars : List ℕ → ℕ
units_of_chars cs = length (flat_map encode_utf16 cs)

-- the string is the next one: the characters at the front of the text that have as many units as the next length says
pub record TakesString (left : StringsLeft) (string : List ℕ) (next : StringsLeft) : Type 0 where
  pub front : List ℕ
  pub back : List ℕ
  pub joined : chars left.text ≡ front ++ back
  pub taken : TakesUint left.lengths (units_of_chars front) next.lengths
  pub string_is : string ≡ encode_utf8_all front
  pub text_is : next.text ≡ encode_utf8_all back

-- the text cannot be cut behind so many units, for this cause: it has fewer, or the cut parts the units of one character
abbrev pub CannotCut : List ℕ → ℕ → ColCause → Type 0
CannotCut cs units ShortInput = units_of_chars cs < units
CannotCut cs units HalfPair = (front : List ℕ) × (c : ℕ) × (back : List ℕ) × (cs ≡ front ++ c ∷ back) × (2 ^ 16 ≤ c) × (units ≡ units_of_chars front + 1)
CannotCut cs units NumberTooLarge = ⊥
CannotCut cs units BadUtf8 = ⊥
CannotCut cs units ColumnLeft = ⊥

-- the next length does not fit the text
pub record CutsBadly (left : StringsLeft) (fault : ColFault) : Type 0 where
  pub units : ℕ
  pub lengths : RunsLeft ℕ
  pub taken : TakesUint left.lengths units lengths
  pub cannot : CannotCut (chars left.text) units fault.cause
  pub place : fault.at ≡ lengths.at

-- there is no next string
abbrev pub LacksString : StringsLeft → ColFault → Type 0
LacksString left fault = LacksUint left.lengths fault ⊎ CutsBadly left fault
