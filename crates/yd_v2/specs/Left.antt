-- What is left of a file in V2: of each column, and of the rest, which stands behind the columns (Yjs 13, UpdateDecoderV2).
use Rattle.std.specs.Prelude.{ℕ}
use Rattle.yd_cols.specs.Reading.{BytesLeft, DiffsLeft, RunsLeft, StringsLeft}
use Rattle.yd_parts.specs.Part.{Unread}

-- what is left of the nine columns, and of the rest
pub record V2Left : Type 0 where
  pub keys : DiffsLeft
  pub clients : RunsLeft ℕ
  pub lefts : DiffsLeft
  pub rights : DiffsLeft
  pub infos : BytesLeft
  pub strings : StringsLeft
  pub parents : BytesLeft
  pub kinds : RunsLeft ℕ
  pub lengths : RunsLeft ℕ
  pub rest : Unread

-- ---- one of them moved on

-- this is left of the numbers of keys
abbrev pub with_keys : V2Left → DiffsLeft → V2Left
with_keys left next = record left { keys = next }

-- this is left of the clients
abbrev pub with_clients : V2Left → RunsLeft ℕ → V2Left
with_clients left next = record left { clients = next }

-- this is left of the clocks of left origins
abbrev pub with_lefts : V2Left → DiffsLeft → V2Left
with_lefts left next = record left { lefts = next }

-- this is left of the clocks of right origins
abbrev pub with_rights : V2Left → DiffsLeft → V2Left
with_rights left next = record left { rights = next }

-- this is left of the info bytes
abbrev pub with_infos : V2Left → BytesLeft → V2Left
with_infos left next = record left { infos = next }

-- this is left of the strings
abbrev pub with_strings : V2Left → StringsLeft → V2Left
with_strings left next = record left { strings = next }

-- this is left of the flags of parents
abbrev pub with_parents : V2Left → BytesLeft → V2Left
with_parents left next = record left { parents = next }

-- this is left of the numbers of types
abbrev pub with_kinds : V2Left → RunsLeft ℕ → V2Left
with_kinds left next = record left { kinds = next }

-- this is left of the lengths
abbrev pub with_lengths : V2Left → RunsLeft ℕ → V2Left
with_lengths left next = record left { lengths = next }

-- this is left of the rest
abbrev pub with_rest : V2Left → Unread → V2Left
with_rest left next = record left { rest = next }
