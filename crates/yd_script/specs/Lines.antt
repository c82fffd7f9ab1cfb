-- The lines of a script: each ends with a line feed, and the last may lack it. Empty lines count, and are left out (own).
use Rattle.std.specs.Prelude.{ℕ, suc, ◌==◌, List, [], ◌∷◌, if◌then◌else◌}
use Rattle.yd_script.specs.declared.lines.NumberedLine.{NumberedLine}

-- a line feed
abbrev pub line_feed : ℕ
line_feed = 10

-- the lines with one byte more at the front of the first
abbrev pub with_byte : ℕ → List (List ℕ) → List (List ℕ)
with_byte b [] = (b ∷ []) ∷ []
with_byte b (line ∷ lines) = (b ∷ line) ∷ lines

-- the lines of a text, without their line feeds
abbrev pub lines_of : List ℕ → List (List ℕ)
lines_of [] = []
lines_of (b ∷ bs) = if b == line_feed then [] ∷ lines_of bs else with_byte b (lines_of bs)

-- a line that is not empty, and its number
pub record Numbered : Type 0 where
  pub number : ℕ
  pub text : List ℕ

-- the lines that are not empty, behind so many lines
abbrev pub numbered_behind : ℕ → List (List ℕ) → List Numbered
numbered_behind before [] = []
numbered_behind before ([] ∷ lines) = numbered_behind (suc before) lines
numbered_behind before ((b ∷ bs) ∷ lines) = record { number = suc before; text = b ∷ bs } ∷ numbered_behind (suc before) lines

-- the lines of a text that are not empty, behind so many lines
abbrev pub lines_behind : ℕ → List ℕ → List Numbered
lines_behind before text = numbered_behind before (lines_of text)

-- the lines of a script
abbrev pub script_lines : List ℕ → List Numbered
script_lines text = lines_behind 0 text

-- the line that the code has
abbrev pub numbered_of : NumberedLine → Numbered
numbered_of line = record { number = line.number; text = line.text.now }
