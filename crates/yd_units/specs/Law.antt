-- The laws of units and texts.
use Rattle.std.specs.Prelude.{◌≡◌, ℕ, ◌≤◌, List, ◌∷◌, ◌++◌, length, take, drop, IsUtf8}
use Rattle.yd_units.specs.Half.{AreUnits, IsCut, IsWhole, IsLone}
use Rattle.yd_units.specs.Text.{units_of, text_of, replacement}

-- a text's units are whole, and make the text again
pub record TextsComeBack : Type 0 where
  pub same : (text : List ℕ) → IsUtf8 text → text_of (units_of text) ≡ text
  pub whole : (text : List ℕ) → IsUtf8 text → IsWhole (units_of text)
  pub fits : (text : List ℕ) → IsUtf8 text → AreUnits (units_of text)

-- any units make a text, and whole ones are its units
pub record UnitsComeBack : Type 0 where
  pub a_text : (units : List ℕ) → AreUnits units → IsUtf8 (text_of units)
  pub same : (units : List ℕ) → AreUnits units → IsWhole units → units_of (text_of units) ≡ units

-- what is cut between pairs is shown part by part, and a half without its partner as U+FFFD
pub record HalvesAreShown : Type 0 where
  pub parts : (before after : List ℕ) → ¬ (IsCut (before ++ after) (length before)) → text_of (before ++ after) ≡ text_of before ++ text_of after
  pub lone : (before : List ℕ) (unit : ℕ) (after : List ℕ) → IsLone before unit after → text_of (before ++ unit ∷ after) ≡ text_of before ++ replacement ++ text_of after

-- a cut between pairs leaves two whole lists, and two whole lists are joined to a whole one
pub record WholesStayWhole : Type 0 where
  pub front : (units : List ℕ) (n : ℕ) → n ≤ length units → IsWhole units → ¬ (IsCut units n) → IsWhole (take n units)
  pub back : (units : List ℕ) (n : ℕ) → n ≤ length units → IsWhole units → ¬ (IsCut units n) → IsWhole (drop n units)
  pub joined : (before after : List ℕ) → IsWhole before → IsWhole after → IsWhole (before ++ after)
