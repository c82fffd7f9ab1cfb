-- What `generate` writes of a number of steps: one line, of the first of three replicas that edit by draws (own).
use Rattle.std.specs.Prelude.{◌≡◌, ◌↔◌, ℕ, Bool, true, false, IsTrue, List, ◌++◌, codes, decimal, length}
use Rattle.yd_meaning.specs.Document.{document_of}
use Rattle.yd_meaning.specs.Held.{count_of_ids, held_set}
use Rattle.yd_editing.specs.TextEdit.{counted_units}
use Rattle.yd_generator.specs.Generated.{Three, delete_set_of, ended, text_list}
use Rattle.yd_generator.specs.Law.{AreEqual}

-- a number behind its name, and a space
abbrev pub number_text : List ℕ → ℕ → List ℕ
number_text name count = name ++ codes " " ++ decimal count ++ codes " "

-- the last word
abbrev pub verdict : Bool → List ℕ
verdict true = codes "yes"
verdict false = codes "no"

-- so many units are held and so many of them deleted, so long is the text, and whether all are equal
abbrev pub told_line : ℕ → ℕ → ℕ → Bool → List ℕ
told_line held deleted len equal =
    number_text (codes "held") held ++ number_text (codes "deleted") deleted ++ number_text (codes "length") len ++ codes "equal " ++ verdict equal ++ codes "\n"

-- the line of three replicas has the numbers of the first one
abbrev pub generated_line : Three → Bool → List ℕ
generated_line g equal = told_line (length (held_set g.first.operations)) (count_of_ids (delete_set_of g.first)) (length (counted_units (document_of g.first) text_list)) equal

-- the bytes are so of the replicas behind so many steps and two rounds of replies, and the last word is `yes` just where the three
-- have one text, one state vector and one delete set
pub record IsGenerated (steps : ℕ) (bytes : List ℕ) : Type 0 where
  pub equal : Bool
  pub tells : IsTrue equal ↔ AreEqual (ended steps)
  pub bytes_are : bytes ≡ generated_line (ended steps) equal
