-- What is answered of so many steps.
use Rattle.std.specs.Prelude.{◌≡◌, ◌↔◌, ◌≤◌, ◌^◌, ℕ, true, IsTrue, length}
use Rattle.yd_meaning.specs.Document.{document_of}
use Rattle.yd_meaning.specs.Held.{count_of_ids, held_set}
use Rattle.yd_editing.specs.TextEdit.{counted_units}
use Rattle.yd_generator.specs.Generated.{Three, delete_set_of, ended, text_list}
use Rattle.yd_generator.specs.Law.{AreAccepted, AreEqual}
use Rattle.yd_generating.specs.declared.fault.GenerateFault.{GenerateFault}
use Rattle.yd_generating.specs.declared.fault.GenerateFault.TheVariants.{NoMemory, Refused}
use Rattle.yd_generating.specs.declared.generating.Generated.{Generated}

-- the numbers are those of the first replica, and the test tells whether the three are equal
pub record IsLineOf (found : Generated) (g : Three) : Type 0 where
  pub held : found.held ≡ length (held_set g.first.operations)
  pub deleted : found.deleted ≡ count_of_ids (delete_set_of g.first)
  pub len : found.length ≡ length (counted_units (document_of g.first) text_list)
  pub equal : IsTrue found.equal ↔ AreEqual g

-- behind so many steps, of which none is refused, and two rounds of replies it is so, and the three are equal
pub record IsFoundOf (steps : ℕ) (found : Generated) : Type 0 where
  pub accepted : AreAccepted steps
  pub line : IsLineOf found (ended steps)
  pub equal : found.equal ≡ true

-- want of memory, or an edit is refused; none is within fewer than 2^53 steps
abbrev pub IsStop : ℕ → GenerateFault → Type 0
IsStop steps NoMemory = Unit {0}
IsStop steps (Refused fault) = 2 ^ 53 ≤ steps
