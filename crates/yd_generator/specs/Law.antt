-- The laws of the generator, as statements.
use Rattle.std.specs.Prelude.{◌≡◌, ◌<◌, ◌%◌, ◌^◌, ℕ, zero, suc, None}
use Rattle.yd_ids.specs.declared.id.Client.{Client}
use Rattle.yd_ids.specs.declared.id.Id.{Id}
use Rattle.yd_ops.specs.Received.{Received}
use Rattle.yd_meaning.specs.Deleted.{is_in_delete_set}
use Rattle.yd_meaning.specs.Document.{document_of}
use Rattle.yd_meaning.specs.Held.{held_clock, held_set}
use Rattle.yd_meaning.specs.Text.{shown_text}
use Rattle.yd_editing.specs.Basis.{basis_of}
use Rattle.yd_editing.specs.Refused.{refusal_of}
use Rattle.yd_generator.specs.Draws.{draws_from}
use Rattle.yd_generator.specs.declared.draws.Draws.{Draws}
use Rattle.yd_generator.specs.Generated.{Three, ended, generation, steps_drawn, text_list}
use Rattle.yd_generator.specs.Plain.{AreShared}

-- two replicas have the same text, the same state vector and the same delete set
pub record AreAlike (one other : Received) : Type 0 where
  pub text : shown_text (document_of one) text_list ≡ shown_text (document_of other) text_list
  pub vector : (client : ℕ) → held_clock (held_set one.operations) client ≡ held_clock (held_set other.operations) client
  pub delete_set : (x : Id) → is_in_delete_set one x ≡ is_in_delete_set other x

-- so have all three
pub record AreEqual (g : Three) : Type 0 where
  pub second : AreAlike g.first g.second
  pub third : AreAlike g.first g.third

-- the edit of a client by draws is not refused
abbrev pub IsAccepted : Client → Draws → Received → Type 0
IsAccepted client d r = refusal_of (basis_of client r) (steps_drawn d (document_of r)) ≡ None

-- that of the replica with a number
abbrev pub IsTurnAccepted : ℕ → Draws → Three → Type 0
IsTurnAccepted zero d g = IsAccepted (record { 0 = 1 }) d g.first
IsTurnAccepted (suc zero) d g = IsAccepted (record { 0 = 2 }) d g.second
IsTurnAccepted (suc (suc number)) d g = IsAccepted (record { 0 = 3 }) d g.third

-- none of so many edits is refused
abbrev pub AreAccepted : ℕ → Type 0
AreAccepted zero = Unit {0}
AreAccepted (suc n) = AreAccepted n × IsTurnAccepted (suc n % 3) (draws_from (generation n).state) (generation n).three

-- no edit is refused before the clocks are full, and behind steps that are not refused the replicas have letters of one
-- another, all held and by the edit rules; and behind the two rounds they are equal
pub record GenerationsConverge : Type 0 where
  pub accepted : (n : ℕ) → n < 2 ^ 53 → AreAccepted n
  pub shared : (n : ℕ) → AreAccepted n → AreShared (generation n).three
  pub equal : (n : ℕ) → AreAccepted n → AreEqual (ended n)
