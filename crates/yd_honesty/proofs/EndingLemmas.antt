-- What the test of the past says of a held id.
use Rattle.std.proofs.Common.{◌≡◌, true, sym, subst}
use Rattle.std.specs.Prelude.{Decides}
use Rattle.yd_words.specs.Member.{IsIn}
use Rattle.yd_ids.specs.declared.id.Id.{Id}
use Rattle.yd_ops.specs.Received.{has_operation}
use Rattle.yd_ops.proofs.OneOfLemmas.{operation_with}
use Rattle.yd_meaning.specs.Order.{IsPast}
use Rattle.yd_received.specs.Received.{ReceivedValue, taken_of, held_of}
use Rattle.yd_entries.proofs.WrittenLemmas.{taken_written}
use Rattle.yd_honesty.specs.Dishonest.{is_past}
use Rattle.yd_honesty.specs.Pasts.{IsHeldWhole}
use Rattle.yd_honesty.proofs.PastLemmas.{past_decides}

module _ (r : ReceivedValue) (whole : IsHeldWhole r) where
  pub past_test : (x y : Id) → has_operation (held_of r) x ≡ true → Decides (is_past (held_of r) x y) (IsPast (held_of r) x y)
  past_test x y h = let (o, i, e) = operation_with (held_of r) x h in subst (λ v. Decides (is_past (held_of r) v y) (IsPast (held_of r) v y)) e
      (subst (λ os. Decides (is_past os o.id y) (IsPast os o.id y)) (sym whole.held)
      (past_decides (taken_of r) (taken_written r.runs r.entries whole.in_order) o (subst (λ os. IsIn o os) whole.held i) y))

  pub past_of_test : (x y : Id) → has_operation (held_of r) x ≡ true → is_past (held_of r) x y ≡ true → IsPast (held_of r) x y
  past_of_test x y h = (past_test x y h).0
