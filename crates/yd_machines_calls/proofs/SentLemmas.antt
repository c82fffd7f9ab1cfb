-- Messages that are to be sent: each is valid where all are.
use Rattle.std.proofs.Common.{◌≡◌, ◌<◌, ℕ, zero, suc, List, [], ◌∷◌, length, get_or, sym, subst, arith}
use Rattle.yd_words.specs.Each.{Each}
use Rattle.yd_sync.specs.declared.message.Message.{Message}
use Rattle.yd_sync.specs.Message.{IsValidMessage, message_value}
use Rattle.yd_machines.specs.Sent.{values_of}

pub valid_at : (xs : List Message) (i : ℕ) (x : Message) → i < length xs → x ≡ get_or xs i x → Each IsValidMessage (values_of xs) → IsValidMessage (message_value x)
valid_at [] i x lt is all = absurd (omega (arith, lt))
valid_at (y ∷ xs) zero x lt is all = subst (λ (z : Message). IsValidMessage (message_value z)) (sym is) all.0
valid_at (y ∷ xs) (suc i) x lt is all = valid_at xs i x (omega (arith, lt)) is all.1
