-- What goes on a connection, in the standard library's words.
use Rattle.std.proofs.Common.{ℕ, List, take, Option, Some, None, Result, Ok, Err, refl, sym, subst}
use Rattle.std.specs.Io.KnownBytes.{WriteAppends, Appends, Keeps}
use Rattle.yd_lines.specs.Flow.{Goes}

-- what goes is appended
pub appends_what_goes : {E : Type 0} (old new : Option (List ℕ)) (r : Result ℕ E) (piece : List ℕ) → Goes old new r piece → WriteAppends old new r piece
appends_what_goes None new (Ok n) piece h = tt
appends_what_goes (Some xs) new (Ok n) piece h = subst (λ k. Appends (Some xs) k (take n piece)) (sym h) refl
appends_what_goes None new (Err e) piece h = tt
appends_what_goes (Some xs) new (Err e) piece h = subst (λ k. Keeps (Some xs) k) (sym h) refl
