use Rattle.std.proofs.Common.{◌≡◌, List, ℕ, nat_le, refl, subst, sym}
use Rattle.std.proofs.lemmas.Bool.{and_parts, leb-true}
use Rattle.std.specs.Prelude.{IsOkAnd, Result}
use Rattle.yd_any.specs.Tree.{AnyTree, depth}
use Rattle.yd_any.specs.Valid.{is_in_range}
use Rattle.yd_parts.specs.Fault.{Fault}
use Rattle.yd_parts.specs.Part.{Unread}
use Rattle.yd_parts.proofs.AnyReadsLemmas.{any_reads}
use Rattle.yd_parts.proofs.law.any_values_are_read_again.Goals as goal

pub returns : goal.returns
returns c = λ t left rest valid writable bytes.
    let met = any_reads t 100 (leb-true (depth t) 100 (and_parts (nat_le (depth t) 100) (is_in_range t) valid).0) writable left rest bytes in
    subst (λ (r : Result (AnyTree × Unread) Fault). IsOkAnd r (λ read. (read.0 ≡ t) × (read.1.bytes ≡ rest))) (sym met.1) (refl, met.2)
