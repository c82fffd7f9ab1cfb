-- What is found behind the steps and the rounds, and where it begins.
use Rattle.std.proofs.Common.{◌≡◌, ℕ, subst}
use Rattle.yd_generator.specs.Generated.{Three, ended, first_generation, generation, rounded}
use Rattle.yd_generator.specs.Law.{AreAccepted}
use Rattle.yd_generator.proofs.GenerationLemmas.{generations_shared}
use Rattle.yd_generator.proofs.SharedLemmas.{rounds_equal}
use Rattle.yd_doc.specs.Kept.{Kept, received_of}
use Rattle.yd_generating.specs.Line.{IsFoundOf, IsLineOf}
use Rattle.yd_generating.specs.Replicas.{AreClients, IsNew, received_by}
use Rattle.yd_generating.specs.declared.generating.Generated.{Generated}
use Rattle.yd_generating.proofs.TurnLemmas.{three_same}

-- ---- where it begins

module _ (first second third : Kept) (a : IsNew 1 first) (b : IsNew 2 second) (c : IsNew 3 third) where
  pub start_clients : AreClients first second third
  start_clients = record { of_first = a.of_client; of_second = b.of_client; of_third = c.of_client }

  pub start_three : received_by first second third ≡ first_generation.three
  start_three = three_same (received_of first) (received_of second) (received_of third) _ _ _ a.nothing b.nothing c.nothing

-- ---- where it ends

-- behind steps that are not refused the line is that of the end, and the three are equal there
pub found_then : (steps : ℕ) (g : Three) (found : Generated) → AreAccepted steps → g ≡ (generation steps).three → IsLineOf found (rounded (rounded g)) → IsFoundOf steps found
found_then steps g found accepted is line = record {
  accepted = accepted;
  line = of_end;
  equal = of_end.equal.1 (rounds_equal (generation steps).three (generations_shared steps accepted));
}
  where
    of_end : IsLineOf found (ended steps)
    of_end = subst (λ (h : Three). IsLineOf found (rounded (rounded h))) is line
