-- What contracts see of three replicas.
use Rattle.std.specs.Prelude.{◌≡◌, ℕ}
use Rattle.yd_ops.specs.Received.{nothing_received}
use Rattle.yd_generator.specs.Generated.{Three}
use Rattle.yd_doc.specs.Kept.{Kept, received_of}

-- what the three received
abbrev pub received_by : Kept → Kept → Kept → Three
received_by first second third = record { first = received_of first; second = received_of second; third = received_of third }

-- they are those of the clients 1, 2 and 3
pub record AreClients (first second third : Kept) : Type 0 where
  pub of_first : first.client ≡ record { 0 = 1 }
  pub of_second : second.client ≡ record { 0 = 2 }
  pub of_third : third.client ≡ record { 0 = 3 }

-- the replica is the client's with this number, and has received nothing
pub record IsNew (client : ℕ) (replica : Kept) : Type 0 where
  pub of_client : replica.client ≡ record { 0 = client }
  pub nothing : received_of replica ≡ nothing_received
