-- The texts of addresses that a board takes (own).
use Rattle.std.specs.Prelude.{◌≡◌, ◌<◌, ℕ, List, [], ◌∷◌}
use Rattle.std.specs.declared.net.socket_addr.SocketAddrV4.{SocketAddrV4}
use Rattle.std.specs.Net.Addr.{ipv4_octets}
use Rattle.std.specs.Net.Grammar.{IsSocketV4Text}
use Rattle.std.specs.Net.Socket.{v4_ip, v4_port}

-- the text writes this address, which is of this machine alone and has a port that is not 0
pub record IsLocal (text : List ℕ) (address : SocketAddrV4) : Type 0 where
  pub written : IsSocketV4Text text address
  pub local : ipv4_octets (v4_ip address) ≡ 127 ∷ 0 ∷ 0 ∷ 1 ∷ []
  pub port : 0 < v4_port address

-- the text writes such an address
abbrev pub NamesLocal : List ℕ → Type 0
NamesLocal text = (address : SocketAddrV4) × IsLocal text address
