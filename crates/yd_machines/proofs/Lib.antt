pub mod HubLemmas
pub mod OwnStateLemmas
pub mod PeerLemmas
