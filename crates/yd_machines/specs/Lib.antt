pub mod Asked
pub mod HubStep
pub mod Lending
pub mod PeerStep
pub mod Sent
pub mod Telling
