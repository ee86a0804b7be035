pub mod Ready
pub mod PeerGate
