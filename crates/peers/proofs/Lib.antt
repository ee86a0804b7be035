pub mod GroupLaws
pub mod PeerLaws
