pub mod SiftLaws
pub mod PeerLaws
pub mod TellLaws
pub mod CallerLaws
