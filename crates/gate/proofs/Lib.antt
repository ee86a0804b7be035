pub mod StandingLaws
pub mod CallLaws
pub mod PeerGateLaws
