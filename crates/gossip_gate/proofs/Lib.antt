pub mod PromiseLaws
pub mod GateLaws
pub mod ReplyLaws
pub mod EndLaws
pub mod AdmittedLaws
pub mod CallLaws
pub mod CaseLaws
