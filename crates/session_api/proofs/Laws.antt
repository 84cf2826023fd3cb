-- Lemmas that this crate offers to the proofs of the crates above it.
pub use Rattle.session_api.proofs.New.{new_walkers_are_sessions, new_walkers_rest, new_walkers_keep_none, sessions_rest, scripts_follow}
pub use Rattle.session_api.proofs.Pointing.{points_tell}
pub use Rattle.session_api.proofs.Committing.{commits_tell}
pub use Rattle.session_api.proofs.ScriptOperating.{placed_birth}
