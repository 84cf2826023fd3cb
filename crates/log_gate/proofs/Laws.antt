-- Lemmas that this crate offers to the proofs of the crates above it.
pub use Rattle.log_gate.proofs.Agreed.{under_from, from_under, unagreed_side, agreed_side}
pub use Rattle.log_gate.proofs.ManyLogs.{only_from, header_from}
pub use Rattle.log_gate.proofs.Records.{all_pass}
