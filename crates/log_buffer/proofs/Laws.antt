-- Lemmas that this crate offers to the proofs of the crates above it.
pub use Rattle.log_buffer.proofs.Fitting.{fitting_by-fitting}
pub use Rattle.log_buffer.proofs.BatchSizes.{size_is, they_fit, some_fits, has_bytes}
pub use Rattle.log_buffer.proofs.BatchFitting.{those_fit}
pub use Rattle.law_base.proofs.Logs.{few_fit, spelled_dropped as all_dropped, spelled_taken as all_taken}
