-- Lemmas that this crate offers to the proofs of the crates above it.
pub use Rattle.history_laws.proofs.NeverTakenBack.LaterHistoriesHoldMembers.{left_at}
pub use Rattle.history_laws.proofs.NeverTakenBack.{walker_of}
pub use Rattle.history_laws.proofs.LogsLeftPass.SessionsOfferOwnKeys.{Offers, OffersBy, offered}
pub use Rattle.history_laws.proofs.LogsLeftPass.{logs_left_pass, left_length}
