-- Lemmas that this crate offers to the proofs of the crates above it.
pub use Rattle.script_lang.proofs.Words.{number_once, number_has_no_space, parted_alike, not_parted}
pub use Rattle.script_lang.proofs.Meanings.{one_meaning}
pub use Rattle.script_lang.proofs.Keeping.{numbered_push_as, numbered_as}
pub use Rattle.script_lang.proofs.Plain.{all_ops, is_plain, plain_acts}
pub use Rattle.script_lang.proofs.Progress.{is_next, acts_go_on}
