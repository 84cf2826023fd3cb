-- Lemmas that this crate offers to the proofs of the crates above it.
pub use Rattle.cascade_undo.proofs.Keeping.{have_more, room_enough, writes_within}
pub use Rattle.cascade_undo.proofs.Standing.{IsIn, in_log}
pub use Rattle.cascade_undo.proofs.Backing.{filtered_at, others_stay, standing_back}
pub use Rattle.law_base.proofs.Lists.{all_mono}
pub use Rattle.law_base.proofs.Bools.{by_bool as both}
pub use Rattle.law_base.proofs.Names.{set_has as set_is_there}
pub use Rattle.cascade_undo.proofs.InLog.{AreInLog, due_of-log, undecided_by-log, undecided_like_log}
pub use Rattle.cascade_undo.proofs.Counting.{preds_gone}
pub use Rattle.cascade_undo.proofs.Members.{tx_in-more}
pub use Rattle.law_base.proofs.Rising.{insert_key-rises, insert_there, search_there}
pub use Rattle.law_base.proofs.Sets.{same_list, tx_total, filter_rises}
pub use Rattle.law_base.proofs.Names.{tx_in-insert}
