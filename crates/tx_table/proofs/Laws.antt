-- Lemmas that this crate offers to the proofs of the crates above it.
pub use Rattle.tx_table.proofs.Counting.{room_own, room_then}
pub use Rattle.law_base.proofs.Rising.{insert_key-rises, search_there}
pub use Rattle.law_base.proofs.Names.{tx_in-insert as insert_in}
pub use Rattle.tx_table.proofs.IndexKeeping.{index_put, index_set, index_kept, index_same, index_renewed, index_undone, get_set_there}
pub use Rattle.tx_table.proofs.Members.{in_order, index_rises, index_has, rows_own, HasOwn}
