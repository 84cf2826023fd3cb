-- Entries merged, in order, at their places, and by whom they are.
pub mod JournalsTellHistories
pub mod MergedJournalsInOrder
pub mod WalkersOwnEntries
pub mod EntryAtItsPlace
