-- What an operation needs, answers and writes.
pub mod NeedsCoverKeys
pub mod WritesAtEachKey
pub mod AnswersByValues
