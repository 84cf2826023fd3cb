-- What others build on: the acts to which a transaction may go back.
pub use Rattle.report_reading.proofs.Numbering.{up_to_rises, among_up_to, push_rises, among_push, Standing, standing_first, standing_op, standing_back, may_go}
pub use Rattle.report_reading.proofs.Lasts.{last_of_rest}
