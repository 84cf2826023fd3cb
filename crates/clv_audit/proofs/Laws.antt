-- What others build on: maps that rise, and what logs stand for.
pub use Rattle.clv_audit.proofs.Judging.{less, t_first, t_second, stands_rises}
pub use Rattle.clv_audit.proofs.Going.{rising_up_to, rising_now}
