use Rattle.std.proofs.Common.{refl}
use Rattle.log_checkpoint.proofs.rows.kept_records.Goals as goal

pub returns : goal.returns
returns c = (refl, refl, refl, refl, refl, refl, refl, refl, refl)
