-- The map that a log begins with, by the record at its first place.
use Rattle.std.proofs.Common.{◌≡◌, List, [], ◌∷◌, Some, refl}
use Rattle.clv_base.specs.declared.logs.LogRecord.{LogRecord}
use Rattle.clv_base.specs.declared.logs.LogRecord.TheVariants.{Check}
use Rattle.clv_base.specs.Logs.{base_of}
use Rattle.log_analysis.specs.Lists.{pairs_at}

pub base_first : (log : List LogRecord) → pairs_at log (Some 0) ≡ base_of log
base_first [] = refl
base_first (Check run epoch upto base ∷ rs) = refl
base_first (_ ∷ rs) = refl
