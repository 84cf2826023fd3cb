-- Each that is in doubt is put at its place.
use Rattle.std.proofs.Common.{◌≡◌, refl, sym, ap, subst, List, [], ◌∷◌}
use Rattle.std.specs.Map.{keys_of}
use Rattle.clv_base.specs.declared.names.TxId.{TxId}
use Rattle.clv_base.specs.declared.logs.LogRecord.{LogRecord}
use Rattle.clv_base.specs.Logs.{in_doubt}
use Rattle.clv_base.specs.Restarts.{homes_of}
use Rattle.two_phase_commit.specs.Doubtful.{DoubtfulRise}
use Rattle.law_base.proofs.Names.{Rise}
use Rattle.law_base.proofs.Sets.{doubts_rise}

keys_homes : (log : List LogRecord) (ts : List TxId) → keys_of (homes_of log ts) ≡ ts
keys_homes log [] = refl
keys_homes log (t ∷ ts) = ap (λ ks. t ∷ ks) (keys_homes log ts)

pub doubtful_rise : DoubtfulRise
doubtful_rise shard log records = subst Rise (sym (keys_homes records (in_doubt shard log))) (doubts_rise shard log)
