-- What replays on each shard replays on all.
pub mod LogsAgreeWithMap
use Rattle.clv_base.specs.Logs.{stands}
use Rattle.headline_laws.specs.Shares.{share_of, ReplayByShards}
use Rattle.serial_laws.proofs.ReplayByShards.{replay_by_shards as from_shares}
use Rattle.headline_laws.proofs.TransactionsReplayByShards.LogsAgreeWithMap.{logs_agree}

pub replay_by_shards : ReplayByShards
replay_by_shards splits before left ts are b l lie whole replays =
    from_shares splits (stands before) (stands left) (share_of before) (share_of left) ts are (logs_agree splits before are b) (logs_agree splits left are l) lie whole replays
