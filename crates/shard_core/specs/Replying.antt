-- What a vote or an acknowledgement that comes makes of the shard, before what is due then is done.
use Rattle.std.specs.Prelude.{ℕ, Option, Some, None}
use Rattle.clv_base.specs.declared.names.TxId.{TxId}
use Rattle.clv_base.specs.declared.causes.Vote.{Vote}
use Rattle.clv_base.specs.declared.state.Request.{Request}
use Rattle.clv_base.specs.State.{Shard}
use Rattle.clv_base.specs.Events.{with_votes, with_done}

abbrev pub vote_taken : TxId → ℕ → Vote → Option Request → Shard → Shard
vote_taken tx from vote None s = s
vote_taken tx from vote (Some q) s = with_votes tx from vote q s

abbrev pub done_taken : TxId → ℕ → Option Request → Shard → Shard
done_taken tx from None s = s
done_taken tx from (Some q) s = with_done tx from q s
