use Rattle.std.proofs.Common.{◌≡◌, ◌<◌, ◌≤◌, ◌+◌, ℕ, suc, get_or, map, drop, length, vec_len, vec_capacity}
use Rattle.clv_base.specs.LogRules.{log_of}
use Rattle.log_analysis.specs.Facts.{KnowAll}
use Rattle.cluster_opening.specs.AllOpened.{IsOpenedAt}
use Rattle.cluster_opening.proofs.all_opening.open_shards.Given as goal

abbrev pub invariant-loop-shard : goal.invariant-loop-shard
invariant-loop-shard g l = record {
  gates : l.shard + vec_len l.rest ≡ vec_len l.fn.gates;
  logs : l.shard + vec_len l.later ≡ vec_len l.fn.logs;
  gate : (n j : ℕ) (d : _) → n + suc j ≡ vec_len l.fn.gates → j < vec_len l.rest → get_or l.rest.items j d ≡ get_or l.fn.gates.items n d;
  log : (n j : ℕ) (d : _) → n + suc j ≡ vec_len l.fn.logs → j < vec_len l.later → get_or l.later.items j d ≡ get_or l.fn.logs.items n d;
  known : KnowAll l.said.items (map (λ v. v.items) (drop l.shard l.fn.logs.items));
  locks : length l.locks.items ≡ l.shard;
  passes : length l.passes.items ≡ l.shard;
  room : vec_len l.fn.gates ≤ vec_capacity l.locks;
  room_too : vec_len l.fn.gates ≤ vec_capacity l.passes;
  opened : (n : ℕ) (d : _) (e : _) → n < l.shard → IsOpenedAt (record { splits = l.splits }) l.run l.walkers n (log_of (map (λ v. v.items) l.fn.logs.items) n) (get_or l.locks.items n d) (get_or l.passes.items n e).items;
}
