use Rattle.std.proofs.Common.{◌≡◌, ◌<◌, ℕ, true, get_or}
use Rattle.cluster_closing.proofs.parting.lowest_down.Given as goal

abbrev pub invariant-loop-n : goal.invariant-loop-n
invariant-loop-n g l = (j : ℕ) (d : _) → j < l.n → (g.M.Machine.shard (get_or l.homes j d).machine).is_up ≡ true
