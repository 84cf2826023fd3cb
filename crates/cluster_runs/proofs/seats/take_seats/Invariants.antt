use Rattle.std.proofs.Common.{◌≡◌, ◌<◌, ◌≤◌, ◌+◌, ℕ, suc, get_or, vec_len, vec_capacity}
use Rattle.cluster_runs.specs.Sessions.{IsSeated}
use Rattle.cluster_runs.specs.Books.{IsBlank}
use Rattle.cluster_runs.proofs.seats.take_seats.Given as goal

abbrev pub invariant-loop-taken : goal.invariant-loop-taken
invariant-loop-taken g l = record {
  walkers : vec_len l.walkers + l.taken ≡ l.count + 1;
  wide_walkers : vec_capacity l.walkers ≡ vec_capacity l.fn.walkers;
  same : (j : ℕ) (d : _) → j + l.taken < l.count + 1 → get_or l.walkers.items j d ≡ get_or l.fn.walkers.items j d;
  seats : vec_len l.seats ≡ l.taken;
  wide : l.count ≤ vec_capacity l.seats;
  seated : (j : ℕ) (d : _) → j < l.taken → (k : ℕ) → j + suc k ≡ l.count → IsSeated l.shards l.fn.clock l.plan.sessions.now k (get_or l.seats.items j d).session.session.shards.now (get_or l.seats.items j d).session.session.walker (get_or l.seats.items j d).session.session.progress (get_or l.seats.items j d).session.session.saves.items (get_or l.seats.items j d).session.saves (get_or l.seats.items j d).transactions.now;
  blank : (j : ℕ) (d : _) → j < l.taken → IsBlank (get_or l.seats.items j d).book;
  keeps : (j : ℕ) (d : _) → j < l.taken → (get_or l.seats.items j d).book.keeps ≡ l.plan.keeps_rows;
}
