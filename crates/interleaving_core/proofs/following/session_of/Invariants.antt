use Rattle.std.proofs.Common.{◌≡◌, ℕ, List, Some, drop}
use Rattle.clv_base.specs.Journals.{own}
use Rattle.clv_base.specs.Sessions.{SessionState}
use Rattle.cluster_turns.specs.States.{session_of, after_from}
use Rattle.interleaving_core.proofs.following.session_of.Given as goal

abbrev pub invariant-loop-placed : goal.invariant-loop-placed
invariant-loop-placed l =
    (splits : List ℕ) (t : SessionState) → session_of splits 1 l.walker (own l.walker l.history) ≡ Some t → after_from splits (Some l.session) (own l.walker (drop l.placed-index l.history)) ≡ Some t
