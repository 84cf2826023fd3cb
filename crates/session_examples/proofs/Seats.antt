-- Sessions that transfer, each in its seat.
use Rattle.std.proofs.Common.{◌≡◌, ◌∙◌, subst, ℕ, List}
use Rattle.cluster_turns.specs.declared.shards.Shards.{Shards}
use Rattle.cluster_turns.specs.declared.shards.Walker.{Walker}
use Rattle.session_api.specs.declared.progress.Progress.{Progress}
use Rattle.session_api.specs.Standing.{IsAtRest}
use Rattle.session_examples.specs.Walkers.{IsSeated}

module _ {M S G : Type 0} where
  -- a seat's walker after its transfers and its drain
  pub seat_rests : (sh on after : Shards M S G) (n : ℕ) (w u v : Walker M S G) (s : Progress) (saves : List ℕ) → IsSeated sh n on w s saves → after ≡ on → u.number ≡ w.number → IsAtRest after u.number v → IsAtRest sh n v
  seat_rests sh on after n w u v s saves seated over same rest = subst (λ k. IsAtRest sh k v) (same ∙ seated.number_is) (subst (λ x. IsAtRest x u.number v) (over ∙ seated.on) rest)
