use Rattle.std.proofs.Common.{◌≡◌, ℕ, List, true, map, nat_lt, subst, arith}
use Rattle.std.specs.List.{list_all}
use Rattle.clv_base.specs.FileRules.{numbers_rise}
use Rattle.cluster_turns.proofs.Touching.{places_rise, places_low}
use Rattle.cluster_turns.proofs.touched_shards.TouchedShards.touched.Goals as goal

pub returns-in_err-push-clause-rise : goal.returns-in_err-push-clause-rise
returns-in_err-push-clause-rise c = subst (λ (t : List (ℕ × ℕ)). numbers_rise (map (λ x. x.0) t) ≡ true) c.self.view_is (places_rise 0 c.self.inside.epochs)

pub returns-in_err-push-clause-low : goal.returns-in_err-push-clause-low
returns-in_err-push-clause-low c = subst (λ (t : List (ℕ × ℕ)). list_all (λ x. nat_lt x.0 16) t ≡ true) c.self.view_is (places_low 0 c.self.inside.epochs (let i = c.self.invariant in omega arith))

pub returns-clause-rise : goal.returns-clause-rise
returns-clause-rise c = subst (λ (t : List (ℕ × ℕ)). numbers_rise (map (λ x. x.0) t) ≡ true) c.self.view_is (places_rise 0 c.self.inside.epochs)

pub returns-clause-low : goal.returns-clause-low
returns-clause-low c = subst (λ (t : List (ℕ × ℕ)). list_all (λ x. nat_lt x.0 16) t ≡ true) c.self.view_is (places_low 0 c.self.inside.epochs (let i = c.self.invariant in omega arith))
