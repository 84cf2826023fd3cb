use Rattle.std.proofs.Common.{◌≡◌, [], map}
use Rattle.std.specs.Prelude.{replicate}
use Rattle.log_standby.proofs.standby.Standby.new.Given as goal

abbrev pub invariant-loop : goal.invariant-loop
invariant-loop l = (map (λ v. v.items) l.logs.items ≡ replicate l.counter []) × (l.streams.items ≡ replicate l.counter [])
