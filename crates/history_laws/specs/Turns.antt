-- Which of two entries comes first.
use Rattle.std.specs.Prelude.{◌≡◌, ◌⊎◌, ℕ, ◌<◌}
use Rattle.clv_base.specs.declared.events.Entry.{Entry}

-- the one with the lower stamp, and of two with one stamp that of the lower shard
abbrev pub ComesBefore : ℕ → Entry → ℕ → Entry → Type 0
ComesBefore m y n x = (y.stamp < x.stamp) ⊎ ((y.stamp ≡ x.stamp) × (m < n))
