-- The stamp of the next entry.
use Rattle.std.specs.Prelude.{ℕ, suc, ◌^◌, max, cond, nat_lt, Option, Some, None}

-- above the last one, the walker's clock and the message's stamp; none where the clock is worn
abbrev pub newest : ℕ → ℕ → ℕ → ℕ
newest last clock message = max last (max clock message)

abbrev pub stamp_by : ℕ → Option ℕ
stamp_by n = cond (nat_lt (suc n) (2 ^ 48)) (Some (suc n)) None
