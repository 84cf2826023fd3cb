-- The LSNs of writes that stand, as a test.
use Rattle.std.proofs.Common.{◌≡◌, ℕ, ◌||◌, List, [], ◌∷◌, map, refl, ap, ap₂, ◌∙◌}
use Rattle.std.specs.Cmp.{unsigned_tied}
use Rattle.clv_base.specs.declared.logs.LogRecord.{LogRecord}
use Rattle.clv_base.specs.Logs.{StandingUpdate, standing}
use Rattle.clv_base.specs.Checkpoints.{stands_at}
use Rattle.checkpoint_taking.specs.Lsns.{lsn_in}

stands_in : (n : ℕ) (ws : List StandingUpdate) → lsn_in n (map (λ w. w.lsn) ws) ≡ stands_at n ws
stands_in n [] = refl
stands_in n (w ∷ ws) = ap₂ (λ a b. a || b) (unsigned_tied w.lsn n) (stands_in n ws)

pub stand_at : (log : List LogRecord) (lsns : List ℕ) → lsns ≡ map (λ w. w.lsn) (standing log) → (n : ℕ) → lsn_in n lsns ≡ stands_at n (standing log)
stand_at log lsns are n = ap (lsn_in n) are ∙ stands_in n (standing log)
