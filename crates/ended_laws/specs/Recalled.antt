-- A shard that has forgotten the rows of many requests, and the one that still keeps them.
use Rattle.std.specs.Prelude.{◌≡◌, ⊤, ℕ, Bool, false, [], ◌∷◌}
use Rattle.std.specs.List.{AllByRecursion}
use Rattle.clv_base.specs.declared.state.Request.{Request}
use Rattle.clv_base.specs.declared.events.Event.{Event}
use Rattle.clv_base.specs.declared.events.Outcome.{Outcome}
use Rattle.clv_base.specs.Orders.{Table, tx_same, tx_put}
use Rattle.clv_base.specs.State.{Shard}
use Rattle.clv_base.specs.Events.{CallAnswer, Quiet, Worn, Enters, step, land}
use Rattle.ended_laws.specs.Requests.{without, IsSpent}

-- without the rows of these requests; with them again, the last one that was forgotten first
abbrev pub without_all : Table Request → Table Request → Table Request
without_all [] rows = rows
without_all (r ∷ rs) rows = without r.0 (without_all rs rows)

abbrev pub with_all : Table Request → Table Request → Table Request
with_all [] rows = rows
with_all (r ∷ rs) rows = with_all rs (tx_put r.0 r.1 rows)

abbrev pub forgets_all : Table Request → Shard → Shard
forgets_all gone s = record s { requests = without_all gone s.requests }

abbrev pub recalls : Table Request → Shard → Shard
recalls gone s = record s { requests = with_all gone s.requests }

-- each of them is spent, and stands once among them
abbrev pub AreSpent : Table Request → Shard → Type 0
AreSpent [] s = ⊤
AreSpent (r ∷ rs) s = IsSpent s r.0 r.1 × AllByRecursion (λ x. tx_same x.0 r.0 ≡ false) rs × AreSpent rs s

-- what a call comes to there
abbrev pub forgetting : Table Request → CallAnswer → CallAnswer
forgetting rows (Quiet o) = Quiet o
forgetting rows Worn = Worn
forgetting rows (Enters o t) = Enters o (forgets_all rows t)

-- a shard that has forgotten them makes the same of each call, and so it stays; what it keeps, with those rows, is all
pub record Misses (rows : Table Request) (s : Shard) : Type 0 where
  pub steps : (clock walker : ℕ) (e : Event) → step (forgets_all rows s) clock walker e ≡ forgetting rows (step s clock walker e)
  pub spent : (clock walker : ℕ) (e : Event) (o : Outcome) (t : Shard) → step s clock walker e ≡ Enters o t → AreSpent rows t
  pub lands : (clock walker : ℕ) (pushed : Bool) → land (forgets_all rows s) clock walker pushed ≡ forgetting rows (land s clock walker pushed)
  pub landed : (clock walker : ℕ) (pushed : Bool) (o : Outcome) (t : Shard) → land s clock walker pushed ≡ Enters o t → AreSpent rows t
  pub whole : recalls rows (forgets_all rows s) ≡ s

abbrev pub SpentAreNotMissed : Type 0
SpentAreNotMissed = (rows : Table Request) (s : Shard) → AreSpent rows s → Misses rows s
