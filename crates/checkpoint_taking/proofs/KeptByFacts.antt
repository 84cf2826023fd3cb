-- What stays by a table of facts is what stays by the log.
use Rattle.std.proofs.Common.{◌≡◌, ℕ, Bool, true, false, not, ◌&&◌, ◌||◌, nat_lt, List, Option, Some, None, is_some, refl, sym, ap, ap₂, ◌∙◌}
use Rattle.std.proofs.Math.Path.{fun_ext}
use Rattle.std.specs.List.{filter}
use Rattle.clv_base.specs.declared.names.TxId.{TxId}
use Rattle.clv_base.specs.declared.logs.LogRecord.{LogRecord}
use Rattle.clv_base.specs.declared.logs.LogRecord.TheVariants.{Update, Clr, Prepare, Commit, Abort, End, Restart, Add, Unadd, Forgotten, Check}
use Rattle.clv_base.specs.Orders.{Table}
use Rattle.clv_base.specs.Logs.{committed_in, prepare_of, standing}
use Rattle.clv_base.specs.LogRules.{some_parts}
use Rattle.clv_base.specs.Checkpoints.{is_away, is_left_open, stands_at, kept_if, kept_prepare, kept_of}
use Rattle.law_base.proofs.Standing.{counts_some}
use Rattle.log_analysis.specs.declared.facts.TxFacts.{TxFacts}
use Rattle.log_analysis.specs.Facts.{Knows}
use Rattle.log_analysis.specs.Doubt.{has_commit}
use Rattle.log_analysis.specs.Lists.{home_at}
use Rattle.log_analysis.proofs.Laws.Places.{home_in}
use Rattle.log_analysis.proofs.Laws.Whole.{commit_there, home_there}
use Rattle.checkpoint_taking.specs.Kept.{left_open, is_other, home_away, prepare_by, kept_by, kept_places}

away_by : (shard : ℕ) (o : Option (ℕ × List TxId)) → is_other shard (home_in o) ≡ is_away shard o
away_by shard None = refl
away_by shard (Some p) = refl

module _ (shard : ℕ) (log : List LogRecord) (m : Table TxFacts) (knows : Knows m log) where
  commit_is : (tx : TxId) → has_commit m tx ≡ committed_in log tx
  commit_is tx = ap (λ (f : TxFacts). is_some f.commit) (knows tx) ∙ commit_there log tx

  open_is : (tx : TxId) → left_open m tx ≡ is_left_open log tx
  open_is tx = ap₂ (λ a b. not a && b) (commit_is tx) (ap (λ (f : TxFacts). nat_lt 0 f.standing) (knows tx) ∙ sym (counts_some tx (standing log)))

  away_is : (tx : TxId) → home_away m log shard tx ≡ is_away shard (prepare_of log tx)
  away_is tx = ap (λ (f : TxFacts). is_other shard (home_at log f.prepare)) (knows tx) ∙ ap (is_other shard) (home_there log tx) ∙ away_by shard (prepare_of log tx)

  left_is : (listed : List TxId) → filter (λ p. not (has_commit m p)) listed ≡ filter (λ p. not (committed_in log p)) listed
  left_is listed = ap (λ (c : TxId → Bool). filter (λ p. not (c p)) listed) (fun_ext commit_is)

  prepare_is : (tx : TxId) (home : ℕ) (listed : List TxId) → prepare_by m shard tx home listed (has_commit m tx) ≡ kept_prepare shard log tx home listed (committed_in log tx)
  prepare_is tx home listed = ap (prepare_by m shard tx home listed) (commit_is tx) ∙ at (committed_in log tx)
    where
      at : (b : Bool) → prepare_by m shard tx home listed b ≡ kept_prepare shard log tx home listed b
      at true = refl
      at false = ap₂ (λ a (l : List TxId). kept_if a (Prepare tx home l)) (open_is tx) (left_is listed)

  kept_is : (stands : ℕ → Bool) → ((n : ℕ) → stands n ≡ stands_at n (standing log)) → (n : ℕ) (r : LogRecord) → kept_by m log stands shard n r ≡ kept_of shard log n r
  kept_is stands at n (Update tx key before after) = ap₂ (λ a b. kept_if (not a && b) (Update tx key before after)) (commit_is tx) (at n)
  kept_is stands at n (Add tx key by) = ap₂ (λ a b. kept_if (not a && b) (Add tx key by)) (commit_is tx) (at n)
  kept_is stands at n (Clr tx undo_next key after) = refl
  kept_is stands at n (Unadd tx undo_next key by) = refl
  kept_is stands at n (Prepare tx home listed) = prepare_is tx home listed
  kept_is stands at n (Commit tx parts) = ap (λ b. kept_if (some_parts parts || b) (Commit tx parts)) (away_is tx)
  kept_is stands at n (Abort tx) = ap (λ b. kept_if b (Abort tx)) (open_is tx)
  kept_is stands at n (End tx) = refl
  kept_is stands at n (Restart run epoch) = refl
  kept_is stands at n Forgotten = refl
  kept_is stands at n (Check run epoch upto base) = refl

  pub places_are : (stands : ℕ → Bool) → ((n : ℕ) → stands n ≡ stands_at n (standing log)) → (n : ℕ) (rs : List LogRecord) → kept_places (kept_by m log stands shard) n rs ≡ kept_places (kept_of shard log) n rs
  places_are stands at n rs = ap (λ (k : ℕ → LogRecord → LogRecord). kept_places k n rs) (fun_ext (λ i. fun_ext (λ r. kept_is stands at i r)))
