-- The whole log of a restart.
use Rattle.std.proofs.Common.{◌≡◌, ℕ, ◌≤◌, Bool, true, false, cond, not, List, [], ◌∷◌, ◌++◌, length, refl, sym, ap, ◌∙◌, append-nil, append_assoc, arith}
use Rattle.std.specs.List.{filter}
use Rattle.clv_base.specs.declared.names.TxId.{TxId}
use Rattle.clv_base.specs.declared.logs.LogRecord.{LogRecord}
use Rattle.clv_base.specs.declared.logs.LogRecord.TheVariants.{Abort, Restart}
use Rattle.clv_base.specs.Orders.{Table}
use Rattle.clv_base.specs.Logs.{StandingUpdate, standing, aborted_in}
use Rattle.clv_base.specs.Undo.{clrs_of}
use Rattle.clv_base.specs.Restarts.{losers, log_after_restart}
use Rattle.log_analysis.specs.declared.facts.TxFacts.{TxFacts}
use Rattle.log_analysis.specs.Facts.{Knows, known}
use Rattle.law_base.proofs.Doubts.{standing_more}
use Rattle.law_base.proofs.Sets.{filter_alike}
use Rattle.shard_recovery.specs.Aborting.{unaborted, aborts}

pub open_is : (m : Table TxFacts) (log : List LogRecord) (txs fresh : List TxId) → Knows m log → fresh ≡ filter (λ t. not (known m t).is_aborted) txs → fresh ≡ unaborted log txs
open_is m log txs fresh knows e = e ∙ filter_alike (λ t. not (known m t).is_aborted) (λ t. not (aborted_in log t)) txs (λ t. ap (λ (f : TxFacts). not f.is_aborted) (knows t))

pub fewer : (f : TxId → Bool) (txs : List TxId) → length (filter f txs) ≤ length txs
fewer f [] = omega arith
fewer f (t ∷ ts) = at (f t) (fewer f ts)
  where
    at : (b : Bool) → length (filter f ts) ≤ length ts → length (cond b (t ∷ filter f ts) (filter f ts)) ≤ length (t ∷ ts)
    at true h = omega arith
    at false h = omega arith

-- ABORTs leave what stands
pub standing_aborts : (log : List LogRecord) (txs : List TxId) → standing (log ++ aborts txs) ≡ standing log
standing_aborts log [] = ap standing (append-nil log)
standing_aborts log (t ∷ ts) = ap standing (sym (append_assoc log (Abort t ∷ []) (aborts ts))) ∙ standing_aborts (log ++ Abort t ∷ []) ts ∙ standing_more log (Abort t)

module _ (log mid : List LogRecord) (txs fresh : List TxId) (e : mid ≡ log ++ aborts fresh) where
  pub stands : standing mid ≡ standing log
  stands = ap standing e ∙ standing_aborts log fresh

  pub log_whole : (shard run epoch : ℕ) (undone after : List LogRecord) → txs ≡ losers shard log → fresh ≡ unaborted log txs → undone ≡ mid ++ clrs_of txs (standing mid) → after ≡ undone ++ Restart run epoch ∷ []
      → after ≡ log_after_restart shard log run epoch
  log_whole shard run epoch undone after all some u a =
      a ∙ ap (λ l. l ++ Restart run epoch ∷ []) (u ∙ ap (λ ws. mid ++ clrs_of txs ws) stands ∙ ap (λ l. l ++ clrs_of txs (standing log)) e)
      ∙ append_assoc (log ++ aborts fresh) (clrs_of txs (standing log)) (Restart run epoch ∷ [])
      ∙ append_assoc log (aborts fresh) (clrs_of txs (standing log) ++ Restart run epoch ∷ [])
      ∙ ap (λ l. log ++ l) (sym (append_assoc (aborts fresh) (clrs_of txs (standing log)) (Restart run epoch ∷ [])))
      ∙ ap (λ ts. log ++ ((aborts ts ++ clrs_of txs (standing log)) ++ Restart run epoch ∷ [])) some
      ∙ ap (λ ts. log ++ ((aborts (unaborted log ts) ++ clrs_of ts (standing log)) ++ Restart run epoch ∷ [])) all

-- a restart that undoes nobody adds its RESTART alone
no_clrs : (ws : List StandingUpdate) → clrs_of [] ws ≡ []
no_clrs [] = refl
no_clrs (w ∷ ws) = no_clrs ws

nobody : (txs : List TxId) → length txs ≡ 0 → txs ≡ []
nobody [] none = refl
nobody (t ∷ ts) none = absurd (omega arith)

pub log_whole_of_nobody : (log : List LogRecord) (losers_found : List TxId) (shard run epoch : ℕ) (after : List LogRecord) → length losers_found ≡ 0 → losers_found ≡ losers shard log → after ≡ log ++ Restart run epoch ∷ [] → after ≡ log_after_restart shard log run epoch
log_whole_of_nobody log losers_found shard run epoch after none all a =
    log_whole log log [] [] (sym (append-nil log)) shard run epoch log after (sym (nobody losers_found none) ∙ all) refl (sym (append-nil log) ∙ ap (λ cs. log ++ cs) (sym (no_clrs (standing log)))) a
