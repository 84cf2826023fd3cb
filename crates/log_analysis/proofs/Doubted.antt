-- Who is in doubt by a table of a log's facts is in doubt in the log.
use Rattle.std.proofs.Common.{◌≡◌, ℕ, Bool, true, false, cond, not, ◌&&◌, ◌||◌, ◌==◌, List, [], ◌∷◌, ◌++◌, map, Option, Some, None, is_some, unwrap_or, refl, ap, ◌∙◌}
use Rattle.std.specs.List.{filter, list_all}
use Rattle.clv_base.specs.declared.names.TxId.{TxId}
use Rattle.clv_base.specs.declared.logs.LogRecord.{LogRecord}
use Rattle.clv_base.specs.declared.logs.LogRecord.TheVariants.{Update, Clr, Prepare, Commit, Abort, End, Restart, Add, Unadd, Forgotten, Check}
use Rattle.clv_base.specs.Orders.{Table, tx_in, tx_insert}
use Rattle.clv_base.specs.Logs.{committed_in, aborted_in, prepare_of, doubt_by, in_doubt_from, in_doubt, is_winner, writers, standing}
use Rattle.clv_base.specs.LogRules.{listed_in}
use Rattle.clv_base.specs.Restarts.{losers, home_by, homes_of, pairs_of_listed, restored_pairs}
use Rattle.log_analysis.specs.declared.facts.TxFacts.{TxFacts}
use Rattle.log_analysis.specs.Facts.{known, Knows}
use Rattle.log_analysis.specs.Lists.{home_at, listed_at}
use Rattle.log_analysis.proofs.Laws.Bools.{all_same}
use Rattle.log_analysis.proofs.Laws.Whole.{commit_there, home_there, listed_there}
use Rattle.log_analysis.proofs.Laws.Places as places
use Rattle.log_analysis.specs.Doubt.{has_commit, settles, is_doubted, doubted_from, home_in, pairs_by, pairs_from}

pub filter_same : (f g : TxId → Bool) → ((t : TxId) → f t ≡ g t) → (txs : List TxId) → filter f txs ≡ filter g txs
filter_same f g same [] = refl
filter_same f g same (t ∷ ts) = ap (λ b. cond b (t ∷ filter f ts) (filter f ts)) (same t) ∙ ap (λ us. cond (g t) (t ∷ us) us) (filter_same f g same ts)

module _ (m : Table TxFacts) (log : List LogRecord) (knows : Knows m log) where
  pub commit_is : (t : TxId) → has_commit m t ≡ committed_in log t
  commit_is t = ap (λ f. is_some f.commit) (knows t) ∙ commit_there log t

  pub settles_is : (so_far : List TxId) (p : TxId) → settles m so_far p ≡ committed_in log p || tx_in p so_far
  settles_is so_far p = ap (λ b. b || tx_in p so_far) (commit_is p)

  doubt_is : (shard : ℕ) (tx : TxId) (home : ℕ) (listed so_far : List TxId) → is_doubted m shard tx home listed so_far ≡ doubt_by log shard tx home listed so_far
  doubt_is shard tx home listed so_far =
      ap (λ b. not (shard == home) && not b && not (known m tx).is_aborted && list_all (settles m so_far) listed) (commit_is tx)
      ∙ ap (λ f. not (shard == home) && not (committed_in log tx) && not f.is_aborted && list_all (settles m so_far) listed) (knows tx)
      ∙ ap (λ b. not (shard == home) && not (committed_in log tx) && not (aborted_in log tx) && b) (all_same (settles m so_far) (λ p. committed_in log p || tx_in p so_far) (settles_is so_far) listed)

  doubted_is : (shard : ℕ) (rs : List LogRecord) (so_far : List TxId) → doubted_from m shard rs so_far ≡ in_doubt_from log shard rs so_far
  doubted_is shard [] so_far = refl
  doubted_is shard (Prepare tx home listed ∷ rs) so_far =
      doubted_is shard rs (cond (is_doubted m shard tx home listed so_far) (tx_insert tx so_far) so_far)
      ∙ ap (λ b. in_doubt_from log shard rs (cond b (tx_insert tx so_far) so_far)) (doubt_is shard tx home listed so_far)
  doubted_is shard (Update tx key before after ∷ rs) so_far = doubted_is shard rs so_far
  doubted_is shard (Clr tx undo_next key after ∷ rs) so_far = doubted_is shard rs so_far
  doubted_is shard (Commit tx parts ∷ rs) so_far = doubted_is shard rs so_far
  doubted_is shard (Abort tx ∷ rs) so_far = doubted_is shard rs so_far
  doubted_is shard (End tx ∷ rs) so_far = doubted_is shard rs so_far
  doubted_is shard (Restart run epoch ∷ rs) so_far = doubted_is shard rs so_far
  doubted_is shard (Add tx key by ∷ rs) so_far = doubted_is shard rs so_far
  doubted_is shard (Unadd tx undo_next key by ∷ rs) so_far = doubted_is shard rs so_far
  doubted_is shard (Forgotten ∷ rs) so_far = doubted_is shard rs so_far
  doubted_is shard (Check run' epoch' upto base ∷ rs) so_far = doubted_is shard rs so_far

  pub in_doubt_is : (shard : ℕ) → doubted_from m shard log [] ≡ in_doubt shard log
  in_doubt_is shard = doubted_is shard log []

  -- ---- homes and pairs

  abbrev rows : (TxId → ℕ) → List TxId → List (TxId × ℕ)
  rows f txs = map (λ t. (t, f t)) txs

  homes_same : (f g : TxId → ℕ) → ((t : TxId) → f t ≡ g t) → (txs : List TxId) → rows f txs ≡ rows g txs
  homes_same f g same [] = refl
  homes_same f g same (t ∷ ts) = ap (λ (h : ℕ). (t, h) ∷ rows f ts) (same t) ∙ ap (λ (hs : List (TxId × ℕ)). (t, g t) ∷ hs) (homes_same f g same ts)

  home_named : (o : Option (ℕ × List TxId)) → unwrap_or (places.home_in o) 0 ≡ home_by o
  home_named None = refl
  home_named (Some p) = refl

  home_of : (t : TxId) → home_in m log t ≡ home_by (prepare_of log t)
  home_of t =
      ap (λ f. unwrap_or (home_at log f.prepare) 0) (knows t)
      ∙ ap (λ o. unwrap_or o 0) (home_there log t) ∙ home_named (prepare_of log t)

  pub homes_are : (txs : List TxId) → map (λ t. (t, home_in m log t)) txs ≡ homes_of log txs
  homes_are txs = homes_same (home_in m log) (λ t. home_by (prepare_of log t)) home_of txs

  listed_of : (t : TxId) → listed_at log (known m t).prepare ≡ listed_in log t
  listed_of t = ap (λ f. listed_at log f.prepare) (knows t) ∙ listed_there log t

  abbrev open_pairs : TxId → List TxId → List (TxId × TxId)
  open_pairs tx ps = map (λ q. (tx, q)) (filter (λ q. not (committed_in log q)) ps)

  pairs_kept : (tx : TxId) (ps : List TxId) → pairs_by m tx ps ≡ open_pairs tx ps
  pairs_kept tx [] = refl
  pairs_kept tx (p ∷ ps) =
      ap (λ b. cond b (pairs_by m tx ps) ((tx, p) ∷ pairs_by m tx ps)) (commit_is p)
      ∙ ap (λ (qs : List (TxId × TxId)). cond (committed_in log p) qs ((tx, p) ∷ qs)) (pairs_kept tx ps) ∙ at (committed_in log p)
    where
      at : (b : Bool) → cond b (open_pairs tx ps) ((tx, p) ∷ open_pairs tx ps) ≡ map (λ q. (tx, q)) (cond (not b) (p ∷ filter (λ q. not (committed_in log q)) ps) (filter (λ q. not (committed_in log q)) ps))
      at true = refl
      at false = refl

  pairs_named : (tx : TxId) (o : Option (ℕ × List TxId)) → open_pairs tx (elim o [ Some p ↦ p.1 | None ↦ [] ]) ≡ pairs_of_listed log tx o
  pairs_named tx None = refl
  pairs_named tx (Some p) = refl

  pub pairs_are : (txs : List TxId) → pairs_from m log txs ≡ restored_pairs log txs
  pairs_are [] = refl
  pairs_are (t ∷ ts) =
      ap (λ ps. pairs_by m t ps ++ pairs_from m log ts) (listed_of t) ∙ ap (λ ps. ps ++ pairs_from m log ts) (pairs_kept t (listed_in log t) ∙ pairs_named t (prepare_of log t))
      ∙ ap (λ ps. pairs_of_listed log t (prepare_of log t) ++ ps) (pairs_are ts)

  -- ---- losers

  pub losers_are : (shard : ℕ) → filter (λ t. not (settles m (in_doubt shard log) t)) (writers (standing log)) ≡ losers shard log
  losers_are shard =
      filter_same (λ t. not (settles m (in_doubt shard log) t)) (λ t. not (is_winner shard log t)) (λ t. ap not (settles_is (in_doubt shard log) t)) (writers (standing log))
