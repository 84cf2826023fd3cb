-- The checkpoint of a shard's log names what the log names: homes and parts that are shards, and keys of the shard.
use Rattle.std.proofs.Common.{◌≡◌, refl, sym, ap, ◌∙◌, ℕ, suc, Bool, true, false, cond, ◌==◌, List, [], ◌∷◌, Some, None}
use Rattle.std.specs.List.{list_all}
use Rattle.std.proofs.lemmas.Bool.{and_parts, and_from, eq-eqb}
use Rattle.clv_base.specs.declared.names.TxId.{TxId}
use Rattle.clv_base.specs.declared.logs.LogRecord.{LogRecord}
use Rattle.clv_base.specs.declared.logs.LogRecord.TheVariants.{Update, Clr, Prepare, Commit, Abort, End, Restart, Add, Unadd, Forgotten, Check}
use Rattle.clv_base.specs.Maps.{KeyMap, map_get}
use Rattle.clv_base.specs.Folding.{IsRising}
use Rattle.clv_base.specs.FileRules.{passes_file_rules}
use Rattle.clv_base.specs.Shards.{in_span}
use Rattle.clv_base.specs.Logs.{committed_in, base_of, standing, fold_writes}
use Rattle.clv_base.specs.Checkpoints.{kept_if, kept_prepare, kept_of, kept_from, committed_map, check}
use Rattle.law_base.proofs.Bases.{get_first}
use Rattle.log_checkpoint.proofs.StandingAlike.{pairs_alone}
use Rattle.headline_laws.proofs.TransactionsReplayByShards.LogsAgreeWithMap.{fold_away}

-- a map that has no value at keys that fail has pairs that pass
pairs_pass : (f : ℕ → Bool) (m : KeyMap) → ((k : ℕ) → f k ≡ false → map_get k m ≡ None) → list_all (λ p. f p.0) m ≡ true
pairs_pass f [] none = refl
pairs_pass f (p ∷ ps) none = and_from _ _ (here (f p.0) refl) (pairs_pass f ps (λ k e. later k (k == p.0) refl (sym (get_first k p ps) ∙ none k e)))
  where
    here : (b : Bool) → f p.0 ≡ b → b ≡ true
    here true e = refl
    here false e = absurd (never (sym (ap (λ b. cond b (Some p.1) (map_get p.0 ps)) (eq-eqb p.0 p.0 refl)) ∙ sym (get_first p.0 p ps) ∙ none p.0 e))
      where
        never : Some p.1 ≡ None → ⊥
        never k = absurd cc

    later : (k : ℕ) (b : Bool) → (k == p.0) ≡ b → cond b (Some p.1) (map_get k ps) ≡ None → map_get k ps ≡ None
    later k true q e = absurd cc
    later k false q e = e

module _ (splits : List ℕ) (shard : ℕ) where
  if_passes : (b : Bool) (r : LogRecord) → passes_file_rules splits shard r ≡ true → passes_file_rules splits shard (kept_if b r) ≡ true
  if_passes true r p = p
  if_passes false r p = refl

  prepare_passes : (log : List LogRecord) (tx : TxId) (home : ℕ) (ps : List TxId) (b : Bool) → passes_file_rules splits shard (Prepare tx home ps) ≡ true → passes_file_rules splits shard (kept_prepare shard log tx home ps b) ≡ true
  prepare_passes log tx home ps true p = if_passes _ (Prepare tx home []) p
  prepare_passes log tx home ps false p = if_passes _ (Prepare tx home _) p

  kept_passes : (log : List LogRecord) (n : ℕ) (r : LogRecord) → passes_file_rules splits shard r ≡ true → passes_file_rules splits shard (kept_of shard log n r) ≡ true
  kept_passes log n (Update tx key before after) p = if_passes _ (Update tx key before after) p
  kept_passes log n (Add tx key by) p = if_passes _ (Add tx key by) p
  kept_passes log n (Clr tx undo_next key after) p = refl
  kept_passes log n (Unadd tx undo_next key by) p = refl
  kept_passes log n (Prepare tx home ps) p = prepare_passes log tx home ps (committed_in log tx) p
  kept_passes log n (Commit tx parts) p = if_passes _ (Commit tx parts) p
  kept_passes log n (Abort tx) p = if_passes _ (Abort tx) refl
  kept_passes log n (End tx) p = refl
  kept_passes log n (Restart run epoch) p = refl
  kept_passes log n Forgotten p = refl
  kept_passes log n (Check run epoch upto base) p = refl

  all_kept_pass : (log : List LogRecord) (n : ℕ) (rs : List LogRecord) → list_all (passes_file_rules splits shard) rs ≡ true → list_all (passes_file_rules splits shard) (kept_from shard log n rs) ≡ true
  all_kept_pass log n [] p = refl
  all_kept_pass log n (r ∷ rs) p =
      let q = and_parts (passes_file_rules splits shard r) (list_all (passes_file_rules splits shard) rs) p in and_from _ _ (kept_passes log n r q.0) (all_kept_pass log (suc n) rs q.1)

  pub check_passes : (log : List LogRecord) → IsRising (base_of log) → list_all (passes_file_rules splits shard) log ≡ true → list_all (passes_file_rules splits shard) (check shard log) ≡ true
  check_passes [] rises p = refl
  check_passes (r ∷ rs) rises p =
      and_from _ _
      (pairs_pass (in_span splits shard) (committed_map (r ∷ rs))
      (λ k out.
      ap (λ m. map_get k (fold_writes (committed_in (r ∷ rs)) (standing (r ∷ rs)) m)) (sym (pairs_alone (base_of (r ∷ rs)) rises)) ∙ fold_away splits shard (committed_in (r ∷ rs)) (r ∷ rs) k [] p out))
      (all_kept_pass (r ∷ rs) 1 rs (and_parts (passes_file_rules splits shard r) (list_all (passes_file_rules splits shard) rs) p).1)
