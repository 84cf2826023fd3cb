-- A checkpoint's map, last RESTART and places.
use Rattle.std.proofs.Common.{◌≡◌, ℕ, suc, ⊎_elim, Bool, true, false, cond, not, List, [], ◌∷◌, length, Some, None, refl, ap, ◌∙◌}
use Rattle.std.specs.List.{AllByRecursion, filter}
use Rattle.std.proofs.lemmas.Bool.{both_ways, cond_both, false_from_ne_true, or_cases}
use Rattle.clv_base.specs.declared.names.TxId.{TxId}
use Rattle.clv_base.specs.declared.logs.LogRecord.{LogRecord}
use Rattle.clv_base.specs.declared.logs.LogRecord.TheVariants.{Update, Clr, Prepare, Commit, Abort, End, Restart, Add, Unadd, Forgotten, Check}
use Rattle.clv_base.specs.Maps.{KeyMap}
use Rattle.clv_base.specs.Logs.{StandingUpdate, is_commit_of, committed_in, standing, fold_writes, with_change}
use Rattle.clv_base.specs.LogRules.{last_restart}
use Rattle.clv_base.specs.Checkpoints.{kept_if, kept_prepare, kept_of, kept_from, committed_map, no_restart, check}
use Rattle.clv_base.proofs.SameNames.{or_left, or_right}
use Rattle.law_base.proofs.Bools.{not_true}
use Rattle.law_base.proofs.Lists.{all_mono}
use Rattle.log_checkpoint.specs.Laws.{IsFirst, Begins, CheckpointsKeepTheMap}
use Rattle.log_checkpoint.proofs.Leaving.{open_stand}

-- ---- COMMITs

if_commits : (t : TxId) (b : Bool) (r : LogRecord) → is_commit_of t (kept_if b r) ≡ true → is_commit_of t r ≡ true
if_commits t true r e = e
if_commits t false r e = absurd (both_ways false refl e)

prepare_commits : (shard : ℕ) (log : List LogRecord) (t tx : TxId) (home : ℕ) (listed : List TxId) (b : Bool) → is_commit_of t (kept_prepare shard log tx home listed b) ≡ true → ⊥
prepare_commits shard log t tx home listed true e = both_ways false refl (if_commits t _ (Prepare tx home []) e)
prepare_commits shard log t tx home listed false e = both_ways false refl (if_commits t _ (Prepare tx home _) e)

kept_commits : (shard : ℕ) (log : List LogRecord) (t : TxId) (n : ℕ) (r : LogRecord) → is_commit_of t (kept_of shard log n r) ≡ true → is_commit_of t r ≡ true
kept_commits shard log t n (Commit tx parts) e = if_commits t _ (Commit tx parts) e
kept_commits shard log t n (Update tx key before after) e = if_commits t _ (Update tx key before after) e
kept_commits shard log t n (Add tx key by) e = if_commits t _ (Add tx key by) e
kept_commits shard log t n (Clr tx undo_next key after) e = e
kept_commits shard log t n (Unadd tx undo_next key by) e = e
kept_commits shard log t n (Prepare tx home listed) e = absurd (prepare_commits shard log t tx home listed (committed_in log tx) e)
kept_commits shard log t n (Abort tx) e = if_commits t _ (Abort tx) e
kept_commits shard log t n (End tx) e = e
kept_commits shard log t n (Restart run epoch) e = e
kept_commits shard log t n Forgotten e = e
kept_commits shard log t n (Check run epoch upto base) e = e

pub all_commits : (shard : ℕ) (log : List LogRecord) (t : TxId) (n : ℕ) (rs : List LogRecord) → committed_in (kept_from shard log n rs) t ≡ true → committed_in rs t ≡ true
all_commits shard log t n [] e = e
all_commits shard log t n (r ∷ rs) e =
    ⊎_elim (λ here. or_left _ _ (kept_commits shard log t n r here)) (λ later. or_right (is_commit_of t r) _ (all_commits shard log t (suc n) rs later))
    (or_cases (is_commit_of t (kept_of shard log n r)) (committed_in (kept_from shard log (suc n) rs) t) e)

-- who is committed in a checkpoint was so in the log
pub committed_before : (shard : ℕ) (log : List LogRecord) (t : TxId) → committed_in (check shard log) t ≡ true → committed_in log t ≡ true
committed_before shard [] t e = e
committed_before shard (r ∷ rs) t e = or_right (is_commit_of t r) _ (all_commits shard (r ∷ rs) t 1 rs e)

-- ---- RESTARTs

if_first : (b : Bool) (r : LogRecord) → (IsFirst r → ⊥) → IsFirst (kept_if b r) → ⊥
if_first true r none f = none f
if_first false r none f = f

prepare_first : (shard : ℕ) (log : List LogRecord) (tx : TxId) (home : ℕ) (listed : List TxId) (b : Bool) → IsFirst (kept_prepare shard log tx home listed b) → ⊥
prepare_first shard log tx home listed true f = if_first _ (Prepare tx home []) (λ x. x) f
prepare_first shard log tx home listed false f = if_first _ (Prepare tx home _) (λ x. x) f

kept_first : (shard : ℕ) (log : List LogRecord) (n : ℕ) (r : LogRecord) → IsFirst (kept_of shard log n r) → ⊥
kept_first shard log n (Update tx key before after) f = if_first _ (Update tx key before after) (λ x. x) f
kept_first shard log n (Add tx key by) f = if_first _ (Add tx key by) (λ x. x) f
kept_first shard log n (Clr tx undo_next key after) f = f
kept_first shard log n (Unadd tx undo_next key by) f = f
kept_first shard log n (Prepare tx home listed) f = prepare_first shard log tx home listed (committed_in log tx) f
kept_first shard log n (Commit tx parts) f = if_first _ (Commit tx parts) (λ x. x) f
kept_first shard log n (Abort tx) f = if_first _ (Abort tx) (λ x. x) f
kept_first shard log n (End tx) f = f
kept_first shard log n (Restart run epoch) f = f
kept_first shard log n Forgotten f = f
kept_first shard log n (Check run epoch upto base) f = f

no_first : (r : LogRecord) (rs : List LogRecord) → (IsFirst r → ⊥) → last_restart (r ∷ rs) ≡ last_restart rs
no_first (Restart run epoch) rs none = absurd (none tt)
no_first (Check run epoch upto base) rs none = absurd (none tt)
no_first (_) rs none = refl

pub none_kept : (shard : ℕ) (log : List LogRecord) (n : ℕ) (rs : List LogRecord) → last_restart (kept_from shard log n rs) ≡ None
none_kept shard log n [] = refl
none_kept shard log n (r ∷ rs) = no_first (kept_of shard log n r) (kept_from shard log (suc n) rs) (kept_first shard log n r) ∙ none_kept shard log (suc n) rs

same_restart : (shard : ℕ) (log : List LogRecord) → no_restart (last_restart (check shard log)) ≡ no_restart (last_restart log)
same_restart shard [] = refl
same_restart shard (r ∷ rs) =
    ap (λ o. no_restart (elim o [ Some p ↦ Some p | None ↦ Some ((no_restart (last_restart (r ∷ rs))).0, (no_restart (last_restart (r ∷ rs))).1) ])) (none_kept shard (r ∷ rs) 1 rs)

-- ---- places

pub kept_length : (shard : ℕ) (log : List LogRecord) (n : ℕ) (rs : List LogRecord) → length (kept_from shard log n rs) ≡ length rs
kept_length shard log n [] = refl
kept_length shard log n (r ∷ rs) = ap suc (kept_length shard log (suc n) rs)

pub same_length : (shard : ℕ) (log : List LogRecord) → length (check shard log) ≡ length log
same_length shard [] = refl
same_length shard (r ∷ rs) = ap suc (kept_length shard (r ∷ rs) 1 rs)

-- ---- the map

none_folds : (keep : TxId → Bool) (ws : List StandingUpdate) (m : KeyMap) → AllByRecursion (λ w. keep w.tx ≡ false) ws → fold_writes keep ws m ≡ m
none_folds keep [] m none = refl
none_folds keep (w ∷ ws) m none = ap (λ b. cond b (with_change w.key w.change (fold_writes keep ws m)) (fold_writes keep ws m)) none.0 ∙ none_folds keep ws m none.1

uncommitted : (log : List LogRecord) (ws : List StandingUpdate) → AllByRecursion (λ w. committed_in log w.tx ≡ false) (filter (λ w. not (committed_in log w.tx)) ws)
uncommitted log [] = tt
uncommitted log (w ∷ ws) =
    cond_both (not (committed_in log w.tx)) (w ∷ filter (λ v. not (committed_in log v.tx)) ws) (filter (λ v. not (committed_in log v.tx)) ws) (AllByRecursion (λ v. committed_in log v.tx ≡ false))
    (λ e. (not_true _ e, uncommitted log ws)) (λ e. uncommitted log ws)

same_map : (shard : ℕ) (log : List LogRecord) → Begins log → committed_map (check shard log) ≡ committed_map log
same_map shard [] f = refl
same_map shard (r ∷ rs) f =
    let log : List LogRecord = r ∷ rs in
    let base : KeyMap = committed_map log in
    ap (λ ws. fold_writes (committed_in (check shard log)) ws base) (open_stand shard log f)
    ∙ none_folds (committed_in (check shard log)) (filter (λ w. not (committed_in log w.tx)) (standing log)) base
    (all_mono _ _ (λ w e. false_from_ne_true _ (λ c. both_ways _ e (committed_before shard log w.tx c))) _ (uncommitted log (standing log)))

pub map_kept : CheckpointsKeepTheMap
map_kept shard log f = (same_map shard log f, same_restart shard log, same_length shard log)
