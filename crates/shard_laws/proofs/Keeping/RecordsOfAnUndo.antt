-- The records of an undo: ABORTs, CLRs and UNADDs, of those that it takes away.
use Rattle.std.proofs.Common.{◌≡◌, Bool, true, false, List, [], ◌∷◌, ◌++◌, map, Option, Some, None, refl, sym, ◌∙◌, ℕ, ⊎_elim}
use Rattle.std.specs.List.{AllByRecursion, filter}
use Rattle.std.proofs.lemmas.Bool.{both_ways, cond_both, or_cases, or_from}
use Rattle.clv_base.specs.declared.names.TxId.{TxId}
use Rattle.clv_base.specs.declared.logs.LogRecord.{LogRecord}
use Rattle.clv_base.specs.declared.logs.LogRecord.TheVariants.{Update, Prepare, Commit, Abort, Add}
use Rattle.clv_base.specs.declared.changes.Change.{Change}
use Rattle.clv_base.specs.declared.changes.Change.TheVariants.{Sets, Adds}
use Rattle.clv_base.specs.Orders.{tx_same, tx_in}
use Rattle.clv_base.specs.Logs.{StandingUpdate, standing, has_standing, committed_in, prepared_in, aborted_in, wrote_in, is_commit_of, is_update_of, is_prepare_of, is_abort_of}
use Rattle.clv_base.specs.Undo.{aborts_of, clrs_by, clrs_of, compensation, newest_lsn}
use Rattle.clv_base.proofs.SameNames.{or_left, or_right, tx_flip}
use Rattle.law_base.proofs.Commits.{committed_append}
use Rattle.law_base.proofs.Lists.{all_append}
use Rattle.law_base.proofs.Logs.{IsUndo, aborts_undo, clrs_undo, undo_passes_none}
use Rattle.law_base.proofs.Sets.{in_filter}
use Rattle.protocol_laws.specs.Order.{moves, Open_at, Tidy}
use Rattle.shard_laws.proofs.Keeping.RecordsAndFrontsKeep.{aborted_append}

-- ---- what they are not

pub undo_commits : (t : TxId) (rs : List LogRecord) → AllByRecursion IsUndo rs → committed_in rs t ≡ false
undo_commits t rs all = undo_passes_none (is_commit_of t) rs (λ r u. at r u) all
  where
    at : (r : LogRecord) → IsUndo r → is_commit_of t r ≡ false
    at (Commit tx ps) u = absurd u
    at _ u = refl

pub undo_writes : (t : TxId) (rs : List LogRecord) → AllByRecursion IsUndo rs → wrote_in rs t ≡ false
undo_writes t rs all = undo_passes_none (is_update_of t) rs (λ r u. at r u) all
  where
    at : (r : LogRecord) → IsUndo r → is_update_of t r ≡ false
    at (Update tx k b a) u = absurd u
    at (Add tx k by) u = absurd u
    at _ u = refl

pub undo_prepares : (t : TxId) (rs : List LogRecord) → AllByRecursion IsUndo rs → prepared_in rs t ≡ false
undo_prepares t rs all = undo_passes_none (is_prepare_of t) rs (λ r u. at r u) all
  where
    at : (r : LogRecord) → IsUndo r → is_prepare_of t r ≡ false
    at (Prepare tx home ps) u = absurd u
    at _ u = refl

undo_of : (set : List TxId) (log : List LogRecord) → AllByRecursion IsUndo (aborts_of log set ++ clrs_of set (standing log))
undo_of set log = all_append IsUndo (aborts_of log set) (clrs_of set (standing log)) (aborts_undo (filter (has_standing log) set)) (clrs_undo set (standing log))

pub no_commits : (set : List TxId) (t : TxId) (log : List LogRecord) → committed_in (aborts_of log set ++ clrs_of set (standing log)) t ≡ false
no_commits set t log = undo_commits t _ (undo_of set log)

pub no_writes : (set : List TxId) (t : TxId) (log : List LogRecord) → wrote_in (aborts_of log set ++ clrs_of set (standing log)) t ≡ false
no_writes set t log = undo_writes t _ (undo_of set log)

pub no_prepares : (set : List TxId) (t : TxId) (log : List LogRecord) → prepared_in (aborts_of log set ++ clrs_of set (standing log)) t ≡ false
no_prepares set t log = undo_prepares t _ (undo_of set log)

-- ---- who is aborted by them

no_abort_of : (t tx : TxId) (next : Option ℕ) (key : ℕ) (c : Change) → is_abort_of t (compensation tx next key c) ≡ false
no_abort_of t tx next key (Sets before after) = refl
no_abort_of t tx next key (Adds by) = refl

pub no_abort_clrs : (gone : StandingUpdate → Bool) (t : TxId) (ws : List StandingUpdate) → aborted_in (clrs_by gone ws) t ≡ false
no_abort_clrs gone t [] = refl
no_abort_clrs gone t (w ∷ ws) =
    cond_both (gone w) (compensation w.tx (newest_lsn w.tx ws) w.key w.change ∷ clrs_by gone ws) (clrs_by gone ws) (λ l. aborted_in l t ≡ false)
    (λ e. or_from _ _ (no_abort_of t w.tx (newest_lsn w.tx ws) w.key w.change) (no_abort_clrs gone t ws)) (λ e. no_abort_clrs gone t ws)

aborted_one : (t : TxId) (ts : List TxId) → aborted_in (map (λ u. Abort u) ts) t ≡ true → tx_in t ts ≡ true
aborted_one t [] e = e
aborted_one t (u ∷ us) e = ⊎_elim (λ h. or_left _ _ (tx_flip t u h)) (λ h. or_right (tx_same u t) _ (aborted_one t us h)) (or_cases (tx_same t u) (aborted_in (map (λ u. Abort u) us) t) e)

pub aborted_here : (set : List TxId) (t : TxId) (log : List LogRecord) → aborted_in (aborts_of log set ++ clrs_of set (standing log)) t ≡ true → tx_in t set ≡ true
aborted_here set t log e =
    ⊎_elim (λ h. (in_filter (has_standing log) t set (aborted_one t (filter (has_standing log) set) h)).0) (λ h. absurd (both_ways _ (no_abort_clrs _ t (standing log)) h))
    (or_cases (aborted_in (aborts_of log set) t) _ (sym (aborted_append (aborts_of log set) (clrs_of set (standing log)) t) ∙ e))

-- ---- they move those alone that are not committed

-- a record that is no COMMIT, and moves one that is not committed
abbrev pub Harmless : List LogRecord → LogRecord → Type 0
Harmless log r = Open_at log (moves r) × ((t : TxId) → is_commit_of t r ≡ false)

open_more : (log before : List LogRecord) (o : Option TxId) → ((t : TxId) → committed_in log t ≡ false → committed_in before t ≡ false) → Open_at log o → Open_at before o
open_more log before None h e = tt
open_more log before (Some t) h e = h t e

pub tidy_harmless : (log before rs : List LogRecord) → ((t : TxId) → committed_in log t ≡ false → committed_in before t ≡ false) → AllByRecursion (Harmless log) rs → Tidy before rs
tidy_harmless log before [] h all = tt
tidy_harmless log before (r ∷ rs) h all = (
  open_more log before (moves r) h all.0.0,
  tidy_harmless log (before ++ r ∷ []) rs (λ t e. committed_append before (r ∷ []) t ∙ or_from _ _ (h t e) (or_from _ false (all.0.1 t) refl)) all.1,
)

pub harmless_aborts : (log : List LogRecord) (ts : List TxId) → AllByRecursion (Harmless log) (map (λ u. Abort u) ts)
harmless_aborts log [] = tt
harmless_aborts log (t ∷ ts) = ((tt, λ u. refl), harmless_aborts log ts)

harmless_undo : (log : List LogRecord) (tx : TxId) (next : Option ℕ) (key : ℕ) (c : Change) → committed_in log tx ≡ false → Harmless log (compensation tx next key c)
harmless_undo log tx next key (Sets before after) h = (h, λ u. refl)
harmless_undo log tx next key (Adds by) h = (h, λ u. refl)

pub harmless_clrs : (log : List LogRecord) (gone : StandingUpdate → Bool) (ws : List StandingUpdate) → AllByRecursion (λ w. gone w ≡ true → committed_in log w.tx ≡ false) ws → AllByRecursion (Harmless log) (clrs_by gone ws)
harmless_clrs log gone [] h = tt
harmless_clrs log gone (w ∷ ws) h =
    cond_both (gone w) (compensation w.tx (newest_lsn w.tx ws) w.key w.change ∷ clrs_by gone ws) (clrs_by gone ws) (AllByRecursion (Harmless log))
    (λ i. (harmless_undo log w.tx (newest_lsn w.tx ws) w.key w.change (h.0 i), harmless_clrs log gone ws h.1)) (λ i. harmless_clrs log gone ws h.1)
