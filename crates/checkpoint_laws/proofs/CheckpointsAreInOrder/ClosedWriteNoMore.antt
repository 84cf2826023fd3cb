-- Who is prepared, committed or aborted writes and prepares no more.
use Rattle.std.proofs.Common.{◌≡◌, ⊎_elim, refl, sym, subst, ℕ, Bool, true, false, not, ◌&&◌, ◌||◌, List, [], ◌∷◌, ◌++◌}
use Rattle.std.specs.List.{list_any}
use Rattle.std.proofs.lemmas.Bool.{both_ways, and_parts, and_from, or_cases, or_parts, false_from_ne_true}
use Rattle.clv_base.specs.declared.names.TxId.{TxId}
use Rattle.clv_base.specs.declared.logs.LogRecord.{LogRecord}
use Rattle.clv_base.specs.declared.logs.LogRecord.TheVariants.{Update, Prepare, Add}
use Rattle.clv_base.specs.Orders.{tx_same}
use Rattle.clv_base.specs.Logs.{is_update_of, is_prepare_of, is_commit_of, is_abort_of, wrote_in, committed_in, prepared_in, aborted_in}
use Rattle.clv_base.specs.LogRules.{before_restart, is_unclosed}
use Rattle.clv_base.proofs.SameNames.{tx_true}
use Rattle.law_base.proofs.Bools.{and_first as front, and_second as last, not_true}
use Rattle.law_base.proofs.Logs.{push_left}
use Rattle.law_base.specs.Coming.{may_go_on, may_come_writing, may_come, Comes}

-- neither prepared, nor committed, nor aborted
pub make_unclosed : (log : List LogRecord) (tx : TxId) → not (prepared_in log tx) ≡ true → not (committed_in log tx) ≡ true → not (aborted_in log tx) ≡ true → is_unclosed log tx ≡ true
make_unclosed log tx p c a = and_from (not (prepared_in log tx) && not (committed_in log tx)) (not (aborted_in log tx)) (and_from (not (prepared_in log tx)) (not (committed_in log tx)) p c) a

pub unclosed_is : (log : List LogRecord) (tx : TxId) → is_unclosed log tx ≡ true → (prepared_in log tx ≡ false) × (committed_in log tx ≡ false) × (aborted_in log tx ≡ false)
unclosed_is log tx u =
    let a = and_parts (not (prepared_in log tx) && not (committed_in log tx)) (not (aborted_in log tx)) u in
    let b = and_parts (not (prepared_in log tx)) (not (committed_in log tx)) a.0 in
    (not_true _ b.0, not_true _ b.1, not_true _ a.1)

writing_unclosed : (part log : List LogRecord) (tx : TxId) → may_come_writing part log tx ≡ true → is_unclosed log tx ≡ true
writing_unclosed part log tx m =
    let a = and_parts (may_go_on part log tx && not (prepared_in log tx) && not (committed_in log tx) && not (aborted_in log tx)) (not (wrote_in (before_restart [] log) tx)) m in
    let b = and_parts (may_go_on part log tx && not (prepared_in log tx) && not (committed_in log tx)) (not (aborted_in log tx)) a.0 in
    let c = and_parts (may_go_on part log tx && not (prepared_in log tx)) (not (committed_in log tx)) b.0 in
    make_unclosed log tx (last _ _ c.0) c.1 b.1

prepare_unclosed : (shard : ℕ) (part log : List LogRecord) (tx : TxId) (home : ℕ) (ps : List TxId) → may_come shard part log (Prepare tx home ps) ≡ true → is_unclosed log tx ≡ true
prepare_unclosed shard part log tx home ps m =
    let a = and_parts _ _ (and_parts _ _ m).0 in let b = and_parts _ _ a.0 in let c = and_parts _ _ b.0 in let e = and_parts _ _ c.0 in
    make_unclosed log tx e.1 c.1 b.1

-- whose UPDATE, ADD or PREPARE comes is neither prepared, nor committed, nor aborted
pub come_unclosed : (shard : ℕ) (part log : List LogRecord) (r : LogRecord) (t : TxId) → may_come shard part log r ≡ true → (is_update_of t r || is_prepare_of t r) ≡ true → is_unclosed log t ≡ true
come_unclosed shard part log (Update tx key before after) t m e =
    ⊎_elim (λ s. subst (λ z. is_unclosed log z ≡ true) (sym (tx_true t tx s)) (writing_unclosed part log tx (front _ _ (front _ _ (front _ _ m))))) (λ n. absurd (both_ways false refl n)) (or_cases (tx_same t tx) false e)
come_unclosed shard part log (Add tx key by) t m e =
    ⊎_elim (λ s. subst (λ z. is_unclosed log z ≡ true) (sym (tx_true t tx s)) (writing_unclosed part log tx (front _ _ (front _ _ m)))) (λ n. absurd (both_ways false refl n)) (or_cases (tx_same t tx) false e)
come_unclosed shard part log (Prepare tx home ps) t m e = subst (λ z. is_unclosed log z ≡ true) (sym (tx_true t tx e)) (prepare_unclosed shard part log tx home ps m)
come_unclosed shard part log _ t m e = absurd (both_ways false refl e)

-- a test of records that tells that a transaction is closed or aborted
abbrev pub Closes : TxId → (LogRecord → Bool) → Type 0
Closes t f = (log : List LogRecord) → is_unclosed log t ≡ true → list_any f log ≡ false

pub prepare_closes : (t : TxId) → Closes t (is_prepare_of t)
prepare_closes t log u = (unclosed_is log t u).0

pub commit_closes : (t : TxId) → Closes t (is_commit_of t)
commit_closes t log u = (unclosed_is log t u).1

pub abort_closes : (t : TxId) → Closes t (is_abort_of t)
abort_closes t log u = (unclosed_is log t u).2

pub neither : (a b : Bool) → a ≡ false → b ≡ false → (a || b) ≡ false
neither true b e f = e
neither false b e f = f

none_more : (shard : ℕ) (part : List LogRecord) (t : TxId) (f : LogRecord → Bool) → Closes t f → (before rs : List LogRecord) → Comes shard part before rs → list_any f before ≡ true → list_any (λ r. is_update_of t r || is_prepare_of t r) rs ≡ false
none_more shard part t f closes before [] c e = refl
none_more shard part t f closes before (r ∷ rs) c e =
    neither _ _ (false_from_ne_true _ (λ g. both_ways _ (closes before (come_unclosed shard part before r t c.0 g)) e)) (none_more shard part t f closes (before ++ r ∷ []) rs c.1 (push_left f before r e))

pub writes_no_more : (shard : ℕ) (part : List LogRecord) (t : TxId) (f : LogRecord → Bool) → Closes t f → (before rs : List LogRecord) → Comes shard part before rs → list_any f before ≡ true → wrote_in rs t ≡ false
writes_no_more shard part t f closes before rs c e = split rs (none_more shard part t f closes before rs c e)
  where
    split : (xs : List LogRecord) → list_any (λ r. is_update_of t r || is_prepare_of t r) xs ≡ false → wrote_in xs t ≡ false
    split [] n = refl
    split (x ∷ xs) n = let p = or_parts (is_update_of t x || is_prepare_of t x) _ n in neither _ _ (or_parts (is_update_of t x) (is_prepare_of t x) p.0).0 (split xs p.1)

pub prepares_no_more : (shard : ℕ) (part : List LogRecord) (t : TxId) (f : LogRecord → Bool) → Closes t f → (before rs : List LogRecord) → Comes shard part before rs → list_any f before ≡ true → prepared_in rs t ≡ false
prepares_no_more shard part t f closes before rs c e = split rs (none_more shard part t f closes before rs c e)
  where
    split : (xs : List LogRecord) → list_any (λ r. is_update_of t r || is_prepare_of t r) xs ≡ false → prepared_in xs t ≡ false
    split [] n = refl
    split (x ∷ xs) n = let p = or_parts (is_update_of t x || is_prepare_of t x) _ n in neither _ _ (or_parts (is_update_of t x) (is_prepare_of t x) p.0).1 (split xs p.1)
