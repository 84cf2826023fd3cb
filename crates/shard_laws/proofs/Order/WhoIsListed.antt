-- Whom PREPAREs list: each has a PREPARE, or is of an earlier run, as one that a checkpoint let go. And who is committed in what it kept.
use Rattle.std.proofs.Common.{◌≡◌, ◌⊎◌, inl, inr, ⊎_elim, refl, sym, ap, subst, ◌∙◌, ℕ, zero, suc, length, ◌≤◌, ◌<◌, Bool, true, false, cond, not, ◌&&◌, ◌||◌, List, [], ◌∷◌, ◌++◌, take, drop, Some, None, arith}
use Rattle.std.specs.List.{AllByRecursion, list_all}
use Rattle.std.proofs.lemmas.Bool.{both_ways, or_cases}
use Rattle.std.proofs.lemmas.List.{take-append-drop}
use Rattle.std.proofs.lemmas.List.Folds.{list_any-append}
use Rattle.clv_base.specs.declared.names.TxId.{TxId}
use Rattle.clv_base.specs.declared.logs.LogRecord.{LogRecord}
use Rattle.clv_base.specs.declared.logs.LogRecord.TheVariants.{Prepare, Check}
use Rattle.clv_base.specs.Orders.{tx_same, tx_in}
use Rattle.clv_base.specs.Logs.{committed_in, prepared_in, aborted_in, prepare_of, is_commit_of, is_prepare_of}
use Rattle.clv_base.specs.LogRules.{may_follow, lists, is_listed, listed_in, upto_of, part_of, disorder}
use Rattle.clv_base.specs.Restarts.{greatest_run}
use Rattle.clv_base.proofs.SameNames.{or_left, or_right, tx_self}
use Rattle.law_base.specs.Coming.{may_come_listed, may_come, AllCome, Follows}
use Rattle.law_base.proofs.Bools.{and_first as front, and_second as last}
use Rattle.law_base.proofs.InOrder.{all_take, listed_of, through}
use Rattle.law_base.proofs.LetGo.{in_part, listed_known, let_go_unprepared}
use Rattle.law_base.proofs.Logs.{push_left}
use Rattle.law_base.proofs.Parts.{in_order_comes, in_order_take, whole_part}
use Rattle.law_base.proofs.Places.{upto_later}
use Rattle.law_base.proofs.Sets.{list_all_at}
use Rattle.protocol_laws.proofs.LogsInOrder.{runs_in_order}
use Rattle.protocol_laws.proofs.LogsInOrder.OneRecordMore.{push_cases, own_commit}
use Rattle.protocol_laws.proofs.LogsInOrder.RunsAreOfRestarts.{past_fits, record_fits}
use Rattle.shard_laws.proofs.Order.RecordByRecord.{greatest_front}

abbrev pub Named : ℕ → List LogRecord → Type 0
Named run log = (t : TxId) → is_listed log t ≡ true → (prepared_in log t ≡ true) ⊎ (t.run < run)

pub listed_there : (log : List LogRecord) (u p : TxId) → tx_in p (listed_in log u) ≡ true → is_listed log p ≡ true
listed_there [] u p i = i
listed_there (Prepare tx home ps ∷ rs) u p i = at (tx_same u tx) i (λ e. listed_there rs u p e)
  where
    at : (b : Bool) → tx_in p (elim (cond b (Some (home, ps)) (prepare_of rs u)) [ Some q ↦ q.1 | None ↦ [] ]) ≡ true → (tx_in p (listed_in rs u) ≡ true → is_listed rs p ≡ true) → (tx_in p ps || is_listed rs p) ≡ true
    at true e more = or_left _ _ e
    at false e more = or_right (tx_in p ps) _ (more e)
listed_there (_ ∷ rs) u p i = listed_there rs u p i

-- records without a PREPARE list nobody
pub no_lists : (r : LogRecord) → ((u : TxId) → is_prepare_of u r ≡ false) → (t : TxId) → lists t r ≡ false
no_lists (Prepare tx home ps) none t = absurd (both_ways _ (none tx) (tx_self tx))
no_lists _ none t = refl

pub unlisted_all : (rs : List LogRecord) → AllByRecursion (λ r. (u : TxId) → is_prepare_of u r ≡ false) rs → (t : TxId) → is_listed rs t ≡ false
unlisted_all [] a t = refl
unlisted_all (r ∷ rs) a t = ap (λ b. b || is_listed rs t) (no_lists r a.0 t) ∙ unlisted_all rs a.1 t

pub named_more : (run : ℕ) (log more : List LogRecord) → ((t : TxId) → is_listed more t ≡ false) → Named run log → Named run (log ++ more)
named_more run log more none n t i =
    ⊎_elim (λ old. ⊎_elim (λ p. inl (list_any-append (is_prepare_of t) log more ∙ or_left _ _ p)) (λ l. inr l) (n t old)) (λ new. absurd (both_ways _ (none t) new))
    (or_cases (is_listed log t) (is_listed more t) (sym (list_any-append (lists t) log more) ∙ i))

-- a PREPARE lists those that have one
pub named_prepare : (run : ℕ) (log : List LogRecord) (tx : TxId) (home : ℕ) (ps : List TxId) → ((t : TxId) → lists t (Prepare tx home ps) ≡ true → prepared_in log t ≡ true) → Named run log → Named run (log ++ Prepare tx home ps ∷ [])
named_prepare run log tx home ps have n t i =
    ⊎_elim (λ p. inl (push_left (is_prepare_of t) log (Prepare tx home ps) p)) (λ l. inr l)
    (⊎_elim (λ old. n t old) (λ new. inl (have t new)) (push_cases (lists t) log (Prepare tx home ps) i))

pub prepares_listed : (shard : ℕ) (log : List LogRecord) (tx : TxId) (home : ℕ) (ps : List TxId) → may_follow shard log (Prepare tx home ps) ≡ true → (t : TxId) → tx_in t ps ≡ true → prepared_in log t ≡ true
prepares_listed shard log tx home ps m t i = each (last _ _ (front _ _ m))
  where
    each : list_all (λ p. not (tx_same p tx) && prepared_in log p && not (committed_in log p) && not (aborted_in log p)) ps ≡ true → prepared_in log t ≡ true
    each a =
        last (not (tx_same t tx)) (prepared_in log t)
        (front (not (tx_same t tx) && prepared_in log t) (not (committed_in log t)) (front (not (tx_same t tx) && prepared_in log t && not (committed_in log t)) (not (aborted_in log t))
        (list_all_at (λ p. not (tx_same p tx) && prepared_in log p && not (committed_in log p) && not (aborted_in log p)) t ps a i)))

-- ---- in a log in order

listed_step : (shard : ℕ) (part log : List LogRecord) (r : LogRecord) (t : TxId) → may_come shard part log r ≡ true → lists t r ≡ true → (prepared_in log t ≡ true) ⊎ (t.run ≤ greatest_run log)
listed_step shard part log (Prepare tx home ps) t m i =
    ⊎_elim (λ p. inl p) (λ g. inr (past_fits log t g.1)) (listed_of part log tx t (list_all_at (may_come_listed part log tx) t ps (last _ _ (front _ _ m)) i))
listed_step shard part log _ t m i = absurd (both_ways false refl i)

listed_past : (shard : ℕ) (part log : List LogRecord) → AllCome shard part log → (t : TxId) → is_listed log t ≡ true → (prepared_in log t ≡ true) ⊎ (t.run ≤ greatest_run log)
listed_past shard part log f =
    through (λ l. (t : TxId) → is_listed l t ≡ true → (prepared_in l t ≡ true) ⊎ (t.run ≤ greatest_run l)) shard part
    (λ l r g h m t i.
    let more = greatest_front l (r ∷ []) (greatest_run (l ++ r ∷ [])) (omega arith) in
    ⊎_elim (λ p. inl (push_left (is_prepare_of t) l r p)) (λ k. inr (omega (arith, k, more))) (⊎_elim (λ old. h t old) (λ new. listed_step shard part l r t m new) (push_cases (lists t) l r i)))
    log f (λ t i. absurd (both_ways false refl i)) (λ run epoch upto base rises t i. absurd (both_ways false refl i))

-- of earlier runs
pub named_found : (shard run : ℕ) (log : List LogRecord) → disorder shard log ≡ None → greatest_run log < run → Named run log
named_found shard run log d l t i = ⊎_elim (λ p. inl p) (λ k. inr (omega (arith, k, l))) (listed_past shard (part_of log) log (in_order_comes shard log d) t i)

-- of a front: who has its PREPARE later isn't listed there
pub named_cut : (shard run n : ℕ) (log : List LogRecord) → disorder shard log ≡ None → Named run log → Named run (take n log)
named_cut shard run n log d k t i =
    let come = in_order_comes shard log d in
    ⊎_elim (λ p. inl p)
    (λ g. ⊎_elim (λ p. absurd (both_ways _ (let_go_unprepared shard (part_of log) t g log come) p)) (λ l. inr l)
    (k t (subst (λ z. is_listed z t ≡ true) (take-append-drop n log) (list_any-append (lists t) (take n log) (drop n log) ∙ or_left _ _ i))))
    (listed_known shard (part_of log) (take n log) (all_take shard n (part_of log) log come) t i)

-- ---- who is committed in what a checkpoint kept is of an earlier run

abbrev pub OldParted : ℕ → List LogRecord → Type 0
OldParted run log = (t : TxId) → committed_in (part_of log) t ≡ true → t.run < run

take_first : (n : ℕ) (xs ys : List LogRecord) → n ≤ length xs → take n (xs ++ ys) ≡ take n xs
take_first zero xs ys l = refl
take_first (suc n) [] ys l = absurd (omega (arith, l))
take_first (suc n) (x ∷ xs) ys l = ap (λ (zs : List LogRecord). x ∷ zs) (take_first n xs ys (omega (arith, l)))

follows_upto : (shard : ℕ) (log more : List LogRecord) → Follows shard log more → upto_of more ≡ 0
follows_upto shard log [] f = refl
follows_upto shard log (Check run epoch upto base ∷ rs) f = absurd (both_ways false refl f.0)
follows_upto shard log (_ ∷ rs) f = refl

-- the part stays where the log goes on
pub part_more : (shard : ℕ) (log more : List LogRecord) → disorder shard log ≡ None → Follows shard log more → part_of (log ++ more) ≡ part_of log
part_more shard log more d f =
    ap (λ n. take n (log ++ more)) (upto_later log more (follows_upto shard log more f)) ∙ take_first (upto_of log) log more (whole_part shard log d)

pub old_more : (shard run : ℕ) (log more : List LogRecord) → disorder shard log ≡ None → Follows shard log more → OldParted run log → OldParted run (log ++ more)
old_more shard run log more d f o t c = o t (subst (λ l. committed_in l t ≡ true) (part_more shard log more d f) c)

-- and where it is cut behind it
pub old_cut : (shard run n : ℕ) (log : List LogRecord) → upto_of log ≤ n → disorder shard log ≡ None → OldParted run log → OldParted run (take n log)
old_cut shard run n log l d o t c =
    let k = in_order_take shard n log l d in
    o t (subst (λ z. committed_in z t ≡ true) (sym (part_more shard (take n log) (drop n log) k.0 k.1) ∙ ap part_of (take-append-drop n log)) c)

pub old_found : (shard run : ℕ) (log : List LogRecord) → disorder shard log ≡ None → greatest_run log < run → OldParted run log
old_found shard run log d l t c =
    let k = record_fits (greatest_run log) t (is_commit_of t) (own_commit t) log (runs_in_order shard log d) (in_part log t c) in omega (arith, k, l)
