-- The transactions of a log in order are of the runs of its RESTARTs.
use Rattle.std.proofs.Common.{◌≡◌, refl, sym, subst, ℕ, suc, ◌≤◌, true, false, cond, Bool, ◌&&◌, nat_lt, nat_le, List, [], ◌∷◌, ◌++◌, length, Option, Some, None, ⊎_elim, max, arith}
use Rattle.std.specs.List.{AllByRecursion, list_any}
use Rattle.std.proofs.lemmas.Bool.{both_ways, or_cases, leb-true}
use Rattle.clv_base.specs.declared.names.TxId.{TxId}
use Rattle.clv_base.specs.declared.logs.LogRecord.{LogRecord}
use Rattle.clv_base.specs.declared.logs.LogRecord.TheVariants.{Update, Clr, Prepare, Commit, Abort, End, Restart, Add, Unadd, Forgotten, Check}
use Rattle.clv_base.specs.Orders.{tx_same}
use Rattle.clv_base.specs.declared.changes.Change.TheVariants.{Sets, Adds}
use Rattle.clv_base.specs.Logs.{StandingUpdate, own_tx, is_commit_of, is_prepare_of, prepare_of, commit_parts, standing, standing_from, without_newest, newest_of}
use Rattle.clv_base.specs.LogRules.{last_restart, before_restart, has_new_standing, some_parts, clears, unadds, compensates}
use Rattle.law_base.specs.Coming.{is_of_past, is_bare, commit_may_come, may_come}
use Rattle.clv_base.proofs.SameNames.{tx_true}
use Rattle.clv_base.specs.Restarts.{greatest_run}
use Rattle.protocol_laws.specs.Order.{OfRun, RunFits}
use Rattle.protocol_laws.proofs.LogsInOrder.OneRecordMore.{own_commit, own_prepare, prepared_there, committed_there}
use Rattle.law_base.proofs.Bools.{and_first as front, and_second as last}
use Rattle.law_base.proofs.Names.{all_without}

run_more : (n m : ℕ) (o : Option TxId) → n ≤ m → OfRun n o → OfRun m o
run_more n m None l f = tt
run_more n m (Some t) l f = omega (arith, l, f)

pub all_fit_more : (n m : ℕ) (rs : List LogRecord) → n ≤ m → AllByRecursion (RunFits n) rs → AllByRecursion (RunFits m) rs
all_fit_more n m [] l a = tt
all_fit_more n m (r ∷ rs) l a = (run_more n m (own_tx r) l a.0, all_fit_more n m rs l a.1)

push_all : (n : ℕ) (rs : List LogRecord) (r : LogRecord) → AllByRecursion (RunFits n) rs → RunFits n r → AllByRecursion (RunFits n) (rs ++ r ∷ [])
push_all n [] r a f = (f, tt)
push_all n (q ∷ qs) r a f = (a.0, push_all n qs r a.1 f)

greatest_grows : (rs : List LogRecord) (r : LogRecord) → greatest_run rs ≤ greatest_run (rs ++ r ∷ [])
greatest_grows [] r = omega arith
greatest_grows (Restart run epoch ∷ rs) r = let k = greatest_grows rs r in omega (arith, k)
greatest_grows (Update tx key before after ∷ rs) r = greatest_grows rs r
greatest_grows (Clr tx next key after ∷ rs) r = greatest_grows rs r
greatest_grows (Prepare tx home ps ∷ rs) r = greatest_grows rs r
greatest_grows (Commit tx parts ∷ rs) r = greatest_grows rs r
greatest_grows (Abort tx ∷ rs) r = greatest_grows rs r
greatest_grows (End tx ∷ rs) r = greatest_grows rs r
greatest_grows (Add tx key by ∷ rs) r = greatest_grows rs r
greatest_grows (Unadd tx next key by ∷ rs) r = greatest_grows rs r
greatest_grows (Forgotten ∷ rs) r = greatest_grows rs r
greatest_grows (Check run' epoch' upto base ∷ rs) r = let k = greatest_grows rs r in omega (arith, k)

-- the last RESTART's run is no later
data LastFits (n : ℕ) : Option (ℕ × ℕ) → Type 0 where
  none : LastFits n None
  some : {p : ℕ × ℕ} → p.0 ≤ n → LastFits n (Some p)

last_case : (run epoch n : ℕ) (o : Option (ℕ × ℕ)) → LastFits n o → LastFits (max run n) (elim o [ Some p ↦ Some p | None ↦ Some (run, epoch) ])
last_case run epoch n None l = some (omega arith)
last_case run epoch n (Some p) (some l) = some (omega (arith, l))

last_fits : (rs : List LogRecord) → LastFits (greatest_run rs) (last_restart rs)
last_fits [] = none
last_fits (Restart run epoch ∷ rs) = last_case run epoch (greatest_run rs) (last_restart rs) (last_fits rs)
last_fits (Update tx key before after ∷ rs) = last_fits rs
last_fits (Clr tx next key after ∷ rs) = last_fits rs
last_fits (Prepare tx home ps ∷ rs) = last_fits rs
last_fits (Commit tx parts ∷ rs) = last_fits rs
last_fits (Abort tx ∷ rs) = last_fits rs
last_fits (End tx ∷ rs) = last_fits rs
last_fits (Add tx key by ∷ rs) = last_fits rs
last_fits (Unadd tx next key by ∷ rs) = last_fits rs
last_fits (Forgotten ∷ rs) = last_fits rs
last_fits (Check run' epoch' upto base ∷ rs) = last_case run' epoch' (greatest_run rs) (last_restart rs) (last_fits rs)

past_case : (n : ℕ) (tx : TxId) (o : Option (ℕ × ℕ)) → LastFits n o → elim o [ Some p ↦ nat_le tx.run p.0 | None ↦ false ] ≡ true → tx.run ≤ n
past_case n tx None l e = absurd (both_ways false refl e)
past_case n tx (Some p) (some l) e = let q = leb-true tx.run p.0 e in omega (arith, l, q)

pub past_fits : (rs : List LogRecord) (tx : TxId) → is_of_past rs tx ≡ true → tx.run ≤ greatest_run rs
past_fits rs tx e = past_case (greatest_run rs) tx (last_restart rs) (last_fits rs) e

-- who has a record there is of no later run
pub record_fits : (n : ℕ) (t : TxId) (test : LogRecord → Bool) → ((r : LogRecord) → test r ≡ true → own_tx r ≡ Some t) → (rs : List LogRecord) → AllByRecursion (RunFits n) rs → list_any test rs ≡ true → t.run ≤ n
record_fits n t test own [] a e = absurd (both_ways false refl e)
record_fits n t test own (r ∷ rs) a e = ⊎_elim (λ s. subst (OfRun n) (own r s) a.0) (λ s. record_fits n t test own rs a.1 s) (or_cases (test r) (list_any test rs) e)

-- so are those of the writes that stand
writes_fit : (n i : ℕ) (rs : List LogRecord) (ws : List StandingUpdate) → AllByRecursion (RunFits n) rs → AllByRecursion (λ w. (w.tx).run ≤ n) ws → AllByRecursion (λ w. (w.tx).run ≤ n) (standing_from i rs ws)
writes_fit n i [] ws a b = b
writes_fit n i (Update tx key before after ∷ rs) ws a b = writes_fit n (suc i) rs (record { lsn = i; tx = tx; key = key; change = Sets before after } ∷ ws) a.1 (a.0, b)
writes_fit n i (Clr tx next key after ∷ rs) ws a b = writes_fit n (suc i) rs (without_newest tx ws) a.1 (all_without _ tx ws b)
writes_fit n i (Prepare tx home ps ∷ rs) ws a b = writes_fit n (suc i) rs ws a.1 b
writes_fit n i (Commit tx parts ∷ rs) ws a b = writes_fit n (suc i) rs ws a.1 b
writes_fit n i (Abort tx ∷ rs) ws a b = writes_fit n (suc i) rs ws a.1 b
writes_fit n i (End tx ∷ rs) ws a b = writes_fit n (suc i) rs ws a.1 b
writes_fit n i (Restart run epoch ∷ rs) ws a b = writes_fit n (suc i) rs ws a.1 b
writes_fit n i (Add tx key by ∷ rs) ws a b = writes_fit n (suc i) rs (record { lsn = i; tx = tx; key = key; change = Adds by } ∷ ws) a.1 (a.0, b)
writes_fit n i (Unadd tx next key by ∷ rs) ws a b = writes_fit n (suc i) rs (without_newest tx ws) a.1 (all_without _ tx ws b)
writes_fit n i (Forgotten ∷ rs) ws a b = writes_fit n (suc i) rs ws a.1 b
writes_fit n i (Check run' epoch' upto base ∷ rs) ws a b = writes_fit n (suc i) rs ws a.1 b

same_fits : (n : ℕ) (tx u : TxId) → tx_same tx u ≡ true → u.run ≤ n → tx.run ≤ n
same_fits n tx u e f = subst (λ z. z.run ≤ n) (sym (tx_true tx u e)) f

writer_fits : (n : ℕ) (tx : TxId) (test : StandingUpdate → Bool) (ws : List StandingUpdate) → ((w : StandingUpdate) → test w ≡ true → tx_same tx w.tx ≡ true) → AllByRecursion (λ w. (w.tx).run ≤ n) ws → list_any test ws ≡ true → tx.run ≤ n
writer_fits n tx test [] k a e = absurd (both_ways false refl e)
writer_fits n tx test (w ∷ ws) k a e = ⊎_elim (λ h. same_fits n tx w.tx (k w h) a.0) (λ h. writer_fits n tx test ws k a.1 h) (or_cases (test w) (list_any test ws) e)

newest_fits : (n : ℕ) (tx : TxId) (u : StandingUpdate) (ws : List StandingUpdate) → AllByRecursion (λ w. (w.tx).run ≤ n) ws → newest_of tx ws ≡ Some u → tx.run ≤ n
newest_fits n tx u [] a e = absurd cc
newest_fits n tx u (w ∷ ws) a e = at (tx_same tx w.tx) refl e (λ f. newest_fits n tx u ws a.1 f)
  where
    at : (b : Bool) → tx_same tx w.tx ≡ b → cond b (Some w) (newest_of tx ws) ≡ Some u → (newest_of tx ws ≡ Some u → tx.run ≤ n) → tx.run ≤ n
    at true s f more = same_fits n tx w.tx s a.0
    at false s f more = more f

compensated_fits : (n : ℕ) (tx : TxId) (next : Option ℕ) (key : ℕ) (test : StandingUpdate → Bool) (ws : List StandingUpdate) (o : Option StandingUpdate) → newest_of tx ws ≡ o → AllByRecursion (λ w. (w.tx).run ≤ n) ws
    → compensates test tx next key ws o ≡ true → tx.run ≤ n
compensated_fits n tx next key test ws None e a c = absurd (both_ways false refl c)
compensated_fits n tx next key test ws (Some w) e a c = newest_fits n tx w ws a e

commit_case : (shard n : ℕ) (part log : List LogRecord) (tx : TxId) (parts : List ℕ) (o : Option (ℕ × List TxId)) → prepare_of log tx ≡ o → AllByRecursion (RunFits n) log → (is_of_past log tx ≡ true → tx.run ≤ n)
    → commit_may_come shard part log tx parts o ≡ true → tx.run ≤ n
commit_case shard n part log tx parts None e a k c = k (front _ _ c)
commit_case shard n part log tx parts (Some p) e a k c = record_fits n tx (is_prepare_of tx) (own_prepare tx) log a (prepared_there log tx p e)

end_case : (n : ℕ) (log : List LogRecord) (tx : TxId) (o : Option (List ℕ)) → commit_parts log tx ≡ o → AllByRecursion (RunFits n) log → elim o [ Some ps ↦ some_parts ps | None ↦ false ] ≡ true → tx.run ≤ n
end_case n log tx None e a c = absurd (both_ways false refl c)
end_case n log tx (Some ps) e a c = record_fits n tx (is_commit_of tx) (own_commit tx) log a (committed_there log tx ps e)

-- a record that comes is of no later run
comes_fit : (shard : ℕ) (part log : List LogRecord) (r : LogRecord) → AllByRecursion (RunFits (greatest_run log)) log → may_come shard part log r ≡ true → RunFits (greatest_run log) r
comes_fit shard part log (Update tx key before after) a m = past_fits log tx (front _ _ (front _ _ (front _ _ (front _ _ (front _ _ (front _ _ (front _ _ (front _ _ m))))))))
comes_fit shard part log (Prepare tx home ps) a m =
    ⊎_elim
    (λ e. writer_fits (greatest_run log) tx (λ w. tx_same tx w.tx && nat_lt (length (before_restart [] log)) w.lsn) (standing log) (λ w e. front _ _ e) (writes_fit (greatest_run log) 0 log [] a tt) e)
    (λ e. bare ps e) (or_cases (has_new_standing log tx) (is_bare part log tx ps) (last _ _ (front _ _ (front _ _ (front _ _ (front _ _ (front _ _ m)))))))
  where
    bare : (qs : List TxId) → is_bare part log tx qs ≡ true → tx.run ≤ greatest_run log
    bare [] e = past_fits log tx (last _ _ e)
    bare (q ∷ qs) e = absurd (both_ways false refl e)
comes_fit shard part log (Commit tx parts) a m = commit_case shard (greatest_run log) part log tx parts (prepare_of log tx) refl a (past_fits log tx) (last _ _ (front _ _ m))
comes_fit shard part log (Clr tx next key after) a m =
    compensated_fits (greatest_run log) tx next key (λ w. clears w after (standing log) w.change) (standing log) (newest_of tx (standing log)) refl (writes_fit (greatest_run log) 0 log [] a tt) (last _ _ m)
comes_fit shard part log (Abort tx) a m = writer_fits (greatest_run log) tx (λ w. tx_same tx w.tx) (standing log) (λ w e. e) (writes_fit (greatest_run log) 0 log [] a tt) (last _ _ (front _ _ (front _ _ m)))
comes_fit shard part log (End tx) a m = end_case (greatest_run log) log tx (commit_parts log tx) refl a (last _ _ m)
comes_fit shard part log (Restart run epoch) a m = tt
comes_fit shard part log (Add tx key by) a m = past_fits log tx (front _ _ (front _ _ (front _ _ (front _ _ (front _ _ (front _ _ (front _ _ m)))))))
comes_fit shard part log (Unadd tx next key by) a m =
    compensated_fits (greatest_run log) tx next key (λ w. unadds w by (standing log) w.change) (standing log) (newest_of tx (standing log)) refl (writes_fit (greatest_run log) 0 log [] a tt) (last _ _ m)
comes_fit shard part log Forgotten a m = tt
comes_fit shard part log (Check run' epoch' upto base) a m = tt

pub runs_step : (shard : ℕ) (part log : List LogRecord) (r : LogRecord) → AllByRecursion (RunFits (greatest_run log)) log → may_come shard part log r ≡ true → AllByRecursion (RunFits (greatest_run (log ++ r ∷ []))) (log ++ r ∷ [])
runs_step shard part log r a m =
    let g = greatest_grows log r in
    push_all (greatest_run (log ++ r ∷ [])) log r (all_fit_more (greatest_run log) (greatest_run (log ++ r ∷ [])) log g a)
    (run_more (greatest_run log) (greatest_run (log ++ r ∷ [])) (own_tx r) g (comes_fit shard part log r a m))
