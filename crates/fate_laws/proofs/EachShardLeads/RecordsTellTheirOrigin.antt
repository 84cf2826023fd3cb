-- What a record of a transaction tells, by the log.
use Rattle.std.proofs.Common.{◌≡◌, ⊎_elim, refl, sym, subst, ℕ, true, false, Bool, List, [], ◌∷◌}
use Rattle.std.specs.List.{AllByRecursion, list_any}
use Rattle.std.proofs.lemmas.Bool.{both_ways, or_cases}
use Rattle.clv_base.specs.declared.names.TxId.{TxId}
use Rattle.clv_base.specs.declared.logs.LogRecord.{LogRecord}
use Rattle.clv_base.specs.declared.logs.LogRecord.TheVariants.{Update, Clr, Prepare, Commit, Abort, End, Restart, Add, Unadd, Forgotten, Check}
use Rattle.clv_base.specs.Logs.{is_update_of, is_commit_of, is_prepare_of, is_abort_of, wrote_in, committed_in, prepared_in, aborted_in}
use Rattle.clv_base.proofs.SameNames.{tx_true}
use Rattle.fate_laws.proofs.Origins.DueKeepsOrigins.{SomeRequest, AllFrom, RecordFrom, CommitFrom, own_some}

pub any_from : {I : Type 0} (P : I → Type 0) (f : I → Bool) {X : Type 0} (xs : List I) → ((x : I) → P x → f x ≡ true → X) → AllByRecursion P xs → list_any f xs ≡ true → X
any_from P f [] k a e = absurd (both_ways false refl e)
any_from P f (x ∷ xs) k a e = ⊎_elim (λ h. k x a.0 h) (λ h. any_from P f xs k a.1 h) (or_cases (f x) (list_any f xs) e)

none : {X : Type 0} → false ≡ true → X
none e = absurd (both_ways false refl e)

module _ (A : TxId → Type 0) (Q : TxId → ℕ → Type 0) (O : TxId → Type 0) (n : ℕ) (log : List LogRecord) (a : AllFrom A Q O n log) (t : TxId) where
  one_wrote : (r : LogRecord) → RecordFrom A Q O n r → is_update_of t r ≡ true → A t
  one_wrote (Update u k b x) p e = subst A (sym (tx_true t u e)) p
  one_wrote (Clr u k b x) p e = none e
  one_wrote (Prepare u h ps) p e = none e
  one_wrote (Commit u ps) p e = none e
  one_wrote (Abort u) p e = none e
  one_wrote (End u) p e = none e
  one_wrote (Restart r ep) p e = none e
  one_wrote (Add u k by) p e = subst A (sym (tx_true t u e)) p
  one_wrote (Unadd u k b by) p e = none e
  one_wrote Forgotten p e = none e
  one_wrote (Check run' epoch' upto base) p e = none e

  one_aborted : (r : LogRecord) → RecordFrom A Q O n r → is_abort_of t r ≡ true → A t
  one_aborted (Abort u) p e = subst A (sym (tx_true t u e)) p
  one_aborted (Clr u k b x) p e = none e
  one_aborted (Prepare u h ps) p e = none e
  one_aborted (Commit u ps) p e = none e
  one_aborted (Update u k b x) p e = none e
  one_aborted (End u) p e = none e
  one_aborted (Restart r ep) p e = none e
  one_aborted (Add u k by) p e = none e
  one_aborted (Unadd u k b by) p e = none e
  one_aborted Forgotten p e = none e
  one_aborted (Check run' epoch' upto base) p e = none e

  one_prepared : (r : LogRecord) → RecordFrom A Q O n r → is_prepare_of t r ≡ true → A t × SomeRequest Q O t
  one_prepared (Prepare u h ps) p e = let q : A u × SomeRequest Q O u = (p.0, own_some Q O h u p.1) in subst (λ v. A v × SomeRequest Q O v) (sym (tx_true t u e)) q
  one_prepared (Clr u k b x) p e = none e
  one_prepared (Abort u) p e = none e
  one_prepared (Commit u ps) p e = none e
  one_prepared (Update u k b x) p e = none e
  one_prepared (End u) p e = none e
  one_prepared (Restart r ep) p e = none e
  one_prepared (Add u k by) p e = none e
  one_prepared (Unadd u k b by) p e = none e
  one_prepared Forgotten p e = none e
  one_prepared (Check run' epoch' upto base) p e = none e

  some_commit : (u : TxId) (ps : List ℕ) → CommitFrom Q O n u ps → SomeRequest Q O u
  some_commit u [] c = c
  some_commit u (p ∷ ps) c = own_some Q O n u c

  one_committed : (r : LogRecord) → RecordFrom A Q O n r → is_commit_of t r ≡ true → SomeRequest Q O t
  one_committed (Commit u ps) p e = subst (SomeRequest Q O) (sym (tx_true t u e)) (some_commit u ps p)
  one_committed (Clr u k b x) p e = none e
  one_committed (Abort u) p e = none e
  one_committed (Prepare u h ps) p e = none e
  one_committed (Update u k b x) p e = none e
  one_committed (End u) p e = none e
  one_committed (Restart r ep) p e = none e
  one_committed (Add u k by) p e = none e
  one_committed (Unadd u k b by) p e = none e
  one_committed Forgotten p e = none e
  one_committed (Check run' epoch' upto base) p e = none e

  -- who wrote or is undone was answered here; who is prepared or committed asked; and a PREPARE is of one that was answered here
  pub wrote_from : wrote_in log t ≡ true → A t
  wrote_from e = any_from (RecordFrom A Q O n) (is_update_of t) log one_wrote a e

  pub aborted_from : aborted_in log t ≡ true → A t
  aborted_from e = any_from (RecordFrom A Q O n) (is_abort_of t) log one_aborted a e

  pub prepared_from : prepared_in log t ≡ true → A t × SomeRequest Q O t
  prepared_from e = any_from (RecordFrom A Q O n) (is_prepare_of t) log one_prepared a e

  pub committed_from : committed_in log t ≡ true → SomeRequest Q O t
  committed_from e = any_from (RecordFrom A Q O n) (is_commit_of t) log one_committed a e
