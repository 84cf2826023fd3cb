-- What a restart finds: the greatest epoch of a run in a log, and a log for each shard.
use Rattle.std.proofs.Common.{◌≡◌, ℕ, ◌≤◌, Bool, true, false, List, [], ◌∷◌, ◌++◌, Option, Some, None, ◌==◌, cond, max, arith, refl, zero, suc, length, ap}
use Rattle.std.specs.Prelude.{⊤}
use Rattle.clv_base.specs.declared.logs.LogRecord.{LogRecord}
use Rattle.clv_base.specs.declared.logs.LogRecord.TheVariants.{Update, Clr, Prepare, Commit, Abort, End, Restart, Add, Unadd, Forgotten, Check}
use Rattle.clv_base.specs.LogRules.{last_restart, before_restart}
use Rattle.clv_base.specs.Restarts.{greatest_epoch}
use Rattle.clv_base.specs.State.{Shard}
use Rattle.clv_base.specs.Journals.{logs_left_from}

pub epoch_own : (run own : ℕ) (log : List LogRecord) → own ≤ greatest_epoch run own log
epoch_own run own [] = omega arith
epoch_own run own (Restart r e ∷ rs) = at (r == run) (epoch_own run (cond (r == run) (max own e) own) rs)
  where
    at : (b : Bool) → cond b (max own e) own ≤ greatest_epoch run (cond (r == run) (max own e) own) rs → own ≤ greatest_epoch run (cond (r == run) (max own e) own) rs
    at true l = omega (arith, l)
    at false l = l
epoch_own run own (Update tx k b a ∷ rs) = epoch_own run own rs
epoch_own run own (Clr tx u k a ∷ rs) = epoch_own run own rs
epoch_own run own (Prepare tx home ps ∷ rs) = epoch_own run own rs
epoch_own run own (Commit tx parts ∷ rs) = epoch_own run own rs
epoch_own run own (Abort tx ∷ rs) = epoch_own run own rs
epoch_own run own (End tx ∷ rs) = epoch_own run own rs
epoch_own run own (Add tx k by ∷ rs) = epoch_own run own rs
epoch_own run own (Unadd tx u k by ∷ rs) = epoch_own run own rs
epoch_own run own (Forgotten ∷ rs) = epoch_own run own rs
epoch_own run own (Check run' epoch' upto base ∷ rs) = at (run' == run) (epoch_own run (cond (run' == run) (max own epoch') own) rs)
  where
    at : (b : Bool) → cond b (max own epoch') own ≤ greatest_epoch run (cond (run' == run) (max own epoch') own) rs → own ≤ greatest_epoch run (cond (run' == run) (max own epoch') own) rs
    at true l = omega (arith, l)
    at false l = l

pub left_length : (finals : ℕ → Shard) (choice : ℕ → Bool) (n k : ℕ) → length (logs_left_from finals choice n k) ≡ k
left_length finals choice n zero = refl
left_length finals choice n (suc k) = ap suc (left_length finals choice (suc n) k)

-- ---- the last RESTART, with one more record

-- no RESTART
abbrev pub Plainly : LogRecord → Type 0
Plainly (Restart run epoch) = ⊥
Plainly (Check run epoch upto base) = ⊥
Plainly _ = ⊤

abbrev or_last : Option (ℕ × ℕ) → ℕ → ℕ → Option (ℕ × ℕ)
or_last o run epoch = elim o [ Some p ↦ Some p | None ↦ Some (run, epoch) ]

pub last_push : (log : List LogRecord) (r : LogRecord) → Plainly r → last_restart (log ++ r ∷ []) ≡ last_restart log
last_push [] (Update tx k b a) p = refl
last_push [] (Clr tx u k a) p = refl
last_push [] (Prepare tx home ps) p = refl
last_push [] (Commit tx parts) p = refl
last_push [] (Abort tx) p = refl
last_push [] (End tx) p = refl
last_push [] (Restart run epoch) p = absurd p
last_push (Restart run epoch ∷ rs) r p = ap (λ o. or_last o run epoch) (last_push rs r p)
last_push (Update tx k b a ∷ rs) r p = last_push rs r p
last_push (Clr tx u k a ∷ rs) r p = last_push rs r p
last_push (Prepare tx home ps ∷ rs) r p = last_push rs r p
last_push (Commit tx parts ∷ rs) r p = last_push rs r p
last_push (Abort tx ∷ rs) r p = last_push rs r p
last_push (End tx ∷ rs) r p = last_push rs r p
last_push [] (Add tx k by) p = refl
last_push (Add tx k by ∷ rs) r p = last_push rs r p
last_push [] (Unadd tx u k by) p = refl
last_push (Unadd tx u k by ∷ rs) r p = last_push rs r p
last_push [] Forgotten p = refl
last_push [] (Check run' epoch' upto base) p = absurd p
last_push (Forgotten ∷ rs) r p = last_push rs r p
last_push (Check run' epoch' upto base ∷ rs) r p = ap (λ o. or_last o run' epoch') (last_push rs r p)

pub before_push : (sf log : List LogRecord) (r : LogRecord) → Plainly r → before_restart sf (log ++ r ∷ []) ≡ before_restart sf log
before_push sf [] (Update tx k b a) p = refl
before_push sf [] (Clr tx u k a) p = refl
before_push sf [] (Prepare tx home ps) p = refl
before_push sf [] (Commit tx parts) p = refl
before_push sf [] (Abort tx) p = refl
before_push sf [] (End tx) p = refl
before_push sf [] (Restart run epoch) p = absurd p
before_push sf (Restart run epoch ∷ rs) r p = ap (λ l. sf ++ l) (before_push (Restart run epoch ∷ []) rs r p)
before_push sf (Update tx k b a ∷ rs) r p = before_push (sf ++ Update tx k b a ∷ []) rs r p
before_push sf (Clr tx u k a ∷ rs) r p = before_push (sf ++ Clr tx u k a ∷ []) rs r p
before_push sf (Prepare tx home ps ∷ rs) r p = before_push (sf ++ Prepare tx home ps ∷ []) rs r p
before_push sf (Commit tx parts ∷ rs) r p = before_push (sf ++ Commit tx parts ∷ []) rs r p
before_push sf (Abort tx ∷ rs) r p = before_push (sf ++ Abort tx ∷ []) rs r p
before_push sf (End tx ∷ rs) r p = before_push (sf ++ End tx ∷ []) rs r p
before_push sf [] (Add tx k by) p = refl
before_push sf (Add tx k by ∷ rs) r p = before_push (sf ++ Add tx k by ∷ []) rs r p
before_push sf [] (Unadd tx u k by) p = refl
before_push sf (Unadd tx u k by ∷ rs) r p = before_push (sf ++ Unadd tx u k by ∷ []) rs r p
before_push sf [] Forgotten p = refl
before_push sf [] (Check run' epoch' upto base) p = absurd p
before_push sf (Forgotten ∷ rs) r p = before_push (sf ++ Forgotten ∷ []) rs r p
before_push sf (Check run' epoch' upto base ∷ rs) r p = ap (λ l. sf ++ l) (before_push (Check run' epoch' upto base ∷ []) rs r p)
