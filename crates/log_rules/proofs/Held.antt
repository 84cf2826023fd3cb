-- Who bars a RESTART after one record more.
use Rattle.std.proofs.Common.{◌≡◌, ℕ, Bool, true, false, cond, not, ◌&&◌, ◌||◌, ◌==◌, List, [], ◌∷◌, ◌++◌, Option, Some, None, is_some, refl, sym, ap, ◌∙◌, eqb-true, eq-eqb}
use Rattle.std.specs.List.{list_any}
use Rattle.std.proofs.lemmas.Bool.{both_ways, ne_eqb}
use Rattle.clv_base.specs.declared.names.TxId.{TxId}
use Rattle.clv_base.specs.declared.logs.LogRecord.{LogRecord}
use Rattle.clv_base.specs.declared.logs.LogRecord.TheVariants.{Prepare, Abort}
use Rattle.clv_base.specs.Orders.{tx_same, tx_in}
use Rattle.clv_base.specs.Logs.{is_commit_of, is_prepare_of, is_abort_of, committed_in, prepared_in, aborted_in, prepare_of, standing, newest_of}
use Rattle.clv_base.specs.LogRules.{listed_in}
use Rattle.log_analysis.proofs.Laws.Pushes.{any_push}
use Rattle.log_rules.proofs.Doubt.{is_elsewhere, is_held, bars}
use Rattle.log_rules.proofs.SoundLogs.{any_other, prepare_new}
use Rattle.law_base.proofs.Bools.{by_bool as both}
use Rattle.law_base.proofs.Logs.{no_prepare}

pub eq_flip : (a b : ℕ) → (a == b) ≡ (b == a)
eq_flip a b =
    both (λ v. (b == a) ≡ v → (a == b) ≡ v) (b == a) (λ _ e. eq-eqb a b (sym (eqb-true b a e))) (λ _ e. ne_eqb a b (λ s. both_ways _ e (eq-eqb b a (sym s)))) refl

any_same : (p q : TxId → Bool) → ((t : TxId) → p t ≡ q t) → (xs : List TxId) → list_any p xs ≡ list_any q xs
any_same p q same [] = refl
any_same p q same (x ∷ xs) = ap (λ b. b || list_any p xs) (same x) ∙ ap (λ b. q x || b) (any_same p q same xs)

or_swap : (a b c d : Bool) → (a || b) || (c || d) ≡ (a || c) || (b || d)
or_swap true b c d = refl
or_swap false true true d = refl
or_swap false true false d = refl
or_swap false false c d = refl

any_or : (p q : TxId → Bool) (xs : List TxId) → list_any (λ t. p t || q t) xs ≡ list_any p xs || list_any q xs
any_or p q [] = refl
any_or p q (x ∷ xs) = ap (λ b. (p x || q x) || b) (any_or p q xs) ∙ or_swap (p x) (q x) (list_any p xs) (list_any q xs)

none_one : (r : LogRecord) (t : TxId) → is_prepare_of t r ≡ false → prepare_of (r ∷ []) t ≡ None
none_one (Prepare tx home listed) t other = ap (λ b. cond b (Some (home, listed)) None) other
none_one (_) t other = refl

-- where the record is no PREPARE of the transaction
pub prepare_other : (log : List LogRecord) (r : LogRecord) (t : TxId) → is_prepare_of t r ≡ false → prepare_of (log ++ r ∷ []) t ≡ prepare_of log t
prepare_other [] r t other = none_one r t other
prepare_other (Prepare tx home listed ∷ rs) r t other = ap (λ o. cond (tx_same t tx) (Some (home, listed)) o) (prepare_other rs r t other)
prepare_other (_ ∷ rs) r t other = prepare_other rs r t other

pub listed_other : (log : List LogRecord) (r : LogRecord) (t : TxId) → is_prepare_of t r ≡ false → listed_in (log ++ r ∷ []) t ≡ listed_in log t
listed_other log r t other = ap (λ o. elim o [ Some p ↦ p.1 | None ↦ [] ]) (prepare_other log r t other)

module _ (shard : ℕ) (log : List LogRecord) (r : LogRecord) where
  -- where the record is no ABORT
  held_by : ((t : TxId) → is_abort_of t r ≡ false) → (t : TxId) (o : Option (ℕ × List TxId)) (l : List TxId) → prepare_of (log ++ r ∷ []) t ≡ o → listed_in (log ++ r ∷ []) t ≡ l
      → is_held shard (log ++ r ∷ []) t ≡ is_elsewhere shard o && not (aborted_in log t) && not (list_any (aborted_in log) l)
  held_by no_abort t o l prepare listed =
      ap (λ p. is_elsewhere shard p && not (aborted_in (log ++ r ∷ []) t) && not (list_any (aborted_in (log ++ r ∷ [])) (listed_in (log ++ r ∷ []) t))) prepare
      ∙ ap (λ b. is_elsewhere shard o && not b && not (list_any (aborted_in (log ++ r ∷ [])) (listed_in (log ++ r ∷ []) t))) (any_other (is_abort_of t) log r (no_abort t))
      ∙ ap (λ m. is_elsewhere shard o && not (aborted_in log t) && not (list_any (aborted_in (log ++ r ∷ [])) m)) listed
      ∙ ap (λ b. is_elsewhere shard o && not (aborted_in log t) && not b) (any_same (aborted_in (log ++ r ∷ [])) (aborted_in log) (λ p. any_other (is_abort_of p) log r (no_abort p)) l)

  -- and no PREPARE of the transaction
  pub held_other : ((t : TxId) → is_abort_of t r ≡ false) → (t : TxId) → is_prepare_of t r ≡ false → is_held shard (log ++ r ∷ []) t ≡ is_held shard log t
  held_other no_abort t other = held_by no_abort t (prepare_of log t) (listed_in log t) (prepare_other log r t other) (listed_other log r t other)

  -- and no COMMIT of it, and its newest write stays
  pub bars_other : ((t : TxId) → is_abort_of t r ≡ false) → (t : TxId) → is_prepare_of t r ≡ false → is_commit_of t r ≡ false → newest_of t (standing (log ++ r ∷ [])) ≡ newest_of t (standing log)
      → bars shard (log ++ r ∷ []) t ≡ bars shard log t
  bars_other no_abort t no_prepare no_commit stays =
      ap (λ o. is_some o && not (committed_in (log ++ r ∷ []) t) && not (is_held shard (log ++ r ∷ []) t)) stays
      ∙ ap (λ b. is_some (newest_of t (standing log)) && not b && not (is_held shard (log ++ r ∷ []) t)) (any_other (is_commit_of t) log r no_commit)
      ∙ ap (λ b. is_some (newest_of t (standing log)) && not (committed_in log t) && not b) (held_other no_abort t no_prepare)

-- one without a PREPARE isn't held
pub unprepared_unheld : (shard : ℕ) (log : List LogRecord) (t : TxId) → prepared_in log t ≡ false → is_held shard log t ≡ false
unprepared_unheld shard log t none = ap (λ o. is_elsewhere shard o && not (aborted_in log t) && not (list_any (aborted_in log) (listed_in log t))) (no_prepare log t none)

-- after its PREPARE
pub held_now : (shard : ℕ) (log : List LogRecord) (tx : TxId) (home : ℕ) (listed : List TxId) → prepared_in log tx ≡ false → aborted_in log tx ≡ false → list_any (aborted_in log) listed ≡ false → tx_same tx tx ≡ true
    → is_held shard (log ++ Prepare tx home listed ∷ []) tx ≡ not (home == shard)
held_now shard log tx home listed unprepared unaborted none self =
    let r : LogRecord = Prepare tx home listed in
    let now : prepare_of (log ++ r ∷ []) tx ≡ Some (home, listed) = prepare_new log r tx unprepared ∙ ap (λ b. cond b (Some (home, listed)) None) self in
    held_by shard log r (λ t. refl) tx (Some (home, listed)) listed now (ap (λ o. elim o [ Some p ↦ p.1 | None ↦ [] ]) now)
    ∙ ap (λ b. not (shard == home) && not b && not (list_any (aborted_in log) listed)) unaborted ∙ ap (λ b. not (shard == home) && true && not b) none
    ∙ and_yes (not (shard == home)) ∙ ap not (eq_flip shard home)
  where
    and_yes : (a : Bool) → a && true && true ≡ a
    and_yes true = refl
    and_yes false = refl

-- after an ABORT of another one
pub held_after : (shard : ℕ) (log : List LogRecord) (tx t : TxId) → tx_same t tx ≡ false → is_held shard (log ++ Abort tx ∷ []) t ≡ is_held shard log t && not (tx_in tx (listed_in log t))
held_after shard log tx t other =
    let r : LogRecord = Abort tx in
    let l = listed_in log t in
    ap (λ p. is_elsewhere shard p && not (aborted_in (log ++ r ∷ []) t) && not (list_any (aborted_in (log ++ r ∷ [])) (listed_in (log ++ r ∷ []) t))) (prepare_other log r t refl)
    ∙ ap (λ b. is_elsewhere shard (prepare_of log t) && not b && not (list_any (aborted_in (log ++ r ∷ [])) (listed_in (log ++ r ∷ []) t))) (any_other (is_abort_of t) log r other)
    ∙ ap (λ m. is_elsewhere shard (prepare_of log t) && not (aborted_in log t) && not (list_any (aborted_in (log ++ r ∷ [])) m)) (listed_other log r t refl)
    ∙ ap (λ b. is_elsewhere shard (prepare_of log t) && not (aborted_in log t) && not b)
    (any_same (aborted_in (log ++ r ∷ [])) (λ p. aborted_in log p || tx_same p tx) (λ p. any_push (is_abort_of p) log r) l ∙ any_or (aborted_in log) (λ p. tx_same p tx) l)
    ∙ split (is_elsewhere shard (prepare_of log t) && not (aborted_in log t)) (list_any (aborted_in log) l) (tx_in tx l)
  where
    split : (a b c : Bool) → a && not (b || c) ≡ (a && not b) && not c
    split true true c = refl
    split true false c = refl
    split false b c = refl

-- after one of its own
pub aborted_unheld : (shard : ℕ) (log : List LogRecord) (t : TxId) → aborted_in log t ≡ true → is_held shard log t ≡ false
aborted_unheld shard log t aborted =
    ap (λ b. is_elsewhere shard (prepare_of log t) && not b && not (list_any (aborted_in log) (listed_in log t))) aborted ∙ no (is_elsewhere shard (prepare_of log t)) (not (list_any (aborted_in log) (listed_in log t)))
  where
    no : (a b : Bool) → a && false && b ≡ false
    no true b = refl
    no false b = refl
