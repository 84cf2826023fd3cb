-- Whom a log leaves in doubt when it is opened is of an earlier run; what it did there stands before what the shard does.
use Rattle.std.proofs.Common.{◌≡◌, ◌⊎◌, inl, inr, ⊎_elim, refl, sym, ap, subst, ◌∙◌, ℕ, ◌<◌, true, false, cond, Bool, List, [], ◌∷◌, ◌++◌, map, length, Option, Some, None, append_assoc}
use Rattle.std.specs.List.{AllByRecursion}
use Rattle.std.proofs.lemmas.Bool.{both_ways, or_cases}
use Rattle.clv_base.specs.declared.names.TxId.{TxId}
use Rattle.clv_base.specs.declared.logs.LogRecord.{LogRecord}
use Rattle.clv_base.specs.declared.logs.LogRecord.TheVariants.{Update, Clr, Prepare, Commit, Abort, End, Restart, Add, Unadd, Forgotten, Check}
use Rattle.clv_base.specs.declared.events.Entry.{Entry}
use Rattle.clv_base.specs.Orders.{tx_same, tx_in}
use Rattle.clv_base.specs.Logs.{in_doubt, standing}
use Rattle.clv_base.specs.LogRules.{log_of}
use Rattle.clv_base.specs.FileRules.{may_open}
use Rattle.clv_base.specs.State.{Shard}
use Rattle.clv_base.specs.Restarts.{run_after}
use Rattle.clv_base.proofs.SameNames.{tx_true}
use Rattle.law_base.specs.Items.{Did}
use Rattle.law_base.proofs.Lists.{all_mono}
use Rattle.shard_laws.specs.OneShard.{Deeds, doer, with_one, new_deed, new_met, has_met, prepared_order, found_items, found_asked, found_met}
use Rattle.shard_laws.proofs.Restarts.OperationsAlone.{all_alone}
use Rattle.shard_laws.proofs.Restarts.FoundDoubtedActedBefore.{found_doubted}
use Rattle.shard_laws.proofs.Restarts.RestoredRequestsAndPairs.{pair_of}
use Rattle.fate_laws.proofs.Origins.FrontsKeepOrigins.{IsOld}
use Rattle.fate_laws.specs.Leading.{deeds_with, with_found}
use Rattle.history_laws.proofs.Logs.DoubtedAreUndecided.{doubted_is_old}

-- ---- what was found is of earlier runs

in_case : (b : Bool) (u t : TxId) (rest : List TxId) → tx_in t (cond b (u ∷ rest) rest) ≡ true → ((tx_same u t ≡ true) × (b ≡ true)) ⊎ (tx_in t rest ≡ true)
in_case true u t rest e = ⊎_elim (λ s. inl (s, refl)) (λ i. inr i) (or_cases (tx_same u t) (tx_in t rest) e)
in_case false u t rest e = inr e

pub ordered_is : (doubt : TxId → Bool) (log : List LogRecord) (t : TxId) → tx_in t (prepared_order doubt log) ≡ true → doubt t ≡ true
ordered_is doubt [] t e = absurd (both_ways false refl e)
ordered_is doubt (Prepare tx home ps ∷ rs) t e =
    ⊎_elim (λ s. subst (λ u. doubt u ≡ true) (tx_true tx t s.0) s.1) (λ i. ordered_is doubt rs t i) (in_case (doubt tx) tx t (prepared_order doubt rs) e)
ordered_is doubt (Update tx k b a ∷ rs) t e = ordered_is doubt rs t e
ordered_is doubt (Clr tx u k a ∷ rs) t e = ordered_is doubt rs t e
ordered_is doubt (Commit tx ps ∷ rs) t e = ordered_is doubt rs t e
ordered_is doubt (Abort tx ∷ rs) t e = ordered_is doubt rs t e
ordered_is doubt (End tx ∷ rs) t e = ordered_is doubt rs t e
ordered_is doubt (Restart run epoch ∷ rs) t e = ordered_is doubt rs t e
ordered_is doubt (Add tx k by ∷ rs) t e = ordered_is doubt rs t e
ordered_is doubt (Unadd tx u k by ∷ rs) t e = ordered_is doubt rs t e
ordered_is doubt (Forgotten ∷ rs) t e = ordered_is doubt rs t e
ordered_is doubt (Check run' epoch' upto base ∷ rs) t e = ordered_is doubt rs t e

module _ (splits : List ℕ) (before : List (List LogRecord)) (n : ℕ) (m : may_open splits before ≡ true) (l : n < length before) where
  pub deeds_are_old : AllByRecursion (λ d. IsOld (run_after before) (doer d)) (map (λ x. Did x) (found_items n (log_of before n)))
  deeds_are_old =
      all_alone (λ d. IsOld (run_after before) (doer d)) (found_items n (log_of before n))
      (all_mono _ _ (λ x i. doubted_is_old splits before n m l x.tx i) (found_items n (log_of before n)) (found_doubted (λ t. tx_in t (in_doubt n (log_of before n))) (standing (log_of before n))))

  pub asked_are_old : (t : TxId) → tx_in t (found_asked n (log_of before n)) ≡ true → IsOld (run_after before) t
  asked_are_old t i = doubted_is_old splits before n m l t (ordered_is (λ u. tx_in u (in_doubt n (log_of before n))) (log_of before n) t i)

  pub met_are_old : (t p : TxId) → has_met (found_met n (log_of before n)) t p ≡ true → IsOld (run_after before) t
  met_are_old t p e = doubted_is_old splits before n m l t (pair_of (log_of before n) (in_doubt n (log_of before n)) t p e)

-- ---- it stands before what the shard did

pub one_after : {X : Type 0} (found xs : List X) (o : Option X) → with_one (found ++ xs) o ≡ found ++ with_one xs o
one_after found xs None = refl
one_after found xs (Some x) = append_assoc found xs (x ∷ [])

pub found_with : (n : ℕ) (log : List LogRecord) (d : Deeds) (s t : Shard) (e : Entry) → deeds_with (with_found n log d) s t e ≡ with_found n log (deeds_with d s t e)
found_with n log d s t e =
    let w = deeds_with d s t e in
    ap (λ z. record { done = z; asked = found_asked n log ++ d.asked; told = w.told; met = new_met s e.event e.outcome ++ (d.met ++ found_met n log); fell = w.fell }) (one_after (map (λ x. Did x) (found_items n log)) d.done (new_deed s e.event e.outcome))
    ∙ ap (λ z. record { done = map (λ x. Did x) (found_items n log) ++ w.done; asked = found_asked n log ++ d.asked; told = w.told; met = z; fell = w.fell }) (sym (append_assoc (new_met s e.event e.outcome) d.met (found_met n log)))
