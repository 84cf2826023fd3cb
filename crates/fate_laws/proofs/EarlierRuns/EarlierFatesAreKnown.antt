-- The laws of transactions of earlier runs.
use Rattle.std.proofs.Common.{◌≡◌, ◌⊎◌, inl, inr, refl, subst, ℕ, true, false, Bool, ◌==◌, List, [], append-nil, eqb-true}
use Rattle.std.proofs.lemmas.Bool.{both_ways, eq-eqb, false_from_ne_true}
use Rattle.clv_base.specs.declared.names.TxId.{TxId}
use Rattle.clv_base.specs.declared.logs.LogRecord.{LogRecord}
use Rattle.clv_base.specs.Logs.{committed_in}
use Rattle.clv_base.specs.LogRules.{log_of}
use Rattle.clv_base.specs.Restarts.{run_after}
use Rattle.clv_base.specs.Journals.{History}
use Rattle.clv_base.specs.History.{logs_left}
use Rattle.history_cases.proofs.Merging.{is_among}
use Rattle.fate_laws.specs.Decisions.{IsTold}
use Rattle.fate_laws.proofs.Homes.DecidedStaysDecided.{left_committed, told_aborts_stay}
use Rattle.fate_laws.specs.Earlier.{IsEarlier, EarlierCommitsAreOfOpening, EarlierCommitsAreKnown, EarlierAbortsAreKnown, AbortsStay}
use Rattle.fate_laws.proofs.EarlierRuns.FrontsKeepEarlierRuns.{Elders, Says, elders_front}

others : {X : Type 0} (before : List (List LogRecord)) (tx : TxId) → IsEarlier before tx → (tx.run ≡ run_after before) ⊎ X → X
others before tx n (inl r) = absurd (n r)
others before tx n (inr x) = x

told : (splits : List ℕ) (before after : List (List LogRecord)) (h : History) (tx : TxId) (commit : Bool) → Elders splits before after h → (t : IsTold h tx commit) → Says before (t.1).outcome
told splits before after h tx commit f (n, e, to, home, i, o) = f.said (n, e) (is_among n e h i)

pub earlier_commits_are_of_opening : EarlierCommitsAreOfOpening
earlier_commits_are_of_opening splits before so_far later after n tx l i r c =
    others before tx r (((elders_front l so_far later refl).elder n i).log tx c)

pub earlier_commits_are_known : EarlierCommitsAreKnown
earlier_commits_are_known splits before h after tx l r t =
    others before tx r (subst (Says before) t.5 (told splits before after h tx true (elders_front l h [] (append-nil h)) t))

pub earlier_aborts_are_known : EarlierAbortsAreKnown
earlier_aborts_are_known splits before h after tx l r t c =
    others before tx r (subst (Says before) t.5 (told splits before after h tx false (elders_front l h [] (append-nil h)) t)) c

pub aborts_stay : AbortsStay
aborts_stay splits before h after choice n tx l i t = at (tx.run == run_after before) refl
  where
    earlier : IsEarlier before tx → committed_in (log_of (logs_left splits before h after choice) n) tx ≡ false
    earlier r =
        false_from_ne_true _
        (λ c. earlier_aborts_are_known splits before h after tx l r t
        (others before tx r (((elders_front l h [] (append-nil h)).elder n i).log tx (left_committed splits before h after choice n tx i c))))

    at : (b : Bool) → (tx.run == run_after before) ≡ b → committed_in (log_of (logs_left splits before h after choice) n) tx ≡ false
    at true e = told_aborts_stay splits before h after choice n tx l i (eqb-true tx.run (run_after before) e) t
    at false e = earlier (λ r. both_ways _ e (eq-eqb tx.run (run_after before) r))
