-- Whatever restarts fail in between, the log up to a RESTART is one.
pub mod UndoRecordByRecord
use Rattle.std.proofs.Common.{◌≡◌, ℕ, zero, suc, ◌+◌, ◌-◌, ◌≤◌, ⊎_elim, Bool, true, false, ◌&&◌, ◌||◌, List, [], ◌∷◌, ◌++◌, take, length, Option, Some, None, ◌==◌, refl, sym, ap, subst, ◌∙◌, arith, append_assoc, append-nil, eqb-true, eq-eqb}
use Rattle.std.specs.Prelude.{max, nat_le}
use Rattle.std.proofs.lemmas.Bool.{both_ways, leb-true, le-leb, cond-true, and_parts, and_from, or_cases, or_left, or_right}
use Rattle.clv_base.specs.declared.logs.LogRecord.{LogRecord}
use Rattle.clv_base.specs.declared.logs.LogRecord.TheVariants.{Update, Clr, Prepare, Commit, Abort, End, Restart, Add, Unadd, Forgotten, Check}
use Rattle.clv_base.specs.Orders.{tx_same}
use Rattle.clv_base.specs.declared.values.Value.{Value}
use Rattle.clv_base.specs.Values.{same_list, same_value, same_optional_value}
use Rattle.clv_base.specs.LogRules.{same_option, same_pair, same_record}
use Rattle.clv_base.specs.State.{Shard}
use Rattle.clv_base.specs.Restarts.{undo_records, restart_records, log_after_restart, greatest_epoch, next_epoch, log_left, FailedRestarts, untouched, failed_first, Restarts, restarts_up, log_up_to_epoch, is_log_up_to, agrees_up_to, misfit}
use Rattle.clv_base.proofs.SameNames.{tx_true, tx_self}
use Rattle.law_base.proofs.Options.{option_true, option_self, value_true, value_self, optional_value_true, optional_value_self, list_true, list_self}
use Rattle.protocol_laws.specs.RestartLaws.{RestartsLeadToOne, RestartsReach, MisfitIsExact}
use Rattle.protocol_laws.proofs.RestartsLeadToOneLog.UndoRecordByRecord.{Stepped, stepped, after_restart, greatest_more}

-- ---- one record written

-- the log that restarts lead to is the same from a log and from what a failed one left of it
abbrev Leads : Shard → ℕ → List LogRecord → List LogRecord → Type 0
Leads s epoch found left = next_epoch s left ≤ epoch → (next_epoch s found ≤ epoch) × (log_up_to_epoch s left epoch ≡ log_up_to_epoch s found epoch)

leads_on : (s : Shard) (epoch : ℕ) (found mid left : List LogRecord) → Leads s epoch found mid → Leads s epoch mid left → Leads s epoch found left
leads_on s epoch found mid left p q = λ h. let b = q h in let a = p b.0 in (a.0, b.1 ∙ a.1)

-- the log up to an epoch, from what is left to write and the next epoch
abbrev up_from : Shard → ℕ → List LogRecord → List LogRecord → ℕ → List LogRecord
up_from s epoch log undone next = log ++ undone ++ restarts_up s.run next (suc epoch - next)

by_parts : (s : Shard) (epoch : ℕ) (log undone : List LogRecord) (next : ℕ) → undo_records s.shard log ≡ undone → next_epoch s log ≡ next → log_up_to_epoch s log epoch ≡ up_from s epoch log undone next
by_parts s epoch log undone next e n = ap (λ l. up_from s epoch log l (next_epoch s log)) e ∙ ap (up_from s epoch log undone) n

step_leads : (s : Shard) (epoch : ℕ) (log : List LogRecord) (u : LogRecord) (us : List LogRecord) → undo_records s.shard log ≡ u ∷ us → Stepped s log u us → Leads s epoch log (log ++ u ∷ [])
step_leads s epoch log u us e st = λ h. (
  subst (λ n. n ≤ epoch) st.1 h,
  by_parts s epoch (log ++ u ∷ []) us (next_epoch s log) st.0 st.1
      ∙ ap (λ l. l ++ restarts_up s.run (next_epoch s log) (suc epoch - next_epoch s log)) (append_assoc log (u ∷ []) us)
      ∙ sym (by_parts s epoch log (u ∷ us) (next_epoch s log) e refl),
)

-- a RESTART of the next epoch
next_after : (s : Shard) (log : List LogRecord) → next_epoch s (log ++ Restart s.run (next_epoch s log) ∷ []) ≡ suc (next_epoch s log)
next_after s log =
    ap suc
    (greatest_more s.run s.local.epoch log (Restart s.run (next_epoch s log))
    ∙ cond-true (s.run == s.run) (max (greatest_epoch s.run s.local.epoch log) (next_epoch s log)) (greatest_epoch s.run s.local.epoch log) (eq-eqb s.run s.run refl)
    ∙ greater (greatest_epoch s.run s.local.epoch log))
  where
    greater : (n : ℕ) → max n (suc n) ≡ suc n
    greater n = omega arith

up_one : (run next epoch : ℕ) → next ≤ epoch → restarts_up run next (suc epoch - next) ≡ Restart run next ∷ restarts_up run (suc next) (suc epoch - suc next)
up_one run next epoch le = ap (restarts_up run next) (one_less next epoch le)
  where
    one_less : (n e : ℕ) → n ≤ e → suc e - n ≡ suc (suc e - suc n)
    one_less n e le = omega arith

restart_leads : (s : Shard) (epoch : ℕ) (log : List LogRecord) → undo_records s.shard log ≡ [] → Leads s epoch log (log ++ Restart s.run (next_epoch s log) ∷ [])
restart_leads s epoch log e = λ h.
    let later : suc (next_epoch s log) ≤ epoch = subst (λ n. n ≤ epoch) (next_after s log) h in
    let le : next_epoch s log ≤ epoch = omega (arith, later) in (
      le,
      by_parts s epoch (log ++ Restart s.run (next_epoch s log) ∷ []) [] (suc (next_epoch s log)) (after_restart s.shard log s.run (next_epoch s log) ∙ e) (next_after s log)
          ∙ ap (λ l. l ++ restarts_up s.run (suc (next_epoch s log)) (suc epoch - suc (next_epoch s log))) (append-nil (log ++ Restart s.run (next_epoch s log) ∷ []))
          ∙ append_assoc log (Restart s.run (next_epoch s log) ∷ []) (restarts_up s.run (suc (next_epoch s log)) (suc epoch - suc (next_epoch s log)))
          ∙ ap (λ l. log ++ l) (sym (up_one s.run (next_epoch s log) epoch le))
          ∙ ap (λ l. l ++ restarts_up s.run (next_epoch s log) (suc epoch - next_epoch s log)) (sym (append-nil log))
          ∙ sym (by_parts s epoch log [] (next_epoch s log) e refl),
    )

-- ---- any number of the records that one restart would write

take_none : (n : ℕ) → ◌≡◌ {A = List LogRecord} (take n []) []
take_none zero = refl
take_none (suc n) = refl

part_leads : (s : Shard) (epoch n : ℕ) (found undone : List LogRecord) → undo_records s.shard found ≡ undone
    → Leads s epoch found (found ++ take n (undone ++ Restart s.run (next_epoch s found) ∷ []))
part_leads s epoch zero found undone e = subst (Leads s epoch found) (sym (append-nil found)) (λ h. (h, refl))
part_leads s epoch (suc n) found [] e =
    subst (λ l. Leads s epoch found (found ++ Restart s.run (next_epoch s found) ∷ l)) (sym (take_none n)) (restart_leads s epoch found e)
part_leads s epoch (suc n) found (u ∷ us) e =
    let st : Stepped s found u us = stepped s found u us e in
    let rest : Leads s epoch (found ++ u ∷ []) ((found ++ u ∷ []) ++ take n (us ++ Restart s.run (next_epoch s (found ++ u ∷ [])) ∷ [])) = part_leads s epoch n (found ++ u ∷ []) us st.0 in
    let there : Leads s epoch (found ++ u ∷ []) ((found ++ u ∷ []) ++ take n (us ++ Restart s.run (next_epoch s found) ∷ [])) =
    subst (λ k. Leads s epoch (found ++ u ∷ []) ((found ++ u ∷ []) ++ take n (us ++ Restart s.run k ∷ []))) st.1 rest in
    leads_on s epoch found (found ++ u ∷ []) _ (step_leads s epoch found u us e st)
    (subst (Leads s epoch (found ++ u ∷ [])) (append_assoc found (u ∷ []) (take n (us ++ Restart s.run (next_epoch s found) ∷ []))) there)

-- all of them
whole_next : (s : Shard) (found undone : List LogRecord) → undo_records s.shard found ≡ undone → next_epoch s (found ++ (undone ++ Restart s.run (next_epoch s found) ∷ [])) ≡ suc (next_epoch s found)
whole_next s found [] e = next_after s found
whole_next s found (u ∷ us) e =
    let st : Stepped s found u us = stepped s found u us e in
    let rest = whole_next s (found ++ u ∷ []) us st.0 in
    ap (next_epoch s) (sym (append_assoc found (u ∷ []) (us ++ Restart s.run (next_epoch s found) ∷ [])))
    ∙ ap (λ k. next_epoch s ((found ++ u ∷ []) ++ (us ++ Restart s.run k ∷ []))) (sym st.1)
    ∙ rest ∙ ap suc st.1

take_whole : (xs : List LogRecord) → take (length xs) xs ≡ xs
take_whole [] = refl
take_whole (x ∷ xs) = ap (λ l. x ∷ l) (take_whole xs)

-- ---- restarts that fail, and the last one

failed_lead : (s : Shard) (epoch : ℕ) (found left : List LogRecord) → FailedRestarts s found left → Leads s epoch found left
failed_lead s epoch found _ (untouched) = λ h. (h, refl)
failed_lead s epoch found left (failed_first n more) =
    leads_on s epoch found (found ++ take n (restart_records s.shard found s.run (next_epoch s found))) left
    (part_leads s epoch n found (undo_records s.shard found) refl) (failed_lead s epoch _ left more)

last_one : (s : Shard) (epoch : ℕ) (left : List LogRecord) → epoch ≡ next_epoch s left → log_after_restart s.shard left s.run epoch ≡ log_up_to_epoch s left epoch
last_one s epoch left e =
    sym (append_assoc left (undo_records s.shard left) (Restart s.run epoch ∷ []))
    ∙ ap (λ l. left ++ undo_records s.shard left ++ l) (one epoch)
    ∙ ap (λ n. left ++ undo_records s.shard left ++ restarts_up s.run n (suc epoch - n)) e
  where
    one : (n : ℕ) → Restart s.run n ∷ [] ≡ restarts_up s.run n (suc n - n)
    one n = ap (restarts_up s.run n) (sym (differ n))
      where
        differ : (n : ℕ) → suc n - n ≡ 1
        differ n = omega arith

pub restarts_lead_to_one : RestartsLeadToOne
restarts_lead_to_one s found epoch after (left, failed, e, a) =
    let le : next_epoch s left ≤ epoch = subst (λ n. n ≤ epoch) e (at_most epoch) in
    let r = failed_lead s epoch found left failed le in
    (r.0, a ∙ last_one s epoch left e ∙ r.1)
  where
    at_most : (n : ℕ) → n ≤ n
    at_most n = omega arith

reach_by : (s : Shard) (d epoch : ℕ) (found : List LogRecord) → next_epoch s found + d ≡ epoch → Restarts s found epoch (log_up_to_epoch s found epoch)
reach_by s zero epoch found e = let same : epoch ≡ next_epoch s found = omega (arith, e) in (found, untouched, same, sym (last_one s epoch found same))
reach_by s (suc d) epoch found e =
    let records : List LogRecord = restart_records s.shard found s.run (next_epoch s found) in
    let whole : take (length records) records ≡ records = take_whole records in
    let next : next_epoch s (found ++ take (length records) records) ≡ suc (next_epoch s found) =
    ap (λ l. next_epoch s (found ++ l)) whole ∙ whole_next s found (undo_records s.shard found) refl in
    let rest : Restarts s (found ++ take (length records) records) epoch (log_up_to_epoch s (found ++ take (length records) records) epoch) =
    reach_by s d epoch (found ++ take (length records) records) (omega (arith, e, next)) in
    let le : next_epoch s (found ++ take (length records) records) ≤ epoch = omega (arith, e, next) in
    let same = (part_leads s epoch (length records) found (undo_records s.shard found) refl le).1 in
    (rest.0, failed_first {left = rest.0} (length records) rest.1, rest.2, sym same ∙ rest.3)

pub restarts_reach : RestartsReach
restarts_reach s found epoch le = reach_by s (epoch - next_epoch s found) epoch found (omega (arith, le))

-- ---- a test of logs

pair_true : (p q : ℕ × Value) → same_pair p q ≡ true → p ≡ q
pair_true (k, v) (j, u) e = let a = and_parts (k == j) (same_value v u) e in let f = eqb-true k j a.0 in let g = value_true v u a.1 in cc

pair_self : (p : ℕ × Value) → same_pair p p ≡ true
pair_self p = and_from _ _ (eq-eqb p.0 p.0 refl) (value_self p.1)

pub record_true : (a b : LogRecord) → same_record a b ≡ true → a ≡ b
record_true (Update tx k b a) (Update ux j c d) e =
    let p = and_parts (tx_same tx ux && (k == j) && same_optional_value b c) (same_optional_value a d) e in
    let q = and_parts (tx_same tx ux && (k == j)) (same_optional_value b c) p.0 in
    let r = and_parts (tx_same tx ux) (k == j) q.0 in
    let f = tx_true tx ux r.0 in let g = eqb-true k j r.1 in let h = optional_value_true b c q.1 in let i = optional_value_true a d p.1 in cc
record_true (Clr tx u k a) (Clr ux v j d) e =
    let p = and_parts (tx_same tx ux && same_option u v && (k == j)) (same_optional_value a d) e in
    let q = and_parts (tx_same tx ux && same_option u v) (k == j) p.0 in
    let r = and_parts (tx_same tx ux) (same_option u v) q.0 in
    let f = tx_true tx ux r.0 in let g = option_true u v r.1 in let h = eqb-true k j q.1 in let i = optional_value_true a d p.1 in cc
record_true (Prepare tx home ps) (Prepare ux house qs) e =
    let p = and_parts (tx_same tx ux && (home == house)) (same_list tx_same ps qs) e in
    let q = and_parts (tx_same tx ux) (home == house) p.0 in
    let f = tx_true tx ux q.0 in let g = eqb-true home house q.1 in let h = list_true tx_same tx_true ps qs p.1 in cc
record_true (Commit tx ps) (Commit ux qs) e =
    let p = and_parts (tx_same tx ux) (same_list (◌==◌) ps qs) e in
    let f = tx_true tx ux p.0 in let h = list_true (◌==◌) eqb-true ps qs p.1 in cc
record_true (Abort tx) (Abort ux) e = ap Abort (tx_true tx ux e)
record_true (End tx) (End ux) e = ap End (tx_true tx ux e)
record_true (Restart run epoch) (Restart r e') e =
    let p = and_parts (run == r) (epoch == e') e in
    let f = eqb-true run r p.0 in let g = eqb-true epoch e' p.1 in cc
record_true (Add tx k by) (Add ux j more) e =
    let p = and_parts (tx_same tx ux && (k == j)) (by == more) e in
    let r = and_parts (tx_same tx ux) (k == j) p.0 in
    let f = tx_true tx ux r.0 in let g = eqb-true k j r.1 in let h = eqb-true by more p.1 in cc
record_true (Unadd tx u k by) (Unadd ux v j more) e =
    let p = and_parts (tx_same tx ux && same_option u v && (k == j)) (by == more) e in
    let q = and_parts (tx_same tx ux && same_option u v) (k == j) p.0 in
    let r = and_parts (tx_same tx ux) (same_option u v) q.0 in
    let f = tx_true tx ux r.0 in let g = option_true u v r.1 in let h = eqb-true k j q.1 in let i = eqb-true by more p.1 in cc
record_true Forgotten Forgotten e = refl
record_true (Check run epoch upto base) (Check r e' n pairs) e =
    let p = and_parts ((run == r) && (epoch == e') && (upto == n)) (same_list same_pair base pairs) e in
    let q = and_parts ((run == r) && (epoch == e')) (upto == n) p.0 in
    let s = and_parts (run == r) (epoch == e') q.0 in
    let f = eqb-true run r s.0 in let g = eqb-true epoch e' s.1 in let h = eqb-true upto n q.1 in let i = list_true same_pair pair_true base pairs p.1 in cc
record_true _ _ e = absurd (both_ways false refl e)

pub record_self : (a : LogRecord) → same_record a a ≡ true
record_self (Update tx k b a) = and_from _ _ (and_from _ _ (and_from _ _ (tx_self tx) (eq-eqb k k refl)) (optional_value_self b)) (optional_value_self a)
record_self (Clr tx u k a) = and_from _ _ (and_from _ _ (and_from _ _ (tx_self tx) (option_self u)) (eq-eqb k k refl)) (optional_value_self a)
record_self (Prepare tx home ps) = and_from _ _ (and_from _ _ (tx_self tx) (eq-eqb home home refl)) (list_self tx_same tx_self ps)
record_self (Commit tx ps) = and_from _ _ (tx_self tx) (list_self (◌==◌) (λ n. eq-eqb n n refl) ps)
record_self (Abort tx) = tx_self tx
record_self (End tx) = tx_self tx
record_self (Restart run epoch) = and_from _ _ (eq-eqb run run refl) (eq-eqb epoch epoch refl)
record_self (Add tx k by) = and_from _ _ (and_from _ _ (tx_self tx) (eq-eqb k k refl)) (eq-eqb by by refl)
record_self (Unadd tx u k by) = and_from _ _ (and_from _ _ (and_from _ _ (tx_self tx) (option_self u)) (eq-eqb k k refl)) (eq-eqb by by refl)
record_self Forgotten = refl
record_self (Check run epoch upto base) = and_from _ _ (and_from _ _ (and_from _ _ (eq-eqb run run refl) (eq-eqb epoch epoch refl)) (eq-eqb upto upto refl)) (list_self same_pair pair_self base)

-- ---- misfits

from_test : (s : Shard) (log found : List LogRecord) (epoch : ℕ) → is_log_up_to s log found epoch ≡ true → Restarts s found epoch log
from_test s log found epoch e =
    let p = and_parts (nat_le (next_epoch s found) epoch) (same_list same_record log (log_up_to_epoch s found epoch)) e in
    subst (Restarts s found epoch) (sym (list_true same_record record_true log (log_up_to_epoch s found epoch) p.1)) (restarts_reach s found epoch (leb-true (next_epoch s found) epoch p.0))

to_test : (s : Shard) (log found : List LogRecord) (epoch : ℕ) → Restarts s found epoch log → is_log_up_to s log found epoch ≡ true
to_test s log found epoch r =
    let p = restarts_lead_to_one s found epoch log r in
    and_from (nat_le (next_epoch s found) epoch) (same_list same_record log (log_up_to_epoch s found epoch)) (le-leb (next_epoch s found) epoch p.0)
    (subst (λ l. same_list same_record log l ≡ true) p.1 (list_self same_record record_self log))

abbrev Fits : Shard → List LogRecord → ℕ → Type 0
Fits s log epoch = (flight_survives : Bool) × Restarts s (log_left s flight_survives) epoch log

abbrev misfit_by : Bool → ℕ → Option ℕ
misfit_by b n = elim b [ true ↦ None | false ↦ Some n ]

misfit_none : (b : Bool) (n : ℕ) → misfit_by b n ≡ None → b ≡ true
misfit_none true n e = refl
misfit_none false n e = absurd cc

none_misfit : (b : Bool) (n : ℕ) → b ≡ true → misfit_by b n ≡ None
none_misfit true n e = refl
none_misfit false n e = absurd (both_ways false refl e)

fits : (s : Shard) (log : List LogRecord) (epoch : ℕ) → misfit s log epoch ≡ None → Fits s log epoch
fits s log epoch e =
    ⊎_elim (λ h. (false, from_test s log (log_left s false) epoch h)) (λ h. (true, from_test s log (log_left s true) epoch h))
    (or_cases (is_log_up_to s log (log_left s false) epoch) (is_log_up_to s log (log_left s true) epoch)
    (misfit_none (is_log_up_to s log (log_left s false) epoch || is_log_up_to s log (log_left s true) epoch) (max (agrees_up_to s log (log_left s false) epoch) (agrees_up_to s log (log_left s true) epoch)) e))

no_misfit : (s : Shard) (log : List LogRecord) (epoch : ℕ) → Fits s log epoch → misfit s log epoch ≡ None
no_misfit s log epoch (false, r) = none_misfit (is_log_up_to s log (log_left s false) epoch || is_log_up_to s log (log_left s true) epoch) _ (or_left _ _ (to_test s log (log_left s false) epoch r))
no_misfit s log epoch (true, r) = none_misfit (is_log_up_to s log (log_left s false) epoch || is_log_up_to s log (log_left s true) epoch) _ (or_right _ _ (to_test s log (log_left s true) epoch r))

pub misfit_is_exact : MisfitIsExact
misfit_is_exact s log epoch = (fits s log epoch, no_misfit s log epoch)
