-- A cut of what is durable on a shard at the end lies at or above what was durable at some moment, and the log had it then.
use Rattle.std.proofs.Common.{◌≡◌, ◌⊎◌, inl, inr, ℕ, zero, suc, ◌<◌, ◌≤◌, arith, Bool, true, false, cond, ◌||◌, ◌==◌, List, [], ◌∷◌, ◌++◌, length, refl, sym, ap, subst, ◌∙◌, append-nil}
use Rattle.std.specs.Prelude.{take, drop, unwrap_or}
use Rattle.std.proofs.lemmas.Bool.{both_ways, cases_lt, false_from_ne_true, or_right}
use Rattle.std.proofs.lemmas.List.{take_all, take-append-drop, take-append-le}
use Rattle.clv_base.specs.declared.names.TxId.{TxId}
use Rattle.clv_base.specs.declared.logs.LogRecord.{LogRecord}
use Rattle.clv_base.specs.declared.events.Event.{Event}
use Rattle.clv_base.specs.declared.events.Outcome.{Outcome}
use Rattle.clv_base.specs.declared.events.Entry.{Entry}
use Rattle.clv_base.specs.Logs.{committed_in}
use Rattle.clv_base.specs.State.{Shard}
use Rattle.clv_base.specs.Restarts.{log_left}
use Rattle.clv_base.specs.Journals.{History, journal_of, event_state, after_entry, after_entries, up_to_restart, MayRun}
use Rattle.law_base.proofs.Commits.{committed_append}
use Rattle.protocol_laws.specs.Growth.{IsPrefixOf}
use Rattle.protocol_laws.proofs.LogOnlyGrows.DueGrowsLogs.{grows_settled}
use Rattle.history_cases.proofs.Entering.{Makes, by_event, by_flush, by_failure, by_restart, makes}
use Rattle.history_cases.proofs.Durability.{Counted, Fronts, framed_finish, happens_steps, fronts_entry, fronts_entries, restarts_front}
use Rattle.history_cases.proofs.Uncommitting.{restarts_add}
use Rattle.shard_laws.proofs.Cuts.WhatCutsHold.{cut_keeps}
use Rattle.clv_base.specs.Events.{with_durable}

-- ---- first pieces

pub take_less : {A : Type 0} (n d : ℕ) (xs : List A) → n ≤ d → take n xs ≡ take n (take d xs)
take_less zero d xs l = refl
take_less (suc n) zero xs l = absurd (omega (arith, l))
take_less (suc n) (suc d) [] l = refl
take_less (suc n) (suc d) (x ∷ xs) l = ap (λ l. x ∷ l) (take_less n d xs (omega (arith, l)))

pub take_front : {A : Type 0} (n : ℕ) (xs ys : List A) → IsPrefixOf xs ys → n ≤ length xs → take n xs ≡ take n ys
take_front n xs ys p l = sym (take-append-le n xs p.0 l) ∙ ap (take n) p.1

pub length_taken : {A : Type 0} (n : ℕ) (xs : List A) → length (take n xs) ≤ n
length_taken zero xs = omega arith
length_taken (suc n) [] = omega arith
length_taken (suc n) (x ∷ xs) = let k = length_taken n xs in omega (arith, k)

length_within : {A : Type 0} (n : ℕ) (xs : List A) → n ≤ length xs → length (take n xs) ≡ n
length_within zero xs l = refl
length_within (suc n) [] l = absurd (omega (arith, l))
length_within (suc n) (x ∷ xs) l = ap suc (length_within n xs (omega (arith, l)))

-- what two states' durable records share
pub same_durable : {A : Type 0} (c d f : ℕ) (xs ys : List A) → IsPrefixOf (take d xs) (take f ys) → c ≤ d → c ≤ f → d ≤ length xs → take c xs ≡ take c ys
same_durable c d f xs ys p l k w =
    let e = length_within d xs w in
    take_less c d xs l ∙ take_front c (take d xs) (take f ys) p (omega (arith, e, l)) ∙ sym (take_less c f ys k)

-- ---- no COMMIT in what restarts add

behind_front : (front more : List LogRecord) (t : TxId) → ((committed_in (front ++ more) t ≡ true) → committed_in front t ≡ true) → committed_in front t ≡ false → committed_in more t ≡ false
behind_front front more t k n = false_from_ne_true _ (λ c. both_ways _ n (k (committed_append front more t ∙ or_right (committed_in front t) (committed_in more t) c)))

-- ---- the moment

-- a moment of a journal, and a cut of the log then that is at or above what was durable then: it has what the cut at the end has, and no COMMIT more
pub record Moment (log : List LogRecord) (s : Shard) (es : List Entry) (c : ℕ) : Type 0 where
  pub first : List Entry
  pub second : List Entry
  pub split : first ++ second ≡ es
  pub cut : ℕ
  pub above : (after_entries log s first).durable ≤ cut
  pub more : List LogRecord
  pub is : take cut (after_entries log s first).local.log ≡ take c (after_entries log s es).local.log ++ more
  pub none : (t : TxId) → committed_in (take c (after_entries log s es).local.log ++ more) t ≡ committed_in (take c (after_entries log s es).local.log) t

pub same_commits : (front more : List LogRecord) (t : TxId) → ((committed_in (front ++ more) t ≡ true) → committed_in front t ≡ true) → committed_in (front ++ more) t ≡ committed_in front t
same_commits front more t k = at (committed_in front t) refl
  where
    at : (b : Bool) → committed_in front t ≡ b → committed_in (front ++ more) t ≡ committed_in front t
    at true e = committed_append front more t ∙ ap (λ b. b || committed_in more t) e ∙ sym e
    at false e = false_from_ne_true _ (λ c. both_ways _ e (k c)) ∙ sym e

-- this moment serves, with the cut itself
now : (log : List LogRecord) (s : Shard) (es : List Entry) (c : ℕ) → s.durable ≤ c → take c s.local.log ≡ take c (after_entries log s es).local.log → Moment log s es c
now log s es c l e =
    let end = take c (after_entries log s es).local.log in
    record { first = []; second = es; split = refl; cut = c; above = l; more = []; is = e ∙ sym (append-nil end); none = λ t. ap (λ l. committed_in l t) (append-nil end) }

-- a later one serves
later : (log : List LogRecord) (s : Shard) (e : Entry) (es : List Entry) (c : ℕ) → Moment log (after_entry log s e) es c → Moment log s (e ∷ es) c
later log s e es c m = record { first = e ∷ m.first; second = m.second; split = ap (λ l. e ∷ l) m.split; cut = m.cut; above = m.above; more = m.more; is = m.is; none = m.none }

pub moment : (log : List LogRecord) (s : Shard) (es : List Entry) (c : ℕ) → Counted s → MayRun log s es → s.durable ≤ c → c ≤ (after_entries log s es).durable → Moment log s es c
moment log s [] c k m l u = now log s [] c l refl
moment log s (e ∷ es) c k m l u = step (λ w. moment log (after_entry log s e) es c next.counted m.1 w u) (cases_lt c (after_entry log s e).durable)
  where
    next : Fronts s (after_entry log s e)
    next = fronts_entry log s e k m.0

    end : Shard
    end = after_entries log (after_entry log s e) es

    ends : c < (after_entry log s e).durable → take c (after_entry log s e).local.log ≡ take c (after_entries log (after_entry log s e) es).local.log
    ends less = same_durable c (after_entry log s e).durable (after_entries log (after_entry log s e) es).durable (after_entry log s e).local.log (after_entries log (after_entry log s e) es).local.log
        (fronts_entries log (after_entry log s e) es next.counted m.1).front (omega (arith, less)) u next.counted.within

    jump : {ev : Event} {o : Outcome} (t : Shard) → Makes log s ev o t → t.durable ≡ (after_entry log s e).durable → t.local.log ≡ (after_entry log s e).local.log → c < t.durable
        → take c t.local.log ≡ take c (after_entries log s (e ∷ es)).local.log → Moment log s (e ∷ es) c
    jump t (by_event g h) d g2 less same = let p = (happens_steps s t h).durable in absurd (omega (arith, p, less, l))
    jump t (by_flush n up f) d g2 less same =
        let q = k.flying n f in
        let p = framed_finish (with_durable n s) in
        let dd = p.durable in
        now log s (e ∷ es) c l (take_front c s.local.log t.local.log (grows_settled (with_durable n s)) (omega (arith, q, less, dd)) ∙ same)
    jump t (by_failure n up f) d g2 less same = absurd (omega (arith, less, l))
    jump t (by_restart epoch kept up r) d g2 less same = by_found (cases_lt (length (log_left s kept)) c)
      where
        found : List LogRecord
        found = log_left s kept

        after : List LogRecord
        after = up_to_restart s.run epoch log

        by_found : (length (log_left s kept) < c) ⊎ (c ≤ length (log_left s kept)) → Moment log s (e ∷ es) c
        by_found (inr inside) =
            let x = cond kept (unwrap_or s.flight s.durable) s.durable in
            let w = length_taken x s.local.log in
            now log s (e ∷ es) c l (take_less c x s.local.log (omega (arith, w, inside)) ∙ take_front c (log_left s kept) (up_to_restart s.run epoch log) (restarts_front s (log_left s kept) epoch (up_to_restart s.run epoch log) r) inside ∙ same)
        by_found (inl beyond) = later log s e es c (record {
          first = [];
          second = es;
          split = refl;
          cut = length (up_to_restart s.run epoch log);
          above = omega (arith, d);
          more = drop c (up_to_restart s.run epoch log);
          is = ap (take (length (up_to_restart s.run epoch log))) (sym g2) ∙ take_all (length (up_to_restart s.run epoch log)) (up_to_restart s.run epoch log) (omega arith)
              ∙ sym (take-append-drop c (up_to_restart s.run epoch log)) ∙ ap (λ l. l ++ drop c (up_to_restart s.run epoch log)) same;
          none = λ t. subst (λ l. committed_in (l ++ drop c (up_to_restart s.run epoch log)) t ≡ committed_in l t) same
              (same_commits (take c (up_to_restart s.run epoch log)) (drop c (up_to_restart s.run epoch log)) t (λ w. kept_front t (subst (λ l. committed_in l t ≡ true) (take-append-drop c (up_to_restart s.run epoch log)) w)));
        })
          where
            kept_front : (t : TxId) → committed_in (up_to_restart s.run epoch log) t ≡ true → committed_in (take c (up_to_restart s.run epoch log)) t ≡ true
            kept_front t w =
                let p = restarts_front s (log_left s kept) epoch (up_to_restart s.run epoch log) r in
                let a = restarts_add s (log_left s kept) epoch (up_to_restart s.run epoch log) r t w in
                let e1 : take (length (log_left s kept)) (up_to_restart s.run epoch log) ≡ log_left s kept = sym (take_front (length (log_left s kept)) (log_left s kept) (up_to_restart s.run epoch log) p (omega arith)) ∙ take_all (length (log_left s kept)) (log_left s kept) (omega arith) in
                cut_keeps (length (log_left s kept)) (take c (up_to_restart s.run epoch log)) t
                (subst (λ l. committed_in l t ≡ true) (sym e1 ∙ take_less (length (log_left s kept)) c (up_to_restart s.run epoch log) (omega (arith, beyond))) a)

    step : ((after_entry log s e).durable ≤ c → Moment log (after_entry log s e) es c) → (c < (after_entry log s e).durable) ⊎ ((after_entry log s e).durable ≤ c) → Moment log s (e ∷ es) c
    step go (inr below) = later log s e es c (go below)
    step go (inl above) = jump (event_state log s e.event e.outcome) (makes log s e.event e.outcome (m.0).event) refl refl above (ends above)

-- ---- of a history

-- a first piece of a shard's journal is that of a first piece of the history
pub record Front (h : History) (n : ℕ) (first : List Entry) : Type 0 where
  pub so_far : History
  pub rest : History
  pub split : so_far ++ rest ≡ h
  pub journal : journal_of n so_far ≡ first

pub front_of : (n : ℕ) (h : History) (first second : List Entry) → journal_of n h ≡ first ++ second → Front h n first
front_of n h [] second e = record { so_far = []; rest = h; split = refl; journal = refl }
front_of n [] (x ∷ xs) second e = absurd cc
front_of n (y ∷ ys) (x ∷ xs) second e = at (y.0 == n) refl e (λ first e. front_of n ys first second e)
  where
    at : (b : Bool) → (y.0 == n) ≡ b → cond b (y.1 ∷ journal_of n ys) (journal_of n ys) ≡ (x ∷ xs) ++ second → ((first : List Entry) → journal_of n ys ≡ first ++ second → Front ys n first) → Front (y ∷ ys) n (x ∷ xs)
    at true q f k =
        let r = k xs (tail f) in
        record { so_far = y ∷ r.so_far; rest = r.rest; split = ap (λ l. y ∷ l) r.split; journal = ap (λ b. cond b (y.1 ∷ journal_of n r.so_far) (journal_of n r.so_far)) q ∙ ap (λ l. y.1 ∷ l) r.journal ∙ ap (λ z. z ∷ xs) (head f) }
      where
        tail : y.1 ∷ journal_of n ys ≡ x ∷ (xs ++ second) → journal_of n ys ≡ xs ++ second
        tail g = cc

        head : y.1 ∷ journal_of n ys ≡ x ∷ (xs ++ second) → y.1 ≡ x
        head g = cc
    at false q f k =
        let r = k (x ∷ xs) f in
        record { so_far = y ∷ r.so_far; rest = r.rest; split = ap (λ l. y ∷ l) r.split; journal = ap (λ b. cond b (y.1 ∷ journal_of n r.so_far) (journal_of n r.so_far)) q ∙ r.journal }
