-- All shards through a history: what each knows, and what each entry tells.
use Rattle.std.proofs.Common.{◌≡◌, inl, inr, ⊎_elim, refl, sym, ap, subst, ◌∙◌, ℕ, suc, ◌<◌, true, false, cond, Bool, List, [], ◌∷◌, ◌++◌, ◌==◌, nat_lt, arith, eqb-true, append_assoc, append-nil}
use Rattle.std.specs.List.{list_all}
use Rattle.std.proofs.lemmas.Bool.{both_ways, and_parts, ltb-true, eq-eqb}
use Rattle.clv_base.specs.declared.logs.LogRecord.{LogRecord}
use Rattle.clv_base.specs.declared.events.Event.{Event}
use Rattle.clv_base.specs.declared.events.Event.TheVariants.{Deliver}
use Rattle.clv_base.specs.Shards.{shard_count}
use Rattle.clv_base.specs.FileRules.{may_open}
use Rattle.clv_base.specs.LogRules.{log_of}
use Rattle.clv_base.specs.State.{Shard}
use Rattle.clv_base.specs.Restarts.{run_after}
use Rattle.clv_base.specs.Journals.{History, journal_of, start_of, after_entry, after_entries, MayEnter, MayRun}
use Rattle.clv_base.specs.History.{Legal, WasSent, MessagesSent}
use Rattle.history_cases.proofs.Entering.{after_append, run_second, run_first}
use Rattle.history_cases.proofs.Durability.{fronts_entries, opened_counted}
use Rattle.history_cases.proofs.Merging.{Placed, Among, among_append, among_right, is_among}
use Rattle.history_cases.proofs.Telling.{Tells, Told}
use Rattle.history_cases.proofs.TellingEvents.{Brings, Says, SaysOut, told_entry, says_entry, told_opened}
use Rattle.history_cases.proofs.OldRuns.{none_of_this_run}

-- ---- prefixes of a history

pub journal_append : (n : ℕ) (xs ys : History) → journal_of n (xs ++ ys) ≡ journal_of n xs ++ journal_of n ys
journal_append n [] ys = refl
journal_append n (x ∷ xs) ys = at (x.0 == n) (journal_append n xs ys)
  where
    at : (b : Bool) → journal_of n (xs ++ ys) ≡ journal_of n xs ++ journal_of n ys → cond b (x.1 ∷ journal_of n (xs ++ ys)) (journal_of n (xs ++ ys)) ≡ cond b (x.1 ∷ journal_of n xs) (journal_of n xs) ++ journal_of n ys
    at true e = ap (λ l. x.1 ∷ l) e
    at false e = e

-- what was sent before an entry in the middle
pub sent_at : (before pre : History) (e : Placed) (post : History) → MessagesSent before (pre ++ e ∷ post) → WasSent (before ++ pre) (e.1).event
sent_at before [] e post m = subst (λ z. WasSent z (e.1).event) (sym (append-nil before)) m.0
sent_at before (x ∷ xs) e post m = subst (λ z. WasSent z (e.1).event) (append_assoc before (x ∷ []) xs) (sent_at (before ++ x ∷ []) xs e post m.1)

-- ---- the state of a shard after a prefix

abbrev pub state_at : List (List LogRecord) → List (List LogRecord) → ℕ → History → Shard
state_at before after n pre = after_entries (log_of after n) (start_of before n) (journal_of n pre)

pub record World (h : History) (splits : List ℕ) (before after : List (List LogRecord)) (pre : History) : Type 0 where
  pub states : (n : ℕ) → n < shard_count splits → Told h (run_after before) (suc (state_at before after n pre).last) (state_at before after n pre)
  pub said : (x : Placed) → Among x pre → Says h (run_after before) (x.1).stamp (x.1).event (x.1).outcome

-- a shard's journal up to an entry of its own, and the rest
own_journal : (n : ℕ) (e : Placed) (pre post : History) → (e.0 == n) ≡ true → journal_of n (pre ++ e ∷ post) ≡ journal_of n pre ++ e.1 ∷ journal_of n post
own_journal n e pre post b = journal_append n pre (e ∷ post) ∙ ap (λ l. journal_of n pre ++ l) (at (e.0 == n) b)
  where
    at : (c : Bool) → c ≡ true → cond c (e.1 ∷ journal_of n post) (journal_of n post) ≡ e.1 ∷ journal_of n post
    at true d = refl
    at false d = absurd (both_ways false refl d)

pub other_journal : (n : ℕ) (e : Placed) (pre : History) → (e.0 == n) ≡ false → journal_of n (pre ++ e ∷ []) ≡ journal_of n pre
other_journal n e pre b = journal_append n pre (e ∷ []) ∙ ap (λ l. journal_of n pre ++ l) (at (e.0 == n) b) ∙ append-nil (journal_of n pre)
  where
    at : (c : Bool) → c ≡ false → cond c (e.1 ∷ []) [] ≡ []
    at true d = absurd (both_ways true d refl)
    at false d = refl

pub record Split (splits : List ℕ) (before after : List (List LogRecord)) (pre : History) (e : Placed) : Type 0 where
  pub shard : (state_at before after e.0 pre).shard ≡ e.0
  pub enters : MayEnter (log_of after e.0) (state_at before after e.0 pre) e.1
  pub next : state_at before after e.0 (pre ++ e ∷ []) ≡ after_entry (log_of after e.0) (state_at before after e.0 pre) e.1

pub split_at : (splits : List ℕ) (before after : List (List LogRecord)) (h pre : History) (e : Placed) (post : History) → Legal splits before h after → pre ++ e ∷ post ≡ h → e.0 < shard_count splits
    → Split splits before after pre e
split_at splits before after h pre e post l q i =
    let n = e.0 in
    let log = log_of after n in
    let start = start_of before n in
    let r : MayRun log start (journal_of n (pre ++ e ∷ post)) = subst (λ z. MayRun log start (journal_of n z)) (sym q) (l.runs n i) in
    let self = eq-eqb n n refl in
    let r2 : MayRun log start (journal_of n pre ++ e.1 ∷ journal_of n post) = subst (MayRun log start) (own_journal n e pre post self) r in
    let f = fronts_entries log start (journal_of n pre) (opened_counted n (run_after before) (log_of before n)) (run_first log start (journal_of n pre) (e.1 ∷ journal_of n post) r2) in
    record {
      shard = f.shard;
      enters = (run_second log start (journal_of n pre) (e.1 ∷ journal_of n post) r2).0;
      next = ap (after_entries log start) (own_journal n e pre [] self) ∙ after_append log start (journal_of n pre) (e.1 ∷ []);
    }

-- ---- one entry more

brings : (h : History) (splits : List ℕ) (before after : List (List LogRecord)) (pre : History) → World h splits before after pre → (e : Event) → WasSent pre e → Brings h (run_after before) e
brings h splits before after pre w (Deliver m stamp) (n, x, i, s, o) =
    let a = (w.said (n, x) (is_among n x pre i)).out in
    subst (λ z. Tells h (run_after before) z m) s (subst (SaysOut h (run_after before) x.stamp) o a)
brings h splits before after pre w _ s = tt

next_state : (h : History) (splits : List ℕ) (before after : List (List LogRecord)) (pre : History) (e : Placed) → World h splits before after pre → Among e h → WasSent pre (e.1).event → e.0 < shard_count splits
    → Split splits before after pre e → Told h (run_after before) (suc (state_at before after e.0 (pre ++ e ∷ [])).last) (state_at before after e.0 (pre ++ e ∷ []))
next_state h splits before after pre e w i s l p =
    subst (λ z. Told h (run_after before) (suc z.last) z) (sym p.next)
    (told_entry h (run_after before) (log_of after e.0) (state_at before after e.0 pre) e.1 (subst (λ z. Among (z, e.1) h) (sym p.shard) i) p.enters
    (brings h splits before after pre w (e.1).event s) (w.states e.0 l))

pub next_world : (h : History) (splits : List ℕ) (before after : List (List LogRecord)) (pre : History) (e : Placed) → World h splits before after pre → Among e h → WasSent pre (e.1).event → e.0 < shard_count splits
    → Split splits before after pre e → World h splits before after (pre ++ e ∷ [])
next_world h splits before after pre e w i s l p =
    record {
      states = λ n m. at n m (e.0 == n) refl;
      said = λ x m. ⊎_elim (λ a. w.said x a) (λ b. last x b) (among_append x pre (e ∷ []) m);
    }
  where
    at : (n : ℕ) → n < shard_count splits → (b : Bool) → (e.0 == n) ≡ b → Told h (run_after before) (suc (state_at before after n (pre ++ e ∷ [])).last) (state_at before after n (pre ++ e ∷ []))
    at n m true c =
        subst (λ k. Told h (run_after before) (suc (state_at before after k (pre ++ e ∷ [])).last) (state_at before after k (pre ++ e ∷ []))) (eqb-true e.0 n c) (next_state h splits before after pre e w i s l p)
    at n m false c =
        subst (λ j. Told h (run_after before) (suc (after_entries (log_of after n) (start_of before n) j).last) (after_entries (log_of after n) (start_of before n) j)) (sym (other_journal n e pre c)) (w.states n m)

    last : (x : Placed) → Among x (e ∷ []) → Says h (run_after before) (x.1).stamp (x.1).event (x.1).outcome
    last x (inl q) =
        subst (λ z. Says h (run_after before) (z.1).stamp (z.1).event (z.1).outcome) q
        (says_entry h (run_after before) (log_of after e.0) (state_at before after e.0 pre) e.1 p.enters (w.states e.0 l))
    last x (inr q) = elim q [ ]

-- ---- the whole history

pub all_in : (splits : List ℕ) (h : History) (e : Placed) → list_all (λ x. nat_lt x.0 (shard_count splits)) h ≡ true → Among e h → e.0 < shard_count splits
all_in splits [] e a i = elim i [ ]
all_in splits (x ∷ xs) e a (inl q) =
    subst (λ z. z.0 < shard_count splits) q (ltb-true x.0 (shard_count splits) (and_parts (nat_lt x.0 (shard_count splits)) (list_all (λ x. nat_lt x.0 (shard_count splits)) xs) a).0)
all_in splits (x ∷ xs) e a (inr m) = all_in splits xs e (and_parts (nat_lt x.0 (shard_count splits)) (list_all (λ x. nat_lt x.0 (shard_count splits)) xs) a).1 m

pub in_a_shard : (splits : List ℕ) (before after : List (List LogRecord)) (h : History) (e : Placed) → Legal splits before h after → Among e h → e.0 < shard_count splits
in_a_shard splits before after h e l i = all_in splits h e l.in_shards i

walk : (h : History) (splits : List ℕ) (before after : List (List LogRecord)) (pre post : History) → Legal splits before h after → pre ++ post ≡ h → World h splits before after pre → World h splits before after h
walk h splits before after pre [] l q w = subst (World h splits before after) (sym (append-nil pre) ∙ q) w
walk h splits before after pre (e ∷ post) l q w =
    let i : Among e h = subst (Among e) q (among_right e pre (e ∷ post) (inl refl)) in
    let n = in_a_shard splits before after h e l i in
    let s : WasSent pre (e.1).event = sent_at [] pre e post (subst (MessagesSent []) (sym q) l.messages) in
    walk h splits before after (pre ++ e ∷ []) post l (append_assoc pre (e ∷ []) post ∙ q) (next_world h splits before after pre e w i s n (split_at splits before after h pre e post l q n))

pub world : (splits : List ℕ) (before after : List (List LogRecord)) (h : History) → may_open splits before ≡ true → Legal splits before h after → World h splits before after h
world splits before after h m l =
    walk h splits before after [] h l refl
    (record {
      states = λ n i. told_opened h n (run_after before) 1 (log_of before n) (λ t. none_of_this_run splits before n t m (let e = l.each_log.0 in omega (arith, e, i)));
      said = λ x i. elim i [ ];
    })
