-- On a shard's stream a predecessor's COMMIT stands before that of the transaction.
use Rattle.std.proofs.Common.{◌≡◌, ◌⊎◌, inl, inr, ⊎_elim, ℕ, suc, ◌<◌, ◌≤◌, arith, Bool, true, false, cond, ◌&&◌, ◌||◌, List, [], ◌∷◌, ◌++◌, length, Option, Some, refl, sym, ap, subst, ◌∙◌}
use Rattle.std.specs.Prelude.{take, drop}
use Rattle.std.specs.List.{filter}
use Rattle.std.proofs.lemmas.Bool.{both_ways, cases_lt, or_cases, or_left, or_right, false_from_ne_true, eq-eqb}
use Rattle.std.proofs.lemmas.List.Folds.{list_any-append}
use Rattle.std.proofs.lemmas.List.{take_all, take-append-drop}
use Rattle.clv_base.specs.declared.names.TxId.{TxId}
use Rattle.clv_base.specs.declared.names.Birth.{Birth}
use Rattle.clv_base.specs.declared.ops.Op.{Op}
use Rattle.clv_base.specs.declared.logs.LogRecord.{LogRecord}
use Rattle.clv_base.specs.declared.logs.LogRecord.TheVariants.{Update, Clr, Prepare, Commit, Abort, End, Restart, Add, Unadd, Forgotten, Check}
use Rattle.clv_base.specs.declared.events.Event.{Event}
use Rattle.clv_base.specs.declared.events.Event.TheVariants.{Op as OpEvent}
use Rattle.clv_base.specs.declared.events.Outcome.{Outcome}
use Rattle.clv_base.specs.declared.events.Outcome.TheVariants.{Answered}
use Rattle.clv_base.specs.declared.events.Entry.{Entry}
use Rattle.clv_base.specs.Orders.{tx_same, tx_in}
use Rattle.clv_base.specs.Shards.{shard_count}
use Rattle.clv_base.specs.Logs.{is_commit_of, committed_in}
use Rattle.clv_base.specs.LogRules.{log_of}
use Rattle.clv_base.specs.State.{Shard}
use Rattle.clv_base.specs.Restarts.{run_after, log_after_restart, restart_records}
use Rattle.clv_base.specs.OneShard.{violated_here}
use Rattle.clv_base.specs.Journals.{MayRun, History, journal_of, start_of, final_of, after_entry, after_entries, got_predecessors, predecessors_in}
use Rattle.clv_base.specs.History.{state_before}
use Rattle.clv_base.proofs.SameNames.{tx_true, tx_self}
use Rattle.law_base.proofs.Commits.{committed_append}
use Rattle.law_base.proofs.Sets.{union_right}
use Rattle.protocol_laws.specs.SessionLaws.{tx_of, works_on}
use Rattle.protocol_laws.proofs.LogOnlyGrows.DueGrowsLogs.{more}
use Rattle.history_cases.proofs.Merging.{Placed, Among, in_order, among_left, among_right, is_among, Precedes, front_precedes, precedes_before, from_journal}
use Rattle.history_cases.proofs.Entering.{run_first}
use Rattle.history_cases.proofs.Worlds.{journal_append}
use Rattle.protocol_laws.specs.Growth.{IsPrefixOf}
use Rattle.history_cases.proofs.Durability.{fronts_entries, opened_counted, grown_length}
use Rattle.history_cases.proofs.OldRuns.{none_of_this_run}
use Rattle.history_cases.proofs.Telling.{IsRequest}
use Rattle.history_cases.proofs.Uncommitting.{opening_adds}
use Rattle.history_laws.specs.Openings.{LegalFrom}
use Rattle.history_laws.specs.Places.{predecessors_on}
use Rattle.history_laws.proofs.NeverTakenBack.{walker_of, is_request}
use Rattle.history_laws.proofs.Logs.FoundLogsInOrder.{log_found}
use Rattle.shard_laws.specs.OneShard.{Deeds, Leads, MayChoose, has_met, place, found_met}
use Rattle.shard_laws.proofs.ChosenReplay.{chosen_stand_before}
use Rattle.shard_laws.proofs.Cuts.WhatCutsHold.{cut_keeps}
use Rattle.fate_laws.specs.Leading.{deeds_before, with_found}
use Rattle.fate_laws.proofs.History.EntriesInTurn.{no_work}
use Rattle.fate_laws.proofs.EachShardLeads.{each_shard_leads}
use Rattle.fate_laws.proofs.DeedsAreTold.{deeds_are_told}
use Rattle.fate_laws.proofs.Waits.WaitsGoDown.{in_union}
use Rattle.fate_laws.proofs.Origins.AllComesOfEntries.{all_comes_of_entries}
use Rattle.standby_base.proofs.Greatest.{union_left}
use Rattle.standby_base.specs.Standby.{commits_before}
use Rattle.standby_laws.specs.Streams.{MembersHavePredecessors}
use Rattle.standby_laws.proofs.Cuts.{before_member}
use Rattle.standby_laws.proofs.Members.{fed_cuts}
use Rattle.standby_laws.proofs.Fronts.{Moment, moment, front_of, same_durable, same_commits, take_front, take_less, length_taken}

-- ---- the first COMMIT of a transaction in a log: who has one before it is listed

pub record FirstCommit (log : List LogRecord) (t : TxId) : Type 0 where
  pub front : List LogRecord
  pub parts : List ℕ
  pub rest : List LogRecord
  pub is : log ≡ front ++ Commit t parts ∷ rest
  pub listed : (p : TxId) → committed_in front p ≡ true → tx_in p (commits_before t log) ≡ true

first_other : (r : LogRecord) (rs : List LogRecord) (t : TxId) → ((p : TxId) → is_commit_of p r ≡ false) → commits_before t (r ∷ rs) ≡ commits_before t rs → FirstCommit rs t → FirstCommit (r ∷ rs) t
first_other r rs t none same f =
    record {
      front = r ∷ f.front;
      parts = f.parts;
      rest = f.rest;
      is = ap (λ l. r ∷ l) f.is;
      listed = λ p c. subst (λ l. tx_in p l ≡ true) (sym same) (f.listed p (subst (λ b. (b || committed_in f.front p) ≡ true) (none p) c));
    }

pub first_commit : (log : List LogRecord) (t : TxId) → committed_in log t ≡ true → FirstCommit log t
first_commit [] t c = absurd (both_ways false refl c)
first_commit (Commit tx parts ∷ rs) t c = at (tx_same t tx) refl (λ d. first_commit rs t d) c
  where
    at : (b : Bool) → tx_same t tx ≡ b → (committed_in rs t ≡ true → FirstCommit rs t) → (tx_same t tx || committed_in rs t) ≡ true → FirstCommit (Commit tx parts ∷ rs) t
    at true e k d = record { front = []; parts = parts; rest = rs; is = ap (λ u. Commit u parts ∷ rs) (sym (tx_true t tx e)); listed = λ p a. absurd (both_ways false refl a) }
    at false e k d =
        let f = k (⊎_elim (λ a. absurd (both_ways _ e a)) (λ a. a) (or_cases (tx_same t tx) (committed_in rs t) d)) in
        record {
          front = Commit tx parts ∷ f.front;
          parts = f.parts;
          rest = f.rest;
          is = ap (λ l. Commit tx parts ∷ l) f.is;
          listed = λ p a. ap (λ b. tx_in p (cond b [] (tx ∷ commits_before t rs))) e
              ∙ ⊎_elim (λ s. or_left (tx_same tx p) _ (subst (λ u. tx_same u p ≡ true) (tx_true p tx s) (tx_self p))) (λ s. or_right (tx_same tx p) _ (f.listed p s)) (or_cases (tx_same p tx) (committed_in f.front p) a);
        }
first_commit (Update tx a b d ∷ rs) t c = first_other (Update tx a b d) rs t (λ p. refl) refl (first_commit rs t c)
first_commit (Clr tx a b d ∷ rs) t c = first_other (Clr tx a b d) rs t (λ p. refl) refl (first_commit rs t c)
first_commit (Prepare tx a b ∷ rs) t c = first_other (Prepare tx a b) rs t (λ p. refl) refl (first_commit rs t c)
first_commit (Abort tx ∷ rs) t c = first_other (Abort tx) rs t (λ p. refl) refl (first_commit rs t c)
first_commit (End tx ∷ rs) t c = first_other (End tx) rs t (λ p. refl) refl (first_commit rs t c)
first_commit (Restart run epoch ∷ rs) t c = first_other (Restart run epoch) rs t (λ p. refl) refl (first_commit rs t c)
first_commit (Add tx a by ∷ rs) t c = first_other (Add tx a by) rs t (λ p. refl) refl (first_commit rs t c)
first_commit (Unadd tx a b by ∷ rs) t c = first_other (Unadd tx a b by) rs t (λ p. refl) refl (first_commit rs t c)
first_commit (Forgotten ∷ rs) t c = first_other Forgotten rs t (λ p. refl) refl (first_commit rs t c)
first_commit (Check run epoch upto base ∷ rs) t c = first_other (Check run epoch upto base) rs t (λ p. refl) refl (first_commit rs t c)

pub take_first : (front : List LogRecord) (r : LogRecord) (rest : List LogRecord) → take (suc (length front)) (front ++ r ∷ rest) ≡ front ++ r ∷ []
take_first [] r rest = refl
take_first (x ∷ xs) r rest = ap (λ l. x ∷ l) (take_first xs r rest)

first_inside : (front : List LogRecord) (r : LogRecord) (rest : List LogRecord) → suc (length front) ≤ length (front ++ r ∷ rest)
first_inside [] r rest = omega arith
first_inside (x ∷ xs) r rest = let k = first_inside xs r rest in omega (arith, k)

-- ---- whose predecessors an entry adds

-- an operation of the transaction
abbrev OperatesFor : TxId → Entry → Type 0
OperatesFor t x = (birth : Birth) × (nth : ℕ) × (seen : Option ℕ) × (op : Op) × (x.event ≡ OpEvent t birth nth seen op)

got_by : (s : Shard) (t p : TxId) (x : Entry) (e : Event) (o : Outcome) → x.event ≡ e → tx_in p (got_predecessors s t e o) ≡ true → OperatesFor t x
got_by s t p x (OpEvent tx birth nth seen op) (Answered a n) q i = at (tx_same t tx) refl i
  where
    at : (b : Bool) → tx_same t tx ≡ b → tx_in p (cond b (violated_here s.local tx op) []) ≡ true → OperatesFor t x
    at true e j = (birth, nth, seen, op, q ∙ ap (λ u. OpEvent u birth nth seen op) (sym (tx_true t tx e)))
    at false e j = absurd (both_ways false refl j)
got_by s t p x (OpEvent tx birth nth seen op) _ q i = absurd (both_ways false refl i)
got_by s t p x _ o q i = absurd (both_ways false refl i)

got_in : (log : List LogRecord) (s : Shard) (t p : TxId) (es : List Entry) → tx_in p (predecessors_in log s t es) ≡ true → (x : Entry) × Among x es × OperatesFor t x
got_in log s t p [] i = absurd (both_ways false refl i)
got_in log s t p (x ∷ xs) i =
    ⊎_elim (λ a. (x, inl refl, got_by s t p x x.event x.outcome refl a)) (λ a. let r = got_in log (after_entry log s x) t p xs a in (r.0, inr r.1, r.2))
    (in_union p (got_predecessors s t x.event x.outcome) (predecessors_in log (after_entry log s x) t xs) i)

-- those of two pieces
got_apart : (log : List LogRecord) (s : Shard) (t p : TxId) (xs ys : List Entry) → tx_in p (predecessors_in log s t (xs ++ ys)) ≡ true
    → (tx_in p (predecessors_in log s t xs) ≡ true) ⊎ (tx_in p (predecessors_in log (after_entries log s xs) t ys) ≡ true)
got_apart log s t p [] ys i = inr i
got_apart log s t p (x ∷ xs) ys i =
    ⊎_elim (λ a. inl (union_left p (got_predecessors s t x.event x.outcome) (predecessors_in log (after_entry log s x) t xs) a))
    (λ a. ⊎_elim (λ b. inl (union_right p (got_predecessors s t x.event x.outcome) (predecessors_in log (after_entry log s x) t xs) b)) (λ b. inr b) (got_apart log (after_entry log s x) t p xs ys a))
    (in_union p (got_predecessors s t x.event x.outcome) (predecessors_in log (after_entry log s x) t (xs ++ ys)) i)

-- ---- a shard at a moment at which a cut of its log was there and all durable was below it

module _ (splits : List ℕ) (before after : List (List LogRecord)) (h : History) (l : LegalFrom splits before h after) (n : ℕ) (i : n < shard_count splits) where
  -- what is durable begins with the log that the shard opened with
  begins : (c : ℕ) → c ≤ length (log_after_restart n (log_of before n) (run_after before) 0) → c ≤ (final_of before h after n).durable
      → take c (log_after_restart n (log_of before n) (run_after before) 0) ≡ take c (final_of before h after n).local.log
  begins c w d =
      let opened = log_after_restart n (log_of before n) (run_after before) 0 in
      let f = fronts_entries (log_of after n) (start_of before n) (journal_of n h) (opened_counted n (run_after before) (log_of before n)) (l.legal.runs n i) in
      same_durable c (length opened) (final_of before h after n).durable opened (final_of before h after n).local.log f.front w d (omega arith)

  -- after a first piece of the history it does so, too
  pub begins_then : (pre post : History) → pre ++ post ≡ h
      → IsPrefixOf (log_after_restart n (log_of before n) (run_after before) 0) (take (state_before before pre after n).durable (state_before before pre after n).local.log)
  begins_then pre post q =
      let opened = log_after_restart n (log_of before n) (run_after before) 0 in
      let s = state_before before pre after n in
      let r : MayRun (log_of after n) (start_of before n) (journal_of n pre ++ journal_of n post) = subst (MayRun (log_of after n) (start_of before n)) (ap (journal_of n) (sym q) ∙ journal_append n pre post) (l.legal.runs n i) in
      let f = fronts_entries (log_of after n) (start_of before n) (journal_of n pre) (opened_counted n (run_after before) (log_of before n)) (run_first (log_of after n) (start_of before n) (journal_of n pre) (journal_of n post) r) in
      subst (λ z. IsPrefixOf z (take s.durable s.local.log)) (take_all (length opened) opened (omega arith)) f.front

  any_moment : (c : ℕ) → length (log_of before n) ≤ c → c ≤ (final_of before h after n).durable → Moment (log_of after n) (start_of before n) (journal_of n h) c
  any_moment c w d = by (cases_lt c (length (log_after_restart n (log_of before n) (run_after before) 0)))
    where
      opened : List LogRecord
      opened = log_after_restart n (log_of before n) (run_after before) 0

      first_log : take (length (log_of before n)) (log_after_restart n (log_of before n) (run_after before) 0) ≡ log_of before n
      first_log = sym (take_front (length (log_of before n)) (log_of before n) (log_after_restart n (log_of before n) (run_after before) 0) (more (log_of before n) (restart_records n (log_of before n) (run_after before) 0)) (omega arith)) ∙ take_all (length (log_of before n)) (log_of before n) (omega arith)

      kept_front : (t : TxId) → committed_in (log_after_restart n (log_of before n) (run_after before) 0) t ≡ true → committed_in (take c (log_after_restart n (log_of before n) (run_after before) 0)) t ≡ true
      kept_front t a =
          cut_keeps (length (log_of before n)) (take c (log_after_restart n (log_of before n) (run_after before) 0)) t
          (subst (λ l. committed_in l t ≡ true) (sym first_log ∙ take_less (length (log_of before n)) c (log_after_restart n (log_of before n) (run_after before) 0) w) (opening_adds n (log_of before n) (run_after before) 0 t a))

      by : (c < length (log_after_restart n (log_of before n) (run_after before) 0)) ⊎ (length (log_after_restart n (log_of before n) (run_after before) 0) ≤ c) → Moment (log_of after n) (start_of before n) (journal_of n h) c
      by (inr below) = moment (log_of after n) (start_of before n) (journal_of n h) c (opened_counted n (run_after before) (log_of before n)) (l.legal.runs n i) below d
      by (inl above) =
          let opened = log_after_restart n (log_of before n) (run_after before) 0 in
          let same = begins c (omega (arith, above)) d in
          record {
            first = [];
            second = journal_of n h;
            split = refl;
            cut = length opened;
            above = omega arith;
            more = drop c opened;
            is = take_all (length opened) opened (omega arith) ∙ sym (take-append-drop c opened) ∙ ap (λ l. l ++ drop c opened) same;
            none = λ t. subst (λ l. committed_in (l ++ drop c opened) t ≡ committed_in l t) same
                (same_commits (take c opened) (drop c opened) t (λ a. kept_front t (subst (λ l. committed_in l t ≡ true) (take-append-drop c opened) a)));
          }

  -- the moment in the history
  pub record At (c : ℕ) : Type 0 where
    pub so_far : History
    pub rest : History
    pub split : so_far ++ rest ≡ h
    pub cut : ℕ
    pub above : (state_before before so_far after n).durable ≤ cut
    pub more : List LogRecord
    pub is : take cut (state_before before so_far after n).local.log ≡ take c (final_of before h after n).local.log ++ more
    pub commits : (t : TxId) → committed_in (take cut (state_before before so_far after n).local.log) t ≡ committed_in (take c (final_of before h after n).local.log) t

  pub at_moment : (c : ℕ) → length (log_of before n) ≤ c → c ≤ (final_of before h after n).durable → At c
  at_moment c w d =
      let m = any_moment c w d in
      let f = front_of n h m.first m.second (sym m.split) in
      let e : after_entries (log_of after n) (start_of before n) m.first ≡ state_before before f.so_far after n = ap (after_entries (log_of after n) (start_of before n)) (sym f.journal) in
      let same : take m.cut (state_before before f.so_far after n).local.log ≡ take c (final_of before h after n).local.log ++ m.more = subst (λ s. take m.cut s.local.log ≡ take c (final_of before h after n).local.log ++ m.more) e m.is in
      record {
        so_far = f.so_far;
        rest = f.rest;
        split = f.split;
        cut = m.cut;
        above = subst (λ s. s.durable ≤ m.cut) e m.above;
        more = m.more;
        is = same;
        commits = λ t. ap (λ l. committed_in l t) same ∙ m.none t;
      }

  module _ (c : ℕ) (a : At c) where
    abbrev pub state : Shard
    state = state_before before a.so_far after n

    abbrev pub deeds : Deeds
    deeds = with_found n (log_of before n) (deeds_before before a.so_far after n)

    pub leads : Leads n (run_after before) (log_of before n) (with_found n (log_of before n) (deeds_before before a.so_far after n)) (state_before before a.so_far after n)
    leads = each_shard_leads splits before h after a.so_far a.rest n l a.split i

    -- those whose COMMITs the cut has may be chosen
    pub may_choose : MayChoose (state_before before a.so_far after n) a.cut (with_found n (log_of before n) (deeds_before before a.so_far after n)) (committed_in (take a.cut (state_before before a.so_far after n).local.log))
    may_choose = record { commits = λ t e. e; are_here = λ t e. inl (or_left _ _ e) }

    -- such a one of this run had made its request by then
    pub had_asked : (t : TxId) → committed_in (take a.cut (state_before before a.so_far after n).local.log) t ≡ true → t.run ≡ run_after before
        → (r : Placed) × (ts : List (ℕ × ℕ)) × Among r a.so_far × IsRequest t ts r
    had_asked t k run =
        ⊎_elim
        (λ w. let e = (w.1).0 in let r = is_request t e.event e.outcome (w.1).2 in ((w.0, e), r.0, is_among w.0 e a.so_far (w.1).1, (r.1, r.2)))
        (λ old. absurd (omega (arith, old, run)))
        ((all_comes_of_entries splits before h after a.so_far a.rest n l a.split i).committed t (cut_keeps a.cut (state_before before a.so_far after n).local.log t k))

    -- and does nothing later
    pub nothing_later : (t : TxId) (x : Placed) → committed_in (take a.cut (state_before before a.so_far after n).local.log) t ≡ true → Among x a.rest → tx_of (x.1).event ≡ Some t → works_on t.serial (x.1).event ≡ true → ⊥
    nothing_later t x k j e w =
        let here : Among x h = subst (Among x) a.split (among_right x a.so_far a.rest j) in
        let r = had_asked t k (walker_of splits before after h x t l.legal here e).0 in
        let there : Among r.0 h = subst (Among r.0) a.split (among_left r.0 a.so_far a.rest r.2) in
        no_work splits before after h r.0 x t r.1 l.legal
        (record { first = there; second = here; before = precedes_before r.0 x h (in_order h l.legal.ordered) (subst (Precedes r.0 x) a.split (front_precedes r.0 x a.so_far a.rest r.2 j)) }) r.3 e w

    -- its predecessors are those that it had then
    had_met : (t p : TxId) → committed_in (take a.cut (state_before before a.so_far after n).local.log) t ≡ true → tx_in p (predecessors_on before h after n t) ≡ true
        → tx_in p (predecessors_in (log_of after n) (start_of before n) t (journal_of n a.so_far)) ≡ true
    had_met t p k j =
        ⊎_elim (λ b. b) (λ b. let g = got_in (log_of after n) (after_entries (log_of after n) (start_of before n) (journal_of n a.so_far)) t p (journal_of n a.rest) b in absurd (later g.0 g.1 g.2))
        (got_apart (log_of after n) (start_of before n) t p (journal_of n a.so_far) (journal_of n a.rest)
        (subst (λ es. tx_in p (predecessors_in (log_of after n) (start_of before n) t es) ≡ true) (ap (journal_of n) (sym a.split) ∙ journal_append n a.so_far a.rest) j))
      where
        later : (x : Entry) → Among x (journal_of n a.rest) → OperatesFor t x → ⊥
        later x m (birth, nth, seen, op, q) = nothing_later t (n, x) k (from_journal n x a.rest m) (ap tx_of q) (subst (λ e. works_on t.serial e ≡ true) (sym q) (eq-eqb t.serial t.serial refl))

    pub met_before : (t p : TxId) → committed_in (take a.cut (state_before before a.so_far after n).local.log) t ≡ true → tx_in p (predecessors_on before h after n t) ≡ true
        → (committed_in (take a.cut (state_before before a.so_far after n).local.log) p ≡ true) × (tx_same p t ≡ false)
    met_before t p k j =
        let met = in_first_pairs (deeds_before before a.so_far after n).met (found_met n (log_of before n)) t p ((deeds_are_told before a.so_far after n t).2 p (had_met t p k j)) in
        let r = chosen_stand_before n (run_after before) (log_of before n) (with_found n (log_of before n) (deeds_before before a.so_far after n)) (state_before before a.so_far after n) a.cut
        (committed_in (take a.cut (state_before before a.so_far after n).local.log)) t p leads a.above may_choose met k in
        (r.0, false_from_ne_true (tx_same p t) (λ s. absurd (apart (tx_true p t s) r.1)))
      where
        in_first_pairs : (xs ys : List (TxId × TxId)) (t p : TxId) → has_met xs t p ≡ true → has_met (xs ++ ys) t p ≡ true
        in_first_pairs xs ys t p m = list_any-append (λ q. tx_same t q.0 && tx_same p q.1) xs ys ∙ or_left _ _ m

        apart : p ≡ t → place (filter (committed_in (take a.cut (state_before before a.so_far after n).local.log)) deeds.asked) p < place (filter (committed_in (take a.cut (state_before before a.so_far after n).local.log)) deeds.asked) t → ⊥
        apart e less = let q = ap (place (filter (committed_in (take a.cut (state_before before a.so_far after n).local.log)) deeds.asked)) e in omega (arith, q, less)

  -- ---- so the COMMIT of a predecessor stands before that of the transaction

  pub stands_before : (k : ℕ) (t p : TxId) → k ≤ (final_of before h after n).durable → committed_in (take k (final_of before h after n).local.log) t ≡ true → tx_in p (predecessors_on before h after n t) ≡ true
      → tx_in p (commits_before t (take k (final_of before h after n).local.log)) ≡ true
  stands_before k t p d c j = by (cases_lt (suc (length f.front)) (length (log_of before n)))
    where
      f : FirstCommit (take k (final_of before h after n).local.log) t
      f = first_commit (take k (final_of before h after n).local.log) t c

      within : suc (length (first_commit (take k (final_of before h after n).local.log) t c).front) ≤ k
      within =
          let a = first_inside f.front (Commit t f.parts) f.rest in
          let b = ap length f.is in
          let e = length_taken k (final_of before h after n).local.log in
          omega (arith, a, b, e)

      piece : take (suc (length f.front)) (final_of before h after n).local.log ≡ f.front ++ Commit t f.parts ∷ []
      piece = take_less (suc (length f.front)) k (final_of before h after n).local.log within ∙ ap (take (suc (length f.front))) f.is ∙ take_first f.front (Commit t f.parts) f.rest

      own : committed_in (f.front ++ Commit t f.parts ∷ []) t ≡ true
      own = committed_append f.front (Commit t f.parts ∷ []) t ∙ or_right (committed_in f.front t) _ (or_left (tx_same t t) false (tx_self t))

      ofs : (q : TxId) → committed_in (f.front ++ Commit t f.parts ∷ []) q ≡ true → tx_same q t ≡ false → committed_in f.front q ≡ true
      ofs q a o = ⊎_elim (λ b. b) (λ b. ⊎_elim (λ s. absurd (both_ways _ o s)) (λ s. absurd (both_ways false refl s)) (or_cases (tx_same q t) false b))
          (or_cases (committed_in f.front q) (committed_in (Commit t f.parts ∷ []) q) (sym (committed_append f.front (Commit t f.parts ∷ []) q) ∙ a))

      by : (suc (length f.front) < length (log_of before n)) ⊎ (length (log_of before n) ≤ suc (length f.front)) → tx_in p (commits_before t (take k (final_of before h after n).local.log)) ≡ true
      by (inl early) = absurd (none_of_this_run splits before n t l.opens (log_found l n i) old run)
        where
          opened : List LogRecord
          opened = log_after_restart n (log_of before n) (run_after before) 0

          old : committed_in (log_of before n) t ≡ true
          old =
              let m = more (log_of before n) (restart_records n (log_of before n) (run_after before) 0) in
              let w = grown_length (log_of before n) (log_after_restart n (log_of before n) (run_after before) 0) m in
              cut_keeps (suc (length f.front)) (log_of before n) t
              (subst (λ l. committed_in l t ≡ true)
              (sym piece ∙ sym (begins (suc (length f.front)) (omega (arith, early, w)) (omega (arith, within, d))) ∙ sym (take_front (suc (length f.front)) (log_of before n) (log_after_restart n (log_of before n) (run_after before) 0) m (omega (arith, early)))) own)

          of_run : (x : Entry) → Among x (journal_of n h) → OperatesFor t x → t.run ≡ run_after before
          of_run x m (birth, nth, seen, op, q) = (walker_of splits before after h (n, x) t l.legal (from_journal n x h m) (ap tx_of q)).0

          run : t.run ≡ run_after before
          run = let g = got_in (log_of after n) (start_of before n) t p (journal_of n h) j in of_run g.0 g.1 g.2
      by (inr late) =
          let a = at_moment (suc (length f.front)) late (omega (arith, within, d)) in
          let same = λ (q : TxId). a.commits q ∙ ap (λ l. committed_in l q) piece in
          let r = met_before (suc (length f.front)) a t p (same t ∙ own) j in
          f.listed p (ofs p (sym (same p) ∙ r.0) r.1)

pub members_have_predecessors : MembersHavePredecessors
members_have_predecessors splits before after streams h n tx p f i m c j =
    let s = f.streams_of n i in
    let there = subst (λ l. committed_in l tx ≡ true) s.2 c in
    before_member (fed_cuts f) tx p n m c (subst (λ l. tx_in p (commits_before tx l) ≡ true) (sym s.2) (stands_before splits before after h f.legal n i s.0 tx p s.1 there j))
