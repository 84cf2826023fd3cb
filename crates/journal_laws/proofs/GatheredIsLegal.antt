-- What a cluster has in hand at its end makes a legal history.
use Rattle.std.proofs.Common.{◌≡◌, ◌⊎◌, inl, inr, refl, sym, ap, subst, ◌∙◌, ℕ, ◌<◌, true, false, not, ◌||◌, Bool, List, [], ◌∷◌, length, ◌==◌, nat_lt, arith}
use Rattle.std.specs.Prelude.{◌^◌}
use Rattle.std.specs.List.{AllByRecursion, list_all}
use Rattle.std.proofs.lemmas.Bool.{ltb-true, ltb-false, ne_eqb}
use Rattle.clv_base.specs.declared.logs.LogRecord.{LogRecord}
use Rattle.clv_base.specs.declared.events.Entry.{Entry}
use Rattle.clv_base.specs.Shards.{shard_count, are_splits}
use Rattle.clv_base.specs.LogRules.{log_of}
use Rattle.clv_base.specs.State.{Shard}
use Rattle.clv_base.specs.Restarts.{run_after}
use Rattle.clv_base.specs.Sessions.{is_session, is_of_session, is_session_number}
use Rattle.clv_base.specs.Journals.{History, journal_of, own, start_of, final_of, MayLeave}
use Rattle.clv_base.specs.History.{Legal, MessagesSent}
use Rattle.law_base.proofs.Lists.{all_mono}
use Rattle.history_cases.proofs.Merging.{Placed, InOrder, Among, in_own, own_in_order}
use Rattle.history_replay.specs.Entries.{on_shard, entries_of}
use Rattle.clv_base.specs.Machines.{Runs}
use Rattle.journal_laws.specs.Walkers.{StampsRise, is_numbered, by_walker}
use Rattle.journal_laws.specs.Gathered.{journal_at, Gathered, GatheredIsLegal}
use Rattle.journal_laws.proofs.RunsGoOn.{runs_fit}
use Rattle.journal_laws.proofs.Entries.JournalsTellHistories.{ordered, told_by_journals}
use Rattle.journal_laws.proofs.Entries.MergedJournalsInOrder.{none_there, same_journal, in_shards, entries_in_order, IsOff}
use Rattle.journal_laws.proofs.Entries.WalkersOwnEntries.{own_journals, rising_in_order, all_rise, each_among, among_each, all_sent}

-- ---- a history is legal where each shard ran, its entries are in order, and each walker kept the rules

pub record Whole (splits : List ℕ) (before after : List (List LogRecord)) (h : History) (states : ℕ → Shard) : Type 0 where
  pub splits_rise : are_splits splits ≡ true
  pub each_log : (length before ≡ shard_count splits) × (length after ≡ shard_count splits)
  pub run_fits : run_after before < 2 ^ 32
  pub in_order : InOrder h
  pub in_shards : list_all (λ e. nat_lt e.0 (shard_count splits)) h ≡ true
  pub runs : (n : ℕ) → n < shard_count splits → Runs (start_of before n) (journal_of n h) (states n)
  pub leaves : (n : ℕ) → n < shard_count splits → MayLeave (states n) (log_of after n)
  pub stamps : (w : ℕ) → StampsRise (own w h)
  pub sessions : (w : ℕ) → is_session splits (run_after before) w (own w h) ≡ true
  pub numbered : (w : ℕ) → list_all (is_numbered w) (own w h) ≡ true
  pub messages : MessagesSent [] h

pub whole_state : (splits : List ℕ) (before after : List (List LogRecord)) (h : History) (states : ℕ → Shard) → Whole splits before after h states → (n : ℕ) → n < shard_count splits
    → final_of before h after n ≡ states n
whole_state splits before after h states w n l = (runs_fit n (run_after before) (log_of before n) (journal_of n h) (states n) (log_of after n) (w.runs n l) (w.leaves n l)).1

pub whole_is_legal : (splits : List ℕ) (before after : List (List LogRecord)) (h : History) (states : ℕ → Shard) → Whole splits before after h states → Legal splits before h after
whole_is_legal splits before after h states w =
    record {
      splits_rise = w.splits_rise;
      ordered = ordered h w.in_order;
      each_log = w.each_log;
      in_shards = w.in_shards;
      run_fits = w.run_fits;
      runs = λ n l. (runs_fit n (run_after before) (log_of before n) (journal_of n h) (states n) (log_of after n) (w.runs n l) (w.leaves n l)).0;
      leaves = λ n l. subst (λ s. MayLeave s (log_of after n)) (sym (whole_state splits before after h states w n l)) (w.leaves n l);
      stamps = all_rise h w.stamps;
      sessions = each_among (λ e. is_session splits (run_after before) (e.1).walker (own (e.1).walker h)) h (λ x i. w.sessions (x.1).walker);
      numbered =
          each_among (λ e. not (is_of_session (e.1).event) || is_session_number (e.1).walker) h
          (λ x i. among_each (is_numbered (x.1).walker) x (own (x.1).walker h) (w.numbered (x.1).walker) (in_own x h i));
      messages = w.messages;
    }

-- ---- a shard's entries are in order

runs_rise : (n : ℕ) (s : Shard) (es : List Entry) (t : Shard) → Runs s es t → AllByRecursion (λ x. s.last < (x.1).stamp) (on_shard n es) × InOrder (on_shard n es)
runs_rise n s [] t r = (tt, tt)
runs_rise n s (e ∷ es) t (u, m, r) =
    let q = runs_rise n u es t r in
    let last : u.last ≡ e.stamp = ap (λ z. z.last) m.entered in
    let rises = m.rises in (
      (rises, all_mono (λ x. u.last < (x.1).stamp) (λ x. s.last < (x.1).stamp) (λ x l. omega (arith, l, last, rises)) (on_shard n es) q.0),
      (all_mono (λ x. u.last < (x.1).stamp) (λ x. (e.stamp < (x.1).stamp) ⊎ ((e.stamp ≡ (x.1).stamp) × (n < x.0))) (λ x l. inl (omega (arith, l, last))) (on_shard n es) q.0, q.1),
    )

-- ---- a walker's own entries are those that it kept

-- on a shard that there isn't, there is none
beyond : (count n : ℕ) (h : History) → list_all (λ e. nat_lt e.0 count) h ≡ true → (n < count → ⊥) → journal_of n h ≡ []
beyond count n h a l = none_there n h (off h (λ x i. ne_eqb x.0 n (λ e. l (subst (λ m. m < count) e (ltb-true x.0 count (among_each (λ e. nat_lt e.0 count) x h a i))))))
  where
    off : (es : History) → ((x : Placed) → Among x es → (x.0 == n) ≡ false) → AllByRecursion (IsOff n) es
    off [] k = tt
    off (e ∷ es) k = (k e (inl refl), off es (λ x i. k x (inr i)))

kept_is_own : (splits : List ℕ) (before after : List (List LogRecord)) (journals : List (List Entry)) (states : ℕ → Shard) (kept : ℕ → History)
    → Gathered splits before after journals states kept → InOrder (entries_of journals) → (w : ℕ) → own w (entries_of journals) ≡ kept w
kept_is_own splits before after journals states kept g o w =
    told_by_journals (own w (entries_of journals)) (kept w) (own_in_order w (entries_of journals) o) (rising_in_order (kept w) (g.walkers w).stamps)
    (λ n. at n (nat_lt n (shard_count splits)) refl)
  where
    at : (n : ℕ) (b : Bool) → nat_lt n (shard_count splits) ≡ b → journal_of n (own w (entries_of journals)) ≡ journal_of n (kept w)
    at n true l = own_journals w n (entries_of journals) ∙ ap (by_walker w) (same_journal journals n) ∙ g.shared w n (ltb-true n (shard_count splits) l)
    at n false l =
        let far : n < shard_count splits → ⊥ = λ m. absurd (let k = ltb-false n (shard_count splits) l in omega (arith, k, m)) in
        own_journals w n (entries_of journals) ∙ ap (by_walker w) (beyond (shard_count splits) n (entries_of journals) (in_shards (shard_count splits) journals g.each_journal) far)
        ∙ sym (beyond (shard_count splits) n (kept w) (g.walkers w).in_shards far)

pub gathered_is_legal : GatheredIsLegal
gathered_is_legal splits before after journals states kept g =
    record {
      legal = whole_is_legal splits before after h states whole;
      same_journals = λ n l. same_journal journals n;
      same_states = whole_state splits before after h states whole;
      same_own = own_is;
    }
  where
    h : History
    h = entries_of journals

    in_turn : InOrder (entries_of journals)
    in_turn =
        entries_in_order journals
        (λ n l. (runs_rise n (start_of before n) (journal_at journals n) (states n) (g.runs n (subst (λ m. n < m) g.each_journal l))).1)

    own_is : (w : ℕ) → own w (entries_of journals) ≡ kept w
    own_is = kept_is_own splits before after journals states kept g in_turn

    whole : Whole splits before after (entries_of journals) states
    whole =
        record {
          splits_rise = g.splits_rise;
          each_log = g.each_log;
          run_fits = g.run_fits;
          in_order = in_turn;
          in_shards = in_shards (shard_count splits) journals g.each_journal;
          runs = λ n l. subst (λ es. Runs (start_of before n) es (states n)) (sym (same_journal journals n)) (g.runs n l);
          leaves = g.leaves;
          stamps = λ w. subst StampsRise (sym (own_is w)) (g.walkers w).stamps;
          sessions = λ w. subst (λ es. is_session splits (run_after before) w es ≡ true) (sym (own_is w)) (g.walkers w).session;
          numbered = λ w. subst (λ es. list_all (is_numbered w) es ≡ true) (sym (own_is w)) (g.walkers w).numbered;
          messages = all_sent [] (entries_of journals) (λ w. subst (MessagesSent []) (sym (own_is w)) (g.walkers w).messages);
        }
