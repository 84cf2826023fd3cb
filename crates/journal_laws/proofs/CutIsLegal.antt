-- A cut of a legal history is legal.
pub mod OwnEntriesOfSublists
pub mod MadeEntriesAreRuns
use Rattle.std.proofs.Common.{append_assoc, Some, ◌≡◌, inl, inr, ⊎_elim, refl, sym, ap, subst, ◌∙◌, ℕ, ◌<◌, true, false, not, ◌||◌, List, [], ◌∷◌, ◌++◌, arith}
use Rattle.std.specs.List.{AllByRecursion}
use Rattle.clv_base.specs.declared.logs.LogRecord.{LogRecord}
use Rattle.clv_base.specs.declared.events.Event.{Event}
use Rattle.clv_base.specs.declared.events.Event.TheVariants.{Deliver}
use Rattle.clv_base.specs.Shards.{shard_count}
use Rattle.clv_base.specs.LogRules.{log_of}
use Rattle.clv_base.specs.Events.{message_stamp}
use Rattle.clv_base.specs.Restarts.{run_after, log_left}
use Rattle.clv_base.specs.Sessions.{no_session, is_of_session, is_session, is_session_number, makes_from}
use Rattle.clv_base.specs.Journals.{History, journal_of, own, start_of, final_of, after_entries, MayRun}
use Rattle.clv_base.specs.History.{Legal, WasSent, MessagesSent}
use Rattle.protocol_laws.specs.Growth.{IsPrefixOf}
use Rattle.protocol_laws.proofs.LogOnlyGrows.DueGrowsLogs.{chain}
use Rattle.history_laws.specs.Continuing.{IsSublistOf}
use Rattle.history_cases.proofs.Merging.{Placed, Before, InOrder, Among, in_order, among_append, among_front, among_all, among_is, is_among, in_journal, from_journal, stamps_follow}
use Rattle.history_laws.proofs.Entries.SublistsOfHistories.{sublist}
use Rattle.history_cases.proofs.Entering.{after_append, run_first, run_second}
use Rattle.history_cases.proofs.Durability.{opened_counted}
use Rattle.clv_base.specs.Machines.{Runs}
use Rattle.journal_laws.proofs.RunsGoOn.{fronts_run, leaves_front}
use Rattle.journal_laws.proofs.Entries.WalkersOwnEntries.{each_among, among_each}
use Rattle.journal_laws.proofs.GatheredIsLegal.{Whole, whole_state, whole_is_legal}
use Rattle.journal_laws.specs.Cuts.{session_entries, IsCut, CutLeaves, CutIsLegal}
use Rattle.journal_laws.proofs.CutIsLegal.OwnEntriesOfSublists.{own_sublist, rise_of_sublist, own_rise, own_numbered, each_session, by_session_events, session_front}
use Rattle.journal_laws.proofs.CutIsLegal.MadeEntriesAreRuns.{run_made, run_above, runs_same, same_got}
use Rattle.history_cases.proofs.Worlds.{all_in as on_its_shard}

-- ---- a cut's entries are the history's

in_whole : (splits : List ℕ) (h cut : History) → IsCut splits h cut → (x : Placed) → Among x cut → Among x h
in_whole splits h cut c x i =
    from_journal x.0 x.1 h (among_front x.1 (journal_of x.0 cut) (journal_of x.0 h) (c.journals x.0 (on_its_shard splits cut x c.in_shards i)) (in_journal x cut i))

pub cut_sublist : (splits : List ℕ) (before : List (List LogRecord)) (h : History) (after : List (List LogRecord)) (cut : History) → Legal splits before h after → IsCut splits h cut → IsSublistOf cut h
cut_sublist splits before h after cut l c = sublist h cut (in_order cut c.ordered) (in_order h l.ordered) (in_whole splits h cut c)

-- ---- each shard's run

cut_may : (splits : List ℕ) (before : List (List LogRecord)) (h : History) (after : List (List LogRecord)) (cut : History) → Legal splits before h after → IsCut splits h cut → (n : ℕ) → n < shard_count splits
    → MayRun (log_of after n) (start_of before n) (journal_of n cut)
cut_may splits before h after cut l c n i =
    let p = c.journals n i in run_first (log_of after n) (start_of before n) (journal_of n cut) p.0 (subst (MayRun (log_of after n) (start_of before n)) (sym p.1) (l.runs n i))

cut_runs : (splits : List ℕ) (before : List (List LogRecord)) (h : History) (after : List (List LogRecord)) (cut : History) → Legal splits before h after → IsCut splits h cut → (n : ℕ) → n < shard_count splits
    → Runs (start_of before n) (journal_of n cut) (final_of before cut after n)
cut_runs splits before h after cut l c n i = run_made (log_of after n) (start_of before n) (journal_of n cut) (cut_may splits before h after cut l c n i)

-- what is durable at the cut is so in the log at the end
cut_front : (splits : List ℕ) (before : List (List LogRecord)) (h : History) (after : List (List LogRecord)) (cut : History) → Legal splits before h after → IsCut splits h cut → (n : ℕ) → n < shard_count splits
    → IsPrefixOf (log_left (final_of before cut after n) false) (log_of after n)
cut_front splits before h after cut l c n i =
    let p = c.journals n i in
    let k = fronts_run (start_of before n) (journal_of n cut) (final_of before cut after n) (opened_counted n (run_after before) (log_of before n)) (cut_runs splits before h after cut l c n i) in
    let m = run_second (log_of after n) (start_of before n) (journal_of n cut) p.0 (subst (MayRun (log_of after n) (start_of before n)) (sym p.1) (l.runs n i)) in
    let r = run_made (log_of after n) (final_of before cut after n) p.0 m in
    let end : after_entries (log_of after n) (final_of before cut after n) p.0 ≡ final_of before h after n =
    sym (after_append (log_of after n) (start_of before n) (journal_of n cut) p.0) ∙ ap (after_entries (log_of after n) (start_of before n)) p.1 in
    let r2 = subst (Runs (final_of before cut after n) p.0) end r in
    let f = fronts_run (final_of before cut after n) p.0 (final_of before h after n) k.counted r2 in
    chain _ _ _ f.front (leaves_front (final_of before h after n) (log_of after n) f.counted (l.leaves n i))

-- ---- what is delivered was sent before

sent_earlier : (cut pre : History) (x : Placed) (post : History) → InOrder cut → pre ++ x ∷ post ≡ cut → (e : Event) → message_stamp e < (x.1).stamp → WasSent cut e → WasSent pre e
sent_earlier cut pre x post o q (Deliver m stamp) l (n, y, i, s, r) =
    (n, y, among_is n y pre (⊎_elim (λ a. a) (λ b. absurd (later b)) (among_append (n, y) pre (x ∷ post) (subst (Among (n, y)) (sym q) (is_among n y cut i)))), s, r)
  where
    after_x : (zs : History) → InOrder (zs ++ x ∷ post) → AllByRecursion (Before x) post
    after_x [] p = p.0
    after_x (z ∷ zs) p = after_x zs p.1

    later : Among (n, y) (x ∷ post) → ⊥
    later (inl e) = let f = ap (λ z. (z.1).stamp) e in omega (arith, f, s, l)
    later (inr b) = let f = stamps_follow x (n, y) (among_all (Before x) (n, y) post (after_x pre (subst InOrder (sym q) o)) b) in omega (arith, f, s, l)
sent_earlier cut pre x post o q _ l w = tt

all_sent_earlier : (cut pre es : History) → InOrder cut → pre ++ es ≡ cut → ((x : Placed) → Among x es → message_stamp (x.1).event < (x.1).stamp)
    → AllByRecursion (λ e. WasSent cut (e.1).event) es → MessagesSent pre es
all_sent_earlier cut pre [] o q k a = tt
all_sent_earlier cut pre (e ∷ es) o q k a = (
  sent_earlier cut pre e es o q (e.1).event (k e (inl refl)) a.0,
  all_sent_earlier cut (pre ++ e ∷ []) es o (append_assoc pre (e ∷ []) es ∙ q) (λ x i. k x (inr i)) a.1,
)

-- ---- the cut

cut_session : (splits : List ℕ) (run w : ℕ) (h cut : History) → IsPrefixOf (session_entries w cut) (session_entries w h) → is_session splits run w (own w h) ≡ true → is_session splits run w (own w cut) ≡ true
cut_session splits run w h cut (rest, e) s =
    by_session_events splits (Some (no_session run w)) (own w cut)
    ∙ session_front splits (Some (no_session run w)) (session_entries w cut) rest
    (ap (makes_from splits (Some (no_session run w))) e ∙ sym (by_session_events splits (Some (no_session run w)) (own w h)) ∙ s)

pub cut_whole : (splits : List ℕ) (before : List (List LogRecord)) (h : History) (after : List (List LogRecord)) (cut : History) (left : List (List LogRecord)) → Legal splits before h after → IsCut splits h cut
    → CutLeaves splits before cut after left → Whole splits before left cut (final_of before cut after)
cut_whole splits before h after cut left l c v =
    record {
      splits_rise = l.splits_rise;
      each_log = ((l.each_log).0, v.each_log);
      run_fits = l.run_fits;
      in_order = in_order cut c.ordered;
      in_shards = c.in_shards;
      runs = cut_runs splits before h after cut l c;
      leaves = v.leaves;
      stamps = λ w. rise_of_sublist (own w cut) (own w h) (own_sublist w cut h (cut_sublist splits before h after cut l c)) (own_rise w h l.stamps);
      sessions = λ w. cut_session splits (run_after before) w h cut (c.sessions w) (each_session splits (run_after before) w h l.sessions);
      numbered = λ w.
          own_numbered w cut
          (each_among (λ e. not (is_of_session (e.1).event) || is_session_number (e.1).walker) cut
          (λ x i. among_each (λ e. not (is_of_session (e.1).event) || is_session_number (e.1).walker) x h l.numbered (in_whole splits h cut c x i)));
      messages =
          all_sent_earlier cut [] cut (in_order cut c.ordered) refl
          (λ x i.
          let j = on_its_shard splits cut x c.in_shards i in
          among_all (λ e. message_stamp e.event < e.stamp) x.1 (journal_of x.0 cut) (run_above (log_of after x.0) (start_of before x.0) (journal_of x.0 cut) (cut_may splits before h after cut l c x.0 j))
          (in_journal x cut i))
          c.messages;
    }

-- both the logs at the end and those at the cut begin with what is durable there
record Both (splits : List ℕ) (before : List (List LogRecord)) (after : List (List LogRecord)) (cut : History) (left : List (List LogRecord)) (n : ℕ) : Type 0 where
  runs : Runs (start_of before n) (journal_of n cut) (final_of before cut after n)
  now : IsPrefixOf (log_left (final_of before cut after n) false) (log_of left n)
  later : IsPrefixOf (log_left (final_of before cut after n) false) (log_of after n)

both : (splits : List ℕ) (before : List (List LogRecord)) (h : History) (after : List (List LogRecord)) (cut : History) (left : List (List LogRecord)) → Legal splits before h after → IsCut splits h cut
    → CutLeaves splits before cut after left → (n : ℕ) → n < shard_count splits → Both splits before after cut left n
both splits before h after cut left l c v n i =
    let k = opened_counted n (run_after before) (log_of before n) in
    let r = cut_runs splits before h after cut l c n i in
    record {
      runs = r;
      now = leaves_front (final_of before cut after n) (log_of left n) (fronts_run (start_of before n) (journal_of n cut) (final_of before cut after n) k r).counted (v.leaves n i);
      later = cut_front splits before h after cut l c n i;
    }

pub cut_is_legal : CutIsLegal
cut_is_legal splits before h after cut left l c v =
    let w = cut_whole splits before h after cut left l c v in
    record {
      legal = whole_is_legal splits before left cut (final_of before cut after) w;
      same_states = whole_state splits before left cut (final_of before cut after) w;
      same_predecessors = λ n t i.
          let b = both splits before h after cut left l c v n i in
          same_got (log_of left n) (log_of after n) (start_of before n) (journal_of n cut) (final_of before cut after n) t (opened_counted n (run_after before) (log_of before n)) b.runs b.now b.later;
      goes_on =
          record {
            journals = c.journals;
            restarts = λ n i.
                let b = both splits before h after cut left l c v n i in
                runs_same (log_of left n) (log_of after n) (start_of before n) (journal_of n cut) (final_of before cut after n) (opened_counted n (run_after before) (log_of before n)) b.runs b.now b.later;
          };
    }
