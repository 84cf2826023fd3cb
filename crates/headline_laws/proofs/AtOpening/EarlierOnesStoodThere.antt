-- Of the transactions of earlier runs: what is left of them stood in the logs at opening.
use Rattle.std.proofs.Common.{◌≡◌, ⊎_elim, refl, sym, ap, subst, ◌∙◌, ℕ, ◌≤◌, ◌<◌, true, false, Bool, ◌&&◌, ◌||◌, ◌==◌, nat_lt, List, [], ◌∷◌, ◌++◌, Option, Some, None, length, arith, append-nil, append_assoc, eqb-true, ltb-true}
use Rattle.std.proofs.lemmas.Bool.{and_parts, or_cases, or_from, false_from_ne_true}
use Rattle.std.proofs.lemmas.List.{take_all}
use Rattle.clv_base.specs.declared.names.TxId.{TxId}
use Rattle.clv_base.specs.declared.logs.LogRecord.{LogRecord}
use Rattle.clv_base.specs.declared.logs.LogRecord.TheVariants.{Update, Clr, Prepare, Commit, Abort, End, Restart, Add, Unadd, Forgotten, Check}
use Rattle.clv_base.specs.Orders.{tx_same}
use Rattle.clv_base.specs.Logs.{is_update_of, wrote_in, has_standing, committed_in, committed_somewhere}
use Rattle.clv_base.specs.LogRules.{log_of, last_restart, above_restarts, in_last_run, may_write, may_follow, disorder}
use Rattle.clv_base.specs.Shards.{shard_count}
use Rattle.clv_base.specs.Restarts.{run_after, log_left, undo_records, restart_records, log_after_restart}
use Rattle.clv_base.specs.Journals.{History, start_of, final_of, journal_of}
use Rattle.clv_base.specs.History.{Legal, logs_left}
use Rattle.clv_base.proofs.SameNames.{tx_true}
use Rattle.law_base.proofs.Standing.{stood_before}
use Rattle.law_base.proofs.Changed.{none_some, some_same}
use Rattle.protocol_laws.specs.Growth.{IsPrefixOf}
use Rattle.protocol_laws.proofs.LogOnlyGrows.DueGrowsLogs.{chain, more}
use Rattle.history_laws.specs.Openings.{LegalFrom}
use Rattle.shard_laws.specs.OneShard.{MayServe}
use Rattle.shard_laws.proofs.Order.RecordByRecord.{Follows, Plainly, last_push, follows_append, above_later}
use Rattle.shard_laws.proofs.Restarts.RestartsKeepOrder.{restarted_log, restart_follows}
use Rattle.law_base.proofs.Parts.{in_order_cut, whole_part}
use Rattle.fate_laws.proofs.EachShardLeads.{may_serve}
use Rattle.history_laws.proofs.Logs.FoundLogsInOrder.{log_found}
use Rattle.shard_laws.proofs.Keeping.RecordsAndFrontsKeep.{wrote_append}
use Rattle.history_cases.proofs.Durability.{fronts_entries, opened_counted, left_front}
use Rattle.history_laws.proofs.NeverTakenBack.LaterHistoriesHoldMembers.{committed_front}
use Rattle.fate_laws.proofs.Homes.DecidedStaysDecided.{left_committed}
use Rattle.fate_laws.proofs.Logs.RestartsWriteNoUpdate.{restart_writes_none}
use Rattle.fate_laws.proofs.EarlierRuns.EarlierFatesAreKnown.{earlier_commits_are_of_opening}
use Rattle.fate_laws.proofs.LogsLeftAreInOrder.{logs_left_are_in_order}
use Rattle.headline_laws.proofs.SharesAreMaps.{at_somewhere}
use Rattle.law_base.proofs.Bools.{and_first as front}
use Rattle.law_base.proofs.Logs.{last_restart_push as last_new}
use Rattle.history_laws.proofs.NeverTakenBack.{log_now}

-- ---- no UPDATE behind the RESTART of a run is of an earlier one

-- the last RESTART is of this run or a later one
abbrev pub LastFrom : ℕ → List LogRecord → Type 0
LastFrom run log = (p : ℕ × ℕ) × (last_restart log ≡ Some p) × (run ≤ p.0)

above_last : (run epoch : ℕ) (log : List LogRecord) (p : ℕ × ℕ) → above_restarts run epoch log ≡ true → last_restart log ≡ Some p → p.0 ≤ run
above_last run epoch [] p a e = absurd (none_some p e)
above_last run epoch (Restart r k ∷ rs) p a e =
    let x = and_parts (nat_lt r run || ((r == run) && nat_lt k epoch)) (above_restarts run epoch rs) a in
    at (last_restart rs) refl e x.0 (above_last run epoch rs p x.1)
  where
    own : (nat_lt r run || ((r == run) && nat_lt k epoch)) ≡ true → r ≤ run
    own c = ⊎_elim (λ f. let l = ltb-true r run f in omega (arith, l)) (λ f. let q = eqb-true r run (and_parts (r == run) (nat_lt k epoch) f).0 in omega (arith, q)) (or_cases (nat_lt r run) ((r == run) && nat_lt k epoch) c)

    at : (o : Option (ℕ × ℕ)) → last_restart rs ≡ o → elim o [ Some q ↦ Some q | None ↦ Some (r, k) ] ≡ Some p → (nat_lt r run || ((r == run) && nat_lt k epoch)) ≡ true → (last_restart rs ≡ Some p → p.0 ≤ run) → p.0 ≤ run
    at None f g c h = subst (λ (z : ℕ × ℕ). z.0 ≤ run) (some_same (r, k) p g) (own c)
    at (Some q) f g c h = h (f ∙ g)
above_last run epoch (Update tx k b x ∷ rs) p a e = above_last run epoch rs p a e
above_last run epoch (Clr tx u k x ∷ rs) p a e = above_last run epoch rs p a e
above_last run epoch (Prepare tx home ps ∷ rs) p a e = above_last run epoch rs p a e
above_last run epoch (Commit tx parts ∷ rs) p a e = above_last run epoch rs p a e
above_last run epoch (Abort tx ∷ rs) p a e = above_last run epoch rs p a e
above_last run epoch (End tx ∷ rs) p a e = above_last run epoch rs p a e
above_last run epoch (Add tx k by ∷ rs) p a e = above_last run epoch rs p a e
above_last run epoch (Unadd tx u k by ∷ rs) p a e = above_last run epoch rs p a e
above_last run epoch (Forgotten ∷ rs) p a e = above_last run epoch rs p a e
above_last run epoch (Check r k upto base ∷ rs) p a e =
    let x = and_parts (nat_lt r run || ((r == run) && nat_lt k epoch)) (above_restarts run epoch rs) a in
    at (last_restart rs) refl e x.0 (above_last run epoch rs p x.1)
  where
    own : (nat_lt r run || ((r == run) && nat_lt k epoch)) ≡ true → r ≤ run
    own c = ⊎_elim (λ f. let l = ltb-true r run f in omega (arith, l)) (λ f. let q = eqb-true r run (and_parts (r == run) (nat_lt k epoch) f).0 in omega (arith, q)) (or_cases (nat_lt r run) ((r == run) && nat_lt k epoch) c)

    at : (o : Option (ℕ × ℕ)) → last_restart rs ≡ o → elim o [ Some q ↦ Some q | None ↦ Some (r, k) ] ≡ Some p → (nat_lt r run || ((r == run) && nat_lt k epoch)) ≡ true → (last_restart rs ≡ Some p → p.0 ≤ run) → p.0 ≤ run
    at None f g c h = subst (λ (z : ℕ × ℕ). z.0 ≤ run) (some_same (r, k) p g) (own c)
    at (Some q) f g c h = h (f ∙ g)

plainly_next : (run : ℕ) (log : List LogRecord) (r : LogRecord) → Plainly r → LastFrom run log → LastFrom run (log ++ r ∷ [])
plainly_next run log r p k = (k.0, last_push log r p ∙ k.1, k.2)

pub last_next : (shard run : ℕ) (log : List LogRecord) (r : LogRecord) → LastFrom run log → may_follow shard log r ≡ true → LastFrom run (log ++ r ∷ [])
last_next shard run log (Restart own epoch) k m =
    let a = above_last own epoch log k.0 (front _ _ m) k.1 in
    let b = k.2 in
    ((own, epoch), last_new log own epoch, omega (arith, a, b))
last_next shard run log (Update tx x y z) k m = plainly_next run log (Update tx x y z) tt k
last_next shard run log (Clr tx x y z) k m = plainly_next run log (Clr tx x y z) tt k
last_next shard run log (Prepare tx x y) k m = plainly_next run log (Prepare tx x y) tt k
last_next shard run log (Commit tx x) k m = plainly_next run log (Commit tx x) tt k
last_next shard run log (Abort tx) k m = plainly_next run log (Abort tx) tt k
last_next shard run log (End tx) k m = plainly_next run log (End tx) tt k
last_next shard run log (Add tx x by) k m = plainly_next run log (Add tx x by) tt k
last_next shard run log (Unadd tx x y by) k m = plainly_next run log (Unadd tx x y by) tt k
last_next shard run log Forgotten k m = plainly_next run log Forgotten tt k
last_next shard run log (Check run' epoch' upto base) k m = absurd cc

no_own : (run : ℕ) (log : List LogRecord) (tx t : TxId) → t.run < run → LastFrom run log → may_write log tx ≡ true → tx_same t tx ≡ false
no_own run log tx t l k m =
    false_from_ne_true _ (λ e.
    let i : in_last_run log tx ≡ true = front _ _ (front _ _ (front _ _ (front _ _ (front _ _ m)))) in
    let q = eqb-true tx.run (k.0).0 (subst (λ (o : Option (ℕ × ℕ)). elim o [ Some p ↦ tx.run == p.0 | None ↦ false ] ≡ true) k.1 i) in
    let f = ap (λ (z : TxId). z.run) (tx_true t tx e) in
    let g = k.2 in
    absurd (omega (arith, l, q, f, g)))

no_update : (shard run : ℕ) (log : List LogRecord) (r : LogRecord) (t : TxId) → t.run < run → LastFrom run log → may_follow shard log r ≡ true → is_update_of t r ≡ false
no_update shard run log (Update tx key b a) t l k m = no_own run log tx t l k (front _ _ (front _ _ (front _ _ m)))
no_update shard run log (Add tx key by) t l k m = no_own run log tx t l k (front _ _ (front _ _ m))
no_update shard run log _ t l k m = refl

none_behind : (shard run : ℕ) (log rs : List LogRecord) (t : TxId) → t.run < run → LastFrom run log → Follows shard log rs → wrote_in rs t ≡ false
none_behind shard run log [] t l k f = refl
none_behind shard run log (r ∷ rs) t l k f = ap (λ b. b || wrote_in rs t) (no_update shard run log r t l k f.0) ∙ none_behind shard run (log ++ r ∷ []) rs t l (last_next shard run log r k f.0) f.1

-- what goes on in order from a log in order follows it
pub follows_on : (shard : ℕ) (log more : List LogRecord) → (log ≡ [] → ⊥) → disorder shard log ≡ None → disorder shard (log ++ more) ≡ None → Follows shard log more
follows_on shard [] more some own d = absurd (some refl)
follows_on shard (r ∷ rs) more some own d = (in_order_cut shard (r ∷ rs) more (whole_part shard (r ∷ rs) own) d).1

-- ---- what a crash leaves begins with what the shard opened with

pub left_begins : (splits : List ℕ) (before : List (List LogRecord)) (h : History) (after : List (List LogRecord)) (kept : Bool) (n : ℕ) → Legal splits before h after → n < shard_count splits
    → IsPrefixOf (log_after_restart n (log_of before n) (run_after before) 0) (log_left (final_of before h after n) kept)
left_begins splits before h after kept n l i =
    let log = log_after_restart n (log_of before n) (run_after before) 0 in
    let f = fronts_entries (log_of after n) (start_of before n) (journal_of n h) (opened_counted n (run_after before) (log_of before n)) (l.runs n i) in
    chain log (log_left (final_of before h after n) false) (log_left (final_of before h after n) kept) (subst (λ z. IsPrefixOf z (log_left (final_of before h after n) false)) (take_all (length log) log (omega arith)) f.front)
    (left_front (final_of before h after n) kept f.counted)

-- what a shard opens with ends with a RESTART of this run
pub opened_last : (before : List (List LogRecord)) (n : ℕ) → LastFrom (run_after before) (log_after_restart n (log_of before n) (run_after before) 0)
opened_last before n =
    let found = log_of before n in
    ((run_after before, 0), ap last_restart (sym (append_assoc found (undo_records n found) (Restart (run_after before) 0 ∷ []))) ∙ last_new (found ++ undo_records n found) (run_after before) 0, omega arith)

pub opened_some : (before : List (List LogRecord)) (n : ℕ) → log_after_restart n (log_of before n) (run_after before) 0 ≡ [] → ⊥
opened_some before n e = none_some (opened_last before n).0 (sym (ap last_restart e) ∙ (opened_last before n).1)

-- it is in order
pub opened_in_order : (before : List (List LogRecord)) (n : ℕ) → MayServe n (run_after before) (log_of before n) → disorder n (log_after_restart n (log_of before n) (run_after before) 0) ≡ None
opened_in_order before n m = restarted_log n (log_of before n) m.0 (run_after before) 0 (above_later (run_after before) 0 (log_of before n) m.1)

-- what goes on from such a log follows the log found, and has no UPDATE or ADD of an earlier one behind it
pub more_of_earlier : (splits : List ℕ) (before : List (List LogRecord)) (n : ℕ) (left : List LogRecord) (t : TxId) → t.run < run_after before → MayServe n (run_after before) (log_of before n) → disorder n left ≡ None
    → IsPrefixOf (log_after_restart n (log_of before n) (run_after before) 0) left
    → (more : List LogRecord) × (log_of before n ++ more ≡ left) × (wrote_in more t ≡ false) × Follows n (log_of before n) more
more_of_earlier splits before n left t o m d p =
    let found = log_of before n in
    let records = restart_records n found (run_after before) 0 in
    let opened = log_after_restart n found (run_after before) 0 in
    let behind : Follows n opened p.0 = follows_on n opened p.0 (opened_some before n) (opened_in_order before n m) (subst (λ z. disorder n z ≡ None) (sym p.1) d) in
    let none = none_behind n (run_after before) opened p.0 t o (opened_last before n) behind in (
      records ++ p.0,
      sym (append_assoc found records p.0) ∙ p.1,
      wrote_append records p.0 t ∙ or_from _ _ (restart_writes_none n found (run_after before) 0 t) none,
      follows_append n found records p.0 (restart_follows n found m.0 (run_after before) 0 (above_later (run_after before) 0 found m.1)) behind,
    )

pub left_more : {splits : List ℕ} {before after : List (List LogRecord)} {h : History} → LegalFrom splits before h after → (choice : ℕ → Bool) (n : ℕ) (t : TxId)
    → n < shard_count splits → t.run < run_after before
    → (more : List LogRecord) × (log_of before n ++ more ≡ log_of (logs_left splits before h after choice) n) × (wrote_in more t ≡ false) × Follows n (log_of before n) more
left_more {splits} {before} {after} {h} l choice n t i o =
    more_of_earlier splits before n (log_of (logs_left splits before h after choice) n) t o (may_serve splits before n l.opens (log_found l n i)) (logs_left_are_in_order splits before h after choice n l i)
    (subst (IsPrefixOf (log_after_restart n (log_of before n) (run_after before) 0)) (sym (log_now splits before h after choice n i)) (left_begins splits before h after (choice n) n l.legal i))

-- of whom, of an earlier run, a write stands in what is left on a shard, one stood there in the log found at opening
pub stood_at_opening : {splits : List ℕ} {before after : List (List LogRecord)} {h : History} → LegalFrom splits before h after → (choice : ℕ → Bool) (n : ℕ) (t : TxId)
    → n < shard_count splits → t.run < run_after before → has_standing (log_of (logs_left splits before h after choice) n) t ≡ true → has_standing (log_of before n) t ≡ true
stood_at_opening {splits} {before} {after} {h} l choice n t i o w =
    let m = left_more l choice n t i o in stood_before (log_of before n) m.0 t m.2 (subst (λ z. has_standing z t ≡ true) (sym m.1) w)

-- who is committed in the log found at opening is so in what is left
pub committed_still : (splits : List ℕ) (before : List (List LogRecord)) (h : History) (after : List (List LogRecord)) (choice : ℕ → Bool) (n : ℕ) (t : TxId) → Legal splits before h after → n < shard_count splits → committed_in (log_of before n) t ≡ true
    → committed_in (log_of (logs_left splits before h after choice) n) t ≡ true
committed_still splits before h after choice n t l i c =
    let log = log_after_restart n (log_of before n) (run_after before) 0 in
    subst (λ z. committed_in z t ≡ true) (sym (log_now splits before h after choice n i))
    (committed_front log (log_left (final_of before h after n) (choice n)) t (left_begins splits before h after (choice n) n l i) (committed_front (log_of before n) log t (more (log_of before n) (restart_records n (log_of before n) (run_after before) 0)) c))

-- ---- no transaction of an earlier run is committed anew

-- who is of an earlier run and is committed in what is left was so in some log at opening
pub somewhere_at_opening : {splits : List ℕ} {before after : List (List LogRecord)} {h : History} → LegalFrom splits before h after → (choice : ℕ → Bool) (n : ℕ) (t : TxId)
    → n < shard_count splits → t.run < run_after before → committed_in (log_of (logs_left splits before h after choice) n) t ≡ true → committed_somewhere before t ≡ true
somewhere_at_opening {splits} {before} {after} {h} l choice n t i o w =
    let c =
    earlier_commits_are_of_opening splits before h [] after n t (subst (λ z. LegalFrom splits before z after) (sym (append-nil h)) l) i (λ e. absurd (omega (arith, e, o)))
    (left_committed splits before h after choice n t i w) in
    at_somewhere before c.0 t c.1
