-- What a message that comes owes the shard: a Prepare, and word of a commit.
use Rattle.std.proofs.Common.{◌≡◌, ◌⊎◌, inl, inr, ⊎_elim, refl, sym, ap, subst, ◌∙◌, ℕ, true, false, cond, Bool, not, ◌||◌, List, [], ◌∷◌, arith, eqb-true, ◌==◌, ◌&&◌, None}
use Rattle.std.specs.List.{list_any}
use Rattle.std.proofs.lemmas.Bool.{both_ways, false_from_ne_true, not-true, or_cases, and_from}
use Rattle.clv_base.specs.declared.names.TxId.{TxId}
use Rattle.clv_base.specs.declared.logs.LogRecord.{LogRecord}
use Rattle.clv_base.specs.declared.logs.LogRecord.TheVariants.{Update, Clr, Prepare as PrepareRecord, Commit, Abort, End, Restart as RestartRecord, Add, Unadd, Forgotten, Check}
use Rattle.clv_base.specs.declared.messages.Message.{Message}
use Rattle.clv_base.specs.declared.messages.Message.TheVariants.{Prepare, Decide}
use Rattle.clv_base.specs.declared.state.Taken.{Taken as DecisionTaken}
use Rattle.clv_base.specs.declared.state.Taken.TheVariants.{Done as IsDone, Waiting as IsAwaited, Stale as IsStale}
use Rattle.clv_base.specs.declared.events.Event.{Event}
use Rattle.clv_base.specs.declared.events.Event.TheVariants.{Deliver}
use Rattle.clv_base.specs.declared.events.Outcome.{Outcome}
use Rattle.clv_base.specs.declared.events.Outcome.TheVariants.{Taken, Stale, Down}
use Rattle.clv_base.specs.declared.events.Entry.{Entry}
use Rattle.clv_base.specs.Orders.{tx_same, tx_in, tx_get}
use Rattle.clv_base.specs.Logs.{has_standing, committed_in, prepared_in, aborted_in, is_commit_of, is_undo_of}
use Rattle.clv_base.specs.LogRules.{may_undo, some_parts, part_of, disorder}
use Rattle.clv_base.specs.State.{Shard}
use Rattle.clv_base.specs.Facts.{facts_of}
use Rattle.clv_base.specs.Participant.{taken_by}
use Rattle.clv_base.specs.Events.{QuietBeforeWorn, Does, happen, happen_up, on_message, on_decide, to_of}
use Rattle.clv_base.specs.Restarts.{run_after}
use Rattle.clv_base.specs.Journals.{History}
use Rattle.clv_base.proofs.SameNames.{tx_true}
use Rattle.law_base.proofs.Rows.{rows_get}
use Rattle.protocol_laws.proofs.LogsInOrder.OneRecordMore.{push_cases, push_right}
use Rattle.protocol_laws.specs.SessionLaws.{tx_of}
use Rattle.shard_laws.specs.OneShard.{Deeds, Leads, MayDeliver}
use Rattle.law_base.specs.Coming.{may_come}
use Rattle.law_base.proofs.InOrder.{through}
use Rattle.law_base.proofs.Parts.{in_order_comes}
use Rattle.protocol_laws.proofs.LogsInOrder.{all_in_order}
use Rattle.shard_laws.proofs.Order.WhoseWritesStand.{has_still}
use Rattle.shard_laws.proofs.OrderIsKept.{order_is_kept, part_is_old}
use Rattle.history_laws.proofs.NeverTakenBack.{walker_of, one_request}
use Rattle.fate_laws.proofs.History.EntriesInTurn.{Requested}
use Rattle.fate_laws.proofs.Origins.DueKeepsOrigins.{OwnRequest, RowFrom, RecordFrom, AllFrom}
use Rattle.fate_laws.proofs.Origins.FrontsKeepOrigins.{DidOrOld, IsOld}
use Rattle.fate_laws.specs.Leading.{requests_of}
use Rattle.fate_laws.proofs.History.DeedsOfOneEntry.{request_is_in}
use Rattle.fate_laws.proofs.EachShardLeads.RecordsTellTheirOrigin.{any_from}
use Rattle.fate_laws.proofs.EachShardLeads.SessionsMayAsk.{Here, none_of}
use Rattle.law_base.proofs.Bools.{and_first as front, and_second as last}
use Rattle.law_base.proofs.Logs.{push_left}

-- ---- where a message comes, and what it comes to

pub when_up : {X : Type 0} (s : Shard) (e : Event) (o : Outcome) (t : Shard) → (happen_up s e ≡ Does o t → X) → happen s e ≡ Does o t → X
when_up {X} s e o t k = at s.is_up
  where
    at : (b : Bool) → elim b [ true ↦ happen_up s e | false ↦ QuietBeforeWorn Down ] ≡ Does o t → X
    at true f = k f
    at false f = absurd cc

for_it : {X : Type 0} (s : Shard) (m : Message) (o : Outcome) (t : Shard) → (to_of m ≡ s.shard → on_message s m ≡ Does o t → X) → cond (to_of m == s.shard) (on_message s m) (QuietBeforeWorn Stale) ≡ Does o t → X
for_it {X} s m o t k = at (to_of m == s.shard) refl
  where
    at : (b : Bool) → (to_of m == s.shard) ≡ b → cond b (on_message s m) (QuietBeforeWorn Stale) ≡ Does o t → X
    at true e f = k (eqb-true (to_of m) s.shard e) f
    at false e f = absurd cc

pub comes_to : (s : Shard) (m : Message) (stamp : ℕ) (o : Outcome) (t : Shard) → happen s (Deliver m stamp) ≡ Does o t → to_of m ≡ s.shard
comes_to s m stamp o t f = when_up s (Deliver m stamp) o t (for_it s m o t (λ e g. e)) f

pub decide_taken : (s : Shard) (to : ℕ) (tx : TxId) (home stamp : ℕ) (o : Outcome) (t : Shard) → happen s (Deliver (Decide to tx home true) stamp) ≡ Does o t → o ≡ Taken
decide_taken s to tx home stamp o t f = when_up s (Deliver (Decide to tx home true) stamp) o t (for_it s (Decide to tx home true) o t (λ e g. at (taken_by (facts_of s tx) true) g)) f
  where
    at : (d : DecisionTaken) → on_decide s tx home true d ≡ Does o t → o ≡ Taken
    at IsAwaited g = cc
    at IsDone g = cc
    at IsStale g = absurd cc

-- ---- of who is committed in a log in order a write stands there, or it is the home of its parts, or a checkpoint kept its COMMIT

is_home_commit : TxId → LogRecord → Bool
is_home_commit t (Commit u ps) = tx_same t u && some_parts ps
is_home_commit t _ = false

abbrev StandsOrHome : List LogRecord → List LogRecord → Type 0
StandsOrHome part log = (t : TxId) → committed_in log t ≡ true → (has_standing log t ≡ true) ⊎ ((list_any (is_home_commit t) log ≡ true) ⊎ (committed_in part t ≡ true))

-- a COMMIT is the first record of its transaction that takes a write back no more
new_commit : (shard : ℕ) (part log : List LogRecord) (r : LogRecord) (t : TxId) → may_come shard part log r ≡ true → is_commit_of t r ≡ true → ((has_standing log t ≡ true) × (is_undo_of t r ≡ false)) ⊎ ((is_home_commit t r ≡ true) ⊎ (committed_in part t ≡ true))
unfolding is_home_commit
new_commit shard part log (Commit u ps) t m e =
    ⊎_elim
    (λ h. ⊎_elim (λ w. inl (subst (λ v. has_standing log v ≡ true) (sym (tx_true t u e)) w, refl)) (λ p. inr (inl (and_from (tx_same t u) (some_parts ps) e p))) (or_cases (has_standing log u) (some_parts ps) h))
    (λ k. inr (inr (subst (λ v. committed_in part v ≡ true) (sym (tx_true t u e)) k))) (or_cases (has_standing log u || some_parts ps) (committed_in part u) (last _ _ m))
new_commit shard part log _ t m e = absurd (both_ways false refl e)

open_undo : (log : List LogRecord) (t u : TxId) → may_undo log u ≡ true → committed_in log t ≡ true → aborted_in log t ≡ false → tx_same t u ≡ false
open_undo log t u m c a =
    false_from_ne_true _ (λ e.
    ⊎_elim (λ b. both_ways _ a b) (λ o. both_ways _ (not-true _ (last _ _ o)) c)
    (or_cases (aborted_in log t) (not (prepared_in log t) && not (committed_in log t)) (subst (λ z. may_undo log z ≡ true) (sym (tx_true t u e)) m)))

no_undo : (shard : ℕ) (part log : List LogRecord) (r : LogRecord) (t : TxId) → may_come shard part log r ≡ true → committed_in log t ≡ true → aborted_in log t ≡ false → is_undo_of t r ≡ false
no_undo shard part log (Clr u next key after) t m c a = open_undo log t u (last _ _ (front _ _ m)) c a
no_undo shard part log (Unadd u next key by) t m c a = open_undo log t u (last _ _ (front _ _ m)) c a
no_undo shard part log _ t m c a = refl

stands_or_home : (shard : ℕ) (log : List LogRecord) → disorder shard log ≡ None → StandsOrHome (part_of log) log
stands_or_home shard log d =
    through (StandsOrHome (part_of log)) shard (part_of log)
    (λ l r k p m t c.
    ⊎_elim
    (λ old. ⊎_elim (λ w. inl (has_still l (r ∷ []) t (ap (λ b. b || false) (no_undo shard (part_of log) l r t m old ((all_in_order shard (part_of log) l k).apart t old))) w)) (λ w. inr (⊎_elim (λ x. inl (push_left (is_home_commit t) l r x)) (λ x. inr x) w)) (p t old))
    (λ new. ⊎_elim (λ w. inl (has_still l (r ∷ []) t (ap (λ b. b || false) w.1) w.0)) (λ w. inr (⊎_elim (λ x. inl (push_right (is_home_commit t) l r x)) (λ x. inr x) w)) (new_commit shard (part_of log) l r t m new))
    (push_cases (is_commit_of t) l r c))
    log (in_order_comes shard log d) (λ t c. absurd (both_ways false refl c)) (λ run epoch upto base rises t c. absurd (both_ways false refl c))

home_from : (A : TxId → Type 0) (Q : TxId → ℕ → Type 0) (O : TxId → Type 0) (n : ℕ) (t : TxId) (r : LogRecord) → RecordFrom A Q O n r → is_home_commit t r ≡ true → OwnRequest Q O n t
unfolding is_home_commit
home_from A Q O n t (Commit u []) p e = absurd (at (tx_same t u) e)
  where
    at : (b : Bool) → (b && false) ≡ true → ⊥
    at true e = both_ways false refl e
    at false e = both_ways false refl e
home_from A Q O n t (Commit u (x ∷ xs)) p e = subst (OwnRequest Q O n) (sym (tx_true t u (at (tx_same t u) e))) p
  where
    at : (b : Bool) → (b && true) ≡ true → b ≡ true
    at true e = refl
    at false e = absurd (both_ways false refl e)
home_from A Q O n t (Update u k b x) p e = absurd (both_ways false refl e)
home_from A Q O n t (Clr u k b x) p e = absurd (both_ways false refl e)
home_from A Q O n t (PrepareRecord u hm ps) p e = absurd (both_ways false refl e)
home_from A Q O n t (Abort u) p e = absurd (both_ways false refl e)
home_from A Q O n t (End u) p e = absurd (both_ways false refl e)
home_from A Q O n t (RestartRecord rn ep) p e = absurd (both_ways false refl e)
home_from A Q O n t (Add u k by) p e = absurd (both_ways false refl e)
home_from A Q O n t (Unadd u k b by) p e = absurd (both_ways false refl e)
home_from A Q O n t Forgotten p e = absurd (both_ways false refl e)
home_from A Q O n t (Check run' epoch' upto base) p e = absurd (both_ways false refl e)

-- a write of who is committed stands there, or it made its request there, or a checkpoint kept its COMMIT
pub committed_stands : (A : TxId → Type 0) (Q : TxId → ℕ → Type 0) (O : TxId → Type 0) (n : ℕ) (log : List LogRecord) (t : TxId) → AllFrom A Q O n log → disorder n log ≡ None → committed_in log t ≡ true → (has_standing log t ≡ true) ⊎ (OwnRequest Q O n t ⊎ (committed_in (part_of log) t ≡ true))
committed_stands A Q O n log t a d c =
    ⊎_elim (λ y. inl y) (λ y. inr (⊎_elim (λ h. inl (any_from (RecordFrom A Q O n) (is_home_commit t) log (home_from A Q O n t) a h)) (λ k. inr k) y)) (stands_or_home n log d t c)

-- ---- a Prepare

-- whose request was taken at another shard has none here
not_own : (splits : List ℕ) (before after : List (List LogRecord)) (h pre : History) (n : ℕ) (x : Entry) (s : Shard) (t : TxId) (home : ℕ) → Here splits before after h pre n x s → Requested pre t home → (n ≡ home → ⊥) → OwnRequest (Requested pre) (IsOld (run_after before)) n t → ⊥
not_own splits before after h pre n x s t home here (r, ts, i, q, p) k (inl (r2, us, j, q2, p2)) =
    k (sym p2 ∙ ap (λ z. z.0) (one_request splits before after h r2 r t us ts here.legal ((here.behind).turn r2 j).0 ((here.behind).turn r i).0 q2 q) ∙ p)
not_own splits before after h pre n x s t home here (r, ts, i, q, p) k (inr o) =
    let w = (walker_of splits before after h r t here.legal ((here.behind).turn r i).0 (ap tx_of q.0)).0 in omega (arith, o, w)

pub may_prepare : (splits : List ℕ) (before after : List (List LogRecord)) (h pre : History) (n : ℕ) (x : Entry) (s : Shard) (d : Deeds) (log0 : List LogRecord) (to : ℕ) (t : TxId) (home seen : ℕ)
    → Here splits before after h pre n x s → Leads n (run_after before) log0 d s → (tx_in t (requests_of pre) ≡ true → tx_in t d.asked ≡ true) → to ≡ s.shard → Requested pre t home → (to ≡ home → ⊥) → MayDeliver d s (Prepare to t home seen)
may_prepare splits before after h pre n x s d log0 to t home seen here leads among z req away = (
  among (request_is_in pre t req.0 req.1 req.2 req.3),
  none_of (tx_get t s.requests) (λ q g. here_not (rows_get (λ r. RowFrom (Requested pre) (IsOld (run_after before)) n r.0 r.1) t q s.requests ((here.traced).origins).requests g).0),
  (λ w. false_from_ne_true _ (λ c.
      ⊎_elim (λ y. both_ways _ w y)
      (λ y. ⊎_elim here_not (λ k. here_not (inr (part_is_old n (run_after before) log0 d s leads t k))) y)
      (committed_stands (DidOrOld (run_after before) pre n) (Requested pre) (IsOld (run_after before)) n s.local.log t ((here.traced).origins).log (order_is_kept n (run_after before) log0 d s leads) c))),
)
  where
    here_not : OwnRequest (Requested pre) (IsOld (run_after before)) n t → ⊥
    here_not = not_own splits before after h pre n x s t home here req (λ e. away (z ∙ ((here.traced).origins).shard ∙ e))
