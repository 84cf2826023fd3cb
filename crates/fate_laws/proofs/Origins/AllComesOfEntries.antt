-- What a shard has comes of entries: the laws.
use Rattle.std.proofs.Common.{◌≡◌, ◌⊎◌, inl, inr, ⊎_elim, refl, sym, ap, subst, ◌∙◌, ℕ, ◌<◌, true, false, cond, Bool, List, [], ◌∷◌, Option, Some, None}
use Rattle.std.proofs.lemmas.Bool.{both_ways, or_cases, cond-true}
use Rattle.clv_base.specs.declared.names.TxId.{TxId}
use Rattle.clv_base.specs.declared.names.Birth.{Birth}
use Rattle.clv_base.specs.declared.ops.Op.{Op}
use Rattle.clv_base.specs.declared.ops.Answer.{Answer}
use Rattle.clv_base.specs.declared.logs.LogRecord.{LogRecord}
use Rattle.clv_base.specs.declared.logs.LogRecord.TheVariants.{Update, Clr, Prepare as PrepareRecord, Commit, Abort, End, Restart as RestartRecord, Add, Unadd, Forgotten, Check}
use Rattle.clv_base.specs.declared.messages.Message.TheVariants.{Prepare}
use Rattle.clv_base.specs.declared.state.Stage.TheVariants.{Active, Closed}
use Rattle.clv_base.specs.declared.state.Held.{Held}
use Rattle.clv_base.specs.declared.events.Event.{Event}
use Rattle.clv_base.specs.declared.events.Event.TheVariants.{Op as OpEvent, Request as RequestEvent, Deliver}
use Rattle.clv_base.specs.declared.events.Outcome.{Outcome}
use Rattle.clv_base.specs.declared.events.Outcome.TheVariants.{Answered}
use Rattle.clv_base.specs.Orders.{tx_same, tx_get}
use Rattle.clv_base.specs.Logs.{prepared_in, committed_in}
use Rattle.clv_base.specs.State.{Shard}
use Rattle.clv_base.specs.Restarts.{run_after}
use Rattle.clv_base.specs.Journals.{History}
use Rattle.clv_base.specs.History.{WasSent, request_of}
use Rattle.clv_base.proofs.SameNames.{tx_true, tx_self}
use Rattle.law_base.proofs.Changed.{some_same, none_some}
use Rattle.law_base.proofs.Rows.{rows_get}
use Rattle.history_cases.proofs.Merging.{Among, among_is, is_among}
use Rattle.history_laws.proofs.Entries.WalkedEntryByEntry.{next_entry}
use Rattle.fate_laws.specs.Origins.{answered_as, WasAnsweredAs, WasEverAnswered, WasAskedAt, WasAsked, WasAskedAway, ComesOf, AllComesOfEntries, PreparesComeOfRequests}
use Rattle.fate_laws.proofs.History.EntriesInTurn.{Requested}
use Rattle.fate_laws.proofs.Origins.DueKeepsOrigins.{SomeRequest, OwnRequest, AwayRequest, StageFrom, PartFrom, RowFrom, CommitFrom, AllFrom, part_of, own_some, wrote_all}
use Rattle.fate_laws.proofs.Origins.EventsKeepOrigins.{active_done}
use Rattle.fate_laws.proofs.Origins.FrontsKeepOrigins.{Did, DidOrOld, IsOld, Traced, traced_front, brought}

-- ---- entries, in both forms

answered_is : (t tx : TxId) (p : Birth × ℕ) → tx_same t tx ≡ true → cond (tx_same t tx) (Some p) None ≡ Some p
answered_is t tx p e = cond-true (tx_same t tx) (Some p) None e

was_answered : (h : History) (n ep : ℕ) (t : TxId) (b : Birth) → Did h n ep t b → WasAnsweredAs h n t b ep
was_answered h n ep t b (y, i, p, a) = (
  y.1,
  among_is n y.1 h (subst (λ k. Among (k, y.1) h) p i),
  ap (λ z. answered_as t z (y.1).outcome) (a.at).is ∙ ap (answered_as t (OpEvent t b (a.at).nth a.seen (a.at).op)) a.outcome ∙ answered_is t t (b, ep) (tx_self t),
)

-- an entry that answered an operation
pub record AnOp (t : TxId) (b : Birth) (ep : ℕ) (e : Event) (o : Outcome) : Type 0 where
  pub nth : ℕ
  pub seen : Option ℕ
  pub op : Op
  pub answer : Answer
  pub event : e ≡ OpEvent t b nth seen op
  pub outcome : o ≡ Answered answer ep

an_op : (t : TxId) (b : Birth) (ep : ℕ) (e : Event) (o : Outcome) → answered_as t e o ≡ Some (b, ep) → AnOp t b ep e o
an_op t b ep (OpEvent tx birth nth seen op) (Answered answer epoch) q = at (tx_same t tx) refl q
  where
    births : (p r : Birth × ℕ) → Some p ≡ Some r → p.0 ≡ r.0
    births p r z = ap (λ w. w.0) (some_same p r z)

    epochs : (p r : Birth × ℕ) → Some p ≡ Some r → p.1 ≡ r.1
    epochs p r z = ap (λ w. w.1) (some_same p r z)

    at : (c : Bool) → tx_same t tx ≡ c → ◌≡◌ {A = Option (Birth × ℕ)} (cond c (Some (birth, epoch)) None) (Some (b, ep)) → AnOp t b ep (OpEvent tx birth nth seen op) (Answered answer epoch)
    at true s z = record {
      nth = nth;
      seen = seen;
      op = op;
      answer = answer;
      event = ap (λ u. OpEvent u birth nth seen op) (sym (tx_true t tx s)) ∙ ap (λ u. OpEvent t u nth seen op) (births (birth, epoch) (b, ep) z);
      outcome = ap (Answered answer) (epochs (birth, epoch) (b, ep) z);
    }
    at false s z = absurd (none_some _ z)
an_op t b ep (OpEvent tx birth nth seen op) _ q = absurd (none_some _ q)
an_op t b ep _ o q = absurd (none_some _ q)

did_of : (run : ℕ) (h : History) (n : ℕ) (s : Shard) (t : TxId) (b : Birth) (ep : ℕ) → Traced run h n s → WasAnsweredAs h n t b ep → Did h n ep t b
did_of run h n s t b ep k (e, i, q) =
    let a = an_op t b ep e.event e.outcome q in
    let j = is_among n e h i in
    ((n, e), j, refl, record { seen = a.seen; answer = a.answer; at = record { nth = a.nth; op = a.op; is = a.event }; outcome = a.outcome; saw = (k.epochs (n, e) t b a.nth a.seen a.op a.answer ep j refl a.event a.outcome).1 })

was_asked_at : (h : History) (n : ℕ) (t : TxId) → Requested h t n → WasAskedAt h n t
was_asked_at h n t (r, ts, i, q, p) =
    ((r.1), among_is n r.1 h (subst (λ k. Among (k, r.1) h) p i), ap (λ z. request_of z (r.1).outcome) q.0 ∙ ap (request_of (RequestEvent t ts)) q.1)

was_asked : (run : ℕ) (h : History) (t : TxId) → SomeRequest (Requested h) (IsOld run) t → WasAsked h t ⊎ (t.run < run)
was_asked run h t (inl (n, q)) = inl (n, was_asked_at h n t q)
was_asked run h t (inr o) = inr o

was_away : (run : ℕ) (h : History) (n : ℕ) (t : TxId) → AwayRequest (Requested h) (IsOld run) n t → WasAskedAway h n t ⊎ (t.run < run)
was_away run h n t (inl (m, k, q)) = inl (m, k, was_asked_at h m t q)
was_away run h n t (inr o) = inr o

was_own : (run : ℕ) (h : History) (n : ℕ) (t : TxId) → OwnRequest (Requested h) (IsOld run) n t → WasAskedAt h n t ⊎ (t.run < run)
was_own run h n t (inl q) = inl (was_asked_at h n t q)
was_own run h n t (inr o) = inr o

-- ---- records

prepared_from : (A : TxId → Type 0) (Q : TxId → ℕ → Type 0) (O : TxId → Type 0) (n : ℕ) (rs : List LogRecord) (t : TxId) → AllFrom A Q O n rs → prepared_in rs t ≡ true → SomeRequest Q O t
prepared_from A Q O n [] t a e = absurd (both_ways false refl e)
prepared_from A Q O n (PrepareRecord u home ps ∷ rs) t a e = ⊎_elim (λ s. subst (SomeRequest Q O) (sym (tx_true t u s)) (own_some Q O home u (a.0).1)) (λ s. prepared_from A Q O n rs t a.1 s) (or_cases (tx_same t u) (prepared_in rs t) e)
prepared_from A Q O n (Update u key b x ∷ rs) t a e = prepared_from A Q O n rs t a.1 e
prepared_from A Q O n (Clr u next key x ∷ rs) t a e = prepared_from A Q O n rs t a.1 e
prepared_from A Q O n (Commit u ps ∷ rs) t a e = prepared_from A Q O n rs t a.1 e
prepared_from A Q O n (Abort u ∷ rs) t a e = prepared_from A Q O n rs t a.1 e
prepared_from A Q O n (End u ∷ rs) t a e = prepared_from A Q O n rs t a.1 e
prepared_from A Q O n (RestartRecord r ep ∷ rs) t a e = prepared_from A Q O n rs t a.1 e
prepared_from A Q O n (Add u key by ∷ rs) t a e = prepared_from A Q O n rs t a.1 e
prepared_from A Q O n (Unadd u next key by ∷ rs) t a e = prepared_from A Q O n rs t a.1 e
prepared_from A Q O n (Forgotten ∷ rs) t a e = prepared_from A Q O n rs t a.1 e
prepared_from A Q O n (Check run' epoch' upto base ∷ rs) t a e = prepared_from A Q O n rs t a.1 e

commit_some : (Q : TxId → ℕ → Type 0) (O : TxId → Type 0) (n : ℕ) (t : TxId) (ps : List ℕ) → CommitFrom Q O n t ps → SomeRequest Q O t
commit_some Q O n t [] c = c
commit_some Q O n t (p ∷ ps) c = own_some Q O n t c

committed_from : (A : TxId → Type 0) (Q : TxId → ℕ → Type 0) (O : TxId → Type 0) (n : ℕ) (rs : List LogRecord) (t : TxId) → AllFrom A Q O n rs → committed_in rs t ≡ true → SomeRequest Q O t
committed_from A Q O n [] t a e = absurd (both_ways false refl e)
committed_from A Q O n (Commit u ps ∷ rs) t a e = ⊎_elim (λ s. subst (SomeRequest Q O) (sym (tx_true t u s)) (commit_some Q O n u ps a.0)) (λ s. committed_from A Q O n rs t a.1 s) (or_cases (tx_same t u) (committed_in rs t) e)
committed_from A Q O n (PrepareRecord u home ps ∷ rs) t a e = committed_from A Q O n rs t a.1 e
committed_from A Q O n (Update u key b x ∷ rs) t a e = committed_from A Q O n rs t a.1 e
committed_from A Q O n (Clr u next key x ∷ rs) t a e = committed_from A Q O n rs t a.1 e
committed_from A Q O n (Abort u ∷ rs) t a e = committed_from A Q O n rs t a.1 e
committed_from A Q O n (End u ∷ rs) t a e = committed_from A Q O n rs t a.1 e
committed_from A Q O n (RestartRecord r ep ∷ rs) t a e = committed_from A Q O n rs t a.1 e
committed_from A Q O n (Add u key by ∷ rs) t a e = committed_from A Q O n rs t a.1 e
committed_from A Q O n (Unadd u next key by ∷ rs) t a e = committed_from A Q O n rs t a.1 e
committed_from A Q O n (Forgotten ∷ rs) t a e = committed_from A Q O n rs t a.1 e
committed_from A Q O n (Check run' epoch' upto base ∷ rs) t a e = committed_from A Q O n rs t a.1 e

-- ---- the laws

ever : (run : ℕ) (h : History) (n : ℕ) (t : TxId) → DidOrOld run h n t → WasEverAnswered h n t ⊎ (t.run < run)
ever run h n t (inl (ep, (b, d))) = inl (b, ep, was_answered h n ep t b d)
ever run h n t (inr o) = inr o

active_is : (run : ℕ) (h : History) (n : ℕ) (s : Shard) (t : TxId) (p : Held) → Traced run h n s → tx_get t s.local.parts ≡ Some p → p.stage ≡ Active → WasAnsweredAs h n t p.birth s.local.epoch
active_is run h n s t p k g a =
    let q = rows_get (λ x. PartFrom (Did h n s.local.epoch) (SomeRequest (Requested h) (IsOld run)) x.0 x.1) t p s.local.parts (k.origins).parts g in
    was_answered h n s.local.epoch t p.birth (active_done (Did h n s.local.epoch) p.is_restored t p.birth q.0 (subst (StageFrom (SomeRequest (Requested h) (IsOld run)) p.is_restored t) a q.1))

pub comes_of : (run : ℕ) (h : History) (n : ℕ) (s : Shard) → Traced run h n s → ComesOf run h n s
comes_of run h n s k =
    let o = k.origins in
    record {
      active = λ t p g a. active_is run h n s t p k g a;
      known = λ t b w. o.known t (b, did_of run h n s t b s.local.epoch k w);
      closed = λ t c. was_asked run h t (part_of n s.local.epoch _ _ _ _ _ s t Closed o c).3;
      wrote = λ t e. ever run h n t (wrote_all _ (Requested h) (IsOld run) n s.local.log t o.log e);
      prepared = λ t e. was_asked run h t (prepared_from _ (Requested h) (IsOld run) n s.local.log t o.log e);
      committed = λ t e. was_asked run h t (committed_from _ (Requested h) (IsOld run) n s.local.log t o.log e);
      coordinated = λ t q g. was_own run h n t (rows_get (λ x. RowFrom (Requested h) (IsOld run) n x.0 x.1) t q s.requests o.requests g).0;
      asked = λ t v g. was_away run h n t (rows_get (λ x. AwayRequest (Requested h) (IsOld run) n x.0) t v s.voters o.voters g);
    }

pub all_comes_of_entries : AllComesOfEntries
all_comes_of_entries splits before h after so_far rest n l q i = comes_of (run_after before) so_far n _ ((traced_front l so_far rest q).states n i)

pub prepares_come_of_requests : PreparesComeOfRequests
prepares_come_of_requests splits before h after so_far rest n e to home seen stamp t l q v =
    let w = traced_front l so_far ((n, e) ∷ rest) q in
    let x = next_entry splits before after h so_far (n, e) rest l.legal q in
    let b = brought splits before after h so_far (n, e) x.behind w (Deliver (Prepare to t home seen) stamp) (subst (WasSent so_far) v x.sent) in
    (was_asked_at so_far home t b.0, b.1)
