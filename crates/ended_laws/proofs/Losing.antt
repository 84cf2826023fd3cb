-- Epochs of requests that a restart lost.
use Rattle.std.proofs.Common.{◌≡◌, refl, sym, ap, ◌∙◌, ℕ, true, false, cond, Bool, ◌==◌, List, [], ◌∷◌, ◌++◌, Option, Some, None}
use Rattle.clv_base.specs.declared.changes.Change.{Change}
use Rattle.clv_base.specs.declared.names.TxId.{TxId}
use Rattle.clv_base.specs.declared.names.Birth.{Birth}
use Rattle.clv_base.specs.declared.ops.Op.{Op}
use Rattle.clv_base.specs.declared.causes.Vote.{Vote}
use Rattle.clv_base.specs.declared.causes.Vote.TheVariants.{Yes, Read, No}
use Rattle.clv_base.specs.declared.causes.AbortCause.TheVariants.{Restarted as RestartedCause}
use Rattle.clv_base.specs.declared.events.Entry.{Entry}
use Rattle.clv_base.specs.declared.events.Event.{Event}
use Rattle.clv_base.specs.declared.events.Outcome.{Outcome}
use Rattle.clv_base.specs.declared.events.Outcome.TheVariants.{Aborted, NotYet}
use Rattle.clv_base.specs.declared.state.Voter.{Voter}
use Rattle.clv_base.specs.declared.state.Request.{Request}
use Rattle.clv_base.specs.declared.state.Ruling.{Ruling}
use Rattle.clv_base.specs.declared.state.Ruling.TheVariants.{Commit as CommitVerdict, Acknowledge, Abort as AbortVerdict, End as EndVerdict}
use Rattle.clv_base.specs.Orders.{tx_same}
use Rattle.clv_base.specs.State.{Local, Shard, is_present}
use Rattle.clv_base.specs.Undo.{stage_of}
use Rattle.clv_base.specs.Needs.{writes_of, value_at, key_of}
use Rattle.clv_base.specs.OneShard.{OpReply, OpAnswers, OpDies, seen_fits, written, locked, rolled_back_if, drop_part}
use Rattle.clv_base.specs.Due.{finish_reader, with_vote, do_ruling, with_ruling}
use Rattle.clv_base.specs.Events.{QuietBeforeWorn, Does, finish, look_lost, is_asked_outcome, epoch_in, entry_request, request_epoch}
use Rattle.history_cases.proofs.Stepping.{commits, votes, rules, KeptByDue, settled, Step, op_dies, op_answers, request_again, request_new, request_closes, drops, decision_comes, Happens, finishes, stops, happened}
use Rattle.history_laws.proofs.Entries.WhatOperationsDo.{OpIs, dies, rolls, performs, reply_is}
use Rattle.ended_laws.specs.Epochs.{lost_by, LooksReadLostEpochs, OnlyRestartsLoseEpochs}

pub looks_read_lost_epochs : LooksReadLostEpochs
looks_read_lost_epochs s tx = at (request_epoch s.shard tx s.journal)
  where
    by : (e : ℕ) (b : Bool) → (e == s.local.epoch) ≡ b
        → look_lost s tx (Some e) ≡ look_lost s tx (cond b None (Some e))
    by e true q = ap (λ b. cond b (QuietBeforeWorn NotYet) (Does (Aborted (RestartedCause s.shard e s.local.epoch)) (finish s))) q
    by e false q = refl

    at : (o : Option ℕ) → look_lost s tx o ≡ look_lost s tx (lost_by s.local.epoch o)
    at None = refl
    at (Some e) = by e (e == s.local.epoch) refl

-- ---- an event keeps the shard's number, its epoch and its entries so far

abbrev Stays : ℕ → ℕ → List Entry → Shard → Type 0
Stays n epoch js t = (t.shard ≡ n) × (t.local.epoch ≡ epoch) × (t.journal ≡ js)

reader_stays : (n epoch : ℕ) (js : List Entry) (s : Shard) (u : TxId) (v : Voter) (x : Vote) → Stays n epoch js s → Stays n epoch js (finish_reader u x (with_vote s u v x))
reader_stays n epoch js s u v Yes p = p
reader_stays n epoch js s u v Read p = p
reader_stays n epoch js s u v (No why) p = p

ruling_stays : (n epoch : ℕ) (js : List Entry) (s : Shard) (u : TxId) (q : Request) (r : Ruling) → Stays n epoch js s → Stays n epoch js (do_ruling u r (with_ruling u q r s))
ruling_stays n epoch js s u q (CommitVerdict ps) p = p
ruling_stays n epoch js s u q Acknowledge p = p
ruling_stays n epoch js s u q (AbortVerdict c to) p = p
ruling_stays n epoch js s u q EndVerdict p = p

due_stays : (n epoch : ℕ) (js : List Entry) → KeptByDue (Stays n epoch js)
due_stays n epoch js s _ (commits u c d) p = p
due_stays n epoch js s _ (votes u v x g e) p = reader_stays n epoch js s u v x p
due_stays n epoch js s _ (rules u q r g e) p = ruling_stays n epoch js s u q r p

finished_stays : (n epoch : ℕ) (js : List Entry) (s : Shard) → Stays n epoch js s → Stays n epoch js (finish s)
finished_stays n epoch js s p = settled (Stays n epoch js) s (due_stays n epoch js) p

written_epoch : (u : TxId) (w : Option (ℕ × Change)) (l : Local) → (written u w l).epoch ≡ l.epoch
written_epoch u None l = refl
written_epoch u (Some w) l = refl

reply_epoch : (l : Local) (u : TxId) (birth : Birth) (seen : Option ℕ) (op : Op) (r : OpReply) → OpIs l u birth seen op r
    → ((a : _) (m : Local) → r ≡ OpAnswers a m → m.epoch ≡ l.epoch) × ((c : _) (m : Local) → r ≡ OpDies c m → m.epoch ≡ l.epoch)
reply_epoch l u birth seen op _ dies = (λ a m e. absurd cc, λ c m e. after e)
  where
    after : {c d : _} {m : Local} → OpDies c l ≡ OpDies d m → m.epoch ≡ l.epoch
    after e = cc
reply_epoch l u birth seen op _ rolls = (λ a m e. absurd cc, λ c m e. ap (λ z. z.epoch) (sym (after e)))
  where
    after : {c d : _} {m k : Local} → OpDies c m ≡ OpDies d k → m ≡ k
    after e = cc
reply_epoch l u birth seen op _ (performs f g) =
    (λ a m e. ap (λ z. z.epoch) (sym (after e)) ∙ written_epoch u (writes_of op (value_at (key_of op) l.records)) (locked u birth op l), λ c m e. absurd cc)
  where
    after : {c d : _} {m k : Local} → OpAnswers c m ≡ OpAnswers d k → m ≡ k
    after e = cc
reply_epoch l u birth seen op _ _ = (λ a m e. absurd cc, λ c m e. absurd cc)

dropped_epoch : (u : TxId) (l : Local) → (drop_part u l).epoch ≡ l.epoch
dropped_epoch u l = at (is_present (stage_of l u))
  where
    at : (b : Bool) → (rolled_back_if b u l).epoch ≡ l.epoch
    at true = refl
    at false = refl

step_stays : (s t : Shard) {e : Event} {o : Outcome} → Step s e o t → Stays s.shard s.local.epoch s.journal t
step_stays s _ (op_dies u birth nth seen op cause l e) = (refl, (reply_epoch s.local u birth seen op (OpDies cause l) (reply_is s.shard s.local u birth seen op (OpDies cause l) e)).1 cause l refl, refl)
step_stays s _ (op_answers u birth nth seen op answer l e) =
    (refl, (reply_epoch s.local u birth seen op (OpAnswers answer l) (reply_is s.shard s.local u birth seen op (OpAnswers answer l) e)).0 answer l refl, refl)
step_stays s _ (drops u stage e) = (refl, dropped_epoch u s.local, refl)
step_stays s _ (decision_comes u home true stamp e) = (refl, refl, refl)
step_stays s _ (decision_comes u home false stamp e) = (refl, refl, refl)
step_stays s _ _ = (refl, refl, refl)

happens_stays : (s t : Shard) {e : Event} {o : Outcome} → Happens s e o t → Stays s.shard s.local.epoch s.journal t
happens_stays s _ (finishes {t = t} up g) = finished_stays s.shard s.local.epoch s.journal t (step_stays s t g)
happens_stays s _ (stops up) = (refl, refl, refl)

-- ---- a request that is taken names the shard's own epoch

named_now : (n now : ℕ) (tx : TxId) (e : Event) (o : Outcome) → Option ℕ
named_now n now tx e o = lost_by now (cond (is_asked_outcome o) (entry_request n tx e) None)

fits_now : (now : ℕ) (b : Bool) (o : Option ℕ) → seen_fits now o ≡ true → lost_by now (cond b o None) ≡ None
fits_now now false o h = refl
fits_now now true None h = refl
fits_now now true (Some e) h = ap (λ b. cond b None (Some e)) h

step_names : (s t : Shard) (tx : TxId) {e : Event} {o : Outcome} → Step s e o t → named_now s.shard s.local.epoch tx e o ≡ None
unfolding named_now
step_names s _ tx (request_again u ts f e) = fits_now s.local.epoch (tx_same tx u) (epoch_in s.shard ts) f
step_names s _ tx (request_new u ts f e) = fits_now s.local.epoch (tx_same tx u) (epoch_in s.shard ts) f
step_names s _ tx (request_closes u ts f e) = fits_now s.local.epoch (tx_same tx u) (epoch_in s.shard ts) f
step_names s _ tx _ = refl

happens_names : (s t : Shard) (tx : TxId) {e : Event} {o : Outcome} → Happens s e o t → named_now s.shard s.local.epoch tx e o ≡ None
unfolding named_now
happens_names s _ tx (finishes {t = t} up g) = step_names s t tx g
happens_names s _ tx (stops up) = refl

-- ---- one entry more

or_then : Option ℕ → Option ℕ → Option ℕ
or_then None b = b
or_then (Some e) b = Some e

one_more : (n : ℕ) (tx : TxId) (es : List Entry) (x : Entry) → request_epoch n tx (es ++ x ∷ []) ≡ or_then (request_epoch n tx es) (cond (is_asked_outcome x.outcome) (entry_request n tx x.event) None)
unfolding or_then
one_more n tx [] x = at (cond (is_asked_outcome x.outcome) (entry_request n tx x.event) None)
  where
    at : (o : Option ℕ) → ◌≡◌ {A = Option ℕ} (elim o as (λ z. Option ℕ) [ Some k ↦ Some k | None ↦ None ]) o
    at None = refl
    at (Some k) = refl
one_more n tx (r ∷ rs) x = at (cond (is_asked_outcome r.outcome) (entry_request n tx r.event) None) (one_more n tx rs x)
  where
    more : Option ℕ
    more = cond (is_asked_outcome x.outcome) (entry_request n tx x.event) None

    at : (o : Option ℕ) → request_epoch n tx (rs ++ x ∷ []) ≡ or_then (request_epoch n tx rs) (cond (is_asked_outcome x.outcome) (entry_request n tx x.event) None)
        → ◌≡◌ {A = Option ℕ} (elim o as (λ z. Option ℕ) [ Some k ↦ Some k | None ↦ request_epoch n tx (rs ++ x ∷ []) ])
        (or_then (elim o as (λ z. Option ℕ) [ Some k ↦ Some k | None ↦ request_epoch n tx rs ]) (cond (is_asked_outcome x.outcome) (entry_request n tx x.event) None))
    at (Some k) e = refl
    at None e = e

lost_then : (now : ℕ) (a b : Option ℕ) → lost_by now b ≡ None → lost_by now (or_then a b) ≡ lost_by now a
unfolding or_then
lost_then now None b h = h
lost_then now (Some e) b h = refl

pub only_restarts_lose_epochs : OnlyRestartsLoseEpochs
unfolding named_now
only_restarts_lose_epochs s t tx e o stamp w h =
    let g = happened s t e o h in
    let p = happens_stays s t g in
    let x : Entry = record { stamp = stamp; walker = w; event = e; outcome = o } in
    ap (λ k. lost_by t.local.epoch (request_epoch k tx (t.journal ++ x ∷ []))) p.0
    ∙ ap (λ k. lost_by k (request_epoch s.shard tx (t.journal ++ x ∷ []))) p.1
    ∙ ap (λ js. lost_by s.local.epoch (request_epoch s.shard tx (js ++ x ∷ []))) p.2
    ∙ ap (lost_by s.local.epoch) (one_more s.shard tx s.journal x)
    ∙ lost_then s.local.epoch (request_epoch s.shard tx s.journal) (cond (is_asked_outcome o) (entry_request s.shard tx e) None) (happens_names s t tx g)
