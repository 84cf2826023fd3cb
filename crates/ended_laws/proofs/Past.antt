-- A part that is past stays so, by all that is due and by each event that is not its own.
use Rattle.std.proofs.Common.{◌≡◌, inl, refl, sym, ap, subst, ◌∙◌, ℕ, true, false, Bool, [], ◌∷◌, Option, Some, None}
use Rattle.std.specs.Map.{keys_of}
use Rattle.std.proofs.lemmas.Bool.{both_ways, cond-false, false_from_ne_true}
use Rattle.clv_base.specs.declared.names.TxId.{TxId}
use Rattle.clv_base.specs.declared.names.Birth.{Birth}
use Rattle.clv_base.specs.declared.ops.Op.{Op}
use Rattle.clv_base.specs.declared.causes.Vote.{Vote}
use Rattle.clv_base.specs.declared.causes.Vote.TheVariants.{Yes, Read, No}
use Rattle.clv_base.specs.declared.events.Event.{Event}
use Rattle.clv_base.specs.declared.events.Outcome.{Outcome}
use Rattle.clv_base.specs.declared.parts.PartFacts.{PartFacts}
use Rattle.clv_base.specs.declared.state.Stage.TheVariants.{Active}
use Rattle.clv_base.specs.declared.state.Held.{Held}
use Rattle.clv_base.specs.declared.state.Voter.{Voter}
use Rattle.clv_base.specs.declared.state.Request.{Request}
use Rattle.clv_base.specs.declared.state.Ruling.{Ruling}
use Rattle.clv_base.specs.declared.state.Ruling.TheVariants.{Commit as CommitVerdict, Acknowledge, Abort as AbortVerdict, End as EndVerdict}
use Rattle.clv_base.specs.Orders.{Table, tx_same, tx_get, tx_put}
use Rattle.clv_base.specs.State.{Local, Shard, is_present}
use Rattle.clv_base.specs.Undo.{stage_of, roll_back}
use Rattle.clv_base.specs.Facts.{facts_of}
use Rattle.clv_base.specs.Participant.{vote_by, vote_owed, voted}
use Rattle.clv_base.specs.Coordinator.{ruled_request}
use Rattle.clv_base.specs.Needs.{writes_of, value_at, key_of}
use Rattle.clv_base.specs.OneShard.{OpReply, OpAnswers, OpDies, locked, performed, active_part, new_part, rolled_back_if, without_part, drop_part, purge}
use Rattle.clv_base.specs.Due.{finish_reader, with_vote, do_ruling, with_ruling, with_due_done}
use Rattle.clv_base.specs.Events.{finish}
use Rattle.clv_base.proofs.SameNames.{tx_true}
use Rattle.law_base.proofs.Sets.{Rise}
use Rattle.law_base.proofs.Stages.{written_parts}
use Rattle.law_base.proofs.Tables.{get_put}
use Rattle.protocol_laws.proofs.DependentsHaveParts.{keys_stay}
use Rattle.protocol_laws.proofs.Due.WhatEventsTouch.{set_other}
use Rattle.history_cases.proofs.Stepping.{commits, votes, rules, KeptByDue, settled, Step, op_dies, op_answers, rolls_back, request_new, request_closes, drops, prepare_closes, prepare_again, vote_counts, decision_comes, done_counts, Happens, finishes, stops, happened}
use Rattle.history_laws.proofs.Entries.WhatOperationsDo.{OpIs, dies, rolls, performs, reply_is}
use Rattle.ended_laws.specs.Parts.{owes_none, IsPast, MayMeet, PastStaysPast}
use Rattle.ended_laws.proofs.Rows.{put_rises, set_rises}
use Rattle.ended_laws.proofs.Staying.{Leaves, leaves_same, leaves_append, leaves_finished, leaves_rolled, leaves_dropped, leaves_back, leaves_closed, leaves_reply, absent_after}

-- ---- parts rise

keys_without : (u : TxId) (l : Local) → keys_of (without_part u l).parts ≡ keys_of l.parts
keys_without u l = at (is_present (stage_of l u))
  where
    at : (b : Bool) → keys_of (rolled_back_if b u l).parts ≡ keys_of l.parts
    at true = keys_stay _ l.parts
    at false = refl

rise_by : {X : Type 0} (a b : Table X) → keys_of b ≡ keys_of a → Rise (keys_of a) → Rise (keys_of b)
rise_by a b e h = subst Rise (sym e) h

pub performed_rises : (u : TxId) (birth : Birth) (op : Op) (l : Local) → Rise (keys_of l.parts) → Rise (keys_of (performed u birth op l).parts)
performed_rises u birth op l h =
    subst (λ z. Rise (keys_of z)) (sym (written_parts u (writes_of op (value_at (key_of op) l.records)) (locked u birth op l))) (at (tx_get u l.parts))
  where
    at : (o : Option Held) → Rise (keys_of (new_part u birth o l.parts))
    at None = put_rises u (active_part birth) l.parts h
    at (Some x) = h

reply_rises : (u : TxId) (birth : Birth) (seen : Option ℕ) (op : Op) (l : Local) (r : OpReply) → OpIs l u birth seen op r → Rise (keys_of l.parts)
    → ((a : _) (m : Local) → r ≡ OpAnswers a m → Rise (keys_of m.parts)) × ((c : _) (m : Local) → r ≡ OpDies c m → Rise (keys_of m.parts))
reply_rises u birth seen op l _ dies h = (λ a m e. absurd cc, λ c m e. subst (λ z. Rise (keys_of z.parts)) (one_after e) h)
  where
    one_after : {c d : _} {m k : Local} → OpDies c m ≡ OpDies d k → m ≡ k
    one_after e = cc
reply_rises u birth seen op l _ rolls h = (λ a m e. absurd cc, λ c m e. subst (λ z. Rise (keys_of z.parts)) (one_after e) (rise_by l.parts (roll_back u l).parts (keys_stay _ l.parts) h))
  where
    one_after : {c d : _} {m k : Local} → OpDies c m ≡ OpDies d k → m ≡ k
    one_after e = cc
reply_rises u birth seen op l _ (performs f e) h = (λ a m e. subst (λ z. Rise (keys_of z.parts)) (one_after e) (performed_rises u birth op l h), λ c m e. absurd cc)
  where
    one_after : {c d : _} {m k : Local} → OpAnswers c m ≡ OpAnswers d k → m ≡ k
    one_after e = cc
reply_rises u birth seen op l _ _ h = (λ a m e. absurd cc, λ c m e. absurd cc)

-- ---- a state that keeps what it has of the transaction

pub past_stays : (s t : Shard) (tx : TxId) → IsPast s tx → Rise (keys_of t.local.parts) → Rise (keys_of t.voters) → Rise (keys_of t.requests) → tx_get tx t.voters ≡ tx_get tx s.voters
    → tx_get tx t.requests ≡ tx_get tx s.requests → Leaves tx s.local t.local → IsPast t tx
past_stays s t tx p a b c v r l = record {
  parts_rise = a;
  voters_rise = b;
  requests_rise = c;
  is_gone = absent_after tx s.local t.local l p.is_gone;
  owes = ap owes_none v ∙ p.owes;
  no_request = r ∙ p.no_request;
}

-- where only what transactions work on changes
pub past_local : (s : Shard) (tx : TxId) (l : Local) → IsPast s tx → Rise (keys_of l.parts) → Leaves tx s.local l → IsPast (record s { local = l }) tx
past_local s tx l p h g = past_stays s (record s { local = l }) tx p h p.voters_rise p.requests_rise refl refl g

-- ---- what is due

pub none_owed : (f : PartFacts) (o : Option Voter) (v : Voter) → o ≡ Some v → owes_none o ≡ true → vote_by f v ≡ None
none_owed f o v e h = ap (vote_owed f v) (subst (λ z. owes_none z ≡ true) e h)

not_own_voter : (s : Shard) (tx u : TxId) (v : Voter) (x : Vote) → IsPast s tx → tx_get u s.voters ≡ Some v → vote_by (facts_of s u) v ≡ Some x → tx_same tx u ≡ false
not_own_voter s tx u v x p g e = false_from_ne_true _ (λ i. none (sym (none_owed (facts_of s u) (tx_get u s.voters) v g (ap (λ z. owes_none (tx_get z s.voters)) (sym (tx_true tx u i)) ∙ p.owes)) ∙ e))
  where
    none : {X : Type 0} {y : X} → None ≡ Some y → ⊥
    none z = absurd cc

not_own_request : (s : Shard) (tx u : TxId) (q : Request) → IsPast s tx → tx_get u s.requests ≡ Some q → tx_same tx u ≡ false
not_own_request s tx u q p g = false_from_ne_true _ (λ i. none (sym p.no_request ∙ ap (λ z. tx_get z s.requests) (tx_true tx u i) ∙ g))
  where
    none : {X : Type 0} {y : X} → None ≡ Some y → ⊥
    none z = absurd cc

vote_past : (s : Shard) (tx u : TxId) (v : Voter) (x : Vote) → tx_same tx u ≡ false → IsPast s tx → IsPast (finish_reader u x (with_vote s u v x)) tx
vote_past s tx u v Yes d p = past_stays s _ tx p p.parts_rise (set_rises u (voted Yes v) s.voters p.voters_rise) p.requests_rise (set_other tx u (voted Yes v) s.voters d) refl (leaves_same tx s.local)
vote_past s tx u v Read d p =
    past_stays s _ tx p (rise_by s.local.parts _ (keys_stay _ s.local.parts) p.parts_rise) (set_rises u (voted Read v) s.voters p.voters_rise) p.requests_rise (set_other tx u (voted Read v) s.voters d) refl
    (leaves_finished tx (u ∷ []) s.local)
vote_past s tx u v (No why) d p =
    past_stays s _ tx p p.parts_rise (set_rises u (voted (No why) v) s.voters p.voters_rise) p.requests_rise (set_other tx u (voted (No why) v) s.voters d) refl (leaves_same tx s.local)

ruling_past : (s : Shard) (tx u : TxId) (r : Ruling) (q : Request) → tx_same tx u ≡ false → IsPast s tx → IsPast (do_ruling u r (with_ruling u q r s)) tx
ruling_past s tx u (CommitVerdict ps) q d p =
    past_stays s _ tx p p.parts_rise p.voters_rise (set_rises u (ruled_request (CommitVerdict ps) q) s.requests p.requests_rise) refl (set_other tx u (ruled_request (CommitVerdict ps) q) s.requests d) (leaves_append tx _ s.local)
ruling_past s tx u Acknowledge q d p =
    past_stays s _ tx p (rise_by s.local.parts _ (keys_stay _ s.local.parts) p.parts_rise) p.voters_rise (set_rises u (ruled_request Acknowledge q) s.requests p.requests_rise) refl
    (set_other tx u (ruled_request Acknowledge q) s.requests d) (leaves_finished tx (u ∷ []) s.local)
ruling_past s tx u (AbortVerdict c to) q d p =
    past_stays s _ tx p (rise_by s.local.parts _ (keys_stay _ s.local.parts) p.parts_rise) p.voters_rise (set_rises u (ruled_request (AbortVerdict c to) q) s.requests p.requests_rise) refl
    (set_other tx u (ruled_request (AbortVerdict c to) q) s.requests d) (leaves_rolled tx u s.local p.is_gone)
ruling_past s tx u EndVerdict q d p =
    past_stays s _ tx p p.parts_rise p.voters_rise (set_rises u (ruled_request EndVerdict q) s.requests p.requests_rise) refl (set_other tx u (ruled_request EndVerdict q) s.requests d) (leaves_append tx _ s.local)

pub due_past : (tx : TxId) → KeptByDue (λ s. IsPast s tx)
due_past tx s _ (commits u c d) p = past_stays s _ tx p (rise_by s.local.parts _ (keys_stay _ s.local.parts) p.parts_rise) p.voters_rise p.requests_rise refl refl (leaves_finished tx (u ∷ []) s.local)
due_past tx s _ (votes u v x g e) p = vote_past s tx u v x (not_own_voter s tx u v x p g e) p
due_past tx s _ (rules u q r g e) p = ruling_past s tx u r q (not_own_request s tx u q p g) p

pub finished_past : (s : Shard) (tx : TxId) → IsPast s tx → IsPast (finish s) tx
finished_past s tx p = let t = settled (λ z. IsPast z tx) s (due_past tx) p in past_local (with_due_done s) tx (purge (with_due_done s).local) t t.parts_rise (leaves_purge (with_due_done s).local)
  where
    leaves_purge : (l : Local) → Leaves tx l (purge l)
    leaves_purge l = record { stays = λ h. h; fades = inl refl }

-- ---- one event

not_here : (l : Local) (tx u : TxId) → is_present (stage_of l tx) ≡ false → stage_of l u ≡ Some Active → tx_same u tx ≡ false
not_here l tx u g a = false_from_ne_true _ (λ i. both_ways _ g (ap is_present (sym (ap (stage_of l) (tx_true u tx i)) ∙ a)))

put_other : {X : Type 0} (tx u : TxId) (x : X) (rows : Table X) → tx_same tx u ≡ false → tx_get tx (tx_put u x rows) ≡ tx_get tx rows
put_other tx u x rows o = get_put u tx x rows ∙ cond-false (tx_same tx u) (Some x) (tx_get tx rows) o

pub step_past : (s t : Shard) (tx : TxId) {e : Event} {o : Outcome} → Step s e o t → IsPast s tx → MayMeet tx e → IsPast t tx
step_past s _ tx (op_dies u birth nth seen op cause l e) p m =
    let is = reply_is s.shard s.local u birth seen op (OpDies cause l) e in
    past_local s tx l p ((reply_rises u birth seen op s.local (OpDies cause l) is p.parts_rise).1 cause l refl) ((leaves_reply tx u birth seen op s.local (OpDies cause l) is m p.is_gone).1 cause l refl)
step_past s _ tx (op_answers u birth nth seen op answer l e) p m =
    let is = reply_is s.shard s.local u birth seen op (OpAnswers answer l) e in
    past_local s tx l p ((reply_rises u birth seen op s.local (OpAnswers answer l) is p.parts_rise).0 answer l refl) ((leaves_reply tx u birth seen op s.local (OpAnswers answer l) is m p.is_gone).0 answer l refl)
step_past s _ tx (rolls_back u nth seen upto f e) p m = past_local s tx _ p p.parts_rise (leaves_back tx u _ s.local)
step_past s _ tx (request_new u ts f e) p m = past_stays s _ tx p p.parts_rise p.voters_rise (put_rises u _ s.requests p.requests_rise) refl (put_other tx u _ s.requests m) (leaves_same tx s.local)
step_past s _ tx (request_closes u ts f e) p m =
    past_stays s _ tx p (rise_by s.local.parts _ (keys_stay _ s.local.parts) p.parts_rise) p.voters_rise (put_rises u _ s.requests p.requests_rise) refl (put_other tx u _ s.requests m)
    (leaves_closed tx u s.shard _ s.local (not_here s.local tx u p.is_gone e))
step_past s _ tx (drops u stage e) p m =
    past_local s tx (drop_part u s.local) p (rise_by s.local.parts _ (keys_stay _ (without_part u s.local).parts ∙ keys_without u s.local) p.parts_rise) (leaves_dropped tx u s.local p.is_gone)
step_past s _ tx (prepare_closes u home seen stamp e) p m =
    past_stays s _ tx p (rise_by s.local.parts _ (keys_stay _ s.local.parts) p.parts_rise) (put_rises u _ s.voters p.voters_rise) p.requests_rise (put_other tx u _ s.voters m) refl
    (leaves_closed tx u home false s.local (not_here s.local tx u p.is_gone e))
step_past s _ tx (prepare_again u home seen stamp e) p m =
    past_stays s _ tx p p.parts_rise (put_rises u _ s.voters p.voters_rise) p.requests_rise (put_other tx u _ s.voters m) refl (leaves_same tx s.local)
step_past s _ tx (vote_counts u from vote stamp q g e) p m =
    past_stays s _ tx p p.parts_rise p.voters_rise (set_rises u _ s.requests p.requests_rise) refl (set_other tx u _ s.requests (not_own_request s tx u q p g)) (leaves_same tx s.local)
step_past s _ tx (decision_comes u home true stamp e) p m = past_local s tx _ p p.parts_rise (leaves_append tx _ s.local)
step_past s _ tx (decision_comes u home false stamp e) p m = past_local s tx _ p (rise_by s.local.parts _ (keys_stay _ s.local.parts) p.parts_rise) (leaves_rolled tx u s.local p.is_gone)
step_past s _ tx (done_counts u from stamp q g e) p m =
    past_stays s _ tx p p.parts_rise p.voters_rise (set_rises u _ s.requests p.requests_rise) refl (set_other tx u _ s.requests (not_own_request s tx u q p g)) (leaves_same tx s.local)
step_past s _ tx _ p m = past_stays s _ tx p p.parts_rise p.voters_rise p.requests_rise refl refl (leaves_same tx s.local)

happens_past : (s t : Shard) (tx : TxId) {e : Event} {o : Outcome} → Happens s e o t → IsPast s tx → MayMeet tx e → IsPast t tx
happens_past s _ tx (finishes {t = u} up g) p m = finished_past u tx (step_past s u tx g p m)
happens_past s _ tx (stops up) p m = past_stays s _ tx p p.parts_rise p.voters_rise p.requests_rise refl refl (leaves_same tx s.local)

pub past_stays_past : PastStaysPast
past_stays_past s t tx e o past may h = happens_past s t tx (happened s t e o h) past may
