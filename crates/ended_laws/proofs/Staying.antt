-- A request that is over stays over, by all that is due and by each event that may still come.
use Rattle.std.proofs.Common.{◌≡◌, ◌⊎◌, inl, inr, ⊎_elim, refl, sym, ap, subst, ◌∙◌, ℕ, true, false, Bool, List, [], ◌∷◌, ◌++◌, Option, Some, None}
use Rattle.std.proofs.lemmas.Bool.{both_ways, cases_Bool, cond-false, false_from_ne_true}
use Rattle.std.proofs.lemmas.List.Folds.{list_any-append}
use Rattle.std.specs.Map.{keys_of}
use Rattle.clv_base.specs.declared.names.TxId.{TxId}
use Rattle.clv_base.specs.declared.names.Birth.{Birth}
use Rattle.clv_base.specs.declared.ops.Op.{Op}
use Rattle.clv_base.specs.declared.causes.Vote.{Vote}
use Rattle.clv_base.specs.declared.causes.Vote.TheVariants.{Yes, Read, No}
use Rattle.clv_base.specs.declared.logs.LogRecord.{LogRecord}
use Rattle.clv_base.specs.declared.events.Event.{Event}
use Rattle.clv_base.specs.declared.events.Outcome.{Outcome}
use Rattle.clv_base.specs.declared.state.Stage.{Stage}
use Rattle.clv_base.specs.declared.state.Stage.TheVariants.{Active, Gone}
use Rattle.clv_base.specs.declared.state.Voter.{Voter}
use Rattle.clv_base.specs.declared.state.Request.{Request}
use Rattle.clv_base.specs.declared.state.RequestState.{RequestState}
use Rattle.clv_base.specs.declared.state.RequestState.TheVariants.{Undecided, Committed, Finished, Refused}
use Rattle.clv_base.specs.declared.state.Ruling.{Ruling}
use Rattle.clv_base.specs.declared.state.Ruling.TheVariants.{Commit as CommitVerdict, Acknowledge, Abort as AbortVerdict, End as EndVerdict}
use Rattle.clv_base.specs.Orders.{tx_same, tx_in, tx_get, tx_put}
use Rattle.clv_base.specs.declared.changes.Change.{Change}
use Rattle.clv_base.specs.Logs.{is_commit_of, committed_in, has_standing, standing}
use Rattle.clv_base.specs.State.{Local, Shard, is_present}
use Rattle.clv_base.specs.Undo.{stage_of, doomed_by, doomed_here, aborts_of, clrs_of, release_parts, roll_back, roll_to}
use Rattle.clv_base.specs.Facts.{facts_of, doom_by, undecided_of}
use Rattle.clv_base.specs.Coordinator.{others, takes_vote, takes_done, ruling_by, ruled_request}
use Rattle.clv_base.specs.OneShard.{OpReply, OpAnswers, OpDies, written, locked, performed, rolled_back_if, without_part, closing, close_part, drop_part, purge}
use Rattle.clv_base.specs.Needs.{writes_of, value_at, key_of}
use Rattle.clv_base.specs.Due.{finish_reader, with_vote, do_ruling, with_ruling, with_due_done}
use Rattle.clv_base.specs.Events.{finish}
use Rattle.clv_base.proofs.SameNames.{or_left, tx_true}
use Rattle.law_base.proofs.Sets.{Rise, in_filter}
use Rattle.law_base.proofs.Stages.{gone_by, stage_own, stage_other, stage_marked, closed_other, other_part}
use Rattle.law_base.proofs.Tables.{stage_by, get_put}
use Rattle.protocol_laws.proofs.Due.WhatEventsTouch.{set_other}
use Rattle.history_cases.proofs.Stepping.{commits, votes, rules, KeptByDue, settled, Step, op_dies, op_answers, rolls_back, request_new, request_closes, drops, prepare_closes, vote_counts, decision_comes, done_counts, Happens, finishes, stops, happened}
use Rattle.history_laws.proofs.Entries.WhatOperationsDo.{OpIs, dies, rolls, performs, reply_is}
use Rattle.ended_laws.specs.Requests.{IsDone, IsOver, MayCome, OverStaysOver}
use Rattle.ended_laws.proofs.Reading.{no_vote, no_done, no_ruling}
use Rattle.ended_laws.proofs.Rows.{put_rises, set_rises}

-- ---- what a change leaves of a transaction whose part isn't there

-- its stage stays, or it is gone without an abort
abbrev pub Fades : Option Stage → Option Stage → Type 0
Fades a b = (b ≡ a) ⊎ (b ≡ Some (Gone None))

fades_on : (a b c : Option Stage) → Fades a b → Fades b c → Fades a c
fades_on a b c f (inr q) = inr q
fades_on a b c (inl p) (inl q) = inl (q ∙ p)
fades_on a b c (inr p) (inl q) = inr (q ∙ p)

fades_absent : (a b : Option Stage) → Fades a b → is_present a ≡ false → is_present b ≡ false
fades_absent a b (inl e) g = ap is_present e ∙ g
fades_absent a b (inr e) g = ap is_present e

fades_undoomed : (a b : Option Stage) → Fades a b → doom_by a ≡ None → doom_by b ≡ None
fades_undoomed a b (inl e) g = ap doom_by e ∙ g
fades_undoomed a b (inr e) g = ap doom_by e

pub record Leaves (tx : TxId) (l m : Local) : Type 0 where
  pub stays : committed_in l.log tx ≡ true → committed_in m.log tx ≡ true
  pub fades : Fades (stage_of l tx) (stage_of m tx)

pub leaves_same : (tx : TxId) (l : Local) → Leaves tx l l
leaves_same tx l = record { stays = λ h. h; fades = inl refl }

pub leaves_then : (tx : TxId) (l m k : Local) → Leaves tx l m → Leaves tx m k → Leaves tx l k
leaves_then tx l m k a b = record { stays = λ h. b.stays (a.stays h); fades = fades_on (stage_of l tx) (stage_of m tx) (stage_of k tx) a.fades b.fades }

still_in : (log more : List LogRecord) (tx : TxId) → committed_in log tx ≡ true → committed_in (log ++ more) tx ≡ true
still_in log more tx h = list_any-append (is_commit_of tx) log more ∙ or_left _ _ h

pub leaves_append : (tx : TxId) (more : List LogRecord) (l : Local) → Leaves tx l (record l { log = l.log ++ more })
leaves_append tx more l = record { stays = still_in l.log more tx; fades = inl refl }

-- parts that go without an abort
gone_fades : (o : Option Stage) → Fades o (gone_by None o)
gone_fades None = inl refl
gone_fades (Some s) = inr refl

pub leaves_finished : (tx : TxId) (set : List TxId) (l : Local) → Leaves tx l (release_parts set None l)
leaves_finished tx set l = record {
  stays = λ h. h;
  fades =
      ⊎_elim
      (λ i. subst (λ o. Fades (stage_of l tx) o) (sym (stage_own set None tx l.parts i)) (gone_fades (stage_of l tx)))
      (λ i. inl (stage_other set None tx l.parts i))
      (cases_Bool (tx_in tx set));
}

-- another's abort
pub leaves_rolled : (tx u : TxId) (l : Local) → is_present (stage_of l tx) ≡ false → Leaves tx l (roll_back u l)
leaves_rolled tx u l g = record {
  stays = λ h. still_in (l.log ++ aborts_of l.log (doomed_here l u)) (clrs_of (doomed_here l u) (standing l.log)) tx (still_in l.log (aborts_of l.log (doomed_here l u)) tx h);
  fades = inl (stage_other (doomed_here l u) (Some u) tx l.parts (false_from_ne_true _ (λ i. both_ways _ g (in_filter (λ t. is_present (stage_of l t)) tx (doomed_by l u) i).1)));
}

leaves_if : (tx u : TxId) (l : Local) (b : Bool) → is_present (stage_of l tx) ≡ false → Leaves tx l (rolled_back_if b u l)
leaves_if tx u l true g = leaves_rolled tx u l g
leaves_if tx u l false g = leaves_same tx l

pub leaves_dropped : (tx u : TxId) (l : Local) → is_present (stage_of l tx) ≡ false → Leaves tx l (drop_part u l)
leaves_dropped tx u l g =
    leaves_then tx l (without_part u l) (drop_part u l) (leaves_if tx u l (is_present (stage_of l u)) g)
    (record { stays = λ h. h; fades = inl (stage_marked u tx (without_part u l).parts) })

-- another part that closes
pub leaves_closed : (tx u : TxId) (home : ℕ) (alone : Bool) (l : Local) → tx_same u tx ≡ false → Leaves tx l (close_part u home alone l)
leaves_closed tx u home alone l o = record { stays = still_in l.log (closing (has_standing l.log u) alone u home (undecided_of l u)) tx; fades = inl (closed_other l.parts u tx o) }

-- a going back
pub leaves_back : (tx u : TxId) (n : ℕ) (l : Local) → Leaves tx l (roll_to u n l)
leaves_back tx u n l = record { stays = still_in l.log _ tx; fades = inl refl }

-- another's operation
leaves_written : (tx u : TxId) (w : Option (ℕ × Change)) (l : Local) → Leaves tx l (written u w l)
leaves_written tx u None l = leaves_same tx l
leaves_written tx u (Some w) l = record { stays = still_in l.log _ tx; fades = inl refl }

pub leaves_performed : (tx u : TxId) (birth : Birth) (op : Op) (l : Local) → tx_same tx u ≡ false → Leaves tx l (performed u birth op l)
leaves_performed tx u birth op l o =
    leaves_then tx l (locked u birth op l) (performed u birth op l)
    (record { stays = λ h. h; fades = inl (ap stage_by (other_part u birth l.parts tx (tx_get u l.parts) o)) })
    (leaves_written tx u (writes_of op (value_at (key_of op) l.records)) (locked u birth op l))

pub leaves_reply : (tx u : TxId) (birth : Birth) (seen : Option ℕ) (op : Op) (l : Local) (r : OpReply) → OpIs l u birth seen op r → tx_same tx u ≡ false → is_present (stage_of l tx) ≡ false
    → ((a : _) (m : Local) → r ≡ OpAnswers a m → Leaves tx l m) × ((c : _) (m : Local) → r ≡ OpDies c m → Leaves tx l m)
leaves_reply tx u birth seen op l _ dies o g = (λ a m e. absurd cc, λ c m e. subst (Leaves tx l) (one_after e) (leaves_same tx l))
  where
    one_after : {c d : _} {m k : Local} → OpDies c m ≡ OpDies d k → m ≡ k
    one_after e = cc
leaves_reply tx u birth seen op l _ rolls o g = (λ a m e. absurd cc, λ c m e. subst (Leaves tx l) (one_after e) (leaves_rolled tx u l g))
  where
    one_after : {c d : _} {m k : Local} → OpDies c m ≡ OpDies d k → m ≡ k
    one_after e = cc
leaves_reply tx u birth seen op l _ (performs f e) o g = (λ a m e. subst (Leaves tx l) (one_after e) (leaves_performed tx u birth op l o), λ c m e. absurd cc)
  where
    one_after : {c d : _} {m k : Local} → OpAnswers c m ≡ OpAnswers d k → m ≡ k
    one_after e = cc
leaves_reply tx u birth seen op l _ _ o g = (λ a m e. absurd cc, λ c m e. absurd cc)

pub absent_after : (tx : TxId) (l m : Local) → Leaves tx l m → is_present (stage_of l tx) ≡ false → is_present (stage_of m tx) ≡ false
absent_after tx l m g h = fades_absent (stage_of l tx) (stage_of m tx) g.fades h

-- ---- a state that keeps the row, and leaves the rest so

done_stays : (s t : Shard) (tx : TxId) (q : Request) (st : RequestState) → t.shard ≡ s.shard → Leaves tx s.local t.local → IsDone s tx q st → IsDone t tx q st
done_stays s t tx q Undecided e l d =
    (ap (λ n. others n q.touched) e ∙ d.0, d.1, l.stays d.2, fades_undoomed (stage_of s.local tx) (stage_of t.local tx) l.fades d.3)
done_stays s t tx q (Committed parts) e l d = (l.stays d.0, d.1, d.2)
done_stays s t tx q Finished e l d = d
done_stays s t tx q (Refused c) e l d = d

pub over_stays : (s t : Shard) (tx : TxId) (q : Request) → IsOver s tx q → t.shard ≡ s.shard → Rise (keys_of t.requests) → tx_get tx t.requests ≡ tx_get tx s.requests → Leaves tx s.local t.local → IsOver t tx q
over_stays s t tx q o e h r l = record {
  rises = h;
  kept = r ∙ o.kept;
  is_gone = fades_absent (stage_of s.local tx) (stage_of t.local tx) l.fades o.is_gone;
  is_done = done_stays s t tx q q.state e l o.is_done;
}

-- ---- what is due

reader_leaves : (tx u : TxId) (v : Voter) (x : Vote) (s : Shard) (q : Request) → IsOver s tx q → IsOver (finish_reader u x (with_vote s u v x)) tx q
reader_leaves tx u v Yes s q o = over_stays s _ tx q o refl o.rises refl (leaves_same tx s.local)
reader_leaves tx u v Read s q o = over_stays s _ tx q o refl o.rises refl (leaves_finished tx (u ∷ []) s.local)
reader_leaves tx u v (No why) s q o = over_stays s _ tx q o refl o.rises refl (leaves_same tx s.local)

ruling_leaves : (tx u : TxId) (r : Ruling) (p : Request) (s : Shard) (q : Request) → tx_same tx u ≡ false → IsOver s tx q → IsOver (do_ruling u r (with_ruling u p r s)) tx q
ruling_leaves tx u (CommitVerdict parts) p s q d o = over_stays s _ tx q o refl (set_rises u (ruled_request (CommitVerdict parts) p) s.requests o.rises) (set_other tx u (ruled_request (CommitVerdict parts) p) s.requests d) (leaves_append tx _ s.local)
ruling_leaves tx u Acknowledge p s q d o = over_stays s _ tx q o refl (set_rises u (ruled_request Acknowledge p) s.requests o.rises) (set_other tx u (ruled_request Acknowledge p) s.requests d) (leaves_finished tx (u ∷ []) s.local)
ruling_leaves tx u (AbortVerdict c to) p s q d o = over_stays s _ tx q o refl (set_rises u (ruled_request (AbortVerdict c to) p) s.requests o.rises) (set_other tx u (ruled_request (AbortVerdict c to) p) s.requests d) (leaves_rolled tx u s.local o.is_gone)
ruling_leaves tx u EndVerdict p s q d o = over_stays s _ tx q o refl (set_rises u (ruled_request EndVerdict p) s.requests o.rises) (set_other tx u (ruled_request EndVerdict p) s.requests d) (leaves_append tx _ s.local)

pub due_leaves : (tx : TxId) (q : Request) → KeptByDue (λ s. IsOver s tx q)
due_leaves tx q s _ (commits u c d) o = over_stays s _ tx q o refl o.rises refl (leaves_finished tx (u ∷ []) s.local)
due_leaves tx q s _ (votes u v x g e) o = reader_leaves tx u v x s q o
due_leaves tx q s _ (rules u p r g e) o = ⊎_elim (λ i. absurd (no_own i)) (λ i. ruling_leaves tx u r p s q i o) (cases_Bool (tx_same tx u))
  where
    same_request : {a b : Request} → Some a ≡ Some b → a ≡ b
    same_request z = cc

    none : {X : Type 0} {x : X} → None ≡ Some x → ⊥
    none z = absurd cc

    no_own : tx_same tx u ≡ true → ⊥
    no_own i =
        let same : tx ≡ u = tx_true tx u i in
        let row : q ≡ p = same_request (sym o.kept ∙ ap (λ z. tx_get z s.requests) same ∙ g) in
        none (sym (no_ruling s tx q o) ∙ ap (λ z. ruling_by s.shard z q (facts_of s z)) same ∙ ap (λ z. ruling_by s.shard u z (facts_of s u)) row ∙ e)

pub finished_leaves : (s : Shard) (tx : TxId) (q : Request) → IsOver s tx q → IsOver (finish s) tx q
finished_leaves s tx q o =
    let t = settled (λ z. IsOver z tx q) s (due_leaves tx q) o in
    over_stays (with_due_done s) (finish s) tx q t refl t.rises refl (leaves_purge (with_due_done s).local)
  where
    leaves_purge : (l : Local) → Leaves tx l (purge l)
    leaves_purge l = record { stays = λ h. h; fades = inl refl }

-- ---- one event

not_own_vote : (s : Shard) (tx u : TxId) (from : ℕ) (q p : Request) → IsOver s tx q → tx_get u s.requests ≡ Some p → takes_vote s.shard from p ≡ true → tx_same tx u ≡ false
not_own_vote s tx u from q p o g e = false_from_ne_true _ (λ i. both_ways _ (no_vote s tx q from o) (ap (takes_vote s.shard from) (same_row (sym o.kept ∙ ap (λ z. tx_get z s.requests) (tx_true tx u i) ∙ g)) ∙ e))
  where
    same_row : {a b : Request} → Some a ≡ Some b → a ≡ b
    same_row z = cc

not_own_done : (s : Shard) (tx u : TxId) (from : ℕ) (q p : Request) → IsOver s tx q → tx_get u s.requests ≡ Some p → takes_done from p ≡ true → tx_same tx u ≡ false
not_own_done s tx u from q p o g e = false_from_ne_true _ (λ i. both_ways _ (no_done s tx q from o) (ap (takes_done from) (same_row (sym o.kept ∙ ap (λ z. tx_get z s.requests) (tx_true tx u i) ∙ g)) ∙ e))
  where
    same_row : {a b : Request} → Some a ≡ Some b → a ≡ b
    same_row z = cc

not_here : (l : Local) (tx u : TxId) → is_present (stage_of l tx) ≡ false → stage_of l u ≡ Some Active → tx_same u tx ≡ false
not_here l tx u g a = false_from_ne_true _ (λ i. both_ways _ g (ap is_present (sym (ap (stage_of l) (tx_true u tx i)) ∙ a)))

put_other : (tx u : TxId) (p : Request) (s : Shard) → tx_same tx u ≡ false → tx_get tx (tx_put u p s.requests) ≡ tx_get tx s.requests
put_other tx u p s o = get_put u tx p s.requests ∙ cond-false (tx_same tx u) (Some p) (tx_get tx s.requests) o

pub step_leaves : (s t : Shard) (tx : TxId) (q : Request) {e : Event} {o : Outcome} → Step s e o t → IsOver s tx q → MayCome tx q e → IsOver t tx q
step_leaves s _ tx q (op_dies u birth nth seen op cause l e) o m = over_stays s _ tx q o refl o.rises refl ((leaves_reply tx u birth seen op s.local (OpDies cause l) (reply_is s.shard s.local u birth seen op (OpDies cause l) e) m o.is_gone).1 cause l refl)
step_leaves s _ tx q (op_answers u birth nth seen op answer l e) o m = over_stays s _ tx q o refl o.rises refl ((leaves_reply tx u birth seen op s.local (OpAnswers answer l) (reply_is s.shard s.local u birth seen op (OpAnswers answer l) e) m o.is_gone).0 answer l refl)
step_leaves s _ tx q (rolls_back u nth seen upto f e) o m = over_stays s _ tx q o refl o.rises refl (leaves_back tx u _ s.local)
step_leaves s _ tx q (request_new u ts f e) o m = over_stays s _ tx q o refl (put_rises u _ s.requests o.rises) (put_other tx u _ s m) (leaves_same tx s.local)
step_leaves s _ tx q (request_closes u ts f e) o m =
    over_stays s _ tx q o refl (put_rises u _ s.requests o.rises) (put_other tx u _ s m) (leaves_closed tx u s.shard _ s.local (not_here s.local tx u o.is_gone e))
step_leaves s _ tx q (drops u stage e) o m = over_stays s _ tx q o refl o.rises refl (leaves_dropped tx u s.local o.is_gone)
step_leaves s _ tx q (prepare_closes u home seen stamp e) o m = over_stays s _ tx q o refl o.rises refl (leaves_closed tx u home false s.local (not_here s.local tx u o.is_gone e))
step_leaves s _ tx q (vote_counts u from vote stamp p g e) o m = over_stays s _ tx q o refl (set_rises u _ s.requests o.rises) (set_other tx u _ s.requests (not_own_vote s tx u from q p o g e)) (leaves_same tx s.local)
step_leaves s _ tx q (decision_comes u home true stamp e) o m = over_stays s _ tx q o refl o.rises refl (leaves_append tx _ s.local)
step_leaves s _ tx q (decision_comes u home false stamp e) o m = over_stays s _ tx q o refl o.rises refl (leaves_rolled tx u s.local o.is_gone)
step_leaves s _ tx q (done_counts u from stamp p g e) o m = over_stays s _ tx q o refl (set_rises u _ s.requests o.rises) (set_other tx u _ s.requests (not_own_done s tx u from q p o g e)) (leaves_same tx s.local)
step_leaves s _ tx q _ o m = over_stays s _ tx q o refl o.rises refl (leaves_same tx s.local)

happens_leaves : (s t : Shard) (tx : TxId) (q : Request) {e : Event} {o : Outcome} → Happens s e o t → IsOver s tx q → MayCome tx q e → IsOver t tx q
happens_leaves s _ tx q (finishes {t = u} up g) o m = finished_leaves u tx q (step_leaves s u tx q g o m)
happens_leaves s _ tx q (stops up) o m = over_stays s _ tx q o refl o.rises refl (leaves_same tx s.local)

pub over_stays_over : OverStaysOver
over_stays_over s t tx q e o over may h = happens_leaves s t tx q (happened s t e o h) over may
