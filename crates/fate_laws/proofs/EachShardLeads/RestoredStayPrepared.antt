-- A part that a restart brought back is prepared in the log.
use Rattle.std.proofs.Common.{◌≡◌, ◌⊎◌, inl, inr, ⊎_elim, refl, sym, subst, ◌∙◌, ℕ, true, false, cond, Bool, List, [], ◌∷◌, map, Option, Some, None, ◌||◌}
use Rattle.std.specs.List.{AllByRecursion}
use Rattle.std.proofs.lemmas.Bool.{both_ways, or_left, or_right}
use Rattle.std.proofs.lemmas.List.Folds.{list_any-append}
use Rattle.clv_base.specs.declared.names.TxId.{TxId}
use Rattle.clv_base.specs.declared.names.Birth.{Birth}
use Rattle.clv_base.specs.declared.ops.Op.{Op}
use Rattle.clv_base.specs.declared.ops.Answer.{Answer}
use Rattle.clv_base.specs.declared.causes.AbortCause.{AbortCause}
use Rattle.clv_base.specs.declared.causes.Vote.{Vote}
use Rattle.clv_base.specs.declared.causes.Vote.TheVariants.{Yes, Read, No}
use Rattle.clv_base.specs.declared.logs.LogRecord.{LogRecord}
use Rattle.clv_base.specs.declared.logs.LogRecord.TheVariants.{Update, Clr, Prepare as PrepareRecord, Commit, Abort, End, Restart as RestartRecord, Add, Unadd, Forgotten, Check}
use Rattle.clv_base.specs.declared.state.Held.{Held}
use Rattle.clv_base.specs.declared.state.Voter.{Voter}
use Rattle.clv_base.specs.declared.state.Request.{Request}
use Rattle.clv_base.specs.declared.state.Ruling.{Ruling}
use Rattle.clv_base.specs.declared.state.Ruling.TheVariants.{Commit as CommitVerdict, Acknowledge, Abort as AbortVerdict, End as EndVerdict}
use Rattle.clv_base.specs.declared.events.Event.{Event}
use Rattle.clv_base.specs.declared.events.Outcome.{Outcome}
use Rattle.clv_base.specs.Orders.{Table, tx_in, tx_same, tx_get, tx_insert}
use Rattle.clv_base.specs.declared.changes.Change.{Change}
use Rattle.clv_base.specs.Logs.{prepared_in, is_prepare_of, doubt_by, in_doubt_from, in_doubt}
use Rattle.clv_base.specs.State.{Shard, Local, is_present}
use Rattle.clv_base.specs.Undo.{stage_of, gone_part, gone_in, doomed_here, roll_back}
use Rattle.clv_base.specs.Needs.{writes_of, value_at, key_of}
use Rattle.clv_base.specs.OneShard.{OpDies, OpAnswers, active_part, new_part, locked, written, closed_part, rolled_back_if, dropped_part}
use Rattle.clv_base.specs.Due.{finish_reader, with_vote, do_ruling, with_ruling}
use Rattle.clv_base.specs.Events.{Reply, Does, finish, landed}
use Rattle.clv_base.specs.Restarts.{restored_parts, log_after_restart}
use Rattle.clv_base.proofs.SameNames.{tx_self, in_insert}
use Rattle.law_base.proofs.Lists.{all_mono}
use Rattle.law_base.proofs.Rows.{rows_put}
use Rattle.protocol_laws.specs.Growth.{IsPrefixOf}
use Rattle.protocol_laws.proofs.LogOnlyGrows.DueGrowsLogs.{more, more_twice}
use Rattle.history_cases.proofs.Stepping.{commits, votes, rules, KeptByDue, settled, Step, op_dies, op_answers, rolls_back, request_closes, drops, prepare_closes, decision_comes, Happens, finishes, stops, happened}
use Rattle.history_laws.proofs.Entries.WhatOperationsDo.{OpIs, dies, rolls, performs, reply_is}
use Rattle.shard_laws.specs.OneShard.{Deeds, Leads, opens, happens, lands, others_ask, revives}

-- ---- rows of parts

abbrev Row : List LogRecord → TxId × Held → Type 0
Row log r = (r.1).is_restored ≡ true → prepared_in log r.0 ≡ true

abbrev Rows : List LogRecord → Table Held → Type 0
Rows log parts = AllByRecursion (Row log) parts

abbrev pub RestoredArePrepared : Local → Type 0
RestoredArePrepared l = AllByRecursion (λ r. (r.1).is_restored ≡ true → prepared_in l.log r.0 ≡ true) l.parts

grown : (xs ys : List LogRecord) (parts : Table Held) → IsPrefixOf xs ys → Rows xs parts → Rows ys parts
grown xs ys parts p a =
    all_mono (Row xs) (Row ys) (λ r k e. subst (λ l. prepared_in l r.0 ≡ true) p.1 (list_any-append (is_prepare_of r.0) xs p.0 ∙ or_left (prepared_in xs r.0) (prepared_in p.0 r.0) (k e))) parts a

changed : (log : List LogRecord) (test : TxId → Bool) (f : Held → Held) (parts : Table Held) → ((h : Held) → (f h).is_restored ≡ h.is_restored) → Rows log parts → Rows log (map (λ p. (p.0, cond (test p.0) (f p.1) p.1)) parts)
changed log test f [] k a = tt
changed log test f (r ∷ rs) k a = (at (test r.0), changed log test f rs k a.1)
  where
    at : (b : Bool) → Row log (r.0, cond b (f r.1) r.1)
    at true e = a.0 (sym (k r.1) ∙ e)
    at false e = a.0 e

gone : (log : List LogRecord) (set : List TxId) (d : Option TxId) (parts : Table Held) → Rows log parts → Rows log (gone_in set d parts)
gone log set d parts a = changed log (λ t. tx_in t set) (gone_part d) parts (λ h. refl) a

closes : (log : List LogRecord) (tx : TxId) (parts : Table Held) → Rows log parts → Rows log (map (λ p. (p.0, cond (tx_same tx p.0) (closed_part p.1) p.1)) parts)
closes log tx parts a = changed log (λ t. tx_same tx t) closed_part parts (λ h. refl) a

marks : (log : List LogRecord) (tx : TxId) (parts : Table Held) → Rows log parts → Rows log (map (λ p. (p.0, cond (tx_same tx p.0) (dropped_part p.1) p.1)) parts)
marks log tx parts a = changed log (λ t. tx_same tx t) dropped_part parts (λ h. refl) a

-- ---- what is due

rolled : (l : Local) (tx : TxId) → RestoredArePrepared l → RestoredArePrepared (roll_back tx l)
rolled l tx a = gone (roll_back tx l).log (doomed_here l tx) (Some tx) l.parts (grown l.log (roll_back tx l).log l.parts (more_twice l.log _ _) a)

reader : (s : Shard) (tx : TxId) (v : Voter) (vote : Vote) → RestoredArePrepared s.local → RestoredArePrepared (finish_reader tx vote (with_vote s tx v vote)).local
reader s tx v Yes a = a
reader s tx v Read a = gone s.local.log (tx ∷ []) None s.local.parts a
reader s tx v (No why) a = a

ruling : (s : Shard) (tx : TxId) (q : Request) (r : Ruling) → RestoredArePrepared s.local → RestoredArePrepared (do_ruling tx r (with_ruling tx q r s)).local
ruling s tx q (CommitVerdict ps) a = grown s.local.log _ s.local.parts (more s.local.log _) a
ruling s tx q Acknowledge a = gone s.local.log (tx ∷ []) None s.local.parts a
ruling s tx q (AbortVerdict c to) a = rolled s.local tx a
ruling s tx q EndVerdict a = grown s.local.log _ s.local.parts (more s.local.log _) a

due : KeptByDue (λ s. RestoredArePrepared s.local)
due s _ (commits tx c d) a = gone s.local.log (tx ∷ []) None s.local.parts a
due s _ (votes tx v vote g e) a = reader s tx v vote a
due s _ (rules tx q r g e) a = ruling s tx q r a

finished : (s : Shard) → RestoredArePrepared s.local → RestoredArePrepared (finish s).local
finished s a = settled (λ t. RestoredArePrepared t.local) s due a

-- ---- each event

died : (l m : Local) (tx : TxId) (birth : Birth) (seen : Option ℕ) (op : Op) (c : AbortCause) → OpIs l tx birth seen op (OpDies c m) → RestoredArePrepared l → RestoredArePrepared m
died l _ tx birth seen op c dies a = a
died l _ tx birth seen op c rolls a = rolled l tx a

put : (log : List LogRecord) (tx : TxId) (birth : Birth) (parts : Table Held) → Rows log parts → Rows log (new_part tx birth (tx_get tx parts) parts)
put log tx birth parts a = at (tx_get tx parts)
  where
    at : (o : Option Held) → Rows log (new_part tx birth o parts)
    at None = rows_put (Row log) tx (active_part birth) parts (λ e. absurd (both_ways false refl e)) a
    at (Some h) = a

wrote : (l : Local) (tx : TxId) (w : Option (ℕ × Change)) → RestoredArePrepared l → RestoredArePrepared (written tx w l)
wrote l tx None a = a
wrote l tx (Some w) a = grown l.log _ l.parts (more l.log _) a

answered : (l m : Local) (tx : TxId) (birth : Birth) (seen : Option ℕ) (op : Op) (x : Answer) → OpIs l tx birth seen op (OpAnswers x m) → RestoredArePrepared l → RestoredArePrepared m
answered l _ tx birth seen op _ (performs f e) a = wrote (locked tx birth op l) tx (writes_of op (value_at (key_of op) l.records)) (put l.log tx birth l.parts a)

rolled_if : (l : Local) (tx : TxId) (b : Bool) → RestoredArePrepared l → RestoredArePrepared (rolled_back_if b tx l)
rolled_if l tx true a = rolled l tx a
rolled_if l tx false a = a

step : (s t : Shard) {e : Event} {o : Outcome} → Step s e o t → RestoredArePrepared s.local → RestoredArePrepared t.local
step s _ (op_dies tx birth nth seen op cause l h) a = died s.local l tx birth seen op cause (reply_is s.shard s.local tx birth seen op _ h) a
step s _ (op_answers tx birth nth seen op x l h) a = answered s.local l tx birth seen op x (reply_is s.shard s.local tx birth seen op _ h) a
step s _ (rolls_back tx nth seen upto f h) a = grown s.local.log _ s.local.parts (more s.local.log _) a
step s _ (request_closes tx ts f h) a = grown s.local.log _ _ (more s.local.log _) (closes s.local.log tx s.local.parts a)
step s _ (drops tx stage h) a = let r = rolled_if s.local tx (is_present (stage_of s.local tx)) a in marks (rolled_back_if (is_present (stage_of s.local tx)) tx s.local).log tx (rolled_back_if (is_present (stage_of s.local tx)) tx s.local).parts r
step s _ (prepare_closes tx home seen stamp h) a = grown s.local.log _ _ (more s.local.log _) (closes s.local.log tx s.local.parts a)
step s _ (decision_comes tx home true stamp h) a = grown s.local.log _ s.local.parts (more s.local.log _) a
step s _ (decision_comes tx home false stamp h) a = rolled s.local tx a
step s _ _ a = a

event : (s t : Shard) {e : Event} {o : Outcome} → Happens s e o t → RestoredArePrepared s.local → RestoredArePrepared t.local
event s _ (finishes {t = t} u g) a = finished t (step s t g a)
event s _ (stops u) a = a

-- ---- a flush's end and a restart

data After : Reply → Type 0 where
  after : {o : Outcome} {t : Shard} → RestoredArePrepared t.local → After (Does o t)

flushed : (s : Shard) (n : ℕ) (b : Bool) → RestoredArePrepared s.local → After (landed s n b)
flushed s n true a = after (finished _ a)
flushed s n false a = after a

from_after : (o : Outcome) (t : Shard) → After (Does o t) → RestoredArePrepared t.local
from_after o t (after a) = a

-- who is in doubt has a PREPARE
doubt_case : (b : Bool) (tx t : TxId) (rs : List LogRecord) (sf : List TxId) → (tx_in t (cond b (tx_insert tx sf) sf) ≡ true) ⊎ (prepared_in rs t ≡ true) → (tx_in t sf ≡ true) ⊎ ((tx_same t tx || prepared_in rs t) ≡ true)
doubt_case true tx t rs sf (inl i) = ⊎_elim (λ e. inr (or_left (tx_same t tx) (prepared_in rs t) (subst (λ u. tx_same t u ≡ true) e (tx_self t)))) (λ j. inl j) (in_insert tx t sf i)
doubt_case false tx t rs sf (inl i) = inl i
doubt_case b tx t rs sf (inr p) = inr (or_right (tx_same t tx) (prepared_in rs t) p)

doubts : (log : List LogRecord) (shard : ℕ) (rs : List LogRecord) (sf : List TxId) (t : TxId) → tx_in t (in_doubt_from log shard rs sf) ≡ true → (tx_in t sf ≡ true) ⊎ (prepared_in rs t ≡ true)
doubts log shard [] sf t i = inl i
doubts log shard (PrepareRecord tx home ps ∷ rs) sf t i = doubt_case (doubt_by log shard tx home ps sf) tx t rs sf (doubts log shard rs _ t i)
doubts log shard (Update tx b c x ∷ rs) sf t i = doubts log shard rs sf t i
doubts log shard (Clr tx b c x ∷ rs) sf t i = doubts log shard rs sf t i
doubts log shard (Commit tx ps ∷ rs) sf t i = doubts log shard rs sf t i
doubts log shard (Abort tx ∷ rs) sf t i = doubts log shard rs sf t i
doubts log shard (End tx ∷ rs) sf t i = doubts log shard rs sf t i
doubts log shard (RestartRecord run epoch ∷ rs) sf t i = doubts log shard rs sf t i
doubts log shard (Add tx b by ∷ rs) sf t i = doubts log shard rs sf t i
doubts log shard (Unadd tx b c by ∷ rs) sf t i = doubts log shard rs sf t i
doubts log shard (Forgotten ∷ rs) sf t i = doubts log shard rs sf t i
doubts log shard (Check run' epoch' upto base ∷ rs) sf t i = doubts log shard rs sf t i

restored_rows : (log : List LogRecord) (doubt : List TxId) → ((t : TxId) → tx_in t doubt ≡ true → prepared_in log t ≡ true) → Rows log (restored_parts doubt)
restored_rows log [] k = tt
restored_rows log (t ∷ ts) k = ((λ e. k t (or_left (tx_same t t) (tx_in t ts) (tx_self t))), restored_rows log ts (λ u i. k u (or_right (tx_same t u) (tx_in u ts) i)))

doubted_rows : (shard : ℕ) (log : List LogRecord) → Rows log (restored_parts (in_doubt shard log))
doubted_rows shard log = restored_rows log (in_doubt shard log) (λ t i. ⊎_elim (λ j. absurd (both_ways false refl j)) (λ p. p) (doubts log shard log [] t i))

pub restored_prepared : (shard run : ℕ) (before : List LogRecord) (d : Deeds) (s : Shard) → Leads shard run before d s → RestoredArePrepared s.local
restored_prepared shard run before _ _ (opens may) = doubted_rows shard (log_after_restart shard before run 0)
restored_prepared shard run before _ _ (happens {d} {s} e o t stamp walker leads may eq) = event s t (happened s t e o eq) (restored_prepared shard run before d s leads)
restored_prepared shard run before _ _ (lands {d} {s} n pushed o t stamp walker leads flies eq) = from_after o t (subst After eq (flushed s n pushed (restored_prepared shard run before d s leads)))
restored_prepared shard run before _ _ (others_ask {d} {s} t leads new) = restored_prepared shard run before d s leads
restored_prepared shard run before _ _ (revives {d} {s} kept epoch log stamp walker leads down fits) = doubted_rows s.shard log
