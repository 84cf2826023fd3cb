-- Who is in doubt in a log that goes on from the one that a shard opened was so in the one found; and who has a part or a PREPARE on a shard,
-- kept by each of its events.
use Rattle.std.proofs.Common.{◌≡◌, ⊎_elim, refl, sym, ap, subst, ◌∙◌, ℕ, Bool, true, false, cond, not, ◌||◌, List, [], ◌∷◌, ◌++◌, map, Option, Some, None, append_assoc}
use Rattle.std.specs.Prelude.{⊤, take}
use Rattle.std.specs.List.{AllByRecursion, filter}
use Rattle.std.proofs.lemmas.Bool.{both_ways, or_left, or_right, or_cases, false_from_ne_true}
use Rattle.std.proofs.lemmas.List.Folds.{list_any-append}
use Rattle.clv_base.specs.declared.names.TxId.{TxId}
use Rattle.clv_base.specs.declared.names.Birth.{Birth}
use Rattle.clv_base.specs.declared.ops.Op.{Op}
use Rattle.clv_base.specs.declared.ops.Answer.{Answer}
use Rattle.clv_base.specs.declared.causes.AbortCause.{AbortCause}
use Rattle.clv_base.specs.declared.causes.Vote.{Vote}
use Rattle.clv_base.specs.declared.causes.Vote.TheVariants.{Yes, Read, No}
use Rattle.clv_base.specs.declared.logs.LogRecord.{LogRecord}
use Rattle.clv_base.specs.declared.logs.LogRecord.TheVariants.{Update, Commit, Abort, End, Restart, Add}
use Rattle.clv_base.specs.declared.state.Stage.{Stage}
use Rattle.clv_base.specs.declared.state.Stage.TheVariants.{Active}
use Rattle.clv_base.specs.declared.state.Held.{Held}
use Rattle.clv_base.specs.declared.state.Ruling.{Ruling}
use Rattle.clv_base.specs.declared.state.Ruling.TheVariants.{Commit as CommitVerdict, Acknowledge, Abort as AbortVerdict, End as EndVerdict}
use Rattle.clv_base.specs.declared.events.Event.{Event}
use Rattle.clv_base.specs.declared.events.Event.TheVariants.{Op as OpEvent}
use Rattle.clv_base.specs.declared.events.Outcome.{Outcome}
use Rattle.clv_base.specs.declared.events.Outcome.TheVariants.{Answered}
use Rattle.clv_base.specs.Orders.{Table, tx_same, tx_in, tx_get}
use Rattle.clv_base.specs.declared.changes.Change.{Change}
use Rattle.clv_base.specs.declared.changes.Change.TheVariants.{Sets, Adds}
use Rattle.clv_base.specs.Logs.{standing, writers, is_abort_of, has_standing, committed_in, aborted_in, prepared_in, in_doubt, is_winner}
use Rattle.clv_base.specs.Needs.{writes_of, value_at, key_of}
use Rattle.clv_base.specs.State.{Shard, Local, with_local, is_present}
use Rattle.clv_base.specs.Undo.{stage_of, aborts_of, clrs_by, clrs_of, newest_lsns, is_at, gone_part, doomed_here, roll_back, roll_to}
use Rattle.clv_base.specs.Backs.{standing_numbers, count_after}
use Rattle.clv_base.specs.Facts.{undecided_of}
use Rattle.clv_base.specs.OneShard.{OpDies, OpAnswers, active_part, new_part, written, locked, performed, rolled_back_if, without_part, closing, closed_part, close_part, dropped_part, mark_dropped, drop_part}
use Rattle.clv_base.specs.Due.{finish_part, finish_reader, with_vote, do_ruling, with_ruling}
use Rattle.clv_base.specs.Events.{finish, is_alone, decided, with_durable, put_down}
use Rattle.clv_base.specs.Coordinator.{others}
use Rattle.clv_base.specs.Restarts.{losers, undo_records, restart_records, log_after_restart, next_epoch, log_left, restored_parts, opened, revived, FailedRestarts, untouched, failed_first, Restarts}
use Rattle.clv_base.proofs.SameNames.{tx_true, tx_self, tx_flip}
use Rattle.law_base.proofs.Changed.{none_some}
use Rattle.law_base.proofs.Logs.{clrs_undo_by}
use Rattle.law_base.proofs.Rows.{rows_get, rows_put}
use Rattle.law_base.proofs.Tables.{stage_by}
use Rattle.law_base.proofs.Sets.{filter_in}
use Rattle.law_base.proofs.Stages.{written_parts}
use Rattle.protocol_laws.specs.Growth.{IsPrefixOf}
use Rattle.protocol_laws.proofs.LogOnlyGrows.DueGrowsLogs.{chain, more}
use Rattle.shard_laws.proofs.Cuts.WhoIsInDoubt.{prepared_cut}
use Rattle.clv_base.specs.LogRules.{disorder}
use Rattle.shard_laws.proofs.Keeping.RecordsOfAnUndo.{no_prepares, undo_prepares}
use Rattle.shard_laws.proofs.Order.WhoseWritesStand.{has_writer, open_stands}
use Rattle.shard_laws.proofs.Keeping.ChangesKeepPrepared.{prepared_append, prepared_from}
use Rattle.shard_laws.proofs.Restarts.WinnersKeepTheirWrites.{none_prepare, plain_restart}
use Rattle.history_laws.proofs.NeverTakenBack.LaterHistoriesHoldMembers.{committed_front}
use Rattle.history_cases.proofs.Stepping.{commits, votes, rules, KeptByDue, settled, with_work, Step, op_dies, op_answers, rolls_back, request_refused, request_doomed, request_again, request_closes, looks_well, looks_ill, drops, prepare_closes, decision_comes, Happens, finishes, stops}
use Rattle.history_laws.proofs.Entries.WhatOperationsDo.{OpIs, dies, rolls, performs, reply_is}
use Rattle.history_laws.proofs.Logs.DoubtedAreUndecided.{doubt_undecided}

-- ---- who is prepared in the log found is committed or in doubt there, or aborted when the shard has opened

aborted_append : (xs ys : List LogRecord) (t : TxId) → aborted_in (xs ++ ys) t ≡ (aborted_in xs t || aborted_in ys t)
aborted_append xs ys t = list_any-append (is_abort_of t) xs ys

pub aborted_front : (xs ys : List LogRecord) (t : TxId) → IsPrefixOf xs ys → aborted_in xs t ≡ true → aborted_in ys t ≡ true
aborted_front xs ys t (rest, e) a = subst (λ z. aborted_in z t ≡ true) e (aborted_append xs rest t ∙ or_left _ _ a)

abort_there : (ts : List TxId) (t : TxId) → tx_in t ts ≡ true → aborted_in (map (λ u. Abort u) ts) t ≡ true
abort_there [] t i = absurd (both_ways false refl i)
abort_there (u ∷ us) t i = ⊎_elim (λ e. or_left (tx_same t u) _ (tx_flip u t e)) (λ j. or_right (tx_same t u) _ (abort_there us t j)) (or_cases (tx_same u t) (tx_in t us) i)

still_aborted : (shard : ℕ) (log : List LogRecord) (run epoch : ℕ) (t : TxId) → aborted_in log t ≡ true → aborted_in (log_after_restart shard log run epoch) t ≡ true
still_aborted shard log run epoch t a = aborted_append log (restart_records shard log run epoch) t ∙ or_left _ _ a

loser_aborted : (shard : ℕ) (log : List LogRecord) (run epoch : ℕ) (t : TxId) → tx_in t (losers shard log) ≡ true → aborted_in (log_after_restart shard log run epoch) t ≡ true
loser_aborted shard log run epoch t i = at (aborted_in log t) refl
  where
    at : (b : Bool) → aborted_in log t ≡ b → aborted_in (log_after_restart shard log run epoch) t ≡ true
    at true e = still_aborted shard log run epoch t e
    at false e =
        let ts = filter (λ u. not (aborted_in log u)) (losers shard log) in
        let as_ = map (λ u. Abort u) ts in
        let cs = clrs_of (losers shard log) (standing log) in
        aborted_append log (restart_records shard log run epoch) t
        ∙ or_right (aborted_in log t) _ (aborted_append (undo_records shard log) (Restart run epoch ∷ []) t
        ∙ or_left _ _ (aborted_append as_ cs t ∙ or_left _ _ (abort_there ts t (filter_in (λ u. not (aborted_in log u)) t (losers shard log) i (ap not e)))))

was_in_doubt : (shard : ℕ) (log : List LogRecord) (run epoch : ℕ) (t : TxId) → disorder shard log ≡ None → prepared_in log t ≡ true → committed_in log t ≡ false → aborted_in (log_after_restart shard log run epoch) t ≡ false → tx_in t (in_doubt shard log) ≡ true
was_in_doubt shard log run epoch t f p c a = at (tx_in t (in_doubt shard log)) refl
  where
    loses : tx_in t (in_doubt shard log) ≡ false → tx_in t (writers (standing log)) ≡ true → tx_in t (losers shard log) ≡ true
    loses d w = filter_in (λ u. not (is_winner shard log u)) t (writers (standing log)) w (ap not (ap (λ b. b || tx_in t (in_doubt shard log)) c ∙ d))

    at : (b : Bool) → tx_in t (in_doubt shard log) ≡ b → tx_in t (in_doubt shard log) ≡ true
    at true d = d
    at false d =
        absurd (both_ways _ a (⊎_elim (λ h. loser_aborted shard log run epoch t (loses d (has_writer t (standing log) h))) (λ u. still_aborted shard log run epoch t u)
        (open_stands shard log f t p c)))

-- who is in doubt in a log that goes on from the one that the shard opened, and was prepared in the one found, was in doubt there
pub doubt_found : (shard : ℕ) (found log : List LogRecord) (run epoch : ℕ) (t : TxId) → disorder shard found ≡ None → IsPrefixOf (log_after_restart shard found run epoch) log → tx_in t (in_doubt shard log) ≡ true → prepared_in found t ≡ true → tx_in t (in_doubt shard found) ≡ true
doubt_found shard found log run epoch t f k i p =
    let u = doubt_undecided shard log t i in
    let begun = chain found (log_after_restart shard found run epoch) log (more found (restart_records shard found run epoch)) k in
    was_in_doubt shard found run epoch t f p (false_from_ne_true _ (λ c. both_ways _ u.1 (committed_front found log t begun c))) (false_from_ne_true _ (λ a. both_ways _ u.2 (aborted_front (log_after_restart shard found run epoch) log t k a)))

-- ---- no restart prepares

unprepared_restart : (shard : ℕ) (log : List LogRecord) (run epoch : ℕ) (t : TxId) → prepared_in (restart_records shard log run epoch) t ≡ false
unprepared_restart shard log run epoch t = none_prepare shard log (restart_records shard log run epoch) t (plain_restart shard log run epoch)

pub opening_prepares : (shard : ℕ) (log : List LogRecord) (run epoch : ℕ) (t : TxId) → prepared_in (log_after_restart shard log run epoch) t ≡ true → prepared_in log t ≡ true
opening_prepares shard log run epoch t e = prepared_from log (restart_records shard log run epoch) t (unprepared_restart shard log run epoch t) e

failed_prepares : (s : Shard) (found left : List LogRecord) (t : TxId) → FailedRestarts s found left → prepared_in left t ≡ true → prepared_in found t ≡ true
failed_prepares s found _ t untouched e = e
failed_prepares s found left t (failed_first n f) e =
    let rs = restart_records s.shard found s.run (next_epoch s found) in
    prepared_from found (take n rs) t (false_from_ne_true _ (λ p. both_ways _ (unprepared_restart s.shard found s.run (next_epoch s found) t) (prepared_cut n rs t p))) (failed_prepares s (found ++ take n rs) left t f e)

restarts_prepare : (s : Shard) (found : List LogRecord) (epoch : ℕ) (after : List LogRecord) (t : TxId) → Restarts s found epoch after → prepared_in after t ≡ true → prepared_in found t ≡ true
restarts_prepare s found epoch after t (left, f, q, a) e = failed_prepares s found left t f (opening_prepares s.shard left s.run epoch t (subst (λ l. prepared_in l t ≡ true) a e))

-- ---- who has a part is of these, and who has a PREPARE of those

abbrev pub Keys : (TxId → Type 0) → Table Held → Type 0
Keys P parts = AllByRecursion (λ (x : TxId × Held). P x.0) parts

pub record Has (P G : TxId → Type 0) (s : Shard) : Type 0 where
  pub parts : Keys P s.local.parts
  pub prepared : (t : TxId) → prepared_in s.local.log t ≡ true → G t

same_keys : (P : TxId → Type 0) (change : TxId × Held → Held) (parts : Table Held) → Keys P parts → Keys P (map (λ x. (x.0, change x)) parts)
same_keys P change [] a = tt
same_keys P change (x ∷ xs) a = (a.0, same_keys P change xs a.1)

-- the same but for what is around
pub has_as : (P G : TxId → Type 0) (s t : Shard) → t.local ≡ s.local → Has P G s → Has P G t
has_as P G s t e k = record { parts = subst (λ (l : Local). Keys P l.parts) (sym e) k.parts; prepared = subst (λ (l : Local). (u : TxId) → prepared_in l.log u ≡ true → G u) (sym e) k.prepared }

has_rolled : (P G : TxId → Type 0) (s : Shard) (tx : TxId) → Has P G s → Has P G (with_local (roll_back tx) s)
has_rolled P G s tx k =
    let set = doomed_here s.local tx in
    let log = s.local.log in
    let as_ = aborts_of log set in
    let cs = clrs_of set (standing log) in
    record {
      parts = same_keys P (λ x. cond (tx_in x.0 set) (gone_part (Some tx) x.1) x.1) s.local.parts k.parts;
      prepared = λ t e. k.prepared t (prepared_from log (as_ ++ cs) t (no_prepares set t log) (subst (λ l. prepared_in l t ≡ true) (append_assoc log as_ cs) e));
    }

has_back : (P G : TxId → Type 0) (s : Shard) (tx : TxId) (i : ℕ) → Has P G s → Has P G (with_local (roll_to tx i) s)
has_back P G s tx i k =
    let ws = standing s.local.log in
    let gone = is_at (newest_lsns i tx ws) in
    record { parts = k.parts; prepared = λ t e. k.prepared t (prepared_from s.local.log (clrs_by gone ws) t (undo_prepares t (clrs_by gone ws) (clrs_undo_by gone ws)) e) }

has_finished : (P G : TxId → Type 0) (s : Shard) (tx : TxId) → Has P G s → Has P G (finish_part tx s)
has_finished P G s tx k = record { parts = same_keys P (λ x. cond (tx_in x.0 (tx ∷ [])) (gone_part None x.1) x.1) s.local.parts k.parts; prepared = k.prepared }

has_push : (P G : TxId → Type 0) (s : Shard) (r : LogRecord) → ((t : TxId) → prepared_in (r ∷ []) t ≡ false) → Has P G s → Has P G (record s { local = record s.local { log = s.local.log ++ r ∷ [] } })
has_push P G s r none k = record { parts = k.parts; prepared = λ t e. k.prepared t (prepared_from s.local.log (r ∷ []) t (none t) e) }

-- ---- what is due

has_ruling : (P G : TxId → Type 0) (s : Shard) (tx : TxId) (r : Ruling) → Has P G s → Has P G (do_ruling tx r s)
has_ruling P G s tx (CommitVerdict parts) k = has_push P G s (Commit tx parts) (λ t. refl) k
has_ruling P G s tx Acknowledge k = has_finished P G s tx k
has_ruling P G s tx (AbortVerdict cause to) k = has_as P G (with_local (roll_back tx) s) _ refl (has_rolled P G s tx k)
has_ruling P G s tx EndVerdict k = has_push P G s (End tx) (λ t. refl) k

has_reader : (P G : TxId → Type 0) (s : Shard) (tx : TxId) (vote : Vote) → Has P G s → Has P G (finish_reader tx vote s)
has_reader P G s tx Yes k = k
has_reader P G s tx Read k = has_finished P G s tx k
has_reader P G s tx (No why) k = k

has_due : (P G : TxId → Type 0) → KeptByDue (Has P G)
has_due P G s _ (commits tx c d) k = has_as P G (finish_part tx s) _ refl (has_finished P G s tx k)
has_due P G s _ (votes tx v vote g e) k = has_reader P G (with_vote s tx v vote) tx vote (has_as P G s (with_vote s tx v vote) refl k)
has_due P G s _ (rules tx q r g e) k = has_ruling P G (with_ruling tx q r s) tx r (has_as P G s (with_ruling tx q r s) refl k)

has_finish : (P G : TxId → Type 0) (s : Shard) → Has P G s → Has P G (finish s)
has_finish P G s k = let q = settled (Has P G) s (has_due P G) k in record { parts = q.parts; prepared = q.prepared }

-- ---- an operation

new_row : (P : TxId → Type 0) (tx : TxId) (birth : Birth) (o : Option Held) (parts : Table Held) → P tx → Keys P parts → Keys P (new_part tx birth o parts)
new_row P tx birth None parts p a = rows_put (λ x. P x.0) tx (active_part birth) parts p a
new_row P tx birth (Some h) parts p a = a

written_prepares : (tx : TxId) (w : Option (ℕ × Change)) (l : Local) (t : TxId) → prepared_in (written tx w l).log t ≡ true → prepared_in l.log t ≡ true
written_prepares tx None l t e = e
written_prepares tx (Some (key, Sets before after)) l t e = prepared_from l.log (Update tx key before after ∷ []) t refl e
written_prepares tx (Some (key, Adds by)) l t e = prepared_from l.log (Add tx key by ∷ []) t refl e

has_performed : (P G : TxId → Type 0) (s : Shard) (tx : TxId) (birth : Birth) (op : Op) → P tx → Has P G s → Has P G (with_work (performed tx birth op s.local) s)
has_performed P G s tx birth op p k =
    let w = writes_of op (value_at (key_of op) s.local.records) in
    let l = locked tx birth op s.local in
    record {
      parts = subst (Keys P) (sym (written_parts tx w l)) (new_row P tx birth (tx_get tx s.local.parts) s.local.parts p k.parts);
      prepared = λ t e. k.prepared t (written_prepares tx w l t e);
    }

-- ---- closing a part

own_record : (tx t : TxId) → (tx_same t tx || false) ≡ true → t ≡ tx
own_record tx t e = ⊎_elim (λ s. tx_true t tx s) (λ f. absurd (both_ways false refl f)) (or_cases (tx_same t tx) false e)

closing_prepares : (b one : Bool) (tx : TxId) (home : ℕ) (us : List TxId) (t : TxId) → prepared_in (closing b one tx home us) t ≡ true → t ≡ tx
closing_prepares false one tx home us t e = absurd (both_ways false refl e)
closing_prepares true true tx home [] t e = absurd (both_ways false refl e)
closing_prepares true true tx home (u ∷ us) t e = own_record tx t e
closing_prepares true false tx home us t e = own_record tx t e

-- who has a part of some stage is of these
pub has_stage : (P G : TxId → Type 0) (s : Shard) (t : TxId) (st : Stage) → Has P G s → stage_of s.local t ≡ Some st → P t
has_stage P G s t st k e = at (tx_get t s.local.parts) refl e
  where
    at : (o : Option Held) → tx_get t s.local.parts ≡ o → stage_by o ≡ Some st → P t
    at None g f = absurd (none_some st f)
    at (Some h) g f = rows_get (λ x. P x.0) t h s.local.parts k.parts g

has_close : (P G : TxId → Type 0) → ((t : TxId) → P t → G t) → (s : Shard) (tx : TxId) (home : ℕ) (one : Bool) → stage_of s.local tx ≡ Some Active → Has P G s → Has P G (with_local (close_part tx home one) s)
has_close P G pg s tx home one a k =
    let log = s.local.log in
    let rs = closing (has_standing log tx) one tx home (undecided_of s.local tx) in
    record {
      parts = same_keys P (λ x. cond (tx_same tx x.0) (closed_part x.1) x.1) s.local.parts k.parts;
      prepared = λ t e.
          ⊎_elim (λ p. k.prepared t p) (λ p. subst G (sym (closing_prepares (has_standing log tx) one tx home (undecided_of s.local tx) t p)) (pg tx (has_stage P G s tx Active k a)))
          (or_cases (prepared_in log t) (prepared_in rs t) (sym (prepared_append log rs t) ∙ e));
    }

-- ---- a drop

has_marked : (P G : TxId → Type 0) (s : Shard) (tx : TxId) → Has P G s → Has P G (with_local (mark_dropped tx) s)
has_marked P G s tx k = record { parts = same_keys P (λ x. cond (tx_same tx x.0) (dropped_part x.1) x.1) s.local.parts k.parts; prepared = k.prepared }

has_rolled_if : (P G : TxId → Type 0) (s : Shard) (tx : TxId) (b : Bool) → Has P G s → Has P G (with_local (rolled_back_if b tx) s)
has_rolled_if P G s tx true k = has_rolled P G s tx k
has_rolled_if P G s tx false k = record { parts = k.parts; prepared = k.prepared }

has_drop : (P G : TxId → Type 0) (s : Shard) (tx : TxId) → Has P G s → Has P G (with_local (drop_part tx) s)
has_drop P G s tx k = has_marked P G (with_local (without_part tx) s) tx (has_rolled_if P G s tx (is_present (stage_of s.local tx)) k)

-- ---- each step: an operation that is answered is of these

abbrev pub AnswersOf : (TxId → Type 0) → Event → Outcome → Type 0
AnswersOf P (OpEvent tx birth nth seen op) (Answered answer epoch) = P tx
AnswersOf P (OpEvent tx birth nth seen op) _ = ⊤
AnswersOf P _ o = ⊤

has_answers : (P G : TxId → Type 0) (s : Shard) (tx : TxId) (birth : Birth) (seen : Option ℕ) (op : Op) (a : Answer) (l : Local) → OpIs s.local tx birth seen op (OpAnswers a l) → P tx → Has P G s → Has P G (with_work l s)
has_answers P G s tx birth seen op _ _ (performs f e) p k = has_performed P G s tx birth op p k

has_dies : (P G : TxId → Type 0) (s : Shard) (tx : TxId) (birth : Birth) (seen : Option ℕ) (op : Op) (c : AbortCause) (l : Local) → OpIs s.local tx birth seen op (OpDies c l) → Has P G s → Has P G (with_work l s)
has_dies P G s tx birth seen op c _ dies k = has_as P G s _ refl k
has_dies P G s tx birth seen op c _ rolls k = has_as P G (with_local (roll_back tx) s) _ refl (has_rolled P G s tx k)

has_decided : (P G : TxId → Type 0) (s : Shard) (tx : TxId) (commit : Bool) → Has P G s → Has P G (decided s tx commit)
has_decided P G s tx true k = has_push P G s (Commit tx []) (λ t. refl) k
has_decided P G s tx false k = has_rolled P G s tx k

has_step : (P G : TxId → Type 0) → ((t : TxId) → P t → G t) → (s t : Shard) {e : Event} {o : Outcome} → Step s e o t → AnswersOf P e o → Has P G s → Has P G t
has_step P G pg s _ (op_dies tx birth nth seen op cause l g) w k = has_dies P G s tx birth seen op cause l (reply_is s.shard s.local tx birth seen op (OpDies cause l) g) k
has_step P G pg s _ (op_answers tx birth nth seen op answer l g) w k = has_answers P G s tx birth seen op answer l (reply_is s.shard s.local tx birth seen op (OpAnswers answer l) g) w k
has_step P G pg s _ (rolls_back tx nth seen upto f g) w k = has_back P G s tx (count_after upto (standing_numbers tx s.journal)) k
has_step P G pg s _ (request_refused tx ts cause g) w k = k
has_step P G pg s _ (request_doomed tx ts doom g) w k = k
has_step P G pg s _ (request_again tx ts f g) w k = k
has_step P G pg s _ (request_closes tx ts f g) w k = has_as P G (with_local (close_part tx s.shard (is_alone (others s.shard ts))) s) _ refl (has_close P G pg s tx s.shard (is_alone (others s.shard ts)) g k)
has_step P G pg s _ (looks_well tx g) w k = k
has_step P G pg s _ (looks_ill tx cause d g) w k = k
has_step P G pg s _ (drops tx stage g) w k = has_drop P G s tx k
has_step P G pg s _ (prepare_closes tx home seen stamp g) w k = has_as P G (with_local (close_part tx home false) s) _ refl (has_close P G pg s tx home false g k)
has_step P G pg s _ (decision_comes tx home commit stamp g) w k = has_decided P G s tx commit k
has_step P G pg s _ _ w k = has_as P G s _ refl k

pub has_happens : (P G : TxId → Type 0) → ((t : TxId) → P t → G t) → (s t : Shard) {e : Event} {o : Outcome} → Happens s e o t → AnswersOf P e o → Has P G s → Has P G t
has_happens P G pg s _ (finishes {t = t} u g) w k = has_finish P G t (has_step P G pg s t g w k)
has_happens P G pg s _ (stops u) w k = has_as P G s _ refl k

pub has_flushed : (P G : TxId → Type 0) (s : Shard) (n : ℕ) → Has P G s → Has P G (finish (with_durable n s))
has_flushed P G s n k = has_finish P G (with_durable n s) (has_as P G s (with_durable n s) refl k)

pub has_down : (P G : TxId → Type 0) (s : Shard) → Has P G s → Has P G (put_down s)
has_down P G s k = has_as P G s (put_down s) refl k

-- ---- a restart: who is in doubt in its log is of these

restored_rows : (P : TxId → Type 0) (ts : List TxId) → ((t : TxId) → tx_in t ts ≡ true → P t) → Keys P (restored_parts ts)
restored_rows P [] k = tt
restored_rows P (t ∷ ts) k = (k t (or_left (tx_same t t) (tx_in t ts) (tx_self t)), restored_rows P ts (λ u i. k u (or_right (tx_same t u) (tx_in u ts) i)))

pub left_prepares : (s : Shard) (kept : Bool) (epoch : ℕ) (log : List LogRecord) (t : TxId) → Restarts s (log_left s kept) epoch log → prepared_in log t ≡ true → prepared_in s.local.log t ≡ true
left_prepares s kept epoch log t r e = prepared_cut _ s.local.log t (restarts_prepare s (log_left s kept) epoch log t r e)

pub has_revived : (P G : TxId → Type 0) (s : Shard) (kept : Bool) (epoch : ℕ) (log : List LogRecord) → Restarts s (log_left s kept) epoch log → ((t : TxId) → tx_in t (in_doubt s.shard log) ≡ true → P t) → Has P G s → Has P G (revived s epoch log)
has_revived P G s kept epoch log r d k = record { parts = restored_rows P (in_doubt s.shard log) d; prepared = λ t e. k.prepared t (left_prepares s kept epoch log t r e) }

pub has_opened : (P G : TxId → Type 0) (n run : ℕ) (log : List LogRecord) → ((t : TxId) → tx_in t (in_doubt n (log_after_restart n log run 0)) ≡ true → P t) → ((t : TxId) → prepared_in log t ≡ true → G t) → Has P G (opened n run log)
has_opened P G n run log d g = record { parts = restored_rows P (in_doubt n (log_after_restart n log run 0)) d; prepared = λ t e. g t (opening_prepares n log run 0 t e) }
