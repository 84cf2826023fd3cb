-- What binds a part stays through each entry of its shard.
use Rattle.std.proofs.Common.{◌≡◌, refl, sym, subst, ℕ, ◌≤◌, true, false, Bool, List, Option, Some}
use Rattle.std.specs.Prelude.{take}
use Rattle.std.proofs.lemmas.List.{take-take}
use Rattle.clv_base.specs.declared.names.TxId.{TxId}
use Rattle.clv_base.specs.declared.names.Birth.{Birth}
use Rattle.clv_base.specs.declared.ops.Op.{Op}
use Rattle.clv_base.specs.declared.logs.LogRecord.{LogRecord}
use Rattle.clv_base.specs.declared.events.Event.{Event}
use Rattle.clv_base.specs.declared.events.Event.TheVariants.{Op as OpEvent}
use Rattle.clv_base.specs.declared.events.Outcome.{Outcome}
use Rattle.clv_base.specs.Logs.{committed_in, prepare_of}
use Rattle.clv_base.specs.State.{Shard}
use Rattle.clv_base.specs.Events.{finish, put_down, with_durable}
use Rattle.clv_base.specs.Restarts.{log_left, revived}
use Rattle.clv_base.specs.Journals.{up_to_restart}
use Rattle.protocol_laws.specs.Growth.{IsPrefixOf}
use Rattle.protocol_laws.proofs.LogOnlyGrows.DueGrowsLogs.{same, chain}
use Rattle.history_cases.proofs.Stepping.{Happens, finishes, stops}
use Rattle.history_cases.proofs.Entering.{Makes, by_event, by_flush, by_failure, by_restart}
use Rattle.history_cases.proofs.Durability.{Counted, left_front, restarts_front}
use Rattle.history_laws.proofs.NeverTakenBack.LaterHistoriesHoldMembers.{committed_front}
use Rattle.history_cases.proofs.TellingEvents.{front_committed}
use Rattle.fate_laws.proofs.Logs.LogOnlyGrows.{inside_self}
use Rattle.fate_laws.proofs.Logs.WhatAddsNoPrepare.{prepare_more, front_prepare}
use Rattle.fate_laws.proofs.Homes.ShardKnowsHomes.{still_not}
use Rattle.fate_laws.proofs.Parts.OthersCloseOrGo.{Calm, calm_same, calm_step, calm_finish}
use Rattle.fate_laws.proofs.Parts.YesVotesArePrepared.{Bound, Reads, bound_calm, reads_calm}
use Rattle.fate_laws.proofs.Parts.RestartsKeepParts.{bound_state, reads_state, revived_prepares}

-- the entry is no operation of the transaction
abbrev pub NotOwn : TxId → Event → Type 0
NotOwn tx e = (birth : Birth) (nth : ℕ) (seen : Option ℕ) (op : Op) → e ≡ OpEvent tx birth nth seen op → ⊥

calm_down : (s : Shard) (tx : TxId) → Calm s (put_down s) tx
calm_down s tx = calm_same s (put_down s) tx (record { shard = refl; durable = refl; log = same s.local.log }) refl refl (λ t p h. h)

calm_event : (s t : Shard) {e : Event} {o : Outcome} (tx : TxId) → Happens s e o t → NotOwn tx e → Calm s t tx
calm_event s _ tx (finishes {t = x} u h) n = calm_finish s x tx (calm_step s x tx h n)
calm_event s _ tx (stops u) n = calm_down s tx

calm_flushed : (s : Shard) (n : ℕ) (tx : TxId) → Calm (with_durable n s) (finish (with_durable n s)) tx
calm_flushed s n tx =
    let x = with_durable n s in calm_finish x x tx (calm_same x x tx (inside_self x) refl refl (λ t p h. h))

pub bound_flushed : (s : Shard) (n : ℕ) (tx : TxId) → s.durable ≤ n → Bound s tx → Bound (with_durable n s) tx
bound_flushed s n tx l b =
    let e = take-take s.durable n s.local.log l in
    record {
      listed = b.listed;
      prepare = front_prepare s.durable (take n s.local.log) tx b.listed (subst (λ z. prepare_of z tx ≡ Some b.listed) (sym e) b.prepare);
      durable = λ q i. front_committed s.durable (take n s.local.log) q (subst (λ z. committed_in z q ≡ true) (sym e) (b.durable q i));
      pairs = b.pairs;
    }

bound_revived : (s : Shard) (kept : Bool) (epoch : ℕ) (log : List LogRecord) (tx : TxId) → IsPrefixOf (log_left s false) log → Bound s tx → Bound (revived s epoch log) tx
bound_revived s kept epoch log tx p b =
    bound_state s.shard s.run epoch log s.last s.journal tx b.listed (subst (λ z. prepare_of z tx ≡ Some b.listed) p.1 (prepare_more (log_left s false) p.0 tx b.listed b.prepare))
    (λ q i. committed_front (log_left s false) log q p (b.durable q i))

pub bound_made : (log : List LogRecord) (s t : Shard) {e : Event} {o : Outcome} (tx : TxId) → Makes log s e o t → NotOwn tx e → Counted s → Bound s tx → Bound t tx
bound_made log s t tx (by_event g h) n c b = bound_calm s t tx (calm_event s t tx h n) c.within b
bound_made log s _ tx (by_flush n u f) k c b =
    let q = c.flying n f in
    bound_calm (with_durable n s) (finish (with_durable n s)) tx (calm_flushed s n tx) q.1 (bound_flushed s n tx q.0 b)
bound_made log s _ tx (by_failure n u f) k c b = bound_calm s (put_down s) tx (calm_down s tx) c.within b
bound_made log s _ tx (by_restart epoch kept u r) k c b =
    let after = up_to_restart s.run epoch log in
    bound_revived s kept epoch after tx (chain (log_left s false) (log_left s kept) after (left_front s kept c) (restarts_front s (log_left s kept) epoch after r)) b

pub reads_made : (log : List LogRecord) (s t : Shard) {e : Event} {o : Outcome} (tx : TxId) → Makes log s e o t → NotOwn tx e → Reads s tx → Reads t tx
reads_made log s t tx (by_event g h) n b = reads_calm s t tx (calm_event s t tx h n) b
reads_made log s _ tx (by_flush n u f) k b =
    reads_calm (with_durable n s) (finish (with_durable n s)) tx (calm_flushed s n tx) (record { unprepared = b.unprepared; inactive = b.inactive; unclosed = b.unclosed })
reads_made log s _ tx (by_failure n u f) k b = reads_calm s (put_down s) tx (calm_down s tx) b
reads_made log s _ tx (by_restart epoch kept u r) k b =
    reads_state s.shard s.run epoch (up_to_restart s.run epoch log) s.last s.journal tx
    (still_not _ _ (λ h. revived_prepares s kept epoch (up_to_restart s.run epoch log) r tx h) b.unprepared)
