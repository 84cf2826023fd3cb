-- Along a history: whoever of an earlier run has a part on a shard was in doubt in the log that the shard opened.
use Rattle.std.proofs.Common.{◌≡◌, refl, sym, ap, subst, ℕ, ◌<◌, Bool, true, false, List, length, arith, None}
use Rattle.std.proofs.lemmas.List.{take_all}
use Rattle.clv_base.specs.declared.names.TxId.{TxId}
use Rattle.clv_base.specs.declared.logs.LogRecord.{LogRecord}
use Rattle.clv_base.specs.declared.events.Event.{Event}
use Rattle.clv_base.specs.declared.events.Event.TheVariants.{Op as OpEvent}
use Rattle.clv_base.specs.declared.events.Outcome.{Outcome}
use Rattle.clv_base.specs.declared.events.Outcome.TheVariants.{Answered}
use Rattle.clv_base.specs.declared.events.Entry.{Entry}
use Rattle.clv_base.specs.Orders.{tx_in}
use Rattle.clv_base.specs.Logs.{prepared_in, in_doubt}
use Rattle.clv_base.specs.Shards.{shard_count}
use Rattle.clv_base.specs.LogRules.{log_of, disorder}
use Rattle.clv_base.specs.FileRules.{may_open}
use Rattle.clv_base.specs.State.{Shard}
use Rattle.clv_base.specs.Restarts.{run_after, log_left, log_after_restart, Restarts}
use Rattle.clv_base.specs.Journals.{History, start_of, event_state, after_entry, up_to_restart, MayEnter}
use Rattle.clv_base.specs.History.{Legal}
use Rattle.protocol_laws.specs.Growth.{IsPrefixOf}
use Rattle.protocol_laws.specs.SessionLaws.{tx_of}
use Rattle.protocol_laws.proofs.LogOnlyGrows.DueGrowsLogs.{same, chain}
use Rattle.history_cases.proofs.Durability.{Counted, fronts_entry, left_front, restarts_front}
use Rattle.history_cases.proofs.Entering.{Makes, by_event, by_flush, by_failure, by_restart, makes}
use Rattle.history_cases.proofs.Merging.{Among}
use Rattle.history_laws.specs.Openings.{LegalFrom}
use Rattle.history_laws.proofs.NeverTakenBack.{walker_of}
use Rattle.fate_laws.proofs.Origins.FrontsKeepOrigins.{IsOld}
use Rattle.fate_laws.proofs.Origins.DoubtedWereFoundSo.{Has, AnswersOf, doubt_found, opening_prepares, left_prepares, has_as, has_happens, has_flushed, has_down, has_revived, has_opened}
use Rattle.history_laws.proofs.Logs.FoundLogsInOrder.{found_in_order, log_found}
use Rattle.history_laws.proofs.Logs.DoubtedAreUndecided.{doubt_undecided}

-- of this run, or in doubt in the log found; or prepared in it
abbrev pub MayHave : List (List LogRecord) → ℕ → TxId → Type 0
MayHave before n t = IsOld (run_after before) t → tx_in t (in_doubt n (log_of before n)) ≡ true

abbrev pub MayPrepare : List (List LogRecord) → ℕ → TxId → Type 0
MayPrepare before n t = IsOld (run_after before) t → prepared_in (log_of before n) t ≡ true

-- the log that the shard opened with
abbrev log_opened : List (List LogRecord) → ℕ → List LogRecord
log_opened before n = log_after_restart n (log_of before n) (run_after before) 0

-- what is known of a shard after a front of the history; what is durable begins with what it opened with
pub record Opened (before : List (List LogRecord)) (n : ℕ) (s : Shard) : Type 0 where
  pub has : Has (MayHave before n) (MayPrepare before n) s
  pub begins : IsPrefixOf (log_opened before n) (log_left s false)

-- ---- at opening

pub found_follows : (splits : List ℕ) (before : List (List LogRecord)) (n : ℕ) → may_open splits before ≡ true → n < length before → disorder n (log_of before n) ≡ None
found_follows splits before n m l = found_in_order splits before n m l

pub opened_opens : (splits : List ℕ) (before : List (List LogRecord)) (n : ℕ) → may_open splits before ≡ true → n < length before → Opened before n (start_of before n)
opened_opens splits before n m l =
    let found = log_of before n in
    let run = run_after before in
    let log = log_opened before n in
    let f = found_follows splits before n m l in
    record {
      has = has_opened (MayHave before n) (MayPrepare before n) n run found (λ t i o. doubt_found n found log run 0 t f (same log) i (opening_prepares n found run 0 t (doubt_undecided n log t i).0)) (λ t e o. e);
      begins = subst (IsPrefixOf log) (sym (take_all (length log) log (omega arith))) (same log);
    }

-- ---- each entry

-- an operation is of this run
own_op : (splits : List ℕ) (before after : List (List LogRecord)) (h : History) (n : ℕ) (x : Entry) (e : Event) (o : Outcome) → Legal splits before h after → Among (n, x) h → x.event ≡ e → AnswersOf (MayHave before n) e o
own_op splits before after h n x (OpEvent tx birth nth seen op) (Answered a m) l i q = λ old. let r = (walker_of splits before after h (n, x) tx l i (ap tx_of q)).0 in absurd (omega (arith, r, old))
own_op splits before after h n x (OpEvent tx birth nth seen op) _ l i q = tt
own_op splits before after h n x _ o l i q = tt

-- who is in doubt in the log of a restart has a part here
doubted_still : (splits : List ℕ) (before : List (List LogRecord)) (n : ℕ) (s : Shard) (kept : Bool) (epoch : ℕ) (log : List LogRecord) → may_open splits before ≡ true → n < length before → s.shard ≡ n → Counted s → Restarts s (log_left s kept) epoch log → Opened before n s
    → (t : TxId) → tx_in t (in_doubt s.shard log) ≡ true → MayHave before n t
doubted_still splits before n s kept epoch log m l e c r k t i o =
    let found = log_of before n in
    let j = subst (λ z. tx_in t (in_doubt z log) ≡ true) e i in
    let begun = chain (log_opened before n) (log_left s kept) log (chain (log_opened before n) (log_left s false) (log_left s kept) k.begins (left_front s kept c)) (restarts_front s (log_left s kept) epoch log r) in
    doubt_found n found log (run_after before) 0 t (found_follows splits before n m l) begun j ((k.has).prepared t (left_prepares s kept epoch log t r (doubt_undecided n log t j).0) o)

has_made : (splits : List ℕ) (before : List (List LogRecord)) (n : ℕ) (log : List LogRecord) (s t : Shard) {e : Event} {o : Outcome} → may_open splits before ≡ true → n < length before → s.shard ≡ n → Counted s → Makes log s e o t → AnswersOf (MayHave before n) e o → Opened before n s
    → Has (MayHave before n) (MayPrepare before n) t
has_made splits before n log s t m l e c (by_event g h) w k = has_happens (MayHave before n) (MayPrepare before n) (λ u p o. (doubt_undecided n (log_of before n) u (p o)).0) s t h w k.has
has_made splits before n log s _ m l e c (by_flush i u f) w k = has_flushed (MayHave before n) (MayPrepare before n) s i k.has
has_made splits before n log s _ m l e c (by_failure i u f) w k = has_down (MayHave before n) (MayPrepare before n) s k.has
has_made splits before n log s _ m l e c (by_restart epoch kept u r) w k =
    has_revived (MayHave before n) (MayPrepare before n) s kept epoch (up_to_restart s.run epoch log) r (doubted_still splits before n s kept epoch (up_to_restart s.run epoch log) m l e c r k) k.has

pub opened_entry : {splits : List ℕ} {before after : List (List LogRecord)} {h : History} → LegalFrom splits before h after
    → (n : ℕ) (x : Entry) (log : List LogRecord) (s : Shard) → n < shard_count splits → Among (n, x) h → s.shard ≡ n → Counted s
    → MayEnter log s x → Opened before n s → Opened before n (after_entry log s x)
opened_entry {splits} {before} {after} {h} l n x log s below i e c g k =
    let t = event_state log s x.event x.outcome in
    record {
      has = has_as (MayHave before n) (MayPrepare before n) t (after_entry log s x) refl
          (has_made splits before n log s t l.opens (log_found l n below) e c (makes log s x.event x.outcome g.event)
          (own_op splits before after h n x x.event x.outcome l.legal i refl) k);
      begins = chain (log_opened before n) (log_left s false) (log_left (after_entry log s x) false) k.begins (fronts_entry log s x c g).front;
    }
