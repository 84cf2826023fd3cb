-- Names and shards that fit: what the messages of a shard are made of, and what its log's records are made of.
use Rattle.std.specs.Prelude.{◌≡◌, ℕ, ◌<◌, ◌≤◌, ◌^◌, Bool, true, ◌&&◌, nat_lt, List, map, length}
use Rattle.std.specs.List.{list_all}
use Rattle.clv_base.specs.declared.names.TxId.{TxId}
use Rattle.clv_base.specs.declared.logs.LogRecord.{LogRecord}
use Rattle.clv_base.specs.declared.events.Event.{Event}
use Rattle.clv_base.specs.declared.events.Event.TheVariants.{Op, Send}
use Rattle.clv_base.specs.declared.events.Outcome.{Outcome}
use Rattle.clv_base.specs.declared.events.Entry.{Entry}
use Rattle.clv_base.specs.declared.state.Voter.{Voter}
use Rattle.clv_base.specs.declared.state.Request.{Request}
use Rattle.clv_base.specs.FileRules.{has_spelling, tx_has_spelling, numbers_rise}
use Rattle.clv_base.specs.State.{Local, Shard}
use Rattle.clv_base.specs.Facts.{undecided_of}
use Rattle.clv_base.specs.Events.{Does, finish, landed, happen}
use Rattle.clv_base.specs.Restarts.{state_after}
use Rattle.protocol_laws.specs.Rooms.{parts_of}
use Rattle.protocol_laws.specs.Spelled.{IsSpelled, fits_op}
use Rattle.machine_calls.specs.Events.{message_fits, event_fits, sends_fit}

-- ---- tables and the outbox

-- touched shards rise and are shards
abbrev pub shards_fit : List (ℕ × ℕ) → Bool
shards_fit touched = numbers_rise (map (λ t. t.0) touched) && list_all (λ t. nat_lt t.0 16) touched

abbrev pub voter_fits : TxId × Voter → Bool
voter_fits v = tx_has_spelling v.0 && nat_lt (v.1).home 16

-- the shards that it touched and those of its COMMIT
abbrev pub request_fits : TxId × Request → Bool
request_fits q = tx_has_spelling q.0 && shards_fit (q.1).touched && list_all (λ p. nat_lt p 16) (parts_of (q.1).state)

-- all that messages are made of fits, and the messages that wait
pub record IsFitting (s : Shard) : Type 0 where
  pub shard : nat_lt s.shard 16 ≡ true
  pub voters : list_all voter_fits s.voters ≡ true
  pub requests : list_all request_fits s.requests ≡ true
  pub outbox : list_all message_fits s.outbox ≡ true

-- ---- with the log

-- and so does all that records of the log are made of
pub record IsNamed (s : Shard) : Type 0 where
  pub fitting : IsFitting s
  pub spelled : IsSpelled s.local

-- the log is one that a vector may hold
abbrev pub IsShort : Local → Type 0
IsShort l = length l.log < 2 ^ 64

abbrev pub FewUndecided : Local → Type 0
FewUndecided l = (tx : TxId) → length (undecided_of l tx) ≤ 1024

-- keys and values of the event have 64 bits
abbrev pub op_fits : Event → Bool
op_fits (Op tx birth nth seen op) = fits_op op
op_fits _ = true

-- ---- what keeps it

abbrev pub FinishesKeepNames : Type 0
FinishesKeepNames = (s : Shard) → IsShort (finish s).local → IsNamed s → IsNamed (finish s)

-- each event that fits
abbrev pub EventsKeepNames : Type 0
EventsKeepNames =
    (s t : Shard) (e : Event) (o : Outcome) → happen s e ≡ Does o t → event_fits s.shard e ≡ true → op_fits e ≡ true → FewUndecided s.local → IsShort s.local → IsShort t.local
    → IsNamed s → IsNamed t

-- the end of a flush
abbrev pub LandingsKeepNames : Type 0
LandingsKeepNames = (s t : Shard) (n : ℕ) (is_pushed : Bool) (o : Outcome) → landed s n is_pushed ≡ Does o t → IsShort t.local → IsNamed s → IsNamed t

-- a restart of a shard, whose log has spellings
abbrev pub RestartsAreNamed : Type 0
RestartsAreNamed =
    (shard run epoch : ℕ) (log : List LogRecord) (last : ℕ) (journal : List Entry) → shard < 16 → list_all has_spelling log ≡ true → IsNamed (state_after shard run epoch log last journal)

-- ---- what it is for: the message that leaves fits

abbrev pub SendsFit : Type 0
SendsFit = (s t : Shard) (o : Outcome) → IsFitting s → happen s Send ≡ Does o t → sends_fit o ≡ true
