-- The steps of the shard that is restarted with a transaction in doubt.
use Rattle.std.proofs.Common.{◌≡◌, ◌⊎◌, inl, inr, arith, refl, subst, ℕ, lit<, Bool, true, false, List, [], ◌∷◌, Option, Some, None}
use Rattle.std.proofs.lemmas.Bool.{both_ways}
use Rattle.clv_base.specs.declared.values.Value.TheVariants.{Num}
use Rattle.clv_base.specs.declared.names.TxId.{TxId}
use Rattle.clv_base.specs.declared.names.Birth.{Birth}
use Rattle.clv_base.specs.declared.ops.Op.TheVariants.{Put}
use Rattle.clv_base.specs.declared.ops.Answer.TheVariants.{Value}
use Rattle.clv_base.specs.declared.messages.Message.TheVariants.{Prepare, Decide}
use Rattle.clv_base.specs.declared.events.Event.{Event}
use Rattle.clv_base.specs.declared.events.Event.TheVariants.{Op as OpEvent, Deliver, FlushOut, FlushIn, Stop, Restart}
use Rattle.clv_base.specs.declared.events.Outcome.{Outcome}
use Rattle.clv_base.specs.declared.events.Outcome.TheVariants.{Answered, Taken, Out, Durable, Stopped, Up}
use Rattle.clv_base.specs.declared.events.Entry.{Entry}
use Rattle.clv_base.specs.declared.modes.Mode.{Mode}
use Rattle.clv_base.specs.declared.modes.Holder.{Holder}
use Rattle.clv_base.specs.declared.modes.Part.TheVariants.{N, X}
use Rattle.clv_base.specs.declared.modes.Anchor.TheVariants.{Low, At}
use Rattle.clv_base.specs.Participant.{asked_voter}
use Rattle.clv_base.specs.declared.state.Stage.TheVariants.{Closed}
use Rattle.clv_base.specs.declared.state.Request.{Request}
use Rattle.clv_base.specs.Orders.{tx_same, tx_in}
use Rattle.clv_base.specs.State.{Shard}
use Rattle.clv_base.specs.Events.{happen, landed, with_entry}
use Rattle.clv_base.specs.Journals.{reply_state}
use Rattle.law_base.specs.Items.{Deed, Did}
use Rattle.clv_base.specs.declared.logs.LogRecord.{LogRecord}
use Rattle.clv_base.specs.declared.logs.LogRecord.TheVariants.{Update, Prepare as PrepareRecord, Restart as RestartRecord}
use Rattle.std.specs.List.{list_all}
use Rattle.clv_base.specs.Logs.{committed_in, in_doubt}
use Rattle.clv_base.specs.LogRules.{listed_in}
use Rattle.clv_base.specs.Restarts.{opened, revived, untouched}
use Rattle.clv_base.proofs.SameNames.{tx_true}
use Rattle.shard_laws.specs.OneShard.{Deeds, Leads, opens, happens, lands, others_ask, revives, is_member, Passes, MayChoose}
use Rattle.history_examples.specs.Doubt.{doubtful, DoubtIsRestored, DoubtComesBack, DoubtIsCommitted, DoubtIsChosen, doubt_log, DoubtIsFound}
use Rattle.law_base.proofs.Names.{none_closed, none_held}

abbrev birth : Birth
birth = record { stamp = 1; session = 1; serial = 1 }

none_request : (q : Request) → ◌≡◌ {A = Option Request} None (Some q) → ⊥
none_request q e = absurd cc

-- the state after an entry
abbrev entered : ℕ → Event → Outcome → Shard → Shard
entered stamp e o s = with_entry stamp 0 e o (reply_state s (happen s e))

abbrev put : Event
put = OpEvent doubtful birth 1 None (Put 5 (Num 10))

abbrev put_answered : Outcome
put_answered = Answered (Value None) 0

abbrev prepare : Event
prepare = Deliver (Prepare 1 doubtful 0 0) 1

abbrev s0 : Shard
s0 = opened 1 1 []

abbrev s1 : Shard
s1 = entered 2 put put_answered s0

abbrev found : List LogRecord
found = RestartRecord 1 0 ∷ Update doubtful 5 None (Some (Num 10)) ∷ PrepareRecord doubtful 0 [] ∷ []

abbrev log_now : List LogRecord
log_now = RestartRecord 1 0 ∷ Update doubtful 5 None (Some (Num 10)) ∷ PrepareRecord doubtful 0 [] ∷ RestartRecord 1 1 ∷ []

abbrev noted : ℕ → Event → Outcome → Entry
noted stamp e o = record { stamp = stamp; walker = 0; event = e; outcome = o }

abbrev holder : Mode → Holder
holder m = record { tx = doubtful; birth = birth; mode = m; closed = true }

-- the shard with the prepared part, by what is in flight, whether it is up, and its entries
abbrev prepared : Option ℕ → Bool → ℕ → List Entry → Shard
prepared flight up last journal = record {
  shard = 1;
  run = 1;
  is_up = up;
  local = record {
    records = (5, Some (Num 10)) ∷ [];
    locks = (Low, holder (record { key = N; gap = X })) ∷ (At 5, holder (record { key = X; gap = X })) ∷ [];
    parts = (doubtful, record { birth = birth; stage = Closed; is_restored = false; is_dropped = false }) ∷ [];
    pairs = [];
    log = found;
    epoch = 0;
  };
  voters = (doubtful, asked_voter 0 0 None) ∷ [];
  requests = [];
  durable = 1;
  flight = flight;
  outbox = [];
  last = last;
  journal = journal;
}

abbrev s2 : Shard
s2 = prepared None true 3 (noted 2 put put_answered ∷ noted 3 prepare Taken ∷ [])

abbrev s3 : Shard
s3 = prepared (Some 3) true 4 (noted 2 put put_answered ∷ noted 3 prepare Taken ∷ noted 4 FlushOut (Out 3) ∷ [])

abbrev s4 : Shard
s4 = prepared (Some 3) false 5 (noted 2 put put_answered ∷ noted 3 prepare Taken ∷ noted 4 FlushOut (Out 3) ∷ noted 5 Stop Stopped ∷ [])

-- the batch in flight survives
abbrev s5 : Shard
s5 = with_entry 6 0 Restart (Up 1) (revived s4 1 log_now)

abbrev decide : Event
decide = Deliver (Decide 1 doubtful 0 true) 1

abbrev s6 : Shard
s6 = entered 7 decide Taken s5

abbrev s7 : Shard
s7 = entered 8 FlushOut (Out 5) s6

abbrev s8 : Shard
s8 = with_entry 9 0 FlushIn (Durable 5) (reply_state s7 (landed s7 5 true))

-- the put, by its number
abbrev done : ℕ → List Deed
done n = Did (record { tx = doubtful; number = n; op = Put 5 (Num 10); answer = Value None; lsn = 1 }) ∷ []

-- what they did, where so many asked and fell
abbrev did_as : ℕ → List TxId → List TxId → Deeds
did_as n asked fell = record { done = done n; asked = asked; told = []; met = []; fell = fell }

abbrev did : List TxId → List TxId → Deeds
did asked fell = did_as 1 asked fell

abbrev Led : List TxId → Shard → Type 0
Led asked s = Leads 1 1 [] (did asked []) s

led1 : Led [] s1
led1 =
    happens put put_answered (reply_state s0 (happen s0 put)) 2 0 (opens (refl, lit< tt))
    (record {
      of_run = refl;
      rises = tt;
      not_closed = none_closed;
      not_asked = λ q. refl;
      fresh = λ q e. record { unwritten = refl; unprepared = refl; uncommitted = refl; unaborted = refl; idle = refl; unmet = λ p m. absurd (both_ways false refl m); unfallen = refl };
      same_birth = λ h e. absurd (none_held h e);
    }) refl

led2 : Led (doubtful ∷ []) s2
led2 = happens prepare Taken (reply_state s1 (happen s1 prepare)) 3 0 (others_ask doubtful led1 refl) (refl, refl, (λ w. refl)) refl

led3 : Led (doubtful ∷ []) s3
led3 = happens FlushOut (Out 3) (reply_state s2 (happen s2 FlushOut)) 4 0 led2 tt refl

led4 : Led (doubtful ∷ []) s4
led4 = happens Stop Stopped (reply_state s3 (happen s3 Stop)) 5 0 led3 tt refl

led5 : Led (doubtful ∷ []) s5
led5 = revives true 1 log_now 6 0 led4 refl (found, untouched, refl, refl)

led6 : Led (doubtful ∷ []) s6
led6 = happens decide Taken (reply_state s5 (happen s5 decide)) 7 0 led5 (λ open_. (refl, refl, (λ q e. absurd (none_request q e)), refl)) refl

led7 : Led (doubtful ∷ []) s7
led7 = happens FlushOut (Out 5) (reply_state s6 (happen s6 FlushOut)) 8 0 led6 tt refl

led8 : Led (doubtful ∷ []) s8
led8 = lands 5 true (Durable 5) (reply_state s7 (landed s7 5 true)) 9 0 led7 refl refl

-- the PREPARE lands, the abort is taken, and the shard stops before its ABORT lands
abbrev abort : Event
abort = Deliver (Decide 1 doubtful 0 false) 1

abbrev a4 : Shard
a4 = with_entry 5 0 FlushIn (Durable 3) (reply_state s3 (landed s3 3 true))

abbrev a5 : Shard
a5 = entered 6 abort Taken a4

abbrev a6 : Shard
a6 = entered 7 Stop Stopped a5

abbrev a7 : Shard
a7 = with_entry 8 0 Restart (Up 1) (revived a6 1 log_now)

aborts7 : Leads 1 1 [] (did (doubtful ∷ []) (doubtful ∷ doubtful ∷ [])) a7
aborts7 =
    revives true 1 log_now 8 0
    (happens Stop Stopped (reply_state a5 (happen a5 Stop)) 7 0 (happens abort Taken (reply_state a4 (happen a4 abort)) 6 0 (lands 3 true (Durable 3) (reply_state s3 (landed s3 3 true)) 5 0 led3 refl refl) tt refl) tt refl)
    refl (found, untouched, refl, refl)

pub doubt_comes_back : DoubtComesBack
doubt_comes_back = (did (doubtful ∷ []) (doubtful ∷ doubtful ∷ []), a7, aborts7, refl, refl, refl, refl, refl)

pub doubt_is_restored : DoubtIsRestored
doubt_is_restored = (did (doubtful ∷ []) [], s5, led5, refl, refl, refl, refl, refl)

pub doubt_is_committed : DoubtIsCommitted
doubt_is_committed = (did (doubtful ∷ []) [], s8, led8, refl, refl, refl, refl, refl, refl)

chooses : MayChoose s5 4 (did (doubtful ∷ []) []) (tx_same doubtful)
chooses = record {
  commits = λ t e. absurd (both_ways false refl e);
  are_here = λ t e. subst (λ z. (is_member s5 4 [] z ≡ true) ⊎ (((tx_in z (in_doubt 1 log_now) ≡ true) × (list_all (committed_in log_now) (listed_in log_now z) ≡ true) × (tx_in z [] ≡ false)) ⊎ Passes (did (doubtful ∷ []) []) s5 z)) (tx_true doubtful t e) (inr (inl (refl, refl, refl)));
}

pub doubt_is_chosen : DoubtIsChosen
doubt_is_chosen = (did (doubtful ∷ []) [], s5, led5, refl, refl, omega arith, chooses, refl, refl)

-- the next run opens the log, and the decision comes
abbrev f0 : Shard
f0 = opened 1 2 doubt_log

abbrev f1 : Shard
f1 = entered 2 decide Taken f0

led_found : Leads 1 2 doubt_log (did_as 0 (doubtful ∷ []) []) f1
led_found = happens decide Taken (reply_state f0 (happen f0 decide)) 2 0 (opens (refl, lit< tt)) (λ open_. (refl, refl, (λ q e. absurd (none_request q e)), refl)) refl

pub doubt_is_found : DoubtIsFound
doubt_is_found = (did_as 0 (doubtful ∷ []) [], f1, led_found, refl, refl, refl, refl, refl, refl, refl, refl, refl)
