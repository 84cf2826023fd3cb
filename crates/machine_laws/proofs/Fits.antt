-- Names and shards fit through what is due and through each event.
use Rattle.std.proofs.Common.{◌≡◌, refl, sym, subst, ℕ, zero, suc, ◌≤◌, Bool, true, false, cond, ◌==◌, List, [], ◌∷◌, map, length, drop, Option, Some, None, arith}
use Rattle.clv_base.specs.declared.names.TxId.{TxId}
use Rattle.clv_base.specs.declared.names.Birth.{Birth}
use Rattle.clv_base.specs.declared.ops.Op.{Op}
use Rattle.clv_base.specs.declared.causes.Vote.{Vote}
use Rattle.clv_base.specs.declared.causes.Vote.TheVariants.{Yes, Read, No}
use Rattle.clv_base.specs.declared.messages.Message.{Message}
use Rattle.clv_base.specs.declared.messages.Message.TheVariants.{Prepare, Vote as VoteMessage, Decide, Done, Ask}
use Rattle.clv_base.specs.declared.events.Event.{Event}
use Rattle.clv_base.specs.declared.events.Event.TheVariants.{Op as OpEvent, RollTo, Request as RequestEvent, Look, Drop, Send, Deliver, Remind, FlushOut, FlushIn, Stop, Restart}
use Rattle.clv_base.specs.declared.events.Outcome.TheVariants.{Down}
use Rattle.clv_base.specs.declared.state.Ruling.TheVariants.{Commit as CommitVerdict, Acknowledge, Abort as AbortVerdict, End as EndVerdict}
use Rattle.clv_base.specs.declared.modes.Decision.{Decision}
use Rattle.clv_base.specs.declared.modes.Decision.TheVariants.{Grant, Wait, Die}
use Rattle.clv_base.specs.declared.state.Stage.{Stage}
use Rattle.clv_base.specs.declared.state.Stage.TheVariants.{Active, Closed, Gone}
use Rattle.clv_base.specs.declared.state.Voter.{Voter}
use Rattle.clv_base.specs.declared.state.RequestState.{RequestState}
use Rattle.clv_base.specs.declared.state.RequestState.TheVariants.{Undecided, Committed, Finished, Refused}
use Rattle.clv_base.specs.declared.state.Request.{Request}
use Rattle.clv_base.specs.declared.state.Ruling.{Ruling}
use Rattle.clv_base.specs.declared.state.Taken.{Taken as DecisionTaken}
use Rattle.clv_base.specs.declared.state.Taken.TheVariants.{Done as IsDone, Waiting as IsAwaited, Stale as IsStale}
use Rattle.clv_base.specs.Orders.{Table, tx_in, tx_get}
use Rattle.clv_base.specs.Logs.{committed_in, fitting}
use Rattle.clv_base.specs.Locks.{decide}
use Rattle.clv_base.specs.Needs.{needs_of}
use Rattle.clv_base.specs.State.{Local, Shard, with_local, is_present}
use Rattle.clv_base.specs.Undo.{stage_of, roll_to}
use Rattle.clv_base.specs.Backs.{standing_numbers, count_after}
use Rattle.clv_base.specs.Facts.{facts_of, has_durable_commit}
use Rattle.clv_base.specs.Participant.{taken_by}
use Rattle.clv_base.specs.Coordinator.{takes_vote, takes_done, ruling_by}
use Rattle.clv_base.specs.OneShard.{OpReply, OpWaits, OpCrowded, OpDies, OpAnswers, seen_fits, op_reply, op_seen, op_by_stage, op_active, op_decided, op_granted, rolled_back_if, without_part, drop_part}
use Rattle.clv_base.specs.Due.{with_commit_done, due_of, do_due, work, finish_reader, with_vote, do_ruling, with_ruling}
use Rattle.clv_base.specs.Events.{Reply, QuietBeforeWorn, QuietAfterWorn, Does, finish, op_event, roll_by_stage, roll_event, epoch_in, request_by_stage, request_event, look_lost, look_state, look_known, request_epoch, drop_event, on_prepare, on_vote, decided, on_decide, on_done, on_message, to_of, send_event, reminders, remind_with, out_event, taken, landed, happen_up, happen}
use Rattle.clv_base.specs.declared.logs.LogRecord.{LogRecord}
use Rattle.clv_base.specs.declared.logs.LogRecord.TheVariants.{Commit as CommitRecord, End as EndRecord}
use Rattle.std.proofs.Common.{◌<◌, ◌^◌, nat_lt, ◌&&◌, ◌++◌, length-append, not}
use Rattle.std.specs.List.{list_all, filter}
use Rattle.std.proofs.lemmas.Bool.{and_parts, and_from, ltb-true}
use Rattle.clv_base.specs.declared.causes.AbortCause.{AbortCause}
use Rattle.clv_base.specs.FileRules.{tx_has_spelling, numbers_rise}
use Rattle.clv_base.specs.declared.parts.PartFacts.{PartFacts}
use Rattle.clv_base.specs.Facts.{has_durable_predecessors}
use Rattle.clv_base.specs.Participant.{ask_by, asks, asked_voter, voted}
use Rattle.clv_base.specs.Coordinator.{vote_from, others, is_agreed, yes_shards, open_shards, is_open, agreed_ruling, refusal, refused_ruling, end_ruling, undecided_ruling, ruling_in, ruled_request, new_request, with_vote_of, with_done_of, ask_answer, prepares, prepare_for, missing_votes, missing_dones, each_request, home_reminders}
use Rattle.clv_base.specs.Orders.{tx_set, nat_in}
use Rattle.clv_base.specs.Due.{send, finish_part, with_vote, with_ruling, commit_messages}
use Rattle.clv_base.specs.Events.{is_alone, coordinate, owe_vote, with_votes, with_done, with_outbox, ask_messages, durable_requests, waiting_voters}
use Rattle.protocol_laws.specs.Rooms.{parts_of}
use Rattle.protocol_laws.specs.Spelled.{IsSpelled, fits_op}
use Rattle.machine_calls.specs.Events.{message_fits, event_fits, touched_fit, sends_fit as sent_fits}
use Rattle.machine_laws.specs.Fitting.{shards_fit, voter_fits, request_fits, IsFitting, IsNamed, IsShort, FewUndecided, op_fits, FinishesKeepNames, EventsKeepNames, LandingsKeepNames, SendsFit}
use Rattle.machine_laws.proofs.Shards.{AreParts, all_append, all_filter, others_low, some_others}
use Rattle.machine_laws.proofs.Rows.{get_passes, put_passes, set_passes}
use Rattle.protocol_laws.proofs.Laws.{operations_keep, closings_keep, aborts_keep, drops_keep, rolls_keep, ends_keep, records_keep, purges_keep}
use Rattle.law_base.proofs.Names.{by_state}
use Rattle.law_base.proofs.Bools.{and_three as three}
use Rattle.protocol_laws.proofs.Due.DueCaseByCase.{IfDue, due_holds, do_holds}

-- ---- messages

decides_fit : (tx : TxId) (home : ℕ) (commit : Bool) (ps : List ℕ) → tx_has_spelling tx ≡ true → nat_lt home 16 ≡ true → list_all (λ p. nat_lt p 16) ps ≡ true
    → list_all message_fits (map (λ p. Decide p tx home commit) ps) ≡ true
decides_fit tx home commit [] n h low = refl
decides_fit tx home commit (p ∷ ps) n h low =
    let two = and_parts (nat_lt p 16) (list_all (λ p. nat_lt p 16) ps) low in and_from _ _ (and_from _ _ (and_from _ _ n two.0) h) (decides_fit tx home commit ps n h two.1)

prepares_fit : (tx : TxId) (home : ℕ) (ts : List (ℕ × ℕ)) → tx_has_spelling tx ≡ true → nat_lt home 16 ≡ true → list_all (λ t. nat_lt t.0 16) ts ≡ true
    → list_all message_fits (map (prepare_for home tx) ts) ≡ true
prepares_fit tx home [] n h low = refl
prepares_fit tx home (t ∷ ts) n h low =
    let two = and_parts (nat_lt t.0 16) (list_all (λ t. nat_lt t.0 16) ts) low in and_from _ _ (and_from _ _ (and_from _ _ n two.0) h) (prepares_fit tx home ts n h two.1)

-- what is known of a row that fits
record VoterFits (tx : TxId) (v : Voter) : Type 0 where
  name : tx_has_spelling tx ≡ true
  home : nat_lt v.home 16 ≡ true

record RequestFits (tx : TxId) (q : Request) : Type 0 where
  name : tx_has_spelling tx ≡ true
  rise : numbers_rise (map (λ t. t.0) q.touched) ≡ true
  low : list_all (λ t. nat_lt t.0 16) q.touched ≡ true
  parts : list_all (λ p. nat_lt p 16) (parts_of q.state) ≡ true

voter_at : (s : Shard) (tx : TxId) (v : Voter) → IsFitting s → tx_get tx s.voters ≡ Some v → VoterFits tx v
voter_at s tx v f e = let two = and_parts (tx_has_spelling tx) (nat_lt v.home 16) (get_passes voter_fits tx v s.voters f.voters e) in record { name = two.0; home = two.1 }

request_is : (tx : TxId) (q : Request) → request_fits (tx, q) ≡ true → RequestFits tx q
request_is tx q h =
    let two = and_parts (tx_has_spelling tx && shards_fit q.touched) (list_all (λ p. nat_lt p 16) (parts_of q.state)) h in
    let one = and_parts (tx_has_spelling tx) (shards_fit q.touched) two.0 in
    let shards = and_parts (numbers_rise (map (λ t. t.0) q.touched)) (list_all (λ t. nat_lt t.0 16) q.touched) one.1 in
    record { name = one.0; rise = shards.0; low = shards.1; parts = two.1 }

request_at : (s : Shard) (tx : TxId) (q : Request) → IsFitting s → tx_get tx s.requests ≡ Some q → RequestFits tx q
request_at s tx q f e = request_is tx q (get_passes request_fits tx q s.requests f.requests e)

request_test : (tx : TxId) (q : Request) → tx_has_spelling tx ≡ true → shards_fit q.touched ≡ true → list_all (λ p. nat_lt p 16) (parts_of q.state) ≡ true → request_fits (tx, q) ≡ true
request_test tx q n t p = and_from _ _ (and_from _ _ n t) p

touched_test : (tx : TxId) (q : Request) → RequestFits tx q → shards_fit q.touched ≡ true
touched_test tx q f = and_from _ _ f.rise f.low

-- ---- what changes a shard that fits

more_messages : (s : Shard) (ms : List Message) → list_all message_fits ms ≡ true → IsFitting s → IsFitting (send ms s)
more_messages s ms h f = record { shard = f.shard; voters = f.voters; requests = f.requests; outbox = all_append message_fits s.outbox ms f.outbox h }

other_local : (s : Shard) (l : Local) → IsFitting s → IsFitting (record s { local = l })
other_local s l f = record { shard = f.shard; voters = f.voters; requests = f.requests; outbox = f.outbox }

other_requests : (s : Shard) (qs : Table Request) → list_all request_fits qs ≡ true → IsFitting s → IsFitting (record s { requests = qs })
other_requests s qs h f = record { shard = f.shard; voters = f.voters; requests = h; outbox = f.outbox }

other_voters : (s : Shard) (vs : Table Voter) → list_all voter_fits vs ≡ true → IsFitting s → IsFitting (record s { voters = vs })
other_voters s vs h f = record { shard = f.shard; voters = h; requests = f.requests; outbox = f.outbox }

-- ---- rulings

RulingFits : Option Ruling → Type 0
RulingFits None = Unit {0}
RulingFits (Some (CommitVerdict parts)) = AreParts parts
RulingFits (Some Acknowledge) = Unit {0}
RulingFits (Some (AbortVerdict cause to)) = list_all (λ p. nat_lt p 16) to ≡ true
RulingFits (Some EndVerdict) = Unit {0}

agreed_fits : (f : PartFacts) (b : Bool) (ps : List ℕ) → AreParts ps → RulingFits (agreed_ruling f b ps)
unfolding RulingFits
agreed_fits f b (p ∷ ps) g = g
agreed_fits f true [] g = g
agreed_fits f false [] g = at (has_durable_predecessors f)
  where
    at : (c : Bool) → RulingFits (cond c (Some Acknowledge) None)
    at true = tt
    at false = tt

refused_fits : (shard : ℕ) (q : Request) (o : Option AbortCause) → list_all (λ p. nat_lt p 16) (open_shards shard q) ≡ true → RulingFits (refused_ruling shard q o)
unfolding RulingFits
refused_fits shard q None h = tt
refused_fits shard q (Some cause) h = h

ended_fits : (q : Request) (ps : List ℕ) → RulingFits (end_ruling q ps)
unfolding RulingFits
ended_fits q [] = tt
ended_fits q (p ∷ ps) = at (not q.is_ended && list_all (λ n. nat_in n q.acknowledged_by) (p ∷ ps))
  where
    at : (c : Bool) → RulingFits (cond c (Some EndVerdict) None)
    at true = tt
    at false = tt

undecided_fits : (shard : ℕ) (tx : TxId) (q : Request) (f : PartFacts) (b : Bool) → nat_lt shard 16 ≡ true → RequestFits tx q → RulingFits (undecided_ruling shard tx q f b)
undecided_fits shard tx q f true h r = agreed_fits f f.updates (yes_shards shard q) (some_others _ shard q.touched h r.rise r.low)
undecided_fits shard tx q f false h r =
    refused_fits shard q (refusal tx q f) (all_filter (λ p. nat_lt p 16) (λ p. is_open (vote_from p q.votes)) (others shard q.touched) (others_low shard q.touched r.low))

ruling_fits : (shard : ℕ) (tx : TxId) (q : Request) (f : PartFacts) → nat_lt shard 16 ≡ true → RequestFits tx q → RulingFits (ruling_by shard tx q f)
unfolding RulingFits
ruling_fits shard tx q f h r = at q.state
  where
    at : (st : RequestState) → RulingFits (ruling_in shard tx q f st)
    at Undecided = undecided_fits shard tx q f (is_agreed shard q f) h r
    at (Committed parts) = ended_fits q parts
    at Finished = tt
    at (Refused cause) = tt

-- ---- what is due

-- the log has no less than before, and names fit where it is short
record Next (s t : Shard) : Type 0 where
  grows : length s.local.log ≤ length t.local.log
  named : IsShort t.local → IsNamed s → IsNamed t

commit_says : (s : Shard) (tx : TxId) (q : Option Request) (v : Option Voter) → tx_get tx s.requests ≡ q → tx_get tx s.voters ≡ v → IsFitting s → list_all message_fits (commit_messages s tx q v) ≡ true
commit_says s tx (Some q) v e d f = let r = request_at s tx q f e in at q.state r.parts r.name
  where
    at : (st : RequestState) → list_all (λ p. nat_lt p 16) (parts_of st) ≡ true → tx_has_spelling tx ≡ true → list_all message_fits (by_state tx s.shard st) ≡ true
    at (Committed parts) low n = decides_fit tx s.shard true parts n f.shard low
    at Undecided low n = refl
    at Finished low n = refl
    at (Refused cause) low n = refl
commit_says s tx None (Some v) e d f = let r = voter_at s tx v f d in and_from _ _ (and_from _ _ (and_from _ _ r.name r.home) f.shard) refl
commit_says s tx None None e d f = refl

commit_next : (s : Shard) (tx : TxId) → Next s (with_commit_done s tx)
commit_next s tx = record {
  grows = omega arith;
  named = λ short n. record {
    fitting = more_messages (finish_part tx s) _ (commit_says s tx (tx_get tx s.requests) (tx_get tx s.voters) refl refl n.fitting) (other_local s _ n.fitting);
    spelled = ends_keep (tx ∷ []) None s.local n.spelled;
  };
}

voted_fits : (s : Shard) (tx : TxId) (v : Voter) (vote : Vote) → tx_get tx s.voters ≡ Some v → IsFitting s → IsFitting (with_vote s tx v vote)
voted_fits s tx v vote e f =
    let r = voter_at s tx v f e in
    more_messages _ (VoteMessage v.home tx s.shard vote ∷ []) (and_from _ _ (and_from _ _ (and_from _ _ r.name r.home) f.shard) refl)
    (other_voters s (tx_set tx (voted vote v) s.voters) (set_passes voter_fits tx (voted vote v) s.voters (and_from _ _ r.name r.home) f.voters) f)

give_next : (s : Shard) (tx : TxId) (v : Voter) (x : Vote) → tx_get tx s.voters ≡ Some v → Next s (finish_reader tx x (with_vote s tx v x))
give_next s tx v Yes e = record { grows = omega arith; named = λ short n. record { fitting = voted_fits s tx v Yes e n.fitting; spelled = n.spelled } }
give_next s tx v Read e =
    record { grows = omega arith; named = λ short n. record { fitting = other_local _ _ (voted_fits s tx v Read e n.fitting); spelled = ends_keep (tx ∷ []) None s.local n.spelled } }
give_next s tx v (No why) e = record { grows = omega arith; named = λ short n. record { fitting = voted_fits s tx v (No why) e n.fitting; spelled = n.spelled } }

-- the request with its ruling
ruled_fits : (s : Shard) (tx : TxId) (q : Request) (ruling : Ruling) → RequestFits tx q → list_all (λ p. nat_lt p 16) (parts_of (ruled_request ruling q).state) ≡ true
    → (ruled_request ruling q).touched ≡ q.touched → IsFitting s → IsFitting (with_ruling tx q ruling s)
ruled_fits s tx q ruling r parts same f =
    other_requests s (tx_set tx (ruled_request ruling q) s.requests)
    (set_passes request_fits tx (ruled_request ruling q) s.requests (request_test tx (ruled_request ruling q) r.name (subst (λ ts. shards_fit ts ≡ true) (sym same) (touched_test tx q r)) parts) f.requests) f

longer : (xs ys : List LogRecord) → length xs ≤ length (xs ++ ys)
longer xs ys = let a = length-append xs ys in omega (arith, a)

longer_twice : (xs ys zs : List LogRecord) → length xs ≤ length (xs ++ ys ++ zs)
longer_twice xs ys zs = let a = longer xs ys in let b = longer (xs ++ ys) zs in omega (arith, a, b)

rule_next : (s : Shard) (tx : TxId) (q : Request) (r : Ruling) → (IsFitting s → RequestFits tx q) → (IsFitting s → RulingFits (Some r)) → Next s (do_ruling tx r (with_ruling tx q r s))
unfolding RulingFits
rule_next s tx q (CommitVerdict parts) is fits =
    record {
      grows = longer s.local.log (CommitRecord tx parts ∷ []);
      named = λ short n. let r = is n.fitting in let g = fits n.fitting in record {
        fitting = other_local _ _ (ruled_fits s tx q (CommitVerdict parts) r g.low refl n.fitting);
        spelled = records_keep (CommitRecord tx parts ∷ []) s.local (and_from _ _ (and_from _ _ (and_from _ _ (and_from _ _ r.name g.few) g.low) g.rise) refl) n.spelled;
      };
    }
rule_next s tx q Acknowledge is fits =
    record { grows = omega arith; named = λ short n. let r = is n.fitting in let g = fits n.fitting in record { fitting = other_local _ _ (ruled_fits s tx q Acknowledge r refl refl n.fitting); spelled = ends_keep (tx ∷ []) None s.local n.spelled } }
rule_next s tx q (AbortVerdict cause to) is fits =
    record {
      grows = longer_twice s.local.log _ _;
      named = λ short n. let r = is n.fitting in let g = fits n.fitting in record {
        fitting = more_messages _ _ (decides_fit tx s.shard false to r.name n.fitting.shard g) (other_local _ _ (ruled_fits s tx q (AbortVerdict cause to) r refl refl n.fitting));
        spelled = aborts_keep tx s.local (shorter s.local.log _ (longer_twice s.local.log _ _) short) n.spelled;
      };
    }
  where
    shorter : (xs ys : List LogRecord) → length xs ≤ length ys → length ys < 2 ^ 64 → length xs < 2 ^ 64
    shorter xs ys h k = omega (arith, h, k)
rule_next s tx q EndVerdict is fits =
    record {
      grows = longer s.local.log (EndRecord tx ∷ []);
      named = λ short n. let r = is n.fitting in let g = fits n.fitting in record {
        fitting = other_local _ _ (ruled_fits s tx q EndVerdict r r.parts refl n.fitting);
        spelled = records_keep (EndRecord tx ∷ []) s.local (and_from _ _ r.name refl) n.spelled;
      };
    }

due_next : (s : Shard) (tx : TxId) → IfDue (Next s) (due_of s tx)
due_next s tx =
    due_holds (Next s) s tx (λ e. commit_next s tx) (λ v x e f. give_next s tx v x e)
    (λ q r e f. rule_next s tx q r (λ g. request_at s tx q g e) (λ g. subst RulingFits f (ruling_fits s.shard tx q (facts_of s tx) g.shard (request_at s tx q g e))))

chain : (s t u : Shard) → Next s t → Next t u → Next s u
chain s t u p q = let a = p.grows in let b = q.grows in record {
  grows = omega (arith, a, b);
  named = λ short n. q.named short (p.named (shorter t u b short) n);
}
  where
    shorter : (t u : Shard) → length t.local.log ≤ length u.local.log → length u.local.log < 2 ^ 64 → length t.local.log < 2 ^ 64
    shorter t u h k = omega (arith, h, k)

do_next : (n : ℕ) (s : Shard) → Next s (do_due n s)
do_next = do_holds Next (λ s. record { grows = omega arith; named = λ short n. n }) chain due_next

pub finishes_keep_names : FinishesKeepNames
finishes_keep_names s short n =
    let m : IsNamed (do_due (work s) s) = (do_next (work s) s).named short n in record { fitting = other_local _ _ m.fitting; spelled = purges_keep (do_due (work s) s).local m.spelled }

-- ---- events

-- names fit in the state after it, where its log is short
abbrev NamedBy : Reply → Type 0
NamedBy (QuietBeforeWorn o) = Unit {0}
NamedBy (QuietAfterWorn o) = Unit {0}
NamedBy (Does o t) = IsShort t.local → IsNamed t

named_both : (b : Bool) (x y : Reply) → NamedBy x → NamedBy y → NamedBy (cond b x y)
named_both true x y p q = p
named_both false x y p q = q

fin : (s : Shard) → IsNamed s → IsShort (finish s).local → IsNamed (finish s)
fin s n short = finishes_keep_names s short n

-- with another local state, and with another table or other messages
with_spelled : (s : Shard) (l : Local) → IsSpelled l → IsNamed s → IsNamed (record s { local = l })
with_spelled s l h n = record { fitting = other_local s l n.fitting; spelled = h }

NamedOp : OpReply → Type 0
NamedOp (OpWaits t) = Unit {0}
NamedOp (OpCrowded k) = Unit {0}
NamedOp (OpDies c l) = IsSpelled l
NamedOp (OpAnswers a l) = IsSpelled l

without_named : (tx : TxId) (l : Local) → IsShort l → IsSpelled l → IsSpelled (without_part tx l)
without_named tx l short h = at (is_present (stage_of l tx))
  where
    at : (b : Bool) → IsSpelled (rolled_back_if b tx l)
    at true = aborts_keep tx l short h
    at false = h

granted_named : (l : Local) (tx : TxId) (birth : Birth) (op : Op) (b : Bool) → tx_has_spelling tx ≡ true → fits_op op ≡ true → IsSpelled l → NamedOp (op_granted l tx birth op b)
unfolding NamedOp
granted_named l tx birth op true n f h = tt
granted_named l tx birth op false n f h = operations_keep tx birth op l n f h

decided_named : (l : Local) (tx : TxId) (birth : Birth) (op : Op) (v : Decision) → tx_has_spelling tx ≡ true → fits_op op ≡ true → IsShort l → IsSpelled l → NamedOp (op_decided l tx birth op v)
unfolding NamedOp
decided_named l tx birth op (Die older) n f short h = without_named tx l short h
decided_named l tx birth op (Wait younger) n f short h = tt
decided_named l tx birth op Grant n f short h = granted_named l tx birth op _ n f h

active_named : (l : Local) (tx : TxId) (birth : Birth) (op : Op) → tx_has_spelling tx ≡ true → fits_op op ≡ true → IsShort l → IsSpelled l → NamedOp (op_active l tx birth op)
active_named l tx birth op n f short h = decided_named l tx birth op (decide tx birth (needs_of op l.records) l.locks) n f short h

stage_named : (l : Local) (tx : TxId) (birth : Birth) (op : Op) (st : Option Stage) → tx_has_spelling tx ≡ true → fits_op op ≡ true → IsShort l → IsSpelled l → NamedOp (op_by_stage l tx birth op st)
unfolding NamedOp
stage_named l tx birth op None n f short h = active_named l tx birth op n f short h
stage_named l tx birth op (Some Active) n f short h = active_named l tx birth op n f short h
stage_named l tx birth op (Some Closed) n f short h = h
stage_named l tx birth op (Some (Gone None)) n f short h = h
stage_named l tx birth op (Some (Gone (Some x))) n f short h = h

seen_named : (shard : ℕ) (l : Local) (tx : TxId) (birth : Birth) (seen : Option ℕ) (op : Op) (b : Bool) → tx_has_spelling tx ≡ true → fits_op op ≡ true → IsShort l → IsSpelled l
    → NamedOp (op_seen shard l tx birth seen op b)
unfolding NamedOp
seen_named shard l tx birth seen op false n f short h = without_named tx l short h
seen_named shard l tx birth seen op true n f short h = stage_named l tx birth op (stage_of l tx) n f short h

op_named : (s : Shard) (r : OpReply) → IsNamed s → NamedOp r → NamedBy (op_event s r)
unfolding NamedOp
op_named s (OpWaits t) n k = tt
op_named s (OpCrowded m) n k = tt
op_named s (OpDies c l) n k = fin (record s { local = l }) (with_spelled s l k n)
op_named s (OpAnswers a l) n k = fin (record s { local = l }) (with_spelled s l k n)

-- the shards of a request's event
event_shards : (shard : ℕ) (touched : List (ℕ × ℕ)) → touched_fit shard touched ≡ true → (numbers_rise (map (λ t. t.0) touched) ≡ true) × (list_all (λ t. nat_lt t.0 16) touched ≡ true)
event_shards shard touched h =
    let two = and_parts (numbers_rise (map (λ t. t.0) touched) && list_all (λ t. nat_lt t.0 16) touched) _ h in and_parts (numbers_rise (map (λ t. t.0) touched)) (list_all (λ t. nat_lt t.0 16) touched) two.0

coordinated : (tx : TxId) (touched : List (ℕ × ℕ)) (s : Shard) → tx_has_spelling tx ≡ true → touched_fit s.shard touched ≡ true → IsFitting s → IsFitting (coordinate tx touched s)
coordinated tx touched s n h f =
    let two = event_shards s.shard touched h in
    more_messages _ (prepares s.shard tx touched) (prepares_fit tx s.shard (filter (λ t. not (t.0 == s.shard)) touched) n f.shard (all_filter (λ t. nat_lt t.0 16) (λ t. not (t.0 == s.shard)) touched two.1))
    (other_requests s _ (put_passes request_fits tx (new_request touched Undecided) s.requests (request_test tx (new_request touched Undecided) n (and_from _ _ two.0 two.1) refl) f.requests) f)

rolled_named : (s : Shard) (tx : TxId) (n : ℕ) (st : Option Stage) → IsShort s.local → IsNamed s → NamedBy (roll_by_stage s tx n st)
rolled_named s tx n (Some (Gone (Some x))) short k = fin s k
rolled_named s tx n (Some (Gone None)) short k = fin s k
rolled_named s tx n (Some Closed) short k = fin s k
rolled_named s tx n (Some Active) short k = fin (with_local (roll_to tx n) s) (with_spelled s (roll_to tx n s.local) (rolls_keep tx n s.local short k.spelled) k)
rolled_named s tx n None short k = fin s k

roll_named : (s : Shard) (tx : TxId) (seen upto : ℕ) (b : Bool) → IsShort s.local → IsNamed s → NamedBy (roll_event s tx seen upto b)
roll_named s tx seen upto false short k = fin s k
roll_named s tx seen upto true short k = rolled_named s tx (count_after upto (standing_numbers tx s.journal)) (stage_of s.local tx) short k

asked_named : (s : Shard) (tx : TxId) (touched : List (ℕ × ℕ)) (st : Option Stage) → tx_has_spelling tx ≡ true → touched_fit s.shard touched ≡ true → FewUndecided s.local → IsNamed s
    → NamedBy (request_by_stage s tx touched st)
asked_named s tx touched (Some (Gone (Some x))) k h few n = fin s n
asked_named s tx touched (Some (Gone None)) k h few n = fin s n
asked_named s tx touched (Some Closed) k h few n = fin s n
asked_named s tx touched (Some Active) k h few n =
    fin _
    (record {
      fitting = coordinated tx touched _ k h (other_local s _ n.fitting);
      spelled = closings_keep tx s.shard (is_alone (others s.shard touched)) s.local (ltb-true s.shard 16 n.fitting.shard) (few tx) n.spelled;
    })
asked_named s tx touched None k h few n = fin _ (record { fitting = coordinated tx touched s k h n.fitting; spelled = n.spelled })

request_named : (s : Shard) (tx : TxId) (touched : List (ℕ × ℕ)) (b : Bool) → tx_has_spelling tx ≡ true → touched_fit s.shard touched ≡ true → FewUndecided s.local → IsNamed s → NamedBy (request_event s tx touched b)
request_named s tx touched false k h few n = fin s n
request_named s tx touched true k h few n = asked_named s tx touched (stage_of s.local tx) k h few n

state_named : (s : Shard) (st : RequestState) → IsNamed s → NamedBy (look_state s st)
state_named s Undecided n = tt
state_named s (Committed parts) n = tt
state_named s Finished n = fin s n
state_named s (Refused cause) n = fin s n

lost_named : (s : Shard) (tx : TxId) (o : Option ℕ) → IsNamed s → NamedBy (look_lost s tx o)
lost_named s tx None n = tt
lost_named s tx (Some e) n = named_both (e == s.local.epoch) _ _ tt (fin s n)

known_named : (s : Shard) (tx : TxId) (o : Option Request) → IsNamed s → NamedBy (look_known s tx o)
known_named s tx (Some q) n = state_named s q.state n
known_named s tx None n = named_both (committed_in s.local.log tx) _ _ tt (lost_named s tx (request_epoch s.shard tx s.journal) n)

drop_named : (s : Shard) (tx : TxId) (st : Option Stage) → IsShort s.local → IsNamed s → NamedBy (drop_event s tx st)
drop_named s tx None short n = tt
drop_named s tx (Some st) short n = fin (with_local (drop_part tx) s) (with_spelled s (drop_part tx s.local) (drops_keep tx s.local short n.spelled) n)

owed_fits : (tx : TxId) (home seen : ℕ) (s : Shard) → tx_has_spelling tx ≡ true → nat_lt home 16 ≡ true → IsFitting s → IsFitting (owe_vote tx home seen s)
owed_fits tx home seen s n h f = other_voters s _ (put_passes voter_fits tx (asked_voter home seen (tx_get tx s.voters)) s.voters (at (tx_get tx s.voters) refl) f.voters) f
  where
    at : (o : Option Voter) → tx_get tx s.voters ≡ o → voter_fits (tx, asked_voter home seen o) ≡ true
    at None e = and_from _ _ n h
    at (Some v) e = and_from _ _ n (voter_at s tx v f e).home

prepare_named : (s : Shard) (tx : TxId) (home seen : ℕ) (st : Option Stage) → tx_has_spelling tx ≡ true → nat_lt home 16 ≡ true → FewUndecided s.local → IsNamed s → NamedBy (on_prepare s tx home seen st)
prepare_named s tx home seen (Some Active) k h few n =
    fin _ (record { fitting = owed_fits tx home seen _ k h (other_local s _ n.fitting); spelled = closings_keep tx home false s.local (ltb-true home 16 h) (few tx) n.spelled })
prepare_named s tx home seen (Some Closed) k h few n = fin _ (record { fitting = owed_fits tx home seen s k h n.fitting; spelled = n.spelled })
prepare_named s tx home seen (Some (Gone x)) k h few n = fin _ (record { fitting = owed_fits tx home seen s k h n.fitting; spelled = n.spelled })
prepare_named s tx home seen None k h few n =
    named_both (seen == s.local.epoch) _ _ tt (fin (owe_vote tx home seen s) (record { fitting = owed_fits tx home seen s k h n.fitting; spelled = n.spelled }))

vote_named : (s : Shard) (tx : TxId) (from : ℕ) (vote : Vote) (o : Option Request) → tx_get tx s.requests ≡ o → IsNamed s → NamedBy (on_vote s tx from vote o)
vote_named s tx from vote None e n = tt
vote_named s tx from vote (Some q) e n =
    let r = request_at s tx q n.fitting e in
    named_both (takes_vote s.shard from q) _ _
    (fin (with_votes tx from vote q s)
    (record {
      fitting = other_requests s _ (set_passes request_fits tx (with_vote_of from vote q) s.requests (request_test tx (with_vote_of from vote q) r.name (touched_test tx q r) r.parts) n.fitting.requests) n.fitting;
      spelled = n.spelled;
    })) tt

decided_shard : (s : Shard) (tx : TxId) (commit : Bool) → tx_has_spelling tx ≡ true → IsShort s.local → IsNamed s → IsNamed (decided s tx commit)
decided_shard s tx true k short n =
    record { fitting = other_local s _ n.fitting; spelled = records_keep (CommitRecord tx [] ∷ []) s.local (and_from _ _ (and_from _ _ (and_from _ _ (and_from _ _ k refl) refl) refl) refl) n.spelled }
decided_shard s tx false k short n = record { fitting = other_local s _ n.fitting; spelled = aborts_keep tx s.local short n.spelled }

decide_named : (s : Shard) (tx : TxId) (home : ℕ) (commit : Bool) (t : DecisionTaken) → tx_has_spelling tx ≡ true → nat_lt home 16 ≡ true → IsShort s.local → IsNamed s → NamedBy (on_decide s tx home commit t)
decide_named s tx home commit IsAwaited k h short n = fin (decided s tx commit) (decided_shard s tx commit k short n)
decide_named s tx home commit IsDone k h short n =
    fin (send (Done home tx s.shard ∷ []) s) (record { fitting = more_messages s _ (and_from _ _ (and_from _ _ (and_from _ _ k h) n.fitting.shard) refl) n.fitting; spelled = n.spelled })
decide_named s tx home commit IsStale k h short n = tt

done_named : (s : Shard) (tx : TxId) (from : ℕ) (o : Option Request) → tx_get tx s.requests ≡ o → IsNamed s → NamedBy (on_done s tx from o)
done_named s tx from None e n = tt
done_named s tx from (Some q) e n =
    let r = request_at s tx q n.fitting e in
    named_both (takes_done from q) _ _
    (fin (with_done tx from q s)
    (record {
      fitting = other_requests s _ (set_passes request_fits tx (with_done_of from q) s.requests (request_test tx (with_done_of from q) r.name (touched_test tx q r) r.parts) n.fitting.requests) n.fitting;
      spelled = n.spelled;
    })) tt

told_fits : (s : Shard) (tx : TxId) (from : ℕ) (o : Option Bool) → tx_has_spelling tx ≡ true → nat_lt from 16 ≡ true → nat_lt s.shard 16 ≡ true → list_all message_fits (ask_messages s tx from o) ≡ true
told_fits s tx from None k h m = refl
told_fits s tx from (Some commit) k h m = and_from _ _ (and_from _ _ (and_from _ _ k h) m) refl

message_named : (s : Shard) (m : Message) → message_fits m ≡ true → FewUndecided s.local → IsShort s.local → IsNamed s → NamedBy (on_message s m)
message_named s (Prepare to tx home seen) h few short n = let p = three (tx_has_spelling tx) (nat_lt to 16) (nat_lt home 16) h in prepare_named s tx home seen (stage_of s.local tx) p.0 p.2 few n
message_named s (VoteMessage to tx from vote) h few short n = vote_named s tx from vote (tx_get tx s.requests) refl n
message_named s (Decide to tx home commit) h few short n =
    let p = three (tx_has_spelling tx) (nat_lt to 16) (nat_lt home 16) h in decide_named s tx home commit (taken_by (facts_of s tx) commit) p.0 p.2 short n
message_named s (Done to tx from) h few short n = done_named s tx from (tx_get tx s.requests) refl n
message_named s (Ask to tx from) h few short n =
    let p = three (tx_has_spelling tx) (nat_lt to 16) (nat_lt from 16) h in
    fin _ (record { fitting = more_messages s _ (told_fits s tx from (ask_answer (tx_get tx s.requests) (facts_of s tx)) p.0 p.2 n.fitting.shard) n.fitting; spelled = n.spelled })

send_named : (s : Shard) (ms : List Message) → list_all message_fits ms ≡ true → IsNamed s → NamedBy (send_event s ms)
send_named s [] h n = tt
send_named s (m ∷ ms) h n =
    let two = and_parts (message_fits m) (list_all message_fits ms) h in
    fin (with_outbox ms s) (record { fitting = record { shard = n.fitting.shard; voters = n.fitting.voters; requests = n.fitting.requests; outbox = two.1 }; spelled = n.spelled })

-- ---- reminders

missing_fit : (shard : ℕ) (tx : TxId) (q : Request) (st : RequestState) → nat_lt shard 16 ≡ true → RequestFits tx q → list_all message_fits (missing_votes shard tx q st) ≡ true
missing_fit shard tx q Undecided h r = prepares_fit tx shard _ r.name h (all_filter (λ t. nat_lt t.0 16) _ q.touched r.low)
missing_fit shard tx q (Committed parts) h r = refl
missing_fit shard tx q Finished h r = refl
missing_fit shard tx q (Refused cause) h r = refl

dones_fit : (shard : ℕ) (tx : TxId) (q : Request) (st : RequestState) → nat_lt shard 16 ≡ true → tx_has_spelling tx ≡ true → list_all (λ p. nat_lt p 16) (parts_of st) ≡ true
    → list_all message_fits (missing_dones shard tx q st) ≡ true
dones_fit shard tx q (Committed parts) h k low = decides_fit tx shard true _ k h (all_filter (λ p. nat_lt p 16) _ parts low)
dones_fit shard tx q Undecided h k low = refl
dones_fit shard tx q Finished h k low = refl
dones_fit shard tx q (Refused cause) h k low = refl

each_fit : (f : TxId → Request → List Message) → ((tx : TxId) (q : Request) → RequestFits tx q → list_all message_fits (f tx q) ≡ true) → (qs : Table Request) → list_all request_fits qs ≡ true
    → list_all message_fits (each_request f qs) ≡ true
each_fit f g [] h = refl
each_fit f g (q ∷ qs) h =
    let two = and_parts (request_fits q) (list_all request_fits qs) h in all_append message_fits (f q.0 q.1) (each_request f qs) (g q.0 q.1 (request_is q.0 q.1 two.0)) (each_fit f g qs two.1)

home_fit : (s : Shard) (durable : List TxId) → IsFitting s → list_all message_fits (home_reminders s.shard s.requests durable) ≡ true
home_fit s durable f =
    all_append message_fits (each_request (λ tx q. missing_votes s.shard tx q q.state) s.requests) (each_request (λ tx q. due tx q (tx_in tx durable)) s.requests)
    (each_fit (λ tx q. missing_votes s.shard tx q q.state) (λ tx q r. missing_fit s.shard tx q q.state f.shard r) s.requests f.requests)
    (each_fit (λ tx q. due tx q (tx_in tx durable)) (λ tx q r. at tx q (tx_in tx durable) r) s.requests f.requests)
  where
    due : TxId → Request → Bool → List Message
    due tx q b = elim b [ true ↦ missing_dones s.shard tx q q.state | false ↦ [] ]

    at : (tx : TxId) (q : Request) (b : Bool) → RequestFits tx q → list_all message_fits (due tx q b) ≡ true
    at tx q true r = dones_fit s.shard tx q q.state f.shard r.name r.parts
    at tx q false r = refl

asks_fit : (s : Shard) (txs : List TxId) → IsFitting s → list_all message_fits (asks s.shard s.voters txs) ≡ true
asks_fit s [] f = refl
asks_fit s (tx ∷ txs) f = all_append message_fits (ask_by s.shard tx (tx_get tx s.voters)) (asks s.shard s.voters txs) (at (tx_get tx s.voters) refl) (asks_fit s txs f)
  where
    at : (o : Option Voter) → tx_get tx s.voters ≡ o → list_all message_fits (ask_by s.shard tx o) ≡ true
    at None e = refl
    at (Some v) e = let r = voter_at s tx v f e in and_from _ _ (and_from _ _ (and_from _ _ r.name r.home) f.shard) refl

reminders_fit : (s : Shard) → IsFitting s → list_all message_fits (reminders s) ≡ true
reminders_fit s f = all_append message_fits (home_reminders s.shard s.requests (durable_requests s)) (asks s.shard s.voters (waiting_voters s)) (home_fit s (durable_requests s) f) (asks_fit s (waiting_voters s) f)

remind_named : (s : Shard) (os ms : List Message) → list_all message_fits ms ≡ true → IsNamed s → NamedBy (remind_with s os ms)
remind_named s [] (m ∷ ms) h n = fin (send (m ∷ ms) s) (record { fitting = more_messages s (m ∷ ms) h n.fitting; spelled = n.spelled })
remind_named s [] [] h n = tt
remind_named s (o ∷ os) ms h n = tt

-- ---- all events

-- the same shard but for what names don't stand in
like : (s t : Shard) → t.shard ≡ s.shard → t.voters ≡ s.voters → t.requests ≡ s.requests → t.outbox ≡ s.outbox → t.local ≡ s.local → IsNamed s → IsNamed t
like s t a b c d e n = record {
  fitting =
      record {
        shard = subst (λ x. nat_lt x 16 ≡ true) (sym a) n.fitting.shard;
        voters = subst (λ x. list_all voter_fits x ≡ true) (sym b) n.fitting.voters;
        requests = subst (λ x. list_all request_fits x ≡ true) (sym c) n.fitting.requests;
        outbox = subst (λ x. list_all message_fits x ≡ true) (sym d) n.fitting.outbox;
      };
  spelled = subst IsSpelled (sym e) n.spelled;
}

out_named : (s : Shard) (flight : Option ℕ) (k : ℕ) → IsNamed s → NamedBy (out_event s flight k)
out_named s flight zero n = tt
out_named s (Some m) (suc k) n = tt
out_named s None (suc k) n = fin _ (like s _ refl refl refl refl refl n)

landed_named : (s : Shard) (m : ℕ) (b : Bool) → IsNamed s → NamedBy (landed s m b)
landed_named s m true n = fin _ (like s _ refl refl refl refl refl n)
landed_named s m false n = λ short. like s _ refl refl refl refl refl n

up_named : (s : Shard) (e : Event) → event_fits s.shard e ≡ true → op_fits e ≡ true → FewUndecided s.local → IsShort s.local → IsNamed s → NamedBy (happen_up s e)
up_named s (OpEvent tx birth nth seen op) h f few short n =
    op_named s (op_reply s.shard s.local tx birth seen op) n (seen_named s.shard s.local tx birth seen op (seen_fits s.local.epoch seen) h f short n.spelled)
up_named s (RollTo tx nth seen upto) h f few short n = roll_named s tx seen upto (seen == s.local.epoch) short n
up_named s (RequestEvent tx touched) h f few short n =
    let two = and_parts (tx_has_spelling tx) (touched_fit s.shard touched) h in request_named s tx touched (seen_fits s.local.epoch (epoch_in s.shard touched)) two.0 two.1 few n
up_named s (Look tx) h f few short n = named_both (has_durable_commit (facts_of s tx)) _ _ (fin s n) (known_named s tx (tx_get tx s.requests) n)
up_named s (Drop tx) h f few short n = drop_named s tx (stage_of s.local tx) short n
up_named s Send h f few short n = send_named s s.outbox n.fitting.outbox n
up_named s (Deliver message stamp) h f few short n = named_both (to_of message == s.shard) _ _ (message_named s message h few short n) tt
up_named s Remind h f few short n = remind_named s s.outbox (reminders s) (reminders_fit s n.fitting) n
up_named s FlushOut h f few short n = out_named s s.flight (fitting 1048576 (drop (taken s) s.local.log)) n
up_named s FlushIn h f few short n = tt
up_named s Stop h f few short n = λ k. like s _ refl refl refl refl refl n
up_named s Restart h f few short n = tt

happen_named : (s : Shard) (e : Event) → event_fits s.shard e ≡ true → op_fits e ≡ true → FewUndecided s.local → IsShort s.local → IsNamed s → NamedBy (happen s e)
happen_named s e h f few short n = at s.is_up
  where
    at : (b : Bool) → NamedBy (elim b [ true ↦ happen_up s e | false ↦ QuietBeforeWorn Down ])
    at true = up_named s e h f few short n
    at false = tt

pub events_keep_names : EventsKeepNames
events_keep_names s t e o q h f few short after n = subst NamedBy q (happen_named s e h f few short n) after

pub landings_keep_names : LandingsKeepNames
landings_keep_names s t m b o q after n = subst NamedBy q (landed_named s m b n) after

-- ---- what is sent

abbrev SentBy : Reply → Type 0
SentBy (QuietBeforeWorn o) = Unit {0}
SentBy (QuietAfterWorn o) = Unit {0}
SentBy (Does o t) = sent_fits o ≡ true

send_fits : (s : Shard) (ms : List Message) → list_all message_fits ms ≡ true → SentBy (send_event s ms)
send_fits s [] h = tt
send_fits s (m ∷ ms) h = (and_parts (message_fits m) (list_all message_fits ms) h).0

up_sends : (s : Shard) (b : Bool) → IsFitting s → SentBy (elim b [ true ↦ happen_up s Send | false ↦ QuietBeforeWorn Down ])
up_sends s true f = send_fits s s.outbox f.outbox
up_sends s false f = tt

pub sends_fit : SendsFit
sends_fit s t o f q = subst SentBy q (up_sends s s.is_up f)
