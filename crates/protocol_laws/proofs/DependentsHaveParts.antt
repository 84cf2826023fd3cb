-- Each that depends on another has a part here: pairs come with a granted operation or a restart, which make the part too, and no part leaves the table.
use Rattle.std.proofs.Common.{◌≡◌, refl, sym, ap, subst, ℕ, zero, suc, ⊎_elim, Bool, true, false, cond, not, ◌==◌, List, [], ◌∷◌, map, drop, Option, Some, None}
use Rattle.std.proofs.lemmas.Bool.{both_ways, or_cases}
use Rattle.std.specs.List.{AllByRecursion}
use Rattle.std.specs.Map.{keys_of}
use Rattle.std.specs.declared.cmp.Ordering.{Ordering}
use Rattle.std.specs.declared.cmp.Ordering.TheVariants.{Less, Equal, Greater}
use Rattle.std.specs.Ordering.{match_ordering, is_eq}
use Rattle.clv_base.specs.declared.names.TxId.{TxId}
use Rattle.clv_base.specs.declared.names.Birth.{Birth}
use Rattle.clv_base.specs.declared.ops.Op.{Op}
use Rattle.clv_base.specs.declared.causes.Vote.{Vote}
use Rattle.clv_base.specs.declared.causes.Vote.TheVariants.{Yes, Read, No}
use Rattle.clv_base.specs.declared.messages.Message.{Message}
use Rattle.clv_base.specs.declared.messages.Message.TheVariants.{Prepare, Vote as VoteMessage, Decide, Done, Ask}
use Rattle.clv_base.specs.declared.events.Event.{Event}
use Rattle.clv_base.specs.declared.events.Event.TheVariants.{Op as OpEvent, RollTo, Request as RequestEvent, Look, Drop, Send, Deliver, Remind, FlushOut, FlushIn, Stop, Restart}
use Rattle.clv_base.specs.declared.events.Outcome.TheVariants.{Nothing, Down}
use Rattle.clv_base.specs.declared.state.Ruling.TheVariants.{Commit as CommitVerdict, Acknowledge, Abort as AbortVerdict, End as EndVerdict}
use Rattle.clv_base.specs.Orders.{Table, pair_cmp, pair_insert, tx_cmp, tx_same, tx_in, tx_get, tx_put}
use Rattle.clv_base.specs.declared.changes.Change.{Change}
use Rattle.clv_base.specs.Logs.{committed_in, in_doubt, fitting}
use Rattle.clv_base.specs.declared.modes.Decision.{Decision}
use Rattle.clv_base.specs.declared.modes.Decision.TheVariants.{Grant, Wait, Die}
use Rattle.clv_base.specs.Locks.{decide}
use Rattle.clv_base.specs.Needs.{needs_of, writes_of, value_at, key_of}
use Rattle.clv_base.specs.declared.state.Stage.{Stage}
use Rattle.clv_base.specs.declared.state.Stage.TheVariants.{Active, Closed, Gone}
use Rattle.clv_base.specs.declared.state.Held.{Held}
use Rattle.clv_base.specs.declared.state.Voter.{Voter}
use Rattle.clv_base.specs.declared.state.RequestState.{RequestState}
use Rattle.clv_base.specs.declared.state.RequestState.TheVariants.{Undecided, Committed, Finished, Refused}
use Rattle.clv_base.specs.declared.state.Request.{Request}
use Rattle.clv_base.specs.declared.state.Ruling.{Ruling}
use Rattle.clv_base.specs.declared.state.Taken.{Taken as DecisionTaken}
use Rattle.clv_base.specs.declared.state.Taken.TheVariants.{Done as IsDone, Waiting as IsAwaited, Stale as IsStale}
use Rattle.clv_base.specs.State.{Local, Shard, with_local, is_present}
use Rattle.clv_base.specs.Undo.{stage_of, pairs_without, release_parts, roll_back, roll_to, doomed_here, undo}
use Rattle.clv_base.specs.Backs.{standing_numbers, count_after}
use Rattle.clv_base.specs.Facts.{facts_of, has_durable_commit}
use Rattle.clv_base.specs.Participant.{taken_by}
use Rattle.clv_base.specs.Coordinator.{others, takes_vote, takes_done}
use Rattle.clv_base.specs.OneShard.{OpReply, OpWaits, OpCrowded, OpDies, OpAnswers, seen_fits, op_reply, op_seen, op_by_stage, op_active, op_decided, op_granted, written, locked, performed, active_part, new_part, add_pairs, violated_here, rolled_back_if, without_part, close_part, drop_part}
use Rattle.clv_base.specs.Due.{due_of, do_due, work, finish_reader, with_vote, do_ruling, with_ruling}
use Rattle.clv_base.specs.Events.{Reply, QuietBeforeWorn, QuietAfterWorn, Does, finish, op_event, roll_by_stage, roll_event, is_alone, epoch_in, coordinate, request_by_stage, request_event, look_lost, look_state, look_known, request_epoch, drop_event, owe_vote, on_prepare, with_votes, on_vote, decided, on_decide, with_done, on_done, on_message, to_of, with_outbox, send_event, reminders, remind_with, with_durable, out_event, taken, landed, happen_up, happen, CallAnswer, Quiet, Worn, Enters, next_stamp, stamped, step, land_up, land}
use Rattle.clv_base.specs.Restarts.{restored_parts, log_left, next_epoch, log_after_restart, revived, revive_down, revive}
use Rattle.clv_base.proofs.SameNames.{or_left, or_right, tx_true, tx_self, tx_eq}
use Rattle.law_base.proofs.Lists.{all_mono, all_kept}
use Rattle.protocol_laws.specs.Depending.{HasPart, DependentsHaveParts, RestartsHaveParts, DueKeepsParts, EventsKeepParts, LandingKeepsParts}
use Rattle.law_base.proofs.Names.{keys_restored, own_in}
use Rattle.law_base.proofs.Logs.{restored_have}
use Rattle.protocol_laws.proofs.Due.DueCaseByCase.{IfDue, due_holds, do_holds}

-- ---- parts stay in the table

pub keys_stay : (f : TxId × Held → Held) (parts : Table Held) → keys_of (map (λ p. (p.0, f p)) parts) ≡ keys_of parts
keys_stay f [] = refl
keys_stay f (p ∷ ps) = ap (λ ks. p.0 ∷ ks) (keys_stay f ps)

changed : (f : TxId × Held → Held) (parts : Table Held) (pairs : List (TxId × TxId)) → AllByRecursion (λ p. HasPart parts p.0) pairs → AllByRecursion (λ p. HasPart (map (λ p. (p.0, f p)) parts) p.0) pairs
changed f parts pairs a = subst (λ ks. AllByRecursion (λ p. tx_in p.0 ks ≡ true) pairs) (sym (keys_stay f parts)) a

pub put_keeps : (t : TxId) (h : Held) (x : TxId) (parts : Table Held) → HasPart parts x → HasPart (tx_put t h parts) x
put_keeps t h x [] e = absurd (both_ways false refl e)
put_keeps t h x (r ∷ rs) e = at (tx_cmp t r.0) (put_keeps t h x rs)
  where
    at : (o : Ordering) → (HasPart rs x → HasPart (tx_put t h rs) x) → HasPart (match_ordering o ((t, h) ∷ r ∷ rs) ((r.0, h) ∷ rs) (r ∷ tx_put t h rs)) x
    at Less more = or_right (tx_same t x) _ e
    at Equal more = e
    at Greater more = ⊎_elim (λ s. or_left (tx_same r.0 x) _ s) (λ i. or_right (tx_same r.0 x) _ (more i)) (or_cases (tx_same r.0 x) (tx_in x (keys_of rs)) e)

pub put_has : (t : TxId) (h : Held) (parts : Table Held) → HasPart (tx_put t h parts) t
put_has t h [] = or_left (tx_same t t) false (tx_self t)
put_has t h (r ∷ rs) = at (tx_cmp t r.0) refl (put_has t h rs)
  where
    at : (o : Ordering) → tx_cmp t r.0 ≡ o → HasPart (tx_put t h rs) t → HasPart (match_ordering o ((t, h) ∷ r ∷ rs) ((r.0, h) ∷ rs) (r ∷ tx_put t h rs)) t
    at Less e more = or_left (tx_same t t) _ (tx_self t)
    at Equal e more = or_left (tx_same r.0 t) _ (tx_eq r.0 t (sym (tx_true t r.0 (ap is_eq e))))
    at Greater e more = or_right (tx_same r.0 t) _ more

pub get_has : (t : TxId) (h : Held) (parts : Table Held) → tx_get t parts ≡ Some h → HasPart parts t
get_has t h [] e = absurd cc
get_has t h (r ∷ rs) e = at (tx_same t r.0) refl e (get_has t h rs)
  where
    at : (b : Bool) → tx_same t r.0 ≡ b → cond b (Some r.1) (tx_get t rs) ≡ Some h → (tx_get t rs ≡ Some h → HasPart rs t) → HasPart (r ∷ rs) t
    at true s e more = or_left (tx_same r.0 t) _ (tx_eq r.0 t (sym (tx_true t r.0 s)))
    at false s e more = or_right (tx_same r.0 t) _ (more e)

-- ---- what a transaction's operations, closing and abort do

insert_all : (P : TxId × TxId → Type 0) (q : TxId × TxId) (pairs : List (TxId × TxId)) → P q → AllByRecursion P pairs → AllByRecursion P (pair_insert q pairs)
insert_all P q [] p a = (p, tt)
insert_all P q (r ∷ rs) p a = at (pair_cmp q r) (insert_all P q rs p a.1)
  where
    at : (o : Ordering) → AllByRecursion P (pair_insert q rs) → AllByRecursion P (match_ordering o (q ∷ r ∷ rs) (r ∷ rs) (r ∷ pair_insert q rs))
    at Less more = (p, a)
    at Equal more = a
    at Greater more = (a.0, more)

add_all : (P : TxId × TxId → Type 0) (tx : TxId) (ps : List TxId) (pairs : List (TxId × TxId)) → ((v : TxId) → P (tx, v)) → AllByRecursion P pairs → AllByRecursion P (add_pairs tx ps pairs)
add_all P tx [] pairs p a = a
add_all P tx (q ∷ qs) pairs p a = add_all P tx qs (pair_insert (tx, q) pairs) p (insert_all P (tx, q) pairs (p q) a)

entered : (tx : TxId) (birth : Birth) (ps : List TxId) (parts : Table Held) (pairs : List (TxId × TxId)) (o : Option Held) → tx_get tx parts ≡ o → AllByRecursion (λ p. HasPart parts p.0) pairs
    → AllByRecursion (λ p. HasPart (new_part tx birth o parts) p.0) (add_pairs tx ps pairs)
entered tx birth ps parts pairs None e a =
    let more : Table Held = tx_put tx (active_part birth) parts in
    add_all (λ p. HasPart more p.0) tx ps pairs (λ v. put_has tx (active_part birth) parts) (all_mono (λ p. HasPart parts p.0) (λ p. HasPart more p.0) (λ p h. put_keeps tx (active_part birth) p.0 parts h) pairs a)
entered tx birth ps parts pairs (Some h) e a = add_all (λ p. HasPart parts p.0) tx ps pairs (λ v. get_has tx h parts e) a

written_keeps : (tx : TxId) (w : Option (ℕ × Change)) (l : Local) → DependentsHaveParts l → DependentsHaveParts (written tx w l)
written_keeps tx None l d = d
written_keeps tx (Some w) l d = d

pub performed_keeps : (tx : TxId) (birth : Birth) (op : Op) (l : Local) → DependentsHaveParts l → DependentsHaveParts (performed tx birth op l)
performed_keeps tx birth op l d =
    written_keeps tx (writes_of op (value_at (key_of op) l.records)) (locked tx birth op l)
    (entered tx birth (violated_here l tx op) l.parts l.pairs (tx_get tx l.parts) refl d)

released_keeps : (set : List TxId) (doom : Option TxId) (l : Local) → DependentsHaveParts l → DependentsHaveParts (release_parts set doom l)
released_keeps set doom l d = changed _ l.parts (pairs_without set l.pairs) (all_kept (λ p. HasPart l.parts p.0) (λ p. not (tx_in p.0 set)) l.pairs d)

pub rolled_keeps : (tx : TxId) (l : Local) → DependentsHaveParts l → DependentsHaveParts (roll_back tx l)
rolled_keeps tx l d = released_keeps (doomed_here l tx) (Some tx) (undo (doomed_here l tx) l) d

pub without_keeps : (tx : TxId) (l : Local) → DependentsHaveParts l → DependentsHaveParts (without_part tx l)
without_keeps tx l d = at (is_present (stage_of l tx))
  where
    at : (b : Bool) → DependentsHaveParts (rolled_back_if b tx l)
    at true = rolled_keeps tx l d
    at false = d

pub close_keeps : (tx : TxId) (home : ℕ) (one_shard : Bool) (l : Local) → DependentsHaveParts l → DependentsHaveParts (close_part tx home one_shard l)
close_keeps tx home one_shard l d = changed _ l.parts l.pairs d

pub drop_keeps : (tx : TxId) (l : Local) → DependentsHaveParts l → DependentsHaveParts (drop_part tx l)
drop_keeps tx l d = changed _ (without_part tx l).parts (without_part tx l).pairs (without_keeps tx l d)

-- ---- what is due

abbrev IsKept : Shard → Type 0
IsKept s = DependentsHaveParts s.local

vote_keeps : (s : Shard) (tx : TxId) (v : Voter) (x : Vote) → IsKept s → IsKept (finish_reader tx x (with_vote s tx v x))
vote_keeps s tx v Yes d = d
vote_keeps s tx v Read d = released_keeps (tx ∷ []) None s.local d
vote_keeps s tx v (No why) d = d

rule_keeps : (s : Shard) (tx : TxId) (q : Request) (r : Ruling) → IsKept s → IsKept (do_ruling tx r (with_ruling tx q r s))
rule_keeps s tx q (CommitVerdict parts) d = d
rule_keeps s tx q Acknowledge d = released_keeps (tx ∷ []) None s.local d
rule_keeps s tx q (AbortVerdict cause to) d = rolled_keeps tx s.local d
rule_keeps s tx q EndVerdict d = d

abbrev Keeps : Shard → Shard → Type 0
Keeps s t = IsKept s → IsKept t

due_keeps : (s : Shard) (tx : TxId) → IfDue (Keeps s) (due_of s tx)
due_keeps s tx = due_holds (Keeps s) s tx (λ e d. released_keeps (tx ∷ []) None s.local d) (λ v x e f. vote_keeps s tx v x) (λ q r e f. rule_keeps s tx q r)

do_keeps : (n : ℕ) (s : Shard) → DependentsHaveParts s.local → DependentsHaveParts (do_due n s).local
do_keeps = do_holds Keeps (λ s d. d) (λ s t u f g d. g (f d)) due_keeps

finish_keeps : (s : Shard) → DependentsHaveParts s.local → DependentsHaveParts (finish s).local
finish_keeps s d = do_keeps (work s) s d

pub due_keeps_parts : DueKeepsParts
due_keeps_parts = (λ s t tx e. subst (IfDue (Keeps s)) e (due_keeps s tx), λ s d. do_keeps (work s) s d)

-- ---- events

abbrev KeptBy : Reply → Type 0
KeptBy (QuietBeforeWorn o) = Unit {0}
KeptBy (QuietAfterWorn o) = Unit {0}
KeptBy (Does o t) = DependentsHaveParts t.local

kept_both : (b : Bool) (x y : Reply) → KeptBy x → KeptBy y → KeptBy (cond b x y)
kept_both true x y p q = p
kept_both false x y p q = q

abbrev KeptOp : OpReply → Type 0
KeptOp (OpWaits t) = Unit {0}
KeptOp (OpCrowded n) = Unit {0}
KeptOp (OpDies c l) = DependentsHaveParts l
KeptOp (OpAnswers a l) = DependentsHaveParts l

granted_keeps : (l : Local) (tx : TxId) (birth : Birth) (op : Op) (b : Bool) → DependentsHaveParts l → KeptOp (op_granted l tx birth op b)
granted_keeps l tx birth op true d = tt
granted_keeps l tx birth op false d = performed_keeps tx birth op l d

decided_keeps : (l : Local) (tx : TxId) (birth : Birth) (op : Op) (v : Decision) → DependentsHaveParts l → KeptOp (op_decided l tx birth op v)
decided_keeps l tx birth op (Die older) d = without_keeps tx l d
decided_keeps l tx birth op (Wait younger) d = tt
decided_keeps l tx birth op Grant d = granted_keeps l tx birth op _ d

active_keeps : (l : Local) (tx : TxId) (birth : Birth) (op : Op) → DependentsHaveParts l → KeptOp (op_active l tx birth op)
active_keeps l tx birth op d = decided_keeps l tx birth op (decide tx birth (needs_of op l.records) l.locks) d

stage_keeps : (l : Local) (tx : TxId) (birth : Birth) (op : Op) (st : Option Stage) → DependentsHaveParts l → KeptOp (op_by_stage l tx birth op st)
stage_keeps l tx birth op None d = active_keeps l tx birth op d
stage_keeps l tx birth op (Some Active) d = active_keeps l tx birth op d
stage_keeps l tx birth op (Some Closed) d = d
stage_keeps l tx birth op (Some (Gone None)) d = d
stage_keeps l tx birth op (Some (Gone (Some x))) d = d

seen_keeps : (shard : ℕ) (l : Local) (tx : TxId) (birth : Birth) (seen : Option ℕ) (op : Op) (b : Bool) → DependentsHaveParts l → KeptOp (op_seen shard l tx birth seen op b)
seen_keeps shard l tx birth seen op false d = without_keeps tx l d
seen_keeps shard l tx birth seen op true d = stage_keeps l tx birth op (stage_of l tx) d

op_keeps : (s : Shard) (r : OpReply) → KeptOp r → KeptBy (op_event s r)
op_keeps s (OpWaits t) k = tt
op_keeps s (OpCrowded n) k = tt
op_keeps s (OpDies c l) k = finish_keeps (record s { local = l }) k
op_keeps s (OpAnswers a l) k = finish_keeps (record s { local = l }) k

staged_keep : (s : Shard) (tx : TxId) (n : ℕ) (st : Option Stage) → DependentsHaveParts s.local → KeptBy (roll_by_stage s tx n st)
staged_keep s tx n (Some (Gone (Some x))) d = finish_keeps s d
staged_keep s tx n (Some (Gone None)) d = finish_keeps s d
staged_keep s tx n (Some Closed) d = finish_keeps s d
staged_keep s tx n (Some Active) d = finish_keeps (with_local (roll_to tx n) s) d
staged_keep s tx n None d = finish_keeps s d

rolls_keep : (s : Shard) (tx : TxId) (seen upto : ℕ) (b : Bool) → DependentsHaveParts s.local → KeptBy (roll_event s tx seen upto b)
rolls_keep s tx seen upto false d = finish_keeps s d
rolls_keep s tx seen upto true d = staged_keep s tx (count_after upto (standing_numbers tx s.journal)) (stage_of s.local tx) d

asked_keeps : (s : Shard) (tx : TxId) (touched : List (ℕ × ℕ)) (st : Option Stage) → DependentsHaveParts s.local → KeptBy (request_by_stage s tx touched st)
asked_keeps s tx touched (Some (Gone (Some x))) d = finish_keeps s d
asked_keeps s tx touched (Some (Gone None)) d = finish_keeps s d
asked_keeps s tx touched (Some Closed) d = finish_keeps s d
asked_keeps s tx touched (Some Active) d =
    finish_keeps (coordinate tx touched (with_local (close_part tx s.shard (is_alone (others s.shard touched))) s)) (close_keeps tx s.shard (is_alone (others s.shard touched)) s.local d)
asked_keeps s tx touched None d = finish_keeps (coordinate tx touched s) d

request_event_keeps : (s : Shard) (tx : TxId) (touched : List (ℕ × ℕ)) (b : Bool) → DependentsHaveParts s.local → KeptBy (request_event s tx touched b)
request_event_keeps s tx touched false d = finish_keeps s d
request_event_keeps s tx touched true d = asked_keeps s tx touched (stage_of s.local tx) d

state_keeps : (s : Shard) (st : RequestState) → DependentsHaveParts s.local → KeptBy (look_state s st)
state_keeps s Undecided d = tt
state_keeps s (Committed parts) d = tt
state_keeps s Finished d = finish_keeps s d
state_keeps s (Refused cause) d = finish_keeps s d

lost_keeps : (s : Shard) (tx : TxId) (o : Option ℕ) → DependentsHaveParts s.local → KeptBy (look_lost s tx o)
lost_keeps s tx None d = tt
lost_keeps s tx (Some e) d = kept_both (e == s.local.epoch) _ _ tt (finish_keeps s d)

known_keeps : (s : Shard) (tx : TxId) (o : Option Request) → DependentsHaveParts s.local → KeptBy (look_known s tx o)
known_keeps s tx (Some q) d = state_keeps s q.state d
known_keeps s tx None d = kept_both (committed_in s.local.log tx) _ _ tt (lost_keeps s tx (request_epoch s.shard tx s.journal) d)

drop_event_keeps : (s : Shard) (tx : TxId) (st : Option Stage) → DependentsHaveParts s.local → KeptBy (drop_event s tx st)
drop_event_keeps s tx None d = tt
drop_event_keeps s tx (Some st) d = finish_keeps (with_local (drop_part tx) s) (drop_keeps tx s.local d)

prepare_keeps : (s : Shard) (tx : TxId) (home seen : ℕ) (st : Option Stage) → DependentsHaveParts s.local → KeptBy (on_prepare s tx home seen st)
prepare_keeps s tx home seen (Some Active) d = finish_keeps (owe_vote tx home seen (with_local (close_part tx home false) s)) (close_keeps tx home false s.local d)
prepare_keeps s tx home seen (Some Closed) d = finish_keeps (owe_vote tx home seen s) d
prepare_keeps s tx home seen (Some (Gone x)) d = finish_keeps (owe_vote tx home seen s) d
prepare_keeps s tx home seen None d = kept_both (seen == s.local.epoch) _ _ tt (finish_keeps (owe_vote tx home seen s) d)

on_vote_keeps : (s : Shard) (tx : TxId) (from : ℕ) (vote : Vote) (o : Option Request) → DependentsHaveParts s.local → KeptBy (on_vote s tx from vote o)
on_vote_keeps s tx from vote None d = tt
on_vote_keeps s tx from vote (Some q) d = kept_both (takes_vote s.shard from q) _ _ (finish_keeps (with_votes tx from vote q s) d) tt

ruled_keeps : (s : Shard) (tx : TxId) (commit : Bool) → DependentsHaveParts s.local → DependentsHaveParts (decided s tx commit).local
ruled_keeps s tx true d = d
ruled_keeps s tx false d = rolled_keeps tx s.local d

on_decide_keeps : (s : Shard) (tx : TxId) (home : ℕ) (commit : Bool) (t : DecisionTaken) → DependentsHaveParts s.local → KeptBy (on_decide s tx home commit t)
on_decide_keeps s tx home commit IsAwaited d = finish_keeps (decided s tx commit) (ruled_keeps s tx commit d)
on_decide_keeps s tx home commit IsDone d = finish_keeps _ d
on_decide_keeps s tx home commit IsStale d = tt

on_done_keeps : (s : Shard) (tx : TxId) (from : ℕ) (o : Option Request) → DependentsHaveParts s.local → KeptBy (on_done s tx from o)
on_done_keeps s tx from None d = tt
on_done_keeps s tx from (Some q) d = kept_both (takes_done from q) _ _ (finish_keeps (with_done tx from q s) d) tt

message_keeps : (s : Shard) (m : Message) → DependentsHaveParts s.local → KeptBy (on_message s m)
message_keeps s (Prepare to tx home seen) d = prepare_keeps s tx home seen (stage_of s.local tx) d
message_keeps s (VoteMessage to tx from vote) d = on_vote_keeps s tx from vote (tx_get tx s.requests) d
message_keeps s (Decide to tx home commit) d = on_decide_keeps s tx home commit (taken_by (facts_of s tx) commit) d
message_keeps s (Done to tx from) d = on_done_keeps s tx from (tx_get tx s.requests) d
message_keeps s (Ask to tx from) d = finish_keeps _ d

send_keeps : (s : Shard) (ms : List Message) → DependentsHaveParts s.local → KeptBy (send_event s ms)
send_keeps s [] d = tt
send_keeps s (m ∷ ms) d = finish_keeps (with_outbox ms s) d

remind_keeps : (s : Shard) (os ms : List Message) → DependentsHaveParts s.local → KeptBy (remind_with s os ms)
remind_keeps s [] (m ∷ ms) d = finish_keeps _ d
remind_keeps s [] [] d = tt
remind_keeps s (o ∷ os) ms d = tt

out_keeps : (s : Shard) (flight : Option ℕ) (n : ℕ) → DependentsHaveParts s.local → KeptBy (out_event s flight n)
out_keeps s flight zero d = tt
out_keeps s (Some n) (suc k) d = tt
out_keeps s None (suc k) d = finish_keeps _ d

landed_keeps : (s : Shard) (n : ℕ) (b : Bool) → DependentsHaveParts s.local → KeptBy (landed s n b)
landed_keeps s n true d = finish_keeps (with_durable n s) d
landed_keeps s n false d = d

up_keeps : (s : Shard) (e : Event) → DependentsHaveParts s.local → KeptBy (happen_up s e)
up_keeps s (OpEvent tx birth nth seen op) d = op_keeps s (op_reply s.shard s.local tx birth seen op) (seen_keeps s.shard s.local tx birth seen op (seen_fits s.local.epoch seen) d)
up_keeps s (RollTo tx nth seen upto) d = rolls_keep s tx seen upto (seen == s.local.epoch) d
up_keeps s (RequestEvent tx touched) d = request_event_keeps s tx touched (seen_fits s.local.epoch (epoch_in s.shard touched)) d
up_keeps s (Look tx) d = kept_both (has_durable_commit (facts_of s tx)) _ _ (finish_keeps s d) (known_keeps s tx (tx_get tx s.requests) d)
up_keeps s (Drop tx) d = drop_event_keeps s tx (stage_of s.local tx) d
up_keeps s Send d = send_keeps s s.outbox d
up_keeps s (Deliver message stamp) d = kept_both (to_of message == s.shard) _ _ (message_keeps s message d) tt
up_keeps s Remind d = remind_keeps s s.outbox (reminders s) d
up_keeps s FlushOut d = out_keeps s s.flight (fitting 1048576 (drop (taken s) s.local.log)) d
up_keeps s FlushIn d = tt
up_keeps s Stop d = d
up_keeps s Restart d = tt

happen_keeps : (s : Shard) (e : Event) → DependentsHaveParts s.local → KeptBy (happen s e)
happen_keeps s e d = at s.is_up
  where
    at : (b : Bool) → KeptBy (elim b [ true ↦ happen_up s e | false ↦ QuietBeforeWorn Down ])
    at true = up_keeps s e d
    at false = tt

-- ---- with the entry

abbrev KeptIn : CallAnswer → Type 0
KeptIn (Quiet o) = Unit {0}
KeptIn Worn = Unit {0}
KeptIn (Enters o t) = DependentsHaveParts t.local

stamped_keeps : (stamp walker : ℕ) (e : Event) (room : Bool) (r : Reply) → KeptBy r → KeptIn (stamped stamp walker e room r)
stamped_keeps stamp walker e room (QuietBeforeWorn o) k = tt
stamped_keeps stamp walker e false (QuietAfterWorn o) k = tt
stamped_keeps stamp walker e true (QuietAfterWorn o) k = tt
stamped_keeps stamp walker e false (Does o s) k = tt
stamped_keeps stamp walker e true (Does o s) k = k

step_keeps : (s : Shard) (clock walker : ℕ) (e : Event) → DependentsHaveParts s.local → KeptIn (step s clock walker e)
step_keeps s clock walker e d = stamped_keeps (next_stamp s clock e) walker e _ (happen s e) (happen_keeps s e d)

pub events_keep_parts : EventsKeepParts
events_keep_parts = (λ s t e o q d. subst KeptBy q (happen_keeps s e d), λ s t clock walker e o q d. subst KeptIn q (step_keeps s clock walker e d))

land_up_keeps : (s : Shard) (clock walker : ℕ) (b : Bool) (o : Option ℕ) → DependentsHaveParts s.local → KeptIn (land_up s clock walker b o)
land_up_keeps s clock walker b None d = tt
land_up_keeps s clock walker b (Some n) d = stamped_keeps (next_stamp s clock FlushIn) walker FlushIn true (landed s n b) (landed_keeps s n b d)

land_keeps : (s : Shard) (clock walker : ℕ) (b : Bool) → DependentsHaveParts s.local → KeptIn (land s clock walker b)
land_keeps s clock walker b d = at s.is_up
  where
    at : (u : Bool) → KeptIn (elim u [ true ↦ land_up s clock walker b s.flight | false ↦ Quiet Down ])
    at true = land_up_keeps s clock walker b s.flight d
    at false = tt

-- ---- a restart

pub restarts_have_parts : RestartsHaveParts
restarts_have_parts shard run epoch log last journal =
    let ts = in_doubt shard log in
    restored_have (HasPart (restored_parts ts)) log ts (subst (λ ks. AllByRecursion (λ t. tx_in t ks ≡ true) ts) (sym (keys_restored ts)) (own_in ts))

revive_keeps : (s : Shard) (clock walker : ℕ) (b : Bool) → KeptIn (revive s clock walker b)
revive_keeps s clock walker b = at s.is_up
  where
    at : (u : Bool) → KeptIn (elim u [ true ↦ Quiet Nothing | false ↦ revive_down s clock walker (log_left s b) ])
    at true = tt
    at false =
        let found = log_left s b in let epoch = next_epoch s found in
        stamped_keeps (next_stamp s clock Restart) walker Restart _ (Does _ (revived s epoch (log_after_restart s.shard found s.run epoch)))
        (restarts_have_parts s.shard s.run epoch (log_after_restart s.shard found s.run epoch) s.last s.journal)

pub landing_keeps_parts : LandingKeepsParts
landing_keeps_parts = (λ s t clock walker b o q d. subst KeptIn q (land_keeps s clock walker b d), λ s t clock walker b o q. subst KeptIn q (revive_keeps s clock walker b))
