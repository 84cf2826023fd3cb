-- Histories of one shard alone, with restarts; its members; and what is to be shown of them.
use Rattle.std.specs.Prelude.{◌⊎◌, ◌≡◌, ⊤, ℕ, ◌+◌, ◌≤◌, ◌<◌, ◌&&◌, Bool, true, false, ◌||◌, not, List, [], ◌∷◌, ◌++◌, map, take, length, Option, Some, None, cond, zero, suc}
use Rattle.std.specs.List.{AllByRecursion, list_any, list_all, filter}
use Rattle.clv_base.specs.declared.names.TxId.{TxId}
use Rattle.clv_base.specs.declared.names.Birth.{Birth}
use Rattle.clv_base.specs.declared.state.Stage.{Stage}
use Rattle.clv_base.specs.declared.state.Stage.TheVariants.{Active, Closed, Gone}
use Rattle.clv_base.specs.declared.state.Held.{Held}
use Rattle.clv_base.specs.declared.logs.LogRecord.{LogRecord}
use Rattle.clv_base.specs.declared.logs.LogRecord.TheVariants.{Prepare as PrepareRecord}
use Rattle.clv_base.specs.declared.ops.Op.{Op}
use Rattle.clv_base.specs.declared.ops.Op.TheVariants.{Put, Del, Add}
use Rattle.clv_base.specs.declared.ops.Answer.{Answer}
use Rattle.clv_base.specs.declared.ops.Answer.TheVariants.{Value, Added}
use Rattle.clv_base.specs.declared.changes.Change.{Change}
use Rattle.clv_base.specs.declared.changes.Change.TheVariants.{Sets, Adds}
use Rattle.clv_base.specs.declared.events.Event.{Event}
use Rattle.clv_base.specs.declared.events.Event.TheVariants.{Op as OpEvent, RollTo, Request as RequestEvent, Look, Drop, Deliver, FlushIn, Restart as RestartEvent}
use Rattle.clv_base.specs.declared.events.Outcome.{Outcome}
use Rattle.clv_base.specs.declared.events.Outcome.TheVariants.{Answered, Rolled, Acknowledged, Up}
use Rattle.clv_base.specs.Orders.{tx_same, tx_in, tx_get}
use Rattle.clv_base.specs.Maps.{KeyMap, Act, Operates, GoesBack, Acts, replay_map, replay_answers}
use Rattle.clv_base.specs.Backs.{are_numbered}
use Rattle.clv_base.specs.Logs.{StandingUpdate, standing, committed_in, prepared_in, aborted_in, wrote_in, has_standing, in_doubt, is_winner, fold_updates, value_in, stands}
use Rattle.clv_base.specs.declared.messages.Message.{Message}
use Rattle.clv_base.specs.declared.messages.Message.TheVariants.{Prepare, Vote as VoteMessage, Decide, Done, Ask}
use Rattle.clv_base.specs.State.{Shard, Local, is_present}
use Rattle.clv_base.specs.Facts.{predecessors_of}
use Rattle.clv_base.specs.Needs.{value_at, live_pairs}
use Rattle.clv_base.specs.History.{IsQuiet}
use Rattle.clv_base.specs.declared.state.Voter.{Voter}
use Rattle.clv_base.specs.declared.state.Request.{Request}
use Rattle.clv_base.specs.declared.state.RequestState.TheVariants.{Undecided}
use Rattle.clv_base.specs.Undo.{stage_of}
use Rattle.clv_base.specs.Events.{Does, happen, landed, with_entry, epoch_in}
use Rattle.clv_base.specs.OneShard.{seen_fits, violated_here}
use Rattle.clv_base.specs.LogRules.{disorder, listed_in}
use Rattle.clv_base.specs.Restarts.{greatest_run, restored_pairs, opened, log_left, revived, Restarts}
use Rattle.law_base.specs.Items.{Item, Deed, Did, WentBack, is_beyond, held, Acts as ActsOf, after, AllLater, Clash}

-- what a shard did
pub record Deeds : Type 0 where
  -- all operations that were answered and all goings back, in their order
  pub done : List Deed
  -- those that made a request, in that order
  pub asked : List TxId
  -- those that were told of success
  pub told : List TxId
  -- transactions with those whose writes they violated
  pub met : List (TxId × TxId)
  -- those that fell
  pub fell : List TxId

abbrev pub no_deeds : Deeds
no_deeds = record { done = []; asked = []; told = []; met = []; fell = [] }

-- whose deed it is, and its number
abbrev pub doer : Deed → TxId
doer (Did x) = x.tx
doer (WentBack tx number upto) = tx

abbrev pub number_of : Deed → ℕ
number_of (Did x) = x.number
number_of (WentBack tx number upto) = number

abbrev pub deeds_of : TxId → List Deed → List Deed
deeds_of t all = filter (λ d. tx_same (doer d) t) all

abbrev pub deeds_by_chosen : (TxId → Bool) → List Deed → List Deed
deeds_by_chosen chosen all = filter (λ d. chosen (doer d)) all

-- the operations among deeds, those that were taken back later too
abbrev pub items_in : List Deed → List Item
items_in [] = []
items_in (Did x ∷ ds) = x ∷ items_in ds
items_in (WentBack tx number upto ∷ ds) = items_in ds

-- ---- what an event adds to all that was done, and to those that asked

abbrev pub with_one : {X : Type 0} → List X → Option X → List X
with_one xs None = xs
with_one xs (Some x) = xs ++ x ∷ []

abbrev pub new_deed : Shard → Event → Outcome → Option Deed
new_deed s (OpEvent tx birth nth seen op) (Answered answer epoch) = Some (Did (record { tx = tx; number = nth; op = op; answer = answer; lsn = 0 + length s.local.log }))
new_deed s (OpEvent tx birth nth seen op) _ = None
new_deed s (RollTo tx nth seen upto) Rolled = Some (WentBack tx nth upto)
new_deed s (RollTo tx nth seen upto) _ = None
new_deed s _ o = None

abbrev pub asks_by_stage : TxId → Option Stage → Bool → Option TxId
asks_by_stage tx (Some Active) true = Some tx
asks_by_stage tx (Some Active) false = None
asks_by_stage tx (Some Closed) b = None
asks_by_stage tx (Some (Gone d)) b = None
asks_by_stage tx None b = None

abbrev pub new_asked : Shard → Event → Option TxId
new_asked s (RequestEvent tx touched) = asks_by_stage tx (stage_of s.local tx) (seen_fits s.local.epoch (epoch_in s.shard touched))
new_asked s _ = None

-- ---- which events the sessions of one shard make

-- those whose writes a grant violated
abbrev pub new_met : Shard → Event → Outcome → List (TxId × TxId)
new_met s (OpEvent tx birth nth seen op) (Answered answer epoch) = map (λ p. (tx, p)) (violated_here s.local tx op)
new_met s (OpEvent tx birth nth seen op) _ = []
new_met s _ o = []

abbrev pub has_met : List (TxId × TxId) → TxId → TxId → Bool
has_met met t p = list_any (λ q. tx_same t q.0 && tx_same p q.1) met

-- the place of a transaction among those of a list, or how many there are
abbrev pub place : List TxId → TxId → ℕ
place [] t = zero
place (a ∷ as_) t = cond (tx_same t a) zero (suc (place as_ t))

-- a transaction without a part here, that does an operation in this epoch, is new: it has no record here, did nothing, and did not fall
pub record Fresh (d : Deeds) (s : Shard) (tx : TxId) : Type 0 where
  pub unwritten : wrote_in s.local.log tx ≡ false
  pub unprepared : prepared_in s.local.log tx ≡ false
  pub uncommitted : committed_in s.local.log tx ≡ false
  pub unaborted : aborted_in s.local.log tx ≡ false
  pub idle : deeds_of tx d.done ≡ []
  pub unmet : (p : TxId) → has_met d.met tx p ≡ true → ⊥
  pub unfallen : tx_in tx d.fell ≡ false

-- a transaction's deeds so far have lower numbers
abbrev pub AreBelow : TxId → ℕ → List Deed → Type 0
AreBelow tx nth all = AllByRecursion (λ d. doer d ≡ tx → number_of d < nth) all

-- an operation is of this run's transaction, with a number above those before, and none after a request; each transaction has one birth
pub record MayTouch (d : Deeds) (s : Shard) (tx : TxId) (birth : Birth) (nth : ℕ) (seen : Option ℕ) : Type 0 where
  pub of_run : tx.run ≡ s.run
  pub rises : AreBelow tx nth d.done
  pub not_closed : stage_of s.local tx ≡ Some Closed → ⊥
  pub not_asked : seen_fits s.local.epoch seen ≡ true → tx_in tx d.asked ≡ false
  pub fresh : seen_fits s.local.epoch seen ≡ true → tx_get tx s.local.parts ≡ None → Fresh d s tx
  pub same_birth : (h : Held) → tx_get tx s.local.parts ≡ Some h → h.birth ≡ birth

-- so is a going back, of a transaction that this epoch knows
pub record MayGoBack (d : Deeds) (s : Shard) (tx : TxId) (nth seen : ℕ) : Type 0 where
  pub of_run : tx.run ≡ s.run
  pub rises : AreBelow tx nth d.done
  pub known : seen ≡ s.local.epoch → tx_get tx s.local.parts ≡ None → ⊥

-- a request is the first of its transaction, which is of this run, and which no other shard has asked for its vote here
abbrev pub MayAsk : Deeds → Shard → TxId → Type 0
MayAsk d s tx = (tx_in tx d.asked ≡ false) × ((v : Voter) → tx_get tx s.voters ≡ Some v → ⊥) × (tx_get tx s.requests ≡ None) × (tx.run ≡ s.run)

-- all predecessors have COMMITs in the log
abbrev pub predecessors_committed : Local → TxId → Bool
predecessors_committed l tx = list_all (committed_in l.log) (predecessors_of l.pairs tx)

-- what other shards and the transport owe of a message that is delivered here: a Prepare is of one that asked elsewhere, whose request doesn't
-- stand here, and who isn't committed here without a write that stands; the first Decide(commit) finds the COMMITs of the predecessors, at a part of which
-- a write stands and that did not fall, and no undecided request of it
abbrev pub MayDeliver : Deeds → Shard → Message → Type 0
MayDeliver d s (Prepare to tx home seen) = (tx_in tx d.asked ≡ true) × (tx_get tx s.requests ≡ None) × (has_standing s.local.log tx ≡ false → committed_in s.local.log tx ≡ false)
MayDeliver d s (VoteMessage to tx from vote) = ⊤
MayDeliver d s (Decide to tx home true) = committed_in s.local.log tx ≡ false → (predecessors_committed s.local tx ≡ true) × (has_standing s.local.log tx ≡ true) × ((q : Request) → tx_get tx s.requests ≡ Some q → q.state ≡ Undecided → ⊥) × (tx_in tx d.fell ≡ false)
MayDeliver d s (Decide to tx home false) = ⊤
MayDeliver d s (Done to tx from) = ⊤
MayDeliver d s (Ask to tx from) = ⊤

-- and what sessions owe: who is closed and committed is not dropped
abbrev pub MayHappen : Deeds → Shard → Event → Type 0
MayHappen d s (OpEvent tx birth nth seen op) = MayTouch d s tx birth nth seen
MayHappen d s (RollTo tx nth seen upto) = MayGoBack d s tx nth seen
MayHappen d s (Drop tx) = stage_of s.local tx ≡ Some Closed → committed_in s.local.log tx ≡ false
MayHappen d s (RequestEvent tx touched) = MayAsk d s tx
MayHappen d s (Deliver m stamp) = MayDeliver d s m
MayHappen d s _ = ⊤

-- who is told that it is acknowledged
abbrev pub new_told : Event → Outcome → Option TxId
new_told (Look tx) Acknowledged = Some tx
new_told (Look tx) _ = None
new_told _ o = None

-- whether a part is gone by an abort
abbrev pub is_doomed : Option Stage → Bool
is_doomed (Some (Gone (Some doom))) = true
is_doomed (Some (Gone None)) = false
is_doomed (Some Active) = false
is_doomed (Some Closed) = false
is_doomed None = false

-- ---- what a log leaves in doubt, as transactions that acted before

-- an UPDATE or ADD as the operation that it logs, with its answer
abbrev pub found_op : ℕ → Change → Op
found_op k (Sets before None) = Del k
found_op k (Sets before (Some v)) = Put k v
found_op k (Adds by) = Add k by

abbrev pub found_told : Change → Answer
found_told (Sets before after) = Value before
found_told (Adds by) = Added true

abbrev pub found_item : StandingUpdate → Item
found_item w = record { tx = w.tx; number = 0; op = found_op w.key w.change; answer = found_told w.change; lsn = w.lsn }

-- those of writes, which come the newest first, in the order of the log
abbrev pub items_found : (TxId → Bool) → List StandingUpdate → List Item
items_found doubt [] = []
items_found doubt (w ∷ ws) = cond (doubt w.tx) (items_found doubt ws ++ found_item w ∷ []) (items_found doubt ws)

-- transactions in the order of their PREPAREs
abbrev pub prepared_order : (TxId → Bool) → List LogRecord → List TxId
prepared_order doubt [] = []
prepared_order doubt (PrepareRecord tx home predecessors ∷ rs) = cond (doubt tx) (tx ∷ prepared_order doubt rs) (prepared_order doubt rs)
prepared_order doubt (_ ∷ rs) = prepared_order doubt rs

-- what those in doubt wrote, themselves, and with each the predecessors that its PREPARE lists and that have no COMMIT
abbrev pub found_items : ℕ → List LogRecord → List Item
found_items shard log = items_found (λ t. tx_in t (in_doubt shard log)) (standing log)

abbrev pub found_asked : ℕ → List LogRecord → List TxId
found_asked shard log = prepared_order (λ t. tx_in t (in_doubt shard log)) log

abbrev pub found_met : ℕ → List LogRecord → List (TxId × TxId)
found_met shard log = restored_pairs log (in_doubt shard log)

-- a log from which a shard may be opened in this run: it keeps the order rules, and is of earlier runs
abbrev pub MayServe : ℕ → ℕ → List LogRecord → Type 0
MayServe shard run log = (disorder shard log ≡ None) × (greatest_run log < run)

-- who has fallen: after a step those whose parts an abort took away, and at a restart those that were here and are neither restored nor
-- committed
abbrev pub doomed_in : Shard → List TxId
doomed_in t = filter (λ u. is_doomed (stage_of t.local u)) (map (λ p. p.0) t.local.parts)

abbrev pub left_out : Shard → Shard → List TxId
left_out s t = filter (λ u. is_present (stage_of s.local u) && not (is_present (stage_of t.local u)) && not (committed_in t.local.log u)) (map (λ p. p.0) s.local.parts)

-- what those in doubt in the log did before: they acted and asked
abbrev pub deeds_found : ℕ → List LogRecord → Deeds
deeds_found shard log = record { done = map (λ x. Did x) (found_items shard log); asked = found_asked shard log; told = []; met = found_met shard log; fell = [] }

-- with what an event does
abbrev pub deeds_by : Deeds → Shard → Event → Outcome → Shard → Deeds
deeds_by d s e o t = record { done = with_one d.done (new_deed s e o); asked = with_one d.asked (new_asked s e); told = with_one d.told (new_told e o); met = new_met s e o ++ d.met; fell = doomed_in t ++ d.fell }

-- from the shard that opened such a log: what it did, and the state
pub data Leads (shard run : ℕ) (before : List LogRecord) : Deeds → Shard → Type 0 where
  opens : MayServe shard run before → Leads shard run before (deeds_found shard before) (opened shard run before)
  happens : {d : Deeds} {s : Shard} (e : Event) (o : Outcome) (t : Shard) (stamp walker : ℕ) → Leads shard run before d s → MayHappen d s e → happen s e ≡ Does o t → Leads shard run before (deeds_by d s e o t) (with_entry stamp walker e o t)
  lands :
      {d : Deeds} {s : Shard} (n : ℕ) (pushed : Bool) (o : Outcome) (t : Shard) (stamp walker : ℕ) → Leads shard run before d s → s.flight ≡ Some n → landed s n pushed ≡ Does o t
      → Leads shard run before (record d { fell = doomed_in t ++ d.fell }) (with_entry stamp walker FlushIn o t)
  -- others ask at their homes
  others_ask : {d : Deeds} {s : Shard} (t : TxId) → Leads shard run before d s → tx_in t d.asked ≡ false → Leads shard run before (record d { asked = d.asked ++ t ∷ [] }) s
  -- those in doubt are restored
  revives :
      {d : Deeds} {s : Shard} (kept : Bool) (epoch : ℕ) (log : List LogRecord) (stamp walker : ℕ) → Leads shard run before d s → s.is_up ≡ false → Restarts s (log_left s kept) epoch log
      → Leads shard run before (record d { fell = left_out s (revived s epoch log) ++ d.fell }) (with_entry stamp walker RestartEvent (Up epoch) (revived s epoch log))

-- ---- the members, by a cut of the log, and what they did

abbrev pub is_member : Shard → ℕ → List TxId → TxId → Bool
is_member s cut told t = committed_in (take cut s.local.log) t || tx_in t told

abbrev pub members_of : Shard → ℕ → Deeds → List TxId
members_of s cut d = filter (is_member s cut d.told) d.asked

-- a deed as a numbered act, and the answers of some
abbrev pub act_of_deed : Deed → ℕ × Act
act_of_deed (Did x) = (x.number, Operates x.op)
act_of_deed (WentBack tx number upto) = (number, GoesBack upto)

abbrev pub acts_by : List TxId → List Deed → List Acts
acts_by ts all = map (λ t. map act_of_deed (deeds_of t all)) ts

abbrev pub answers_by : List TxId → List Deed → List (List Answer)
answers_by ts all = map (λ t. map (λ x. x.answer) (items_in (deeds_of t all))) ts

-- each of these transactions goes back to where it stood after operations that it had not gone back over
abbrev pub GoBackInOrder : List TxId → List Deed → Type 0
GoBackInOrder ts all = AllByRecursion (λ t. are_numbered 0 [] (map act_of_deed (deeds_of t all)) ≡ true) ts

-- replayed one after another in the order of their requests, from what the log found stands for, the members give their answers, and the map
-- that the cut log stands for
abbrev pub AnswersAndMap : Type 0
AnswersAndMap =
    (shard run : ℕ) (before : List LogRecord) (d : Deeds) (s : Shard) (cut : ℕ) → Leads shard run before d s → s.durable ≤ cut
    → GoBackInOrder (members_of s cut d) d.done
    → (replay_answers (stands (before ∷ [])) (acts_by (members_of s cut d) d.done) ≡ answers_by (members_of s cut d) d.done)
    × (replay_map (stands (before ∷ [])) (acts_by (members_of s cut d) d.done) ≡ stands (take cut s.local.log ∷ []))

-- it asked, but no write of it stands here: it read or went back over all and left, or did nothing here
pub record Passes (d : Deeds) (s : Shard) (tx : TxId) : Type 0 where
  pub has_asked : tx_in tx d.asked ≡ true
  pub unwritten : has_standing s.local.log tx ≡ false
  pub uncommitted : committed_in s.local.log tx ≡ false
  pub absent : is_present (stage_of s.local tx) ≡ false
  pub unfallen : tx_in tx d.fell ≡ false

-- a choice of transactions as other shards' COMMITs make it: all that the cut commits are chosen, and each of the chosen is a member here, or
-- is in doubt in the cut, which commits all that its PREPARE lists, and did not fall, or no write of it stands here and it left
pub record MayChoose (s : Shard) (cut : ℕ) (d : Deeds) (chosen : TxId → Bool) : Type 0 where
  pub commits : (t : TxId) → committed_in (take cut s.local.log) t ≡ true → chosen t ≡ true
  pub are_here :
      (t : TxId) → chosen t ≡ true
      → (is_member s cut d.told t ≡ true)
      ⊎ (((tx_in t (in_doubt s.shard (take cut s.local.log)) ≡ true) × (list_all (committed_in (take cut s.local.log)) (listed_in (take cut s.local.log) t) ≡ true) × (tx_in t d.fell ≡ false))
      ⊎ Passes d s t)

-- the map of the standing writes in a cut of those chosen that are committed or in doubt there: of one that read alone, or went back over all, the
-- cut may have writes whose undo it lacks
abbrev pub map_chosen : ℕ → List LogRecord → (TxId → Bool) → KeyMap
map_chosen shard log chosen = fold_updates (λ t. chosen t && is_winner shard log t) log []

-- then the chosen ones that asked give their answers, and the map of the chosen ones' writes in the cut
abbrev pub ChosenReplay : Type 0
ChosenReplay =
    (shard run : ℕ) (before : List LogRecord) (d : Deeds) (s : Shard) (cut : ℕ) (chosen : TxId → Bool)
    → Leads shard run before d s → s.durable ≤ cut → MayChoose s cut d chosen → GoBackInOrder (filter chosen d.asked) d.done
    → (replay_answers (stands (before ∷ [])) (acts_by (filter chosen d.asked) d.done) ≡ answers_by (filter chosen d.asked) d.done)
    × (replay_map (stands (before ∷ [])) (acts_by (filter chosen d.asked) d.done) ≡ map_chosen s.shard (take cut s.local.log) chosen)

-- the map of what a log commits, and of those in doubt in it that are chosen
abbrev pub map_found : ℕ → List LogRecord → (TxId → Bool) → KeyMap
map_found shard log chosen = fold_updates (λ t. committed_in log t || (tx_in t (in_doubt shard log) && chosen t)) log []

-- the chosen ones that asked after those that were found in doubt give their answers from that map
abbrev pub LaterReplay : Type 0
LaterReplay =
    (shard run : ℕ) (before : List LogRecord) (d : Deeds) (s : Shard) (cut : ℕ) (chosen : TxId → Bool) (later : List TxId)
    → Leads shard run before d s → s.durable ≤ cut → MayChoose s cut d chosen → d.asked ≡ found_asked shard before ++ later
    → GoBackInOrder (filter chosen d.asked) d.done
    → (replay_answers (map_found shard before chosen) (acts_by (filter chosen later) d.done) ≡ answers_by (filter chosen later) d.done)
    × (replay_map (map_found shard before chosen) (acts_by (filter chosen later) d.done) ≡ map_chosen s.shard (take cut s.local.log) chosen)

-- of two operations that meet at a key that one of them writes the earlier is of the same transaction or of one that asked earlier; and while a
-- transaction has not gone back over an operation, nobody else meets it at a key that one of them writes
abbrev pub AskInOrder : List TxId → List Deed → Type 0
AskInOrder asked all = AllLater (λ x y. Clash x y → (x.tx ≡ y.tx) ⊎ (place asked x.tx < place asked y.tx)) (items_in all)

abbrev pub IsApartFrom : Item → Item → Type 0
IsApartFrom x y = Clash x y → x.tx ≡ y.tx

-- before a going back nobody else's operation behind one that it takes back clashes with it
abbrev pub NobodyBetween : List Item → List Deed → Type 0
NobodyBetween so_far [] = ⊤
NobodyBetween so_far (Did x ∷ ds) = NobodyBetween (so_far ++ x ∷ []) ds
NobodyBetween so_far (WentBack tx number upto ∷ ds) =
    AllLater (λ x y. is_beyond tx upto x ≡ true → IsApartFrom x y) so_far × NobodyBetween so_far ds

-- in the order in which they were done, each operation of the chosen ones after the opening gives its answer from that map with the writes of the
-- earlier ones that nobody had gone back over by then, and those that hold at the end come to the map of the chosen ones' writes in the cut; and
-- they met in the order of their requests
abbrev pub ChosenAct : Type 0
ChosenAct =
    (shard run : ℕ) (before : List LogRecord) (d : Deeds) (s : Shard) (cut : ℕ) (chosen : TxId → Bool) (done : List Deed)
    → Leads shard run before d s → s.durable ≤ cut → MayChoose s cut d chosen → d.done ≡ map (λ x. Did x) (found_items shard before) ++ done
    → ActsOf (map_found shard before chosen) (deeds_by_chosen chosen done)
    × (after (map_found shard before chosen) (held (deeds_by_chosen chosen done)) ≡ map_chosen s.shard (take cut s.local.log) chosen)
    × AskInOrder (filter chosen d.asked) (deeds_by_chosen chosen done)
    × NobodyBetween [] (deeds_by_chosen chosen done)

-- whose writes a chosen one violated is chosen, at an earlier place
abbrev pub ChosenStandBefore : Type 0
ChosenStandBefore =
    (shard run : ℕ) (before : List LogRecord) (d : Deeds) (s : Shard) (cut : ℕ) (chosen : TxId → Bool) (t p : TxId)
    → Leads shard run before d s → s.durable ≤ cut → MayChoose s cut d chosen → has_met d.met t p ≡ true → chosen t ≡ true
    → (chosen p ≡ true) × (place (filter chosen d.asked) p < place (filter chosen d.asked) t)

-- whose writes a member violated is a member at an earlier place
abbrev pub Recoverable : Type 0
Recoverable =
    (shard run : ℕ) (before : List LogRecord) (d : Deeds) (s : Shard) (cut : ℕ) (t p : TxId)
    → Leads shard run before d s → s.durable ≤ cut → has_met d.met t p ≡ true → is_member s cut d.told t ≡ true
    → (is_member s cut d.told p ≡ true) × (place (members_of s cut d) p < place (members_of s cut d) t)

-- where the shard is quiet its live records are what its log stands for
abbrev pub QuietIsSettled : Type 0
QuietIsSettled =
    (shard run : ℕ) (before : List LogRecord) (d : Deeds) (s : Shard) → Leads shard run before d s → IsQuiet s
    → live_pairs s.local.records ≡ stands (s.local.log ∷ [])

-- at every moment, whatever was undone, each key has the fold of those of its writes that stand in the log
abbrev pub ValuesAreFolds : Type 0
ValuesAreFolds =
    (shard run : ℕ) (before : List LogRecord) (d : Deeds) (s : Shard) → Leads shard run before d s → (k : ℕ) → value_at k s.local.records ≡ value_in s.local.log k

-- the log of a shard keeps the order rules at every moment
abbrev pub OrderIsKept : Type 0
OrderIsKept =
    (shard run : ℕ) (before : List LogRecord) (d : Deeds) (s : Shard) → Leads shard run before d s → disorder shard s.local.log ≡ None
