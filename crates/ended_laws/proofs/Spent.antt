-- Where its part is finished, nothing at all misses the row of a request that is over and by the log.
use Rattle.std.proofs.Common.{◌≡◌, inl, inr, refl, sym, ap, subst, ◌∙◌, ◌==◌, ℕ, true, false, Bool, [], ◌∷◌, List, Option, Some, None}
use Rattle.std.specs.Prelude.{unwrap_or}
use Rattle.clv_base.specs.declared.names.TxId.{TxId}
use Rattle.clv_base.specs.declared.names.Birth.{Birth}
use Rattle.clv_base.specs.declared.ops.Op.{Op}
use Rattle.clv_base.specs.declared.causes.AbortCause.{AbortCause}
use Rattle.clv_base.specs.declared.causes.AbortCause.TheVariants.{Asked as AskedCause, Restarted as RestartedCause}
use Rattle.clv_base.specs.declared.causes.Vote.TheVariants.{Yes, Read, No}
use Rattle.clv_base.specs.declared.events.Event.{Event}
use Rattle.clv_base.specs.declared.events.Event.TheVariants.{Op as OpEvent, RollTo, Request as RequestEvent, Look, Drop, Send, Deliver, Remind, FlushOut, FlushIn, Stop, Restart}
use Rattle.clv_base.specs.declared.events.Outcome.{Outcome}
use Rattle.clv_base.specs.declared.events.Outcome.TheVariants.{Dead, Asked, Durable, Down}
use Rattle.clv_base.specs.declared.state.Stage.{Stage}
use Rattle.clv_base.specs.declared.state.Stage.TheVariants.{Active, Gone}
use Rattle.clv_base.specs.declared.state.Request.{Request}
use Rattle.clv_base.specs.declared.state.Ruling.TheVariants.{Commit as CommitVerdict, Acknowledge, Abort as AbortVerdict, End as EndVerdict}
use Rattle.clv_base.specs.Orders.{tx_same}
use Rattle.clv_base.specs.State.{Local, Shard, is_present}
use Rattle.clv_base.specs.Undo.{stage_of}
use Rattle.clv_base.specs.Backs.{standing_numbers, count_after}
use Rattle.clv_base.specs.OneShard.{OpDies, OpAnswers, op_by_stage, op_seen, op_reply, seen_fits, rolled_back_if, without_part}
use Rattle.clv_base.specs.Coordinator.{others}
use Rattle.clv_base.specs.Events.{QuietBeforeWorn, Does, finish, op_event, roll_by_stage, roll_event, is_alone, epoch_in, request_by_stage, request_event, with_durable, put_down, happen_up, happen}
use Rattle.clv_base.proofs.SameNames.{tx_true}
use Rattle.std.proofs.lemmas.Bool.{both_ways, false_from_ne_true}
use Rattle.history_cases.proofs.Stepping.{commits, votes, rules, KeptByDue, settled, Step, op_dies, op_answers, rolls_back, request_closes, drops, prepare_closes, decision_comes, Happens, finishes, stops, happened}
use Rattle.history_laws.proofs.Entries.WhatOperationsDo.{reply_is}
use Rattle.ended_laws.specs.Requests.{forgets, forgetful, IsOver, is_by_log, MayCome, IsSpent, NothingMissesIt, SpentStaysSpent, FlushesMissNothing, SpentGoAlone}
use Rattle.ended_laws.proofs.Staying.{Fades, Leaves, leaves_finished, leaves_rolled, leaves_dropped, leaves_closed, leaves_back, leaves_reply, leaves_same, over_stays, finished_leaves, over_stays_over}
use Rattle.ended_laws.proofs.Due.{finished_same}
use Rattle.ended_laws.proofs.Missing.{nobody_misses_it}
use Rattle.ended_laws.proofs.Alone.{go_alone}

-- ---- a finished part stays so

abbrev Finished : TxId → Local → Type 0
Finished tx l = stage_of l tx ≡ Some (Gone None)

fades_finished : (a b : Option Stage) → Fades a b → a ≡ Some (Gone None) → b ≡ Some (Gone None)
fades_finished a b (inl e) f = e ∙ f
fades_finished a b (inr e) f = e

still : (tx : TxId) (l m : Local) → Leaves tx l m → Finished tx l → Finished tx m
still tx l m g f = fades_finished (stage_of l tx) (stage_of m tx) g.fades f

absent : (tx : TxId) (l : Local) → Finished tx l → is_present (stage_of l tx) ≡ false
absent tx l f = ap is_present f

due_finished : (tx : TxId) → KeptByDue (λ z. Finished tx z.local)
due_finished tx s _ (commits u c d) f = still tx s.local _ (leaves_finished tx (u ∷ []) s.local) f
due_finished tx s _ (votes u v Yes g e) f = f
due_finished tx s _ (votes u v Read g e) f = still tx s.local _ (leaves_finished tx (u ∷ []) s.local) f
due_finished tx s _ (votes u v (No why) g e) f = f
due_finished tx s _ (rules u q (CommitVerdict ps) g e) f = f
due_finished tx s _ (rules u q Acknowledge g e) f = still tx s.local _ (leaves_finished tx (u ∷ []) s.local) f
due_finished tx s _ (rules u q (AbortVerdict c to) g e) f = still tx s.local _ (leaves_rolled tx u s.local (absent tx s.local f)) f
due_finished tx s _ (rules u q EndVerdict g e) f = f

finish_finished : (tx : TxId) (s : Shard) → Finished tx s.local → Finished tx (finish s).local
finish_finished tx s f = settled (λ z. Finished tx z.local) s (due_finished tx) f

not_here : (tx u : TxId) (l : Local) → Finished tx l → stage_of l u ≡ Some Active → tx_same u tx ≡ false
not_here tx u l f a = false_from_ne_true _ (λ i. both_ways _ (absent tx l f) (ap is_present (sym (ap (stage_of l) (tx_true u tx i)) ∙ a)))

step_finished : (tx : TxId) (q : Request) (s z : Shard) {e : Event} {o : Outcome} → Step s e o z → MayCome tx q e → Finished tx s.local → Finished tx z.local
step_finished tx q s _ (op_dies u birth nth seen op cause l e) m f =
    still tx s.local l ((leaves_reply tx u birth seen op s.local (OpDies cause l) (reply_is s.shard s.local u birth seen op (OpDies cause l) e) m (absent tx s.local f)).1 cause l refl) f
step_finished tx q s _ (op_answers u birth nth seen op answer l e) m f =
    still tx s.local l ((leaves_reply tx u birth seen op s.local (OpAnswers answer l) (reply_is s.shard s.local u birth seen op (OpAnswers answer l) e) m (absent tx s.local f)).0 answer l refl) f
step_finished tx q s _ (rolls_back u nth seen upto fits e) m f = still tx s.local _ (leaves_back tx u (count_after upto (standing_numbers u s.journal)) s.local) f
step_finished tx q s _ (request_closes u ts g e) m f = still tx s.local _ (leaves_closed tx u s.shard (is_alone (others s.shard ts)) s.local (not_here tx u s.local f e)) f
step_finished tx q s _ (drops u stage e) m f = still tx s.local _ (leaves_dropped tx u s.local (absent tx s.local f)) f
step_finished tx q s _ (prepare_closes u home seen stamp e) m f = still tx s.local _ (leaves_closed tx u home false s.local (not_here tx u s.local f e)) f
step_finished tx q s _ (decision_comes u home true stamp e) m f = f
step_finished tx q s _ (decision_comes u home false stamp e) m f = still tx s.local _ (leaves_rolled tx u s.local (absent tx s.local f)) f
step_finished tx q s _ _ m f = f

happens_finished : (tx : TxId) (q : Request) (s t : Shard) {e : Event} {o : Outcome} → Happens s e o t → MayCome tx q e → Finished tx s.local → Finished tx t.local
happens_finished tx q s _ (finishes {t = u} up g) m f = finish_finished tx u (step_finished tx q s u g m f)
happens_finished tx q s _ (stops up) m f = f

-- ---- its own operations, goings back and requests

own_part : (tx : TxId) (l : Local) → Finished tx l → without_part tx l ≡ l
own_part tx l f = ap (λ st. rolled_back_if (is_present st) tx l) f

own_op : (shard : ℕ) (l : Local) (tx : TxId) (birth : Birth) (seen : Option ℕ) (op : Op) → Finished tx l → (c : AbortCause) × (op_reply shard l tx birth seen op ≡ OpDies c l)
own_op shard l tx birth seen op f = at (seen_fits l.epoch seen)
  where
    at : (b : Bool) → (c : AbortCause) × (op_seen shard l tx birth seen op b ≡ OpDies c l)
    at true = (AskedCause, ap (op_by_stage l tx birth op) f)
    at false = (RestartedCause shard (unwrap_or seen 0) l.epoch, ap (OpDies (RestartedCause shard (unwrap_or seen 0) l.epoch)) (own_part tx l f))

own_roll : (s : Shard) (tx : TxId) (seen upto : ℕ) (b : Bool) → Finished tx s.local → (o : Outcome) × (roll_event s tx seen upto b ≡ Does o (finish s))
own_roll s tx seen upto true f = (Dead AskedCause, ap (roll_by_stage s tx (count_after upto (standing_numbers tx s.journal))) f)
own_roll s tx seen upto false f = (Dead _, refl)

own_request : (s : Shard) (tx : TxId) (ts : List (ℕ × ℕ)) (b : Bool) → Finished tx s.local → (o : Outcome) × (request_event s tx ts b ≡ Does o (finish s))
own_request s tx ts true f = (Asked, ap (request_by_stage s tx ts) f)
own_request s tx ts false f = (Dead _, refl)

-- whether an event is one of these
data Whose (tx : TxId) (q : Request) (e : Event) : Type 0 where
  anothers : MayCome tx q e → Whose tx q e
  its_op : (birth : Birth) (nth : ℕ) (seen : Option ℕ) (op : Op) → e ≡ OpEvent tx birth nth seen op → Whose tx q e
  its_roll : (nth seen upto : ℕ) → e ≡ RollTo tx nth seen upto → Whose tx q e
  its_request : (ts : List (ℕ × ℕ)) → e ≡ RequestEvent tx ts → Whose tx q e

whose : (tx : TxId) (q : Request) (e : Event) → is_by_log q.state ≡ true → Whose tx q e
whose tx q (OpEvent u birth nth seen op) l = at (tx_same tx u) refl
  where
    at : (b : Bool) → tx_same tx u ≡ b → Whose tx q (OpEvent u birth nth seen op)
    at true i = its_op birth nth seen op (ap (λ z. OpEvent z birth nth seen op) (sym (tx_true tx u i)))
    at false i = anothers i
whose tx q (RollTo u nth seen upto) l = at (tx_same tx u) refl
  where
    at : (b : Bool) → tx_same tx u ≡ b → Whose tx q (RollTo u nth seen upto)
    at true i = its_roll nth seen upto (ap (λ z. RollTo z nth seen upto) (sym (tx_true tx u i)))
    at false i = anothers i
whose tx q (RequestEvent u ts) l = at (tx_same tx u) refl
  where
    at : (b : Bool) → tx_same tx u ≡ b → Whose tx q (RequestEvent u ts)
    at true i = its_request ts (ap (λ z. RequestEvent z ts) (sym (tx_true tx u i)))
    at false i = anothers i
whose tx q (Look u) l = anothers (inr l)
whose tx q (Drop u) l = anothers tt
whose tx q Send l = anothers tt
whose tx q (Deliver m stamp) l = anothers tt
whose tx q Remind l = anothers tt
whose tx q FlushOut l = anothers tt
whose tx q FlushIn l = anothers tt
whose tx q Stop l = anothers tt
whose tx q Restart l = anothers tt

-- they end as if they were not, but for what is due, which is nothing new
abbrev Idle : Shard → Event → Type 0
Idle s e = (o : Outcome) × (happen_up s e ≡ Does o (finish s))

idle_op : (s : Shard) (tx : TxId) (birth : Birth) (nth : ℕ) (seen : Option ℕ) (op : Op) → Finished tx s.local → Idle s (OpEvent tx birth nth seen op)
idle_op s tx birth nth seen op f = let w = own_op s.shard s.local tx birth seen op f in (Dead w.0, ap (op_event s) w.1)

idle_roll : (s : Shard) (tx : TxId) (nth seen upto : ℕ) → Finished tx s.local → Idle s (RollTo tx nth seen upto)
idle_roll s tx nth seen upto f = own_roll s tx seen upto (seen == s.local.epoch) f

idle_request : (s : Shard) (tx : TxId) (ts : List (ℕ × ℕ)) → Finished tx s.local → Idle s (RequestEvent tx ts)
idle_request s tx ts f = own_request s tx ts (seen_fits s.local.epoch (epoch_in s.shard ts)) f

-- the same without the row, where both are idle with the same outcome
idle_same : (s : Shard) (tx : TxId) (q : Request) (e : Event) (o : Outcome) → IsOver s tx q → happen_up s e ≡ Does o (finish s) → happen_up (forgets tx s) e ≡ Does o (finish (forgets tx s)) → happen (forgets tx s) e ≡ forgetful tx (happen s e)
idle_same s tx q e o over a b = at s.is_up
  where
    at : (up : Bool) → elim up [ true ↦ happen_up (forgets tx s) e | false ↦ QuietBeforeWorn Down ] ≡ forgetful tx (elim up [ true ↦ happen_up s e | false ↦ QuietBeforeWorn Down ])
    at true = b ∙ ap (Does o) (finished_same s tx q over) ∙ sym (ap (forgetful tx) a)
    at false = refl

pub nothing_misses_it : NothingMissesIt
unfolding idle_op own_roll own_request
nothing_misses_it s tx q e p = at (whose tx q e p.by_log)
  where
    at : Whose tx q e → happen (forgets tx s) e ≡ forgetful tx (happen s e)
    at (anothers m) = nobody_misses_it s tx q e p.over m
    at (its_op birth nth seen op is) =
        let w = idle_op s tx birth nth seen op p.finished in
        subst (λ z. happen (forgets tx s) z ≡ forgetful tx (happen s z)) (sym is)
        (idle_same s tx q (OpEvent tx birth nth seen op) w.0 p.over w.1 (ap (op_event (forgets tx s)) (own_op s.shard s.local tx birth seen op p.finished).1))
    at (its_roll nth seen upto is) =
        subst (λ z. happen (forgets tx s) z ≡ forgetful tx (happen s z)) (sym is) (rolls (seen == s.local.epoch) refl)
      where
        rolls : (b : Bool) → (seen == s.local.epoch) ≡ b → happen (forgets tx s) (RollTo tx nth seen upto) ≡ forgetful tx (happen s (RollTo tx nth seen upto))
        rolls b i =
            let w = own_roll s tx seen upto b p.finished in
            idle_same s tx q (RollTo tx nth seen upto) w.0 p.over (ap (roll_event s tx seen upto) i ∙ w.1) (ap (roll_event (forgets tx s) tx seen upto) i ∙ forgotten b)
          where
            forgotten : (b : Bool) → roll_event (forgets tx s) tx seen upto b ≡ Does (own_roll s tx seen upto b p.finished).0 (finish (forgets tx s))
            forgotten true = ap (roll_by_stage (forgets tx s) tx (count_after upto (standing_numbers tx s.journal))) p.finished
            forgotten false = refl
    at (its_request ts is) =
        subst (λ z. happen (forgets tx s) z ≡ forgetful tx (happen s z)) (sym is) (asks (seen_fits s.local.epoch (epoch_in s.shard ts)) refl)
      where
        asks : (b : Bool) → seen_fits s.local.epoch (epoch_in s.shard ts) ≡ b → happen (forgets tx s) (RequestEvent tx ts) ≡ forgetful tx (happen s (RequestEvent tx ts))
        asks b i =
            let w = own_request s tx ts b p.finished in
            idle_same s tx q (RequestEvent tx ts) w.0 p.over (ap (request_event s tx ts) i ∙ w.1) (ap (request_event (forgets tx s) tx ts) i ∙ forgotten b)
          where
            forgotten : (b : Bool) → request_event (forgets tx s) tx ts b ≡ Does (own_request s tx ts b p.finished).0 (finish (forgets tx s))
            forgotten true = ap (request_by_stage (forgets tx s) tx ts) p.finished
            forgotten false = refl

-- ---- it stays so

after_idle : (s t : Shard) (e : Event) (o : Outcome) → Idle s e → happen s e ≡ Does o t → finish s ≡ t
after_idle s t e o w h = at s.is_up h
  where
    one : {a b : Outcome} {x y : Shard} → Does a x ≡ Does b y → x ≡ y
    one z = cc

    at : (up : Bool) → elim up [ true ↦ happen_up s e | false ↦ QuietBeforeWorn Down ] ≡ Does o t → finish s ≡ t
    at true k = one (sym w.1 ∙ k)
    at false k = absurd cc

spent_finish : (s : Shard) (tx : TxId) (q : Request) → IsSpent s tx q → IsSpent (finish s) tx q
spent_finish s tx q p = record { over = finished_leaves s tx q p.over; finished = finish_finished tx s p.finished; by_log = p.by_log }

pub spent_stays_spent : SpentStaysSpent
spent_stays_spent s t tx q e o p h = at (whose tx q e p.by_log)
  where
    at : Whose tx q e → IsSpent t tx q
    at (anothers m) = record { over = over_stays_over s t tx q e o p.over m h; finished = happens_finished tx q s t (happened s t e o h) m p.finished; by_log = p.by_log }
    at (its_op birth nth seen op is) =
        subst (λ z. IsSpent z tx q) (after_idle s t (OpEvent tx birth nth seen op) o (idle_op s tx birth nth seen op p.finished) (ap (happen s) (sym is) ∙ h)) (spent_finish s tx q p)
    at (its_roll nth seen upto is) =
        subst (λ z. IsSpent z tx q) (after_idle s t (RollTo tx nth seen upto) o (idle_roll s tx nth seen upto p.finished) (ap (happen s) (sym is) ∙ h)) (spent_finish s tx q p)
    at (its_request ts is) = subst (λ z. IsSpent z tx q) (after_idle s t (RequestEvent tx ts) o (idle_request s tx ts p.finished) (ap (happen s) (sym is) ∙ h)) (spent_finish s tx q p)

-- ---- the end of a flush

durable_spent : (n : ℕ) (s : Shard) (tx : TxId) (q : Request) → IsSpent s tx q → IsSpent (with_durable n s) tx q
durable_spent n s tx q p = record { over = over_stays s (with_durable n s) tx q p.over refl p.over.rises refl (leaves_same tx s.local); finished = p.finished; by_log = p.by_log }

down_spent : (s : Shard) (tx : TxId) (q : Request) → IsSpent s tx q → IsSpent (put_down s) tx q
down_spent s tx q p = record { over = over_stays s (put_down s) tx q p.over refl p.over.rises refl (leaves_same tx s.local); finished = p.finished; by_log = p.by_log }

same_after : {a b : Outcome} {x y : Shard} → Does a x ≡ Does b y → x ≡ y
same_after z = cc

pub flushes_miss_nothing : FlushesMissNothing
flushes_miss_nothing s tx q n true p =
    let d = durable_spent n s tx q p in
    (ap (Does (Durable n)) (finished_same (with_durable n s) tx q d.over), λ o t h. subst (λ z. IsSpent z tx q) (same_after h) (spent_finish (with_durable n s) tx q d))
flushes_miss_nothing s tx q n false p = (refl, λ o t h. subst (λ z. IsSpent z tx q) (same_after h) (down_spent s tx q p))

-- ---- others

pub spent_go_alone : SpentGoAlone
spent_go_alone s tx u q n p = record { over = go_alone.over s tx u q n p.over; finished = p.finished; by_log = p.by_log }
