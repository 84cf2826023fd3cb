-- A shard's epoch never falls, and rises by each restart.
use Rattle.std.proofs.Common.{◌≡◌, ◌⊎◌, inl, inr, ◌∙◌, refl, sym, ap, subst, ℕ, ◌<◌, ◌^◌, ◌==◌, nat_lt, Bool, true, false, List, [], ◌∷◌, ◌++◌, get_or, map, Option, Some, None, Result, Ok, arith}
use Rattle.std.specs.Prelude.{is_some}
use Rattle.std.proofs.lemmas.Bool.{both_ways, ne_eqb}
use Rattle.clv_base.specs.declared.names.TxId.{TxId}
use Rattle.clv_base.specs.declared.names.Birth.{Birth}
use Rattle.clv_base.specs.declared.ops.Op.{Op as Operation}
use Rattle.clv_base.specs.declared.ops.Answer.{Answer}
use Rattle.clv_base.specs.declared.events.Event.{Event}
use Rattle.clv_base.specs.declared.events.Event.TheVariants.{Op, RollTo, Request, Look, Drop, Send, Deliver, Remind, FlushOut, FlushIn, Stop, Restart}
use Rattle.clv_base.specs.declared.events.Outcome.{Outcome}
use Rattle.clv_base.specs.declared.events.Outcome.TheVariants.{Answered, Rolled, Down}
use Rattle.clv_base.specs.declared.events.Entry.{Entry}
use Rattle.clv_base.specs.State.{Shard}
use Rattle.clv_base.specs.OneShard.{op_reply}
use Rattle.clv_base.specs.Events.{QuietBeforeWorn, Does, happen, happen_up, roll_event, next_stamp, step}
use Rattle.clv_base.specs.Machines.{BecomesBy, Makes, Runs}
use Rattle.turn_lock.specs.declared.pass.Pass.{Pass}
use Rattle.turn_lock.specs.Journals.{GrownByOthers}
use Rattle.turn_lock.specs.Passes.{seen, pass_origin}
use Rattle.journal_laws.proofs.Laws.{notes_are_runs}
use Rattle.machine_calls.specs.declared.machine.StepError.{StepError}
use Rattle.machine_calls.specs.Steps.{Tells}
use Rattle.machine_laws.specs.declared.notes.Note.{Note}
use Rattle.machine_laws.specs.declared.notes.Origin.{Origin}
use Rattle.machine_laws.specs.Notes.{noter, told}
use Rattle.machine_laws.specs.Homes.{entries_in, state_of, holder_of, IsLegal}
use Rattle.machine_laws.proofs.Laws.{from_does, nothing_happens, since}
use Rattle.cluster_turns.specs.Turns.{EventTold}
use Rattle.cluster_turns.specs.Walkers.{Walked}
use Rattle.cluster_turns.specs.CallTurns.{Turn, Took, no_turn, event_turn, flush_turns, horizon_look}
use Rattle.cluster_turns.specs.Answers.{is_kept, SeesDown}
use Rattle.cluster_turns.proofs.Answering.{answers_have_entries, down_is_seen}
use Rattle.cluster_turns.specs.Epochs.{HasReached, IsPast, SeenAt, ReachedAt, PastAt, ReachedStays, PastStays, AnsweredIsReached, DownIsPast, PastRollsNowhere}
use Rattle.cluster_turns.proofs.Epochs.{epoch_stays, steady_by, flush_has}
use Rattle.cluster_turns.proofs.Unbearing.{at_changes, at_here, after_sees, head_same, tail_same, answered_epoch}
use Rattle.law_base.proofs.Options.{some_inj as some_same}
use Rattle.law_base.proofs.Restarts.{epoch_own}

-- ---- one entry

-- the shard was up, and its epoch stays; or it was down, and its epoch rises
abbrev GoesOn : Shard → Shard → Type 0
GoesOn s u = ((s.is_up ≡ true) × (u.local.epoch ≡ s.local.epoch)) ⊎ ((s.is_up ≡ false) × (s.local.epoch < u.local.epoch))

entry_goes : (s u : Shard) (x : Entry) → Makes s x u → GoesOn s u
entry_goes s u x m = at x.event refl
  where
    becomes : (e : Event) → x.event ≡ e → BecomesBy s e x.outcome m.state
    becomes e is = subst (λ z. BecomesBy s z x.outcome m.state) is m.becomes

    entered : u.local.epoch ≡ (m.state).local.epoch
    entered = ap (λ z. z.local.epoch) m.entered

    steady : (e : Event) → happen s e ≡ Does x.outcome m.state → GoesOn s u
    steady e d = let k = steady_by s m.state e x.outcome d in inl (k.0, entered ∙ k.1)

    restarts : BecomesBy s Restart x.outcome m.state → GoesOn s u
    restarts (down, (kept, epoch, after, (left, failed, is, log), same, leads)) =
        inr (down, (let own = epoch_own s.run s.local.epoch left in let e = entered ∙ ap (λ z. z.local.epoch) leads ∙ is in omega arith))

    at : (e : Event) → x.event ≡ e → GoesOn s u
    at FlushIn is = let b = becomes FlushIn is in inl (b.0, entered ∙ ap (λ z. z.local.epoch) b.2 ∙ flush_has s.local.epoch s x.outcome b.1 refl)
    at Restart is = restarts (becomes Restart is)
    at (Op v b nth sn op) is = steady (Op v b nth sn op) (becomes (Op v b nth sn op) is).1
    at (RollTo v nth sn upto) is = steady (RollTo v nth sn upto) (becomes (RollTo v nth sn upto) is)
    at (Request v ts) is = steady (Request v ts) (becomes (Request v ts) is)
    at (Look v) is = steady (Look v) (becomes (Look v) is)
    at (Drop v) is = steady (Drop v) (becomes (Drop v) is)
    at Send is = steady Send (becomes Send is)
    at (Deliver y stamp) is = steady (Deliver y stamp) (becomes (Deliver y stamp) is)
    at Remind is = steady Remind (becomes Remind is)
    at FlushOut is = steady FlushOut (becomes FlushOut is)
    at Stop is = steady Stop (becomes Stop is)

reached_goes : (e : ℕ) (s u : Shard) → GoesOn s u → HasReached e s → HasReached e u
reached_goes e s u (inl k) h = let same = k.1 in omega arith
reached_goes e s u (inr k) h = let more = k.1 in omega arith

past_goes : (e : ℕ) (s u : Shard) → GoesOn s u → IsPast e s → IsPast e u
past_goes e s u (inl k) h = (reached_goes e s u (inl k) h.0, λ up. let same = k.1 in let l = h.1 k.0 in omega arith)
past_goes e s u (inr k) h = (reached_goes e s u (inr k) h.0, λ up. let more = k.1 in let l = h.0 in omega arith)

-- ---- what each entry keeps, through turns

module _ (P : Shard → Type 0) (keeps : (s u : Shard) → GoesOn s u → P s → P u) where
  runs_keep : (s t : Shard) (es : List Entry) → Runs s es t → P s → P t
  runs_keep s t [] r h = subst P r h
  runs_keep s t (e ∷ es) (u, m, r) h = runs_keep u t es r (keeps s u (entry_goes s u e m) h)

  others_keep : (g : Origin) (s : Shard) (w : ℕ) (had notes : List Note) → IsLegal g notes s → GrownByOthers noter w had notes → P (state_of g had) → P s
  others_keep g s w had notes l d h =
      let q = since g had d.0 notes s l d.1 in
      let r = notes_are_runs (state_of g had) (holder_of had) (map told d.0) q.may in
      subst P (sym q.is) (runs_keep (state_of g had) _ (entries_in d.0) r h)

  added_keep : (g : Origin) (before added : List Note) (s t : Shard) → IsLegal g before s → IsLegal g (before ++ added) t → P s → P t
  added_keep g before added s t k l h =
      let q = since g before added (before ++ added) t l refl in
      let r = notes_are_runs (state_of g before) (holder_of before) (map told added) q.may in
      subst P (sym q.is) (runs_keep (state_of g before) _ (entries_in added) r (subst P k.is h))

  module _ {T : Type 0} where
    turn_keeps : (Told : Shard → Shard → List Note → Type 0) (n k w : ℕ) (ps qs : List (Option (Pass T Note Origin))) → Walked Told k w ps qs → SeenAt P n ps → SeenAt P n qs
    turn_keeps Told n k w ps qs walked h =
        let u = walked.turned in
        at_changes (λ p. (o : Origin) → pass_origin p ≡ Some o → P (state_of o (seen p))) n k ps qs walked.p walked.q walked.had walked.after_is
        (λ here f. after_sees Told w walked.p walked.q u P (added_keep u.origin u.before u.added u.s u.t u.s_is u.t_is (others_keep u.origin u.s w (seen walked.p) u.before u.s_is u.found (f u.origin u.has_origin)))) h

    turns_keep : (n w c d : ℕ) (ps qs : List (Option (Pass T Note Origin))) (ts : List Turn) → Took w c ps ts d qs → SeenAt P n ps → SeenAt P n qs
    turns_keep n w _ _ _ _ _ (no_turn clock ps) h = h
    turns_keep n w _ _ _ _ _ (event_turn clock c clock' ps qs rs t ts walked made stays more) h = turns_keep n w c clock' qs rs ts more (turn_keeps _ n t.shard w ps qs walked h)
    turns_keep n w _ _ _ _ _ (flush_turns clock c d clock' upto pushed ps ms qs rs t u ts out back is answer made same lands landed entered known more) h =
        turns_keep n w d clock' qs rs ts more (turn_keeps _ n t.shard w ms qs back (turn_keeps _ n t.shard w ps ms out h))
    turns_keep n w _ _ _ _ _ (horizon_look clock clock' m horizon ps qs rs ts looked more) h =
        turns_keep n w clock clock' qs rs ts more
        (at_changes (λ p. (o : Origin) → pass_origin p ≡ Some o → P (state_of o (seen p))) n m ps qs looked.p looked.q looked.had looked.after_is
        (λ here f o has. subst (λ ns. P (state_of o ns)) (sym looked.same.2) (f o (sym looked.same.0 ∙ has))) h)

module _ {T : Type 0} where
  pub reached_stays : ReachedStays T
  reached_stays n w c d epoch ps qs ts took h = turns_keep (HasReached epoch) (reached_goes epoch) n w c d ps qs ts took h

  pub past_stays : PastStays T
  past_stays n w c d epoch ps qs ts took h = turns_keep (IsPast epoch) (past_goes epoch) n w c d ps qs ts took h

-- ---- the one turn of a call

-- the turn, with looks at horizons before and behind it
record OneTurn {T : Type 0} (w c d : ℕ) (ps qs : List (Option (Pass T Note Origin))) (t : Turn) : Type 0 where
  clock : ℕ
  from : List (Option (Pass T Note Origin))
  clock_after : ℕ
  to : List (Option (Pass T Note Origin))
  before : Took w c ps [] clock from
  walked : Walked (EventTold clock w t.event t.answer clock_after) t.shard w from to
  made : t.made ≡ walked.turned.told.made
  entered : is_some t.made ≡ is_kept t.answer
  behind : Took w clock_after to [] d qs

module _ {T : Type 0} where
  one_turn : (w c d : ℕ) (ps qs : List (Option (Pass T Note Origin))) (ts : List Turn) (t : Turn) → Took w c ps ts d qs → ts ≡ t ∷ [] → OneTurn w c d ps qs t
  one_turn w _ _ _ _ _ t (no_turn clock ps) is = absurd cc
  one_turn w _ _ _ _ _ t (event_turn clock c clock' ps qs rs u ts walked made stays more) is =
      let has = answers_have_entries w clock c ps qs (u ∷ []) (event_turn clock c c ps qs qs u [] walked made stays (no_turn c qs)) in
      subst (OneTurn w clock clock' ps rs) (head_same u t ts [] is) (record {
        clock = clock;
        from = ps;
        clock_after = c;
        to = qs;
        before = no_turn clock ps;
        walked = walked;
        made = made;
        entered = has.0;
        behind = subst (λ us. Took w c qs us clock' rs) (tail_same u t ts [] is) more;
      })
  one_turn w _ _ _ _ _ t (flush_turns clock c d clock' upto pushed ps ms qs rs u v ts out back e answer made same lands landed entered known more) is =
      let wrong : v ∷ ts ≡ [] = tail_same u t (v ∷ ts) [] is in absurd cc
  one_turn w _ _ _ _ _ t (horizon_look clock clock' m horizon ps qs rs ts looked more) is =
      let x = one_turn w clock clock' qs rs ts t more is in
      record { clock = x.clock; from = x.from; clock_after = x.clock_after; to = x.to; before = horizon_look clock x.clock m horizon ps qs x.from [] looked x.before; walked = x.walked; made = x.made; entered = x.entered; behind = x.behind }

  -- as the turn found its shard
  found_by : (P : Shard → Type 0) → ((s u : Shard) → GoesOn s u → P s → P u) → (n w c d : ℕ) (ps qs : List (Option (Pass T Note Origin))) (t : Turn) (x : OneTurn w c d ps qs t) → t.shard ≡ n → SeenAt P n ps → P (x.walked.turned.s)
  found_by P keeps n w c d ps qs t x here h =
      let u = x.walked.turned in
      others_keep P keeps u.origin u.s w (seen x.walked.p) u.before u.s_is u.found
      (turns_keep P keeps n w c x.clock ps x.from [] x.before h x.walked.p (λ e. ap (λ j. get_or x.from j e) (sym here) ∙ x.walked.had e) u.origin u.has_origin)

-- the entry that a kept answer made
record IsDone (s t : Shard) (e : Event) (o : Outcome) : Type 0 where
  after : Shard
  does : happen s e ≡ Does o after
  is : t.local.epoch ≡ after.local.epoch

done_by : (s t : Shard) (clock w : ℕ) (e : Event) (r : Result Outcome StepError) (o : Outcome) (made : Option Entry) → is_some made ≡ true → r ≡ Ok o → Tells (step s clock w e) s clock w e r t made → IsDone s t e o
done_by s t clock w e r o None some is h = absurd (both_ways false refl some)
done_by s t clock w e r o (Some x) some is (p, ok, m) =
    let d = from_does (next_stamp s clock e) w e (nat_lt (next_stamp s clock e) (2 ^ 48)) (happen s e) p t m.enters in
    record { after = d.after; does = d.does ∙ ap (λ z. Does z d.after) (same p o (sym ok ∙ is)); is = ap (λ z. z.local.epoch) d.is }
  where
    same : (a b : Outcome) → ◌≡◌ {A = Result Outcome StepError} (Ok a) (Ok b) → a ≡ b
    same a b k = cc

answers_in : (s : Shard) (tx : TxId) (b : Birth) (nth : ℕ) (sn : Option ℕ) (op : Operation) (answer : Answer) (epoch : ℕ) (t : Shard) (u : Bool) → s.is_up ≡ u → happen s (Op tx b nth sn op) ≡ Does (Answered answer epoch) t → s.local.epoch ≡ epoch
answers_in s tx b nth sn op answer epoch t false down h = nothing_happens s (Op tx b nth sn op) (Answered answer epoch) t down h
answers_in s tx b nth sn op answer epoch t true up h =
    answered_epoch s (op_reply s.shard s.local tx b sn op) answer epoch t (sym (ap (λ x. elim x [ true ↦ happen_up s (Op tx b nth sn op) | false ↦ QuietBeforeWorn Down ]) up) ∙ h)

rolls_nowhere : (s : Shard) (tx : TxId) (nth epoch upto : ℕ) (t : Shard) (u : Bool) → s.is_up ≡ u → IsPast epoch s → happen s (RollTo tx nth epoch upto) ≡ Does Rolled t → ⊥
rolls_nowhere s tx nth epoch upto t false down past h = nothing_happens s (RollTo tx nth epoch upto) Rolled t down h
rolls_nowhere s tx nth epoch upto t true up past h =
    let l = past.1 up in
    let other : (epoch == s.local.epoch) ≡ false = ne_eqb epoch s.local.epoch (λ e. absurd (omega arith)) in
    let rolled : roll_event s tx epoch upto false ≡ Does Rolled t =
    sym (ap (λ x. elim x [ true ↦ happen_up s (RollTo tx nth epoch upto) | false ↦ QuietBeforeWorn Down ]) up ∙ ap (roll_event s tx epoch upto) other) ∙ h in
    absurd cc

module _ {T : Type 0} where
  pub answered_is_reached : AnsweredIsReached T
  answered_is_reached n w c d ps qs t tx birth nth sn op answer epoch took here event ans =
      let x = one_turn w c d ps qs (t ∷ []) t took refl in
      let u = x.walked.turned in
      let k = done_by u.s u.t x.clock w t.event t.answer (Answered answer epoch) u.told.made (sym (ap is_some x.made) ∙ x.entered ∙ ap is_kept ans) ans u.told.tells in
      let is : u.s.local.epoch ≡ epoch = answers_in u.s tx birth nth sn op answer epoch k.after u.s.is_up refl (sym (ap (happen u.s) event) ∙ k.does) in
      let same : u.t.local.epoch ≡ epoch = k.is ∙ epoch_stays u.s k.after t.event (Answered answer epoch) k.does ∙ is in
      reached_stays n w x.clock_after d epoch x.to qs [] x.behind
      (at_here (λ p. (o : Origin) → pass_origin p ≡ Some o → HasReached epoch (state_of o (seen p))) n t.shard x.from x.to x.walked.p x.walked.q x.walked.had x.walked.after_is here
      (after_sees _ w x.walked.p x.walked.q u (HasReached epoch) (omega arith)))

  past_where_down : (n epoch : ℕ) (ps : List (Option (Pass T Note Origin))) → SeesDown n ps → ReachedAt n epoch ps → PastAt n epoch ps
  past_where_down n epoch ps down h p had o has =
      let same : down.p ≡ p = some_same down.p p (sym (down.had None) ∙ had None) in
      let origin : down.origin ≡ o = some_same down.origin o (sym down.has_origin ∙ ap pass_origin same ∙ has) in
      let is : (state_of o (seen p)).is_up ≡ false = sym (ap (λ x. (state_of down.origin (seen x)).is_up) same ∙ ap (λ x. (state_of x (seen p)).is_up) origin) ∙ down.down in
      (h p had o has, λ up. absurd (both_ways (state_of o (seen p)).is_up is up))

  pub down_is_past : DownIsPast T
  down_is_past n w c d epoch ps qs t took here ans h =
      let saw = down_is_seen n w c d ps qs (t ∷ []) took (inl (here, inl ans)) in
      past_stays n w saw.clock d epoch saw.passes qs saw.rest saw.takes (past_where_down n epoch saw.passes saw.sees (reached_stays n w c saw.clock epoch ps saw.passes saw.first saw.took h))

  pub past_rolls_nowhere : PastRollsNowhere T
  past_rolls_nowhere n w c d ps qs t tx nth epoch upto took here event h ans =
      let x = one_turn w c d ps qs (t ∷ []) t took refl in
      let u = x.walked.turned in
      let k = done_by u.s u.t x.clock w t.event t.answer Rolled u.told.made (sym (ap is_some x.made) ∙ x.entered ∙ ap is_kept ans) ans u.told.tells in
      rolls_nowhere u.s tx nth epoch upto k.after u.s.is_up refl (found_by (IsPast epoch) (past_goes epoch) n w c d ps qs t x here h) (sym (ap (happen u.s) event) ∙ k.does)
