-- What the answer of one turn of a going back makes of a session.
use Rattle.std.proofs.Common.{◌≡◌, ◌≢◌, ◌⊎◌, ◌∙◌, refl, sym, ap, subst, ℕ, suc, ◌≤◌, ◌<◌, ◌^◌, ◌==◌, nat_lt, Bool, true, false, cond, ◌&&◌, List, [], ◌∷◌, Option, Some, None, Result, Ok, Err, arith, inl, inr, eq-eqb, ltb-true}
use Rattle.std.specs.Prelude.{is_some, IfOk}
use Rattle.std.specs.Map.{lookup}
use Rattle.std.proofs.lemmas.Bool.{both_ways, and_from, ne_eqb, lt-ltb}
use Rattle.clv_base.specs.declared.names.TxId.{TxId}
use Rattle.clv_base.specs.declared.causes.AbortCause.{AbortCause}
use Rattle.clv_base.specs.declared.events.Event.{Event}
use Rattle.clv_base.specs.declared.events.Event.TheVariants.{RollTo}
use Rattle.clv_base.specs.declared.events.Outcome.{Outcome}
use Rattle.clv_base.specs.declared.events.Outcome.TheVariants.{Rolled, Dead, Wait, Crowded, Down}
use Rattle.clv_base.specs.declared.events.Entry.{Entry}
use Rattle.clv_base.specs.declared.state.Stage.{Stage}
use Rattle.clv_base.specs.declared.state.Stage.TheVariants.{Active, Closed, Gone}
use Rattle.clv_base.specs.FileRules.{tx_has_spelling}
use Rattle.clv_base.specs.LogRules.{same_option}
use Rattle.clv_base.specs.Orders.{tx_same}
use Rattle.clv_base.specs.State.{Shard}
use Rattle.clv_base.specs.Undo.{stage_of}
use Rattle.clv_base.specs.Backs.{standing_numbers, count_after, stands_for_back}
use Rattle.clv_base.specs.Events.{Quiet, Reply, QuietBeforeWorn, QuietAfterWorn, Does, happen, happen_up, roll_by_stage, roll_event, stamped, next_stamp, step}
use Rattle.clv_base.specs.Sessions.{SessionState, is_touching, is_whole_now, numbered, goes_on_back, back_for, went_back, back_in_session, session_after}
use Rattle.clv_base.proofs.SameNames.{tx_self}
use Rattle.journal_laws.specs.Offers.{may_make}
use Rattle.machine_calls.specs.declared.machine.StepError.{StepError}
use Rattle.machine_calls.specs.declared.machine.StepError.TheVariants.{Memory, Worn}
use Rattle.machine_calls.specs.Steps.{Tells, clock_after, may_want_memory}
use Rattle.machine_laws.proofs.Laws.{from_does, above}
use Rattle.cluster_turns.specs.declared.shards.Shards.{Shards}
use Rattle.cluster_turns.specs.declared.shards.Walker.{Walker}
use Rattle.cluster_turns.specs.Notes.{back_begun}
use Rattle.cluster_turns.specs.Births.{AllSeeFree}
use Rattle.cluster_turns.specs.Unborn.{UnbornAt, UnbornUnless}
use Rattle.cluster_turns.specs.Walkers.{IsWalker, IsSameWalker, kept}
use Rattle.cluster_turns.proofs.Laws.{states_tell_may_make, touched_are_last, dies_going_back}
use Rattle.session_ops.specs.Standing.{IsOld, IsReady, HasBirth, IsActive}
use Rattle.session_ops.specs.WentBack.{MayRoll, RollAsked, StandsBack, place_back, is_back_outcome}
use Rattle.law_base.proofs.Names.{birth_same}
use Rattle.law_base.proofs.Options.{option_self}
use Rattle.law_base.proofs.Shards.{is_done, outcome_in}
use Rattle.session_ops.proofs.AfterTurn.{IsEntered, told_enters, quiet_none, told_fits, error_none, IsAsked, turn_of, rises, took_turn, born_after, ready_still, ready_then}
use Rattle.session_ops.proofs.Making.{has_shard}

-- ---- an entry is made exactly where it was done or died

abbrev is_told : Outcome → Bool
is_told Rolled = true
is_told (Dead cause) = true
is_told _ = false

-- what it comes to fits, and is told where it is done
abbrev Fits : Reply → Type 0
Fits r = (is_told (outcome_in r) ≡ is_done r) × (is_back_outcome (outcome_in r) ≡ true)

by_stage : (s : Shard) (tx : TxId) (n : ℕ) (st : Option Stage) → Fits (roll_by_stage s tx n st)
by_stage s tx n None = (refl, refl)
by_stage s tx n (Some Active) = (refl, refl)
by_stage s tx n (Some Closed) = (refl, refl)
by_stage s tx n (Some (Gone None)) = (refl, refl)
by_stage s tx n (Some (Gone (Some doom))) = (refl, refl)

by_seen : (s : Shard) (tx : TxId) (seen upto : ℕ) (fits : Bool) → Fits (roll_event s tx seen upto fits)
by_seen s tx seen upto true = by_stage s tx (count_after upto (standing_numbers tx s.journal)) (stage_of s.local tx)
by_seen s tx seen upto false = (refl, refl)

happens_fits : (s : Shard) (tx : TxId) (nth seen upto : ℕ) → Fits (happen s (RollTo tx nth seen upto))
happens_fits s tx nth seen upto = at s.is_up
  where
    at : (u : Bool) → Fits (elim u [ true ↦ happen_up s (RollTo tx nth seen upto) | false ↦ QuietBeforeWorn Down ])
    at true = by_seen s tx seen upto (seen == s.local.epoch)
    at false = (refl, refl)

-- ---- it wants no memory

module _ (tx : TxId) (nth seen upto : ℕ) where
  abbrev event_of : Event
  event_of = RollTo tx nth seen upto

  quiet_wants_none : (s : Shard) (o : Outcome) → is_back_outcome o ≡ true → may_want_memory s event_of (Quiet o) ≡ true → ⊥
  quiet_wants_none s (Wait younger) f h = both_ways false refl f
  quiet_wants_none s (Crowded count) f h = both_ways false refl f
  quiet_wants_none s _ f h = both_ways false refl h

  wants_none : (s : Shard) (stamp w : ℕ) (room : Bool) (r : Reply) → Fits r → may_want_memory s event_of (stamped stamp w event_of room r) ≡ true → ⊥
  wants_none s stamp w room (QuietBeforeWorn o) f h = quiet_wants_none s o f.1 h
  wants_none s stamp w false (QuietAfterWorn o) f h = both_ways false refl h
  wants_none s stamp w true (QuietAfterWorn o) f h = quiet_wants_none s o f.1 h
  wants_none s stamp w false (Does o t) f h = both_ways false refl h
  wants_none s stamp w true (Does o t) f h = both_ways false refl h

  never_wants : (s t : Shard) (clock w : ℕ) (r : Result Outcome StepError) (made : Option Entry) → Tells (step s clock w event_of) s clock w event_of r t made → r ≡ Err Memory → ⊥
  never_wants s t clock w r (Some x) (o, ok, m) is = let wrong = sym ok ∙ is in absurd cc
  never_wants s t clock w (Ok o) None h is = absurd cc
  never_wants s t clock w (Err (Worn at)) None h is = absurd cc
  never_wants s t clock w (Err Memory) None h is =
      wants_none s (next_stamp s clock event_of) w (nat_lt (next_stamp s clock event_of) (2 ^ 48)) (happen s event_of) (happens_fits s tx nth seen upto) h.0

-- ---- the session's state

module _ (p : SessionState) (n nth upto : ℕ) (m : MayRoll p n nth upto) where
  abbrev begun_one : SessionState
  begun_one = record (numbered nth p) { is_whole = is_whole_now p && stands_for_back nth upto p.backs; backs = (nth, upto) ∷ p.backs }

  begun_new : nth ≡ suc p.nth → back_begun nth upto p ≡ begun_one
  begun_new is = ap (λ b. cond b begun_one p) (eq-eqb nth (suc p.nth) is)

  not_next : nth ≡ p.nth → (nth == suc p.nth) ≡ false
  not_next is = ne_eqb nth (suc p.nth) (λ e. absurd (omega arith))

  begun_still : nth ≡ p.nth → back_begun nth upto p ≡ p
  begun_still is = ap (λ b. cond b begun_one p) (not_next is)

  back_found : back_for p n nth upto ≡ Some (back_begun nth upto p)
  back_found = at m.number
    where
      at : ((nth ≡ suc p.nth) × (upto < nth)) ⊎ ((nth ≡ p.nth) × (goes_on_back p.back n upto ≡ true)) → back_for p n nth upto ≡ Some (back_begun nth upto p)
      at (inl (is, low)) =
          ap (λ b. cond b (cond (nat_lt upto nth) (Some begun_one) None) (cond ((nth == p.nth) && goes_on_back p.back n upto) (Some p) None)) (eq-eqb nth (suc p.nth) is)
          ∙ ap (λ b. cond b (Some begun_one) None) (lt-ltb upto nth low) ∙ ap (λ t. Some t) (sym (begun_new is))
      at (inr (is, on)) =
          ap (λ b. cond b (cond (nat_lt upto nth) (Some begun_one) None) (cond ((nth == p.nth) && goes_on_back p.back n upto) (Some p) None)) (not_next is)
          ∙ ap (λ b. cond b (Some p) None) (and_from (nth == p.nth) (goes_on_back p.back n upto) (eq-eqb nth p.nth is) on) ∙ ap (λ t. Some t) (sym (begun_still is))

  -- what of the place stays where it begins
  pub record IsBegunOf (b : SessionState) : Type 0 where
    pub tx : b.tx ≡ p.tx
    pub birth : b.birth ≡ p.birth
    pub touched : b.touched ≡ p.touched
    pub phase : b.phase ≡ p.phase
    pub written : b.written ≡ p.written
    pub nth_is : b.nth ≡ nth

  pub begun_of : IsBegunOf (back_begun nth upto p)
  begun_of = at m.number
    where
      at : ((nth ≡ suc p.nth) × (upto < nth)) ⊎ ((nth ≡ p.nth) × (goes_on_back p.back n upto ≡ true)) → IsBegunOf (back_begun nth upto p)
      at (inl (is, low)) = subst IsBegunOf (sym (begun_new is)) (record { tx = refl; birth = refl; touched = refl; phase = refl; written = refl; nth_is = refl })
      at (inr (is, on)) = subst IsBegunOf (sym (begun_still is)) (record { tx = refl; birth = refl; touched = refl; phase = refl; written = refl; nth_is = sym is })

  -- the number is the last one or the next one
  pub last_or_next : (nth ≡ p.nth) ⊎ (nth ≡ suc p.nth)
  last_or_next = at m.number
    where
      at : ((nth ≡ suc p.nth) × (upto < nth)) ⊎ ((nth ≡ p.nth) × (goes_on_back p.back n upto ≡ true)) → (nth ≡ p.nth) ⊎ (nth ≡ suc p.nth)
      at (inl (is, low)) = inr is
      at (inr (is, on)) = inl is

some_touched : (n : ℕ) (ts : List (ℕ × ℕ)) (e : ℕ) → lookup (◌==◌ n) ts ≡ Some e → ts ≢ []
some_touched n [] e h none = absurd cc
some_touched n (t ∷ ts) e h none = absurd cc

module _ {M S G : Type 0} (sh : Shards M S G) (w : Walker M S G) (p : SessionState) (a : IsActive sh w p) (n nth upto : ℕ) (m : MayRoll p n nth upto) where
  is_last : p ≡ a.state
  is_last = touched_are_last a.state p a.goes (inl (some_touched n p.touched m.seen m.touched))

  pub rolls : (o : Outcome) → session_after sh.splits n a.state (RollTo p.tx nth m.seen upto) o ≡ went_back n upto (back_begun nth upto p) o
  rolls o =
      ap (λ t. session_after sh.splits n t (RollTo p.tx nth m.seen upto) o) (sym is_last)
      ∙ ap (λ b. cond b (back_in_session n upto o (back_for p n nth upto)) None)
      (and_from (tx_same p.tx p.tx && is_touching p.phase) (same_option (Some m.seen) (lookup (◌==◌ n) p.touched)) (and_from (tx_same p.tx p.tx) (is_touching p.phase) (tx_self p.tx) a.touching)
      (ap (same_option (Some m.seen)) m.touched ∙ option_self (Some m.seen)))
      ∙ ap (back_in_session n upto o) (back_found p n nth upto m)

  pub may_roll : may_make sh.splits sh.run w.number (kept w.passes.items) n (RollTo p.tx nth m.seen upto) ≡ true
  may_roll = states_tell_may_make sh.splits sh.run w.number (kept w.passes.items) a.state n (RollTo p.tx nth m.seen upto) a.ready.state ∙ ap is_some (rolls Rolled)

-- ---- an entry's stamp

entry_stamp : (e : Event) (s t : Shard) (clock w clock' : ℕ) (r : Result Outcome StepError) (made : Option Entry) (x : Entry) → made ≡ Some x → Tells (step s clock w e) s clock w e r t made → clock' ≡ clock_after clock r made → (clock < clock') × (clock' < 2 ^ 48)
entry_stamp e s t clock w clock' r None x is h c = absurd cc
entry_stamp e s t clock w clock' r (Some y) x is (o, ok, m) c =
    let d = from_does (next_stamp s clock e) w e (nat_lt (next_stamp s clock e) (2 ^ 48)) (happen s e) o t m.enters in
    let up = above (step s clock w e) s clock w e o t y m in
    let room = ltb-true (next_stamp s clock e) (2 ^ 48) d.has_room in
    let stamp_is = ap (λ z. z.stamp) m.entry_is in
    ((omega arith), omega arith)

-- ---- after one turn

-- the same birth, at a place with the same name and touched shards
pub born_at : {M S G : Type 0} (v : Walker M S G) (p q : SessionState) → q.tx ≡ p.tx → q.birth ≡ p.birth → q.touched ≡ p.touched → HasBirth v p → HasBirth v q
born_at v p q tx birth touched b = record {
  birth = b.birth;
  is = birth ∙ b.is;
  bears = b.bears;
  old = b.old;
  free = subst (λ x. AllSeeFree x b.birth v.passes.items) (sym tx) b.free;
  parts = λ k. subst (λ ts. UnbornUnless k (lookup (◌==◌ k) ts) b.birth v.passes.items) (sym touched) (b.parts k);
  reached = λ k epoch h. b.reached k epoch (sym (ap (lookup (◌==◌ k)) touched) ∙ h);
}

module _ {M S G : Type 0} (sh : Shards M S G) (w v : Walker M S G) (p : SessionState) (a : IsActive sh w p) (n nth upto : ℕ) (m : MayRoll p n nth upto) (r : Result Outcome StepError) where
  abbrev rolled_event : Event
  rolled_event = RollTo p.tx nth m.seen upto

  pub roll_told : IsAsked w v n rolled_event r → RollAsked w.number w.clock w.passes.items p nth upto n r v.clock v.passes.items
  roll_told walked = record {
    turn = turn_of w v n rolled_event r walked;
    took = took_turn w v n rolled_event r walked refl;
    is = record { seen = m.seen; touched = m.touched; shard = refl; event = refl; answer = refl };
  }

  pub roll_fits : IsAsked w v n rolled_event r → IfOk r (λ o. is_back_outcome o ≡ true)
  roll_fits walked = told_fits rolled_event is_told is_back_outcome (λ s. happens_fits s p.tx nth m.seen upto) walked.turned.s walked.turned.t w.clock w.number r walked.turned.told.made walked.turned.told.tells

  pub roll_wants_none : IsAsked w v n rolled_event r → r ≡ Err Memory → ⊥
  roll_wants_none walked is = never_wants p.tx nth m.seen upto walked.turned.s walked.turned.t w.clock w.number r walked.turned.told.made walked.turned.told.tells is

  pub roll_stamped : IsAsked w v n rolled_event r → r ≡ Ok Rolled → (w.clock < v.clock) × (v.clock < 2 ^ 48)
  roll_stamped walked is =
      let told = walked.turned.told in
      let tells = subst (λ y. Tells (step walked.turned.s w.clock w.number rolled_event) walked.turned.s w.clock w.number rolled_event y walked.turned.t told.made) is told.tells in
      let x = told_enters rolled_event is_told is_back_outcome (λ s. happens_fits s p.tx nth m.seen upto) walked.turned.s walked.turned.t w.clock w.number Rolled told.made tells refl in
      entry_stamp rolled_event walked.turned.s walked.turned.t w.clock w.number v.clock r told.made x.entry x.is told.tells told.clock_is

  gone_dead : (walked : IsAsked w v n rolled_event r) (cause : AbortCause) → r ≡ Ok (Dead cause) → UnbornAt n a.born.birth v.passes.items
  gone_dead walked cause is =
      dies_going_back n w.number w.clock v.clock w.passes.items v.passes.items (turn_of w v n rolled_event r walked) p.tx a.born.birth nth m.seen upto cause (took_turn w v n rolled_event r walked refl) a.born.bears refl refl is (has_shard sh w a.ready.walker n) a.born.free
      (subst (λ part. UnbornUnless n part a.born.birth w.passes.items) m.touched (a.born.parts n))

  -- no entry was made
  active_still : (walked : IsAsked w v n rolled_event r) → IsWalker sh v → IsSameWalker w v → walked.turned.told.made ≡ None → IsActive sh v p
  active_still walked is_walker same none =
      let l = rises w v n rolled_event r walked in
      record {
        state = a.state;
        ready = ready_still w v n rolled_event r walked refl sh a.state tt is_walker same none a.ready;
        goes = a.goes;
        touching = a.touching;
        born = born_after w v n rolled_event r walked refl p a.born (λ tx. tt) same.0;
        serial = (let s = same.1 in let h = a.serial in omega arith);
        spelled = a.spelled;
        counted = (let h = a.counted in omega arith);
        few = a.few;
      }

  -- one was
  made_ready : (walked : IsAsked w v n rolled_event r) (o : Outcome) (q : SessionState) → IsWalker sh v → IsSameWalker w v → IsEntered rolled_event o walked.turned.told.made → went_back n upto (back_begun nth upto p) o ≡ Some q
      → (q.tx ≡ p.tx) → (q.birth ≡ p.birth) → IsReady sh v q
  made_ready walked o q is_walker same x goes name birth =
      ready_then w v n rolled_event r walked refl sh a.state q o tt is_walker same x (rolls sh w p a n nth upto m o ∙ goes) (let h = a.serial in let k = ap (λ (t : TxId). t.serial) name in omega arith)
      (subst (IsOld w.clock) (sym (birth ∙ a.born.is)) a.born.old) a.ready

  pub roll_stands : (walked : IsAsked w v n rolled_event r) → IsWalker sh v → IsSameWalker w v → (x : Result Outcome StepError) → r ≡ x → StandsBack n sh v (place_back n nth upto p x) x
  roll_stands walked is_walker same (Err e) is =
      active_still walked is_walker same (error_none rolled_event walked.turned.s walked.turned.t w.clock w.number e walked.turned.told.made
      (subst (λ y. Tells (step walked.turned.s w.clock w.number rolled_event) walked.turned.s w.clock w.number rolled_event y walked.turned.t walked.turned.told.made) is walked.turned.told.tells))
  roll_stands walked is_walker same (Ok o) is = at o refl
    where
      tells : Tells (step walked.turned.s w.clock w.number rolled_event) walked.turned.s w.clock w.number rolled_event (Ok o) walked.turned.t walked.turned.told.made
      tells = subst (λ y. Tells (step walked.turned.s w.clock w.number rolled_event) walked.turned.s w.clock w.number rolled_event y walked.turned.t walked.turned.told.made) is walked.turned.told.tells

      quiet : is_told o ≡ false → IsActive sh v p
      quiet k = active_still walked is_walker same (quiet_none rolled_event is_told is_back_outcome (λ s. happens_fits s p.tx nth m.seen upto) walked.turned.s walked.turned.t w.clock w.number o walked.turned.told.made tells k)

      entered : is_told o ≡ true → IsEntered rolled_event o walked.turned.told.made
      entered k = told_enters rolled_event is_told is_back_outcome (λ s. happens_fits s p.tx nth m.seen upto) walked.turned.s walked.turned.t w.clock w.number o walked.turned.told.made tells k

      b : IsBegunOf p n nth upto m (back_begun nth upto p)
      b = begun_of p n nth upto m

      born : HasBirth v p
      born = born_after w v n rolled_event r walked refl p a.born (λ tx. tt) same.0

      at : (z : Outcome) → o ≡ z → StandsBack n sh v (place_back n nth upto p (Ok z)) (Ok z)
      at Rolled q =
          let x = entered (ap is_told q) in
          let stamp = entry_stamp rolled_event walked.turned.s walked.turned.t w.clock w.number v.clock (Ok o) walked.turned.told.made x.entry x.is tells (walked.turned.told.clock_is ∙ ap (λ y. clock_after w.clock y walked.turned.told.made) is) in
          let t : SessionState = place_back n nth upto p (Ok Rolled) in
          record {
            state = t;
            ready = made_ready walked o t is_walker same x (ap (went_back n upto (back_begun nth upto p)) q) b.tx b.birth;
            goes = inl refl;
            touching = ap is_touching b.phase ∙ a.touching;
            born = born_at v p t b.tx b.birth b.touched born;
            serial = (let s = same.1 in let h = a.serial in let k = ap (λ (z : TxId). z.serial) b.tx in omega arith);
            spelled = ap tx_has_spelling b.tx ∙ a.spelled;
            counted = counts stamp (last_or_next p n nth upto m);
            few = fews stamp (last_or_next p n nth upto m);
          }
        where
          counts : (w.clock < v.clock) × (v.clock < 2 ^ 48) → (nth ≡ p.nth) ⊎ (nth ≡ suc p.nth) → (back_begun nth upto p).nth ≤ v.clock
          counts s (inl k) = let l = s.0 in let h = a.counted in let e = b.nth_is in omega arith
          counts s (inr k) = let l = s.0 in let h = a.counted in let e = b.nth_is in omega arith

          fews : (w.clock < v.clock) × (v.clock < 2 ^ 48) → (nth ≡ p.nth) ⊎ (nth ≡ suc p.nth) → (back_begun nth upto p).nth < 2 ^ 48
          fews s k = let c = counts s k in let l = s.1 in omega arith
      at (Dead cause) q =
          let t : SessionState = place_back n nth upto p (Ok (Dead cause)) in (
            record {
              ready = made_ready walked o t is_walker same (entered (ap is_told q)) (ap (went_back n upto (back_begun nth upto p)) q) b.tx b.birth;
              born = born_at v p t b.tx b.birth b.touched born;
              spelled = ap tx_has_spelling b.tx ∙ a.spelled;
            },
            λ birth had. subst (λ y. UnbornAt n y v.passes.items) (birth_same a.born.birth birth (sym a.born.is ∙ sym b.birth ∙ had)) (gone_dead walked cause (is ∙ ap (λ y. Ok y) q)),
          )
      at z q = quiet (ap is_told q)

-- the transaction and its touched shards stay, whatever was answered
pub place_of : (p : SessionState) (n nth upto : ℕ) → MayRoll p n nth upto → (x : Result Outcome StepError) (q : SessionState) → q ≡ place_back n nth upto p x → (q.tx ≡ p.tx) × (q.touched ≡ p.touched)
place_of p n nth upto m (Ok Rolled) q is = let b = begun_of p n nth upto m in (ap (λ z. z.tx) is ∙ b.tx, ap (λ z. z.touched) is ∙ b.touched)
place_of p n nth upto m (Ok (Dead cause)) q is = let b = begun_of p n nth upto m in (ap (λ z. z.tx) is ∙ b.tx, ap (λ z. z.touched) is ∙ b.touched)
place_of p n nth upto m (Ok _) q is = (ap (λ z. z.tx) is, ap (λ z. z.touched) is)
place_of p n nth upto m (Err e) q is = (ap (λ z. z.tx) is, ap (λ z. z.touched) is)
