-- What an operation's answer makes of a session.
use Rattle.std.proofs.Common.{◌≡◌, ◌∙◌, refl, sym, ap, subst, ℕ, suc, ◌≤◌, ◌<◌, ◌^◌, ◌==◌, nat_lt, Bool, true, false, not, cond, ◌&&◌, ◌||◌, List, [], ◌∷◌, ◌++◌, append-nil, Option, Some, None, Result, Ok, Err, arith, inl, inr, eqb-true, ltb-true}
use Rattle.std.specs.Prelude.{is_some, unwrap_or, IfOk}
use Rattle.std.specs.Map.{lookup}
use Rattle.std.specs.Ordering.{is_eq}
use Rattle.std.proofs.lemmas.Bool.{both_ways, and_from}
use mathlib.Core.Logic.{dite}
use native.Mathlib.Decide.{ℕ_discrete}
use Rattle.clv_base.specs.declared.names.TxId.{TxId}
use Rattle.clv_base.specs.declared.names.Birth.{Birth}
use Rattle.clv_base.specs.declared.ops.Op.{Op as Operation}
use Rattle.clv_base.specs.declared.ops.Op.TheVariants.{Get, Put, Del, Scan, Add}
use Rattle.clv_base.specs.declared.ops.Answer.{Answer}
use Rattle.clv_base.specs.declared.ops.Answer.TheVariants.{Value}
use Rattle.clv_base.specs.declared.causes.AbortCause.{AbortCause}
use Rattle.clv_base.specs.declared.events.Event.{Event}
use Rattle.clv_base.specs.declared.events.Event.TheVariants.{Op}
use Rattle.clv_base.specs.declared.events.Outcome.{Outcome}
use Rattle.clv_base.specs.declared.events.Outcome.TheVariants.{Answered, Dead, Down}
use Rattle.clv_base.specs.declared.events.Entry.{Entry}
use Rattle.clv_base.specs.LogRules.{same_option}
use Rattle.clv_base.specs.Orders.{birth_cmp}
use Rattle.clv_base.specs.State.{Shard}
use Rattle.clv_base.specs.OneShard.{OpReply, OpWaits, OpCrowded, OpDies, OpAnswers, op_reply}
use Rattle.clv_base.specs.Events.{QuietBeforeWorn, happen, happen_up, step, next_stamp, op_event}
use Rattle.clv_base.specs.Sessions.{SessionState, is_number, goes_on_scan, scan_shard, lies_in, op_answered, op_in_session, touch, session_after}
use Rattle.clv_base.proofs.SameNames.{tx_self}
use Rattle.journal_laws.specs.Offers.{may_make}
use Rattle.machine_calls.specs.declared.machine.StepError.{StepError}
use Rattle.machine_calls.specs.Steps.{Tells, clock_after}
use Rattle.machine_laws.proofs.Laws.{from_does, above}
use Rattle.cluster_turns.specs.declared.shards.Shards.{Shards}
use Rattle.cluster_turns.specs.declared.shards.Walker.{Walker}
use Rattle.cluster_turns.specs.Turns.{EventTold}
use Rattle.cluster_turns.specs.Walkers.{IsWalker, IsSameWalker, Walked, kept}
use Rattle.cluster_turns.proofs.Laws.{event_rises}
use Rattle.cluster_turns.specs.States.{session_of}
use Rattle.cluster_turns.proofs.Laws.{states_go_on, states_tell_may_make, ops_go_on, enters_so, ok_same, quiet_so}
use Rattle.cluster_turns.specs.CallTurns.{Turn, Took, no_turn, event_turn, entry_on}
use Rattle.cluster_turns.specs.Notes.{may_write}
use Rattle.cluster_turns.proofs.Laws.{kept_grows}
use Rattle.cluster_turns.specs.Births.{AllSeeFree, AreInformed}
use Rattle.cluster_turns.specs.Unborn.{UnbornAt, UnbornUnless, LeavesUnborn, EndsPart}
use Rattle.cluster_turns.proofs.Laws.{informed_stay, free_stays, unless_stays, answered_is_in_epoch, ends_unbear, unborn_unless_any, reached_stays, answered_is_reached}
use Rattle.cluster_turns.specs.Epochs.{ReachedAt}
use Rattle.cluster_turns.proofs.Laws.{touch_here, touch_else}
use Rattle.session_ops.specs.Standing.{IsOld, is_op_outcome, place_after, TryTold, IsReady, HasBirth, IsActive, StandsAfter}
use Rattle.law_base.proofs.Names.{birth_same}
use Rattle.law_base.proofs.Shards.{is_done, fits_op as is_told, outcome_in}
use Rattle.law_base.proofs.Options.{option_self, some_inj}

-- ---- an entry is made exactly where the operation was answered or died

op_done : (s : Shard) (r : OpReply) → is_told (outcome_in (op_event s r)) ≡ is_done (op_event s r)
op_done s (OpWaits younger) = refl
op_done s (OpCrowded count) = refl
op_done s (OpDies cause l) = refl
op_done s (OpAnswers answer l) = refl

op_happens : (s : Shard) (tx : TxId) (birth : Birth) (nth : ℕ) (seen : Option ℕ) (op : Operation) → is_told (outcome_in (happen s (Op tx birth nth seen op))) ≡ is_done (happen s (Op tx birth nth seen op))
op_happens s tx birth nth seen op = at s.is_up
  where
    at : (u : Bool) → is_told (outcome_in (elim u [ true ↦ happen_up s (Op tx birth nth seen op) | false ↦ QuietBeforeWorn Down ])) ≡ is_done (elim u [ true ↦ happen_up s (Op tx birth nth seen op) | false ↦ QuietBeforeWorn Down ])
    at true = op_done s (op_reply s.shard s.local tx birth seen op)
    at false = refl

-- the entry that an answered operation made, with its stamp
pub record IsEntered (clock w : ℕ) (e : Event) (o : Outcome) (clock' : ℕ) (made : Option Entry) : Type 0 where
  pub entry : Entry
  pub is : made ≡ Some entry
  pub event_is : entry.event ≡ e
  pub outcome_is : entry.outcome ≡ o
  pub after : clock < entry.stamp
  pub early : entry.stamp < 2 ^ 48
  pub clock_is : clock' ≡ entry.stamp

module _ (tx : TxId) (birth : Birth) (nth : ℕ) (seen : Option ℕ) (op : Operation) where
  told_enters : (s t : Shard) (clock w clock' : ℕ) (o : Outcome) (made : Option Entry) → Tells (step s clock w (Op tx birth nth seen op)) s clock w (Op tx birth nth seen op) (Ok o) t made → clock' ≡ clock_after clock (Ok o) made
      → is_told o ≡ true → IsEntered clock w (Op tx birth nth seen op) o clock' made
  told_enters s t clock w clock' o None h c k =
      let e = Op tx birth nth seen op in
      let q = quiet_so (next_stamp s clock e) w e (nat_lt (next_stamp s clock e) (2 ^ 48)) (happen s e) o h.0 in
      absurd (both_ways (is_done (happen s e)) q.1 (sym (op_happens s tx birth nth seen op) ∙ ap is_told q.0 ∙ k))
  told_enters s t clock w clock' o (Some x) (p, is, m) c k =
      let e = Op tx birth nth seen op in
      let same = ok_same o p is in
      let d = from_does (next_stamp s clock e) w e (nat_lt (next_stamp s clock e) (2 ^ 48)) (happen s e) p t m.enters in
      record {
        entry = x;
        is = refl;
        event_is = ap (λ y. y.event) m.entry_is;
        outcome_is = ap (λ y. y.outcome) m.entry_is ∙ sym same;
        after = above (step s clock w e) s clock w e p t x m;
        early = (let l = ltb-true (next_stamp s clock e) (2 ^ 48) d.has_room in let stamp_is = ap (λ y. y.stamp) m.entry_is in omega arith);
        clock_is = c;
      }

  quiet_none : (s t : Shard) (clock w clock' : ℕ) (o : Outcome) (made : Option Entry) → Tells (step s clock w (Op tx birth nth seen op)) s clock w (Op tx birth nth seen op) (Ok o) t made → is_told o ≡ false → made ≡ None
  quiet_none s t clock w clock' o None h k = refl
  quiet_none s t clock w clock' o (Some x) (p, is, m) k =
      let e = Op tx birth nth seen op in
      let q = enters_so (next_stamp s clock e) w e (nat_lt (next_stamp s clock e) (2 ^ 48)) (happen s e) p t m.enters in
      absurd (both_ways (is_done (happen s e)) (sym (op_happens s tx birth nth seen op) ∙ ap is_told (q.0 ∙ sym (ok_same o p is)) ∙ k) q.1)

  error_none : (s t : Shard) (clock w : ℕ) (x : StepError) (made : Option Entry) → Tells (step s clock w (Op tx birth nth seen op)) s clock w (Op tx birth nth seen op) (Err x) t made → made ≡ None
  error_none s t clock w x None h = refl
  error_none s t clock w x (Some y) (p, is, m) = absurd cc

-- what an operation may come to
op_fits : (s : Shard) (r : OpReply) → is_op_outcome (outcome_in (op_event s r)) ≡ true
op_fits s (OpWaits younger) = refl
op_fits s (OpCrowded count) = refl
op_fits s (OpDies cause l) = refl
op_fits s (OpAnswers answer l) = refl

happens_fits : (s : Shard) (tx : TxId) (birth : Birth) (nth : ℕ) (seen : Option ℕ) (op : Operation) → is_op_outcome (outcome_in (happen s (Op tx birth nth seen op))) ≡ true
happens_fits s tx birth nth seen op = at s.is_up
  where
    at : (u : Bool) → is_op_outcome (outcome_in (elim u [ true ↦ happen_up s (Op tx birth nth seen op) | false ↦ QuietBeforeWorn Down ])) ≡ true
    at true = op_fits s (op_reply s.shard s.local tx birth seen op)
    at false = refl

told_fits : (tx : TxId) (birth : Birth) (nth : ℕ) (seen : Option ℕ) (op : Operation) (s t : Shard) (clock w : ℕ) (r : Result Outcome StepError) (made : Option Entry) → Tells (step s clock w (Op tx birth nth seen op)) s clock w (Op tx birth nth seen op) r t made
    → IfOk r (λ o. is_op_outcome o ≡ true)
told_fits tx birth nth seen op s t clock w (Err e) made h = tt
told_fits tx birth nth seen op s t clock w (Ok o) None h =
    let e = Op tx birth nth seen op in
    let q = quiet_so (next_stamp s clock e) w e (nat_lt (next_stamp s clock e) (2 ^ 48)) (happen s e) o h.0 in
    ap is_op_outcome (sym q.0) ∙ happens_fits s tx birth nth seen op
told_fits tx birth nth seen op s t clock w (Ok o) (Some x) (p, is, m) =
    let e = Op tx birth nth seen op in
    let q = enters_so (next_stamp s clock e) w e (nat_lt (next_stamp s clock e) (2 ^ 48)) (happen s e) p t m.enters in
    ap is_op_outcome (ok_same o p is ∙ sym q.0) ∙ happens_fits s tx birth nth seen op

-- ---- the session's state

op_in : (splits : List ℕ) (n nth : ℕ) (op : Operation) (o : Outcome) (p : SessionState) → is_number p n nth op ≡ true → lies_in splits n op ≡ true → op_in_session splits n nth (lookup (◌==◌ n) p.touched) op o (Some p) ≡ op_answered n nth op p o
op_in splits n nth op o p a b =
    ap (λ c. cond c (op_answered n nth op p o) None)
    (and_from (is_number p n nth op && lies_in splits n op) (same_option (lookup (◌==◌ n) p.touched) (lookup (◌==◌ n) p.touched)) (and_from (is_number p n nth op) (lies_in splits n op) a b) (option_self (lookup (◌==◌ n) p.touched)))

pub number_low : (p : SessionState) (n nth : ℕ) (op : Operation) → is_number p n nth op ≡ true → nth ≤ suc p.nth
number_low p n nth op h = at (nth == suc p.nth) (nth == p.nth) (goes_on_scan p.scanned (scan_shard n op)) refl refl h
  where
    at : (a b c : Bool) → (nth == suc p.nth) ≡ a → (nth == p.nth) ≡ b → (a || (b && c)) ≡ true → nth ≤ suc p.nth
    at true b c e f h = let k = eqb-true nth (suc p.nth) e in omega arith
    at false true c e f h = let k = eqb-true nth p.nth f in omega arith
    at false false c e f h = absurd (both_ways false refl h)

no_scan : (o : Option ℕ) → goes_on_scan o None ≡ false
no_scan None = refl
no_scan (Some a) = refl

next_alone : (p : SessionState) (nth : ℕ) → (nth == suc p.nth) || ((nth == p.nth) && goes_on_scan p.scanned None) ≡ true → nth ≡ suc p.nth
next_alone p nth h = eqb-true nth (suc p.nth) (at (nth == suc p.nth) (nth == p.nth) (goes_on_scan p.scanned None) (no_scan p.scanned) h)
  where
    at : (a b c : Bool) → c ≡ false → (a || (b && c)) ≡ true → a ≡ true
    at true b c none h = refl
    at false true c none h = absurd (both_ways c none h)
    at false false c none h = absurd (both_ways false refl h)

-- an operation that may write has the next number
pub number_next : (p : SessionState) (n nth : ℕ) (op : Operation) → may_write op ≡ true → is_number p n nth op ≡ true → nth ≡ suc p.nth
number_next p n nth (Get k) w h = absurd (both_ways false refl w)
number_next p n nth (Scan lo hi) w h = absurd (both_ways false refl w)
number_next p n nth (Put k v) w h = next_alone p nth h
number_next p n nth (Del k) w h = next_alone p nth h
number_next p n nth (Add k by) w h = next_alone p nth h

module _ {M S G : Type 0} where
  pub goes_to : (sh : Shards M S G) (w : Walker M S G) (p : SessionState) (a : IsActive sh w p) (n nth : ℕ) (op : Operation) (o : Outcome) → is_number p n nth op ≡ true → lies_in sh.splits n op ≡ true
      → session_after sh.splits n a.state (Op p.tx a.born.birth nth (lookup (◌==◌ n) p.touched) op) o ≡ op_answered n nth op p o
  goes_to sh w p a n nth op o number lies =
      ops_go_on sh.splits a.state p a.born.birth n nth (lookup (◌==◌ n) p.touched) op o a.goes a.touching a.born.is ∙ op_in sh.splits n nth op o p number lies

  pub may_ask : (sh : Shards M S G) (w : Walker M S G) (p : SessionState) (a : IsActive sh w p) (n nth : ℕ) (op : Operation) → is_number p n nth op ≡ true → lies_in sh.splits n op ≡ true
      → may_make sh.splits sh.run w.number (kept w.passes.items) n (Op p.tx a.born.birth nth (lookup (◌==◌ n) p.touched) op) ≡ true
  may_ask sh w p a n nth op number lies =
      states_tell_may_make sh.splits sh.run w.number (kept w.passes.items) a.state n (Op p.tx a.born.birth nth (lookup (◌==◌ n) p.touched) op) a.ready.state ∙ ap is_some (goes_to sh w p a n nth op (Answered (Value None) 0) number lies)

-- ---- after one turn

module _ {M S G : Type 0} (sh : Shards M S G) (w v : Walker M S G) (p : SessionState) (a : IsActive sh w p) (n nth : ℕ) (op : Operation) (r : Result Outcome StepError) where
  abbrev asked_event : Event
  asked_event = Op p.tx a.born.birth nth (lookup (◌==◌ n) p.touched) op

  abbrev IsAsked : Type 0
  IsAsked = Walked (EventTold w.clock w.number asked_event r v.clock) n w.number w.passes.items v.passes.items

  abbrev turn_of : IsAsked → Turn
  turn_of walked = record { shard = n; event = asked_event; answer = r; made = walked.turned.told.made }

  took_turn : (walked : IsAsked) → Took w.number w.clock w.passes.items (turn_of walked ∷ []) v.clock v.passes.items
  took_turn walked = event_turn w.clock v.clock v.clock w.passes.items v.passes.items v.passes.items (turn_of walked) [] walked refl refl (no_turn v.clock v.passes.items)

  pub ask_told : IsAsked → TryTold w.number w.clock w.passes.items n asked_event r v.clock v.passes.items
  ask_told walked = record { turns = turn_of walked ∷ []; took = took_turn walked; is = inr (turn_of walked, refl, refl, refl, refl) }

  pub ask_fits : IsAsked → IfOk r (λ o. is_op_outcome o ≡ true)
  ask_fits walked = told_fits p.tx a.born.birth nth (lookup (◌==◌ n) p.touched) op walked.turned.s walked.turned.t w.clock w.number r walked.turned.told.made walked.turned.told.tells

  rises : IsAsked → w.clock ≤ v.clock
  rises walked = event_rises w.clock w.number asked_event r v.clock walked.turned.s walked.turned.t walked.turned.added walked.turned.told

  informed_after : (walked : IsAsked) → v.number ≡ w.number → AreInformed v.number v.clock v.passes.items
  informed_after walked same =
      subst (λ k. AreInformed k v.clock v.passes.items) (sym same)
      (informed_stay w.number w.clock v.clock w.passes.items v.passes.items (turn_of walked ∷ []) (took_turn walked) (a.born.old, tt) a.ready.informed)

  free_after : (walked : IsAsked) → AllSeeFree p.tx a.born.birth v.passes.items
  free_after walked =
      free_stays w.number w.clock v.clock w.passes.items v.passes.items (turn_of walked ∷ []) p.tx a.born.birth (took_turn walked) a.born.bears
      (ap (λ b. not b && is_eq (birth_cmp a.born.birth a.born.birth)) (tx_self p.tx), tt) a.born.free

  kept_after : (walked : IsAsked) → kept v.passes.items ≡ kept w.passes.items ++ (entry_on n walked.turned.told.made ++ [])
  kept_after walked = kept_grows w.number w.clock v.clock w.passes.items v.passes.items (turn_of walked ∷ []) (took_turn walked)

  old_after : w.clock ≤ v.clock → (b : Option Birth) → IsOld w.clock b → IsOld v.clock b
  old_after l None h = tt
  old_after l (Some b) h = omega arith

  -- the birth, with what is known of its parts at another place
  born_after : (walked : IsAsked) → v.number ≡ w.number → (q : SessionState) → (q.tx ≡ p.tx) → (q.birth ≡ p.birth) → ((m : ℕ) → UnbornUnless m (lookup (◌==◌ m) q.touched) a.born.birth v.passes.items)
      → ((m epoch : ℕ) → lookup (◌==◌ m) q.touched ≡ Some epoch → ReachedAt m epoch v.passes.items) → HasBirth v q
  born_after walked same q name birth parts reached = record {
    birth = a.born.birth;
    is = birth ∙ a.born.is;
    bears = a.born.bears ∙ sym same;
    old = (let l = rises walked in let o = a.born.old in omega arith);
    free = subst (λ x. AllSeeFree x a.born.birth v.passes.items) (sym name) (free_after walked);
    parts = parts;
    reached = reached;
  }

  -- the epochs of its touches
  still_reached : IsAsked → (m epoch : ℕ) → lookup (◌==◌ m) p.touched ≡ Some epoch → ReachedAt m epoch v.passes.items
  still_reached walked m epoch h = reached_stays m w.number w.clock v.clock epoch w.passes.items v.passes.items (turn_of walked ∷ []) (took_turn walked) (a.born.reached m epoch h)

  answered_reached : (walked : IsAsked) (answer : Answer) (epoch : ℕ) → r ≡ Ok (Answered answer epoch) → (m k : ℕ) → lookup (◌==◌ m) (touch n epoch p.touched) ≡ Some k → ReachedAt m k v.passes.items
  answered_reached walked answer epoch is m k h = dite (ℕ_discrete m n)
      (λ same. subst (λ j. ReachedAt j k v.passes.items) (sym same)
      (here (lookup (◌==◌ n) p.touched) refl (sym (touch_here n epoch p.touched) ∙ ap (λ j. lookup (◌==◌ j) (touch n epoch p.touched)) (sym same) ∙ h)))
      (λ other. still_reached walked m k (sym (touch_else m n epoch p.touched other) ∙ h))
    where
      here : (o : Option ℕ) → lookup (◌==◌ n) p.touched ≡ o → Some (unwrap_or (lookup (◌==◌ n) p.touched) epoch) ≡ Some k → ReachedAt n k v.passes.items
      here (Some old) was e = still_reached walked n k (was ∙ sym (ap (λ x. Some (unwrap_or x epoch)) was) ∙ e)
      here None was e =
          subst (λ j. ReachedAt n j v.passes.items) (some_inj epoch k (sym (ap (λ x. Some (unwrap_or x epoch)) was) ∙ e))
          (answered_is_reached n w.number w.clock v.clock w.passes.items v.passes.items (turn_of walked) p.tx a.born.birth nth (lookup (◌==◌ n) p.touched) op answer epoch (took_turn walked) refl refl is)

  -- parts on other shards, and where no entry was made
  parts_stay : (walked : IsAsked) (m : ℕ) → ((n ≡ m) → LeavesUnborn a.born.birth (turn_of walked)) → (part : Option ℕ) → UnbornUnless m part a.born.birth w.passes.items → UnbornUnless m part a.born.birth v.passes.items
  parts_stay walked m leaves part h = unless_stays m w.number w.clock v.clock w.passes.items v.passes.items (turn_of walked ∷ []) part a.born.birth (took_turn walked) a.born.bears (leaves, tt) h

  parts_quiet : (walked : IsAsked) → walked.turned.told.made ≡ None → (m : ℕ) → UnbornUnless m (lookup (◌==◌ m) p.touched) a.born.birth v.passes.items
  parts_quiet walked none m = parts_stay walked m (λ here. inl none) (lookup (◌==◌ m) p.touched) (a.born.parts m)

  -- on the shard of the operation it is the part of the answer's epoch
  parts_answered : (walked : IsAsked) (answer : Answer) (epoch : ℕ) → r ≡ Ok (Answered answer epoch) → (m : ℕ) → UnbornUnless m (lookup (◌==◌ m) (touch n epoch p.touched)) a.born.birth v.passes.items
  parts_answered walked answer epoch is m = dite (ℕ_discrete m n)
      (λ same. subst (λ part. UnbornUnless m part a.born.birth v.passes.items) (sym (ap (λ k. lookup (◌==◌ k) (touch n epoch p.touched)) same ∙ touch_here n epoch p.touched))
      (answered_is_in_epoch m w.number w.clock v.clock w.passes.items v.passes.items (turn_of walked) p.tx a.born.birth a.born.birth nth (lookup (◌==◌ n) p.touched) op answer epoch (took_turn walked) a.born.bears (sym same) refl is))
      (λ other. subst (λ part. UnbornUnless m part a.born.birth v.passes.items) (sym (touch_else m n epoch p.touched other)) (parts_stay walked m (λ here. absurd (other (sym here))) (lookup (◌==◌ m) p.touched) (a.born.parts m)))

  -- and where the transaction died of it there is none
  gone_after : (walked : IsAsked) (cause : AbortCause) → r ≡ Ok (Dead cause) → UnbornAt n a.born.birth v.passes.items
  gone_after walked cause is =
      ends_unbear n w.number w.clock v.clock w.passes.items v.passes.items (turn_of walked ∷ []) p.tx a.born.birth (took_turn walked) a.born.bears
      (ap (λ b. not b && is_eq (birth_cmp a.born.birth a.born.birth)) (tx_self p.tx), tt) a.born.free (inl (refl, subst (EndsPart p.tx asked_event) (sym is) refl, tt))

  parts_died : (walked : IsAsked) (cause : AbortCause) → r ≡ Ok (Dead cause) → (m : ℕ) → UnbornUnless m (lookup (◌==◌ m) p.touched) a.born.birth v.passes.items
  parts_died walked cause is m = dite (ℕ_discrete m n)
      (λ same. subst (λ k. UnbornUnless k (lookup (◌==◌ m) p.touched) a.born.birth v.passes.items) (sym same) (unborn_unless_any n (lookup (◌==◌ m) p.touched) a.born.birth v.passes.items (gone_after walked cause is)))
      (λ other. parts_stay walked m (λ here. absurd (other (sym here))) (lookup (◌==◌ m) p.touched) (a.born.parts m))

  -- no entry was made
  active_still : (walked : IsAsked) → IsWalker sh v → IsSameWalker w v → walked.turned.told.made ≡ None → IsActive sh v p
  active_still walked is_walker same none =
      let l = rises walked in
      let kept_same : kept v.passes.items ≡ kept w.passes.items = kept_after walked ∙ ap (λ m. kept w.passes.items ++ (entry_on n m ++ [])) none ∙ append-nil (kept w.passes.items) in
      record {
        state = a.state;
        ready = record {
          walker = is_walker;
          number = subst (λ k. Rattle.clv_base.specs.Sessions.is_session_number k ≡ true) (sym same.0) a.ready.number;
          state = subst (λ k. session_of sh.splits sh.run k (kept v.passes.items) ≡ Some a.state) (sym same.0) (ap (session_of sh.splits sh.run w.number) kept_same ∙ a.ready.state);
          serial = (let s = same.1 in let h = a.ready.serial in omega arith);
          old = old_after l (a.state).birth a.ready.old;
          informed = informed_after walked same.0;
        };
        goes = a.goes;
        touching = a.touching;
        born = born_after walked same.0 p refl refl (parts_quiet walked none) (still_reached walked);
        serial = (let s = same.1 in let h = a.serial in omega arith);
        spelled = a.spelled;
        counted = (let h = a.counted in omega arith);
        few = a.few;
      }

  -- one was
  state_after : (walked : IsAsked) (o : Outcome) (q : SessionState) → v.number ≡ w.number → is_number p n nth op ≡ true → lies_in sh.splits n op ≡ true → IsEntered w.clock w.number asked_event o v.clock walked.turned.told.made → op_answered n nth op p o ≡ Some q
      → session_of sh.splits sh.run v.number (kept v.passes.items) ≡ Some q
  state_after walked o q same number lies x goes =
      subst (λ k. session_of sh.splits sh.run k (kept v.passes.items) ≡ Some q) (sym same)
      (ap (session_of sh.splits sh.run w.number) (kept_after walked ∙ ap (λ m. kept w.passes.items ++ (entry_on n m ++ [])) x.is)
      ∙ states_go_on sh.splits sh.run w.number (kept w.passes.items) a.state (n, x.entry) a.ready.state
      ∙ ap (λ e. session_after sh.splits n a.state e (x.entry).outcome) x.event_is ∙ ap (session_after sh.splits n a.state asked_event) x.outcome_is
      ∙ goes_to sh w p a n nth op o number lies ∙ goes)

  ready_then : (walked : IsAsked) (o : Outcome) (q : SessionState) → IsWalker sh v → IsSameWalker w v → is_number p n nth op ≡ true → lies_in sh.splits n op ≡ true → IsEntered w.clock w.number asked_event o v.clock walked.turned.told.made → op_answered n nth op p o ≡ Some q
      → (q.tx ≡ p.tx) → (q.birth ≡ p.birth) → IsReady sh v q
  ready_then walked o q is_walker same number lies x goes name birth = record {
    walker = is_walker;
    number = subst (λ k. Rattle.clv_base.specs.Sessions.is_session_number k ≡ true) (sym same.0) a.ready.number;
    state = state_after walked o q same.0 number lies x goes;
    serial = (let s = same.1 in let h = a.serial in let k = ap (λ t. t.serial) name in omega arith);
    old = subst (IsOld v.clock) (sym (birth ∙ a.born.is)) (let l = rises walked in let h = a.born.old in omega arith);
    informed = informed_after walked same.0;
  }

  pub stands_after : (walked : IsAsked) → IsWalker sh v → IsSameWalker w v → is_number p n nth op ≡ true → lies_in sh.splits n op ≡ true → (x : Result Outcome StepError) → r ≡ x → StandsAfter n sh v (place_after n nth op p x) x
  stands_after walked is_walker same number lies (Err e) is =
      active_still walked is_walker same (error_none p.tx a.born.birth nth (lookup (◌==◌ n) p.touched) op walked.turned.s walked.turned.t w.clock w.number e walked.turned.told.made
      (subst (λ y. Tells (step walked.turned.s w.clock w.number asked_event) walked.turned.s w.clock w.number asked_event y walked.turned.t walked.turned.told.made) is walked.turned.told.tells))
  stands_after walked is_walker same number lies (Ok o) is = at o refl
    where
      tells : Tells (step walked.turned.s w.clock w.number asked_event) walked.turned.s w.clock w.number asked_event (Ok o) walked.turned.t walked.turned.told.made
      tells = subst (λ y. Tells (step walked.turned.s w.clock w.number asked_event) walked.turned.s w.clock w.number asked_event y walked.turned.t walked.turned.told.made) is walked.turned.told.tells

      clock_is : v.clock ≡ clock_after w.clock (Ok o) walked.turned.told.made
      clock_is = walked.turned.told.clock_is ∙ ap (λ y. clock_after w.clock y walked.turned.told.made) is

      quiet : is_told o ≡ false → IsActive sh v p
      quiet k = active_still walked is_walker same (quiet_none p.tx a.born.birth nth (lookup (◌==◌ n) p.touched) op walked.turned.s walked.turned.t w.clock w.number v.clock o walked.turned.told.made tells k)

      entered : is_told o ≡ true → IsEntered w.clock w.number asked_event o v.clock walked.turned.told.made
      entered k = told_enters p.tx a.born.birth nth (lookup (◌==◌ n) p.touched) op walked.turned.s walked.turned.t w.clock w.number v.clock o walked.turned.told.made tells clock_is k

      at : (z : Outcome) → o ≡ z → StandsAfter n sh v (place_after n nth op p (Ok z)) (Ok z)
      at (Answered answer epoch) q =
          let x = entered (ap is_told q) in
          record {
            state = place_after n nth op p (Ok (Answered answer epoch));
            ready = ready_then walked o (place_after n nth op p (Ok (Answered answer epoch))) is_walker same number lies x (ap (op_answered n nth op p) q) refl refl;
            goes = inl refl;
            touching = a.touching;
            born = born_after walked same.0 (place_after n nth op p (Ok (Answered answer epoch))) refl refl (parts_answered walked answer epoch (is ∙ ap (λ y. Ok y) q)) (answered_reached walked answer epoch (is ∙ ap (λ y. Ok y) q));
            serial = (let s = same.1 in let h = a.serial in omega arith);
            spelled = a.spelled;
            counted = (let l = number_low p n nth op number in let h = a.counted in let after = x.after in let c = x.clock_is in omega arith);
            few = (let l = number_low p n nth op number in let h = a.counted in let after = x.after in let early = x.early in omega arith);
          }
      at (Dead cause) q =
          let x = entered (ap is_told q) in
          let dead : r ≡ Ok (Dead cause) = is ∙ ap (λ y. Ok y) q in (
            record {
              ready = ready_then walked o (place_after n nth op p (Ok (Dead cause))) is_walker same number lies x (ap (op_answered n nth op p) q) refl refl;
              born = born_after walked same.0 (place_after n nth op p (Ok (Dead cause))) refl refl (parts_died walked cause dead) (still_reached walked);
              spelled = a.spelled;
            },
            λ birth had. subst (λ b. UnbornAt n b v.passes.items) (birth_same a.born.birth birth (sym a.born.is ∙ had)) (gone_after walked cause dead),
          )
      at z q = quiet (ap is_told q)
