-- Clocks go by the stamps that were seen.
use Rattle.std.proofs.Common.{◌≡◌, ◌∙◌, refl, ap, ℕ, zero, suc, ◌≤◌, ◌^◌, ◌-◌, Bool, true, false, List, [], ◌∷◌, ◌++◌, get_or, set, map, nat_lt, Option, Some, None, Result, Ok, Err, arith}
use Rattle.std.specs.Prelude.{max}
use Rattle.std.specs.List.{AllByRecursion}
use Rattle.std.proofs.lemmas.Bool.{ltb-false}
use Rattle.clv_base.specs.declared.events.Event.{Event}
use Rattle.clv_base.specs.declared.events.Event.TheVariants.{Op, RollTo, Request, Look, Drop, Send, Deliver, Remind, FlushOut, FlushIn, Stop, Restart}
use Rattle.clv_base.specs.declared.events.Outcome.{Outcome}
use Rattle.clv_base.specs.declared.events.Entry.{Entry}
use Rattle.clv_base.specs.State.{Shard}
use Rattle.clv_base.specs.Events.{Reply, QuietBeforeWorn, QuietAfterWorn, Does, Worn as IsWorn, stamped, step, happen, next_stamp, message_stamp}
use Rattle.clv_base.specs.Machines.{Runs}
use Rattle.clv_base.specs.History.{WasSent, IsAmong}
use Rattle.clv_base.specs.Journals.{History}
use Rattle.turn_lock.specs.declared.pass.Pass.{Pass}
use Rattle.turn_lock.specs.Passes.{seen}
use Rattle.machine_calls.specs.declared.machine.StepError.{StepError}
use Rattle.machine_calls.specs.declared.machine.StepError.TheVariants.{Memory, Worn}
use Rattle.machine_calls.specs.Steps.{NoEntry, Tells, clock_after, listed}
use Rattle.machine_laws.specs.declared.notes.Note.{Note}
use Rattle.machine_laws.specs.declared.notes.Origin.{Origin}
use Rattle.machine_laws.specs.Homes.{start, state_of, entries_in, IsLegal}
use Rattle.machine_laws.specs.Notes.{plain, told}
use Rattle.machine_laws.proofs.Laws.{entries_append, notes_are_runs}
use Rattle.cluster_turns.specs.Turns.{Turned, EventTold}
use Rattle.cluster_turns.specs.Walkers.{Walked, Looked}
use Rattle.cluster_turns.specs.Flights.{LandTold}
use Rattle.cluster_turns.specs.CallTurns.{Turn, Took, no_turn, event_turn, flush_turns, horizon_look}
use Rattle.cluster_turns.specs.Turns.{SettledTold}
use Rattle.cluster_turns.specs.declared.flushing.Flushed.{Flushed}
use Rattle.cluster_turns.specs.declared.flushing.FlushError.{FlushError}
use Rattle.cluster_turns.specs.declared.flushing.FlushError.TheVariants.{Failed as FlushFailed, Down as FlushDown, Worn as FlushWorn, Memory as FlushMemory}
use Rattle.cluster_turns.specs.Told.{FlushTold, one_turn, two_turns, stayed, flown}
use Rattle.cluster_turns.specs.declared.carrying.Carry.{Carry}
use Rattle.cluster_turns.specs.declared.carrying.CarryError.{CarryError}
use Rattle.cluster_turns.specs.declared.carrying.CarryError.TheVariants.{Down as CarryDown, Worn as CarryWorn, Memory as CarryMemory}
use Rattle.clv_base.specs.declared.events.Outcome.TheVariants.{Sent, Nothing as NothingOut, Away as AwayOut, Down as DownOut, Reminded as RemindedOut}
use Rattle.cluster_turns.specs.Reminded.{reminded_by}
use Rattle.cluster_turns.specs.Carried.{message_of, brought_by, not_taken, BringTold, is_lost, is_brought, CarryTold, none_sent, one_sent}
use Rattle.cluster_turns.specs.declared.tending.DrainError.{DrainError}
use Rattle.cluster_turns.specs.declared.tending.DrainError.TheVariants.{Worn as DrainWorn}
use Rattle.cluster_turns.specs.Rounds.{Rounds, no_turn as no_round, flushes, carries, reminds, looks, Refused, no_flush, no_message, no_reminder, DrainTold, flush_refusal, carry_refusal}
use Rattle.cluster_turns.proofs.Answering.{worn_told}
use Rattle.cluster_turns.specs.Dates.{latest, seen_by, last_seen, IsDated}

-- ---- greatest stamps

pub latest_left : (xs ys : List Entry) → latest xs ≤ latest (xs ++ ys)
latest_left [] ys = omega arith
latest_left (x ∷ xs) ys = let r = latest_left xs ys in omega arith

pub latest_right : (xs ys : List Entry) → latest ys ≤ latest (xs ++ ys)
latest_right [] ys = omega arith
latest_right (x ∷ xs) ys = let r = latest_right xs ys in omega arith

pub notes_left : (xs ys : List Note) → latest (entries_in xs) ≤ latest (entries_in (xs ++ ys))
notes_left xs ys = let r = latest_left (entries_in xs) (entries_in ys) in let e = ap latest (entries_append xs ys) in omega arith

-- a shard's last stamp is that of an entry
runs_last : (s t : Shard) (es : List Entry) → Runs s es t → t.last ≤ max s.last (latest es)
runs_last s t [] same = let e : s.last ≡ t.last = ap (λ u. u.last) same in omega arith
runs_last s t (x ∷ es) (u, m, rest) = let entered : u.last ≡ x.stamp = ap (λ v. v.last) m.entered in let r = runs_last u t es rest in omega arith

pub state_last : (o : Origin) (notes : List Note) (s : Shard) → IsLegal o notes s → s.last ≤ latest (entries_in notes)
state_last o notes s l =
    let r = runs_last (start o) (state_of o notes) (entries_in notes) (notes_are_runs (start o) None (map told notes) l.may) in
    let e : s.last ≡ (state_of o notes).last = ap (λ v. v.last) l.is in
    let z : (start o).last ≡ 0 = refl in
    omega arith

-- ---- a message

pub among_in_time : (clock n : ℕ) (e : Entry) (es : History) → AllByRecursion (λ f. (f.1).stamp ≤ clock) es → IsAmong n e es → e.stamp ≤ clock
among_in_time clock n e [] a h = absurd h
among_in_time clock n e (f ∷ fs) a (Rattle.std.proofs.Common.inl same) = let s = ap (λ g. (g.1).stamp) same in let k = a.0 in omega arith
among_in_time clock n e (f ∷ fs) a (Rattle.std.proofs.Common.inr h) = among_in_time clock n e fs a.1 h

-- what a walker delivers has a stamp of its own entries
pub sent_in_time : (clock : ℕ) (es : History) (e : Event) → AllByRecursion (λ f. (f.1).stamp ≤ clock) es → WasSent es e → message_stamp e ≤ clock
sent_in_time clock es (Op tx birth nth seen op) a h = omega arith
sent_in_time clock es (RollTo tx nth seen upto) a h = omega arith
sent_in_time clock es (Request tx ts) a h = omega arith
sent_in_time clock es (Look tx) a h = omega arith
sent_in_time clock es (Drop tx) a h = omega arith
sent_in_time clock es Send a h = omega arith
sent_in_time clock es (Deliver m stamp) a (n, e, among, is, _) = let k = among_in_time clock n e es a among in omega arith
sent_in_time clock es Remind a h = omega arith
sent_in_time clock es FlushOut a h = omega arith
sent_in_time clock es FlushIn a h = omega arith
sent_in_time clock es Stop a h = omega arith
sent_in_time clock es Restart a h = omega arith

-- ---- one turn

worn_room : (stamp w : ℕ) (e : Event) (room : Bool) (reply : Reply) → stamped stamp w e room reply ≡ IsWorn → room ≡ false
worn_room stamp w e false reply h = refl
worn_room stamp w e true (QuietBeforeWorn o) h = absurd cc
worn_room stamp w e true (QuietAfterWorn o) h = absurd cc
worn_room stamp w e true (Does o s) h = absurd cc

worn_late : (s : Shard) (clock w : ℕ) (e : Event) → step s clock w e ≡ IsWorn → 2 ^ 48 ≤ next_stamp s clock e
worn_late s clock w e h = ltb-false (next_stamp s clock e) (2 ^ 48) (worn_room (next_stamp s clock e) w e (nat_lt (next_stamp s clock e) (2 ^ 48)) (happen s e) h)

pub event_dated : (clock w : ℕ) (e : Event) (r : Result Outcome StepError) (c : ℕ) (s t : Shard) (o : Origin) (before added : List Note) → IsLegal o before s → EventTold clock w e r c s t added
    → c ≤ max clock (latest (entries_in (before ++ added)))
event_dated clock w e r c s t o before added legal h = by_made h.made h.added_is h.tells h.clock_is
  where
    by_answer : (x : Result Outcome StepError) → NoEntry (step s clock w e) s e x → c ≡ clock_after clock x None → c ≤ max clock (latest (entries_in (before ++ added)))
    by_answer (Ok y) n k = omega arith
    by_answer (Err Memory) n k = omega arith
    by_answer (Err (Worn at)) n k =
        let late = worn_late s clock w e n.0 in
        let last = state_last o before s legal in
        let more = notes_left before added in
        let m = h.in_time in
        omega arith

    by_made : (made : Option Entry) → added ≡ map plain (listed made) → Tells (step s clock w e) s clock w e r t made → c ≡ clock_after clock r made → c ≤ max clock (latest (entries_in (before ++ added)))
    by_made None is told k = by_answer r told.0 k
    by_made (Some x) is told k =
        let at : entries_in (before ++ added) ≡ entries_in before ++ x ∷ [] = entries_append before added ∙ ap (λ l. entries_in before ++ entries_in l) is in
        let right = latest_right (entries_in before) (x ∷ []) in
        let same = ap latest at in
        omega arith

landing_dated : (clock w upto c : ℕ) (pushed : Bool) (s t : Shard) (before added : List Note) → LandTold clock w pushed upto c s t added → c ≤ latest (entries_in (before ++ added))
landing_dated clock w upto c pushed s t before added h =
    let at : entries_in (before ++ added) ≡ entries_in before ++ h.made ∷ [] = entries_append before added ∙ ap (λ l. entries_in before ++ entries_in l) h.added_is in
    let right = latest_right (entries_in before) (h.made ∷ []) in
    let same = ap latest at in
    let k = h.clock_is in
    omega arith

-- ---- passes

module _ {T : Type 0} where
  turned_grows : {Told : Shard → Shard → List Note → Type 0} (w : ℕ) (p q : Pass T Note Origin) → Turned Told w p q → latest (entries_in (seen p)) ≤ latest (entries_in (seen q))
  turned_grows w p q t =
      let a = notes_left (seen p) t.found.0 in
      let b = notes_left t.before t.added in
      let found = ap (λ l. latest (entries_in l)) t.found.1 in
      let now = ap (λ l. latest (entries_in l)) t.seen_is in
      omega arith

  set_has : (n : ℕ) (ps : List (Option (Pass T Note Origin))) (p q : Pass T Note Origin) → ((d : Option (Pass T Note Origin)) → get_or ps n d ≡ Some p) → latest (entries_in (seen q)) ≤ last_seen (set ps n (Some q))
  set_has n [] p q had = absurd (let k : None ≡ Some p = had None in cc)
  set_has zero (x ∷ xs) p q had = omega arith
  set_has (suc n) (x ∷ xs) p q had = let r = set_has n xs p q had in omega arith

  set_grows : (n : ℕ) (ps : List (Option (Pass T Note Origin))) (p q : Pass T Note Origin) → ((d : Option (Pass T Note Origin)) → get_or ps n d ≡ Some p) → latest (entries_in (seen p)) ≤ latest (entries_in (seen q))
      → last_seen ps ≤ last_seen (set ps n (Some q))
  set_grows n [] p q had h = absurd (let k : None ≡ Some p = had None in cc)
  set_grows zero (x ∷ xs) p q had h = let e : seen_by x ≡ latest (entries_in (seen p)) = ap seen_by (had None) in omega arith
  set_grows (suc n) (x ∷ xs) p q had h = let r = set_grows n xs p q had h in omega arith

  pub walked_grows : {Told : Shard → Shard → List Note → Type 0} {n w : ℕ} {ps qs : List (Option (Pass T Note Origin))} → Walked Told n w ps qs → last_seen ps ≤ last_seen qs
  walked_grows {Told} {n} {w} {ps} {qs} h = let r = set_grows n ps h.p h.q h.had (turned_grows w h.p h.q h.turned) in let e = ap last_seen h.after_is in omega arith

  pub walked_has : {Told : Shard → Shard → List Note → Type 0} {n w : ℕ} {ps qs : List (Option (Pass T Note Origin))} (h : Walked Told n w ps qs) → latest (entries_in ((h.turned).before ++ (h.turned).added)) ≤ last_seen qs
  walked_has {Told} {n} {w} {ps} {qs} h =
      let r = set_has n ps h.p h.q h.had in
      let e = ap last_seen h.after_is in
      let now = ap (λ l. latest (entries_in l)) (h.turned).seen_is in
      omega arith

  looked_grows : (n horizon : ℕ) (ps qs : List (Option (Pass T Note Origin))) → Looked n ps horizon qs → last_seen ps ≤ last_seen qs
  looked_grows n horizon ps qs h =
      let same = ap (λ l. latest (entries_in l)) h.same.2 in
      let r = set_grows n ps h.p h.q h.had (let s = same in omega arith) in
      let e = ap last_seen h.after_is in
      omega arith

  pub event_walked : {n w clock c : ℕ} {e : Event} {r : Result Outcome StepError} {ps qs : List (Option (Pass T Note Origin))} → Walked (EventTold clock w e r c) n w ps qs → IsDated clock ps c qs
  event_walked {n} {w} {clock} {c} {e} {r} {ps} {qs} h =
      let t = h.turned in
      let d = event_dated clock w e r c t.s t.t t.origin t.before t.added t.s_is t.told in
      let has = walked_has h in
      (walked_grows h, omega arith)

  pub landing_walked : {n w clock c upto : ℕ} {pushed : Bool} {ps qs : List (Option (Pass T Note Origin))} → Walked (LandTold clock w pushed upto c) n w ps qs → IsDated clock ps c qs
  landing_walked {n} {w} {clock} {c} {upto} {pushed} {ps} {qs} h =
      let t = h.turned in
      let d = landing_dated clock w upto c pushed t.s t.t t.before t.added t.told in
      let has = walked_has h in
      (walked_grows h, omega arith)

  -- ---- turns

  pub dated_on : (c d e : ℕ) (ps qs rs : List (Option (Pass T Note Origin))) → IsDated c ps d qs → IsDated d qs e rs → IsDated c ps e rs
  dated_on c d e ps qs rs (a, b) (f, g) = (omega arith, omega arith)

  pub turns_are_dated : (w c d : ℕ) (ps qs : List (Option (Pass T Note Origin))) (ts : List Turn) → Took w c ps ts d qs → IsDated c ps d qs
  turns_are_dated w _ _ _ _ _ (no_turn clock ps) = (omega arith, omega arith)
  turns_are_dated w _ _ _ _ _ (event_turn clock c clock' ps qs rs t ts walked made stays h) = dated_on clock c clock' ps qs rs (event_walked walked) (turns_are_dated w c clock' qs rs ts h)
  turns_are_dated w _ _ _ _ _ (flush_turns clock c d clock' upto pushed ps ms qs rs t u ts out back is answer made same lands landed entered known h) =
      dated_on clock d clock' ps qs rs (dated_on clock c d ps ms qs (event_walked out) (landing_walked back)) (turns_are_dated w d clock' qs rs ts h)
  turns_are_dated w _ _ _ _ _ (horizon_look clock clock' n horizon ps qs rs ts looked h) =
      dated_on clock clock clock' ps qs rs (looked_grows n horizon ps qs looked, omega arith) (turns_are_dated w clock clock' qs rs ts h)

-- ---- rounds

module _ {T : Type 0} where
  flush_dated : {n w c : ℕ} {ps qs : List (Option (Pass T Note Origin))} {r : Result Flushed FlushError} {d : ℕ} → FlushTold n w c ps r d qs → IsDated c ps d qs
  flush_dated (one_turn r d qs stays h) = event_walked h
  flush_dated {n} {w} {c} {ps} (two_turns upto c1 d pushed ms qs h k p) = dated_on c c1 d ps ms qs (event_walked h) (landing_walked k)

  bring_dated : {count : ℕ} {m : _} {w c : ℕ} {ps qs : List (Option (Pass T Note Origin))} {r : Result Carry CarryError} {d : ℕ} → BringTold count m w c ps r d qs → IsDated c ps d qs
  bring_dated (is_lost l) = (omega arith, omega arith)
  bring_dated (is_brought r d qs l h) = event_walked h

  carry_dated : {count n w c : ℕ} {ps qs : List (Option (Pass T Note Origin))} {r : Result Carry CarryError} {d : ℕ} → CarryTold count n w c ps r d qs → IsDated c ps d qs
  carry_dated (none_sent r d qs unsent h) = event_walked h
  carry_dated {count} {n} {w} {c} {ps} (one_sent m c1 ms r d qs h b) = dated_on c c1 d ps ms qs (event_walked h) (bring_dated b)

  look_dated : {n w c : ℕ} {answer : Bool} {ps qs : List (Option (Pass T Note Origin))} → Walked (SettledTold answer) n w ps qs → IsDated c ps c qs
  look_dated h = (walked_grows h, omega arith)

  pub rounds_dated : {count w c : ℕ} {ps qs : List (Option (Pass T Note Origin))} {d : ℕ} → Rounds count w c ps d qs → IsDated c ps d qs
  rounds_dated no_round = (omega arith, omega arith)
  rounds_dated {count} {w} {c} {ps} (flushes {c = c1} {between} n r d qs b l t) = dated_on c c1 d ps between qs (rounds_dated b) (flush_dated t)
  rounds_dated {count} {w} {c} {ps} (carries {c = c1} {between} n r d qs b l t) = dated_on c c1 d ps between qs (rounds_dated b) (carry_dated t)
  rounds_dated {count} {w} {c} {ps} (reminds {c = c1} {between} n r d qs b l t) = dated_on c c1 d ps between qs (rounds_dated b) (event_walked t)
  rounds_dated {count} {w} {c} {ps} (looks {c = c1} {between} n answer qs b l t) = dated_on c c1 c1 ps between qs (rounds_dated b) (look_dated t)

  refused_dated : {count w c : ℕ} {ps qs : List (Option (Pass T Note Origin))} {e : DrainError} {d : ℕ} → Refused count w c ps e d qs → IsDated c ps d qs
  refused_dated {count} {w} {c} {ps} (no_flush {c = c1} {between} n e d qs b l t) = dated_on c c1 d ps between qs (rounds_dated b) (flush_dated t)
  refused_dated {count} {w} {c} {ps} (no_message {c = c1} {between} n e d qs b l t) = dated_on c c1 d ps between qs (rounds_dated b) (carry_dated t)
  refused_dated {count} {w} {c} {ps} (no_reminder {c = c1} {between} n r e d qs b l t is) = dated_on c c1 d ps between qs (rounds_dated b) (event_walked t)

  pub drains_are_dated : (count w c d : ℕ) (ps qs : List (Option (Pass T Note Origin))) (r : Result Unit DrainError) → DrainTold count w c ps r d qs → IsDated c ps d qs
  drains_are_dated count w c d ps qs (Ok u) h = rounds_dated h.0
  drains_are_dated count w c d ps qs (Err e) h = refused_dated h

-- ---- a clock at its end

stayed_worn : (r : Result Outcome StepError) (at : ℕ) → stayed r ≡ Err (FlushWorn at) → r ≡ Err (Worn at)
stayed_worn (Ok NothingOut) at h = absurd cc
stayed_worn (Ok AwayOut) at h = absurd cc
stayed_worn (Ok o) at h = absurd cc
stayed_worn (Err Memory) at h = absurd cc
stayed_worn (Err (Worn k)) at h = cc

not_flown : (pushed : Bool) (upto at : ℕ) → flown pushed upto ≡ Err (FlushWorn at) → {X : Type 0} → X
not_flown true upto at h = absurd cc
not_flown false upto at h = absurd cc

taken_worn : (n : ℕ) (r : Result Outcome StepError) (at : ℕ) → not_taken (message_of n r) ≡ Err (CarryWorn at) → r ≡ Err (Worn at)
taken_worn n (Ok (Sent m)) at h = absurd cc
taken_worn n (Ok NothingOut) at h = absurd cc
taken_worn n (Ok o) at h = absurd cc
taken_worn n (Err Memory) at h = absurd cc
taken_worn n (Err (Worn k)) at h = cc

brought_worn : (n : ℕ) (r : Result Outcome StepError) (at : ℕ) → brought_by n r ≡ Err (CarryWorn at) → r ≡ Err (Worn at)
brought_worn n (Ok DownOut) at h = absurd cc
brought_worn n (Ok o) at h = absurd cc
brought_worn n (Err Memory) at h = absurd cc
brought_worn n (Err (Worn k)) at h = cc

reminded_worn : (n : ℕ) (r : Result Outcome StepError) (at : ℕ) → reminded_by n r ≡ Err (CarryWorn at) → r ≡ Err (Worn at)
reminded_worn n (Ok (RemindedOut k)) at h = absurd cc
reminded_worn n (Ok NothingOut) at h = absurd cc
reminded_worn n (Ok o) at h = absurd cc
reminded_worn n (Err Memory) at h = absurd cc
reminded_worn n (Err (Worn k)) at h = cc

flush_refused : (n : ℕ) (e : FlushError) (at : ℕ) → flush_refusal n e ≡ DrainWorn at → e ≡ FlushWorn at
flush_refused n FlushFailed at h = absurd cc
flush_refused n FlushDown at h = absurd cc
flush_refused n (FlushWorn k) at h = cc
flush_refused n FlushMemory at h = absurd cc

carry_refused : (e : CarryError) (at : ℕ) → carry_refusal e ≡ DrainWorn at → e ≡ CarryWorn at
carry_refused (CarryDown n) at h = absurd cc
carry_refused (CarryWorn k) at h = cc
carry_refused CarryMemory at h = absurd cc

module _ {T : Type 0} where
  event_wears : {n w c d : ℕ} {e : Event} {r : Result Outcome StepError} {ps qs : List (Option (Pass T Note Origin))} (at : ℕ) → Walked (EventTold c w e r d) n w ps qs → r ≡ Err (Worn at) → 2 ^ 48 - 1 ≤ d
  event_wears {n} {w} {c} {d} {e} {r} at h is = let t = h.turned in (worn_told t.s t.t c w d at e r (t.told).made (t.told).tells is (t.told).clock_is).1

  flush_wears : {n w c : ℕ} {ps qs : List (Option (Pass T Note Origin))} {r : Result Flushed FlushError} {d : ℕ} (at : ℕ) → FlushTold n w c ps r d qs → r ≡ Err (FlushWorn at) → 2 ^ 48 - 1 ≤ d
  flush_wears at (one_turn r d qs stays h) is = event_wears at h (stayed_worn r at is)
  flush_wears at (two_turns upto c1 d pushed ms qs h k p) is = not_flown pushed upto at is

  bring_wears : {count : ℕ} {m : _} {w c : ℕ} {ps qs : List (Option (Pass T Note Origin))} {r : Result Carry CarryError} {d : ℕ} (at : ℕ) → BringTold count m w c ps r d qs → r ≡ Err (CarryWorn at) → 2 ^ 48 - 1 ≤ d
  bring_wears at (is_lost l) is = absurd cc
  bring_wears {count} {m} at (is_brought r d qs l h) is = event_wears at h (brought_worn (Rattle.clv_base.specs.Events.to_of m) r at is)

  carry_wears : {count n w c : ℕ} {ps qs : List (Option (Pass T Note Origin))} {r : Result Carry CarryError} {d : ℕ} (at : ℕ) → CarryTold count n w c ps r d qs → r ≡ Err (CarryWorn at) → 2 ^ 48 - 1 ≤ d
  carry_wears {count} {n} at (none_sent r d qs unsent h) is = event_wears at h (taken_worn n r at is)
  carry_wears at (one_sent m c1 ms r d qs h b) is = bring_wears at b is

  refused_wears : {count w c : ℕ} {ps qs : List (Option (Pass T Note Origin))} {e : DrainError} {d : ℕ} (at : ℕ) → Refused count w c ps e d qs → e ≡ DrainWorn at → 2 ^ 48 - 1 ≤ d
  refused_wears at (no_flush n e d qs b l t) is = flush_wears at t (ap (λ x. Err x) (flush_refused n e at is))
  refused_wears at (no_message n e d qs b l t) is = carry_wears at t (ap (λ x. Err x) (carry_refused e at is))
  refused_wears at (no_reminder n r e d qs b l t told) is = event_wears at t (reminded_worn n r at (told ∙ ap (λ x. Err x) (carry_refused e at is)))

  pub drains_wear_out : (count w c d at : ℕ) (ps qs : List (Option (Pass T Note Origin))) → DrainTold count w c ps (Err (DrainWorn at)) d qs → 2 ^ 48 - 1 ≤ d
  drains_wear_out count w c d at ps qs h = refused_wears at h refl
