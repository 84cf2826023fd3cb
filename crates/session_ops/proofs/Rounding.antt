-- From what the parts of a round tell to its turns.
use Rattle.std.proofs.Common.{◌≡◌, refl, sym, subst, ℕ, Bool, true, false, List, [], ◌∷◌, ◌++◌, Option, Some, Result, Ok, Err, inl, inr}
use Rattle.std.specs.Prelude.{⊤}
use Rattle.std.proofs.lemmas.Bool.{both_ways}
use Rattle.clv_base.specs.declared.messages.Message.{Message}
use Rattle.clv_base.specs.declared.events.Event.{Event}
use Rattle.clv_base.specs.declared.events.Event.TheVariants.{FlushOut, FlushIn, Send, Deliver, Remind}
use Rattle.clv_base.specs.declared.events.Outcome.{Outcome}
use Rattle.clv_base.specs.declared.events.Outcome.TheVariants.{Out, Nothing, Away, Down, Sent, Reminded}
use Rattle.clv_base.specs.Events.{to_of}
use Rattle.clv_base.specs.Sessions.{is_of_session}
use Rattle.turn_lock.specs.declared.pass.Pass.{Pass}
use Rattle.machine_calls.specs.declared.machine.StepError.{StepError}
use Rattle.machine_calls.specs.declared.machine.StepError.TheVariants.{Memory as NoMemory, Worn as IsWorn}
use Rattle.machine_laws.specs.declared.notes.Note.{Note}
use Rattle.machine_laws.specs.declared.notes.Origin.{Origin}
use Rattle.cluster_turns.specs.Turns.{EventTold}
use Rattle.cluster_turns.specs.Walkers.{Walked}
use Rattle.cluster_turns.specs.declared.flushing.Flushed.{Flushed}
use Rattle.cluster_turns.specs.declared.flushing.Flushed.TheVariants.{Nothing as FlushedNothing}
use Rattle.cluster_turns.specs.declared.flushing.FlushError.{FlushError}
use Rattle.cluster_turns.specs.declared.flushing.FlushError.TheVariants.{Failed as FlushFailed, Down as FlushDown, Worn as FlushWorn, Memory as FlushMemory}
use Rattle.cluster_turns.specs.Flights.{LandTold, KnownAt, landed_as}
use Rattle.cluster_turns.specs.Told.{FlushTold, one_turn, two_turns, stayed, has_no_flight, flown}
use Rattle.cluster_turns.specs.declared.carrying.Carry.{Carry}
use Rattle.cluster_turns.specs.declared.carrying.Carry.TheVariants.{Nothing as CarryNothing}
use Rattle.cluster_turns.specs.declared.carrying.CarryError.{CarryError}
use Rattle.cluster_turns.specs.declared.reminding.Reminding.{Reminding}
use Rattle.cluster_turns.specs.Carried.{message_of, not_taken, brought_by, BringTold, is_lost, is_brought, CarryTold, none_sent, one_sent}
use Rattle.cluster_turns.specs.Reminded.{reminded_by}
use Rattle.cluster_turns.specs.CallTurns.{Turn, no_turn, event_turn, flush_turns, takes_no_flight, AreOthers, AnyTurn}
use Rattle.cluster_turns.proofs.Laws.{turns_follow}
use Rattle.session_ops.specs.declared.parts.RoundError.{RoundError}
use Rattle.session_ops.specs.declared.parts.RoundError.TheVariants.{Down as RoundDown, Worn as RoundWorn, Memory as RoundMemory}
use Rattle.session_ops.specs.Rounds.{EndedBy, Rounded, refusal_of, FindsFlushed, FindsCarried, TriesFlush}
use Rattle.session_ops.proofs.Outcomes.{fits_by, fits_flush, fits_send, fits_remind, flush_fits, send_fits, remind_fits}
use Rattle.session_ops.proofs.Parting.{any_after}

-- ---- turns after turns

pub others_follow : (xs ys : List Turn) → AreOthers xs → AreOthers ys → AreOthers (xs ++ ys)
others_follow [] ys a b = b
others_follow (x ∷ xs) ys a b = (a.0, others_follow xs ys a.1 b)

pub ended_after : {A : Type 0} (r : Result A RoundError) (xs ys : List Turn) → EndedBy r ys → EndedBy r (xs ++ ys)
ended_after (Ok a) xs ys h = tt
ended_after (Err (RoundDown n)) xs ys h = any_after _ xs ys h
ended_after (Err (RoundWorn at)) xs ys h = any_after _ xs ys h
ended_after (Err RoundMemory) xs ys h = tt

module _ {T A B : Type 0} where
  pub rounds_follow : (w c d e : ℕ) (ps qs rs : List (Option (Pass T Note Origin))) (q : Result A RoundError) (r : Result B RoundError) → Rounded w c ps q d qs → Rounded w d qs r e rs → Rounded w c ps r e rs
  rounds_follow w c d e ps qs rs q r a b = record {
    turns = a.turns ++ b.turns;
    took = turns_follow w c d e ps qs rs a.turns b.turns a.took b.took;
    others = others_follow a.turns b.turns a.others b.others;
    ended = ended_after r a.turns b.turns b.ended;
  }

module _ {T A : Type 0} where
  pub no_round : (w c : ℕ) (ps : List (Option (Pass T Note Origin))) (a : A) → Rounded w c ps (Ok a) c ps
  no_round w c ps a = record { turns = []; took = no_turn c ps; others = tt; ended = tt }

  -- the same turns with another answer
  pub told_as : {B : Type 0} (w c d : ℕ) (ps qs : List (Option (Pass T Note Origin))) (r : Result A RoundError) (q : Result B RoundError) → ((ts : List Turn) → EndedBy r ts → EndedBy q ts) → Rounded w c ps r d qs → Rounded w c ps q d qs
  told_as w c d ps qs r q f h = record { turns = h.turns; took = h.took; others = h.others; ended = f h.turns h.ended }

  one : (n w c d : ℕ) (e : Event) (x : Result Outcome StepError) (ps qs : List (Option (Pass T Note Origin))) (r : Result A RoundError) → is_of_session e ≡ false → takes_no_flight e x ≡ true → (walked : Walked (EventTold c w e x d) n w ps qs)
      → ((t : Turn) → t.shard ≡ n → t.answer ≡ x → EndedBy r (t ∷ [])) → Rounded w c ps r d qs
  one n w c d e x ps qs r other stays walked ended =
      let t : Turn = record { shard = n; event = e; answer = x; made = walked.turned.told.made } in
      record {
        turns = t ∷ [];
        took = event_turn c d d ps qs qs t [] walked refl stays (no_turn d qs);
        others = (other, tt);
        ended = ended t refl refl;
      }

-- ---- a flush

abbrev pub after_flush : {A : Type 0} → A → ℕ → Result Flushed FlushError → Result A RoundError
after_flush a n (Ok f) = Ok a
after_flush a n (Err FlushFailed) = Err (RoundDown n)
after_flush a n (Err FlushDown) = Err (RoundDown n)
after_flush a n (Err (FlushWorn at)) = Err (RoundWorn at)
after_flush a n (Err FlushMemory) = Err RoundMemory

stayed_ended : {A : Type 0} (a : A) (n : ℕ) (x : Result Outcome StepError) (t : Turn) → has_no_flight x ≡ true → ((o : Outcome) → x ≡ Ok o → fits_flush o ≡ true) → t.shard ≡ n → t.answer ≡ x → EndedBy (after_flush a n (stayed x)) (t ∷ [])
stayed_ended a n (Ok Nothing) t f fits s h = tt
stayed_ended a n (Ok Away) t f fits s h = tt
stayed_ended a n (Ok Down) t f fits s h = inl (s, inl h)
stayed_ended a n (Ok (Out k)) t f fits s h = absurd (both_ways false refl f)
stayed_ended a n (Ok o) t f fits s h = absurd (both_ways false refl (fits o refl))
stayed_ended a n (Err NoMemory) t f fits s h = tt
stayed_ended a n (Err (IsWorn at)) t f fits s h = inl h

abbrev pub BufferedBy : ℕ → Result Flushed FlushError → List Turn → Type 0
BufferedBy n (Ok FlushedNothing) ts = AnyTurn (FindsFlushed n) ts
BufferedBy n (Ok f) ts = ⊤
BufferedBy n (Err e) ts = ⊤

stayed_finds : (n : ℕ) (x : Result Outcome StepError) (t : Turn) → t.shard ≡ n → t.event ≡ FlushOut → t.answer ≡ x → BufferedBy n (stayed x) (t ∷ [])
stayed_finds n (Ok Nothing) t s e h = inl (s, e, h)
stayed_finds n (Ok Away) t s e h = tt
stayed_finds n (Ok o) t s e h = tt
stayed_finds n (Err NoMemory) t s e h = tt
stayed_finds n (Err (IsWorn at)) t s e h = tt

flown_finds : (n upto : ℕ) (pushed : Bool) (ts : List Turn) → BufferedBy n (flown pushed upto) ts
flown_finds n upto true ts = tt
flown_finds n upto false ts = tt

module _ {T A : Type 0} where
  flown_so : (a : A) (n w c d upto c1 : ℕ) (pushed : Bool) (ps qs rs : List (Option (Pass T Note Origin))) → Walked (EventTold c w FlushOut (Ok (Out upto)) c1) n w ps qs → Walked (LandTold c1 w pushed upto d) n w qs rs → (pushed ≡ true → KnownAt n upto rs)
      → Rounded w c ps (after_flush a n (flown pushed upto)) d rs
  flown_so a n w c d upto c1 pushed ps qs rs out land known =
      let t : Turn = record { shard = n; event = FlushOut; answer = Ok (Out upto); made = out.turned.told.made } in
      let u : Turn = record { shard = n; event = FlushIn; answer = Ok (landed_as pushed upto); made = Some land.turned.told.made } in
      record {
        turns = t ∷ u ∷ [];
        took = flush_turns c c1 d d upto pushed ps qs rs rs t u [] out land refl refl refl refl refl refl refl known (no_turn d rs);
        others = (refl, (refl, tt));
        ended = at pushed;
      }
    where
      at : (b : Bool) → EndedBy (after_flush a n (flown b upto)) (record { shard = n; event = FlushOut; answer = Ok (Out upto); made = out.turned.told.made } ∷ record { shard = n; event = FlushIn; answer = Ok (landed_as b upto); made = Some land.turned.told.made } ∷ [])
      at true = tt
      at false = inr (inl (refl, inr refl))

  pub flush_rounds : (a : A) (n w c d : ℕ) (ps qs : List (Option (Pass T Note Origin))) (r : Result Flushed FlushError) → FlushTold n w c ps r d qs → Rounded w c ps (after_flush a n r) d qs
  flush_rounds a n w c _ ps _ _ (one_turn x d qs none walked) =
      one n w c d FlushOut x ps qs (after_flush a n (stayed x)) refl none walked
      (λ t s h. stayed_ended a n x t none (fits_by fits_flush FlushOut flush_fits walked.turned.s walked.turned.t c w x walked.turned.told.made walked.turned.told.tells) s h)
  flush_rounds a n w c _ ps _ _ (two_turns upto c1 d pushed qs rs out land known) = flown_so a n w c d upto c1 pushed ps qs rs out land known

  -- and that nothing was buffered, and a turn of it tried to flush
  pub flush_finds : (a : A) (n w c d : ℕ) (ps qs : List (Option (Pass T Note Origin))) (r : Result Flushed FlushError) → FlushTold n w c ps r d qs → (h : Rounded w c ps (after_flush a n r) d qs) × BufferedBy n r h.turns × AnyTurn (TriesFlush n) h.turns
  unfolding flush_rounds one flown_so
  flush_finds a n w c _ ps _ _ (one_turn x d qs none walked) =
      (flush_rounds a n w c d ps qs (stayed x) (one_turn x d qs none walked), stayed_finds n x (record { shard = n; event = FlushOut; answer = x; made = walked.turned.told.made }) refl refl refl, inl (refl, refl))
  flush_finds a n w c _ ps _ _ (two_turns upto c1 d pushed qs rs out land known) =
      (flush_rounds a n w c d ps rs (flown pushed upto) (two_turns upto c1 d pushed qs rs out land known), flown_finds n upto pushed _, inl (refl, refl))

  pub flush_fails : (a : A) (n w c d : ℕ) (ps qs : List (Option (Pass T Note Origin))) (e f : FlushError) → FlushTold n w c ps (Err e) d qs → e ≡ f → (h : Rounded w c ps (after_flush a n (Err f)) d qs) × AnyTurn (TriesFlush n) h.turns
  flush_fails a n w c d ps qs e f told is =
      subst (λ x. (h : Rounded w c ps (after_flush a n (Err x)) d qs) × AnyTurn (TriesFlush n) h.turns) is (let k = flush_finds a n w c d ps qs (Err e) told in (k.0, k.2))

-- ---- a message

abbrev pub after_carry : {A : Type 0} → A → Result Carry CarryError → Result A RoundError
after_carry a (Ok m) = Ok a
after_carry a (Err e) = Err (refusal_of e)

not_sent : {A : Type 0} (a : A) (n : ℕ) (x : Result Outcome StepError) (t : Turn) → ((m : Message) → x ≡ Ok (Sent m) → ⊥) → ((o : Outcome) → x ≡ Ok o → fits_send o ≡ true) → t.shard ≡ n → t.answer ≡ x
    → EndedBy (after_carry a (not_taken (message_of n x))) (t ∷ [])
not_sent a n (Ok (Sent m)) t none fits s h = absurd (none m refl)
not_sent a n (Ok Nothing) t none fits s h = tt
not_sent a n (Ok Down) t none fits s h = inl (s, inl h)
not_sent a n (Ok o) t none fits s h = absurd (both_ways false refl (fits o refl))
not_sent a n (Err NoMemory) t none fits s h = tt
not_sent a n (Err (IsWorn at)) t none fits s h = inl h

brought_ended : {A : Type 0} (a : A) (n : ℕ) (x : Result Outcome StepError) (t : Turn) → t.shard ≡ n → t.answer ≡ x → EndedBy (after_carry a (brought_by n x)) (t ∷ [])
brought_ended a n (Ok Down) t s h = inl (s, inl h)
brought_ended a n (Ok o) t s h = tt
brought_ended a n (Err NoMemory) t s h = tt
brought_ended a n (Err (IsWorn at)) t s h = inl h

abbrev pub LeftBy : ℕ → Result Carry CarryError → List Turn → Type 0
LeftBy n (Ok CarryNothing) ts = AnyTurn (FindsCarried n) ts
LeftBy n (Ok m) ts = ⊤
LeftBy n (Err e) ts = ⊤

sent_finds : (n : ℕ) (x : Result Outcome StepError) (t : Turn) → ((m : Message) → x ≡ Ok (Sent m) → ⊥) → ((o : Outcome) → x ≡ Ok o → fits_send o ≡ true) → t.shard ≡ n → t.event ≡ Send → t.answer ≡ x → LeftBy n (not_taken (message_of n x)) (t ∷ [])
sent_finds n (Ok (Sent m)) t none fits s e h = absurd (none m refl)
sent_finds n (Ok Nothing) t none fits s e h = inl (s, e, h)
sent_finds n (Ok Down) t none fits s e h = tt
sent_finds n (Ok o) t none fits s e h = absurd (both_ways false refl (fits o refl))
sent_finds n (Err NoMemory) t none fits s e h = tt
sent_finds n (Err (IsWorn at)) t none fits s e h = tt

brought_finds : (k n : ℕ) (x : Result Outcome StepError) (ts : List Turn) → LeftBy k (brought_by n x) ts
brought_finds k n (Ok Down) ts = tt
brought_finds k n (Ok o) ts = tt
brought_finds k n (Err NoMemory) ts = tt
brought_finds k n (Err (IsWorn at)) ts = tt

bring_finds : {T : Type 0} (k count w c d : ℕ) (m : Message) (ps qs : List (Option (Pass T Note Origin))) (r : Result Carry CarryError) (ts : List Turn) → BringTold count m w c ps r d qs → LeftBy k r ts
bring_finds k count w c _ m ps _ _ ts (is_lost past) = tt
bring_finds k count w c _ m ps _ _ ts (is_brought x d qs low walked) = brought_finds k (to_of m) x ts

module _ {T A : Type 0} where
  bring_rounds : (a : A) (count w c d : ℕ) (m : Message) (ps qs : List (Option (Pass T Note Origin))) (r : Result Carry CarryError) → BringTold count m w c ps r d qs → Rounded w c ps (after_carry a r) d qs
  bring_rounds a count w c _ m ps _ _ (is_lost past) = no_round w c ps a
  bring_rounds a count w c _ m ps _ _ (is_brought x d qs low walked) = one (to_of m) w c d (Deliver m c) x ps qs (after_carry a (brought_by (to_of m) x)) refl refl walked (λ t s h. brought_ended a (to_of m) x t s h)

  pub carry_rounds : (a : A) (count n w c d : ℕ) (ps qs : List (Option (Pass T Note Origin))) (r : Result Carry CarryError) → CarryTold count n w c ps r d qs → Rounded w c ps (after_carry a r) d qs
  carry_rounds a count n w c _ ps _ _ (none_sent x d qs none walked) =
      one n w c d Send x ps qs (after_carry a (not_taken (message_of n x))) refl refl walked
      (λ t s h. not_sent a n x t none (fits_by fits_send Send send_fits walked.turned.s walked.turned.t c w x walked.turned.told.made walked.turned.told.tells) s h)
  carry_rounds a count n w c _ ps _ _ (one_sent m c1 qs r d rs walked brought) =
      rounds_follow {A = A} {B = A} w c c1 d ps qs rs (Ok a) (after_carry a r) (one n w c c1 Send (Ok (Sent m)) ps qs (Ok a) refl refl walked (λ t s h. tt)) (bring_rounds a count w c1 d m qs rs r brought)

  -- and that there was none
  pub carry_finds : (a : A) (count n w c d : ℕ) (ps qs : List (Option (Pass T Note Origin))) (r : Result Carry CarryError) → CarryTold count n w c ps r d qs → (h : Rounded w c ps (after_carry a r) d qs) × LeftBy n r h.turns
  unfolding carry_rounds one
  carry_finds a count n w c _ ps _ _ (none_sent x d qs none walked) = (
    carry_rounds a count n w c d ps qs (not_taken (message_of n x)) (none_sent x d qs none walked),
    sent_finds n x (record { shard = n; event = Send; answer = x; made = walked.turned.told.made }) none (fits_by fits_send Send send_fits walked.turned.s walked.turned.t c w x walked.turned.told.made walked.turned.told.tells) refl refl refl,
  )
  carry_finds a count n w c _ ps _ _ (one_sent m c1 qs r d rs walked brought) = (carry_rounds a count n w c d ps rs r (one_sent m c1 qs r d rs walked brought), bring_finds n count w c1 d m qs rs r _ brought)

  pub carry_fails : (a : A) (count n w c d : ℕ) (ps qs : List (Option (Pass T Note Origin))) (e f : CarryError) → CarryTold count n w c ps (Err e) d qs → e ≡ f → Rounded w c ps (after_carry a (Err f)) d qs
  carry_fails a count n w c d ps qs e f told is = subst (λ x. Rounded w c ps (after_carry a (Err x)) d qs) is (carry_rounds a count n w c d ps qs (Err e) told)

-- ---- a reminder

abbrev pub after_remind : {A : Type 0} → A → Result Reminding CarryError → Result A RoundError
after_remind a (Ok m) = Ok a
after_remind a (Err e) = Err (refusal_of e)

remind_ended : {A : Type 0} (a : A) (n : ℕ) (x : Result Outcome StepError) (t : Turn) → ((o : Outcome) → x ≡ Ok o → fits_remind o ≡ true) → t.shard ≡ n → t.answer ≡ x → EndedBy (after_remind a (reminded_by n x)) (t ∷ [])
remind_ended a n (Ok (Reminded k)) t fits s h = tt
remind_ended a n (Ok Nothing) t fits s h = tt
remind_ended a n (Ok Down) t fits s h = inl (s, inl h)
remind_ended a n (Ok o) t fits s h = absurd (both_ways false refl (fits o refl))
remind_ended a n (Err NoMemory) t fits s h = tt
remind_ended a n (Err (IsWorn at)) t fits s h = inl h

module _ {T A : Type 0} where
  pub remind_rounds : (a : A) (n w c d : ℕ) (ps qs : List (Option (Pass T Note Origin))) (x : Result Outcome StepError) → Walked (EventTold c w Remind x d) n w ps qs → Rounded w c ps (after_remind a (reminded_by n x)) d qs
  remind_rounds a n w c d ps qs x walked =
      one n w c d Remind x ps qs (after_remind a (reminded_by n x)) refl refl walked
      (λ t s h. remind_ended a n x t (fits_by fits_remind Remind remind_fits walked.turned.s walked.turned.t c w x walked.turned.told.made walked.turned.told.tells) s h)

  pub remind_tells : (a : A) (n w c d : ℕ) (ps qs : List (Option (Pass T Note Origin))) (x : Result Outcome StepError) (r : Result Reminding CarryError) → r ≡ reminded_by n x → Walked (EventTold c w Remind x d) n w ps qs → Rounded w c ps (after_remind a r) d qs
  remind_tells a n w c d ps qs x r is walked = subst (λ y. Rounded w c ps (after_remind a y) d qs) (sym is) (remind_rounds a n w c d ps qs x walked)

  pub remind_fails : (a : A) (n w c d : ℕ) (ps qs : List (Option (Pass T Note Origin))) (x : Result Outcome StepError) (e f : CarryError) → Err e ≡ reminded_by n x → Walked (EventTold c w Remind x d) n w ps qs → e ≡ f → Rounded w c ps (after_remind a (Err f)) d qs
  remind_fails a n w c d ps qs x e f told walked is = subst (λ y. Rounded w c ps (after_remind a (Err y)) d qs) is (remind_tells a n w c d ps qs x (Err e) told walked)

-- ---- a part after others

pub same_error : (A B : Type 0) (e : RoundError) (ts : List Turn) → EndedBy {A = A} (Err e) ts → EndedBy {A = B} (Err e) ts
same_error A B (RoundDown n) ts h = h
same_error A B (RoundWorn at) ts h = h
same_error A B RoundMemory ts h = tt

module _ {T : Type 0} where
  pub goes_on_by : {A B D : Type 0} (w m c d e : ℕ) (ps qs rs : List (Option (Pass T Note Origin))) (a : A) (r : Result B RoundError) (q : Result D RoundError) → m ≡ w → ((ts : List Turn) → EndedBy r ts → EndedBy q ts) → Rounded w c ps (Ok a) d qs → Rounded m d qs r e rs
      → Rounded w c ps q e rs
  goes_on_by {A} {B} {D} w m c d e ps qs rs a r q same f x y =
      rounds_follow {A = A} {B = D} w c d e ps qs rs (Ok a) q x (told_as {A = B} {B = D} w d e qs rs r q f (subst (λ n. Rounded n d qs r e rs) same y))
