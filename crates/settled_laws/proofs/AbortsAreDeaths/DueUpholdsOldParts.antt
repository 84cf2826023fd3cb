-- What a shard upholds where no old part is undone: whose part is gone by an abort ended by itself and never asked, no request is refused, no
-- vote on one who asked is a no, and word of an abort goes only to readers. What is due keeps it.
use Rattle.std.proofs.Common.{◌≡◌, ◌⊎◌, ⊎_elim, refl, sym, ap, subst, ◌∙◌, ℕ, true, false, cond, Bool, List, [], ◌∷◌, map, Option, Some, None, ◌&&◌, ◌==◌, eqb-true}
use Rattle.std.specs.Prelude.{⊤}
use Rattle.std.specs.List.{AllByRecursion, filter, list_all}
use Rattle.std.proofs.lemmas.Bool.{both_ways, and_parts, or_cases}
use Rattle.clv_base.specs.declared.names.TxId.{TxId}
use Rattle.clv_base.specs.declared.causes.NoWhy.{NoWhy}
use Rattle.clv_base.specs.declared.causes.AbortCause.{AbortCause}
use Rattle.clv_base.specs.declared.causes.AbortCause.TheVariants.{NoVote}
use Rattle.clv_base.specs.declared.causes.Vote.{Vote}
use Rattle.clv_base.specs.declared.causes.Vote.TheVariants.{Yes, Read, No}
use Rattle.clv_base.specs.declared.messages.Message.{Message}
use Rattle.clv_base.specs.declared.messages.Message.TheVariants.{Prepare, Vote as VoteMessage, Decide, Done, Ask}
use Rattle.clv_base.specs.declared.parts.PartFacts.{PartFacts}
use Rattle.clv_base.specs.declared.state.Stage.{Stage}
use Rattle.clv_base.specs.declared.state.Stage.TheVariants.{Active, Closed, Gone}
use Rattle.clv_base.specs.declared.state.Held.{Held}
use Rattle.clv_base.specs.declared.state.Voter.{Voter}
use Rattle.clv_base.specs.declared.state.Request.{Request}
use Rattle.clv_base.specs.declared.state.RequestState.{RequestState}
use Rattle.clv_base.specs.declared.state.RequestState.TheVariants.{Undecided, Committed, Finished, Refused}
use Rattle.clv_base.specs.declared.state.Ruling.{Ruling}
use Rattle.clv_base.specs.declared.state.Ruling.TheVariants.{Commit as CommitVerdict, Acknowledge, End as EndVerdict}
use Rattle.clv_base.specs.Orders.{Table, tx_same, tx_in, tx_get, tx_set, nat_in}
use Rattle.clv_base.specs.State.{Shard}
use Rattle.clv_base.specs.Undo.{stage_of, gone_in}
use Rattle.clv_base.specs.Facts.{state_by, doom_by, facts_of, is_waiting, has_durable_predecessors, has_durable_prepare, has_durable_undo}
use Rattle.clv_base.specs.Participant.{vote_owed, first_vote, vote_in_state, vote_by_writes, gone_vote, is_yes_vote, voted}
use Rattle.clv_base.specs.Coordinator.{others, vote_from, is_good, is_agreed, yes_shards, agreed_ruling, cause_by, refusal, undecided_ruling, ruling_in, ruled_request, first_no}
use Rattle.clv_base.specs.Due.{send, finish_part, commit_messages, with_vote, finish_reader, with_ruling, do_ruling}
use Rattle.clv_base.specs.Events.{finish}
use Rattle.law_base.proofs.Changed.{some_same, none_some}
use Rattle.law_base.proofs.Rows.{rows_get, rows_set}
use Rattle.law_base.proofs.Lists.{all_mono, all_append, good_at}
use Rattle.law_base.proofs.Tables.{stage_in}
use Rattle.law_base.proofs.Stages.{stage_own, stage_other, gone_by, doomed_back}
use Rattle.history_cases.proofs.Stepping.{commits, votes, rules, KeptByDue, settled}
use Rattle.history_cases.proofs.Telling.{all_map}
use Rattle.fate_laws.proofs.Parts.CommittedAreVotedFor.{Touched}
use Rattle.fate_laws.proofs.FallenAreUncommitted.RulingsThatEndNothing.{ack_refused, ack_end}
use Rattle.fate_laws.proofs.Parts.PutVotesAreHeld.{votes_get}
use Rattle.fate_laws.proofs.CausesStand.GoneEndedOrDoomed.{RuledBy, commit, acknowledge, abort, end, ruled_by}

-- ---- what is known. W: whose request was taken, where, naming which shards; V: which shard voted read on whom; O: who is of an earlier run;
-- B: whose request was taken here

abbrev pub Asks : (TxId → ℕ → List (ℕ × ℕ) → Type 0) → TxId → Type 0
Asks W t = (m : ℕ) × (ts : List (ℕ × ℕ)) × W t m ts

pub touched_asks : (W : TxId → ℕ → List (ℕ × ℕ) → Type 0) (n : ℕ) (t : TxId) → Touched W n t → Asks W t
touched_asks W n t (m, ts, w, i) = (m, ts, w)

-- each other shard that its request names voted read
abbrev pub AllRead : (TxId → ℕ → List (ℕ × ℕ) → Type 0) → (ℕ → TxId → Type 0) → TxId → Type 0
AllRead W V t = (m : ℕ) → Touched W m t → V m t

abbrev pub Spares : (TxId → ℕ → List (ℕ × ℕ) → Type 0) → (ℕ → TxId → Type 0) → Message → Type 0
Spares W V (Prepare to tx home seen) = ⊤
Spares W V (VoteMessage to tx from Yes) = ⊤
Spares W V (VoteMessage to tx from Read) = ⊤
Spares W V (VoteMessage to tx from (No why)) = Touched W from tx → ⊥
Spares W V (Decide to tx home true) = ⊤
Spares W V (Decide to tx home false) = Asks W tx → AllRead W V tx
Spares W V (Done to tx from) = ⊤
Spares W V (Ask to tx from) = ⊤

abbrev pub VoteStands : (ℕ → TxId → Type 0) → ℕ → TxId → Vote → Type 0
VoteStands V m t Yes = ⊤
VoteStands V m t Read = V m t
VoteStands V m t (No why) = ⊥

abbrev pub RowStands : (TxId → ℕ → List (ℕ × ℕ) → Type 0) → (ℕ → TxId → Type 0) → ℕ → TxId → Request → RequestState → Type 0
RowStands W V n t q Undecided = W t n q.touched × AllByRecursion (λ v. VoteStands V v.0 t v.1) q.votes
RowStands W V n t q (Committed parts) = ⊤
RowStands W V n t q Finished = Asks W t → AllRead W V t
RowStands W V n t q (Refused cause) = ⊥

abbrev pub VoterStands : (TxId → ℕ → List (ℕ × ℕ) → Type 0) → Shard → TxId → Voter → Type 0
VoterStands W s t v = Touched W s.shard t → ((why : NoWhy) → v.vote ≡ Some (No why) → ⊥) × (stage_of s.local t ≡ None → ⊥)

-- who may be gone by an abort: no one who asked; of this run only by its own
abbrev pub Ends : (TxId → ℕ → List (ℕ × ℕ) → Type 0) → (TxId → Type 0) → TxId → TxId → Type 0
Ends W O t d = (Asks W t → ⊥) × (O t ⊎ (t ≡ d))

pub record Upheld (W : TxId → ℕ → List (ℕ × ℕ) → Type 0) (V : ℕ → TxId → Type 0) (O B : TxId → Type 0) (s : Shard) : Type 0 where
  pub gone : (t d : TxId) → stage_of s.local t ≡ Some (Gone (Some d)) → Ends W O t d
  pub rows : AllByRecursion (λ r. RowStands W V s.shard r.0 r.1 (r.1).state) s.requests
  pub voters : AllByRecursion (λ r. VoterStands W s r.0 r.1) s.voters
  pub out : AllByRecursion (Spares W V) s.outbox
  pub there : (t : TxId) → B t → tx_get t s.requests ≡ None → ⊥
  pub epoch : s.local.epoch ≡ 0

-- ---- changes

-- a state with the same requests and voters
pub upheld_as : (W : TxId → ℕ → List (ℕ × ℕ) → Type 0) (V : ℕ → TxId → Type 0) (O B : TxId → Type 0) (s x : Shard) → x.shard ≡ s.shard → x.requests ≡ s.requests → x.voters ≡ s.voters → x.local.epoch ≡ s.local.epoch → AllByRecursion (Spares W V) x.outbox
    → ((t d : TxId) → stage_of x.local t ≡ Some (Gone (Some d)) → Ends W O t d) → ((t : TxId) → stage_of x.local t ≡ None → stage_of s.local t ≡ None) → Upheld W V O B s → Upheld W V O B x
upheld_as W V O B s x e f g ep out gone stay p = record {
  gone = gone;
  rows = subst (λ z. AllByRecursion (λ r. RowStands W V z r.0 r.1 (r.1).state) x.requests) (sym e) (subst (λ z. AllByRecursion (λ r. RowStands W V s.shard r.0 r.1 (r.1).state) z) (sym f) p.rows);
  voters = subst (λ z. AllByRecursion (λ r. VoterStands W x r.0 r.1) z) (sym g)
      (all_mono (λ r. VoterStands W s r.0 r.1) (λ r. VoterStands W x r.0 r.1) (λ r k h. let w = k (subst (λ z. Touched W z r.0) e h) in (w.0, (λ z. w.1 (stay r.0 z)))) s.voters p.voters);
  out = out;
  there = λ t b z. p.there t b (subst (λ y. tx_get t y ≡ None) f z);
  epoch = ep ∙ p.epoch;
}

-- who is there stays there
none_gone : (d : Option TxId) (o : Option Stage) → gone_by d o ≡ None → o ≡ None
none_gone d None e = refl
none_gone d (Some st) e = absurd (none_some _ (sym e))

pub none_back : (set : List TxId) (d : Option TxId) (t : TxId) (parts : Table Held) → stage_in (gone_in set d parts) t ≡ None → stage_in parts t ≡ None
none_back set d t parts e = at (tx_in t set) refl
  where
    at : (b : Bool) → tx_in t set ≡ b → stage_in parts t ≡ None
    at true i = none_gone d (stage_in parts t) (sym (stage_own set d t parts i) ∙ e)
    at false i = sym (stage_other set d t parts i) ∙ e

finished : (W : TxId → ℕ → List (ℕ × ℕ) → Type 0) (V : ℕ → TxId → Type 0) (O B : TxId → Type 0) (s : Shard) (tx : TxId) → Upheld W V O B s → Upheld W V O B (finish_part tx s)
finished W V O B s tx p =
    upheld_as W V O B s (finish_part tx s) refl refl refl refl p.out (λ t d e. p.gone t d (doomed_back (tx ∷ []) t d s.local.parts e)) (λ t e. none_back (tx ∷ []) None t s.local.parts e) p

pub sends_more : (W : TxId → ℕ → List (ℕ × ℕ) → Type 0) (V : ℕ → TxId → Type 0) (O B : TxId → Type 0) (s : Shard) (ms : List Message) → AllByRecursion (Spares W V) ms → Upheld W V O B s → Upheld W V O B (send ms s)
sends_more W V O B s ms a p = record { gone = p.gone; rows = p.rows; voters = p.voters; out = all_append (Spares W V) s.outbox ms p.out a; there = p.there; epoch = p.epoch }

-- a request that is there is there after a change
none_at : {X : Type 0} (x y : X) (o k : Option X) (c : Bool) → cond c (Some x) o ≡ None → (o ≡ None → k ≡ None) → cond c (Some y) k ≡ None
none_at x y o k true e f = absurd (none_some x (sym e))
none_at x y o k false e f = f e

still_case : {X : Type 0} (t u : TxId) (w : X) (r : TxId × X) (rs : Table X) (b : Bool) → tx_get u (cond b ((r.0, w) ∷ rs) (r ∷ tx_set t w rs)) ≡ None → (tx_get u (tx_set t w rs) ≡ None → tx_get u rs ≡ None) → tx_get u (r ∷ rs) ≡ None
still_case t u w r rs true e f = none_at w r.1 (tx_get u rs) (tx_get u rs) (tx_same u r.0) e (λ z. z)
still_case t u w r rs false e f = none_at r.1 r.1 (tx_get u (tx_set t w rs)) (tx_get u rs) (tx_same u r.0) e f

still_set : {X : Type 0} (t u : TxId) (w : X) (rs : Table X) → tx_get u (tx_set t w rs) ≡ None → tx_get u rs ≡ None
still_set t u w [] e = refl
still_set t u w (r ∷ rs) e = still_case t u w r rs (tx_same t r.0) e (still_set t u w rs)

pub row_set : (W : TxId → ℕ → List (ℕ × ℕ) → Type 0) (V : ℕ → TxId → Type 0) (O B : TxId → Type 0) (s : Shard) (tx : TxId) (w : Request) → RowStands W V s.shard tx w w.state → Upheld W V O B s → Upheld W V O B (record s { requests = tx_set tx w s.requests })
row_set W V O B s tx w k p = record {
  gone = p.gone;
  rows = rows_set (λ r. RowStands W V s.shard r.0 r.1 (r.1).state) tx w s.requests k p.rows;
  voters = p.voters;
  out = p.out;
  there = λ t b e. p.there t b (still_set tx t w s.requests e);
  epoch = p.epoch;
}

-- ---- what is due

-- a vote on one who asked is no no
no_vote : (W : TxId → ℕ → List (ℕ × ℕ) → Type 0) (V : ℕ → TxId → Type 0) (O B : TxId → Type 0) (s : Shard) (tx : TxId) (v : Voter) (why : NoWhy) (b : Bool) → Upheld W V O B s → VoterStands W s tx v → Touched W s.shard tx → vote_owed (facts_of s tx) v b ≡ Some (No why) → ⊥
no_vote W V O B s tx v why true p k h e = none_some (No why) e
no_vote W V O B s tx v why false p k h e = by_vote v.vote refl e
  where
    once_durable : (c : Bool) (w : Vote) → (w ≡ No why → ⊥) → cond c (Some w) None ≡ Some (No why) → ⊥
    once_durable true w n z = n (some_same w (No why) z)
    once_durable false w n z = none_some (No why) z

    yes_or_read : (a u : Bool) → cond a (vote_by_writes (facts_of s tx) u) None ≡ Some (No why) → ⊥
    yes_or_read true true z = once_durable (has_durable_prepare (facts_of s tx)) Yes (λ q. absurd cc) z
    yes_or_read true false z = once_durable (has_durable_undo (facts_of s tx)) Read (λ q. absurd cc) z
    yes_or_read false u z = none_some (No why) z

    by_doom : (d : Option TxId) → stage_of s.local tx ≡ Some (Gone d) → gone_vote d ≡ Some (No why) → ⊥
    by_doom None f g = none_some (No why) g
    by_doom (Some d) f g = (p.gone tx d f).0 (touched_asks W s.shard tx h)

    by_stage : (o : Option Stage) → stage_of s.local tx ≡ o → vote_in_state (facts_of s tx) v.seen (state_by o) ≡ Some (No why) → ⊥
    by_stage None f g = (k h).1 f
    by_stage (Some Active) f g = none_some (No why) g
    by_stage (Some Closed) f g = yes_or_read (has_durable_predecessors (facts_of s tx)) (facts_of s tx).updates g
    by_stage (Some (Gone d)) f g = by_doom d f (sym (ap (λ z. gone_vote (doom_by z)) f) ∙ g)

    by_vote : (w : Option Vote) → v.vote ≡ w → first_vote (facts_of s tx) v.seen w ≡ Some (No why) → ⊥
    by_vote (Some x) f g = (k h).0 why (f ∙ g)
    by_vote None f g = by_stage (stage_of s.local tx) refl g

voted_spares : (W : TxId → ℕ → List (ℕ × ℕ) → Type 0) (V : ℕ → TxId → Type 0) (home : ℕ) (tx : TxId) (n : ℕ) (vote : Vote) → ((why : NoWhy) → Touched W n tx → vote ≡ No why → ⊥) → Spares W V (VoteMessage home tx n vote)
voted_spares W V home tx n Yes k = tt
voted_spares W V home tx n Read k = tt
voted_spares W V home tx n (No why) k = λ h. k why h refl

votes_upheld : (W : TxId → ℕ → List (ℕ × ℕ) → Type 0) (V : ℕ → TxId → Type 0) (O B : TxId → Type 0) (s : Shard) (tx : TxId) (v : Voter) (vote : Vote) → VoterStands W s tx v → ((why : NoWhy) → Touched W s.shard tx → vote ≡ No why → ⊥) → Upheld W V O B s
    → Upheld W V O B (finish_reader tx vote (with_vote s tx v vote))
votes_upheld W V O B s tx v vote k n p = read vote
  where
    x : Shard
    x = with_vote s tx v vote

    given : Upheld W V O B (with_vote s tx v vote)
    given = record {
      gone = p.gone;
      rows = p.rows;
      voters = rows_set (λ r. VoterStands W s r.0 r.1) tx (voted vote v) s.voters (λ h. ((λ why e. n why h (some_same vote (No why) e)), (k h).1)) p.voters;
      out = all_append (Spares W V) s.outbox (VoteMessage v.home tx s.shard vote ∷ []) p.out (voted_spares W V v.home tx s.shard vote n, tt);
      there = p.there;
      epoch = p.epoch;
    }

    read : (w : Vote) → Upheld W V O B (finish_reader tx w (with_vote s tx v vote))
    read Yes = given
    read Read = finished W V O B (with_vote s tx v vote) tx given
    read (No why) = given

-- an acknowledgement is ruled of an undecided request on which all agree, and no other shard voted yes
abbrev Acknowledges : ℕ → Request → PartFacts → Type 0
Acknowledges shard q f = (q.state ≡ Undecided) × (is_agreed shard q f ≡ true) × (yes_shards shard q ≡ [])

agreed_none : (f : PartFacts) (u : Bool) (ys : List ℕ) → agreed_ruling f u ys ≡ Some Acknowledge → ys ≡ []
agreed_none f u [] e = refl
agreed_none f u (y ∷ ys) e = absurd cc

undecided_acknowledges : (shard : ℕ) (tx : TxId) (q : Request) (f : PartFacts) (b : Bool) → q.state ≡ Undecided → is_agreed shard q f ≡ b → undecided_ruling shard tx q f b ≡ Some Acknowledge → Acknowledges shard q f
undecided_acknowledges shard tx q f true u a e = (u, a, agreed_none f f.updates (yes_shards shard q) e)
undecided_acknowledges shard tx q f false u a e = absurd (ack_refused shard q (refusal tx q f) e)

acknowledges : (shard : ℕ) (tx : TxId) (q : Request) (f : PartFacts) (st : RequestState) → q.state ≡ st → ruling_in shard tx q f st ≡ Some Acknowledge → Acknowledges shard q f
acknowledges shard tx q f Undecided u e = undecided_acknowledges shard tx q f (is_agreed shard q f) u refl e
acknowledges shard tx q f (Committed ps) u e = absurd (ack_end q ps e)
acknowledges shard tx q f Finished u e = absurd (none_some Acknowledge e)
acknowledges shard tx q f (Refused c) u e = absurd (none_some Acknowledge e)

-- then each of them voted read
none_picked : (f : ℕ → Bool) (m : ℕ) (ns : List ℕ) → filter f ns ≡ [] → nat_in m ns ≡ true → f m ≡ false
none_picked f m [] e i = absurd (both_ways false refl i)
none_picked f m (n ∷ ns) e i = at (f n) refl e (none_picked f m ns)
  where
    at : (b : Bool) → f n ≡ b → cond b (n ∷ filter f ns) (filter f ns) ≡ [] → (filter f ns ≡ [] → nat_in m ns ≡ true → f m ≡ false) → f m ≡ false
    at true q g k = absurd cc
    at false q g k = ⊎_elim (λ a. subst (λ z. f z ≡ false) (sym (eqb-true m n a)) q) (λ a. k g a) (or_cases (m == n) (nat_in m ns) i)

read_by : (o : Option Vote) → is_good o ≡ true → is_yes_vote o ≡ false → o ≡ Some Read
read_by None g y = absurd (both_ways false refl g)
read_by (Some Yes) g y = absurd (both_ways true y refl)
read_by (Some Read) g y = refl
read_by (Some (No why)) g y = absurd (both_ways false refl g)

all_read : (V : ℕ → TxId → Type 0) (shard : ℕ) (tx : TxId) (q : Request) (f : PartFacts) (m : ℕ) → Acknowledges shard q f → AllByRecursion (λ v. VoteStands V v.0 tx v.1) q.votes → nat_in m (others shard q.touched) ≡ true → V m tx
all_read V shard tx q f m (u, a, y) vs i =
    let g = and_parts (is_waiting f && (f.undecided == 0)) (list_all (λ p. is_good (vote_from p q.votes)) (others shard q.touched)) a in
    votes_get (λ n w. VoteStands V n tx w) q.votes m Read vs
    (read_by (vote_from m q.votes) (good_at q.votes (others shard q.touched) m g.1 i) (none_picked (λ p. is_yes_vote (vote_from p q.votes)) m (others shard q.touched) y i))

-- nobody's votes are a no
none_refuse : (V : ℕ → TxId → Type 0) (tx : TxId) (vs : List (ℕ × Vote)) → AllByRecursion (λ v. VoteStands V v.0 tx v.1) vs → first_no vs ≡ None
none_refuse V tx [] a = refl
none_refuse V tx (v ∷ vs) a = at v.1 a.0 (none_refuse V tx vs a.1)
  where
    at : (w : Vote) → VoteStands V v.0 tx w → first_no vs ≡ None → ◌≡◌ {A = Option AbortCause} (elim w [ Yes ↦ first_no vs | Read ↦ first_no vs | No why ↦ Some (NoVote v.0 why) ]) None
    at Yes k e = e
    at Read k e = e
    at (No why) k e = absurd k

-- what a request asks for is known once. One: W names one home and one list for each
abbrev pub IsOnce : (TxId → ℕ → List (ℕ × ℕ) → Type 0) → Type 0
IsOnce W = (t : TxId) (m n : ℕ) (ts us : List (ℕ × ℕ)) → W t m ts → W t n us → (m ≡ n) × (ts ≡ us)

doomed_gone : (o : Option Stage) (d : TxId) → doom_by o ≡ Some d → o ≡ Some (Gone (Some d))
doomed_gone None d e = absurd (none_some d e)
doomed_gone (Some Active) d e = absurd (none_some d e)
doomed_gone (Some Closed) d e = absurd (none_some d e)
doomed_gone (Some (Gone o)) d e = ap (λ z. Some (Gone z)) e

-- an undecided request has no cause to be refused
never_refused : (W : TxId → ℕ → List (ℕ × ℕ) → Type 0) (V : ℕ → TxId → Type 0) (O B : TxId → Type 0) (s : Shard) (tx : TxId) (q : Request) (c : AbortCause) → Upheld W V O B s → RowStands W V s.shard tx q Undecided → refusal tx q (facts_of s tx) ≡ Some c → ⊥
never_refused W V O B s tx q c p (w, vs) e = at (doom_by (stage_of s.local tx)) refl (sym (ap (λ z. cause_by tx z (doom_by (stage_of s.local tx))) (none_refuse V tx q.votes vs)) ∙ e)
  where
    at : (o : Option TxId) → doom_by (stage_of s.local tx) ≡ o → cause_by tx None o ≡ Some c → ⊥
    at None f g = none_some c g
    at (Some d) f g = (p.gone tx d (doomed_gone (stage_of s.local tx) d f)).0 (s.shard, q.touched, w)

rules_upheld : (W : TxId → ℕ → List (ℕ × ℕ) → Type 0) (V : ℕ → TxId → Type 0) (O B : TxId → Type 0) → IsOnce W → (s : Shard) (tx : TxId) (q : Request) (r : Ruling) → tx_get tx s.requests ≡ Some q → ruling_in s.shard tx q (facts_of s tx) q.state ≡ Some r → RuledBy s tx q (Some r) → Upheld W V O B s
    → Upheld W V O B (do_ruling tx r (with_ruling tx q r s))
rules_upheld W V O B one s tx q _ g e (commit {parts = parts}) p =
    let x = row_set W V O B s tx (ruled_request (CommitVerdict parts) q) tt p in record { gone = x.gone; rows = x.rows; voters = x.voters; out = x.out; there = x.there; epoch = x.epoch }
rules_upheld W V O B one s tx q _ g e (acknowledge c) p =
    let f = facts_of s tx in
    let a = acknowledges s.shard tx q f q.state refl e in
    let row : RowStands W V s.shard tx q Undecided = subst (RowStands W V s.shard tx q) a.0 (rows_get (λ r. RowStands W V s.shard r.0 r.1 (r.1).state) tx q s.requests p.rows g) in
    finished W V O B (with_ruling tx q Acknowledge s) tx
    (row_set W V O B s tx (ruled_request Acknowledge q)
    (λ h m t.
    let o = one tx s.shard t.0 q.touched t.1 row.0 t.2 in
    all_read V s.shard tx q f m a row.1 (subst (λ z. nat_in m (others z q.touched) ≡ true) (sym o.0) (subst (λ z. nat_in m (others t.0 z) ≡ true) (sym o.1) t.3))) p)
rules_upheld W V O B one s tx q _ g e (abort {cause = cause} {to = to} u z) p =
    absurd (never_refused W V O B s tx q cause p (subst (RowStands W V s.shard tx q) u (rows_get (λ r. RowStands W V s.shard r.0 r.1 (r.1).state) tx q s.requests p.rows g)) z)
rules_upheld W V O B one s tx q _ g e end p =
    let x = row_set W V O B s tx (ruled_request EndVerdict q) (again q.state (rows_get (λ r. RowStands W V s.shard r.0 r.1 (r.1).state) tx q s.requests p.rows g)) p in
    record { gone = x.gone; rows = x.rows; voters = x.voters; out = x.out; there = x.there; epoch = x.epoch }
  where
    again : (st : RequestState) → RowStands W V s.shard tx q st → RowStands W V s.shard tx (ruled_request EndVerdict q) st
    again Undecided k = k
    again (Committed parts) k = k
    again Finished k = k
    again (Refused c) k = k

commit_spares : (W : TxId → ℕ → List (ℕ × ℕ) → Type 0) (V : ℕ → TxId → Type 0) (s : Shard) (tx : TxId) (o : Option Request) (v : Option Voter) → AllByRecursion (Spares W V) (commit_messages s tx o v)
commit_spares W V s tx (Some q) v = at q.state
  where
    at : (st : RequestState) → AllByRecursion (Spares W V) (elim st [ Committed parts ↦ map (λ p. Decide p tx s.shard true) parts | Undecided ↦ [] | Finished ↦ [] | Refused cause ↦ [] ])
    at Undecided = tt
    at (Committed parts) = all_map (Spares W V) (λ p. Decide p tx s.shard true) parts (λ p. tt)
    at Finished = tt
    at (Refused c) = tt
commit_spares W V s tx None (Some v) = (tt, tt)
commit_spares W V s tx None None = tt

upheld_due : (W : TxId → ℕ → List (ℕ × ℕ) → Type 0) (V : ℕ → TxId → Type 0) (O B : TxId → Type 0) → IsOnce W → KeptByDue (Upheld W V O B)
upheld_due W V O B one s _ (commits tx c d) p = sends_more W V O B (finish_part tx s) (commit_messages s tx (tx_get tx s.requests) (tx_get tx s.voters)) (commit_spares W V s tx (tx_get tx s.requests) (tx_get tx s.voters)) (finished W V O B s tx p)
upheld_due W V O B one s _ (votes tx v vote g e) p =
    let k = rows_get (λ r. VoterStands W s r.0 r.1) tx v s.voters p.voters g in
    votes_upheld W V O B s tx v vote k (λ why h z. no_vote W V O B s tx v why (v.owed == 0) p k h (e ∙ ap (λ y. Some y) z)) p
upheld_due W V O B one s _ (rules tx q r g e) p = rules_upheld W V O B one s tx q r g e (subst (RuledBy s tx q) e (ruled_by s tx q q.state refl)) p

pub upheld_finish : (W : TxId → ℕ → List (ℕ × ℕ) → Type 0) (V : ℕ → TxId → Type 0) (O B : TxId → Type 0) → IsOnce W → (s : Shard) → Upheld W V O B s → Upheld W V O B (finish s)
upheld_finish W V O B one s p = let q = settled (Upheld W V O B) s (upheld_due W V O B one) p in record { gone = q.gone; rows = q.rows; voters = q.voters; out = q.out; there = q.there; epoch = q.epoch }
