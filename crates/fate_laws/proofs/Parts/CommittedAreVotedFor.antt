-- What a shard knows of parts: what its votes bind, who was asked, and of whose COMMIT all touched shards voted well.
use Rattle.std.proofs.Common.{◌≡◌, ◌⊎◌, inl, inr, ⊎_elim, refl, sym, ap, subst, ◌∙◌, ℕ, ◌≤◌, true, false, cond, Bool, not, ◌&&◌, ◌==◌, List, [], ◌∷◌, Option, Some, None, length, arith, eqb-true}
use Rattle.std.specs.Prelude.{⊤}
use Rattle.std.specs.List.{AllByRecursion, list_all, filter}
use Rattle.std.proofs.lemmas.Bool.{both_ways, and_parts, or_cases, or_left, or_right, eq-eqb, false_from_ne_true}
use Rattle.clv_base.specs.declared.names.TxId.{TxId}
use Rattle.clv_base.specs.declared.logs.LogRecord.TheVariants.{Prepare as PrepareRecord}
use Rattle.clv_base.specs.declared.causes.AbortCause.{AbortCause}
use Rattle.clv_base.specs.declared.causes.Vote.{Vote}
use Rattle.clv_base.specs.declared.causes.Vote.TheVariants.{Yes, Read, No}
use Rattle.clv_base.specs.declared.messages.Message.{Message}
use Rattle.clv_base.specs.declared.messages.Message.TheVariants.{Prepare, Vote as VoteMessage, Decide, Done, Ask}
use Rattle.clv_base.specs.declared.state.Stage.TheVariants.{Active, Closed}
use Rattle.clv_base.specs.declared.state.Voter.{Voter}
use Rattle.clv_base.specs.declared.state.Request.{Request}
use Rattle.clv_base.specs.declared.state.RequestState.{RequestState}
use Rattle.clv_base.specs.declared.state.RequestState.TheVariants.{Undecided, Committed, Finished, Refused}
use Rattle.clv_base.specs.declared.state.Ruling.TheVariants.{Commit as CommitVerdict, Abort as AbortVerdict, End as EndVerdict}
use Rattle.clv_base.specs.declared.parts.PartFacts.{PartFacts}
use Rattle.clv_base.specs.Orders.{tx_in, nat_in}
use Rattle.clv_base.specs.Logs.{committed_in, prepared_in, has_standing, prepare_of}
use Rattle.clv_base.specs.State.{Shard}
use Rattle.clv_base.specs.Undo.{stage_of}
use Rattle.clv_base.specs.Facts.{undecided_of, predecessors_of, is_waiting}
use Rattle.clv_base.specs.Coordinator.{others, vote_from, is_good, is_agreed, refused_ruling, refusal, end_ruling, undecided_ruling, ruling_in, ruling_by}
use Rattle.law_base.proofs.Changed.{none_some, some_same}
use Rattle.law_base.proofs.Commits.{commit_durable, durable_keeps}
use Rattle.law_base.proofs.Tables.{is_pair, in_pair}
use Rattle.law_base.proofs.Lists.{all_mono}
use Rattle.shard_laws.proofs.Keeping.ChangesKeepPrepared.{prepare_here}
use Rattle.shard_laws.proofs.Order.ChangesKeepOrder.{prepare_some}
use Rattle.law_base.proofs.Sets.{in_filter}
use Rattle.shard_laws.proofs.Order.WhoseWritesStand.{has_still}
use Rattle.fate_laws.proofs.Logs.PreparedWritesStand.{Firmly, firmly_more, firmly_later}
use Rattle.fate_laws.proofs.Parts.ClosedPartsKeepWrites.{GrowsFirmly}
use Rattle.fate_laws.proofs.Logs.LogOnlyGrows.{Inside}
use Rattle.fate_laws.proofs.Parts.OthersCloseOrGo.{Calm}
use Rattle.fate_laws.proofs.Logs.WhatPreparesOrCommits.{ClosedNow}
use Rattle.fate_laws.proofs.Parts.YesVotesArePrepared.{Bound, Reads, bound_calm, reads_calm, Listed}
use Rattle.fate_laws.proofs.Parts.PutVotesAreHeld.{votes_get}
use Rattle.protocol_laws.proofs.LogsInOrder.OneRecordMore.{prepared_there}
use Rattle.history_cases.proofs.Durability.{grown_length}

-- ---- what is known. W: whose request was taken, where, naming which shards; S: who asked so far; F: whose part on a shard is bound, or has read

-- its request names this shard, which isn't its home
abbrev pub Touched : (TxId → ℕ → List (ℕ × ℕ) → Type 0) → ℕ → TxId → Type 0
Touched W n tx = (m : ℕ) × (ts : List (ℕ × ℕ)) × W tx m ts × (nat_in n (others m ts) ≡ true)

abbrev pub HomeOr : (TxId → ℕ → List (ℕ × ℕ) → Type 0) → ℕ → TxId → Type 0
HomeOr W n tx = ((ts : List (ℕ × ℕ)) × W tx n ts) ⊎ Touched W n tx

-- its part is bound, or has read, on each shard that it may have closed on
abbrev pub Good : ℕ → (TxId → ℕ → List (ℕ × ℕ) → Type 0) → (ℕ → TxId → Type 0) → TxId → Type 0
Good run W F tx = (m : ℕ) → (tx.run ≡ run → Touched W m tx) → F m tx

pub record Base (run : ℕ) (W : TxId → ℕ → List (ℕ × ℕ) → Type 0) (s : Shard) : Type 0 where
  pub counted : s.durable ≤ length s.local.log
  -- of who is prepared here and closed a write stands
  pub firm : Firmly s.local.log s.durable
  pub stands : (tx : TxId) → prepared_in s.local.log tx ≡ true → stage_of s.local tx ≡ Some Closed → has_standing s.local.log tx ≡ true
  pub listed : (tx : TxId) → Listed s tx
  pub unprepared : (tx : TxId) → stage_of s.local tx ≡ Some Active → prepared_in s.local.log tx ≡ false
  pub seen : (tx : TxId) → prepared_in s.local.log tx ≡ true → tx.run ≡ run → HomeOr W s.shard tx
  pub closed : (tx : TxId) → stage_of s.local tx ≡ Some Closed → tx.run ≡ run → HomeOr W s.shard tx

-- ---- the base is kept

new_list : (s t : Shard) (tx : TxId) (p : ℕ × List TxId) → ClosedNow s t tx → prepared_in s.local.log tx ≡ false → prepare_of t.local.log tx ≡ Some p → p.1 ≡ undecided_of s.local tx
new_list s t tx p c u h =
    let us = undecided_of s.local tx in
    let q : Some (c.home, us) ≡ Some p = sym (prepare_here s.local.log [] tx c.home us u) ∙ subst (λ l. prepare_of l tx ≡ Some p) c.log h in
    sym (ap (λ z. z.1) (some_same (c.home, us) p q))

pub base_next : (run : ℕ) (W : TxId → ℕ → List (ℕ × ℕ) → Type 0) (s t : Shard) → Inside s t
    → ((tx : TxId) (p : ℕ × List TxId) → prepare_of t.local.log tx ≡ Some p → (prepare_of s.local.log tx ≡ Some p) ⊎ ClosedNow s t tx)
    → ((tx : TxId) → stage_of t.local tx ≡ Some Closed → (stage_of s.local tx ≡ Some Closed) ⊎ ((stage_of s.local tx ≡ Some Active) × (tx.run ≡ run → HomeOr W s.shard tx)))
    → ((tx q : TxId) → stage_of t.local tx ≡ Some Closed → is_pair s.local.pairs tx q ≡ true → is_pair t.local.pairs tx q ≡ true)
    → ((tx : TxId) → stage_of t.local tx ≡ Some Active → prepared_in s.local.log tx ≡ false) → GrowsFirmly s.local.log t.local.log
    → ((tx : TxId) → stage_of s.local tx ≡ Some Closed → stage_of t.local tx ≡ Some Closed → has_standing s.local.log tx ≡ true → has_standing t.local.log tx ≡ true) → Base run W s → Base run W t
base_next run W s t i prep clo keep act firmly stay b = record {
  counted = let l = grown_length s.local.log t.local.log i.log in let d = i.durable in omega (arith, l, d, b.counted);
  firm = let d = i.durable in firmly_later t.local.log s.durable t.durable (omega (arith, d)) (firmly_more s.local.log t.local.log firmly.0 s.durable b.firm firmly.1 firmly.2);
  stands = λ tx h c.
      let x = prepare_some t.local.log tx h in
      ⊎_elim
      (λ e.
      let p = prepared_there s.local.log tx x.0 e in
      ⊎_elim (λ st. stay tx st c (b.stands tx p st)) (λ st. absurd (both_ways _ (b.unprepared tx st.0) p)) (clo tx c))
      (λ n. subst (λ l. has_standing l tx ≡ true) (sym n.log) (has_still s.local.log (PrepareRecord tx n.home (undecided_of s.local tx) ∷ []) tx refl n.stands))
      (prep tx x.0 x.1);
  listed = λ tx p q c h m.
      ⊎_elim
      (λ e. ⊎_elim
      (λ st. ⊎_elim
      (λ d. inl (grown_durable s t q i d))
      (λ r. inr (keep tx q c r))
      (b.listed tx p q st e m))
      (λ st. absurd (both_ways _ (b.unprepared tx st.0) (prepared_there s.local.log tx p e)))
      (clo tx c))
      (λ n. inr (subst (λ l. is_pair l tx q ≡ true) (sym n.pairs)
      (in_pair s.local.pairs tx q (in_filter (λ z. not (committed_in s.local.log z)) q (predecessors_of s.local.pairs tx) (subst (λ l. tx_in q l ≡ true) (new_list s t tx p n (b.unprepared tx n.was) h) m)).0)))
      (prep tx p h);
  unprepared = λ tx a. false_from_ne_true _ (λ h.
      let x = prepare_some t.local.log tx h in
      ⊎_elim (λ e. both_ways _ (act tx a) (prepared_there s.local.log tx x.0 e)) (λ n. differ (sym a ∙ n.now)) (prep tx x.0 x.1));
  seen = λ tx h r.
      let x = prepare_some t.local.log tx h in
      ⊎_elim (λ e. moved tx (b.seen tx (prepared_there s.local.log tx x.0 e) r)) (λ n. ⊎_elim (λ st. moved tx (b.closed tx st r)) (λ st. moved tx (st.1 r)) (clo tx n.now)) (prep tx x.0 x.1);
  closed = λ tx h r. ⊎_elim (λ st. moved tx (b.closed tx st r)) (λ st. moved tx (st.1 r)) (clo tx h);
}
  where
    differ : Some Active ≡ Some Closed → ⊥
    differ z = absurd cc

    moved : (tx : TxId) → HomeOr W s.shard tx → HomeOr W t.shard tx
    moved tx k = subst (λ n. HomeOr W n tx) (sym i.shard) k

    grown_durable : (s t : Shard) (q : TxId) → Inside s t → commit_durable s.local.log s.durable q ≡ true → commit_durable t.local.log t.durable q ≡ true
    grown_durable s t q i d =
        subst (λ l. commit_durable l t.durable q ≡ true) (i.log).1 (durable_keeps s.local.log (i.log).0 s.durable t.durable q (let e = i.durable in omega (arith, e)) d)

-- ---- votes

abbrev pub VotedIs : (TxId → Type 0) → Shard → TxId → Option Vote → Type 0
VotedIs S s tx None = ⊤
VotedIs S s tx (Some Yes) = S tx × Bound s tx
VotedIs S s tx (Some Read) = S tx × Reads s tx
VotedIs S s tx (Some (No why)) = ⊤

-- a voter that owes nothing and gave nothing, or one whose transaction asked
abbrev pub VoterIs : (TxId → Type 0) → Shard → TxId → Voter → Type 0
VoterIs S s tx v = (((v.owed == 0) ≡ true) × (v.vote ≡ None)) ⊎ (S tx × VotedIs S s tx v.vote)

-- what a vote tells the home
abbrev pub VoteTells : (ℕ → TxId → Type 0) → ℕ → TxId → Vote → Type 0
VoteTells F from tx Yes = F from tx
VoteTells F from tx Read = F from tx
VoteTells F from tx (No why) = ⊤

abbrev pub RowIs : (TxId → ℕ → List (ℕ × ℕ) → Type 0) → (ℕ → TxId → Type 0) → ℕ → TxId → Request → RequestState → Type 0
RowIs W F shard tx q Undecided = W tx shard q.touched × AllByRecursion (λ v. VoteTells F v.0 tx v.1) q.votes
RowIs W F shard tx q (Committed parts) = ⊤
RowIs W F shard tx q Finished = ⊤
RowIs W F shard tx q (Refused cause) = W tx shard q.touched

abbrev pub Tells : ℕ → (TxId → ℕ → List (ℕ × ℕ) → Type 0) → (TxId → Type 0) → (ℕ → TxId → Type 0) → Shard → Message → Type 0
Tells run W S F s (Prepare to tx home seen) = tx.run ≡ run → Touched W to tx
Tells run W S F s (VoteMessage to tx from vote) = (from ≡ s.shard) × VotedIs S s tx (Some vote)
Tells run W S F s (Decide to tx home true) = Good run W F tx
Tells run W S F s (Decide to tx home false) = ⊤
Tells run W S F s (Done to tx from) = ⊤
Tells run W S F s (Ask to tx from) = ⊤

pub record Parted (run : ℕ) (W : TxId → ℕ → List (ℕ × ℕ) → Type 0) (S : TxId → Type 0) (F : ℕ → TxId → Type 0) (s : Shard) : Type 0 where
  pub base : Base run W s
  pub log : (tx : TxId) → committed_in s.local.log tx ≡ true → Good run W F tx
  pub rows : AllByRecursion (λ r. RowIs W F s.shard r.0 r.1 (r.1).state) s.requests
  pub voters : AllByRecursion (λ r. VoterIs S s r.0 r.1) s.voters
  pub out : AllByRecursion (Tells run W S F s) s.outbox

pub voted_calm : (S : TxId → Type 0) (s t : Shard) (tx : TxId) (o : Option Vote) → (S tx → Calm s t tx) → s.durable ≤ length s.local.log → VotedIs S s tx o → VotedIs S t tx o
voted_calm S s t tx None c l p = tt
voted_calm S s t tx (Some Yes) c l p = (p.0, bound_calm s t tx (c p.0) l p.1)
voted_calm S s t tx (Some Read) c l p = (p.0, reads_calm s t tx (c p.0) p.1)
voted_calm S s t tx (Some (No why)) c l p = tt

pub voter_calm : (S : TxId → Type 0) (s t : Shard) (tx : TxId) (v : Voter) → (S tx → Calm s t tx) → s.durable ≤ length s.local.log → VoterIs S s tx v → VoterIs S t tx v
voter_calm S s t tx v c l (inl p) = inl p
voter_calm S s t tx v c l (inr p) = inr (p.0, voted_calm S s t tx v.vote c l p.1)

pub voters_calm : (S : TxId → Type 0) (s t : Shard) (vs : List (TxId × Voter)) → ((tx : TxId) → S tx → Calm s t tx) → s.durable ≤ length s.local.log → AllByRecursion (λ r. VoterIs S s r.0 r.1) vs → AllByRecursion (λ r. VoterIs S t r.0 r.1) vs
voters_calm S s t [] c l a = tt
voters_calm S s t (v ∷ vs) c l a = (voter_calm S s t v.0 v.1 (c v.0) l a.0, voters_calm S s t vs c l a.1)

pub tells_calm : (run : ℕ) (W : TxId → ℕ → List (ℕ × ℕ) → Type 0) (S : TxId → Type 0) (F : ℕ → TxId → Type 0) (s t : Shard) (ms : List Message) → t.shard ≡ s.shard → ((tx : TxId) → S tx → Calm s t tx) → s.durable ≤ length s.local.log
    → AllByRecursion (Tells run W S F s) ms → AllByRecursion (Tells run W S F t) ms
tells_calm run W S F s t [] e c l a = tt
tells_calm run W S F s t (m ∷ ms) e c l a = (one m a.0, tells_calm run W S F s t ms e c l a.1)
  where
    one : (m : Message) → Tells run W S F s m → Tells run W S F t m
    one (Prepare to tx home seen) p = p
    one (VoteMessage to tx from vote) p = (p.0 ∙ sym e, voted_calm S s t tx (Some vote) (c tx) l p.1)
    one (Decide to tx home true) p = p
    one (Decide to tx home false) p = tt
    one (Done to tx from) p = tt
    one (Ask to tx from) p = tt

-- ---- the votes of a request

good_tells : (F : ℕ → TxId → Type 0) (tx : TxId) (m : ℕ) (vs : List (ℕ × Vote)) (o : Option Vote) → vote_from m vs ≡ o → is_good o ≡ true → AllByRecursion (λ r. VoteTells F r.0 tx r.1) vs → F m tx
good_tells F tx m vs None e g a = absurd (both_ways false refl g)
good_tells F tx m vs (Some Yes) e g a = votes_get (λ n w. VoteTells F n tx w) vs m Yes a e
good_tells F tx m vs (Some Read) e g a = votes_get (λ n w. VoteTells F n tx w) vs m Read a e
good_tells F tx m vs (Some (No why)) e g a = absurd (both_ways false refl g)

all_good : (F : ℕ → TxId → Type 0) (tx : TxId) (vs : List (ℕ × Vote)) (ps : List ℕ) (m : ℕ) → list_all (λ p. is_good (vote_from p vs)) ps ≡ true → nat_in m ps ≡ true → AllByRecursion (λ r. VoteTells F r.0 tx r.1) vs → F m tx
all_good F tx vs [] m g i a = absurd (both_ways false refl i)
all_good F tx vs (p ∷ ps) m g i a =
    let b = and_parts (is_good (vote_from p vs)) (list_all (λ p. is_good (vote_from p vs)) ps) g in
    ⊎_elim (λ e. good_tells F tx m vs (vote_from m vs) refl (subst (λ z. is_good (vote_from z vs) ≡ true) (sym (eqb-true m p e)) b.0) a) (λ n. all_good F tx vs ps m b.1 n a) (or_cases (m == p) (nat_in m ps) i)

pub agreed_good : (F : ℕ → TxId → Type 0) (tx : TxId) (shard : ℕ) (q : Request) (f : PartFacts) (m : ℕ) → is_agreed shard q f ≡ true → nat_in m (others shard q.touched) ≡ true → AllByRecursion (λ r. VoteTells F r.0 tx r.1) q.votes → F m tx
agreed_good F tx shard q f m g i a = all_good F tx q.votes (others shard q.touched) m (and_parts (is_waiting f && (f.undecided == 0)) (list_all (λ p. is_good (vote_from p q.votes)) (others shard q.touched)) g).1 i a

-- a COMMIT is ruled of an undecided request on which all agree
no_commit_end : (q : Request) (ps parts : List ℕ) → end_ruling q ps ≡ Some (CommitVerdict parts) → ⊥
no_commit_end q [] parts e = none_some (CommitVerdict parts) e
no_commit_end q (p ∷ ps) parts e = at _ e
  where
    at : (b : Bool) → cond b (Some EndVerdict) None ≡ Some (CommitVerdict parts) → ⊥
    at true e = absurd cc
    at false e = none_some (CommitVerdict parts) e

no_commit_refused : (shard : ℕ) (q : Request) (o : Option AbortCause) (parts : List ℕ) → refused_ruling shard q o ≡ Some (CommitVerdict parts) → ⊥
no_commit_refused shard q None parts e = none_some (CommitVerdict parts) e
no_commit_refused shard q (Some c) parts e = absurd cc

commit_undecided : (shard : ℕ) (tx : TxId) (q : Request) (f : PartFacts) (b : Bool) (parts : List ℕ) → is_agreed shard q f ≡ b → undecided_ruling shard tx q f b ≡ Some (CommitVerdict parts) → is_agreed shard q f ≡ true
commit_undecided shard tx q f true parts e h = e
commit_undecided shard tx q f false parts e h = absurd (no_commit_refused shard q (refusal tx q f) parts h)

commit_in : (shard : ℕ) (tx : TxId) (q : Request) (f : PartFacts) (st : RequestState) (parts : List ℕ) → q.state ≡ st → ruling_in shard tx q f st ≡ Some (CommitVerdict parts) → (q.state ≡ Undecided) × (is_agreed shard q f ≡ true)
commit_in shard tx q f Undecided parts e h = (e, commit_undecided shard tx q f (is_agreed shard q f) parts refl h)
commit_in shard tx q f (Committed ps) parts e h = absurd (no_commit_end q ps parts h)
commit_in shard tx q f Finished parts e h = absurd (none_some (CommitVerdict parts) h)
commit_in shard tx q f (Refused c) parts e h = absurd (none_some (CommitVerdict parts) h)

pub commit_agreed : (shard : ℕ) (tx : TxId) (q : Request) (f : PartFacts) (parts : List ℕ) → ruling_by shard tx q f ≡ Some (CommitVerdict parts) → (q.state ≡ Undecided) × (is_agreed shard q f ≡ true)
commit_agreed shard tx q f parts h = commit_in shard tx q f q.state parts refl h

-- an abort is ruled of an undecided request
no_abort_end : (q : Request) (ps : List ℕ) (cause : AbortCause) (to : List ℕ) → end_ruling q ps ≡ Some (AbortVerdict cause to) → ⊥
no_abort_end q [] cause to e = none_some (AbortVerdict cause to) e
no_abort_end q (p ∷ ps) cause to e = at _ e
  where
    at : (b : Bool) → cond b (Some EndVerdict) None ≡ Some (AbortVerdict cause to) → ⊥
    at true e = absurd cc
    at false e = none_some (AbortVerdict cause to) e

abort_in : (shard : ℕ) (tx : TxId) (q : Request) (f : PartFacts) (st : RequestState) (cause : AbortCause) (to : List ℕ) → q.state ≡ st → ruling_in shard tx q f st ≡ Some (AbortVerdict cause to) → q.state ≡ Undecided
abort_in shard tx q f Undecided cause to e h = e
abort_in shard tx q f (Committed ps) cause to e h = absurd (no_abort_end q ps cause to h)
abort_in shard tx q f Finished cause to e h = absurd (none_some (AbortVerdict cause to) h)
abort_in shard tx q f (Refused c) cause to e h = absurd (none_some (AbortVerdict cause to) h)

pub abort_undecided : (shard : ℕ) (tx : TxId) (q : Request) (f : PartFacts) (cause : AbortCause) (to : List ℕ) → ruling_by shard tx q f ≡ Some (AbortVerdict cause to) → q.state ≡ Undecided
abort_undecided shard tx q f cause to h = abort_in shard tx q f q.state cause to refl h

-- a touched shard that isn't the home is one of the others
abbrev NotHere : ℕ → (ℕ × ℕ → Bool) → Type 0
NotHere shard f = (t : ℕ × ℕ) → f t ≡ true → (t.0 == shard) ≡ false

more_others : (shard : ℕ) (t : ℕ × ℕ) (ts : List (ℕ × ℕ)) (n : ℕ) → nat_in n (others shard ts) ≡ true → nat_in n (others shard (t ∷ ts)) ≡ true
more_others shard t ts n i = at (not (t.0 == shard))
  where
    at : (b : Bool) → nat_in n (cond b (t.0 ∷ others shard ts) (others shard ts)) ≡ true
    at true = or_right (n == t.0) _ i
    at false = i

own_other : (shard : ℕ) (t : ℕ × ℕ) (ts : List (ℕ × ℕ)) (b : Bool) → (t.0 == shard) ≡ b → b ≡ false → nat_in t.0 (cond (not b) (t.0 ∷ others shard ts) (others shard ts)) ≡ true
own_other shard t ts true e n = absurd (both_ways true n refl)
own_other shard t ts false e n = or_left (t.0 == t.0) _ (eq-eqb t.0 t.0 refl)

pub others_all : (shard : ℕ) (f : ℕ × ℕ → Bool) (ts : List (ℕ × ℕ)) → NotHere shard f → AllByRecursion (λ t. nat_in t.0 (others shard ts) ≡ true) (filter f ts)
others_all shard f [] k = tt
others_all shard f (t ∷ ts) k = at (f t) refl (all_mono _ _ (λ u i. more_others shard t ts u.0 i) (filter f ts) (others_all shard f ts k))
  where
    at : (b : Bool) → f t ≡ b → AllByRecursion (λ u. nat_in u.0 (others shard (t ∷ ts)) ≡ true) (filter f ts) → AllByRecursion (λ u. nat_in u.0 (others shard (t ∷ ts)) ≡ true) (cond b (t ∷ filter f ts) (filter f ts))
    at true e a = (own_other shard t ts (t.0 == shard) refl (k t e), a)
    at false e a = a
