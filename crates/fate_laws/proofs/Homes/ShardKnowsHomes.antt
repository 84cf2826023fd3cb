-- What a shard knows of the homes of transactions: whose COMMITs and PREPAREs its log has, whose votes and requests it keeps, and what its
-- messages tell. An abort is told only of one that has no COMMIT at its home, and gets none there.
use Rattle.std.proofs.Common.{◌≡◌, ◌⊎◌, inl, inr, ⊎_elim, refl, sym, ap, subst, ◌∙◌, ℕ, ◌≤◌, true, false, cond, Bool, List, [], ◌∷◌, ◌++◌, map, Option, Some, None, length}
use Rattle.std.specs.List.{AllByRecursion, filter}
use Rattle.std.specs.Prelude.{⊤}
use Rattle.std.proofs.lemmas.Bool.{both_ways, or_cases, false_from_ne_true}
use Rattle.clv_base.specs.declared.names.TxId.{TxId}
use Rattle.clv_base.specs.declared.logs.LogRecord.{LogRecord}
use Rattle.clv_base.specs.declared.logs.LogRecord.TheVariants.{Commit, End}
use Rattle.clv_base.specs.declared.causes.AbortCause.{AbortCause}
use Rattle.clv_base.specs.declared.causes.Vote.{Vote}
use Rattle.clv_base.specs.declared.causes.Vote.TheVariants.{Yes, Read, No}
use Rattle.clv_base.specs.declared.messages.Message.{Message}
use Rattle.clv_base.specs.declared.messages.Message.TheVariants.{Prepare, Vote as VoteMessage, Decide, Done, Ask}
use Rattle.clv_base.specs.declared.state.Ruling.{Ruling}
use Rattle.clv_base.specs.declared.state.Ruling.TheVariants.{Commit as CommitVerdict, Acknowledge, Abort as AbortVerdict, End as EndVerdict}
use Rattle.clv_base.specs.declared.state.Voter.{Voter}
use Rattle.clv_base.specs.declared.state.Request.{Request}
use Rattle.clv_base.specs.declared.state.RequestState.{RequestState}
use Rattle.clv_base.specs.declared.state.RequestState.TheVariants.{Undecided, Committed, Finished, Refused}
use Rattle.clv_base.specs.declared.parts.PartFacts.{PartFacts}
use Rattle.clv_base.specs.Orders.{tx_same, tx_get, tx_set}
use Rattle.clv_base.specs.Logs.{committed_in, prepare_of}
use Rattle.clv_base.specs.State.{Shard, Local, with_local}
use Rattle.clv_base.specs.Undo.{release_parts, roll_back}
use Rattle.clv_base.specs.OneShard.{purge}
use Rattle.clv_base.specs.Facts.{facts_of, has_durable_commit, has_durable_predecessors}
use Rattle.clv_base.specs.Participant.{voted}
use Rattle.clv_base.specs.Coordinator.{others, open_shards, is_agreed, agreed_ruling, refused_ruling, refusal, end_ruling, undecided_ruling, ruling_in, ruled_request, yes_shards, stands_open, vote_from, is_open}
use Rattle.clv_base.specs.Due.{send, commit_messages, with_vote, finish_reader, with_ruling, do_ruling, with_due_done}
use Rattle.clv_base.specs.Events.{finish}
use Rattle.clv_base.proofs.SameNames.{tx_true}
use Rattle.law_base.proofs.Changed.{none_some, get_set}
use Rattle.law_base.proofs.Rows.{rows_get, rows_set}
use Rattle.law_base.proofs.Commits.{commit_durable, committed_append, durable_committed}
use Rattle.law_base.proofs.Lists.{all_append}
use Rattle.history_cases.proofs.Stepping.{Due, commits, votes, rules, KeptByDue, settled}
use Rattle.history_cases.proofs.Uncommitting.{NoMoreCommits, rolled, with_more}
use Rattle.history_cases.proofs.Telling.{all_map}
use Rattle.fate_laws.proofs.Logs.LogOnlyGrows.{Inside, inside_due, durable_before}
use Rattle.fate_laws.proofs.Logs.WhatAddsNoPrepare.{NoMorePrepares, plain_more, rolled as rolled_prepares}

-- ---- what is known. A: whose request was taken, where; K: where whose COMMIT is durable

-- its request was taken by a shard where its COMMIT is durable
abbrev pub Known : (TxId → ℕ → Type 0) → (ℕ → TxId → Type 0) → TxId → Type 0
Known A K tx = (n : ℕ) × A tx n × K n tx

-- the shard has no COMMIT of it, and no request that may yet come to one
abbrev pub Dead : Shard → TxId → Type 0
Dead s tx = (committed_in s.local.log tx ≡ false) × (stands_open (tx_get tx s.requests) ≡ false)

-- a message in the outbox. Z: whose request was taken, where, as far as aborts are told
abbrev pub Tells : ℕ → (TxId → ℕ → Type 0) → (TxId → ℕ → Type 0) → (ℕ → TxId → Type 0) → Shard → Message → Type 0
Tells run A Z K s (Prepare to tx home seen) = tx.run ≡ run → A tx home
Tells run A Z K s (VoteMessage to tx from vote) = ⊤
Tells run A Z K s (Decide to tx home true) = tx.run ≡ run → Known A K tx
Tells run A Z K s (Decide to tx home false) = tx.run ≡ run → (home ≡ s.shard) × Z tx s.shard × Dead s tx
Tells run A Z K s (Done to tx from) = ⊤
Tells run A Z K s (Ask to tx from) = tx.run ≡ run → A tx to

-- a request that is undecided or refused: a COMMIT of it stands here only where no other shard is touched
abbrev pub Alone : (TxId → ℕ → Type 0) → Shard → TxId → Request → RequestState → Type 0
Alone A s tx q Undecided = A tx s.shard × (committed_in s.local.log tx ≡ true → others s.shard q.touched ≡ [])
Alone A s tx q (Committed parts) = ⊤
Alone A s tx q Finished = ⊤
Alone A s tx q (Refused cause) = A tx s.shard × (committed_in s.local.log tx ≡ true → others s.shard q.touched ≡ [])

-- D: of which an abort was told before
pub record Words (run : ℕ) (A Z : TxId → ℕ → Type 0) (K : ℕ → TxId → Type 0) (D : TxId → Type 0) (s : Shard) : Type 0 where
  pub out : AllByRecursion (Tells run A Z K s) s.outbox
  pub dead : (tx : TxId) → D tx → (tx.run ≡ run) × Z tx s.shard × Dead s tx

-- a request that is undecided
abbrev pub Opens : (TxId → ℕ → Type 0) → ℕ → TxId → RequestState → Type 0
Opens A shard tx Undecided = A tx shard
Opens A shard tx (Committed parts) = ⊤
Opens A shard tx Finished = ⊤
Opens A shard tx (Refused cause) = ⊤

pub record Homed (run : ℕ) (A Z : TxId → ℕ → Type 0) (K : ℕ → TxId → Type 0) (D : TxId → Type 0) (s : Shard) : Type 0 where
  pub log : (tx : TxId) → committed_in s.local.log tx ≡ true → tx.run ≡ run → A tx s.shard ⊎ Known A K tx
  pub prepares : (tx : TxId) (p : ℕ × List TxId) → prepare_of s.local.log tx ≡ Some p → tx.run ≡ run → A tx p.0
  pub voters : AllByRecursion (λ r. (r.0).run ≡ run → A r.0 (r.1).home) s.voters
  pub requests : (tx : TxId) (q : Request) → tx_get tx s.requests ≡ Some q → tx.run ≡ run → Alone A s tx q q.state
  pub rows : AllByRecursion (λ r. (r.0).run ≡ run → Opens A s.shard r.0 (r.1).state) s.requests
  pub words : Words run A Z K D s

-- ---- changes

-- messages tell the same of another state
pub tells_on : (run : ℕ) (A Z : TxId → ℕ → Type 0) (K : ℕ → TxId → Type 0) (s t : Shard) → t.shard ≡ s.shard → ((tx : TxId) → tx.run ≡ run → Z tx s.shard → Dead s tx → Dead t tx)
    → (ms : List Message) → AllByRecursion (Tells run A Z K s) ms → AllByRecursion (Tells run A Z K t) ms
tells_on run A Z K s t e k [] a = tt
tells_on run A Z K s t e k (m ∷ ms) a = (one m a.0, tells_on run A Z K s t e k ms a.1)
  where
    one : (m : Message) → Tells run A Z K s m → Tells run A Z K t m
    one (Prepare to tx home seen) p = p
    one (VoteMessage to tx from vote) p = tt
    one (Decide to tx home true) p = p
    one (Decide to tx home false) p = λ r. let q = p r in (q.0 ∙ sym e, subst (Z tx) (sym e) q.1, k tx r q.1 q.2)
    one (Done to tx from) p = tt
    one (Ask to tx from) p = p

-- where it sends nothing
pub words_on : (run : ℕ) (A Z : TxId → ℕ → Type 0) (K : ℕ → TxId → Type 0) (D : TxId → Type 0) (s t : Shard) → t.shard ≡ s.shard → t.outbox ≡ s.outbox → ((tx : TxId) → tx.run ≡ run → Z tx s.shard → Dead s tx → Dead t tx)
    → Words run A Z K D s → Words run A Z K D t
words_on run A Z K D s t e f k p = record {
  out = subst (λ l. AllByRecursion (Tells run A Z K t) l) (sym f) (tells_on run A Z K s t e k s.outbox p.out);
  dead = λ tx d. let q = p.dead tx d in (q.0, subst (Z tx) (sym e) q.1, k tx q.0 q.1 q.2);
}

-- the log has no COMMITs and no PREPAREs but those that it had
pub alone_log : (A : TxId → ℕ → Type 0) (s : Shard) (l : Local) (tx : TxId) (q : Request) (st : RequestState) → (committed_in l.log tx ≡ true → committed_in s.local.log tx ≡ true) → Alone A s tx q st
    → Alone A (record s { local = l }) tx q st
alone_log A s l tx q Undecided k p = (p.0, λ c. p.1 (k c))
alone_log A s l tx q (Committed parts) k p = tt
alone_log A s l tx q Finished k p = tt
alone_log A s l tx q (Refused cause) k p = (p.0, λ c. p.1 (k c))

pub still_not : (a b : Bool) → (b ≡ true → a ≡ true) → a ≡ false → b ≡ false
still_not a true k e = absurd (both_ways a e (k refl))
still_not a false k e = refl

pub homed_log : (run : ℕ) (A Z : TxId → ℕ → Type 0) (K : ℕ → TxId → Type 0) (D : TxId → Type 0) (s : Shard) (l : Local) → NoMoreCommits s.local.log l.log → NoMorePrepares s.local.log l.log → Homed run A Z K D s → Homed run A Z K D (record s { local = l })
homed_log run A Z K D s l c f p =
    let t = record s { local = l } in
    record {
      log = λ tx h r. p.log tx (c tx h) r;
      prepares = λ tx q h r. p.prepares tx q (f tx q h) r;
      voters = p.voters;
      requests = λ tx q g r. alone_log A s l tx q q.state (c tx) (p.requests tx q g r);
      rows = p.rows;
      words = words_on run A Z K D s t refl refl (λ tx r z d. (still_not (committed_in s.local.log tx) (committed_in l.log tx) (c tx) d.0, d.1)) p.words;
    }

pub homed_same : (run : ℕ) (A Z : TxId → ℕ → Type 0) (K : ℕ → TxId → Type 0) (D : TxId → Type 0) (s : Shard) (l : Local) → l.log ≡ s.local.log → Homed run A Z K D s → Homed run A Z K D (record s { local = l })
homed_same run A Z K D s l e p =
    homed_log run A Z K D s l (λ t h. subst (λ x. committed_in x t ≡ true) e h) (λ t q h. subst (λ x. prepare_of x t ≡ Some q) e h) p

-- a COMMIT is written: of one that has no request here that may yet come to one, and of which no abort is told
pub new_commit : (log : List LogRecord) (tx : TxId) (parts : List ℕ) (u : TxId) → committed_in (log ++ Commit tx parts ∷ []) u ≡ true → (committed_in log u ≡ true) ⊎ (u ≡ tx)
new_commit log tx parts u c =
    ⊎_elim (λ a. inl a) (λ b. ⊎_elim (λ e. inr (tx_true u tx e)) (λ e. absurd (both_ways false refl e)) (or_cases (tx_same u tx) false b))
    (or_cases (committed_in log u) (committed_in (Commit tx parts ∷ []) u) (sym (committed_append log (Commit tx parts ∷ []) u) ∙ c))

-- a request whose COMMIT is written
abbrev pub MayCommit : Shard → Request → RequestState → Type 0
MayCommit s q Undecided = others s.shard q.touched ≡ []
MayCommit s q (Committed parts) = ⊤
MayCommit s q Finished = ⊤
MayCommit s q (Refused cause) = others s.shard q.touched ≡ []

alone_commit : (A : TxId → ℕ → Type 0) (s : Shard) (l : Local) (tx u : TxId) (q : Request) (st : RequestState) → (committed_in l.log u ≡ true → (committed_in s.local.log u ≡ true) ⊎ (u ≡ tx)) → (u ≡ tx → MayCommit s q st)
    → Alone A s u q st → Alone A (record s { local = l }) u q st
alone_commit A s l tx u q Undecided k m p = (p.0, λ c. ⊎_elim (λ a. p.1 a) (λ e. m e) (k c))
alone_commit A s l tx u q (Committed parts) k m p = tt
alone_commit A s l tx u q Finished k m p = tt
alone_commit A s l tx u q (Refused cause) k m p = (p.0, λ c. ⊎_elim (λ a. p.1 a) (λ e. m e) (k c))

pub homed_commit : (run : ℕ) (A Z : TxId → ℕ → Type 0) (K : ℕ → TxId → Type 0) (D : TxId → Type 0) (s : Shard) (l : Local) (tx : TxId) (parts : List ℕ) → l.log ≡ s.local.log ++ Commit tx parts ∷ []
    → (tx.run ≡ run → A tx s.shard ⊎ Known A K tx) → ((q : Request) → tx_get tx s.requests ≡ Some q → tx.run ≡ run → MayCommit s q q.state)
    → (tx.run ≡ run → Z tx s.shard → Dead s tx → ⊥) → Homed run A Z K D s → Homed run A Z K D (record s { local = l })
homed_commit run A Z K D s l tx parts e a m z p =
    let t = record s { local = l } in
    let c : (u : TxId) → committed_in l.log u ≡ true → (committed_in s.local.log u ≡ true) ⊎ (u ≡ tx) = λ u h. new_commit s.local.log tx parts u (subst (λ x. committed_in x u ≡ true) e h) in
    record {
      log = λ u h r. ⊎_elim (λ b. p.log u b r) (λ q. subst (λ v. A v s.shard ⊎ Known A K v) (sym q) (a (subst (λ v. v.run ≡ run) q r))) (c u h);
      prepares = λ u q h r. p.prepares u q (plain_more s.local.log (Commit tx parts ∷ []) ((λ v. refl), tt) u q (subst (λ x. prepare_of x u ≡ Some q) e h)) r;
      voters = p.voters;
      requests = λ u q g r.
          alone_commit A s l tx u q q.state (c u) (λ f. m q (subst (λ v. tx_get v s.requests ≡ Some q) f g) (subst (λ v. v.run ≡ run) f r)) (p.requests u q g r);
      rows = p.rows;
      words = words_on run A Z K D s t refl refl
          (λ u r y d. (
            false_from_ne_true (committed_in l.log u)
                (λ h. ⊎_elim (λ b. both_ways _ d.0 b) (λ q. z (subst (λ v. v.run ≡ run) q r) (subst (λ v. Z v s.shard) q y) (subst (Dead s) q d)) (c u h)),
            d.1,
          )) p.words;
    }

-- messages are put into the outbox
pub homed_send : (run : ℕ) (A Z : TxId → ℕ → Type 0) (K : ℕ → TxId → Type 0) (D : TxId → Type 0) (s : Shard) (ms : List Message) → AllByRecursion (Tells run A Z K s) ms → Homed run A Z K D s → Homed run A Z K D (send ms s)
homed_send run A Z K D s ms a p = record {
  log = p.log;
  prepares = p.prepares;
  voters = p.voters;
  requests = p.requests;
  rows = p.rows;
  words = record { out = tells_on run A Z K s (send ms s) refl (λ tx r z d. d) (s.outbox ++ ms) (all_append _ s.outbox ms (p.words).out a); dead = (p.words).dead };
}

-- a request that stands open is changed
pub open_set : (tx u : TxId) (w : Request) (s : Shard) → stands_open (tx_get tx s.requests) ≡ true → stands_open (tx_get u s.requests) ≡ false → stands_open (tx_get u (tx_set tx w s.requests)) ≡ false
open_set tx u w s o n = at (tx_get u (tx_set tx w s.requests)) refl
  where
    at : (x : Option Request) → tx_get u (tx_set tx w s.requests) ≡ x → stands_open x ≡ false
    at None e = refl
    at (Some q) e =
        ⊎_elim (λ a. absurd (both_ways _ (subst (λ v. stands_open (tx_get v s.requests) ≡ false) a.0 n) o))
        (λ b. subst (λ x. stands_open x ≡ false) b.1 n)
        (get_set tx u w q s.requests e)

opens_of : (A : TxId → ℕ → Type 0) (s : Shard) (tx : TxId) (q : Request) (st : RequestState) → Alone A s tx q st → Opens A s.shard tx st
opens_of A s tx q Undecided p = p.0
opens_of A s tx q (Committed parts) p = tt
opens_of A s tx q Finished p = tt
opens_of A s tx q (Refused cause) p = tt

pub homed_set : (run : ℕ) (A Z : TxId → ℕ → Type 0) (K : ℕ → TxId → Type 0) (D : TxId → Type 0) (s : Shard) (tx : TxId) (w : Request) → stands_open (tx_get tx s.requests) ≡ true → (tx.run ≡ run → Alone A s tx w w.state) → Homed run A Z K D s
    → Homed run A Z K D (record s { requests = tx_set tx w s.requests })
homed_set run A Z K D s tx w o k p =
    let t = record s { requests = tx_set tx w s.requests } in
    record {
      log = p.log;
      prepares = p.prepares;
      voters = p.voters;
      requests = λ u q g r.
          ⊎_elim
          (λ a. subst (λ x. Alone A s u x x.state) (sym a.1) (subst (λ v. Alone A s v w w.state) (sym a.0) (k (subst (λ v. v.run ≡ run) a.0 r))))
          (λ b. p.requests u q b.1 r)
          (get_set tx u w q s.requests g);
      rows = rows_set (λ r. (r.0).run ≡ run → Opens A s.shard r.0 (r.1).state) tx w s.requests (λ r. opens_of A s tx w w.state (k r)) p.rows;
      words = words_on run A Z K D s t refl refl (λ u r z d. (d.0, open_set tx u w s o d.1)) p.words;
    }

-- ---- rulings

-- what a ruling says of its request
data RulingIs (tx : TxId) (q : Request) (s : Shard) : Option Ruling → Type 0 where
  none : RulingIs tx q s None
  commit : {parts : List ℕ} → q.state ≡ Undecided → RulingIs tx q s (Some (CommitVerdict parts))
  acknowledge : q.state ≡ Undecided → RulingIs tx q s (Some Acknowledge)
  abort : {cause : AbortCause} → q.state ≡ Undecided → RulingIs tx q s (Some (AbortVerdict cause (open_shards s.shard q)))
  end : (parts : List ℕ) → q.state ≡ Committed parts → RulingIs tx q s (Some EndVerdict)

agreed : (tx : TxId) (q : Request) (s : Shard) (f : PartFacts) (u : Bool) (ys : List ℕ) → q.state ≡ Undecided → RulingIs tx q s (agreed_ruling f u ys)
agreed tx q s f u (y ∷ ys) e = commit e
agreed tx q s f true [] e = commit e
agreed tx q s f false [] e = at (has_durable_predecessors f)
  where
    at : (b : Bool) → RulingIs tx q s (cond b (Some Acknowledge) None)
    at true = acknowledge e
    at false = none

refused : (tx : TxId) (q : Request) (s : Shard) (o : Option AbortCause) → q.state ≡ Undecided → RulingIs tx q s (refused_ruling s.shard q o)
refused tx q s None e = none
refused tx q s (Some c) e = abort e

ended : (tx : TxId) (q : Request) (s : Shard) (parts ps : List ℕ) → q.state ≡ Committed parts → RulingIs tx q s (end_ruling q ps)
ended tx q s parts [] e = none
ended tx q s parts (p ∷ ps) e = at _
  where
    at : (b : Bool) → RulingIs tx q s (cond b (Some EndVerdict) None)
    at true = end parts e
    at false = none

undecided : (tx : TxId) (q : Request) (s : Shard) (f : PartFacts) (b : Bool) → q.state ≡ Undecided → RulingIs tx q s (undecided_ruling s.shard tx q f b)
undecided tx q s f true e = agreed tx q s f f.updates (yes_shards s.shard q) e
undecided tx q s f false e = refused tx q s (refusal tx q f) e

ruled : (tx : TxId) (q : Request) (s : Shard) (f : PartFacts) (st : RequestState) → q.state ≡ st → RulingIs tx q s (ruling_in s.shard tx q f st)
ruled tx q s f Undecided e = undecided tx q s f (is_agreed s.shard q f) e
ruled tx q s f (Committed parts) e = ended tx q s parts parts e
ruled tx q s f Finished e = none
ruled tx q s f (Refused c) e = none

open_of : (o : Option Request) (q : Request) (st : RequestState) → o ≡ Some q → q.state ≡ st → stands_open (Some q) ≡ true → stands_open o ≡ true
open_of o q st g e h = subst (λ x. stands_open x ≡ true) (sym g) h

pub open_undecided : (q : Request) → q.state ≡ Undecided → stands_open (Some q) ≡ true
open_undecided q e = subst (λ st. elim st [ Undecided ↦ true | Committed parts ↦ true | Finished ↦ false | Refused cause ↦ false ] ≡ true) (sym e) refl

pub open_committed : (q : Request) (parts : List ℕ) → q.state ≡ Committed parts → stands_open (Some q) ≡ true
open_committed q parts e = subst (λ st. elim st [ Undecided ↦ true | Committed ps ↦ true | Finished ↦ false | Refused cause ↦ false ] ≡ true) (sym e) refl

-- who is there is there after a change
there_case : (tx : TxId) (q w : Request) (r : TxId × Request) (rs : List (TxId × Request)) (b : Bool) → tx_same tx r.0 ≡ b → cond b (Some r.1) (tx_get tx rs) ≡ Some q → tx_get tx (cond b ((r.0, w) ∷ rs) (r ∷ tx_set tx w rs)) ≡ None
    → (tx_get tx rs ≡ Some q → tx_get tx (tx_set tx w rs) ≡ None → ⊥) → ⊥
there_case tx q w r rs true e g f k = none_some w (sym (subst (λ b. cond b (Some w) (tx_get tx rs) ≡ None) e f))
there_case tx q w r rs false e g f k = k g (subst (λ b. cond b (Some r.1) (tx_get tx (tx_set tx w rs)) ≡ None) e f)

pub set_there : (tx : TxId) (q w : Request) (rs : List (TxId × Request)) → tx_get tx rs ≡ Some q → tx_get tx (tx_set tx w rs) ≡ None → ⊥
set_there tx q w [] g f = none_some q g
set_there tx q w (r ∷ rs) g f = there_case tx q w r rs (tx_same tx r.0) refl g f (set_there tx q w rs)

-- after a set the request that is got is the new one
got_set : (s : Shard) (tx : TxId) (w q : Request) → tx_get tx (tx_set tx w s.requests) ≡ Some q → q ≡ w
got_set s tx w q g = ⊎_elim (λ a. a.1) (λ b. absurd (b.0 refl)) (get_set tx tx w q s.requests g)

none_open : (shard : ℕ) (q : Request) → others shard q.touched ≡ [] → open_shards shard q ≡ []
none_open shard q e = ap (filter (λ p. is_open (vote_from p q.votes))) e

-- word of an abort goes only to other shards, and then there is no COMMIT here
abort_words : (run : ℕ) (A Z : TxId → ℕ → Type 0) (K : ℕ → TxId → Type 0) (D : TxId → Type 0) (s t : Shard) (tx : TxId) (os ps : List ℕ) → t.shard ≡ s.shard → (os ≡ [] → ps ≡ [])
    → (tx.run ≡ run → Z tx t.shard) → (tx.run ≡ run → (os ≡ [] → ⊥) → Dead t tx) → AllByRecursion (Tells run A Z K t) (map (λ n. Decide n tx t.shard false) ps)
abort_words run A Z K D s t tx [] ps e n z d = subst (λ l. AllByRecursion (Tells run A Z K t) (map (λ m. Decide m tx t.shard false) l)) (sym (n refl)) tt
abort_words run A Z K D s t tx (o ∷ os) ps e n z d = all_map _ (λ m. Decide m tx t.shard false) ps (λ m r. (refl, z r, d r (λ q. absurd cc)))

homed_ruling : (run : ℕ) (A : TxId → ℕ → Type 0) (K : ℕ → TxId → Type 0) (D : TxId → Type 0) (s : Shard) (tx : TxId) (q : Request) (r : Ruling) → tx_get tx s.requests ≡ Some q → RulingIs tx q s (Some r) → Homed run A A K D s
    → Homed run A A K D (do_ruling tx r (with_ruling tx q r s))
homed_ruling run A K D s tx q (CommitVerdict parts) g (commit e) p =
    let w = ruled_request (CommitVerdict parts) q in
    let t = with_ruling tx q (CommitVerdict parts) s in
    let o = open_of (tx_get tx s.requests) q Undecided g e (open_undecided q e) in
    let p1 = homed_set run A A K D s tx w o (λ r. tt) p in
    let a : tx.run ≡ run → Alone A s tx q Undecided = λ r. subst (Alone A s tx q) e (p.requests tx q g r) in
    homed_commit run A A K D t _ tx parts refl (λ r. inl (a r).0)
    (λ x f r. subst (λ z. MayCommit t z z.state) (sym (got_set s tx w x f)) tt)
    (λ r z d. at (tx_get tx (tx_set tx w s.requests)) refl d.1) p1
  where
    at : (x : Option Request) → tx_get tx (tx_set tx (ruled_request (CommitVerdict parts) q) s.requests) ≡ x → stands_open x ≡ false → ⊥
    at None f d = set_there tx q (ruled_request (CommitVerdict parts) q) s.requests g f
    at (Some x) f d = both_ways _ (subst (λ z. stands_open (Some z) ≡ false) (got_set s tx (ruled_request (CommitVerdict parts) q) x f) d) refl
homed_ruling run A K D s tx q Acknowledge g (acknowledge e) p =
    let p1 = homed_set run A A K D s tx (ruled_request Acknowledge q) (open_of (tx_get tx s.requests) q Undecided g e (open_undecided q e)) (λ r. tt) p in
    homed_same run A A K D (with_ruling tx q Acknowledge s) _ refl p1
homed_ruling run A K D s tx q (AbortVerdict cause _) g (abort e) p =
    let w = ruled_request (AbortVerdict cause (open_shards s.shard q)) q in
    let a : tx.run ≡ run → Alone A s tx q Undecided = λ r. subst (Alone A s tx q) e (p.requests tx q g r) in
    let p1 = homed_set run A A K D s tx w (open_of (tx_get tx s.requests) q Undecided g e (open_undecided q e)) a p in
    let u = with_ruling tx q (AbortVerdict cause (open_shards s.shard q)) s in
    let p2 = homed_log run A A K D u _ (rolled tx s.local) (rolled_prepares tx s.local) p1 in
    let v = with_local (roll_back tx) u in
    homed_send run A A K D v _
    (abort_words run A A K D s v tx (others s.shard q.touched) (open_shards s.shard q) refl (none_open s.shard q) (λ r. (a r).0)
    (λ r n. (false_from_ne_true _ (λ c. n ((a r).1 (rolled tx s.local tx c))), over (tx_get tx (tx_set tx w s.requests)) refl))) p2
  where
    over : (x : Option Request) → tx_get tx (tx_set tx (ruled_request (AbortVerdict cause (open_shards s.shard q)) q) s.requests) ≡ x → stands_open x ≡ false
    over None f = refl
    over (Some x) f = subst (λ z. stands_open (Some z) ≡ false) (sym (got_set s tx (ruled_request (AbortVerdict cause (open_shards s.shard q)) q) x f)) refl
homed_ruling run A K D s tx q EndVerdict g (end parts e) p =
    let w = ruled_request EndVerdict q in
    let p1 = homed_set run A A K D s tx w (open_of (tx_get tx s.requests) q (Committed parts) g e (open_committed q parts e)) (λ r. subst (Alone A s tx w) (sym e) tt) p in
    homed_log run A A K D (with_ruling tx q EndVerdict s) _ (with_more s.local.log (End tx ∷ []) ((λ t. refl), tt)) (plain_more s.local.log (End tx ∷ []) ((λ t. refl), tt)) p1

-- ---- what is due. What is durable now is known to be

commit_known : (run : ℕ) (A : TxId → ℕ → Type 0) (K : ℕ → TxId → Type 0) (D : TxId → Type 0) (s : Shard) (tx : TxId) (st : RequestState) → (tx.run ≡ run → Known A K tx)
    → AllByRecursion (Tells run A A K s) (elim st [ Committed parts ↦ map (λ p. Decide p tx s.shard true) parts | Undecided ↦ [] | Finished ↦ [] | Refused cause ↦ [] ])
commit_known run A K D s tx Undecided k = tt
commit_known run A K D s tx (Committed parts) k = all_map _ (λ p. Decide p tx s.shard true) parts (λ p. k)
commit_known run A K D s tx Finished k = tt
commit_known run A K D s tx (Refused cause) k = tt

commit_told : (run : ℕ) (A : TxId → ℕ → Type 0) (K : ℕ → TxId → Type 0) (D : TxId → Type 0) (s : Shard) (tx : TxId) (o : Option Request) (v : Option Voter) → (tx.run ≡ run → Known A K tx) → AllByRecursion (Tells run A A K s) (commit_messages s tx o v)
commit_told run A K D s tx (Some q) v k = commit_known run A K D s tx q.state k
commit_told run A K D s tx None (Some v) k = (tt, tt)
commit_told run A K D s tx None None k = tt

-- at home or elsewhere
pub durable_known : (run : ℕ) (A Z : TxId → ℕ → Type 0) (K : ℕ → TxId → Type 0) (D : TxId → Type 0) (s : Shard) (tx : TxId) → ((u : TxId) → commit_durable s.local.log s.durable u ≡ true → (committed_in s.local.log u ≡ true) × K s.shard u)
    → has_durable_commit (facts_of s tx) ≡ true → Homed run A Z K D s → tx.run ≡ run → Known A K tx
durable_known run A Z K D s tx now d p r = let c = now tx d in ⊎_elim (λ a. (s.shard, a, c.1)) (λ k. k) (p.log tx c.0 r)

homed_reader : (run : ℕ) (A : TxId → ℕ → Type 0) (K : ℕ → TxId → Type 0) (D : TxId → Type 0) (s : Shard) (tx : TxId) (vote : Vote) → Homed run A A K D s → Homed run A A K D (finish_reader tx vote s)
homed_reader run A K D s tx Yes p = p
homed_reader run A K D s tx Read p = homed_same run A A K D s _ refl p
homed_reader run A K D s tx (No why) p = p

homed_vote : (run : ℕ) (A : TxId → ℕ → Type 0) (K : ℕ → TxId → Type 0) (D : TxId → Type 0) (s : Shard) (tx : TxId) (v : Voter) (vote : Vote) → tx_get tx s.voters ≡ Some v → Homed run A A K D s → Homed run A A K D (with_vote s tx v vote)
homed_vote run A K D s tx v vote g p = record {
  log = p.log;
  prepares = p.prepares;
  voters = rows_set (λ r. (r.0).run ≡ run → A r.0 (r.1).home) tx (voted vote v) s.voters (rows_get (λ r. (r.0).run ≡ run → A r.0 (r.1).home) tx v s.voters p.voters g) p.voters;
  requests = p.requests;
  rows = p.rows;
  words = record {
    out = all_append _ s.outbox (VoteMessage v.home tx s.shard vote ∷ []) (tells_on run A A K s (with_vote s tx v vote) refl (λ u r z d. d) s.outbox (p.words).out) (tt, tt);
    dead = (p.words).dead;
  };
}

-- what holds within an entry that began with this state
pub record Within (run : ℕ) (A : TxId → ℕ → Type 0) (K : ℕ → TxId → Type 0) (D : TxId → Type 0) (s0 s : Shard) : Type 0 where
  pub inside : Inside s0 s
  pub homed : Homed run A A K D s

-- the state that it began with has its durable records, and whose COMMITs they are is known
pub record Starts (K : ℕ → TxId → Type 0) (s0 : Shard) : Type 0 where
  pub counted : s0.durable ≤ length s0.local.log
  pub now : (tx : TxId) → commit_durable s0.local.log s0.durable tx ≡ true → K s0.shard tx

pub now_at : (K : ℕ → TxId → Type 0) (s0 s : Shard) → Starts K s0 → Inside s0 s → (u : TxId) → commit_durable s.local.log s.durable u ≡ true → (committed_in s.local.log u ≡ true) × K s.shard u
now_at K s0 s b i u d = (durable_committed s.local.log s.durable u d, subst (λ n. K n u) (sym i.shard) (b.now u (durable_before s0 s u i b.counted d)))

homed_due : (run : ℕ) (A : TxId → ℕ → Type 0) (K : ℕ → TxId → Type 0) (D : TxId → Type 0) (s0 : Shard) → Starts K s0 → KeptByDue (Within run A K D s0)
homed_due run A K D s0 b s t d p = record { inside = inside_due s0 s t d p.inside; homed = at t d }
  where
    at : (t : Shard) → Due s (Some t) → Homed run A A K D t
    at _ (commits tx c d) =
        let u = send (commit_messages s tx (tx_get tx s.requests) (tx_get tx s.voters)) s in
        homed_same run A A K D u (release_parts (tx ∷ []) None s.local) refl
        (homed_send run A A K D s (commit_messages s tx (tx_get tx s.requests) (tx_get tx s.voters))
        (commit_told run A K D s tx (tx_get tx s.requests) (tx_get tx s.voters) (durable_known run A A K D s tx (now_at K s0 s b p.inside) d p.homed)) p.homed)
    at _ (votes tx v vote g e) = homed_reader run A K D (with_vote s tx v vote) tx vote (homed_vote run A K D s tx v vote g p.homed)
    at _ (rules tx q r g e) = homed_ruling run A K D s tx q r g (subst (RulingIs tx q s) e (ruled tx q s (facts_of s tx) q.state refl)) p.homed

pub homed_finish : (run : ℕ) (A : TxId → ℕ → Type 0) (K : ℕ → TxId → Type 0) (D : TxId → Type 0) (s0 s : Shard) → Starts K s0 → Within run A K D s0 s → Homed run A A K D (finish s)
homed_finish run A K D s0 s b p =
    homed_same run A A K D (with_due_done s) (purge (with_due_done s).local) refl (settled (Within run A K D s0) s (homed_due run A K D s0 b) p).homed
