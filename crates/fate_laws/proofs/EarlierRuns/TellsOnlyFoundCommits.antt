-- What a shard has and tells of transactions that are not of this run: a commit only of those whose COMMIT was found at opening, an abort of
-- none of those. And what is due keeps it.
use Rattle.std.proofs.Common.{◌≡◌, ◌⊎◌, inl, ⊎_elim, refl, sym, subst, ℕ, true, false, List, [], ◌∷◌, ◌++◌, map, Option, Some, None}
use Rattle.std.specs.List.{AllByRecursion}
use Rattle.std.specs.Prelude.{⊤}
use Rattle.clv_base.specs.declared.names.TxId.{TxId}
use Rattle.clv_base.specs.declared.causes.Vote.{Vote}
use Rattle.clv_base.specs.declared.causes.Vote.TheVariants.{Yes, Read, No}
use Rattle.clv_base.specs.declared.logs.LogRecord.TheVariants.{Prepare as PrepareRecord, Commit, End}
use Rattle.clv_base.specs.declared.messages.Message.{Message}
use Rattle.clv_base.specs.declared.messages.Message.TheVariants.{Prepare, Vote as VoteMessage, Decide, Done, Ask}
use Rattle.clv_base.specs.declared.state.Voter.{Voter}
use Rattle.clv_base.specs.declared.state.Request.{Request}
use Rattle.clv_base.specs.declared.state.RequestState.{RequestState}
use Rattle.clv_base.specs.declared.state.RequestState.TheVariants.{Undecided, Committed, Finished, Refused}
use Rattle.clv_base.specs.declared.state.Ruling.{Ruling}
use Rattle.clv_base.specs.declared.state.Ruling.TheVariants.{Commit as CommitVerdict, Acknowledge, Abort as AbortVerdict, End as EndVerdict}
use Rattle.clv_base.specs.Orders.{tx_get, tx_set}
use Rattle.clv_base.specs.Logs.{committed_in, prepare_of}
use Rattle.clv_base.specs.State.{Shard, Local}
use Rattle.clv_base.specs.Undo.{roll_back, release_parts}
use Rattle.clv_base.specs.Facts.{facts_of, has_durable_commit}
use Rattle.clv_base.specs.Participant.{voted}
use Rattle.clv_base.specs.Coordinator.{ruling_by, ruled_request}
use Rattle.clv_base.specs.OneShard.{purge}
use Rattle.clv_base.specs.Due.{send, commit_messages, with_vote, finish_reader, with_ruling, do_ruling, with_due_done}
use Rattle.clv_base.specs.Events.{finish}
use Rattle.law_base.proofs.Commits.{durable_committed}
use Rattle.law_base.proofs.Rows.{rows_get, rows_set}
use Rattle.law_base.proofs.Lists.{all_append}
use Rattle.history_cases.proofs.Stepping.{commits, votes, rules, KeptByDue, settled}
use Rattle.history_cases.proofs.Telling.{all_map}
use Rattle.history_cases.proofs.Uncommitting.{NoMoreCommits, rolled as rolled_commits, with_more}
use Rattle.fate_laws.proofs.Logs.WhatAddsNoPrepare.{NoMorePrepares, prepare_new, plain_more, rolled as rolled_prepares}
use Rattle.fate_laws.proofs.Parts.CommittedAreVotedFor.{commit_agreed, abort_undecided}
use Rattle.fate_laws.proofs.Homes.ShardKnowsHomes.{new_commit}

-- ---- what is known. R: who is of this run; O: whose COMMIT was found at opening; H: on which shard

-- it may have a COMMIT
abbrev pub MayHave : (R O : TxId → Type 0) → TxId → Type 0
MayHave R O tx = R tx ⊎ O tx

-- the shard may be asked how it was decided: if its COMMIT was found, then there
abbrev pub MayAnswer : (R O : TxId → Type 0) → (ℕ → TxId → Type 0) → TxId → ℕ → Type 0
MayAnswer R O H tx n = R tx ⊎ (O tx → H n tx)

abbrev pub Tells : (R O : TxId → Type 0) → (ℕ → TxId → Type 0) → Message → Type 0
Tells R O H (Prepare to tx home seen) = R tx
Tells R O H (VoteMessage to tx from vote) = ⊤
Tells R O H (Decide to tx home true) = MayHave R O tx
Tells R O H (Decide to tx home false) = R tx ⊎ (O tx → ⊥)
Tells R O H (Done to tx from) = ⊤
Tells R O H (Ask to tx from) = MayAnswer R O H tx to

-- a request that is undecided
abbrev pub Opens : (TxId → Type 0) → TxId → RequestState → Type 0
Opens R tx Undecided = R tx
Opens R tx (Committed parts) = ⊤
Opens R tx Finished = ⊤
Opens R tx (Refused cause) = ⊤

pub record Elder (R O : TxId → Type 0) (H : ℕ → TxId → Type 0) (s : Shard) : Type 0 where
  pub log : (tx : TxId) → committed_in s.local.log tx ≡ true → MayHave R O tx
  pub prepares : (tx : TxId) (p : ℕ × List TxId) → prepare_of s.local.log tx ≡ Some p → MayAnswer R O H tx p.0
  pub voters : AllByRecursion (λ r. MayAnswer R O H r.0 (r.1).home) s.voters
  pub rows : AllByRecursion (λ r. Opens R r.0 (r.1).state) s.requests
  pub out : AllByRecursion (Tells R O H) s.outbox

-- ---- changes

module _ (R O : TxId → Type 0) (H : ℕ → TxId → Type 0) where
  -- the log has no COMMITs and no PREPAREs but those that it had
  pub elder_log : (s : Shard) (l : Local) → NoMoreCommits s.local.log l.log → NoMorePrepares s.local.log l.log → Elder R O H s → Elder R O H (record s { local = l })
  elder_log s l c f p = record { log = λ tx h. p.log tx (c tx h); prepares = λ tx q h. p.prepares tx q (f tx q h); voters = p.voters; rows = p.rows; out = p.out }

  pub elder_same : (s : Shard) (l : Local) → l.log ≡ s.local.log → Elder R O H s → Elder R O H (record s { local = l })
  elder_same s l e p = elder_log s l (λ t h. subst (λ x. committed_in x t ≡ true) e h) (λ t q h. subst (λ x. prepare_of x t ≡ Some q) e h) p

  -- a COMMIT is written, or a PREPARE
  pub elder_commit : (s : Shard) (l : Local) (tx : TxId) (parts : List ℕ) → l.log ≡ s.local.log ++ Commit tx parts ∷ [] → MayHave R O tx → Elder R O H s → Elder R O H (record s { local = l })
  elder_commit s l tx parts e a p = record {
    log = λ u h. ⊎_elim (λ b. p.log u b) (λ q. subst (MayHave R O) (sym q) a) (new_commit s.local.log tx parts u (subst (λ x. committed_in x u ≡ true) e h));
    prepares = λ u q h. p.prepares u q (plain_more s.local.log (Commit tx parts ∷ []) ((λ v. refl), tt) u q (subst (λ x. prepare_of x u ≡ Some q) e h));
    voters = p.voters;
    rows = p.rows;
    out = p.out;
  }

  pub elder_prepare : (s : Shard) (l : Local) (tx : TxId) (home : ℕ) (us : List TxId) → l.log ≡ s.local.log ++ PrepareRecord tx home us ∷ [] → R tx → Elder R O H s → Elder R O H (record s { local = l })
  elder_prepare s l tx home us e a p = record {
    log = λ u h. p.log u (with_more s.local.log (PrepareRecord tx home us ∷ []) ((λ t. refl), tt) u (subst (λ x. committed_in x u ≡ true) e h));
    prepares = λ u q h. ⊎_elim (λ b. p.prepares u q b) (λ b. inl (subst R (sym b.0) a)) (prepare_new s.local.log tx home us u q (subst (λ x. prepare_of x u ≡ Some q) e h));
    voters = p.voters;
    rows = p.rows;
    out = p.out;
  }

  -- messages are put into the outbox
  pub elder_send : (s : Shard) (ms : List Message) → AllByRecursion (Tells R O H) ms → Elder R O H s → Elder R O H (send ms s)
  elder_send s ms a p = record { log = p.log; prepares = p.prepares; voters = p.voters; rows = p.rows; out = all_append (Tells R O H) s.outbox ms p.out a }

  -- a request that stands is changed
  pub elder_set : (s : Shard) (tx : TxId) (w : Request) → Opens R tx w.state → Elder R O H s → Elder R O H (record s { requests = tx_set tx w s.requests })
  elder_set s tx w k p = record { log = p.log; prepares = p.prepares; voters = p.voters; rows = rows_set (λ r. Opens R r.0 (r.1).state) tx w s.requests k p.rows; out = p.out }

  pub opens_at : (s : Shard) (tx : TxId) (q : Request) → tx_get tx s.requests ≡ Some q → Elder R O H s → Opens R tx q.state
  opens_at s tx q g p = rows_get (λ r. Opens R r.0 (r.1).state) tx q s.requests p.rows g

  -- ---- what is due

  committed_told : (s : Shard) (tx : TxId) (st : RequestState) → MayHave R O tx
      → AllByRecursion (Tells R O H) (elim st [ Committed parts ↦ map (λ p. Decide p tx s.shard true) parts | Undecided ↦ [] | Finished ↦ [] | Refused cause ↦ [] ])
  committed_told s tx Undecided k = tt
  committed_told s tx (Committed parts) k = all_map (Tells R O H) (λ p. Decide p tx s.shard true) parts (λ p. k)
  committed_told s tx Finished k = tt
  committed_told s tx (Refused cause) k = tt

  commit_told : (s : Shard) (tx : TxId) (o : Option Request) (v : Option Voter) → MayHave R O tx → AllByRecursion (Tells R O H) (commit_messages s tx o v)
  commit_told s tx (Some q) v k = committed_told s tx q.state k
  commit_told s tx None (Some v) k = (tt, tt)
  commit_told s tx None None k = tt

  elder_reader : (s : Shard) (tx : TxId) (vote : Vote) → Elder R O H s → Elder R O H (finish_reader tx vote s)
  elder_reader s tx Yes p = p
  elder_reader s tx Read p = elder_same s (release_parts (tx ∷ []) None s.local) refl p
  elder_reader s tx (No why) p = p

  elder_vote : (s : Shard) (tx : TxId) (v : Voter) (vote : Vote) → tx_get tx s.voters ≡ Some v → Elder R O H s → Elder R O H (with_vote s tx v vote)
  elder_vote s tx v vote g p = record {
    log = p.log;
    prepares = p.prepares;
    voters = rows_set (λ r. MayAnswer R O H r.0 (r.1).home) tx (voted vote v) s.voters (rows_get (λ r. MayAnswer R O H r.0 (r.1).home) tx v s.voters p.voters g) p.voters;
    rows = p.rows;
    out = all_append (Tells R O H) s.outbox (VoteMessage v.home tx s.shard vote ∷ []) p.out (tt, tt);
  }

  elder_ruling : (s : Shard) (tx : TxId) (q : Request) (r : Ruling) → tx_get tx s.requests ≡ Some q → ruling_by s.shard tx q (facts_of s tx) ≡ Some r → Elder R O H s → Elder R O H (do_ruling tx r (with_ruling tx q r s))
  elder_ruling s tx q (CommitVerdict parts) g e p =
      let a : R tx = subst (Opens R tx) (commit_agreed s.shard tx q (facts_of s tx) parts e).0 (opens_at s tx q g p) in
      elder_commit (with_ruling tx q (CommitVerdict parts) s) _ tx parts refl (inl a) (elder_set s tx (ruled_request (CommitVerdict parts) q) tt p)
  elder_ruling s tx q Acknowledge g e p =
      elder_same (with_ruling tx q Acknowledge s) (release_parts (tx ∷ []) None s.local) refl (elder_set s tx (ruled_request Acknowledge q) tt p)
  elder_ruling s tx q (AbortVerdict cause to) g e p =
      let a : R tx = subst (Opens R tx) (abort_undecided s.shard tx q (facts_of s tx) cause to e) (opens_at s tx q g p) in
      let u = with_ruling tx q (AbortVerdict cause to) s in
      let v = record u { local = roll_back tx s.local } in
      elder_send v (map (λ n. Decide n tx s.shard false) to) (all_map (Tells R O H) (λ n. Decide n tx s.shard false) to (λ n. inl a))
      (elder_log u (roll_back tx s.local) (rolled_commits tx s.local) (rolled_prepares tx s.local) (elder_set s tx (ruled_request (AbortVerdict cause to) q) tt p))
  elder_ruling s tx q EndVerdict g e p =
      elder_log (with_ruling tx q EndVerdict s) _ (with_more s.local.log (End tx ∷ []) ((λ t. refl), tt)) (plain_more s.local.log (End tx ∷ []) ((λ t. refl), tt)) (elder_set s tx (ruled_request EndVerdict q) (opens_at s tx q g p) p)

  -- whose COMMIT is durable may have one
  pub elder_durable : (s : Shard) (tx : TxId) → has_durable_commit (facts_of s tx) ≡ true → Elder R O H s → MayHave R O tx
  elder_durable s tx d p = p.log tx (durable_committed s.local.log s.durable tx d)

  elder_due : KeptByDue (Elder R O H)
  elder_due s _ (commits tx c d) p =
      let ms = commit_messages s tx (tx_get tx s.requests) (tx_get tx s.voters) in
      elder_same (send ms s) (release_parts (tx ∷ []) None s.local) refl (elder_send s ms (commit_told s tx (tx_get tx s.requests) (tx_get tx s.voters) (elder_durable s tx d p)) p)
  elder_due s _ (votes tx v vote g e) p = elder_reader (with_vote s tx v vote) tx vote (elder_vote s tx v vote g p)
  elder_due s _ (rules tx q r g e) p = elder_ruling s tx q r g e p

  pub elder_finish : (s : Shard) → Elder R O H s → Elder R O H (finish s)
  elder_finish s p = elder_same (with_due_done s) (purge (with_due_done s).local) refl (settled (Elder R O H) s elder_due p)
