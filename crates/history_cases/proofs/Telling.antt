-- What is told of a transaction tells what was: a Prepare comes of its request, a vote of a shard that was asked after the request, a
-- commit of the votes of all touched shards.
use Rattle.std.proofs.Common.{◌≡◌, ◌⊎◌, inl, inr, ⊎_elim, refl, sym, ap, subst, ◌∙◌, ℕ, ◌<◌, ◌≤◌, true, false, cond, Bool, List, [], ◌∷◌, ◌++◌, map, Option, Some, None, ◌&&◌, ◌==◌, arith, eqb-true}
use Rattle.std.specs.List.{AllByRecursion, list_all}
use Rattle.std.specs.Prelude.{⊤}
use Rattle.std.specs.BTreeMap.{insert_entry}
use Rattle.std.specs.Ordering.{nat_cmp, match_ordering, is_eq}
use Rattle.std.specs.declared.cmp.Ordering.{Ordering}
use Rattle.std.specs.declared.cmp.Ordering.TheVariants.{Less, Equal, Greater}
use Rattle.std.proofs.lemmas.Bool.{both_ways, and_parts, or_cases, eq-eqb}
use Rattle.clv_base.specs.declared.names.TxId.{TxId}
use Rattle.clv_base.specs.declared.logs.LogRecord.{LogRecord}
use Rattle.clv_base.specs.declared.logs.LogRecord.TheVariants.{Commit, End}
use Rattle.clv_base.specs.declared.causes.AbortCause.{AbortCause}
use Rattle.clv_base.specs.declared.causes.Vote.{Vote}
use Rattle.clv_base.specs.declared.causes.Vote.TheVariants.{Yes, Read, No}
use Rattle.clv_base.specs.declared.messages.Message.{Message}
use Rattle.clv_base.specs.declared.messages.Message.TheVariants.{Prepare, Vote as VoteMessage, Decide, Done, Ask}
use Rattle.clv_base.specs.declared.state.Ruling.{Ruling}
use Rattle.clv_base.specs.declared.state.Ruling.TheVariants.{Commit as CommitVerdict, Acknowledge, Abort as AbortVerdict, End as EndVerdict}
use Rattle.clv_base.specs.declared.state.Voter.{Voter}
use Rattle.clv_base.specs.declared.state.Request.{Request}
use Rattle.clv_base.specs.declared.state.RequestState.{RequestState}
use Rattle.clv_base.specs.declared.state.RequestState.TheVariants.{Undecided, Committed, Finished, Refused}
use Rattle.clv_base.specs.declared.parts.PartFacts.{PartFacts}
use Rattle.clv_base.specs.declared.events.Event.TheVariants.{Request as RequestEvent}
use Rattle.clv_base.specs.declared.events.Outcome.TheVariants.{Asked}
use Rattle.clv_base.specs.declared.events.Entry.{Entry}
use Rattle.clv_base.specs.Orders.{tx_same, tx_get, tx_set, nat_in}
use Rattle.clv_base.specs.Logs.{committed_in}
use Rattle.clv_base.specs.State.{Shard}
use Rattle.clv_base.specs.Facts.{facts_of, has_durable_commit, has_durable_predecessors, is_waiting}
use Rattle.clv_base.specs.Participant.{vote_owed, voted}
use Rattle.clv_base.specs.Coordinator.{others, vote_from, is_good, yes_shards, is_agreed, agreed_ruling, refused_ruling, refusal, end_ruling, undecided_ruling, ruling_in, ruled_request}
use Rattle.clv_base.specs.Due.{send, commit_messages, with_vote, finish_reader, with_ruling, do_ruling}
use Rattle.clv_base.specs.Events.{finish}
use Rattle.clv_base.specs.Journals.{History}
use Rattle.clv_base.proofs.SameNames.{tx_true, nat_cmp_true}
use Rattle.law_base.proofs.Changed.{none_some}
use Rattle.law_base.proofs.Rows.{rows_get, rows_set}
use Rattle.law_base.proofs.Commits.{durable_committed, committed_append}
use Rattle.law_base.proofs.Lists.{all_append}
use Rattle.history_cases.proofs.Stepping.{commits, votes, rules, KeptByDue, settled}
use Rattle.history_cases.proofs.Merging.{Placed, Among}
use Rattle.history_cases.proofs.Uncommitting.{rolled, with_more}

-- ---- what stands in a history

-- an entry is the transaction's request, which was taken
abbrev pub IsRequest : TxId → List (ℕ × ℕ) → Placed → Type 0
IsRequest tx ts r = ((r.1).event ≡ RequestEvent tx ts) × ((r.1).outcome ≡ Asked)

-- its request stands, with a stamp below this one
abbrev pub RequestedBelow : History → TxId → ℕ → Type 0
RequestedBelow h tx bound = (r : Placed) × (ts : List (ℕ × ℕ)) × Among r h × IsRequest tx ts r × ((r.1).stamp < bound)

-- the shard has an entry later than the request
abbrev pub AskedAfter : History → TxId → ℕ → Type 0
AskedAfter h tx m = (r : Placed) × (ts : List (ℕ × ℕ)) × (g : Entry) × Among r h × IsRequest tx ts r × Among (m, g) h × ((r.1).stamp < g.stamp)

-- each other shard that the request names has such an entry
abbrev pub Voted : History → TxId → Type 0
Voted h tx = (r : Placed) × (ts : List (ℕ × ℕ)) × Among r h × IsRequest tx ts r × ((m : ℕ) → nat_in m (others r.0 ts) ≡ true → AskedAfter h tx m)

-- what a message tells, of transactions of this run
abbrev pub Tells : History → ℕ → ℕ → Message → Type 0
Tells h run bound (Prepare to tx home seen) = RequestedBelow h tx bound
Tells h run bound (VoteMessage to tx from vote) = AskedAfter h tx from
Tells h run bound (Decide to tx home true) = tx.run ≡ run → Voted h tx
Tells h run bound (Decide to tx home false) = ⊤
Tells h run bound (Done to tx from) = ⊤
Tells h run bound (Ask to tx from) = ⊤

pub tells_later : (h : History) (run a b : ℕ) (m : Message) → a ≤ b → Tells h run a m → Tells h run b m
tells_later h run a b (Prepare to tx home seen) l (r, ts, i, q, k) = (r, ts, i, q, omega arith)
tells_later h run a b (VoteMessage to tx from vote) l t = t
tells_later h run a b (Decide to tx home true) l t = t
tells_later h run a b (Decide to tx home false) l t = tt
tells_later h run a b (Done to tx from) l t = tt
tells_later h run a b (Ask to tx from) l t = tt

-- ---- what a shard knows

-- a voter owes nothing and gave nothing, or its shard was asked after the request
abbrev pub VoterIs : History → ℕ → TxId → Voter → Type 0
VoterIs h shard tx v = ((v.owed ≡ 0) × (v.vote ≡ None)) ⊎ AskedAfter h tx shard

-- a request that is undecided stands in the history, and its votes are of shards that were asked; a finished one was voted on by all
abbrev pub RequestAt : History → ℕ → ℕ → TxId → List (ℕ × ℕ) → Type 0
RequestAt h shard bound tx ts = (r : Entry) × Among (shard, r) h × IsRequest tx ts (shard, r) × (r.stamp < bound)

abbrev pub VotesAre : History → TxId → List (ℕ × Vote) → Type 0
VotesAre h tx vs = AllByRecursion (λ r. AskedAfter h tx r.0) vs

abbrev pub RequestIs : History → ℕ → ℕ → ℕ → TxId → Request → RequestState → Type 0
RequestIs h shard run bound tx q Undecided = RequestAt h shard bound tx q.touched × VotesAre h tx q.votes
RequestIs h shard run bound tx q (Committed parts) = ⊤
RequestIs h shard run bound tx q Finished = Voted h tx
RequestIs h shard run bound tx q (Refused cause) = ⊤

pub record Told (h : History) (run bound : ℕ) (s : Shard) : Type 0 where
  pub out : AllByRecursion (Tells h run bound) s.outbox
  pub voters : AllByRecursion (λ r. VoterIs h s.shard r.0 r.1) s.voters
  pub requests : AllByRecursion (λ r. RequestIs h s.shard run bound r.0 r.1 (r.1).state) s.requests
  pub log : (tx : TxId) → committed_in s.local.log tx ≡ true → tx.run ≡ run → Voted h tx

pub all_map : {A B : Type 0} (P : B → Type 0) (f : A → B) (xs : List A) → ((x : A) → P (f x)) → AllByRecursion P (map f xs)
all_map P f [] k = tt
all_map P f (x ∷ xs) k = (k x, all_map P f xs k)

votes_case : (h : History) (tx : TxId) (p : ℕ) (v : Vote) (r : ℕ × Vote) (o : Option Vote) (b : Bool) → (p == r.0) ≡ b → AskedAfter h tx r.0 → cond b (Some r.1) o ≡ Some v → (o ≡ Some v → AskedAfter h tx p) → AskedAfter h tx p
votes_case h tx p v r o true e a g k = subst (AskedAfter h tx) (sym (eqb-true p r.0 e)) a
votes_case h tx p v r o false e a g k = k g

votes_get : (h : History) (tx : TxId) (vs : List (ℕ × Vote)) (p : ℕ) (v : Vote) → VotesAre h tx vs → vote_from p vs ≡ Some v → AskedAfter h tx p
votes_get h tx [] p v a g = absurd (none_some v g)
votes_get h tx (r ∷ rs) p v a g = votes_case h tx p v r (vote_from p rs) (p == r.0) refl a.0 g (votes_get h tx rs p v a.1)

put_case : (h : History) (tx : TxId) (o : Ordering) (p : ℕ) (v : Vote) (r : ℕ × Vote) (rs qs : List (ℕ × Vote)) → (o ≡ Equal → p ≡ r.0) → AskedAfter h tx p → AskedAfter h tx r.0 → VotesAre h tx rs → VotesAre h tx qs
    → VotesAre h tx (match_ordering o ((p, v) ∷ r ∷ rs) ((r.0, v) ∷ rs) (r ∷ qs))
put_case h tx Less p v r rs qs e a b c d = (a, (b, c))
put_case h tx Equal p v r rs qs e a b c d = (b, c)
put_case h tx Greater p v r rs qs e a b c d = (b, d)

pub votes_put : (h : History) (tx : TxId) (vs : List (ℕ × Vote)) (p : ℕ) (v : Vote) → AskedAfter h tx p → VotesAre h tx vs → VotesAre h tx (insert_entry nat_cmp vs p v)
votes_put h tx [] p v a k = (a, tt)
votes_put h tx (r ∷ rs) p v a k = put_case h tx (nat_cmp p r.0) p v r rs (insert_entry nat_cmp rs p v) (λ e. nat_cmp_true p r.0 (ap is_eq e)) a k.0 k.1 (votes_put h tx rs p v a k.1)

-- ---- changes of what a shard knows

-- its outbox grows by messages that tell what was
pub told_send : (h : History) (run bound : ℕ) (s : Shard) (ms : List Message) → AllByRecursion (Tells h run bound) ms → Told h run bound s → Told h run bound (send ms s)
told_send h run bound s ms a p = record { out = all_append _ s.outbox ms p.out a; voters = p.voters; requests = p.requests; log = p.log }

-- a request that is changed
pub request_set : (h : History) (run bound : ℕ) (s : Shard) (tx : TxId) (w : Request) → RequestIs h s.shard run bound tx w w.state → Told h run bound s
    → AllByRecursion (λ r. RequestIs h s.shard run bound r.0 r.1 (r.1).state) (tx_set tx w s.requests)
request_set h run bound s tx w k p = rows_set (λ r. RequestIs h s.shard run bound r.0 r.1 (r.1).state) tx w s.requests k p.requests

-- a COMMIT is written of one that was voted on by all
pub commit_more : (h : History) (run : ℕ) (log : List LogRecord) (tx : TxId) (parts : List ℕ) → (tx.run ≡ run → Voted h tx) → ((u : TxId) → committed_in log u ≡ true → u.run ≡ run → Voted h u)
    → (u : TxId) → committed_in (log ++ Commit tx parts ∷ []) u ≡ true → u.run ≡ run → Voted h u
commit_more h run log tx parts k p u c r =
    ⊎_elim (λ a. p u a r)
    (λ b. ⊎_elim (λ e. let same : u ≡ tx = tx_true u tx e in subst (Voted h) (sym same) (k (subst (λ z. z.run ≡ run) same r))) (λ e. absurd (both_ways false refl e)) (or_cases (tx_same u tx) false b))
    (or_cases (committed_in log u) (committed_in (Commit tx parts ∷ []) u) (sym (committed_append log (Commit tx parts ∷ []) u) ∙ c))

-- ---- rulings

-- where all others' votes are there and good, all were asked
good_some : (o : Option Vote) → is_good o ≡ true → (v : Vote) × (o ≡ Some v)
good_some None g = absurd (both_ways false refl g)
good_some (Some v) g = (v, refl)

all_good : (vs : List (ℕ × Vote)) (ps : List ℕ) (m : ℕ) → list_all (λ p. is_good (vote_from p vs)) ps ≡ true → nat_in m ps ≡ true → (v : Vote) × (vote_from m vs ≡ Some v)
all_good vs [] m g i = absurd (both_ways false refl i)
all_good vs (p ∷ ps) m g i =
    let a = and_parts (is_good (vote_from p vs)) (list_all (λ p. is_good (vote_from p vs)) ps) g in
    ⊎_elim (λ e. subst (λ z. (v : Vote) × (vote_from z vs ≡ Some v)) (sym (eqb-true m p e)) (good_some (vote_from p vs) a.0)) (λ n. all_good vs ps m a.1 n) (or_cases (m == p) (nat_in m ps) i)

agreed_voted : (h : History) (run bound : ℕ) (s : Shard) (tx : TxId) (q : Request) (f : PartFacts) → is_agreed s.shard q f ≡ true → RequestIs h s.shard run bound tx q Undecided → Voted h tx
agreed_voted h run bound s tx q f g (r, v) =
    let a = and_parts (is_waiting f && (f.undecided == 0)) (list_all (λ p. is_good (vote_from p q.votes)) (others s.shard q.touched)) g in
    ((s.shard, r.0), q.touched, r.1, r.2, (λ m i. let w = all_good q.votes (others s.shard q.touched) m a.1 i in votes_get h tx q.votes m w.0 v w.1))

-- what a ruling says of its request
data RulingIs (h : History) (run : ℕ) (tx : TxId) (q : Request) : Option Ruling → Type 0 where
  none : RulingIs h run tx q None
  commit : {parts : List ℕ} → Voted h tx → RulingIs h run tx q (Some (CommitVerdict parts))
  acknowledge : Voted h tx → RulingIs h run tx q (Some Acknowledge)
  abort : {cause : AbortCause} {to : List ℕ} → RulingIs h run tx q (Some (AbortVerdict cause to))
  end : RulingIs h run tx q (Some EndVerdict)

agreed : (h : History) (run : ℕ) (tx : TxId) (q : Request) (f : PartFacts) (u : Bool) (ys : List ℕ) → Voted h tx → RulingIs h run tx q (agreed_ruling f u ys)
agreed h run tx q f u (y ∷ ys) v = commit v
agreed h run tx q f true [] v = commit v
agreed h run tx q f false [] v = at (has_durable_predecessors f)
  where
    at : (b : Bool) → RulingIs h run tx q (cond b (Some Acknowledge) None)
    at true = acknowledge v
    at false = none

refused : (h : History) (run : ℕ) (shard : ℕ) (tx : TxId) (q : Request) (o : Option AbortCause) → RulingIs h run tx q (refused_ruling shard q o)
refused h run shard tx q None = none
refused h run shard tx q (Some c) = abort

ended : (h : History) (run : ℕ) (tx : TxId) (q : Request) (ps : List ℕ) → RulingIs h run tx q (end_ruling q ps)
ended h run tx q [] = none
ended h run tx q (p ∷ ps) = at _
  where
    at : (b : Bool) → RulingIs h run tx q (cond b (Some EndVerdict) None)
    at true = end
    at false = none

undecided : (h : History) (run bound : ℕ) (s : Shard) (tx : TxId) (q : Request) (f : PartFacts) (b : Bool) → is_agreed s.shard q f ≡ b → RequestIs h s.shard run bound tx q Undecided
    → RulingIs h run tx q (undecided_ruling s.shard tx q f b)
undecided h run bound s tx q f true e r = agreed h run tx q f f.updates (yes_shards s.shard q) (agreed_voted h run bound s tx q f e r)
undecided h run bound s tx q f false e r = refused h run s.shard tx q (refusal tx q f)

ruled : (h : History) (run bound : ℕ) (s : Shard) (tx : TxId) (q : Request) (f : PartFacts) (st : RequestState) → RequestIs h s.shard run bound tx q st → RulingIs h run tx q (ruling_in s.shard tx q f st)
ruled h run bound s tx q f Undecided r = undecided h run bound s tx q f (is_agreed s.shard q f) refl r
ruled h run bound s tx q f (Committed parts) r = ended h run tx q parts
ruled h run bound s tx q f Finished r = none
ruled h run bound s tx q f (Refused c) r = none

same_request : (h : History) (shard run bound : ℕ) (tx : TxId) (q : Request) (st : RequestState) → RequestIs h shard run bound tx q st → RequestIs h shard run bound tx (record q { is_ended = true }) st
same_request h shard run bound tx q Undecided r = r
same_request h shard run bound tx q (Committed parts) r = r
same_request h shard run bound tx q Finished r = r
same_request h shard run bound tx q (Refused c) r = r

told_ruling : (h : History) (run bound : ℕ) (s : Shard) (tx : TxId) (q : Request) (r : Ruling) → tx_get tx s.requests ≡ Some q → RulingIs h run tx q (Some r) → Told h run bound s
    → Told h run bound (do_ruling tx r (with_ruling tx q r s))
told_ruling h run bound s tx q (CommitVerdict parts) g (commit v) p =
    record {
      out = p.out;
      voters = p.voters;
      requests = request_set h run bound s tx (ruled_request (CommitVerdict parts) q) tt p;
      log = commit_more h run s.local.log tx parts (λ e. v) p.log;
    }
told_ruling h run bound s tx q Acknowledge g (acknowledge v) p =
    record { out = p.out; voters = p.voters; requests = request_set h run bound s tx (ruled_request Acknowledge q) v p; log = p.log }
told_ruling h run bound s tx q (AbortVerdict cause to) g abort p =
    record {
      out = all_append _ s.outbox (map (λ n. Decide n tx s.shard false) to) p.out (all_map _ (λ n. Decide n tx s.shard false) to (λ n. tt));
      voters = p.voters;
      requests = request_set h run bound s tx (ruled_request (AbortVerdict cause to) q) tt p;
      log = λ u c. p.log u (rolled tx s.local u c);
    }
told_ruling h run bound s tx q EndVerdict g end p =
    record {
      out = p.out;
      voters = p.voters;
      requests = request_set h run bound s tx (ruled_request EndVerdict q) (same_request h s.shard run bound tx q q.state (rows_get (λ x. RequestIs h s.shard run bound x.0 x.1 (x.1).state) tx q s.requests p.requests g)) p;
      log = λ u c. p.log u (with_more s.local.log (End tx ∷ []) ((λ t. refl), tt) u c);
    }

-- ---- what is due

commit_known : (h : History) (run bound : ℕ) (s : Shard) (tx : TxId) (st : RequestState) → (tx.run ≡ run → Voted h tx)
    → AllByRecursion (Tells h run bound) (elim st [ Committed parts ↦ map (λ p. Decide p tx s.shard true) parts | Undecided ↦ [] | Finished ↦ [] | Refused cause ↦ [] ])
commit_known h run bound s tx Undecided k = tt
commit_known h run bound s tx (Committed parts) k = all_map _ (λ p. Decide p tx s.shard true) parts (λ p. k)
commit_known h run bound s tx Finished k = tt
commit_known h run bound s tx (Refused cause) k = tt

commit_told : (h : History) (run bound : ℕ) (s : Shard) (tx : TxId) (o : Option Request) (v : Option Voter) → (tx.run ≡ run → Voted h tx) → AllByRecursion (Tells h run bound) (commit_messages s tx o v)
commit_told h run bound s tx (Some q) v k = commit_known h run bound s tx q.state k
commit_told h run bound s tx None (Some v) k = (tt, tt)
commit_told h run bound s tx None None k = tt

pub durable_voted : (h : History) (run bound : ℕ) (s : Shard) (tx : TxId) → has_durable_commit (facts_of s tx) ≡ true → Told h run bound s → tx.run ≡ run → Voted h tx
durable_voted h run bound s tx d p r = p.log tx (durable_committed s.local.log s.durable tx d) r

-- who owes a vote was asked
owing : (h : History) (s : Shard) (tx : TxId) (v : Voter) (vote : Vote) (f : PartFacts) (b : Bool) → (v.owed == 0) ≡ b → vote_owed f v b ≡ Some vote → VoterIs h s.shard tx v → AskedAfter h tx s.shard
owing h s tx v vote f true e g k = absurd (none_some vote g)
owing h s tx v vote f false e g (inl k) = absurd (both_ways _ e (eq-eqb v.owed 0 k.0))
owing h s tx v vote f false e g (inr k) = k

told_vote : (h : History) (run bound : ℕ) (s : Shard) (tx : TxId) (v : Voter) (vote : Vote) → AskedAfter h tx s.shard → Told h run bound s → Told h run bound (with_vote s tx v vote)
told_vote h run bound s tx v vote a p =
    record {
      out = all_append _ s.outbox (VoteMessage v.home tx s.shard vote ∷ []) p.out (a, tt);
      voters = rows_set (λ r. VoterIs h s.shard r.0 r.1) tx (voted vote v) s.voters (inr a) p.voters;
      requests = p.requests;
      log = p.log;
    }

told_reader : (h : History) (run bound : ℕ) (s : Shard) (tx : TxId) (vote : Vote) → Told h run bound s → Told h run bound (finish_reader tx vote s)
told_reader h run bound s tx Yes p = p
told_reader h run bound s tx Read p = record { out = p.out; voters = p.voters; requests = p.requests; log = p.log }
told_reader h run bound s tx (No why) p = p

told_due : (h : History) (run bound : ℕ) → KeptByDue (Told h run bound)
told_due h run bound s _ (commits tx c d) p =
    record {
      out = all_append _ s.outbox (commit_messages s tx (tx_get tx s.requests) (tx_get tx s.voters)) p.out
          (commit_told h run bound s tx (tx_get tx s.requests) (tx_get tx s.voters) (durable_voted h run bound s tx d p));
      voters = p.voters;
      requests = p.requests;
      log = p.log;
    }
told_due h run bound s _ (votes tx v vote g e) p =
    told_reader h run bound (with_vote s tx v vote) tx vote (told_vote h run bound s tx v vote (owing h s tx v vote (facts_of s tx) (v.owed == 0) refl e (rows_get (λ x. VoterIs h s.shard x.0 x.1) tx v s.voters p.voters g)) p)
told_due h run bound s _ (rules tx q r g e) p =
    told_ruling h run bound s tx q r g (subst (RulingIs h run tx q) e (ruled h run bound s tx q (facts_of s tx) q.state (rows_get (λ x. RequestIs h s.shard run bound x.0 x.1 (x.1).state) tx q s.requests p.requests g))) p

pub told_finish : (h : History) (run bound : ℕ) (s : Shard) → Told h run bound s → Told h run bound (finish s)
told_finish h run bound s p =
    let q = settled (Told h run bound) s (told_due h run bound) p in record { out = q.out; voters = q.voters; requests = q.requests; log = q.log }
