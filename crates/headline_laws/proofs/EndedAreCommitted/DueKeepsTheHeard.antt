-- What a home heard of the parts of its commits: each that acknowledged one has its COMMIT durable. And that what is due keeps it so.
use Rattle.std.proofs.Common.{◌≡◌, ⊎_elim, refl, sym, subst, ◌∙◌, ℕ, true, false, cond, not, ◌&&◌, ◌==◌, Bool, List, [], ◌∷◌, ◌++◌, map, Option, Some, None}
use Rattle.std.specs.Prelude.{⊤}
use Rattle.std.specs.List.{AllByRecursion, list_all}
use Rattle.std.proofs.lemmas.Bool.{and_parts}
use Rattle.clv_base.specs.declared.names.TxId.{TxId}
use Rattle.clv_base.specs.declared.logs.LogRecord.{LogRecord}
use Rattle.clv_base.specs.declared.logs.LogRecord.TheVariants.{Commit}
use Rattle.clv_base.specs.declared.causes.Vote.{Vote}
use Rattle.clv_base.specs.declared.causes.Vote.TheVariants.{Yes, Read, No}
use Rattle.clv_base.specs.declared.messages.Message.{Message}
use Rattle.clv_base.specs.declared.messages.Message.TheVariants.{Prepare, Vote as VoteMessage, Decide, Done, Ask}
use Rattle.clv_base.specs.declared.parts.PartFacts.{PartFacts}
use Rattle.clv_base.specs.declared.state.Ruling.{Ruling}
use Rattle.clv_base.specs.declared.state.Ruling.TheVariants.{Commit as CommitVerdict, Acknowledge, Abort as AbortVerdict, End as EndVerdict}
use Rattle.clv_base.specs.declared.state.Voter.{Voter}
use Rattle.clv_base.specs.declared.state.Request.{Request}
use Rattle.clv_base.specs.declared.state.RequestState.{RequestState}
use Rattle.clv_base.specs.declared.state.RequestState.TheVariants.{Undecided, Committed, Finished, Refused}
use Rattle.clv_base.specs.Orders.{tx_get, tx_put, tx_set, nat_in}
use Rattle.clv_base.specs.Logs.{committed_in, commit_parts}
use Rattle.clv_base.specs.State.{Shard, Local, with_local}
use Rattle.clv_base.specs.Undo.{release_parts, roll_back}
use Rattle.clv_base.specs.OneShard.{purge}
use Rattle.clv_base.specs.Facts.{facts_of, is_waiting}
use Rattle.clv_base.specs.Coordinator.{is_agreed, is_good, vote_from, others, end_ruling, ruling_in, ruled_request}
use Rattle.clv_base.specs.Due.{send, commit_messages, with_vote, finish_reader, with_ruling, do_ruling, with_due_done}
use Rattle.clv_base.specs.Events.{finish}
use Rattle.law_base.proofs.Changed.{none_some, some_same, get_set}
use Rattle.law_base.proofs.Lists.{all_append}
use Rattle.law_base.proofs.Commits.{parts_keep}
use Rattle.protocol_laws.proofs.LogsInOrder.OneRecordMore.{committed_there}
use Rattle.shard_laws.proofs.Order.WhatRulingsMayWrite.{parts_new}
use Rattle.shard_laws.proofs.Events.DueKeeps.{waiting_here}
use Rattle.history_cases.proofs.Stepping.{Due, commits, votes, rules, KeptByDue, settled}
use Rattle.history_cases.proofs.Telling.{all_map}
use Rattle.fate_laws.proofs.Logs.LogOnlyGrows.{Inside, inside_due}
use Rattle.fate_laws.proofs.Homes.ShardKnowsHomes.{Starts, now_at}
use Rattle.fate_laws.proofs.Parts.CommittedAreVotedFor.{commit_agreed}
use Rattle.fate_laws.proofs.Homes.FoundCommitsHaveHomes.{nat_at}
use Rattle.fate_laws.proofs.FallenAreUncommitted.RulingsThatEndNothing.{no_end_undecided}
use Rattle.headline_laws.proofs.EndedAreCommitted.EndsStandBehindCommits.{GoesOn, on_same, on_more, on_rolled, Tell, tell_on, tell_end}
use Rattle.history_laws.proofs.Entries.AllFromEach.{put_row}

-- ---- what is known. K: where whose COMMIT is durable

-- an acknowledgement says that the COMMIT is durable on its shard
abbrev pub Says : (ℕ → TxId → Type 0) → Message → Type 0
Says K (Prepare to tx home seen) = ⊤
Says K (VoteMessage to tx from vote) = ⊤
Says K (Decide to tx home commit) = ⊤
Says K (Done to tx from) = K from tx
Says K (Ask to tx from) = ⊤

-- the COMMIT of a committed request is in the log, and the request awaits each part that it names
abbrev pub Awaits : List LogRecord → TxId → RequestState → Type 0
Awaits log tx (Committed parts) = (ps : List ℕ) × (commit_parts log tx ≡ Some ps) × ((m : ℕ) → nat_in m ps ≡ true → nat_in m parts ≡ true)
Awaits log tx Undecided = ⊤
Awaits log tx Finished = ⊤
Awaits log tx (Refused cause) = ⊤

-- the COMMIT is durable on each shard that acknowledged it
abbrev pub Row : (ℕ → TxId → Type 0) → List LogRecord → TxId → Request → Type 0
Row K log tx q = ((m : ℕ) → nat_in m q.acknowledged_by ≡ true → K m tx) × Awaits log tx q.state

pub record Hears (K : ℕ → TxId → Type 0) (s : Shard) : Type 0 where
  pub log : Tell K s.local.log
  pub rows : (tx : TxId) (q : Request) → tx_get tx s.requests ≡ Some q → Row K s.local.log tx q
  pub out : AllByRecursion (Says K) s.outbox

-- ---- changes

awaits_on : (log new : List LogRecord) (tx : TxId) (st : RequestState) → GoesOn log new → Awaits log tx st → Awaits new tx st
awaits_on log new tx (Committed parts) g (ps, e, k) = (ps, subst (λ z. commit_parts z tx ≡ Some ps) g.1 (parts_keep log g.0 tx ps e), k)
awaits_on log new tx Undecided g a = tt
awaits_on log new tx Finished g a = tt
awaits_on log new tx (Refused cause) g a = tt

pub hears_local : (K : ℕ → TxId → Type 0) (s : Shard) (l : Local) → GoesOn s.local.log l.log → Hears K s → Hears K (record s { local = l })
hears_local K s l g p =
    record { log = tell_on K s.local.log l.log g p.log; rows = λ tx q e. let r = p.rows tx q e in (r.0, awaits_on s.local.log l.log tx q.state g r.1); out = p.out }

pub hears_set : (K : ℕ → TxId → Type 0) (s : Shard) (tx : TxId) (w : Request) → Row K s.local.log tx w → Hears K s → Hears K (record s { requests = tx_set tx w s.requests })
hears_set K s tx w r p = record {
  log = p.log;
  rows = λ u q e. ⊎_elim (λ a. subst (λ v. Row K s.local.log v q) (sym a.0) (subst (Row K s.local.log tx) (sym a.1) r)) (λ b. p.rows u q b.1) (get_set tx u w q s.requests e);
  out = p.out;
}

pub hears_put : (K : ℕ → TxId → Type 0) (s : Shard) (tx : TxId) (w : Request) → Row K s.local.log tx w → Hears K s → Hears K (record s { requests = tx_put tx w s.requests })
hears_put K s tx w r p = record {
  log = p.log;
  rows = λ u q e. ⊎_elim (λ a. subst (λ v. Row K s.local.log v q) (sym a.0) (subst (Row K s.local.log tx) (sym a.1) r)) (λ b. p.rows u q b) (put_row u tx w q s.requests e);
  out = p.out;
}

pub hears_send : (K : ℕ → TxId → Type 0) (s : Shard) (ms : List Message) → AllByRecursion (Says K) ms → Hears K s → Hears K (send ms s)
hears_send K s ms a p = record { log = p.log; rows = p.rows; out = all_append (Says K) s.outbox ms p.out a }

-- ---- rulings

-- an END is ruled of a committed request whose parts have all acknowledged it
abbrev AllHeard : Request → List ℕ → Type 0
AllHeard q parts = list_all (λ n. nat_in n q.acknowledged_by) parts ≡ true

heard_all : (q : Request) (parts : List ℕ) → end_ruling q parts ≡ Some EndVerdict → AllHeard q parts
heard_all q [] e = absurd (none_some EndVerdict e)
heard_all q (p ∷ ps) e = at (not q.is_ended && list_all (λ n. nat_in n q.acknowledged_by) (p ∷ ps)) refl e
  where
    at : (b : Bool) → (not q.is_ended && list_all (λ n. nat_in n q.acknowledged_by) (p ∷ ps)) ≡ b → cond b (Some EndVerdict) None ≡ Some EndVerdict → AllHeard q (p ∷ ps)
    at true h e = (and_parts (not q.is_ended) _ h).1
    at false h e = absurd (none_some EndVerdict e)

end_ruled : (shard : ℕ) (tx : TxId) (q : Request) (f : PartFacts) (st : RequestState) → q.state ≡ st → ruling_in shard tx q f st ≡ Some EndVerdict → (parts : List ℕ) × (q.state ≡ Committed parts) × AllHeard q parts
end_ruled shard tx q f Undecided e h = absurd (no_end_undecided shard tx q f (is_agreed shard q f) h)
end_ruled shard tx q f (Committed parts) e h = (parts, e, heard_all q parts h)
end_ruled shard tx q f Finished e h = absurd (none_some EndVerdict h)
end_ruled shard tx q f (Refused cause) e h = absurd (none_some EndVerdict h)

-- who is agreed on has no COMMIT yet
unruled : (s : Shard) (tx : TxId) (q : Request) → is_agreed s.shard q (facts_of s tx) ≡ true → committed_in s.local.log tx ≡ false
unruled s tx q a =
    let f = facts_of s tx in
    let p = and_parts (is_waiting f && (f.undecided == 0)) (list_all (λ n. is_good (vote_from n q.votes)) (others s.shard q.touched)) a in
    (waiting_here s tx (and_parts (is_waiting f) (f.undecided == 0) p.0).0).1

hears_ruling : (K : ℕ → TxId → Type 0) (s : Shard) (tx : TxId) (q : Request) (r : Ruling) → tx_get tx s.requests ≡ Some q → ruling_in s.shard tx q (facts_of s tx) q.state ≡ Some r → Hears K s → Hears K (do_ruling tx r (with_ruling tx q r s))
hears_ruling K s tx q (CommitVerdict parts) g e p =
    let a = commit_agreed s.shard tx q (facts_of s tx) parts e in
    let n = unruled s tx q a.1 in
    let t = with_local (λ l. record l { log = l.log ++ Commit tx parts ∷ [] }) s in
    hears_set K t tx (ruled_request (CommitVerdict parts) q) ((p.rows tx q g).0, (parts, parts_new s.local.log tx parts n, λ m i. i)) (hears_local K s t.local (on_more s.local.log (Commit tx parts ∷ []) ((λ u. refl), tt)) p)
hears_ruling K s tx q Acknowledge g e p =
    let t = with_ruling tx q Acknowledge s in
    hears_local K t (release_parts (tx ∷ []) None s.local) (on_same s.local.log) (hears_set K s tx (ruled_request Acknowledge q) ((p.rows tx q g).0, tt) p)
hears_ruling K s tx q (AbortVerdict cause to) g e p =
    let t = with_ruling tx q (AbortVerdict cause to) s in
    let u = with_local (roll_back tx) t in
    hears_send K u (map (λ n. Decide n tx s.shard false) to) (all_map (Says K) (λ n. Decide n tx s.shard false) to (λ n. tt))
    (hears_local K t (roll_back tx s.local) (on_rolled tx s.local) (hears_set K s tx (ruled_request (AbortVerdict cause to) q) ((p.rows tx q g).0, tt) p))
hears_ruling K s tx q EndVerdict g e p =
    let x = end_ruled s.shard tx q (facts_of s tx) q.state refl e in
    let r = p.rows tx q g in
    let (ps, f, k) = subst (Awaits s.local.log tx) x.1 r.1 in
    let done : (qs : List ℕ) (m : ℕ) → commit_parts s.local.log tx ≡ Some qs → nat_in m qs ≡ true → K m tx = λ qs m c i.
    r.0 m (nat_at (λ n. nat_in n q.acknowledged_by) m x.0 x.2 (k m (subst (λ z. nat_in m z ≡ true) (some_same qs ps (sym c ∙ f)) i))) in
    let h = hears_set K s tx (ruled_request EndVerdict q) (r.0, r.1) p in
    record {
      log = tell_end K s.local.log tx (committed_there s.local.log tx ps f) done p.log;
      rows = λ u w d. let y = h.rows u w d in (y.0, awaits_end u w.state y.1);
      out = p.out;
    }
  where
    awaits_end : (u : TxId) (st : RequestState) → Awaits s.local.log u st → Awaits (do_ruling tx EndVerdict (with_ruling tx q EndVerdict s)).local.log u st
    awaits_end u (Committed parts) (ps, c, k) = (ps, parts_keep s.local.log _ u ps c, k)
    awaits_end u Undecided a = tt
    awaits_end u Finished a = tt
    awaits_end u (Refused cause) a = tt

-- ---- what is due

commit_words : (K : ℕ → TxId → Type 0) (s : Shard) (tx : TxId) (st : RequestState)
    → AllByRecursion (Says K) (elim st [ Committed parts ↦ map (λ p. Decide p tx s.shard true) parts | Undecided ↦ [] | Finished ↦ [] | Refused cause ↦ [] ])
commit_words K s tx Undecided = tt
commit_words K s tx (Committed parts) = all_map (Says K) (λ p. Decide p tx s.shard true) parts (λ p. tt)
commit_words K s tx Finished = tt
commit_words K s tx (Refused cause) = tt

commit_says : (K : ℕ → TxId → Type 0) (s : Shard) (tx : TxId) (o : Option Request) (v : Option Voter) → K s.shard tx → AllByRecursion (Says K) (commit_messages s tx o v)
commit_says K s tx (Some q) v k = commit_words K s tx q.state
commit_says K s tx None (Some v) k = (k, tt)
commit_says K s tx None None k = tt

hears_reader : (K : ℕ → TxId → Type 0) (s : Shard) (tx : TxId) (vote : Vote) → Hears K s → Hears K (finish_reader tx vote s)
hears_reader K s tx Yes p = p
hears_reader K s tx Read p = hears_local K s (release_parts (tx ∷ []) None s.local) (on_same s.local.log) p
hears_reader K s tx (No why) p = p

-- what holds within an entry that began with this state
pub record Within (K : ℕ → TxId → Type 0) (s0 s : Shard) : Type 0 where
  pub inside : Inside s0 s
  pub hears : Hears K s

hears_due : (K : ℕ → TxId → Type 0) (s0 : Shard) → Starts K s0 → KeptByDue (Within K s0)
hears_due K s0 b s t d p = record { inside = inside_due s0 s t d p.inside; hears = at t d }
  where
    at : (t : Shard) → Due s (Some t) → Hears K t
    at _ (commits tx c d) =
        let ms = commit_messages s tx (tx_get tx s.requests) (tx_get tx s.voters) in
        hears_local K (send ms s) (release_parts (tx ∷ []) None s.local) (on_same s.local.log)
        (hears_send K s ms (commit_says K s tx (tx_get tx s.requests) (tx_get tx s.voters) (now_at K s0 s b p.inside tx d).1) p.hears)
    at _ (votes tx v vote g e) =
        let q = p.hears in
        hears_reader K (with_vote s tx v vote) tx vote (record { log = q.log; rows = q.rows; out = all_append (Says K) s.outbox (VoteMessage v.home tx s.shard vote ∷ []) q.out (tt, tt) })
    at _ (rules tx q r g e) = hears_ruling K s tx q r g e p.hears

pub hears_finish : (K : ℕ → TxId → Type 0) (s0 s : Shard) → Starts K s0 → Within K s0 s → Hears K (finish s)
hears_finish K s0 s b p = hears_local K (with_due_done s) (purge (with_due_done s).local) (on_same (with_due_done s).local.log) (settled (Within K s0) s (hears_due K s0 b) p).hears
