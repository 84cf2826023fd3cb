-- What carrying out keeps, and what it is told by.
use Rattle.std.proofs.Common.{◌≡◌, refl, sym, ap, ◌∙◌, ℕ, Bool, true, false, cond, List, [], ◌∷◌, ◌++◌, Option, Some, None}
use Rattle.clv_base.specs.declared.names.TxId.{TxId}
use Rattle.clv_base.specs.declared.causes.Vote.{Vote}
use Rattle.clv_base.specs.declared.causes.Vote.TheVariants.{Yes, Read, No}
use Rattle.clv_base.specs.declared.messages.Message.{Message}
use Rattle.clv_base.specs.declared.parts.PartFacts.{PartFacts}
use Rattle.clv_base.specs.declared.state.Voter.{Voter}
use Rattle.clv_base.specs.declared.state.Request.{Request}
use Rattle.clv_base.specs.declared.state.Ruling.TheVariants.{Commit as CommitVerdict, Acknowledge, Abort as AbortVerdict, End as EndVerdict}
use Rattle.clv_base.specs.Orders.{Table, tx_same, tx_get, tx_set}
use Rattle.clv_base.specs.Logs.{prepare_lsn}
use Rattle.clv_base.specs.State.{Shard, Local, with_local}
use Rattle.clv_base.specs.Facts.{facts_in}
use Rattle.clv_base.specs.Participant.{voted}
use Rattle.clv_base.specs.OneShard.{purge}
use Rattle.clv_base.specs.Due.{finish_reader}
use Rattle.two_phase_commit.specs.Voting.{Voting, home_by, voters_by}
use Rattle.two_phase_commit.specs.Coordinated.{Coordination, told_by}
use Rattle.txn_core.specs.State.{TxState, IsSameBut}
use Rattle.due_step.specs.Found.{vote_sent, voters_after, requests_after, carried}
use Rattle.due_step.specs.declared.finding.Due.{Due}
use Rattle.due_step.specs.declared.finding.Due.TheVariants.{Commit, Vote as DueVote, Ruling as DueRuling}
use Rattle.due_step.specs.Sent.{Waiting, told}
use Rattle.due_step.proofs.Sending.{carries_messages}
use Rattle.due_step.specs.Carried.{local_after}
use Rattle.due_step.proofs.Cases.{carries_local}
use Rattle.due_step.specs.Steps.{IsSeen}

-- ---- what carrying out keeps

pub record Kept (s : Shard) (tx : TxId) (due : Due) : Type 0 where
  pub shard : (carried s tx due).shard ≡ s.shard
  pub durable : (carried s tx due).durable ≡ s.durable
  pub voters : (carried s tx due).voters ≡ voters_after s tx due
  pub requests : (carried s tx due).requests ≡ requests_after s tx due

abbrev sent : Shard → TxId → Vote → Option Voter → Shard
sent s tx vote o = finish_reader tx vote (vote_sent s tx vote o)

abbrev AreKept : Shard → TxId → Vote → Option Voter → Type 0
AreKept s tx vote o = ((sent s tx vote o).shard ≡ s.shard) × ((sent s tx vote o).durable ≡ s.durable) × ((sent s tx vote o).voters ≡ voters_by tx o (Some vote) s.voters) × ((sent s tx vote o).requests ≡ s.requests)

vote_kept : (s : Shard) (tx : TxId) (vote : Vote) (o : Option Voter) → AreKept s tx vote o
vote_kept s tx Yes None = (refl, refl, refl, refl)
vote_kept s tx Yes (Some v) = (refl, refl, refl, refl)
vote_kept s tx Read None = (refl, refl, refl, refl)
vote_kept s tx Read (Some v) = (refl, refl, refl, refl)
vote_kept s tx (No why) None = (refl, refl, refl, refl)
vote_kept s tx (No why) (Some v) = (refl, refl, refl, refl)

pub kept : (s : Shard) (tx : TxId) (due : Due) → Kept s tx due
kept s tx Commit = record { shard = refl; durable = refl; voters = refl; requests = refl }
kept s tx (DueVote vote) = let k = vote_kept s tx vote (tx_get tx s.voters) in record { shard = k.0; durable = k.1; voters = k.2; requests = k.3 }
kept s tx (DueRuling (CommitVerdict parts)) = record { shard = refl; durable = refl; voters = refl; requests = refl }
kept s tx (DueRuling Acknowledge) = record { shard = refl; durable = refl; voters = refl; requests = refl }
kept s tx (DueRuling (AbortVerdict cause to)) = record { shard = refl; durable = refl; voters = refl; requests = refl }
kept s tx (DueRuling EndVerdict) = record { shard = refl; durable = refl; voters = refl; requests = refl }

-- ---- it is told by the same after it

get_own : {V : Type 0} (tx : TxId) (w q : V) (rs : Table V) → tx_get tx rs ≡ Some q → tx_get tx (tx_set tx w rs) ≡ Some w
get_own tx w q [] e = absurd cc
get_own tx w q (r ∷ rs) e = at (tx_same tx r.0) refl e (get_own tx w q rs)
  where
    at : (b : Bool) → tx_same tx r.0 ≡ b → cond b (Some r.1) (tx_get tx rs) ≡ Some q → (tx_get tx rs ≡ Some q → tx_get tx (tx_set tx w rs) ≡ Some w) → tx_get tx (cond b ((r.0, w) ∷ rs) (r ∷ tx_set tx w rs)) ≡ Some w
    at true s e more = ap (λ c. cond c (Some w) (tx_get tx rs)) s
    at false s e more = ap (λ c. cond c (Some r.1) (tx_get tx (tx_set tx w rs))) s ∙ more e

home_same : (tx : TxId) (vote : Vote) (voters : Table Voter) (o : Option Voter) → tx_get tx voters ≡ o → home_by (tx_get tx (voters_by tx o (Some vote) voters)) ≡ home_by o
home_same tx vote voters None e = ap home_by e
home_same tx vote voters (Some v) e = ap home_by (get_own tx (voted vote v) v voters e)

pub told_same : (s : Shard) (tx : TxId) (due : Due)
    → told tx s.shard due (home_by (tx_get tx (voters_after s tx due))) (told_by (tx_get tx (requests_after s tx due))) ≡ told tx s.shard due (home_by (tx_get tx s.voters)) (told_by (tx_get tx s.requests))
told_same s tx Commit = refl
told_same s tx (DueVote vote) = ap (λ h. told tx s.shard (DueVote vote) h (told_by (tx_get tx s.requests))) (home_same tx vote s.voters (tx_get tx s.voters) refl)
told_same s tx (DueRuling (CommitVerdict parts)) = refl
told_same s tx (DueRuling Acknowledge) = refl
told_same s tx (DueRuling (AbortVerdict cause to)) = refl
told_same s tx (DueRuling EndVerdict) = refl

-- ---- facts

pub facts_alike : (l m : Local) (d e : ℕ) (tx : TxId) → m ≡ l → e ≡ d → facts_in m e tx ≡ facts_in l d tx
facts_alike l m d e tx a b = ap (λ (x : Local). facts_in x e tx) a ∙ ap (λ n. facts_in l n tx) b

pub facts_told : (l : Local) (d : ℕ) (tx : TxId) (p : Option ℕ) (f : PartFacts) → p ≡ prepare_lsn l.log tx → f ≡ record (facts_in l d tx) { prepare = p } → facts_in l d tx ≡ f
facts_told l d tx p f c h = ap (λ q. record (facts_in l d tx) { prepare = q }) (sym c) ∙ sym h

-- ---- the parts after it

pub seen_after : (s : Shard) (tx : TxId) (due : Due) (t u : TxState) (p q : Voting) (c d : Coordination) (o w : Waiting) → IsSeen s t p c o → IsSameBut t (purge (local_after t.local tx due)) u
    → q.voters ≡ voters_after s tx due → d.requests ≡ requests_after s tx due → d.shard ≡ c.shard → w.messages ≡ o.messages ++ told tx s.shard due (home_by (tx_get tx q.voters)) (told_by (tx_get tx d.requests))
    → IsSeen (with_local purge (carried s tx due)) u q d w
seen_after s tx due t u p q c d o w seen same voters requests home messages =
    let k = kept s tx due in
    record {
      shard = k.shard ∙ seen.shard ∙ sym (ap (λ (x : TxState). x.shard) same);
      home = k.shard ∙ seen.home ∙ sym home;
      local = ap purge (carries_local s tx due ∙ ap (λ (l : Local). local_after l tx due) seen.local) ∙ sym (ap (λ (x : TxState). x.local) same);
      durable = k.durable ∙ seen.durable ∙ sym (ap (λ (x : TxState). x.durable) same);
      voters = k.voters ∙ sym voters;
      requests = k.requests ∙ sym requests;
      outbox =
          carries_messages s tx due ∙ ap (λ (ms : List Message). s.outbox ++ ms) (sym (told_same s tx due))
          ∙ ap (λ (ms : List Message). ms ++ told tx s.shard due (home_by (tx_get tx (voters_after s tx due))) (told_by (tx_get tx (requests_after s tx due)))) seen.outbox
          ∙ ap (λ (vs : Table Voter). o.messages ++ told tx s.shard due (home_by (tx_get tx vs)) (told_by (tx_get tx (requests_after s tx due)))) (sym voters)
          ∙ ap (λ (rs : Table Request). o.messages ++ told tx s.shard due (home_by (tx_get tx q.voters)) (told_by (tx_get tx rs))) (sym requests)
          ∙ sym messages;
    }
