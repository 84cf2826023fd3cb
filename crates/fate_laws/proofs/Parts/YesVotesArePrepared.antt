-- A vote binds: who voted yes has its PREPARE and the COMMITs of all its predecessors here durable; who voted read is finished without a write.
use Rattle.std.proofs.Common.{◌≡◌, ◌⊎◌, ⊎_elim, refl, sym, ap, subst, ◌∙◌, ℕ, ◌≤◌, true, false, cond, Bool, ◌==◌, List, Option, Some, None, length, arith}
use Rattle.std.specs.Prelude.{take}
use Rattle.std.proofs.lemmas.Bool.{both_ways, false_from_ne_true}
use Rattle.shard_laws.proofs.Cuts.WhatCutsHold.{taken_there}
use Rattle.shard_laws.proofs.Order.ChangesKeepOrder.{prepare_some}
use Rattle.std.proofs.lemmas.List.{take-append-le}
use Rattle.std.proofs.lemmas.Option.{same_Some}
use Rattle.clv_base.specs.declared.names.TxId.{TxId}
use Rattle.clv_base.specs.declared.causes.NoWhy.TheVariants.{Doomed, Restarted}
use Rattle.clv_base.specs.declared.causes.Vote.{Vote}
use Rattle.clv_base.specs.declared.causes.Vote.TheVariants.{Yes, Read, No}
use Rattle.clv_base.specs.declared.state.Stage.{Stage}
use Rattle.clv_base.specs.declared.state.Stage.TheVariants.{Active, Closed, Gone}
use Rattle.clv_base.specs.declared.state.Voter.{Voter}
use Rattle.clv_base.specs.Orders.{tx_in}
use Rattle.clv_base.specs.Logs.{committed_in, prepared_in, prepare_of, prepare_lsn, is_prepare_of, has_standing}
use Rattle.clv_base.specs.State.{Shard}
use Rattle.clv_base.specs.Undo.{stage_of}
use Rattle.clv_base.specs.Facts.{facts_of, state_by, doom_by, has_durable_predecessors, has_durable_prepare, has_durable_undo}
use Rattle.clv_base.specs.Participant.{gone_vote, vote_in_state, first_vote, vote_owed, vote_by, vote_by_writes}
use Rattle.clv_base.specs.Restarts.{log_left}
use Rattle.law_base.proofs.Changed.{none_some}
use Rattle.law_base.proofs.Commits.{commit_durable, durable_committed, below_some}
use Rattle.law_base.proofs.Tables.{is_pair}
use Rattle.protocol_laws.proofs.PredecessorsByFacts.{durable_before}
use Rattle.history_laws.proofs.NeverTakenBack.LaterHistoriesHoldMembers.{committed_front}
use Rattle.fate_laws.proofs.Logs.LogOnlyGrows.{Inside}
use Rattle.fate_laws.proofs.Logs.WhatAddsNoPrepare.{front_prepare}
use Rattle.fate_laws.proofs.Homes.EntriesKeepHomes.{durable_front}
use Rattle.fate_laws.proofs.Parts.OthersCloseOrGo.{Calm}
use Rattle.protocol_laws.proofs.LogsInOrder.OneRecordMore.{prepared_there}

-- ---- what binds

pub record Bound (s : Shard) (tx : TxId) : Type 0 where
  pub listed : ℕ × List TxId
  pub prepare : prepare_of (log_left s false) tx ≡ Some listed
  pub durable : (q : TxId) → tx_in q listed.1 ≡ true → committed_in (log_left s false) q ≡ true
  pub pairs : (q : TxId) → is_pair s.local.pairs tx q ≡ true → committed_in s.local.log q ≡ true

pub record Reads (s : Shard) (tx : TxId) : Type 0 where
  pub unprepared : prepared_in s.local.log tx ≡ false
  pub inactive : stage_of s.local tx ≡ Some Active → ⊥
  pub unclosed : stage_of s.local tx ≡ Some Closed → ⊥

pub front_same : (s t : Shard) → Inside s t → s.durable ≤ length s.local.log → log_left t false ≡ log_left s false
front_same s t i l =
    ap (λ n. take n t.local.log) i.durable ∙ ap (take s.durable) (sym (i.log).1) ∙ take-append-le s.durable s.local.log (i.log).0 l

pub bound_calm : (s t : Shard) (tx : TxId) → Calm s t tx → s.durable ≤ length s.local.log → Bound s tx → Bound t tx
bound_calm s t tx c l b =
    let f = front_same s t c.inside l in
    record {
      listed = b.listed;
      prepare = subst (λ z. prepare_of z tx ≡ Some b.listed) (sym f) b.prepare;
      durable = λ q i. subst (λ z. committed_in z q ≡ true) (sym f) (b.durable q i);
      pairs = λ q i. committed_front s.local.log t.local.log q (c.inside).log (b.pairs q (c.pairs q i));
    }

pub reads_calm : (s t : Shard) (tx : TxId) → Calm s t tx → Reads s tx → Reads t tx
reads_calm s t tx c r = record {
  unprepared = false_from_ne_true _ (λ h.
      let p = prepare_some t.local.log tx h in
      ⊎_elim (λ e. both_ways _ r.unprepared (prepared_there s.local.log tx p.0 e)) (λ n. r.inactive n.0) (c.prepares p.0 p.1));
  inactive = λ h. r.inactive (c.active h);
  unclosed = λ h. ⊎_elim (λ k. r.unclosed k) (λ k. r.inactive k) (c.closed h);
}

-- ---- the vote that is given

pub data VoteIs (s : Shard) (tx : TxId) (v : Voter) : Vote → Type 0 where
  kept : {vote : Vote} → v.vote ≡ Some vote → VoteIs s tx v vote
  yes : stage_of s.local tx ≡ Some Closed → has_durable_predecessors (facts_of s tx) ≡ true → has_durable_prepare (facts_of s tx) ≡ true → VoteIs s tx v Yes
  read : stage_of s.local tx ≡ Some Closed → has_standing s.local.log tx ≡ false → has_durable_undo (facts_of s tx) ≡ true → VoteIs s tx v Read
  no : {vote : Vote} → ((vote ≡ Yes) → ⊥) → ((vote ≡ Read) → ⊥) → VoteIs s tx v vote

stands_is : (s : Shard) (tx : TxId) (v : Voter) (b : Bool) (vote : Vote) → stage_of s.local tx ≡ Some Closed → has_durable_predecessors (facts_of s tx) ≡ true → has_standing s.local.log tx ≡ b
    → vote_by_writes (facts_of s tx) b ≡ Some vote → VoteIs s tx v vote
stands_is s tx v true vote st e f h = at (has_durable_prepare (facts_of s tx)) refl h
  where
    at : (c : Bool) → has_durable_prepare (facts_of s tx) ≡ c → cond c (Some Yes) None ≡ Some vote → VoteIs s tx v vote
    at true g k = subst (VoteIs s tx v) (same_Some Yes vote k) (yes st e g)
    at false g k = absurd (none_some vote k)
stands_is s tx v false vote st e f h = at (has_durable_undo (facts_of s tx)) refl h
  where
    at : (c : Bool) → has_durable_undo (facts_of s tx) ≡ c → cond c (Some Read) None ≡ Some vote → VoteIs s tx v vote
    at true g k = subst (VoteIs s tx v) (same_Some Read vote k) (read st f g)
    at false g k = absurd (none_some vote k)

closed_is : (s : Shard) (tx : TxId) (v : Voter) (a : Bool) (vote : Vote) → stage_of s.local tx ≡ Some Closed → has_durable_predecessors (facts_of s tx) ≡ a
    → cond a (vote_by_writes (facts_of s tx) (has_standing s.local.log tx)) None ≡ Some vote → VoteIs s tx v vote
closed_is s tx v false vote st e h = absurd (none_some vote h)
closed_is s tx v true vote st e h = stands_is s tx v (has_standing s.local.log tx) vote st e refl h

gone_is : (s : Shard) (tx : TxId) (v : Voter) (d : Option TxId) (vote : Vote) → gone_vote d ≡ Some vote → VoteIs s tx v vote
gone_is s tx v None vote h = absurd (none_some vote h)
gone_is s tx v (Some d) vote h = subst (VoteIs s tx v) (same_Some (No (Doomed d)) vote h) (no (λ e. absurd cc) (λ e. absurd cc))

new_is : (s : Shard) (tx : TxId) (v : Voter) (st : Option Stage) (vote : Vote) → stage_of s.local tx ≡ st → vote_in_state (facts_of s tx) v.seen (state_by st) ≡ Some vote → VoteIs s tx v vote
new_is s tx v None vote e h = subst (VoteIs s tx v) (same_Some (No (Restarted v.seen s.local.epoch)) vote h) (no (λ z. absurd cc) (λ z. absurd cc))
new_is s tx v (Some Active) vote e h = absurd (none_some vote h)
new_is s tx v (Some Closed) vote e h = closed_is s tx v (has_durable_predecessors (facts_of s tx)) vote e refl h
new_is s tx v (Some (Gone d)) vote e h = gone_is s tx v (doom_by (stage_of s.local tx)) vote h

first_is : (s : Shard) (tx : TxId) (v : Voter) (o : Option Vote) (vote : Vote) → v.vote ≡ o → first_vote (facts_of s tx) v.seen o ≡ Some vote → VoteIs s tx v vote
first_is s tx v (Some w) vote e h = kept (e ∙ h)
first_is s tx v None vote e h = new_is s tx v (stage_of s.local tx) vote refl h

owed_is : (s : Shard) (tx : TxId) (v : Voter) (b : Bool) (vote : Vote) → (v.owed == 0) ≡ b → vote_owed (facts_of s tx) v b ≡ Some vote → VoteIs s tx v vote × ((v.owed == 0) ≡ false)
owed_is s tx v true vote e h = absurd (none_some vote h)
owed_is s tx v false vote e h = (first_is s tx v v.vote vote refl h, e)

pub vote_is : (s : Shard) (tx : TxId) (v : Voter) (vote : Vote) → vote_by (facts_of s tx) v ≡ Some vote → VoteIs s tx v vote × ((v.owed == 0) ≡ false)
vote_is s tx v vote h = owed_is s tx v (v.owed == 0) vote refl h

-- ---- what a new vote binds

-- of a closed part each listed predecessor is durable, or its predecessor here still
abbrev pub Listed : Shard → TxId → Type 0
Listed s tx = (p : ℕ × List TxId) (q : TxId) → stage_of s.local tx ≡ Some Closed → prepare_of s.local.log tx ≡ Some p → tx_in q p.1 ≡ true → (commit_durable s.local.log s.durable q ≡ true) ⊎ (is_pair s.local.pairs tx q ≡ true)

pub yes_binds : (s : Shard) (tx : TxId) → Listed s tx → stage_of s.local tx ≡ Some Closed → has_durable_predecessors (facts_of s tx) ≡ true → has_durable_prepare (facts_of s tx) ≡ true → Bound s tx
yes_binds s tx l st d e =
    let k = below_some (prepare_lsn s.local.log tx) s.durable e in
    let p = prepare_some (log_left s false) tx (taken_there 0 s.durable (is_prepare_of tx) s.local.log k.0 k.1 (let m = k.2 in omega (arith, m))) in
    record {
      listed = p.0;
      prepare = p.1;
      durable = λ q i. durable_front s.local.log s.durable q (⊎_elim (λ x. x) (λ x. durable_before s tx d q x) (l p.0 q st (front_prepare s.durable s.local.log tx p.0 p.1) i));
      pairs = λ q i. durable_committed s.local.log s.durable q (durable_before s tx d q i);
    }
