-- What a vote binds, and what no other's abort takes away.
pub mod CastVotesStayBound
use Rattle.std.proofs.Common.{◌≡◌, ◌⊎◌, inl, inr, ⊎_elim, refl, sym, subst, ℕ, true, false, List, [], ◌∷◌, Option, Some, None, length}
use Rattle.std.specs.List.{list_all}
use Rattle.std.proofs.lemmas.Bool.{both_ways, or_cases, false_from_ne_true}
use Rattle.clv_base.specs.declared.names.TxId.{TxId}
use Rattle.clv_base.specs.declared.logs.LogRecord.{LogRecord}
use Rattle.clv_base.specs.Journals.{History}
use Rattle.clv_base.specs.declared.causes.Vote.{Vote}
use Rattle.clv_base.specs.declared.causes.Vote.TheVariants.{Yes, Read, No}
use Rattle.clv_base.specs.declared.state.Stage.{Stage}
use Rattle.clv_base.specs.declared.state.Stage.TheVariants.{Active, Closed, Gone}
use Rattle.clv_base.specs.Orders.{tx_same, tx_in}
use Rattle.clv_base.specs.Logs.{committed_in}
use Rattle.clv_base.specs.State.{Shard, is_present}
use Rattle.clv_base.specs.Undo.{stage_of, doomed_by, doomed_here}
use Rattle.clv_base.specs.Facts.{predecessors_of}
use Rattle.clv_base.specs.Restarts.{log_left}
use Rattle.clv_base.proofs.SameNames.{tx_true, tx_self}
use Rattle.law_base.proofs.Tables.{is_pair, pair_in, in_pair}
use Rattle.law_base.proofs.Sets.{in_filter, list_all_at}
use Rattle.law_base.proofs.Successors.{through_all}
use Rattle.history_cases.proofs.Merging.{is_among}
use Rattle.history_cases.proofs.Worlds.{state_at}
use Rattle.fate_laws.specs.Votes.{Keeps, VotesBind, OthersAbortsSpareIt}
use Rattle.fate_laws.proofs.Parts.CommitsHaveTheirParts.{listed_is}
use Rattle.fate_laws.proofs.Parts.YesVotesArePrepared.{Bound}
use Rattle.fate_laws.proofs.VotesBind.CastVotesStayBound.{Cast, casts_front}
use Rattle.fate_laws.proofs.CommitsGoDownwards.{Down, lowered_front}
use Rattle.protocol_laws.proofs.LogsInOrder.OneRecordMore.{prepared_there}
use Rattle.law_base.proofs.Names.{all_from}

-- ---- votes

pub absent : (o : Option Stage) → (o ≡ Some Active → ⊥) → (o ≡ Some Closed → ⊥) → is_present o ≡ false
absent None a c = refl
absent (Some Active) a c = absurd (a refl)
absent (Some Closed) a c = absurd (c refl)
absent (Some (Gone d)) a c = refl

bound_keeps : (s : Shard) (tx : TxId) → Bound s tx → Keeps s tx Yes
bound_keeps s tx k =
    let log = log_left s false in (
      (prepared_there log tx k.listed k.prepare, subst (λ l. list_all (committed_in log) l ≡ true) (sym (listed_is log tx k.listed k.prepare)) (all_from (committed_in log) (k.listed).1 (λ q i. k.durable q i))),
      all_from (committed_in s.local.log) (predecessors_of s.local.pairs tx) (λ q i. k.pairs q (in_pair s.local.pairs tx q i)),
    )

cast_keeps : (before after : List (List LogRecord)) (pre : History) (n : ℕ) (tx : TxId) (vote : Vote) → Cast before after pre n tx vote → Keeps (state_at before after n pre) tx vote
cast_keeps before after pre n tx Yes c = bound_keeps (state_at before after n pre) tx c.1
cast_keeps before after pre n tx Read c = ((c.1).unprepared, absent (stage_of (state_at before after n pre).local tx) (c.1).inactive (c.1).unclosed)
cast_keeps before after pre n tx (No why) c = tt

pub votes_bind : VotesBind
votes_bind splits before so_far later after n e home from tx vote l i j q =
    cast_keeps before after so_far from tx vote ((casts_front l so_far later refl).cast (n, e) home from tx vote (is_among n e so_far j) q)

-- ---- aborts of others

-- it isn't committed, and it is the other itself or has a predecessor that isn't committed
Taken : Shard → TxId → TxId → Type 0
Taken s u t = (committed_in s.local.log t ≡ false) × ((t ≡ u) ⊎ ((p : TxId) × (is_pair s.local.pairs t p ≡ true) × (committed_in s.local.log p ≡ false)))

taken : (s : Shard) (u t : TxId) → Down s → committed_in s.local.log u ≡ false → tx_in t (doomed_here s.local u) ≡ true → Taken s u t
unfolding Taken
taken s u t d o i =
    through_all (Taken s u) (length s.local.pairs) s.local.pairs (u ∷ []) (λ a b j n. (false_from_ne_true _ (λ c. both_ways _ n.0 (d a b c j)), inr (b, j, n.0)))
    (λ v j. ⊎_elim (λ e. subst (Taken s u) (tx_true u v e) (o, inl refl)) (λ e. absurd (both_ways false refl e)) (or_cases (tx_same u v) false j)) t
    (in_filter (λ v. is_present (stage_of s.local v)) t (doomed_by s.local u) i).0

pub others_aborts_spare_it : OthersAbortsSpareIt
unfolding Taken
others_aborts_spare_it splits before so_far later after n tx other l i c ne u =
    let s = state_at before after n so_far in
    let k = lowered_front l so_far later refl in
    false_from_ne_true _
    (λ j.
    let t = taken s other tx (k.down n i) u j in
    ⊎_elim (λ e. both_ways _ ne (subst (λ z. tx_same other z ≡ true) (sym e) (tx_self other)))
    (λ p. both_ways _ p.2 (list_all_at (committed_in s.local.log) p.0 (predecessors_of s.local.pairs tx) c (pair_in s.local.pairs tx p.0 p.1))) t.1)
