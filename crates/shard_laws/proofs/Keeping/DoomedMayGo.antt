-- What goes with an aborted transaction may go: it is present, none of it is committed, and its successors go too.
use Rattle.std.proofs.Common.{◌≡◌, true, false, [], ◌∷◌, length, refl, subst, ⊎_elim}
use Rattle.std.proofs.lemmas.Bool.{both_ways, or_cases, false_from_ne_true}
use Rattle.clv_base.specs.declared.names.TxId.{TxId}
use Rattle.clv_base.specs.Orders.{tx_same, tx_in}
use Rattle.clv_base.specs.State.{Shard}
use Rattle.clv_base.specs.Undo.{stage_of, doomed_by, doomed_here}
use Rattle.clv_base.specs.State.{is_present}
use Rattle.clv_base.specs.Logs.{committed_in}
use Rattle.clv_base.proofs.SameNames.{tx_true}
use Rattle.law_base.proofs.Commits.{before_first}
use Rattle.law_base.proofs.Successors.{doomed_up, through_all}
use Rattle.law_base.proofs.Sets.{filter_in, in_filter}
use Rattle.shard_laws.proofs.Keeping.WhatOneShardKeeps.{Past, Kept, view_of}
use Rattle.shard_laws.proofs.Keeping.LeavingKeeps.{MayGo}

one_uncommitted : (s : Shard) (tx u : TxId) → committed_in s.local.log tx ≡ false → tx_in u (tx ∷ []) ≡ true → committed_in s.local.log u ≡ false
one_uncommitted s tx u open_ i = ⊎_elim (λ h. subst (λ x. committed_in s.local.log x ≡ false) (tx_true tx u h) open_) (λ h. absurd (both_ways false refl h)) (or_cases (tx_same tx u) false i)

pub may_go : (g : Past) (s : Shard) (tx : TxId) → Kept g (view_of s) → committed_in s.local.log tx ≡ false → MayGo (view_of s) (doomed_here s.local tx)
may_go g s tx k open_ = record {
  upward = λ t p e i. filter_in (λ x. is_present (stage_of s.local x)) t (doomed_by s.local tx) (doomed_up s.local tx t p e (in_filter (λ x. is_present (stage_of s.local x)) p (doomed_by s.local tx) i).0) (k.successors t p e);
  undecided = λ t i. through_all (λ x. committed_in s.local.log x ≡ false) (length s.local.pairs) s.local.pairs (tx ∷ [])
      (λ u p e c. false_from_ne_true _ (λ h. both_ways _ c (before_first s.local.log p u (k.downwards u p e h))))
      (λ u j. one_uncommitted s tx u open_ j) t (in_filter (λ x. is_present (stage_of s.local x)) t (doomed_by s.local tx) i).0;
  present = λ t i. (in_filter (λ x. is_present (stage_of s.local x)) t (doomed_by s.local tx) i).1;
}
