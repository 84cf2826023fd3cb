-- Where the settled transactions are those with a COMMIT in a log, the answers are the protocol's facts.
use Rattle.std.proofs.Common.{◌≡◌, ℕ, suc, Bool, true, false, cond, not, ◌||◌, List, [], ◌∷◌, Some, is_none, refl, ap, ◌∙◌}
use Rattle.std.specs.List.{filter, list_any}
use Rattle.clv_base.specs.declared.names.TxId.{TxId}
use Rattle.clv_base.specs.declared.logs.LogRecord.{LogRecord}
use Rattle.clv_base.specs.Orders.{tx_get, tx_union}
use Rattle.clv_base.specs.Logs.{is_commit_of, committed_in, commit_lsn, place_from}
use Rattle.clv_base.specs.State.{Local}
use Rattle.clv_base.specs.Facts.{predecessors_of, undecided_of, greater_place, greatest_commit, due_by, due_lsn_of}
use Rattle.cascade_undo.specs.Dependencies.{Dependencies, undecided_by, greatest_of, due_of}
use Rattle.law_base.proofs.Sets.{filter_alike}

none_placed : (n : ℕ) (f : LogRecord → Bool) (log : List LogRecord) → is_none (place_from n f log) ≡ not (list_any f log)
none_placed n f [] = refl
none_placed n f (r ∷ rs) = at (f r) (none_placed (suc n) f rs)
  where
    at : (b : Bool) → is_none (place_from (suc n) f rs) ≡ not (list_any f rs) → is_none (cond b (Some n) (place_from (suc n) f rs)) ≡ not (b || list_any f rs)
    at true more = refl
    at false more = more

-- the transactions with a COMMIT in the log are settled, each at its COMMIT's place, and no other
abbrev pub AreInLog : Dependencies → Local → Type 0
AreInLog d l = (t : TxId) → tx_get t d.commits ≡ commit_lsn l.log t

module _ (d : Dependencies) (l : Local) (pairs : d.pairs ≡ l.pairs) (settled : AreInLog d l) where
  open_alike : (t : TxId) → is_none (tx_get t d.commits) ≡ not (committed_in l.log t)
  open_alike t = ap is_none (settled t) ∙ none_placed 0 (is_commit_of t) l.log

  pub undecided_by-log : (tx : TxId) → undecided_by d tx ≡ undecided_of l tx
  undecided_by-log tx =
      filter_alike (λ p. is_none (tx_get p d.commits)) (λ p. not (committed_in l.log p)) (predecessors_of d.pairs tx) open_alike
      ∙ ap (λ ps. filter (λ p. not (committed_in l.log p)) (predecessors_of ps tx)) pairs

  greatest_alike : (ps : List TxId) → greatest_of d.commits ps ≡ greatest_commit l.log ps
  greatest_alike [] = refl
  greatest_alike (p ∷ ps) = ap (λ n. greater_place n (greatest_of d.commits ps)) (settled p) ∙ ap (greater_place (commit_lsn l.log p)) (greatest_alike ps)

  pub due_of-log : (tx : TxId) → due_of d tx ≡ due_lsn_of l tx
  due_of-log tx =
      ap (λ us. due_by us (greatest_of d.commits (predecessors_of d.pairs tx))) (undecided_by-log tx)
      ∙ ap (due_by (undecided_of l tx)) (greatest_alike (predecessors_of d.pairs tx) ∙ ap (λ ps. greatest_commit l.log (predecessors_of ps tx)) pairs)

  -- those that the transaction would have with these
  pub undecided_like_log : (tx : TxId) (more : List TxId)
      → filter (λ p. is_none (tx_get p d.commits)) (tx_union more (predecessors_of d.pairs tx)) ≡ filter (λ p. not (committed_in l.log p)) (tx_union more (predecessors_of l.pairs tx))
  undecided_like_log tx more =
      filter_alike (λ p. is_none (tx_get p d.commits)) (λ p. not (committed_in l.log p)) (tx_union more (predecessors_of d.pairs tx)) open_alike
      ∙ ap (λ ps. filter (λ p. not (committed_in l.log p)) (tx_union more (predecessors_of ps tx))) pairs
