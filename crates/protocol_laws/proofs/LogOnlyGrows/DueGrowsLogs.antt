-- Beginnings of a list; and that all that is due leaves the log with more behind it.
use Rattle.std.proofs.Common.{refl, sym, ap, ◌∙◌, ℕ, zero, suc, true, false, cond, Bool, List, [], ◌∷◌, ◌++◌, Option, Some, None, append_assoc, append-nil}
use Rattle.clv_base.specs.declared.names.TxId.{TxId}
use Rattle.clv_base.specs.declared.causes.Vote.{Vote}
use Rattle.clv_base.specs.declared.causes.Vote.TheVariants.{Yes, Read, No}
use Rattle.clv_base.specs.declared.state.Ruling.TheVariants.{Commit, Acknowledge, Abort, End}
use Rattle.clv_base.specs.State.{Shard}
use Rattle.clv_base.specs.declared.state.Stage.{Stage}
use Rattle.clv_base.specs.declared.state.Stage.TheVariants.{Active, Closed, Gone}
use Rattle.clv_base.specs.declared.state.Voter.{Voter}
use Rattle.clv_base.specs.declared.state.Request.{Request}
use Rattle.clv_base.specs.declared.state.Ruling.{Ruling}
use Rattle.protocol_laws.specs.Growth.{IsPrefixOf, LogGrows, nothing, grown}
use Rattle.clv_base.specs.Orders.{tx_get}
use Rattle.clv_base.specs.Undo.{stage_of}
use Rattle.clv_base.specs.Facts.{facts_of}
use Rattle.clv_base.specs.Participant.{vote_by}
use Rattle.clv_base.specs.Coordinator.{ruling_by}
use Rattle.clv_base.specs.Due.{or_else, commit_due, vote_due, give_vote, request_due, rule, due_of, first_due, known_txs, next_due, do_due, with_due_done, work}
use Rattle.clv_base.proofs.Settling.{do_due_at}

pub same : {A : Type 0} (xs : List A) → IsPrefixOf xs xs
same xs = ([], append-nil xs)

pub more : {A : Type 0} (xs ys : List A) → IsPrefixOf xs (xs ++ ys)
more xs ys = (ys, refl)

pub more_twice : {A : Type 0} (xs ys zs : List A) → IsPrefixOf xs (xs ++ ys ++ zs)
more_twice xs ys zs = (ys ++ zs, sym (append_assoc xs ys zs))

pub chain : {A : Type 0} (xs ys zs : List A) → IsPrefixOf xs ys → IsPrefixOf ys zs → IsPrefixOf xs zs
chain xs ys zs p q = (p.0 ++ q.0, sym (append_assoc xs p.0 q.0) ∙ ap (λ l. l ++ q.0) p.1 ∙ q.1)

grows_cond : (s : Shard) (b : Bool) (x y : Option Shard) → LogGrows s x → LogGrows s y → LogGrows s (cond b x y)
grows_cond s true x y p q = p
grows_cond s false x y p q = q

grows_or_else : (s : Shard) (x y : Option Shard) → LogGrows s x → LogGrows s y → LogGrows s (or_else x y)
grows_or_else s None y p q = q
grows_or_else s (Some t) y p q = p

grows_commit : (s : Shard) (tx : TxId) (st : Option Stage) → LogGrows s (commit_due s tx st)
grows_commit s tx None = nothing
grows_commit s tx (Some Active) = nothing
grows_commit s tx (Some Closed) = grows_cond s _ _ _ (grown (same s.local.log)) nothing
grows_commit s tx (Some (Gone d)) = nothing

grows_give : (s : Shard) (tx : TxId) (v : Voter) (o : Option Vote) → LogGrows s (give_vote s tx v o)
grows_give s tx v None = nothing
grows_give s tx v (Some Yes) = grown (same s.local.log)
grows_give s tx v (Some Read) = grown (same s.local.log)
grows_give s tx v (Some (No why)) = grown (same s.local.log)

grows_vote : (s : Shard) (tx : TxId) (o : Option Voter) → LogGrows s (vote_due s tx o)
grows_vote s tx None = nothing
grows_vote s tx (Some v) = grows_give s tx v (vote_by (facts_of s tx) v)

grows_rule : (s : Shard) (tx : TxId) (q : Request) (r : Option Ruling) → LogGrows s (rule s tx q r)
grows_rule s tx q None = nothing
grows_rule s tx q (Some (Commit parts)) = grown (more s.local.log _)
grows_rule s tx q (Some Acknowledge) = grown (same s.local.log)
grows_rule s tx q (Some (Abort cause to)) = grown (more_twice s.local.log _ _)
grows_rule s tx q (Some End) = grown (more s.local.log _)

grows_request : (s : Shard) (tx : TxId) (o : Option Request) → LogGrows s (request_due s tx o)
grows_request s tx None = nothing
grows_request s tx (Some q) = grows_rule s tx q (ruling_by s.shard tx q (facts_of s tx))

grows_due : (s : Shard) (tx : TxId) → LogGrows s (due_of s tx)
grows_due s tx =
    grows_or_else s _ _ (grows_commit s tx (stage_of s.local tx)) (grows_or_else s _ _ (grows_vote s tx (tx_get tx s.voters)) (grows_request s tx (tx_get tx s.requests)))

grows_found : (s : Shard) (o : Option Shard) (rest : Option Shard) → LogGrows s o → LogGrows s rest → LogGrows s (elim o [ Some t ↦ Some t | None ↦ rest ])
grows_found s None rest g h = h
grows_found s (Some t) rest g h = g

grows_first : (s : Shard) (txs : List TxId) → LogGrows s (first_due s txs)
grows_first s [] = nothing
grows_first s (tx ∷ txs) = grows_found s (due_of s tx) _ (grows_due s tx) (grows_first s txs)

grows_next : (s : Shard) → LogGrows s (next_due s)
grows_next s = grows_first s (known_txs s)

settle_step : (n : ℕ) (s : Shard) (o : Option Shard) → LogGrows s o → ((t : Shard) → IsPrefixOf t.local.log (do_due n t).local.log) → IsPrefixOf s.local.log (do_due_at n s o).local.log
settle_step n s None g h = same s.local.log
settle_step n s (Some t) (grown g) h = chain s.local.log t.local.log _ g (h t)

grows_settle : (n : ℕ) (s : Shard) → IsPrefixOf s.local.log (do_due n s).local.log
grows_settle zero s = same s.local.log
grows_settle (suc n) s = settle_step n s (next_due s) (grows_next s) (grows_settle n)

pub grows_settled : (s : Shard) → IsPrefixOf s.local.log (with_due_done s).local.log
grows_settled s = grows_settle (work s) s
