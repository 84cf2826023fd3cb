-- What a hash map tells of requests, through what is put and changed.
use Rattle.std.proofs.Common.{◌≡◌, ℕ, Bool, true, false, cond, not, ◌&&◌, Option, Some, None, is_some, refl, sym, ap, subst, ◌∙◌}
use Rattle.clv_base.specs.declared.names.TxId.{TxId}
use Rattle.clv_base.specs.declared.causes.Vote.{Vote}
use Rattle.clv_base.specs.declared.state.Request.{Request}
use Rattle.clv_base.specs.Orders.{Table, nat_in, tx_get, tx_put, tx_same, tx_set}
use Rattle.clv_base.specs.Coordinator.{counts_done, counts_vote, takes_done, takes_vote, vote_from, with_done_of, with_vote_of}
use Rattle.clv_base.proofs.SameNames.{tx_true}
use Rattle.law_base.proofs.Sets.{same_flip as tx_symmetric}
use Rattle.law_base.proofs.Tables.{get_put}
use Rattle.tx_table.proofs.Laws.{get_set_there}
use Rattle.two_phase_commit.specs.declared.brief.Brief.{Brief}
use Rattle.two_phase_commit.specs.declared.brief.Brief.TheVariants.{Alone, Other}
use Rattle.two_phase_commit.specs.declared.form.Stage.{Stage}
use Rattle.two_phase_commit.specs.declared.form.Stage.TheVariants.{Undecided, Committed, Finished, Asked}
use Rattle.two_phase_commit.specs.Asked.{AreAsked, IsAlone, IsTold, Tells}
use Rattle.two_phase_commit.specs.Kept.{state_at}

-- what another shard says changes no request of one shard
vote_refused : (shard from : ℕ) (stage : Stage) (q : Request) → IsAlone shard stage q → takes_vote shard from q ≡ false
vote_refused shard from Undecided q is = ap (counts_vote shard from q) is.state ∙ ap (λ ns. nat_in from ns && not (is_some (vote_from from q.votes))) is.only
vote_refused shard from Committed q is = ap (counts_vote shard from q) is.state
vote_refused shard from Finished q is = ap (counts_vote shard from q) is.state
vote_refused shard from Asked q is = ap (counts_vote shard from q) is.state

pub vote_told : (shard from : ℕ) (vote : Vote) (q w : Request) (t : Bool) → t ≡ takes_vote shard from q → w ≡ cond t (with_vote_of from vote q) q → (b : Brief) → Tells shard b q → Tells shard b w
vote_told shard from vote q w t e made (Alone stage) is = subst (IsAlone shard stage) (sym (made ∙ ap (λ b. cond b (with_vote_of from vote q) q) (e ∙ vote_refused shard from stage q is))) is
vote_told shard from vote q w t e made Other is = tt

done_refused : (from : ℕ) (stage : Stage) (q : Request) → q.state ≡ state_at stage → takes_done from q ≡ false
done_refused from Undecided q e = ap (counts_done from q) e
done_refused from Committed q e = ap (counts_done from q) e
done_refused from Finished q e = ap (counts_done from q) e
done_refused from Asked q e = ap (counts_done from q) e

pub done_told : (shard from : ℕ) (q w : Request) (t : Bool) → t ≡ takes_done from q → w ≡ cond t (with_done_of from q) q → (b : Brief) → Tells shard b q → Tells shard b w
done_told shard from q w t e made (Alone stage) is = subst (IsAlone shard stage) (sym (made ∙ ap (λ b. cond b (with_done_of from q) q) (e ∙ done_refused from stage q is.state))) is
done_told shard from q w t e made Other is = tt

-- where nothing is told otherwise, a changed request is told of as before
pub told_kept : (shard : ℕ) (tx : TxId) (w q : Request) (names : Table Brief) (rows : Table Request) → tx_get tx rows ≡ Some q → AreAsked shard names rows → ((b : Brief) → Tells shard b q → Tells shard b w)
    → AreAsked shard names (tx_set tx w rows)
told_kept shard tx w q names rows there are keeps t = subst (IsTold shard (tx_get t names)) (sym (get_set_there tx t w q rows there)) (at (tx_same t tx) refl)
  where
    one : (b : Option Brief) → IsTold shard b (Some q) → IsTold shard b (Some w)
    one None is = is
    one (Some b) is = keeps b is

    at : (s : Bool) → tx_same t tx ≡ s → IsTold shard (tx_get t names) (cond s (Some w) (tx_get t rows))
    at true e = one (tx_get t names) (subst (IsTold shard (tx_get t names)) (subst (λ x. tx_get x rows ≡ Some q) (sym (tx_true t tx e)) there) (are t))
    at false e = are t

-- a request with what is told of it
told_at : (shard : ℕ) (tx t : TxId) (b : Brief) (q : Request) (names : Option Brief) (rows : Option Request) → IsTold shard names rows → Tells shard b q
    → IsTold shard (cond (tx_same tx t) (Some b) names) (cond (tx_same t tx) (Some q) rows)
told_at shard tx t b q names rows is tells = subst (λ s. IsTold shard (cond (tx_same tx t) (Some b) names) (cond s (Some q) rows)) (tx_symmetric tx t) (at (tx_same tx t))
  where
    at : (s : Bool) → IsTold shard (cond s (Some b) names) (cond s (Some q) rows)
    at true = tells
    at false = is

pub told_put : (shard : ℕ) (tx : TxId) (b : Brief) (q : Request) (names more : Table Brief) (rows : Table Request) → AreAsked shard names rows → Tells shard b q
    → ((t : TxId) → tx_get t more ≡ cond (tx_same tx t) (Some b) (tx_get t names)) → AreAsked shard more (tx_put tx q rows)
told_put shard tx b q names more rows are tells changes t =
    subst (λ o. IsTold shard o (tx_get t (tx_put tx q rows))) (sym (changes t))
    (subst (IsTold shard (cond (tx_same tx t) (Some b) (tx_get t names))) (sym (get_put tx t q rows)) (told_at shard tx t b q (tx_get t names) (tx_get t rows) (are t) tells))

pub told_set : (shard : ℕ) (tx : TxId) (b : Brief) (w q : Request) (names more : Table Brief) (rows : Table Request) → tx_get tx rows ≡ Some q → AreAsked shard names rows → Tells shard b w
    → ((t : TxId) → tx_get t more ≡ cond (tx_same tx t) (Some b) (tx_get t names)) → AreAsked shard more (tx_set tx w rows)
told_set shard tx b w q names more rows there are tells changes t =
    subst (λ o. IsTold shard o (tx_get t (tx_set tx w rows))) (sym (changes t))
    (subst (IsTold shard (cond (tx_same tx t) (Some b) (tx_get t names))) (sym (get_set_there tx t w q rows there)) (told_at shard tx t b w (tx_get t names) (tx_get t rows) (are t) tells))
