-- What passes know of births, through a fetch, a restart and a look.
use Rattle.std.proofs.Common.{◌≡◌, ◌∙◌, sym, ap, subst, ℕ, List, ◌++◌, Option}
use Rattle.std.specs.List.{AllByRecursion}
use Rattle.clv_base.specs.State.{Shard}
use Rattle.law_base.proofs.Lists.{all_append}
use Rattle.turn_lock.specs.declared.pass.Pass.{Pass}
use Rattle.turn_lock.specs.Passes.{seen, own}
use Rattle.machine_laws.specs.declared.notes.Note.{Note}
use Rattle.machine_laws.specs.declared.notes.Origin.{Origin}
use Rattle.machine_laws.specs.Homes.{entries_in, state_of, IsLegal}
use Rattle.machine_laws.proofs.Laws.{entries_append}
use Rattle.cluster_turns.specs.Turns.{Turned}
use Rattle.cluster_turns.specs.Walkers.{Walked}
use Rattle.cluster_closing.proofs.Landing.{turned_own}
use Rattle.cluster_turns.specs.Births.{IsBornBy, IsInformed, AreInformed}
use Rattle.cluster_turns.proofs.Laws.{some_same, one_changes, changed, informed_later}
use Rattle.cluster_closing.specs.Restarted.{no_turn, one_turn}
use Rattle.cluster_closing.specs.ReviveLaws.{FetchesInform, RestartsInform, SettledLooksInform}
use Rattle.cluster_closing.proofs.Adding.{AddsCalmly, nothing_added, fetch_adds, revive_adds, revive_later}

module _ {T : Type 0} where
  turned_informs : {Told : Shard → Shard → List Note → Type 0} (w clock : ℕ) (p q : Pass T Note Origin) (t : Turned Told w p q) → AddsCalmly w clock t.added → IsInformed w clock p → IsInformed w clock q
  turned_informs w clock p q t adds i = record {
    legal = λ o has. (let same : t.origin ≡ o = some_same t.origin o (sym (t.origin_is ∙ t.has_origin) ∙ has) in
        subst (λ x. IsLegal x (seen q) (state_of x (seen q))) same (subst (λ ns. IsLegal t.origin ns (state_of t.origin ns)) (sym t.seen_is) (subst (λ u. IsLegal t.origin (t.before ++ t.added) u) t.t_is.is t.t_is)));
    own_seen = turned_own t adds.by i.own_seen;
    born = subst (λ es. AllByRecursion (λ e. IsBornBy clock e.event) es) (sym (ap entries_in t.own_is ∙ entries_append (own p) t.added)) (all_append (λ e. IsBornBy clock e.event) (entries_in (own p)) (entries_in t.added) i.born adds.born);
  }

  calmly_informs : {Told : Shard → Shard → List Note → Type 0} (n w clock : ℕ) (ps qs : List (Option (Pass T Note Origin))) (h : Walked Told n w ps qs) → AddsCalmly w clock h.turned.added → AreInformed w clock ps → AreInformed w clock qs
  calmly_informs n w clock ps qs h a i =
      changed (IsInformed w clock) n ps qs h.q h.after_is (one_changes (IsInformed w clock) (IsInformed w clock) n ps h.p h.q h.had (λ x k. k) (turned_informs w clock h.p h.q h.turned a) i)

  pub fetches_inform : {D : Type 0} → FetchesInform T D
  fetches_inform clock w n r before after h i = calmly_informs n w clock before after h (fetch_adds w clock r h.turned.s h.turned.t h.turned.added h.turned.told) i

  pub restarts_inform : {D : Type 0} → RestartsInform T D
  restarts_inform story splits run f w clock before _ _ _ (no_turn why) i = i
  restarts_inform story splits run f w clock before r clock' after (one_turn epoch found was free h) i =
      let t = h.turned in
      informed_later w clock clock' after (revive_later clock w epoch found r clock' t.s t.t t.added t.told)
      (calmly_informs f.shard w clock before after h (revive_adds clock w epoch found r clock' clock t.s t.t t.added t.told) i)

  pub settled_looks_inform : SettledLooksInform T
  settled_looks_inform clock w n answer before after h i = calmly_informs n w clock before after h (nothing_added w clock h.turned.added h.turned.told.added_is) i
