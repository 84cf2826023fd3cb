-- Where only room was made, all stays that holds of a shard's transactions.
use Rattle.std.proofs.Common.{◌≡◌, ◌≤◌, ◌∙◌, ℕ, refl, sym, subst, arith}
use Rattle.clv_base.specs.declared.names.TxId.{TxId}
use Rattle.clv_base.specs.Orders.{Table, tx_get}
use Rattle.clv_base.specs.State.{Local}
use Rattle.txn_core.specs.State.{TxState, IsSameBut}
use Rattle.txn_core.specs.Sound.{IsKept, KeepsSpare}
use Rattle.txn_core.proofs.Undoing.{sound_more, state_same}

pub kept_still : (l m : Local) (commits rest : Table ℕ) (spare left : ℕ) → m ≡ l → ((t : TxId) → tx_get t rest ≡ tx_get t commits) → spare ≤ left → IsKept commits l spare → IsKept rest m left
kept_still l m commits rest spare left is same more kept = subst (λ (x : Local). IsKept rest x left) (sym is) (record {
  settled = λ t. same t ∙ kept.settled t;
  sound = sound_more l l spare left refl more kept.sound;
  ghosts = kept.ghosts;
  few = kept.few;
  spelled = kept.spelled;
})

module _ (n : ℕ) (l m : Local) (durable taken room more pairs others : ℕ) (v : TxState)
    (view : ◌≡◌ {A = TxState} (record { shard = n; local = l; durable = durable; taken = taken; room = room; pairs_room = pairs }) v) (is : m ≡ l) where
  pub same_still : (d t : ℕ) → d ≡ durable → t ≡ taken → IsSameBut v v.local (record { shard = n; local = m; durable = d; taken = t; room = more; pairs_room = others })
  same_still d t a b =
      subst (λ (x : TxState). IsSameBut x x.local (record { shard = n; local = m; durable = d; taken = t; room = more; pairs_room = others })) view (state_same n m l d durable t taken more others is a b)

  pub spare_still : (d t : ℕ) → room ≤ more → KeepsSpare v (record { shard = n; local = m; durable = d; taken = t; room = more; pairs_room = others })
  spare_still d t h =
      subst (λ (x : TxState). KeepsSpare x (record { shard = n; local = m; durable = d; taken = t; room = more; pairs_room = others })) view
      (subst (λ (x : Local). KeepsSpare (record { shard = n; local = l; durable = durable; taken = taken; room = room; pairs_room = pairs }) (record { shard = n; local = x; durable = d; taken = t; room = more; pairs_room = others })) (sym is) (omega (arith, h)))
