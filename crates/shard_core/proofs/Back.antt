-- The parts after a going back: its newest writes are gone, and it alone is a candidate.
use Rattle.std.proofs.Common.{◌≡◌, refl, sym, ap, subst, ◌∙◌, ℕ, [], ◌∷◌, Option, Some, None, is_some, drop, eq-eqb, eqb-true, ◌==◌, arith}
use Rattle.std.proofs.lemmas.Bool.{false_from_ne_true}
use Rattle.clv_base.specs.declared.names.TxId.{TxId}
use Rattle.clv_base.specs.declared.causes.AbortCause.TheVariants.{Restarted}
use Rattle.clv_base.specs.declared.events.Outcome.TheVariants.{Dead}
use Rattle.clv_base.specs.declared.state.Stage.TheVariants.{Active, Gone}
use Rattle.clv_base.specs.Orders.{tx_insert}
use Rattle.clv_base.specs.Logs.{prepare_lsn}
use Rattle.clv_base.specs.State.{Shard, Local, with_local}
use Rattle.clv_base.specs.Undo.{stage_of, roll_to}
use Rattle.clv_base.specs.OneShard.{purge}
use Rattle.clv_base.specs.Events.{Does, finish, roll_by_stage}
use Rattle.protocol_laws.proofs.Laws.{rolls_touch}
use Rattle.tx_table.specs.Held.{Candidates}
use Rattle.due_step.specs.Noting.{known_keys}
use Rattle.txn_core.specs.State.{TxState, IsSameBut}
use Rattle.txn_core.specs.Sound.{KeepsSpare}
use Rattle.shard_core.specs.Rolling.{goes_back, gone_cause}
use Rattle.shard_core.specs.Whole.{IsAtRest}
use Rattle.shard_core.proofs.Changing.{room_kept}
use Rattle.shard_core.proofs.Logged.{All, logged_back}
use Rattle.shard_core.proofs.Parts.{Parts, seen, viewed, Holds, Changed, changed, AreKept}
use Rattle.shard_core.proofs.Requested.{known_own, own_within}
use Rattle.shard_core.proofs.Seeing.{back_prepares}
use Rattle.shard_core.proofs.Taking.{stage_known}

pub back_changed : (a : Parts) (tx : TxId) (n : ℕ) (u : TxState) (f : Candidates) → IsAtRest (viewed a) → Holds a → stage_of a.transactions.local tx ≡ Some Active
    → IsSameBut a.transactions (roll_to tx n a.transactions.local) u → KeepsSpare a.transactions u → u.pairs_room ≡ a.transactions.pairs_room → f ≡ record a.candidates { txs = tx_insert tx a.candidates.txs }
    → AreKept (record a { transactions = u; candidates = f }) → Changed (record a { transactions = u; candidates = f }) (with_local (roll_to tx n) (seen a))
back_changed a tx n u f rest whole active e room pairs put kept =
    let s : Shard = seen a in let t = a.transactions in let l = t.local in let V : Shard = with_local (roll_to tx n) s in let b : Parts = record a { transactions = u; candidates = f } in
    let own = stage_known s tx (ap is_some active) in
    let k = known_own s tx a.candidates f whole.candidates own put in
    changed a b V (tx ∷ []) rest whole
    (ap (λ (x : TxState). seen (record a { transactions = x })) e
    ∙ ap (λ (m : Local). record V { local = m }) (sym (ap (λ (x : TxState). purge x.local) (sym e) ∙ kept.purged ∙ ap (λ (x : TxState). x.local) e)))
    (rolls_touch s tx n)
    (own_within tx a.candidates f put)
    (record { shard = refl; transactions = ap (λ (x : TxState). x.shard) e; participant = refl; coordinator = refl })
    (λ x. whole.prepares x ∙ sym (back_prepares tx n l x) ∙ ap (λ (y : TxState). prepare_lsn (y.local).log x) (sym e))
    whole.dependents
    (subst (λ (x : TxState). All (known_keys V) (drop x.durable (x.local).log)) (sym e) (logged_back (known_keys s) tx n t.durable l own whole.logged))
    (record { known = k.known; places = k.places })
    (room_kept s V t u a.outbox a.outbox (omega arith) room (omega (arith, pairs)) (omega arith) whole.room)
    rest.ready.requests
    kept

-- ---- what it comes to

module _ (s : Shard) (tx : TxId) (n seen now : ℕ) (is_now : now ≡ s.local.epoch) where
  -- another epoch
  pub other_epoch : (seen ≡ now → ⊥) → finish s ≡ s → goes_back s tx seen n (seen == s.local.epoch) ≡ Does (Dead (Restarted s.shard seen now)) s
  other_epoch apart rest =
      ap (goes_back s tx seen n) (false_from_ne_true _ (λ h. apart (eqb-true seen s.local.epoch h ∙ sym is_now)))
      ∙ ap (λ k. Does (Dead (Restarted s.shard seen k)) (finish s)) (sym is_now) ∙ ap (Does (Dead (Restarted s.shard seen now))) rest

  -- the same
  pub same_epoch : seen ≡ now → goes_back s tx seen n (seen == s.local.epoch) ≡ roll_by_stage s tx n (stage_of s.local tx)
  same_epoch same = ap (goes_back s tx seen n) (eq-eqb seen s.local.epoch (same ∙ is_now))

-- a part that is gone
pub back_gone : (s : Shard) (tx : TxId) (n : ℕ) (doom : Option TxId) → roll_by_stage s tx n (Some (Gone doom)) ≡ Does (Dead (gone_cause tx doom)) (finish s)
back_gone s tx n None = refl
back_gone s tx n (Some doom) = refl
