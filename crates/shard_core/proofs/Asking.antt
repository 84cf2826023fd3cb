-- What a request comes to, by the epoch that it names.
use Rattle.std.proofs.Common.{◌≡◌, refl, sym, ap, ◌∙◌, ℕ, true, false, List, Option, Some, None, eq-eqb, eqb-true, unwrap_or}
use Rattle.std.proofs.lemmas.Bool.{false_from_ne_true}
use Rattle.clv_base.specs.declared.names.TxId.{TxId}
use Rattle.clv_base.specs.declared.causes.AbortCause.TheVariants.{Restarted}
use Rattle.clv_base.specs.declared.events.Outcome.TheVariants.{Dead}
use Rattle.clv_base.specs.declared.state.Stage.TheVariants.{Gone}
use Rattle.clv_base.specs.State.{Shard}
use Rattle.clv_base.specs.Undo.{stage_of}
use Rattle.clv_base.specs.OneShard.{seen_fits}
use Rattle.clv_base.specs.Events.{Does, finish, epoch_in, request_event, request_by_stage}
use Rattle.shard_core.specs.Requesting.{requested, gone_answer}

-- the epoch that is named, as it is found
pub named : (s : Shard) (shard seen now : ℕ) (slice touched : List (ℕ × ℕ)) (found : Option ℕ) → seen ≡ unwrap_or found now → found ≡ epoch_in shard slice → slice ≡ touched → shard ≡ s.shard → seen ≡ unwrap_or (epoch_in s.shard touched) now
named s shard seen now slice touched found e f t h = e ∙ ap (λ o. unwrap_or o now) (f ∙ ap (epoch_in shard) t ∙ ap (λ k. epoch_in k touched) h)

module _ (s : Shard) (tx : TxId) (touched : List (ℕ × ℕ)) (now seen : ℕ) (is_now : now ≡ s.local.epoch) (is_seen : seen ≡ unwrap_or (epoch_in s.shard touched) now) where
  -- another epoch
  pub misfit : (seen ≡ now → ⊥) → finish s ≡ s → request_event s tx touched (seen_fits s.local.epoch (epoch_in s.shard touched)) ≡ Does (Dead (Restarted s.shard seen now)) s
  misfit apart rest =
      let o = by (epoch_in s.shard touched) is_seen in
      ap (request_event s tx touched) o.0 ∙ ap (λ n. Does (Dead (Restarted s.shard n s.local.epoch)) (finish s)) o.1 ∙ ap (λ n. Does (Dead (Restarted s.shard seen n)) (finish s)) (sym is_now)
      ∙ ap (λ (t : Shard). Does (Dead (Restarted s.shard seen now)) t) rest
    where
      by : (o : Option ℕ) → seen ≡ unwrap_or o now → (seen_fits s.local.epoch o ≡ false) × (unwrap_or o 0 ≡ seen)
      by None e = absurd (apart e)
      by (Some k) e = (false_from_ne_true _ (λ h. apart (e ∙ eqb-true k s.local.epoch h ∙ sym is_now)), sym e)

  -- the same
  pub fits : seen ≡ now → request_event s tx touched (seen_fits s.local.epoch (epoch_in s.shard touched)) ≡ request_by_stage s tx touched (stage_of s.local tx)
  fits same = ap (request_event s tx touched) (by (epoch_in s.shard touched) is_seen)
    where
      by : (o : Option ℕ) → seen ≡ unwrap_or o now → seen_fits s.local.epoch o ≡ true
      by None e = refl
      by (Some k) e = eq-eqb k s.local.epoch (sym e ∙ same ∙ is_now)

-- a part that is gone
pub gone_by : (s : Shard) (tx : TxId) (touched : List (ℕ × ℕ)) (doom : Option TxId) → request_by_stage s tx touched (Some (Gone doom)) ≡ Does (requested (gone_answer tx doom)) (finish s)
gone_by s tx touched None = refl
gone_by s tx touched (Some doom) = refl
