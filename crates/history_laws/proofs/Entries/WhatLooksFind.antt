-- What comes of a look that finds an abort.
use Rattle.std.proofs.Common.{◌≡◌, refl, ap, subst}
use Rattle.clv_base.specs.declared.names.TxId.{TxId}
use Rattle.clv_base.specs.declared.causes.AbortCause.{AbortCause}
use Rattle.clv_base.specs.declared.events.Event.{Event}
use Rattle.clv_base.specs.declared.events.Event.TheVariants.{Look}
use Rattle.clv_base.specs.declared.events.Outcome.{Outcome}
use Rattle.clv_base.specs.declared.events.Outcome.TheVariants.{Aborted}
use Rattle.clv_base.specs.State.{Shard}
use Rattle.clv_base.specs.Events.{finish}
use Rattle.history_cases.proofs.Stepping.{FindsIll, Step, looks_ill, Happens, finishes, stops}

-- it leaves the shard as it was, with what is due done
pub data IllOf (s t : Shard) (tx : TxId) (cause : AbortCause) : Type 0 where
  ill : FindsIll s tx cause → t ≡ finish s → IllOf s t tx cause

one_look : {t u : TxId} → Look t ≡ Look u → t ≡ u
one_look e = cc

one_cause : {c d : AbortCause} → Aborted c ≡ Aborted d → c ≡ d
one_cause e = cc

pub ill_step : (s t : Shard) {e : Event} {o : Outcome} → Step s e o t → (tx : TxId) (c : AbortCause) → e ≡ Look tx → o ≡ Aborted c → FindsIll s tx c × (t ≡ s)
ill_step s _ (looks_ill t cause d g) tx c q r = (subst (λ z. FindsIll s z c) (one_look q) (subst (FindsIll s t) (one_cause r) g), refl)
ill_step s _ _ tx c q r = absurd cc

pub ill_happens : (s t : Shard) {e : Event} {o : Outcome} → Happens s e o t → (tx : TxId) (c : AbortCause) → e ≡ Look tx → o ≡ Aborted c → IllOf s t tx c
ill_happens s _ (finishes {t = t} u g) tx c q r = let p = ill_step s t g tx c q r in ill p.0 (ap finish p.1)
ill_happens s _ (stops u) tx c q r = absurd cc
