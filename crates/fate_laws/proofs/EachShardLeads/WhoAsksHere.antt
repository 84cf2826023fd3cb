-- Who asks by an entry: by its own shard's laws, or as one that others ask.
use Rattle.std.proofs.Common.{◌≡◌, refl, sym, ap, subst, ◌∙◌, ℕ, true, false, Bool, List, [], ◌∷◌, ◌++◌, Option, Some, None}
use Rattle.clv_base.specs.declared.names.TxId.{TxId}
use Rattle.clv_base.specs.declared.logs.LogRecord.{LogRecord}
use Rattle.clv_base.specs.declared.state.Stage.{Stage}
use Rattle.clv_base.specs.declared.state.Stage.TheVariants.{Active, Closed, Gone}
use Rattle.clv_base.specs.declared.events.Event.{Event}
use Rattle.clv_base.specs.declared.events.Event.TheVariants.{Request as RequestEvent}
use Rattle.clv_base.specs.declared.events.Outcome.{Outcome}
use Rattle.clv_base.specs.Orders.{tx_in}
use Rattle.clv_base.specs.State.{Shard}
use Rattle.clv_base.specs.Undo.{stage_of}
use Rattle.clv_base.specs.OneShard.{seen_fits}
use Rattle.clv_base.specs.Events.{Does, happen, request_event, request_by_stage, epoch_in}
use Rattle.clv_base.specs.History.{request_of}
use Rattle.law_base.proofs.Changed.{none_some, some_same}
use Rattle.shard_laws.specs.OneShard.{Deeds, Leads, others_ask, with_one, new_asked, asks_by_stage}
use Rattle.fate_laws.proofs.EachShardLeads.MessagesMayCome.{when_up}

asks_active : (t u : TxId) (o : Option Stage) (b : Bool) → asks_by_stage t o b ≡ Some u → (o ≡ Some Active) × (b ≡ true) × (t ≡ u)
asks_active t u None b e = absurd (none_some u e)
asks_active t u (Some Active) true e = (refl, refl, some_same t u e)
asks_active t u (Some Active) false e = absurd (none_some u e)
asks_active t u (Some Closed) b e = absurd (none_some u e)
asks_active t u (Some (Gone d)) b e = absurd (none_some u e)

same_outcome : {o p : Outcome} {s t : Shard} → Does o s ≡ Does p t → p ≡ o
same_outcome e = cc

-- a part that is closed for a request is that of one that was taken
own_asks : (s t : Shard) (e : Event) (o : Outcome) (u : TxId) → happen s e ≡ Does o t → new_asked s e ≡ Some u → request_of e o ≡ Some u
own_asks s t (RequestEvent tx ts) o u f g =
    let a = asks_active tx u (stage_of s.local tx) (seen_fits s.local.epoch (epoch_in s.shard ts)) g in
    when_up s (RequestEvent tx ts) o t
    (λ k. ap (request_of (RequestEvent tx ts)) (same_outcome (sym (ap (request_event s tx ts) a.1 ∙ ap (request_by_stage s tx ts) a.0) ∙ k)) ∙ ap (λ z. Some z) a.2) f
own_asks s t _ o u f g = absurd (none_some u g)

-- one that others ask, or none
pub with_others : (n run : ℕ) (log0 : List LogRecord) (d : Deeds) (s : Shard) (o : Option TxId) → ((u : TxId) → o ≡ Some u → tx_in u d.asked ≡ false) → Leads n run log0 d s → Leads n run log0 (record d { asked = with_one d.asked o }) s
with_others n run log0 d s None k l = l
with_others n run log0 d s (Some u) k l = others_ask u l (k u refl)

by_own : (n run : ℕ) (log0 : List LogRecord) (d : Deeds) (s : Shard) (own o : Option TxId) → ((u : TxId) → own ≡ Some u → o ≡ Some u) → ((u : TxId) → o ≡ Some u → tx_in u d.asked ≡ false)
    → Leads n run log0 (record d { asked = with_one d.asked own }) s → Leads n run log0 (record d { asked = with_one d.asked o }) s
by_own n run log0 d s None o k f l = with_others n run log0 d s o f l
by_own n run log0 d s (Some u) None k f l = absurd (none_some u (k u refl))
by_own n run log0 d s (Some u) (Some v) k f l = at (some_same v u (k u refl)) l
  where
    at : v ≡ u → Leads n run log0 (record d { asked = d.asked ++ u ∷ [] }) s → Leads n run log0 (record d { asked = d.asked ++ v ∷ [] }) s
    at e m = subst (λ z. Leads n run log0 (record d { asked = d.asked ++ z ∷ [] }) s) (sym e) m

-- after the shard's own entry: who asked is whose request was taken
pub asked_own : (n run : ℕ) (log0 : List LogRecord) (d : Deeds) (s t w : Shard) (e : Event) (o : Outcome) → happen s e ≡ Does o t → ((u : TxId) → request_of e o ≡ Some u → tx_in u d.asked ≡ false)
    → Leads n run log0 (record d { asked = with_one d.asked (new_asked s e) }) w → Leads n run log0 (record d { asked = with_one d.asked (request_of e o) }) w
asked_own n run log0 d s t w e o f k l = by_own n run log0 d w (new_asked s e) (request_of e o) (λ u g. own_asks s t e o u f g) k l
