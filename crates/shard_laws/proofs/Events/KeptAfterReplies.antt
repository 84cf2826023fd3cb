-- What a shard keeps after each reply to an event, and where nothing is answered and nobody asks.
use Rattle.std.proofs.Common.{◌≡◌, Bool, true, false, cond, List, [], ◌++◌, Some, None, sym, ap, subst, ◌∙◌}
use Rattle.clv_base.specs.declared.names.TxId.{TxId}
use Rattle.clv_base.specs.Orders.{tx_in}
use Rattle.clv_base.specs.State.{Shard}
use Rattle.clv_base.specs.Events.{Reply, QuietBeforeWorn, QuietAfterWorn, Does, finish}
use Rattle.law_base.specs.Items.{Deed}
use Rattle.shard_laws.proofs.Keeping.WhatOneShardKeeps.{Past}
use Rattle.clv_base.specs.declared.events.Event.{Event}
use Rattle.clv_base.specs.declared.events.Outcome.{Outcome}
use Rattle.shard_laws.specs.OneShard.{with_one, new_deed, new_asked, new_told, new_met}
use Rattle.std.proofs.lemmas.Option.{none-some}
use Rattle.shard_laws.proofs.Events.DueKeeps.{Sound, After, More_over, at_once, finish_sound}

abbrev pub Later : List Deed → Past → Shard → Event → Outcome → Shard → Type 0
Later all g s e o t = (h : Past) × Sound (with_one all (new_deed s e o)) h t × (h.start ≡ g.start) × (h.base ≡ g.base) × (h.asked ≡ with_one g.asked (new_asked s e)) × More_over g h × ((u : TxId) → new_told e o ≡ Some u → tx_in u h.over ≡ true) × (h.met ≡ new_met s e o ++ g.met) × (h.fell ≡ g.fell)

pub data Keeps_reply (all : List Deed) (g : Past) (s : Shard) (e : Event) : Reply → Type 0 where
  early : {o : Outcome} → Keeps_reply all g s e (QuietBeforeWorn o)
  late : {o : Outcome} → Keeps_reply all g s e (QuietAfterWorn o)
  does : {o : Outcome} {t : Shard} → Later all g s e o t → Keeps_reply all g s e (Does o t)

-- where nothing is answered and nobody asks
abbrev Same : List Deed → Past → Shard → Event → Outcome → Type 0
Same all g s e o = (with_one all (new_deed s e o) ≡ all) × (with_one g.asked (new_asked s e) ≡ g.asked) × (new_met s e o ≡ [])

pub ends_told : (all : List Deed) (g : Past) (s u : Shard) (e : Event) (o : Outcome) → Same all g s e o → (a : After all g u) → ((t : TxId) → new_told e o ≡ Some t → tx_in t (a.0).over ≡ true) → Keeps_reply all g s e (Does o (finish u))
ends_told all g s u e o same a told =
    let f = finish_sound all a.0 u a.1 in
    does (f.0, subst (λ l. Sound l f.0 (finish u)) (sym same.0) f.1, f.2 ∙ a.2, f.3 ∙ a.3, f.4 ∙ a.4 ∙ sym same.1, (λ t i. f.5 t (a.5 t i)), (λ t n. f.5 t (told t n)), f.6 ∙ a.6 ∙ sym (ap (λ l. l ++ g.met) same.2), f.7 ∙ a.7)

pub ends : (all : List Deed) (g : Past) (s u : Shard) (e : Event) (o : Outcome) → Same all g s e o → new_told e o ≡ None → After all g u → Keeps_reply all g s e (Does o (finish u))
ends all g s u e o same none a = ends_told all g s u e o same a (λ t n. absurd (none-some t (sym none ∙ n)))

pub at_cond : (all : List Deed) (g : Past) (s : Shard) (e : Event) (b : Bool) (x y : Reply) → Keeps_reply all g s e x → Keeps_reply all g s e y → Keeps_reply all g s e (cond b x y)
at_cond all g s e true x y p q = p
at_cond all g s e false x y p q = q

pub quietly : (all : List Deed) (g : Past) (s u : Shard) (e : Event) (o : Outcome) → Same all g s e o → new_told e o ≡ None → Sound all g u → Keeps_reply all g s e (Does o (finish u))
quietly all g s u e o same none h = ends all g s u e o same none (at_once all g u h)
