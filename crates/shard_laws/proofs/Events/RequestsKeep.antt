-- A request keeps what a shard keeps.
use Rattle.std.proofs.Common.{◌≡◌, ℕ, ◌⊎◌, inl, inr, ⊎_elim, Bool, true, false, cond, not, List, [], ◌∷◌, ◌++◌, length, Option, Some, None, ◌==◌, refl, sym, ap, subst, ◌∙◌, arith}
use Rattle.std.proofs.lemmas.Bool.{cases_Bool, both_ways, cond-false, or_cases, not-true, false_from_ne_true}
use Rattle.clv_base.specs.declared.names.TxId.{TxId}
use Rattle.clv_base.specs.declared.logs.LogRecord.{LogRecord}
use Rattle.clv_base.specs.declared.logs.LogRecord.TheVariants.{Prepare, Commit}
use Rattle.protocol_laws.proofs.LogsInOrder.OneRecordMore.{prepared_there}
use Rattle.shard_laws.proofs.Keeping.ChangesKeepPrepared.{prepare_here, unprepared_append}
use Rattle.shard_laws.proofs.Order.StepsKeepOrder.{KeepsOrder, order_asked, order_closes}
use Rattle.shard_laws.proofs.Order.WhatRulingsMayWrite.{Ruled}
use Rattle.clv_base.specs.declared.state.Stage.{Stage}
use Rattle.clv_base.specs.declared.state.Stage.TheVariants.{Active, Closed, Gone}
use Rattle.clv_base.specs.Orders.{tx_same, tx_in, tx_get}
use Rattle.clv_base.specs.Logs.{committed_in, prepared_in, prepare_of, has_standing, standing}
use Rattle.clv_base.specs.Locks.{close_locks}
use Rattle.clv_base.specs.State.{Shard, with_local, is_present}
use Rattle.clv_base.specs.Undo.{stage_of}
use Rattle.clv_base.specs.Facts.{predecessors_of, undecided_of}
use Rattle.clv_base.specs.Coordinator.{new_request, others}
use Rattle.clv_base.specs.OneShard.{seen_fits, closing, closed_in, close_part}
use Rattle.clv_base.specs.Events.{is_alone, epoch_in, coordinate, request_by_stage, request_event}
use Rattle.law_base.specs.Items.{Deed}
use Rattle.clv_base.proofs.SameNames.{or_left, or_right, tx_true, tx_self, tx_ne}
use Rattle.law_base.proofs.Tables.{stage_in, is_pair, pair_in, in_pair}
use Rattle.law_base.proofs.Commits.{uncommitted_append, closing_commits}
use Rattle.shard_laws.proofs.Keeping.WhatOneShardKeeps.{Past, Kept}
use Rattle.clv_base.specs.declared.state.Request.{Request}
use Rattle.clv_base.specs.declared.state.RequestState.TheVariants.{Undecided, Committed, Finished}
use Rattle.clv_base.specs.declared.state.Voter.{Voter}
use Rattle.clv_base.specs.declared.events.Event.TheVariants.{Request as RequestEvent}
use Rattle.clv_base.specs.Orders.{tx_put}
use Rattle.shard_laws.proofs.Keeping.WhatOneShardKeeps.{view_of}
use Rattle.shard_laws.specs.OneShard.{with_one, asks_by_stage, new_asked, MayAsk}
use Rattle.law_base.proofs.Tables.{get_put}
use Rattle.shard_laws.proofs.Keeping.RecordsAndFrontsKeep.{keeps_prepare, keeps_commit}
use Rattle.shard_laws.proofs.Keeping.ClosingKeeps.{keeps_close, keeps_asked, in_push}
use Rattle.law_base.proofs.Stages.{stage_closed, closed_other as stage_left}
use Rattle.std.proofs.Common.{append-nil}
use Rattle.std.proofs.lemmas.Option.{none-some}
use Rattle.shard_laws.specs.OneShard.{is_doomed}
use Rattle.shard_laws.proofs.Keeping.FallenAndLost.{Falls, falls_more, falls_prepare, falls_parts, falls_asked}
use Rattle.shard_laws.proofs.Keeping.ChangesKeepPrepared.{by_prepare}
use Rattle.shard_laws.proofs.Keeping.WhatOneShardKeeps.{Dep}
use Rattle.shard_laws.proofs.Events.DueKeeps.{did, here_alive}
use Rattle.law_base.proofs.Sets.{filter_in, in_filter}
use Rattle.shard_laws.proofs.Events.DueKeeps.{AskedOrOld, Sound, Open, at_once, finish_sound, agreed_before}
use Rattle.shard_laws.proofs.Events.KeptAfterReplies.{Keeps_reply, ends, does}
use Rattle.shard_laws.proofs.Events.WhoOperatesNow.{unfallen_now}
use Rattle.law_base.proofs.Standing.{standing_append}
use Rattle.std.specs.List.{list_any}

-- each predecessor is committed or among the undecided ones
lists_all : (s : Shard) (tx : TxId) (ps : List TxId) → undecided_of s.local tx ≡ ps → (p : TxId) → is_pair s.local.pairs tx p ≡ true → (committed_in s.local.log p ≡ true) ⊎ (tx_in p ps ≡ true)
lists_all s tx ps e p pair =
    ⊎_elim (λ c. inl c) (λ c. inr (subst (λ l. tx_in p l ≡ true) e (filter_in (λ q. not (committed_in s.local.log q)) p (predecessors_of s.local.pairs tx) (pair_in s.local.pairs tx p pair) (ap not c)))) (cases_Bool (committed_in s.local.log p))

met_deps : (all : List Deed) (g : Past) (s : Shard) (tx : TxId) → Sound all g s → stage_of s.local tx ≡ Some Active → (p : TxId) → is_pair g.met tx p ≡ true → Dep (view_of s) tx p
met_deps all g s tx h act p e = ⊎_elim (λ o. absurd (o.1 act)) (λ d. d.0) (h.kept.recover tx p e)

closing_prepares : (all : List Deed) (g : Past) (s : Shard) (tx : TxId) (home : ℕ) (ps : List TxId) → Sound all g s → stage_of s.local tx ≡ Some Active → tx_in tx g.asked ≡ true → undecided_of s.local tx ≡ ps → Falls g.asked g.fell g.lost g.over s.local.parts s.local.pairs (s.local.log ++ Prepare tx home ps ∷ []) s.durable
closing_prepares all g s tx home ps h act asks e = falls_prepare g.asked g.fell g.lost g.over s.local.parts s.local.pairs s.local.log s.durable tx home ps h.falls (ap is_present act) asks (ap by_prepare (prepare_here s.local.log [] tx home ps (h.kept.prepared.unprepared tx act)))
    (λ p i. in_pair s.local.pairs tx p (in_filter (λ q. not (committed_in s.local.log q)) p (predecessors_of s.local.pairs tx) (subst (λ l. tx_in p l ≡ true) (sym e) i)).0) (lists_all s tx ps e)

closing_falls : (all : List Deed) (g : Past) (s : Shard) (tx : TxId) (home : ℕ) (wrote one : Bool) (ps : List TxId) → Sound all g s → stage_of s.local tx ≡ Some Active → tx_in tx g.asked ≡ true → undecided_of s.local tx ≡ ps
    → Falls g.asked g.fell g.lost g.over s.local.parts s.local.pairs (s.local.log ++ closing wrote one tx home ps) s.durable
closing_falls all g s tx home false one ps h act asks e = subst (λ l. Falls g.asked g.fell g.lost g.over s.local.parts s.local.pairs l s.durable) (sym (append-nil s.local.log)) h.falls
closing_falls all g s tx home true true [] h act asks e = falls_more g.asked g.fell g.lost g.over s.local.parts s.local.pairs s.local.log (Commit tx [] ∷ []) s.durable h.falls (λ u. refl)
    (λ u c. ⊎_elim (λ i. let same = tx_true u tx i in (ap is_present (ap (stage_of s.local) same ∙ act), ap (λ z. tx_in z g.lost) same ∙ here_alive all g s tx h (ap is_present act) (unfallen_now all g s tx h act) (agreed_before s tx (ap (λ l. length l == 0) e)))) (λ i. absurd (both_ways false refl i)) (or_cases (tx_same u tx) false c))
closing_falls all g s tx home true true (p ∷ ps) h act asks e = closing_prepares all g s tx home (p ∷ ps) h act asks e
closing_falls all g s tx home true false ps h act asks e = closing_prepares all g s tx home ps h act asks e

-- the view after a part is closed, whatever record closes it
closes : (all : List Deed) (g : Past) (s : Shard) (tx : TxId) (home : ℕ) (wrote one : Bool) (ps : List TxId) → Sound all g s → stage_of s.local tx ≡ Some Active → tx_in tx g.asked ≡ true → undecided_of s.local tx ≡ ps
    → Kept g (record (view_of s) { locks = close_locks tx s.local.locks; parts = closed_in tx s.local.parts; log = s.local.log ++ closing wrote one tx home ps })
closes all g s tx home false one ps h act asks e =
    subst (λ l. Kept g (record (view_of s) { locks = close_locks tx s.local.locks; parts = closed_in tx s.local.parts; log = l })) (sym (append-nil s.local.log)) (keeps_close g (view_of s) tx h.kept act asks)
closes all g s tx home true true [] h act asks e =
    keeps_commit g (record (view_of s) { locks = close_locks tx s.local.locks; parts = closed_in tx s.local.parts }) tx [] (keeps_close g (view_of s) tx h.kept act asks)
    (stage_closed s.local.parts tx act) (h.kept.uncommitted tx act) (agreed_before s tx (ap (λ l. length l == 0) e))
closes all g s tx home true true (p ∷ ps) h act asks e =
    keeps_prepare g (record (view_of s) { locks = close_locks tx s.local.locks; parts = closed_in tx s.local.parts }) tx home (p ∷ ps) (keeps_close g (view_of s) tx h.kept act asks) (stage_closed s.local.parts tx act) (h.kept.uncommitted tx act) (h.kept.prepared.unprepared tx act) (lists_all s tx (p ∷ ps) e) (met_deps all g s tx h act)
closes all g s tx home true false ps h act asks e =
    keeps_prepare g (record (view_of s) { locks = close_locks tx s.local.locks; parts = closed_in tx s.local.parts }) tx home ps (keeps_close g (view_of s) tx h.kept act asks) (stage_closed s.local.parts tx act) (h.kept.uncommitted tx act) (h.kept.prepared.unprepared tx act) (lists_all s tx ps e) (met_deps all g s tx h act)

some_request : (q r : Request) → Some q ≡ Some r → q ≡ r
some_request q r e = cc

-- the requests with a new one
put_open : (s : Shard) (tx : TxId) (touched : List (ℕ × ℕ)) → Open s.shard s.local.log tx (new_request touched Undecided) → ((u : TxId) (q : Request) → tx_get u s.requests ≡ Some q → q.state ≡ Undecided → Open s.shard s.local.log u q)
    → (u : TxId) (q : Request) → tx_get u (tx_put tx (new_request touched Undecided) s.requests) ≡ Some q → q.state ≡ Undecided → Open s.shard s.local.log u q
put_open s tx touched new old u q e un = at (tx_same u tx) refl (sym (get_put tx u (new_request touched Undecided) s.requests) ∙ e)
  where
    at : (b : Bool) → tx_same u tx ≡ b → cond b (Some (new_request touched Undecided)) (tx_get u s.requests) ≡ Some q → Open s.shard s.local.log u q
    at true t f = subst (λ z. Open s.shard s.local.log z q) (sym (tx_true u tx t)) (subst (Open s.shard s.local.log tx) (some_request _ q f) new)
    at false t f = old u q f un

-- a new request is not a finished one
first_unfinished : Undecided ≡ Finished → ⊥
first_unfinished e = absurd cc

put_reader : (g : Past) (s : Shard) (tx : TxId) (touched : List (ℕ × ℕ)) → ((u : TxId) (q : Request) → tx_get u s.requests ≡ Some q → q.state ≡ Finished → tx_in u g.over ≡ true)
    → (u : TxId) (q : Request) → tx_get u (tx_put tx (new_request touched Undecided) s.requests) ≡ Some q → q.state ≡ Finished → tx_in u g.over ≡ true
put_reader g s tx touched old u q e f = at (tx_same u tx) (sym (get_put tx u (new_request touched Undecided) s.requests) ∙ e)
  where
    at : (b : Bool) → cond b (Some (new_request touched Undecided)) (tx_get u s.requests) ≡ Some q → tx_in u g.over ≡ true
    at true i = absurd (first_unfinished (ap (λ r. r.state) (some_request _ q i) ∙ f))
    at false i = old u q i f

-- a part that is not the only one is prepared
prepared_only : (tx : TxId) (home : ℕ) (wrote one : Bool) (ps : List TxId) (u : TxId) → one ≡ false → committed_in (closing wrote one tx home ps) u ≡ false
prepared_only tx home false one ps u e = refl
prepared_only tx home true true [] u e = absurd (both_ways true e refl)
prepared_only tx home true true (p ∷ ps) u e = refl
prepared_only tx home true false ps u e = refl

-- the record that closes a part leaves what stands
closing_stands : (log : List LogRecord) (tx : TxId) (home : ℕ) (wrote one : Bool) (ps : List TxId) → standing (log ++ closing wrote one tx home ps) ≡ standing log
closing_stands log tx home false one ps = ap standing (append-nil log)
closing_stands log tx home true true [] = standing_append 0 log (Commit tx [] ∷ []) []
closing_stands log tx home true true (p ∷ ps) = standing_append 0 log (Prepare tx home (p ∷ ps) ∷ []) []
closing_stands log tx home true false ps = standing_append 0 log (Prepare tx home ps ∷ []) []

-- an active part of one that asked is closed
pub closed_sound : (all : List Deed) (g : Past) (s : Shard) (tx : TxId) (home : ℕ) (one : Bool) → Sound all g s → stage_of s.local tx ≡ Some Active → tx_in tx g.asked ≡ true
    → ((u : TxId) (q : Request) → tx_get u s.requests ≡ Some q → q.state ≡ Undecided → tx_same u tx ≡ false) → ((v : Voter) → tx_get tx s.voters ≡ Some v → one ≡ false) → Sound all g (with_local (close_part tx home one) s)
closed_sound all g s tx home one h act asks no_request no_vote = record {
  kept = closes all g s tx home (has_standing s.local.log tx) one (undecided_of s.local tx) h act asks refl;
  answers = h.answers;
  requests = record {
    undecided = λ u q e un. ⊎_elim (λ c. inl (uncommitted_append s.local.log _ u c (closing_commits (has_standing s.local.log tx) one tx home (undecided_of s.local tx) u (no_request u q e un)))) (λ c. inr c) (h.undecided u q e un);
    readers = h.readers;
    unfallen = λ u q e un here. h.unfallen u q e un (sym (same_present u) ∙ here);
  };
  voters = record {
    apart = h.apart;
    unvoted = λ u v e w. ⊎_elim
        (λ same. uncommitted_append s.local.log _ u (h.unvoted u v e (old u w)) (prepared_only tx home (has_standing s.local.log tx) one (undecided_of s.local tx) u (no_vote v (ap (λ z. tx_get z s.voters) (sym (tx_true u tx same)) ∙ e))))
        (λ ne. uncommitted_append s.local.log _ u (h.unvoted u v e (old u w)) (closing_commits (has_standing s.local.log tx) one tx home (undecided_of s.local tx) u ne))
        (cases_Bool (tx_same u tx));
    read = λ u v e f. let r = h.read u v e f in stage_left s.local.parts tx u (tx_ne tx u (λ q. active_gone (sym act ∙ ap (stage_of s.local) q ∙ r))) ∙ r;
  };
  asked = λ u e. ⊎_elim (λ t. inl (ap (λ z. tx_in z g.asked) (tx_true u tx t) ∙ asks))
      (λ ne. ⊎_elim (λ c. h.asked u c) (λ c. absurd (both_ways _ (uncommitted_append s.local.log _ u c (closing_commits (has_standing s.local.log tx) one tx home (undecided_of s.local tx) u ne)) e)) (cases_Bool (committed_in s.local.log u)))
      (cases_Bool (tx_same u tx));
  falls = falls_parts g.asked g.fell g.lost g.over s.local.parts (closed_in tx s.local.parts) s.local.pairs (s.local.log ++ closing (has_standing s.local.log tx) one tx home (undecided_of s.local tx)) s.durable
      (λ u. same_present u) (λ u. same_doom u) (closing_falls all g s tx home (has_standing s.local.log tx) one (undecided_of s.local tx) h act asks refl);
  order = order_closes g.asked s.shard s.run s.local.parts s.local.pairs s.local.log s.requests h.order tx home (has_standing s.local.log tx) one (undecided_of s.local tx) refl act asks (h.kept.uncommitted tx act) (h.kept.prepared.unprepared tx act)
      (λ p i. let f = in_filter (λ q. not (committed_in s.local.log q)) p (predecessors_of s.local.pairs tx) i in (in_pair s.local.pairs tx p f.0, not-true _ f.1)) (lists_all s tx (undecided_of s.local tx) refl) no_request;
}
  where
    same_present : (u : TxId) → is_present (stage_in (closed_in tx s.local.parts) u) ≡ is_present (stage_of s.local u)
    same_present u = ⊎_elim (λ e. let q = tx_true tx u e in subst (λ z. is_present (stage_in (closed_in tx s.local.parts) z) ≡ is_present (stage_of s.local z)) q (ap is_present (stage_closed s.local.parts tx act) ∙ sym (ap is_present act))) (λ n. ap is_present (stage_left s.local.parts tx u n)) (cases_Bool (tx_same tx u))

    same_doom : (u : TxId) → is_doomed (stage_in (closed_in tx s.local.parts) u) ≡ is_doomed (stage_of s.local u)
    same_doom u = ⊎_elim (λ e. let q = tx_true tx u e in subst (λ z. is_doomed (stage_in (closed_in tx s.local.parts) z) ≡ is_doomed (stage_of s.local z)) q (ap is_doomed (stage_closed s.local.parts tx act) ∙ sym (ap is_doomed act))) (λ n. ap is_doomed (stage_left s.local.parts tx u n)) (cases_Bool (tx_same tx u))

    old : (u : TxId) → has_standing (s.local.log ++ closing (has_standing s.local.log tx) one tx home (undecided_of s.local tx)) u ≡ false → has_standing s.local.log u ≡ false
    old u w = ap (λ ws. list_any (λ x. tx_same u x.tx) ws) (sym (closing_stands s.local.log tx home (has_standing s.local.log tx) one (undecided_of s.local tx))) ∙ w

    active_gone : ◌≡◌ {A = Option Stage} (Some Active) (Some (Gone None)) → ⊥
    active_gone e = absurd cc

pub asks_sound : (all : List Deed) (g : Past) (s : Shard) (tx : TxId) → Sound all g s → Sound all (record g { asked = g.asked ++ tx ∷ [] }) s
asks_sound all g s tx h = record { kept = keeps_asked g (view_of s) tx h.kept; answers = h.answers; requests = h.requests; voters = h.voters; asked = λ u c. ⊎_elim (λ a. inl (in_push g.asked tx u ∙ or_left _ _ a)) (λ l. inr l) (h.asked u c); falls = falls_asked g.asked g.fell g.lost g.over s.local.parts s.local.pairs s.local.log s.durable tx h.falls; order = order_asked g.asked s.shard s.run s.local.parts s.local.pairs s.local.log s.requests tx h.order }

-- a request here: no voter of it, and no request yet
-- a new request is undecided
order_put : (asked : List TxId) (s : Shard) (tx : TxId) (touched : List (ℕ × ℕ)) → KeepsOrder asked s.shard s.run s.local.parts s.local.pairs s.local.log s.requests → Ruled s.shard s.run s.local.log tx (new_request touched Undecided)
    → KeepsOrder asked s.shard s.run s.local.parts s.local.pairs s.local.log (tx_put tx (new_request touched Undecided) s.requests)
order_put asked s tx touched k ruled = record {
  ordered = k.ordered;
  lying = k.lying;
  rulings = λ u q e. at u q (tx_same u tx) refl (sym (get_put tx u (new_request touched Undecided) s.requests) ∙ e);
  asks = k.asks;
}
  where
    at : (u : TxId) (q : Request) (b : Bool) → tx_same u tx ≡ b → cond b (Some (new_request touched Undecided)) (tx_get u s.requests) ≡ Some q → Ruled s.shard s.run s.local.log u q
    at u q true t f = subst (λ z. Ruled s.shard s.run s.local.log z q) (sym (tx_true u tx t)) (subst (Ruled s.shard s.run s.local.log tx) (some_request _ q f) ruled)
    at u q false t f = k.rulings u q f

undecided_not : (ps : List ℕ) → Undecided ≡ Committed ps → ⊥
undecided_not ps e = absurd cc

new_ruled : (shard run : ℕ) (log : List LogRecord) (tx : TxId) (touched : List (ℕ × ℕ)) → tx.run ≡ run → ((p : ℕ × List TxId) → prepare_of log tx ≡ Some p → p.0 ≡ shard) → Ruled shard run log tx (new_request touched Undecided)
new_ruled shard run log tx touched e home = record { undecided = λ u. (e, home); committed = λ p ps f n. absurd (undecided_not (p ∷ ps) f) }

coordinated : (all : List Deed) (g : Past) (s : Shard) (tx : TxId) (touched : List (ℕ × ℕ)) → Sound all g s → Open s.shard s.local.log tx (new_request touched Undecided) → ((v : Voter) → tx_get tx s.voters ≡ Some v → ⊥) → Ruled s.shard s.run s.local.log tx (new_request touched Undecided) → (is_present (stage_of s.local tx) ≡ true → tx_in tx g.fell ≡ false) → Sound all g (coordinate tx touched s)
coordinated all g s tx touched h new no_vote ruled unfallen = record {
  kept = h.kept;
  answers = h.answers;
  requests = record { undecided = put_open s tx touched new h.undecided; readers = put_reader g s tx touched h.readers; unfallen = λ u q e un here. put_unfallen u q here (tx_same u tx) refl (sym (get_put tx u (new_request touched Undecided) s.requests ∙ refl) ∙ e) un };
  voters = record {
    apart = λ u v e. get_put tx u (new_request touched Undecided) s.requests ∙ cond-false (tx_same u tx) _ (tx_get u s.requests) (tx_ne u tx (λ same. no_vote v (ap (λ z. tx_get z s.voters) (sym same) ∙ e))) ∙ h.apart u v e;
    unvoted = h.unvoted;
    read = h.read;
  };
  asked = h.asked;
  falls = h.falls;
  order = order_put g.asked s tx touched h.order ruled;
}
  where
    put_unfallen : (u : TxId) (q : Request) → is_present (stage_of s.local u) ≡ true → (b : Bool) → tx_same u tx ≡ b → cond b (Some (new_request touched Undecided)) (tx_get u s.requests) ≡ Some q → q.state ≡ Undecided → tx_in u g.fell ≡ false
    put_unfallen u q here true t f un = ap (λ z. tx_in z g.fell) (tx_true u tx t) ∙ unfallen (ap is_present (ap (stage_of s.local) (sym (tx_true u tx t))) ∙ here)
    put_unfallen u q here false t f un = h.unfallen u q f un here

-- the PREPARE that closes its part names this shard
home_here : (log : List LogRecord) (tx : TxId) (home : ℕ) (wrote one : Bool) (ps : List TxId) (p : ℕ × List TxId) → prepared_in log tx ≡ false → prepare_of (log ++ closing wrote one tx home ps) tx ≡ Some p → p.0 ≡ home
home_here log tx home wrote one ps p none e = at wrote one ps e
  where
    same : (a b : ℕ × List TxId) → Some a ≡ Some b → b.0 ≡ a.0
    same a b e = cc

    never : (l : List LogRecord) → prepared_in l tx ≡ false → prepare_of l tx ≡ Some p → p.0 ≡ home
    never l n e = absurd (both_ways _ n (prepared_there l tx p e))

    prepares_here : (qs : List TxId) → prepare_of (log ++ Prepare tx home qs ∷ []) tx ≡ Some p → p.0 ≡ home
    prepares_here qs e = same (home, qs) p (sym (prepare_here log [] tx home qs none) ∙ e)

    at : (w o : Bool) (qs : List TxId) → prepare_of (log ++ closing w o tx home qs) tx ≡ Some p → p.0 ≡ home
    at false o qs e = never log none (subst (λ l. prepare_of l tx ≡ Some p) (append-nil log) e)
    at true true [] e = never (log ++ Commit tx [] ∷ []) (unprepared_append log (Commit tx [] ∷ []) tx none refl) e
    at true true (q ∷ qs) e = prepares_here (q ∷ qs) e
    at true false qs e = prepares_here qs e

-- its COMMIT was written only if it has no other shard
new_open : (s : Shard) (tx : TxId) (touched : List (ℕ × ℕ)) (os : List ℕ) → others s.shard touched ≡ os → committed_in s.local.log tx ≡ false → Open s.shard (s.local.log ++ closing (has_standing s.local.log tx) (is_alone os) tx s.shard (undecided_of s.local tx)) tx (new_request touched Undecided)
new_open s tx touched [] e open_ = inr (e, refl)
new_open s tx touched (o ∷ os) e open_ = inl (uncommitted_append s.local.log _ tx open_ (prepared_only tx s.shard (has_standing s.local.log tx) false (undecided_of s.local tx) tx refl))

asked_sound : (all : List Deed) (g : Past) (s : Shard) (tx : TxId) (touched : List (ℕ × ℕ)) → Sound all g s → stage_of s.local tx ≡ Some Active → ((v : Voter) → tx_get tx s.voters ≡ Some v → ⊥) → tx_get tx s.requests ≡ None → tx.run ≡ s.run
    → Sound all (record g { asked = g.asked ++ tx ∷ [] }) (coordinate tx touched (with_local (close_part tx s.shard (is_alone (others s.shard touched))) s))
asked_sound all g s tx touched h act no_vote no_request run_is =
    coordinated all (record g { asked = g.asked ++ tx ∷ [] }) (with_local (close_part tx s.shard (is_alone (others s.shard touched))) s) tx touched
    (closed_sound all (record g { asked = g.asked ++ tx ∷ [] }) s tx s.shard (is_alone (others s.shard touched)) (asks_sound all g s tx h) act (in_push g.asked tx tx ∙ or_right (tx_in tx g.asked) _ (or_left _ _ (tx_self tx)))
    (λ u q e un. tx_ne u tx (λ same. none_request q (sym no_request ∙ ap (λ z. tx_get z s.requests) (sym same) ∙ e))) (λ v e. absurd (no_vote v e)))
    (new_open s tx touched (others s.shard touched) refl (h.kept.uncommitted tx act)) no_vote
    (new_ruled s.shard s.run (s.local.log ++ closing (has_standing s.local.log tx) (is_alone (others s.shard touched)) tx s.shard (undecided_of s.local tx)) tx touched run_is
    (λ p e. home_here s.local.log tx s.shard (has_standing s.local.log tx) (is_alone (others s.shard touched)) (undecided_of s.local tx) p (h.kept.prepared.unprepared tx act) e)) (λ e. unfallen_now all g s tx h act)
  where
    none_request : (q : Request) → ◌≡◌ {A = Option Request} None (Some q) → ⊥
    none_request q e = absurd cc

none_asks : (g : Past) (s : Shard) (tx : TxId) (touched : List (ℕ × ℕ)) (o : Option Stage) (b : Bool) → stage_of s.local tx ≡ o → seen_fits s.local.epoch (epoch_in s.shard touched) ≡ b → asks_by_stage tx o b ≡ None → with_one g.asked (new_asked s (RequestEvent tx touched)) ≡ g.asked
none_asks g s tx touched o b e f n = ap (with_one g.asked) (ap (λ x. asks_by_stage tx x (seen_fits s.local.epoch (epoch_in s.shard touched))) e ∙ ap (asks_by_stage tx o) f ∙ n)

asks_unseen : (tx : TxId) (o : Option Stage) → asks_by_stage tx o false ≡ None
asks_unseen tx None = refl
asks_unseen tx (Some Active) = refl
asks_unseen tx (Some Closed) = refl
asks_unseen tx (Some (Gone d)) = refl

-- a first request of this run is of one that is not committed
new_here : (g : Past) (s : Shard) (tx : TxId) → MayAsk (did [] [] g) s tx → AskedOrOld g s.run tx → ⊥
new_here g s tx may (inl a) = both_ways _ may.0 a
new_here g s tx may (inr l) = let q = may.3 in omega (arith, l, q)

request_stage : (all : List Deed) (g : Past) (s : Shard) (tx : TxId) (touched : List (ℕ × ℕ)) (o : Option Stage) → Sound all g s → MayAsk (did all [] g) s tx → stage_of s.local tx ≡ o → seen_fits s.local.epoch (epoch_in s.shard touched) ≡ true → Keeps_reply all g s (RequestEvent tx touched) (request_by_stage s tx touched o)
request_stage all g s tx touched None h may e f = ends all g s (coordinate tx touched s) (RequestEvent tx touched) _ (refl, none_asks g s tx touched None true e f refl, refl) refl (at_once all g (coordinate tx touched s) (coordinated all g s tx touched h (inl (false_from_ne_true _ (λ c. new_here g s tx may (h.asked tx c)))) may.1
    (new_ruled s.shard s.run s.local.log tx touched may.3 (λ p i. absurd (new_here g s tx may (h.order.asks tx (prepared_there s.local.log tx p i)))))
    (λ here. absurd (both_ways false refl (sym (ap is_present e) ∙ here)))))
request_stage all g s tx touched (Some Closed) h may e f = ends all g s s (RequestEvent tx touched) _ (refl, none_asks g s tx touched (Some Closed) true e f refl, refl) refl (at_once all g s h)
request_stage all g s tx touched (Some (Gone None)) h may e f = ends all g s s (RequestEvent tx touched) _ (refl, none_asks g s tx touched (Some (Gone None)) true e f refl, refl) refl (at_once all g s h)
request_stage all g s tx touched (Some (Gone (Some d))) h may e f = ends all g s s (RequestEvent tx touched) _ (refl, none_asks g s tx touched (Some (Gone (Some d))) true e f refl, refl) refl (at_once all g s h)
request_stage all g s tx touched (Some Active) h may e f =
    let r = finish_sound all (record g { asked = g.asked ++ tx ∷ [] }) (coordinate tx touched (with_local (close_part tx s.shard (is_alone (others s.shard touched))) s)) (asked_sound all g s tx touched h e may.1 may.2 may.3) in
    does (r.0, r.1, r.2, r.3, r.4 ∙ sym (ap (with_one g.asked) (ap (λ x. asks_by_stage tx x (seen_fits s.local.epoch (epoch_in s.shard touched))) e ∙ ap (asks_by_stage tx (Some Active)) f)), r.5, (λ u n. absurd (none-some u n)), r.6, r.7)

pub request : (all : List Deed) (g : Past) (s : Shard) (tx : TxId) (touched : List (ℕ × ℕ)) (b : Bool) → Sound all g s → MayAsk (did all [] g) s tx → seen_fits s.local.epoch (epoch_in s.shard touched) ≡ b → Keeps_reply all g s (RequestEvent tx touched) (request_event s tx touched b)
request all g s tx touched true h may f = request_stage all g s tx touched (stage_of s.local tx) h may refl f
request all g s tx touched false h may f = ends all g s s (RequestEvent tx touched) _ (refl, none_asks g s tx touched (stage_of s.local tx) false refl f (asks_unseen tx (stage_of s.local tx)), refl) refl (at_once all g s h)
