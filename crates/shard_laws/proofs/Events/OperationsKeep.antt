-- An operation keeps what a shard keeps.
use Rattle.std.proofs.Common.{◌≡◌, ℕ, ◌+◌, ◌<◌, ◌⊎◌, inl, inr, ⊎_elim, arith, Bool, true, false, ◌||◌, List, [], ◌∷◌, ◌++◌, map, length, Option, Some, None, refl, sym, ap, subst, ◌∙◌}
use Rattle.std.proofs.lemmas.Bool.{cases_Bool, both_ways, or_cases, false_from_ne_true}
use Rattle.clv_base.specs.declared.names.TxId.{TxId}
use Rattle.clv_base.specs.declared.names.Birth.{Birth}
use Rattle.shard_laws.proofs.Order.StepsKeepOrder.{order_performs}
use Rattle.clv_base.specs.declared.state.Stage.{Stage}
use Rattle.clv_base.specs.declared.state.Stage.TheVariants.{Active, Closed, Gone}
use Rattle.clv_base.specs.declared.state.Held.{Held}
use Rattle.clv_base.specs.Orders.{tx_same, tx_in, tx_get}
use Rattle.clv_base.specs.Logs.{committed_in, prepared_in}
use Rattle.clv_base.specs.declared.modes.Decision.{Decision}
use Rattle.clv_base.specs.declared.modes.Decision.TheVariants.{Grant, Wait, Die}
use Rattle.clv_base.specs.Needs.{value_at}
use Rattle.clv_base.specs.State.{Local, Shard, is_present}
use Rattle.clv_base.specs.Undo.{stage_of}
use Rattle.clv_base.specs.OneShard.{seen_fits, locked, performed, op_granted, op_decided, op_by_stage, op_seen, violated_here}
use Rattle.clv_base.specs.Events.{op_event}
use Rattle.law_base.specs.Items.{Deed, Did}
use Rattle.clv_base.proofs.SameNames.{or_left, or_right, tx_true, tx_self, tx_eq, tx_ne}
use Rattle.law_base.proofs.Tables.{stage_in, stage_by, is_pair}
use Rattle.law_base.proofs.Commits.{durable_committed}
use Rattle.shard_laws.proofs.Keeping.WhatOneShardKeeps.{Past, Kept, is_alive}
use Rattle.clv_base.specs.declared.ops.Op.{Op}
use Rattle.clv_base.specs.declared.events.Event.TheVariants.{Op as OpEvent}
use Rattle.clv_base.specs.Locks.{decide}
use Rattle.clv_base.specs.Needs.{needs_of, answer_of}
use Rattle.shard_laws.proofs.Keeping.WhatOneShardKeeps.{view_of}
use Rattle.shard_laws.specs.OneShard.{Fresh, MayTouch, deeds_of, doer, deeds_by_chosen, AreBelow}
use Rattle.clv_base.proofs.SameNames.{cases_tx}
use Rattle.std.proofs.lemmas.Option.{none-some}
use Rattle.shard_laws.proofs.Keeping.GrantingKeeps.{keeps_performed, keeps_lost_op, own_part}
use Rattle.law_base.proofs.Stages.{other_part}
use Rattle.shard_laws.proofs.Keeping.FallenAndLost.{Falls, falls_alive, falls_lost}
use Rattle.shard_laws.proofs.Order.WhoIsListed.{listed_there}
use Rattle.shard_laws.proofs.Events.DueKeeps.{did, own_kept, part_all}
use Rattle.clv_base.specs.OneShard.{OpAnswers, new_part, add_pairs}
use Rattle.std.specs.List.{list_any}
use Rattle.clv_base.specs.Needs.{writes_of, key_of}
use Rattle.shard_laws.proofs.Events.DueKeeps.{PartOf, part_push, part_more, part_filter, Sound, at_once, finish_sound}
use Rattle.shard_laws.proofs.Events.KeptAfterReplies.{Keeps_reply, ends, late, does}
use Rattle.shard_laws.proofs.Events.WhoOperatesNow.{dies, stands_now, NewHere, fresh_now, Written, written_parts, written_open, written_stands, push_own, push_other, told_own, falls_by, falls_written}

module _ {told : List TxId} (all : List Deed) (g : Past) (s : Shard) (tx : TxId) (birth : Birth) (nth : ℕ) (op : Op) (h : Sound all g s) (grant : decide tx birth (needs_of op s.local.records) s.local.locks ≡ Grant) (fresh : tx_get tx s.local.parts ≡ None → Fresh (did all told g) s tx) (same : (h : Held) → tx_get tx s.local.parts ≡ Some h → h.birth ≡ birth)
    (new : tx_in tx g.asked ≡ false) (run_is : tx.run ≡ s.run) (o : (stage_of s.local tx ≡ None) ⊎ (stage_of s.local tx ≡ Some Active)) (rises : AreBelow tx nth all) where
  fr : NewHere g s tx
  fr = fresh_now all g s tx birth h fresh o

  abbrev vs : List TxId
  vs = violated_here s.local tx op

  abbrev done : Deed
  done = Did (record { tx = tx; number = nth; op = op; answer = answer_of op s.local.records; lsn = 0 + length s.local.log })

  rises_here : AreBelow tx nth g.done
  rises_here = part_all _ g.done all h.within rises

  left : stage_of s.local tx ≡ Some (Gone None) → ⊥
  left e = ⊎_elim (λ n. none_gone (sym n ∙ e)) (λ a. active_gone (sym a ∙ e)) o
    where
      none_gone : ◌≡◌ {A = Option Stage} None (Some (Gone None)) → ⊥
      none_gone e = absurd cc

      active_gone : ◌≡◌ {A = Option Stage} (Some Active) (Some (Gone None)) → ⊥
      active_gone e = absurd cc

  none_part : (x : Option Held) → stage_by x ≡ None → x ≡ None
  none_part None e = refl
  none_part (Some h) e = absurd cc

  met_active : (p : TxId) → is_pair g.met tx p ≡ true → stage_in s.local.parts tx ≡ Some Active
  met_active p i = ⊎_elim (λ n. absurd ((fresh (none_part (tx_get tx s.local.parts) n)).unmet p i)) (λ a. a) o

  no_succ : (t : TxId) → is_pair s.local.pairs t tx ≡ true → ⊥
  no_succ t e = ⊎_elim (λ c. both_ways _ fr.open_ c) (λ c. fr.unclosed c.0) (h.order.ordered.others t tx e).1

  not_over : tx_in tx g.over ≡ false
  not_over = false_from_ne_true _ (λ i. ⊎_elim (λ d. both_ways _ fr.open_ (durable_committed s.local.log s.durable tx d)) (λ d. both_ways _ new d.3) (h.kept.over tx i))

  own_now : stage_in (new_part tx birth (tx_get tx s.local.parts) s.local.parts) tx ≡ Some Active
  own_now = let p = own_part tx birth s.local.parts (stands_now g s tx birth same o) in ap stage_by p.1 ∙ ap Some p.3

  others_now : (u : TxId) → (u ≡ tx → ⊥) → stage_in (new_part tx birth (tx_get tx s.local.parts) s.local.parts) u ≡ stage_of s.local u
  others_now u ne = ap stage_by (other_part tx birth s.local.parts u (tx_get tx s.local.parts) (tx_ne u tx ne))

  -- whatever the past keeps of it
  performed_with : (deeds : List Deed) (lost : List TxId) → Kept (record g { done = deeds; lost = lost; met = map (λ p. (tx, p)) vs ++ g.met }) (view_of (record s { local = performed tx birth op s.local }))
      → ((v : TxId) → (tx_in v lost ≡ true) ⊎ (deeds_of v deeds ≡ deeds_of v (all ++ done ∷ []))) → PartOf deeds (all ++ done ∷ []) → Falls g.asked g.fell lost g.over (new_part tx birth (tx_get tx s.local.parts) s.local.parts) (add_pairs tx vs s.local.pairs) s.local.log s.durable
      → Sound (all ++ done ∷ []) (record g { done = deeds; lost = lost; met = map (λ p. (tx, p)) vs ++ g.met }) (record s { local = performed tx birth op s.local })
  performed_with deeds lost kept told within falls =
      let w : Written = writes_of op (value_at (key_of op) s.local.records) in
      let u : Local = locked tx birth op s.local in
      record {
        kept = kept;
        answers = record { told = told; within = within };
        requests = record {
          undecided = λ t q e un. ⊎_elim (λ c. inl (written_open tx w u t c)) (λ c. inr c) (h.undecided t q e un);
          readers = h.readers;
          unfallen = λ t q e un here. ⊎_elim (λ e2. ap (λ z. tx_in z g.fell) e2 ∙ fr.unfallen) (λ ne. h.unfallen t q e un (ap is_present (sym (others_now t ne) ∙ sym (ap (λ p. stage_in p t) (written_parts tx w u))) ∙ here)) (cases_tx t tx);
        };
        voters = record {
          apart = h.apart;
          unvoted = λ t v e x. written_open tx w u t (h.unvoted t v e (false_from_ne_true _ (λ y. both_ways _ x (written_stands tx w u t y))));
          read = λ t v e f. let r = h.read t v e f in
              ap (λ p. stage_in p t) (written_parts tx w u) ∙ others_now t (λ q. left (ap (stage_of s.local) (sym q) ∙ r)) ∙ r;
        };
        asked = λ t e. ⊎_elim (λ c. h.asked t c) (λ c. absurd (both_ways _ (written_open tx w u t c) e)) (cases_Bool (committed_in s.local.log t));
        falls = falls_written g.asked g.fell lost g.over tx birth op s.local s.durable (writes_of op (value_at (key_of op) s.local.records)) (falls_by g.asked g.fell lost g.over (new_part tx birth (tx_get tx s.local.parts) s.local.parts) (add_pairs tx vs s.local.pairs) s.local.log s.durable tx (writes_of op (value_at (key_of op) s.local.records)) falls);
        order = order_performs g.asked g s tx birth op h.kept h.order grant (stands_now g s tx birth same o) run_is fr.open_ fr.unprepared fr.unaborted fr.unwritten;
      }

  told_alive : tx_in tx g.lost ≡ false → (v : TxId) → (tx_in v g.lost ≡ true) ⊎ (deeds_of v (g.done ++ done ∷ []) ≡ deeds_of v (all ++ done ∷ []))
  told_alive alive v = ⊎_elim
      (λ e. inr (push_own done tx refl v e g.done ∙ ap (λ l. l ++ done ∷ []) (told_own all g s tx v e h fresh new alive o) ∙ sym (push_own done tx refl v e all)))
      (λ ne. ⊎_elim (λ l. inl l) (λ e. inr (push_other done v (λ q. ne (sym q)) g.done ∙ e ∙ sym (push_other done v (λ q. ne (sym q)) all))) (h.told v))
      (cases_tx v tx)

  told_lost : (v : TxId) → (tx_in v (tx ∷ g.lost) ≡ true) ⊎ (deeds_of v (deeds_by_chosen (is_alive (tx ∷ [])) g.done) ≡ deeds_of v (all ++ done ∷ []))
  told_lost v = ⊎_elim
      (λ e. inl (or_left _ _ (tx_eq tx v (sym e))))
      (λ ne. ⊎_elim (λ l. inl (or_right (tx_same tx v) _ l)) (λ e. inr (own_kept (tx ∷ []) v g.done (ap (λ b. b || false) (tx_ne tx v (λ q. ne (sym q)))) ∙ e ∙ sym (push_other done v (λ q. ne (sym q)) all))) (h.told v))
      (cases_tx v tx)

  Performed : Type 0
  Performed = (h2 : Past) × Sound (all ++ done ∷ []) h2 (record s { local = performed tx birth op s.local }) × (h2.start ≡ g.start) × (h2.base ≡ g.base) × (h2.asked ≡ g.asked) × (h2.over ≡ g.over) × (h2.met ≡ map (λ p. (tx, p)) vs ++ g.met) × (h2.fell ≡ g.fell)

  any_lost : (ps : List TxId) → list_any (λ p. tx_in p g.lost) ps ≡ true → (p : TxId) × (tx_in p ps ≡ true) × (tx_in p g.lost ≡ true)
  any_lost [] e = absurd (both_ways false refl e)
  any_lost (p ∷ ps) e = ⊎_elim (λ i. (p, or_left _ _ (tx_self p), i)) (λ i. let q = any_lost ps i in (q.0, or_right (tx_same p q.0) _ q.1, q.2)) (or_cases (tx_in p g.lost) (list_any (λ p. tx_in p g.lost) ps) e)

  none_lost : (ps : List TxId) → list_any (λ p. tx_in p g.lost) ps ≡ false → (p : TxId) → tx_in p ps ≡ true → tx_in p g.lost ≡ false
  none_lost [] e p i = absurd (both_ways false refl i)
  none_lost (q ∷ qs) e p i = false_from_ne_true _ (λ l. both_ways _ e (⊎_elim (λ s. or_left _ _ (subst (λ z. tx_in z g.lost ≡ true) (sym (tx_true q p s)) l)) (λ j. or_right (tx_in q g.lost) _ (not_false _ (λ n. both_ways _ (none_lost qs n p j) l))) (or_cases (tx_same q p) (tx_in p qs) i)))
    where
      not_false : (b : Bool) → (b ≡ false → ⊥) → b ≡ true
      not_false true n = refl
      not_false false n = absurd (n refl)

  -- it is of this run
  own_named : (prepared_in s.local.log tx ≡ true) ⊎ (tx.run < s.run) → prepared_in s.local.log tx ≡ true
  own_named (inl p) = p
  own_named (inr l) = absurd (omega (arith, run_is, l))

  performed_lost : (tx_in tx g.lost ≡ true) ⊎ ((p : TxId) × (tx_in p vs ≡ true) × (tx_in p g.lost ≡ true)) → Performed
  unfolding Performed
  performed_lost why = (
    record g { done = deeds_by_chosen (is_alive (tx ∷ [])) g.done; lost = tx ∷ g.lost; met = map (λ p. (tx, p)) vs ++ g.met },
    performed_with (deeds_by_chosen (is_alive (tx ∷ [])) g.done) (tx ∷ g.lost)
        (keeps_lost_op g s tx birth nth op h.kept grant (stands_now g s tx birth same o) new fr.open_ fr.unaborted fr.unprepared met_active no_succ h.falls.open_ rises_here) told_lost
        (part_more done (deeds_by_chosen (is_alive (tx ∷ [])) g.done) all (part_filter (λ d. is_alive (tx ∷ []) (doer d)) g.done all h.within))
        (falls_lost g.asked g.fell g.lost g.over s.local.parts (new_part tx birth (tx_get tx s.local.parts) s.local.parts) s.local.pairs s.local.log s.durable tx vs h.falls own_now others_now fr.unfallen fr.undoomed fr.unprepared fr.open_ not_over no_succ (λ u i. own_named (h.order.ordered.named tx (listed_there s.local.log u tx i))) why),
    refl,
    refl,
    refl,
    refl,
    refl,
    refl,
  )

  performed_sound : Performed
  unfolding Performed
  performed_sound = ⊎_elim
      (λ l. performed_lost (inl l))
      (λ alive. ⊎_elim (λ l. performed_lost (inr (any_lost vs l)))
      (λ none. (
        record g { done = g.done ++ done ∷ []; met = map (λ p. (tx, p)) vs ++ g.met },
        performed_with (g.done ++ done ∷ []) g.lost
            (keeps_performed g s tx birth nth op h.kept grant (stands_now g s tx birth same o) new fr.open_ fr.unaborted fr.unprepared met_active no_succ h.falls.open_ rises_here alive (none_lost vs none)) (told_alive alive) (part_push done g.done all h.within)
            (falls_alive g.asked g.fell g.lost g.over s.local.parts (new_part tx birth (tx_get tx s.local.parts) s.local.parts) s.local.pairs s.local.log s.durable tx vs h.falls own_now others_now fr.unfallen fr.undoomed fr.unprepared alive (none_lost vs none)),
        refl,
        refl,
        refl,
        refl,
        refl,
        refl,
      )) (cases_Bool (list_any (λ p. tx_in p g.lost) vs)))
      (cases_Bool (tx_in tx g.lost))

finish_performed : {told : List TxId} (all : List Deed) (g : Past) (s : Shard) (tx : TxId) (birth : Birth) (nth : ℕ) (seen : Option ℕ) (op : Op) (h : Sound all g s) (grant : decide tx birth (needs_of op s.local.records) s.local.locks ≡ Grant) (may : MayTouch (did all told g) s tx birth nth seen) (fit : seen_fits s.local.epoch seen ≡ true)
    (o : (stage_of s.local tx ≡ None) ⊎ (stage_of s.local tx ≡ Some Active)) → Performed all g s tx birth nth op h grant (may.fresh fit) may.same_birth (may.not_asked fit) may.of_run o may.rises
    → Keeps_reply all g s (OpEvent tx birth nth seen op) (op_event s (OpAnswers (answer_of op s.local.records) (performed tx birth op s.local)))
unfolding Performed
finish_performed all g s tx birth nth seen op h grant may fit o p =
    let f = finish_sound (all ++ Did (record { tx = tx; number = nth; op = op; answer = answer_of op s.local.records; lsn = 0 + length s.local.log }) ∷ []) p.0 (record s { local = performed tx birth op s.local }) p.1 in
    does (f.0, f.1, f.2 ∙ p.2, f.3 ∙ p.3, f.4 ∙ p.4, (λ u i. f.5 u (ap (tx_in u) p.5 ∙ i)), (λ u n. absurd (none-some u n)), f.6 ∙ p.6, f.7 ∙ p.7)

granted : {told : List TxId} (all : List Deed) (g : Past) (s : Shard) (tx : TxId) (birth : Birth) (nth : ℕ) (seen : Option ℕ) (op : Op) (b : Bool) → Sound all g s → decide tx birth (needs_of op s.local.records) s.local.locks ≡ Grant → MayTouch (did all told g) s tx birth nth seen → seen_fits s.local.epoch seen ≡ true → (stage_of s.local tx ≡ None) ⊎ (stage_of s.local tx ≡ Some Active)
    → Keeps_reply all g s (OpEvent tx birth nth seen op) (op_event s (op_granted s.local tx birth op b))
granted all g s tx birth nth seen op true h grant may fit o = late
granted all g s tx birth nth seen op false h grant may fit o = finish_performed all g s tx birth nth seen op h grant may fit o (performed_sound all g s tx birth nth op h grant (may.fresh fit) may.same_birth (may.not_asked fit) may.of_run o may.rises)

by_decision : {told : List TxId} (all : List Deed) (g : Past) (s : Shard) (tx : TxId) (birth : Birth) (nth : ℕ) (seen : Option ℕ) (op : Op) (d : Decision) → Sound all g s → decide tx birth (needs_of op s.local.records) s.local.locks ≡ d → MayTouch (did all told g) s tx birth nth seen → seen_fits s.local.epoch seen ≡ true → (stage_of s.local tx ≡ None) ⊎ (stage_of s.local tx ≡ Some Active)
    → Keeps_reply all g s (OpEvent tx birth nth seen op) (op_event s (op_decided s.local tx birth op d))
by_decision all g s tx birth nth seen op Grant h e may fit o = granted all g s tx birth nth seen op _ h e may fit o
by_decision all g s tx birth nth seen op (Wait y) h e may fit o = late
by_decision all g s tx birth nth seen op (Die y) h e may fit o = dies all g s tx birth nth seen op _ h may.not_closed

by_stage : {told : List TxId} (all : List Deed) (g : Past) (s : Shard) (tx : TxId) (birth : Birth) (nth : ℕ) (seen : Option ℕ) (op : Op) (o : Option Stage) → Sound all g s → MayTouch (did all told g) s tx birth nth seen → seen_fits s.local.epoch seen ≡ true → stage_of s.local tx ≡ o → Keeps_reply all g s (OpEvent tx birth nth seen op) (op_event s (op_by_stage s.local tx birth op o))
by_stage all g s tx birth nth seen op None h may fit e = by_decision all g s tx birth nth seen op (decide tx birth (needs_of op s.local.records) s.local.locks) h refl may fit (inl e)
by_stage all g s tx birth nth seen op (Some Active) h may fit e = by_decision all g s tx birth nth seen op (decide tx birth (needs_of op s.local.records) s.local.locks) h refl may fit (inr e)
by_stage all g s tx birth nth seen op (Some Closed) h may fit e = absurd (may.not_closed e)
by_stage all g s tx birth nth seen op (Some (Gone None)) h may fit e = ends all g s (record s { local = s.local }) (OpEvent tx birth nth seen op) _ (refl, refl, refl) refl (at_once all g s h)
by_stage all g s tx birth nth seen op (Some (Gone (Some d))) h may fit e = ends all g s (record s { local = s.local }) (OpEvent tx birth nth seen op) _ (refl, refl, refl) refl (at_once all g s h)

pub operation : {told : List TxId} (all : List Deed) (g : Past) (s : Shard) (tx : TxId) (birth : Birth) (nth : ℕ) (seen : Option ℕ) (op : Op) (b : Bool) → Sound all g s → MayTouch (did all told g) s tx birth nth seen → seen_fits s.local.epoch seen ≡ b → Keeps_reply all g s (OpEvent tx birth nth seen op) (op_event s (op_seen s.shard s.local tx birth seen op b))
operation all g s tx birth nth seen op true h may fit = by_stage all g s tx birth nth seen op (stage_of s.local tx) h may fit refl
operation all g s tx birth nth seen op false h may fit = dies all g s tx birth nth seen op _ h may.not_closed
