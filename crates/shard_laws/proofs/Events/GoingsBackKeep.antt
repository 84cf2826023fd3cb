-- A going back keeps what a shard keeps.
use Rattle.std.proofs.Common.{◌≡◌, ℕ, inl, inr, ⊎_elim, Bool, true, false, List, [], ◌∷◌, ◌++◌, Option, Some, None, refl, sym, ap, ◌∙◌, eqb-true, ◌==◌, ◌⊎◌}
use Rattle.std.specs.List.{AllByRecursion, list_any}
use Rattle.std.proofs.lemmas.Bool.{cases_Bool, both_ways, false_from_ne_true}
use Rattle.std.proofs.lemmas.Option.{none-some}
use Rattle.clv_base.specs.declared.names.TxId.{TxId}
use Rattle.clv_base.specs.declared.logs.LogRecord.{LogRecord}
use Rattle.clv_base.specs.declared.state.Stage.{Stage}
use Rattle.clv_base.specs.declared.state.Stage.TheVariants.{Active, Closed, Gone}
use Rattle.clv_base.specs.declared.state.Held.{Held}
use Rattle.clv_base.specs.declared.events.Event.TheVariants.{RollTo}
use Rattle.clv_base.specs.Orders.{tx_same, tx_in, tx_get}
use Rattle.clv_base.specs.Backs.{standing_numbers, count_after}
use Rattle.clv_base.specs.Logs.{StandingUpdate, standing, has_standing, committed_in, prepared_in}
use Rattle.clv_base.specs.State.{Shard, with_local}
use Rattle.clv_base.specs.Undo.{stage_of, roll_to, newest_lsns, is_at, clrs_by}
use Rattle.clv_base.specs.Events.{roll_by_stage, roll_event}
use Rattle.clv_base.proofs.SameNames.{cases_tx, tx_true}
use Rattle.law_base.specs.Items.{Deed, WentBack, held}
use Rattle.law_base.proofs.Commits.{uncommitted_append}
use Rattle.law_base.proofs.Lists.{all_mono}
use Rattle.law_base.proofs.Logs.{clrs_undo_by}
use Rattle.law_base.proofs.Tables.{stage_by}
use Rattle.law_base.proofs.Undoing.{standing_undone_by}
use Rattle.protocol_laws.proofs.LogsInOrder.{Order}
use Rattle.shard_laws.specs.OneShard.{deeds_of, AreBelow, MayGoBack}
use Rattle.shard_laws.proofs.Order.ClosingKeepsOrder.{upward_rolled}
use Rattle.shard_laws.proofs.Order.NewestWritesOfOne.{lsns_own, lsns_newest}
use Rattle.shard_laws.proofs.Order.StepsKeepOrder.{order_rolls}
use Rattle.shard_laws.proofs.Order.WritesLieOnListed.{order_of}
use Rattle.shard_laws.proofs.Keeping.WhatOneShardKeeps.{Past, Kept, view_of}
use Rattle.shard_laws.proofs.Keeping.DeedsThatHold.{held_chosen}
use Rattle.shard_laws.proofs.Keeping.NumbersOfWrites.{numbered, numbers_in}
use Rattle.shard_laws.proofs.Keeping.FallenAndLost.{falls_more}
use Rattle.shard_laws.proofs.Keeping.LeavingKeeps.{still_left}
use Rattle.shard_laws.proofs.Keeping.GoingBackKeeps.{count_beyond, keeps_back, keeps_back_lost}
use Rattle.shard_laws.proofs.Keeping.RecordsOfAnUndo.{undo_commits, undo_prepares}
use Rattle.shard_laws.proofs.Events.DueKeeps.{did, part_push, part_more, part_all, SoundAnswers, Sound, finish_sound}
use Rattle.shard_laws.proofs.Events.KeptAfterReplies.{Keeps_reply, quietly, does}
use Rattle.shard_laws.proofs.Events.StandingNumbers.{NumbersAre}
use Rattle.shard_laws.proofs.Events.WhoOperatesNow.{push_own, push_other}

module _ (all : List Deed) (g : Past) (s : Shard) (tx : TxId) (nth upto : ℕ) (h : Sound all g s) (numbers : NumbersAre all s) (run_is : tx.run ≡ s.run) (rises : AreBelow tx nth all) (act : stage_of s.local tx ≡ Some Active) where
  abbrev n : ℕ
  n = count_after upto (standing_numbers tx s.journal)

  abbrev gone : StandingUpdate → Bool
  gone = is_at (newest_lsns n tx (standing s.local.log))

  abbrev more : List LogRecord
  more = clrs_by gone (standing s.local.log)

  abbrev done : Deed
  done = WentBack tx nth upto

  order : Order s.shard s.local.log
  order = order_of s.shard s.local.log h.order.ordered.in_order

  own : AllByRecursion (λ w. gone w ≡ true → tx_same tx w.tx ≡ true) (standing s.local.log)
  own = lsns_own n tx (standing s.local.log) order.writes.falls

  no_commit : (t : TxId) → committed_in more t ≡ false
  no_commit t = undo_commits t more (clrs_undo_by gone (standing s.local.log))

  no_prepare : (t : TxId) → prepared_in more t ≡ false
  no_prepare t = undo_prepares t more (clrs_undo_by gone (standing s.local.log))

  open_ : (t : TxId) → committed_in s.local.log t ≡ false → committed_in (s.local.log ++ more) t ≡ false
  open_ t e = uncommitted_append s.local.log more t e (no_commit t)

  -- of another one the same writes stand
  others_stand : (t : TxId) → (t ≡ tx → ⊥) → has_standing s.local.log t ≡ true → has_standing (s.local.log ++ more) t ≡ true
  others_stand t ne e =
      ap (λ ws. list_any (λ w. tx_same t w.tx) ws) (standing_undone_by gone s.local.log (lsns_newest n tx (standing s.local.log) order.writes.falls))
      ∙ still_left gone t (standing s.local.log) (all_mono _ _ (λ w o same. false_from_ne_true _ (λ i. ne (tx_true t w.tx same ∙ sym (tx_true tx w.tx (o i))))) (standing s.local.log) own) e

  -- whatever the past keeps of it
  rolled_with : (deeds : List Deed) → Kept (record g { done = deeds }) (view_of (with_local (roll_to tx n) s)) → SoundAnswers (all ++ done ∷ []) deeds g.lost → Sound (all ++ done ∷ []) (record g { done = deeds }) (with_local (roll_to tx n) s)
  rolled_with deeds kept answers = record {
    kept = kept;
    answers = answers;
    requests = record { undecided = λ t q e un. ⊎_elim (λ c. inl (open_ t c)) (λ c. inr c) (h.undecided t q e un); readers = h.readers; unfallen = h.unfallen };
    voters = record {
      apart = h.apart;
      unvoted = λ t v e x. ⊎_elim (λ same. open_ t (ap (committed_in s.local.log) same ∙ h.kept.uncommitted tx act)) (λ ne. open_ t (h.unvoted t v e (false_from_ne_true _ (λ y. both_ways _ x (others_stand t ne y))))) (cases_tx t tx);
      read = h.read;
    };
    asked = λ t e. ⊎_elim (λ c. h.asked t c) (λ c. absurd (both_ways _ (open_ t c) e)) (cases_Bool (committed_in s.local.log t));
    falls = falls_more g.asked g.fell g.lost g.over s.local.parts s.local.pairs s.local.log more s.durable h.falls no_prepare (λ t c. absurd (both_ways _ (no_commit t) c));
    order = order_rolls g.asked s.shard s.run s.local.parts s.local.pairs s.local.log s.requests h.order tx n act (h.kept.uncommitted tx act) (h.kept.prepared.unprepared tx act);
  }

  -- so many of its writes that hold come of operations behind the number
  count : tx_in tx g.lost ≡ false → n ≡ count_beyond upto tx g.done
  count alive =
      ap (count_after upto) (numbers tx run_is ∙ ap (λ l. numbers_in (numbered l []))
      (ap held (sym (⊎_elim (λ l. absurd (both_ways _ alive l)) (λ e. e) (h.told tx))) ∙ held_chosen (λ t. tx_same t tx) g.done))

  told_others : (v : TxId) → (v ≡ tx → ⊥) → (tx_in v g.lost ≡ true) ⊎ (deeds_of v g.done ≡ deeds_of v (all ++ done ∷ []))
  told_others v ne = ⊎_elim (λ l. inl l) (λ e. inr (e ∙ sym (push_other done v (λ q. ne (sym q)) all))) (h.told v)

  rolled_lost : tx_in tx g.lost ≡ true → Sound (all ++ done ∷ []) g (with_local (roll_to tx n) s)
  rolled_lost lost = rolled_with g.done
      (keeps_back_lost g (view_of s) tx n h.kept act order.writes.chain order.writes.falls (upward_rolled s.shard s.run s.local.parts s.local.pairs s.local.log tx n h.order.ordered h.order.lying act (h.kept.uncommitted tx act) (h.kept.prepared.unprepared tx act)) (lsns_newest n tx (standing s.local.log) order.writes.falls) own lost)
      (record { told = λ v. ⊎_elim (λ e. inl (ap (λ z. tx_in z g.lost) e ∙ lost)) (λ ne. told_others v ne) (cases_tx v tx); within = part_more done g.done all h.within })

  rolled_alive : tx_in tx g.lost ≡ false → Sound (all ++ done ∷ []) (record g { done = g.done ++ done ∷ [] }) (with_local (roll_to tx n) s)
  rolled_alive alive = rolled_with (g.done ++ done ∷ [])
      (keeps_back g (view_of s) tx n h.kept act order.writes.chain order.writes.falls (upward_rolled s.shard s.run s.local.parts s.local.pairs s.local.log tx n h.order.ordered h.order.lying act (h.kept.uncommitted tx act) (h.kept.prepared.unprepared tx act)) (lsns_newest n tx (standing s.local.log) order.writes.falls) own nth upto alive (count alive)
      (part_all _ g.done all h.within rises))
      (record {
        told = λ v. ⊎_elim
            (λ e. ⊎_elim (λ l. inl l) (λ same. inr (push_own done tx refl v e g.done ∙ ap (λ l. l ++ done ∷ []) same ∙ sym (push_own done tx refl v e all))) (h.told v))
            (λ ne. ⊎_elim (λ l. inl l) (λ e. inr (push_other done v (λ q. ne (sym q)) g.done ∙ e)) (told_others v ne)) (cases_tx v tx);
        within = part_push done g.done all h.within;
      })

  pub rolled_back : (seen : ℕ) → Keeps_reply all g s (RollTo tx nth seen upto) (roll_by_stage s tx n (Some Active))
  rolled_back seen =
      ⊎_elim
      (λ lost. let f = finish_sound (all ++ done ∷ []) g (with_local (roll_to tx n) s) (rolled_lost lost) in does (f.0, f.1, f.2, f.3, f.4, f.5, (λ u e. absurd (none-some u e)), f.6, f.7))
      (λ alive. let f = finish_sound (all ++ done ∷ []) (record g { done = g.done ++ done ∷ [] }) (with_local (roll_to tx n) s) (rolled_alive alive) in does (f.0, f.1, f.2, f.3, f.4, f.5, (λ u e. absurd (none-some u e)), f.6, f.7))
      (cases_Bool (tx_in tx g.lost))

by_stage : {told : List TxId} (all : List Deed) (g : Past) (s : Shard) (tx : TxId) (nth seen upto : ℕ) (o : Option Stage) → Sound all g s → NumbersAre all s → MayGoBack (did all told g) s tx nth seen → (seen == s.local.epoch) ≡ true → stage_of s.local tx ≡ o
    → Keeps_reply all g s (RollTo tx nth seen upto) (roll_by_stage s tx (count_after upto (standing_numbers tx s.journal)) o)
by_stage all g s tx nth seen upto None h numbers may fit e = absurd (may.known (eqb-true seen s.local.epoch fit) (none_part (tx_get tx s.local.parts) e))
  where
    none_part : (x : Option Held) → stage_by x ≡ None → x ≡ None
    none_part None e = refl
    none_part (Some h) e = absurd cc
by_stage all g s tx nth seen upto (Some Active) h numbers may fit e = rolled_back all g s tx nth upto h numbers may.of_run may.rises e seen
by_stage all g s tx nth seen upto (Some Closed) h numbers may fit e = quietly all g s s (RollTo tx nth seen upto) _ (refl, refl, refl) refl h
by_stage all g s tx nth seen upto (Some (Gone None)) h numbers may fit e = quietly all g s s (RollTo tx nth seen upto) _ (refl, refl, refl) refl h
by_stage all g s tx nth seen upto (Some (Gone (Some d))) h numbers may fit e = quietly all g s s (RollTo tx nth seen upto) _ (refl, refl, refl) refl h

pub goes_back : {told : List TxId} (all : List Deed) (g : Past) (s : Shard) (tx : TxId) (nth seen upto : ℕ) (b : Bool) → Sound all g s → NumbersAre all s → MayGoBack (did all told g) s tx nth seen → (seen == s.local.epoch) ≡ b
    → Keeps_reply all g s (RollTo tx nth seen upto) (roll_event s tx seen upto b)
goes_back all g s tx nth seen upto true h numbers may fit = by_stage all g s tx nth seen upto (stage_of s.local tx) h numbers may fit refl
goes_back all g s tx nth seen upto false h numbers may fit = quietly all g s s (RollTo tx nth seen upto) _ (refl, refl, refl) refl h
