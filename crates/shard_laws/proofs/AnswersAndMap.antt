-- Each history of one shard keeps what a shard keeps, so its members are a serial run.
use Rattle.std.proofs.Common.{◌≡◌, ℕ, ◌<◌, ⊎_elim, Bool, true, false, List, [], ◌∷◌, ◌++◌, Option, Some, None, refl, sym, ap, subst, ◌∙◌, inl, inr, map}
use Rattle.std.proofs.lemmas.Bool.{both_ways, or_cases}
use Rattle.std.proofs.lemmas.List.Folds.{list_any-append}
use Rattle.clv_base.specs.declared.names.TxId.{TxId}
use Rattle.clv_base.specs.declared.state.Stage.{Stage}
use Rattle.clv_base.specs.declared.state.Stage.TheVariants.{Active, Closed, Gone}
use Rattle.clv_base.specs.Orders.{tx_same, tx_in}
use Rattle.law_base.specs.Items.{Deed}
use Rattle.clv_base.proofs.SameNames.{tx_true}
use Rattle.law_base.proofs.Tables.{is_pair}
use Rattle.law_base.proofs.Sets.{filter_in, in_filter}
use Rattle.shard_laws.proofs.Keeping.WhatOneShardKeeps.{Past, place, view_of, begins}
use Rattle.std.specs.List.{filter}
use Rattle.std.specs.Prelude.{take}
use Rattle.clv_base.specs.declared.events.Event.{Event}
use Rattle.clv_base.specs.declared.events.Event.TheVariants.{Op as OpEvent, Request as RequestEvent, Look, Drop, Send, Deliver, Remind, FlushOut, FlushIn, Stop, Restart as RestartEvent, RollTo}
use Rattle.clv_base.specs.declared.events.Outcome.{Outcome}
use Rattle.clv_base.specs.Maps.{replay_map, replay_answers}
use Rattle.clv_base.specs.declared.logs.LogRecord.{LogRecord}
use Rattle.clv_base.specs.Logs.{stands, standing, committed_in, in_doubt}
use Rattle.clv_base.specs.State.{Shard}
use Rattle.clv_base.specs.Undo.{stage_of}
use Rattle.clv_base.specs.Events.{Reply, Does, landed, put_down, epoch_in}
use Rattle.clv_base.specs.OneShard.{seen_fits}
use Rattle.clv_base.specs.Restarts.{revived}
use Rattle.shard_laws.specs.OneShard.{Deeds, with_one, asks_by_stage, new_asked, MayHappen, Leads, opens, happens, lands, others_ask, revives, new_told, is_member, acts_by, answers_by, AnswersAndMap, ValuesAreFolds, Recoverable, new_met, GoBackInOrder}
use Rattle.shard_laws.proofs.Events.DueKeeps.{Sound, as_done, After, More_over, at_once}
use Rattle.shard_laws.proofs.Restarts.OpeningKeeps.{past_of, sound_opened, opened_undoomed}
use Rattle.shard_laws.proofs.Restarts.RestartsKeep.{revived_sound}
use Rattle.shard_laws.proofs.Cuts.WhatCutsHold.{of_kept}
use Rattle.shard_laws.proofs.Restarts.FoundDoubtedActedBefore.{order_once}
use Rattle.shard_laws.specs.OneShard.{is_doomed, doomed_in, left_out}
use Rattle.shard_laws.proofs.Keeping.FallenAndLost.{Fell}
use Rattle.shard_laws.proofs.Restarts.UnrestoredFell.{stage_name}
use Rattle.shard_laws.proofs.Keeping.LeavingKeeps.{in_first, in_more, in_two, none_two}
use Rattle.clv_base.specs.State.{is_present}
use Rattle.std.proofs.lemmas.Bool.{false_from_ne_true}
use Rattle.std.proofs.lemmas.Option.{none-some as none_tx, same_Some}
use Rattle.shard_laws.proofs.Events.EventsKeep.{happen_sound, landed_sound, failed_sound}
use Rattle.shard_laws.proofs.Events.RequestsKeep.{asks_sound}
use Rattle.shard_laws.proofs.Cuts.MembersRunSerially.{Once, once_push}
use Rattle.shard_laws.proofs.Cuts.MembersOfCutsReplay.{serial_run, recovered}
use Rattle.shard_laws.proofs.Events.StandingNumbers.{numbers_are}
use Rattle.law_base.proofs.Running.{top_value}

-- ---- who asks, asks once

asks_active : (t u : TxId) (o : Option Stage) (b : Bool) → asks_by_stage t o b ≡ Some u → (o ≡ Some Active) × (t ≡ u)
asks_active t u None b e = absurd (none_tx u e)
asks_active t u (Some Active) true e = (refl, same_Some t u e)
asks_active t u (Some Active) false e = absurd (none_tx u e)
asks_active t u (Some Closed) b e = absurd (none_tx u e)
asks_active t u (Some (Gone d)) b e = absurd (none_tx u e)

asked_new : (d : Deeds) (s : Shard) (e : Event) (u : TxId) → MayHappen d s e → new_asked s e ≡ Some u → tx_in u d.asked ≡ false
asked_new d s (OpEvent tx birth nth seen op) u may e = absurd (none_tx u e)
asked_new d s (RollTo tx nth seen upto) u may e = absurd (none_tx u e)
asked_new d s (RequestEvent tx touched) u may e = let a = asks_active tx u (stage_of s.local tx) (seen_fits s.local.epoch (epoch_in s.shard touched)) e in ap (λ z. tx_in z d.asked) (sym a.1) ∙ may.0
asked_new d s (Look tx) u may e = absurd (none_tx u e)
asked_new d s (Drop tx) u may e = absurd (none_tx u e)
asked_new d s Send u may e = absurd (none_tx u e)
asked_new d s (Deliver m stamp) u may e = absurd (none_tx u e)
asked_new d s Remind u may e = absurd (none_tx u e)
asked_new d s FlushOut u may e = absurd (none_tx u e)
asked_new d s FlushIn u may e = absurd (none_tx u e)
asked_new d s Stop u may e = absurd (none_tx u e)
asked_new d s RestartEvent u may e = absurd (none_tx u e)

once_more : (as_ : List TxId) (o : Option TxId) → Once as_ → ((t : TxId) → o ≡ Some t → tx_in t as_ ≡ false) → Once (with_one as_ o)
once_more as_ None h n = h
once_more as_ (Some t) h n = once_push as_ t h (n t refl)

-- ---- all histories

data Landed (all : List Deed) (g : Past) : Reply → Type 0 where
  does : {o : Outcome} {t : Shard} → After all g t → Landed all g (Does o t)

landed_any : (all : List Deed) (g : Past) (s : Shard) (n : ℕ) (pushed : Bool) → Sound all g s → s.flight ≡ Some n → Landed all g (landed s n pushed)
landed_any all g s n true h e = does (landed_sound all g s n h e)
landed_any all g s n false h e = does (at_once all g (put_down s) (failed_sound all g s h))

from_landed : (all : List Deed) (g : Past) (o : Outcome) (t : Shard) → Landed all g (Does o t) → After all g t
from_landed all g o t (does a) = a

abbrev Over_all : List TxId → Past → Type 0
Over_all told g = (t : TxId) → tx_in t told ≡ true → tx_in t g.over ≡ true

told_more : (told : List TxId) (o : Option TxId) (g h : Past) → Over_all told g → More_over g h → ((u : TxId) → o ≡ Some u → tx_in u h.over ≡ true) → Over_all (with_one told o) h
told_more told None g h a m n = λ t i. m t (a t i)
told_more told (Some u) g h a m n = λ t i. ⊎_elim (λ j. m t (a t j)) (λ j. ⊎_elim (λ e. ap (λ z. tx_in z h.over) (sym (tx_true u t e)) ∙ n u refl) (λ e. absurd (both_ways false refl e)) (or_cases (tx_same u t) false j)) (or_cases (tx_in t told) _ (sym (list_any-append (λ x. tx_same x t) told (u ∷ [])) ∙ i))

-- ---- who fell, between the steps

doomed_named : (t : Shard) (u : TxId) → is_doomed (stage_of t.local u) ≡ true → tx_in u (doomed_in t) ≡ true
doomed_named t u d = filter_in (λ x. is_doomed (stage_of t.local x)) u (map (λ p. p.0) t.local.parts) (at (stage_of t.local u) refl d) d
  where
    at : (o : Option Stage) → stage_of t.local u ≡ o → is_doomed o ≡ true → tx_in u (map (λ p. p.0) t.local.parts) ≡ true
    at None f d = absurd (both_ways false refl d)
    at (Some st) f d = stage_name u t.local.parts st f

pub named_doomed : (t : Shard) (u : TxId) → tx_in u (doomed_in t) ≡ true → is_doomed (stage_of t.local u) ≡ true
named_doomed t u i = (in_filter (λ x. is_doomed (stage_of t.local x)) u (map (λ p. p.0) t.local.parts) i).1

absent_doomed : (o : Option Stage) → is_doomed o ≡ true → is_present o ≡ true → ⊥
absent_doomed None d p = both_ways false refl d
absent_doomed (Some Active) d p = both_ways false refl d
absent_doomed (Some Closed) d p = both_ways false refl d
absent_doomed (Some (Gone x)) d p = both_ways false refl p

-- at the end of a step those that an abort took away fell
refell : (all : List Deed) (g : Past) (t : Shard) → Sound all g t → Sound all (record g { fell = doomed_in t ++ g.fell }) t
refell all g t h =
    let k = h.kept in
    let f = h.falls in
    record {
      kept = record { start = k.start; past = k.past; log = k.log; records = k.records; locks = k.locks; parts = k.parts; fates = k.fates; ends = k.ends; pairs = k.pairs; durable = k.durable };
      answers = h.answers;
      requests = record { undecided = h.undecided; readers = h.readers; unfallen = λ u q e un here. none_two (doomed_in t) g.fell u (false_from_ne_true _ (λ i. absent_doomed (stage_of t.local u) (named_doomed t u i) here)) (h.unfallen u q e un here) };
      voters = h.voters;
      asked = h.asked;
      falls = record {
        fallen = λ u e. f.fallen u (⊎_elim (λ i. old u i) (λ d. inr d) e);
        open_ = f.open_;
        unfinished = f.unfinished;
        why = λ u l. ⊎_elim (λ e. inl (now u e)) (λ q. inr q) (f.why u l);
        up = f.up;
        lists = f.lists;
        back = λ u i here. ⊎_elim (λ j. f.back u j here) (λ d. absurd (absent_doomed (stage_of t.local u) d here)) (old u i);
        owns = f.owns;
        gone = λ u p c n. ⊎_elim (λ e. inl (now u e)) (λ r. inr r) (f.gone u p c n);
        settled = f.settled;
        paired = f.paired;
      };
      order = h.order;
    }
  where
    old : (u : TxId) → tx_in u (doomed_in t ++ g.fell) ≡ true → Fell g.fell t.local.parts u
    old u i = ⊎_elim (λ d. inr (named_doomed t u d)) (λ j. inl j) (in_two (doomed_in t) g.fell u i)

    now : (u : TxId) → Fell g.fell t.local.parts u → Fell (doomed_in t ++ g.fell) t.local.parts u
    now u (inl i) = inl (in_more (doomed_in t) g.fell u i)
    now u (inr d) = inr d

abbrev pub Holds : ℕ → ℕ → List LogRecord → Deeds → Shard → Type 0
Holds shard run before d s =
    (g : Past) × Sound d.done g s × (g.start ≡ stands (before ∷ [])) × (g.base ≡ filter (of_kept (committed_in before)) (standing before)) × (g.asked ≡ d.asked) × Once d.asked × Over_all d.told g × (g.met ≡ d.met) × (g.fell ≡ d.fell) × ((u : TxId) → is_doomed (stage_of s.local u) ≡ true → tx_in u g.fell ≡ true)

boundary : (t : Shard) (fell : List TxId) (u : TxId) → is_doomed (stage_of t.local u) ≡ true → tx_in u (doomed_in t ++ fell) ≡ true
boundary t fell u d = in_first (doomed_in t) fell u (doomed_named t u d)

pub held : (shard run : ℕ) (before : List LogRecord) (d : Deeds) (s : Shard) → Leads shard run before d s → Holds shard run before d s
held shard run log0 _ _ (opens may) = (past_of shard log0, sound_opened shard run log0 may, refl, refl, refl, order_once shard (λ t. tx_in t (in_doubt shard log0)) log0 may.0, (λ t i. absurd (both_ways false refl i)), refl, refl, (λ u d. absurd (opened_undoomed shard run log0 u d)))
held shard run log0 _ _ (happens {d} {s} e o t stamp walker before may eq) =
    let b = held shard run log0 d s before in
    let later = happen_sound d.done d.told b.0 s e o t b.1 (numbers_are shard run log0 d s before) (subst (λ x. MayHappen x s e) (sym (as_done d b.0 b.4 b.7 b.8)) may) eq in (
      record later.0 { fell = doomed_in t ++ (later.0).fell },
      refell _ later.0 t later.1,
      later.2 ∙ b.2,
      later.3 ∙ b.3,
      later.4 ∙ ap (λ l. with_one l (new_asked s e)) b.4,
      once_more d.asked (new_asked s e) b.5 (λ u n. asked_new d s e u may n),
      told_more d.told (new_told e o) b.0 later.0 b.6 later.5 later.6,
      later.7 ∙ ap (λ l. new_met s e o ++ l) b.7,
      ap (λ l. doomed_in t ++ l) (later.8 ∙ b.8),
      boundary t (later.0).fell,
    )
held shard run log0 _ _ (lands {d} {s} n pushed o t stamp walker before flies eq) =
    let b = held shard run log0 d s before in
    let later = from_landed d.done b.0 o t (subst (Landed d.done b.0) eq (landed_any d.done b.0 s n pushed b.1 flies)) in (
      record later.0 { fell = doomed_in t ++ (later.0).fell },
      refell d.done later.0 t later.1,
      later.2 ∙ b.2,
      later.3 ∙ b.3,
      later.4 ∙ b.4,
      b.5,
      (λ u i. later.5 u (b.6 u i)),
      later.6 ∙ b.7,
      ap (λ l. doomed_in t ++ l) (later.7 ∙ b.8),
      boundary t (later.0).fell,
    )
held shard run log0 _ _ (others_ask {d} {s} t before new) =
    let b = held shard run log0 d s before in
    (record b.0 { asked = (b.0).asked ++ t ∷ [] }, asks_sound d.done b.0 s t b.1, b.2, b.3, ap (λ l. l ++ t ∷ []) b.4, once_push d.asked t b.5 new, b.6, b.7, b.8, b.9)
held shard run log0 _ _ (revives {d} {s} kept epoch log stamp walker before down leads) =
    let b = held shard run log0 d s before in
    let later = revived_sound d.done d.told b.0 s kept epoch log b.1 b.9 (subst Once (sym b.4) b.5) b.6 leads in
    (later.0, later.1, later.2 ∙ b.2, later.3 ∙ b.3, later.4 ∙ b.4, b.5, later.5, later.6 ∙ b.7, later.7 ∙ ap (λ l. left_out s (revived s epoch log) ++ l) b.8, later.8)

pub answers_and_map : AnswersAndMap
answers_and_map shard run before d s cut leads le backs =
    let b = held shard run before d s leads in
    let r = serial_run d.done b.0 s d.told cut b.1 le (subst Once (sym b.4) b.5) b.6 (subst (λ l. GoBackInOrder (filter (is_member s cut d.told) l) d.done) (sym b.4) backs) in (
      subst (λ l. replay_answers (stands (before ∷ [])) (acts_by (filter (is_member s cut d.told) l) d.done) ≡ answers_by (filter (is_member s cut d.told) l) d.done) b.4 (subst (λ m. replay_answers m (acts_by (filter (is_member s cut d.told) (b.0).asked) d.done) ≡ answers_by (filter (is_member s cut d.told) (b.0).asked) d.done) b.2 r.0),
      subst (λ l. replay_map (stands (before ∷ [])) (acts_by (filter (is_member s cut d.told) l) d.done) ≡ stands (take cut s.local.log ∷ [])) b.4 (subst (λ m. replay_map m (acts_by (filter (is_member s cut d.told) (b.0).asked) d.done) ≡ stands (take cut s.local.log ∷ [])) b.2 r.1),
    )

pub values_are_folds : ValuesAreFolds
values_are_folds shard run before d s leads k = let b = held shard run before d s leads in let h = (b.1).kept in h.values k ∙ ap (λ base. top_value base k (standing s.local.log)) (sym (begins b.0 (view_of s) h))

pub recoverable : Recoverable
recoverable shard run before d s cut t p leads le e member =
    let b = held shard run before d s leads in
    let r = recovered d.done b.0 s d.told cut b.1 le (subst Once (sym b.4) b.5) b.6 t p (subst (λ m. is_pair m t p ≡ true) (sym b.7) e) member in
    (r.0, subst (λ l. place (filter (is_member s cut d.told) l) p < place (filter (is_member s cut d.told) l) t) b.4 r.1)
