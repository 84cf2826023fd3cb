-- A look, a drop, what is sent and a flush keep what a shard keeps.
use Rattle.std.proofs.Common.{◌≡◌, ℕ, zero, suc, ◌+◌, inl, inr, ⊎_elim, Bool, true, false, cond, List, [], ◌∷◌, Option, Some, None, ◌==◌, refl, sym, ap, subst, ◌∙◌, arith}
use Rattle.std.proofs.lemmas.Bool.{both_ways, or_cases, false_from_ne_true}
use Rattle.clv_base.specs.declared.names.TxId.{TxId}
use Rattle.clv_base.specs.declared.state.Stage.{Stage}
use Rattle.clv_base.specs.declared.state.Stage.TheVariants.{Active, Closed, Gone}
use Rattle.clv_base.specs.Orders.{tx_same, tx_in, tx_get}
use Rattle.clv_base.specs.Logs.{committed_in}
use Rattle.clv_base.specs.State.{Shard, with_local, is_present}
use Rattle.clv_base.specs.Undo.{stage_of}
use Rattle.clv_base.specs.Facts.{facts_of, has_durable_commit}
use Rattle.clv_base.specs.OneShard.{without_part, drop_part}
use Rattle.clv_base.specs.Due.{send}
use Rattle.clv_base.specs.Events.{QuietBeforeWorn, Does, finish, look_lost, look_state, look_known, look_event, request_epoch, drop_event, send_event, with_outbox, remind_with, out_event, with_flight}
use Rattle.law_base.specs.Items.{Deed}
use Rattle.clv_base.proofs.SameNames.{or_left, or_right, tx_true, tx_eq}
use Rattle.law_base.proofs.Commits.{durable_committed}
use Rattle.shard_laws.proofs.Keeping.WhatOneShardKeeps.{Past}
use Rattle.clv_base.specs.declared.state.Request.{Request}
use Rattle.clv_base.specs.declared.state.RequestState.{RequestState}
use Rattle.clv_base.specs.declared.state.RequestState.TheVariants.{Undecided, Committed, Finished, Refused}
use Rattle.clv_base.specs.declared.causes.AbortCause.TheVariants.{Restarted as RestartedCause}
use Rattle.clv_base.specs.declared.messages.Message.{Message}
use Rattle.clv_base.specs.declared.events.Event.TheVariants.{Look, Drop, Send, Remind, FlushOut}
use Rattle.clv_base.specs.declared.events.Outcome.TheVariants.{Acknowledged, Aborted, NotYet}
use Rattle.shard_laws.proofs.Keeping.WhatOneShardKeeps.{view_of}
use Rattle.shard_laws.proofs.Keeping.RecordsAndFrontsKeep.{keeps_flight}
use Rattle.std.proofs.lemmas.Option.{same_Some}
use Rattle.shard_laws.proofs.Keeping.FallenAndLost.{falls_over}
use Rattle.law_base.proofs.Lists.{all_mono}
use Rattle.shard_laws.proofs.Events.DueKeeps.{Sound, at_once, marked_sound}
use Rattle.shard_laws.proofs.Events.KeptAfterReplies.{Keeps_reply, ends_told, ends, at_cond, quietly, early}
use Rattle.shard_laws.proofs.Events.WhoOperatesNow.{dies_if}
use Rattle.shard_laws.specs.OneShard.{doer}

-- whose COMMIT is durable may be told so
add_over : (all : List Deed) (g : Past) (s : Shard) (tx : TxId) → Sound all g s → has_durable_commit (facts_of s tx) ≡ true → Sound all (record g { over = tx ∷ g.over }) s
add_over all g s tx h d =
    let k = h.kept in
    record {
      kept = record {
        start = k.start;
        past = k.past;
        log = k.log;
        records = k.records;
        locks = k.locks;
        parts = k.parts;
        fates = k.fates;
        ends = record {
          left = all_mono _ _ (λ e l. ⊎_elim (λ a. inl a) (λ a. inr (⊎_elim (λ o. inl (or_right (tx_same tx (doer e)) _ o)) (λ c. inr c) a)) l) g.done k.left;
          over = λ u o. ⊎_elim (λ e. inl (subst (λ z. has_durable_commit (facts_of s z) ≡ true) (tx_true tx u e) d)) (λ i. k.over u i) (or_cases (tx_same tx u) (tx_in u g.over) o);
          recover = k.recover;
        };
        pairs = k.pairs;
        durable = k.durable;
      };
      answers = h.answers;
      requests = record { undecided = h.undecided; readers = λ u q e f. or_right (tx_same tx u) _ (h.readers u q e f); unfallen = h.unfallen };
      voters = h.voters;
      asked = h.asked;
      falls = falls_over g.asked g.fell g.lost g.over s.local.parts s.local.pairs s.local.log s.durable tx (false_from_ne_true _ (λ l. both_ways _ (h.falls.open_ tx l) (durable_committed s.local.log s.durable tx d))) h.falls;
      order = h.order;
    }

lost : (all : List Deed) (g : Past) (s : Shard) (tx : TxId) (e : Option ℕ) → Sound all g s → Keeps_reply all g s (Look tx) (look_lost s tx e)
lost all g s tx None h = early
lost all g s tx (Some e) h = at_cond all g s (Look tx) (e == s.local.epoch) (QuietBeforeWorn NotYet) (Does (Aborted (RestartedCause s.shard e s.local.epoch)) (finish s)) early (ends all g s s (Look tx) _ (refl, refl, refl) refl (at_once all g s h))

ruled : (all : List Deed) (g : Past) (s : Shard) (tx : TxId) (r : RequestState) → Sound all g s → (r ≡ Finished → tx_in tx g.over ≡ true) → Keeps_reply all g s (Look tx) (look_state s r)
ruled all g s tx Undecided h f = early
ruled all g s tx (Committed ps) h f = early
ruled all g s tx Finished h f = ends_told all g s s (Look tx) _ (refl, refl, refl) (g, h, refl, refl, refl, (λ u o. o), refl, refl) (λ u n. ap (λ z. tx_in z g.over) (sym (same_Some tx u n)) ∙ f refl)
ruled all g s tx (Refused c) h f = ends all g s s (Look tx) _ (refl, refl, refl) refl (at_once all g s h)

known : (all : List Deed) (g : Past) (s : Shard) (tx : TxId) (q : Option Request) → Sound all g s → tx_get tx s.requests ≡ q → Keeps_reply all g s (Look tx) (look_known s tx q)
known all g s tx None h e = at_cond all g s (Look tx) (committed_in s.local.log tx) (QuietBeforeWorn NotYet) (look_lost s tx (request_epoch s.shard tx s.journal)) early (lost all g s tx (request_epoch s.shard tx s.journal) h)
known all g s tx (Some q) h e = ruled all g s tx q.state h (h.readers tx q e)

pub looked : (all : List Deed) (g : Past) (s : Shard) (tx : TxId) → Sound all g s → Keeps_reply all g s (Look tx) (look_event s tx)
looked all g s tx h = at (has_durable_commit (facts_of s tx)) refl
  where
    at : (b : Bool) → has_durable_commit (facts_of s tx) ≡ b → Keeps_reply all g s (Look tx) (cond b (Does Acknowledged (finish s)) (look_known s tx (tx_get tx s.requests)))
    at true d = ends_told all g s s (Look tx) Acknowledged (refl, refl, refl) (record g { over = tx ∷ g.over }, add_over all g s tx h d, refl, refl, refl, (λ u o. or_right (tx_same tx u) _ o), refl, refl) (λ u n. or_left _ _ (tx_eq tx u (same_Some tx u n)))
    at false d = known all g s tx (tx_get tx s.requests) h refl

pub dropped : (all : List Deed) (g : Past) (s : Shard) (tx : TxId) (o : Option Stage) → Sound all g s → (stage_of s.local tx ≡ Some Closed → committed_in s.local.log tx ≡ false) → Keeps_reply all g s (Drop tx) (drop_event s tx o)
dropped all g s tx None h n = early
dropped all g s tx (Some st) h n =
    let a = dies_if all g s tx (is_present (stage_of s.local tx)) h (open_ (stage_of s.local tx) refl) in
    let m = marked_sound all a.0 (record s { local = without_part tx s.local }) tx a.1 in
    ends all g s (with_local (drop_part tx) s) (Drop tx) _ (refl, refl, refl) refl
    (a.0, m, a.2, a.3, a.4, a.5, a.6, a.7)
  where
    open_ : (o : Option Stage) → stage_of s.local tx ≡ o → is_present o ≡ true → committed_in s.local.log tx ≡ false
    open_ None e p = absurd (both_ways false refl p)
    open_ (Some Active) e p = h.kept.uncommitted tx e
    open_ (Some Closed) e p = n e
    open_ (Some (Gone d)) e p = absurd (both_ways false refl p)

pub sent : (all : List Deed) (g : Past) (s : Shard) (ms : List Message) → Sound all g s → Keeps_reply all g s Send (send_event s ms)
sent all g s [] h = early
sent all g s (m ∷ ms) h = quietly all g s (with_outbox ms s) Send _ (refl, refl, refl) refl h

pub reminded : (all : List Deed) (g : Past) (s : Shard) (out ms : List Message) → Sound all g s → Keeps_reply all g s Remind (remind_with s out ms)
reminded all g s [] [] h = early
reminded all g s [] (m ∷ ms) h = quietly all g s (send (m ∷ ms) s) Remind _ (refl, refl, refl) refl h
reminded all g s (o ∷ os) ms h = early

pub flushed : (all : List Deed) (g : Past) (s : Shard) (f : Option ℕ) (n : ℕ) → Sound all g s → Keeps_reply all g s FlushOut (out_event s f n)
flushed all g s None zero h = early
flushed all g s (Some m) zero h = early
flushed all g s (Some m) (suc n) h = early
flushed all g s None (suc n) h = quietly all g s (with_flight (s.durable + suc n) s) FlushOut _ (refl, refl, refl) refl (record { kept = keeps_flight g (view_of s) (s.durable + suc n) h.kept (omega arith); answers = h.answers; requests = h.requests; voters = h.voters; asked = h.asked; falls = h.falls; order = h.order })
