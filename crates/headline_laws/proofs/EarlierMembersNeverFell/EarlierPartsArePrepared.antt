-- Parts of transactions of earlier runs are restored ones: each is prepared.
use Rattle.std.proofs.Common.{◌≡◌, ◌⊎◌, inl, inr, refl, sym, ap, subst, ◌∙◌, ℕ, ◌<◌, true, false, Bool, List, [], ◌∷◌, ◌++◌, Option, Some, None}
use Rattle.clv_base.specs.declared.names.TxId.{TxId}
use Rattle.clv_base.specs.declared.logs.LogRecord.{LogRecord}
use Rattle.clv_base.specs.declared.state.Stage.{Stage}
use Rattle.clv_base.specs.declared.events.Event.{Event}
use Rattle.clv_base.specs.declared.events.Outcome.{Outcome}
use Rattle.clv_base.specs.Shards.{shard_count}
use Rattle.clv_base.specs.LogRules.{log_of}
use Rattle.clv_base.specs.Orders.{tx_in}
use Rattle.clv_base.specs.Logs.{prepared_in, prepare_of, in_doubt}
use Rattle.clv_base.specs.State.{Shard}
use Rattle.clv_base.specs.Undo.{stage_of}
use Rattle.clv_base.specs.Events.{finish, with_durable}
use Rattle.clv_base.specs.Restarts.{run_after, log_after_restart}
use Rattle.clv_base.specs.Journals.{History, event_state, up_to_restart}
use Rattle.clv_base.specs.History.{Legal}
use Rattle.law_base.proofs.Changed.{none_some}
use Rattle.protocol_laws.specs.Growth.{IsPrefixOf}
use Rattle.protocol_laws.specs.SessionLaws.{tx_of}
use Rattle.history_cases.proofs.Stepping.{Happens, finishes, stops}
use Rattle.history_cases.proofs.Entering.{Makes, by_event, by_flush, by_failure, by_restart, makes}
use Rattle.history_cases.proofs.Merging.{Placed}
use Rattle.history_laws.proofs.NeverTakenBack.{walker_of}
use Rattle.history_cases.proofs.Worlds.{state_at}
use Rattle.shard_laws.proofs.Restarts.RestoredLocksAndParts.{restored_none}
use Rattle.shard_laws.proofs.Order.ChangesKeepOrder.{prepare_some}
use Rattle.fate_laws.proofs.Logs.LogOnlyGrows.{inside_self, inside_step}
use Rattle.fate_laws.proofs.Logs.WhatAddsNoPrepare.{prepare_more}
use Rattle.fate_laws.proofs.History.EntryByEntry.{Next, next_at, each_shard}
use Rattle.fate_laws.specs.Earlier.{IsEarlier}
use Rattle.fate_laws.proofs.FallenAreUncommitted.NoPartWithoutOperation.{DoesNow, none_made}
use Rattle.fate_laws.proofs.FallenAreUncommitted.FrontsKeepOutUncommitted.{walk_on}
use Rattle.headline_laws.proofs.GoneAreLost.WhyPreparedOnesGo.{inside_finish}
use Rattle.history_laws.proofs.Logs.DoubtedAreUndecided.{doubt_prepared}
use Rattle.protocol_laws.proofs.LogsInOrder.OneRecordMore.{prepared_there}

-- a shard that came back has parts of those in doubt alone
restored_prepared : (shard : ℕ) (log : List LogRecord) (s : Shard) (t : TxId) (st : Stage) → ((u : TxId) → tx_in u (in_doubt shard log) ≡ false → stage_of s.local u ≡ None) → stage_of s.local t ≡ Some st → prepared_in log t ≡ true
restored_prepared shard log s t st k c = at (tx_in t (in_doubt shard log)) refl
  where
    at : (b : Bool) → tx_in t (in_doubt shard log) ≡ b → prepared_in log t ≡ true
    at true i = doubt_prepared shard log t i
    at false i = absurd (none_some st (sym (k t i) ∙ c))

longer_prepared : (xs ys : List LogRecord) (t : TxId) → IsPrefixOf xs ys → prepared_in xs t ≡ true → prepared_in ys t ≡ true
longer_prepared xs ys t (more, e) h = let p = prepare_some xs t h in prepared_there ys t p.0 (subst (λ l. prepare_of l t ≡ Some p.0) e (prepare_more xs more t p.0 p.1))

prepared_event : (s x : Shard) {e : Event} {o : Outcome} (t : TxId) → Happens s e o x → prepared_in s.local.log t ≡ true → prepared_in x.local.log t ≡ true
prepared_event s _ t (finishes {t = y} u h) p = longer_prepared s.local.log (finish y).local.log t (inside_finish s y (inside_step s y h)).log p
prepared_event s _ t (stops u) p = p

prepared_made : (log : List LogRecord) (s x : Shard) {e : Event} {o : Outcome} (t : TxId) (st : Stage) → Makes log s e o x → stage_of x.local t ≡ Some st → prepared_in s.local.log t ≡ true → prepared_in x.local.log t ≡ true
prepared_made log s x t st (by_event g h) c p = prepared_event s x t h p
prepared_made log s _ t st (by_flush m u g) c p =
    let z = with_durable m s in longer_prepared s.local.log (finish z).local.log t (inside_finish z z (inside_self z)).log p
prepared_made log s _ t st (by_failure m u g) c p = p
prepared_made log s x t st (by_restart epoch kept u r) c p = restored_prepared s.shard (up_to_restart s.run epoch log) x t st (λ v i. restored_none (in_doubt s.shard (up_to_restart s.run epoch log)) v i) c

abbrev pub HoldsPrepared : List (List LogRecord) → Shard → Type 0
HoldsPrepared before s = (t : TxId) (st : Stage) → IsEarlier before t → stage_of s.local t ≡ Some st → prepared_in s.local.log t ≡ true

AllHold : (splits : List ℕ) (before after : List (List LogRecord)) (pre : History) → Type 0
AllHold splits before after pre = (n : ℕ) → n < shard_count splits → HoldsPrepared before (state_at before after n pre)

holds_next : (splits : List ℕ) (before after : List (List LogRecord)) (h pre : History) (e : Placed) (post : History) → Legal splits before h after → pre ++ e ∷ post ≡ h → AllHold splits before after pre → AllHold splits before after (pre ++ e ∷ [])
unfolding AllHold
holds_next splits before after h pre e post l q k n i = each_shard (λ m z. HoldsPrepared before z) before after e pre (subst (HoldsPrepared before) (sym (w.split).next) here) n (k n i)
  where
    w : Next splits before after h pre e
    w = next_at splits before after h pre e post l q

    s : Shard
    s = state_at before after e.0 pre

    x : Shard
    x = event_state (log_of after e.0) (state_at before after e.0 pre) (e.1).event (e.1).outcome

    made : Makes (log_of after e.0) (state_at before after e.0 pre) (e.1).event (e.1).outcome (event_state (log_of after e.0) (state_at before after e.0 pre) (e.1).event (e.1).outcome)
    made = makes (log_of after e.0) (state_at before after e.0 pre) (e.1).event (e.1).outcome ((w.split).enters).event

    here : HoldsPrepared before (event_state (log_of after e.0) (state_at before after e.0 pre) (e.1).event (e.1).outcome)
    here t st r c = at (stage_of (state_at before after e.0 pre).local t) refl
      where
        by_case : (stage_of x.local t ≡ None) ⊎ ((prepared_in x.local.log t ≡ true) ⊎ DoesNow t (e.1).event (e.1).outcome) → prepared_in x.local.log t ≡ true
        by_case (inl z) = absurd (none_some st (sym z ∙ c))
        by_case (inr (inl z)) = z
        by_case (inr (inr (birth, nth, seen, op, a, ep, z, y))) = absurd (r (walker_of splits before after h e t w.legal w.among (ap tx_of z)).0)

        at : (so : Option Stage) → stage_of (state_at before after e.0 pre).local t ≡ so → prepared_in x.local.log t ≡ true
        at (Some old) b = prepared_made (log_of after e.0) s x t st made c (k e.0 w.inside t old r b)
        at None b = by_case (none_made (log_of after e.0) s x t made b)

holds_start : (splits : List ℕ) (before after : List (List LogRecord)) → AllHold splits before after []
unfolding AllHold
holds_start splits before after n i t st r c =
    let log = log_after_restart n (log_of before n) (run_after before) 0 in
    restored_prepared n log (state_at before after n []) t st (λ u j. restored_none (in_doubt n log) u j) c

-- after each front of a legal history
pub holds_front : (splits : List ℕ) (before after : List (List LogRecord)) (h pre post : History) → Legal splits before h after → pre ++ post ≡ h → (n : ℕ) → n < shard_count splits → HoldsPrepared before (state_at before after n pre)
unfolding AllHold
holds_front splits before after h pre post l q n i = walk_on (AllHold splits before after) h [] pre post q (λ f e r z k. holds_next splits before after h f e r l z k) (holds_start splits before after) n i
