-- Who voted yes on a member has its COMMIT left, or is in doubt.
use Rattle.std.proofs.Common.{◌≡◌, inl, inr, refl, sym, ap, subst, ℕ, ◌<◌, true, false, cond, Bool, ◌==◌, List, [], Option, Some, None, append-nil}
use Rattle.std.specs.Prelude.{unwrap_or}
use Rattle.std.specs.List.{list_all}
use Rattle.std.proofs.lemmas.Bool.{both_ways, false_from_ne_true}
use Rattle.clv_base.specs.declared.names.TxId.{TxId}
use Rattle.clv_base.specs.declared.causes.Vote.TheVariants.{Yes}
use Rattle.clv_base.specs.declared.logs.LogRecord.{LogRecord}
use Rattle.clv_base.specs.declared.messages.Message.TheVariants.{Vote as VoteMessage}
use Rattle.clv_base.specs.declared.events.Event.TheVariants.{Request as RequestEvent}
use Rattle.clv_base.specs.declared.events.Outcome.TheVariants.{Asked, Sent}
use Rattle.clv_base.specs.declared.events.Entry.{Entry}
use Rattle.clv_base.specs.Orders.{tx_in, nat_in}
use Rattle.clv_base.specs.Coordinator.{others}
use Rattle.clv_base.specs.Shards.{shard_count}
use Rattle.clv_base.specs.Logs.{committed_in, aborted_in, prepared_in, prepare_of, in_doubt}
use Rattle.clv_base.specs.LogRules.{log_of, listed_in}
use Rattle.clv_base.specs.State.{Shard}
use Rattle.clv_base.specs.Restarts.{run_after, log_left}
use Rattle.clv_base.specs.Journals.{History, final_of}
use Rattle.clv_base.specs.History.{IsAmong, logs_left}
use Rattle.protocol_laws.specs.Growth.{IsPrefixOf}
use Rattle.protocol_laws.specs.SessionLaws.{tx_of}
use Rattle.history_cases.proofs.Durability.{left_front}
use Rattle.history_cases.proofs.Merging.{is_among}
use Rattle.history_laws.specs.Openings.{LegalFrom}
use Rattle.history_laws.proofs.NeverTakenBack.{walker_of, log_now}
use Rattle.history_cases.proofs.Worlds.{in_a_shard}
use Rattle.fate_laws.specs.Binding.{HasItsPart}
use Rattle.fate_laws.specs.Decisions.{is_left}
use Rattle.fate_laws.proofs.Parts.CommitsHaveTheirParts.{commits_have_their_parts}
use Rattle.fate_laws.proofs.Parts.YesVotesArePrepared.{Bound}
use Rattle.fate_laws.proofs.Parts.FrontsKeepParts.{Bindings, bindings_front}
use Rattle.fate_laws.proofs.VotesBind.CastVotesStayBound.{casts_front}
use Rattle.fate_laws.proofs.History.EntryByEntry.{one_home}
use Rattle.fate_laws.proofs.Logs.WhatAddsNoPrepare.{prepare_more, front_prepare}
use Rattle.headline_laws.proofs.GoneAreLost.WhyPreparedOnesGo.{aborted_take}
use Rattle.headline_laws.proofs.YesVotersNeverFell.{bound_unaborted}
use Rattle.headline_laws.specs.ReplayingHere.{IsHere}
use Rattle.headline_laws.proofs.AtOpening.RecordedAreKnown.{doubted}
use Rattle.headline_laws.proofs.SharesAreMaps.{at_somewhere}
use Rattle.protocol_laws.proofs.LogsInOrder.OneRecordMore.{prepared_there}

module _ {splits : List ℕ} {before after : List (List LogRecord)} {h : History} (l : LegalFrom splits before h after) (choice : ℕ → Bool)
    (n : ℕ) (i : n < shard_count splits) (t : TxId) (home : ℕ) (e : Entry) (touched : List (ℕ × ℕ)) (a : IsAmong home e h)
    (ev : e.event ≡ RequestEvent t touched) (out : e.outcome ≡ Asked) (left : is_left splits before h after choice home t ≡ true)
    (away : (n == home) ≡ false) where
  abbrev s : Shard
  s = final_of before h after n

  run_is : t.run ≡ run_after before
  run_is = (walker_of splits before after h (home, e) t l.legal (is_among home e h a) (ap tx_of ev)).0

  inside : home < shard_count splits
  inside = in_a_shard splits before after h (home, e) l.legal (is_among home e h a)

  bound_to : Bindings splits before after h h
  bound_to = bindings_front l h [] (append-nil h)

  -- ---- its part is there still

  home_of : (p : ℕ × List TxId) → prepare_of (final_of before h after n).local.log t ≡ Some p → p.0 ≡ home
  home_of p k = let y = ((bound_to.fated).homed n i).prepares t p k run_is in one_home splits before after h t p.0 home y.0 e y.1 touched l.legal y.2 y.3 (is_among home e h a) (ev, out)

  -- no ABORT of it is in the log
  unaborted : Bound (final_of before h after n) t → aborted_in (final_of before h after n).local.log t ≡ true → ⊥
  unaborted b k = bound_unaborted l choice home n t inside i run_is left b k

  -- ---- in what is left

  left_prepare : (b : Bound (final_of before h after n) t) → prepare_of (log_left (final_of before h after n) (choice n)) t ≡ Some b.listed
  left_prepare b =
      let p : IsPrefixOf (log_left s false) (log_left s (choice n)) = left_front s (choice n) (((bound_to.fated).counts).counted n i) in
      subst (λ z. prepare_of z t ≡ Some b.listed) p.1 (prepare_more (log_left s false) p.0 t b.listed b.prepare)

  doubt : Bound (final_of before h after n) t → committed_in (log_left (final_of before h after n) (choice n)) t ≡ false → list_all (committed_in (log_left (final_of before h after n) (choice n))) (listed_in (log_left (final_of before h after n) (choice n)) t) ≡ true
      → tx_in t (in_doubt n (log_left (final_of before h after n) (choice n))) ≡ true
  doubt b k listed =
      let log = log_left s (choice n) in
      let p = left_prepare b in
      doubted log n log [] t b.listed p (subst (λ m. (n == m) ≡ false) (sym (home_of b.listed (front_prepare s.durable s.local.log t b.listed b.prepare))) away) k
      (false_from_ne_true _ (λ z. unaborted b (aborted_take (cond (choice n) (unwrap_or s.flight s.durable) s.durable) s.local.log t z)))
      (subst (λ (z : Option (ℕ × List TxId)). list_all (committed_in log) (elim z [ Some y ↦ y.1 | None ↦ [] ]) ≡ true) p listed)

  pub yes_is_here : (k : ℕ) (x : Entry) (to : ℕ) → IsAmong k x h → x.outcome ≡ Sent (VoteMessage to t n Yes) → nat_in n (others home touched) ≡ true → IsHere splits before h after choice n t
  yes_is_here k x to m sent there = by_part (commits_have_their_parts splits before h after choice home n home e touched t l inside i a ev out there left)
    where
      bound : Bound (final_of before h after n) t
      bound = ((casts_front l h [] (append-nil h)).cast (k, x) to n t Yes (is_among k x h m) sent).1

      now : log_of (logs_left splits before h after choice) n ≡ log_left (final_of before h after n) (choice n)
      now = log_now splits before h after choice n i

      undecided : committed_in (log_of (logs_left splits before h after choice) n) t ≡ false → list_all (committed_in (log_of (logs_left splits before h after choice) n)) (listed_in (log_of (logs_left splits before h after choice) n) t) ≡ true
          → IsHere splits before h after choice n t
      undecided f g =
          inr (inl (
            subst (λ z. tx_in t (in_doubt n z) ≡ true) (sym now) (doubt bound (subst (λ z. committed_in z t ≡ false) now f) (subst (λ z. list_all (committed_in z) (listed_in z t) ≡ true) now g)),
            g,
            at_somewhere (logs_left splits before h after choice) home t left,
          ))

      at : (b : Bool) → committed_in (log_of (logs_left splits before h after choice) n) t ≡ b → list_all (committed_in (log_of (logs_left splits before h after choice) n)) (listed_in (log_of (logs_left splits before h after choice) n) t) ≡ true
          → IsHere splits before h after choice n t
      at true f g = inl f
      at false f g = undecided f g

      by_part : HasItsPart (log_of (logs_left splits before h after choice) n) t → IsHere splits before h after choice n t
      by_part (inl f) = inl f
      by_part (inr (inl (p, g))) = at (committed_in (log_of (logs_left splits before h after choice) n) t) refl g
      by_part (inr (inr p)) = absurd (both_ways _ p (subst (λ z. prepared_in z t ≡ true) (sym now) (prepared_there (log_left s (choice n)) t bound.listed (left_prepare bound))))
