-- Who was in doubt in a log found, and is committed in some log found, is committed in what is left, or in doubt there as before; and it never fell.
use Rattle.std.proofs.Common.{◌≡◌, ◌⊎◌, inl, inr, ⊎_elim, refl, sym, subst, ℕ, ◌<◌, true, false, cond, Bool, ◌==◌, List, [], Option, Some, None, append-nil, arith, eqb-true}
use Rattle.std.specs.Prelude.{unwrap_or}
use Rattle.std.specs.List.{list_all}
use Rattle.std.proofs.lemmas.Bool.{both_ways, false_from_ne_true}
use Rattle.clv_base.specs.declared.names.TxId.{TxId}
use Rattle.clv_base.specs.declared.logs.LogRecord.{LogRecord}
use Rattle.clv_base.specs.Orders.{tx_in}
use Rattle.clv_base.specs.Logs.{committed_in, aborted_in, committed_somewhere, in_doubt, prepare_of}
use Rattle.clv_base.specs.LogRules.{log_of, listed_in}
use Rattle.clv_base.specs.Shards.{shard_count}
use Rattle.clv_base.specs.Restarts.{run_after, restart_records, log_after_restart, log_left}
use Rattle.clv_base.specs.Journals.{History, final_of}
use Rattle.protocol_laws.specs.Growth.{IsPrefixOf}
use Rattle.protocol_laws.proofs.LogOnlyGrows.DueGrowsLogs.{chain, more}
use Rattle.history_laws.specs.Openings.{LegalFrom}
use Rattle.history_laws.proofs.Logs.FoundLogsInOrder.{log_found}
use Rattle.history_laws.proofs.NeverTakenBack.LaterHistoriesHoldMembers.{committed_front}
use Rattle.fate_laws.proofs.Parts.FoundCommitsAreBound.{opening_settled, opening_home}
use Rattle.fate_laws.proofs.Logs.WhatAddsNoPrepare.{prepare_more, front_prepare}
use Rattle.fate_laws.specs.Earlier.{IsEarlier, WasCommitted}
use Rattle.fate_laws.specs.Falls.{Fell}
use Rattle.headline_laws.proofs.GoneAreLost.WhyPreparedOnesGo.{aborted_take}
use Rattle.headline_laws.proofs.GoneAreLost.FrontsKeepAbortedAway.{struck_front}
use Rattle.headline_laws.proofs.EarlierMembersNeverFell.{never_out, earlier_members_never_fell}
use Rattle.headline_laws.proofs.AtOpening.RecordedAreKnown.{doubted}
use Rattle.headline_laws.proofs.SharesAreMaps.{somewhere_at}
use Rattle.headline_laws.proofs.AtOpening.EarlierOnesStoodThere.{left_begins}
use Rattle.history_laws.proofs.Logs.DoubtedAreUndecided.{doubt_prepared, doubt_undecided, doubted_is_old}
use Rattle.protocol_laws.proofs.LogsInOrder.OneRecordMore.{prepared_there}
use Rattle.shard_laws.proofs.Order.ChangesKeepOrder.{prepare_some}
use Rattle.law_base.proofs.Names.{all_from}

-- it is in doubt in a log that commits all that its PREPARE lists
abbrev pub IsDoubted : ℕ → List LogRecord → TxId → Type 0
IsDoubted n log t = (tx_in t (in_doubt n log) ≡ true) × (list_all (committed_in log) (listed_in log t) ≡ true)

module _ {splits : List ℕ} {before after : List (List LogRecord)} {h : History} (l : LegalFrom splits before h after) (kept : Bool) (n : ℕ)
    (t : TxId) (i : n < shard_count splits) (doubt : tx_in t (in_doubt n (log_of before n)) ≡ true)
    (there : committed_somewhere before t ≡ true) where
  old : t.run < run_after before
  old = doubted_is_old splits before n l.opens (log_found l n i) t doubt

  earlier : IsEarlier before t
  earlier e = let k = old in omega (arith, e, k)

  was : WasCommitted before t
  was = let m = somewhere_at before t there in (m.0, m.2)

  p : (q : ℕ × List TxId) × (prepare_of (log_of before n) t ≡ Some q)
  p = prepare_some (log_of before n) t (doubt_prepared n (log_of before n) t doubt)

  begun : IsPrefixOf (log_of before n) (log_left (final_of before h after n) kept)
  begun =
      chain (log_of before n) (log_after_restart n (log_of before n) (run_after before) 0) (log_left (final_of before h after n) kept) (more (log_of before n) (restart_records n (log_of before n) (run_after before) 0))
      (left_begins splits before h after kept n l.legal i)

  prepared : prepare_of (log_left (final_of before h after n) kept) t ≡ Some p.0
  prepared = subst (λ z. prepare_of z t ≡ Some p.0) begun.1 (prepare_more (log_of before n) begun.0 t p.0 p.1)

  -- its home is elsewhere, and has its COMMIT
  elsewhere : (n == (p.0).0) ≡ false
  elsewhere =
      false_from_ne_true _
      (λ e. both_ways _ (doubt_undecided n (log_of before n) t doubt).1 (subst (λ k. committed_in (log_of before k) t ≡ true) (sym (eqb-true n (p.0).0 e)) (opening_home splits before t was.0 n p.0 l.opens was.1 (log_found l n i) p.1)))

  listed : (q : TxId) → tx_in q (p.0).1 ≡ true → committed_in (log_left (final_of before h after n) kept) q ≡ true
  listed q j =
      committed_front (log_of before n) (log_left (final_of before h after n) kept) q begun
      (⊎_elim (λ c. absurd (both_ways _ (doubt_undecided n (log_of before n) t doubt).1 c)) (λ k. k q j) (opening_settled splits before t was.0 n p.0 l.opens was.1 (log_found l n i) p.1))

  unaborted : aborted_in (log_left (final_of before h after n) kept) t ≡ true → ⊥
  unaborted a =
      let s = final_of before h after n in
      let k = cond kept (unwrap_or s.flight s.durable) s.durable in
      let b = struck_front l h [] (append-nil h) n i t (aborted_take k s.local.log t a) in
      let e = prepared_there s.local.log t p.0 (front_prepare k s.local.log t p.0 prepared) in
      never_out l n t i earlier was h [] (append-nil h) e (h, [], append-nil h, (b.0, b.1, inl (λ r. absurd (earlier r))))

  all_listed : list_all (committed_in (log_left (final_of before h after n) kept)) (p.0).1 ≡ true
  all_listed = all_from (committed_in (log_left (final_of before h after n) kept)) (p.0).1 listed

  pub still_known : (committed_in (log_left (final_of before h after n) kept) t ≡ true) ⊎ IsDoubted n (log_left (final_of before h after n) kept) t
  still_known = at (committed_in (log_left (final_of before h after n) kept) t) refl
    where
      at : (b : Bool) → committed_in (log_left (final_of before h after n) kept) t ≡ b → (committed_in (log_left (final_of before h after n) kept) t ≡ true) ⊎ IsDoubted n (log_left (final_of before h after n) kept) t
      at true e = inl e
      at false e =
          let log = log_left (final_of before h after n) kept in
          inr (
            doubted log n log [] t p.0 prepared elsewhere e (false_from_ne_true _ unaborted) all_listed,
            subst (λ (x : Option (ℕ × List TxId)). list_all (committed_in log) (elim x [ Some y ↦ y.1 | None ↦ [] ]) ≡ true) (sym prepared) all_listed,
          )

  pub never_fell : Fell before h after n t → ⊥
  never_fell f = earlier_members_never_fell splits before h [] after n t (subst (λ z. LegalFrom splits before z after) (sym (append-nil h)) l) i earlier was f
