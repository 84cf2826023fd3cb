-- Along a history: who is of this run, or was committed in some log at opening, and was out on a shard where it is prepared, has its home there,
-- or an abort of it is told, or its PREPARE lists one that was out as well.
use Rattle.std.proofs.Common.{◌≡◌, ◌⊎◌, inl, inr, ⊎_elim, refl, sym, ap, subst, ◌∙◌, ℕ, ◌<◌, true, false, List, [], ◌∷◌, ◌++◌, Some, append-nil, append_assoc}
use Rattle.std.proofs.lemmas.Bool.{both_ways, false_from_ne_true}
use Rattle.clv_base.specs.declared.names.TxId.{TxId}
use Rattle.clv_base.specs.declared.logs.LogRecord.{LogRecord}
use Rattle.clv_base.specs.Shards.{shard_count}
use Rattle.clv_base.specs.LogRules.{part_of, log_of}
use Rattle.clv_base.specs.Orders.{tx_in}
use Rattle.clv_base.specs.Logs.{committed_in, aborted_in, prepare_of, in_doubt}
use Rattle.clv_base.specs.State.{Shard, is_present}
use Rattle.clv_base.specs.Restarts.{run_after, restart_records, log_after_restart, log_left}
use Rattle.clv_base.specs.Journals.{History, event_state}
use Rattle.law_base.proofs.Commits.{committed_keeps}
use Rattle.history_cases.proofs.Entering.{Makes, makes}
use Rattle.history_cases.proofs.Merging.{Placed, among_left}
use Rattle.history_cases.proofs.Worlds.{state_at}
use Rattle.history_laws.specs.Openings.{LegalFrom}
use Rattle.history_laws.proofs.Logs.FoundLogsInOrder.{log_found}
use Rattle.shard_laws.proofs.Restarts.RestoredLocksAndParts.{restored_closed}
use Rattle.fate_laws.proofs.Logs.WhatAddsNoPrepare.{opening_adds as opening_prepares}
use Rattle.fate_laws.proofs.Parts.FoundCommitsAreBound.{opening_settled, opening_home, opening_unaborted}
use Rattle.fate_laws.proofs.History.EntryByEntry.{Next, next_at, each_shard, asked_later}
use Rattle.fate_laws.proofs.Homes.FrontsKeepHomes.{Fated, dead_later}
use Rattle.fate_laws.proofs.Parts.FrontsKeepParts.{bindings_front}
use Rattle.fate_laws.specs.Earlier.{WasCommitted}
use Rattle.fate_laws.proofs.FallenAreUncommitted.PreparesListEarlierOnes.{Why, order_ahead, not_in_doubt}
use Rattle.fate_laws.proofs.FallenAreUncommitted.OutIsLost.{Absent, Out, Lost, lost_inactive}
use Rattle.fate_laws.proofs.FallenAreUncommitted.FrontsKeepOutUncommitted.{Denied, Met, WasOut, met_front, empty_front, last_front, Stands, stands_front, walk_on}
use Rattle.headline_laws.proofs.GoneAreLost.FrontsKeepAbortedAway.{struck_front}
use Rattle.headline_laws.proofs.GoneAreLost.WhyPreparedOnesGo.{opening_doubts, WasPrepared, GoesBy, prepares_made, goes_made, aborted_take}
use Rattle.protocol_laws.proofs.LogsInOrder.OneRecordMore.{prepared_there}
use Rattle.fate_laws.proofs.Origins.OldPartsWereDoubted.{found_follows as log_follows}

-- ---- why it is lost

-- it is of this run, or some log had its COMMIT at opening
abbrev pub Followed : List (List LogRecord) → TxId → Type 0
Followed before t = (t.run ≡ run_after before) ⊎ WasCommitted before t

abbrev pub LostAt : List (List LogRecord) → List (List LogRecord) → History → ℕ → TxId → ℕ × List TxId → Type 0
LostAt before after pre n t p = (p.0 ≡ n) ⊎ (Denied before after pre t ⊎ ((u : TxId) × (tx_in u p.1 ≡ true) × WasOut before after pre n u))

abbrev pub AllLost : List (List LogRecord) → List (List LogRecord) → ℕ → History → Type 0
AllLost before after n pre = (t : TxId) (p : ℕ × List TxId) → Followed before t → WasOut before after pre n t → prepare_of (state_at before after n pre).local.log t ≡ Some p → LostAt before after pre n t p

-- who was committed in some log at opening, and is prepared here, is here when the shard opens, or committed
here_at_opening : {splits : List ℕ} {before after : List (List LogRecord)} {h : History} → LegalFrom splits before h after → (n : ℕ) (t : TxId) (p : ℕ × List TxId)
    → n < shard_count splits → WasCommitted before t → WasOut before after [] n t → prepare_of (state_at before after n []).local.log t ≡ Some p → ⊥
here_at_opening {splits} {before} {after} l n t p i c (front, rest, z, y) k = by_why (not_in_doubt n (part_of (log_of before n)) (log_of before n) t p (order_ahead n (log_of before n) (log_follows splits before n l.opens (log_found l n i))) was undoubted unc)
  where
    out : Out (Met before [] [] n) (state_at before after n []) t
    out = subst (λ f. Out (Met before f f n) (state_at before after n f) t) (empty_front front rest z) y

    was : prepare_of (log_of before n) t ≡ Some p
    was = opening_prepares n (log_of before n) (run_after before) 0 t p k

    unc : committed_in (log_of before n) t ≡ false
    unc = false_from_ne_true _ (λ d. both_ways _ out.1 (committed_keeps (log_of before n) (restart_records n (log_of before n) (run_after before) 0) t d))

    undoubted : tx_in t (in_doubt n (log_of before n)) ≡ false
    undoubted =
        subst (λ ts. tx_in t ts ≡ false) (opening_doubts n (log_of before n) (run_after before) 0)
        (false_from_ne_true _ (λ d. both_ways _ out.0 (ap is_present (restored_closed (in_doubt n (log_after_restart n (log_of before n) (run_after before) 0)) t d))))

    by_why : Why (log_of before n) n (in_doubt n (log_of before n)) t p → ⊥
    by_why (inl a) = ⊎_elim (λ d. both_ways _ unc d) (λ d. both_ways _ d a) (opening_unaborted splits before t c.0 n p l.opens c.1 (log_found l n i) was)
    by_why (inr (inl e)) = both_ways _ unc (subst (λ m. committed_in (log_of before m) t ≡ true) e (opening_home splits before t c.0 n p l.opens c.1 (log_found l n i) was))
    by_why (inr (inr (q, m, d, u))) = ⊎_elim (λ x. both_ways _ unc x) (λ x. both_ways _ d (x q m)) (opening_settled splits before t c.0 n p l.opens c.1 (log_found l n i) was)

-- ---- one entry more

module _ {splits : List ℕ} {before after : List (List LogRecord)} {h : History} (l : LegalFrom splits before h after) (pre : History)
    (e : Placed) (post : History) (q : pre ++ e ∷ post ≡ h) (n : ℕ) (i : n < shard_count splits) (a : AllLost before after n pre) where
  abbrev New : History
  New = pre ++ e ∷ []

  later : (pre ++ e ∷ []) ++ post ≡ h
  later = append_assoc pre (e ∷ []) post ∙ q

  w : Next splits before after h pre e
  w = next_at splits before after h pre e post l.legal q

  fated : Fated splits before after pre
  fated = (bindings_front l pre (e ∷ post) q).fated

  old : (m : ℕ) → m < shard_count splits → Stands before after h pre m (state_at before after m pre)
  old m j = stands_front l pre (e ∷ post) q m j

  new : Stands before after h (pre ++ e ∷ []) n (state_at before after n (pre ++ e ∷ []))
  new = stands_front l (pre ++ e ∷ []) post later n i

  more : (t : TxId) (p : ℕ × List TxId) → LostAt before after pre n t p → LostAt before after (pre ++ e ∷ []) n t p
  more t p (inl z) = inl z
  more t p (inr (inl (inl (r, m, d)))) = inr (inl (inl (r, m, dead_later splits before after h pre e w fated m t r d)))
  more t p (inr (inl (inr z))) = inr (inl (inr z))
  more t p (inr (inr (u, j, (front, rest, z, y)))) = inr (inr (u, j, (front, rest ++ e ∷ [], sym (append_assoc front rest (e ∷ [])) ∙ ap (λ x. x ++ e ∷ []) z, y)))

  made : Makes (log_of after e.0) (state_at before after e.0 pre) (e.1).event (e.1).outcome (event_state (log_of after e.0) (state_at before after e.0 pre) (e.1).event (e.1).outcome)
  made = makes (log_of after e.0) (state_at before after e.0 pre) (e.1).event (e.1).outcome ((w.split).enters).event

  found : (t : TxId) (p : ℕ × List TxId) → prepare_of (state_at before after n (pre ++ e ∷ [])).local.log t ≡ Some p → WasPrepared (state_at before after n pre) t p
  found t p =
      each_shard (λ m z. prepare_of z.local.log t ≡ Some p → WasPrepared (state_at before after m pre) t p) before after e pre
      (subst (λ (z : Shard). prepare_of z.local.log t ≡ Some p → WasPrepared (state_at before after e.0 pre) t p) (sym (w.split).next) (λ k. prepares_made (log_of after e.0) (state_at before after e.0 pre) _ t p made k)) n (λ k. inl k)

  carry : (t : TxId) (p : ℕ × List TxId) → Followed before t → WasOut before after pre n t → prepare_of (state_at before after n (pre ++ e ∷ [])).local.log t ≡ Some p → LostAt before after (pre ++ e ∷ []) n t p
  carry t p r v k = ⊎_elim (λ f. more t p (a t p r v f)) (λ z. absurd (lost_inactive _ _ _ _ (state_at before after n pre) t (old n i).barred v z)) (found t p k)

  -- whose ABORT stood in the log was out before the entry
  struck : (t : TxId) (p : ℕ × List TxId) → Followed before t → aborted_in (state_at before after n pre).local.log t ≡ true → prepare_of (state_at before after n (pre ++ e ∷ [])).local.log t ≡ Some p → LostAt before after (pre ++ e ∷ []) n t p
  struck t p r b k = ⊎_elim (λ f. carry t p r (out f) k) (λ z. absurd (both_ways _ gone (subst (λ g. is_present g ≡ true) (sym z) refl))) (found t p k)
    where
      gone : Absent (state_at before after n pre) t
      gone = (struck_front l pre (e ∷ post) q n i t b).0

      out : prepare_of (state_at before after n pre).local.log t ≡ Some p → WasOut before after pre n t
      out f =
          let s = state_at before after n pre in
          let k = struck_front l pre (e ∷ post) q n i t b in
          (pre, [], append-nil pre, (k.0, k.1, ((old n i).barred).sought t (prepared_there s.local.log t p f)))

  goes : (t : TxId) (p : ℕ × List TxId) → Absent (state_at before after n (pre ++ e ∷ [])) t → prepare_of (state_at before after n (pre ++ e ∷ [])).local.log t ≡ Some p → committed_in (state_at before after n (pre ++ e ∷ [])).local.log t ≡ false
      → aborted_in (log_left (state_at before after n (pre ++ e ∷ [])) false) t ≡ true → GoesBy (Met before pre pre n) (state_at before after n pre) (state_at before after n (pre ++ e ∷ [])) t p
  goes t p =
      each_shard (λ m z. Absent z t → prepare_of z.local.log t ≡ Some p → committed_in z.local.log t ≡ false → aborted_in (log_left z false) t ≡ true → GoesBy (Met before pre pre m) (state_at before after m pre) z t p) before after e pre
      (subst (λ (z : Shard). Absent z t → prepare_of z.local.log t ≡ Some p → committed_in z.local.log t ≡ false → aborted_in (log_left z false) t ≡ true → GoesBy (Met before pre pre e.0) (state_at before after e.0 pre) z t p) (sym (w.split).next)
      (λ x k y b. let o = (old e.0 w.inside).barred in goes_made o.part (Met before pre pre e.0) (log_of after e.0) (state_at before after e.0 pre) _ t p made ((fated.counts).counted e.0 w.inside) (o.lined).ahead (λ u g. (o.gone u g).2) x k y b)) n
      (λ x k y b. inl (aborted_take _ (state_at before after n pre).local.log t b))

  lost_now : (t : TxId) (p : ℕ × List TxId) → Followed before t → Out (Met before (pre ++ e ∷ []) (pre ++ e ∷ []) n) (state_at before after n (pre ++ e ∷ [])) t → prepare_of (state_at before after n (pre ++ e ∷ [])).local.log t ≡ Some p
      → LostAt before after (pre ++ e ∷ []) n t p
  lost_now t p r y k = by_lost ((new.barred).why t p (inr y) k)
    where
      whole : (u : TxId) → Out (Met before (pre ++ e ∷ []) (pre ++ e ∷ []) n) (state_at before after n (pre ++ e ∷ [])) u → WasOut before after (pre ++ e ∷ []) n u
      whole u z = (pre ++ e ∷ [], [], append-nil (pre ++ e ∷ []), z)

      shard : (state_at before after n (pre ++ e ∷ [])).shard ≡ n
      shard = ((bindings_front l (pre ++ e ∷ []) post later).fated.counts).shard n i

      by_goes : GoesBy (Met before pre pre n) (state_at before after n pre) (state_at before after n (pre ++ e ∷ [])) t p → LostAt before after (pre ++ e ∷ []) n t p
      by_goes (inl b) = struck t p r b k
      by_goes (inr (inl z)) = inl (z ∙ (fated.counts).shard n i)
      by_goes (inr (inr (u, m, x, d, g))) = inr (inr (u, m, whole u (x, d, ⊎_elim (λ b. (new.barred).sought u b) (λ b. met_front before pre pre (pre ++ e ∷ []) (pre ++ e ∷ []) n u (λ j c. asked_later pre e u j c) (λ y c. among_left y pre (e ∷ []) c) b) g)))

      by_lost : Lost (Denied before after (pre ++ e ∷ [])) (WasOut before after (pre ++ e ∷ []) n) (Met before (pre ++ e ∷ []) (pre ++ e ∷ []) n) (state_at before after n (pre ++ e ∷ [])) t p → LostAt before after (pre ++ e ∷ []) n t p
      by_lost (inl (b, x)) = by_goes (goes t p x k y.1 b)
      by_lost (inr (inl (z, x))) = inl (z ∙ shard)
      by_lost (inr (inr (inl d))) = inr (inl d)
      by_lost (inr (inr (inr (u, j, inl v)))) = inr (inr (u, j, v))
      by_lost (inr (inr (inr (u, j, inr x)))) = inr (inr (u, j, whole u x))

  lost_next : AllLost before after n (pre ++ e ∷ [])
  lost_next t p r (front, rest, z, y) k =
      ⊎_elim (λ f. lost_now t p r (subst (λ x. Out (Met before x x n) (state_at before after n x) t) f y) k) (λ f. carry t p r (front, f.0, f.1, y) k) (last_front front rest pre e z)

-- ---- the whole history

pub all_lost : {splits : List ℕ} {before after : List (List LogRecord)} {h : History} → LegalFrom splits before h after → (pre post : History) → pre ++ post ≡ h → (n : ℕ) → n < shard_count splits → AllLost before after n pre
all_lost {before} {after} {h} l pre post q n i = walk_on (AllLost before after n) h [] pre post q (λ f e r z k. lost_next l f e r z n i k) first
  where
    first : AllLost before after n []
    first t p (inr c) v k = absurd (here_at_opening l n t p i c v k)
    first t p (inl r) v k = let z = ((bindings_front l [] h refl).fated.homed n i).prepares t p k r in absurd (elim z.2 [ ])
