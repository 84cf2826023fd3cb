-- After each front of a legal history: whose ABORT stands in a shard's log is not here, and has no COMMIT there.
use Rattle.std.proofs.Common.{◌≡◌, inl, inr, ⊎_elim, refl, sym, subst, ℕ, ◌<◌, true, List, [], ◌∷◌, ◌++◌, arith, append-nil}
use Rattle.std.proofs.lemmas.Bool.{both_ways, or_cases}
use Rattle.clv_base.specs.declared.names.TxId.{TxId}
use Rattle.clv_base.specs.declared.logs.LogRecord.{LogRecord}
use Rattle.clv_base.specs.declared.logs.LogRecord.TheVariants.{Update, Clr, Prepare, Commit, Abort, End, Restart, Add, Unadd, Forgotten, Check}
use Rattle.clv_base.specs.Shards.{shard_count}
use Rattle.clv_base.specs.LogRules.{log_of}
use Rattle.clv_base.specs.Orders.{tx_same}
use Rattle.clv_base.specs.Logs.{aborted_in}
use Rattle.clv_base.specs.State.{Shard}
use Rattle.clv_base.specs.Restarts.{run_after}
use Rattle.clv_base.specs.Journals.{History, event_state}
use Rattle.clv_base.proofs.SameNames.{tx_true}
use Rattle.history_cases.proofs.Entering.{makes}
use Rattle.history_cases.proofs.Merging.{Placed}
use Rattle.history_cases.proofs.Worlds.{state_at}
use Rattle.history_laws.specs.Openings.{LegalFrom}
use Rattle.history_laws.proofs.Logs.FoundLogsInOrder.{log_found}
use Rattle.shard_laws.proofs.Order.WritesLieOnListed.{order_of}
use Rattle.fate_laws.proofs.Origins.DueKeepsOrigins.{AllFrom}
use Rattle.fate_laws.proofs.Origins.FrontsKeepOrigins.{DidOrOld}
use Rattle.fate_laws.proofs.History.EntryByEntry.{each_shard}
use Rattle.fate_laws.proofs.CommitsGoDownwards.{owed as owed_down}
use Rattle.fate_laws.proofs.AbortedAreCommittedNowhere.{owed as owed_kept}
use Rattle.fate_laws.proofs.FallenAreUncommitted.FrontsKeepOutUncommitted.{Met, At, entry_at, Stands, stands_front, no_return, walk_on}
use Rattle.headline_laws.proofs.GoneAreLost.EntriesKeepAbortedAway.{Struck, NoAnswer, struck_opened, struck_made}
use Rattle.fate_laws.proofs.Origins.OldPartsWereDoubted.{found_follows as log_follows}

-- whose ABORT stands in a log did an operation there, or is of an earlier run
pub aborts_from : (A : TxId → Type 0) (Q : TxId → ℕ → Type 0) (O : TxId → Type 0) (n : ℕ) (rs : List LogRecord) (t : TxId) → AllFrom A Q O n rs → aborted_in rs t ≡ true → A t
aborts_from A Q O n [] t a h = absurd (both_ways _ refl h)
aborts_from A Q O n (Abort u ∷ rs) t a h = ⊎_elim (λ e. subst A (sym (tx_true t u e)) a.0) (λ k. aborts_from A Q O n rs t a.1 k) (or_cases (tx_same t u) (aborted_in rs t) h)
aborts_from A Q O n (Update u x y z ∷ rs) t a h = aborts_from A Q O n rs t a.1 h
aborts_from A Q O n (Clr u x y z ∷ rs) t a h = aborts_from A Q O n rs t a.1 h
aborts_from A Q O n (Prepare u x y ∷ rs) t a h = aborts_from A Q O n rs t a.1 h
aborts_from A Q O n (Commit u x ∷ rs) t a h = aborts_from A Q O n rs t a.1 h
aborts_from A Q O n (End u ∷ rs) t a h = aborts_from A Q O n rs t a.1 h
aborts_from A Q O n (Restart run epoch ∷ rs) t a h = aborts_from A Q O n rs t a.1 h
aborts_from A Q O n (Add u x by ∷ rs) t a h = aborts_from A Q O n rs t a.1 h
aborts_from A Q O n (Unadd u x y by ∷ rs) t a h = aborts_from A Q O n rs t a.1 h
aborts_from A Q O n (Forgotten ∷ rs) t a h = aborts_from A Q O n rs t a.1 h
aborts_from A Q O n (Check run' epoch' upto base ∷ rs) t a h = aborts_from A Q O n rs t a.1 h

met_of : (before : List (List LogRecord)) (pre : History) (n : ℕ) (t : TxId) → DidOrOld (run_after before) pre n t → Met before pre pre n t
met_of before pre n t (inl d) = inr d
met_of before pre n t (inr o) = inl (λ r. absurd (omega (arith, o, r)))

AllStruck : (splits : List ℕ) (before after : List (List LogRecord)) (pre : History) → Type 0
AllStruck splits before after pre = (n : ℕ) → n < shard_count splits → (t : TxId) → Struck (state_at before after n pre) t

-- who was struck is answered nothing
answers_none : (splits : List ℕ) (before after : List (List LogRecord)) (h pre : History) (e : Placed) → At splits before after h pre e → Stands before after h pre e.0 (state_at before after e.0 pre) → ((t : TxId) → Struck (state_at before after e.0 pre) t)
    → NoAnswer (state_at before after e.0 pre) (e.1).event (e.1).outcome
answers_none splits before after h pre e x st k u birth nth seen op a ep q r b =
    let p = k u b in
    no_return splits before after h pre e u birth nth seen op a ep x q r st (inl (pre, [], append-nil pre, (p.0, p.1, met_of before pre e.0 u (aborts_from _ _ _ e.0 (state_at before after e.0 pre).local.log u ((x.traced).origins).log b))))

module _ {splits : List ℕ} {before after : List (List LogRecord)} {h : History} (l : LegalFrom splits before h after) where
  struck_next : (pre : History) (e : Placed) (post : History) → pre ++ e ∷ post ≡ h → AllStruck splits before after pre → AllStruck splits before after (pre ++ e ∷ [])
  unfolding AllStruck
  struck_next pre e post q k n i t = each_shard (λ m z. Struck z t) before after e pre (subst (λ (z : Shard). Struck z t) (sym ((x.next).split).next) here) n (k n i t)
    where
      x : At splits before after h pre e
      x = entry_at l pre e post q

      here : Struck (event_state (log_of after e.0) (state_at before after e.0 pre) (e.1).event (e.1).outcome) t
      here =
          let s = state_at before after e.0 pre in
          let w = x.next in
          struck_made (log_of after e.0) s _ t (makes (log_of after e.0) s (e.1).event (e.1).outcome ((w.split).enters).event) (owed_down splits before after h pre e (e.1).event refl w (((x.was).lowered).bindings))
          (owed_kept splits before after h pre e (e.1).event refl w x.was w.sent) (answers_none splits before after h pre e x (stands_front l pre (e ∷ post) q e.0 w.inside) (k e.0 w.inside)) ((x.was).kept e.0 w.inside) (k e.0 w.inside t)

  struck_start : AllStruck splits before after []
  unfolding AllStruck
  struck_start n i t =
      struck_opened n (run_after before) (log_of before n) t (λ u c. (order_of n (log_of before n) (log_follows splits before n l.opens (log_found l n i))).apart u c)

  pub struck_front : (pre post : History) → pre ++ post ≡ h → (n : ℕ) → n < shard_count splits → (t : TxId) → Struck (state_at before after n pre) t
  unfolding AllStruck
  struck_front pre post q n i t = walk_on (AllStruck splits before after) h [] pre post q struck_next struck_start n i t
