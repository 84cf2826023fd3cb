-- A vote that was cast binds its shard at each moment after it.
use Rattle.std.proofs.Common.{◌≡◌, inl, inr, ⊎_elim, refl, sym, ap, subst, ◌∙◌, ℕ, true, false, Bool, ◌==◌, List, [], ◌∷◌, ◌++◌, Some, eqb-true}
use Rattle.std.specs.Prelude.{⊤}
use Rattle.clv_base.specs.declared.names.TxId.{TxId}
use Rattle.clv_base.specs.declared.logs.LogRecord.{LogRecord}
use Rattle.clv_base.specs.declared.causes.Vote.{Vote}
use Rattle.clv_base.specs.declared.causes.Vote.TheVariants.{Yes, Read, No}
use Rattle.clv_base.specs.declared.messages.Message.TheVariants.{Vote as VoteMessage}
use Rattle.clv_base.specs.declared.events.Outcome.TheVariants.{Sent}
use Rattle.clv_base.specs.LogRules.{log_of}
use Rattle.clv_base.specs.State.{Shard}
use Rattle.clv_base.specs.Restarts.{run_after}
use Rattle.clv_base.specs.Journals.{History, event_state}
use Rattle.history_cases.proofs.Entering.{Makes, makes}
use Rattle.history_cases.proofs.Merging.{Placed, Among, among_append}
use Rattle.history_cases.proofs.Worlds.{state_at}
use Rattle.history_laws.specs.Openings.{LegalFrom}
use Rattle.fate_laws.proofs.Parts.YesVotesArePrepared.{Bound, Reads}
use Rattle.fate_laws.proofs.Parts.FrontsKeepParts.{WasTaken, Sought, FineAt, SaysOut, says_made, Bindings, bindings_next, bindings_start, sought_not_own, sought_later, noted_bound, noted_reads}
use Rattle.fate_laws.proofs.Homes.FrontsKeepHomes.{Fated}
use Rattle.fate_laws.proofs.Parts.CommittedAreVotedFor.{VotedIs}
use Rattle.fate_laws.proofs.History.EntryByEntry.{Next, walk_front, stays_as_it_was}
use Rattle.fate_laws.proofs.Parts.BoundStaysBound.{bound_made, reads_made}

-- what a vote of the shard binds it to
abbrev pub Cast : List (List LogRecord) → List (List LogRecord) → History → ℕ → TxId → Vote → Type 0
Cast before after pre n tx Yes = Sought before pre tx × Bound (state_at before after n pre) tx
Cast before after pre n tx Read = Sought before pre tx × Reads (state_at before after n pre) tx
Cast before after pre n tx (No why) = ⊤

-- ---- one entry more

own_or_not : (P : Shard → Type 0) (before after : List (List LogRecord)) (pre : History) (e : Placed) (n : ℕ) → (P (state_at before after e.0 pre) → P (state_at before after e.0 (pre ++ e ∷ []))) → P (state_at before after n pre) → P (state_at before after n (pre ++ e ∷ []))
own_or_not P before after pre e n own p = at (e.0 == n) refl
  where
    at : (b : Bool) → (e.0 == n) ≡ b → P (state_at before after n (pre ++ e ∷ []))
    at true q = let k = eqb-true e.0 n q in subst (λ z. P (state_at before after z (pre ++ e ∷ []))) k (own (subst (λ z. P (state_at before after z pre)) (sym k) p))
    at false q = subst P (sym (stays_as_it_was before after n e pre q)) p

entry_made : (splits : List ℕ) (before after : List (List LogRecord)) (h pre : History) (e : Placed) → Next splits before after h pre e
    → Makes (log_of after e.0) (state_at before after e.0 pre) (e.1).event (e.1).outcome (event_state (log_of after e.0) (state_at before after e.0 pre) (e.1).event (e.1).outcome)
entry_made splits before after h pre e w = makes (log_of after e.0) (state_at before after e.0 pre) (e.1).event (e.1).outcome ((w.split).enters).event

cast_later : (splits : List ℕ) (before after : List (List LogRecord)) (h pre : History) (e : Placed) (n : ℕ) (tx : TxId) (vote : Vote) → Next splits before after h pre e → Fated splits before after pre → Cast before after pre n tx vote → Cast before after (pre ++ e ∷ []) n tx vote
cast_later splits before after h pre e n tx Yes w f c = (
  sought_later before pre e tx c.0,
  own_or_not (λ s. Bound s tx) before after pre e n
      (λ b. subst (λ z. Bound z tx) (sym (w.split).next)
      (noted_bound (state_at before after e.0 pre) (log_of after e.0) e.1 tx
      (bound_made (log_of after e.0) (state_at before after e.0 pre) _ tx (entry_made splits before after h pre e w) (sought_not_own splits before after h pre e tx w c.0) ((f.counts).counted e.0 w.inside) b))) c.1,
)
cast_later splits before after h pre e n tx Read w f c = (
  sought_later before pre e tx c.0,
  own_or_not (λ s. Reads s tx) before after pre e n
      (λ b. subst (λ z. Reads z tx) (sym (w.split).next)
      (noted_reads (state_at before after e.0 pre) (log_of after e.0) e.1 tx
      (reads_made (log_of after e.0) (state_at before after e.0 pre) _ tx (entry_made splits before after h pre e w) (sought_not_own splits before after h pre e tx w c.0) b))) c.1,
)
cast_later splits before after h pre e n tx (No why) w f c = tt

-- ---- along a history

pub record Casts (splits : List ℕ) (before after : List (List LogRecord)) (h pre : History) : Type 0 where
  pub bindings : Bindings splits before after h pre
  pub cast : (x : Placed) (home from : ℕ) (tx : TxId) (vote : Vote) → Among x pre → (x.1).outcome ≡ Sent (VoteMessage home tx from vote) → Cast before after pre from tx vote

voted_cast : (before after : List (List LogRecord)) (pre : History) (n : ℕ) (tx : TxId) (vote : Vote) → VotedIs (Sought before pre) (state_at before after n pre) tx (Some vote) → Cast before after pre n tx vote
voted_cast before after pre n tx Yes v = v
voted_cast before after pre n tx Read v = v
voted_cast before after pre n tx (No why) v = tt

casts_next : (splits : List ℕ) (before after : List (List LogRecord)) (h pre : History) (e : Placed) → Next splits before after h pre e → Casts splits before after h pre → Casts splits before after h (pre ++ e ∷ [])
casts_next splits before after h pre e w k = record {
  bindings = bindings_next splits before after h pre e w k.bindings;
  cast = λ x home from tx vote i q. cast_later splits before after h pre e from tx vote w (k.bindings).fated (⊎_elim (λ j. k.cast x home from tx vote j q) (λ j. last x home from tx vote j q) (among_append x pre (e ∷ []) i));
}
  where
    last : (x : Placed) (home from : ℕ) (tx : TxId) (vote : Vote) → Among x (e ∷ []) → (x.1).outcome ≡ Sent (VoteMessage home tx from vote) → Cast before after pre from tx vote
    last x home from tx vote (inl z) q =
        let said =
        says_made (run_after before) (WasTaken h) (Sought before pre) (FineAt before after pre) (log_of after e.0) (state_at before after e.0 pre) _ (entry_made splits before after h pre e w) ((k.bindings).parted e.0 w.inside)
        in
        let t = subst (SaysOut (run_after before) (WasTaken h) (Sought before pre) (FineAt before after pre) (state_at before after e.0 pre)) (ap (λ y. (y.1).outcome) z ∙ q) said in
        subst (λ m. Cast before after pre m tx vote) (sym (t.0 ∙ (w.split).shard)) (voted_cast before after pre e.0 tx vote t.1)
    last x home from tx vote (inr z) q = elim z [ ]

pub casts_front : {splits : List ℕ} {before after : List (List LogRecord)} {h : History} → LegalFrom splits before h after → (pre post : History) → pre ++ post ≡ h → Casts splits before after h pre
casts_front {splits} {before} {after} {h} l pre post q =
    walk_front (Casts splits before after h) splits before after h [] pre post l.legal q (casts_next splits before after h) (record { bindings = bindings_start l; cast = λ x home from tx vote i. elim i [ ] })
