-- The members of a run that went through are its acknowledged transactions.
use Rattle.std.proofs.Common.{◌≡◌, refl, sym, ap, ◌∙◌, inl, inr, ⊎_elim, ℕ, Bool, true, false, cond, ◌||◌, List, [], ◌∷◌, ◌++◌, map, Option, Some, None}
use Rattle.std.proofs.lemmas.Bool.{both_ways}
use Rattle.clv_base.specs.declared.names.TxId.{TxId}
use Rattle.clv_base.specs.declared.logs.LogRecord.{LogRecord}
use Rattle.clv_base.specs.declared.events.Entry.{Entry}
use Rattle.clv_base.specs.Logs.{stands, committed_in}
use Rattle.clv_base.specs.LogRules.{log_of}
use Rattle.clv_base.specs.FileRules.{may_open}
use Rattle.clv_base.specs.Maps.{Acts, replay_map}
use Rattle.clv_base.specs.Journals.{History}
use Rattle.clv_base.specs.History.{Legal, Member, members, serial_acts, logs_left, acknowledged_in, acts_in, request_of}
use Rattle.history_cases.proofs.Merging.{Among, among_is}
use Rattle.history_cases.proofs.Worlds.{in_a_shard}
use Rattle.fate_laws.proofs.Laws.{aborted_are_committed_nowhere}
use Rattle.history_replay.specs.Replayed.{acts_at, acknowledged_acts}
use Rattle.cluster_runs.specs.Histories.{entries}
use Rattle.cluster_runs.specs.Replays.{AreTold, MembersAreAcknowledged, RunsReplay}
use Rattle.history_replay.specs.Entries.{Kept}
use Rattle.cluster_runs.proofs.Going.{requests_are_told}

-- where a COMMIT at the entry's shard tells that its transaction is acknowledged
abbrev pub IsKnown : List (List LogRecord) → History → ℕ × Entry → Type 0
IsKnown logs h e = (t : TxId) → request_of (e.1).event (e.1).outcome ≡ Some t → committed_in (log_of logs e.0) t ≡ true → acknowledged_in h t ≡ true

chosen : (c a : Bool) (m : Member) (ms : List Member) (rest : List Acts) → (c ≡ true → a ≡ true) → serial_acts ms ≡ rest
    → serial_acts (cond (c || a) (m ∷ ms) ms) ≡ cond a (map (λ p. (p.0, p.1)) m.acts ∷ []) [] ++ rest
chosen true true m ms rest known same = ap (λ l. map (λ p. (p.0, p.1)) m.acts ∷ l) same
chosen true false m ms rest known same = absurd (both_ways false refl (known refl))
chosen false true m ms rest known same = ap (λ l. map (λ p. (p.0, p.1)) m.acts ∷ l) same
chosen false false m ms rest known same = same

module _ (logs : List (List LogRecord)) (h : History) where
  at : (e : ℕ × Entry) (ms : List Member) (rest : List Acts) (o : Option TxId) → ((t : TxId) → o ≡ Some t → committed_in (log_of logs e.0) t ≡ true → acknowledged_in h t ≡ true) → serial_acts ms ≡ rest
      → serial_acts
      (elim o as (λ z. List Member) [
        | Some t ↦ cond (committed_in (log_of logs e.0) t || acknowledged_in h t) (record { tx = t; point = record { stamp = (e.1).stamp; shard = e.0 }; acts = acts_in t h } ∷ ms) ms
        | None ↦ ms
      ])
      ≡ acts_at h o ++ rest
  at e ms rest None known same = same
  at e ms rest (Some t) known same = chosen (committed_in (log_of logs e.0) t) (acknowledged_in h t) _ ms rest (known t refl) same

  pub members_are : (es : History) → ((e : ℕ × Entry) → Among e es → IsKnown logs h e) → serial_acts (members logs h es) ≡ acknowledged_acts h es
  members_are [] known = refl
  members_are (e ∷ es) known =
      at e (members logs h es) (acknowledged_acts h es) (request_of (e.1).event (e.1).outcome) (known e (inl refl)) (members_are es (λ x m. known x (inr m)))

-- where who made a request was told, so it is in each legal history's logs left
pub known_by :
    (splits : List ℕ) (kept : Kept) (left : List (List LogRecord)) → may_open splits kept.found ≡ true → Legal splits kept.found (entries kept) left → AreTold (entries kept) → (choice : ℕ → Bool) (e : ℕ × Entry) → Among e (entries kept)
    → IsKnown (logs_left splits kept.found (entries kept) left choice) (entries kept) e
known_by splits kept left may legal told choice e m t some committed =
    let h = entries kept in
    let logs = logs_left splits kept.found h left choice in
    ⊎_elim (λ a. a)
    (λ b. absurd (both_ways (committed_in (log_of logs e.0) t) (aborted_are_committed_nowhere splits kept.found h left choice e.0 t (record { opens = may; legal = legal }) (in_a_shard splits kept.found left h e legal m) b) committed))
    (told e.0 e.1 t (among_is e.0 e.1 h m) some)

pub members_are_acknowledged : MembersAreAcknowledged
members_are_acknowledged splits before now counts counts_now most script went kept choice may p gone =
    members_are (logs_left splits kept.found (entries kept) (p.keeps).left choice) (entries kept) (entries kept)
    (known_by splits kept (p.keeps).left may ((p.keeps).legal).legal (requests_are_told splits before now counts counts_now most script went kept p gone) choice)

pub runs_replay : RunsReplay
runs_replay splits before now counts counts_now most script went kept may p gone choice =
    sym ((p.keeps).promised choice).map ∙ ap (replay_map (stands kept.found)) (members_are_acknowledged splits before now counts counts_now most script went kept choice may p gone)
