-- Notes tell the state after them.
use Rattle.std.proofs.Common.{◌≡◌, refl, sym, ap, subst, ◌∙◌, ℕ, ◌==◌, true, false, cond, Bool, List, [], ◌∷◌, Option, Some, None}
use Rattle.std.proofs.lemmas.Bool.{both_ways, eq-eqb}
use Rattle.clv_base.specs.declared.events.Event.{Event}
use Rattle.clv_base.specs.declared.events.Event.TheVariants.{Op, FlushIn, Restart}
use Rattle.clv_base.specs.declared.events.Outcome.{Outcome}
use Rattle.clv_base.specs.declared.events.Outcome.TheVariants.{Down}
use Rattle.clv_base.specs.State.{Shard}
use Rattle.clv_base.specs.Events.{QuietBeforeWorn, Does, happen, happen_up}
use Rattle.clv_base.specs.Journals.{after_entry}
use Rattle.clv_base.specs.Machines.{BecomesBy}
use Rattle.journal_laws.specs.Walkers.{by_walker}
use Rattle.journal_laws.specs.Notes.{made, fetched, entries_of_notes, notes_by, after_note, holder_after, RestartsByHolder, NotesAreRuns, NotesGoOn, NotesAreSeen, NotesAreShared, HeldShardsRest, world_found, world_lost, EntriesDoNotTell}
use Rattle.std.proofs.Common.{inl, inr}
use Rattle.std.specs.Prelude.{slice_get}
use Rattle.clv_base.specs.declared.names.TxId.{TxId}
use Rattle.clv_base.specs.declared.logs.LogRecord.{LogRecord}
use Rattle.clv_base.specs.declared.logs.LogRecord.TheVariants.{Abort, Commit}
use Rattle.clv_base.specs.Restarts.{log_left}
use Rattle.clv_base.specs.Journals.{MayLeave}
use Rattle.protocol_laws.specs.Growth.{IsPrefixOf}
use Rattle.protocol_laws.proofs.LogOnlyGrows.DueGrowsLogs.{same}
use Rattle.history_cases.proofs.Durability.{failed_front}
use Rattle.journal_laws.specs.Worlds.{shard_at}

pub notes_are_runs : NotesAreRuns
notes_are_runs s held [] m = refl
notes_are_runs s held (made e log ∷ ns) m = (after_entry log s e, (m.0).0, notes_are_runs (after_entry log s e) _ ns m.1)
notes_are_runs s held (fetched w ∷ ns) m = notes_are_runs s (Some w) ns m.1

pub notes_go_on : NotesGoOn
notes_go_on s held [] n m k = (k, tt)
notes_go_on s held (x ∷ ns) n m k = (m.0, notes_go_on (after_note s x) (holder_after held x) ns n m.1 k)

pub notes_are_seen : NotesAreSeen
notes_are_seen s held [] later m = (tt, m, refl)
notes_are_seen s held (x ∷ seen) later m = let q = notes_are_seen (after_note s x) (holder_after held x) seen later m.1 in ((m.0, q.0), q.1, q.2)

pub notes_are_shared : NotesAreShared
notes_are_shared w [] = refl
notes_are_shared w (made e log ∷ ns) = at (e.walker == w) (notes_are_shared w ns)
  where
    at : (b : Bool) → by_walker w (entries_of_notes ns) ≡ entries_of_notes (notes_by w ns)
        → cond b (e ∷ by_walker w (entries_of_notes ns)) (by_walker w (entries_of_notes ns)) ≡ entries_of_notes (cond b (made e log ∷ notes_by w ns) (notes_by w ns))
    at true h = ap (λ l. e ∷ l) h
    at false h = h
notes_are_shared w (fetched v ∷ ns) = at (v == w) (notes_are_shared w ns)
  where
    at : (b : Bool) → by_walker w (entries_of_notes ns) ≡ entries_of_notes (notes_by w ns) → by_walker w (entries_of_notes ns) ≡ entries_of_notes (cond b (fetched v ∷ notes_by w ns) (notes_by w ns))
    at true h = h
    at false h = h

-- ---- a shard that is down

quiet_does : {p o : Outcome} {t : Shard} {X : Type 0} → QuietBeforeWorn p ≡ Does o t → X
quiet_does h = cc

down_quiet : (s : Shard) (e : Event) (b : Bool) (o : Outcome) (t : Shard) {X : Type 0} → b ≡ false → elim b [ true ↦ happen_up s e | false ↦ QuietBeforeWorn Down ] ≡ Does o t → X
down_quiet s e true o t d h = absurd (both_ways true d refl)
down_quiet s e false o t d h = quiet_does h

nothing_happens : (s : Shard) (e : Event) (o : Outcome) (t : Shard) {X : Type 0} → s.is_up ≡ false → happen s e ≡ Does o t → X
nothing_happens s e o t d h = down_quiet s e s.is_up o t d h

-- its next entry is a restart's
only_restarts : (s : Shard) (e : Event) (o : Outcome) (t : Shard) → s.is_up ≡ false → BecomesBy s e o t → e ≡ Restart
only_restarts s FlushIn o t d b = absurd (both_ways s.is_up d b.0)
only_restarts s Restart o t d b = refl
only_restarts s (Op tx birth nth seen op) o t d b = nothing_happens s (Op tx birth nth seen op) o t d b.1
only_restarts s e o t d b = nothing_happens s e o t d b

not_empty : {A X : Type 0} {x : A} {xs : List A} → x ∷ xs ≡ [] → X
not_empty h = cc

some_same : {x y : ℕ} → Some x ≡ Some y → x ≡ y
some_same h = cc

some_none : {x : ℕ} {X : Type 0} → ◌≡◌ {A = Option ℕ} (Some x) None → X
some_none h = cc

pub held_shards_rest : HeldShardsRest
held_shards_rest s w [] d m n = refl
held_shards_rest s w (made e log ∷ ns) d m n =
    let r = only_restarts s e.event e.outcome ((m.0).0).state d ((m.0).0).becomes in
    let h : Some w ≡ Some e.walker = subst (RestartsByHolder (Some w) e.walker) r (m.0).1 in
    not_empty (sym (ap (λ b. cond b (made e log ∷ notes_by w ns) (notes_by w ns)) (eq-eqb e.walker w (sym (some_same h)))) ∙ n)
held_shards_rest s w (fetched v ∷ ns) d m n = some_none (m.0).1

-- ---- a computed case

-- the fifth record of the one log is an ABORT, of the other a COMMIT
not_front : (kept : Bool) → IsPrefixOf (log_left (shard_at world_lost 0) kept) (log_left (shard_at world_found 0) false) → ⊥
not_front true p = differ (ap (λ log. slice_get log 4) p.1)
  where
    differ : {a b : TxId} {ps : List ℕ} → ◌≡◌ {A = Option LogRecord} (Some (Abort a)) (Some (Commit b ps)) → ⊥
    differ h = absurd cc
not_front false p = differ (ap (λ log. slice_get log 4) p.1)
  where
    differ : {a b : TxId} {ps : List ℕ} → ◌≡◌ {A = Option LogRecord} (Some (Abort a)) (Some (Commit b ps)) → ⊥
    differ h = absurd cc

pub entries_do_not_tell : EntriesDoNotTell
entries_do_not_tell = (refl, refl, (false, inl refl), λ l. not_left l)
  where
    not_left : MayLeave (shard_at world_lost 0) (log_left (shard_at world_found 0) false) → ⊥
    not_left (kept, inl e) = not_front kept (subst (IsPrefixOf (log_left (shard_at world_lost 0) kept)) (sym e) (same (log_left (shard_at world_lost 0) kept)))
    not_left (kept, inr f) = not_front kept (failed_front (shard_at world_lost 0) (log_left (shard_at world_lost 0) kept) (log_left (shard_at world_found 0) false) f.1)
