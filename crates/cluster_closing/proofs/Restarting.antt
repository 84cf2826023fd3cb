-- A shard of which no walker ever took the disk.
use Rattle.std.proofs.Common.{◌≡◌, refl, sym, subst, ℕ, ◌<◌, ◌==◌, Bool, true, false, not, cond, List, [], ◌∷◌, map, length, get_or, ⊎_elim, Option, Some, None}
use Rattle.std.proofs.lemmas.Bool.{eq-eqb, and_from}
use Rattle.clv_base.specs.declared.events.Event.{Event}
use Rattle.clv_base.specs.declared.events.Event.TheVariants.{Op, RollTo, Request, Look, Drop, Send, Deliver, Remind, FlushOut, FlushIn, Stop, Restart}
use Rattle.clv_base.specs.State.{Shard}
use Rattle.clv_base.specs.Journals.{after_entry}
use Rattle.journal_laws.specs.Notes.{MayNotes, RestartsByHolder, ends_holding, entries_of_notes}
use Rattle.turn_lock.specs.Journals.{entries_by}
use Rattle.turn_lock.specs.Passes.{seen}
use Rattle.machine_laws.specs.declared.notes.Note.{Note}
use Rattle.machine_laws.specs.declared.notes.Note.TheVariants.{Made, Fetched}
use Rattle.machine_laws.specs.declared.notes.Origin.{Origin}
use Rattle.machine_laws.specs.Notes.{noter, told}
use Rattle.machine_laws.specs.Homes.{start}
use Rattle.cluster_turns.specs.declared.shards.Walker.{Walker}
use Rattle.cluster_closing.specs.Ending.{ClosedAt, HasPassAt, own_notes}
use Rattle.cluster_closing.proofs.EndHoming.{Has, find, first_of}
use Rattle.cluster_closing.specs.Held.{AreMade, FetchedNone, never_restarts}
use Rattle.cluster_closing.specs.Ends.{UnfetchedNeverRestart}

-- ---- notes of which none took a disk

rest_made : (w : ℕ) (x : Note) (xs : List Note) (b : Bool) → (noter x == w) ≡ b → AreMade (entries_by noter w (x ∷ xs)) → AreMade (entries_by noter w xs)
rest_made w (Made e log) xs true is h = subst (λ b. AreMade (cond b (Made e log ∷ entries_by noter w xs) (entries_by noter w xs))) is h
rest_made w (Made e log) xs false is h = subst (λ b. AreMade (cond b (Made e log ∷ entries_by noter w xs) (entries_by noter w xs))) is h
rest_made w (Fetched v) xs true is h = absurd (subst (λ b. AreMade (cond b (Fetched v ∷ entries_by noter w xs) (entries_by noter w xs))) is h)
rest_made w (Fetched v) xs false is h = subst (λ b. AreMade (cond b (Fetched v ∷ entries_by noter w xs) (entries_by noter w xs))) is h

none_fetched : (v : ℕ) (xs : List Note) → AreMade (entries_by noter v (Fetched v ∷ xs)) → ⊥
none_fetched v xs h = subst (λ b. AreMade (cond b (Fetched v ∷ entries_by noter v xs) (entries_by noter v xs))) (eq-eqb v v refl) h

all_made : (ns : List Note) → ((w : ℕ) → AreMade (entries_by noter w ns)) → AreMade ns
all_made [] h = tt
all_made (Made e log ∷ ns) h = all_made ns (λ w. rest_made w (Made e log) ns (e.walker == w) refl (h w))
all_made (Fetched v ∷ ns) h = none_fetched v ns (h v)

-- ---- no restart without a disk

not_restart : (w : ℕ) (e : Event) → RestartsByHolder None w e → not (ends_holding e) ≡ true
not_restart w Restart h = absurd (let k : None ≡ Some w = h in cc)
not_restart w (Op tx birth nth seen op) h = refl
not_restart w (RollTo tx nth seen upto) h = refl
not_restart w (Request tx ts) h = refl
not_restart w (Look tx) h = refl
not_restart w (Drop tx) h = refl
not_restart w Send h = refl
not_restart w (Deliver x stamp) h = refl
not_restart w Remind h = refl
not_restart w FlushOut h = refl
not_restart w FlushIn h = refl
not_restart w Stop h = refl

still_none : (b : Bool) → ◌≡◌ {A = Option ℕ} (cond b None None) None
still_none true = refl
still_none false = refl

never : (s : Shard) (ns : List Note) → AreMade ns → MayNotes s None (map told ns) → never_restarts (entries_of_notes (map told ns)) ≡ true
never s [] a m = refl
never s (Made e log ∷ ns) a m =
    and_from (not (ends_holding e.event)) (never_restarts (entries_of_notes (map told ns))) (not_restart e.walker e.event (m.0).1)
    (never (after_entry log s e) ns a (subst (λ h. MayNotes (after_entry log s e) h (map told ns)) (still_none (ends_holding e.event)) m.1))
never s (Fetched v ∷ ns) a m = absurd a

-- ---- at the end

module _ {M S G : Type 0} (vs : List (Walker M S G)) (n : ℕ) (o : Origin) (notes : List Note) (c : ClosedAt vs n o notes) where
  made_by : ((k : ℕ) (d : Walker M S G) → k < length vs → HasPassAt n (get_or vs k d).passes.items × FetchedNone (get_or vs k d).passes.items) → (w : ℕ) → AreMade (entries_by noter w notes)
  made_by each w = ⊎_elim one (λ none. subst AreMade (sym (c.others w none)) tt) (find vs w)
    where
      one : Has vs w → AreMade (entries_by noter w notes)
      one (k, low, is) =
          let d = first_of vs k low in
          let h = each k d low in
          let p = (h.0).0 in
          subst (λ (m : ℕ). AreMade (entries_by noter m notes)) (is d) (subst AreMade (sym (c.own_is k d low)) (subst (λ x. AreMade (own_notes x)) (sym ((h.0).1 None)) (h.1 n p (h.0).1)))

pub unfetched_never_restart : (M S G : Type 0) → UnfetchedNeverRestart M S G
unfetched_never_restart M S G walkers n o notes s c l each = subst (λ j. never_restarts j ≡ true) (sym l.entries) (never (start o) notes (all_made notes (made_by walkers n o notes c each)) l.may)
