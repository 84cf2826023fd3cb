-- A walker's birth through the turns of others.
use Rattle.std.proofs.Common.{◌≡◌, ℕ, Bool, true, false, not, ◌==◌, List, [], ◌∷◌, map, Option, ap, refl, ◌∙◌}
use Rattle.std.specs.List.{AllByRecursion}
use Rattle.std.proofs.lemmas.Bool.{both_ways, and_parts, eq-eqb, eqb-true}
use Rattle.clv_base.specs.declared.names.TxId.{TxId}
use Rattle.clv_base.specs.declared.names.Birth.{Birth}
use Rattle.clv_base.specs.declared.events.Event.{Event}
use Rattle.clv_base.specs.declared.events.Event.TheVariants.{Op, RollTo, Request, Look, Drop, Send, Deliver, Remind, FlushOut, FlushIn, Stop, Restart}
use Rattle.clv_base.specs.declared.events.Outcome.{Outcome}
use Rattle.clv_base.specs.declared.events.Outcome.TheVariants.{Down}
use Rattle.clv_base.specs.declared.events.Entry.{Entry}
use Rattle.clv_base.specs.State.{Shard}
use Rattle.clv_base.specs.Events.{QuietBeforeWorn, Does, happen, happen_up}
use Rattle.clv_base.specs.Journals.{has_equal_active_birth}
use Rattle.clv_base.specs.Machines.{BecomesBy, Makes, Runs}
use Rattle.turn_lock.specs.Journals.{entries_by}
use Rattle.journal_laws.specs.Notes.{MayNotes, after_notes}
use Rattle.journal_laws.specs.Births.{LeavesBirth, BearsWalker}
use Rattle.journal_laws.proofs.NotesAreRuns.{notes_are_runs}
use Rattle.journal_laws.proofs.FreeBirthsStay.{free_births_stay, others_leave_births}
use Rattle.journal_laws.proofs.EndsFree.{restarts_free}
use Rattle.machine_laws.specs.declared.notes.Note.{Note}
use Rattle.machine_laws.specs.declared.notes.Note.TheVariants.{Made, Fetched}
use Rattle.machine_laws.specs.Notes.{noter, told}
use Rattle.machine_laws.specs.Homes.{entries_in, is_named, all_named, IsFree}
use Rattle.machine_laws.proofs.Flying.{other_first}
use Rattle.law_base.proofs.Bools.{not_true}

down_by : {X : Type 0} (s : Shard) (e : Event) (o : Outcome) (t : Shard) (b : Bool) → b ≡ false → elim b [ true ↦ happen_up s e | false ↦ QuietBeforeWorn Down ] ≡ Does o t → X
down_by s e o t true d h = absurd (both_ways true d refl)
down_by s e o t false d h = absurd cc

pub nothing_happens : {X : Type 0} (s : Shard) (e : Event) (o : Outcome) (t : Shard) → s.is_up ≡ false → happen s e ≡ Does o t → X
nothing_happens s e o t d h = down_by s e o t s.is_up d h

-- the next entry of a shard that is down is a restart's, after which every birth is free
freed_by : (tx : TxId) (birth : Birth) (s : Shard) (e : Event) (o : Outcome) (t : Shard) → s.is_up ≡ false → BecomesBy s e o t → has_equal_active_birth tx birth t.local.parts ≡ false
freed_by tx birth s FlushIn o t d b = absurd (both_ways s.is_up d b.0)
freed_by tx birth s Restart o t d (up, (kept, epoch, after, r, is, same)) = ap (λ u. has_equal_active_birth tx birth u.local.parts) same ∙ restarts_free s epoch after tx birth
freed_by tx birth s (Op u b0 nth seen op) o t d b = nothing_happens s (Op u b0 nth seen op) o t d b.1
freed_by tx birth s (RollTo u nth seen upto) o t d b = nothing_happens s (RollTo u nth seen upto) o t d b
freed_by tx birth s (Request u ts) o t d b = nothing_happens s (Request u ts) o t d b
freed_by tx birth s (Look u) o t d b = nothing_happens s (Look u) o t d b
freed_by tx birth s (Drop u) o t d b = nothing_happens s (Drop u) o t d b
freed_by tx birth s Send o t d b = nothing_happens s Send o t d b
freed_by tx birth s (Deliver m stamp) o t d b = nothing_happens s (Deliver m stamp) o t d b
freed_by tx birth s Remind o t d b = nothing_happens s Remind o t d b
freed_by tx birth s FlushOut o t d b = nothing_happens s FlushOut o t d b
freed_by tx birth s Stop o t d b = nothing_happens s Stop o t d b

freed : (tx : TxId) (birth : Birth) (s : Shard) (e : Entry) (t : Shard) → s.is_up ≡ false → Makes s e t → has_equal_active_birth tx birth t.local.parts ≡ false
freed tx birth s e t d m = ap (λ u. has_equal_active_birth tx birth u.local.parts) m.entered ∙ freed_by tx birth s e.event e.outcome m.state d m.becomes

bears : (w : ℕ) (e : Event) → is_named w e ≡ true → BearsWalker w e
bears w (Op tx birth nth seen op) h = eqb-true birth.session w h
bears w (RollTo tx nth seen upto) h = tt
bears w (Request tx ts) h = tt
bears w (Look tx) h = tt
bears w (Drop tx) h = tt
bears w Send h = tt
bears w (Deliver m stamp) h = tt
bears w Remind h = tt
bears w FlushOut h = tt
bears w FlushIn h = tt
bears w Stop h = tt
bears w Restart h = tt

pub all_bear : (es : List Entry) → all_named es ≡ true → AllByRecursion (λ e. BearsWalker e.walker e.event) es
all_bear [] h = tt
all_bear (e ∷ es) h = let p = and_parts (is_named e.walker e.event) (all_named es) h in (bears e.walker e.event p.0, all_bear es p.1)

-- entries of others than w leave a birth of w alone
others_leave : (tx : TxId) (birth : Birth) (w : ℕ) (notes : List Note) → birth.session ≡ w → all_named (entries_in notes) ≡ true → entries_by noter w notes ≡ [] → AllByRecursion (λ e. LeavesBirth tx birth e.event) (entries_in notes)
others_leave tx birth w [] is named none = tt
others_leave tx birth w (Fetched v ∷ ns) is named none = others_leave tx birth w ns is named (other_first w (Fetched v) ns (v == w) refl none).1
others_leave tx birth w (Made e log ∷ ns) is named none =
    let first = other_first w (Made e log) ns (e.walker == w) refl none in
    let p = and_parts (is_named e.walker e.event) (all_named (entries_in ns)) named in (
      others_leave_births e tx birth (bears e.walker e.event p.0) (λ same. both_ways (e.walker == w) first.0 (eq-eqb e.walker w (same ∙ is))),
      others_leave tx birth w ns is p.1 first.1,
    )

runs_free : (s t : Shard) (es : List Entry) (tx : TxId) (birth : Birth) → Runs s es t → AllByRecursion (λ e. LeavesBirth tx birth e.event) es → (b : Bool) → s.is_up ≡ b → (s.is_up ≡ true → has_equal_active_birth tx birth s.local.parts ≡ false)
    → t.is_up ≡ true → has_equal_active_birth tx birth t.local.parts ≡ false
runs_free s t es tx birth r a true u free up = free_births_stay s t es tx birth r a (free u)
runs_free s t [] tx birth r a false d free up = absurd (both_ways s.is_up d (ap (λ x. x.is_up) r ∙ up))
runs_free s t (e ∷ es) tx birth r a false d free up = free_births_stay r.0 t es tx birth r.2 a.1 (freed tx birth s e r.0 d r.1)

pub free_stays : (s : Shard) (held : Option ℕ) (w : ℕ) (e : Event) (later : List Note) → MayNotes s held (map told later) → is_named w e ≡ true → all_named (entries_in later) ≡ true → entries_by noter w later ≡ [] → IsFree s e
    → IsFree (after_notes s (map told later)) e
free_stays s held w (Op tx birth nth seen op) later may named others none free =
    let r = notes_are_runs s held (map told later) may in
    let a = others_leave tx birth w later (eqb-true birth.session w named) others none in
    λ up. ap not (runs_free s (after_notes s (map told later)) (entries_in later) tx birth r a s.is_up refl (λ u. not_true (has_equal_active_birth tx birth s.local.parts) (free u)) up)
free_stays s held w (RollTo tx nth seen upto) later may named others none free = λ up. refl
free_stays s held w (Request tx ts) later may named others none free = λ up. refl
free_stays s held w (Look tx) later may named others none free = λ up. refl
free_stays s held w (Drop tx) later may named others none free = λ up. refl
free_stays s held w Send later may named others none free = λ up. refl
free_stays s held w (Deliver m stamp) later may named others none free = λ up. refl
free_stays s held w Remind later may named others none free = λ up. refl
free_stays s held w FlushOut later may named others none free = λ up. refl
free_stays s held w FlushIn later may named others none free = λ up. refl
free_stays s held w Stop later may named others none free = λ up. refl
free_stays s held w Restart later may named others none free = λ up. refl
