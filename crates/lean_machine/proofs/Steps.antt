-- What a call tells of what is kept, it tells of all.
use Rattle.std.proofs.Common.{◌≡◌, refl, sym, ap, subst, ◌∙◌, ℕ, ◌^◌, Bool, true, false, not, nat_lt, List, [], Option, Some, None, Result, Ok, Err, reverse}
use Rattle.clv_base.specs.declared.logs.LogRecord.{LogRecord}
use Rattle.clv_base.specs.declared.state.Request.{Request}
use Rattle.clv_base.specs.declared.events.Entry.{Entry}
use Rattle.clv_base.specs.declared.events.Event.{Event}
use Rattle.clv_base.specs.declared.events.Event.TheVariants.{Drop, RollTo, Remind, FlushIn, Restart}
use Rattle.clv_base.specs.declared.events.Outcome.{Outcome}
use Rattle.clv_base.specs.declared.events.Outcome.TheVariants.{Wait, Crowded, Nothing, Up}
use Rattle.clv_base.specs.Orders.{Table}
use Rattle.clv_base.specs.State.{Shard}
use Rattle.clv_base.specs.Restarts.{revived}
use Rattle.clv_base.specs.Events.{Does, CallAnswer, Quiet, Worn as IsWorn, Enters, stamped, next_stamp, step, land}
use Rattle.machine_calls.specs.declared.machine.StepError.{StepError}
use Rattle.machine_calls.specs.declared.machine.StepError.TheVariants.{Memory, Worn}
use Rattle.machine_calls.specs.declared.flights.Flight.{Flight}
use Rattle.machine_calls.specs.Flights.{Departs}
use Rattle.machine_calls.specs.Restored.{revives}
use Rattle.machine_calls.specs.Steps.{Made, takes_no_memory, may_want_memory, NoEntry, Tells}
use Rattle.ended_laws.specs.Recalled.{forgets_all, recalls, AreSpent, forgetting, Misses, SpentAreNotMissed}
use Rattle.lean_machine.specs.Lean.{whole, IsLean}

-- ---- answers

quiet_back : (rows : Table Request) (o : Outcome) (a : CallAnswer) → forgetting rows a ≡ Quiet o → a ≡ Quiet o
quiet_back rows o (Quiet p) e = e
quiet_back rows o IsWorn e = absurd cc
quiet_back rows o (Enters p t) e = absurd cc

worn_back : (rows : Table Request) (a : CallAnswer) → forgetting rows a ≡ IsWorn → a ≡ IsWorn
worn_back rows (Quiet p) e = absurd cc
worn_back rows IsWorn e = e
worn_back rows (Enters p t) e = absurd cc

abbrev Entered : Table Request → Outcome → Shard → CallAnswer → Type 0
Entered rows o t a = (u : Shard) × (a ≡ Enters o u) × (forgets_all rows u ≡ t)

enters_back : (rows : Table Request) (o : Outcome) (t : Shard) (a : CallAnswer) → forgetting rows a ≡ Enters o t → Entered rows o t a
enters_back rows o t (Quiet p) e = absurd cc
enters_back rows o t IsWorn e = absurd cc
enters_back rows o t (Enters p u) e = (u, ap (λ z. Enters z u) (outcome e), after e)
  where
    outcome : Enters p (forgets_all rows u) ≡ Enters o t → p ≡ o
    outcome z = cc

    after : Enters p (forgets_all rows u) ≡ Enters o t → forgets_all rows u ≡ t
    after z = cc

-- ---- memory

takes_same : (rows : Table Request) (s : Shard) (e : Event) → takes_no_memory (record s { requests = rows }) e ≡ takes_no_memory s e
takes_same rows s (Drop tx) = refl
takes_same rows s (RollTo tx nth seen upto) = refl
takes_same rows s _ = refl

wants_same : (rows : Table Request) (s : Shard) (e : Event) (a : CallAnswer) → may_want_memory (record s { requests = rows }) e a ≡ may_want_memory s e a
wants_same rows s e (Enters o t) = ap not (takes_same rows s e)
wants_same rows s e (Quiet (Wait younger)) = refl
wants_same rows s e (Quiet (Crowded count)) = refl
wants_same rows s Remind (Quiet Nothing) = refl
wants_same rows s Remind IsWorn = refl
wants_same rows s _ _ = refl

-- an entry's state is not read
wants_any : (rows : Table Request) (s : Shard) (e : Event) (a : CallAnswer) → may_want_memory s e (forgetting rows a) ≡ may_want_memory s e a
wants_any rows s e (Quiet o) = refl
wants_any rows s e IsWorn = refl
wants_any rows s e (Enters o t) = refl

-- ---- one call

module _ (law : SpentAreNotMissed) (gone : Table Request) (s : Shard) (lean : IsLean gone s) where
  abbrev rows : Table Request
  rows = reverse gone

  abbrev all : Shard
  all = whole gone s

  misses : Misses rows all
  misses = law rows all lean.spent

  -- where the answers to what is kept and to all are the same but for the rows, which stay spent
  module _ (a b : CallAnswer) (same : a ≡ forgetting rows b) (still : (o : Outcome) (u : Shard) → b ≡ Enters o u → AreSpent rows u) (clock w : ℕ) (e : Event) where
    none : (r : Result Outcome StepError) → NoEntry a s e r → NoEntry b all e r
    none (Ok o) n = quiet_back rows o b (sym same ∙ n)
    none (Err Memory) n = wants_same all.requests s e b ∙ sym (wants_any rows s e b) ∙ ap (may_want_memory s e) (sym same) ∙ n
    none (Err (Worn at)) n = (worn_back rows b (sym same ∙ n.0), n.1)

    made : (t : Shard) (x : Entry) (o : Outcome) → Made a s clock w e o t x → Made b all clock w e o (whole gone t) x × IsLean gone t
    made t x o m = (
      record { enters = after.1 ∙ ap (Enters o) (sym back); entry_is = m.entry_is; journal = m.journal },
      record { spent = subst (AreSpent rows) (sym back) spent; kept = ap (forgets_all rows) back ∙ after.2 },
    )
      where
        after : Entered rows o t b
        after = enters_back rows o t b (sym same ∙ m.enters)

        spent : AreSpent rows after.0
        spent = still o after.0 after.1

        back : whole gone t ≡ after.0
        back = ap (recalls rows) (sym after.2) ∙ (law rows after.0 spent).whole

    abbrev Told : Result Outcome StepError → Shard → Type 0
    Told r t = (x : Option Entry) × Tells b all clock w e r (whole gone t) x

    told : (t : Shard) (r : Result Outcome StepError) → (x : Option Entry) × Tells a s clock w e r t x → Told r t × IsLean gone t
    told t r (None, p) = ((None, (none r p.0, ap (whole gone) p.1)), subst (IsLean gone) (sym p.1) lean)
    told t r (Some x, p) = let k = made t x p.0 p.2 in ((Some x, (p.0, p.1, k.0)), k.1)

  pub stepped : (clock w : ℕ) (e : Event) (t : Shard) (r : Result Outcome StepError) → (x : Option Entry) × Tells (step s clock w e) s clock w e r t x
      → ((x : Option Entry) × Tells (step all clock w e) all clock w e r (whole gone t) x) × IsLean gone t
  stepped clock w e t r tells = told (step s clock w e) (step all clock w e) (ap (λ z. step z clock w e) (sym lean.kept) ∙ misses.steps clock w e) (λ o u h. misses.spent clock w e o u h) clock w e t r tells

  pub home : (clock w : ℕ) (pushed : Bool) (t : Shard) (o : Outcome) → (x : Entry) × Made (land s clock w pushed) s clock w FlushIn o t x
      → ((x : Entry) × Made (land all clock w pushed) all clock w FlushIn o (whole gone t) x) × IsLean gone t
  home clock w pushed t o (x, m) =
      let p = made (land s clock w pushed) (land all clock w pushed) (ap (λ z. land z clock w pushed) (sym lean.kept) ∙ misses.lands clock w pushed) (λ p u h. misses.landed clock w pushed p u h) clock w FlushIn t x o m in
      ((x, p.0), p.1)

-- ---- a restart, which makes all rows anew

pub fresh : (s : Shard) → IsLean [] s
fresh s = record { spent = tt; kept = refl }

never_quiet : (stamp w : ℕ) (e : Event) (b : Bool) (o p : Outcome) (t : Shard) → stamped stamp w e b (Does o t) ≡ Quiet p → ⊥
never_quiet stamp w e true o p t h = absurd cc
never_quiet stamp w e false o p t h = absurd cc

pub revived_whole : (gone : Table Request) (s t : Shard) (clock w epoch : ℕ) (log : List LogRecord) (o : Outcome) → (x : Option Entry) × Tells (revives s clock w epoch log) s clock w Restart (Ok o) t x
    → (x : Option Entry) × Tells (revives s clock w epoch log) (whole gone s) clock w Restart (Ok o) (whole [] t) x
revived_whole gone s t clock w epoch log o (None, p) =
    absurd (never_quiet (next_stamp s clock Restart) w Restart (nat_lt (next_stamp s clock Restart) (2 ^ 48)) (Up epoch) o (revived s epoch log) p.0)
revived_whole gone s t clock w epoch log o (Some x, p) = (Some x, (p.0, p.1, record { enters = p.2.enters; entry_is = p.2.entry_is; journal = p.2.journal }))

pub stays_down : (gone : Table Request) (s t : Shard) (clock w epoch : ℕ) (log : List LogRecord) (f : StepError) → IsLean gone s → (x : Option Entry) × Tells (revives s clock w epoch log) s clock w Restart (Err f) t x
    → ((x : Option Entry) × Tells (revives s clock w epoch log) (whole gone s) clock w Restart (Err f) (whole gone t) x) × IsLean gone t
stays_down gone s t clock w epoch log f lean (None, p) = ((None, (none f p.0, ap (whole gone) p.1)), subst (IsLean gone) (sym p.1) lean)
  where
    none : (f : StepError) → NoEntry (revives s clock w epoch log) s Restart (Err f) → NoEntry (revives s clock w epoch log) (whole gone s) Restart (Err f)
    none Memory n = wants_same (whole gone s).requests s Restart (revives s clock w epoch log) ∙ n
    none (Worn at) n = n
stays_down gone s t clock w epoch log f lean (Some x, p) = absurd (no_error p.1)
  where
    no_error : {o : Outcome} → Err f ≡ Ok o → ⊥
    no_error z = absurd cc

-- ---- a flight

pub departs : {G : Type 0} (put : Table Request) (t : Shard) (before after : Option G) (r : Result (Outcome × Option (Flight G)) StepError) → Departs t before after r → Departs (record t { requests = put }) before after r
departs put t before after (Ok (o, Some f)) d = record { outcome = d.outcome; batch = d.batch; spelled = d.spelled; had = d.had; as_taken = d.as_taken; has = d.has }
departs put t before after (Ok (o, None)) d = d
departs put t before after (Err e) d = d
