-- The end of a flush.
use Rattle.std.proofs.Common.{◌≡◌, refl, sym, ◌∙◌, ap, subst, ℕ, ◌<◌, Bool, true, false, ◌++◌, ◌∷◌, [], List, length, length-append, Some, None, is_none, arith}
use Rattle.clv_base.specs.declared.events.Event.TheVariants.{FlushIn}
use Rattle.clv_base.specs.declared.events.Entry.{Entry}
use Rattle.clv_base.specs.declared.events.Outcome.{Outcome}
use Rattle.clv_base.specs.declared.events.Outcome.TheVariants.{Durable, Down}
use Rattle.clv_base.specs.State.{Shard}
use Rattle.clv_base.specs.Events.{Does, Quiet, Enters, finish, with_durable, landed, land, land_up, next_stamp, stamped, with_entry}
use Rattle.shard_core.specs.Core.{Core}
use Rattle.shard_core.specs.Whole.{IsAtRest}
use Rattle.shard_machine.specs.Journaled.{Journaled}
use Rattle.machine_calls.specs.Steps.{entry, Made}
use Rattle.machine_laws.specs.Frame.{stamped_as}
use Rattle.machine_laws.specs.Fitting.{IsShort}
use Rattle.machine_laws.proofs.Laws.{finishes_alike, finishes_stay, landings_keep_names}
use Rattle.shard_machine.specs.Machined.{IsRunning}

-- ---- what the end of a flush tells

lands_up : (s : Shard) (n clock w : ℕ) (pushed : Bool) → s.is_up ≡ true → s.flight ≡ Some n → land s clock w pushed ≡ stamped (next_stamp s clock FlushIn) w FlushIn true (landed s n pushed)
lands_up s n clock w pushed up flies = ap (λ b. elim b [ true ↦ land_up s clock w pushed s.flight | false ↦ Quiet Down ]) up ∙ ap (land_up s clock w pushed) flies

made_by : (s t u : Shard) (n clock w : ℕ) (pushed : Bool) (o : Outcome) → s.is_up ≡ true → s.flight ≡ Some n → landed s n pushed ≡ Does o u → u.journal ≡ s.journal
    → t ≡ with_entry (next_stamp s clock FlushIn) w FlushIn o u → (made : Entry) × Made (land s clock w pushed) s clock w FlushIn o t made
made_by s t u n clock w pushed o up flies does journal is = (
  entry (next_stamp s clock FlushIn) w FlushIn o,
  record {
    enters = lands_up s n clock w pushed up flies ∙ ap (λ r. stamped (next_stamp s clock FlushIn) w FlushIn true r) does ∙ ap (λ x. Enters o x) (sym is);
    entry_is = refl;
    journal = ap (λ (x : Shard). x.journal) is ∙ ap (λ j. j ++ entry (next_stamp s clock FlushIn) w FlushIn o ∷ []) journal;
  },
)

journal_stays : (s : Shard) → (finish s).journal ≡ s.journal
journal_stays s = ap (λ (x : Shard). x.journal) (finishes_alike s.is_up s.last s.journal s)

-- the records are durable, or not
pub made_durable : (s t : Shard) (n clock w stamp : ℕ) (o : Outcome) → s.is_up ≡ true → s.flight ≡ Some n → stamp ≡ next_stamp s clock FlushIn → o ≡ Durable n
    → t ≡ with_entry stamp w FlushIn (Durable n) (finish (with_durable n s)) → (made : Entry) × Made (land s clock w true) s clock w FlushIn o t made
made_durable s t n clock w stamp o up flies at same is =
    subst (λ p. (made : Entry) × Made (land s clock w true) s clock w FlushIn p t made) (sym same)
    (made_by s t (finish (with_durable n s)) n clock w true (Durable n) up flies refl (journal_stays (with_durable n s))
    (is ∙ ap (λ k. with_entry k w FlushIn (Durable n) (finish (with_durable n s))) at))

-- ---- the state after it

pub durable_as : (is_up : Bool) (l stamp : ℕ) (j k : List Entry) (s d : Shard) (n w : ℕ) → d ≡ finish (with_durable n s) → k ≡ j ++ entry stamp w FlushIn (Durable n) ∷ []
    → stamped_as is_up stamp k d ≡ with_entry stamp w FlushIn (Durable n) (finish (with_durable n (stamped_as is_up l j s)))
durable_as is_up l stamp j k s d n w landed grown =
    ap (λ x. stamped_as is_up stamp x d) grown ∙ ap (λ (x : Shard). stamped_as is_up stamp (j ++ entry stamp w FlushIn (Durable n) ∷ []) x) landed
    ∙ ap (λ (x : Shard). with_entry stamp w FlushIn (Durable n) x) (sym (finishes_alike is_up l j (with_durable n s)))

-- ---- what holds of the machine's parts

pub kept_durable : (c d : Core) (is_up : Bool) (l m n : ℕ) (j k : Journaled) (has : Bool) (x : Entry) → c.shard.flight ≡ Some n → d.shard ≡ finish (with_durable n c.shard) → IsAtRest d → IsShort d.shard.local
    → k.shard ≡ j.shard → k.entries ≡ j.entries ++ x ∷ [] → l < m → IsRunning c is_up l j has → IsRunning d is_up m k true
kept_durable c d is_up l m n j k has x flies landed rest short same grown more r =
    let s : Shard = c.shard in let stay = finishes_stay (with_durable n s) in
    let home : d.shard.flight ≡ None = ap (λ (x : Shard). x.flight) landed ∙ stay.1 in
    record {
      rest = rest;
      named = landings_keep_names s d.shard n true (Durable n) (ap (λ x. Does (Durable n) x) (sym landed)) short r.named;
      index = same ∙ r.index ∙ sym (ap (λ (x : Shard). x.shard) landed ∙ stay.0);
      few = let one = ap length grown ∙ length-append j.entries (x ∷ []) in let few = r.few in omega (arith, one, few, more);
      gate = λ u. ap is_none (sym home);
    }
