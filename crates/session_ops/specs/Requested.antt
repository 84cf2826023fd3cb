-- What the event of a request tells, and what holds after it.
use Rattle.std.specs.Prelude.{◌≡◌, ℕ, Bool, true, false, List, Option, Some, Result, Ok}
use Rattle.std.specs.List.{AllByRecursion}
use Rattle.clv_base.specs.declared.names.Point.{Point}
use Rattle.clv_base.specs.declared.events.Entry.{Entry}
use Rattle.clv_base.specs.declared.events.Event.{Event}
use Rattle.clv_base.specs.declared.events.Event.TheVariants.{Request}
use Rattle.clv_base.specs.declared.events.Outcome.{Outcome}
use Rattle.clv_base.specs.declared.events.Outcome.TheVariants.{Asked, Dead, Down}
use Rattle.clv_base.specs.FileRules.{tx_has_spelling}
use Rattle.clv_base.specs.History.{IsAmong}
use Rattle.clv_base.specs.Sessions.{SessionState, Standing, Ended}
use Rattle.turn_lock.specs.declared.pass.Pass.{Pass}
use Rattle.machine_calls.specs.declared.machine.StepError.{StepError}
use Rattle.machine_laws.specs.declared.notes.Note.{Note}
use Rattle.machine_laws.specs.declared.notes.Origin.{Origin}
use Rattle.cluster_turns.specs.declared.shards.Shards.{Shards}
use Rattle.cluster_turns.specs.declared.shards.Walker.{Walker}
use Rattle.cluster_turns.specs.Walkers.{kept}
use Rattle.cluster_turns.specs.CallTurns.{Turn, Took}
use Rattle.session_ops.specs.Standing.{IsTurnOf, IsReady, HasBirth, IsActive, IsOver, IsGoneAt}

-- what a request may come to
abbrev pub is_request_outcome : Outcome → Bool
is_request_outcome Asked = true
is_request_outcome (Dead cause) = true
is_request_outcome Down = true
is_request_outcome _ = false

-- the place after it; quiet answers leave it
abbrev pub place_requested : ℕ → SessionState → Result Outcome StepError → SessionState
place_requested home p (Ok Asked) = record p { phase = Standing home }
place_requested home p (Ok (Dead cause)) = record p { phase = Ended }
place_requested home p _ = p

-- the turn's entry, if it made one, has this stamp
abbrev pub HasStamp : ℕ → Turn → Type 0
HasStamp stamp t = (x : Entry) → t.made ≡ Some x → stamp ≡ x.stamp

-- and the walker's clock behind it is its entry's stamp
pub record RequestTold {T : Type 0} (w clock : ℕ) (before : List (Option (Pass T Note Origin))) (n : ℕ) (e : Event) (r : Result Outcome StepError) (clock' : ℕ) (after : List (Option (Pass T Note Origin))) : Type 0 where
  pub turns : List Turn
  pub took : Took w clock before turns clock' after
  pub is : IsTurnOf n e r turns
  pub stamped : AllByRecursion (HasStamp clock') turns

-- among the entries that a walker has made is the request of p, asked at this point
pub record HasRequest {T : Type 0} (passes : List (Option (Pass T Note Origin))) (p : SessionState) (point : Point) : Type 0 where
  pub entry : Entry
  pub event : entry.event ≡ Request p.tx p.touched
  pub outcome : entry.outcome ≡ Asked
  pub stamp : point.stamp ≡ entry.stamp
  pub among : IsAmong point.shard entry (kept passes)

module _ {M S G : Type 0} where
  -- the request of the transaction p stands at its home, where it has no active part any more
  pub record IsStanding (sh : Shards M S G) (w : Walker M S G) (p : SessionState) (home : ℕ) : Type 0 where
    pub ready : IsReady sh w p
    pub stands : p.phase ≡ Standing home
    pub born : HasBirth w p
    pub spelled : tx_has_spelling p.tx ≡ true
    pub gone : IsGoneAt home w p

  -- after an answer: the request stands, the transaction is over, and gone at its home, or it is active as before
  abbrev pub RequestStands : Shards M S G → Walker M S G → SessionState → ℕ → Result Outcome StepError → Type 0
  RequestStands sh w p home (Ok Asked) = IsStanding sh w p home
  RequestStands sh w p home (Ok (Dead cause)) = IsOver sh w p × IsGoneAt home w p
  RequestStands sh w p home _ = IsActive sh w p
