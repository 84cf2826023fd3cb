-- Lemmas of shards, and of what an event comes to.
use Rattle.clv_base.specs.declared.events.Outcome.{Outcome}
use Rattle.clv_base.specs.Events.{Reply, QuietBeforeWorn, QuietAfterWorn, Does, Quiet, stamped, out_event, land_up, Enters, happen_up, taken}
use Rattle.std.proofs.Common.{Bool, true, false, ◌≡◌, ℕ, zero, suc, Option, Some, None, refl, List, ap, ◌∙◌, cond, [], ◌∷◌, ◌==◌, ◌<◌, length, arith}
use Rattle.clv_base.specs.State.{Shard}
use Rattle.clv_base.specs.declared.events.Event.TheVariants.{FlushOut, Op, RollTo, Request, Look, Drop, Send, Deliver, Remind, FlushIn, Stop, Restart}
use Rattle.clv_base.specs.declared.events.Outcome.TheVariants.{Out, Acknowledged, Aborted, Down, Answered, Rolled, Dead, Asked}
use Rattle.std.proofs.lemmas.Bool.{both_ways}
use Rattle.std.specs.List.{AllByRecursion}
use Rattle.clv_base.specs.Journals.{History, own}
use Rattle.clv_base.specs.History.{Member, acts_in}
use Rattle.clv_base.specs.declared.names.TxId.{TxId}
use Rattle.clv_base.specs.Logs.{committed_in, fitting}
use Rattle.law_base.proofs.Tables.{is_pair}
use Rattle.clv_base.specs.declared.events.Event.{Event}
use Rattle.clv_base.specs.Sessions.{SessionState, session_after, is_of_session, Phase, Touching, Ended, Standing, Told, Refused, is_touching, after_drop}
use Rattle.std.specs.Prelude.{slice_get, drop}
use Rattle.std.proofs.lemmas.Option.{none-some}

abbrev pub outcome_in : Reply → Outcome
outcome_in (QuietBeforeWorn o) = o
outcome_in (QuietAfterWorn o) = o
outcome_in (Does o t) = o

abbrev pub is_done : Reply → Bool
is_done (QuietBeforeWorn o) = false
is_done (QuietAfterWorn o) = false
is_done (Does o t) = true

pub does_after : {p q : Outcome} {u v : Shard} → Does p u ≡ Does q v → u ≡ v
does_after e = cc

pub quiet_out : (s : Shard) (stamp w : ℕ) (room : Bool) (n : ℕ) (f : Option ℕ) (k : ℕ) → stamped stamp w FlushOut room (out_event s f k) ≡ Quiet (Out n) → ⊥
quiet_out s stamp w room n f zero h = absurd cc
quiet_out s stamp w room n (Some m) (suc k) h = absurd cc
quiet_out s stamp w true n None (suc k) h = absurd cc
quiet_out s stamp w false n None (suc k) h = absurd cc

abbrev pub is_told : Outcome → Bool
is_told Acknowledged = true
is_told (Aborted cause) = true
is_told _ = false

pub not_down : (s : Shard) (clock w : ℕ) (pushed : Bool) (o : Outcome) (t : Shard) {X : Type 0} (u : Bool) → s.is_up ≡ u → elim u [ true ↦ land_up s clock w pushed s.flight | false ↦ Quiet Down ] ≡ Enters o t → u ≡ false → X
not_down s clock w pushed o t true up h d = absurd (both_ways true d refl)
not_down s clock w pushed o t false up h d = absurd cc

abbrev pub FromHistory : History → List Member → Type 0
FromHistory h ms = AllByRecursion (λ m. m.acts ≡ acts_in m.tx h) ms

abbrev pub rest_of : Option Shard → Option Shard → Option Shard
rest_of o rest = elim o [ Some t ↦ Some t | None ↦ rest ]

abbrev pub Before : Shard → TxId → Type 0
Before s a = (b : TxId) → is_pair s.local.pairs a b ≡ true → committed_in s.local.log b ≡ true

pub own_none : (w : ℕ) (h : History) → AllByRecursion (λ e. ((e.1).walker == w) ≡ false) h → own w h ≡ []
own_none w [] a = refl
own_none w (e ∷ es) a = ap (λ b. cond b (e ∷ own w es) (own w es)) a.0 ∙ own_none w es a.1

pub same_out : {m n : ℕ} → Out m ≡ Out n → m ≡ n
same_out e = cc

abbrev pub fits_op : Outcome → Bool
fits_op (Answered answer epoch) = true
fits_op (Dead cause) = true
fits_op _ = false

abbrev pub fits_back : Outcome → Bool
fits_back Rolled = true
fits_back (Dead cause) = true
fits_back _ = false

abbrev pub fits_request : Outcome → Bool
fits_request Asked = true
fits_request (Dead cause) = true
fits_request _ = false

pub session_passes : (splits : List ℕ) (n : ℕ) (t : SessionState) (e : Event) (o : Outcome) → is_of_session e ≡ false → session_after splits n t e o ≡ Some t
session_passes splits n t (Op tx birth nth seen op) o h = absurd (both_ways true h refl)
session_passes splits n t (RollTo tx nth seen upto) o h = absurd (both_ways true h refl)
session_passes splits n t (Request tx touched) o h = absurd (both_ways true h refl)
session_passes splits n t (Look tx) o h = absurd (both_ways true h refl)
session_passes splits n t (Drop tx) o h = absurd (both_ways true h refl)
session_passes splits n t Send o h = refl
session_passes splits n t (Deliver m stamp) o h = refl
session_passes splits n t Remind o h = refl
session_passes splits n t FlushOut o h = refl
session_passes splits n t FlushIn o h = refl
session_passes splits n t Stop o h = refl
session_passes splits n t Restart o h = refl

pub shard_inside : (xs : List Shard) (i : ℕ) (x : Shard) → slice_get xs i ≡ Some x → i < length xs
shard_inside [] i x h = absurd (none-some x h)
shard_inside (z ∷ zs) zero x h = omega arith
shard_inside (z ∷ zs) (suc i) x h = let e = shard_inside zs i x h in omega (arith, e)

pub same_outcome : {p o : Outcome} {u t : Shard} → Enters p u ≡ Enters o t → p ≡ o
same_outcome h = cc

pub same_after : {p o : Outcome} {u t : Shard} → Enters p u ≡ Enters o t → u ≡ t
same_after h = cc

pub does_outcome : {p o : Outcome} {u t : Shard} → Does p u ≡ Does o t → p ≡ o
does_outcome h = cc

pub drop_ends : (p : Phase) → is_touching (after_drop p) ≡ false
drop_ends Touching = refl
drop_ends Ended = refl
drop_ends (Standing home) = refl
drop_ends Told = refl
drop_ends Refused = refl

pub none_session : {X : Type 0} (t : SessionState) → ◌≡◌ {A = Option SessionState} None (Some t) → X
none_session t h = absurd cc

pub some_session : (t u : SessionState) → ◌≡◌ {A = Option SessionState} (Some t) (Some u) → t ≡ u
some_session t u h = cc

pub touching_is : (x : Phase) → is_touching x ≡ true → x ≡ Touching
touching_is Touching h = refl
touching_is Ended h = absurd (both_ways false refl h)
touching_is (Standing home) h = absurd (both_ways false refl h)
touching_is Told h = absurd (both_ways false refl h)
touching_is Refused h = absurd (both_ways false refl h)

pub up_or_down : (s : Shard) (stamp w : ℕ) (room : Bool) (n : ℕ) (b : Bool) → stamped stamp w FlushOut room (elim b [ true ↦ happen_up s FlushOut | false ↦ QuietBeforeWorn Down ]) ≡ Quiet (Out n) → ⊥
up_or_down s stamp w room n true h = quiet_out s stamp w room n s.flight (fitting 1048576 (drop (taken s) s.local.log)) h
up_or_down s stamp w room n false h = absurd cc
