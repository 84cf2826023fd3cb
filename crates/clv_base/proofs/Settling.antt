-- Each thing that is done leaves less to do.
use Rattle.std.proofs.Common.{◌≡◌, refl, sym, ◌∙◌, ap, subst, ℕ, zero, suc, pred, ◌+◌, ◌<◌, ◌≤◌, true, false, cond, Bool, List, [], ◌∷◌, Option, Some, None, not, ◌&&◌, ◌||◌, ◌==◌, arith}
use Rattle.std.proofs.lemmas.Bool.{both_ways}
use Rattle.std.specs.List.{list_all}
use Rattle.std.specs.Map.{lookup, set_value}
use Rattle.clv_base.specs.declared.names.TxId.{TxId}
use Rattle.clv_base.specs.declared.causes.Vote.{Vote}
use Rattle.clv_base.specs.declared.causes.Vote.TheVariants.{Yes, Read, No}
use Rattle.clv_base.specs.declared.causes.AbortCause.{AbortCause}
use Rattle.clv_base.specs.Orders.{Table, tx_same, tx_in, tx_get, tx_set, nat_in}
use Rattle.clv_base.specs.declared.state.Ruling.TheVariants.{Commit as CommitVerdict, Acknowledge, Abort as AbortVerdict, End as EndVerdict}
use Rattle.clv_base.specs.State.{Shard, Local, with_local}
use Rattle.clv_base.specs.declared.state.Stage.{Stage}
use Rattle.clv_base.specs.declared.state.Stage.TheVariants.{Active, Closed, Gone}
use Rattle.clv_base.specs.declared.state.Held.{Held}
use Rattle.clv_base.specs.declared.state.Voter.{Voter}
use Rattle.clv_base.specs.declared.state.Request.{Request}
use Rattle.clv_base.specs.declared.state.RequestState.{RequestState}
use Rattle.clv_base.specs.declared.state.RequestState.TheVariants.{Undecided, Committed, Finished, Refused}
use Rattle.clv_base.specs.declared.state.Ruling.{Ruling}
use Rattle.clv_base.specs.Undo.{stage_of, roll_back, doomed_here, gone_in, gone_part}
use Rattle.clv_base.specs.Facts.{facts_of, has_durable_commit, has_durable_predecessors}
use Rattle.clv_base.specs.declared.parts.PartFacts.{PartFacts}
use Rattle.clv_base.specs.Participant.{vote_by, vote_owed, voted}
use Rattle.clv_base.specs.Coordinator.{ruling_by, ruling_in, undecided_ruling, agreed_ruling, refused_ruling, refusal, end_ruling, ruled_request, is_agreed, yes_shards}
use Rattle.clv_base.specs.Due.{total, stage_work, part_work, voter_work, state_work, request_work, work, or_else, finish_part, with_commit_done, commit_due, vote_due, give_vote, with_vote, finish_reader, with_ruling, do_ruling, rule, request_due, due_of, first_due, known_txs, next_due, do_due}
use Rattle.clv_base.specs.Settling.{LessWork, nothing, less, EachLeavesLess, NothingIsLeft}

-- ---- sums over a table

-- what a changed value does to the sum, by the value that was there
SetTotal : {X : Type 0} → (X → ℕ) → Table X → Table X → X → Option X → Type 0
SetTotal f t u w None = total f u ≡ total f t
SetTotal f t u w (Some x) = total f u + f x ≡ total f t + f w

set_later : {X : Type 0} (f : X → ℕ) (e : TxId × X) (t u : Table X) (w : X) (o : Option X) → SetTotal f t u w o → SetTotal f (e ∷ t) (e ∷ u) w o
unfolding SetTotal
set_later f e t u w None h = ap (λ n. f e.1 + n) h
set_later f e t u w (Some x) h = omega arith

set_here : {X : Type 0} (f : X → ℕ) (e : TxId × X) (t u : Table X) (w : X) (b : Bool) (o : Option X) → SetTotal f t u w o → SetTotal f (e ∷ t) (cond b ((e.0, w) ∷ t) (e ∷ u)) w (cond b (Some e.1) o)
unfolding SetTotal
set_here f e t u w true o h = omega arith
set_here f e t u w false o h = set_later f e t u w o h

total_set : {X : Type 0} (f : X → ℕ) (test : TxId → Bool) (t : Table X) (w : X) → SetTotal f t (set_value test t w) w (lookup test t)
unfolding SetTotal
total_set f test [] w = refl
total_set f test (e ∷ es) w = set_here f e es (set_value test es w) w (test e.0) (lookup test es) (total_set f test es w)

-- the sum where the transaction's value is known
total_at : {X : Type 0} (f : X → ℕ) (tx : TxId) (t : Table X) (x w : X) → tx_get tx t ≡ Some x → total f (tx_set tx w t) + f x ≡ total f t + f w
unfolding SetTotal
total_at f tx t x w e = subst (λ o. SetTotal f t (tx_set tx w t) w o) e (total_set f (tx_same tx) t w)

-- ---- parts that go

pub gone_one : (b : Bool) (d : Option TxId) (h : Held) → part_work (cond b (gone_part d h) h) ≤ part_work h
gone_one true d h = omega arith
gone_one false d h = omega arith

pub gone_le : (set : List TxId) (d : Option TxId) (parts : Table Held) → total part_work (gone_in set d parts) ≤ total part_work parts
gone_le set d [] = omega arith
gone_le set d (p ∷ ps) = omega (arith, gone_one (tx_in p.0 set) d p.1, gone_le set d ps)

-- by the stage that the transaction's part has
GoneLess : Table Held → Table Held → Option Stage → Type 0
GoneLess parts gone None = Unit {0}
GoneLess parts gone (Some st) = total part_work gone + stage_work st ≤ total part_work parts

stage_in : Option Held → Option Stage
stage_in o = elim o [ Some h ↦ Some h.stage | None ↦ None ]

gone_later : (h : TxId × Held) (ps gs : Table Held) (o : Option Held) → GoneLess ps gs (stage_in o) → GoneLess (h ∷ ps) (h ∷ gs) (stage_in o)
unfolding GoneLess stage_in
gone_later h ps gs None g = tt
gone_later h ps gs (Some x) g = omega arith

gone_here : (p : TxId × Held) (ps gs : Table Held) (d : Option TxId) (b : Bool) (o : Option Held) → total part_work gs ≤ total part_work ps → GoneLess ps gs (stage_in o)
    → GoneLess (p ∷ ps) ((p.0, cond (b || false) (gone_part d p.1) p.1) ∷ gs) (stage_in (cond b (Some p.1) o))
unfolding GoneLess stage_in
gone_here p ps gs d true o h g = omega arith
gone_here p ps gs d false o h g = gone_later p ps gs o g

gone_less : (tx : TxId) (d : Option TxId) (parts : Table Held) → GoneLess parts (gone_in (tx ∷ []) d parts) (stage_in (tx_get tx parts))
unfolding GoneLess stage_in
gone_less tx d [] = tt
gone_less tx d (p ∷ ps) = gone_here p ps (gone_in (tx ∷ []) d ps) d (tx_same tx p.0) (tx_get tx ps) (gone_le (tx ∷ []) d ps) (gone_less tx d ps)

pub gone_closed : (l : Local) (tx : TxId) → stage_of l tx ≡ Some Closed → total part_work (gone_in (tx ∷ []) None l.parts) + 1 ≤ total part_work l.parts
unfolding GoneLess stage_in
gone_closed l tx e = subst (λ o. GoneLess l.parts (gone_in (tx ∷ []) None l.parts) o) e (gone_less tx None l.parts)

-- ---- the rules

at_test : (s : Shard) (b : Bool) (x y : Option Shard) → LessWork s x → LessWork s y → LessWork s (cond b x y)
at_test s true x y p q = p
at_test s false x y p q = q

at_or_else : (s : Shard) (x y : Option Shard) → LessWork s x → LessWork s y → LessWork s (or_else x y)
at_or_else s None y p q = q
at_or_else s (Some t) y p q = p

commit : (s : Shard) (tx : TxId) (st : Option Stage) → stage_of s.local tx ≡ st → LessWork s (commit_due s tx st)
commit s tx None e = nothing
commit s tx (Some Active) e = nothing
commit s tx (Some Closed) e = at_test s (has_durable_commit (facts_of s tx)) (Some (with_commit_done s tx)) None (less (omega (arith, gone_closed s.local tx e))) nothing
commit s tx (Some (Gone d)) e = nothing

finish_le : (s : Shard) (tx : TxId) → work (finish_part tx s) ≤ work s
finish_le s tx = omega (arith, gone_le (tx ∷ []) None s.local.parts)

rolled_le : (s : Shard) (tx : TxId) → work (with_local (roll_back tx) s) ≤ work s
rolled_le s tx = omega (arith, gone_le (doomed_here s.local tx) (Some tx) s.local.parts)

-- a vote that is due was owed
IsVote : Option Vote → Type 0
IsVote None = ⊥
IsVote (Some x) = Unit {0}

pub owed_some : (n : ℕ) (b : Bool) → (n == 0) ≡ b → b ≡ false → 0 < n
owed_some zero b e h = absurd (both_ways (zero == 0) (e ∙ h) refl)
owed_some (suc n) b e h = omega arith

pub owes : (f : PartFacts) (v : Voter) (b : Bool) (vote : Vote) → (v.owed == 0) ≡ b → vote_owed f v b ≡ Some vote → 0 < v.owed
unfolding IsVote
owes f v true vote t e = absurd (subst IsVote (sym e) tt)
owes f v false vote t e = owed_some v.owed false t refl

vote_less : (s : Shard) (tx : TxId) (v : Voter) (vote : Vote) → tx_get tx s.voters ≡ Some v → 0 < v.owed → work (with_vote s tx v vote) < work s
vote_less s tx v vote e h = omega (arith, total_at voter_work tx s.voters v (voted vote v) e, lowered v.owed h)
  where
    lowered : (n : ℕ) → 0 < n → pred n + 1 ≡ n
    lowered zero h = absurd (omega arith)
    lowered (suc n) h = omega arith

reader : (s : Shard) (tx : TxId) (vote : Vote) → work (finish_reader tx vote s) ≤ work s
reader s tx Yes = omega arith
reader s tx Read = finish_le s tx
reader s tx (No why) = omega arith

give : (s : Shard) (tx : TxId) (v : Voter) (o : Option Vote) → tx_get tx s.voters ≡ Some v → vote_by (facts_of s tx) v ≡ o → LessWork s (give_vote s tx v o)
give s tx v None e a = nothing
give s tx v (Some vote) e a = less (omega (arith, vote_less s tx v vote e (owes (facts_of s tx) v (v.owed == 0) vote refl a), reader (with_vote s tx v vote) tx vote))

vote : (s : Shard) (tx : TxId) (o : Option Voter) → tx_get tx s.voters ≡ o → LessWork s (vote_due s tx o)
vote s tx None e = nothing
vote s tx (Some v) e = give s tx v (vote_by (facts_of s tx) v) e refl

-- an undecided request that is ruled
less_undecided : (q : Request) (r : RequestState) → q.state ≡ Undecided → state_work r ≡ 0 → request_work (record q { state = r }) < request_work q
less_undecided q r u z =
    let one : state_work q.state ≡ 1 = ap state_work u in
    omega (arith, one, z)

-- a ruling leaves less to do of the request
RulingLess : Request → Option Ruling → Type 0
RulingLess q None = Unit {0}
RulingLess q (Some r) = request_work (ruled_request r q) < request_work q

less_reader : (q : Request) (b : Bool) → q.state ≡ Undecided → RulingLess q (cond b (Some Acknowledge) None)
unfolding RulingLess
less_reader q true u = less_undecided q Finished u refl
less_reader q false u = tt

less_agreed : (q : Request) (f : PartFacts) (b : Bool) (ps : List ℕ) → q.state ≡ Undecided → RulingLess q (agreed_ruling f b ps)
unfolding RulingLess
less_agreed q f b (p ∷ ps) u = less_undecided q (Committed (p ∷ ps)) u refl
less_agreed q f true [] u = less_undecided q (Committed []) u refl
less_agreed q f false [] u = less_reader q (has_durable_predecessors f) u

less_refused : (shard : ℕ) (q : Request) (c : Option AbortCause) → q.state ≡ Undecided → RulingLess q (refused_ruling shard q c)
unfolding RulingLess
less_refused shard q None u = tt
less_refused shard q (Some c) u = less_undecided q (Refused c) u refl

less_by : (shard : ℕ) (tx : TxId) (q : Request) (f : PartFacts) (b : Bool) → q.state ≡ Undecided → RulingLess q (undecided_ruling shard tx q f b)
less_by shard tx q f true u = less_agreed q f f.updates (yes_shards shard q) u
less_by shard tx q f false u = less_refused shard q (refusal tx q f) u

less_end : (q : Request) (b c : Bool) → q.is_ended ≡ b → RulingLess q (cond (not b && c) (Some EndVerdict) None)
unfolding RulingLess
less_end q true c e = tt
less_end q false true e =
    let one : ◌≡◌ {A = ℕ} (cond q.is_ended 0 1) 1 = ap (λ b. cond b 0 1) e in
    omega (arith, one)
less_end q false false e = tt

less_ended : (q : Request) (ps : List ℕ) → RulingLess q (end_ruling q ps)
unfolding RulingLess
less_ended q [] = tt
less_ended q (p ∷ ps) = less_end q q.is_ended (list_all (λ n. nat_in n q.acknowledged_by) (p ∷ ps)) refl

less_in : (shard : ℕ) (tx : TxId) (q : Request) (f : PartFacts) (r : RequestState) → q.state ≡ r → RulingLess q (ruling_in shard tx q f r)
unfolding RulingLess
less_in shard tx q f Undecided u = less_by shard tx q f (is_agreed shard q f) u
less_in shard tx q f (Committed ps) u = less_ended q ps
less_in shard tx q f Finished u = tt
less_in shard tx q f (Refused c) u = tt

done_le : (s : Shard) (tx : TxId) (r : Ruling) → work (do_ruling tx r s) ≤ work s
done_le s tx (CommitVerdict ps) = omega arith
done_le s tx Acknowledge = finish_le s tx
done_le s tx (AbortVerdict c to) = rolled_le s tx
done_le s tx EndVerdict = omega arith

rules : (s : Shard) (tx : TxId) (q : Request) (o : Option Ruling) → tx_get tx s.requests ≡ Some q → RulingLess q o → LessWork s (rule s tx q o)
unfolding RulingLess
rules s tx q None e l = nothing
rules s tx q (Some r) e l = less (omega (arith, total_at request_work tx s.requests q (ruled_request r q) e, l, done_le (with_ruling tx q r s) tx r))

request : (s : Shard) (tx : TxId) (o : Option Request) → tx_get tx s.requests ≡ o → LessWork s (request_due s tx o)
request s tx None e = nothing
request s tx (Some q) e = rules s tx q (ruling_by s.shard tx q (facts_of s tx)) e (less_in s.shard tx q (facts_of s tx) q.state refl)

due : (s : Shard) (tx : TxId) → LessWork s (due_of s tx)
due s tx =
    at_or_else s (commit_due s tx (stage_of s.local tx)) (or_else (vote_due s tx (tx_get tx s.voters)) (request_due s tx (tx_get tx s.requests)))
    (commit s tx (stage_of s.local tx) refl)
    (at_or_else s (vote_due s tx (tx_get tx s.voters)) (request_due s tx (tx_get tx s.requests)) (vote s tx (tx_get tx s.voters) refl) (request s tx (tx_get tx s.requests) refl))

found : (s : Shard) (o rest : Option Shard) → LessWork s o → LessWork s rest → LessWork s (elim o [ Some t ↦ Some t | None ↦ rest ])
found s None rest g h = h
found s (Some t) rest g h = g

first : (s : Shard) (txs : List TxId) → LessWork s (first_due s txs)
first s [] = nothing
first s (tx ∷ txs) = found s (due_of s tx) (first_due s txs) (due s tx) (first s txs)

next : (s : Shard) → LessWork s (next_due s)
next s = first s (known_txs s)

from_less : (s t : Shard) → LessWork s (Some t) → work t < work s
from_less s t (less h) = h

pub each_leaves_less : EachLeavesLess
each_leaves_less s t e = from_less s t (subst (λ o. LessWork s o) e (next s))

-- ---- the end

abbrev pub do_due_at : ℕ → Shard → Option Shard → Shard
do_due_at n s o = elim o [ Some t ↦ do_due n t | None ↦ s ]

settled_by : (n : ℕ) (s : Shard) (o : Option Shard) → next_due s ≡ o → LessWork s o → work s ≤ suc n → ((t : Shard) → work t ≤ n → next_due (do_due n t) ≡ None) → next_due (do_due_at n s o) ≡ None
settled_by n s None e l h k = e
settled_by n s (Some t) e (less w) h k = k t (omega arith)

nothing_at_zero : (s : Shard) (o : Option Shard) → next_due s ≡ o → LessWork s o → work s ≤ 0 → next_due s ≡ None
nothing_at_zero s None e l h = e
nothing_at_zero s (Some t) e (less w) h = absurd (omega arith)

settles : (n : ℕ) (s : Shard) → work s ≤ n → next_due (do_due n s) ≡ None
settles zero s h = nothing_at_zero s (next_due s) refl (next s) h
settles (suc n) s h = settled_by n s (next_due s) refl (next s) h (settles n)

pub nothing_is_left : NothingIsLeft
nothing_is_left s = settles (work s) s (omega arith)
