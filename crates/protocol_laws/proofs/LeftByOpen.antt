-- Where nothing is due no more is left than what is open may want.
use Rattle.std.proofs.Common.{◌≡◌, refl, sym, ap, subst, ◌∙◌, ℕ, ◌+◌, ◌*◌, ◌<◌, ◌≤◌, Bool, true, false, cond, not, ◌&&◌, ◌||◌, ◌==◌, List, [], ◌∷◌, length, Option, Some, None, is_none, is_some, eqb-true, arith}
use Rattle.std.proofs.lemmas.Bool.{both_ways, false_from_ne_true}
use Rattle.std.specs.List.{filter, list_all}
use Rattle.std.specs.Map.{keys_of}
use Rattle.clv_base.specs.declared.names.TxId.{TxId}
use Rattle.clv_base.specs.declared.causes.AbortCause.{AbortCause}
use Rattle.clv_base.specs.declared.causes.Vote.{Vote}
use Rattle.clv_base.specs.declared.parts.PartFacts.{PartFacts}
use Rattle.clv_base.specs.declared.state.Held.{Held}
use Rattle.clv_base.specs.declared.state.Stage.{Stage}
use Rattle.clv_base.specs.declared.state.Stage.TheVariants.{Active, Closed, Gone}
use Rattle.clv_base.specs.declared.state.Voter.{Voter}
use Rattle.clv_base.specs.declared.state.Request.{Request}
use Rattle.clv_base.specs.declared.state.RequestState.{RequestState}
use Rattle.clv_base.specs.declared.state.RequestState.TheVariants.{Undecided, Committed, Finished, Refused}
use Rattle.clv_base.specs.declared.state.Ruling.TheVariants.{End as EndVerdict}
use Rattle.clv_base.specs.Orders.{Table, tx_same, tx_in, tx_get, nat_in}
use Rattle.clv_base.proofs.SameNames.{or_left, or_right, tx_flip}
use Rattle.clv_base.specs.State.{Shard, is_present}
use Rattle.clv_base.specs.Undo.{stage_of}
use Rattle.clv_base.specs.Facts.{state_by, doom_by, facts_of, is_closed_state}
use Rattle.clv_base.specs.Participant.{vote_by, vote_owed, vote_in_state, first_vote}
use Rattle.clv_base.specs.Coordinator.{others, first_no, is_good, vote_from, cause_by, refusal, refused_ruling, ruling_in, ruling_by, undecided_ruling, is_agreed, end_ruling}
use Rattle.clv_base.specs.Events.{is_alone}
use Rattle.clv_base.specs.Due.{total, part_work, next_due}
use Rattle.protocol_laws.specs.Candidates.{is_vote_due, is_ruling_due, is_commit_due}
use Rattle.protocol_laws.specs.Rooms.{voter_of}
use Rattle.protocol_laws.specs.Left.{is_finished_stage, is_over, is_finished, is_idle, is_lone, left_voter, left_by, left_request, total_by, left}
use Rattle.protocol_laws.specs.Open.{txs_here, votes_owed, waits_in, count_waiting, open_work, LeftByOpen}
use Rattle.protocol_laws.proofs.Due.DueByFacts.{due_by_facts}
use Rattle.protocol_laws.proofs.Due.LeastIsNext.{at_rest_none}
use Rattle.protocol_laws.proofs.LeftFalls.SumsByTransaction.{get_first, get_later, row_sum, at_name, name_sum, named_total, by_rows}
use Rattle.std.specs.List.Sorted.{IsStrictlySortedBy}
use Rattle.clv_base.specs.Orders.{tx_cmp}
use Rattle.law_base.proofs.Names.{not_above as above_none}

-- ---- nothing is due of a transaction

record Nothing (s : Shard) (tx : TxId) : Type 0 where
  vote : is_vote_due (facts_of s tx) (tx_get tx s.voters) ≡ false
  ruling : is_ruling_due s.shard tx (facts_of s tx) (tx_get tx s.requests) ≡ false

nothing_at : (s : Shard) → next_due s ≡ None → (tx : TxId) → Nothing s tx
nothing_at s e tx =
    let f = facts_of s tx in
    let none : (is_commit_due f || (is_vote_due f (tx_get tx s.voters) || is_ruling_due s.shard tx f (tx_get tx s.requests))) ≡ false = sym (due_by_facts s tx) ∙ false_from_ne_true _ (λ d. both_ways false refl (at_rest_none s e tx d)) in
    record { vote = first _ _ (second _ _ none); ruling = second _ _ (second _ _ none) }
  where
    first : (a b : Bool) → (a || b) ≡ false → a ≡ false
    first true b e = e
    first false b e = refl

    second : (a b : Bool) → (a || b) ≡ false → b ≡ false
    second true b e = absurd (both_ways _ e refl)
    second false b e = e

-- ---- parts

parts_here : (parts : Table Held) → total part_work parts ≤ length (txs_here parts)
parts_here [] = omega arith
parts_here (p ∷ ps) = at (p.1).stage (parts_here ps)
  where
    at : (st : Stage) → total part_work ps ≤ length (txs_here ps)
        → part_work (record p.1 { stage = st }) + total part_work ps ≤ length (keys_of (cond (is_present (Some st)) (p ∷ filter (λ q. is_present (Some (q.1).stage)) ps) (filter (λ q. is_present (Some (q.1).stage)) ps)))
    at Active more = omega (arith, more)
    at Closed more = omega (arith, more)
    at (Gone d) more = omega (arith, more)

here_has : (parts : Table Held) (tx : TxId) → is_present (elim (tx_get tx parts) [ Some h ↦ Some h.stage | None ↦ None ]) ≡ true → tx_in tx (txs_here parts) ≡ true
here_has [] tx e = absurd (both_ways false refl e)
here_has (p ∷ ps) tx e = at (tx_same tx p.0) refl e (here_has ps tx)
  where
    rest : List (TxId × Held)
    rest = filter (λ q. is_present (Some (q.1).stage)) ps

    own : (b : Bool) → b ≡ true → tx_same tx p.0 ≡ true → tx_in tx (keys_of (cond b (p ∷ rest) rest)) ≡ true
    own true h s = or_left _ _ (tx_flip tx p.0 s)
    own false h s = absurd (both_ways false refl h)

    later : (b : Bool) → tx_in tx (keys_of rest) ≡ true → tx_in tx (keys_of (cond b (p ∷ rest) rest)) ≡ true
    later true i = or_right (tx_same p.0 tx) _ i
    later false i = i

    at : (b : Bool) → tx_same tx p.0 ≡ b → is_present (elim (cond b (Some p.1) (tx_get tx ps)) [ Some h ↦ Some h.stage | None ↦ None ]) ≡ true
        → (is_present (elim (tx_get tx ps) [ Some h ↦ Some h.stage | None ↦ None ]) ≡ true → tx_in tx (keys_of rest) ≡ true) → tx_in tx (keys_of (cond (is_present (Some (p.1).stage)) (p ∷ rest) rest)) ≡ true
    at true s e more = own (is_present (Some (p.1).stage)) e s
    at false s e more = later (is_present (Some (p.1).stage)) (more e)

-- ---- votes

-- where none is due of a voter that owes one, its part is here or it is finished and gave none
module _ (f : PartFacts) (v : Voter) (none : is_some (vote_by f v) ≡ false) (owes : 0 < v.owed) where
  first_none : is_some (first_vote f v.seen v.vote) ≡ false
  first_none = at (v.owed == 0) refl none
    where
      at : (b : Bool) → (v.owed == 0) ≡ b → is_some (vote_owed f v b) ≡ false → is_some (first_vote f v.seen v.vote) ≡ false
      at true h e = let same = eqb-true v.owed 0 h in absurd (omega (arith, same, owes))
      at false h e = e

  state_none : (v.vote ≡ None) × (is_some (vote_in_state f v.seen f.state) ≡ false)
  state_none = at v.vote first_none
    where
      at : (o : Option Vote) → is_some (first_vote f v.seen o) ≡ false → (o ≡ None) × (is_some (vote_in_state f v.seen f.state) ≡ false)
      at None e = (refl, e)
      at (Some x) e = absurd (both_ways _ e refl)

owes_less : (b : Bool) (v : Voter) → left_voter b v ≤ v.owed
owes_less b v = at (b && is_none v.vote)
  where
    at : (c : Bool) → cond c 0 v.owed ≤ v.owed
    at true = omega arith
    at false = omega arith

voter_here : (s : Shard) (tx : TxId) (v : Voter) → tx_get tx s.voters ≡ Some v → is_vote_due (facts_of s tx) (tx_get tx s.voters) ≡ false → 0 < left_voter (is_finished s.local.parts tx) v → is_present (stage_of s.local tx) ≡ true
voter_here s tx v e due some =
    let f = facts_of s tx in let most = owes_less (is_finished s.local.parts tx) v in
    let none : is_some (vote_by f v) ≡ false = sym (ap (is_vote_due f) e) ∙ due in
    let given = state_none f v none (omega (arith, some, most)) in
    at (tx_get tx s.local.parts) refl given.0 given.1 some
  where
    stage : Option Held → Option Stage
    stage o = elim o [ Some h ↦ Some h.stage | None ↦ None ]

    by : (h : Held) → v.vote ≡ None → is_some (vote_in_state (record (facts_of s tx) { state = state_by (Some h.stage); doom = doom_by (Some h.stage) }) v.seen (state_by (Some h.stage))) ≡ false
        → 0 < left_voter (is_finished_stage h.stage) v → is_present (Some h.stage) ≡ true
    by h none e some = go h.stage e some
      where
        go : (st : Stage) → is_some (vote_in_state (record (facts_of s tx) { state = state_by (Some st); doom = doom_by (Some st) }) v.seen (state_by (Some st))) ≡ false → 0 < left_voter (is_finished_stage st) v → is_present (Some st) ≡ true
        go Active e some = refl
        go Closed e some = refl
        go (Gone (Some d)) e some = absurd (both_ways _ e refl)
        go (Gone None) e some = let over : left_voter true v ≡ 0 = ap (λ o. cond (is_none o) 0 v.owed) none in absurd (omega (arith, over, some))

    at : (o : Option Held) → tx_get tx s.local.parts ≡ o → v.vote ≡ None → is_some (vote_in_state (facts_of s tx) v.seen (facts_of s tx).state) ≡ false → 0 < left_voter (is_over false (tx_get tx s.local.parts)) v → is_present (stage (tx_get tx s.local.parts)) ≡ true
    at None g none e some = absurd (both_ways _ (sym (ap (λ o. is_some (vote_in_state (record (facts_of s tx) { state = state_by (stage o); doom = doom_by (stage o) }) v.seen (state_by (stage o)))) g) ∙ e) refl)
    at (Some h) g none e some =
        ap (λ o. is_present (stage o)) g
        ∙ by h none (sym (ap (λ o. is_some (vote_in_state (record (facts_of s tx) { state = state_by (stage o); doom = doom_by (stage o) }) v.seen (state_by (stage o)))) g) ∙ e) (subst (λ o. 0 < left_voter (is_over false o) v) g some)

-- ---- requests

none_both : (tx : TxId) (c : Option AbortCause) (d : Option TxId) → is_some (cause_by tx c d) ≡ false → (c ≡ None) × (d ≡ None)
none_both tx None None e = (refl, refl)
none_both tx None (Some d) e = absurd (both_ways _ e refl)
none_both tx (Some c) d e = absurd (both_ways _ e refl)

-- where nothing is ruled of an undecided request whose part isn't closed, nobody voted no, and no abort took the part away
unruled : (shard : ℕ) (tx : TxId) (q : Request) (f : PartFacts) → is_closed_state f.state ≡ false → is_some (undecided_ruling shard tx q f (is_agreed shard q f)) ≡ false → (first_no q.votes ≡ None) × (f.doom ≡ None)
unruled shard tx q f apart none = none_both tx (first_no q.votes) f.doom (at (refusal tx q f) (sym (ap (λ b. is_some (undecided_ruling shard tx q f b)) disagreed) ∙ none))
  where
    disagreed : is_agreed shard q f ≡ false
    disagreed = ap (λ b. (b && is_none f.commit) && (f.undecided == 0) && list_all (λ p. is_good (vote_from p q.votes)) (others shard q.touched)) apart

    at : (c : Option AbortCause) → is_some (refused_ruling shard q c) ≡ false → is_some c ≡ false
    at None e = refl
    at (Some c) e = absurd (both_ways _ e refl)

-- two where it waits, and two where its part is here
abbrev row_bound : Bool → Bool → ℕ
row_bound waits here = cond waits 2 0 + cond here 2 0

end_left : (q : Request) (over waits here : Bool) (p : ℕ) (ps : List ℕ) → (not (list_all (λ n. nat_in n q.acknowledged_by) (p ∷ ps))) ≡ waits → is_some (end_ruling q (p ∷ ps)) ≡ false → left_by over (Committed (p ∷ ps)) q.is_ended ≤ row_bound waits here
end_left q over waits here p ps is none = at q.is_ended (list_all (λ n. nat_in n q.acknowledged_by) (p ∷ ps)) waits is none
  where
    at : (e a w : Bool) → not a ≡ w → is_some (cond (not e && a) (Some EndVerdict) None) ≡ false → ◌≤◌ (cond e 0 1) (row_bound w here)
    at true a w is none = omega arith
    at false true w is none = absurd (both_ways _ none refl)
    at false false true is none = omega arith
    at false false false is none = absurd (both_ways _ is refl)

undecided_most : (b : Bool) (e : Bool) → left_by b Undecided e ≤ 2
undecided_most true e = omega arith
undecided_most false e = omega arith

request_bound : (s : Shard) (tx : TxId) (q : Request) → is_some (ruling_by s.shard tx q (facts_of s tx)) ≡ false
    → left_request s.shard (is_idle s.local.parts tx) q ≤ row_bound (waits_in s.shard q q.state) (is_present (stage_of s.local tx))
request_bound s tx q none = by q.state refl none
  where
    f : PartFacts
    f = facts_of s tx

    -- of this shard alone, with its part not here: it is idle
    idle : (o : Option Held) → is_present (elim o [ Some h ↦ Some h.stage | None ↦ None ]) ≡ false → doom_by (elim o [ Some h ↦ Some h.stage | None ↦ None ]) ≡ None → is_over true o ≡ true
    idle None p d = refl
    idle (Some h) p d = go h.stage p d
      where
        go : (st : Stage) → is_present (Some st) ≡ false → doom_by (Some st) ≡ None → is_finished_stage st ≡ true
        go Active p d = absurd (both_ways _ p refl)
        go Closed p d = absurd (both_ways _ p refl)
        go (Gone None) p d = refl
        go (Gone (Some t)) p d = absurd cc

    absent : (o : Option Stage) → is_present o ≡ false → is_closed_state (state_by o) ≡ false
    absent None p = refl
    absent (Some Active) p = absurd (both_ways _ p refl)
    absent (Some Closed) p = absurd (both_ways _ p refl)
    absent (Some (Gone d)) p = refl

    alone : (b here : Bool) → is_alone (others s.shard q.touched) ≡ b → is_present (stage_of s.local tx) ≡ here → is_some (undecided_ruling s.shard tx q f (is_agreed s.shard q f)) ≡ false
        → left_by (is_idle s.local.parts tx && is_lone s.shard q) Undecided q.is_ended ≤ row_bound (not b) here
    alone false here a h none = let most = undecided_most (is_idle s.local.parts tx && is_lone s.shard q) q.is_ended in omega (arith, most)
    alone true true a h none = let most = undecided_most (is_idle s.local.parts tx && is_lone s.shard q) q.is_ended in omega (arith, most)
    alone true false a h none =
        let both = unruled s.shard tx q f (absent (stage_of s.local tx) h) none in
        let over = idle (tx_get tx s.local.parts) h both.1 in
        let lone : is_lone s.shard q ≡ true = ap (λ b. b && is_none (first_no q.votes)) a ∙ ap (λ o. is_none o) both.0 in
        let zero_now : left_by (is_idle s.local.parts tx && is_lone s.shard q) Undecided q.is_ended ≡ 0 = ap (λ b. left_by (b && is_lone s.shard q) Undecided q.is_ended) over ∙ ap (λ b. left_by b Undecided q.is_ended) lone in
        omega (arith, zero_now)

    by : (st : RequestState) → q.state ≡ st → is_some (ruling_in s.shard tx q f st) ≡ false → left_by (is_idle s.local.parts tx && is_lone s.shard q) st q.is_ended ≤ row_bound (waits_in s.shard q st) (is_present (stage_of s.local tx))
    by Undecided e none = alone (is_alone (others s.shard q.touched)) (is_present (stage_of s.local tx)) refl refl none
    by (Committed []) e none = omega arith
    by (Committed (p ∷ ps)) e none = end_left q (is_idle s.local.parts tx && is_lone s.shard q) _ (is_present (stage_of s.local tx)) p ps refl none
    by Finished e none = omega arith
    by (Refused c) e none = omega arith

-- ---- sums

module _ (s : Shard) (rest : next_due s ≡ None) where
  abbrev here_at : TxId → Bool
  here_at t = is_present (stage_of s.local t)

  by_votes : (ts : List TxId) → name_sum (λ t x. left_voter (is_finished s.local.parts t) x) s.voters ts ≤ votes_owed s.voters ts
  by_votes [] = omega arith
  by_votes (t ∷ ts) = let one = at (tx_get t s.voters) in let more = by_votes ts in omega (arith, one, more)
    where
      at : (o : Option Voter) → at_name (λ u x. left_voter (is_finished s.local.parts u) x) t o ≤ voter_of o
      at None = omega arith
      at (Some v) = owes_less (is_finished s.local.parts t) v

  by_names : (rows : Table Request) (ts : List TxId) → name_sum (λ t x. cond (here_at t) 2 0) rows ts ≤ 2 * length ts
  by_names rows [] = omega arith
  by_names rows (t ∷ ts) = let one = at (tx_get t rows) in let more = by_names rows ts in omega (arith, one, more)
    where
      two : (b : Bool) → ◌≤◌ (cond b 2 0) 2
      two true = omega arith
      two false = omega arith

      at : (o : Option Request) → at_name (λ u x. cond (here_at u) 2 0) t o ≤ 2
      at None = omega arith
      at (Some q) = two (here_at t)

  -- of the rows of requests
  abbrev Bounded : Table Request → Type 0
  Bounded rows = total_by (left_request s.shard) (is_idle s.local.parts) rows ≤ 2 * count_waiting s.shard rows + row_sum (λ t x. cond (here_at t) 2 0) rows

  rows_bounded : (rows : Table Request) → ((t : TxId) (q : Request) → tx_get t rows ≡ Some q → left_request s.shard (is_idle s.local.parts t) q ≤ row_bound (waits_in s.shard q q.state) (here_at t))
      → IsStrictlySortedBy tx_cmp (keys_of rows) → Bounded rows
  unfolding IsStrictlySortedBy
  rows_bounded [] each sorted = omega arith
  rows_bounded (r ∷ rs) each sorted =
      let one = each r.0 r.1 (get_first r rs) in
      let more = rows_bounded rs (λ t q e. each t q (get_later t r rs (above_none r.0 rs sorted.0) q e)) sorted.1 in
      let counts = count (waits_in s.shard r.1 (r.1).state) in omega (arith, one, more, counts)
    where
      rest_rows : Table Request
      rest_rows = filter (λ x. waits_in s.shard x.1 (x.1).state) rs

      count : (b : Bool) → ◌≡◌ {A = ℕ} (cond b 2 0 + 2 * length rest_rows) (2 * length (cond b (r ∷ rest_rows) rest_rows))
      count true = omega arith
      count false = omega arith

  bounded : IsStrictlySortedBy tx_cmp (keys_of s.voters) → IsStrictlySortedBy tx_cmp (keys_of s.requests) → left s ≤ open_work s
  bounded voters requests =
      let here = txs_here s.local.parts in
      let parts = parts_here s.local.parts in
      let votes = by_rows left_voter (is_finished s.local.parts) s.voters in
      let named = named_total (λ t x. left_voter (is_finished s.local.parts t) x) s.voters here voters (λ t v e some. here_has s.local.parts t (voter_here s t v e (nothing_at s rest t).vote some)) in
      let owed = by_votes here in
      let rows = rows_bounded s.requests (λ t q e. request_bound s t q (sym (ap (is_ruling_due s.shard t (facts_of s t)) e) ∙ (nothing_at s rest t).ruling)) requests in
      let held = named_total (λ t x. cond (here_at t) 2 0) s.requests here requests (λ t q e some. here_has s.local.parts t (present t some)) in
      let twice = by_names s.requests here in
      omega (arith, parts, votes, named, owed, rows, held, twice)
    where
      present : (t : TxId) → 0 < cond (here_at t) 2 0 → here_at t ≡ true
      present t some = at (here_at t) some
        where
          at : (b : Bool) → ◌<◌ 0 (cond b 2 0) → b ≡ true
          at true h = refl
          at false h = absurd (omega (arith, h))

pub left_by_open : LeftByOpen
left_by_open s voters requests rest = bounded s rest voters requests
