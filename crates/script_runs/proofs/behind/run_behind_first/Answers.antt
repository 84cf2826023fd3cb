use Rattle.std.proofs.Common.{◌≡◌, ◌<◌, ℕ, max, true, length, slice_index_or, slice_set, sym, ap, subst, ◌∙◌, false, arith}
use Rattle.std.specs.List.{list_all}
use Rattle.std.specs.Result.{is_ok}
use Rattle.script_lang.specs.Laws.{is_narrow_body}
use Rattle.script_runs.specs.Ran.{IsIdle}
use Rattle.script_runs.specs.Alone.{BeginsPast, BeganAlone, base_of, IsReached}
use Rattle.script_runs.proofs.Begun.{first_is, idle_when_ok, with_first, behind_first, Begun, Sat, all_joined, all_behind, reached_joined, reached_behind, IsSeatKept, kept_joined, kept_behind, none_follow, alone_joined, alone_behind}
use Rattle.script_runs.proofs.behind.run_behind_first.Goals as goal
use Rattle.script_runs.proofs.behind.run_behind_first.Goals.{then-is_ok, else-is_ok}

pub run_together-requires-clause-idle : goal.run_together-requires-clause-idle
run_together-requires-clause-idle g c κs within =
    let some : 0 < length c.args.seats.now = let e = c.if-is_empty.ensures in let f = c.if-is_empty.false in grind arith in
    let ok : is_ok c.run_first.new.seat.ended ≡ true =
    subst (λ s. is_ok s.ended ≡ true) (first_is c.args.seats.now c.run_first.new.seat c.index-seats-0-4.result some) (sym c.is_ok.ensures.value ∙ c.if-is_ok.true) in
    with_first (λ s. IsIdle (g.C.SessionCalls.seen s.session)) c.args.seats.now c.run_first.new.seat
    (idle_when_ok c.run_first.new.seat.ended (g.C.SessionCalls.seen c.run_first.new.seat.session) ok c.run_first.ensures.idle) c.requires.idle

pub run_together-requires-clause-kept : goal.run_together-requires-clause-kept
run_together-requires-clause-kept g c κs within = with_first (IsSeatKept g.C.SessionCalls.seen) c.args.seats.now c.run_first.new.seat c.run_first.ensures.kept c.requires.kept

pub run_together-requires-else-is_ok-clause-kept : goal.run_together-requires-else-is_ok-clause-kept
run_together-requires-else-is_ok-clause-kept g c κs within = behind_first (IsSeatKept g.C.SessionCalls.seen) c.args.seats.now c.run_first.new.seat c.requires.kept

pub run_together-requires-else-is_ok-clause-session : goal.run_together-requires-else-is_ok-clause-session
run_together-requires-else-is_ok-clause-session g c κs within = behind_first (λ s. g.C.SessionCalls.holds s.session) c.args.seats.now c.run_first.new.seat c.requires.session

pub run_together-requires-else-is_ok-clause-idle : goal.run_together-requires-else-is_ok-clause-idle
run_together-requires-else-is_ok-clause-idle g c κs within = behind_first (λ s. IsIdle (g.C.SessionCalls.seen s.session)) c.args.seats.now c.run_first.new.seat c.requires.idle

pub run_together-requires-else-is_ok-clause-narrow : goal.run_together-requires-else-is_ok-clause-narrow
run_together-requires-else-is_ok-clause-narrow g c κs within = behind_first (λ s. list_all is_narrow_body s.transactions.now ≡ true) c.args.seats.now c.run_first.new.seat c.requires.narrow

pub returns-then-is_empty-clause-follows : goal.returns-then-is_empty-clause-follows
returns-then-is_empty-clause-follows g c = none_follow g.C.SessionCalls.seen g.C.SessionCalls.missed c.args.most c.args.seats.now c.args.seats.now (let e = c.if-is_empty.ensures in let f = c.if-is_empty.true in grind arith)

pub returns : goal.returns
returns g c =
    let some : 0 < length c.args.seats.now = let e = c.if-is_empty.ensures in let f = c.if-is_empty.false in grind arith in
    let one = first_is c.args.seats.now c.run_first.new.seat c.index-seats-0-4.result some in
    let begun : Begun g.C.SessionCalls.holds g.C.SessionCalls.base g.C.SessionCalls.seen g.C.SessionCalls.grounds g.C.SessionCalls.missed c.args.most (slice_index_or c.args.seats.now 0 c.index-seats-0-2.result) c.run_first.new.seat =
    record { session = c.run_first.ensures.session; base_is = c.run_first.ensures.base; misses = c.run_first.ensures.misses; begun = c.run_first.ensures.begun; stopped = c.run_first.ensures.grounds; keeps = c.run_first.ensures.keeps } in
    let clock : c.clock-clock.result ≡ (g.C.SessionCalls.seen c.run_first.new.seat.session).clock = c.clock-clock.ensures ∙ ap (λ z. (g.C.SessionCalls.seen z.session).clock) (first_is c.args.seats.now c.run_first.new.seat c.index-seats-0-3.result some) in
    let all : (k : ℕ) (d : _) → k < length c.args.seats.now → Sat g.C.SessionCalls.holds g.C.SessionCalls.base g.C.SessionCalls.seen g.C.SessionCalls.grounds g.C.SessionCalls.missed c.args.most (base_of c.clock-clock.result k (g.C.SessionCalls.seen (slice_index_or c.args.seats.now k d).session)) (slice_index_or c.args.seats.now k d) (slice_index_or (slice_set c.if-is_ok.seats 0 (record { session = (slice_index_or c.if-is_ok.seats 0 c.index-seats-0-5.result).session; transactions = (slice_index_or c.args.seats.now 0 c.index-seats-0.result).transactions; ended = (slice_index_or c.if-is_ok.seats 0 c.index-seats-0-5.result).ended; book = (slice_index_or c.if-is_ok.seats 0 c.index-seats-0-5.result).book })) k d) =
    elim c.if-is_ok.branch [
      | then-is_ok w ↦
          let ok : is_ok c.run_first.new.seat.ended ≡ true = subst (λ s. is_ok s.ended ≡ true) one (sym c.is_ok.ensures.value ∙ w.if-is_ok.true) in
          let e = w.run_together.ensures in
          all_joined g.C.SessionCalls.holds g.C.SessionCalls.base g.C.SessionCalls.seen g.C.SessionCalls.grounds g.C.SessionCalls.missed c.args.most c.sessions_go_on.ensures c.clock-clock.result c.args.seats.now c.run_first.new.seat c.if-is_ok.seats
          c.index-seats-0-2.result c.index-seats-0.result c.index-seats-0-5.result clock c.if-is_ok.auto.seats begun ok
          (λ k d l.
          subst
          (λ z. Sat g.C.SessionCalls.holds g.C.SessionCalls.base g.C.SessionCalls.seen g.C.SessionCalls.grounds g.C.SessionCalls.missed c.args.most (max (g.C.SessionCalls.seen (slice_index_or (slice_set c.args.seats.now 0 c.run_first.new.seat) k d).session).clock c.clock-clock.result) (slice_index_or (slice_set c.args.seats.now 0 c.run_first.new.seat) k d) (slice_index_or z k d))
          (sym w.seats-is)
          (record { session = e.session k d l; base_is = e.base k d l; misses = e.misses k d l; transactions = e.transactions k d l; follows = e.follows k d l; stopped = e.grounds k d l; keeps = e.keeps k d l }))
      | else-is_ok w ↦
          let off : is_ok c.run_first.new.seat.ended ≡ false = subst (λ s. is_ok s.ended ≡ false) one (sym c.is_ok.ensures.value ∙ w.if-is_ok.false) in
          let e = w.run_together-else-is_ok.ensures in
          all_behind g.C.SessionCalls.holds g.C.SessionCalls.base g.C.SessionCalls.seen g.C.SessionCalls.grounds g.C.SessionCalls.missed c.args.most c.sessions_stop.ensures c.clock-clock.result c.args.seats.now c.run_first.new.seat w.run_together-else-is_ok.new.seats
          c.if-is_ok.seats c.index-seats-0-2.result c.index-seats-0.result c.index-seats-0-5.result w.seats-is w.run_together-else-is_ok.auto.seats begun off
          (λ k d l. record { session = e.session k d l; base_is = e.base k d l; misses = e.misses k d l; transactions = e.transactions k d l; follows = e.follows k d l; stopped = e.grounds k d l; keeps = e.keeps k d l })
    ] in
    let reached : (d : _) → 0 < length c.args.seats.now → IsReached c.clock-clock.result (g.C.SessionCalls.seen (slice_index_or c.args.seats.now 0 d).session) (g.C.SessionCalls.seen (slice_index_or (slice_set c.if-is_ok.seats 0 (record { session = (slice_index_or c.if-is_ok.seats 0 c.index-seats-0-5.result).session; transactions = (slice_index_or c.args.seats.now 0 c.index-seats-0.result).transactions; ended = (slice_index_or c.if-is_ok.seats 0 c.index-seats-0-5.result).ended; book = (slice_index_or c.if-is_ok.seats 0 c.index-seats-0-5.result).book })) 0 d).session) =
    elim c.if-is_ok.branch [
      | then-is_ok w ↦
          let e = w.run_together.ensures in
          reached_joined g.C.SessionCalls.holds g.C.SessionCalls.base g.C.SessionCalls.seen g.C.SessionCalls.grounds g.C.SessionCalls.missed c.args.most c.clock-clock.result c.args.seats.now c.run_first.new.seat c.if-is_ok.seats c.index-seats-0-2.result c.index-seats-0.result c.index-seats-0-5.result clock c.if-is_ok.auto.seats begun
          (λ k d l.
          subst
          (λ z. Sat g.C.SessionCalls.holds g.C.SessionCalls.base g.C.SessionCalls.seen g.C.SessionCalls.grounds g.C.SessionCalls.missed c.args.most (max (g.C.SessionCalls.seen (slice_index_or (slice_set c.args.seats.now 0 c.run_first.new.seat) k d).session).clock c.clock-clock.result) (slice_index_or (slice_set c.args.seats.now 0 c.run_first.new.seat) k d) (slice_index_or z k d))
          (sym w.seats-is)
          (record { session = e.session k d l; base_is = e.base k d l; misses = e.misses k d l; transactions = e.transactions k d l; follows = e.follows k d l; stopped = e.grounds k d l; keeps = e.keeps k d l }))
      | else-is_ok w ↦
          reached_behind g.C.SessionCalls.holds g.C.SessionCalls.base g.C.SessionCalls.seen g.C.SessionCalls.grounds g.C.SessionCalls.missed c.args.most c.clock-clock.result c.args.seats.now c.run_first.new.seat w.run_together-else-is_ok.new.seats c.if-is_ok.seats c.index-seats-0-2.result c.index-seats-0.result c.index-seats-0-5.result clock w.seats-is begun
    ] in
    let alone : BeganAlone g.C.SessionCalls.seen c.args.most c.args.seats.now (slice_set c.if-is_ok.seats 0 (record { session = (slice_index_or c.if-is_ok.seats 0 c.index-seats-0-5.result).session; transactions = (slice_index_or c.args.seats.now 0 c.index-seats-0.result).transactions; ended = (slice_index_or c.if-is_ok.seats 0 c.index-seats-0-5.result).ended; book = (slice_index_or c.if-is_ok.seats 0 c.index-seats-0-5.result).book })) =
    elim c.if-is_ok.branch [
      | then-is_ok w ↦
          alone_joined g.C.SessionCalls.holds g.C.SessionCalls.base g.C.SessionCalls.seen g.C.SessionCalls.grounds g.C.SessionCalls.missed c.args.most c.clock-clock.result c.args.seats.now c.run_first.new.seat c.if-is_ok.seats
          c.index-seats-0-2.result c.index-seats-0.result c.index-seats-0-5.result c.if-is_ok.auto.seats begun clock
          (λ k d l. subst (λ z. BeginsPast c.clock-clock.result (g.C.SessionCalls.seen (slice_index_or (slice_set c.args.seats.now 0 c.run_first.new.seat) k d).session) (g.C.SessionCalls.seen (slice_index_or z k d).session)) (sym w.seats-is) (w.run_together.ensures.past k d l))
      | else-is_ok w ↦
          alone_behind g.C.SessionCalls.holds g.C.SessionCalls.base g.C.SessionCalls.seen g.C.SessionCalls.grounds g.C.SessionCalls.missed c.args.most c.clock-clock.result c.args.seats.now c.run_first.new.seat w.run_together-else-is_ok.new.seats
          c.if-is_ok.seats c.index-seats-0-2.result c.index-seats-0.result c.index-seats-0-5.result w.seats-is w.run_together-else-is_ok.auto.seats begun clock w.run_together-else-is_ok.ensures.past
    ] in
    let kept : (k : ℕ) (d : _) → k < length c.args.seats.now → IsSeatKept g.C.SessionCalls.seen (slice_index_or (slice_set c.if-is_ok.seats 0 (record { session = (slice_index_or c.if-is_ok.seats 0 c.index-seats-0-5.result).session; transactions = (slice_index_or c.args.seats.now 0 c.index-seats-0.result).transactions; ended = (slice_index_or c.if-is_ok.seats 0 c.index-seats-0-5.result).ended; book = (slice_index_or c.if-is_ok.seats 0 c.index-seats-0-5.result).book })) k d) =
    elim c.if-is_ok.branch [
      | then-is_ok w ↦
          kept_joined g.C.SessionCalls.seen c.args.seats.now c.run_first.new.seat c.if-is_ok.seats c.index-seats-0.result c.index-seats-0-5.result c.if-is_ok.auto.seats
          (λ k d l. subst (λ z. IsSeatKept g.C.SessionCalls.seen (slice_index_or z k d)) (sym w.seats-is) (w.run_together.ensures.kept k d l))
      | else-is_ok w ↦
          kept_behind g.C.SessionCalls.seen c.args.seats.now c.run_first.new.seat w.run_together-else-is_ok.new.seats c.if-is_ok.seats c.index-seats-0.result c.index-seats-0-5.result w.seats-is w.run_together-else-is_ok.auto.seats
          c.run_first.ensures.kept w.run_together-else-is_ok.ensures.kept
    ] in
    record {
      session = λ k d l. (all k d l).session;
      base = λ k d l. (all k d l).base_is;
      misses = λ k d l. (all k d l).misses;
      transactions = λ k d l. (all k d l).transactions;
      follows = record { clock = c.clock-clock.result; reached = reached; each = λ k d l. (all k d l).follows };
      grounds = λ k d l. (all k d l).stopped;
      alone = alone;
      kept = kept;
      keeps = λ k d l. (all k d l).keeps;
    }
