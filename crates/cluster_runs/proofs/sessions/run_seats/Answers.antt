use mir.Syntax.{named}
use denote.Ref.{NamedLft}
use denote.Param.{param}
use denote.Param.Send.{param_send}
use Rattle.std.proofs.Common.{arith, ◌≡◌, ◌∙◌, ◌<◌, ◌≤◌, ◌+◌, max, true, sym, subst, length, get_or}
use Rattle.std.specs.List.{AllByRecursion, list_all}
use Rattle.std.proofs.lemmas.Option.{slice_get_within}
use Rattle.cluster_turns.specs.Walkers.{kept}
use Rattle.cluster_turns.specs.Dates.{last_seen}
use Rattle.script_runs.specs.Sessions.{session_entries}
use Rattle.script_lang.specs.Laws.{is_narrow_body}
use Rattle.cluster_runs.specs.Sessions.{IsSeated, HasSat, base_from}
use Rattle.cluster_runs.specs.Alone.{BeginsWith}
use Rattle.cluster_runs.proofs.Alone.{sat_first, sat_past}
use Rattle.cluster_runs.proofs.Sending.{script_row_send}
use Rattle.session_api.specs.Standing.{seen_in}
use Rattle.session_books.specs.Books.{IsBook}
use Rattle.script_runs.specs.Books.{IsKept}
use Rattle.cluster_runs.proofs.Sitting.{sat, new_kept, same_base, narrow_at}
use Rattle.cluster_runs.proofs.sessions.run_seats.Goals as goal
use Rattle.law_base.proofs.Lists.{get_or_taken as written}

-- a session may be sent to a thread
pub run_all-requires-send-C : goal.run_all-requires-send-C
run_all-requires-send-C g c κs within =
    let l : NamedLft = record { mir = named 4; lft = κs.1.1.1.1.0 } in
    let b = c.type_bounds in
    let s = script_row_send l (param 0 g.row.M) (param 1 g.row.P) (param 2 g.row.R) (param 3 g.row.M-Store) (param 4 g.row.M-Gate) g.M.Machine g.M.Store.Store g.M.Gate.Gate b.send-M b.sync-P b.sync-R in
    record { owned = s.owned; leaving = (param_send 1 _ s).leaving }

pub run_all-requires-clause-narrow : goal.run_all-requires-clause-narrow
run_all-requires-clause-narrow g c κs within k d l =
    let low : k < length c.args.plan.sessions.now = (let a = c.as_mut_slice.ensures.len in let n = c.requires.count in omega arith) in
    subst (λ z. list_all is_narrow_body (get_or z k d).transactions.now ≡ true) (sym c.as_mut_slice.ensures.value) (narrow_at c.args.plan.sessions.now k _ low c.requires.narrow (c.requires.seated k d low).bodies)

pub run_all-requires-clause-kept : goal.run_all-requires-clause-kept
run_all-requires-clause-kept g c κs within k d l =
    let low : k < length c.args.plan.sessions.now = (let a = c.as_mut_slice.ensures.len in let n = c.requires.count in omega arith) in
    subst (λ z. IsKept (seen_in (get_or z k d).session.session.shards.now (get_or z k d).session.session.walker (get_or z k d).session.asked (get_or z k d).session.session.progress) (get_or z k d).book) (sym c.as_mut_slice.ensures.value)
    (new_kept c.args.shards.now _ c.args.clock _ _ _ _ c.args.plan.sessions.now k _ (c.requires.seated k d low) (c.requires.blank k d low))

pub returns-clause-books : goal.returns-clause-books
returns-clause-books g c =
    let E = c.run_all.ensures in let many = c.run_all.auto.seats in let a = c.as_mut_slice.ensures.len in let n = c.requires.count in
    λ k d l. (let low : k < length c.run_all.new.seats = omega arith in let was : k < length c.as_mut_slice.result.now = omega arith in
    subst (λ z. IsBook (session_entries (kept z.session.session.walker.passes.items)) z.book) (sym (written c.run_all.new.seats _ c.args.seats.now.len k d (omega arith) low)) (E.kept k d was).is_book)

pub returns-clause-keeps : goal.returns-clause-keeps
returns-clause-keeps g c =
    let E = c.run_all.ensures in let many = c.run_all.auto.seats in let a = c.as_mut_slice.ensures.len in let n = c.requires.count in
    λ k d l. (let low : k < length c.run_all.new.seats = omega arith in let was : k < length c.as_mut_slice.result.now = omega arith in
    subst (λ z. z.book.keeps ≡ c.args.plan.keeps_rows) (sym (written c.run_all.new.seats _ c.args.seats.now.len k d (omega arith) low))
    (E.keeps k d was ∙ subst (λ z. (get_or z k d).book.keeps ≡ c.args.plan.keeps_rows) (sym c.as_mut_slice.ensures.value) (c.requires.keeps k d l)))

pub returns-clause-sat : goal.returns-clause-sat
returns-clause-sat g c =
    let E = c.run_all.ensures in let many = c.run_all.auto.seats in let a = c.as_mut_slice.ensures.len in let n = c.requires.count in let value = c.as_mut_slice.ensures.value in let r = E.follows in let sh = c.args.shards.now in
    record {
      base = r.clock;
      reached = λ d some. (let low : 0 < length c.run_all.new.seats = omega arith in let was : 0 < length c.as_mut_slice.result.now = omega arith in
          let o = get_or c.as_mut_slice.result.now 0 d in
          let seat = subst (λ z. IsSeated sh c.args.clock c.args.plan.sessions.now 0 (get_or z 0 d).session.session.shards.now (get_or z 0 d).session.session.walker (get_or z 0 d).session.session.progress (get_or z 0 d).session.session.saves.items (get_or z 0 d).session.saves (get_or z 0 d).transactions.now) (sym value) (c.requires.seated 0 d some) in
          let h = r.reached d was in let at = (seat.new).clock_is in let none = (seat.new).none_begun in
          subst (λ z. r.clock ≤ z.session.session.walker.serial + max c.args.clock (last_seen z.session.session.walker.passes.items)) (sym (written c.run_all.new.seats _ c.args.seats.now.len 0 d (omega arith) low)) (omega arith));
      each = λ k d l. (let low : k < length c.run_all.new.seats = omega arith in let was : k < length c.as_mut_slice.result.now = omega arith in
          let v = get_or c.run_all.new.seats k d in let o = get_or c.as_mut_slice.result.now k d in
          let seat = subst (λ z. IsSeated sh c.args.clock c.args.plan.sessions.now k (get_or z k d).session.session.shards.now (get_or z k d).session.session.walker (get_or z k d).session.session.progress (get_or z k d).session.session.saves.items (get_or z k d).session.saves (get_or z k d).transactions.now) (sym value) (c.requires.seated k d l) in
          subst (λ z. HasSat sh c.args.clock (base_from c.args.clock r.clock k) c.args.plan.most c.args.plan.sessions.now k z.session.session.walker z.ended) (sym (written c.run_all.new.seats _ c.args.seats.now.len k d (omega arith) low))
          (subst (λ b. HasSat sh c.args.clock b c.args.plan.most c.args.plan.sessions.now k v.session.session.walker v.ended) (same_base c.args.clock r.clock k _ (seat.new).clock_is)
          (sat sh o.session.session.shards.now v.session.session.shards.now c.args.clock _ o.session.session.walker v.session.session.walker o.session.asked v.session.asked o.session.session.progress v.session.session.progress o.transactions.now c.args.plan.most c.args.plan.sessions.now k v.ended seat
          (E.session k d was).holds (E.base k d was) (r.each k d was) (E.grounds k d was))));
    }

pub returns-clause-alone : goal.returns-clause-alone
returns-clause-alone g c =
    let E = c.run_all.ensures in let many = c.run_all.auto.seats in let a = c.as_mut_slice.ensures.len in let n = c.requires.count in let value = c.as_mut_slice.ensures.value in let sh = c.args.shards.now in
    λ is. (let r = E.alone is in record {
      clock = r.clock;
      first = λ bodies d at. (let some = slice_get_within c.args.plan.sessions.now 0 bodies at in let low : 0 < length c.run_all.new.seats = omega arith in
          let v = get_or c.run_all.new.seats 0 d in let o = get_or c.as_mut_slice.result.now 0 d in
          let seat = subst (λ z. IsSeated sh c.args.clock c.args.plan.sessions.now 0 (get_or z 0 d).session.session.shards.now (get_or z 0 d).session.session.walker (get_or z 0 d).session.session.progress (get_or z 0 d).session.session.saves.items (get_or z 0 d).session.saves (get_or z 0 d).transactions.now) (sym value) (c.requires.seated 0 d some) in
          subst (λ z. BeginsWith sh.splits sh.run c.args.plan.most bodies r.clock (session_entries (kept z.session.session.walker.passes.items))) (sym (written c.run_all.new.seats _ c.args.seats.now.len 0 d (omega arith) low))
          (sat_first sh c.args.plan.most c.args.plan.sessions.now c.args.clock r.clock o.session.session.shards.now v.session.session.shards.now o.session.session.walker v.session.session.walker o.session.asked v.session.asked o.session.session.progress v.session.session.progress o.transactions.now bodies seat at
          (r.first d (omega arith))));
      others = λ k d pos l. (let low : k < length c.run_all.new.seats = omega arith in
          let v = get_or c.run_all.new.seats k d in let o = get_or c.as_mut_slice.result.now k d in
          let seat = subst (λ z. IsSeated sh c.args.clock c.args.plan.sessions.now k (get_or z k d).session.session.shards.now (get_or z k d).session.session.walker (get_or z k d).session.session.progress (get_or z k d).session.session.saves.items (get_or z k d).session.saves (get_or z k d).transactions.now) (sym value) (c.requires.seated k d l) in
          subst (λ z. AllByRecursion (λ e. r.clock < (e.1).stamp) (session_entries (kept z.session.session.walker.passes.items))) (sym (written c.run_all.new.seats _ c.args.seats.now.len k d (omega arith) low))
          (sat_past sh c.args.plan.most c.args.plan.sessions.now c.args.clock r.clock k o.session.session.shards.now v.session.session.shards.now o.session.session.walker v.session.session.walker o.session.asked v.session.asked o.session.session.progress v.session.session.progress o.transactions.now seat
          (r.others k d pos (omega arith))));
    })
