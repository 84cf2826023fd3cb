use Rattle.std.proofs.Common.{arith, ◌≡◌, ◌∙◌, ◌+◌, List, length, map, sym, subst, Ok, Err}
use Rattle.clv_base.specs.declared.logs.LogRecord.{LogRecord}
use Rattle.clv_base.specs.declared.events.Entry.{Entry}
use Rattle.std.specs.Prelude.{IfOk}
use Rattle.command_line.specs.Running.{End, IsOk}
use Rattle.cluster_runs.specs.Ends.{IsClosedRun}
use Rattle.cluster_runs.proofs.Ending.{all_are_in}
use Rattle.cluster_turns.specs.Walkers.{founds_of}
use Rattle.cluster_closing.specs.Closing.{lists}
use Rattle.history_replay.specs.Replayed.{replayed}
use Rattle.history_replay.specs.Entries.{Kept}
use Rattle.cluster_runs.specs.Ran.{RanAll}
use Rattle.ordered_store.specs.InTurn.{live_in_turn}
use Rattle.cluster_runs.proofs.Promised.{ran_all}
use Rattle.cluster_runs.proofs.Stored.{stores_hold}
use Rattle.history_replay.specs.Entries.{entries_of}
use Rattle.law_base.proofs.Lists.{elem_at as some_elem}
use Rattle.io_model.specs.Sides.{sides_out, sides_told}
use Rattle.cluster_runs.specs.Books.{HasBooks}
use Rattle.cluster_runs.proofs.Books.{have_books}
use Rattle.cluster_runs.proofs.whole.run_script.Goals as goal

pub close_run-closed-requires-clause-out : goal.close_run-closed-requires-clause-out
close_run-closed-requires-clause-out g c = λ n low. c.in-Ok-open_all.ensures.out.first n (let count = c.in-Ok-open_all.ensures.shards.count in let ok = c.in-Ok-open_all.opened.shards.locks.ok in omega arith)

-- what holds where an end is well holds where it is fine
well : {P : Type 0} (end : End) → IfOk end (λ u. P) → IsOk end → P
well (Ok u) h ok = h
well (Err cause) h ok = absurd ok

pub returns-clause-ran : goal.returns-clause-ran
returns-clause-ran g c =
    let sh = c.in-Ok-open_all.opened.shards in let W = c.run_over-end.new.walkers in let r = c.close_run-closed.result in let went = c.run_over-end.ensures.went in
    let story = g.H.House.story in let faults = g.H.House.faults in let out = g.H.House.is_out in let h0 = c.args.house.now in let h1 = c.close_run-closed.new.house in
    let many = c.run_over-end.ensures.len in let made = c.in-Ok-open_all.ensures.walkers.0 in let ok = W.ok in
    let ended : IsClosedRun _ _ sh W.items r.ends.value.items (record { journals = lists r.journals.items; found = founds_of sh }) r.down (faults h0) (faults h1) (sides_out (out h0)) (sides_out (out h1)) (sides_told (story h0)) (sides_told (story h1)) = record {
      passes = length c.args.plan.sessions.now + 1;
      counts_open = faults c.open_all.new.house;
      out_open = sides_out (out c.open_all.new.house);
      open_now = sides_told (story c.open_all.new.house);
      begun = c.in-Ok-open_all.ensures.shards;
      went_out = c.in-Ok-open_all.ensures.out;
      closed = c.close_run-closed.ensures.closed;
    } in
    subst (λ f. RanAll (sides_told (story h0)) (sides_told (story h1)) (faults h0) (faults h1) c.args.plan.most c.args.plan.start c.args.plan.sessions.now (record { journals = c.new.result.journals; found = f }) c.running_status.result) (sym (c.new.ensures.found ∙ c.in-Ok-open_all.ensures.founds))
    (subst (λ j. RanAll (sides_told (story h0)) (sides_told (story h1)) (faults h0) (faults h1) c.args.plan.most c.args.plan.start c.args.plan.sessions.now (record { journals = j; found = founds_of sh }) c.running_status.result) (sym c.new.ensures.journals)
    (ran_all c.sessions_have_ended.ensures _ _ sh W.items r.ends.value.items (record { journals = lists r.journals.items; found = founds_of sh }) r.down (faults h0) (faults h1) (sides_out (out h0)) (sides_out (out h1)) (sides_told (story h0)) (sides_told (story h1)) c.args.plan.most c.args.plan.start c.args.plan.sessions.now went.0 c.run_over-end.result c.running_status.result ended
    (omega arith) went.1 went.2 (λ k d l. c.run_over-end.ensures.rest k d (omega arith)) (well c.run_over-end.result c.run_over-end.ensures.quiet) c.run_over-end.ensures.alone c.run_over-end.ensures.counted c.run_over-end.ensures.worn c.running_status.ensures.is))

pub returns-clause-back : goal.returns-clause-back
returns-clause-back g c =
    let sh = c.in-Ok-open_all.opened.shards in let W = c.run_over-end.new.walkers in let r = c.close_run-closed.result in let went = c.run_over-end.ensures.went in
    let story = g.H.House.story in let faults = g.H.House.faults in let out = g.H.House.is_out in let h0 = c.args.house.now in let h1 = c.close_run-closed.new.house in
    let many = c.run_over-end.ensures.len in let made = c.in-Ok-open_all.ensures.walkers.0 in let ok = W.ok in
    let ended : IsClosedRun _ _ sh W.items r.ends.value.items (record { journals = lists r.journals.items; found = founds_of sh }) r.down (faults h0) (faults h1) (sides_out (out h0)) (sides_out (out h1)) (sides_told (story h0)) (sides_told (story h1)) = record {
      passes = length c.args.plan.sessions.now + 1;
      counts_open = faults c.open_all.new.house;
      out_open = sides_out (out c.open_all.new.house);
      open_now = sides_told (story c.open_all.new.house);
      begun = c.in-Ok-open_all.ensures.shards;
      went_out = c.in-Ok-open_all.ensures.out;
      closed = c.close_run-closed.ensures.closed;
    } in
    all_are_in {D = _} _ sh W.items r.ends.value.items (record { journals = lists r.journals.items; found = founds_of sh }) r.down (faults h0) (faults h1) (sides_out (out h0)) (sides_out (out h1)) (sides_told (story h0)) (sides_told (story h1)) ended c.requires.inside

-- equal journals and logs found are kept as one
one_kept : (js ks : List (List Entry)) (fs gs : List (List LogRecord)) → js ≡ ks → fs ≡ gs → ◌≡◌ {A = Kept} (record { journals = js; found = fs }) (record { journals = ks; found = gs })
one_kept js ks fs gs same found = cc

pub returns-clause-maps : goal.returns-clause-maps
returns-clause-maps g c = λ fine. (
    let sh = c.in-Ok-open_all.opened.shards in let W = c.run_over-end.new.walkers in let r = c.close_run-closed.result in let went = c.run_over-end.ensures.went in
    let story = g.H.House.story in let faults = g.H.House.faults in let out = g.H.House.is_out in let h0 = c.args.house.now in let h1 = c.close_run-closed.new.house in
    let many = c.run_over-end.ensures.len in let made = c.in-Ok-open_all.ensures.walkers.0 in let ok = W.ok in
    let kept : Kept = record { journals = lists r.journals.items; found = founds_of sh } in
    let ended : IsClosedRun _ _ sh W.items r.ends.value.items kept r.down (faults h0) (faults h1) (sides_out (out h0)) (sides_out (out h1)) (sides_told (story h0)) (sides_told (story h1)) = record {
      passes = length c.args.plan.sessions.now + 1;
      counts_open = faults c.open_all.new.house;
      out_open = sides_out (out c.open_all.new.house);
      open_now = sides_told (story c.open_all.new.house);
      begun = c.in-Ok-open_all.ensures.shards;
      went_out = c.in-Ok-open_all.ensures.out;
      closed = c.close_run-closed.ensures.closed;
    } in
    let kept_is = one_kept (lists r.journals.items) c.new.result.journals (founds_of sh) c.new.result.found (sym c.new.ensures.journals) (sym (c.new.ensures.found ∙ c.in-Ok-open_all.ensures.founds)) in
    subst (λ k. live_in_turn (map g.S.Store.records r.maps.items) ≡ replayed k) kept_is
    (stores_hold c.sessions_have_ended.ensures _ _ sh W.items r.ends.value.items kept r.down (faults h0) (faults h1) (sides_out (out h0)) (sides_out (out h1)) (sides_told (story h0)) (sides_told (story h1)) c.args.plan.most c.args.plan.start c.args.plan.sessions.now went.0 c.run_over-end.result c.running_status.result g.S.Store.records r.maps.items ended
    (omega arith) went.1 went.2 (λ k d l. c.run_over-end.ensures.rest k d (omega arith)) (well c.run_over-end.result c.run_over-end.ensures.quiet) c.run_over-end.ensures.alone c.run_over-end.ensures.counted c.run_over-end.ensures.worn c.running_status.ensures.is
    (let maps = r.maps.ok in let l = c.close_run-closed.ensures.len.1 in omega arith) c.close_run-closed.ensures.maps fine))

pub returns-clause-books : goal.returns-clause-books
returns-clause-books g c =
    let sh = c.in-Ok-open_all.opened.shards in let W = c.run_over-end.new.walkers in let r = c.close_run-closed.result in let B = c.run_over-end.new.books.items in
    let story = g.H.House.story in let faults = g.H.House.faults in let out = g.H.House.is_out in let h0 = c.args.house.now in let h1 = c.close_run-closed.new.house in
    let many = c.run_over-end.ensures.len in let made = c.in-Ok-open_all.ensures.walkers.0 in let ok = W.ok in
    let kept : Kept = record { journals = lists r.journals.items; found = founds_of sh } in
    let ended : IsClosedRun _ _ sh W.items r.ends.value.items kept r.down (faults h0) (faults h1) (sides_out (out h0)) (sides_out (out h1)) (sides_told (story h0)) (sides_told (story h1)) = record {
      passes = length c.args.plan.sessions.now + 1;
      counts_open = faults c.open_all.new.house;
      out_open = sides_out (out c.open_all.new.house);
      open_now = sides_told (story c.open_all.new.house);
      begun = c.in-Ok-open_all.ensures.shards;
      went_out = c.in-Ok-open_all.ensures.out;
      closed = c.close_run-closed.ensures.closed;
    } in
    subst (λ j. HasBooks (entries_of j) B) (sym c.new.ensures.journals)
    (have_books {D = _} _ sh W.items r.ends.value.items kept r.down (faults h0) (faults h1) (sides_out (out h0)) (sides_out (out h1)) (sides_told (story h0)) (sides_told (story h1)) B ended
    (λ k d l. (c.run_over-end.ensures.rest k d (omega arith)).number_is) (some_elem W.items 0 (omega arith)) c.run_over-end.ensures.books)
