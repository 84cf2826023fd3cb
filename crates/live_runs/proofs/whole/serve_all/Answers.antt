use Rattle.std.proofs.Common.{arith, ◌≡◌, ◌∙◌, ◌+◌, List, sym, subst, Ok, Err}
use Rattle.std.specs.Prelude.{IfOk}
use Rattle.clv_base.specs.declared.logs.LogRecord.{LogRecord}
use Rattle.clv_base.specs.declared.events.Entry.{Entry}
use Rattle.io_model.specs.Sides.{sides_out, sides_told}
use Rattle.cluster_closing.specs.Closing.{lists}
use Rattle.cluster_turns.specs.Walkers.{founds_of}
use Rattle.command_line.specs.Running.{End, IsOk}
use Rattle.history_replay.specs.Entries.{Kept}
use Rattle.cluster_runs.specs.Ends.{IsClosedRun}
use Rattle.cluster_runs.proofs.Laws.{all_are_in}
use Rattle.live_runs.specs.Lived.{ServedAll}
use Rattle.live_runs.proofs.Leaving.{served_all}
use Rattle.live_runs.proofs.whole.serve_all.Goals as goal

pub close_run-closed-requires-clause-out : goal.close_run-closed-requires-clause-out
close_run-closed-requires-clause-out g c = λ n low. c.in-Ok.ensures.out.first n (let count = c.in-Ok.ensures.shards.count in let ok = c.in-Ok.opened.shards.locks.ok in omega arith)

-- what holds where an end is well holds where it is fine
well : {P : Type 0} (end : End) → IfOk end (λ u. P) → IsOk end → P
well (Ok u) h ok = h
well (Err cause) h ok = absurd ok

-- equal journals and logs found are kept as one
one_kept : (js ks : List (List Entry)) (fs gs : List (List LogRecord)) → js ≡ ks → fs ≡ gs → ◌≡◌ {A = Kept} (record { journals = js; found = fs }) (record { journals = ks; found = gs })
one_kept js ks fs gs same found = cc

pub returns-clause-served : goal.returns-clause-served
returns-clause-served g c =
    let sh = c.in-Ok.opened.shards in let W = c.serve_over-end.new.walkers in let r = c.close_run-closed.result in let lived = c.serve_over-end.ensures.lived in
    let story = g.H.House.story in let faults = g.H.House.faults in let out = g.H.House.is_out in let h0 = c.args.house.now in let h1 = c.close_run-closed.new.house in
    let left = g.I.Source.left in let taken = g.K.Sink.taken in
    let many = c.serve_over-end.ensures.len in let made = c.in-Ok.ensures.walkers.0 in let ok = W.ok in
    let kept : Kept = record { journals = lists r.journals.items; found = founds_of sh } in
    let ended : IsClosedRun _ _ sh W.items r.ends.value.items kept r.down (faults h0) (faults h1) (sides_out (out h0)) (sides_out (out h1)) (sides_told (story h0)) (sides_told (story h1)) = record {
      passes = c.args.sessions + 1;
      counts_open = faults c.open_all.new.house;
      out_open = sides_out (out c.open_all.new.house);
      open_now = sides_told (story c.open_all.new.house);
      begun = c.in-Ok.ensures.shards;
      went_out = c.in-Ok.ensures.out;
      closed = c.close_run-closed.ensures.closed;
    } in
    subst (λ k. ServedAll (sides_told (story h0)) (sides_told (story h1)) (faults h0) (faults h1) c.args.sessions (left c.args.source.now) (left c.serve_over-end.new.source) (taken c.args.sink.now) (taken c.serve_over-end.new.sink) c.serve_over-end.result.read c.serve_over-end.result.written k c.running_status.result)
    (one_kept (lists r.journals.items) c.new.result.journals (founds_of sh) c.new.result.found (sym c.new.ensures.journals) (sym (c.new.ensures.found ∙ c.in-Ok.ensures.founds)))
    (served_all _ _ sh W.items r.ends.value.items kept r.down (faults h0) (faults h1) (sides_out (out h0)) (sides_out (out h1)) (sides_told (story h0)) (sides_told (story h1)) c.args.sessions ended (omega arith) (λ k d l. c.serve_over-end.ensures.rest k d (omega arith))
    c.replies_are_in_history.ensures (left c.args.source.now) (left c.serve_over-end.new.source) (taken c.args.sink.now) (taken c.serve_over-end.new.sink) c.serve_over-end.result.read c.serve_over-end.result.written c.serve_over-end.result.end c.running_status.result
    lived.0 lived.1 lived.2 (well c.serve_over-end.result.end c.serve_over-end.ensures.quiet) c.serve_over-end.ensures.worn c.running_status.ensures.is)

pub returns-clause-back : goal.returns-clause-back
returns-clause-back g c =
    let sh = c.in-Ok.opened.shards in let W = c.serve_over-end.new.walkers in let r = c.close_run-closed.result in
    let story = g.H.House.story in let faults = g.H.House.faults in let out = g.H.House.is_out in let h0 = c.args.house.now in let h1 = c.close_run-closed.new.house in
    let kept : Kept = record { journals = lists r.journals.items; found = founds_of sh } in
    let ended : IsClosedRun _ _ sh W.items r.ends.value.items kept r.down (faults h0) (faults h1) (sides_out (out h0)) (sides_out (out h1)) (sides_told (story h0)) (sides_told (story h1)) = record {
      passes = c.args.sessions + 1;
      counts_open = faults c.open_all.new.house;
      out_open = sides_out (out c.open_all.new.house);
      open_now = sides_told (story c.open_all.new.house);
      begun = c.in-Ok.ensures.shards;
      went_out = c.in-Ok.ensures.out;
      closed = c.close_run-closed.ensures.closed;
    } in
    all_are_in {D = _} _ sh W.items r.ends.value.items kept r.down (faults h0) (faults h1) (sides_out (out h0)) (sides_out (out h1)) (sides_told (story h0)) (sides_told (story h1)) ended c.requires.inside
