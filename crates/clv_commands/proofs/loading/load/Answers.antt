use Rattle.std.proofs.Common.{rules, ◌≡◌, ◌∙◌, None, refl, sym, ap, subst}
use Rattle.io_model.specs.Sides.{sides_told}
use Rattle.cluster_runs.specs.Ran.{RanAll}
use Rattle.script_lang.specs.Loads.{load as script_by}
use Rattle.script_runs.specs.declared.threads.Start.TheVariants.{FirstAlone}
use Rattle.command_line.specs.declared.status.Status.{Status}
use Rattle.workload_laws.specs.Sums.{accounts_sum}
use Rattle.clv_commands.specs.Disks.{Closes}
use Rattle.clv_commands.proofs.Endings.{ended_so, refusals_close}
use Rattle.clv_commands.proofs.Loaded.{loaded}
use Rattle.clv_commands.proofs.loading.load.Goals as goal

pub write_line-requires-clause-sum : goal.write_line-requires-clause-sum
write_line-requires-clause-sum g c = λ fine.
    let work = c.args.work in let script = script_by work.seed work.sessions work.accounts work.transfers in
    let story = g.H.House.story in let faults = g.H.House.faults in let h0 = c.args.house.now in let h1 = c.run_script-ran.new.house in
    let same : c.sessions.result.now ≡ script = search rules in
    rw (sym c.deref.ensures.value) at
    (ap (accounts_sum work.accounts) (c.in-Ok-ran.ensures.maps fine)
    ∙ c.loads_keep_their_sum.ensures work.seed work.sessions work.accounts work.transfers (sides_told (story h0)) (sides_told (story h1)) (faults h0) (faults h1) c.in-Ok-ran.ran.history c.requires.sessions.0 c.requires.accounts.0
    (subst (RanAll (sides_told (story h0)) (sides_told (story h1)) (faults h0) (faults h1) None FirstAlone script c.in-Ok-ran.ran.history) fine
    (subst (λ s. RanAll (sides_told (story h0)) (sides_told (story h1)) (faults h0) (faults h1) None FirstAlone s c.in-Ok-ran.ran.history c.in-Ok-ran.ran.status) same c.in-Ok-ran.ensures.ran)))

pub returns-in-Ok-ran-clause-promised : goal.returns-in-Ok-ran-clause-promised
returns-in-Ok-ran-clause-promised g c =
    let work = c.args.work in let script = script_by work.seed work.sessions work.accounts work.transfers in
    let story = g.H.House.story in let faults = g.H.House.faults in let h0 = c.args.house.now in let h1 = c.run_script-ran.new.house in
    let same : c.sessions.result.now ≡ script = search rules in
    loaded c.runs_replay.ensures c.loads_keep_their_sum.ensures work.seed work.sessions work.accounts work.transfers c.requires.sessions.0 c.requires.accounts.0 (sides_told (story h0)) (sides_told (story h1)) (faults h0) (faults h1) c.in-Ok-ran.ran.history c.in-Ok-ran.ran.status c.write_line.result
    (subst (λ s. RanAll (sides_told (story h0)) (sides_told (story h1)) (faults h0) (faults h1) None FirstAlone s c.in-Ok-ran.ran.history c.in-Ok-ran.ran.status) same c.in-Ok-ran.ensures.ran) c.write_line.ensures.ends

pub returns-in-Ok-ran-clause-disks : goal.returns-in-Ok-ran-clause-disks
returns-in-Ok-ran-clause-disks g c =
    let story = g.H.House.story in let faults = g.H.House.faults in let h0 = c.args.house.now in let h1 = c.run_script-ran.new.house in
    (ended_so (sides_told (story h0)) (sides_told (story h1)) (faults h0) (faults h1) _ _ _ c.in-Ok-ran.ran.history None 0 0 c.in-Ok-ran.ran.status c.write_line.result c.in-Ok-ran.ensures.ran c.write_line.ensures.ends refl).disks

pub returns-clause-closed : goal.returns-clause-closed
returns-clause-closed g c = λ none.
    let story = g.H.House.story in let h0 = c.args.house.now in let h1 = c.run_script-ran.new.house in
    subst (λ (s : Status). Closes s (sides_told (story h0)) (sides_told (story h1))) (sym c.into.ensures) (refusals_close c.in-Err.error (sides_told (story h0)) (sides_told (story h1)) c.in-Err.ensures.left)

pub returns-in-Ok-ran-clause-sink : goal.returns-in-Ok-ran-clause-sink
returns-in-Ok-ran-clause-sink g c = c.write_line.ensures.cause c.in-Ok-ran.ran.history
