use Rattle.std.proofs.Common.{◌∙◌, sym, subst}
use Rattle.io_model.specs.Sides.{sides_told}
use Rattle.command_line.specs.declared.status.Status.{Status}
use Rattle.clv_commands.specs.Disks.{Closes}
use Rattle.clv_commands.proofs.Endings.{refusals_close}
use Rattle.clv_commands.proofs.showing.show.Goals as goal

pub write_pairs-requires-clause-held : goal.write_pairs-requires-clause-held
write_pairs-requires-clause-held g c = λ fine.
    let ran = c.in-Ok.ensures.ran in
    rw (sym c.deref.ensures.value) at (c.in-Ok.ensures.maps fine ∙ c.nothing_is_replayed.ensures ran.splits _ _ _ _ _ ran.went c.in-Ok.ran.history ran.promised)

pub returns-in-Err-clause-closed : goal.returns-in-Err-clause-closed
returns-in-Err-clause-closed g c = λ none.
    let story = g.H.House.story in let h0 = c.args.house.now in let h1 = c.run_script-ran.new.house in
    subst (λ (s : Status). Closes s (sides_told (story h0)) (sides_told (story h1))) (sym c.into.ensures) (refusals_close c.in-Err.error (sides_told (story h0)) (sides_told (story h1)) c.in-Err.ensures.left)
