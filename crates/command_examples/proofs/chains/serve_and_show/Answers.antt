use Rattle.io_model.specs.Sides.{sides_told}
use Rattle.command_line.specs.declared.commands.Command.TheVariants.{Serve, Show}
use Rattle.clv_commands.specs.Runs.{PromisedBy}
use Rattle.command_examples.specs.Chains.{Follows}
use Rattle.command_examples.proofs.Joining.{opened_by_serve, opened_by_show, follow, both}
use Rattle.command_examples.proofs.chains.serve_and_show.Goals as goal

pub returns-clause-joined : goal.returns-clause-joined
returns-clause-joined g c = λ sessions is_serve is_show.
    let story = g.H.House.story in let counts = g.H.House.faults in let left = g.S.Source.left in let law = c.last_logs_are_found.ensures in let opens = c.left_logs_are_good.ensures in
    let h0 = c.args.house.now in let h1 = c.run-served.new.house in let h2 = c.run-shown.new.house in (
      sides_told (story h1),
      both (PromisedBy (Serve sessions) (left c.args.source.now) (sides_told (story h0)) (sides_told (story h1)) (counts h0) (counts h1) c.run-served.result.status) (PromisedBy Show (left c.run-served.new.source) (sides_told (story h1)) (sides_told (story h2)) (counts h1) (counts h2) c.run-shown.result.status)
          (Follows (sides_told (story h0)) (sides_told (story h1)) (sides_told (story h2))) c.run-served.result.history c.run-shown.result.history
          (λ a b p q. follow law opens (sides_told (story h0)) (sides_told (story h1)) (sides_told (story h2)) a b (opened_by_serve sessions (left c.args.source.now) (sides_told (story h0)) (sides_told (story h1)) (counts h0) (counts h1) c.run-served.result.status a p) (opened_by_show (left c.run-served.new.source) (sides_told (story h1)) (sides_told (story h2)) (counts h1) (counts h2) c.run-shown.result.status b q))
          (c.run-served.ensures.promised (Serve sessions) is_serve) (c.run-shown.ensures.promised Show is_show),
    )
