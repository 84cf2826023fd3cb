use Rattle.io_model.specs.Sides.{sides_told}
use Rattle.command_line.specs.declared.commands.Command.TheVariants.{Make, Run, Show}
use Rattle.clv_commands.specs.Runs.{PromisedBy}
use Rattle.command_examples.specs.Chains.{Follows}
use Rattle.command_examples.proofs.Joining.{opened_by_run, opened_by_show, follow, both}
use Rattle.command_examples.proofs.chains.make_run_twice_and_show.Goals as goal

pub returns-clause-joined : goal.returns-clause-joined
returns-clause-joined g c = λ splits tries is_make is_run is_show.
    let story = g.H.House.story in let counts = g.H.House.faults in let left = g.S.Source.left in let law = c.last_logs_are_found.ensures in let opens = c.left_logs_are_good.ensures in
    let h1 = c.run-made.new.house in let h2 = c.run-first.new.house in let h3 = c.run-second.new.house in let h4 = c.run-shown.new.house in
    let one = c.run-first.ensures.promised (Run tries) is_run in let two = c.run-second.ensures.promised (Run tries) is_run in let last = c.run-shown.ensures.promised Show is_show in
    record {
      fresh = sides_told (story h1);
      between = sides_told (story h2);
      behind = sides_told (story h3);
      makes = c.run-made.ensures.made (Make splits) is_make;
      one = both (PromisedBy (Run tries) (left c.run-made.new.source) (sides_told (story h1)) (sides_told (story h2)) (counts h1) (counts h2) c.run-first.result.status) (PromisedBy (Run tries) (left c.args.another.now) (sides_told (story h2)) (sides_told (story h3)) (counts h2) (counts h3) c.run-second.result.status)
          (Follows (sides_told (story h1)) (sides_told (story h2)) (sides_told (story h3))) c.run-first.result.history c.run-second.result.history
          (λ a b p q. follow law opens (sides_told (story h1)) (sides_told (story h2)) (sides_told (story h3)) a b (opened_by_run tries (left c.run-made.new.source) (sides_told (story h1)) (sides_told (story h2)) (counts h1) (counts h2) c.run-first.result.status a p) (opened_by_run tries (left c.args.another.now) (sides_told (story h2)) (sides_told (story h3)) (counts h2) (counts h3) c.run-second.result.status b q)) one two;
      two = both (PromisedBy (Run tries) (left c.args.another.now) (sides_told (story h2)) (sides_told (story h3)) (counts h2) (counts h3) c.run-second.result.status) (PromisedBy Show (left c.run-second.new.source) (sides_told (story h3)) (sides_told (story h4)) (counts h3) (counts h4) c.run-shown.result.status)
          (Follows (sides_told (story h2)) (sides_told (story h3)) (sides_told (story h4))) c.run-second.result.history c.run-shown.result.history
          (λ a b p q. follow law opens (sides_told (story h2)) (sides_told (story h3)) (sides_told (story h4)) a b (opened_by_run tries (left c.args.another.now) (sides_told (story h2)) (sides_told (story h3)) (counts h2) (counts h3) c.run-second.result.status a p) (opened_by_show (left c.run-second.new.source) (sides_told (story h3)) (sides_told (story h4)) (counts h3) (counts h4) c.run-shown.result.status b q)) two last;
    }
