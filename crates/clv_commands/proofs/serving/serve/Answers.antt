use Rattle.std.proofs.Common.{◌≡◌, ◌∙◌, ap, sym, subst}
use Rattle.io_model.specs.Sides.{sides_told}
use Rattle.command_line.specs.Running.{with_text}
use Rattle.command_line.specs.declared.status.Status.{Status}
use Rattle.clv_commands.specs.Disks.{Closes}
use Rattle.clv_commands.specs.Statuses.{with_input}
use Rattle.clv_commands.proofs.Endings.{refusals_close}
use Rattle.clv_commands.proofs.LiveEndings.{served_so}
use Rattle.clv_commands.proofs.serving.serve.Goals as goal

pub returns-in-Ok-clause-kind : goal.returns-in-Ok-clause-kind
returns-in-Ok-clause-kind g c =
    let r = c.in-Ok.ran in let story = g.H.House.story in let counts = g.H.House.faults in let h0 = c.args.house.now in let h1 = c.serve_all-ran.new.house in
    let left = g.S.Source.left in let taken = g.K.Sink.taken in let s0 = c.args.source.now in let s1 = c.serve_all-ran.new.source in let k0 = c.args.sink.now in let k1 = c.serve_all-ran.new.sink in
    let is : c.after_text.result ≡ with_text (with_input r.status r.read) r.written = c.after_text.ensures ∙ ap (λ (s : Status). with_text s r.written) c.after_input.ensures in
    (served_so (sides_told (story h0)) (sides_told (story h1)) (counts h0) (counts h1) c.args.sessions (left s0) (left s1) (taken k0) (taken k1) r.read r.written r.history r.status c.after_text.result (g.S.Source.faults s0) (g.S.Source.faults s1) (g.K.Sink.faults k0) (g.K.Sink.faults k1)
    c.in-Ok.ensures.served c.in-Ok.ensures.source c.in-Ok.ensures.sink is).kind

pub returns-in-Ok-clause-logs : goal.returns-in-Ok-clause-logs
returns-in-Ok-clause-logs g c =
    let r = c.in-Ok.ran in let story = g.H.House.story in let counts = g.H.House.faults in let h0 = c.args.house.now in let h1 = c.serve_all-ran.new.house in
    let left = g.S.Source.left in let taken = g.K.Sink.taken in let s0 = c.args.source.now in let s1 = c.serve_all-ran.new.source in let k0 = c.args.sink.now in let k1 = c.serve_all-ran.new.sink in
    let is : c.after_text.result ≡ with_text (with_input r.status r.read) r.written = c.after_text.ensures ∙ ap (λ (s : Status). with_text s r.written) c.after_input.ensures in
    (served_so (sides_told (story h0)) (sides_told (story h1)) (counts h0) (counts h1) c.args.sessions (left s0) (left s1) (taken k0) (taken k1) r.read r.written r.history r.status c.after_text.result (g.S.Source.faults s0) (g.S.Source.faults s1) (g.K.Sink.faults k0) (g.K.Sink.faults k1)
    c.in-Ok.ensures.served c.in-Ok.ensures.source c.in-Ok.ensures.sink is).logs

pub returns-in-Ok-clause-source : goal.returns-in-Ok-clause-source
returns-in-Ok-clause-source g c =
    let r = c.in-Ok.ran in let story = g.H.House.story in let counts = g.H.House.faults in let h0 = c.args.house.now in let h1 = c.serve_all-ran.new.house in
    let left = g.S.Source.left in let taken = g.K.Sink.taken in let s0 = c.args.source.now in let s1 = c.serve_all-ran.new.source in let k0 = c.args.sink.now in let k1 = c.serve_all-ran.new.sink in
    let is : c.after_text.result ≡ with_text (with_input r.status r.read) r.written = c.after_text.ensures ∙ ap (λ (s : Status). with_text s r.written) c.after_input.ensures in
    (served_so (sides_told (story h0)) (sides_told (story h1)) (counts h0) (counts h1) c.args.sessions (left s0) (left s1) (taken k0) (taken k1) r.read r.written r.history r.status c.after_text.result (g.S.Source.faults s0) (g.S.Source.faults s1) (g.K.Sink.faults k0) (g.K.Sink.faults k1)
    c.in-Ok.ensures.served c.in-Ok.ensures.source c.in-Ok.ensures.sink is).of_source

pub returns-in-Ok-clause-sink : goal.returns-in-Ok-clause-sink
returns-in-Ok-clause-sink g c =
    let r = c.in-Ok.ran in let story = g.H.House.story in let counts = g.H.House.faults in let h0 = c.args.house.now in let h1 = c.serve_all-ran.new.house in
    let left = g.S.Source.left in let taken = g.K.Sink.taken in let s0 = c.args.source.now in let s1 = c.serve_all-ran.new.source in let k0 = c.args.sink.now in let k1 = c.serve_all-ran.new.sink in
    let is : c.after_text.result ≡ with_text (with_input r.status r.read) r.written = c.after_text.ensures ∙ ap (λ (s : Status). with_text s r.written) c.after_input.ensures in
    (served_so (sides_told (story h0)) (sides_told (story h1)) (counts h0) (counts h1) c.args.sessions (left s0) (left s1) (taken k0) (taken k1) r.read r.written r.history r.status c.after_text.result (g.S.Source.faults s0) (g.S.Source.faults s1) (g.K.Sink.faults k0) (g.K.Sink.faults k1)
    c.in-Ok.ensures.served c.in-Ok.ensures.source c.in-Ok.ensures.sink is).of_sink

pub returns-in-Ok-clause-disks : goal.returns-in-Ok-clause-disks
returns-in-Ok-clause-disks g c =
    let r = c.in-Ok.ran in let story = g.H.House.story in let counts = g.H.House.faults in let h0 = c.args.house.now in let h1 = c.serve_all-ran.new.house in
    let left = g.S.Source.left in let taken = g.K.Sink.taken in let s0 = c.args.source.now in let s1 = c.serve_all-ran.new.source in let k0 = c.args.sink.now in let k1 = c.serve_all-ran.new.sink in
    let is : c.after_text.result ≡ with_text (with_input r.status r.read) r.written = c.after_text.ensures ∙ ap (λ (s : Status). with_text s r.written) c.after_input.ensures in
    (served_so (sides_told (story h0)) (sides_told (story h1)) (counts h0) (counts h1) c.args.sessions (left s0) (left s1) (taken k0) (taken k1) r.read r.written r.history r.status c.after_text.result (g.S.Source.faults s0) (g.S.Source.faults s1) (g.K.Sink.faults k0) (g.K.Sink.faults k1)
    c.in-Ok.ensures.served c.in-Ok.ensures.source c.in-Ok.ensures.sink is).disks

pub returns-in-Ok-clause-promised : goal.returns-in-Ok-clause-promised
returns-in-Ok-clause-promised g c = let s = c.in-Ok.ensures.served in (s.splits, s.lives, s.held, s.promised)

pub returns-in-Ok-clause-served : goal.returns-in-Ok-clause-served
returns-in-Ok-clause-served g c =
    let r = c.in-Ok.ran in
    let is : c.after_text.result ≡ with_text (with_input r.status r.read) r.written = c.after_text.ensures ∙ ap (λ (s : Status). with_text s r.written) c.after_input.ensures in
    (r.status, r.read, r.written, c.in-Ok.ensures.served, is)

pub returns-in-Err-clause-closed : goal.returns-in-Err-clause-closed
returns-in-Err-clause-closed g c = λ none.
    let story = g.H.House.story in let h0 = c.args.house.now in let h1 = c.serve_all-ran.new.house in
    subst (λ (s : Status). Closes s (sides_told (story h0)) (sides_told (story h1))) (sym c.into.ensures) (refusals_close c.in-Err.error (sides_told (story h0)) (sides_told (story h1)) c.in-Err.ensures.left)
