use Rattle.std.proofs.Common.{◌∙◌, sym, ap, is_some}
use Rattle.script_lang.specs.Savepoints.{upto_of}
use Rattle.session_api.proofs.ScriptSaving.{over_these}
use Rattle.session_api.proofs.calls.ScriptSessionSessionCalls.has_savepoint.Goals as goal

pub returns : goal.returns
returns g c over is =
    c.is_some.ensures ∙ ap (λ o. is_some o) c.upto.ensures ∙ ap (λ z. is_some (upto_of c.args.number z.standing)) (sym (over_these c.args.self.now.session.progress c.args.self.now.saves over is))
