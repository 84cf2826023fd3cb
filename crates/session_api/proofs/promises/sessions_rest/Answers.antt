use Rattle.session_api.proofs.New.{sessions_rest}
use Rattle.session_api.proofs.promises.sessions_rest.Goals as goal

pub returns : goal.returns
returns g c = sessions_rest _ _ _
