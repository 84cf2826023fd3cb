use Rattle.std.proofs.Common.{◌∙◌, ap, List}
use Rattle.serde_json.specs.Data.{Data}
use Rattle.serde_json.specs.Written.{has_float}
use Rattle.live_lines.specs.Replies.{list}
use Rattle.live_lines.proofs.NoFloats.{in_reply}
use Rattle.live_lines.proofs.replies.add_reply.Goals as goal

pub add_line-requires : goal.add_line-requires
add_line-requires c = ap has_float c.listed.ensures ∙ ap (λ (ds : List Data). has_float (list ds)) c.in_ok-values.ensures ∙ in_reply c.args.session c.args.reply.now
