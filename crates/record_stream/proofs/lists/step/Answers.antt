use Rattle.std.proofs.Common.{refl}
use Rattle.record_stream.proofs.lists.step.Goals as goal

pub name_at-requires-clause-least : goal.name_at-requires-clause-least
name_at-requires-clause-least c = c.requires.room.is_name c.args.more refl
