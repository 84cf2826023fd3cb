use Rattle.command_line.proofs.Found.{found_some, found_none, given_by, none_given}
use Rattle.clap.specs.Words.{found_of}
use Rattle.command_line.proofs.meanings.number_at.Goals as goal

pub returns-in-Some : goal.returns-in-Some
returns-in-Some c =
    given_by _ c.in-Some.word.now c.as_bytes.result.now c.number_of.result (found_some (found_of c.args.given.now) c.args.name.now c.get_str.result c.in-Some.word c.get_str.ensures c.in-Some.is)
    c.as_bytes.ensures.value c.number_of.ensures

pub returns-in-None : goal.returns-in-None
returns-in-None c = none_given _ (found_none (found_of c.args.given.now) c.args.name.now c.get_str.result c.get_str.ensures c.in-None.is)
