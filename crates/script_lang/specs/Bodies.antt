-- What a transaction of a script is.
use Rattle.std.specs.Prelude.{List}
pub use Rattle.script_lang.specs.declared.actions.Action.{Action}
pub use Rattle.script_lang.specs.declared.actions.Ending.{Ending}

-- a transaction: its lines in order, and how it is to end
pub record Body : Type 0 where
  pub actions : List Action
  pub ending : Ending
