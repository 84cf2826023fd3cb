-- What a report tells, and which transactions it can tell of.
use Rattle.std.specs.Prelude.{ℕ, suc, Bool, true, false, ◌&&◌, nat_le, List, [], ◌∷◌, Option, Some, None}
use Rattle.std.specs.List.{list_all}
use Rattle.clv_base.specs.declared.values.Value.{Value as ValueType}
use Rattle.clv_base.specs.declared.ops.Op.{Op}
use Rattle.clv_base.specs.declared.ops.Op.TheVariants.{Get, Put, Del, Scan, Add}
use Rattle.clv_base.specs.declared.ops.Answer.{Answer}
use Rattle.clv_base.specs.declared.ops.Answer.TheVariants.{Value, Pairs, Added}
use Rattle.clv_base.specs.Values.{fits_value}
use Rattle.clv_base.specs.Maps.{Act, Operates, GoesBack, Acts}
use Rattle.clv_base.specs.Backs.{are_numbered}
use Rattle.session_books.specs.Done.{Done, Did, WentBack}
use Rattle.script_lang.specs.Laws.{is_word, is_narrow_op}
pub use Rattle.report_reading.specs.declared.told.ReportedTx.{ReportedTx}
pub use Rattle.report_reading.specs.declared.told.Reported.{Reported}

-- ---- values

abbrev pub fits_optional : Option ValueType → Bool
fits_optional None = true
fits_optional (Some v) = fits_value v

abbrev pub fits_pair : ℕ × ValueType → Bool
fits_pair p = is_word p.0 && fits_value p.1

abbrev pub fits_answer : Answer → Bool
fits_answer (Value v) = fits_optional v
fits_answer (Pairs ps) = list_all fits_pair ps
fits_answer (Added found) = true

-- ---- one act

-- whether an answer is one of the operation's kind
abbrev pub is_answer_of : Op → Answer → Bool
is_answer_of (Get k) (Value v) = true
is_answer_of (Put k w) (Value v) = true
is_answer_of (Del k) (Value v) = true
is_answer_of (Scan lo hi) (Pairs ps) = true
is_answer_of (Add k by) (Added found) = true
is_answer_of _ _ = false

-- an operation that a session takes, with an answer of its kind; or a going back
abbrev pub can_be_done : Done → Bool
can_be_done (Did op a) = is_answer_of op a && (is_narrow_op op && fits_answer a)
can_be_done (WentBack upto) = is_word upto

-- ---- the acts of a transaction, which are numbered from 1

abbrev pub act_of : Done → Act
act_of (Did op a) = Operates op
act_of (WentBack upto) = GoesBack upto

abbrev pub numbered_from : ℕ → List Done → Acts
numbered_from n [] = []
numbered_from n (d ∷ ds) = (n, act_of d) ∷ numbered_from (suc n) ds

abbrev pub numbered : List Done → Acts
numbered ds = numbered_from 1 ds

-- ---- transactions

abbrev pub has_acts : List Done → Bool
has_acts [] = false
has_acts (d ∷ ds) = true

-- a session from 1 to 64, a serial from 1, and some acts, each of which goes back only to where the transaction still can
abbrev pub is_session : ℕ → Bool
is_session n = nat_le 1 n && nat_le n 64

abbrev pub is_serial : ℕ → Bool
is_serial n = nat_le 1 n && is_word n

abbrev pub can_be_acts : List Done → Bool
can_be_acts ds = has_acts ds && (list_all can_be_done ds && are_numbered 0 [] (numbered ds))

abbrev pub can_be_told : ReportedTx → Bool
can_be_told t = is_session t.session && (is_serial t.serial && can_be_acts t.acts)
