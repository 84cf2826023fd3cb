-- What a transaction did, by the entries of a history.
use Rattle.std.specs.Prelude.{List, [], ◌∷◌, Some, None}
use Rattle.clv_base.specs.declared.names.TxId.{TxId}
use Rattle.clv_base.specs.Maps.{Operates, GoesBack}
use Rattle.clv_base.specs.Journals.{History}
use Rattle.clv_base.specs.History.{DoneAct, act_of}
use Rattle.law_base.specs.Items.{Deed, Did, WentBack}

-- its operations with their answers, and its goings back, each as often as it has entries
abbrev pub told_in : TxId → History → List DoneAct
told_in t [] = []
told_in t (e ∷ es) = elim (act_of t (e.1).event (e.1).outcome) [ Some p ↦ p ∷ told_in t es | None ↦ told_in t es ]

-- what the entry of a deed tells
abbrev pub told_by : Deed → DoneAct
told_by (Did x) = (x.number, Operates x.op, Some x.answer)
told_by (WentBack tx number upto) = (number, GoesBack upto, None)
