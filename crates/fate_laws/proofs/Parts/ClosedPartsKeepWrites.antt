-- While a part is closed its writes go on standing; and no event takes a write of a prepared transaction back but behind its ABORT.
use Rattle.std.proofs.Common.{◌≡◌, refl, sym, ◌∙◌, ℕ, true, false, Bool, List, [], ◌∷◌, ◌++◌, Option, Some, None, append-nil, append_assoc}
use Rattle.clv_base.specs.declared.names.TxId.{TxId}
use Rattle.clv_base.specs.declared.names.Birth.{Birth}
use Rattle.clv_base.specs.declared.ops.Op.{Op}
use Rattle.clv_base.specs.declared.ops.Answer.{Answer}
use Rattle.clv_base.specs.declared.causes.AbortCause.{AbortCause}
use Rattle.clv_base.specs.declared.causes.Vote.TheVariants.{Yes, Read, No}
use Rattle.clv_base.specs.declared.changes.Change.{Change}
use Rattle.clv_base.specs.declared.changes.Change.TheVariants.{Sets, Adds}
use Rattle.clv_base.specs.declared.logs.LogRecord.{LogRecord}
use Rattle.clv_base.specs.declared.logs.LogRecord.TheVariants.{Update, Commit, End, Add}
use Rattle.clv_base.specs.declared.state.Ruling.TheVariants.{Commit as CommitVerdict, Acknowledge, Abort as AbortVerdict, End as EndVerdict}
use Rattle.clv_base.specs.declared.state.Stage.TheVariants.{Active, Closed}
use Rattle.clv_base.specs.declared.events.Event.{Event}
use Rattle.clv_base.specs.declared.events.Outcome.{Outcome}
use Rattle.clv_base.specs.Backs.{count_after, standing_numbers}
use Rattle.clv_base.specs.Coordinator.{others}
use Rattle.clv_base.specs.Events.{is_alone}
use Rattle.clv_base.specs.Facts.{undecided_of}
use Rattle.clv_base.specs.Logs.{standing, has_standing, prepared_in}
use Rattle.clv_base.specs.Needs.{writes_of, value_at, key_of}
use Rattle.clv_base.specs.OneShard.{OpDies, OpAnswers, written, locked, rolled_back_if, closing}
use Rattle.clv_base.specs.State.{Shard, Local, is_present}
use Rattle.clv_base.specs.Undo.{stage_of, aborts_of, clrs_of, doomed_here, roll_back}
use Rattle.law_base.proofs.Stages.{stage_marked}
use Rattle.history_cases.proofs.Stepping.{Due, commits, votes, rules, Step, op_dies, op_answers, rolls_back, request_closes, drops, prepare_closes, decision_comes}
use Rattle.history_laws.proofs.Entries.WhatOperationsDo.{OpIs, dies, rolls, performs, reply_is}
use Rattle.shard_laws.proofs.Order.WhoseWritesStand.{has_still}
use Rattle.fate_laws.proofs.Logs.PreparedWritesStand.{AllFirm, firm_undo, firm_back, rolled_stands, back_stands, written_stands, closing_stands}

-- ---- what stands of a closed part

dies_stand : (s : Shard) (tx u : TxId) (birth : Birth) (seen : Option ℕ) (op : Op) (c : AbortCause) (l : Local) → OpIs s.local u birth seen op (OpDies c l) → stage_of l tx ≡ Some Closed → has_standing s.local.log tx ≡ true → has_standing l.log tx ≡ true
dies_stand s tx u birth seen op c _ dies n h = h
dies_stand s tx u birth seen op c _ rolls n h = rolled_stands u s.local tx n ∙ h

answers_stand : (s : Shard) (tx u : TxId) (birth : Birth) (seen : Option ℕ) (op : Op) (a : Answer) (l : Local) → OpIs s.local u birth seen op (OpAnswers a l) → has_standing s.local.log tx ≡ true → has_standing l.log tx ≡ true
answers_stand s tx u birth seen op _ _ (performs f e) h = written_stands u (writes_of op (value_at (key_of op) s.local.records)) (locked u birth op s.local) tx h

dropped_stand : (s : Shard) (tx u : TxId) (b : Bool) → stage_of (rolled_back_if b u s.local) tx ≡ Some Closed → has_standing s.local.log tx ≡ true → has_standing (rolled_back_if b u s.local).log tx ≡ true
dropped_stand s tx u true n h = rolled_stands u s.local tx n ∙ h
dropped_stand s tx u false n h = h

pub step_stands : (s t : Shard) {e : Event} {o : Outcome} (tx : TxId) → Step s e o t → stage_of t.local tx ≡ Some Closed → has_standing s.local.log tx ≡ true → has_standing t.local.log tx ≡ true
step_stands s _ tx (op_dies u birth nth seen op cause l g) n h = dies_stand s tx u birth seen op cause l (reply_is s.shard s.local u birth seen op _ g) n h
step_stands s _ tx (op_answers u birth nth seen op answer l g) n h = answers_stand s tx u birth seen op answer l (reply_is s.shard s.local u birth seen op _ g) h
step_stands s _ tx (rolls_back u nth seen upto f g) n h = back_stands u (count_after upto (standing_numbers u s.journal)) s.local tx g n h
step_stands s _ tx (request_closes u ts f0 g) n h = closing_stands s.local.log (has_standing s.local.log u) (is_alone (others s.shard ts)) u s.shard (undecided_of s.local u) tx h
step_stands s _ tx (drops u stage g) n h =
    dropped_stand s tx u (is_present (stage_of s.local u)) (sym (stage_marked u tx (rolled_back_if (is_present (stage_of s.local u)) u s.local).parts) ∙ n) h
step_stands s _ tx (prepare_closes u home seen stamp g) n h = closing_stands s.local.log (has_standing s.local.log u) false u home (undecided_of s.local u) tx h
step_stands s _ tx (decision_comes u home true stamp g) n h = has_still s.local.log (Commit u [] ∷ []) tx refl h
step_stands s _ tx (decision_comes u home false stamp g) n h = rolled_stands u s.local tx n ∙ h
step_stands s _ tx _ n h = h

pub due_stands : (s t : Shard) (tx : TxId) → Due s (Some t) → stage_of t.local tx ≡ Some Closed → has_standing s.local.log tx ≡ true → has_standing t.local.log tx ≡ true
due_stands s _ tx (commits u a b) n h = h
due_stands s _ tx (votes u v Yes a b) n h = h
due_stands s _ tx (votes u v Read a b) n h = h
due_stands s _ tx (votes u v (No why) a b) n h = h
due_stands s _ tx (rules u q (CommitVerdict parts) a b) n h = has_still s.local.log (Commit u parts ∷ []) tx refl h
due_stands s _ tx (rules u q Acknowledge a b) n h = h
due_stands s _ tx (rules u q (AbortVerdict cause to) a b) n h = rolled_stands u s.local tx n ∙ h
due_stands s _ tx (rules u q EndVerdict a b) n h = has_still s.local.log (End u ∷ []) tx refl h

-- ---- what the log gets

abbrev pub GrowsFirmly : List LogRecord → List LogRecord → Type 0
GrowsFirmly log new = (more : List LogRecord) × (log ++ more ≡ new) × AllFirm log more

pub nothing : (log : List LogRecord) → GrowsFirmly log log
nothing log = ([], append-nil log, tt)

undone : (u : TxId) (l : Local) → GrowsFirmly l.log (roll_back u l).log
undone u l =
    let set = doomed_here l u in (aborts_of l.log set ++ clrs_of set (standing l.log), sym (append_assoc l.log (aborts_of l.log set) (clrs_of set (standing l.log))), firm_undo set l.log)

undone_if : (b : Bool) (u : TxId) (l : Local) → GrowsFirmly l.log (rolled_back_if b u l).log
undone_if true u l = undone u l
undone_if false u l = nothing l.log

wrote : (u : TxId) (w : Option (ℕ × Change)) (l : Local) → GrowsFirmly l.log (written u w l).log
wrote u None l = nothing l.log
wrote u (Some (key, Sets before after)) l = (Update u key before after ∷ [], refl, (tt, tt))
wrote u (Some (key, Adds by)) l = (Add u key by ∷ [], refl, (tt, tt))

closed : (log : List LogRecord) (b one : Bool) (u : TxId) (home : ℕ) (us : List TxId) → has_standing log u ≡ b → AllFirm log (closing b one u home us)
closed log false one u home us h = tt
closed log true true u home [] h = (tt, tt)
closed log true true u home (v ∷ vs) h = (h, tt)
closed log true false u home us h = (h, tt)

dies_firmly : (l : Local) (u : TxId) (birth : Birth) (seen : Option ℕ) (op : Op) (c : AbortCause) (m : Local) → OpIs l u birth seen op (OpDies c m) → GrowsFirmly l.log m.log
dies_firmly l u birth seen op c _ dies = nothing l.log
dies_firmly l u birth seen op c _ rolls = undone u l

answers_firmly : (l : Local) (u : TxId) (birth : Birth) (seen : Option ℕ) (op : Op) (a : Answer) (m : Local) → OpIs l u birth seen op (OpAnswers a m) → GrowsFirmly l.log m.log
answers_firmly l u birth seen op _ _ (performs f e) = wrote u (writes_of op (value_at (key_of op) l.records)) (locked u birth op l)

pub step_firmly : (s t : Shard) {e : Event} {o : Outcome} → Step s e o t → ((u : TxId) → stage_of s.local u ≡ Some Active → prepared_in s.local.log u ≡ false) → GrowsFirmly s.local.log t.local.log
step_firmly s _ (op_dies u birth nth seen op cause l g) k = dies_firmly s.local u birth seen op cause l (reply_is s.shard s.local u birth seen op _ g)
step_firmly s _ (op_answers u birth nth seen op answer l g) k = answers_firmly s.local u birth seen op answer l (reply_is s.shard s.local u birth seen op _ g)
step_firmly s _ (rolls_back u nth seen upto f g) k = (_, refl, firm_back u (count_after upto (standing_numbers u s.journal)) s.local.log (k u g))
step_firmly s _ (request_closes u ts f0 g) k = (_, refl, closed s.local.log (has_standing s.local.log u) (is_alone (others s.shard ts)) u s.shard (undecided_of s.local u) refl)
step_firmly s _ (drops u stage g) k = undone_if (is_present (stage_of s.local u)) u s.local
step_firmly s _ (prepare_closes u home seen stamp g) k = (_, refl, closed s.local.log (has_standing s.local.log u) false u home (undecided_of s.local u) refl)
step_firmly s _ (decision_comes u home true stamp g) k = (Commit u [] ∷ [], refl, (tt, tt))
step_firmly s _ (decision_comes u home false stamp g) k = undone u s.local
step_firmly s _ _ k = nothing s.local.log

pub due_firmly : (s t : Shard) → Due s (Some t) → GrowsFirmly s.local.log t.local.log
due_firmly s _ (commits u a b) = nothing s.local.log
due_firmly s _ (votes u v Yes a b) = nothing s.local.log
due_firmly s _ (votes u v Read a b) = nothing s.local.log
due_firmly s _ (votes u v (No why) a b) = nothing s.local.log
due_firmly s _ (rules u q (CommitVerdict parts) a b) = (Commit u parts ∷ [], refl, (tt, tt))
due_firmly s _ (rules u q Acknowledge a b) = nothing s.local.log
due_firmly s _ (rules u q (AbortVerdict cause to) a b) = undone u s.local
due_firmly s _ (rules u q EndVerdict a b) = (End u ∷ [], refl, (tt, tt))
