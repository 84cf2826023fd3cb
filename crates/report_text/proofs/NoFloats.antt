-- No line has a float in it.
use Rattle.std.proofs.Common.{◌≡◌, ℕ, false, ◌||◌, List, [], ◌∷◌, map, Some, None, refl, ap, ap₂}
use Rattle.serde_json.specs.View.{items_of}
use Rattle.serde_json.specs.Written.{has_float, items_have_float}
use Rattle.clv_base.specs.declared.values.Value.{Value as ValueType}
use Rattle.clv_base.specs.declared.values.Value.TheVariants.{Num, Bytes}
use Rattle.clv_base.specs.declared.names.TxId.{TxId}
use Rattle.clv_base.specs.declared.ops.Op.{Op}
use Rattle.clv_base.specs.declared.ops.Op.TheVariants.{Get, Put, Del, Scan, Add}
use Rattle.clv_base.specs.declared.ops.Answer.{Answer}
use Rattle.clv_base.specs.declared.ops.Answer.TheVariants.{Value, Pairs, Added}
use Rattle.session_books.specs.Done.{Done, Did, WentBack}
use Rattle.report_text.specs.Lines.{value_data, pair, answer, operation, act, acts, transaction}

in_value : (v : ValueType) → has_float (value_data v) ≡ false
in_value (Num n) = refl
in_value (Bytes bytes) = refl

in_pairs : (ps : List (ℕ × ValueType)) → items_have_float (items_of (map pair ps)) ≡ false
in_pairs [] = refl
in_pairs (p ∷ ps) = ap₂ (λ b c. (b || false) || c) (in_value p.1) (in_pairs ps)

in_answer : (a : Answer) → has_float (answer a) ≡ false
in_answer (Value None) = refl
in_answer (Value (Some v)) = in_value v
in_answer (Pairs ps) = in_pairs ps
in_answer (Added found) = refl

in_operation : (op : Op) (a : Answer) → has_float (operation op (answer a)) ≡ false
in_operation (Get k) a = ap (λ b. b || false) (in_answer a)
in_operation (Put k v) a = ap₂ (λ b c. b || (c || false)) (in_value v) (in_answer a)
in_operation (Del k) a = ap (λ b. b || false) (in_answer a)
in_operation (Scan lo hi) a = ap (λ b. b || false) (in_answer a)
in_operation (Add k by) a = ap (λ b. b || false) (in_answer a)

in_act : (d : Done) → has_float (act d) ≡ false
in_act (Did op a) = in_operation op a
in_act (WentBack upto) = refl

in_acts : (ds : List Done) → items_have_float (items_of (acts ds)) ≡ false
in_acts [] = refl
in_acts (d ∷ ds) = ap₂ (λ b c. b || c) (in_act d) (in_acts ds)

pub in_transaction : (tx : TxId) (ds : List Done) → has_float (transaction tx ds) ≡ false
in_transaction tx ds = ap (λ b. b || false) (in_acts ds)
