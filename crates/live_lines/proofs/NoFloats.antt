-- No line has a float in it.
use Rattle.std.proofs.Common.{◌≡◌, ℕ, false, ◌||◌, List, [], ◌∷◌, map, Some, None, refl, ap, ap₂}
use Rattle.serde_json.specs.View.{items_of}
use Rattle.serde_json.specs.Written.{has_float, items_have_float}
use Rattle.clv_base.specs.declared.values.Value.{Value as ValueType}
use Rattle.clv_base.specs.declared.values.Value.TheVariants.{Num, Bytes}
use Rattle.clv_base.specs.declared.ops.Op.TheVariants.{Get, Put, Del, Scan, Add}
use Rattle.clv_base.specs.declared.ops.Answer.{Answer}
use Rattle.clv_base.specs.declared.ops.Answer.TheVariants.{Value, Pairs, Added}
use Rattle.clv_base.specs.declared.causes.AbortCause.TheVariants as cause
use Rattle.clv_base.specs.declared.causes.NoWhy.TheVariants.{Doomed, Restarted}
use Rattle.live_lines.specs.declared.calls.Reply.{Reply}
use Rattle.live_lines.specs.declared.calls.Reply.TheVariants.{Begun, Answered, Saved, WentBack, Committed, Empty, Aborted, Down, Unsettled, Worn, Memory, Refused}
use Rattle.live_lines.specs.Replies.{value_data, pair, answer, list, told}

in_value : (v : ValueType) → has_float (value_data v) ≡ false
in_value (Num n) = refl
in_value (Bytes bytes) = refl

in_pairs : (ps : List (ℕ × ValueType)) → items_have_float (items_of (map pair ps)) ≡ false
in_pairs [] = refl
in_pairs (p ∷ ps) = ap₂ (λ b c. (b || false) || c) (in_value p.1) (in_pairs ps)

in_answer : (a : Answer) → has_float (answer a) ≡ false
in_answer (Value None) = refl
in_answer (Value (Some v)) = in_value v
in_answer (Pairs ps) = in_pairs ps
in_answer (Added found) = refl

pub in_reply : (session : ℕ) (reply : Reply) → has_float (list (told session reply)) ≡ false
in_reply session (Begun n) = refl
in_reply session (Answered (Get k) a) = ap (λ b. b || false) (in_answer a)
in_reply session (Answered (Put k v) a) = ap₂ (λ b c. b || (c || false)) (in_value v) (in_answer a)
in_reply session (Answered (Del k) a) = ap (λ b. b || false) (in_answer a)
in_reply session (Answered (Scan lo hi) a) = ap (λ b. b || false) (in_answer a)
in_reply session (Answered (Add k by) a) = ap (λ b. b || false) (in_answer a)
in_reply session (Saved n) = refl
in_reply session (WentBack n) = refl
in_reply session (Committed n) = refl
in_reply session (Empty n) = refl
in_reply session (Aborted cause.Asked) = refl
in_reply session (Aborted (cause.Died older)) = refl
in_reply session (Aborted (cause.Predecessor tx)) = refl
in_reply session (Aborted (cause.NoVote shard (Doomed tx))) = refl
in_reply session (Aborted (cause.NoVote shard (Restarted seen now))) = refl
in_reply session (Aborted (cause.Restarted shard seen now)) = refl
in_reply session (Down n) = refl
in_reply session (Unsettled n) = refl
in_reply session (Worn n) = refl
in_reply session Memory = refl
in_reply session (Refused why) = refl
