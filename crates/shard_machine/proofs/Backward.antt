-- A going back, by how many writes the journal tells it to take back.
use Rattle.std.proofs.Common.{◌≡◌, refl, ◌∙◌, ap, sym, ℕ, Bool, true, false, ◌==◌, List, Option, Some, None}
use Rattle.clv_base.specs.declared.names.TxId.{TxId}
use Rattle.clv_base.specs.declared.events.Event.TheVariants.{RollTo}
use Rattle.clv_base.specs.declared.events.Entry.{Entry}
use Rattle.clv_base.specs.Backs.{standing_numbers, count_after}
use Rattle.clv_base.specs.declared.state.Stage.{Stage}
use Rattle.clv_base.specs.declared.state.Stage.TheVariants.{Active, Closed, Gone}
use Rattle.clv_base.specs.State.{Shard}
use Rattle.clv_base.specs.Undo.{stage_of}
use Rattle.clv_base.specs.Events.{roll_by_stage, happen_up}
use Rattle.machine_laws.specs.Frame.{stamped_as, reply_as, roll_in}
use Rattle.machine_laws.proofs.Laws.{rolls_alike}
use Rattle.shard_core.specs.Rolling.{goes_back}
use Rattle.shard_machine.specs.Answers.{goes_on}

-- as the core goes back
same_roll : (s : Shard) (tx : TxId) (seen n : ℕ) (fits : Bool) → roll_in s tx seen n fits ≡ goes_back s tx seen n fits
same_roll s tx seen n false = refl
same_roll s tx seen n true = refl

-- what it comes to with the machine's journal
pub rolled_as : (l : ℕ) (j : List Entry) (s : Shard) (tx : TxId) (nth seen upto n : ℕ) → n ≡ count_after upto (standing_numbers tx j)
    → happen_up (stamped_as true l j s) (RollTo tx nth seen upto) ≡ reply_as l j (goes_back s tx seen n (seen == s.local.epoch))
rolled_as l j s tx nth seen upto n is =
    rolls_alike l j s tx nth seen upto ∙ ap (λ k. reply_as l j (roll_in s tx seen k (seen == s.local.epoch))) (sym is) ∙ ap (reply_as l j) (same_roll s tx seen n (seen == s.local.epoch))

-- it comes to an entry
pub rolls_go_on : (s : Shard) (tx : TxId) (seen n : ℕ) (fits : Bool) → goes_on (goes_back s tx seen n fits) ≡ true
rolls_go_on s tx seen n false = refl
rolls_go_on s tx seen n true = at (stage_of s.local tx)
  where
    at : (st : Option Stage) → goes_on (roll_by_stage s tx n st) ≡ true
    at None = refl
    at (Some Active) = refl
    at (Some Closed) = refl
    at (Some (Gone None)) = refl
    at (Some (Gone (Some doom))) = refl
