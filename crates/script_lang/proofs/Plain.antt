-- Lines that keep no savepoints do operations alone.
use Rattle.std.proofs.Common.{◌≡◌, refl, sym, ap₂, ◌∙◌, Bool, true, false, List, [], ◌∷◌, ◌++◌, map, length, drop}
use Rattle.std.specs.List.{list_all}
use Rattle.std.proofs.lemmas.List.{map-append}
use Rattle.clv_base.specs.declared.ops.Op.{Op}
use Rattle.clv_base.specs.declared.ops.Answer.{Answer}
use Rattle.clv_base.specs.Maps.{Act, Operates}
use Rattle.law_base.proofs.Bools.{and_first, and_second}
use Rattle.script_lang.specs.Bodies.{Action}
use Rattle.script_lang.specs.Grammar.{Do, Move, Save, Back}
use Rattle.script_lang.specs.Following.{Way, at_start, action_ops, line_acts, after_line, acts_from, all_acts}

-- the operations of lines
abbrev pub all_ops : List Action → List Answer → List Op
all_ops [] answers = []
all_ops (line ∷ lines) answers = action_ops line answers ++ all_ops lines (drop (length (action_ops line answers)) answers)

abbrev pub is_plain : Action → Bool
is_plain (Do op) = true
is_plain (Move from to amount) = true
is_plain Save = false
is_plain (Back i) = false

plain_line : (line : Action) (answers : List Answer) (w : Way) → is_plain line ≡ true → line_acts line answers w ≡ map Operates (action_ops line answers)
plain_line (Do op) answers w h = refl
plain_line (Move from to amount) answers w h = refl
plain_line Save answers w h = refl
plain_line (Back i) answers w h = absurd cc

plain_from : (w : Way) (lines : List Action) (answers : List Answer) → list_all is_plain lines ≡ true → acts_from w lines answers ≡ map Operates (all_ops lines answers)
plain_from w [] answers h = refl
plain_from w (line ∷ lines) answers h =
    let behind = drop (length (action_ops line answers)) answers in
    ap₂ (λ (as_ bs : List Act). as_ ++ bs) (plain_line line answers w (and_first (is_plain line) (list_all is_plain lines) h))
    (plain_from (after_line line answers w) lines behind (and_second (is_plain line) (list_all is_plain lines) h))
    ∙ sym (map-append Operates (action_ops line answers) (all_ops lines behind))

pub plain_acts : (lines : List Action) (answers : List Answer) → list_all is_plain lines ≡ true → all_acts lines answers ≡ map Operates (all_ops lines answers)
plain_acts lines answers h = plain_from at_start lines answers h
