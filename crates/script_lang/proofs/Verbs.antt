-- The word that an action begins with, and what follows it.
use Rattle.std.proofs.Common.{◌≡◌, ◌≢◌, ◌⊎◌, inl, inr, ℕ, zero, suc, ◌≤◌, List, [], ◌∷◌, ◌++◌, codes, slice_index, subst, ap, refl, sym, ◌∙◌, arith, Option, Some, None, MatchOption, Result, Ok, Err, IfOk}
use Rattle.clv_base.specs.declared.values.Value.TheVariants.{Num, Bytes}
use Rattle.clv_base.specs.declared.ops.Op.TheVariants.{Get, Put, Del, Scan, Add}
use Rattle.script_lang.specs.Bodies.{Action}
use Rattle.script_lang.specs.Reading.{Lacks, verb_text}
use Rattle.script_lang.specs.Grammar.{Do, Move, Save, Back, IsNumber, AreTwo, AreThree, AreKeyAndText, name_of, HasOperands, HasWords, IsAction}
use Rattle.script_lang.specs.declared.lines.Verb.{Verb}
use Rattle.script_lang.specs.declared.lines.Verb.TheVariants as verbs
use Rattle.script_lang.proofs.Words.{parted_alike, not_parted, number_once, two_once, three_once, text_once}
use Rattle.law_base.proofs.Lists.{unequal}

-- words that differ at their second byte
unequal_behind : (a b : List ℕ) → slice_index a 1 ≢ slice_index b 1 → a ≡ b → ⊥
unequal_behind a b differ e = differ (ap (λ (w : List ℕ). slice_index w 1) e)

lacks_none : Lacks 32 []
lacks_none k h e = omega arith

lacks_more : (x : ℕ) (bs : List ℕ) → x ≢ 32 → Lacks 32 bs → Lacks 32 (x ∷ bs)
lacks_more x bs ne rest zero h = ne
lacks_more x bs ne rest (suc k) h = rest k (omega arith)

lacks_three : (x y z : ℕ) → x ≢ 32 → y ≢ 32 → z ≢ 32 → Lacks 32 (x ∷ y ∷ z ∷ [])
lacks_three x y z a b c = lacks_more x (y ∷ z ∷ []) a (lacks_more y (z ∷ []) b (lacks_more z [] c lacks_none))

lacks_four : (w x y z : ℕ) → w ≢ 32 → x ≢ 32 → y ≢ 32 → z ≢ 32 → Lacks 32 (w ∷ x ∷ y ∷ z ∷ [])
lacks_four w x y z n a b c = lacks_more w (x ∷ y ∷ z ∷ []) n (lacks_three x y z a b c)

lacks_five : (v w x y z : ℕ) → v ≢ 32 → w ≢ 32 → x ≢ 32 → y ≢ 32 → z ≢ 32 → Lacks 32 (v ∷ w ∷ x ∷ y ∷ z ∷ [])
lacks_five v w x y z m n a b c = lacks_more v (w ∷ x ∷ y ∷ z ∷ []) m (lacks_four w x y z n a b c)

pub names_lack_space : (action : Action) → Lacks 32 (name_of action)
names_lack_space (Do (Get k)) = lacks_three 103 101 116 (omega arith) (omega arith) (omega arith)
names_lack_space (Do (Put k (Num v))) = lacks_three 112 117 116 (omega arith) (omega arith) (omega arith)
names_lack_space (Do (Put k (Bytes v))) = lacks_five 98 121 116 101 115 (omega arith) (omega arith) (omega arith) (omega arith) (omega arith)
names_lack_space (Do (Del k)) = lacks_three 100 101 108 (omega arith) (omega arith) (omega arith)
names_lack_space (Do (Scan lo hi)) = lacks_four 115 99 97 110 (omega arith) (omega arith) (omega arith) (omega arith)
names_lack_space (Do (Add k by)) = lacks_three 97 100 100 (omega arith) (omega arith) (omega arith)
names_lack_space (Move from to amount) = lacks_four 109 111 118 101 (omega arith) (omega arith) (omega arith) (omega arith)
names_lack_space Save = lacks_four 115 97 118 101 (omega arith) (omega arith) (omega arith) (omega arith)
names_lack_space (Back i) = lacks_four 98 97 99 107 (omega arith) (omega arith) (omega arith) (omega arith)

-- all but a savepoint
verb_for : (action : Action) → (words : List ℕ) → HasOperands words action → (verb : Verb) × (name_of action ≡ verb_text verb)
verb_for (Do (Get k)) words h = (verbs.Get, refl)
verb_for (Do (Put k (Num v))) words h = (verbs.Put, refl)
verb_for (Do (Put k (Bytes v))) words h = (verbs.Bytes, refl)
verb_for (Do (Del k)) words h = (verbs.Del, refl)
verb_for (Do (Scan lo hi)) words h = (verbs.Scan, refl)
verb_for (Do (Add k by)) words h = (verbs.Add, refl)
verb_for (Move from to amount) words h = (verbs.Move, refl)
verb_for Save words h = absurd h
verb_for (Back i) words h = (verbs.Back, refl)

-- an action other than a savepoint is a name with words behind it, and with its operands it is an action
has_words : (bytes : List ℕ) (action : Action) → bytes ≢ codes "save" → IsAction bytes action → HasWords bytes action
has_words bytes (Do op) other is = is
has_words bytes (Move from to amount) other is = is
has_words bytes Save other is = absurd (other is)
has_words bytes (Back i) other is = is

is_action : (bytes : List ℕ) (action : Action) → HasWords bytes action → IsAction bytes action
is_action bytes (Do op) has = has
is_action bytes (Move from to amount) has = has
is_action bytes Save has = absurd has.2
is_action bytes (Back i) has = has

-- an action's words, where the line is parted
action_by_words : (bytes word words : List ℕ) → bytes ≡ word ++ 32 ∷ words → Lacks 32 word → (action : Action) → HasWords bytes action → (name_of action ≡ word) × HasOperands words action
action_by_words bytes word words is none action (others, same, operands) =
    let e = parted_alike word words (name_of action) others none (names_lack_space action) (sym is ∙ same) in
    (sym e.0, subst (λ (w : List ℕ). HasOperands w action) (sym e.1) operands)

-- where its word is no verb, or no action has these words behind it, it is none
pub no_verb : (bytes word words : List ℕ) → bytes ≡ word ++ 32 ∷ words → Lacks 32 word → bytes ≢ codes "save" → ((verb : Verb) → word ≢ verb_text verb) → (action : Action) → IsAction bytes action → ⊥
no_verb bytes word words is none other never action an =
    let parts = action_by_words bytes word words is none action (has_words bytes action other an) in
    let verb = verb_for action words parts.1 in
    never verb.0 (sym parts.0 ∙ verb.1)

no_operands : (bytes word words : List ℕ) (verb : Verb) → bytes ≡ word ++ 32 ∷ words → Lacks 32 word → bytes ≢ codes "save" → word ≡ verb_text verb → ((action : Action) → name_of action ≡ verb_text verb → HasOperands words action → ⊥)
    → (action : Action) → IsAction bytes action → ⊥
no_operands bytes word words verb is none other named never action an =
    let parts = action_by_words bytes word words is none action (has_words bytes action other an) in
    never action (parts.0 ∙ named) parts.1

pub found_action : {E : Type 0} (bytes word words : List ℕ) (verb : Verb) (r : Result (Option Action) E) → bytes ≡ word ++ 32 ∷ words → Lacks 32 word → bytes ≢ codes "save" → word ≡ verb_text verb
    → IfOk r (λ found. MatchOption found ((action : Action) → name_of action ≡ verb_text verb → HasOperands words action → ⊥) (λ action. (name_of action ≡ verb_text verb) × HasOperands words action))
    → IfOk r (λ found. MatchOption found ((action : Action) → IsAction bytes action → ⊥) (λ action. IsAction bytes action))
found_action bytes word words verb (Ok None) is none other named h = λ action an. no_operands bytes word words verb is none other named h action an
found_action bytes word words verb (Ok (Some action)) is none other named h = is_action bytes action (words, is ∙ ap (λ (w : List ℕ). w ++ 32 ∷ words) (named ∙ sym h.0), h.1)
found_action bytes word words verb (Err e) is none other named h = tt

pub not_parted_action : (bytes : List ℕ) → Lacks 32 bytes → bytes ≢ codes "save" → (action : Action) → IsAction bytes action → ⊥
not_parted_action bytes none other action an = let w = has_words bytes action other an in not_parted bytes (name_of action) w.0 none w.1

-- ---- by the verb

pub get_operands : (words : List ℕ) (action : Action) → name_of action ≡ codes "get" → HasOperands words action → (k : ℕ) × IsNumber words k
get_operands words (Do (Get k)) e h = (k, h)
get_operands words (Do (Put k (Num v))) e h = absurd (unequal (codes "put") (codes "get") (omega arith) e)
get_operands words (Do (Put k (Bytes v))) e h = absurd (unequal (codes "bytes") (codes "get") (omega arith) e)
get_operands words (Do (Del k)) e h = absurd (unequal (codes "del") (codes "get") (omega arith) e)
get_operands words (Do (Scan lo hi)) e h = absurd (unequal (codes "scan") (codes "get") (omega arith) e)
get_operands words (Do (Add k by)) e h = absurd (unequal (codes "add") (codes "get") (omega arith) e)
get_operands words (Move from to amount) e h = absurd (unequal (codes "move") (codes "get") (omega arith) e)
get_operands words Save e h = absurd h
get_operands words (Back i) e h = absurd (unequal (codes "back") (codes "get") (omega arith) e)

pub put_operands : (words : List ℕ) (action : Action) → name_of action ≡ codes "put" → HasOperands words action → (k v : ℕ) × AreTwo words k v
put_operands words (Do (Get k)) e h = absurd (unequal (codes "get") (codes "put") (omega arith) e)
put_operands words (Do (Put k (Num v))) e h = (k, v, h)
put_operands words (Do (Put k (Bytes v))) e h = absurd (unequal (codes "bytes") (codes "put") (omega arith) e)
put_operands words (Do (Del k)) e h = absurd (unequal (codes "del") (codes "put") (omega arith) e)
put_operands words (Do (Scan lo hi)) e h = absurd (unequal (codes "scan") (codes "put") (omega arith) e)
put_operands words (Do (Add k by)) e h = absurd (unequal (codes "add") (codes "put") (omega arith) e)
put_operands words (Move from to amount) e h = absurd (unequal (codes "move") (codes "put") (omega arith) e)
put_operands words Save e h = absurd h
put_operands words (Back i) e h = absurd (unequal (codes "back") (codes "put") (omega arith) e)

pub bytes_operands : (words : List ℕ) (action : Action) → name_of action ≡ codes "bytes" → HasOperands words action → (k : ℕ) × (text : List ℕ) × AreKeyAndText words k text
bytes_operands words (Do (Get k)) e h = absurd (unequal (codes "get") (codes "bytes") (omega arith) e)
bytes_operands words (Do (Put k (Num v))) e h = absurd (unequal (codes "put") (codes "bytes") (omega arith) e)
bytes_operands words (Do (Put k (Bytes v))) e h = (k, v, h)
bytes_operands words (Do (Del k)) e h = absurd (unequal (codes "del") (codes "bytes") (omega arith) e)
bytes_operands words (Do (Scan lo hi)) e h = absurd (unequal (codes "scan") (codes "bytes") (omega arith) e)
bytes_operands words (Do (Add k by)) e h = absurd (unequal (codes "add") (codes "bytes") (omega arith) e)
bytes_operands words (Move from to amount) e h = absurd (unequal (codes "move") (codes "bytes") (omega arith) e)
bytes_operands words Save e h = absurd h
bytes_operands words (Back i) e h = absurd (unequal_behind (codes "back") (codes "bytes") (omega arith) e)

pub del_operands : (words : List ℕ) (action : Action) → name_of action ≡ codes "del" → HasOperands words action → (k : ℕ) × IsNumber words k
del_operands words (Do (Get k)) e h = absurd (unequal (codes "get") (codes "del") (omega arith) e)
del_operands words (Do (Put k (Num v))) e h = absurd (unequal (codes "put") (codes "del") (omega arith) e)
del_operands words (Do (Put k (Bytes v))) e h = absurd (unequal (codes "bytes") (codes "del") (omega arith) e)
del_operands words (Do (Del k)) e h = (k, h)
del_operands words (Do (Scan lo hi)) e h = absurd (unequal (codes "scan") (codes "del") (omega arith) e)
del_operands words (Do (Add k by)) e h = absurd (unequal (codes "add") (codes "del") (omega arith) e)
del_operands words (Move from to amount) e h = absurd (unequal (codes "move") (codes "del") (omega arith) e)
del_operands words Save e h = absurd h
del_operands words (Back i) e h = absurd (unequal (codes "back") (codes "del") (omega arith) e)

pub scan_operands : (words : List ℕ) (action : Action) → name_of action ≡ codes "scan" → HasOperands words action → (lo hi : ℕ) × AreTwo words lo hi × (lo ≤ hi)
scan_operands words (Do (Get k)) e h = absurd (unequal (codes "get") (codes "scan") (omega arith) e)
scan_operands words (Do (Put k (Num v))) e h = absurd (unequal (codes "put") (codes "scan") (omega arith) e)
scan_operands words (Do (Put k (Bytes v))) e h = absurd (unequal (codes "bytes") (codes "scan") (omega arith) e)
scan_operands words (Do (Del k)) e h = absurd (unequal (codes "del") (codes "scan") (omega arith) e)
scan_operands words (Do (Scan lo hi)) e h = (lo, hi, h.0, h.1)
scan_operands words (Do (Add k by)) e h = absurd (unequal (codes "add") (codes "scan") (omega arith) e)
scan_operands words (Move from to amount) e h = absurd (unequal (codes "move") (codes "scan") (omega arith) e)
scan_operands words Save e h = absurd h
scan_operands words (Back i) e h = absurd (unequal (codes "back") (codes "scan") (omega arith) e)

pub add_operands : (words : List ℕ) (action : Action) → name_of action ≡ codes "add" → HasOperands words action → (k v : ℕ) × AreTwo words k v
add_operands words (Do (Get k)) e h = absurd (unequal (codes "get") (codes "add") (omega arith) e)
add_operands words (Do (Put k (Num v))) e h = absurd (unequal (codes "put") (codes "add") (omega arith) e)
add_operands words (Do (Put k (Bytes v))) e h = absurd (unequal (codes "bytes") (codes "add") (omega arith) e)
add_operands words (Do (Del k)) e h = absurd (unequal (codes "del") (codes "add") (omega arith) e)
add_operands words (Do (Scan lo hi)) e h = absurd (unequal (codes "scan") (codes "add") (omega arith) e)
add_operands words (Do (Add k by)) e h = (k, by, h)
add_operands words (Move from to amount) e h = absurd (unequal (codes "move") (codes "add") (omega arith) e)
add_operands words Save e h = absurd h
add_operands words (Back i) e h = absurd (unequal (codes "back") (codes "add") (omega arith) e)

pub back_operands : (words : List ℕ) (action : Action) → name_of action ≡ codes "back" → HasOperands words action → (i : ℕ) × IsNumber words i
back_operands words (Do (Get k)) e h = absurd (unequal (codes "get") (codes "back") (omega arith) e)
back_operands words (Do (Put k (Num v))) e h = absurd (unequal (codes "put") (codes "back") (omega arith) e)
back_operands words (Do (Put k (Bytes v))) e h = absurd (unequal_behind (codes "bytes") (codes "back") (omega arith) e)
back_operands words (Do (Del k)) e h = absurd (unequal (codes "del") (codes "back") (omega arith) e)
back_operands words (Do (Scan lo hi)) e h = absurd (unequal (codes "scan") (codes "back") (omega arith) e)
back_operands words (Do (Add k by)) e h = absurd (unequal (codes "add") (codes "back") (omega arith) e)
back_operands words (Move from to amount) e h = absurd (unequal (codes "move") (codes "back") (omega arith) e)
back_operands words Save e h = absurd h
back_operands words (Back i) e h = (i, h)

pub move_operands : (words : List ℕ) (action : Action) → name_of action ≡ codes "move" → HasOperands words action → (from to amount : ℕ) × AreThree words from to amount × (from ≢ to)
move_operands words (Do (Get k)) e h = absurd (unequal (codes "get") (codes "move") (omega arith) e)
move_operands words (Do (Put k (Num v))) e h = absurd (unequal (codes "put") (codes "move") (omega arith) e)
move_operands words (Do (Put k (Bytes v))) e h = absurd (unequal (codes "bytes") (codes "move") (omega arith) e)
move_operands words (Do (Del k)) e h = absurd (unequal (codes "del") (codes "move") (omega arith) e)
move_operands words (Do (Scan lo hi)) e h = absurd (unequal (codes "scan") (codes "move") (omega arith) e)
move_operands words (Do (Add k by)) e h = absurd (unequal (codes "add") (codes "move") (omega arith) e)
move_operands words (Move from to amount) e h = (from, to, amount, h.0, h.1)
move_operands words Save e h = absurd h
move_operands words (Back i) e h = absurd (unequal (codes "back") (codes "move") (omega arith) e)

-- ---- an action has one meaning

same_get : (words : List ℕ) (k : ℕ) (b : Action) → name_of b ≡ codes "get" → IsNumber words k → HasOperands words b → Do (Get k) ≡ b
same_get words k (Do (Get m)) e ha hb = ap (λ (x : ℕ). Do (Get x)) (number_once words k m ha hb)
same_get words k (Do (Put m (Num n))) e ha hb = absurd (unequal (codes "put") (codes "get") (omega arith) e)
same_get words k (Do (Put m (Bytes n))) e ha hb = absurd (unequal (codes "bytes") (codes "get") (omega arith) e)
same_get words k (Do (Del m)) e ha hb = absurd (unequal (codes "del") (codes "get") (omega arith) e)
same_get words k (Do (Scan m n)) e ha hb = absurd (unequal (codes "scan") (codes "get") (omega arith) e)
same_get words k (Do (Add m n)) e ha hb = absurd (unequal (codes "add") (codes "get") (omega arith) e)
same_get words k (Move l m n) e ha hb = absurd (unequal (codes "move") (codes "get") (omega arith) e)
same_get words k Save e ha hb = absurd hb
same_get words k (Back n) e ha hb = absurd (unequal (codes "back") (codes "get") (omega arith) e)

same_put : (words : List ℕ) (k v : ℕ) (b : Action) → name_of b ≡ codes "put" → AreTwo words k v → HasOperands words b → Do (Put k (Num v)) ≡ b
same_put words k v (Do (Get m)) e ha hb = absurd (unequal (codes "get") (codes "put") (omega arith) e)
same_put words k v (Do (Put m (Num n))) e ha hb = let same = two_once words k v m n ha hb in let one : k ≡ m = same.0 in let two : v ≡ n = same.1 in cc
same_put words k v (Do (Put m (Bytes n))) e ha hb = absurd (unequal (codes "bytes") (codes "put") (omega arith) e)
same_put words k v (Do (Del m)) e ha hb = absurd (unequal (codes "del") (codes "put") (omega arith) e)
same_put words k v (Do (Scan m n)) e ha hb = absurd (unequal (codes "scan") (codes "put") (omega arith) e)
same_put words k v (Do (Add m n)) e ha hb = absurd (unequal (codes "add") (codes "put") (omega arith) e)
same_put words k v (Move l m n) e ha hb = absurd (unequal (codes "move") (codes "put") (omega arith) e)
same_put words k v Save e ha hb = absurd hb
same_put words k v (Back n) e ha hb = absurd (unequal (codes "back") (codes "put") (omega arith) e)

same_bytes : (words : List ℕ) (k : ℕ) (v : List ℕ) (b : Action) → name_of b ≡ codes "bytes" → AreKeyAndText words k v → HasOperands words b → Do (Put k (Bytes v)) ≡ b
same_bytes words k v (Do (Get m)) e ha hb = absurd (unequal (codes "get") (codes "bytes") (omega arith) e)
same_bytes words k v (Do (Put m (Num n))) e ha hb = absurd (unequal (codes "put") (codes "bytes") (omega arith) e)
same_bytes words k v (Do (Put m (Bytes n))) e ha hb = let same = text_once words k v m n ha hb in let one : k ≡ m = same.0 in let two : v ≡ n = same.1 in cc
same_bytes words k v (Do (Del m)) e ha hb = absurd (unequal (codes "del") (codes "bytes") (omega arith) e)
same_bytes words k v (Do (Scan m n)) e ha hb = absurd (unequal (codes "scan") (codes "bytes") (omega arith) e)
same_bytes words k v (Do (Add m n)) e ha hb = absurd (unequal (codes "add") (codes "bytes") (omega arith) e)
same_bytes words k v (Move l m n) e ha hb = absurd (unequal (codes "move") (codes "bytes") (omega arith) e)
same_bytes words k v Save e ha hb = absurd hb
same_bytes words k v (Back n) e ha hb = absurd (unequal_behind (codes "back") (codes "bytes") (omega arith) e)

same_del : (words : List ℕ) (k : ℕ) (b : Action) → name_of b ≡ codes "del" → IsNumber words k → HasOperands words b → Do (Del k) ≡ b
same_del words k (Do (Get m)) e ha hb = absurd (unequal (codes "get") (codes "del") (omega arith) e)
same_del words k (Do (Put m (Num n))) e ha hb = absurd (unequal (codes "put") (codes "del") (omega arith) e)
same_del words k (Do (Put m (Bytes n))) e ha hb = absurd (unequal (codes "bytes") (codes "del") (omega arith) e)
same_del words k (Do (Del m)) e ha hb = ap (λ (x : ℕ). Do (Del x)) (number_once words k m ha hb)
same_del words k (Do (Scan m n)) e ha hb = absurd (unequal (codes "scan") (codes "del") (omega arith) e)
same_del words k (Do (Add m n)) e ha hb = absurd (unequal (codes "add") (codes "del") (omega arith) e)
same_del words k (Move l m n) e ha hb = absurd (unequal (codes "move") (codes "del") (omega arith) e)
same_del words k Save e ha hb = absurd hb
same_del words k (Back n) e ha hb = absurd (unequal (codes "back") (codes "del") (omega arith) e)

same_scan : (words : List ℕ) (k v : ℕ) (b : Action) → name_of b ≡ codes "scan" → AreTwo words k v × (k ≤ v) → HasOperands words b → Do (Scan k v) ≡ b
same_scan words k v (Do (Get m)) e ha hb = absurd (unequal (codes "get") (codes "scan") (omega arith) e)
same_scan words k v (Do (Put m (Num n))) e ha hb = absurd (unequal (codes "put") (codes "scan") (omega arith) e)
same_scan words k v (Do (Put m (Bytes n))) e ha hb = absurd (unequal (codes "bytes") (codes "scan") (omega arith) e)
same_scan words k v (Do (Del m)) e ha hb = absurd (unequal (codes "del") (codes "scan") (omega arith) e)
same_scan words k v (Do (Scan m n)) e ha hb = let same = two_once words k v m n ha.0 hb.0 in let one : k ≡ m = same.0 in let two : v ≡ n = same.1 in cc
same_scan words k v (Do (Add m n)) e ha hb = absurd (unequal (codes "add") (codes "scan") (omega arith) e)
same_scan words k v (Move l m n) e ha hb = absurd (unequal (codes "move") (codes "scan") (omega arith) e)
same_scan words k v Save e ha hb = absurd hb
same_scan words k v (Back n) e ha hb = absurd (unequal (codes "back") (codes "scan") (omega arith) e)

same_add : (words : List ℕ) (k v : ℕ) (b : Action) → name_of b ≡ codes "add" → AreTwo words k v → HasOperands words b → Do (Add k v) ≡ b
same_add words k v (Do (Get m)) e ha hb = absurd (unequal (codes "get") (codes "add") (omega arith) e)
same_add words k v (Do (Put m (Num n))) e ha hb = absurd (unequal (codes "put") (codes "add") (omega arith) e)
same_add words k v (Do (Put m (Bytes n))) e ha hb = absurd (unequal (codes "bytes") (codes "add") (omega arith) e)
same_add words k v (Do (Del m)) e ha hb = absurd (unequal (codes "del") (codes "add") (omega arith) e)
same_add words k v (Do (Scan m n)) e ha hb = absurd (unequal (codes "scan") (codes "add") (omega arith) e)
same_add words k v (Do (Add m n)) e ha hb = let same = two_once words k v m n ha hb in let one : k ≡ m = same.0 in let two : v ≡ n = same.1 in cc
same_add words k v (Move l m n) e ha hb = absurd (unequal (codes "move") (codes "add") (omega arith) e)
same_add words k v Save e ha hb = absurd hb
same_add words k v (Back n) e ha hb = absurd (unequal (codes "back") (codes "add") (omega arith) e)

same_back : (words : List ℕ) (i : ℕ) (b : Action) → name_of b ≡ codes "back" → IsNumber words i → HasOperands words b → Back i ≡ b
same_back words i (Do (Get m)) e ha hb = absurd (unequal (codes "get") (codes "back") (omega arith) e)
same_back words i (Do (Put m (Num n))) e ha hb = absurd (unequal (codes "put") (codes "back") (omega arith) e)
same_back words i (Do (Put m (Bytes n))) e ha hb = absurd (unequal_behind (codes "bytes") (codes "back") (omega arith) e)
same_back words i (Do (Del m)) e ha hb = absurd (unequal (codes "del") (codes "back") (omega arith) e)
same_back words i (Do (Scan m n)) e ha hb = absurd (unequal (codes "scan") (codes "back") (omega arith) e)
same_back words i (Do (Add m n)) e ha hb = absurd (unequal (codes "add") (codes "back") (omega arith) e)
same_back words i (Move l m n) e ha hb = absurd (unequal (codes "move") (codes "back") (omega arith) e)
same_back words i Save e ha hb = absurd hb
same_back words i (Back j) e ha hb = ap (λ (x : ℕ). Back x) (number_once words i j ha hb)

same_move : (words : List ℕ) (i j k : ℕ) (b : Action) → name_of b ≡ codes "move" → AreThree words i j k × (i ≢ j) → HasOperands words b → Move i j k ≡ b
same_move words i j k (Do (Get m)) e ha hb = absurd (unequal (codes "get") (codes "move") (omega arith) e)
same_move words i j k (Do (Put m (Num n))) e ha hb = absurd (unequal (codes "put") (codes "move") (omega arith) e)
same_move words i j k (Do (Put m (Bytes n))) e ha hb = absurd (unequal (codes "bytes") (codes "move") (omega arith) e)
same_move words i j k (Do (Del m)) e ha hb = absurd (unequal (codes "del") (codes "move") (omega arith) e)
same_move words i j k (Do (Scan m n)) e ha hb = absurd (unequal (codes "scan") (codes "move") (omega arith) e)
same_move words i j k (Do (Add m n)) e ha hb = absurd (unequal (codes "add") (codes "move") (omega arith) e)
same_move words i j k (Move l m n) e ha hb = let same = three_once words i j k l m n ha.0 hb.0 in let one : i ≡ l = same.0 in let two : j ≡ m = same.1 in let three : k ≡ n = same.2 in cc
same_move words i j k Save e ha hb = absurd hb
same_move words i j k (Back n) e ha hb = absurd (unequal (codes "back") (codes "move") (omega arith) e)

same_operands : (words : List ℕ) (a b : Action) → name_of a ≡ name_of b → HasOperands words a → HasOperands words b → a ≡ b
same_operands words (Do (Get k)) b e ha hb = same_get words k b (sym e) ha hb
same_operands words (Do (Put k (Num v))) b e ha hb = same_put words k v b (sym e) ha hb
same_operands words (Do (Put k (Bytes v))) b e ha hb = same_bytes words k v b (sym e) ha hb
same_operands words (Do (Del k)) b e ha hb = same_del words k b (sym e) ha hb
same_operands words (Do (Scan lo hi)) b e ha hb = same_scan words lo hi b (sym e) ha hb
same_operands words (Do (Add k by)) b e ha hb = same_add words k by b (sym e) ha hb
same_operands words (Move from to amount) b e ha hb = same_move words from to amount b (sym e) ha hb
same_operands words Save b e ha hb = absurd ha
same_operands words (Back i) b e ha hb = same_back words i b (sym e) ha hb

save_or_words : (bytes : List ℕ) (action : Action) → IsAction bytes action → ((action ≡ Save) × (bytes ≡ codes "save")) ⊎ HasWords bytes action
save_or_words bytes (Do op) is = inr is
save_or_words bytes (Move from to amount) is = inr is
save_or_words bytes Save is = inl (refl, is)
save_or_words bytes (Back i) is = inr is

not_save : (bytes : List ℕ) (action : Action) → bytes ≡ codes "save" → HasWords bytes action → ⊥
not_save bytes action is has = not_parted bytes (name_of action) has.0 (subst (Lacks 32) (sym is) (names_lack_space Save)) has.1

pub one_action : (bytes : List ℕ) (a b : Action) → IsAction bytes a → IsAction bytes b → a ≡ b
one_action bytes a b isa isb = at (save_or_words bytes a isa) (save_or_words bytes b isb)
  where
    at : ((a ≡ Save) × (bytes ≡ codes "save")) ⊎ HasWords bytes a → ((b ≡ Save) × (bytes ≡ codes "save")) ⊎ HasWords bytes b → a ≡ b
    at (inl s) (inl t) = s.0 ∙ sym t.0
    at (inl s) (inr other) = absurd (not_save bytes b s.1 other)
    at (inr has) (inl t) = absurd (not_save bytes a t.1 has)
    at (inr (words, is, operands)) (inr other) =
        let e = action_by_words bytes (name_of a) words is (names_lack_space a) b other in
        same_operands words a b (sym e.0) operands e.1

-- what was found as a move is what was asked for
pub moved : (words text : List ℕ) (found : Option Action) → text ≡ codes "move"
    → MatchOption found ((from to amount : ℕ) → AreThree words from to amount → from ≢ to → ⊥) (λ action. (from to amount : ℕ) × (action ≡ Move from to amount) × AreThree words from to amount × (from ≢ to))
    → MatchOption found ((action : Action) → name_of action ≡ text → HasOperands words action → ⊥) (λ action. (name_of action ≡ text) × HasOperands words action)
moved words text None e h = λ action names has. let is = move_operands words action (names ∙ e) has in h is.0 is.1 is.2 is.3 is.4
moved words text (Some action) e (from, to, amount, is, three, differ) =
    (ap name_of is ∙ sym e, subst (λ (a : Action). HasOperands words a) (sym is) (three, differ))
