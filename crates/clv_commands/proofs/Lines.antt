-- The transactions of a workload, and what a history tells of one that did its lines.
use Rattle.std.proofs.Common.{◌≡◌, refl, sym, ap, ap₂, subst, ◌∙◌, ℕ, zero, suc, ◌==◌, Bool, true, false, cond, List, [], ◌∷◌, ◌++◌, drop, map, append_assoc, Option, Some, None, slice_get}
use Rattle.std.specs.List.{AllByRecursion, list_all}
use Rattle.std.proofs.lemmas.List.{map-append}
use Rattle.clv_base.specs.declared.values.Value.{Value as ValueType}
use Rattle.clv_base.specs.declared.values.Value.TheVariants.{Num, Bytes}
use Rattle.clv_base.specs.declared.ops.Op.{Op}
use Rattle.clv_base.specs.declared.ops.Op.TheVariants.{Get, Put, Del, Scan, Add}
use Rattle.clv_base.specs.declared.ops.Answer.{Answer}
use Rattle.clv_base.specs.declared.names.TxId.{TxId}
use Rattle.clv_base.specs.declared.events.Event.{Event}
use Rattle.clv_base.specs.declared.events.Event.TheVariants.{Op as OpEvent, RollTo}
use Rattle.clv_base.specs.declared.events.Outcome.{Outcome}
use Rattle.clv_base.specs.declared.events.Outcome.TheVariants.{Answered, Rolled}
use Rattle.clv_base.specs.Orders.{tx_same}
use Rattle.clv_base.specs.Maps.{Act, Operates, GoesBack}
use Rattle.clv_base.specs.Backs.{answers_by}
use Rattle.clv_base.specs.Journals.{History}
use Rattle.clv_base.specs.History.{DoneAct, act_of, is_with_next, put_act, acts_in, answers_given}
use Rattle.law_base.proofs.Lists.{all_append}
use Rattle.script_lang.specs.declared.actions.Action.{Action}
use Rattle.script_lang.specs.declared.actions.Action.TheVariants.{Move}
use Rattle.script_lang.specs.declared.actions.Ending.TheVariants.{Commit}
use Rattle.script_lang.specs.Bodies.{Body}
use Rattle.script_lang.specs.Grammar.{body}
use Rattle.script_lang.specs.Following.{puts, first_value, action_ops, all_acts}
use Rattle.script_lang.proofs.Laws.{all_ops, is_plain, plain_acts}
use Rattle.script_lang.specs.Loads.{fill, transfer, transfers, session, first_state, next_state, after_filling, sessions_from, load}
use Rattle.session_books.specs.Done.{Done, Did, WentBack}
use Rattle.script_runs.specs.Operations.{parts_of, first_answer, answer_of}
use Rattle.script_runs.specs.Acts.{acts_of, answers_in, numbered, numbered_parts}
use Rattle.script_runs.specs.TriesLaws.{all_parts}
use Rattle.script_runs.specs.TriesTell.{ArePartsOf, no_act, operation, going_back}

-- ---- the lines of a workload

-- they fill the accounts, or are a transfer
pub data IsLine (accounts : ℕ) (lines : List Action) : Type 0 where
  fills : lines ≡ fill 0 accounts → IsLine accounts lines
  transfers_by : (x : ℕ) → lines ≡ transfer accounts x ∷ [] → IsLine accounts lines

same_lines : (a b : Body) → Some a ≡ Some b → b.actions ≡ a.actions
same_lines a b h = ap (λ x. x.actions) (let e : b ≡ a = cc in e)

in_transfers : (accounts x n number : ℕ) (b : Body) → slice_get (transfers accounts x n) number ≡ Some b → IsLine accounts b.actions
in_transfers accounts x zero number b at = absurd cc
in_transfers accounts x (suc n) zero b at = transfers_by x (same_lines (body (transfer accounts x ∷ []) Commit) b at)
in_transfers accounts x (suc n) (suc number) b at = in_transfers accounts (next_state (next_state (next_state x))) n number b at

in_session : (first : Bool) (accounts x n number : ℕ) (b : Body) → slice_get (after_filling first accounts (transfers accounts x n)) number ≡ Some b → IsLine accounts b.actions
in_session true accounts x n zero b at = fills (same_lines (body (fill 0 accounts) Commit) b at)
in_session true accounts x n (suc number) b at = in_transfers accounts x n number b at
in_session false accounts x n number b at = in_transfers accounts x n number b at

in_sessions : (seed accounts count from n k number : ℕ) (bodies : List Body) (b : Body) → slice_get (sessions_from seed accounts count from n) k ≡ Some bodies → slice_get bodies number ≡ Some b → IsLine accounts b.actions
in_sessions seed accounts count from zero k number bodies b at here = absurd cc
in_sessions seed accounts count from (suc n) zero number bodies b at here =
    in_session (from == 1) accounts (first_state seed from) count number b (let same : bodies ≡ session seed accounts count from = cc in ap (λ bs. slice_get bs number) (sym same) ∙ here)
in_sessions seed accounts count from (suc n) (suc k) number bodies b at here = in_sessions seed accounts count (suc from) n k number bodies b at here

pub in_load : (seed sessions accounts count k number : ℕ) (bodies : List Body) (b : Body) → slice_get (load seed sessions accounts count) k ≡ Some bodies → slice_get bodies number ≡ Some b → IsLine accounts b.actions
in_load seed sessions accounts count k number bodies b at here = in_sessions seed accounts count 1 sessions k number bodies b at here

-- ---- each operation is of one key

abbrev pub IsOfKey : Op → Type 0
IsOfKey (Get k) = Unit {0}
IsOfKey (Put k v) = Unit {0}
IsOfKey (Del k) = Unit {0}
IsOfKey (Scan lo hi) = ⊥
IsOfKey (Add k by) = Unit {0}

fill_of_keys : (k n : ℕ) (answers : List Answer) → AllByRecursion IsOfKey (all_ops (fill k n) answers)
fill_of_keys k zero answers = tt
fill_of_keys k (suc n) answers = (tt, fill_of_keys (suc k) n (drop 1 answers))

puts_chosen : (c : Bool) (from to : ℕ) (a b : ValueType) → AllByRecursion IsOfKey (cond c (Put from a ∷ Put to b ∷ []) [])
puts_chosen true from to a b = (tt, (tt, tt))
puts_chosen false from to a b = tt

puts_of_keys : (from to amount : ℕ) (a b : Option ValueType) → AllByRecursion IsOfKey (puts from to amount a b)
puts_of_keys from to amount None b = tt
puts_of_keys from to amount (Some (Num a)) None = tt
puts_of_keys from to amount (Some (Num a)) (Some (Num b)) = puts_chosen _ from to _ _
puts_of_keys from to amount (Some (Num a)) (Some (Bytes bytes)) = tt
puts_of_keys from to amount (Some (Bytes bytes)) b = tt

move_of_keys : (from to amount : ℕ) (answers : List Answer) → AllByRecursion IsOfKey (all_ops (Move from to amount ∷ []) answers)
move_of_keys from to amount answers =
    all_append IsOfKey (action_ops (Move from to amount) answers) [] (tt, (tt, puts_of_keys from to amount (first_value answers) (first_value (drop 1 answers)))) tt

pub lines_of_keys : (accounts : ℕ) (lines : List Action) (answers : List Answer) → IsLine accounts lines → AllByRecursion IsOfKey (all_ops lines answers)
lines_of_keys accounts lines answers (fills is) = subst (λ l. AllByRecursion IsOfKey (all_ops l answers)) (sym is) (fill_of_keys 0 accounts answers)
lines_of_keys accounts lines answers (transfers_by x is) = subst (λ l. AllByRecursion IsOfKey (all_ops l answers)) (sym is) (move_of_keys _ _ _ answers)

-- and no line keeps a savepoint
fill_is_plain : (k n : ℕ) → list_all is_plain (fill k n) ≡ true
fill_is_plain k zero = refl
fill_is_plain k (suc n) = fill_is_plain (suc k) n

pub lines_are_plain : (accounts : ℕ) (lines : List Action) → IsLine accounts lines → list_all is_plain lines ≡ true
lines_are_plain accounts lines (fills is) = ap (list_all is_plain) is ∙ fill_is_plain 0 accounts
lines_are_plain accounts lines (transfers_by x is) = ap (list_all is_plain) is

-- ---- so each act of it has one part, with its answer

abbrev IsKeyed : Done → Type 0
IsKeyed (Did op a) = IsOfKey op
IsKeyed (WentBack upto) = ⊥

keyed : (ds : List Done) (ops : List Op) → acts_of ds ≡ map Operates ops → AllByRecursion IsOfKey ops → AllByRecursion IsKeyed ds
keyed [] ops is keys = tt
keyed (Did op a ∷ ds) [] is keys = absurd cc
keyed (Did op a ∷ ds) (o ∷ os) is keys =
    let same : op ≡ o = cc in
    let rest : acts_of ds ≡ map Operates os = cc in
    (subst IsOfKey (sym same) keys.0, keyed ds os rest keys.1)
keyed (WentBack upto ∷ ds) [] is keys = absurd cc
keyed (WentBack upto ∷ ds) (o ∷ os) is keys = absurd cc

-- an operation that a history tells of has its answer
abbrev IsFull : DoneAct → Type 0
IsFull p = (op : Op) → p.1 ≡ Operates op → (answer : Answer) × (p.2 ≡ Some answer)

own_act : (b : Bool) (p q : DoneAct) → cond b (Some p) None ≡ Some q → q ≡ p
own_act true p q h = let e : q ≡ p = cc in e
own_act false p q h = absurd cc

act_full : (t : TxId) (ev : Event) (o : Outcome) (q : DoneAct) → act_of t ev o ≡ Some q → IsFull q
act_full t (OpEvent tx birth nth seen op) (Answered answer epoch) q h of_op is = (answer, ap (λ p. p.2) (own_act (tx_same t tx) (nth, Operates op, Some answer) q h))
act_full t (OpEvent tx birth nth seen op) _ q h of_op is = absurd cc
act_full t (RollTo tx nth seen upto) Rolled q h of_op is = absurd (let e : GoesBack upto ≡ Operates of_op = sym (ap (λ p. p.1) (own_act (tx_same t tx) (nth, GoesBack upto, None) q h)) ∙ is in cc)
act_full t (RollTo tx nth seen upto) _ q h of_op is = absurd cc
act_full t _ o q h of_op is = absurd cc

put_full : (p : DoneAct) (ps : List DoneAct) → IsFull p → AllByRecursion IsFull ps → AllByRecursion IsFull (put_act p ps)
put_full p ps one all = at (is_with_next p ps)
  where
    at : (b : Bool) → AllByRecursion IsFull (cond b ps (p ∷ ps))
    at true = all
    at false = (one, all)

told_full : (o : Option DoneAct) (ps : List DoneAct) → ((q : DoneAct) → o ≡ Some q → IsFull q) → AllByRecursion IsFull ps → AllByRecursion IsFull (elim o as (λ z. List DoneAct) [ Some p ↦ put_act p ps | None ↦ ps ])
told_full None ps one all = all
told_full (Some p) ps one all = put_full p ps (one p refl) all

pub acts_full : (t : TxId) (h : History) → AllByRecursion IsFull (acts_in t h)
acts_full t [] = tt
acts_full t (e ∷ es) = told_full (act_of t (e.1).event (e.1).outcome) (acts_in t es) (λ q is. act_full t (e.1).event (e.1).outcome q is) (acts_full t es)

key_part : (splits : List ℕ) (nth : ℕ) (op : Op) → IsOfKey op → numbered_parts nth (parts_of splits op) ≡ (nth, Operates op) ∷ []
key_part splits nth (Get k) key = refl
key_part splits nth (Put k v) key = refl
key_part splits nth (Del k) key = refl
key_part splits nth (Scan lo hi) key = absurd key
key_part splits nth (Add k by) key = refl

key_answer : (op : Op) (answers : List Answer) → IsOfKey op → answer_of op answers ≡ first_answer answers
key_answer (Get k) answers key = refl
key_answer (Put k v) answers key = refl
key_answer (Del k) answers key = refl
key_answer (Scan lo hi) answers key = absurd key
key_answer (Add k by) answers key = refl

record IsOne (op : Op) (answer : Answer) (here : List DoneAct) : Type 0 where
  acts : map (λ p. p.1) here ≡ Operates op ∷ []
  answers : answers_given here ≡ answer ∷ []

one_part : (nth : ℕ) (op : Op) (answer : Answer) (here : List DoneAct) → AllByRecursion IsFull here → numbered here ≡ (nth, Operates op) ∷ [] → answer ≡ first_answer (answers_given here) → IsOne op answer here
one_part nth op answer [] full is whole = absurd cc
one_part nth op answer (p ∷ []) full is whole =
    let acts : p.1 ∷ [] ≡ Operates op ∷ [] = ap (map (λ q. q.1)) is in
    let told = full.0 op (let e : p.1 ≡ Operates op = cc in e) in
    let given : answers_given (p ∷ []) ≡ told.0 ∷ [] = ap (λ o. answers_by o ++ []) told.1 in
    record { acts = acts; answers = given ∙ ap (λ a. a ∷ []) (sym (whole ∙ ap first_answer given)) }
one_part nth op answer (p ∷ q ∷ ps) full is whole = absurd cc

full_here : (here behind : List DoneAct) → AllByRecursion IsFull (here ++ behind) → AllByRecursion IsFull here × AllByRecursion IsFull behind
full_here [] behind all = (tt, all)
full_here (p ∷ here) behind all = let r = full_here here behind all.1 in ((all.0, r.0), r.1)

given_on : (ps qs : List DoneAct) → answers_given (ps ++ qs) ≡ answers_given ps ++ answers_given qs
given_on [] qs = refl
given_on (p ∷ ps) qs = ap (λ l. answers_by p.2 ++ l) (given_on ps qs) ∙ sym (append_assoc (answers_by p.2) (answers_given ps) (answers_given qs))

pub record AreWhole (ds : List Done) (told : List DoneAct) : Type 0 where
  pub acts_are : map (λ p. p.1) told ≡ acts_of ds
  pub answers_are : answers_given told ≡ answers_in ds

whole_parts : (splits : List ℕ) (nth : ℕ) (ds : List Done) (told : List DoneAct) → ArePartsOf splits nth ds told → AllByRecursion IsKeyed ds → AllByRecursion IsFull told → AreWhole ds told
whole_parts splits _ _ _ (no_act nth) keys full = record { acts_are = refl; answers_are = refl }
whole_parts splits _ _ _ (operation nth op answer ds here behind all is same whole more) keys full =
    let f = full_here here behind (subst (AllByRecursion IsFull) is full) in
    let one = one_part nth op answer here f.0 (same ∙ key_part splits nth op keys.0) (whole ∙ key_answer op (answers_given here) keys.0) in
    let rest = whole_parts splits (suc nth) ds behind more keys.1 f.1 in
    record {
      acts_are = ap (map (λ p. p.1)) is ∙ map-append (λ p. p.1) here behind ∙ ap₂ (λ (xs ys : List Act). xs ++ ys) one.acts rest.acts_are;
      answers_are = ap answers_given is ∙ given_on here behind ∙ ap₂ (λ (xs ys : List Answer). xs ++ ys) one.answers rest.answers_are;
    }
whole_parts splits _ _ _ (going_back nth upto ds behind more) keys full = absurd keys.0

-- what a history tells of one that did its lines is all of it
pub parts_whole : (splits : List ℕ) (accounts : ℕ) (lines : List Action) (ds : List Done) (t : TxId) (h : History) (told : List DoneAct) → IsLine accounts lines → acts_of ds ≡ all_acts lines (answers_in ds) → told ≡ acts_in t h → ArePartsOf splits 1 ds told
    → AreWhole ds told
parts_whole splits accounts lines ds t h told line all is parts =
    whole_parts splits 1 ds told parts
    (keyed ds (all_ops lines (answers_in ds)) (all ∙ plain_acts lines (answers_in ds) (lines_are_plain accounts lines line)) (lines_of_keys accounts lines (answers_in ds) line))
    (subst (AllByRecursion IsFull) (sym is) (acts_full t h))

parts_of_ops : (splits : List ℕ) (nth : ℕ) (ops : List Op) → AllByRecursion IsOfKey ops → map (λ q. q.1) (all_parts splits nth (map Operates ops)) ≡ map Operates ops
parts_of_ops splits nth [] keys = refl
parts_of_ops splits nth (op ∷ ops) keys =
    map-append (λ q. q.1) (numbered_parts nth (parts_of splits op)) (all_parts splits (suc nth) (map Operates ops))
    ∙ ap₂ (λ (xs ys : List Act). xs ++ ys) (ap (map (λ q. q.1)) (key_part splits nth op keys.0)) (parts_of_ops splits (suc nth) ops keys.1)

pub parts_alone : (splits : List ℕ) (accounts : ℕ) (lines : List Action) (answers : List Answer) → IsLine accounts lines → map (λ q. q.1) (all_parts splits 1 (all_acts lines answers)) ≡ all_acts lines answers
parts_alone splits accounts lines answers line =
    let plain = plain_acts lines answers (lines_are_plain accounts lines line) in
    ap (λ acts. map (λ q. q.1) (all_parts splits 1 acts)) plain ∙ parts_of_ops splits 1 (all_ops lines answers) (lines_of_keys accounts lines answers line) ∙ sym plain

pub only_acts : (ps : List DoneAct) → map (λ q. q.1) (numbered ps) ≡ map (λ p. p.1) ps
only_acts [] = refl
only_acts (p ∷ ps) = ap (λ l. p.1 ∷ l) (only_acts ps)

-- a filling asks for no answer
fill_ops_alike : (k n : ℕ) (answers others : List Answer) → all_ops (fill k n) answers ≡ all_ops (fill k n) others
fill_ops_alike k zero answers others = refl
fill_ops_alike k (suc n) answers others = ap (λ l. Put k (Num 1000) ∷ l) (fill_ops_alike (suc k) n (drop 1 answers) (drop 1 others))

pub fill_alike : (n : ℕ) (answers others : List Answer) → all_acts (fill 0 n) answers ≡ all_acts (fill 0 n) others
fill_alike n answers others =
    plain_acts (fill 0 n) answers (fill_is_plain 0 n) ∙ ap (map Operates) (fill_ops_alike 0 n answers others) ∙ sym (plain_acts (fill 0 n) others (fill_is_plain 0 n))
