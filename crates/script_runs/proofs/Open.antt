-- Whether a try made an operation, and whether its request stands without an answer, by how it ended.
use Rattle.std.proofs.Common.{◌≡◌, refl, sym, ap, subst, ◌∙◌, ◌⊎◌, inl, inr, ℕ, suc, Bool, true, false, ◌||◌, ◌&&◌, ◌==◌, List, [], ◌∷◌, ◌++◌, length, Option, Some, None, arith, eq-eqb}
use Rattle.std.specs.Prelude.{not, is_some}
use Rattle.std.specs.List.{AllByRecursion}
use Rattle.std.proofs.lemmas.Bool.{both_ways}
use Rattle.std.proofs.lemmas.List.Folds.{list_any-append}
use Rattle.clv_base.specs.declared.names.TxId.{TxId}
use Rattle.clv_base.specs.declared.names.Birth.{Birth}
use Rattle.clv_base.specs.declared.causes.AbortCause.{AbortCause}
use Rattle.clv_base.specs.declared.ops.Op.{Op}
use Rattle.clv_base.specs.declared.ops.Op.TheVariants.{Get, Put, Del, Scan, Add}
use Rattle.clv_base.specs.declared.ops.Answer.{Answer}
use Rattle.clv_base.specs.declared.events.Event.TheVariants.{Request}
use Rattle.clv_base.specs.declared.events.Outcome.{Outcome}
use Rattle.clv_base.specs.declared.events.Outcome.TheVariants.{Dead, Asked, Acknowledged, Aborted}
use Rattle.clv_base.specs.declared.events.Entry.{Entry}
use Rattle.clv_base.specs.Folding.{key_written}
use Rattle.clv_base.specs.Journals.{History}
use Rattle.clv_base.specs.History.{has_request, request_of}
use Rattle.clv_base.proofs.SameNames.{tx_self, or_left, or_right}
use Rattle.law_base.proofs.Bools.{and_no}
use Rattle.law_base.proofs.Lists.{all_append, all_mono}
use Rattle.script_lang.specs.Bodies.{Body}
use Rattle.session_books.specs.Done.{Done}
use Rattle.session_books.specs.Told.{try_of, looked_by, is_tx, has_look}
use Rattle.session_books.specs.Counts.{is_open}
use Rattle.script_runs.specs.declared.ends.TryEnd.{TryEnd}
use Rattle.script_runs.specs.Operations.{parts_of, ArePartsAnswered, no_part, part}
use Rattle.script_runs.specs.Acts.{written_with, stands_above, AreActs, no_act, operation, going_back}
use Rattle.script_runs.specs.Tries.{IsRequest, IsLook, AreDrops, EndsBy, acknowledged, nothing, by_line, in_operation, in_going_back, at_request, at_look, down, unsettled, wanting_before, wanting_behind, wanting_between, unanswered, worn_at_line, is_touched}
use Rattle.script_runs.specs.Seen.{IsTouching}
use Rattle.script_runs.specs.Books.{has_op}
use Rattle.script_runs.proofs.Quiet.{is_same, any_none, any_first}
use Rattle.script_runs.proofs.Doing.{either}
use Rattle.script_runs.proofs.EntryKinds.{IsOpOf, IsActOf, AreOpsOf, AreActsOf, parts_are_ops, parts_are, way_is, death_is, back_death_is, acts_all}
use Rattle.script_runs.proofs.TryBooks.{act_asks_none, asks}

-- ---- operations

is_op : (tx : TxId) (birth : Birth) (e : ℕ × Entry) → IsOpOf tx birth e → is_some (try_of (e.1).event) ≡ true
is_op tx birth e o = ap (λ ev. is_some (try_of ev)) o.event

pub first_op : (tx : TxId) (birth : Birth) (e : ℕ × Entry) (es : History) → IsOpOf tx birth e → has_op (e ∷ es) ≡ true
first_op tx birth e es o = ap (λ b. b || has_op es) (is_op tx birth e o)

touched_op : (tx : TxId) (birth : Birth) (es : History) (n : ℕ) → AreOpsOf tx birth es → is_touched es n ≡ true → has_op es ≡ true
touched_op tx birth [] n o h = h
touched_op tx birth (e ∷ es) n o h = first_op tx birth e es o.0

-- where some shard is touched there is an operation
abbrev pub IsOpened : History → Type 0
IsOpened es = (n : ℕ) → is_touched es n ≡ true → has_op es ≡ true

op_before : (es fs : History) → has_op es ≡ true → has_op (es ++ fs) ≡ true
op_before es fs h = list_any-append (λ e. is_some (try_of (e.1).event)) es fs ∙ or_left (has_op es) (has_op fs) h

op_behind : (es fs : History) → has_op fs ≡ true → has_op (es ++ fs) ≡ true
op_behind es fs h = list_any-append (λ e. is_some (try_of (e.1).event)) es fs ∙ or_right (has_op es) (has_op fs) h

-- behind such ones stand operations, or entries on shards that they touched
opened_by : (es here : History) → IsOpened es → ((n : ℕ) → is_touched here n ≡ true → has_op (es ++ here) ≡ true) → IsOpened (es ++ here)
opened_by es here opened behind n h = at (either (is_touched es n) (is_touched here n) (sym (list_any-append (λ e. e.0 == n) es here) ∙ h))
  where
    at : (is_touched es n ≡ true) ⊎ (is_touched here n ≡ true) → has_op (es ++ here) ≡ true
    at (inl t) = op_before es here (opened n t)
    at (inr t) = behind n t

pub opened_ops : (tx : TxId) (birth : Birth) (es here : History) → IsOpened es → AreOpsOf tx birth here → IsOpened (es ++ here)
opened_ops tx birth es here opened o = opened_by es here opened (λ n t. op_behind es here (touched_op tx birth here n o t))

pub opened_on : (es here : History) → IsOpened es → ((n : ℕ) → is_touched here n ≡ true → is_touched es n ≡ true) → IsOpened (es ++ here)
opened_on es here opened on = opened_by es here opened (λ n t. op_before es here (opened n (on n t)))

-- an operation without a part writes nothing
parts_long : (tx : TxId) (birth : Birth) (nth : ℕ) (parts : List (ℕ × Op)) (answers : List Answer) (es : History) → ArePartsAnswered tx birth nth parts answers es → length es ≡ length parts
parts_long tx birth nth _ _ _ no_part = refl
parts_long tx birth nth _ _ _ (part p answer epoch e parts answers es is more) = ap suc (parts_long tx birth nth parts answers es more)

none_written : (splits : List ℕ) (op : Op) (answer : Answer) → length (parts_of splits op) ≡ 0 → key_written op answer ≡ None
none_written splits (Get k) answer h = refl
none_written splits (Put k v) answer h = absurd (let no : ⊥ = omega arith in no)
none_written splits (Del k) answer h = absurd (let no : ⊥ = omega arith in no)
none_written splits (Scan lo hi) answer h = refl
none_written splits (Add k by) answer h = absurd (let no : ⊥ = omega arith in no)

-- acts begin with an operation, as there is nothing to go back over before
module _ (splits : List ℕ) (tx : TxId) (birth : Birth) where
  pub acts_opened : (nth : ℕ) (ws : List (ℕ × ℕ)) (ds : List Done) (es : History) → AreActs splits tx birth nth ws ds es → ws ≡ [] → IsOpened es
  acts_opened _ _ _ _ (no_act nth ws) none = λ n h. h
  acts_opened _ _ _ _ (operation nth ws op answer ds [] behind es is o more) none =
      let writes = none_written splits op answer (sym (parts_long tx birth nth (parts_of splits op) o.answers [] o.parts)) in
      subst IsOpened (sym is) (acts_opened (suc nth) _ ds behind more (ap (λ k. written_with splits nth k ws) writes ∙ none))
  acts_opened _ _ _ _ (operation nth ws op answer ds (e ∷ here) behind es is o more) none =
      let ops = parts_are_ops tx birth nth (parts_of splits op) o.answers (e ∷ here) o.parts in
      λ n h. ap has_op is ∙ first_op tx birth e (here ++ behind) ops.0
  acts_opened _ _ _ _ (going_back nth ws upto ds here behind es is some b more) none = absurd (both_ways (stands_above upto ws) (ap (stands_above upto) none) some)

-- they are some exactly where a shard is touched
pub acts_touched : (es : History) (touched : ℕ → Bool) (some : Bool) → IsOpened es → ((n : ℕ) → touched n ≡ true → is_touched es n ≡ true) → ((n : ℕ) → is_touched es n ≡ true → touched n ≡ true) → IsTouching touched some → has_op es ≡ some
acts_touched es touched true opened only all (n, t) = opened n (only n t)
acts_touched [] touched false opened only all none = refl
acts_touched (e ∷ es) touched false opened only all none =
    absurd (both_ways (touched e.0) (none e.0) (all e.0 (or_left (e.0 == e.0) (is_touched es e.0) (eq-eqb e.0 e.0 refl))))

abbrev pub IsNoOp : ℕ × Entry → Type 0
IsNoOp e = is_some (try_of (e.1).event) ≡ false

pub request_no_op : (tx : TxId) (home : ℕ) (o : Outcome) (e : ℕ × Entry) → IsRequest tx home o e → IsNoOp e
request_no_op tx home o e a = ap (λ ev. is_some (try_of ev)) a.event

pub look_no_op : (tx : TxId) (home : ℕ) (o : Outcome) (e : ℕ × Entry) → IsLook tx home o e → IsNoOp e
look_no_op tx home o e l = ap (λ ev. is_some (try_of ev)) l.event

pub drops_no_op : (tx : TxId) (before : History) (except : Option ℕ) (es : History) → AreDrops tx before except es → AllByRecursion IsNoOp es
drops_no_op tx before except [] d = tt
drops_no_op tx before except (e ∷ es) d = (ap (λ ev. is_some (try_of ev)) (d.0).event, drops_no_op tx before except es d.1)

pub no_op_behind : (es fs : History) → AllByRecursion IsNoOp fs → has_op (es ++ fs) ≡ has_op es
no_op_behind es fs n = any_first (λ e. is_some (try_of (e.1).event)) es fs (any_none (λ e. is_some (try_of (e.1).event)) fs n)

-- ---- requests

abbrev NoAsk : ℕ × Entry → Type 0
NoAsk e = request_of (e.1).event (e.1).outcome ≡ None

none_open : (tx : TxId) (es : History) → AllByRecursion NoAsk es → is_open es tx ≡ false
none_open tx es n =
    ap (λ b. b && not (has_look tx es)) (any_none (λ e. is_same tx (request_of (e.1).event (e.1).outcome)) es (all_mono NoAsk (λ e. is_same tx (request_of (e.1).event (e.1).outcome) ≡ false) (λ e h. ap (is_same tx) h) es n))

looked_open : (tx : TxId) (es : History) → has_look tx es ≡ true → is_open es tx ≡ false
looked_open tx es h = ap (λ b. has_request tx es && not b) h ∙ and_no (has_request tx es)

look_there : (tx : TxId) (home : ℕ) (o : Outcome) (before rest : History) (asked told : ℕ × Entry) → IsLook tx home o told → has_look tx (before ++ asked ∷ told ∷ rest) ≡ true
look_there tx home o before rest asked told l =
    list_any-append (λ e. is_tx tx (looked_by (e.1).event)) before (asked ∷ told ∷ rest)
    ∙ or_right (has_look tx before) (has_look tx (asked ∷ told ∷ rest))
    (or_right (is_tx tx (looked_by (asked.1).event)) (has_look tx (told ∷ rest)) (or_left (is_tx tx (looked_by (told.1).event)) (has_look tx rest) (ap (λ ev. is_tx tx (looked_by ev)) l.event ∙ tx_self tx)))

request_there : (tx : TxId) (home : ℕ) (before : History) (asked : ℕ × Entry) → IsRequest tx home Asked asked → has_request tx (before ++ asked ∷ []) ≡ true
request_there tx home before asked a =
    list_any-append (λ e. is_same tx (request_of (e.1).event (e.1).outcome)) before (asked ∷ [])
    ∙ or_right (has_request tx before) (has_request tx (asked ∷ [])) (or_left (is_same tx (request_of (asked.1).event (asked.1).outcome)) false (ap (is_same tx) (asks tx home asked a) ∙ tx_self tx))

module _ (tx : TxId) (birth : Birth) where
  acts_look_none : (es : History) → AreActsOf tx birth es → AllByRecursion (λ e. is_tx tx (looked_by (e.1).event) ≡ false) es
  acts_look_none es o =
      acts_all tx birth (λ e. is_tx tx (looked_by (e.1).event) ≡ false) (λ e p. ap (λ ev. is_tx tx (looked_by ev)) p.event) (λ e p. ap (λ ev. is_tx tx (looked_by ev)) p.event) es o

  asked_open : (home : ℕ) (before : History) (asked : ℕ × Entry) → AreActsOf tx birth before → IsRequest tx home Asked asked → is_open (before ++ asked ∷ []) tx ≡ true
  asked_open home before asked o a =
      ap (λ b. b && not (has_look tx (before ++ asked ∷ []))) (request_there tx home before asked a)
      ∙ ap not (any_none (λ e. is_tx tx (looked_by (e.1).event)) (before ++ asked ∷ [])
      (all_append (λ e. is_tx tx (looked_by (e.1).event) ≡ false) before (asked ∷ []) (acts_look_none before o) (ap (λ ev. is_tx tx (looked_by ev)) a.event, tt)))

  acts_ask_none : (es : History) → AreActsOf tx birth es → AllByRecursion NoAsk es
  acts_ask_none es o = all_mono (IsActOf tx birth) NoAsk (λ e p. act_asks_none tx birth e p) es o

  drops_ask_none : (before : History) (except : Option ℕ) (es : History) → AreDrops tx before except es → AllByRecursion NoAsk es
  drops_ask_none before except [] d = tt
  drops_ask_none before except (e ∷ es) d = (ap (λ ev. request_of ev (e.1).outcome) (d.0).event, drops_ask_none before except es d.1)

  dead_asks_none : (home : ℕ) (cause : AbortCause) (e : ℕ × Entry) → IsRequest tx home (Dead cause) e → NoAsk e
  dead_asks_none home cause e a = ap (λ ev. request_of ev (e.1).outcome) a.event ∙ ap (request_of (Request tx a.touched)) a.outcome

  module _ (splits : List ℕ) (body : Body) (acts : List Done) (before : History) where
    -- whether its request stands without an answer
    abbrev pub stands : (e : TryEnd) (behind : History) → EndsBy splits body tx birth acts before e behind → Bool
    stands _ _ (acknowledged home asked told all a l) = false
    stands _ _ (nothing all none) = false
    stands _ _ (by_line drops all d) = false
    stands _ _ (in_operation op cause n here drops next died d) = false
    stands _ _ (in_going_back upto cause n here drops next died d) = false
    stands _ _ wanting_between = false
    stands _ _ (at_request home cause asked drops all a d) = false
    stands _ _ (at_look home cause asked told drops all a l d) = false
    stands _ _ (down n here drops u d) = false
    stands _ _ (unsettled n home asked all a) = true
    stands _ _ (wanting_before cause here w u) = false
    stands _ _ (wanting_behind cause home asked w all a) = true
    stands _ _ (unanswered op parts here next are) = false
    stands _ _ (worn_at_line at drops all d) = false

    pub open_by : AreActsOf tx birth before → (e : TryEnd) (behind : History) (x : EndsBy splits body tx birth acts before e behind) → is_open (before ++ behind) tx ≡ stands e behind x
    open_by o _ _ (acknowledged home asked told all a l) = looked_open tx (before ++ asked ∷ told ∷ []) (look_there tx home Acknowledged before [] asked told l)
    open_by o _ _ (nothing all none) = none_open tx (before ++ []) (all_append NoAsk before [] (acts_ask_none before o) tt)
    open_by o _ _ (by_line drops all d) = none_open tx (before ++ drops) (all_append NoAsk before drops (acts_ask_none before o) (drops_ask_none before None drops d))
    open_by o _ _ (in_operation op cause n here drops next died d) =
        none_open tx (before ++ (here ++ drops))
        (all_append NoAsk before (here ++ drops) (acts_ask_none before o)
        (all_append NoAsk here drops (acts_ask_none here (death_is tx birth splits (suc (length acts)) op cause n here died)) (drops_ask_none (before ++ here) (Some n) drops d)))
    open_by o _ _ (in_going_back upto cause n here drops next died d) =
        none_open tx (before ++ (here ++ drops))
        (all_append NoAsk before (here ++ drops) (acts_ask_none before o)
        (all_append NoAsk here drops (acts_ask_none here (back_death_is tx birth (suc (length acts)) upto _ cause n here died)) (drops_ask_none (before ++ here) (Some n) drops d)))
    open_by o _ _ wanting_between = none_open tx (before ++ []) (all_append NoAsk before [] (acts_ask_none before o) tt)
    open_by o _ _ (at_request home cause asked drops all a d) =
        none_open tx (before ++ asked ∷ drops) (all_append NoAsk before (asked ∷ drops) (acts_ask_none before o) (dead_asks_none home cause asked a, drops_ask_none before (Some home) drops d))
    open_by o _ _ (at_look home cause asked told drops all a l d) = looked_open tx (before ++ asked ∷ told ∷ drops) (look_there tx home (Aborted cause) before drops asked told l)
    open_by o _ _ (down n here drops u d) =
        none_open tx (before ++ (here ++ drops))
        (all_append NoAsk before (here ++ drops) (acts_ask_none before o) (all_append NoAsk here drops (acts_ask_none here (way_is tx birth splits body acts here u)) (drops_ask_none (before ++ here) None drops d)))
    open_by o _ _ (unsettled n home asked all a) = asked_open home before asked o a
    open_by o _ _ (wanting_before cause here w u) = none_open tx (before ++ here) (all_append NoAsk before here (acts_ask_none before o) (acts_ask_none here (way_is tx birth splits body acts here u)))
    open_by o _ _ (wanting_behind cause home asked w all a) = asked_open home before asked o a
    open_by o _ _ (unanswered op parts here next are) =
        none_open tx (before ++ here) (all_append NoAsk before here (acts_ask_none before o) (acts_ask_none here (parts_are tx birth (suc (length acts)) (parts_of splits op) parts here are)))
    open_by o _ _ (worn_at_line at drops all d) = none_open tx (before ++ drops) (all_append NoAsk before drops (acts_ask_none before o) (drops_ask_none before None drops d))
