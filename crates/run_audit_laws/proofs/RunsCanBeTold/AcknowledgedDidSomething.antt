-- A transaction that made its request in a legal history was answered an operation; so an acknowledged try made one.
use Rattle.std.proofs.Common.{◌≡◌, ◌⊎◌, inl, inr, refl, sym, ap, ◌∙◌, ℕ, suc, Bool, true, false, cond, List, [], ◌∷◌, ◌++◌, Option, Some, None}
use Rattle.std.specs.Prelude.{is_some}
use Rattle.std.specs.List.{AllByRecursion}
use Rattle.std.proofs.lemmas.Bool.{both_ways}
use Rattle.std.proofs.lemmas.List.Folds.{list_any-append}
use Rattle.clv_base.specs.declared.names.TxId.{TxId}
use Rattle.clv_base.specs.declared.names.Birth.{Birth}
use Rattle.clv_base.specs.declared.ops.Op.{Op}
use Rattle.clv_base.specs.declared.ops.Op.TheVariants.{Get, Put, Del, Scan, Add}
use Rattle.clv_base.specs.declared.ops.Answer.{Answer}
use Rattle.clv_base.specs.declared.logs.LogRecord.{LogRecord}
use Rattle.clv_base.specs.declared.events.Event.{Event}
use Rattle.clv_base.specs.declared.events.Event.TheVariants.{Op as OpEvent, Request}
use Rattle.clv_base.specs.declared.events.Outcome.TheVariants.{Asked, Acknowledged}
use Rattle.clv_base.specs.Maps.{Operates}
use Rattle.clv_base.specs.Restarts.{run_after}
use Rattle.clv_base.specs.Journals.{History, own}
use Rattle.clv_base.specs.History.{Legal, DoneAct, act_of, is_with_next, put_act, acts_in}
use Rattle.clv_base.specs.Sessions.{no_session, is_lowest}
use Rattle.clv_base.proofs.SameNames.{tx_self, or_left}
use Rattle.history_cases.proofs.Merging.{Placed, Among, Precedes}
use Rattle.history_laws.proofs.NeverTakenBack.{together_by_walker}
use Rattle.history_laws.proofs.RequestsNameWhatAnswered.NamedShardsAnswered.{AnsweredAt, request_names_all}
use Rattle.script_lang.specs.Bodies.{Body}
use Rattle.session_books.specs.Done.{Done, Did}
use Rattle.session_books.specs.Told.{try_of}
use Rattle.script_runs.specs.Operations.{parts_of, ArePartsAnswered, no_part, part}
use Rattle.script_runs.specs.Acts.{written_after, stands_above, AreActs, no_act, operation, going_back}
use Rattle.script_runs.specs.Tries.{Try, IsRequest, IsLook}
use Rattle.script_runs.specs.TriesLaws.{DidItsLines}
use Rattle.script_runs.specs.Books.{has_op}

-- ---- acts that entries tell

some_put : (p : DoneAct) (ps : List DoneAct) → put_act p ps ≡ [] → ⊥
some_put p [] e = absurd cc
some_put p (q ∷ qs) e = at (is_with_next p (q ∷ qs)) e
  where
    at : (b : Bool) → cond b (q ∷ qs) (p ∷ q ∷ qs) ≡ [] → ⊥
    at true f = absurd cc
    at false f = absurd cc

none_left : (o : Option DoneAct) (ps : List DoneAct) → elim o as (λ z. List DoneAct) [ Some p ↦ put_act p ps | None ↦ ps ] ≡ [] → (o ≡ None) × (ps ≡ [])
none_left None ps e = (refl, e)
none_left (Some p) ps e = absurd (some_put p ps e)

-- an entry that tells of one of its acts
acts_some : (t : TxId) (p : DoneAct) (y : Placed) (h : History) → Among y h → act_of t (y.1).event (y.1).outcome ≡ Some p → acts_in t h ≡ [] → ⊥
acts_some t p y [] i e none = elim i [ ]
acts_some t p y (z ∷ zs) (inl same) e none = let n = (none_left (act_of t (z.1).event (z.1).outcome) (acts_in t zs) none).0 in let f = sym n ∙ ap (λ (w : Placed). act_of t (w.1).event (w.1).outcome) same ∙ e in absurd cc
acts_some t p y (z ∷ zs) (inr i) e none = acts_some t p y zs i e (none_left (act_of t (z.1).event (z.1).outcome) (acts_in t zs) none).1

told_act : (y : Placed) (t : TxId) (shard epoch : ℕ) → AnsweredAt y t shard epoch → (p : DoneAct) × (act_of t (y.1).event (y.1).outcome ≡ Some p)
told_act y t shard epoch a =
    let p : DoneAct = (a.nth, Operates a.op, Some a.answer) in
    (p, ap (λ (e : Event). act_of t e (y.1).outcome) a.event ∙ ap (act_of t (OpEvent t a.birth a.nth a.seen a.op)) a.outcome ∙ ap (λ b. cond b (Some p) None) (tx_self t))

before_it : {A : Type 0} (y x : A) (xs : List A) → Precedes y x xs → Among y xs
before_it y x [] p = elim p [ ]
before_it y x (z ∷ zs) (inl p) = inl p.0
before_it y x (z ∷ zs) (inr p) = inr (before_it y x zs p)

from_own : (w : ℕ) (y : Placed) (h : History) → Among y (own w h) → Among y h
from_own w y [] m = elim m [ ]
from_own w y (f ∷ fs) m = at _ m (from_own w y fs)
  where
    at : (b : Bool) → Among y (cond b (f ∷ own w fs) (own w fs)) → (Among y (own w fs) → Among y fs) → Among y (f ∷ fs)
    at true (inl q) k = inl q
    at true (inr m) k = inr (k m)
    at false m k = inr (k m)

pub requested_did : (splits : List ℕ) (before : List (List LogRecord)) (h : History) (after : List (List LogRecord)) (x : Placed) (t : TxId) (ts : List (ℕ × ℕ)) → Legal splits before h after
    → Among x h → (x.1).event ≡ Request t ts → acts_in t h ≡ [] → ⊥
requested_did splits before h after x t ts l i e none =
    let w = (x.1).walker in
    let c = together_by_walker splits before after h x x l i i refl in
    let n = request_names_all splits (own w h) (no_session (run_after before) w) x t ts refl c.session c.first e in
    at ts n.0 n.1
  where
    at : (rs : List (ℕ × ℕ)) → AllByRecursion (λ r. (y : Placed) × Precedes y x (own (x.1).walker h) × AnsweredAt y t r.0 r.1) rs → is_lowest x.0 rs ≡ true → ⊥
    at [] all low = both_ways false refl low
    at (r ∷ rs) all low =
        let y = (all.0).0 in
        let a = told_act y t r.0 r.1 (all.0).2 in
        acts_some t a.0 y h (from_own (x.1).walker y h (before_it y x (own (x.1).walker h) (all.0).1)) a.1 none

-- ---- acts that made an entry made an operation first

first_op : (tx : TxId) (birth : Birth) (nth : ℕ) (parts : List (ℕ × Op)) (answers : List Answer) (es : History) → ArePartsAnswered tx birth nth parts answers es → (has_op es ≡ true) ⊎ ((parts ≡ []) × (es ≡ []))
first_op tx birth nth _ _ _ no_part = inr (refl, refl)
first_op tx birth nth _ _ _ (part p answer epoch e parts answers es is more) = inl (or_left (is_some (try_of (e.1).event)) (has_op es) (ap (λ (v : Event). is_some (try_of v)) is.event))

unwritten : (splits : List ℕ) (nth : ℕ) (op : Op) (answer : Answer) → parts_of splits op ≡ [] → written_after splits nth (Did op answer) [] ≡ []
unwritten splits nth (Get k) answer e = refl
unwritten splits nth (Put k v) answer e = absurd cc
unwritten splits nth (Del k) answer e = absurd cc
unwritten splits nth (Scan lo hi) answer e = refl
unwritten splits nth (Add k by) answer e = absurd cc

op_in : (es fs : History) → has_op es ≡ true → has_op (es ++ fs) ≡ true
op_in es fs e = list_any-append (λ x. is_some (try_of (x.1).event)) es fs ∙ or_left (has_op es) (has_op fs) e

acts_op : (splits : List ℕ) (tx : TxId) (birth : Birth) (nth : ℕ) (ws : List (ℕ × ℕ)) (ds : List Done) (es : History) → AreActs splits tx birth nth ws ds es → ws ≡ [] → (has_op es ≡ true) ⊎ (es ≡ [])
acts_op splits tx birth _ _ _ _ (no_act nth ws) none = inr refl
acts_op splits tx birth _ _ _ _ (operation nth ws op answer ds here behind es is o more) none = at (first_op tx birth nth (parts_of splits op) o.answers here o.parts) (λ f. acts_op splits tx birth (suc nth) (written_after splits nth (Did op answer) ws) ds behind more f)
  where
    later : (here ≡ []) → (has_op behind ≡ true) ⊎ (behind ≡ []) → (has_op es ≡ true) ⊎ (es ≡ [])
    later f (inl g) = inl (ap has_op (is ∙ ap (λ l. l ++ behind) f) ∙ g)
    later f (inr g) = inr (is ∙ ap (λ l. l ++ behind) f ∙ g)

    at : (has_op here ≡ true) ⊎ ((parts_of splits op ≡ []) × (here ≡ [])) → (written_after splits nth (Did op answer) ws ≡ [] → (has_op behind ≡ true) ⊎ (behind ≡ [])) → (has_op es ≡ true) ⊎ (es ≡ [])
    at (inl f) rest = inl (ap has_op is ∙ op_in here behind f)
    at (inr f) rest = later f.1 (rest (ap (written_after splits nth (Did op answer)) none ∙ unwritten splits nth op answer f.0))
acts_op splits tx birth _ _ _ _ (going_back nth ws upto ds here behind es is some back more) none = absurd (stands_nowhere some)
  where
    stands_nowhere : stands_above upto ws ≡ true → ⊥
    stands_nowhere e = both_ways false refl (sym (ap (stands_above upto) none) ∙ e)

-- what is told of a request and a look is no act
quiet : (t u : TxId) (home : ℕ) (asked told : Placed) → IsRequest u home Asked asked → IsLook u home Acknowledged told → acts_in t (asked ∷ told ∷ []) ≡ []
quiet t u home asked told a l =
    ap (λ (e : Event). elim (act_of t e (asked.1).outcome) as (λ z. List DoneAct) [ Some p ↦ put_act p (acts_in t (told ∷ [])) | None ↦ acts_in t (told ∷ []) ]) a.event
    ∙ ap (λ (e : Event). elim (act_of t e (told.1).outcome) as (λ z. List DoneAct) [ Some p ↦ put_act p [] | None ↦ [] ]) l.event

pub acknowledged_op : (splits : List ℕ) (body : Body) (birth : Birth) (t : Try) → DidItsLines splits body birth t → (acts_in t.tx t.entries ≡ [] → ⊥) → has_op t.entries ≡ true
acknowledged_op splits body birth t d some = at (acts_op splits t.tx birth 1 [] t.acts d.before d.acts_are refl)
  where
    at : (has_op d.before ≡ true) ⊎ (d.before ≡ []) → has_op t.entries ≡ true
    at (inl e) = ap has_op d.entries_are ∙ op_in d.before (d.asked ∷ d.told ∷ []) e
    at (inr e) = absurd (some (ap (acts_in t.tx) (d.entries_are ∙ ap (λ l. l ++ d.asked ∷ d.told ∷ []) e) ∙ quiet t.tx t.tx d.home d.asked d.told d.asked_is d.told_is))
