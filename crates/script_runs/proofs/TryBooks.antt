-- What a try adds to a book: its row, and as what it is counted.
use Rattle.std.proofs.Common.{◌≡◌, refl, sym, ap, subst, ◌∙◌, inl, inr, ℕ, Bool, true, false, cond, ◌||◌, ◌&&◌, List, [], ◌∷◌, ◌++◌, append-nil, Option, Some, None}
use Rattle.std.specs.Prelude.{is_some}
use Rattle.std.specs.List.{AllByRecursion, list_all}
use Rattle.std.proofs.lemmas.Bool.{both_ways, false_from_ne_true}
use Rattle.std.proofs.lemmas.List.Folds.{list_any-append}
use Rattle.clv_base.specs.declared.names.TxId.{TxId}
use Rattle.clv_base.specs.declared.names.Birth.{Birth}
use Rattle.clv_base.specs.declared.events.Event.{Event}
use Rattle.clv_base.specs.declared.events.Event.TheVariants.{Op as OpEvent, RollTo, Request, Look, Drop}
use Rattle.clv_base.specs.declared.events.Outcome.{Outcome}
use Rattle.clv_base.specs.declared.events.Outcome.TheVariants.{Asked, Acknowledged}
use Rattle.clv_base.specs.declared.events.Entry.{Entry}
use Rattle.clv_base.specs.Journals.{History}
use Rattle.clv_base.specs.History.{acknowledged_in, is_acknowledgement, request_of}
use Rattle.clv_base.proofs.SameNames.{tx_self, or_left, or_right}
use Rattle.law_base.proofs.Bools.{same_truth}
use Rattle.law_base.proofs.Lists.{all_mono}
use Rattle.law_base.proofs.Names.{birth_self}
use Rattle.script_lang.specs.Bodies.{Body}
use Rattle.script_lang.specs.declared.actions.Action.{Action}
use Rattle.script_lang.specs.Laws.{is_narrow}
use Rattle.script_lang.specs.Following.{all_acts}
use Rattle.session_books.specs.Done.{Done}
use Rattle.session_books.specs.Told.{told_in, with_told, told_by, try_of, same_birth, is_of_birth, has_birth}
use Rattle.session_books.specs.declared.counts.Counts.{Counts}
use Rattle.session_books.specs.Counts.{nothing_counted, counted, count_try, counts_in, is_open, is_acknowledged_try, has_acknowledged_try}
use Rattle.session_books.specs.declared.books.Row.{Row}
use Rattle.session_books.specs.Books.{row_of, row_at, rows_in, rows, whole_ops}
use Rattle.script_runs.specs.declared.ends.TryEnd.{TryEnd}
use Rattle.script_runs.specs.declared.ends.TryEnd.TheVariants as end
use Rattle.script_runs.specs.Acts.{acts_of, answers_in}
use Rattle.script_runs.specs.Tries.{Try, IsTry, IsRequest, IsLook}
use Rattle.script_runs.specs.TriesLaws.{DidItsLines, IsBornSo}
use Rattle.script_runs.specs.Told.{place_of}
use Rattle.script_runs.specs.Books.{AcknowledgedHaveRows, OthersHaveNone, has_op, is_acknowledged, fate_by, fate_of, count_as}
use Rattle.script_runs.proofs.TriesListed.{acknowledged_did_their_lines, try_born}
use Rattle.script_runs.proofs.TriesTell.{acknowledged_end_so}
use Rattle.script_runs.proofs.Doing.{lines_pass}
use Rattle.script_runs.proofs.EntryKinds.{IsActOf, AreActsOf, acts_are, entries_all}
use Rattle.script_runs.proofs.Quiet.{name_of, AreNamed}
use Rattle.script_runs.proofs.BooksApart.{rows_append, rows_none, AreTried, AreBorn, named_try}
use Rattle.script_runs.proofs.Wholes.{told_append, told_whole, has_bounds, has_act_bounds, bounds_narrow}

-- ---- names

name_by : (tx : TxId) (e : ℕ × Entry) (event : Event) → (e.1).event ≡ event → ((t : TxId) → name_of event ≡ Some t → t ≡ tx) → (t : TxId) → name_of (e.1).event ≡ Some t → t ≡ tx
name_by tx e event is f t h = f t (sym (ap name_of is) ∙ h)

pub same_name : (tx t : TxId) → ◌≡◌ {A = Option TxId} (Some tx) (Some t) → t ≡ tx
same_name tx t h = ap (λ o. elim o as (λ z. TxId) [ Some u ↦ u | None ↦ tx ]) (sym h)

pub try_named : (splits : List ℕ) (body : Body) (birth : Birth) (t : Try) → IsTry splits body birth t → AreNamed (λ u. u ≡ t.tx) t.entries
try_named splits body birth t is =
    entries_all t.tx birth (λ e. (u : TxId) → name_of (e.1).event ≡ Some u → u ≡ t.tx) (λ e o. name_by t.tx e (OpEvent t.tx birth o.nth o.seen o.op) o.event (λ u h. same_name t.tx u h))
    (λ e b. name_by t.tx e (RollTo t.tx b.nth b.seen b.upto) b.event (λ u h. same_name t.tx u h)) (λ e d. name_by t.tx e (Drop t.tx) d (λ u h. absurd cc)) (λ home o e a. name_by t.tx e (Request t.tx a.touched) a.event (λ u h. same_name t.tx u h))
    (λ home o e l. name_by t.tx e (Look t.tx) l.event (λ u h. same_name t.tx u h)) splits body t.acts t.end t.entries is

birth_by : (birth : Birth) (ev : Event) (p : TxId × Birth) → IsBornSo birth ev → try_of ev ≡ Some p → p.1 ≡ birth
birth_by birth (OpEvent tx b nth seen op) p k h = ap (λ o. elim o as (λ z. Birth) [ Some q ↦ q.1 | None ↦ b ]) (sym h) ∙ k
birth_by birth _ p k h = absurd cc

pub born_as : (birth : Birth) (es : History) → AllByRecursion (λ e. IsBornSo birth (e.1).event) es → AreBorn (λ b. b ≡ birth) es
born_as birth es k = all_mono (λ e. IsBornSo birth (e.1).event) (λ e. (p : TxId × Birth) → try_of (e.1).event ≡ Some p → p.1 ≡ birth) (λ e i p h. birth_by birth (e.1).event p i h) es k

-- ---- rows

pub act_asks_none : (tx : TxId) (birth : Birth) (e : ℕ × Entry) → IsActOf tx birth e → request_of (e.1).event (e.1).outcome ≡ None
act_asks_none tx birth e (inl o) = ap (λ ev. request_of ev (e.1).outcome) o.event
act_asks_none tx birth e (inr b) = ap (λ ev. request_of ev (e.1).outcome) b.event

acts_rows : (tx : TxId) (birth : Birth) (h es : History) → AreActsOf tx birth es → rows_in h es ≡ []
acts_rows tx birth h [] o = refl
acts_rows tx birth h (e ∷ es) o = ap (λ r. row_at h e r ++ rows_in h es) (act_asks_none tx birth e o.0) ∙ acts_rows tx birth h es o.1

pub asks : (tx : TxId) (home : ℕ) (e : ℕ × Entry) → IsRequest tx home Asked e → request_of (e.1).event (e.1).outcome ≡ Some tx
asks tx home e a = ap (λ ev. request_of ev (e.1).outcome) a.event ∙ ap (request_of (Request tx a.touched)) a.outcome

pub look_asks_none : (tx : TxId) (home : ℕ) (o : Outcome) (e : ℕ × Entry) → IsLook tx home o e → request_of (e.1).event (e.1).outcome ≡ None
look_asks_none tx home o e l = ap (λ ev. request_of ev (e.1).outcome) l.event

told_so : (tx : TxId) (home : ℕ) (e : ℕ × Entry) → IsLook tx home Acknowledged e → is_acknowledgement tx (e.1).event (e.1).outcome ≡ true
told_so tx home e l = ap (λ ev. is_acknowledgement tx ev (e.1).outcome) l.event ∙ ap (is_acknowledgement tx (Look tx)) l.outcome ∙ tx_self tx

is_told : (tx : TxId) (home : ℕ) (before : History) (asked told : ℕ × Entry) → IsLook tx home Acknowledged told → acknowledged_in (before ++ asked ∷ told ∷ []) tx ≡ true
is_told tx home before asked told l =
    list_any-append (λ e. is_acknowledgement tx (e.1).event (e.1).outcome) before (asked ∷ told ∷ [])
    ∙ or_right (acknowledged_in before tx) (acknowledged_in (asked ∷ told ∷ []) tx)
    (or_right (is_acknowledgement tx (asked.1).event (asked.1).outcome) (acknowledged_in (told ∷ []) tx) (or_left (is_acknowledgement tx (told.1).event (told.1).outcome) false (told_so tx home told l)))

none_told : (tx : TxId) (home : ℕ) (asked told : ℕ × Entry) → IsRequest tx home Asked asked → IsLook tx home Acknowledged told → told_in tx (asked ∷ told ∷ []) ≡ []
none_told tx home asked told a l =
    ap (λ ev. with_told tx (told_by ev (asked.1).outcome) (told_in tx (told ∷ []))) a.event ∙ ap (λ ev. with_told tx (told_by ev (told.1).outcome) []) l.event

abbrev row_is : TxId → ℕ × Entry → List Done → Row
row_is tx asked ops = record { tx = tx; point = place_of asked; ops = ops }

pub acknowledged_rows : (splits : List ℕ) (body : Body) (birth : Birth) (t : Try) (d : DidItsLines splits body birth t) → whole_ops (told_in t.tx d.before) ≡ t.acts
    → rows t.entries ≡ record { tx = t.tx; point = place_of d.asked; ops = t.acts } ∷ []
acknowledged_rows splits body birth t d told =
    let tail = d.asked ∷ d.told ∷ [] in
    let es = d.before ++ tail in
    let told_is : told_in t.tx es ≡ told_in t.tx d.before =
    told_append t.tx d.before tail ∙ ap (λ l. told_in t.tx d.before ++ l) (none_told t.tx d.home d.asked d.told d.asked_is d.told_is) ∙ append-nil (told_in t.tx d.before) in
    ap rows d.entries_are ∙ rows_append es d.before tail
    ∙ ap (λ l. l ++ rows_in es tail) (acts_rows t.tx birth es d.before (acts_are t.tx birth splits 1 [] t.acts d.before d.acts_are))
    ∙ ap (λ r. row_at es d.asked r ++ rows_in es (d.told ∷ [])) (asks t.tx d.home d.asked d.asked_is)
    ∙ ap (λ b. cond b (row_of es d.asked t.tx ∷ []) [] ++ rows_in es (d.told ∷ [])) (is_told t.tx d.home d.before d.asked d.told d.told_is)
    ∙ ap (λ r. row_of es d.asked t.tx ∷ row_at es d.told r ++ []) (look_asks_none t.tx d.home Acknowledged d.told d.told_is)
    ∙ ap (λ os. row_is t.tx d.asked os ∷ []) (ap whole_ops told_is ∙ told)

-- what narrow lines ask for has bounds
pub acts_have_bounds : (lines : List Action) (ds : List Done) → list_all is_narrow lines ≡ true → acts_of ds ≡ all_acts lines (answers_in ds) → list_all has_act_bounds (acts_of ds) ≡ true
acts_have_bounds lines ds narrow is = ap (list_all has_act_bounds) is ∙ lines_pass has_bounds bounds_narrow (λ k. refl) (λ k v. refl) lines (answers_in ds) narrow

pub acknowledged_have_rows : AcknowledgedHaveRows
acknowledged_have_rows splits body birth t s narrow is e =
    let d = acknowledged_did_their_lines splits body birth t is e in
    (d, acknowledged_rows splits body birth t d (told_whole splits t.tx birth t.acts d.before s (acts_have_bounds body.actions t.acts narrow d.all) d.acts_are))

pub not_acknowledged : (splits : List ℕ) (body : Body) (birth : Birth) (t : Try) → IsTry splits body birth t → (t.end ≡ end.Acknowledged → ⊥) → (tx : TxId) → acknowledged_in t.entries tx ≡ false
not_acknowledged splits body birth t is other tx = false_from_ne_true (acknowledged_in t.entries tx) (λ h. other (acknowledged_end_so splits body birth t tx is h).0)

pub others_have_none : OthersHaveNone
others_have_none splits body birth t is other = rows_none t.entries t.entries (not_acknowledged splits body birth t is other)

-- ---- as what it is counted

-- the operations are all of this birth, and their requests are all open, or none is
abbrev pub AreAlike : Birth → Bool → History → History → Type 0
AreAlike b o h es = AreTried (λ p. (p.1 ≡ b) × (is_open h p.0 ≡ o)) es

own_birth : (b x : Birth) → x ≡ b → same_birth b x ≡ true
own_birth b x h = subst (λ y. same_birth b y ≡ true) (sym h) (birth_self b)

born_one : (b : Birth) (o : Option (TxId × Birth)) → ((p : TxId × Birth) → o ≡ Some p → p.1 ≡ b) → is_of_birth b o ≡ is_some o
born_one b None f = refl
born_one b (Some p) f = own_birth b p.1 (f p refl)

pub birth_or_none : (b : Birth) (es : History) → AreBorn (λ x. x ≡ b) es → has_birth b es ≡ has_op es
birth_or_none b [] f = refl
birth_or_none b (e ∷ es) f = ap (λ c. c || has_birth b es) (born_one b (try_of (e.1).event) f.0) ∙ ap (λ c. is_some (try_of (e.1).event) || c) (birth_or_none b es f.1)

-- one more, if there is an operation
abbrev pub once : Bool → Bool → Bool → Counts
once some a o = cond some (counted a o nothing_counted) nothing_counted

only_births : (b : Birth) (o : Bool) (h es : History) → AreAlike b o h es → AreBorn (λ x. x ≡ b) es
only_births b o h es f = all_mono (λ e. (p : TxId × Birth) → try_of (e.1).event ≡ Some p → (p.1 ≡ b) × (is_open h p.0 ≡ o)) (λ e. (p : TxId × Birth) → try_of (e.1).event ≡ Some p → p.1 ≡ b) (λ e g p is. (g p is).0) es f

pub counted_once : (b : Birth) (o : Bool) (h es : History) → AreAlike b o h es → counts_in h es ≡ once (has_op es) (has_acknowledged_try h b h) o
counted_once b o h [] f = refl
counted_once b o h (e ∷ es) f =
    ap (count_try h (try_of (e.1).event) es) (counted_once b o h es f.1) ∙ at (try_of (e.1).event) f.0
  where
    a : Bool
    a = has_acknowledged_try h b h

    last : (some : Bool) → cond some (once some a o) (counted a o (once some a o)) ≡ counted a o nothing_counted
    last true = refl
    last false = refl

    at : (t : Option (TxId × Birth)) → ((p : TxId × Birth) → t ≡ Some p → (p.1 ≡ b) × (is_open h p.0 ≡ o)) → count_try h t es (once (has_op es) a o) ≡ once (is_some t || has_op es) a o
    at None g = refl
    at (Some p) g =
        let k = g p refl in
        let c = once (has_op es) a o in
        ap (λ x. cond (has_birth x es) c (counted (has_acknowledged_try h x h) (is_open h p.0) c)) k.0
        ∙ ap (λ x. cond (has_birth b es) c (counted a x c)) k.1
        ∙ ap (λ x. cond x c (counted a o c)) (birth_or_none b es (only_births b o h es f.1))
        ∙ last (has_op es)

as_fate : (a o : Bool) (c : Counts) → counted a o c ≡ count_as (Some (fate_by a o)) c
as_fate true o c = refl
as_fate false true c = refl
as_fate false false c = refl

acknowledged_is : (e : TryEnd) → is_acknowledged e ≡ true → e ≡ end.Acknowledged
acknowledged_is end.Acknowledged h = refl
acknowledged_is end.Empty h = absurd (both_ways false refl h)
acknowledged_is end.Asked h = absurd (both_ways false refl h)
acknowledged_is (end.Aborted cause) h = absurd (both_ways false refl h)
acknowledged_is (end.Stopped cause) h = absurd (both_ways false refl h)

-- its entries tell that it is acknowledged exactly where it was
tells_acknowledged : (splits : List ℕ) (body : Body) (birth : Birth) (t : Try) → IsTry splits body birth t → acknowledged_in t.entries t.tx ≡ is_acknowledged t.end
tells_acknowledged splits body birth t is =
    same_truth (acknowledged_in t.entries t.tx) (is_acknowledged t.end) (λ h. ap is_acknowledged (acknowledged_end_so splits body birth t t.tx is h).0)
    (λ h. so (acknowledged_did_their_lines splits body birth t is (acknowledged_is t.end h)))
  where
    so : DidItsLines splits body birth t → acknowledged_in t.entries t.tx ≡ true
    so d = ap (λ es. acknowledged_in es t.tx) d.entries_are ∙ is_told t.tx d.home d.before d.asked d.told d.told_is

-- a try of this birth with an operation is acknowledged as its transaction is
acknowledged_as : (h : History) (tx : TxId) (b : Birth) (es : History) → AreNamed (λ u. u ≡ tx) es → AreBorn (λ x. x ≡ b) es → has_acknowledged_try h b es ≡ has_op es && acknowledged_in h tx
acknowledged_as h tx b [] n f = refl
acknowledged_as h tx b (e ∷ es) n f =
    ap (λ c. c || has_acknowledged_try h b es) (at (try_of (e.1).event) (λ p is. n.0 p.0 (named_try (e.1).event p is)) f.0)
    ∙ ap (λ c. is_some (try_of (e.1).event) && acknowledged_in h tx || c) (acknowledged_as h tx b es n.1 f.1) ∙ both (is_some (try_of (e.1).event)) (has_op es) (acknowledged_in h tx)
  where
    both : (x y z : Bool) → (x && z || y && z) ≡ ((x || y) && z)
    both true true true = refl
    both true true false = refl
    both true false true = refl
    both true false false = refl
    both false y z = refl

    at : (o : Option (TxId × Birth)) → ((p : TxId × Birth) → o ≡ Some p → p.0 ≡ tx) → ((p : TxId × Birth) → o ≡ Some p → p.1 ≡ b) → is_acknowledged_try h b o ≡ is_some o && acknowledged_in h tx
    at None n f = refl
    at (Some p) n f = ap (λ c. c && acknowledged_in h p.0) (own_birth b p.1 (f p refl)) ∙ ap (acknowledged_in h) (n p refl)

all_alike : (tx : TxId) (b : Birth) (h es : History) → AreNamed (λ u. u ≡ tx) es → AreBorn (λ x. x ≡ b) es → AreAlike b (is_open h tx) h es
all_alike tx b h [] n f = tt
all_alike tx b h (e ∷ es) n f = ((λ p is. (f.0 p is, ap (is_open h) (n.0 p.0 (named_try (e.1).event p is)))), all_alike tx b h es n.1 f.1)

pub try_births : (splits : List ℕ) (body : Body) (birth : Birth) (t : Try) → IsTry splits body birth t → AreBorn (λ x. x ≡ birth) t.entries
try_births splits body birth t is = born_as birth t.entries (try_born splits body birth t is)

pub try_fate : (splits : List ℕ) (body : Body) (birth : Birth) (t : Try) → IsTry splits body birth t → counts_in t.entries t.entries ≡ count_as (fate_of t.tx t.end t.entries) nothing_counted
try_fate splits body birth t is =
    let es = t.entries in
    let n = try_named splits body birth t is in
    let f = try_births splits body birth t is in
    counted_once birth (is_open es t.tx) es es (all_alike t.tx birth es es n f)
    ∙ ap (λ a. once (has_op es) a (is_open es t.tx)) (acknowledged_as es t.tx birth es n f ∙ ap (λ a. has_op es && a) (tells_acknowledged splits body birth t is)) ∙ at (has_op es)
  where
    at : (some : Bool) → once some (some && is_acknowledged t.end) (is_open t.entries t.tx) ≡ count_as (cond some (Some (fate_by (is_acknowledged t.end) (is_open t.entries t.tx))) None) nothing_counted
    at true = as_fate (is_acknowledged t.end) (is_open t.entries t.tx) nothing_counted
    at false = refl
