-- What a try's entries tell of its request.
use Rattle.std.proofs.Common.{◌≡◌, refl, sym, ap, subst, ◌∙◌, ◌⊎◌, inl, inr, ⊎_elim, ℕ, suc, true, List, [], ◌∷◌, ◌++◌, Option, Some, None}
use Rattle.std.specs.List.{AllByRecursion}
use Rattle.clv_base.specs.declared.names.TxId.{TxId}
use Rattle.clv_base.specs.declared.names.Birth.{Birth}
use Rattle.clv_base.specs.declared.causes.AbortCause.{AbortCause}
use Rattle.clv_base.specs.declared.ops.Op.{Op}
use Rattle.clv_base.specs.declared.ops.Answer.{Answer}
use Rattle.clv_base.specs.declared.events.Event.{Event}
use Rattle.clv_base.specs.declared.events.Event.TheVariants.{Op as OpEvent, RollTo, Request, Look, Drop}
use Rattle.clv_base.specs.declared.events.Outcome.{Outcome}
use Rattle.clv_base.specs.declared.events.Outcome.TheVariants.{Answered, Rolled, Dead, Asked, Acknowledged, Aborted, Dropped}
use Rattle.clv_base.specs.declared.events.Entry.{Entry}
use Rattle.clv_base.specs.Journals.{History}
use Rattle.clv_base.specs.History.{is_acknowledgement, request_of}
use Rattle.clv_base.proofs.SameNames.{tx_self}
use Rattle.history_laws.specs.Outcomes.{is_abort}
use Rattle.history_cases.proofs.Merging.{Among, among_all, among_left, among_right, among_append}
use Rattle.script_lang.specs.Bodies.{Body}
use Rattle.script_runs.specs.Operations.{ArePartsAnswered, no_part, part, IsDeath, parts_of}
use Rattle.session_books.specs.Done.{Done}
use Rattle.script_runs.specs.Acts.{IsRoll, AreActs, no_act, operation, going_back, IsBackDeath}
use Rattle.script_runs.specs.Tries.{Try, IsTry, IsRequest, IsLook, AreDrops, EndsBy, acknowledged, nothing, by_line, in_operation, in_going_back, at_request, at_look, down, unsettled, wanting_before, wanting_behind, wanting_between, unanswered, worn_at_line}
use Rattle.script_runs.specs.Sessions.{stopped_by}
use Rattle.script_runs.specs.declared.ends.TryEnd.{TryEnd}
use Rattle.script_runs.proofs.Laws.{all_append}

-- an entry tells the transaction of its acknowledgement or of its abort
abbrev pub Ends : TxId → ℕ × Entry → Type 0
Ends t e = (is_acknowledgement t (e.1).event (e.1).outcome ≡ true) ⊎ (is_abort t (e.1).event (e.1).outcome ≡ true)

pub record Told (t : TxId) (es : History) : Type 0 where
  pub entry : ℕ × Entry
  pub among : Among entry es
  pub ends : Ends t entry

-- ---- entries that are no request

abbrev asks : ℕ × Entry → Option TxId
asks e = request_of (e.1).event (e.1).outcome

abbrev AskNone : History → Type 0
AskNone es = AllByRecursion (λ e. asks e ≡ None) es

asks_as : (e : ℕ × Entry) (event : Event) (outcome : Outcome) → (e.1).event ≡ event → (e.1).outcome ≡ outcome → asks e ≡ request_of event outcome
asks_as e event outcome is o = ap (λ ev. request_of ev (e.1).outcome) is ∙ ap (λ x. request_of event x) o

none_asks : {A : Type 0} (t : TxId) (e : ℕ × Entry) → asks e ≡ None → asks e ≡ Some t → A
none_asks t e none some = absurd (let h = sym none ∙ some in cc)

among_none : {A : Type 0} (t : TxId) (e : ℕ × Entry) (es : History) → AskNone es → Among e es → asks e ≡ Some t → A
among_none t e es none m some = none_asks t e (among_all (λ x. asks x ≡ None) e es none m) some

drops_ask : (tx : TxId) (before : History) (away : Option ℕ) (es : History) → AreDrops tx before away es → AskNone es
drops_ask tx before away [] d = tt
drops_ask tx before away (e ∷ es) d = (asks_as e (Drop tx) Dropped (d.0).event (d.0).outcome, drops_ask tx before away es d.1)

parts_ask : (tx : TxId) (birth : Birth) (nth : ℕ) (parts : List (ℕ × Op)) (answers : List Answer) (es : History) → ArePartsAnswered tx birth nth parts answers es → AskNone es
parts_ask tx birth nth _ _ _ no_part = tt
parts_ask tx birth nth _ _ _ (part p answer epoch e parts answers es is more) =
    (asks_as e (OpEvent tx birth nth is.seen p.1) (Answered answer epoch) is.event is.outcome, parts_ask tx birth nth parts answers es more)

rolls_ask : (tx : TxId) (nth upto : ℕ) (o : Outcome) (es : History) → request_of (RollTo tx nth 0 upto) o ≡ None → AllByRecursion (IsRoll tx nth upto o) es → AskNone es
rolls_ask tx nth upto o [] none a = tt
rolls_ask tx nth upto o (e ∷ es) none a = (asks_as e (RollTo tx nth (a.0).seen upto) o (a.0).event (a.0).outcome, rolls_ask tx nth upto o es none a.1)

acts_ask : (splits : List ℕ) (tx : TxId) (birth : Birth) (nth : ℕ) (ws : List (ℕ × ℕ)) (ds : List Done) (es : History) → AreActs splits tx birth nth ws ds es → AskNone es
acts_ask splits tx birth _ _ _ _ (no_act nth ws) = tt
acts_ask splits tx birth _ _ _ _ (operation nth ws op answer ds here behind es is o more) =
    subst AskNone (sym is)
    (all_append (λ e. asks e ≡ None) here behind (parts_ask tx birth nth (parts_of splits op) o.answers here o.parts) (acts_ask splits tx birth (suc nth) _ ds behind more))
acts_ask splits tx birth _ _ _ _ (going_back nth ws upto ds here behind es is some b more) =
    subst AskNone (sym is) (all_append (λ e. asks e ≡ None) here behind (rolls_ask tx nth upto Rolled here refl (b.rolled).0) (acts_ask splits tx birth (suc nth) _ ds behind more))

death_asks : (splits : List ℕ) (tx : TxId) (birth : Birth) (nth : ℕ) (op : Op) (cause : AbortCause) (n : ℕ) (es : History) → IsDeath splits tx birth nth op cause n es → AskNone es
death_asks splits tx birth nth op cause n es d =
    subst AskNone (sym d.entries)
    (all_append (λ e. asks e ≡ None) d.before (d.last ∷ []) (parts_ask tx birth nth d.done d.answers d.before d.answered)
    (asks_as d.last (OpEvent tx birth nth (d.died).seen (d.next).1) (Dead cause) (d.died).event (d.died).outcome, tt))

back_death_asks : (tx : TxId) (nth upto : ℕ) (ws : List (ℕ × ℕ)) (cause : AbortCause) (n : ℕ) (es : History) → IsBackDeath tx nth upto ws cause n es → AskNone es
back_death_asks tx nth upto ws cause n es d =
    subst AskNone (sym d.entries)
    (all_append (λ e. asks e ≡ None) d.before (d.last ∷ []) (rolls_ask tx nth upto Rolled d.before refl ((d.begun).rolled).0) (rolls_ask tx nth upto (Dead cause) (d.last ∷ []) refl (d.died, tt)))

-- ---- a try

asked_by : (tx t : TxId) (home : ℕ) (e : ℕ × Entry) → IsRequest tx home Asked e → asks e ≡ Some t → tx ≡ t
asked_by tx t home e is some = let h = sym (asks_as e (Request tx is.touched) Asked is.event is.outcome) ∙ some in cc

look_asks : (tx : TxId) (home : ℕ) (o : Outcome) (e : ℕ × Entry) → IsLook tx home o e → asks e ≡ None
look_asks tx home o e is = asks_as e (Look tx) o is.event is.outcome

acknowledges : (tx : TxId) (home : ℕ) (e : ℕ × Entry) → IsLook tx home Acknowledged e → is_acknowledgement tx (e.1).event (e.1).outcome ≡ true
acknowledges tx home e is = ap (λ ev. is_acknowledgement tx ev (e.1).outcome) is.event ∙ ap (is_acknowledgement tx (Look tx)) is.outcome ∙ tx_self tx

aborts : (tx : TxId) (home : ℕ) (cause : AbortCause) (e : ℕ × Entry) → IsLook tx home (Aborted cause) e → is_abort tx (e.1).event (e.1).outcome ≡ true
aborts tx home cause e is = ap (λ ev. is_abort tx ev (e.1).outcome) is.event ∙ ap (is_abort tx (Look tx)) is.outcome ∙ tx_self tx

behind_tells :
    (splits : List ℕ) (body : Body) (tx : TxId) (birth : Birth) (acts : List Done) (before : History) (e : TryEnd) (behind : History) → EndsBy splits body tx birth acts before e behind → stopped_by e ≡ None
    → (x : ℕ × Entry) (t : TxId) → Among x behind → asks x ≡ Some t → Told t behind
behind_tells splits body tx birth acts before _ _ (acknowledged home asked told all a l) on x t (inl same) some =
    subst (λ u. Told u (asked ∷ told ∷ [])) (asked_by tx t home asked a (ap asks same ∙ some)) (record { entry = told; among = inr (inl refl); ends = inl (acknowledges tx home told l) })
behind_tells splits body tx birth acts before _ _ (acknowledged home asked told all a l) on x t (inr m) some =
    among_none t x (told ∷ []) (look_asks tx home Acknowledged told l, tt) m some
behind_tells splits body tx birth acts before _ _ (nothing all none) on x t m some = absurd m
behind_tells splits body tx birth acts before _ _ (by_line drops all d) on x t m some = among_none t x drops (drops_ask tx before None drops d) m some
behind_tells splits body tx birth acts before _ _ (in_operation op cause n here drops next died d) on x t m some =
    among_none t x (here ++ drops)
    (all_append (λ e. asks e ≡ None) here drops (death_asks splits tx birth _ op cause n here died) (drops_ask tx (before ++ here) (Some n) drops d)) m some
behind_tells splits body tx birth acts before _ _ (in_going_back upto cause n here drops next died d) on x t m some =
    among_none t x (here ++ drops)
    (all_append (λ e. asks e ≡ None) here drops (back_death_asks tx _ upto _ cause n here died) (drops_ask tx (before ++ here) (Some n) drops d)) m some
behind_tells splits body tx birth acts before _ _ (at_request home cause asked drops all a d) on x t m some =
    among_none t x (asked ∷ drops) (asks_as asked (Request tx a.touched) (Dead cause) a.event a.outcome, drops_ask tx before (Some home) drops d) m some
behind_tells splits body tx birth acts before _ _ (at_look home cause asked told drops all a l d) on x t (inl same) some =
    subst (λ u. Told u (asked ∷ told ∷ drops)) (asked_by tx t home asked a (ap asks same ∙ some))
    (record { entry = told; among = inr (inl refl); ends = inr (aborts tx home cause told l) })
behind_tells splits body tx birth acts before _ _ (at_look home cause asked told drops all a l d) on x t (inr m) some =
    among_none t x (told ∷ drops) (look_asks tx home (Aborted cause) told l, drops_ask tx before (Some home) drops d) m some
behind_tells splits body tx birth acts before _ _ (down n here drops u d) on x t m some = absurd cc
behind_tells splits body tx birth acts before _ _ (unsettled n home asked all a) on x t m some = absurd cc
behind_tells splits body tx birth acts before _ _ (wanting_before cause here w u) on x t m some = absurd cc
behind_tells splits body tx birth acts before _ _ (wanting_behind cause home asked w all a) on x t m some = absurd cc
behind_tells splits body tx birth acts before _ _ wanting_between on x t m some = absurd cc
behind_tells splits body tx birth acts before _ _ (unanswered op parts here next are) on x t m some = absurd cc
behind_tells splits body tx birth acts before _ _ (worn_at_line at drops all d) on x t m some = absurd cc

pub told_left : (t : TxId) (es fs : History) → Told t es → Told t (es ++ fs)
told_left t es fs w = record { entry = w.entry; among = among_left w.entry es fs w.among; ends = w.ends }

pub told_right : (t : TxId) (es fs : History) → Told t fs → Told t (es ++ fs)
told_right t es fs w = record { entry = w.entry; among = among_right w.entry es fs w.among; ends = w.ends }

pub try_tells : (splits : List ℕ) (body : Body) (birth : Birth) (y : Try) → IsTry splits body birth y → stopped_by y.end ≡ None → (x : ℕ × Entry) (t : TxId) → Among x y.entries → asks x ≡ Some t → Told t y.entries
try_tells splits body birth y is on x t m some =
    subst (Told t) (sym is.entries_are)
    (⊎_elim
    (λ a. among_none t x is.before (acts_ask splits y.tx birth 1 [] y.acts is.before is.acts_are) a some)
    (λ b. told_right t is.before is.behind (behind_tells splits body y.tx birth y.acts is.before y.end is.behind is.ends on x t b some))
    (among_append x is.before is.behind (subst (Among x) is.entries_are m)))

-- ---- tries, one after another

abbrev pub GoOn : List Try → Type 0
GoOn ts = AllByRecursion (λ y. stopped_by y.end ≡ None) ts
