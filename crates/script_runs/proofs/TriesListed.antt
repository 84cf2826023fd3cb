-- What a try's entries are, by how it ended.
use Rattle.std.proofs.Common.{◌≡◌, refl, sym, ap, subst, ◌∙◌, ℕ, suc, Bool, true, false, cond, ◌||◌, List, [], ◌∷◌, ◌++◌, length, Option, Some, None}
use Rattle.std.specs.List.{AllByRecursion, list_any}
use Rattle.std.proofs.lemmas.Bool.{both_ways}
use Rattle.std.proofs.lemmas.List.Folds.{list_any-append}
use Rattle.clv_base.specs.declared.names.TxId.{TxId}
use Rattle.clv_base.specs.declared.names.Birth.{Birth}
use Rattle.clv_base.specs.declared.ops.Op.{Op}
use Rattle.clv_base.specs.declared.events.Event.{Event}
use Rattle.clv_base.specs.declared.events.Event.TheVariants.{Op as OpEvent, RollTo, Request, Look, Drop}
use Rattle.clv_base.specs.declared.events.Outcome.{Outcome}
use Rattle.clv_base.specs.declared.events.Outcome.TheVariants.{Answered, Rolled, Asked, Acknowledged}
use Rattle.clv_base.specs.declared.events.Entry.{Entry}
use Rattle.clv_base.specs.Orders.{tx_same}
use Rattle.clv_base.specs.Maps.{Operates, GoesBack}
use Rattle.clv_base.specs.Journals.{History}
use Rattle.clv_base.specs.History.{act_of, acts_in}
use Rattle.law_base.proofs.Acts.{others_did, acts_before_none}
use Rattle.script_lang.specs.declared.actions.Ending.TheVariants.{Commit}
use Rattle.script_lang.specs.Bodies.{Body}
use Rattle.script_lang.specs.Following.{all_acts}
use Rattle.session_books.specs.Done.{Done}
use Rattle.script_runs.specs.declared.ends.StopCause.{StopCause}
use Rattle.script_runs.specs.declared.ends.TryEnd.{TryEnd}
use Rattle.script_runs.specs.declared.ends.TryEnd.TheVariants as end
use Rattle.script_runs.specs.Operations.{parts_of}
use Rattle.script_runs.specs.Acts.{answers_in}
use Rattle.script_runs.specs.Tries.{Try, IsTry, IsDone, IsRequest, IsLook, EndsBy, acknowledged, nothing, by_line, in_operation, in_going_back, at_request, at_look, down, unsettled, wanting_before, wanting_behind, wanting_between, unanswered, worn_at_line, is_want}
use Rattle.script_runs.specs.TriesLaws.{AcknowledgedDidTheirLines, DidItsLines, all_parts, EntriesTellTheirLines, EntriesTellOfNoOther, is_drop, MayDrop, DropsHaveReasons, IsBornSo}
use Rattle.script_runs.specs.TriesTell.{ArePartsOf, EntriesTellTheirAnswers}
use Rattle.script_runs.proofs.Stepping.{past_acts}
use Rattle.script_runs.proofs.EntryKinds.{AreActsOf, acts_are, parts_are, way_is, acts_all, entries_all}
use Rattle.script_runs.proofs.ActsTold.{acts_told, parts_numbered}

-- ---- an acknowledged try

-- what stands behind its operations
record Settled (body : Body) (tx : TxId) (acts : List Done) (behind : History) : Type 0 where
  home : ℕ
  asked : ℕ × Entry
  told : ℕ × Entry
  behind_is : behind ≡ asked ∷ told ∷ []
  all : IsDone body Commit acts
  asked_is : IsRequest tx home Asked asked
  told_is : IsLook tx home Acknowledged told

settled : (splits : List ℕ) (body : Body) (tx : TxId) (birth : Birth) (acts : List Done) (before : History) (e : TryEnd) (behind : History) → EndsBy splits body tx birth acts before e behind → e ≡ end.Acknowledged
    → Settled body tx acts behind
settled splits body tx birth acts before _ _ (acknowledged home asked told all a l) h = record { home = home; asked = asked; told = told; behind_is = refl; all = all; asked_is = a; told_is = l }
settled splits body tx birth acts before _ _ (nothing all none) h = absurd cc
settled splits body tx birth acts before _ _ (by_line drops all d) h = absurd cc
settled splits body tx birth acts before _ _ (in_operation op cause n here drops next died d) h = absurd cc
settled splits body tx birth acts before _ _ (in_going_back upto cause n here drops next died d) h = absurd cc
settled splits body tx birth acts before _ _ wanting_between h = absurd cc
settled splits body tx birth acts before _ _ (at_request home cause asked drops all a d) h = absurd cc
settled splits body tx birth acts before _ _ (at_look home cause asked told drops all a l d) h = absurd cc
settled splits body tx birth acts before _ _ (down n here drops u d) h = absurd cc
settled splits body tx birth acts before _ _ (unsettled n home asked all a) h = absurd cc
settled splits body tx birth acts before _ _ (wanting_before cause here w u) h = absurd cc
settled splits body tx birth acts before _ _ (unanswered op parts here next are) h = absurd cc
settled splits body tx birth acts before _ _ (wanting_behind cause home asked w all a) h = absurd cc
settled splits body tx birth acts before _ _ (worn_at_line at drops all d) h = absurd cc

pub acknowledged_did_their_lines : AcknowledgedDidTheirLines
acknowledged_did_their_lines splits body birth t is e =
    let s = settled splits body t.tx birth t.acts is.before t.end is.behind is.ends e in
    record {
      ending_is = s.all.ending_is;
      before = is.before;
      home = s.home;
      asked = s.asked;
      told = s.told;
      entries_are = is.entries_are ∙ ap (λ b. is.before ++ b) s.behind_is;
      all = is.follows ∙ past_acts (all_acts body.actions (answers_in t.acts)) (length t.acts) s.all.all;
      acts_are = is.acts_are;
      asked_is = s.asked_is;
      told_is = s.told_is;
    }

-- ---- what its entries tell

told_by : (tx : TxId) (e : ℕ × Entry) (event : Event) → (e.1).event ≡ event → ((o : Outcome) → act_of tx event o ≡ None) → act_of tx (e.1).event (e.1).outcome ≡ None
told_by tx e event h k = ap (λ ev. act_of tx ev (e.1).outcome) h ∙ k (e.1).outcome

pub request_tells : (tx : TxId) (home : ℕ) (o : Outcome) (e : ℕ × Entry) → IsRequest tx home o e → act_of tx (e.1).event (e.1).outcome ≡ None
request_tells tx home o e is = told_by tx e (Request tx is.touched) is.event (λ o. refl)

pub look_tells : (tx : TxId) (home : ℕ) (o : Outcome) (e : ℕ × Entry) → IsLook tx home o e → act_of tx (e.1).event (e.1).outcome ≡ None
look_tells tx home o e is = told_by tx e (Look tx) is.event (λ o. refl)

-- those of what it did tell all
pub tells_before : (splits : List ℕ) (body : Body) (birth : Birth) (t : Try) (d : DidItsLines splits body birth t) → acts_in t.tx t.entries ≡ acts_in t.tx d.before
tells_before splits body birth t d =
    ap (acts_in t.tx) d.entries_are
    ∙ acts_before_none t.tx d.before (d.asked ∷ d.told ∷ []) (others_did t.tx (d.asked ∷ d.told ∷ []) (request_tells t.tx d.home Asked d.asked d.asked_is, (look_tells t.tx d.home Acknowledged d.told d.told_is, tt)))

pub entries_tell_their_answers : EntriesTellTheirAnswers
entries_tell_their_answers splits body birth t is e =
    let d = acknowledged_did_their_lines splits body birth t is e in
    subst (ArePartsOf splits 1 t.acts) (sym (tells_before splits body birth t d)) (acts_told t.tx splits birth 1 [] t.acts d.before d.acts_are)

pub entries_tell_their_lines : EntriesTellTheirLines
entries_tell_their_lines splits body birth t is e =
    let d = acknowledged_did_their_lines splits body birth t is e in
    parts_numbered splits 1 t.acts (acts_in t.tx t.entries) (entries_tell_their_answers splits body birth t is e) ∙ ap (all_parts splits 1) d.all

-- ---- drops

abbrev drops_in : History → Bool
drops_in es = list_any (λ e. is_drop (e.1).event) es

none_more : (es fs : History) → drops_in es ≡ false → drops_in fs ≡ false → drops_in (es ++ fs) ≡ false
none_more es fs h k = list_any-append (λ e. is_drop (e.1).event) es fs ∙ ap (λ b. b || drops_in fs) h ∙ k

one_more : (e : ℕ × Entry) (event : Event) (es : History) → (e.1).event ≡ event → is_drop event ≡ false → drops_in es ≡ false → drops_in (e ∷ es) ≡ false
one_more e event es h k rest = ap (λ ev. is_drop ev || drops_in es) h ∙ ap (λ b. b || drops_in es) k ∙ rest

all_none : (es : History) → AllByRecursion (λ e. is_drop (e.1).event ≡ false) es → drops_in es ≡ false
all_none [] h = refl
all_none (e ∷ es) h = ap (λ b. b || drops_in es) h.0 ∙ all_none es h.1

acts_drop : (tx : TxId) (birth : Birth) (es : History) → AreActsOf tx birth es → drops_in es ≡ false
acts_drop tx birth es o = all_none es (acts_all tx birth (λ e. is_drop (e.1).event ≡ false) (λ e k. ap is_drop k.event) (λ e k. ap is_drop k.event) es o)

-- where stamps or memory were wanting there is no drop, but at the line `abort`
wanted : (body : Body) (cause : StopCause) (es : History) → is_want cause ≡ true → drops_in es ≡ false → drops_in es ≡ true → MayDrop body (end.Stopped cause)
wanted body cause es w none some = absurd (both_ways (drops_in es) none some)

reasons : (splits : List ℕ) (body : Body) (tx : TxId) (birth : Birth) (acts : List Done) (before : History) (e : TryEnd) (behind : History) → EndsBy splits body tx birth acts before e behind → drops_in behind ≡ true
    → MayDrop body e
reasons splits body tx birth acts before _ _ (acknowledged home asked told all a l) h =
    absurd (both_ways (drops_in (asked ∷ told ∷ [])) (one_more asked (Request tx a.touched) (told ∷ []) a.event refl (one_more told (Look tx) [] l.event refl refl)) h)
reasons splits body tx birth acts before _ _ (nothing all none) h = absurd (both_ways false refl h)
reasons splits body tx birth acts before _ _ (by_line drops all d) h = all.ending_is
reasons splits body tx birth acts before _ _ (in_operation op cause n here drops next died d) h = tt
reasons splits body tx birth acts before _ _ (in_going_back upto cause n here drops next died d) h = tt
reasons splits body tx birth acts before _ _ wanting_between h = absurd (both_ways false refl h)
reasons splits body tx birth acts before _ _ (at_request home cause asked drops all a d) h = tt
reasons splits body tx birth acts before _ _ (at_look home cause asked told drops all a l d) h = tt
reasons splits body tx birth acts before _ _ (down n here drops u d) h = tt
reasons splits body tx birth acts before _ _ (unsettled n home asked all a) h = absurd (both_ways (drops_in (asked ∷ [])) (one_more asked (Request tx a.touched) [] a.event refl refl) h)
reasons splits body tx birth acts before _ _ (wanting_before cause here w u) h = wanted body cause here w (acts_drop tx birth here (way_is tx birth splits body acts here u)) h
reasons splits body tx birth acts before _ _ (unanswered op parts here next are) h = absurd (both_ways (drops_in here) (acts_drop tx birth here (parts_are tx birth (suc (length acts)) (parts_of splits op) parts here are)) h)
reasons splits body tx birth acts before _ _ (wanting_behind cause home asked w all a) h = wanted body cause (asked ∷ []) w (one_more asked (Request tx a.touched) [] a.event refl refl) h
reasons splits body tx birth acts before _ _ (worn_at_line at drops all d) h = all.ending_is

pub drops_have_reasons : DropsHaveReasons
drops_have_reasons splits body birth t is h =
    let none = acts_drop t.tx birth is.before (acts_are t.tx birth splits 1 [] t.acts is.before is.acts_are) in
    reasons splits body t.tx birth t.acts is.before t.end is.behind is.ends
    (sym (ap (λ b. b || drops_in is.behind) none) ∙ sym (list_any-append (λ e. is_drop (e.1).event) is.before is.behind) ∙ sym (ap drops_in is.entries_are) ∙ h)

-- ---- births

born_so : (birth : Birth) (e : ℕ × Entry) (event : Event) → (e.1).event ≡ event → IsBornSo birth event → IsBornSo birth (e.1).event
born_so birth e event h k = subst (IsBornSo birth) (sym h) k

pub try_born : (splits : List ℕ) (body : Body) (birth : Birth) (t : Try) → IsTry splits body birth t → AllByRecursion (λ e. IsBornSo birth (e.1).event) t.entries
try_born splits body birth t is =
    entries_all t.tx birth (λ e. IsBornSo birth (e.1).event) (λ e o. born_so birth e (OpEvent t.tx birth o.nth o.seen o.op) o.event refl) (λ e b. born_so birth e (RollTo t.tx b.nth b.seen b.upto) b.event tt)
    (λ e d. born_so birth e (Drop t.tx) d tt) (λ home o e a. born_so birth e (Request t.tx a.touched) a.event tt) (λ home o e l. born_so birth e (Look t.tx) l.event tt) splits body t.acts t.end t.entries is

-- ---- what they tell of others

module _ (tx other : TxId) (apart : tx_same tx other ≡ false) where
  op_silent : (birth : Birth) (nth : ℕ) (seen : Option ℕ) (op : Op) (o : Outcome) → act_of tx (OpEvent other birth nth seen op) o ≡ None
  op_silent birth nth seen op (Answered answer epoch) = ap (λ b. cond b (Some (nth, Operates op, Some answer)) None) apart
  op_silent birth nth seen op _ = refl

  back_silent : (nth seen upto : ℕ) (o : Outcome) → act_of tx (RollTo other nth seen upto) o ≡ None
  back_silent nth seen upto Rolled = ap (λ b. cond b (Some (nth, GoesBack upto, None)) None) apart
  back_silent nth seen upto _ = refl

pub entries_tell_of_no_other : EntriesTellOfNoOther
entries_tell_of_no_other splits body birth t tx is apart =
    others_did tx t.entries
    (entries_all t.tx birth (λ e. act_of tx (e.1).event (e.1).outcome ≡ None) (λ e o. told_by tx e (OpEvent t.tx birth o.nth o.seen o.op) o.event (op_silent tx t.tx apart birth o.nth o.seen o.op))
    (λ e b. told_by tx e (RollTo t.tx b.nth b.seen b.upto) b.event (back_silent tx t.tx apart b.nth b.seen b.upto)) (λ e d. told_by tx e (Drop t.tx) d (λ o. refl))
    (λ home o e a. told_by tx e (Request t.tx a.touched) a.event (λ o. refl)) (λ home o e l. told_by tx e (Look t.tx) l.event (λ o. refl)) splits body t.acts t.end t.entries is)
