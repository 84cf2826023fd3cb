-- A transaction's tries, and a session's transactions.
use Rattle.std.proofs.Common.{◌≡◌, refl, sym, ap, subst, ◌∙◌, ℕ, suc, ◌+◌, ◌<◌, ◌≤◌, true, false, nat_lt, List, [], ◌∷◌, ◌++◌, length, map, append_assoc, Option, Some, None, arith}
use Rattle.std.specs.List.{AllByRecursion}
use Rattle.std.proofs.lemmas.Bool.{both_ways, ltb-true, and_parts}
use Rattle.clv_base.specs.declared.names.TxId.{TxId}
use Rattle.clv_base.specs.declared.names.Birth.{Birth}
use Rattle.clv_base.specs.declared.causes.AbortCause.{AbortCause}
use Rattle.clv_base.specs.declared.causes.AbortCause.TheVariants.{Asked, Died, Predecessor, NoVote, Restarted}
use Rattle.clv_base.specs.FileRules.{numbers_rise}
use Rattle.clv_base.specs.Journals.{History}
use Rattle.clv_base.specs.History.{acts_in}
use Rattle.clv_base.proofs.SameNames.{tx_ne}
use Rattle.script_lang.specs.Bodies.{Body}
use Rattle.session_books.specs.Done.{Done}
use Rattle.script_runs.specs.declared.ends.StopCause.{StopCause}
use Rattle.script_runs.specs.declared.ends.TryEnd.{TryEnd}
use Rattle.script_runs.specs.declared.ends.TryEnd.TheVariants as end
use Rattle.script_runs.specs.Tries.{Try, IsTry, EndsBy, acknowledged, nothing, by_line, in_operation, in_going_back, at_request, at_look, down, unsettled, wanting_before, wanting_behind, wanting_between, unanswered, worn_at_line}
use Rattle.script_runs.specs.Sessions.{Transaction, IsTransaction, InTries, last, none_left, stopped_between, further, is_to_retry, stopped_by, has_left, AreTransactions, all_done, not_begun, stopped, done, entries_of, tries_of}
use Rattle.script_runs.specs.TriesLaws.{TriesAreFew, IsBornSo, TriesHaveOneBirth, TransactionsHaveOwnBirths, Completes, IsComplete, SessionsGoThrough, SessionsTellTheirTries}
use Rattle.script_runs.specs.TriesLaws as laws
use Rattle.script_runs.proofs.TriesListed.{try_born, entries_tell_of_no_other}
use Rattle.law_base.proofs.Lists.{all_append}
use Rattle.law_base.proofs.Acts.{acts_before_none, acts_after_none}

-- ---- how many tries

few : (most n : ℕ) (ts : List Try) (cause : Option StopCause) → InTries (Some most) n ts cause → n ≤ most → n + length ts ≤ suc most
few most _ _ _ (last n t h) low = omega arith
few most _ _ _ (none_left n t h k) low = omega arith
few most _ _ _ (stopped_between n t cause s h k) low = omega arith
few most _ _ _ (further n t ts cause h k more) low = let within = ltb-true n most k in let i = few most (suc n) ts cause more (omega arith) in omega arith

pub tries_are_few : TriesAreFew
tries_are_few splits run walker most tr cause is some = let f = few most 1 tr.tries cause is.in_tries some in omega arith

-- ---- births

all_born : (splits : List ℕ) (body : Body) (birth : Birth) (ts : List Try) → AllByRecursion (IsTry splits body birth) ts → AllByRecursion (λ e. IsBornSo birth (e.1).event) (entries_of ts)
all_born splits body birth [] is = tt
all_born splits body birth (t ∷ ts) is = all_append (λ e. IsBornSo birth (e.1).event) t.entries (entries_of ts) (try_born splits body birth t is.0) (all_born splits body birth ts is.1)

pub tries_have_one_birth : TriesHaveOneBirth
tries_have_one_birth splits run walker most tr cause is = all_born splits tr.body tr.birth tr.tries is.each

abbrev stamps : List Transaction → List ℕ
stamps trs = map (λ tr. (tr.birth).stamp) trs

tail_rises : (n : ℕ) (ns : List ℕ) → numbers_rise (n ∷ ns) ≡ true → numbers_rise ns ≡ true
tail_rises n [] h = refl
tail_rises n (m ∷ ns) h = (and_parts (nat_lt n m) (numbers_rise (m ∷ ns)) h).1

behind_rises : (front trs : List Transaction) → numbers_rise (stamps (front ++ trs)) ≡ true → numbers_rise (stamps trs) ≡ true
behind_rises [] trs h = h
behind_rises (tr ∷ front) trs h = behind_rises front trs (tail_rises (tr.birth).stamp (stamps (front ++ trs)) h)

earlier_is_less : (a b : Transaction) (between behind : List Transaction) → numbers_rise (stamps (a ∷ between ++ b ∷ behind)) ≡ true → (a.birth).stamp < (b.birth).stamp
earlier_is_less a b [] behind h = ltb-true (a.birth).stamp (b.birth).stamp (and_parts (nat_lt (a.birth).stamp (b.birth).stamp) (numbers_rise (stamps (b ∷ behind))) h).0
earlier_is_less a b (c ∷ between) behind h =
    let parts = and_parts (nat_lt (a.birth).stamp (c.birth).stamp) (numbers_rise (stamps (c ∷ between ++ b ∷ behind))) h in
    let first = ltb-true (a.birth).stamp (c.birth).stamp parts.0 in
    let rest = earlier_is_less c b between behind parts.1 in
    omega arith

pub transactions_have_own_births : TransactionsHaveOwnBirths
transactions_have_own_births splits run walker most bodies cause es f front between behind a b is same =
    let less = earlier_is_less a b between behind (behind_rises front (a ∷ between ++ b ∷ behind) (sym (ap (λ trs. numbers_rise (stamps trs)) (is ∙ append_assoc front (a ∷ between) (b ∷ behind))) ∙ f.births_rise)) in
    let equal : (a.birth).stamp ≡ (b.birth).stamp = ap (λ birth. birth.stamp) same in
    omega arith

-- ---- the whole session

was_asked : (most : Option ℕ) (body : Body) (count : ℕ) (cause : AbortCause) → is_to_retry (end.Aborted cause) ≡ false → Completes most body count (end.Aborted cause)
was_asked most body count Asked h = laws.was_asked
was_asked most body count (Died older) h = absurd (both_ways true h refl)
was_asked most body count (Predecessor tx) h = absurd (both_ways true h refl)
was_asked most body count (NoVote shard why) h = absurd (both_ways true h refl)
was_asked most body count (Restarted shard seen now) h = absurd (both_ways true h refl)

ended : (most : Option ℕ) (count : ℕ) (splits : List ℕ) (body : Body) (tx : TxId) (birth : Birth) (acts : List Done) (before : History) (e : TryEnd) (behind : History) → EndsBy splits body tx birth acts before e behind
    → is_to_retry e ≡ false → stopped_by e ≡ None → Completes most body count e
ended most count splits body tx birth acts before _ _ (acknowledged home asked told all a l) r s = laws.acknowledged all.ending_is
ended most count splits body tx birth acts before _ _ (nothing all none) r s = laws.empty all.ending_is
ended most count splits body tx birth acts before _ _ (by_line drops all d) r s = laws.by_line all.ending_is
ended most count splits body tx birth acts before _ _ (in_operation op cause n here drops next died d) r s = was_asked most body count cause r
ended most count splits body tx birth acts before _ _ (in_going_back upto cause n here drops next died d) r s = was_asked most body count cause r
ended most count splits body tx birth acts before _ _ (at_request home cause asked drops all a d) r s = was_asked most body count cause r
ended most count splits body tx birth acts before _ _ (at_look home cause asked told drops all a l d) r s = was_asked most body count cause r
ended most count splits body tx birth acts before _ _ (down n here drops u d) r s = absurd cc
ended most count splits body tx birth acts before _ _ (unsettled n home asked all a) r s = absurd cc
ended most count splits body tx birth acts before _ _ (wanting_before cause here w u) r s = absurd cc
ended most count splits body tx birth acts before _ _ wanting_between r s = absurd cc
ended most count splits body tx birth acts before _ _ (unanswered op parts here next are) r s = absurd cc
ended most count splits body tx birth acts before _ _ (wanting_behind cause home asked w all a) r s = absurd cc
ended most count splits body tx birth acts before _ _ (worn_at_line at drops all d) r s = absurd cc

record Ends (most : Option ℕ) (body : Body) (count : ℕ) (ts : List Try) : Type 0 where
  front : List Try
  final : Try
  tries_are : ts ≡ front ++ final ∷ []
  completes : Completes most body count final.end

goes : (most : Option ℕ) (count : ℕ) (splits : List ℕ) (body : Body) (birth : Birth) (n : ℕ) (ts : List Try) (cause : Option StopCause) → InTries most n ts cause → cause ≡ None → suc count ≡ n + length ts
    → AllByRecursion (IsTry splits body birth) ts → Ends most body count ts
goes most count splits body birth _ _ _ (last n t r) none is each =
    record { front = []; final = t; tries_are = refl; completes = ended most count splits body t.tx birth t.acts (each.0).before t.end (each.0).behind (each.0).ends r none }
goes most count splits body birth _ _ _ (none_left n t r k) none is each =
    let same : n ≡ count = omega arith in
    record { front = []; final = t; tries_are = refl; completes = laws.no_try_left t.end r (ap (has_left most) (sym same) ∙ k) }
goes most count splits body birth _ _ _ (stopped_between n t cause s r k) none is each = absurd cc
goes most count splits body birth _ _ _ (further n t ts cause r k more) none is each =
    let i = goes most count splits body birth (suc n) ts cause more none (omega arith) each.1 in
    record { front = t ∷ i.front; final = i.final; tries_are = ap (λ l. t ∷ l) i.tries_are; completes = i.completes }

complete : (splits : List ℕ) (run walker : ℕ) (most : Option ℕ) (tr : Transaction) → IsTransaction splits run walker most tr None → IsComplete most tr
complete splits run walker most tr is =
    let g = goes most (length tr.tries) splits tr.body tr.birth 1 tr.tries None is.in_tries refl (omega arith) is.each in
    record { front = g.front; last = g.final; tries_are = g.tries_are; completes = g.completes }

goes_through : (splits : List ℕ) (run walker : ℕ) (most : Option ℕ) (bodies : List Body) (trs : List Transaction) (cause : Option StopCause) → AreTransactions splits run walker most bodies trs cause → cause ≡ None
    → (map (λ tr. tr.body) trs ≡ bodies) × AllByRecursion (IsComplete most) trs
goes_through splits run walker most _ _ _ all_done none = (refl, tt)
goes_through splits run walker most _ _ _ (not_begun body bodies at) none = absurd cc
goes_through splits run walker most _ _ _ (stopped tr bodies cause is) none = absurd cc
goes_through splits run walker most _ _ _ (done tr bodies trs cause is more) none =
    let i = goes_through splits run walker most bodies trs cause more none in
    (ap (λ l. tr.body ∷ l) i.0, (complete splits run walker most tr is, i.1))

pub sessions_go_through : SessionsGoThrough
sessions_go_through splits run walker most bodies es f = goes_through splits run walker most bodies f.transactions None f.in_order refl

-- ---- what the whole session tells

abbrev IsTried : List ℕ → Try → Type 0
IsTried splits t = (body : Body) × (birth : Birth) × IsTry splits body birth t

each_tried : (splits : List ℕ) (body : Body) (birth : Birth) (ts : List Try) → AllByRecursion (IsTry splits body birth) ts → AllByRecursion (IsTried splits) ts
each_tried splits body birth [] is = tt
each_tried splits body birth (t ∷ ts) is = ((body, birth, is.0), each_tried splits body birth ts is.1)

all_tried : (splits : List ℕ) (run walker : ℕ) (most : Option ℕ) (bodies : List Body) (trs : List Transaction) (cause : Option StopCause) → AreTransactions splits run walker most bodies trs cause
    → AllByRecursion (IsTried splits) (tries_of trs)
all_tried splits run walker most _ _ _ all_done = tt
all_tried splits run walker most _ _ _ (not_begun body bodies at) = tt
all_tried splits run walker most _ _ _ (stopped tr bodies cause is) = all_append (IsTried splits) tr.tries [] (each_tried splits tr.body tr.birth tr.tries is.each) tt
all_tried splits run walker most _ _ _ (done tr bodies trs cause is more) =
    all_append (IsTried splits) tr.tries (tries_of trs) (each_tried splits tr.body tr.birth tr.tries is.each) (all_tried splits run walker most bodies trs cause more)

abbrev serials : List Try → List ℕ
serials ts = map (λ t. (t.tx).serial) ts

silent_of : (splits : List ℕ) (tx : TxId) (t : Try) → IsTried splits t → (tx.serial ≡ (t.tx).serial → ⊥) → acts_in tx t.entries ≡ []
silent_of splits tx t is apart = entries_tell_of_no_other splits is.0 is.1 t tx is.2 (tx_ne tx t.tx (λ h. apart (ap (λ x. x.serial) h)))

later_silent : (splits : List ℕ) (tx : TxId) (n : ℕ) (ts : List Try) → AllByRecursion (IsTried splits) ts → tx.serial ≤ n → numbers_rise (n ∷ serials ts) ≡ true → acts_in tx (entries_of ts) ≡ []
later_silent splits tx n [] is low h = refl
later_silent splits tx n (t ∷ ts) is low h =
    let p = and_parts (nat_lt n (t.tx).serial) (numbers_rise (serials (t ∷ ts))) h in
    let less = ltb-true n (t.tx).serial p.0 in
    acts_after_none tx t.entries (entries_of ts) (silent_of splits tx t is.0 (λ same. omega arith))
    ∙ later_silent splits tx (t.tx).serial ts is.1 (omega arith) p.1

is_less : (u t : Try) (us behind : List Try) → numbers_rise (serials (u ∷ us ++ t ∷ behind)) ≡ true → (u.tx).serial < (t.tx).serial
is_less u t [] behind h = ltb-true (u.tx).serial (t.tx).serial (and_parts (nat_lt (u.tx).serial (t.tx).serial) (numbers_rise (serials (t ∷ behind))) h).0
is_less u t (w ∷ us) behind h =
    let p = and_parts (nat_lt (u.tx).serial (w.tx).serial) (numbers_rise (serials (w ∷ us ++ t ∷ behind))) h in
    let first = ltb-true (u.tx).serial (w.tx).serial p.0 in
    let rest = is_less w t us behind p.1 in
    omega arith

tells_one : (splits : List ℕ) (front behind : List Try) (t : Try) → AllByRecursion (IsTried splits) (front ++ t ∷ behind) → numbers_rise (serials (front ++ t ∷ behind)) ≡ true
    → acts_in t.tx (entries_of (front ++ t ∷ behind)) ≡ acts_in t.tx t.entries
tells_one splits [] behind t is h =
    acts_before_none t.tx t.entries (entries_of behind) (later_silent splits t.tx (t.tx).serial behind is.1 (omega arith) h)
tells_one splits (u ∷ front) behind t is h =
    let less = is_less u t front behind h in
    acts_after_none t.tx u.entries (entries_of (front ++ t ∷ behind)) (silent_of splits t.tx u is.0 (λ same. omega arith))
    ∙ tells_one splits front behind t is.1 (tail_rises (u.tx).serial (serials (front ++ t ∷ behind)) h)

pub sessions_tell_their_tries : SessionsTellTheirTries
sessions_tell_their_tries splits run walker most bodies cause es f front behind t is =
    ap (acts_in t.tx) (f.entries_are ∙ ap entries_of is)
    ∙ tells_one splits front behind t (subst (AllByRecursion (IsTried splits)) is (all_tried splits run walker most bodies f.transactions cause f.in_order))
    (sym (ap (λ ts. numbers_rise (serials ts)) is) ∙ f.serials_rise)
