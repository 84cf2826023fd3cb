-- Of the transactions of a session that went through as many are counted as acknowledged as the session has rows.
use Rattle.std.proofs.Common.{◌≡◌, refl, sym, ap, subst, ◌∙◌, ℕ, suc, ◌+◌, ◌≤◌, Bool, true, false, cond, List, [], ◌∷◌, ◌++◌, append-nil, append_assoc, length, Option, Some, None, arith}
use Rattle.std.specs.List.{AllByRecursion, list_all}
use Rattle.std.proofs.lemmas.Bool.{both_ways, and_parts}
use Rattle.clv_base.specs.declared.names.Birth.{Birth}
use Rattle.clv_base.specs.declared.events.Event.{Event}
use Rattle.clv_base.specs.declared.events.Event.TheVariants.{Op as OpEvent, RollTo, Request, Look}
use Rattle.clv_base.specs.Shards.{are_splits}
use Rattle.clv_base.specs.Journals.{History}
use Rattle.law_base.proofs.Lists.{all_append, all_mono}
use Rattle.script_lang.specs.Bodies.{Body}
use Rattle.script_lang.specs.Laws.{is_narrow, is_narrow_body}
use Rattle.session_books.specs.declared.books.Row.{Row}
use Rattle.session_books.specs.declared.counts.Counts.{Counts}
use Rattle.session_books.specs.Counts.{counts_in, is_open}
use Rattle.session_books.specs.Books.{rows}
use Rattle.script_runs.specs.declared.ends.StopCause.{StopCause}
use Rattle.script_runs.specs.declared.ends.TryEnd.{TryEnd}
use Rattle.script_runs.specs.declared.ends.TryEnd.TheVariants as end
use Rattle.script_runs.specs.declared.fates.Fate.{Fate}
use Rattle.script_runs.specs.declared.fates.Fate.TheVariants.{Acknowledged, Unsettled, Aborted}
use Rattle.script_runs.specs.Tries.{Try, IsTry}
use Rattle.script_runs.specs.Sessions.{Transaction, InTries, last, none_left, stopped_between, further, is_to_retry, AreTransactions, all_done, not_begun, stopped, done, tries_of, entries_of}
use Rattle.script_runs.specs.Ran.{Rise, stamps, serials}
use Rattle.script_runs.specs.Told.{place_of}
use Rattle.script_runs.specs.Books.{rows_by, has_op, is_acknowledged, fate_by, fate_of, else_fate, fate_in, count_as, IsUpTo, AreUpTo, AcknowledgedHaveRows, OthersHaveNone, TransactionsAddToBooks, total}
use Rattle.script_runs.proofs.Laws.{entries_more}

-- ---- one try

-- how many of these are acknowledged
abbrev acked : Option Fate → ℕ
acked None = 0
acked (Some Acknowledged) = 1
acked (Some Unsettled) = 0
acked (Some Aborted) = 0

data Kind : TryEnd → Type 0 where
  acknowledged : Kind end.Acknowledged
  other : {e : TryEnd} → (e ≡ end.Acknowledged → ⊥) → is_acknowledged e ≡ false → Kind e

kind : (e : TryEnd) → Kind e
kind end.Acknowledged = acknowledged
kind end.Empty = other (λ f. absurd cc) refl
kind end.Asked = other (λ f. absurd cc) refl
kind (end.Aborted cause) = other (λ f. absurd cc) refl
kind (end.Stopped cause) = other (λ f. absurd cc) refl

unacked : (b c : Bool) → acked (cond b (Some (fate_by false c)) None) ≡ 0
unacked true true = refl
unacked true false = refl
unacked false c = refl

module _ (P : Row → Type 0) where
  -- a try that was acknowledged made an operation, and its row is so
  abbrev pub IsGood : Try → Type 0
  IsGood t = t.end ≡ end.Acknowledged → (has_op t.entries ≡ true) × ((r : Row) → r.tx ≡ t.tx → r.ops ≡ t.acts → P r)

  abbrev pub AreGood : List Transaction → Type 0
  AreGood trs = AllByRecursion (λ tr. AllByRecursion IsGood tr.tries) trs

  record Counted (rs : List Row) (f : Option Fate) : Type 0 where
    as_many : length rs ≡ acked f
    each : AllByRecursion P rs

  -- of a session its entries have as many rows as are counted acknowledged, each row is so, and so many transactions are counted at most
  pub record SessionCounted (es : History) (most : ℕ) : Type 0 where
    pub as_many : length (rows es) ≡ (counts_in es es).acknowledged
    pub each : AllByRecursion P (rows es)
    pub few : total (counts_in es es) ≤ most

module _ (have_rows : AcknowledgedHaveRows) (have_none : OthersHaveNone) (P : Row → Type 0) where
  module _ (splits : List ℕ) (rising : are_splits splits ≡ true) (body : Body) (narrow : list_all is_narrow body.actions ≡ true) where
    none_counted : (birth : Birth) (t : Try) → IsTry splits body birth t → (t.end ≡ end.Acknowledged → ⊥) → is_acknowledged t.end ≡ false → (rows t.entries ≡ []) × (acked (fate_of t.tx t.end t.entries) ≡ 0)
    none_counted birth t is isnt so =
        (have_none splits body birth t is isnt, ap (λ b. acked (cond (has_op t.entries) (Some (fate_by b (is_open t.entries t.tx))) None)) so ∙ unacked (has_op t.entries) (is_open t.entries t.tx))

    one_counted : (birth : Birth) (t : Try) → IsTry splits body birth t → IsGood P t → (e : TryEnd) → t.end ≡ e → Kind e → Counted P (rows t.entries) (fate_of t.tx t.end t.entries)
    one_counted birth t is good _ ends acknowledged =
        let r = have_rows splits body birth t rising narrow is ends in
        let g = good ends in
        let row : Row = record { tx = t.tx; point = place_of (r.0).asked; ops = t.acts } in
        let fate = ap (λ b. cond b (Some (fate_by (is_acknowledged t.end) (is_open t.entries t.tx))) None) g.0 ∙ ap (λ e. Some (fate_by (is_acknowledged e) (is_open t.entries t.tx))) ends in
        let one : AllByRecursion P (row ∷ []) = (g.1 row refl refl, tt) in
        record { as_many = ap length r.1 ∙ sym (ap acked fate); each = subst (AllByRecursion P) (sym r.1) one }
    one_counted birth t is good e ends (other isnt so) =
        let n = none_counted birth t is (λ f. isnt (sym ends ∙ f)) (ap is_acknowledged ends ∙ so) in
        record { as_many = ap length n.0 ∙ sym n.1; each = subst (AllByRecursion P) (sym n.0) tt }

    alone : (birth : Birth) (t : Try) → IsTry splits body birth t → IsGood P t → Counted P (rows_by (t ∷ [])) (fate_in (t ∷ []))
    alone birth t is good = let c = one_counted birth t is good t.end refl (kind t.end) in record { as_many = ap length (append-nil (rows t.entries)) ∙ c.as_many; each = subst (AllByRecursion P) (sym (append-nil (rows t.entries))) c.each }

    retried : (e : TryEnd) → is_to_retry e ≡ true → (e ≡ end.Acknowledged → ⊥) × (is_acknowledged e ≡ false)
    retried end.Acknowledged r = absurd (both_ways false refl r)
    retried end.Empty r = ((λ f. absurd cc), refl)
    retried end.Asked r = ((λ f. absurd cc), refl)
    retried (end.Aborted cause) r = ((λ f. absurd cc), refl)
    retried (end.Stopped cause) r = ((λ f. absurd cc), refl)

    else_acked : (f g : Option Fate) → acked g ≡ 0 → acked (else_fate f g) ≡ acked f
    else_acked None g e = e
    else_acked (Some f) g e = refl

    tries_counted : (birth : Birth) (most : Option ℕ) (n : ℕ) (ts : List Try) (cause : Option StopCause) → InTries most n ts cause → AllByRecursion (IsTry splits body birth) ts → AllByRecursion (IsGood P) ts → Counted P (rows_by ts) (fate_in ts)
    tries_counted birth most _ _ _ (last n t h) is good = alone birth t is.0 good.0
    tries_counted birth most _ _ _ (none_left n t h k) is good = alone birth t is.0 good.0
    tries_counted birth most _ _ _ (stopped_between n t cause s h k) is good = alone birth t is.0 good.0
    tries_counted birth most _ _ _ (further n t ts cause h k more) is good =
        let r = retried t.end h in
        let none = none_counted birth t is.0 r.0 r.1 in
        let c = tries_counted birth most (suc n) ts cause more is.1 good.1 in
        let same : rows_by (t ∷ ts) ≡ rows_by ts = ap (λ l. l ++ rows_by ts) none.0 in
        record { as_many = ap length same ∙ c.as_many ∙ sym (else_acked (fate_in ts) (fate_of t.tx t.end t.entries) none.1); each = subst (AllByRecursion P) (sym same) c.each }

  -- ---- a session

  counted_as : (f : Option Fate) (c : Counts) → ((count_as f c).acknowledged ≡ acked f + c.acknowledged) × (total (count_as f c) ≤ suc (total c))
  counted_as None c = (omega arith, omega arith)
  counted_as (Some Acknowledged) c = (omega arith, omega arith)
  counted_as (Some Unsettled) c = (omega arith, omega arith)
  counted_as (Some Aborted) c = (omega arith, omega arith)

  long : {A : Type 0} (xs ys : List A) → length (xs ++ ys) ≡ length xs + length ys
  long [] ys = omega arith
  long (x ∷ xs) ys = let l = long xs ys in omega arith

  -- numbers that rise, in two lists
  parted : (lo : ℕ) (ts us : List Try) (hi : ℕ) → Rise lo (serials (ts ++ us)) hi → (mid : ℕ) × Rise lo (serials ts) mid × Rise mid (serials us) hi
  parted lo [] us hi r = (lo, omega arith, r)
  parted lo (t ∷ ts) us hi r = let p = parted (t.tx).serial ts us hi r.1 in (p.0, (r.0, p.1), p.2)

  up_to_last : (lo : ℕ) (ns : List ℕ) (hi : ℕ) → Rise lo ns hi → lo ≤ hi
  up_to_last lo [] hi r = r
  up_to_last lo (n ∷ ns) hi r = let l = r.0 in let u = up_to_last n ns hi r.1 in omega arith

  -- what is said of it is up to greater ones too
  still : (serial serial' clock clock' : ℕ) → serial ≤ serial' → clock ≤ clock' → (e : Event) → IsUpTo serial clock e → IsUpTo serial' clock' e
  still s s' c c' l m (OpEvent tx birth nth seen op) h = (let a = h.0 in omega arith, let b = h.1 in omega arith)
  still s s' c c' l m (RollTo tx nth seen upto) h = omega arith
  still s s' c c' l m (Request tx touched) h = omega arith
  still s s' c c' l m (Look tx) h = omega arith
  still s s' c c' l m _ h = tt

  module _ (add : TransactionsAddToBooks) (splits : List ℕ) (rising : are_splits splits ≡ true) (run walker : ℕ) (most : Option ℕ) where
    from_here :
        (bodies : List Body) (trs : List Transaction) (cause : Option StopCause) → AreTransactions splits run walker most bodies trs cause → cause ≡ None → list_all is_narrow_body bodies ≡ true → AreGood P trs
        → (serial clock top high : ℕ) → Rise clock (stamps trs) top → Rise serial (serials (tries_of trs)) high → (es : History) (so_far : ℕ) → AreUpTo serial clock es → SessionCounted P es so_far
        → SessionCounted P (es ++ entries_of (tries_of trs)) (length bodies + so_far)
    from_here _ _ _ all_done none narrow good serial clock top high births names es so_far up c = subst (λ l. SessionCounted P l (0 + so_far)) (sym (append-nil es)) (record { as_many = c.as_many; each = c.each; few = let f = c.few in omega arith })
    from_here _ _ _ (not_begun body bodies at) none narrow good serial clock top high births names es so_far up c = absurd cc
    from_here _ _ _ (stopped tr bodies cause is) none narrow good serial clock top high births names es so_far up c = absurd cc
    from_here _ _ _ (done tr bodies trs cause is more) none narrow good serial clock top high births names es so_far up c =
        let both = and_parts (is_narrow_body tr.body) (list_all is_narrow_body bodies) narrow in
        let p = parted serial tr.tries (tries_of trs) high names in
        let next = p.0 in
        let new = entries_of tr.tries in
        let a = add splits run walker most tr None es serial next clock is up p.1 births.0 in
        let t = tries_counted splits rising tr.body both.0 tr.birth most 1 tr.tries None is.in_tries is.each good.0 in
        let counts = counted_as (fate_in tr.tries) (counts_in es es) in
        let rising_to = up_to_last serial (serials tr.tries) next p.1 in
        let late = births.0 in
        let up_now = all_append (λ e. IsUpTo next (tr.birth).stamp (e.1).event) es new (all_mono (λ e. IsUpTo serial clock (e.1).event) (λ e. IsUpTo next (tr.birth).stamp (e.1).event) (λ e h. still serial next clock (tr.birth).stamp rising_to (omega arith) (e.1).event h) es up) a.2 in
        let now : SessionCounted P (es ++ new) (suc so_far) =
        record {
          as_many =
              ap length a.0 ∙ long (rows es) (rows_by tr.tries)
              ∙ (let l = t.as_many in let k = c.as_many in let m = counts.0 in let same : length (rows es) + length (rows_by tr.tries) ≡ (count_as (fate_in tr.tries) (counts_in es es)).acknowledged = omega arith in same)
              ∙ sym (ap (λ (k : Counts). k.acknowledged) a.1);
          each = subst (AllByRecursion P) (sym a.0) (all_append P (rows es) (rows_by tr.tries) c.each t.each);
          few = subst (λ (k : Counts). total k ≤ suc so_far) (sym a.1) (let f = c.few in let g = counts.1 in omega arith);
        } in
        let rest = from_here bodies trs cause more none both.1 good.1 next (tr.birth).stamp top high births.1 p.2 (es ++ new) (suc so_far) up_now now in
        subst (λ l. SessionCounted P l (suc (length bodies) + so_far)) (append_assoc es new (entries_of (tries_of trs)) ∙ sym (ap (λ l. es ++ l) (entries_more tr.tries (tries_of trs))))
        (record { as_many = rest.as_many; each = rest.each; few = let f = rest.few in omega arith })

    pub session_counted :
        (bodies : List Body) (trs : List Transaction) → AreTransactions splits run walker most bodies trs None → list_all is_narrow_body bodies ≡ true → AreGood P trs
        → (top high : ℕ) → Rise 0 (stamps trs) top → Rise 0 (serials (tries_of trs)) high → SessionCounted P (entries_of (tries_of trs)) (length bodies)
    session_counted bodies trs in_order narrow good top high births names =
        let c = from_here bodies trs None in_order refl narrow good 0 0 top high births names [] 0 tt (record { as_many = refl; each = tt; few = omega arith }) in
        record { as_many = c.as_many; each = c.each; few = let f = c.few in omega arith }
