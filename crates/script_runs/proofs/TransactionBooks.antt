-- What a transaction's tries add to a book.
use Rattle.std.proofs.Common.{◌≡◌, refl, sym, ap, subst, ◌∙◌, ℕ, suc, ◌+◌, ◌<◌, ◌≤◌, Bool, true, false, cond, ◌||◌, ◌&&◌, List, [], ◌∷◌, ◌++◌, append-nil, Option, Some, None, arith}
use Rattle.std.specs.Prelude.{is_some}
use Rattle.std.specs.List.{AllByRecursion}
use Rattle.std.proofs.lemmas.Bool.{both_ways, false_from_ne_true}
use Rattle.std.proofs.lemmas.List.Folds.{list_any-append}
use Rattle.clv_base.specs.declared.names.TxId.{TxId}
use Rattle.clv_base.specs.declared.names.Birth.{Birth}
use Rattle.clv_base.specs.declared.events.Event.{Event}
use Rattle.clv_base.specs.declared.events.Event.TheVariants.{Op, RollTo, Request, Look}
use Rattle.clv_base.specs.Journals.{History}
use Rattle.clv_base.specs.History.{acknowledged_in}
use Rattle.clv_base.proofs.SameNames.{or_right}
use Rattle.law_base.proofs.Bools.{by_bool, none_or, and_no}
use Rattle.law_base.proofs.Lists.{all_append, all_mono}
use Rattle.script_lang.specs.Bodies.{Body}
use Rattle.session_books.specs.Told.{try_of, same_birth, is_of_birth, has_birth}
use Rattle.session_books.specs.declared.counts.Counts.{Counts}
use Rattle.session_books.specs.Counts.{nothing_counted, counted, count_try, counts_in, is_open, is_acknowledged_try, has_acknowledged_try}
use Rattle.session_books.specs.Books.{rows}
use Rattle.script_runs.specs.declared.ends.StopCause.{StopCause}
use Rattle.script_runs.specs.declared.ends.TryEnd.{TryEnd}
use Rattle.script_runs.specs.declared.ends.TryEnd.TheVariants as end
use Rattle.script_runs.specs.declared.fates.Fate.{Fate}
use Rattle.script_runs.specs.declared.fates.Fate.TheVariants.{Acknowledged, Unsettled, Aborted}
use Rattle.script_runs.specs.Tries.{Try, IsTry}
use Rattle.script_runs.specs.Sessions.{InTries, last, none_left, stopped_between, further, is_to_retry, entries_of}
use Rattle.script_runs.specs.Ran.{Rise, serials}
use Rattle.script_runs.specs.Books.{rows_by, has_op, is_acknowledged, fate_by, fate_of, else_fate, fate_in, count_as, IsUpTo, AreUpTo, TransactionsAddToBooks}
use Rattle.script_runs.proofs.Quiet.{name_of, AreQuiet, AreNamed, TellAlike, first_alike, second_alike, any_second, quiet_past, quiet_before}
use Rattle.script_runs.proofs.BooksApart.{AreApart, AreBornApart, AreBorn, the_counts, CountAlike, plus, rows_apart, counts_apart, counts_alike, tries_alike, both_tried, named_as, birth_none, same_stamp}
use Rattle.script_runs.proofs.TryBooks.{same_name, try_named, try_births, try_fate, not_acknowledged, birth_or_none}

-- ---- names of tries

-- past the one and up to the other
abbrev IsWithin : ℕ → ℕ → TxId → Type 0
IsWithin lo hi u = (lo < u.serial) × (u.serial ≤ hi)

up_to_last : (lo : ℕ) (ns : List ℕ) (hi : ℕ) → Rise lo ns hi → lo ≤ hi
up_to_last lo [] hi r = r
up_to_last lo (n ∷ ns) hi r = let l = r.0 in let u = up_to_last n ns hi r.1 in omega arith

tries_named : (splits : List ℕ) (body : Body) (birth : Birth) (lo hi : ℕ) (ts : List Try) → AllByRecursion (IsTry splits body birth) ts → Rise lo (serials ts) hi → AreNamed (IsWithin lo hi) (entries_of ts)
tries_named splits body birth lo hi [] is r = tt
tries_named splits body birth lo hi (t ∷ ts) is r =
    let first = r.0 in
    let up = up_to_last (t.tx).serial (serials ts) hi r.1 in
    all_append (λ e. (u : TxId) → name_of (e.1).event ≡ Some u → IsWithin lo hi u) t.entries (entries_of ts)
    (named_as (λ u. u ≡ t.tx) (IsWithin lo hi) t.entries (λ u h. subst (IsWithin lo hi) (sym h) (first, up)) (try_named splits body birth t is.0))
    (named_as (IsWithin (t.tx).serial hi) (IsWithin lo hi) (entries_of ts) (λ u h. let l = h.0 in (omega arith, h.1)) (tries_named splits body birth (t.tx).serial hi ts is.1 r.1))

tries_births : (splits : List ℕ) (body : Body) (birth : Birth) (ts : List Try) → AllByRecursion (IsTry splits body birth) ts → AreBorn (λ x. x ≡ birth) (entries_of ts)
tries_births splits body birth [] is = tt
tries_births splits body birth (t ∷ ts) is =
    all_append (λ e. (p : TxId × Birth) → try_of (e.1).event ≡ Some p → p.1 ≡ birth) t.entries (entries_of ts) (try_births splits body birth t is.0) (tries_births splits body birth ts is.1)

-- those up to a serial and those past it
parted : (n : ℕ) (es fs : History) → AreNamed (λ u. u.serial ≤ n) es → AreNamed (λ u. n < u.serial) fs → AreApart es fs
parted n es fs low high =
    record {
      first = named_as (λ u. u.serial ≤ n) (λ u. AreQuiet u fs) es (λ u l. quiet_past u n fs l high) low;
      second = named_as (λ u. n < u.serial) (λ u. AreQuiet u es) fs (λ u l. quiet_before u n es l low) high;
    }

try_parted : (splits : List ℕ) (body : Body) (birth : Birth) (t : Try) (hi : ℕ) (ts : List Try) → IsTry splits body birth t → AllByRecursion (IsTry splits body birth) ts → Rise (t.tx).serial (serials ts) hi → AreApart t.entries (entries_of ts)
try_parted splits body birth t hi ts is each r =
    parted (t.tx).serial t.entries (entries_of ts)
    (named_as (λ u. u ≡ t.tx) (λ u. u.serial ≤ (t.tx).serial) t.entries (λ u h. subst (λ x. x.serial ≤ (t.tx).serial) (sym h) (omega arith)) (try_named splits body birth t is))
    (named_as (IsWithin (t.tx).serial hi) (λ u. (t.tx).serial < u.serial) (entries_of ts) (λ u h. h.0) (tries_named splits body birth (t.tx).serial hi ts each r))

-- ---- rows

tries_rows : (splits : List ℕ) (body : Body) (birth : Birth) (lo hi : ℕ) (ts : List Try) → AllByRecursion (IsTry splits body birth) ts → Rise lo (serials ts) hi → rows (entries_of ts) ≡ rows_by ts
tries_rows splits body birth lo hi [] is r = refl
tries_rows splits body birth lo hi (t ∷ ts) is r =
    rows_apart t.entries (entries_of ts) (try_parted splits body birth t hi ts is.0 is.1 r.1) ∙ ap (λ l. rows t.entries ++ l) (tries_rows splits body birth (t.tx).serial hi ts is.1 r.1)

-- ---- counts

-- entries of one birth count nothing before an operation of that birth
uncounted : (b : Birth) (h es fs : History) → AreBorn (λ x. x ≡ b) es → has_birth b fs ≡ true → counts_in h (es ++ fs) ≡ counts_in h fs
uncounted b h [] fs f some = refl
uncounted b h (e ∷ es) fs f some = at (try_of (e.1).event) f.0 ∙ uncounted b h es fs f.1 some
  where
    later : has_birth b (es ++ fs) ≡ true
    later = list_any-append (λ x. is_of_birth b (try_of (x.1).event)) es fs ∙ or_right (has_birth b es) (has_birth b fs) some

    at : (o : Option (TxId × Birth)) → ((p : TxId × Birth) → o ≡ Some p → p.1 ≡ b) → count_try h o (es ++ fs) (counts_in h (es ++ fs)) ≡ counts_in h (es ++ fs)
    at None g = refl
    at (Some p) g =
        let c = counts_in h (es ++ fs) in
        ap (λ x. cond x c (counted (has_acknowledged_try h p.1 h) (is_open h p.0) c)) (ap (λ x. has_birth x (es ++ fs)) (g p refl) ∙ later)

is_retried : (e : TryEnd) → is_to_retry e ≡ true → e ≡ end.Acknowledged → ⊥
is_retried e r h = both_ways false refl (sym (ap is_to_retry h) ∙ r)

some_else : (f g : Option Fate) → is_some (else_fate f g) ≡ (is_some f || is_some g)
some_else None g = refl
some_else (Some x) g = refl

some_fate : (t : Try) → is_some (fate_of t.tx t.end t.entries) ≡ has_op t.entries
some_fate t = at (has_op t.entries) (fate_by (is_acknowledged t.end) (is_open t.entries t.tx))
  where
    at : (b : Bool) (f : Fate) → is_some (cond b (Some f) None) ≡ b
    at true f = refl
    at false f = refl

-- its tries' entries are counted so, and it is counted exactly where they made an operation
record CountedSo (ts : List Try) : Type 0 where
  counts : counts_in (entries_of ts) (entries_of ts) ≡ count_as (fate_in ts) nothing_counted
  some : is_some (fate_in ts) ≡ has_op (entries_of ts)

one_try : (splits : List ℕ) (body : Body) (birth : Birth) (t : Try) → IsTry splits body birth t → CountedSo (t ∷ [])
one_try splits body birth t is =
    record {
      counts = ap (λ es. counts_in es es) (append-nil t.entries) ∙ try_fate splits body birth t is;
      some = some_fate t ∙ ap has_op (sym (append-nil t.entries));
    }

no_birth : (b : Birth) (es : History) → has_op es ≡ false → has_birth b es ≡ false
no_birth b [] h = refl
no_birth b (e ∷ es) h = let p = none_or (is_some (try_of (e.1).event)) (has_op es) h in ap (λ c. c || has_birth b es) (at (try_of (e.1).event) p.0) ∙ no_birth b es p.1
  where
    at : (o : Option (TxId × Birth)) → is_some o ≡ false → is_of_birth b o ≡ false
    at None k = refl
    at (Some p) k = absurd (both_ways true k refl)

none_born : (R : Birth → Type 0) (es : History) → has_op es ≡ false → AreBorn R es
none_born R [] h = tt
none_born R (e ∷ es) h = let p = none_or (is_some (try_of (e.1).event)) (has_op es) h in ((λ q is. absurd (both_ways (is_some (try_of (e.1).event)) p.0 (ap is_some is))), none_born R es p.1)

fate_stays : (f g : Option Fate) → is_some f ≡ true → else_fate f g ≡ f
fate_stays None g h = absurd (both_ways false refl h)
fate_stays (Some x) g h = refl

no_fate : (f : Option Fate) → is_some f ≡ false → f ≡ None
no_fate None h = refl
no_fate (Some x) h = absurd (both_ways true h refl)

nothing_plus : (c : Counts) → plus c nothing_counted ≡ c
nothing_plus c =
    let a : c.acknowledged + 0 ≡ c.acknowledged = omega arith in
    let u : c.unsettled + 0 ≡ c.unsettled = omega arith in
    let b : c.aborted + 0 ≡ c.aborted = omega arith in
    ap (λ n. the_counts n (c.unsettled + 0) (c.aborted + 0)) a ∙ ap (λ n. the_counts c.acknowledged n (c.aborted + 0)) u ∙ ap (λ n. the_counts c.acknowledged c.unsettled n) b

-- where no transaction is acknowledged
no_tries : (h : History) (b : Birth) (es : History) → ((u : TxId) → acknowledged_in h u ≡ false) → has_acknowledged_try h b es ≡ false
no_tries h b [] n = refl
no_tries h b (e ∷ es) n = ap (λ c. c || has_acknowledged_try h b es) (at (try_of (e.1).event)) ∙ no_tries h b es n
  where
    at : (o : Option (TxId × Birth)) → is_acknowledged_try h b o ≡ false
    at None = refl
    at (Some p) = ap (λ c. is_of_birth b (Some p) && c) (n p.0) ∙ and_no (is_of_birth b (Some p))

module _ (splits : List ℕ) (body : Body) (birth : Birth) where
  further_try : (t : Try) (hi : ℕ) (ts : List Try) → is_to_retry t.end ≡ true → IsTry splits body birth t → AllByRecursion (IsTry splits body birth) ts → Rise (t.tx).serial (serials ts) hi → CountedSo ts → CountedSo (t ∷ ts)
  further_try t hi ts again is each r so =
      record {
        counts = by_bool (λ b. has_op (entries_of ts) ≡ b → counts_in es es ≡ count_as (fate_in (t ∷ ts)) nothing_counted) (has_op (entries_of ts)) (λ h k. with_later h) (λ h k. without_later h) refl;
        some =
            some_else (fate_in ts) (fate_of t.tx t.end t.entries) ∙ ap (λ b. b || is_some (fate_of t.tx t.end t.entries)) so.some ∙ ap (λ b. has_op (entries_of ts) || b) (some_fate t)
            ∙ flip (has_op (entries_of ts)) (has_op t.entries) ∙ sym (list_any-append (λ e. is_some (try_of (e.1).event)) t.entries (entries_of ts));
      }
    where
      flip : (a b : Bool) → (a || b) ≡ (b || a)
      flip true true = refl
      flip true false = refl
      flip false true = refl
      flip false false = refl

      es : History
      es = t.entries ++ entries_of ts

      apart : AreApart t.entries (entries_of ts)
      apart = try_parted splits body birth t hi ts is each r

      births : AreBorn (λ x. x ≡ birth) (entries_of ts)
      births = tries_births splits body birth ts each

      seconds : AreNamed (λ u. TellAlike u es (entries_of ts)) (entries_of ts)
      seconds = named_as (λ u. AreQuiet u t.entries) (λ u. TellAlike u es (entries_of ts)) (entries_of ts) (λ u q. second_alike u t.entries (entries_of ts) q) apart.second

      none_acknowledged : (b : Birth) → has_acknowledged_try es b t.entries ≡ false
      none_acknowledged b =
          tries_alike es t.entries b t.entries (named_as (λ u. AreQuiet u (entries_of ts)) (λ u. TellAlike u es t.entries) t.entries (λ u q. first_alike u t.entries (entries_of ts) q) apart.first)
          ∙ no_tries t.entries b t.entries (not_acknowledged splits body birth t is (is_retried t.end again))

      of_second : (p : TxId × Birth) → AreQuiet p.0 t.entries → p.1 ≡ birth → CountAlike es (entries_of ts) p
      of_second p q n =
          record {
            acknowledged = any_second (λ e. is_acknowledged_try es p.1 (try_of (e.1).event)) t.entries (entries_of ts) (none_acknowledged p.1) ∙ tries_alike es (entries_of ts) p.1 (entries_of ts) seconds;
            open_ = (second_alike p.0 t.entries (entries_of ts) q).open_;
          }

      with_later : has_op (entries_of ts) ≡ true → counts_in es es ≡ count_as (fate_in (t ∷ ts)) nothing_counted
      with_later h =
          uncounted birth es t.entries (entries_of ts) (try_births splits body birth t is) (birth_or_none birth (entries_of ts) births ∙ h)
          ∙ counts_alike es (entries_of ts) (entries_of ts) (both_tried (λ u. AreQuiet u t.entries) (λ x. x ≡ birth) (CountAlike es (entries_of ts)) (entries_of ts) of_second apart.second births)
          ∙ so.counts ∙ ap (λ f. count_as f nothing_counted) (sym (fate_stays (fate_in ts) (fate_of t.tx t.end t.entries) (so.some ∙ h)))

      without_later : has_op (entries_of ts) ≡ false → counts_in es es ≡ count_as (fate_in (t ∷ ts)) nothing_counted
      without_later h =
          let none = no_fate (fate_in ts) (so.some ∙ h) in
          counts_apart t.entries (entries_of ts) apart
          (record {
            first = all_mono (λ e. (p : TxId × Birth) → try_of (e.1).event ≡ Some p → p.1 ≡ birth) (λ e. (p : TxId × Birth) → try_of (e.1).event ≡ Some p → has_birth p.1 (entries_of ts) ≡ false) (λ e f p k. no_birth p.1 (entries_of ts) h) t.entries (try_births splits body birth t is);
            second = none_born (λ b. has_birth b t.entries ≡ false) (entries_of ts) h;
          })
          ∙ ap (λ c. plus c (counts_in (entries_of ts) (entries_of ts))) (try_fate splits body birth t is)
          ∙ ap (λ c. plus (count_as (fate_of t.tx t.end t.entries) nothing_counted) c) (so.counts ∙ ap (λ f. count_as f nothing_counted) none)
          ∙ nothing_plus (count_as (fate_of t.tx t.end t.entries) nothing_counted)
          ∙ ap (λ f. count_as (else_fate f (fate_of t.tx t.end t.entries)) nothing_counted) (sym none)

  tries_counted : (most : Option ℕ) (n : ℕ) (ts : List Try) (cause : Option StopCause) → InTries most n ts cause → (lo hi : ℕ) → AllByRecursion (IsTry splits body birth) ts → Rise lo (serials ts) hi → CountedSo ts
  tries_counted most _ _ _ (last n t h) lo hi is r = one_try splits body birth t is.0
  tries_counted most _ _ _ (none_left n t h k) lo hi is r = one_try splits body birth t is.0
  tries_counted most _ _ _ (stopped_between n t cause s h k) lo hi is r = one_try splits body birth t is.0
  tries_counted most _ _ _ (further n t ts cause h k more) lo hi is r = further_try t hi ts h is.0 is.1 r.1 (tries_counted most (suc n) ts cause more (t.tx).serial hi is.1 r.1)

-- ---- behind earlier entries

up_named : (serial clock : ℕ) (ev : Event) (u : TxId) → IsUpTo serial clock ev → name_of ev ≡ Some u → u.serial ≤ serial
up_named serial clock (Op tx birth nth seen op) u h k = subst (λ x. x.serial ≤ serial) (sym (same_name tx u k)) h.0
up_named serial clock (RollTo tx nth seen upto) u h k = subst (λ x. x.serial ≤ serial) (sym (same_name tx u k)) h
up_named serial clock (Request tx touched) u h k = subst (λ x. x.serial ≤ serial) (sym (same_name tx u k)) h
up_named serial clock (Look tx) u h k = subst (λ x. x.serial ≤ serial) (sym (same_name tx u k)) h
up_named serial clock _ u h k = absurd cc

up_born : (serial clock : ℕ) (ev : Event) (p : TxId × Birth) → IsUpTo serial clock ev → try_of ev ≡ Some p → (p.1).stamp ≤ clock
up_born serial clock (Op tx birth nth seen op) p h k = subst (λ (x : Birth). x.stamp ≤ clock) (ap (λ o. elim o as (λ z. Birth) [ Some x ↦ x.1 | None ↦ birth ]) k) h.1
up_born serial clock _ p h k = absurd cc

as_up_to : (serial clock : ℕ) (ev : Event) → ((u : TxId) → name_of ev ≡ Some u → u.serial ≤ serial) → ((p : TxId × Birth) → try_of ev ≡ Some p → (p.1).stamp ≤ clock) → IsUpTo serial clock ev
as_up_to serial clock (Op tx birth nth seen op) n b = (n tx refl, b (tx, birth) refl)
as_up_to serial clock (RollTo tx nth seen upto) n b = n tx refl
as_up_to serial clock (Request tx touched) n b = n tx refl
as_up_to serial clock (Look tx) n b = n tx refl
as_up_to serial clock _ n b = tt

all_up_to : (serial clock : ℕ) (es : History) → AreNamed (λ u. u.serial ≤ serial) es → AreBorn (λ b. b.stamp ≤ clock) es → AreUpTo serial clock es
all_up_to serial clock [] n b = tt
all_up_to serial clock (e ∷ es) n b = (as_up_to serial clock (e.1).event n.0 b.0, all_up_to serial clock es n.1 b.1)

born_so : (R Q : Birth → Type 0) (es : History) → ((b : Birth) → R b → Q b) → AreBorn R es → AreBorn Q es
born_so R Q es f a = all_mono (λ e. (p : TxId × Birth) → try_of (e.1).event ≡ Some p → R p.1) (λ e. (p : TxId × Birth) → try_of (e.1).event ≡ Some p → Q p.1) (λ e g p is. f p.1 (g p is)) es a

differ : (a b : Birth) → (a.stamp ≡ b.stamp → ⊥) → same_birth a b ≡ false
differ a b n = false_from_ne_true (same_birth a b) (λ h. n (same_stamp a b h))

born_apart : (clock : ℕ) (es fs : History) → AreBorn (λ b. b.stamp ≤ clock) es → AreBorn (λ b. clock < b.stamp) fs → AreBornApart es fs
born_apart clock es fs low high =
    record {
      first =
          born_so (λ b. b.stamp ≤ clock) (λ b. has_birth b fs ≡ false) es
          (λ b l. birth_none b fs (born_so (λ x. clock < x.stamp) (λ x. same_birth b x ≡ false) fs (λ x k. differ b x (λ e. let no : ⊥ = omega arith in no)) high)) low;
      second =
          born_so (λ b. clock < b.stamp) (λ b. has_birth b es ≡ false) fs
          (λ b l. birth_none b es (born_so (λ x. x.stamp ≤ clock) (λ x. same_birth b x ≡ false) es (λ x k. differ b x (λ e. let no : ⊥ = omega arith in no)) low)) high;
    }

-- a transaction's count is one more
add_fate : (f : Option Fate) (c : Counts) → plus c (count_as f nothing_counted) ≡ count_as f c
add_fate None c = nothing_plus c
add_fate (Some Acknowledged) c =
    let a : c.acknowledged + 1 ≡ suc c.acknowledged = omega arith in
    let u : c.unsettled + 0 ≡ c.unsettled = omega arith in
    let b : c.aborted + 0 ≡ c.aborted = omega arith in
    ap (λ n. the_counts n (c.unsettled + 0) (c.aborted + 0)) a ∙ ap (λ n. the_counts (suc c.acknowledged) n (c.aborted + 0)) u ∙ ap (λ n. the_counts (suc c.acknowledged) c.unsettled n) b
add_fate (Some Unsettled) c =
    let a : c.acknowledged + 0 ≡ c.acknowledged = omega arith in
    let u : c.unsettled + 1 ≡ suc c.unsettled = omega arith in
    let b : c.aborted + 0 ≡ c.aborted = omega arith in
    ap (λ n. the_counts n (c.unsettled + 1) (c.aborted + 0)) a ∙ ap (λ n. the_counts c.acknowledged n (c.aborted + 0)) u ∙ ap (λ n. the_counts c.acknowledged (suc c.unsettled) n) b
add_fate (Some Aborted) c =
    let a : c.acknowledged + 0 ≡ c.acknowledged = omega arith in
    let u : c.unsettled + 0 ≡ c.unsettled = omega arith in
    let b : c.aborted + 1 ≡ suc c.aborted = omega arith in
    ap (λ n. the_counts n (c.unsettled + 0) (c.aborted + 1)) a ∙ ap (λ n. the_counts c.acknowledged n (c.aborted + 1)) u ∙ ap (λ n. the_counts c.acknowledged c.unsettled n) b

pub transactions_add_to_books : TransactionsAddToBooks
transactions_add_to_books splits run walker most tr cause es serial next clock is up rise late =
    let new = entries_of tr.tries in
    let named = tries_named splits tr.body tr.birth serial next tr.tries is.each rise in
    let births = tries_births splits tr.body tr.birth tr.tries is.each in
    let low = all_mono (λ e. IsUpTo serial clock (e.1).event) (λ e. (u : TxId) → name_of (e.1).event ≡ Some u → u.serial ≤ serial) (λ e h u k. up_named serial clock (e.1).event u h k) es up in
    let apart = parted serial es new low (named_as (IsWithin serial next) (λ u. serial < u.serial) new (λ u h. h.0) named) in
    let low_births = all_mono (λ e. IsUpTo serial clock (e.1).event) (λ e. (p : TxId × Birth) → try_of (e.1).event ≡ Some p → (p.1).stamp ≤ clock) (λ e h p k. up_born serial clock (e.1).event p h k) es up in
    let high_births = born_so (λ x. x ≡ tr.birth) (λ x. clock < x.stamp) new (λ x h. subst (λ (y : Birth). clock < y.stamp) (sym h) late) births in
    let so = tries_counted splits tr.body tr.birth most 1 tr.tries cause is.in_tries serial next is.each rise in (
      rows_apart es new apart ∙ ap (λ l. rows es ++ l) (tries_rows splits tr.body tr.birth serial next tr.tries is.each rise),
      counts_apart es new apart (born_apart clock es new low_births high_births) ∙ ap (plus (counts_in es es)) so.counts ∙ add_fate (fate_in tr.tries) (counts_in es es),
      all_up_to next (tr.birth).stamp new (named_as (IsWithin serial next) (λ u. u.serial ≤ next) new (λ u h. h.1) named)
          (born_so (λ x. x ≡ tr.birth) (λ x. x.stamp ≤ (tr.birth).stamp) new (λ x h. subst (λ (y : Birth). y.stamp ≤ (tr.birth).stamp) (sym h) (omega arith)) births),
    )
