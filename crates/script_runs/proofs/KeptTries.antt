-- A transaction's tries, and a session, as they are kept in a book.
use Rattle.std.proofs.Common.{◌≡◌, refl, sym, ap, subst, ◌∙◌, ℕ, suc, ◌<◌, ◌≤◌, List, [], ◌∷◌, ◌++◌, append_assoc, append-nil, Option, Some, None, Result, Err, arith}
use Rattle.clv_base.specs.declared.names.TxId.{TxId}
use Rattle.clv_base.specs.declared.names.Birth.{Birth}
use Rattle.clv_base.specs.declared.events.Event.{Event}
use Rattle.clv_base.specs.declared.events.Event.TheVariants.{Op, RollTo, Request, Look}
use Rattle.clv_base.specs.Shards.{are_splits}
use Rattle.clv_base.specs.Journals.{History}
use Rattle.law_base.proofs.Lists.{all_append, all_mono}
use Rattle.script_lang.specs.Bodies.{Body}
use Rattle.session_books.specs.declared.counts.Counts.{Counts}
use Rattle.session_books.specs.Counts.{counts_in}
use Rattle.session_books.specs.Books.{Book, IsBook, rows}
use Rattle.script_runs.specs.declared.ends.StopCause.{StopCause}
use Rattle.script_runs.specs.declared.ends.StopCause.TheVariants.{Down, Unsettled, Worn, Memory}
use Rattle.script_runs.specs.declared.fates.Fate.{Fate}
use Rattle.script_runs.specs.declared.fates.Fate.TheVariants.{Acknowledged, Unsettled as UnsettledFate, Aborted}
use Rattle.script_runs.specs.Tries.{Try}
use Rattle.script_runs.specs.Sessions.{entries_of}
use Rattle.script_runs.specs.Seen.{Seen, Misses, Grows, raised}
use Rattle.script_runs.specs.Told.{Begins, BeginTold}
use Rattle.script_runs.specs.Ran.{stop_in}
use Rattle.script_runs.specs.Books.{rows_by, fate_of, else_fate, fate_in, count_as, total, IsUpTo, AreUpTo, IsKept, NewBooksAreKept}
use Rattle.script_runs.specs.Keeping.{AddsRows, TriesKept}
use Rattle.script_runs.proofs.Tries.{Trying, ran}
use Rattle.script_runs.proofs.TransactionBooks.{transactions_add_to_books}

-- ---- one try more

rows_more : (ts : List Try) (t : Try) → rows_by (ts ++ t ∷ []) ≡ rows_by ts ++ rows t.entries
rows_more [] t = append-nil (rows t.entries)
rows_more (u ∷ ts) t = ap (λ l. rows u.entries ++ l) (rows_more ts t) ∙ sym (append_assoc (rows u.entries) (rows_by ts) (rows t.entries))

else_none : (f : Option Fate) → else_fate f None ≡ f
else_none None = refl
else_none (Some x) = refl

else_else : (f g h : Option Fate) → else_fate (else_fate f g) h ≡ else_fate f (else_fate g h)
else_else None g h = refl
else_else (Some x) g h = refl

fate_more : (ts : List Try) (t : Try) → fate_in (ts ++ t ∷ []) ≡ else_fate (fate_of t.tx t.end t.entries) (fate_in ts)
fate_more [] t = sym (else_none (fate_of t.tx t.end t.entries))
fate_more (u ∷ ts) t = ap (λ f. else_fate f (fate_of u.tx u.end u.entries)) (fate_more ts t) ∙ else_else (fate_of t.tx t.end t.entries) (fate_in ts) (fate_of u.tx u.end u.entries)

pub adds_on : (ts : List Try) (t : Try) (old mid new : Book) → AddsRows (rows_by ts) old mid → AddsRows (rows t.entries) mid new → AddsRows (rows_by (ts ++ t ∷ [])) old new
adds_on ts t old mid new a b =
    record {
      rows_are = b.rows_are ∙ ap (λ l. l ++ rows t.entries) a.rows_are ∙ append_assoc old.rows (rows_by ts) (rows t.entries) ∙ ap (λ l. old.rows ++ l) (sym (rows_more ts t));
      counts_are = b.counts_are ∙ a.counts_are;
      keeps_same = b.keeps_same ∙ a.keeps_same;
    }

pub fate_on : (ts : List Try) (t : Try) (now last before : Option Fate) → now ≡ else_fate last before → last ≡ fate_of t.tx t.end t.entries → before ≡ fate_in ts → now ≡ fate_in (ts ++ t ∷ [])
fate_on ts t now last before is l b = is ∙ ap (λ f. else_fate f before) l ∙ ap (else_fate (fate_of t.tx t.end t.entries)) b ∙ sym (fate_more ts t)

-- the tries up to now, with the book
pub record TryingKept (missed : Misses) (body : Body) (first : TxId) (birth : Birth) (most : Option ℕ) (tried : ℕ) (fate : Option Fate) (old now : Book) (u v : Seen) : Type 0 where
  pub so : Trying missed body first birth most tried u v
  pub fate_is : fate ≡ fate_in so.tries
  pub adds : AddsRows (rows_by so.tries) old now

-- ---- a transaction

up_to_later : (serial later clock now : ℕ) (ev : Event) → serial ≤ later → clock ≤ now → IsUpTo serial clock ev → IsUpTo later now ev
up_to_later serial later clock now (Op tx birth nth seen op) s c h = let a = h.0 in let b = h.1 in (omega arith, omega arith)
up_to_later serial later clock now (RollTo tx nth seen upto) s c h = omega arith
up_to_later serial later clock now (Request tx touched) s c h = omega arith
up_to_later serial later clock now (Look tx) s c h = omega arith
up_to_later serial later clock now _ s c h = tt

all_later : (serial later clock now : ℕ) (es : History) → serial ≤ later → clock ≤ now → AreUpTo serial clock es → AreUpTo later now es
all_later serial later clock now es s c h = all_mono (λ e. IsUpTo serial clock (e.1).event) (λ e. IsUpTo later now (e.1).event) (λ e k. up_to_later serial later clock now (e.1).event s c k) es h

one_more : (f : Option Fate) (c : Counts) → total (count_as f c) ≤ suc (total c)
one_more None c = omega arith
one_more (Some Acknowledged) c = omega arith
one_more (Some UnsettledFate) c = omega arith
one_more (Some Aborted) c = omega arith

pub new_books_are_kept : NewBooksAreKept
new_books_are_kept u book splits none rows_are counts_are =
    record {
      splits_are = splits;
      is_book = subst (λ es. IsBook es book) (sym none) (record { rows = rows_are; counts = counts_are });
      up_to = subst (AreUpTo u.serial u.clock) (sym none) tt;
      few = subst (λ c. total c ≤ u.clock) (sym counts_are) (omega arith);
    }

-- with no entry more, later
pub kept_later : (u v : Seen) (book : Book) → Grows [] u v → IsKept u book → IsKept v book
kept_later u v book g k =
    let same : v.entries ≡ u.entries = g.entries_are ∙ append-nil u.entries in
    let serial : u.serial ≤ v.serial = (let s = g.serial_is in omega arith) in
    record {
      splits_are = ap are_splits g.splits_are ∙ k.splits_are;
      is_book = subst (λ es. IsBook es book) (sym same) k.is_book;
      up_to = subst (AreUpTo v.serial v.clock) (sym same) (all_later u.serial v.serial u.clock v.clock u.entries serial g.clock_rises k.up_to);
      few = (let f = k.few in let c = g.clock_rises in omega arith);
    }

pub kept_raised : (u v : Seen) (clock : ℕ) (book : Book) → v ≡ raised clock u → IsKept u book → IsKept v book
kept_raised u v clock book is k =
    subst (λ x. IsKept x book) (sym is)
    (record { splits_are = k.splits_are; is_book = k.is_book; up_to = all_later u.serial u.serial u.clock (raised clock u).clock u.entries (omega arith) (omega arith) k.up_to; few = (let f = k.few in omega arith) })

pub kept_unbegun : (u v : Seen) (cause : StopCause) (book : Book) → BeginTold {A = Unit {0}} (Err cause) u v → IsKept u book → IsKept v book
kept_unbegun u v (Worn at) book g k = kept_later u v book g k
kept_unbegun u v Memory book t k = absurd t
kept_unbegun u v (Down n) book t k = absurd t
kept_unbegun u v (Unsettled n) book t k = absurd t

module _ {A : Type 0} (missed : Misses) (body : Body) (most : Option ℕ) (ended : Result A StopCause) (fate : Option Fate) (birth : Birth) (u v w : Seen) (old mid new : Book) where
  pub few_before : u.clock < birth.stamp → birth.stamp ≤ v.clock → (b : Begins birth u v) → TriesKept missed body b.tx birth most ended fate old mid v w → IsKept u old → total mid.counts < w.clock
  few_before later earlier b k kept = subst (λ c. total c < w.clock) (sym (k.adds).counts_are) (let f = kept.few in let c = ((k.told).grows).clock_rises in omega arith)

  pub transaction_kept : birth.session ≡ u.walker → u.clock < birth.stamp → birth.stamp ≤ v.clock → (b : Begins birth u v) → TriesKept missed body b.tx birth most ended fate old mid v w → IsKept u old → new.rows ≡ mid.rows → new.counts ≡ count_as fate mid.counts
      → IsKept w new
  transaction_kept born later earlier b k kept same_rows counts =
      let r = ran missed body most (stop_in ended) birth u v w born later earlier b k.told in
      let ts = (k.told).tries in
      let law = transactions_add_to_books u.splits u.run u.walker most (record { body = body; birth = birth; tries = ts }) (stop_in ended) u.entries u.serial w.serial u.clock r.is_transaction kept.up_to r.serials_rise later in
      let grown = (r.grows).entries_are in
      let counted : new.counts ≡ count_as (fate_in ts) old.counts = counts ∙ ap (λ f. count_as f mid.counts) k.fate_is ∙ ap (count_as (fate_in ts)) (k.adds).counts_are in
      let up : v.clock ≤ w.clock = ((k.told).grows).clock_rises in
      let serial : u.serial ≤ w.serial = (let s = (r.grows).serial_is in omega arith) in
      record {
        splits_are = ap are_splits (r.grows).splits_are ∙ kept.splits_are;
        is_book =
            record {
              rows = same_rows ∙ (k.adds).rows_are ∙ ap (λ l. l ++ rows_by ts) (kept.is_book).rows ∙ sym law.0 ∙ ap rows (sym grown);
              counts = counted ∙ ap (count_as (fate_in ts)) (kept.is_book).counts ∙ sym law.1 ∙ ap (λ es. counts_in es es) (sym grown);
            };
        up_to =
            subst (AreUpTo w.serial w.clock) (sym grown)
            (all_append (λ e. IsUpTo w.serial w.clock (e.1).event) u.entries (entries_of ts) (all_later u.serial w.serial u.clock w.clock u.entries serial (omega arith) kept.up_to)
            (all_later w.serial w.serial birth.stamp w.clock (entries_of ts) (omega arith) (omega arith) law.2));
        few = subst (λ c. total c ≤ w.clock) (sym counted) (let f = kept.few in let one = one_more (fate_in ts) old.counts in omega arith);
      }
