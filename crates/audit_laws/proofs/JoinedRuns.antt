-- A transaction's entries, and its acts as a report tells them, with the parts of scans joined: the same run.
use Rattle.std.proofs.Common.{◌≡◌, ◌⊎◌, ℕ, suc, ◌≤◌, Bool, true, false, cond, ◌==◌, nat_le, List, [], ◌∷◌, ◌++◌, map, Option, Some, None, inl, inr, refl, sym, ap, ap₂, ◌∙◌, subst, arith, append-nil}
use Rattle.std.specs.Prelude.{⊤}
use Rattle.std.proofs.lemmas.Bool.{eqb-true, cases_Bool, cases_lt, le-leb, lt-leb, eq-eqb, ne_eqb, both_ways}
use Rattle.std.specs.List.{AllByRecursion}
use Rattle.clv_base.specs.declared.ops.Op.{Op}
use Rattle.clv_base.specs.declared.ops.Op.TheVariants.{Get, Put, Del, Scan, Add}
use Rattle.clv_base.specs.declared.ops.Answer.{Answer}
use Rattle.clv_base.specs.declared.ops.Answer.TheVariants.{Pairs}
use Rattle.clv_base.specs.declared.values.Value.{Value as ValueType}
use Rattle.clv_base.specs.Maps.{KeyMap, Operates, GoesBack, Acts, Trail, map_now, map_up_to, map_between, acts_after, acts_answers, op_answer, op_after}
use Rattle.clv_base.specs.Folding.{IsRising}
use Rattle.clv_base.proofs.Folding.{rising_after}
use Rattle.clv_base.specs.History.{DoneAct, is_with_next, put_act, answers_given}
use Rattle.session_books.specs.declared.told.Told.{Told}
use Rattle.session_books.specs.Done.{Done, Did, WentBack}
use Rattle.session_books.specs.Parts.{pairs_of, parts_of, upper, upper_of, pairs_by, all_pairs}
use Rattle.session_books.specs.Books.{whole, whole_from, whole_ops}
use Rattle.report_reading.specs.Told.{numbered_from, numbered}
use Rattle.clv_audit.specs.Right.{answers_of}
use Rattle.audit_laws.proofs.EntriesAreWhole.{FollowsOn, part_of_scan, same_back, IsNext, AreWhole}
use Rattle.audit_laws.proofs.Joining.{between_joined}
use Rattle.clv_audit.proofs.Laws.{rising_up_to, rising_now}

-- ---- entries as acts

abbrev pub told : ℕ → Done → Told
told n d = record { nth = n; done = d }

abbrev pub done_act : ℕ → Done → DoneAct
done_act n (Did op a) = (n, Operates op, Some a)
done_act n (WentBack upto) = (n, GoesBack upto, None)

abbrev pub did_all : List Told → List DoneAct
did_all [] = []
did_all (t ∷ ts) = put_act (done_act t.nth t.done) (did_all ts)

abbrev pub acts_only : List DoneAct → Acts
acts_only ds = map (λ p. (p.0, p.1)) ds

abbrev pub number_of : Option Told → ℕ
number_of None = 0
number_of (Some t) = t.nth

abbrev pub number_before : Option Told → Option ℕ
number_before None = None
number_before (Some t) = Some t.nth

-- ---- an operation is an act of its own

unequal : (n : ℕ) → (n == suc n) ≡ false
unequal n = ne_eqb n (suc n) (λ e. omega arith)

-- the first act of entries has the number of the first entry
first_number : (t : Told) (ds : List DoneAct) → (m : ℕ) → (m == t.nth) ≡ false → is_with_next (m, GoesBack 0, None) (put_act (done_act t.nth t.done) ds) ≡ false
first_number t ds m e = at (is_with_next (done_act t.nth t.done) ds) refl
  where
    own : (d : Done) → is_with_next (m, GoesBack 0, None) (done_act t.nth d ∷ ds) ≡ false
    own (Did op a) = refl
    own (WentBack u) = e

    as_number : (n u : ℕ) (a : Option Answer) (es : List DoneAct) (d : Done) → is_with_next (done_act t.nth d) ((n, GoesBack u, a) ∷ es) ≡ true → (m == n) ≡ false
    as_number n u a es (Did op b) g = ap (λ k. m == k) (sym (eqb-true t.nth n g)) ∙ e
    as_number n u a es (WentBack v) g = ap (λ k. m == k) (sym (eqb-true t.nth n g)) ∙ e

    other : (es : List DoneAct) → is_with_next (done_act t.nth t.done) es ≡ true → is_with_next (m, GoesBack 0, None) es ≡ false
    other [] h = refl
    other ((n, Operates op, a) ∷ es) h = refl
    other ((n, GoesBack u, a) ∷ es) h = as_number n u a es t.done h

    at : (b : Bool) → is_with_next (done_act t.nth t.done) ds ≡ b → is_with_next (m, GoesBack 0, None) (cond b ds (done_act t.nth t.done ∷ ds)) ≡ false
    at true h = other ds h
    at false h = own t.done

by_number : (p : DoneAct) (ds : List DoneAct) → is_with_next p ds ≡ is_with_next (p.0, GoesBack 0, None) ds
by_number p [] = refl
by_number p (q ∷ ds) = refl

-- an operation that no going back of its number follows
as_op : (n : ℕ) (op : Op) (a : Answer) (d : Done) → d ≡ Did op a → done_act n d ≡ (n, Operates op, Some a)
as_op n op a d e = ap (done_act n) e

no_back_scan : {X : Type 0} (u : ℕ) (op : Op) (a : Answer) → WentBack u ≡ Did op a → X
no_back_scan u op a e = absurd cc

abbrev AloneBehind : Told → List Told → Type 0
AloneBehind t ts = (lo hi : ℕ) (b : Answer) → t.done ≡ Did (Scan lo hi) b → is_with_next (t.nth, Operates (Scan lo hi), Some b) (did_all ts) ≡ false

alone_before : (n : ℕ) (d : Done) (op : Op) (a : Answer) → d ≡ Did op a → (t : Told) (ts : List Told) → AloneBehind t ts → (t.nth ≡ suc n) ⊎ ((t.nth ≡ n) × FollowsOn d t.done) → is_with_next (n, Operates op, Some a) (did_all (t ∷ ts)) ≡ false
alone_before n d op a is t ts deeper (inl e) = by_number (n, Operates op, Some a) _ ∙ first_number t (did_all ts) n (ap (λ k. n == k) e ∙ unequal n)
alone_before n d op a is t ts deeper (inr (same, same_back u x y)) = no_back_scan u op a (sym x ∙ is)
alone_before n d op a is t ts deeper (inr (same, part_of_scan lo hi hi2 c b x y l h)) =
    let alone = deeper (suc hi) hi2 b y in
    let first : is_with_next (done_act t.nth t.done) (did_all ts) ≡ false = ap (λ p. is_with_next p (did_all ts)) (as_op t.nth (Scan (suc hi) hi2) b t.done y) ∙ alone in
    ap (λ k. is_with_next (n, Operates op, Some a) (cond k (did_all ts) (done_act t.nth t.done ∷ did_all ts))) first
    ∙ ap (λ p. is_with_next (n, Operates op, Some a) (p ∷ did_all ts)) (as_op t.nth (Scan (suc hi) hi2) b t.done y)

op_alone : (n : ℕ) (d : Done) (op : Op) (a : Answer) → d ≡ Did op a → (ts : List Told) → AreWhole (Some (told n d)) ts → is_with_next (n, Operates op, Some a) (did_all ts) ≡ false
op_alone n d op a is [] w = refl
op_alone n d op a is (t ∷ ts) w = alone_before n d op a is t ts (λ lo hi b e. op_alone t.nth t.done (Scan lo hi) b e ts w.1) w.0

-- ---- the same maps to go back to

-- two trails up to number n
pub record SameTrails (m : KeyMap) (n : ℕ) (one other : Trail) : Type 0 where
  pub now : map_now m one ≡ map_now m other
  pub up : (u : ℕ) → map_up_to u m one ≡ map_up_to u m other
  pub high : (u : ℕ) → n ≤ u → map_up_to u m one ≡ map_now m one
  pub rise : AllByRecursion (λ p. IsRising p.1) one

-- what is told of the next entries, and what they did
abbrev next_ops : Option Told → List Told → List Done
next_ops last ts = whole_from (number_before last) ts

-- where the last entry was a scan's part, the parts behind it have the rest of the scan
abbrev RestOfScan : ℕ → Done → List Told → KeyMap → Type 0
RestOfScan n d ts now =
    (lo hi : ℕ) (a : Answer) → d ≡ Did (Scan lo hi) a
    → (parts_of n ts ≡ []) ⊎ ((lo ≤ suc hi) × (hi ≤ upper_of hi (parts_of n ts)) × (all_pairs (parts_of n ts) ≡ map_between (suc hi) (upper_of hi (parts_of n ts)) now))

abbrev Rest : Option Told → List Told → KeyMap → Type 0
Rest None ts now = ⊤
Rest (Some l) ts now = RestOfScan l.nth l.done ts now

pub record SameRun (m : KeyMap) (last : Option Told) (ts : List Told) (one other : Trail) : Type 0 where
  pub answers : acts_answers (numbered_from (suc (number_of last)) (next_ops last ts)) m other ≡ answers_of (next_ops last ts)
  pub after : acts_after (numbered_from (suc (number_of last)) (next_ops last ts)) m other ≡ acts_after (acts_only (did_all ts)) m one
  pub rest : Rest last ts (map_now m one)

-- a scan with its parts is one scan
record Head (op : Op) (a : Answer) (parts : List Told) (now : KeyMap) : Type 0 where
  op_told : Op
  answer_told : Answer
  is : whole (Did op a) parts ≡ Did op_told answer_told
  answered : op_answer op_told now ≡ answer_told
  after : op_after op_told now ≡ op_after op now

module _ (m : KeyMap) (start_rises : IsRising m) where
  pub same_first : SameTrails m 0 [] []
  same_first = record { now = refl; up = λ u. refl; high = λ u h. refl; rise = tt }

  -- one act more on both
  pub same_push : (n : ℕ) (one other : Trail) (x : KeyMap) → IsRising x → SameTrails m n one other → SameTrails m (suc n) ((suc n, x) ∷ one) ((suc n, x) ∷ other)
  same_push n one other x r s =
      record {
        now = refl;
        up = λ u. ap (cond (nat_le (suc n) u) x) (s.up u);
        high = λ u h. ap (λ b. cond b x (map_up_to u m one)) (le-leb (suc n) u h);
        rise = (r, s.rise);
      }

  -- the same number once more on the first, with the same map
  pub same_again : (n : ℕ) (one other : Trail) → SameTrails m n one other → SameTrails m n ((n, map_now m one) ∷ one) other
  same_again n one other s =
      record {
        now = s.now;
        up = λ u. elim (cases_lt u n) [
          | inl low ↦ ap (λ b. cond b (map_now m one) (map_up_to u m one)) (lt-leb n u low) ∙ s.up u
          | inr high ↦ ap (λ b. cond b (map_now m one) (map_up_to u m one)) (le-leb n u high) ∙ sym (s.high u high) ∙ s.up u
        ];
        high = λ u h. ap (λ b. cond b (map_now m one) (map_up_to u m one)) (le-leb n u h);
        rise = (rising_now m one start_rises s.rise, s.rise);
      }

  abbrev BackStands : Option Told → Trail → Type 0
  BackStands None one = ⊤
  BackStands (Some l) one = (u : ℕ) → l.done ≡ WentBack u → map_up_to u m one ≡ map_now m one

  rest_at_end : (last : Option Told) (now : KeyMap) → Rest last [] now
  rest_at_end None now = tt
  rest_at_end (Some l) now = λ lo hi a e. inl refl

  -- an entry with a greater number is no part of the last one
  rest_of_new : (last : Option Told) (t : Told) (ts : List Told) (now : KeyMap) → t.nth ≡ suc (number_of last) → Rest last (t ∷ ts) now
  rest_of_new None t ts now e = tt
  rest_of_new (Some l) t ts now e = λ lo hi a f. inl (ap (λ b. cond b (t ∷ parts_of l.nth ts) []) (ap (λ k. l.nth == k) e ∙ unequal l.nth))

  new_begins : (last : Option Told) (t : Told) (ts : List Told) → t.nth ≡ suc (number_of last) → next_ops last (t ∷ ts) ≡ whole t.done (parts_of t.nth ts) ∷ next_ops (Some t) ts
  new_begins None t ts e = refl
  new_begins (Some l) t ts e = ap (λ b. cond b (whole_from (Some t.nth) ts) (whole t.done (parts_of t.nth ts) ∷ whole_from (Some t.nth) ts)) (ap (λ k. l.nth == k) e ∙ unequal l.nth)

  head_of : (n : ℕ) (op : Op) (a : Answer) (ts : List Told) (now : KeyMap) → IsRising now → op_answer op now ≡ a → RestOfScan n (Did op a) ts (op_after op now) → Head op a (parts_of n ts) now
  head_of n (Get k) a ts now r e rest = record { op_told = Get k; answer_told = a; is = refl; answered = e; after = refl }
  head_of n (Put k v) a ts now r e rest = record { op_told = Put k v; answer_told = a; is = refl; answered = e; after = refl }
  head_of n (Del k) a ts now r e rest = record { op_told = Del k; answer_told = a; is = refl; answered = e; after = refl }
  head_of n (Add k by) a ts now r e rest = record { op_told = Add k by; answer_told = a; is = refl; answered = e; after = refl }
  head_of n (Scan lo hi) a ts now r e rest =
      record {
        op_told = Scan lo (upper_of hi (parts_of n ts));
        answer_told = Pairs (pairs_of a ++ all_pairs (parts_of n ts));
        is = refl;
        answered = ap Pairs (sym (joined (rest lo hi a refl)));
        after = refl;
      }
    where
      own : pairs_of a ≡ map_between lo hi now
      own = ap pairs_of (sym e)

      joined : (parts_of n ts ≡ []) ⊎ ((lo ≤ suc hi) × (hi ≤ upper_of hi (parts_of n ts)) × (all_pairs (parts_of n ts) ≡ map_between (suc hi) (upper_of hi (parts_of n ts)) now))
          → pairs_of a ++ all_pairs (parts_of n ts) ≡ map_between lo (upper_of hi (parts_of n ts)) now
      joined (inl none) = ap (λ ps. pairs_of a ++ all_pairs ps) none ∙ append-nil (pairs_of a) ∙ own ∙ ap (λ ps. map_between lo (upper_of hi ps) now) (sym none)
      joined (inr more) = ap₂ (λ (x y : KeyMap). x ++ y) own more.2 ∙ between_joined lo hi (upper_of hi (parts_of n ts)) now r more.0 more.1

  did_op : (t : Told) (op : Op) (a : Answer) (ts : List Told) → t.done ≡ Did op a → AreWhole (Some t) ts → did_all (t ∷ ts) ≡ (t.nth, Operates op, Some a) ∷ did_all ts
  did_op t op a ts e w =
      ap (λ p. put_act p (did_all ts)) (as_op t.nth op a t.done e)
      ∙ ap (λ b. cond b (did_all ts) ((t.nth, Operates op, Some a) ∷ did_all ts)) (op_alone t.nth t.done op a e ts w)

  -- the answers that are left, after an operation
  rest_right :
      (k : ℕ) (op : Op) (a : Answer) (ds : List DoneAct) (one : Trail) → acts_answers (acts_only ((k, Operates op, Some a) ∷ ds)) m one ≡ answers_given ((k, Operates op, Some a) ∷ ds)
      → (op_answer op (map_now m one) ≡ a) × (acts_answers (acts_only ds) m ((k, op_after op (map_now m one)) ∷ one) ≡ answers_given ds)
  rest_right k op a ds one e =
      let head : op_answer op (map_now m one) ≡ a = cc in
      let tail : acts_answers (acts_only ds) m ((k, op_after op (map_now m one)) ∷ one) ≡ answers_given ds = cc in (head, tail)

  as_done : (n : ℕ) (d e : Done) (ts : List Told) (now : KeyMap) → d ≡ e → RestOfScan n d ts now → RestOfScan n e ts now
  as_done n d e ts now same rest = λ lo hi a f. rest lo hi a (same ∙ f)

  -- one operation more is told
  op_told_run :
      (last : Option Told) (t : Told) (op : Op) (a : Answer) (ts : List Told) (one other : Trail) → t.nth ≡ suc (number_of last) → t.done ≡ Did op a → SameTrails m (number_of last) one other → AreWhole (Some t) ts
      → op_answer op (map_now m one) ≡ a
      → SameRun m (Some t) ts ((t.nth, op_after op (map_now m one)) ∷ one) ((t.nth, op_after op (map_now m one)) ∷ other) → SameRun m last (t ∷ ts) one other
  op_told_run last t op a ts one other e d s w right r =
      let now = map_now m one in
      let n = number_of last in
      let left = next_ops (Some t) ts in
      let head = head_of t.nth op a ts now (rising_now m one start_rises s.rise) right (as_done t.nth t.done (Did op a) ts (op_after op now) d r.rest) in
      let ops : next_ops last (t ∷ ts) ≡ Did head.op_told head.answer_told ∷ left = new_begins last t ts e ∙ ap (λ (x : Done). x ∷ left) (ap (λ (x : Done). whole x (parts_of t.nth ts)) d ∙ head.is) in
      let next : op_after head.op_told (map_now m other) ≡ op_after op now = ap (op_after head.op_told) (sym s.now) ∙ head.after in
      record {
        answers =
            ap (λ (l : List Done). acts_answers (numbered_from (suc n) l) m other) ops
            ∙ ap₂ (λ (x : Answer) (l : List Answer). x ∷ l) (ap (op_answer head.op_told) (sym s.now) ∙ head.answered)
            (ap₂ (λ (k : ℕ) (x : KeyMap). acts_answers (numbered_from (suc k) left) m ((k, x) ∷ other)) (sym e) next ∙ r.answers)
            ∙ sym (ap answers_of ops);
        after =
            ap (λ (l : List Done). acts_after (numbered_from (suc n) l) m other) ops
            ∙ ap₂ (λ (k : ℕ) (x : KeyMap). acts_after (numbered_from (suc k) left) m ((k, x) ∷ other)) (sym e) next ∙ r.after
            ∙ sym (ap (λ (l : List DoneAct). acts_after (acts_only l) m one) (did_op t op a ts d w));
        rest = rest_of_new last t ts now e;
      }

  -- one going back more is told
  back_told_run :
      (last : Option Told) (t : Told) (u : ℕ) (ts : List Told) (one other : Trail) → t.nth ≡ suc (number_of last) → t.done ≡ WentBack u → SameTrails m (number_of last) one other
      → did_all (t ∷ ts) ≡ (t.nth, GoesBack u, None) ∷ did_all ts
      → SameRun m (Some t) ts ((t.nth, map_up_to u m one) ∷ one) ((t.nth, map_up_to u m one) ∷ other) → SameRun m last (t ∷ ts) one other
  back_told_run last t u ts one other e d s did r =
      let n = number_of last in
      let left = next_ops (Some t) ts in
      let ops : next_ops last (t ∷ ts) ≡ WentBack u ∷ left = new_begins last t ts e ∙ ap (λ (x : Done). whole x (parts_of t.nth ts) ∷ left) d in
      record {
        answers =
            ap (λ (l : List Done). acts_answers (numbered_from (suc n) l) m other) ops
            ∙ ap₂ (λ (k : ℕ) (x : KeyMap). acts_answers (numbered_from (suc k) left) m ((k, x) ∷ other)) (sym e) (sym (s.up u)) ∙ r.answers
            ∙ sym (ap answers_of ops);
        after =
            ap (λ (l : List Done). acts_after (numbered_from (suc n) l) m other) ops
            ∙ ap₂ (λ (k : ℕ) (x : KeyMap). acts_after (numbered_from (suc k) left) m ((k, x) ∷ other)) (sym e) (sym (s.up u)) ∙ r.after
            ∙ sym (ap (λ (l : List DoneAct). acts_after (acts_only l) m one) did);
        rest = rest_of_new last t ts (map_now m one) e;
      }

  -- the entries behind one of the same number
  same_begins : (l t : Told) (ts : List Told) → t.nth ≡ l.nth → next_ops (Some l) (t ∷ ts) ≡ next_ops (Some t) ts
  same_begins l t ts e = ap (λ b. cond b (whole_from (Some t.nth) ts) (whole t.done (parts_of t.nth ts) ∷ whole_from (Some t.nth) ts)) (eq-eqb l.nth t.nth (sym e))

  -- ---- what the next entry is

  new_or_same : (last : Option Told) (t : Told) → IsNext last t → (t.nth ≡ suc (number_of last)) ⊎ ((l : Told) × (last ≡ Some l) × (t.nth ≡ l.nth) × FollowsOn l.done t.done)
  new_or_same None t e = inl e
  new_or_same (Some l) t (inl e) = inl e
  new_or_same (Some l) t (inr s) = inr (l, refl, s.0, s.1)

  as_back : (n u : ℕ) (d : Done) → d ≡ WentBack u → done_act n d ≡ (n, GoesBack u, None)
  as_back n u d e = ap (done_act n) e

  same_back_number : (u v : ℕ) → WentBack u ≡ WentBack v → u ≡ v
  same_back_number u v e = cc

  -- a going back whose next entry is its own on another shard counts there
  merged : (t : Told) (u : ℕ) (ts : List Told) → t.done ≡ WentBack u → AreWhole (Some t) ts → is_with_next (t.nth, GoesBack u, None) (did_all ts) ≡ true
      → (t2 : Told) × (rest : List Told) × (ts ≡ t2 ∷ rest) × (t2.nth ≡ t.nth) × (t2.done ≡ WentBack u)
  merged t u [] d w e = absurd (both_ways false refl e)
  merged t u (t2 ∷ rest) d w e = at w.0
    where
      follows : FollowsOn t.done t2.done → t2.nth ≡ t.nth → (t3 : Told) × (more : List Told) × (t2 ∷ rest ≡ t3 ∷ more) × (t3.nth ≡ t.nth) × (t3.done ≡ WentBack u)
      follows (part_of_scan lo hi hi2 a b x y l h) same = no_back_scan u (Scan lo hi) a (sym d ∙ x)
      follows (same_back v x y) same = (t2, rest, refl, same, y ∙ ap WentBack (same_back_number v u (sym x ∙ d)))

      at : (t2.nth ≡ suc t.nth) ⊎ ((t2.nth ≡ t.nth) × FollowsOn t.done t2.done) → (t3 : Told) × (more : List Told) × (t2 ∷ rest ≡ t3 ∷ more) × (t3.nth ≡ t.nth) × (t3.done ≡ WentBack u)
      at (inl new) = absurd (both_ways _ (by_number (t.nth, GoesBack u, None) _ ∙ first_number t2 (did_all rest) t.nth (ap (λ k. t.nth == k) new ∙ unequal t.nth)) e)
      at (inr s) = follows s.1 s.0

  -- ---- small steps of the runs

  either : (c : Bool) (y : KeyMap) → cond c y y ≡ y
  either true y = refl
  either false y = refl

  as_new : (t : Told) (k : Option Told) → t.nth ≡ suc (number_of k) → IsNext k t
  as_new t None f = f
  as_new t (Some l) f = inl f

  same_pairs : (us vs : KeyMap) → Pairs us ≡ Pairs vs → us ≡ vs
  same_pairs us vs f = cc

  -- a part of a scan, and the parts behind it, have the rest of the scan
  scan_rest :
      (l t : Told) (ts : List Told) (now : KeyMap) → IsRising now → t.nth ≡ l.nth → (lo hi hi2 : ℕ) (c : Answer) (qs : List (ℕ × ValueType)) → t.done ≡ Did (Scan (suc hi) hi2) (Pairs qs) → lo ≤ suc hi → hi ≤ hi2
      → (lo2 hi3 : ℕ) (a : Answer) → Did (Scan lo hi) c ≡ Did (Scan lo2 hi3) a → qs ≡ map_between (suc hi) hi2 now
      → (parts_of t.nth ts ≡ []) ⊎ ((suc hi ≤ suc hi2) × (hi2 ≤ upper_of hi2 (parts_of t.nth ts)) × (all_pairs (parts_of t.nth ts) ≡ map_between (suc hi2) (upper_of hi2 (parts_of t.nth ts)) now))
      → (lo2 ≤ suc hi3) × (hi3 ≤ upper_of hi3 (parts_of l.nth (t ∷ ts))) × (all_pairs (parts_of l.nth (t ∷ ts)) ≡ map_between (suc hi3) (upper_of hi3 (parts_of l.nth (t ∷ ts))) now)
  scan_rest l t ts now now_rises same lo hi hi2 c qs y low high = rest_of
    where
      here : parts_of l.nth (t ∷ ts) ≡ t ∷ parts_of t.nth ts
      here = ap (λ c. cond c (t ∷ parts_of l.nth ts) []) (eq-eqb l.nth t.nth (sym same)) ∙ ap (λ (k : ℕ). t ∷ parts_of k ts) (sym same)

      pairs_here : all_pairs (parts_of l.nth (t ∷ ts)) ≡ qs ++ all_pairs (parts_of t.nth ts)
      pairs_here = ap all_pairs here ∙ ap (λ (d : Done). pairs_by d ++ all_pairs (parts_of t.nth ts)) y

      upper_here : (h : ℕ) → upper_of h (parts_of l.nth (t ∷ ts)) ≡ upper_of hi2 (parts_of t.nth ts)
      upper_here h = ap (upper_of h) here ∙ ap (λ (d : Done). upper_of (upper h d) (parts_of t.nth ts)) y

      rest_of : (lo2 hi3 : ℕ) (a : Answer) → Did (Scan lo hi) c ≡ Did (Scan lo2 hi3) a → qs ≡ map_between (suc hi) hi2 now
          → (parts_of t.nth ts ≡ []) ⊎ ((suc hi ≤ suc hi2) × (hi2 ≤ upper_of hi2 (parts_of t.nth ts)) × (all_pairs (parts_of t.nth ts) ≡ map_between (suc hi2) (upper_of hi2 (parts_of t.nth ts)) now))
          → (lo2 ≤ suc hi3) × (hi3 ≤ upper_of hi3 (parts_of l.nth (t ∷ ts))) × (all_pairs (parts_of l.nth (t ∷ ts)) ≡ map_between (suc hi3) (upper_of hi3 (parts_of l.nth (t ∷ ts))) now)
      rest_of lo2 hi3 a f own (inl none) =
          let los : lo ≡ lo2 = cc in
          let his : hi ≡ hi3 = cc in
          let up : upper_of hi3 (parts_of l.nth (t ∷ ts)) ≡ hi2 = upper_here hi3 ∙ ap (upper_of hi2) none in (
            omega arith,
            omega arith,
            pairs_here ∙ ap (λ (k : List Told). qs ++ all_pairs k) none ∙ append-nil qs ∙ own ∙ ap₂ (λ (k u : ℕ). map_between (suc k) u now) his (sym up),
          )
      rest_of lo2 hi3 a f own (inr more) =
          let los : lo ≡ lo2 = cc in
          let his : hi ≡ hi3 = cc in
          let up = upper_here hi3 in
          let deep = more.1 in (
            omega arith,
            omega arith,
            pairs_here ∙ ap₂ (λ (u v : KeyMap). u ++ v) own more.2 ∙ between_joined (suc hi) hi2 (upper_of hi2 (parts_of t.nth ts)) now now_rises more.0 more.1
                ∙ ap₂ (λ (k u : ℕ). map_between (suc k) u now) his (sym up),
          )

  -- ---- the two runs

  abbrev Runs : List Told → Type 0
  Runs ts =
      (last : Option Told) (one other : Trail) → SameTrails m (number_of last) one other → AreWhole last ts → BackStands last one
      → acts_answers (acts_only (did_all ts)) m one ≡ answers_given (did_all ts) → SameRun m last ts one other

  -- one entry more in front of those that run alike
  one_step : (t : Told) (ts : List Told) → Runs ts → Runs (t ∷ ts)
  one_step t ts rec last one other s w b e = by_next (new_or_same last t w.0)
    where
      now : KeyMap
      now = map_now m one

      now_rises : IsRising now
      now_rises = rising_now m one start_rises s.rise

      pushed : (x : KeyMap) → IsRising x → t.nth ≡ suc (number_of last) → SameTrails m t.nth ((t.nth, x) ∷ one) ((t.nth, x) ∷ other)
      pushed x r new = subst (λ (k : ℕ). SameTrails m k ((k, x) ∷ one) ((k, x) ∷ other)) (sym new) (same_push (number_of last) one other x r s)

      -- an operation under a new number
      new_op : (op : Op) (a : Answer) → t.done ≡ Did op a → t.nth ≡ suc (number_of last) → SameRun m last (t ∷ ts) one other
      new_op op a d new =
          let both = rest_right t.nth op a (did_all ts) one (subst (λ (l : List DoneAct). acts_answers (acts_only l) m one ≡ answers_given l) (did_op t op a ts d w.1) e) in
          op_told_run last t op a ts one other new d s w.1 both.0
          (rec (Some t) _ _ (pushed (op_after op now) (rising_after op now now_rises) new) w.1 (λ v f. no_back_scan v op a (sym f ∙ d)) both.1)

      -- a going back under a new number, which counts here
      back_here : (u : ℕ) → t.done ≡ WentBack u → t.nth ≡ suc (number_of last) → is_with_next (t.nth, GoesBack u, None) (did_all ts) ≡ false → SameRun m last (t ∷ ts) one other
      back_here u d new alone =
          let x = map_up_to u m one in
          let did : did_all (t ∷ ts) ≡ (t.nth, GoesBack u, None) ∷ did_all ts =
          ap (λ p. put_act p (did_all ts)) (as_back t.nth u t.done d) ∙ ap (λ c. cond c (did_all ts) ((t.nth, GoesBack u, None) ∷ did_all ts)) alone in
          let left = subst (λ (l : List DoneAct). acts_answers (acts_only l) m one ≡ answers_given l) did e in
          let stands : BackStands (Some t) ((t.nth, x) ∷ one) =
          λ v f.
          let same : v ≡ u = same_back_number v u (sym f ∙ d) in
          ap (λ (k : ℕ). cond (nat_le t.nth k) x (map_up_to k m one)) same ∙ either (nat_le t.nth u) x in
          back_told_run last t u ts one other new d s did (rec (Some t) _ _ (pushed x (rising_up_to u m one start_rises s.rise) new) w.1 stands left)

      skipped : (t2 : Told) (more : List Told) → ts ≡ t2 ∷ more → t2.nth ≡ t.nth → t.nth ≡ suc (number_of last) → AreWhole last ts
      skipped t2 more is same new = subst (AreWhole last) (sym is) (as_new t2 last (same ∙ new), (subst (AreWhole (Some t)) is w.1).1)

      -- and one that counts on another shard
      back_later : (u : ℕ) → t.done ≡ WentBack u → t.nth ≡ suc (number_of last) → is_with_next (t.nth, GoesBack u, None) (did_all ts) ≡ true → SameRun m last (t ∷ ts) one other
      back_later u d new with_next =
          let found = merged t u ts d w.1 with_next in
          let t2 = found.0 in
          let more = found.1 in
          let did : did_all (t ∷ ts) ≡ did_all ts = ap (λ p. put_act p (did_all ts)) (as_back t.nth u t.done d) ∙ ap (λ c. cond c (did_all ts) ((t.nth, GoesBack u, None) ∷ did_all ts)) with_next in
          let r = rec last one other s (skipped t2 more found.2 found.3 new) b (subst (λ (l : List DoneAct). acts_answers (acts_only l) m one ≡ answers_given l) did e) in
          let ops : next_ops last (t ∷ ts) ≡ next_ops last ts =
          new_begins last t ts new ∙ ap (λ (x : Done). whole x (parts_of t.nth ts) ∷ next_ops (Some t) ts) d
          ∙ ap (λ (l : List Done). WentBack u ∷ l) (ap (next_ops (Some t)) found.2 ∙ same_begins t t2 more found.3)
          ∙ sym (ap (next_ops last) found.2 ∙ new_begins last t2 more (found.3 ∙ new) ∙ ap (λ (x : Done). whole x (parts_of t2.nth more) ∷ next_ops (Some t2) more) found.4) in
          record {
            answers = ap (λ (l : List Done). acts_answers (numbered_from (suc (number_of last)) l) m other) ops ∙ r.answers ∙ sym (ap answers_of ops);
            after = ap (λ (l : List Done). acts_after (numbered_from (suc (number_of last)) l) m other) ops ∙ r.after ∙ sym (ap (λ (l : List DoneAct). acts_after (acts_only l) m one) did);
            rest = rest_of_new last t ts now new;
          }

      new_back : (u : ℕ) → t.done ≡ WentBack u → t.nth ≡ suc (number_of last) → SameRun m last (t ∷ ts) one other
      new_back u d new = elim (cases_Bool (is_with_next (t.nth, GoesBack u, None) (did_all ts))) [
        | inl with_next ↦ back_later u d new with_next
        | inr alone ↦ back_here u d new alone
      ]

      new_entry : (d : Done) → t.done ≡ d → t.nth ≡ suc (number_of last) → SameRun m last (t ∷ ts) one other
      new_entry (Did op a) d new = new_op op a d new
      new_entry (WentBack u) d new = new_back u d new

      -- the run behind an entry of the same number, by that from it
      behind : (l : Told) → last ≡ Some l → t.nth ≡ l.nth → (one2 : Trail) → SameRun m (Some t) ts one2 other → acts_after (acts_only (did_all ts)) m one2 ≡ acts_after (acts_only (did_all (t ∷ ts))) m one
          → RestOfScan l.nth l.done (t ∷ ts) now → SameRun m (Some l) (t ∷ ts) one other
      behind l is same one2 r after rest =
          record {
            answers =
                ap (λ (x : List Done). acts_answers (numbered_from (suc l.nth) x) m other) (same_begins l t ts same)
                ∙ ap (λ (k : ℕ). acts_answers (numbered_from (suc k) (next_ops (Some t) ts)) m other) (sym same) ∙ r.answers ∙ sym (ap answers_of (same_begins l t ts same));
            after =
                ap (λ (x : List Done). acts_after (numbered_from (suc l.nth) x) m other) (same_begins l t ts same)
                ∙ ap (λ (k : ℕ). acts_after (numbered_from (suc k) (next_ops (Some t) ts)) m other) (sym same) ∙ r.after ∙ after;
            rest = rest;
          }

      again : (l : Told) → last ≡ Some l → t.nth ≡ l.nth → SameTrails m t.nth ((t.nth, now) ∷ one) other
      again l is same = subst (λ (k : ℕ). SameTrails m k ((k, now) ∷ one) other) (sym same) (same_again l.nth one other (subst (λ (o : Option Told). SameTrails m (number_of o) one other) is s))

      scan_goes_on : (l : Told) → last ≡ Some l → t.nth ≡ l.nth → (lo hi hi2 : ℕ) (c d : Answer) → l.done ≡ Did (Scan lo hi) c → t.done ≡ Did (Scan (suc hi) hi2) d → lo ≤ suc hi → hi ≤ hi2 → SameRun m (Some l) (t ∷ ts) one other
      scan_goes_on l is same lo hi hi2 c d x z low high =
          let did = did_op t (Scan (suc hi) hi2) d ts z w.1 in
          let both = rest_right t.nth (Scan (suc hi) hi2) d (did_all ts) one (subst (λ (k : List DoneAct). acts_answers (acts_only k) m one ≡ answers_given k) did e) in
          let y : t.done ≡ Did (Scan (suc hi) hi2) (Pairs (map_between (suc hi) hi2 now)) = z ∙ ap (Did (Scan (suc hi) hi2)) (sym both.0) in
          let r = rec (Some t) ((t.nth, now) ∷ one) other (again l is same) w.1 (λ v f. no_back_scan v (Scan (suc hi) hi2) d (sym f ∙ z)) both.1 in
          behind l is same ((t.nth, now) ∷ one) r (sym (ap (λ (k : List DoneAct). acts_after (acts_only k) m one) did))
          (λ lo2 hi3 a f. inr (scan_rest l t ts now now_rises same lo hi hi2 c (map_between (suc hi) hi2 now) y low high lo2 hi3 a (sym x ∙ f) refl (r.rest (suc hi) hi2 (Pairs (map_between (suc hi) hi2 now)) y)))

      back_again : (l : Told) → last ≡ Some l → t.nth ≡ l.nth → (u : ℕ) → l.done ≡ WentBack u → t.done ≡ WentBack u → SameRun m (Some l) (t ∷ ts) one other
      back_again l is same u x y = elim (cases_Bool (is_with_next (t.nth, GoesBack u, None) (did_all ts))) [
        | inl with_next ↦
            let found = merged t u ts y w.1 with_next in
            let did : did_all (t ∷ ts) ≡ did_all ts = ap (λ p. put_act p (did_all ts)) (as_back t.nth u t.done y) ∙ ap (λ c. cond c (did_all ts) ((t.nth, GoesBack u, None) ∷ did_all ts)) with_next in
            let left : AreWhole (Some l) ts =
            subst (AreWhole (Some l)) (sym found.2) (inr (found.3 ∙ same, same_back u x found.4), (subst (AreWhole (Some t)) found.2 w.1).1) in
            let r = rec (Some l) one other (subst (λ (o : Option Told). SameTrails m (number_of o) one other) is s) left (subst (λ (o : Option Told). BackStands o one) is b) (subst (λ (k : List DoneAct). acts_answers (acts_only k) m one ≡ answers_given k) did e) in
            let ops : next_ops (Some l) (t ∷ ts) ≡ next_ops (Some l) ts = same_begins l t ts same ∙ ap (λ (k : ℕ). whole_from (Some k) ts) same in
            record {
              answers = ap (λ (k : List Done). acts_answers (numbered_from (suc l.nth) k) m other) ops ∙ r.answers ∙ sym (ap answers_of ops);
              after = ap (λ (k : List Done). acts_after (numbered_from (suc l.nth) k) m other) ops ∙ r.after ∙ sym (ap (λ (k : List DoneAct). acts_after (acts_only k) m one) did);
              rest = λ lo hi a f. no_back_scan u (Scan lo hi) a (sym x ∙ f);
            }
        | inr alone ↦
            let did : did_all (t ∷ ts) ≡ (t.nth, GoesBack u, None) ∷ did_all ts =
            ap (λ p. put_act p (did_all ts)) (as_back t.nth u t.done y) ∙ ap (λ c. cond c (did_all ts) ((t.nth, GoesBack u, None) ∷ did_all ts)) alone in
            let left = subst (λ (k : List DoneAct). acts_answers (acts_only k) m one ≡ answers_given k) did e in
            let stays : map_up_to u m one ≡ now = (subst (λ (o : Option Told). BackStands o one) is b) u x in
            let trail : (t.nth, map_up_to u m one) ∷ one ≡ (t.nth, now) ∷ one = ap (λ (k : KeyMap). (t.nth, k) ∷ one) stays in
            let stands : BackStands (Some t) ((t.nth, now) ∷ one) =
            λ v f. let k : v ≡ u = same_back_number v u (sym f ∙ y) in ap (λ (i : ℕ). cond (nat_le t.nth i) now (map_up_to i m one)) k ∙ ap (cond (nat_le t.nth u) now) stays ∙ either (nat_le t.nth u) now in
            let r = rec (Some t) ((t.nth, now) ∷ one) other (again l is same) w.1 stands (ap (acts_answers (acts_only (did_all ts)) m) (sym trail) ∙ left) in
            behind l is same ((t.nth, now) ∷ one) r (ap (acts_after (acts_only (did_all ts)) m) (sym trail) ∙ sym (ap (λ (k : List DoneAct). acts_after (acts_only k) m one) did)) (λ lo hi a f. no_back_scan u (Scan lo hi) a (sym x ∙ f))
      ]

      follows : (l : Told) → last ≡ Some l → t.nth ≡ l.nth → FollowsOn l.done t.done → SameRun m (Some l) (t ∷ ts) one other
      follows l is same (part_of_scan lo hi hi2 c d x y low high) = scan_goes_on l is same lo hi hi2 c d x y low high
      follows l is same (same_back u x y) = back_again l is same u x y

      by_next : (t.nth ≡ suc (number_of last)) ⊎ ((l : Told) × (last ≡ Some l) × (t.nth ≡ l.nth) × FollowsOn l.done t.done) → SameRun m last (t ∷ ts) one other
      by_next (inl new) = new_entry t.done refl new
      by_next (inr f) = subst (λ (o : Option Told). SameRun m o (t ∷ ts) one other) (sym f.1) (follows f.0 f.1 f.2 f.3)

  pub same_run : (ts : List Told) → Runs ts
  same_run [] last one other s w b e = record { answers = refl; after = sym s.now; rest = rest_at_end last (map_now m one) }
  same_run (t ∷ ts) last one other s w b e = one_step t ts (same_run ts) last one other s w b e

-- the acts of a transaction, as a report tells them, have the answers and the map of those that were entered
pub joined_run :
    (m : KeyMap) (ts : List Told) → IsRising m → AreWhole None ts → acts_answers (acts_only (did_all ts)) m [] ≡ answers_given (did_all ts)
    → (acts_answers (numbered (whole_ops ts)) m [] ≡ answers_of (whole_ops ts)) × (acts_after (numbered (whole_ops ts)) m [] ≡ acts_after (acts_only (did_all ts)) m [])
joined_run m ts r w e = let run = same_run m r ts None [] [] (same_first m r) w tt e in (run.answers, run.after)
