-- All lines of a report: where one begins, and what may stand behind it.
use Rattle.std.proofs.Common.{◌≡◌, ℕ, zero, suc, ◌+◌, ◌-◌, ◌<◌, ◌≤◌, Bool, true, false, cond, ◌&&◌, ◌==◌, nat_lt, List, [], ◌∷◌, ◌++◌, length, get_or, take, T, refl, sym, ap, ap₂, ◌∙◌, subst, arith, append_assoc, length-append, Less, Equal, Greater}
use Rattle.std.proofs.lemmas.Bool.{and_parts, and_from, ltb-true, lt-ltb, ne_eqb}
use Rattle.std.specs.List.{list_all}
use Rattle.std.specs.Ordering.{nat_cmp, is_lt}
use Rattle.std.specs.FinMap.Entries.{is_sorted, below_all}
use Rattle.serde_json.specs.Written.{compact_text}
use Rattle.clv_base.specs.declared.values.Value.{Value as ValueType}
use Rattle.clv_base.specs.Folding.{IsRising}
use Rattle.session_books.specs.declared.counts.Counts.{Counts}
use Rattle.script_lang.specs.Grammar.{before_line}
use Rattle.script_lang.specs.Reading.{Lacks}
use Rattle.law_base.proofs.Numbers.{lt_from}
use Rattle.report_reading.specs.Told.{ReportedTx, Reported}
use Rattle.report_reading.specs.Texts.{Line, Pair, Tx, Sums, data_of, can_stand, line_text, counts_of, pair_lines, tx_lines, lines_of, texts_of, joined}
use Rattle.report_reading.specs.Faults.{cut}
use Rattle.report_reading.specs.Reading.{SoFar, lines_so_far, is_above}
use Rattle.report_reading.proofs.Printed.{Printed, first_printed}
use Rattle.report_reading.proofs.ReadBack.{good_line}
use Rattle.report_reading.proofs.Same.{same_line}
use Rattle.report_reading.proofs.Lasts.{last_of_rest}

-- ---- texts and their lines

pub lacks_feed : (xs : List ℕ) → Printed xs → Lacks 10 xs
lacks_feed [] p i h = absurd (omega arith)
lacks_feed (x ∷ xs) p zero h = (first_printed x xs p).0
lacks_feed (x ∷ xs) p (suc i) h = lacks_feed xs (first_printed x xs p).1 i (omega arith)

pub cut_at : (a b : List ℕ) → Lacks 10 a → cut (a ++ 10 ∷ b) ≡ (a ++ 10 ∷ []) ∷ cut b
cut_at [] b none = refl
cut_at (x ∷ a) b none =
    let deeper = cut_at a b (λ k h. none (suc k) (omega arith)) in
    let other : (x == 10) ≡ false = ne_eqb x 10 (none 0 (omega arith)) in rw (other, deeper)

pub cut_last : (x : ℕ) (a : List ℕ) → Lacks 10 (x ∷ a) → cut (x ∷ a) ≡ (x ∷ a) ∷ []
cut_last x [] none = let other : (x == 10) ≡ false = ne_eqb x 10 (none 0 (omega arith)) in rw other
cut_last x (y ∷ a) none =
    let deeper = cut_last y a (λ k h. none (suc k) (omega arith)) in
    let other : (x == 10) ≡ false = ne_eqb x 10 (none 0 (omega arith)) in rw (other, deeper)

pub cut_whole : (a : List ℕ) → 0 < length a → Lacks 10 a → cut a ≡ a ∷ []
cut_whole [] some none = absurd (omega arith)
cut_whole (x ∷ a) some none = cut_last x a none

joined_before : (b : ℕ) (ls : List (List ℕ)) → joined (before_line b ls) ≡ b ∷ joined ls
joined_before b [] = refl
joined_before b (l ∷ ls) = refl

pub joined_cut : (bs : List ℕ) → joined (cut bs) ≡ bs
joined_cut [] = refl
joined_cut (b ∷ bs) = at (b == 10) (joined_cut bs)
  where
    at : (t : Bool) → joined (cut bs) ≡ bs → joined (cond t ((b ∷ []) ∷ cut bs) (before_line b (cut bs))) ≡ b ∷ bs
    at true deeper = ap (λ l. b ∷ l) deeper
    at false deeper = joined_before b (cut bs) ∙ ap (λ l. b ∷ l) deeper

pub cut_joined : (ls : List Line) → list_all can_stand ls ≡ true → cut (joined (texts_of ls)) ≡ texts_of ls
cut_joined [] h = refl
cut_joined (l ∷ ls) h =
    let parts = and_parts (can_stand l) (list_all can_stand ls) h in
    let text = compact_text (data_of l) in
    ap cut (append_assoc text (10 ∷ []) (joined (texts_of ls)))
    ∙ cut_at text (joined (texts_of ls)) (lacks_feed text (good_line l parts.0).printed)
    ∙ ap (λ rest. (text ++ 10 ∷ []) ∷ rest) (cut_joined ls parts.1)

-- ---- a front of lines is one of what they tell

pub texts_append : (ls ms : List Line) → texts_of (ls ++ ms) ≡ texts_of ls ++ texts_of ms
texts_append [] ms = refl
texts_append (l ∷ ls) ms = ap (λ rest. line_text l ∷ rest) (texts_append ls ms)

-- the lines that some report begins with, and the next one, if there is one
pub record Next (whole front : List Line) (line : List ℕ) : Type 0 where
  pub next : Line
  pub behind : List Line
  pub whole_is : whole ≡ front ++ next ∷ behind
  pub can : can_stand next ≡ true
  pub told : line ≡ line_text next

pub next_line : (whole front : List Line) (line : List ℕ) (behind : List (List ℕ)) → list_all can_stand whole ≡ true → list_all can_stand front ≡ true → texts_of whole ≡ texts_of front ++ line ∷ behind → Next whole front line
next_line [] [] line behind p q e = absurd cc
next_line [] (m ∷ front) line behind p q e = absurd cc
next_line (l ∷ whole) [] line behind p q e =
    record { next = l; behind = whole; whole_is = refl; can = (and_parts (can_stand l) (list_all can_stand whole) p).0; told = (let first : line_text l ≡ line = cc in sym first) }
next_line (l ∷ whole) (m ∷ front) line behind p q e =
    let f = and_parts (can_stand l) (list_all can_stand whole) p in
    let g = and_parts (can_stand m) (list_all can_stand front) q in
    let first : line_text l ≡ line_text m = cc in
    let rest : texts_of whole ≡ texts_of front ++ line ∷ behind = cc in
    let more = next_line whole front line behind f.1 g.1 rest in
    let same = same_line l m f.0 g.0 first in
    record {
      next = more.next;
      behind = more.behind;
      whole_is = ap₂ (λ x xs. x ∷ xs) same more.whole_is;
      can = more.can;
      told = more.told;
    }

pub same_lines : (ls ms : List Line) → list_all can_stand ls ≡ true → list_all can_stand ms ≡ true → texts_of ls ≡ texts_of ms → ls ≡ ms
same_lines [] [] p q e = refl
same_lines [] (m ∷ ms) p q e = absurd cc
same_lines (l ∷ ls) [] p q e = absurd cc
same_lines (l ∷ ls) (m ∷ ms) p q e =
    let f = and_parts (can_stand l) (list_all can_stand ls) p in
    let g = and_parts (can_stand m) (list_all can_stand ms) q in
    let first : line_text l ≡ line_text m = cc in
    let rest : texts_of ls ≡ texts_of ms = cc in
    ap₂ (λ x xs. x ∷ xs) (same_line l m f.0 g.0 first) (same_lines ls ms f.1 g.1 rest)

-- ---- what stands behind pairs and transactions

abbrev pub Behind : List (ℕ × ValueType) → List ReportedTx → Counts → List (ℕ × ValueType) → List ReportedTx → Line → List Line → Type 0
Behind qs us c ps ts (Pair k v) more = (ts ≡ []) × (vs : List (ℕ × ValueType)) × (qs ≡ ps ++ (k, v) ∷ vs)
Behind qs us c ps ts (Tx t) more = (qs ≡ ps) × (vs : List ReportedTx) × (us ≡ ts ++ t ∷ vs)
Behind qs us c ps ts (Sums d) more = (qs ≡ ps) × (us ≡ ts) × (c ≡ d) × (more ≡ [])

behind_txs : (us : List ReportedTx) (c : Counts) (ts : List ReportedTx) (l : Line) (more : List Line) → tx_lines us ++ Sums c ∷ [] ≡ tx_lines ts ++ l ∷ more → Behind [] us c [] ts l more
behind_txs [] c [] (Pair k v) more e = absurd cc
behind_txs [] c [] (Tx t) more e = absurd cc
behind_txs [] c [] (Sums d) more e = (refl, refl, (cc), (cc))
behind_txs [] c (t ∷ ts) l more e = absurd cc
behind_txs (u ∷ us) c [] (Pair k v) more e = absurd cc
behind_txs (u ∷ us) c [] (Tx t) more e = (let same : u ≡ t = cc in (refl, us, ap (λ x. x ∷ us) same))
behind_txs (u ∷ us) c [] (Sums d) more e = absurd cc
behind_txs (u ∷ us) c (t ∷ ts) (Pair k v) more e = absurd (no_pair us c ts k v more (let rest : tx_lines us ++ Sums c ∷ [] ≡ tx_lines ts ++ Pair k v ∷ more = cc in rest))
  where
    no_pair : (us : List ReportedTx) (c : Counts) (ts : List ReportedTx) (k : ℕ) (v : ValueType) (more : List Line) → tx_lines us ++ Sums c ∷ [] ≡ tx_lines ts ++ Pair k v ∷ more → ⊥
    no_pair [] c [] k v more e = cc
    no_pair [] c (t ∷ ts) k v more e = cc
    no_pair (u ∷ us) c [] k v more e = cc
    no_pair (u ∷ us) c (t ∷ ts) k v more e = no_pair us c ts k v more (let rest : tx_lines us ++ Sums c ∷ [] ≡ tx_lines ts ++ Pair k v ∷ more = cc in rest)
behind_txs (u ∷ us) c (t ∷ ts) (Tx w) more e =
    let first : u ≡ t = cc in
    let rest : tx_lines us ++ Sums c ∷ [] ≡ tx_lines ts ++ Tx w ∷ more = cc in
    let found = behind_txs us c ts (Tx w) more rest in (refl, found.1, ap₂ (λ x xs. x ∷ xs) first found.2)
behind_txs (u ∷ us) c (t ∷ ts) (Sums d) more e =
    let first : u ≡ t = cc in
    let rest : tx_lines us ++ Sums c ∷ [] ≡ tx_lines ts ++ Sums d ∷ more = cc in
    let found = behind_txs us c ts (Sums d) more rest in (refl, ap₂ (λ x xs. x ∷ xs) first found.1, found.2, found.3)

more_pairs : (p : ℕ × ValueType) (qs : List (ℕ × ValueType)) (us : List ReportedTx) (c : Counts) (ps : List (ℕ × ValueType)) (ts : List ReportedTx) (l : Line) (more : List Line)
    → Behind qs us c ps ts l more → Behind (p ∷ qs) us c (p ∷ ps) ts l more
more_pairs p qs us c ps ts (Pair k v) more b = (b.0, b.1, ap (λ x. p ∷ x) b.2)
more_pairs p qs us c ps ts (Tx t) more b = (ap (λ x. p ∷ x) b.0, b.1, b.2)
more_pairs p qs us c ps ts (Sums d) more b = (ap (λ x. p ∷ x) b.0, b.1, b.2, b.3)

pub behind_pairs :
    (qs : List (ℕ × ValueType)) (us : List ReportedTx) (c : Counts) (ps : List (ℕ × ValueType)) (ts : List ReportedTx) (l : Line) (more : List Line)
    → pair_lines qs ++ (tx_lines us ++ Sums c ∷ []) ≡ pair_lines ps ++ (tx_lines ts ++ l ∷ more) → Behind qs us c ps ts l more
behind_pairs [] us c [] ts l more e = behind_txs us c ts l more e
behind_pairs [] [] c (p ∷ ps) ts l more e = absurd cc
behind_pairs [] (u ∷ us) c (p ∷ ps) ts l more e = absurd cc
behind_pairs (q ∷ qs) us c [] [] (Pair k v) more e = (let first : Pair q.0 q.1 ≡ Pair k v = cc in (refl, qs, ap (λ x. x ∷ qs) (same_pair_line q k v first)))
  where
    same_pair_line : (q : ℕ × ValueType) (k : ℕ) (v : ValueType) → Pair q.0 q.1 ≡ Pair k v → q ≡ (k, v)
    same_pair_line q k v e = let a : q.0 ≡ k = cc in let b : q.1 ≡ v = cc in ap₂ (λ (x : ℕ) (y : ValueType). (x, y)) a b
behind_pairs (q ∷ qs) us c [] [] (Tx t) more e = absurd cc
behind_pairs (q ∷ qs) us c [] [] (Sums d) more e = absurd cc
behind_pairs (q ∷ qs) us c [] (t ∷ ts) l more e = absurd cc
behind_pairs (q ∷ qs) us c (p ∷ ps) ts l more e =
    let first : Pair q.0 q.1 ≡ Pair p.0 p.1 = cc in
    let a : q.0 ≡ p.0 = cc in
    let b : q.1 ≡ p.1 = cc in
    let same : q ≡ p = ap₂ (λ (x : ℕ) (y : ValueType). (x, y)) a b in
    let rest : pair_lines qs ++ (tx_lines us ++ Sums c ∷ []) ≡ pair_lines ps ++ (tx_lines ts ++ l ∷ more) = cc in
    subst (λ (x : ℕ × ValueType). Behind (x ∷ qs) us c (p ∷ ps) ts l more) (sym same) (more_pairs p qs us c ps ts l more (behind_pairs qs us c ps ts l more rest))

pub behind_so_far : (r : Reported) (s : SoFar) (l : Line) (more : List Line) → lines_of r ≡ lines_so_far s ++ l ∷ more → Behind r.pairs r.txs (counts_of r) s.pairs s.txs l more
behind_so_far r s l more e = behind_pairs r.pairs r.txs (counts_of r) s.pairs s.txs l more (e ∙ append_assoc (pair_lines s.pairs) (tx_lines s.txs) (l ∷ more))

-- ---- keys that rise

-- ordered tests of numbers
less : (a b : ℕ) → T (is_lt (nat_cmp a b)) → a < b
less a b h = lt_from a b (t_is (is_lt (nat_cmp a b)) h)
  where
    t_is : (b : Bool) → T b → b ≡ true
    t_is true h = refl
    t_is false h = absurd h

t_first : (a b : Bool) → T (a && b) → T a
t_first true b p = tt
t_first false b p = p

t_second : (a b : Bool) → T (a && b) → T b
t_second true b p = p
t_second false b p = absurd p

t_both : (a b : Bool) → T a → T b → T (a && b)
t_both true b p q = q
t_both false b p q = p

t_less : (a b : ℕ) → a < b → T (is_lt (nat_cmp a b))
t_less a b h = subst (λ (t : Bool). T (is_lt (cond t Less (cond (a == b) Equal Greater)))) (sym (lt-ltb a b h)) tt

pub above_rising : (ps : List (ℕ × ValueType)) (k : ℕ) (v : ValueType) (vs : List (ℕ × ValueType)) → IsRising (ps ++ (k, v) ∷ vs) → is_above k ps ≡ true
above_rising [] k v vs r = refl
above_rising (p ∷ ps) k v vs r =
    let all = t_first (below_all nat_cmp p.0 (ps ++ (k, v) ∷ vs)) (is_sorted nat_cmp (ps ++ (k, v) ∷ vs)) r in
    let rest = t_second (below_all nat_cmp p.0 (ps ++ (k, v) ∷ vs)) (is_sorted nat_cmp (ps ++ (k, v) ∷ vs)) r in
    and_from _ _ (lt-ltb p.0 k (at ps all)) (above_rising ps k v vs rest)
  where
    at : (qs : List (ℕ × ValueType)) → T (below_all nat_cmp p.0 (qs ++ (k, v) ∷ vs)) → p.0 < k
    at [] h = less p.0 k (t_first _ _ h)
    at (q ∷ qs) h = at qs (t_second _ _ h)

pub push_rising : (ps : List (ℕ × ValueType)) (k : ℕ) (v : ValueType) → IsRising ps → is_above k ps ≡ true → IsRising (ps ++ (k, v) ∷ [])
push_rising [] k v r a = tt
push_rising (p ∷ ps) k v r a =
    let parts = and_parts (nat_lt p.0 k) (is_above k ps) a in
    t_both _ _ (at ps (t_first (below_all nat_cmp p.0 ps) (is_sorted nat_cmp ps) r)) (push_rising ps k v (t_second (below_all nat_cmp p.0 ps) (is_sorted nat_cmp ps) r) parts.1)
  where
    at : (qs : List (ℕ × ValueType)) → T (below_all nat_cmp p.0 qs) → T (below_all nat_cmp p.0 (qs ++ (k, v) ∷ []))
    at [] h = t_both _ _ (t_less p.0 k (ltb-true p.0 k (and_parts (nat_lt p.0 k) (is_above k ps) a).0)) tt
    at (q ∷ qs) h = t_both _ _ (t_first _ _ h) (at qs (t_second _ _ h))

and_none : (b : Bool) → false ≡ (b && false)
and_none true = refl
and_none false = refl

-- the last key tells whether another one is above all
pub last_above : (ps : List (ℕ × ValueType)) (k : ℕ) (q : ℕ × ValueType) → 0 < length ps → IsRising ps → q ≡ get_or ps (length ps - 1) q → nat_lt q.0 k ≡ is_above k ps
last_above [] k q some r at = absurd (omega arith)
last_above (p ∷ []) k q some r at = ap (λ (x : ℕ × ValueType). nat_lt x.0 k) at ∙ and_true (nat_lt p.0 k)
  where
    and_true : (b : Bool) → b ≡ (b && true)
    and_true true = refl
    and_true false = refl
last_above (p ∷ p2 ∷ ps) k q some r at =
    let rest = t_second (below_all nat_cmp p.0 (p2 ∷ ps)) (is_sorted nat_cmp (p2 ∷ ps)) r in
    let next = less p.0 p2.0 (t_first _ _ (t_first (below_all nat_cmp p.0 (p2 ∷ ps)) (is_sorted nat_cmp (p2 ∷ ps)) r)) in
    last_above (p2 ∷ ps) k q (omega arith) rest (last_of_rest p p2 ps q at) ∙ implied (is_above k (p2 ∷ ps)) (λ e. lt-ltb p.0 k (let up = ltb-true p2.0 k (and_parts (nat_lt p2.0 k) (is_above k ps) e).0 in omega arith))
  where
    implied : (b : Bool) → (b ≡ true → nat_lt p.0 k ≡ true) → b ≡ (nat_lt p.0 k && b)
    implied true h = sym (and_from _ _ (h refl) refl)
    implied false h = and_none (nat_lt p.0 k)

-- ---- the first line of a text

pub taken_line : (a b : List ℕ) → a ++ 10 ∷ [] ≡ take (length a + 1) (a ++ 10 ∷ b)
taken_line [] b = refl
taken_line (x ∷ a) b = ap (λ l. x ∷ l) (taken_line a b) ∙ (let e : suc (length a + 1) ≡ suc (length a) + 1 = omega arith in ap (λ (n : ℕ). take n (x ∷ (a ++ 10 ∷ b))) e)

pub line_inside : (bytes a b : List ℕ) → bytes ≡ a ++ 10 ∷ b → length a + 1 ≤ length bytes
line_inside bytes a b e = let len = ap length e ∙ length-append a (10 ∷ b) in omega arith

pub cut_first : (bytes a b : List ℕ) → bytes ≡ a ++ 10 ∷ b → Lacks 10 a → cut bytes ≡ take (length a + 1) bytes ∷ cut b
cut_first bytes a b e none = ap cut e ∙ cut_at a b none ∙ ap (λ (l : List ℕ). l ∷ cut b) (taken_line a b ∙ ap (take (length a + 1)) (sym e))
