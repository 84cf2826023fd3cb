-- A line more, and the end of the lines.
use Rattle.std.proofs.Common.{◌≡◌, ℕ, suc, ◌+◌, ◌^◌, ◌<◌, ◌≤◌, true, ◌&&◌, List, [], ◌∷◌, ◌++◌, length, Result, Ok, Err, refl, sym, ap, ap₂, ◌∙◌, subst, arith, append_assoc, append-nil, length-append}
use Rattle.std.proofs.lemmas.Bool.{and_from, lt-ltb}
use Rattle.std.proofs.lemmas.List.Folds.{list_all-append}
use Rattle.std.specs.List.{list_all}
use Rattle.std.specs.Result.{IfOk}
use Rattle.clv_base.specs.declared.values.Value.{Value as ValueType}
use Rattle.clv_base.specs.Folding.{IsRising}
use Rattle.session_books.specs.declared.counts.Counts.{Counts}
use Rattle.script_lang.specs.Laws.{is_word}
use Rattle.script_lang.specs.Grammar.{most_bytes}
use Rattle.report_reading.specs.declared.told.Taken.{Taken}
use Rattle.report_reading.specs.declared.told.Taken.TheVariants.{Goes, Ends, Nowhere}
use Rattle.report_reading.specs.Told.{ReportedTx, Reported}
use Rattle.report_reading.specs.Texts.{Line, Pair, Tx, Sums, can_stand, fits_counts, line_text, counts_of, pair_lines, tx_lines, lines_of, CanBeReported, texts_of, joined, IsReport}
use Rattle.report_reading.specs.Faults.{cut, BeginsOne, IsFault, at_line, at_end}
use Rattle.report_reading.specs.Reading.{SoFar, so_far, lines_so_far, CanStand, is_above, IsLast, HasPlace, Comes}
use Rattle.report_reading.proofs.Same.{same_line}
use Rattle.report_reading.proofs.Whole.{texts_append, next_line, same_lines, behind_so_far, above_rising, push_rising, joined_cut}
use Rattle.report_reading.proofs.Reports.{cut_report}

-- ---- one line more

all_push : (ls : List Line) (l : Line) → list_all can_stand ls ≡ true → can_stand l ≡ true → list_all can_stand (ls ++ l ∷ []) ≡ true
all_push ls l h k = list_all-append can_stand ls (l ∷ []) ∙ and_from _ _ h (and_from _ _ k refl)

pairs_push : (ps : List (ℕ × ValueType)) (k : ℕ) (v : ValueType) → pair_lines (ps ++ (k, v) ∷ []) ≡ pair_lines ps ++ Pair k v ∷ []
pairs_push [] k v = refl
pairs_push (p ∷ ps) k v = ap (λ (l : List Line). Pair p.0 p.1 ∷ l) (pairs_push ps k v)

txs_push : (ts : List ReportedTx) (t : ReportedTx) → tx_lines (ts ++ t ∷ []) ≡ tx_lines ts ++ Tx t ∷ []
txs_push [] t = refl
txs_push (u ∷ ts) t = ap (λ (l : List Line). Tx u ∷ l) (txs_push ts t)

pub pair_goes : (ps : List (ℕ × ValueType)) (k : ℕ) (v : ValueType) → lines_so_far (so_far (ps ++ (k, v) ∷ []) []) ≡ lines_so_far (so_far ps []) ++ Pair k v ∷ []
pair_goes ps k v = append-nil (pair_lines (ps ++ (k, v) ∷ [])) ∙ pairs_push ps k v ∙ ap (λ (l : List Line). l ++ Pair k v ∷ []) (sym (append-nil (pair_lines ps)))

pub tx_goes : (ps : List (ℕ × ValueType)) (ts : List ReportedTx) (t : ReportedTx) → lines_so_far (so_far ps (ts ++ t ∷ [])) ≡ lines_so_far (so_far ps ts) ++ Tx t ∷ []
tx_goes ps ts t = ap (λ (l : List Line). pair_lines ps ++ l) (txs_push ts t) ∙ sym (append_assoc (pair_lines ps) (tx_lines ts) (Tx t ∷ []))

pub pair_stands : (ps : List (ℕ × ValueType)) (k : ℕ) (v : ValueType) → CanStand (so_far ps []) → can_stand (Pair k v) ≡ true → is_above k ps ≡ true → CanStand (so_far (ps ++ (k, v) ∷ []) [])
pair_stands ps k v s can above =
    record {
      rises = push_rising ps k v s.rises above;
      each = ap (list_all can_stand) (pair_goes ps k v) ∙ all_push (lines_so_far (so_far ps [])) (Pair k v) s.each can;
    }

pub tx_stands : (ps : List (ℕ × ValueType)) (ts : List ReportedTx) (t : ReportedTx) → CanStand (so_far ps ts) → can_stand (Tx t) ≡ true → CanStand (so_far ps (ts ++ t ∷ []))
tx_stands ps ts t s can = record { rises = s.rises; each = ap (list_all can_stand) (tx_goes ps ts t) ∙ all_push (lines_so_far (so_far ps ts)) (Tx t) s.each can }

-- ---- no line there

pub pair_nowhere : (s : SoFar) (k : ℕ) (v : ValueType) → (s.txs ≡ [] → is_above k s.pairs ≡ true → ⊥) → HasPlace s s (Pair k v) Nowhere
pair_nowhere s k v never = λ r behind can e.
    let found = behind_so_far r s (Pair k v) behind e in never found.0 (above_rising s.pairs k v found.1 (subst IsRising found.2 can.rises))

pub counts_nowhere : (s : SoFar) (c : Counts) → (c.acknowledged ≡ length s.txs → ⊥) → HasPlace s s (Sums c) Nowhere
counts_nowhere s c never = λ r behind can e.
    let found = behind_so_far r s (Sums c) behind e in never (sym (ap (λ (x : Counts). x.acknowledged) found.2) ∙ ap length found.1)

-- ---- the same of bytes

begins_next : (s : SoFar) (bytes : List ℕ) → CanStand s → (b : BeginsOne (texts_of (lines_so_far s) ++ bytes ∷ [])) → (l : Line) × (more : List Line) × (lines_of b.0 ≡ lines_so_far s ++ l ∷ more) × (can_stand l ≡ true) × (bytes ≡ line_text l)
begins_next s bytes can b =
    let next = next_line (lines_of b.0) (lines_so_far s) bytes b.1 (b.2).each can.each (b.3 ∙ append_assoc (texts_of (lines_so_far s)) (bytes ∷ []) b.1) in
    (next.next, next.behind, next.whole_is, next.can, next.told)

pub comes_none : (s : SoFar) (bytes : List ℕ) → CanStand s → ((l : Line) → can_stand l ≡ true → bytes ≡ line_text l → ⊥) → Comes s s bytes Nowhere
comes_none s bytes can never = λ b. let next = begins_next s bytes can b in never next.0 next.3 next.4

pub comes_so : (s n : SoFar) (bytes : List ℕ) (l : Line) (t : Taken) → CanStand s → can_stand l ≡ true → bytes ≡ line_text l → HasPlace s n l t → Comes s n bytes t
comes_so s n bytes l Goes can own is place = ap texts_of place ∙ texts_append (lines_so_far s) (l ∷ []) ∙ ap (λ (x : List ℕ). texts_of (lines_so_far s) ++ x ∷ []) (sym is)
comes_so s n bytes l (Ends c) can own is place = (place.0, is ∙ ap line_text place.1, place.2)
comes_so s n bytes l Nowhere can own is place =
    λ (b : BeginsOne (texts_of (lines_so_far s) ++ bytes ∷ [])).
    let next = begins_next s bytes can b in
    let same : next.0 ≡ l = same_line next.0 l next.3 own (sym next.4 ∙ is) in place b.0 next.1 b.2 (next.2 ∙ ap (λ (x : Line). lines_so_far s ++ x ∷ next.1) same)

pub ok_comes : {E : Type 0} (s n : SoFar) (bytes : List ℕ) (l : Line) (r : Result Taken E) → CanStand s → can_stand l ≡ true → bytes ≡ line_text l → IfOk r (λ t. HasPlace s n l t) → IfOk r (λ t. Comes s n bytes t)
ok_comes s n bytes l (Ok t) can own is place = comes_so s n bytes l t can own is place
ok_comes s n bytes l (Err e) can own is place = tt

-- ---- the end

report_of : SoFar → ℕ → ℕ → Reported
report_of s u a = record { pairs = s.pairs; txs = s.txs; unsettled = u; aborted = a }

counts_by : ℕ → ℕ → ℕ → Counts
counts_by n u a = record { acknowledged = n; unsettled = u; aborted = a }

pub ends_as : (s : SoFar) (c : Counts) (r : Reported) → r.pairs ≡ s.pairs → r.txs ≡ s.txs → r.unsettled ≡ c.unsettled → r.aborted ≡ c.aborted → c.acknowledged ≡ length s.txs → lines_of r ≡ lines_so_far s ++ Sums c ∷ []
unfolding counts_by
ends_as s c r ps ts u a n =
    let counts : counts_of r ≡ c = ap₂ (λ x y. counts_by x y r.aborted) (ap length ts ∙ sym n) u ∙ ap (counts_by c.acknowledged c.unsettled) a in
    ap₂ (λ (x : List (ℕ × ValueType)) (y : List ReportedTx). pair_lines x ++ (tx_lines y ++ Sums (counts_of r) ∷ [])) ps ts
    ∙ ap (λ (x : Counts). pair_lines s.pairs ++ (tx_lines s.txs ++ Sums x ∷ [])) counts ∙ sym (append_assoc (pair_lines s.pairs) (tx_lines s.txs) (Sums c ∷ []))

pub ends_well : (s : SoFar) (c : Counts) (r : Reported) → CanStand s → r.pairs ≡ s.pairs → lines_of r ≡ lines_so_far s ++ Sums c ∷ [] → fits_counts c ≡ true → CanBeReported r
ends_well s c r can ps lines fits = record { rises = subst IsRising (sym ps) can.rises; each = ap (list_all can_stand) lines ∙ all_push (lines_so_far s) (Sums c) can.each fits }

-- lines that may stand begin some report
pub begins_some : (s : SoFar) → CanStand s → length s.txs < 2 ^ 64 → BeginsOne (texts_of (lines_so_far s))
unfolding report_of counts_by
begins_some s can few =
    let c = counts_by (length s.txs) 0 0 in
    let r = report_of s 0 0 in
    let fits : fits_counts c ≡ true = and_from (is_word (length s.txs)) (is_word 0 && is_word 0) (lt-ltb (length s.txs) (2 ^ 64) few) refl in
    let lines = ends_as s c r refl refl refl refl refl in
    (r, texts_of (Sums c ∷ []), ends_well s c r can refl lines fits, ap texts_of lines ∙ texts_append (lines_so_far s) (Sums c ∷ []))

-- nothing stands behind the counts
pub none_behind : (s : SoFar) (c : Counts) (line : List ℕ) → CanStand s → fits_counts c ≡ true → BeginsOne ((texts_of (lines_so_far s) ++ line_text (Sums c) ∷ []) ++ line ∷ []) → ⊥
none_behind s c line can fits b =
    let front : texts_of (lines_so_far s ++ Sums c ∷ []) ≡ texts_of (lines_so_far s) ++ line_text (Sums c) ∷ [] = texts_append (lines_so_far s) (Sums c ∷ []) in
    let next =
    next_line (lines_of b.0) (lines_so_far s ++ Sums c ∷ []) line b.1 (b.2).each (all_push (lines_so_far s) (Sums c) can.each fits)
    (b.3 ∙ append_assoc (texts_of (lines_so_far s) ++ line_text (Sums c) ∷ []) (line ∷ []) b.1 ∙ ap (λ l. l ++ line ∷ b.1) (sym front)) in
    let found = behind_so_far b.0 s (Sums c) (next.next ∷ next.behind) (next.whole_is ∙ append_assoc (lines_so_far s) (Sums c ∷ []) (next.next ∷ next.behind)) in
    not_empty next.next next.behind found.3
  where
    not_empty : (l : Line) (ls : List Line) → l ∷ ls ≡ [] → ⊥
    not_empty l ls e = cc

-- lines without counts are no report
no_end : (qs : List (ℕ × ValueType)) (us : List ReportedTx) (c : Counts) (ps : List (ℕ × ValueType)) (ts : List ReportedTx) → pair_lines qs ++ (tx_lines us ++ Sums c ∷ []) ≡ pair_lines ps ++ tx_lines ts → ⊥
no_end [] us c [] ts e = no_counts us ts e
  where
    no_counts : (us ts : List ReportedTx) → tx_lines us ++ Sums c ∷ [] ≡ tx_lines ts → ⊥
    no_counts [] [] e = cc
    no_counts [] (t ∷ ts) e = cc
    no_counts (u ∷ us) [] e = cc
    no_counts (u ∷ us) (t ∷ ts) e = no_counts us ts (let rest : tx_lines us ++ Sums c ∷ [] ≡ tx_lines ts = cc in rest)
no_end [] [] c (p ∷ ps) ts e = cc
no_end [] (u ∷ us) c (p ∷ ps) ts e = cc
no_end (q ∷ qs) us c [] [] e = cc
no_end (q ∷ qs) us c [] (t ∷ ts) e = cc
no_end (q ∷ qs) us c (p ∷ ps) ts e = no_end qs us c ps ts (let rest : pair_lines qs ++ (tx_lines us ++ Sums c ∷ []) ≡ pair_lines ps ++ tx_lines ts = cc in rest)

-- ---- faults, from where the reading is

-- so many lines of the bytes were read, and these are left
pub record IsAt (bytes rest : List ℕ) (number : ℕ) (s : SoFar) : Type 0 where
  pub lines : cut bytes ≡ texts_of (lines_so_far s) ++ cut rest
  pub count : number ≡ length (lines_so_far s)
  pub room : number + length rest ≤ length bytes
  pub short : length bytes ≤ most_bytes

texts_length : (ls : List Line) → length (texts_of ls) ≡ length ls
texts_length [] = refl
texts_length (l ∷ ls) = ap suc (texts_length ls)

txs_length : (ts : List ReportedTx) → length (tx_lines ts) ≡ length ts
txs_length [] = refl
txs_length (t ∷ ts) = ap suc (txs_length ts)

few_txs : (s : SoFar) (bytes rest : List ℕ) (number : ℕ) → IsAt bytes rest number s → length s.txs < 2 ^ 64
few_txs s bytes rest number i =
    let count = i.count in
    let room = i.room in
    let short = i.short in
    let sum = length-append (pair_lines s.pairs) (tx_lines s.txs) in
    let txs = txs_length s.txs in omega arith

pub at_first : (bytes : List ℕ) → length bytes ≤ most_bytes → IsAt bytes bytes 0 (so_far [] [])
at_first bytes h = record { lines = refl; count = refl; room = omega arith; short = h }

pub at_next : (bytes rest line behind : List ℕ) (number next : ℕ) (s n : SoFar) → IsAt bytes rest number s → cut rest ≡ line ∷ cut behind → length behind < length rest → next ≡ number + 1 → Comes s n line Goes → IsAt bytes behind next n
at_next bytes rest line behind number next s n i first less is goes =
    let room = i.room in
    let lines : texts_of (lines_so_far n) ≡ texts_of (lines_so_far s) ++ line ∷ [] = goes in
    let more : length (lines_so_far n) ≡ length (lines_so_far s) + 1 =
    sym (texts_length (lines_so_far n)) ∙ ap length lines ∙ length-append (texts_of (lines_so_far s)) (line ∷ []) ∙ ap (λ (k : ℕ). k + 1) (texts_length (lines_so_far s)) in
    let count = i.count in
    record {
      lines = i.lines ∙ ap (λ l. texts_of (lines_so_far s) ++ l) first ∙ sym (append_assoc (texts_of (lines_so_far s)) (line ∷ []) (cut behind)) ∙ ap (λ l. l ++ cut behind) (sym lines);
      count = omega arith;
      room = omega arith;
      short = i.short;
    }

pub fault_here : (bytes rest line behind : List ℕ) (number next : ℕ) (s n : SoFar) → CanStand s → IsAt bytes rest number s → cut rest ≡ line ∷ cut behind → next ≡ number + 1 → Comes s n line Nowhere → IsFault bytes next
fault_here bytes rest line behind number next s n can i first is never =
    let place : suc (length (texts_of (lines_so_far s))) ≡ next = (let size = texts_length (lines_so_far s) in let count = i.count in omega arith) in
    subst (IsFault bytes) place
    (at_line (texts_of (lines_so_far s)) line (cut behind) i.short (i.lines ∙ ap (λ l. texts_of (lines_so_far s) ++ l) first) (begins_some s can (few_txs s bytes rest number i)) never)

-- with their counts, too
begins_whole : (s : SoFar) (c : Counts) → CanStand s → IsLast s c → BeginsOne (texts_of (lines_so_far s) ++ line_text (Sums c) ∷ [])
unfolding report_of
begins_whole s c can last =
    let r = report_of s c.unsettled c.aborted in
    let e = ends_as s c r refl refl refl refl last.0 in
    (r, [], ends_well s c r can refl e last.1, ap texts_of e ∙ texts_append (lines_so_far s) (Sums c ∷ []) ∙ sym (append-nil (texts_of (lines_so_far s) ++ line_text (Sums c) ∷ [])))

no_bytes : (x : ℕ) (xs : List ℕ) → x ∷ xs ≡ [] → ⊥
no_bytes x xs e = cc

some_line : (x : ℕ) (xs : List ℕ) → cut (x ∷ xs) ≡ [] → ⊥
some_line x xs e = no_bytes x xs (sym (joined_cut (x ∷ xs)) ∙ ap joined e)

-- the counts came, and more stands behind them
pub fault_behind : (bytes rest line behind : List ℕ) (number next : ℕ) (s : SoFar) (c : Counts) → CanStand s → IsAt bytes rest number s → cut rest ≡ line ∷ cut behind → next ≡ number + 2 → line ≡ line_text (Sums c) → IsLast s c
    → 0 < length behind → IsFault bytes next
fault_behind bytes rest line [] number next s c can i first is told last some = absurd (omega arith)
fault_behind bytes rest line (b ∷ bs) number next s c can i first is told last some = at (cut (b ∷ bs)) refl (some_line b bs)
  where
    lines : cut bytes ≡ (texts_of (lines_so_far s) ++ line_text (Sums c) ∷ []) ++ cut (b ∷ bs)
    lines = i.lines ∙ ap (λ l. texts_of (lines_so_far s) ++ l) (first ∙ ap (λ (l : List ℕ). l ∷ cut (b ∷ bs)) told) ∙ sym (append_assoc (texts_of (lines_so_far s)) (line_text (Sums c) ∷ []) (cut (b ∷ bs)))

    at : (ls : List (List ℕ)) → cut (b ∷ bs) ≡ ls → (cut (b ∷ bs) ≡ [] → ⊥) → IsFault bytes next
    at [] e never = absurd (never e)
    at (l ∷ ls) e never =
        let size = length-append (texts_of (lines_so_far s)) (line_text (Sums c) ∷ []) in
        let texts = texts_length (lines_so_far s) in
        let count = i.count in
        let place : suc (length (texts_of (lines_so_far s) ++ line_text (Sums c) ∷ [])) ≡ next = omega arith in
        subst (IsFault bytes) place
        (at_line (texts_of (lines_so_far s) ++ line_text (Sums c) ∷ []) l ls i.short (lines ∙ ap (λ x. (texts_of (lines_so_far s) ++ line_text (Sums c) ∷ []) ++ x) e) (begins_whole s c can last) (none_behind s c l can last.1))

-- the text ends too soon
pub fault_at_end : (bytes rest : List ℕ) (number next : ℕ) (s : SoFar) → CanStand s → IsAt bytes rest number s → length rest ≡ 0 → next ≡ number + 1 → IsFault bytes next
fault_at_end bytes [] number next s can i none is =
    let lines : cut bytes ≡ texts_of (lines_so_far s) = i.lines ∙ append-nil (texts_of (lines_so_far s)) in
    let place : suc (length (cut bytes)) ≡ next = (let size = ap length lines ∙ texts_length (lines_so_far s) in let count = i.count in omega arith) in
    subst (IsFault bytes) place
    (at_end i.short (subst BeginsOne (sym lines) (begins_some s can (few_txs s bytes [] number i)))
    (λ r report. no_end r.pairs r.txs (counts_of r) s.pairs s.txs (same_lines (lines_of r) (lines_so_far s) (report.can).each can.each (sym (cut_report bytes r report) ∙ lines))))
fault_at_end bytes (b ∷ rest) number next s can i none is = absurd (omega arith)

-- the counts are the last line
pub is_report : (bytes rest line behind : List ℕ) (number : ℕ) (s : SoFar) (c : Counts) (r : Reported) → IsAt bytes rest number s → cut rest ≡ line ∷ cut behind → length behind ≡ 0 → line ≡ line_text (Sums c) → lines_of r ≡ lines_so_far s ++ Sums c ∷ [] → CanBeReported r
    → IsReport bytes r
is_report bytes rest line [] number s c r i first none told lines can =
    record {
      short = i.short;
      can = can;
      text =
          sym (joined_cut bytes) ∙ ap joined (i.lines ∙ ap (λ l. texts_of (lines_so_far s) ++ l) (first ∙ ap (λ (l : List ℕ). l ∷ []) told) ∙ sym (texts_append (lines_so_far s) (Sums c ∷ [])) ∙ ap texts_of (sym lines));
    }
is_report bytes rest line (b ∷ bs) number s c r i first none told lines can = absurd (omega arith)
