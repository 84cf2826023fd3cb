-- A line tells one thing alone.
use Rattle.std.proofs.Common.{◌≡◌, ℕ, zero, suc, ◌+◌, ◌*◌, ◌<◌, ◌≤◌, Bool, true, false, ◌&&◌, nat_lt, nat_le, List, [], ◌∷◌, ◌++◌, map, length, get_or, Option, Some, None, Ok, Err, codes, refl, sym, ap, ap₂, ◌∙◌, arith}
use Rattle.std.proofs.lemmas.Bool.{and_parts, ltb-true, leb-true}
use Rattle.std.proofs.Common.{not, true≢false}
use Rattle.std.specs.Str.{bytes_eq}
use Rattle.std.proofs.lemmas.Slice.Eq.{bytes_eq-Decides}
use Rattle.std.proofs.lemmas.Option.{same_Some}
use Rattle.std.specs.List.{list_all}
use Rattle.hex.specs.Hex.{encode_lower, lower_digits, IsBytes, decode_of}
use Rattle.hex.specs.declared.error.FromHexError.{FromHexError}
use Rattle.hex.proofs.HexLemmas.{decode_of-encode_lower, decode_of-ok, length-encode_with}
use Rattle.serde_json.specs.Data.{Data, null, object, Members, member}
use Rattle.serde_json.specs.Read.{read}
use Rattle.serde_json.specs.Written.{compact_text}
use Rattle.clv_base.specs.declared.values.Value.{Value as ValueType}
use Rattle.clv_base.specs.declared.values.Value.TheVariants.{Num, Bytes}
use Rattle.clv_base.specs.declared.ops.Op.TheVariants.{Get, Put, Del, Scan, Add}
use Rattle.clv_base.specs.declared.ops.Answer.TheVariants.{Value, Pairs, Added}
use Rattle.clv_base.specs.Values.{fits_value}
use Rattle.clv_base.specs.Backs.{are_numbered}
use Rattle.session_books.specs.declared.counts.Counts.{Counts}
use Rattle.session_books.specs.Done.{Done, Did, WentBack}
use Rattle.script_lang.specs.Laws.{is_word}
use Rattle.report_text.specs.Lines.{num, list, value_data, optional, pair, act, acts, transaction}
use Rattle.report_text.specs.Counts.{summary}
use Rattle.report_reading.specs.Told.{ReportedTx, fits_optional, fits_pair, can_be_done, numbered, has_acts, is_session, is_serial, can_be_acts, can_be_told}
use Rattle.report_reading.specs.Texts.{Line, Pair, Tx, Sums, named, data_of, can_stand, line_text}
use Rattle.report_reading.proofs.ReadBack.{read_line}
use Rattle.report_reading.proofs.Rows.{no_get_del, no_put_scan, no_put_add, no_scan_add, list_same, row_of, act_is_row, Two, back, two_values, Three, got, deleted, three_values, Four, put, scanned, added, four_values}

-- ---- values

bytes_at : (bytes : List ℕ) → list_all (λ b. nat_lt b 256) bytes ≡ true → (i : ℕ) → get_or bytes i 0 < 256
bytes_at [] h i = omega arith
bytes_at (b ∷ bytes) h zero = ltb-true b 256 (and_parts (nat_lt b 256) (list_all (λ x. nat_lt x 256) bytes) h).0
bytes_at (b ∷ bytes) h (suc i) = bytes_at bytes (and_parts (nat_lt b 256) (list_all (λ x. nat_lt x 256) bytes) h).1 i

pub bytes_fit : (bytes : List ℕ) → fits_value (Bytes bytes) ≡ true → IsBytes bytes
bytes_fit bytes h = bytes_at bytes (and_parts (nat_le (length bytes) 200) (list_all (λ b. nat_lt b 256) bytes) h).1

same_ok : (a b : List ℕ) → decode_of (encode_lower a) ≡ Ok a → decode_of (encode_lower b) ≡ Ok b → encode_lower a ≡ encode_lower b → a ≡ b
same_ok a b p q e = let both = sym p ∙ ap decode_of e ∙ q in cc

pub same_digits : (a b : List ℕ) → fits_value (Bytes a) ≡ true → fits_value (Bytes b) ≡ true → encode_lower a ≡ encode_lower b → a ≡ b
same_digits a b p q e = same_ok a b (decode_of-encode_lower a (bytes_fit a p)) (decode_of-encode_lower b (bytes_fit b q)) e

same_value : (v w : ValueType) → fits_value v ≡ true → fits_value w ≡ true → value_data v ≡ value_data w → v ≡ w
same_value (Num a) (Num b) p q e = let n : a ≡ b = cc in ap Num n
same_value (Num a) (Bytes b) p q e = absurd cc
same_value (Bytes a) (Num b) p q e = absurd cc
same_value (Bytes a) (Bytes b) p q e = let texts : encode_lower a ≡ encode_lower b = cc in ap Bytes (same_digits a b p q texts)

no_null : (v : ValueType) → value_data v ≡ null → ⊥
no_null (Num a) e = cc
no_null (Bytes a) e = cc

same_optional : (v w : Option ValueType) → fits_optional v ≡ true → fits_optional w ≡ true → optional v ≡ optional w → v ≡ w
same_optional None None p q e = refl
same_optional None (Some w) p q e = absurd (no_null w (sym e))
same_optional (Some v) None p q e = absurd (no_null v e)
same_optional (Some v) (Some w) p q e = ap Some (same_value v w p q e)

same_pair : (p q : ℕ × ValueType) → fits_pair p ≡ true → fits_pair q ≡ true → pair p ≡ pair q → p ≡ q
same_pair p q f g e =
    let parts = list_same (num p.0 ∷ value_data p.1 ∷ []) (num q.0 ∷ value_data q.1 ∷ []) e in
    let keys : p.0 ≡ q.0 = cc in
    let values : value_data p.1 ≡ value_data q.1 = cc in
    ap₂ (λ (k : ℕ) (v : ValueType). (k, v)) keys (same_value p.1 q.1 (and_parts (is_word p.0) (fits_value p.1) f).1 (and_parts (is_word q.0) (fits_value q.1) g).1 values)

-- lists of what is told in one way alone
pub same_each :
    {X : Type 0} (passes : X → Bool) (tell : X → Data) → ((x y : X) → passes x ≡ true → passes y ≡ true → tell x ≡ tell y → x ≡ y)
    → (xs ys : List X) → list_all passes xs ≡ true → list_all passes ys ≡ true → map tell xs ≡ map tell ys → xs ≡ ys
same_each passes tell one [] [] p q e = refl
same_each passes tell one [] (y ∷ ys) p q e = absurd cc
same_each passes tell one (x ∷ xs) [] p q e = absurd cc
same_each passes tell one (x ∷ xs) (y ∷ ys) p q e =
    let f = and_parts (passes x) (list_all passes xs) p in
    let g = and_parts (passes y) (list_all passes ys) q in
    let first : tell x ≡ tell y = cc in
    let rest : map tell xs ≡ map tell ys = cc in
    ap₂ (λ z zs. z ∷ zs) (one x y f.0 g.0 first) (same_each passes tell one xs ys f.1 g.1 rest)

-- ---- acts

two_same : (d e : Done) (a b : Data) → Two d a b → Two e a b → d ≡ e
two_same d e a b (back u p q r s) (back v p2 q2 r2 s2) = let n : u ≡ v = cc in p ∙ ap WentBack n ∙ sym p2

three_same : (d e : Done) (a b c : Data) → Three d a b c → Three e a b c → d ≡ e
three_same d e a b c (got k v p q r s f g) (got l w p2 q2 r2 s2 f2 g2) =
    let n : k ≡ l = cc in let o = same_optional v w g g2 (s ∙ sym s2) in p ∙ ap₂ (λ x y. Did (Get x) (Value y)) n o ∙ sym p2
three_same d e a b c (got k v p q r s f g) (deleted l w p2 q2 r2 s2 f2 g2) = absurd (no_get_del (q ∙ sym q2))
three_same d e a b c (deleted k v p q r s f g) (got l w p2 q2 r2 s2 f2 g2) = absurd (no_get_del (q2 ∙ sym q))
three_same d e a b c (deleted k v p q r s f g) (deleted l w p2 q2 r2 s2 f2 g2) =
    let n : k ≡ l = cc in let o = same_optional v w g g2 (s ∙ sym s2) in p ∙ ap₂ (λ x y. Did (Del x) (Value y)) n o ∙ sym p2

four_same : (d e : Done) (a b c f : Data) → Four d a b c f → Four e a b c f → d ≡ e
four_same d e a b c f (put k v w p q r s t g h i) (put k2 v2 w2 p2 q2 r2 s2 t2 g2 h2 i2) =
    let n : k ≡ k2 = cc in let x = same_value v v2 h h2 (s ∙ sym s2) in let o = same_optional w w2 i i2 (t ∙ sym t2) in
    p ∙ ap₂ (λ y z. Did (Put y z) (Value w)) n x ∙ ap (λ z. Did (Put k2 v2) (Value z)) o ∙ sym p2
four_same d e a b c f (scanned lo hi ps p q r s t g h i) (scanned lo2 hi2 qs p2 q2 r2 s2 t2 g2 h2 i2) =
    let n : lo ≡ lo2 = cc in let m : hi ≡ hi2 = cc in
    let o = same_each fits_pair pair same_pair ps qs i i2 (list_same (map pair ps) (map pair qs) (t ∙ sym t2)) in
    p ∙ ap₂ (λ y z. Did (Scan y z) (Pairs ps)) n m ∙ ap (λ z. Did (Scan lo2 hi2) (Pairs z)) o ∙ sym p2
four_same d e a b c f (added k by x p q r s t g h) (added k2 by2 y p2 q2 r2 s2 t2 g2 h2) =
    let n : k ≡ k2 = cc in let m : by ≡ by2 = cc in let o : x ≡ y = cc in
    p ∙ ap₂ (λ z w. Did (Add z w) (Added x)) n m ∙ ap (λ z. Did (Add k2 by2) (Added z)) o ∙ sym p2
four_same d e a b c f (put k v w p q r s t g h i) (scanned lo2 hi2 qs p2 q2 r2 s2 t2 g2 h2 i2) = absurd (no_put_scan (q ∙ sym q2))
four_same d e a b c f (put k v w p q r s t g h i) (added k2 by2 y p2 q2 r2 s2 t2 g2 h2) = absurd (no_put_add (q ∙ sym q2))
four_same d e a b c f (scanned lo hi ps p q r s t g h i) (put k2 v2 w2 p2 q2 r2 s2 t2 g2 h2 i2) = absurd (no_put_scan (q2 ∙ sym q))
four_same d e a b c f (scanned lo hi ps p q r s t g h i) (added k2 by2 y p2 q2 r2 s2 t2 g2 h2) = absurd (no_scan_add (q ∙ sym q2))
four_same d e a b c f (added k by x p q r s t g h) (put k2 v2 w2 p2 q2 r2 s2 t2 g2 h2 i2) = absurd (no_put_add (q2 ∙ sym q))
four_same d e a b c f (added k by x p q r s t g h) (scanned lo2 hi2 qs p2 q2 r2 s2 t2 g2 h2 i2) = absurd (no_scan_add (q2 ∙ sym q))

-- an act of so many values, and another one of the same values
same_rows : (d e : Done) → can_be_done d ≡ true → can_be_done e ≡ true → row_of d ≡ row_of e → d ≡ e
same_rows d e p q same = at (row_of d) refl
  where
    at : (row : List Data) → row_of d ≡ row → d ≡ e
    at [] r = absurd (none d r)
      where
        none : (x : Done) → row_of x ≡ [] → ⊥
        none (Did (Get k) w) r = cc
        none (Did (Put k v) w) r = cc
        none (Did (Del k) w) r = cc
        none (Did (Scan lo hi) w) r = cc
        none (Did (Add k by) w) r = cc
        none (WentBack u) r = cc
    at (a ∷ []) r = absurd (one d a r)
      where
        one : (x : Done) (b : Data) → row_of x ≡ b ∷ [] → ⊥
        one (Did (Get k) w) b r = cc
        one (Did (Put k v) w) b r = cc
        one (Did (Del k) w) b r = cc
        one (Did (Scan lo hi) w) b r = cc
        one (Did (Add k by) w) b r = cc
        one (WentBack u) b r = cc
    at (a ∷ b ∷ []) r = two_same d e a b (two_values d a b p r) (two_values e a b q (sym same ∙ r))
    at (a ∷ b ∷ c ∷ []) r = three_same d e a b c (three_values d a b c p r) (three_values e a b c q (sym same ∙ r))
    at (a ∷ b ∷ c ∷ f ∷ []) r = four_same d e a b c f (four_values d a b c f p r) (four_values e a b c f q (sym same ∙ r))
    at (a ∷ b ∷ c ∷ f ∷ g ∷ more) r = absurd (five d r)
      where
        five : (x : Done) → row_of x ≡ a ∷ b ∷ c ∷ f ∷ g ∷ more → ⊥
        five (Did (Get k) w) r = cc
        five (Did (Put k v) w) r = cc
        five (Did (Del k) w) r = cc
        five (Did (Scan lo hi) w) r = cc
        five (Did (Add k by) w) r = cc
        five (WentBack u) r = cc

pub same_act : (d e : Done) → can_be_done d ≡ true → can_be_done e ≡ true → act d ≡ act e → d ≡ e
same_act d e p q same = same_rows d e p q (list_same (row_of d) (row_of e) (sym (act_is_row d) ∙ same ∙ act_is_row e))

-- ---- lines

tx_of : ℕ → ℕ → List Done → ReportedTx
tx_of session serial ds = record { session = session; serial = serial; acts = ds }

done_each : (t : ReportedTx) → can_be_told t ≡ true → list_all can_be_done t.acts ≡ true
done_each t h =
    let parts = and_parts (is_session t.session) (is_serial t.serial && can_be_acts t.acts) h in
    let more = and_parts (is_serial t.serial) (can_be_acts t.acts) parts.1 in
    let done = and_parts (has_acts t.acts) (list_all can_be_done t.acts && are_numbered 0 [] (numbered t.acts)) more.1 in
    (and_parts (list_all can_be_done t.acts) (are_numbered 0 [] (numbered t.acts)) done.1).0

same_tx : (t u : ReportedTx) → can_be_told t ≡ true → can_be_told u ≡ true → transaction (named t) t.acts ≡ transaction (named u) u.acts → t ≡ u
unfolding tx_of
same_tx t u p q e =
    let lists : list (acts t.acts) ≡ list (acts u.acts) = cc in
    let serials : t.serial ≡ u.serial = cc in
    let sessions : t.session ≡ u.session = cc in
    let did = same_each can_be_done act same_act t.acts u.acts (done_each t p) (done_each u q) (list_same (acts t.acts) (acts u.acts) lists) in
    ap₂ (λ a b. tx_of a b t.acts) sessions serials ∙ ap (tx_of u.session u.serial) did

counts_of : ℕ → ℕ → ℕ → Counts
counts_of acknowledged unsettled aborted = record { acknowledged = acknowledged; unsettled = unsettled; aborted = aborted }

pub same_counts : (c d : Counts) → summary c ≡ summary d → c ≡ d
unfolding counts_of
same_counts c d e =
    let a : c.acknowledged ≡ d.acknowledged = cc in
    let b : c.unsettled ≡ d.unsettled = cc in
    let f : c.aborted ≡ d.aborted = cc in
    ap₂ (λ x y. counts_of x y c.aborted) a b ∙ ap (counts_of d.acknowledged d.unsettled) f

-- objects whose first keys have other first letters
key_in : Data → List ℕ
key_in (object (member k d ms)) = k
key_in d = []

other_key : (a b : List ℕ) (d e : Data) (ms ns : Members) → (get_or a 0 0 ≡ get_or b 0 0 → ⊥) → object (member a d ms) ≡ object (member b e ns) → ⊥
unfolding key_in
other_key a b d e ms ns differ same = differ (ap (λ x. get_or (key_in x) 0 0) same)

no_tx_counts : (t : ReportedTx) (c : Counts) → transaction (named t) t.acts ≡ summary c → ⊥
no_tx_counts t c e = other_key (codes "ops") (codes "aborted") _ _ _ _ (λ f. omega arith) e

pub same_data : (l m : Line) → can_stand l ≡ true → can_stand m ≡ true → data_of l ≡ data_of m → l ≡ m
same_data (Pair k v) (Pair l w) p q e = let same = same_pair (k, v) (l, w) p q e in ap (λ (x : ℕ × ValueType). Pair x.0 x.1) same
same_data (Pair k v) (Tx u) p q e = absurd cc
same_data (Pair k v) (Sums d) p q e = absurd cc
same_data (Tx t) (Pair l w) p q e = absurd cc
same_data (Tx t) (Tx u) p q e = ap Tx (same_tx t u p q e)
same_data (Tx t) (Sums d) p q e = absurd (no_tx_counts t d e)
same_data (Sums c) (Pair l w) p q e = absurd cc
same_data (Sums c) (Tx u) p q e = absurd (no_tx_counts u c (sym e))
same_data (Sums c) (Sums d) p q e = ap Sums (same_counts c d e)

pub same_text : (l m : Line) → can_stand l ≡ true → can_stand m ≡ true → compact_text (data_of l) ≡ compact_text (data_of m) → l ≡ m
same_text l m p q e = same_data l m p q (same_Some (data_of l) (data_of m) (sym (read_line l p) ∙ ap read e ∙ read_line m q))

pub same_front : (xs ys : List ℕ) → xs ++ 10 ∷ [] ≡ ys ++ 10 ∷ [] → xs ≡ ys
same_front [] [] e = refl
same_front [] (y ∷ []) e = absurd cc
same_front [] (y ∷ z ∷ ys) e = absurd cc
same_front (x ∷ []) [] e = absurd cc
same_front (x ∷ z ∷ xs) [] e = absurd cc
same_front (x ∷ xs) (y ∷ ys) e =
    let first : x ≡ y = cc in
    let rest : xs ++ 10 ∷ [] ≡ ys ++ 10 ∷ [] = cc in
    ap₂ (λ z zs. z ∷ zs) first (same_front xs ys rest)

pub same_line : (l m : Line) → can_stand l ≡ true → can_stand m ≡ true → line_text l ≡ line_text m → l ≡ m
same_line l m p q e = same_text l m p q (same_front (compact_text (data_of l)) (compact_text (data_of m)) e)

-- ---- texts that are digits

pub too_long_text : (bytes text : List ℕ) → fits_value (Bytes bytes) ≡ true → encode_lower bytes ≡ text → 400 < length text → ⊥
too_long_text bytes text fits same long =
    let few = leb-true (length bytes) 200 (and_parts (nat_le (length bytes) 200) (list_all (λ b. nat_lt b 256) bytes) fits).0 in
    let size : length text ≡ 2 * length bytes = ap length (sym same) ∙ length-encode_with lower_digits bytes in omega arith

pub not_decoded : (bytes text : List ℕ) (e : FromHexError) → fits_value (Bytes bytes) ≡ true → encode_lower bytes ≡ text → decode_of text ≡ Err e → ⊥
not_decoded bytes text e fits same bad = let both = sym (decode_of-encode_lower bytes (bytes_fit bytes fits)) ∙ ap decode_of same ∙ bad in cc

pub decoded_alike : (bytes found text : List ℕ) → fits_value (Bytes bytes) ≡ true → encode_lower bytes ≡ text → decode_of text ≡ Ok found → encode_lower found ≡ text
decoded_alike bytes found text fits same good =
    let both : Ok bytes ≡ Ok found = sym (decode_of-encode_lower bytes (bytes_fit bytes fits)) ∙ ap decode_of same ∙ good in
    let equal : bytes ≡ found = cc in ap encode_lower (sym equal) ∙ same

pub decoded_few : (text found : List ℕ) → decode_of text ≡ Ok found → length text ≤ 400 → length found ≤ 200
decoded_few text found good few = let size = (decode_of-ok text found good).2 in omega arith

-- what differs from its own digits differs from all
pub other_text : (bytes found shown text whole : List ℕ) → fits_value (Bytes bytes) ≡ true → encode_lower bytes ≡ text → decode_of whole ≡ Ok found → whole ≡ text → shown ≡ encode_lower found → (shown ≡ text → ⊥) → ⊥
other_text bytes found shown text whole fits same good is told differ = differ (told ∙ decoded_alike bytes found text fits same (ap decode_of (sym is) ∙ good))

pub unequal_texts : (xs ys : List ℕ) → true ≡ not (bytes_eq xs ys) → xs ≡ ys → ⊥
unequal_texts xs ys h e = true≢false (h ∙ ap not ((bytes_eq-Decides xs ys).1 e))
