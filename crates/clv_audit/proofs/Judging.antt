-- Transactions one after another, and maps compared.
use Rattle.std.proofs.Common.{◌≡◌, ℕ, zero, suc, ◌+◌, ◌<◌, ◌≤◌, Bool, true, false, cond, ◌&&◌, nat_le, List, [], ◌∷◌, ◌++◌, length, get_or, set, take, drop, replicate, Some, None, T, inl, inr, refl, sym, ap, ap₂, ◌∙◌, subst, arith, append-nil}
use Rattle.std.proofs.lemmas.Bool.{and_parts, and_from, cases_eq, cases_order, leb-true, ne_eqb, eq-eqb}
use Rattle.std.proofs.Common.{get_or-set_same, get_or-set_other, length-set}
use Rattle.std.proofs.lemmas.List.{take_more, drop_more, take-append-drop, length-take-le, take_all}
use Rattle.std.specs.List.{list_all, AllByRecursion}
use Rattle.std.specs.Ordering.{nat_cmp, is_lt}
use Rattle.std.specs.declared.cmp.Ordering.TheVariants.{Greater}
use Rattle.std.proofs.lemmas.Bool.Decides.{nat_tests}
use Rattle.std.specs.FinMap.Entries.{is_sorted, below_all, by_order}
use Rattle.clv_base.specs.declared.values.Value.{Value as ValueType}
use Rattle.clv_base.specs.Maps.{KeyMap, Acts, map_get, map_set, acts_after, acts_answers, replay_map, replay_answers}
use Rattle.clv_base.specs.Folding.{IsRising}
use Rattle.clv_base.specs.declared.names.TxId.{TxId}
use Rattle.clv_base.specs.declared.logs.LogRecord.{LogRecord}
use Rattle.clv_base.specs.Logs.{committed_somewhere, fold_updates, stands_from, stands}
use Rattle.law_base.specs.Items.{AllLater}
use Rattle.law_base.proofs.Logs.{fold_rises}
use Rattle.law_base.proofs.Lists.{later_push, all_push}
use Rattle.law_base.proofs.Numbers.{lt_from, cmp_eq}
use Rattle.report_reading.specs.declared.told.ReportedTx.{ReportedTx}
use Rattle.report_reading.specs.Told.{numbered, fits_pair, is_session, is_serial, can_be_acts, can_be_told}
use Rattle.report_reading.specs.Texts.{can_stand, pair_lines, tx_lines}
use Rattle.report_reading.specs.declared.told.Line.TheVariants.{Sums}
use Rattle.session_books.specs.declared.counts.Counts.{Counts}
use Rattle.session_books.specs.Done.{Done}
use Rattle.script_lang.specs.Laws.{is_word}
use Rattle.std.proofs.lemmas.Option.{same_Some}
use Rattle.clv_audit.specs.Keeping.{Splits}
use Rattle.clv_audit.specs.Verdicts.{IsFirstDifference}
use Rattle.clv_audit.specs.Right.{AreRight, IsFirstWrong, SerialRises, all_acts, all_answers, answers_of, last_map}

-- ---- one transaction more

replay_push : (m : KeyMap) (ts : List Acts) (t : Acts) → replay_answers m (ts ++ t ∷ []) ≡ replay_answers m ts ++ acts_answers t (replay_map m ts) [] ∷ []
replay_push m [] t = refl
replay_push m (s ∷ ts) t = ap (λ l. acts_answers s m [] ∷ l) (replay_push (acts_after s m []) ts t)

map_push : (m : KeyMap) (ts : List Acts) (t : Acts) → replay_map m (ts ++ t ∷ []) ≡ acts_after t (replay_map m ts) []
map_push m [] t = refl
map_push m (s ∷ ts) t = map_push (acts_after s m []) ts t

acts_push : (ts : List ReportedTx) (t : ReportedTx) → all_acts (ts ++ t ∷ []) ≡ all_acts ts ++ numbered t.acts ∷ []
acts_push [] t = refl
acts_push (s ∷ ts) t = ap (λ l. numbered s.acts ∷ l) (acts_push ts t)

answers_push : (ts : List ReportedTx) (t : ReportedTx) → all_answers (ts ++ t ∷ []) ≡ all_answers ts ++ answers_of t.acts ∷ []
answers_push [] t = refl
answers_push (s ∷ ts) t = ap (λ l. answers_of s.acts ∷ l) (answers_push ts t)

pub last_push : (m : KeyMap) (ts : List ReportedTx) (t : ReportedTx) → last_map m (ts ++ t ∷ []) ≡ acts_after (numbered t.acts) (last_map m ts) []
last_push m ts t = ap (replay_map m) (acts_push ts t) ∙ map_push m (all_acts ts) (numbered t.acts)

answered_push : (m : KeyMap) (ts : List ReportedTx) (t : ReportedTx) → replay_answers m (all_acts (ts ++ t ∷ [])) ≡ replay_answers m (all_acts ts) ++ acts_answers (numbered t.acts) (last_map m ts) [] ∷ []
answered_push m ts t = ap (replay_answers m) (acts_push ts t) ∙ replay_push m (all_acts ts) (numbered t.acts)

pub right_push :
    (m : KeyMap) (ts : List ReportedTx) (t : ReportedTx) → AreRight m ts → AllByRecursion (λ u. SerialRises u t) ts → acts_answers (numbered t.acts) (last_map m ts) [] ≡ answers_of t.acts → AreRight m (ts ++ t ∷ [])
right_push m ts t r above same =
    record {
      serials = later_push SerialRises ts t r.serials above;
      answers = answered_push m ts t ∙ ap₂ (λ xs x. xs ++ x ∷ []) r.answers same ∙ sym (answers_push ts t);
    }

same_last : {A : Type 0} (xs ys : List A) (x y : A) → xs ++ x ∷ [] ≡ ys ++ y ∷ [] → x ≡ y
same_last [] [] x y e = cc
same_last [] (z ∷ []) x y e = absurd cc
same_last [] (z ∷ w ∷ ys) x y e = absurd cc
same_last (z ∷ []) [] x y e = absurd cc
same_last (z ∷ w ∷ xs) [] x y e = absurd cc
same_last {A} (z ∷ xs) (w ∷ ys) x y e = let rest : xs ++ x ∷ [] ≡ ys ++ y ∷ [] = cc in same_last xs ys x y rest

pub wrong_answers : (m : KeyMap) (ts : List ReportedTx) (t : ReportedTx) → (acts_answers (numbered t.acts) (last_map m ts) [] ≡ answers_of t.acts → ⊥) → AreRight m (ts ++ t ∷ []) → ⊥
wrong_answers m ts t never r = never (same_last _ _ _ _ (sym (answered_push m ts t) ∙ r.answers ∙ answers_push ts t))

last_later : {I : Type 0} (R : I → I → Type 0) (xs : List I) (y : I) → AllLater R (xs ++ y ∷ []) → AllByRecursion (λ x. R x y) xs
last_later R [] y h = tt
last_later {I} R (x ∷ xs) y h = (at xs h.0, last_later R xs y h.1)
  where
    at : (zs : List I) → AllByRecursion (R x) (zs ++ y ∷ []) → R x y
    at [] a = a.0
    at (z ∷ zs) a = at zs a.1

pub wrong_serial : (m : KeyMap) (ts : List ReportedTx) (t : ReportedTx) → (AllByRecursion (λ u. SerialRises u t) ts → ⊥) → AreRight m (ts ++ t ∷ []) → ⊥
wrong_serial m ts t never r = never (last_later SerialRises ts t r.serials)

-- ---- the last serial of each session

-- no serial is above its session's entry, and a serial up to it isn't above all of its session
pub record AreLasts (ts : List ReportedTx) (lasts : List ℕ) : Type 0 where
  pub each : AllByRecursion (λ t. t.serial ≤ get_or lasts t.session 0) ts
  pub reached : (s x : ℕ) → 1 ≤ x → x ≤ get_or lasts s 0 → AllByRecursion (λ u. u.session ≡ s → u.serial < x) ts → ⊥

pub zeros : (n s : ℕ) → get_or {A = ℕ} (replicate {A = ℕ} n 0) s 0 ≡ 0
zeros zero s = refl
zeros (suc n) zero = refl
zeros (suc n) (suc s) = zeros n s

pub lasts_first : (lasts : List ℕ) → ((s : ℕ) → get_or lasts s 0 ≡ 0) → AreLasts [] lasts
lasts_first lasts none = record { each = tt; reached = λ s x some below all. (let zero_ = none s in omega arith) }

pub above_all : (ts : List ReportedTx) (lasts : List ℕ) (t : ReportedTx) → AreLasts ts lasts → get_or lasts t.session 0 < t.serial → AllByRecursion (λ u. SerialRises u t) ts
above_all ts lasts t a h = at ts a.each
  where
    at : (us : List ReportedTx) → AllByRecursion (λ u. u.serial ≤ get_or lasts u.session 0) us → AllByRecursion (λ u. SerialRises u t) us
    at [] e = tt
    at (u ∷ us) e = ((λ same. let low = e.0 in let there = ap (λ (s : ℕ). get_or lasts s 0) same in omega arith), at us e.1)

pub not_above : (ts : List ReportedTx) (lasts : List ℕ) (t : ReportedTx) → AreLasts ts lasts → 1 ≤ t.serial → t.serial ≤ get_or lasts t.session 0 → AllByRecursion (λ u. SerialRises u t) ts → ⊥
not_above ts lasts t a some h all = a.reached t.session t.serial some h all

all_but_last : {X : Type 0} (P : X → Type 0) (xs : List X) (x : X) → AllByRecursion P (xs ++ x ∷ []) → AllByRecursion P xs × P x
all_but_last P [] x h = (tt, h.0)
all_but_last P (y ∷ xs) x h = let rest = all_but_last P xs x h.1 in ((h.0, rest.0), rest.1)

pub lasts_push : (ts : List ReportedTx) (lasts : List ℕ) (t : ReportedTx) → t.session < length lasts → AreLasts ts lasts → get_or lasts t.session 0 < t.serial → AreLasts (ts ++ t ∷ []) (set lasts t.session t.serial)
lasts_push ts lasts t inside a h =
    record {
      each = all_push (λ u. u.serial ≤ get_or (set lasts t.session t.serial) u.session 0) ts t (at ts a.each) (let e = get_or-set_same lasts t.session t.serial 0 inside in omega arith);
      reached = λ s x some below all.
          let parts = all_but_last (λ u. u.session ≡ s → u.serial < x) ts t all in
          elim (cases_eq s t.session) [
            | inl same ↦
                let here = ap (λ (k : ℕ). get_or (set lasts t.session t.serial) k 0) same ∙ get_or-set_same lasts t.session t.serial 0 inside in
                let low = parts.1 (sym same) in omega arith
            | inr other ↦ a.reached s x some (let there = get_or-set_other lasts t.session s t.serial 0 other in omega arith) parts.0
          ];
    }
  where
    at : (us : List ReportedTx) → AllByRecursion (λ u. u.serial ≤ get_or lasts u.session 0) us → AllByRecursion (λ u. u.serial ≤ get_or (set lasts t.session t.serial) u.session 0) us
    at [] e = tt
    at (u ∷ us) e =
        let low = e.0 in (
          elim (cases_eq u.session t.session) [
            | inl same ↦ (let here = ap (λ (k : ℕ). get_or (set lasts t.session t.serial) k 0) same ∙ get_or-set_same lasts t.session t.serial 0 inside in let there = ap (λ (k : ℕ). get_or lasts k 0) same in omega arith)
            | inr other ↦ (let there = get_or-set_other lasts t.session u.session t.serial 0 other in omega arith)
          ],
          at us e.1,
        )

-- ---- maps compared

pub t_first : (a b : Bool) → T (a && b) → T a
t_first true b p = tt
t_first false b p = p

pub t_second : (a b : Bool) → T (a && b) → T b
t_second true b p = p
t_second false b p = absurd p

t_true : (b : Bool) → T b → b ≡ true
t_true true h = refl
t_true false h = absurd h

pub less : (a b : ℕ) → T (is_lt (nat_cmp a b)) → a < b
less a b h = lt_from a b (t_true (is_lt (nat_cmp a b)) h)

-- below the first key there is nothing
pub none_below : (k j : ℕ) (m : KeyMap) → T (below_all nat_cmp k m) → j ≤ k → map_get j m ≡ None
none_below k j [] h l = refl
none_below k j (p ∷ m) h l =
    let first = less k p.0 (t_first _ _ h) in
    ap (λ b. cond b (Some p.1) (map_get j m)) (cmp_eq j p.0 ∙ ne_eqb j p.0 (λ e. omega arith)) ∙ none_below k j m (t_second _ _ h) l

pub get_first : (k : ℕ) (v : ValueType) (m : KeyMap) → map_get k ((k, v) ∷ m) ≡ Some v
get_first k v m = ap (λ b. cond b (Some v) (map_get k m)) (cmp_eq k k ∙ eq-eqb k k refl)

pub get_later : (j k : ℕ) (v : ValueType) (m : KeyMap) → (j ≡ k → ⊥) → map_get j ((k, v) ∷ m) ≡ map_get j m
get_later j k v m other = ap (λ b. cond b (Some v) (map_get j m)) (cmp_eq j k ∙ ne_eqb j k other)

-- ---- where two maps that rise differ first

rises_rest : (p : ℕ × ValueType) (m : KeyMap) → IsRising (p ∷ m) → IsRising m
rises_rest p m r = t_second (below_all nat_cmp p.0 m) (is_sorted nat_cmp m) r

rises_above : (p : ℕ × ValueType) (m : KeyMap) → IsRising (p ∷ m) → T (below_all nat_cmp p.0 m)
rises_above p m r = t_first (below_all nat_cmp p.0 m) (is_sorted nat_cmp m) r

none_before : (j : ℕ) (p : ℕ × ValueType) (m : KeyMap) → IsRising (p ∷ m) → j < p.0 → map_get j (p ∷ m) ≡ None
none_before j p m r l = get_later j p.0 p.1 m (λ e. omega arith) ∙ none_below p.0 j m (rises_above p m r) (omega arith)

no_none : {A : Type 0} (x : A) → None ≡ Some x → ⊥
no_none x e = cc

no_some : {A : Type 0} (x : A) → Some x ≡ None → ⊥
no_some x e = cc

pub differ_empty : (q : ℕ × ValueType) (n : KeyMap) → IsRising (q ∷ n) → IsFirstDifference q.0 [] (q ∷ n)
differ_empty q n r =
    record {
      differ = λ e. no_none q.1 (e ∙ get_first q.0 q.1 n);
      first = λ j l. sym (none_before j q n r l);
    }

pub flipped : (key : ℕ) (m n : KeyMap) → IsFirstDifference key m n → IsFirstDifference key n m
flipped key m n d = record { differ = λ e. d.differ (sym e); first = λ j l. sym (d.first j l) }

pub differ_low : (p q : ℕ × ValueType) (m n : KeyMap) → IsRising (p ∷ m) → IsRising (q ∷ n) → p.0 < q.0 → IsFirstDifference p.0 (p ∷ m) (q ∷ n)
differ_low p q m n r s h =
    record {
      differ = λ e. no_some p.1 (sym (get_first p.0 p.1 m) ∙ e ∙ none_before p.0 q n s h);
      first = λ j l. none_before j p m r l ∙ sym (none_before j q n s (omega arith));
    }

pub differ_here : (p q : ℕ × ValueType) (m n : KeyMap) → IsRising (p ∷ m) → IsRising (q ∷ n) → p.0 ≡ q.0 → (p.1 ≡ q.1 → ⊥) → IsFirstDifference p.0 (p ∷ m) (q ∷ n)
differ_here p q m n r s h never =
    record {
      differ = λ e. never (same_Some p.1 q.1 (sym (get_first p.0 p.1 m) ∙ e ∙ ap (λ (j : ℕ). map_get j (q ∷ n)) h ∙ get_first q.0 q.1 n));
      first = λ j l. none_before j p m r l ∙ sym (none_before j q n s (omega arith));
    }

pub differ_at : (p q : ℕ × ValueType) (m n : KeyMap) (key : ℕ) → IsRising (p ∷ m) → IsRising (q ∷ n) → Splits p q key → IsFirstDifference key (p ∷ m) (q ∷ n)
differ_at p q m n key r s (inl (same, never, is)) = subst (λ (k : ℕ). IsFirstDifference k (p ∷ m) (q ∷ n)) (sym is) (differ_here p q m n r s same never)
differ_at p q m n key r s (inr (inl (low, is))) = subst (λ (k : ℕ). IsFirstDifference k (p ∷ m) (q ∷ n)) (sym is) (differ_low p q m n r s low)
differ_at p q m n key r s (inr (inr (low, is))) = subst (λ (k : ℕ). IsFirstDifference k (p ∷ m) (q ∷ n)) (sym is) (flipped q.0 (q ∷ n) (p ∷ m) (differ_low q p n m s r low))

-- behind pairs that are the same
pub differ_behind : (front m n : KeyMap) (key : ℕ) → IsRising (front ++ m) → IsRising (front ++ n) → IsFirstDifference key m n → IsFirstDifference key (front ++ m) (front ++ n)
differ_behind [] m n key r s d = d
differ_behind (p ∷ front) m n key r s d =
    let rest = differ_behind front m n key (rises_rest p (front ++ m) r) (rises_rest p (front ++ n) s) d in
    let apart : key ≡ p.0 → ⊥ = λ e. rest.differ (none_below p.0 key (front ++ m) (rises_above p (front ++ m) r) (omega arith) ∙ sym (none_below p.0 key (front ++ n) (rises_above p (front ++ n) s) (omega arith))) in
    record {
      differ = λ e. rest.differ (sym (get_later key p.0 p.1 (front ++ m) apart) ∙ e ∙ get_later key p.0 p.1 (front ++ n) apart);
      first = λ j l. elim (cases_eq j p.0) [
        | inl same ↦
            ap (λ (i : ℕ). map_get i (p ∷ (front ++ m))) same ∙ get_first p.0 p.1 (front ++ m) ∙ sym (ap (λ (i : ℕ). map_get i (p ∷ (front ++ n))) same ∙ get_first p.0 p.1 (front ++ n))
        | inr other ↦ get_later j p.0 p.1 (front ++ m) other ∙ rest.first j l ∙ sym (get_later j p.0 p.1 (front ++ n) other)
      ];
    }

-- ---- one verdict

pub one_difference : (a b : ℕ) (m n : KeyMap) → IsFirstDifference a m n → IsFirstDifference b m n → a ≡ b
one_difference a b m n d e = elim (cases_order a b) [
  | inl same ↦ same
  | inr (inl low) ↦ absurd (d.differ (e.first a low))
  | inr (inr high) ↦ absurd (e.differ (d.first b high))
]

-- ---- what logs stand for rises

all_rise : (keep : TxId → Bool) (logs : List (List LogRecord)) (m : KeyMap) → IsRising m → IsRising (stands_from keep logs m)
all_rise keep [] m h = h
all_rise keep (log ∷ logs) m h = all_rise keep logs (fold_updates keep log m) (fold_rises keep log m h)

pub stands_rises : (logs : List (List LogRecord)) → IsRising (stands logs)
stands_rises logs = all_rise (committed_somewhere logs) logs [] tt

-- ---- the transactions so far, and the next one

pub wrong_at :
    (m : KeyMap) (ts : List ReportedTx) (i place : ℕ) (t : ReportedTx) → i < length ts → t ≡ get_or ts i t → place ≡ i + 1 → AreRight m (take i ts) → (AreRight m (take i ts ++ t ∷ []) → ⊥) → IsFirstWrong m ts place
wrong_at m ts i place t h at is right wrong =
    record {
      front = take i ts;
      tx = t;
      behind = drop (i + 1) ts;
      all = sym (take-append-drop i ts) ∙ ap (λ (l : List ReportedTx). take i ts ++ l) (drop_more ts i t h ∙ ap (λ x. x ∷ drop (i + 1) ts) (sym at));
      at = (let size = length-take-le i ts (omega arith) in omega arith);
      right = right;
      wrong = wrong;
    }

pub take_next : {A : Type 0} (ts : List A) (i : ℕ) (t : A) → i < length ts → t ≡ get_or ts i t → take (i + 1) ts ≡ take i ts ++ t ∷ []
take_next ts i t h at = take_more ts i t h ∙ ap (λ x. take i ts ++ x ∷ []) (sym at)

-- ---- one transaction more, that is right

pub right_first : (m : KeyMap) → AreRight m []
right_first m = record { serials = tt; answers = refl }

pub record IsOneMore (m after : KeyMap) (ts : List ReportedTx) (table : List ℕ) : Type 0 where
  pub size : length table ≡ 65
  pub lasts : AreLasts ts table
  pub right : AreRight m ts
  pub pairs : after ≡ last_map m ts

pub one_more :
    (m now after : KeyMap) (ts : List ReportedTx) (i : ℕ) (lasts : List ℕ) (t : ReportedTx) (ds : List Done) → i < length ts → t ≡ get_or ts i t → t.session ≤ 64 → ds ≡ t.acts → length lasts ≡ 65 → AreLasts (take i ts) lasts
    → AreRight m (take i ts) → now ≡ last_map m (take i ts) → get_or lasts t.session 0 < t.serial → acts_answers (numbered ds) now [] ≡ answers_of ds → after ≡ acts_after (numbered ds) now []
    → IsOneMore m after (take (i + 1) ts) (set lasts t.session t.serial)
one_more m now after ts i lasts t ds h at inside acts size known right is above same moved =
    let next = take_next ts i t h at in
    let front = take i ts in
    let own : acts_answers (numbered t.acts) (last_map m front) [] ≡ answers_of t.acts =
    ap (λ (l : List Done). acts_answers (numbered l) (last_map m front) []) (sym acts) ∙ ap (λ (k : KeyMap). acts_answers (numbered ds) k []) (sym is) ∙ same ∙ ap answers_of acts in
    record {
      size = length-set lasts t.session t.serial ∙ size;
      lasts = subst (λ (l : List ReportedTx). AreLasts l (set lasts t.session t.serial)) (sym next) (lasts_push front lasts t (omega arith) known above);
      right = subst (AreRight m) (sym next) (right_push m front t right (above_all front lasts t known above) own);
      pairs =
          moved ∙ ap (λ (l : List Done). acts_after (numbered l) now []) acts ∙ ap (λ (k : KeyMap). acts_after (numbered t.acts) k []) is ∙ sym (last_push m front t) ∙ ap (last_map m) (sym next);
    }

-- ---- the first place at which two maps differ

rises_behind : (front m : KeyMap) → IsRising (front ++ m) → IsRising m
rises_behind [] m r = r
rises_behind (p ∷ front) m r = rises_behind front m (rises_rest p (front ++ m) r)

split_at : {A : Type 0} (xs : List A) (i : ℕ) (x : A) → i < length xs → x ≡ get_or xs i x → xs ≡ take i xs ++ x ∷ drop (i + 1) xs
split_at xs i x h at = sym (take-append-drop i xs) ∙ ap (λ l. take i xs ++ l) (drop_more xs i x h ∙ ap (λ y. y ∷ drop (i + 1) xs) (sym at))

pub differ_in :
    (one other : KeyMap) (i key : ℕ) (p q : ℕ × ValueType) → IsRising one → IsRising other → i < length one → i < length other → p ≡ get_or one i p → q ≡ get_or other i q → take i one ≡ take i other → Splits p q key
    → IsFirstDifference key one other
differ_in one other i key p q r s h k at there same splits =
    let a : one ≡ take i one ++ p ∷ drop (i + 1) one = split_at one i p h at in
    let b : other ≡ take i one ++ q ∷ drop (i + 1) other = split_at other i q k there ∙ ap (λ (l : KeyMap). l ++ q ∷ drop (i + 1) other) (sym same) in
    let ra = subst IsRising a r in
    let rb = subst IsRising b s in
    subst (λ (m : KeyMap). IsFirstDifference key m other) (sym a)
    (subst (λ (n : KeyMap). IsFirstDifference key (take i one ++ p ∷ drop (i + 1) one) n) (sym b)
    (differ_behind (take i one) (p ∷ drop (i + 1) one) (q ∷ drop (i + 1) other) key ra rb
    (differ_at p q (drop (i + 1) one) (drop (i + 1) other) key (rises_behind (take i one) (p ∷ drop (i + 1) one) ra) (rises_behind (take i one) (q ∷ drop (i + 1) other) rb) splits)))

-- behind all pairs of the shorter one, which are the same
pub differ_longer :
    (one other : KeyMap) (i : ℕ) (q : ℕ × ValueType) → IsRising one → IsRising other → i ≡ length one → i < length other → q ≡ get_or other i q → take i one ≡ take i other → IsFirstDifference q.0 one other
differ_longer one other i q r s size k there same =
    let all : take i one ≡ one = take_all i one (omega arith) in
    let b : other ≡ one ++ q ∷ drop (i + 1) other = split_at other i q k there ∙ ap (λ (l : KeyMap). l ++ q ∷ drop (i + 1) other) (sym same ∙ all) in
    let rb = subst IsRising b s in
    subst (λ (n : KeyMap). IsFirstDifference q.0 one n) (sym b)
    (subst (λ (m : KeyMap). IsFirstDifference q.0 m (one ++ q ∷ drop (i + 1) other)) (append-nil one)
    (differ_behind one [] (q ∷ drop (i + 1) other) q.0 (subst IsRising (sym (append-nil one)) r) rb (differ_empty q (drop (i + 1) other) (rises_behind one (q ∷ drop (i + 1) other) rb))))

-- ---- pairs that rise, set one after another

below_at : (k : ℕ) (ps : KeyMap) (i : ℕ) (p : ℕ × ValueType) → T (below_all nat_cmp k ps) → i < length ps → p ≡ get_or ps i p → k < p.0
below_at k [] i p b h at = absurd (omega arith)
below_at k (q ∷ ps) zero p b h at = (let first = less k q.0 (t_first _ _ b) in subst (λ (x : ℕ × ValueType). k < x.0) (sym at) first)
below_at k (q ∷ ps) (suc i) p b h at = below_at k ps i p (t_second _ _ b) (omega arith) at

-- a key above all others goes behind them
set_above : (p q : ℕ × ValueType) (m : KeyMap) → q.0 < p.0 → map_set p.0 (Some p.1) (q ∷ m) ≡ q ∷ map_set p.0 (Some p.1) m
set_above p q m h =
    let over : nat_cmp p.0 q.0 ≡ Greater = grind (arith, nat_tests) in
    ap (λ o. by_order o (p ∷ q ∷ m) ((q.0, p.1) ∷ m) (q ∷ map_set p.0 (Some p.1) m)) over

pub set_next : (ps : KeyMap) (i : ℕ) (p : ℕ × ValueType) → IsRising ps → i < length ps → p ≡ get_or ps i p → map_set p.0 (Some p.1) (take i ps) ≡ take (suc i) ps
set_next [] i p r h at = absurd (omega arith)
set_next (q ∷ ps) zero p r h at = ap (λ (x : ℕ × ValueType). x ∷ []) at
set_next (q ∷ ps) (suc i) p r h at =
    set_above p q (take i ps) (below_at q.0 ps i p (rises_above q ps r) (omega arith) at) ∙ ap (λ (l : KeyMap). q ∷ l) (set_next ps i p (rises_rest q ps r) (omega arith) at)

pub set_more : (ps m n : KeyMap) (i : ℕ) (p : ℕ × ValueType) (v : ValueType) → IsRising ps → i < length ps → p ≡ get_or ps i p → m ≡ take i ps → v ≡ p.1 → n ≡ map_set p.0 (Some v) m → n ≡ take (i + 1) ps
set_more ps m n i p v r h at is value set_so =
    let next : suc i ≡ i + 1 = omega arith in
    set_so ∙ ap₂ (λ (x : ValueType) (k : KeyMap). map_set p.0 (Some x) k) value is ∙ set_next ps i p r h at ∙ ap (λ (k : ℕ). take k ps) next

-- ---- what each transaction that may be run has

pub told_at : (ts : List ReportedTx) (i : ℕ) (t : ReportedTx) → i < length ts → t ≡ get_or ts i t → list_all can_be_told ts ≡ true → can_be_told t ≡ true
told_at [] i t h at all = absurd (omega arith)
told_at (x ∷ ts) zero t h at all = subst (λ (u : ReportedTx). can_be_told u ≡ true) (sym at) (and_parts (can_be_told x) (list_all can_be_told ts) all).0
told_at (x ∷ ts) (suc i) t h at all = told_at ts i t (omega arith) at (and_parts (can_be_told x) (list_all can_be_told ts) all).1

pub in_bounds : (t : ReportedTx) → can_be_told t ≡ true → (1 ≤ t.serial) × (t.session ≤ 64)
in_bounds t h =
    let parts = and_parts (is_session t.session) (is_serial t.serial && can_be_acts t.acts) h in
    let more = and_parts (is_serial t.serial) (can_be_acts t.acts) parts.1 in
    let session = and_parts (nat_le 1 t.session) (nat_le t.session 64) parts.0 in
    let serial = and_parts (nat_le 1 t.serial) (is_word t.serial) more.0 in
    (leb-true 1 t.serial serial.0, leb-true t.session 64 session.1)

txs_told : (ts : List ReportedTx) (c : Counts) → list_all can_stand (tx_lines ts ++ Sums c ∷ []) ≡ true → list_all can_be_told ts ≡ true
txs_told [] c h = refl
txs_told (t ∷ ts) c h = let parts = and_parts (can_be_told t) (list_all can_stand (tx_lines ts ++ Sums c ∷ [])) h in and_from _ _ parts.0 (txs_told ts c parts.1)

pub all_told : (ps : KeyMap) (ts : List ReportedTx) (c : Counts) → list_all can_stand (pair_lines ps ++ (tx_lines ts ++ Sums c ∷ [])) ≡ true → list_all can_be_told ts ≡ true
all_told [] ts c h = txs_told ts c h
all_told (p ∷ ps) ts c h = all_told ps ts c (and_parts (fits_pair p) (list_all can_stand (pair_lines ps ++ (tx_lines ts ++ Sums c ∷ []))) h).1
