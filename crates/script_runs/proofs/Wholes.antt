-- What a try did, as its entries tell it whole.
use Rattle.std.proofs.Common.{◌≡◌, refl, sym, ap, subst, ◌∙◌, ◌⊎◌, inl, inr, ℕ, zero, suc, pred, ◌+◌, ◌<◌, ◌≤◌, ◌^◌, Bool, true, false, cond, max, min, nat_le, nat_lt, ◌&&◌, ◌==◌, List, [], ◌∷◌, ◌++◌, length, Option, Some, None, arith, eq-eqb}
use Rattle.std.specs.List.{AllByRecursion, list_all}
use Rattle.std.proofs.lemmas.Bool.{both_ways, and_parts, cases_lt, leb-true, leb-false, ltb-true, ltb-false, ne_eqb}
use Rattle.clv_base.specs.declared.names.TxId.{TxId}
use Rattle.clv_base.specs.declared.names.Birth.{Birth}
use Rattle.clv_base.specs.declared.ops.Op.{Op}
use Rattle.clv_base.specs.declared.ops.Op.TheVariants.{Get, Put, Del, Scan, Add}
use Rattle.clv_base.specs.declared.ops.Answer.{Answer}
use Rattle.clv_base.specs.declared.ops.Answer.TheVariants.{Value, Pairs, Added}
use Rattle.clv_base.specs.declared.events.Event.TheVariants.{Op as OpEvent, RollTo}
use Rattle.clv_base.specs.declared.events.Outcome.TheVariants.{Answered, Rolled}
use Rattle.clv_base.specs.declared.events.Entry.{Entry}
use Rattle.clv_base.specs.Orders.{tx_same}
use Rattle.clv_base.specs.Shards.{shard_of, shard_count, first_key, are_splits}
use Rattle.clv_base.specs.Maps.{Act}
use Rattle.clv_base.specs.Journals.{History}
use Rattle.clv_base.proofs.SameNames.{tx_self, or_left, or_right}
use Rattle.law_base.proofs.Bools.{and_true}
use Rattle.clv_base.proofs.Spans.{Rises, rises, start, span_is, first_key_past}
use Rattle.law_base.proofs.Lists.{all_append, all_mono}
use Rattle.script_lang.specs.Laws.{is_narrow_op}
use Rattle.session_books.specs.Done.{Done, Did, WentBack}
use Rattle.session_books.specs.declared.told.Told.{Told}
use Rattle.session_books.specs.Told.{told_by, with_told, told_in}
use Rattle.session_books.specs.Parts as told
use Rattle.session_books.specs.Books.{whole, whole_from, whole_ops}
use Rattle.script_runs.specs.Operations.{scan_within, part_at, scan_parts, parts_of, pairs_of, first_answer, answer_of, IsPart, ArePartsAnswered, no_part, part, IsOperation}
use Rattle.script_runs.specs.Acts.{acts_of, stands_above, stands_on, is_touched, IsRoll, AreActs, no_act, operation, going_back}
use Rattle.script_runs.proofs.Doing.{either, act_test}

-- ---- what entries tell of operations

-- parts with their answers
abbrev pub tolds : ℕ → List (ℕ × Op) → List Answer → List Told
tolds nth [] answers = []
tolds nth (p ∷ parts) [] = []
tolds nth (p ∷ parts) (a ∷ answers) = record { nth = nth; done = Did p.1 a } ∷ tolds nth parts answers

pub told_append : (t : TxId) (es fs : History) → told_in t (es ++ fs) ≡ told_in t es ++ told_in t fs
told_append t [] fs = refl
told_append t (e ∷ es) fs = ap (with_told t (told_by (e.1).event (e.1).outcome)) (told_append t es fs) ∙ at (told_by (e.1).event (e.1).outcome)
  where
    by : (b : Bool) (x : Told) → cond b (x ∷ told_in t es ++ told_in t fs) (told_in t es ++ told_in t fs) ≡ cond b (x ∷ told_in t es) (told_in t es) ++ told_in t fs
    by true x = refl
    by false x = refl

    at : (o : Option (TxId × Told)) → with_told t o (told_in t es ++ told_in t fs) ≡ with_told t o (told_in t es) ++ told_in t fs
    at None = refl
    at (Some p) = by (tx_same p.0 t) p.1

part_told : (tx : TxId) (birth : Birth) (nth epoch : ℕ) (p : ℕ × Op) (answer : Answer) (e : ℕ × Entry) (ts : List Told) → IsPart tx birth nth p (Answered answer epoch) e
    → with_told tx (told_by (e.1).event (e.1).outcome) ts ≡ record { nth = nth; done = Did p.1 answer } ∷ ts
part_told tx birth nth epoch p answer e ts is =
    ap (λ ev. with_told tx (told_by ev (e.1).outcome) ts) is.event ∙ ap (λ o. with_told tx (told_by (OpEvent tx birth nth is.seen p.1) o) ts) is.outcome
    ∙ ap (λ b. cond b (record { nth = nth; done = Did p.1 answer } ∷ ts) ts) (tx_self tx)

parts_told : (tx : TxId) (birth : Birth) (nth : ℕ) (parts : List (ℕ × Op)) (answers : List Answer) (es : History) → ArePartsAnswered tx birth nth parts answers es → told_in tx es ≡ tolds nth parts answers
parts_told tx birth nth _ _ _ no_part = refl
parts_told tx birth nth _ _ _ (part p answer epoch e parts answers es is more) =
    part_told tx birth nth epoch p answer e (told_in tx es) is ∙ ap (λ ts. record { nth = nth; done = Did p.1 answer } ∷ ts) (parts_told tx birth nth parts answers es more)

same_length : (tx : TxId) (birth : Birth) (nth : ℕ) (parts : List (ℕ × Op)) (answers : List Answer) (es : History) → ArePartsAnswered tx birth nth parts answers es → length answers ≡ length parts
same_length tx birth nth _ _ _ no_part = refl
same_length tx birth nth _ _ _ (part p answer epoch e parts answers es is more) = ap suc (same_length tx birth nth parts answers es more)

-- ---- the parts of a scan

abbrev upper_op : ℕ → Op → ℕ
upper_op hi (Scan low high) = high
upper_op hi (Get k) = hi
upper_op hi (Put k v) = hi
upper_op hi (Del k) = hi
upper_op hi (Add k by) = hi

abbrev upper_by : ℕ → List (ℕ × Op) → ℕ
upper_by hi [] = hi
upper_by hi (p ∷ parts) = upper_by (upper_op hi p.1) parts

upper_did : (hi : ℕ) (op : Op) (a : Answer) → told.upper hi (Did op a) ≡ upper_op hi op
upper_did hi (Get k) a = refl
upper_did hi (Put k v) a = refl
upper_did hi (Del k) a = refl
upper_did hi (Scan low high) a = refl
upper_did hi (Add k by) a = refl

-- of the shards from a key on: none where that is past the range, else they go from where both begin to the range's end
data Covers (lo hi from : ℕ) (parts : List (ℕ × Op)) : Type 0 where
  past : hi < from → parts ≡ [] → Covers lo hi from parts
  within :
      (n high : ℕ) (rest : List (ℕ × Op)) → from ≤ hi → parts ≡ (n, Scan (max lo from) high) ∷ rest → upper_by high rest ≡ hi → Covers lo hi from parts

keys_rise : (splits : List ℕ) (n : ℕ) → Rises splits → suc n < length splits → first_key splits n < first_key splits (suc n)
keys_rise [] n r l = absurd (omega arith)
keys_rise (s ∷ []) n r l = absurd (omega arith)
keys_rise (s ∷ t ∷ ss) zero r l = r.0
keys_rise (s ∷ t ∷ ss) (suc n) r l = keys_rise (t ∷ ss) n r.1 (omega arith)

starts_rise : (splits : List ℕ) (n : ℕ) → Rises splits → n < length splits → start splits n ≤ first_key splits n
starts_rise splits zero r l = omega arith
starts_rise splits (suc n) r l = let up = keys_rise splits n r l in omega arith

-- one shard more: from here up to below there, or without keys
module _ (lo hi : ℕ) (ordered : lo ≤ hi) where
  covers_here : (n from to : ℕ) (rest : List (ℕ × Op)) (b : Bool) → nat_le (max lo from) (min hi (pred to)) ≡ b → from < to → Covers lo hi to rest
      → Covers lo hi from (part_at n (cond b (Some (Scan (max lo from) (min hi (pred to)))) None) ++ rest)
  covers_here n from zero rest b is l c = absurd (omega arith)
  covers_here n from (suc to) rest true is l (past h none) =
      let e = leb-true (max lo from) (min hi to) is in
      within n (min hi to) rest (omega arith) refl (ap (upper_by (min hi to)) none ∙ (let same : min hi to ≡ hi = omega arith in same))
  covers_here n from (suc to) rest true is l (within m high more h first up) =
      let e = leb-true (max lo from) (min hi to) is in
      within n (min hi to) rest (omega arith) refl (ap (upper_by (min hi to)) first ∙ up)
  covers_here n from (suc to) rest false is l (past h none) =
      let e = leb-false (max lo from) (min hi to) is in
      past (omega arith) none
  covers_here n from (suc to) rest false is l (within m high more h first up) =
      let e = leb-false (max lo from) (min hi to) is in
      within m high more (omega arith) (first ∙ ap (λ low. (m, Scan low high) ∷ more) (let same : max lo (suc to) ≡ max lo from = omega arith in same)) up

  covers_none : (from to : ℕ) (rest : List (ℕ × Op)) → to ≤ from → (to ≤ hi → from ≤ to) → Covers lo hi to rest → Covers lo hi from rest
  covers_none from to rest l up (past h none) = past (omega arith) none
  covers_none from to rest l up (within m high more h first high_is) =
      let k = up h in
      within m high more (omega arith) (first ∙ ap (λ low. (m, Scan low high) ∷ more) (let same : max lo to ≡ max lo from = omega arith in same)) high_is

  covers_span : (n from to : ℕ) (rest : List (ℕ × Op)) (b : Bool) → nat_lt from to ≡ b → (to ≤ hi → from ≤ to) → Covers lo hi to rest → Covers lo hi from (part_at n (scan_within lo hi (cond b (Some (from, pred to)) None)) ++ rest)
  covers_span n from to rest true is up c = covers_here n from to rest (nat_le (max lo from) (min hi (pred to))) refl (ltb-true from to is) c
  covers_span n from to rest false is up c = covers_none from to rest (ltb-false from to is) up c

  covers : (splits : List ℕ) → Rises splits → hi < 2 ^ 64 → (k n : ℕ) → n + k ≡ suc (length splits) → Covers lo hi (start splits n) (scan_parts splits lo hi n k)
  covers splits r low zero n is = subst (λ m. Covers lo hi (start splits m) []) (let same : suc (length splits) ≡ n = omega arith in same) (past (subst (λ key. hi < key) (sym (first_key_past splits (length splits) (omega arith))) low) refl)
  covers splits r low (suc k) n is =
      subst (λ o. Covers lo hi (start splits n) (part_at n (scan_within lo hi o) ++ scan_parts splits lo hi (suc n) k)) (sym (span_is splits n))
      (covers_span n (start splits n) (first_key splits n) (scan_parts splits lo hi (suc n) k) (nat_lt (start splits n) (first_key splits n)) refl
      (λ l. at l (cases_lt n (length splits))) (covers splits r low k (suc n) (omega arith)))
    where
      at : first_key splits n ≤ hi → (n < length splits) ⊎ (length splits ≤ n) → start splits n ≤ first_key splits n
      at l (inl h) = starts_rise splits n r h
      at l (inr h) = absurd (let past_all = first_key_past splits n h in let no : ⊥ = omega arith in no)

-- ---- an operation, told whole

abbrev AllFrom : ℕ → List Told → Type 0
AllFrom nth ts = AllByRecursion (λ (t : Told). nth ≤ t.nth) ts

abbrev AllPast : ℕ → List Told → Type 0
AllPast nth ts = AllByRecursion (λ (t : Told). nth < t.nth) ts

no_parts : (nth : ℕ) (ts : List Told) → AllPast nth ts → told.parts_of nth ts ≡ []
no_parts nth [] h = refl
no_parts nth (t ∷ ts) h = ap (λ b. cond b (t ∷ told.parts_of nth ts) []) (ne_eqb nth t.nth (λ e. let l = h.0 in let no : ⊥ = omega arith in no))

all_parts : (nth : ℕ) (parts : List (ℕ × Op)) (answers : List Answer) (ts : List Told) → AllPast nth ts → told.parts_of nth (tolds nth parts answers ++ ts) ≡ tolds nth parts answers
all_parts nth [] answers ts h = no_parts nth ts h
all_parts nth (p ∷ parts) [] ts h = no_parts nth ts h
all_parts nth (p ∷ parts) (a ∷ answers) ts h =
    let t : Told = record { nth = nth; done = Did p.1 a } in
    ap (λ b. cond b (t ∷ told.parts_of nth (tolds nth parts answers ++ ts)) []) (eq-eqb nth nth refl) ∙ ap (λ l. t ∷ l) (all_parts nth parts answers ts h)

skipped : (nth : ℕ) (parts : List (ℕ × Op)) (answers : List Answer) (ts : List Told) → whole_from (Some nth) (tolds nth parts answers ++ ts) ≡ whole_from (Some nth) ts
skipped nth [] answers ts = refl
skipped nth (p ∷ parts) [] ts = refl
skipped nth (p ∷ parts) (a ∷ answers) ts =
    ap (λ b. cond b (whole_from (Some nth) (tolds nth parts answers ++ ts)) (whole (Did p.1 a) (told.parts_of nth (tolds nth parts answers ++ ts)) ∷ whole_from (Some nth) (tolds nth parts answers ++ ts))) (eq-eqb nth nth refl)
    ∙ skipped nth parts answers ts

first_whole : (before : Option ℕ) (nth : ℕ) (p : ℕ × Op) (parts : List (ℕ × Op)) (a : Answer) (answers : List Answer) (ts : List Told) → told.goes_on before nth ≡ false → AllPast nth ts
    → whole_from before (tolds nth (p ∷ parts) (a ∷ answers) ++ ts) ≡ whole (Did p.1 a) (tolds nth parts answers) ∷ whole_from (Some nth) ts
first_whole before nth p parts a answers ts new h =
    let rest = tolds nth parts answers ++ ts in
    ap (λ b. cond b (whole_from (Some nth) rest) (whole (Did p.1 a) (told.parts_of nth rest) ∷ whole_from (Some nth) rest)) new
    ∙ ap (λ l. whole (Did p.1 a) l ∷ whole_from (Some nth) rest) (all_parts nth parts answers ts h) ∙ ap (λ l. whole (Did p.1 a) (tolds nth parts answers) ∷ l) (skipped nth parts answers ts)

upper_told : (nth high : ℕ) (parts : List (ℕ × Op)) (answers : List Answer) → length answers ≡ length parts → told.upper_of high (tolds nth parts answers) ≡ upper_by high parts
upper_told nth high [] answers h = refl
upper_told nth high (p ∷ parts) [] h = absurd (let no : ⊥ = omega arith in no)
upper_told nth high (p ∷ parts) (a ∷ answers) h = ap (λ u. told.upper_of u (tolds nth parts answers)) (upper_did high p.1 a) ∙ upper_told nth (upper_op high p.1) parts answers (omega arith)

pairs_told : (nth : ℕ) (parts : List (ℕ × Op)) (answers : List Answer) → length answers ≡ length parts → told.all_pairs (tolds nth parts answers) ≡ pairs_of answers
pairs_told nth [] [] h = refl
pairs_told nth [] (a ∷ answers) h = absurd (let no : ⊥ = omega arith in no)
pairs_told nth (p ∷ parts) [] h = absurd (let no : ⊥ = omega arith in no)
pairs_told nth (p ∷ parts) (Value v ∷ answers) h = pairs_told nth parts answers (omega arith)
pairs_told nth (p ∷ parts) (Pairs ps ∷ answers) h = ap (λ l. ps ++ l) (pairs_told nth parts answers (omega arith))
pairs_told nth (p ∷ parts) (Added found ∷ answers) h = pairs_told nth parts answers (omega arith)

first_pairs : (a : Answer) (answers : List Answer) → told.pairs_of a ++ pairs_of answers ≡ pairs_of (a ∷ answers)
first_pairs (Value v) answers = refl
first_pairs (Pairs ps) answers = refl
first_pairs (Added found) answers = refl

-- its bounds don't fall, and are keys
abbrev pub has_bounds : Op → Bool
has_bounds (Get k) = true
has_bounds (Put k v) = true
has_bounds (Del k) = true
has_bounds (Scan lo hi) = nat_le lo hi && nat_lt hi (2 ^ 64)
has_bounds (Add k by) = true

pub bounds_narrow : (op : Op) → is_narrow_op op ≡ true → has_bounds op ≡ true
bounds_narrow (Get k) h = refl
bounds_narrow (Put k v) h = refl
bounds_narrow (Del k) h = refl
bounds_narrow (Scan lo hi) h = h
bounds_narrow (Add k by) h = refl

-- and so for an act
abbrev pub has_act_bounds : Act → Bool
has_act_bounds a = act_test has_bounds bounds_narrow (λ k. refl) (λ k v. refl) a

scan_whole : (before : Option ℕ) (nth lo hi : ℕ) (parts : List (ℕ × Op)) (answers : List Answer) (ts : List Told) → Covers lo hi 0 parts → length answers ≡ length parts → told.goes_on before nth ≡ false → AllPast nth ts
    → whole_from before (tolds nth parts answers ++ ts) ≡ Did (Scan lo hi) (Pairs (pairs_of answers)) ∷ whole_from (Some nth) ts
scan_whole before nth lo hi parts answers ts (past h none) same new later = absurd (let no : ⊥ = omega arith in no)
scan_whole before nth lo hi parts [] ts (within n high rest h first up) same new later = absurd (let l = ap length first in let no : ⊥ = omega arith in no)
scan_whole before nth lo hi parts (a ∷ answers) ts (within n high rest h first up) same new later =
    let long : length answers ≡ length rest = (let l = ap length first in omega arith) in
    let low : max lo 0 ≡ lo = omega arith in
    ap (λ ps. whole_from before (tolds nth ps (a ∷ answers) ++ ts)) (first ∙ ap (λ l. (n, Scan l high) ∷ rest) low)
    ∙ first_whole before nth (n, Scan lo high) rest a answers ts new later
    ∙ ap (λ u. Did (Scan lo u) (Pairs (told.pairs_of a ++ told.all_pairs (tolds nth rest answers))) ∷ whole_from (Some nth) ts) (upper_told nth high rest answers long ∙ up)
    ∙ ap (λ l. Did (Scan lo hi) (Pairs l) ∷ whole_from (Some nth) ts) (ap (λ l. told.pairs_of a ++ l) (pairs_told nth rest answers long) ∙ first_pairs a answers)

-- an operation of one part
one_whole : (before : Option ℕ) (nth : ℕ) (p : ℕ × Op) (answers : List Answer) (ts : List Told) → ((a : Answer) → whole (Did p.1 a) [] ≡ Did p.1 a) → length answers ≡ 1 → told.goes_on before nth ≡ false → AllPast nth ts
    → whole_from before (tolds nth (p ∷ []) answers ++ ts) ≡ Did p.1 (first_answer answers) ∷ whole_from (Some nth) ts
one_whole before nth p [] ts is same new later = absurd (let no : ⊥ = omega arith in no)
one_whole before nth p (a ∷ answers) ts is same new later = first_whole before nth p [] a answers ts new later ∙ ap (λ x. x ∷ whole_from (Some nth) ts) (is a)

op_whole : (splits : List ℕ) (op : Op) (before : Option ℕ) (nth : ℕ) (answers : List Answer) (ts : List Told) → are_splits splits ≡ true → has_bounds op ≡ true → length answers ≡ length (parts_of splits op) → told.goes_on before nth ≡ false
    → AllPast nth ts → whole_from before (tolds nth (parts_of splits op) answers ++ ts) ≡ Did op (answer_of op answers) ∷ whole_from (Some nth) ts
op_whole splits (Get k) before nth answers ts s b same new later = one_whole before nth (shard_of splits k, Get k) answers ts (λ a. refl) same new later
op_whole splits (Put k v) before nth answers ts s b same new later = one_whole before nth (shard_of splits k, Put k v) answers ts (λ a. refl) same new later
op_whole splits (Del k) before nth answers ts s b same new later = one_whole before nth (shard_of splits k, Del k) answers ts (λ a. refl) same new later
op_whole splits (Add k by) before nth answers ts s b same new later = one_whole before nth (shard_of splits k, Add k by) answers ts (λ a. refl) same new later
op_whole splits (Scan lo hi) before nth answers ts s b same new later =
    let p = and_parts (nat_le lo hi) (nat_lt hi (2 ^ 64)) b in
    scan_whole before nth lo hi (scan_parts splits lo hi 0 (shard_count splits)) answers ts
    (covers lo hi (leb-true lo hi p.0) splits (rises splits s) (ltb-true hi (2 ^ 64) p.1) (shard_count splits) 0 (omega arith)) same new later

-- ---- a going back, told whole

-- once for each entry
abbrev rolls : ℕ → ℕ → History → List Told
rolls nth upto [] = []
rolls nth upto (e ∷ es) = record { nth = nth; done = WentBack upto } ∷ rolls nth upto es

rolls_skipped : (nth upto : ℕ) (es : History) (ts : List Told) → whole_from (Some nth) (rolls nth upto es ++ ts) ≡ whole_from (Some nth) ts
rolls_skipped nth upto [] ts = refl
rolls_skipped nth upto (e ∷ es) ts =
    ap (λ b. cond b (whole_from (Some nth) (rolls nth upto es ++ ts)) (WentBack upto ∷ whole_from (Some nth) (rolls nth upto es ++ ts))) (eq-eqb nth nth refl) ∙ rolls_skipped nth upto es ts

-- and there is one
rolls_whole : (before : Option ℕ) (nth upto : ℕ) (es : History) (ts : List Told) → 0 < length es → told.goes_on before nth ≡ false → AllPast nth ts → whole_from before (rolls nth upto es ++ ts) ≡ WentBack upto ∷ whole_from (Some nth) ts
rolls_whole before nth upto [] ts some new later = absurd (let no : ⊥ = omega arith in no)
rolls_whole before nth upto (e ∷ es) ts some new later =
    ap (λ b. cond b (whole_from (Some nth) (rolls nth upto es ++ ts)) (WentBack upto ∷ whole_from (Some nth) (rolls nth upto es ++ ts))) new ∙ ap (λ l. WentBack upto ∷ l) (rolls_skipped nth upto es ts)

-- a shard on which a write stands
stands_somewhere : (upto : ℕ) (ws : List (ℕ × ℕ)) → stands_above upto ws ≡ true → (n : ℕ) × (stands_on upto n ws ≡ true)
stands_somewhere upto [] h = absurd (both_ways false refl h)
stands_somewhere upto (w ∷ ws) h = at (either (nat_lt upto w.1) (stands_above upto ws) h) (stands_somewhere upto ws)
  where
    at : (nat_lt upto w.1 ≡ true) ⊎ (stands_above upto ws ≡ true) → (stands_above upto ws ≡ true → (n : ℕ) × (stands_on upto n ws ≡ true)) → (n : ℕ) × (stands_on upto n (w ∷ ws) ≡ true)
    at (inl e) more = (w.0, or_left ((w.0 == w.0) && nat_lt upto w.1) (stands_on upto w.0 ws) (and_true (w.0 == w.0) (nat_lt upto w.1) (eq-eqb w.0 w.0 refl) e))
    at (inr e) more = let rest = more e in (rest.0, or_right ((w.0 == rest.0) && nat_lt upto w.1) (stands_on upto rest.0 ws) rest.1)

pub goes_some : (upto : ℕ) (ws : List (ℕ × ℕ)) (es : History) → stands_above upto ws ≡ true → ((n : ℕ) → is_touched es n ≡ stands_on upto n ws) → 0 < length es
goes_some upto ws [] some shards = let at = stands_somewhere upto ws some in absurd (both_ways false refl (shards at.0 ∙ at.1))
goes_some upto ws (e ∷ es) some shards = omega arith

rolls_from : (nth upto : ℕ) (es : History) → AllFrom nth (rolls nth upto es)
rolls_from nth upto [] = tt
rolls_from nth upto (e ∷ es) = (omega arith, rolls_from nth upto es)

-- ---- all acts

tolds_from : (nth : ℕ) (parts : List (ℕ × Op)) (answers : List Answer) → AllFrom nth (tolds nth parts answers)
tolds_from nth [] answers = tt
tolds_from nth (p ∷ parts) [] = tt
tolds_from nth (p ∷ parts) (a ∷ answers) = (omega arith, tolds_from nth parts answers)

module _ (splits : List ℕ) (tx : TxId) (birth : Birth) where
  here_behind : (nth : ℕ) (op : Op) (answer : Answer) (here behind es : History) → es ≡ here ++ behind → (o : IsOperation splits tx birth nth op answer here) → told_in tx es ≡ tolds nth (parts_of splits op) o.answers ++ told_in tx behind
  here_behind nth op answer here behind es is o =
      ap (told_in tx) is ∙ told_append tx here behind ∙ ap (λ l. l ++ told_in tx behind) (parts_told tx birth nth (parts_of splits op) o.answers here o.parts)

  -- a going back, as its entries tell it
  rolls_told : (nth upto : ℕ) (here rest : History) → AllByRecursion (IsRoll tx nth upto Rolled) here → told_in tx (here ++ rest) ≡ rolls nth upto here ++ told_in tx rest
  rolls_told nth upto [] rest r = refl
  rolls_told nth upto (e ∷ here) rest r =
      let k = r.0 in
      ap (λ ev. with_told tx (told_by ev (e.1).outcome) (told_in tx (here ++ rest))) k.event ∙ ap (λ o. with_told tx (told_by (RollTo tx nth k.seen upto) o) (told_in tx (here ++ rest))) k.outcome
      ∙ ap (λ b. cond b (record { nth = nth; done = WentBack upto } ∷ told_in tx (here ++ rest)) (told_in tx (here ++ rest))) (tx_self tx)
      ∙ ap (λ ts. record { nth = nth; done = WentBack upto } ∷ ts) (rolls_told nth upto here rest r.1)

  acts_from : (nth : ℕ) (ws : List (ℕ × ℕ)) (ds : List Done) (es : History) → AreActs splits tx birth nth ws ds es → AllFrom nth (told_in tx es)
  acts_from _ _ _ _ (no_act nth ws) = tt
  acts_from _ _ _ _ (operation nth ws op answer ds here behind es is o more) =
      subst (AllFrom nth) (sym (here_behind nth op answer here behind es is o))
      (all_append (λ (t : Told). nth ≤ t.nth) (tolds nth (parts_of splits op) o.answers) (told_in tx behind) (tolds_from nth (parts_of splits op) o.answers)
      (all_mono (λ (t : Told). suc nth ≤ t.nth) (λ (t : Told). nth ≤ t.nth) (λ t l. omega arith) (told_in tx behind) (acts_from (suc nth) _ ds behind more)))
  acts_from _ _ _ _ (going_back nth ws upto ds here behind es is some b more) =
      subst (AllFrom nth) (sym (ap (told_in tx) is ∙ rolls_told nth upto here behind (b.rolled).0))
      (all_append (λ (t : Told). nth ≤ t.nth) (rolls nth upto here) (told_in tx behind) (rolls_from nth upto here)
      (all_mono (λ (t : Told). suc nth ≤ t.nth) (λ (t : Told). nth ≤ t.nth) (λ t l. omega arith) (told_in tx behind) (acts_from (suc nth) _ ds behind more)))

  later_than : (nth : ℕ) (ts : List Told) → AllFrom (suc nth) ts → AllPast nth ts
  later_than nth ts h = all_mono (λ (t : Told). suc nth ≤ t.nth) (λ (t : Told). nth < t.nth) (λ t l. omega arith) ts h

  not_before : (nth : ℕ) → told.goes_on (Some nth) (suc nth) ≡ false
  not_before nth = ne_eqb nth (suc nth) (λ e. let no : ⊥ = omega arith in no)

  acts_whole : are_splits splits ≡ true → (before : Option ℕ) (nth : ℕ) (ws : List (ℕ × ℕ)) (ds : List Done) (es : History) → AreActs splits tx birth nth ws ds es → list_all has_act_bounds (acts_of ds) ≡ true → told.goes_on before nth ≡ false
      → whole_from before (told_in tx es) ≡ ds
  acts_whole s before _ _ _ _ (no_act nth ws) b new = refl
  acts_whole s before _ _ _ _ (operation nth ws op answer ds here behind es is o more) b new =
      let p = and_parts (has_bounds op) (list_all has_act_bounds (acts_of ds)) b in
      let long = same_length tx birth nth (parts_of splits op) o.answers here o.parts in
      ap (whole_from before) (here_behind nth op answer here behind es is o)
      ∙ op_whole splits op before nth o.answers (told_in tx behind) s p.0 long new (later_than nth (told_in tx behind) (acts_from (suc nth) _ ds behind more))
      ∙ ap (λ a. Did op a ∷ whole_from (Some nth) (told_in tx behind)) (sym o.whole)
      ∙ ap (λ l. Did op answer ∷ l) (acts_whole s (Some nth) (suc nth) _ ds behind more p.1 (not_before nth))
  acts_whole s before _ _ _ _ (going_back nth ws upto ds here behind es is some g more) b new =
      ap (whole_from before) (ap (told_in tx) is ∙ rolls_told nth upto here behind (g.rolled).0)
      ∙ rolls_whole before nth upto here (told_in tx behind) (goes_some upto ws here some g.shards) new (later_than nth (told_in tx behind) (acts_from (suc nth) _ ds behind more))
      ∙ ap (λ l. WentBack upto ∷ l) (acts_whole s (Some nth) (suc nth) _ ds behind more b (not_before nth))

pub told_whole : (splits : List ℕ) (tx : TxId) (birth : Birth) (ds : List Done) (es : History) → are_splits splits ≡ true → list_all has_act_bounds (acts_of ds) ≡ true → AreActs splits tx birth 1 [] ds es
    → whole_ops (told_in tx es) ≡ ds
told_whole splits tx birth ds es s b is = acts_whole splits tx birth s None 1 [] ds es is b refl
