-- Each line that may stand is read back.
use Rattle.std.proofs.Common.{◌≡◌, ℕ, ◌^◌, ◌<◌, true, ◌&&◌, nat_le, List, [], ◌∷◌, map, Option, Some, None, codes, refl, arith}
use Rattle.std.proofs.lemmas.Bool.{and_parts, ltb-true, leb-true}
use Rattle.std.specs.List.{AllByRecursion, list_all}
use Rattle.json.specs.Json as json
use Rattle.serde_json.specs.Data.{Data, string, no_members, member, put}
use Rattle.serde_json.specs.Read.{read, of_json, of_members}
use Rattle.serde_json.specs.Written.{outline, compact_text}
use Rattle.clv_base.specs.declared.values.Value.{Value as ValueType}
use Rattle.clv_base.specs.declared.values.Value.TheVariants.{Num, Bytes}
use Rattle.clv_base.specs.declared.ops.Op.{Op}
use Rattle.clv_base.specs.declared.ops.Op.TheVariants.{Get, Put, Del, Scan, Add}
use Rattle.clv_base.specs.declared.ops.Answer.{Answer}
use Rattle.clv_base.specs.declared.ops.Answer.TheVariants.{Value, Pairs, Added}
use Rattle.clv_base.specs.Values.{fits_value}
use Rattle.clv_base.specs.Backs.{are_numbered}
use Rattle.session_books.specs.declared.counts.Counts.{Counts}
use Rattle.session_books.specs.Done.{Done, Did, WentBack}
use Rattle.script_lang.specs.Laws.{is_word, is_narrow_op}
use Rattle.report_text.specs.Lines.{num, list, value_data, optional, pair, answer, operation, act, acts, transaction}
use Rattle.report_text.specs.Counts.{summary}
use Rattle.hex.specs.Hex.{encode_lower}
use Rattle.report_reading.specs.Told.{ReportedTx, fits_optional, fits_pair, fits_answer, is_answer_of, can_be_done, numbered, has_acts, is_session, is_serial, can_be_acts, can_be_told}
use Rattle.report_reading.specs.Texts.{Line, Pair, Tx, Sums, named, data_of, can_stand, fits_counts}
use Rattle.report_reading.proofs.Printed.{printed_digits}
use Rattle.report_reading.proofs.Good.{IsGood, good_more, good_null, good_boolean, good_number, good_string, good_list, good_three, read_written}

word : (n : ℕ) → is_word n ≡ true → IsGood 0 (num n)
word n h = good_number n (ltb-true n (2 ^ 64) h)

good_value : (v : ValueType) → fits_value v ≡ true → IsGood 0 (value_data v)
good_value (Num n) h = word n h
good_value (Bytes bytes) h = good_string (encode_lower bytes) (printed_digits bytes (and_parts _ _ h).1)

good_optional : (v : Option ValueType) → fits_optional v ≡ true → IsGood 0 (optional v)
good_optional None h = good_null
good_optional (Some v) h = good_value v h

pub good_pair : (p : ℕ × ValueType) → fits_pair p ≡ true → IsGood 1 (pair p)
good_pair p h =
    let parts = and_parts (is_word p.0) (fits_value p.1) h in
    good_list 0 (num p.0 ∷ value_data p.1 ∷ []) (word p.0 parts.0, (good_value p.1 parts.1, tt))

good_pairs : (ps : List (ℕ × ValueType)) → list_all fits_pair ps ≡ true → AllByRecursion (IsGood 1) (map pair ps)
good_pairs [] h = tt
good_pairs (p ∷ ps) h = let parts = and_parts (fits_pair p) (list_all fits_pair ps) h in (good_pair p parts.0, good_pairs ps parts.1)

good_answer : (a : Answer) → fits_answer a ≡ true → IsGood 2 (answer a)
good_answer (Value v) h = good_more 0 2 _ (omega arith) (good_optional v h)
good_answer (Pairs ps) h = good_list 1 (map pair ps) (good_pairs ps h)
good_answer (Added found) h = good_more 0 2 _ (omega arith) (good_boolean found)

flat : (d : Data) → IsGood 0 d → IsGood 2 d
flat d g = good_more 0 2 d (omega arith) g

bounded : (a b : ℕ) → nat_le a b ≡ true → is_word b ≡ true → a < 2 ^ 64
bounded a b e f = omega (arith, leb-true a b e, ltb-true b (2 ^ 64) f)

good_operation : (op : Op) (d : Data) → is_narrow_op op ≡ true → IsGood 2 d → IsGood 3 (operation op d)
good_operation (Get k) d h g = good_list 2 (string (codes "get") ∷ num k ∷ d ∷ []) (flat _ (good_string (codes "get") refl), (flat _ (word k h), (g, tt)))
good_operation (Put k v) d h g =
    let parts = and_parts (is_word k) (fits_value v) h in good_list 2 (string (codes "put") ∷ num k ∷ value_data v ∷ d ∷ []) (flat _ (good_string (codes "put") refl), (flat _ (word k parts.0), (flat _ (good_value v parts.1), (g, tt))))
good_operation (Del k) d h g = good_list 2 (string (codes "del") ∷ num k ∷ d ∷ []) (flat _ (good_string (codes "del") refl), (flat _ (word k h), (g, tt)))
good_operation (Scan lo hi) d h g =
    let parts = and_parts (nat_le lo hi) (is_word hi) h in
    let low : lo < 2 ^ 64 = bounded lo hi parts.0 parts.1 in
    good_list 2 (string (codes "scan") ∷ num lo ∷ num hi ∷ d ∷ []) (flat _ (good_string (codes "scan") refl), (flat _ (good_number lo low), (flat _ (word hi parts.1), (g, tt))))
good_operation (Add k by) d h g =
    let parts = and_parts (is_word k) (is_word by) h in good_list 2 (string (codes "add") ∷ num k ∷ num by ∷ d ∷ []) (flat _ (good_string (codes "add") refl), (flat _ (word k parts.0), (flat _ (word by parts.1), (g, tt))))

good_act : (d : Done) → can_be_done d ≡ true → IsGood 3 (act d)
good_act (Did op a) h =
    let parts = and_parts (is_answer_of op a) (is_narrow_op op && fits_answer a) h in
    let both = and_parts (is_narrow_op op) (fits_answer a) parts.1 in
    good_operation op (answer a) both.0 (good_answer a both.1)
good_act (WentBack upto) h = good_list 2 (string (codes "back") ∷ num upto ∷ []) (flat _ (good_string (codes "back") refl), (flat _ (word upto h), tt))

pub good_acts : (ds : List Done) → list_all can_be_done ds ≡ true → AllByRecursion (IsGood 3) (acts ds)
good_acts [] h = tt
good_acts (d ∷ ds) h = let parts = and_parts (can_be_done d) (list_all can_be_done ds) h in (good_act d parts.0, good_acts ds parts.1)

-- ---- objects, whose members are put one after another

members_back : (j k l : List ℕ) (d e f : Data) → of_json (outline d) ≡ Some d → of_json (outline e) ≡ Some e → of_json (outline f) ≡ Some f
    → of_members (json.member j (outline d) (json.member k (outline e) (json.member l (outline f) json.no_members))) no_members ≡ Some (put l f (put k e (put j d no_members)))
members_back j k l d e f a b c = rw (a, b, c)

good_tx : (t : ReportedTx) → can_be_told t ≡ true → IsGood 5 (transaction (named t) t.acts)
good_tx t h =
    let parts = and_parts (is_session t.session) (is_serial t.serial && can_be_acts t.acts) h in
    let more = and_parts (is_serial t.serial) (can_be_acts t.acts) parts.1 in
    let done = and_parts (has_acts t.acts) (list_all can_be_done t.acts && are_numbered 0 [] (numbered t.acts)) more.1 in
    let each = and_parts (list_all can_be_done t.acts) (are_numbered 0 [] (numbered t.acts)) done.1 in
    let ops = good_list 3 (acts t.acts) (good_acts t.acts each.0) in
    let serial = good_more 0 4 _ (omega arith) (word t.serial (and_parts (nat_le 1 t.serial) (is_word t.serial) more.0).1) in
    let low : t.session < 2 ^ 64 = omega (arith, leb-true t.session 64 (and_parts (nat_le 1 t.session) (nat_le t.session 64) parts.0).1) in
    let session = good_more 0 4 _ (omega arith) (good_number t.session low) in
    good_three 4 (codes "ops") (codes "serial") (codes "session") (list (acts t.acts)) (num t.serial) (num t.session) refl refl refl ops serial session
    (members_back (codes "ops") (codes "serial") (codes "session") _ _ _ ops.back serial.back session.back)

good_sums : (c : Counts) → fits_counts c ≡ true → IsGood 5 (summary c)
good_sums c h =
    let parts = and_parts (is_word c.acknowledged) (is_word c.unsettled && is_word c.aborted) h in
    let more = and_parts (is_word c.unsettled) (is_word c.aborted) parts.1 in
    let aborted = word c.aborted more.1 in
    let acknowledged = word c.acknowledged parts.0 in
    let unsettled = word c.unsettled more.0 in
    good_more 1 5 _ (omega arith)
    (good_three 0 (codes "aborted") (codes "acknowledged") (codes "unsettled") (num c.aborted) (num c.acknowledged) (num c.unsettled) refl refl refl aborted acknowledged unsettled
    (members_back (codes "aborted") (codes "acknowledged") (codes "unsettled") _ _ _ aborted.back acknowledged.back unsettled.back))

pub good_line : (l : Line) → can_stand l ≡ true → IsGood 5 (data_of l)
good_line (Pair key value) h = good_more 1 5 _ (omega arith) (good_pair (key, value) h)
good_line (Tx t) h = good_tx t h
good_line (Sums c) h = good_sums c h

pub read_line : (l : Line) → can_stand l ≡ true → read (compact_text (data_of l)) ≡ Some (data_of l)
read_line l h = read_written 5 (data_of l) (omega arith) (good_line l h)
