-- Transactions and counts, by the members of their objects.
use Rattle.std.proofs.Common.{◌≡◌, ℕ, ◌+◌, ◌^◌, ◌≤◌, true, false, ◌&&◌, nat_le, List, [], ◌++◌, Some, is_some, decimal, codes, refl, sym, ap, ◌∙◌, arith, append_assoc}
use Rattle.std.proofs.lemmas.Bool.{and_parts, and_from, both_ways, leb-true, lt-ltb, le-leb}
use Rattle.std.proofs.lemmas.Option.{same_Some}
use Rattle.std.specs.List.{list_all}
use Rattle.json.specs.Print.{escape_byte}
use Rattle.serde_json.specs.Data.{Data, object, member, no_members}
use Rattle.serde_json.specs.Find.{get, as_array}
use Rattle.serde_json.specs.Written.{compact_text, has_float}
use Rattle.clv_base.specs.declared.values.Value.{Value as ValueType}
use Rattle.session_books.specs.declared.counts.Counts.{Counts}
use Rattle.session_books.specs.Done.{Done}
use Rattle.clv_base.specs.Backs.{are_numbered}
use Rattle.script_lang.specs.Laws.{is_word}
use Rattle.report_text.specs.Lines.{num, list, pair, acts, transaction}
use Rattle.report_text.specs.Counts.{summary}
use Rattle.report_reading.specs.Told.{ReportedTx, fits_pair, can_be_done, numbered, has_acts, is_session, is_serial, can_be_acts, can_be_told}
use Rattle.report_reading.specs.Texts.{Line, Pair, Tx, Sums, named, data_of, can_stand}
use Rattle.report_reading.proofs.Good.{good_list}
use Rattle.report_reading.proofs.ReadBack.{good_acts}

-- ---- numbers

pub same_number : (m n : ℕ) → num m ≡ num n → m ≡ n
same_number m n e = cc

pub small_word : (n : ℕ) → n ≤ 64 → is_word n ≡ true
small_word n h = lt-ltb n (2 ^ 64) (omega arith)

-- ---- what a transaction that can be told is made of

pub record Told (t : ReportedTx) : Type 0 where
  pub some_session : 1 ≤ t.session
  pub few_sessions : t.session ≤ 64
  pub some_serial : 1 ≤ t.serial
  pub serial : is_word t.serial ≡ true
  pub acts : can_be_acts t.acts ≡ true

pub told_parts : (t : ReportedTx) → can_be_told t ≡ true → Told t
told_parts t h =
    let parts = and_parts (is_session t.session) (is_serial t.serial && can_be_acts t.acts) h in
    let more = and_parts (is_serial t.serial) (can_be_acts t.acts) parts.1 in
    let session = and_parts (nat_le 1 t.session) (nat_le t.session 64) parts.0 in
    let serial = and_parts (nat_le 1 t.serial) (is_word t.serial) more.0 in
    record { some_session = leb-true 1 t.session session.0; few_sessions = leb-true t.session 64 session.1; some_serial = leb-true 1 t.serial serial.0; serial = serial.1; acts = more.1 }

pub told_from : (t : ReportedTx) → 1 ≤ t.session → t.session ≤ 64 → 1 ≤ t.serial → is_word t.serial ≡ true → can_be_acts t.acts ≡ true → can_be_told t ≡ true
told_from t a b c d e =
    and_from (is_session t.session) (is_serial t.serial && can_be_acts t.acts) (and_from (nat_le 1 t.session) (nat_le t.session 64) (le-leb 1 t.session a) (le-leb t.session 64 b))
    (and_from (is_serial t.serial) (can_be_acts t.acts) (and_from (nat_le 1 t.serial) (is_word t.serial) (le-leb 1 t.serial c) d) e)

pub acts_whole : (ds : List Done) → can_be_acts ds ≡ true → has_float (list (acts ds)) ≡ false
acts_whole ds h =
    let done = and_parts (has_acts ds) (list_all can_be_done ds && are_numbered 0 [] (numbered ds)) h in
    (good_list 3 (acts ds) (good_acts ds (and_parts (list_all can_be_done ds) (are_numbered 0 [] (numbered ds)) done.1).0)).whole

-- ---- members

abbrev pub Three : Data → ℕ → ℕ → Data
Three ops serial session = object (member (codes "ops") ops (member (codes "serial") (num serial) (member (codes "session") (num session) no_members)))

pub tx_is_three : (t : ReportedTx) → transaction (named t) t.acts ≡ Three (list (acts t.acts)) t.serial t.session
tx_is_three t = refl

pub ops_in : (d : Data) (t : ReportedTx) → d ≡ transaction (named t) t.acts → get (codes "ops") d ≡ Some (list (acts t.acts))
ops_in d t e = ap (get (codes "ops")) e

pub serial_in : (d : Data) (t : ReportedTx) → d ≡ transaction (named t) t.acts → get (codes "serial") d ≡ Some (num t.serial)
serial_in d t e = ap (get (codes "serial")) e

pub session_in : (d : Data) (t : ReportedTx) → d ≡ transaction (named t) t.acts → get (codes "session") d ≡ Some (num t.session)
session_in d t e = ap (get (codes "session")) e

pub same_found : (d : Data) (key : List ℕ) (m n : ℕ) → get key d ≡ Some (num m) → get key d ≡ Some (num n) → m ≡ n
same_found d key m n a b = same_number m n (same_Some (num m) (num n) (sym a ∙ b))

pub same_ops : (d ops : Data) (t : ReportedTx) → d ≡ transaction (named t) t.acts → get (codes "ops") d ≡ Some ops → list (acts t.acts) ≡ ops
same_ops d ops t e f = same_Some (list (acts t.acts)) ops (sym (ops_in d t e) ∙ f)

pub acknowledged_in : (d : Data) (c : Counts) → d ≡ summary c → get (codes "acknowledged") d ≡ Some (num c.acknowledged)
acknowledged_in d c e = ap (get (codes "acknowledged")) e

pub unsettled_in : (d : Data) (c : Counts) → d ≡ summary c → get (codes "unsettled") d ≡ Some (num c.unsettled)
unsettled_in d c e = ap (get (codes "unsettled")) e

pub aborted_in : (d : Data) (c : Counts) → d ≡ summary c → get (codes "aborted") d ≡ Some (num c.aborted)
aborted_in d c e = ap (get (codes "aborted")) e

-- ---- the text of a transaction

pub three_text : (ops : Data) (serial session : ℕ)
    → compact_text (Three ops serial session) ≡ codes "{\"ops\":" ++ (compact_text ops ++ (codes ",\"serial\":" ++ (decimal serial ++ (codes ",\"session\":" ++ (decimal session ++ codes "}")))))
unfolding escape_byte
three_text ops serial session = refl

pub seven_joined :
    (a b c d e f g t1 t2 t3 t4 t5 t6 t7 : List ℕ) → t1 ≡ a → t2 ≡ t1 ++ b → t3 ≡ t2 ++ c → t4 ≡ t3 ++ d → t5 ≡ t4 ++ e → t6 ≡ t5 ++ f → t7 ≡ t6 ++ g
    → t7 ≡ a ++ (b ++ (c ++ (d ++ (e ++ (f ++ g)))))
seven_joined a b c d e f g t1 t2 t3 t4 t5 t6 t7 e1 e2 e3 e4 e5 e6 e7 =
    e7 ∙ ap (λ (l : List ℕ). l ++ g) e6 ∙ append_assoc t5 f g
    ∙ ap (λ (l : List ℕ). l ++ (f ++ g)) e5 ∙ append_assoc t4 e (f ++ g)
    ∙ ap (λ (l : List ℕ). l ++ (e ++ (f ++ g))) e4 ∙ append_assoc t3 d (e ++ (f ++ g))
    ∙ ap (λ (l : List ℕ). l ++ (d ++ (e ++ (f ++ g)))) e3 ∙ append_assoc t2 c (d ++ (e ++ (f ++ g)))
    ∙ ap (λ (l : List ℕ). l ++ (c ++ (d ++ (e ++ (f ++ g))))) e2 ∙ append_assoc t1 b (c ++ (d ++ (e ++ (f ++ g))))
    ∙ ap (λ (l : List ℕ). l ++ (b ++ (c ++ (d ++ (e ++ (f ++ g)))))) e1

-- ---- a line that is a list is a pair's

pub list_is_pair : (l : Line) (d : Data) → is_some (as_array d) ≡ true → d ≡ data_of l → can_stand l ≡ true → ((p : ℕ × ValueType) → fits_pair p ≡ true → d ≡ pair p → ⊥) → ⊥
list_is_pair (Pair key value) d is e can never = never (key, value) can e
list_is_pair (Tx t) d is e can never = both_ways (is_some (as_array d)) (ap (λ (x : Data). is_some (as_array x)) e) is
list_is_pair (Sums c) d is e can never = both_ways (is_some (as_array d)) (ap (λ (x : Data). is_some (as_array x)) e) is
