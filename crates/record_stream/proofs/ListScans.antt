-- Lists that rise are scanned.
use Rattle.std.proofs.Common.{◌≡◌, ℕ, zero, suc, ◌+◌, ◌-◌, ◌^◌, ◌<◌, ◌≤◌, Bool, true, false, ltb, leb, ◌&&◌, List, [], ◌∷◌, ◌++◌, length, Ok, Err, refl, sym, ap, subst, ◌∙◌, arith, inl, inr}
use Rattle.std.specs.List.{list_all, flat_map}
use Rattle.std.specs.Ordering.{nat_cmp, is_lt}
use Rattle.std.specs.declared.cmp.Ordering.TheVariants.{Less, Equal, Greater}
use Rattle.std.proofs.lemmas.Bool.{ltb-false, ltb-true, lt-ltb, leb-true, le-leb}
use Rattle.std.proofs.lemmas.List.Concat.{flat_map-cons}
use Rattle.clv_base.specs.declared.names.TxId.{TxId}
use Rattle.clv_base.specs.Orders.{tx_cmp}
use Rattle.clv_base.specs.FileRules.{tx_has_spelling, txs_rise, numbers_rise}
use Rattle.log_records.specs.Spelling.{number, transaction, several}
use Rattle.log_records.proofs.Laws.Fields.{both_true}
use Rattle.record_stream.specs.declared.stop.Stop.TheVariants.{Cut}
use Rattle.record_stream.specs.Naming.{IsName, IsBetween, rank, HasRoom}
use Rattle.record_stream.specs.Scanning.{◌>>=◌, Scan, Skip, number_at, name_at, names_from, names_at, shards_from, shards_at, first_name, last_name, next_name}
use Rattle.record_stream.proofs.Scans.{Scans, got, given_is, scans_then, scans_as, scans_same}
use Rattle.record_stream.proofs.NumberScans.{Bounded, itself, number_scans}
use Rattle.record_stream.proofs.NameScans.{nothing, decided, name_scans, first_is_name, first_is_least, last_is_name, last_is_most}
use Rattle.law_base.proofs.Lists.{IsBytes}

-- ---- a list of so many, each of which says from where the next goes on

module _ {L X : Type 0} (Good : ℕ → L → X → Type 0) (spell : X → List ℕ) (on : X → L) where
  abbrev pub Rises : ℕ → L → List X → Type 0
  Rises zero least xs = xs ≡ []
  Rises (suc more) least [] = ⊥
  Rises (suc more) least (x ∷ xs) = Good more least x × Rises more (on x) xs

  none_scans : (least : L) (scan : List ℕ → Skip) → ((bytes : List ℕ) → scan bytes ≡ Ok (tt, bytes)) → Scans (Rises 0 least) (flat_map spell) nothing scan
  none_scans least scan is =
      record {
        one = [];
        one_is_good = refl;
        found = λ bytes y rest fits read. let same : bytes ≡ rest = same_rest bytes y rest (sym (is bytes) ∙ read) in
            record { what = []; is_good = refl; given = refl; takes = record { parts = same; rest_fits = subst IsBytes same fits } };
        cut = λ bytes fits read. absurd (no_cut bytes (sym (is bytes) ∙ read));
        whole = λ xs rest good. ap (λ (l : List X). scan (flat_map spell l ++ rest)) good ∙ is rest;
        stays = λ xs bytes next behind good same. absurd (no_part bytes next behind (same ∙ ap (flat_map spell) good));
      }
    where
      same_rest : (bytes : List ℕ) (y : Unit {0}) (rest : List ℕ) → got tt bytes ≡ got y rest → bytes ≡ rest
      same_rest bytes y rest e = (given_is tt y bytes rest e).1

      no_cut : (bytes : List ℕ) → got {Y = Unit {0}} tt bytes ≡ Err Cut → ⊥
      no_cut bytes e = cc

      no_part : (bytes : List ℕ) (next : ℕ) (behind : List ℕ) → bytes ++ next ∷ behind ≡ [] → ⊥
      no_part [] next behind e = cc
      no_part (b ∷ bytes) next behind e = cc

  abbrev first_of : L → List X → X → X
  first_of least [] x = x
  first_of least (x ∷ xs) y = x

  module _ (Room : ℕ → L → Type 0) (one : ℕ → L → List ℕ → Scan X) (from : ℕ → L → List ℕ → Skip)
      (none : (least : L) (bytes : List ℕ) → from 0 least bytes ≡ Ok (tt, bytes))
      (some : (more : ℕ) (least : L) (bytes : List ℕ) → from (suc more) least bytes ≡ (one more least bytes >>= λ x. from more (on x.0) x.1))
      (each : (more : ℕ) (least : L) → Room (suc more) least → Scans (Good more least) spell itself (one more least))
      (goes : (more : ℕ) (least : L) (x : X) → Room (suc more) least → Good more least x → Room more (on x)) where
    abbrev tail_of : List X → List X
    tail_of [] = []
    tail_of (x ∷ xs) = xs

    pub rising_scans : (more : ℕ) (least : L) → Room more least → Scans (Rises more least) (flat_map spell) nothing (from more least)
    rising_scans zero least room = none_scans least (from 0 least) (none least)
    rising_scans (suc more) least room =
        let first = each more least room in
        let then = scans_then (Good more least) (λ x. Rises more (on x)) spell (λ x. flat_map spell) itself (λ x xs. tt) (one more least) (λ x. from more (on x)) first
        (λ x good. rising_scans more (on x) (goes more least x room good)) in
        let whole = scans_as (λ (p : X × List X). Good more least p.0 × Rises more (on p.0) p.1) (Rises (suc more) least) (λ p. spell p.0 ++ flat_map spell p.1) (flat_map spell) nothing nothing
        (λ p. p.0 ∷ p.1) (λ xs. (first_of least xs first.one, tail_of xs)) (λ bytes. one more least bytes >>= λ x. from more (on x.0) x.1) then
        (λ p good. (good, flat_map-cons spell p.0 p.1, refl))
        (λ xs good. back xs good first.one) in
        scans_same (λ bytes. one more least bytes >>= λ x. from more (on x.0) x.1) (from (suc more) least) whole (some more least)
      where
        back : (xs : List X) → Rises (suc more) least xs → (x : X)
            → (Good more least (first_of least xs x) × Rises more (on (first_of least xs x)) (tail_of xs))
            × (spell (first_of least xs x) ++ flat_map spell (tail_of xs) ≡ flat_map spell xs) × (nothing {X = X × List X} (first_of least xs x, tail_of xs) ≡ nothing xs)
        back [] good x = absurd good
        back (y ∷ ys) good x = (good, sym (flat_map-cons spell y ys), refl)

-- ---- shards

abbrev GoodShard : ℕ → ℕ → ℕ → Type 0
GoodShard more least shard = Bounded least (15 - more) shard

abbrev above_shard : ℕ → ℕ
above_shard shard = shard + 1

abbrev ShardRoom : ℕ → ℕ → Type 0
ShardRoom more least = least + more ≤ 16

shards_from_scans : (count least : ℕ) → ShardRoom count least → Scans (Rises GoodShard (number 4) above_shard count least) (flat_map (number 4)) nothing (shards_from count least)
unfolding shards_from
shards_from_scans count least room =
    rising_scans GoodShard (number 4) above_shard ShardRoom (λ more least. number_at 4 least (15 - more)) shards_from (λ least bytes. refl) (λ more least bytes. refl)
    (λ more least room. number_scans 4 least (15 - more) (omega (arith, room)) (omega arith))
    (λ more least shard room good. omega (arith, room, good.1)) count least room

-- the words of records for such a list
abbrev pub AreParts : List ℕ → Type 0
AreParts parts = (leb (length parts) 15 && list_all (λ p. ltb p 16) parts && numbers_rise parts) ≡ true

abbrev are_below : List ℕ → Bool
are_below parts = list_all (λ p. ltb p 16) parts

record RisingShards (count least : ℕ) (parts : List ℕ) : Type 0 where
  length_is : length parts ≡ count
  below : are_below parts ≡ true
  rise : numbers_rise (least ∷ parts) ≡ true

-- from the scan's words
shards_rise : (count least : ℕ) (parts : List ℕ) → Rises GoodShard (number 4) above_shard count (least + 1) parts → RisingShards count least parts
shards_rise zero least parts r = subst (RisingShards 0 least) (sym r) (record { length_is = refl; below = refl; rise = refl })
shards_rise (suc count) least [] r = absurd r
shards_rise (suc count) least (p ∷ parts) r =
    let s = shards_rise count p parts r.1 in
    record { length_is = ap suc s.length_is; below = rw (lt-ltb p 16 (omega (arith, r.0.1)), s.below) refl; rise = rw (lt-ltb least p (omega (arith, r.0.0)), s.rise) refl }

leaves : (count p : ℕ) (parts : List ℕ) → RisingShards count p parts → p < 16 → p ≤ 15 - count
leaves count p [] s lt = omega (arith, s.length_is)
leaves zero p (q ∷ parts) s lt = omega arith
leaves (suc count) p (q ∷ parts) s lt =
    let below = both_true (ltb q 16) (are_below parts) s.below in
    let rise = both_true (ltb p q) (numbers_rise (q ∷ parts)) s.rise in
    let high = leaves count q parts (record { length_is = omega (arith, s.length_is); below = below.1; rise = rise.1 }) (ltb-true q 16 below.0) in
    omega (arith, high, ltb-true p q rise.0, s.length_is)

rising_again : (count least : ℕ) (parts : List ℕ) → RisingShards count least parts → Rises GoodShard (number 4) above_shard count (least + 1) parts
rising_again zero least [] s = refl
rising_again zero least (p ∷ parts) s = let e = s.length_is in absurd cc
rising_again (suc count) least [] s = let e = s.length_is in absurd cc
rising_again (suc count) least (p ∷ parts) s =
    let below = both_true (ltb p 16) (are_below parts) s.below in
    let rise = both_true (ltb least p) (numbers_rise (p ∷ parts)) s.rise in
    let len : length parts ≡ count = omega (arith, s.length_is) in
    let after : RisingShards count p parts = record { length_is = len; below = below.1; rise = rise.1 } in
    ((omega (arith, ltb-true least p rise.0), leaves count p parts after (ltb-true p 16 below.0)), rising_again count p parts after)

are_parts : (count : ℕ) (parts : List ℕ) → count ≤ 15 → Rises GoodShard (number 4) above_shard count 0 parts → AreParts parts × (length parts ≡ count)
are_parts zero parts few r = subst (λ (ps : List ℕ). AreParts ps × (length ps ≡ 0)) (sym r) (refl, refl)
are_parts (suc count) [] few r = absurd r
are_parts (suc count) (p ∷ parts) few r =
    let s = shards_rise count p parts (moved r.1) in
    let len : suc (length parts) ≡ suc count = ap suc s.length_is in
    (rw (le-leb (suc (length parts)) 15 (omega (arith, len, few)), lt-ltb p 16 (omega (arith, r.0.1)), s.below, s.rise) refl, len)
  where
    moved : Rises GoodShard (number 4) above_shard count (above_shard p) parts → Rises GoodShard (number 4) above_shard count (p + 1) parts
    moved h = h

parts_again : (parts : List ℕ) → AreParts parts → (length parts ≤ 15) × Rises GoodShard (number 4) above_shard (length parts) 0 parts
parts_again [] a = (omega arith, refl)
parts_again (p ∷ parts) a =
    let t = both_true (leb (suc (length parts)) 15 && are_below (p ∷ parts)) (numbers_rise (p ∷ parts)) a in
    let u = both_true (leb (suc (length parts)) 15) (are_below (p ∷ parts)) t.0 in
    let few : suc (length parts) ≤ 15 = leb-true (suc (length parts)) 15 u.0 in
    let below = both_true (ltb p 16) (are_below parts) u.1 in
    let s : RisingShards (length parts) p parts = record { length_is = refl; below = below.1; rise = t.1 } in
    (few, ((omega arith, leaves (length parts) p parts s (ltb-true p 16 below.0)), rising_again (length parts) p parts s))

pub shards_scans : Scans AreParts (several (number 4)) nothing shards_at
unfolding shards_at several
shards_scans =
    let count = number_scans 4 0 15 (omega arith) (omega arith) in
    let both = scans_then (Bounded 0 15) (λ n. Rises GoodShard (number 4) above_shard n 0) (number 4) (λ n. flat_map (number 4)) itself (λ n xs. tt) (number_at 4 0 15) (λ n. shards_from n 0) count
    (λ n good. shards_from_scans n 0 (omega (arith, good.1))) in
    scans_as (λ (x : ℕ × List ℕ). Bounded 0 15 x.0 × Rises GoodShard (number 4) above_shard x.0 0 x.1) AreParts (λ x. number 4 x.0 ++ flat_map (number 4) x.1) (several (number 4)) nothing nothing
    (λ x. x.1) (λ parts. (length parts, parts)) shards_at both
    (λ x good. let a = are_parts x.0 x.1 good.0.1 good.1 in (a.0, ap (λ (n : ℕ). number 4 n ++ flat_map (number 4) x.1) a.1, refl))
    (λ parts good. let a = parts_again parts good in (((omega arith, a.0), a.1), refl, refl))

-- ---- names

pub name_spelled : (tx : TxId) → IsName tx → tx_has_spelling tx ≡ true
name_spelled tx t =
    rw (
      lt-ltb 0 tx.run (omega (arith, t.run_least)),
      lt-ltb tx.run (2 ^ 32) (omega (arith, t.run_most)),
      lt-ltb 0 tx.session (omega (arith, t.session_least)),
      le-leb tx.session 64 t.session_most,
      lt-ltb 0 tx.serial (omega (arith, t.serial_least)),
      lt-ltb tx.serial (2 ^ 64) (omega (arith, t.serial_most)),
    ) refl

pub spelled_name : (tx : TxId) → tx_has_spelling tx ≡ true → IsName tx
spelled_name tx h =
    let a = both_true (ltb 0 tx.run && ltb tx.run (2 ^ 32) && ltb 0 tx.session && leb tx.session 64 && ltb 0 tx.serial) (ltb tx.serial (2 ^ 64)) h in
    let b = both_true (ltb 0 tx.run && ltb tx.run (2 ^ 32) && ltb 0 tx.session && leb tx.session 64) (ltb 0 tx.serial) a.0 in
    let c = both_true (ltb 0 tx.run && ltb tx.run (2 ^ 32) && ltb 0 tx.session) (leb tx.session 64) b.0 in
    let d = both_true (ltb 0 tx.run && ltb tx.run (2 ^ 32)) (ltb 0 tx.session) c.0 in
    let e = both_true (ltb 0 tx.run) (ltb tx.run (2 ^ 32)) d.0 in
    record {
      run_least = omega (arith, ltb-true 0 tx.run e.0);
      run_most = omega (arith, ltb-true tx.run (2 ^ 32) e.1);
      session_least = omega (arith, ltb-true 0 tx.session d.1);
      session_most = leb-true tx.session 64 c.1;
      serial_least = omega (arith, ltb-true 0 tx.serial b.1);
      serial_most = omega (arith, ltb-true tx.serial (2 ^ 64) a.1);
    }

-- how two numbers compare
data Compared (a b : ℕ) : Type 0 where
  is_less : a < b → nat_cmp a b ≡ Less → Compared a b
  is_same : a ≡ b → nat_cmp a b ≡ Equal → Compared a b
  is_more : b < a → nat_cmp a b ≡ Greater → Compared a b

compared : (a b : ℕ) → Compared a b
compared a b = at (ltb a b) refl
  where
    at : (c : Bool) → ltb a b ≡ c → Compared a b
    at true e = is_less (ltb-true a b e) (rw e refl)
    at false e = elim (decided a b) [
      | inl s ↦ is_same s.1 (rw (e, s.0) refl)
      | inr s ↦ is_more (let le = ltb-false a b e in omega (arith, le, s.1)) (rw (e, s.0) refl)
    ]

-- names compare as their ranks
data InOrder (t u : TxId) : Type 0 where
  below : rank t < rank u → is_lt (tx_cmp t u) ≡ true → InOrder t u
  not_below : rank u ≤ rank t → is_lt (tx_cmp t u) ≡ false → InOrder t u

in_order : (t u : TxId) → IsName t → IsName u → InOrder t u
in_order t u n m =
    elim (compared t.run u.run) [
      | is_less l e ↦ below (omega (arith, l, n.session_most, n.serial_most, m.session_least)) (rw e refl)
      | is_more l e ↦ not_below (omega (arith, l, m.session_most, m.serial_most, n.session_least)) (rw e refl)
      | is_same r e ↦ elim (compared t.session u.session) [
        | is_less l f ↦ below (omega (arith, r, l, n.serial_most, m.serial_least)) (rw (e, f) refl)
        | is_more l f ↦ not_below (omega (arith, r, l, m.serial_most, n.serial_least)) (rw (e, f) refl)
        | is_same s f ↦ elim (compared t.serial u.serial) [
          | is_less l g ↦ below (omega (arith, r, s, l)) (rw (e, f, g) refl)
          | is_more l g ↦ not_below (omega (arith, r, s, l)) (rw (e, f, g) refl)
          | is_same x g ↦ not_below (omega (arith, r, s, x)) (rw (e, f, g) refl)
        ]
      ]
    ]

ranks_rise : (t u : TxId) → IsName t → IsName u → is_lt (tx_cmp t u) ≡ true → rank t < rank u
ranks_rise t u n m h = elim (in_order t u n m) [ below l e ↦ l | not_below l e ↦ absurd cc ]

names_rise : (t u : TxId) → IsName t → IsName u → rank t < rank u → is_lt (tx_cmp t u) ≡ true
names_rise t u n m h = elim (in_order t u n m) [ below l e ↦ e | not_below l e ↦ absurd (omega (arith, h, l)) ]

-- the next name is the least above
data Next (tx : TxId) : Type 0 where
  by_serial : tx.serial < 2 ^ 64 - 1 → next_name tx ≡ record { run = tx.run; session = tx.session; serial = tx.serial + 1 } → Next tx
  by_session : 2 ^ 64 - 1 ≤ tx.serial → tx.session < 64 → next_name tx ≡ record { run = tx.run; session = tx.session + 1; serial = 1 } → Next tx
  by_run : 2 ^ 64 - 1 ≤ tx.serial → 64 ≤ tx.session → next_name tx ≡ record { run = tx.run + 1; session = 1; serial = 1 } → Next tx

next_is : (tx : TxId) → Next tx
next_is tx = serial_at (ltb tx.serial (2 ^ 64 - 1)) refl
  where
    session_at : ltb tx.serial (2 ^ 64 - 1) ≡ false → (c : Bool) → ltb tx.session 64 ≡ c → Next tx
    session_at e true f = by_session (ltb-false tx.serial (2 ^ 64 - 1) e) (ltb-true tx.session 64 f) (rw (e, f) refl)
    session_at e false f = by_run (ltb-false tx.serial (2 ^ 64 - 1) e) (ltb-false tx.session 64 f) (rw (e, f) refl)

    serial_at : (c : Bool) → ltb tx.serial (2 ^ 64 - 1) ≡ c → Next tx
    serial_at true e = by_serial (ltb-true tx.serial (2 ^ 64 - 1) e) (rw e refl)
    serial_at false e = session_at e (ltb tx.session 64) refl

pub record IsNext (tx next : TxId) : Type 0 where
  pub is_name : IsName next
  pub above : rank tx < rank next
  pub least : (u : TxId) → IsName u → rank tx < rank u → rank next ≤ rank u

pub next_is_least : (tx : TxId) → IsName tx → rank tx < rank (last_name 0) → IsNext tx (next_name tx)
next_is_least tx n h = elim (next_is tx) [
  | by_serial s e ↦ subst (IsNext tx) (sym e) (record {
    is_name = record { run_least = n.run_least; run_most = n.run_most; session_least = n.session_least; session_most = n.session_most; serial_least = omega arith; serial_most = omega (arith, s) };
    above = omega arith;
    least = λ u m l. omega (arith, l);
  })
  | by_session s t e ↦ subst (IsNext tx) (sym e) (record {
    is_name = record { run_least = n.run_least; run_most = n.run_most; session_least = omega arith; session_most = omega (arith, t); serial_least = omega arith; serial_most = omega arith };
    above = omega (arith, n.serial_most);
    least = λ u m l. by_sessions u m l s;
  })
  | by_run s t e ↦ subst (IsNext tx) (sym e) (record {
    is_name = record { run_least = omega arith; run_most = omega (arith, h, s, t); session_least = omega arith; session_most = omega arith; serial_least = omega arith; serial_most = omega arith };
    above = omega (arith, n.serial_most, n.session_most);
    least = λ u m l. by_runs u m l s t;
  })
]
  where
    by_sessions : (u : TxId) → IsName u → rank tx < rank u → 2 ^ 64 - 1 ≤ tx.serial → rank (record { run = tx.run; session = tx.session + 1; serial = 1 }) ≤ rank u
    by_sessions u m l s = elim (compared tx.run u.run) [
      | is_less r e ↦ omega (arith, r, n.session_most, m.session_least, m.serial_least)
      | is_more r e ↦ absurd (omega (arith, r, l, m.session_most, m.serial_most, n.session_least))
      | is_same r e ↦ omega (arith, r, l, s, m.serial_most, m.serial_least)
    ]

    by_runs : (u : TxId) → IsName u → rank tx < rank u → 2 ^ 64 - 1 ≤ tx.serial → 64 ≤ tx.session → rank (record { run = tx.run + 1; session = 1; serial = 1 }) ≤ rank u
    by_runs u m l s t = omega (arith, l, s, t, m.session_most, m.serial_most, m.session_least, m.serial_least)

abbrev pub GoodName : ℕ → TxId → TxId → Type 0
GoodName more least tx = IsBetween least (last_name more) tx

pub record NameRoom (more : ℕ) (least : TxId) : Type 0 where
  pub few : more ≤ 1024
  pub has : HasRoom more least

pub next_has_room : (more : ℕ) (least tx : TxId) → more < 1024 → GoodName more least tx → HasRoom more (next_name tx)
next_has_room more least tx few good =
    record { is_name = λ k e. (next_at k e).is_name; room = λ k e. (next_at k e).least (last_name k) (last_is_name k (omega (arith, e, few))) (omega (arith, e, few, good.most_is)) }
  where
    next_at : (k : ℕ) → more ≡ suc k → IsNext tx (next_name tx)
    next_at k e = next_is_least tx good.is_name (omega (arith, e, few, good.most_is))

names_from_scans : (count : ℕ) (least : TxId) → NameRoom count least → Scans (Rises GoodName transaction next_name count least) (flat_map transaction) nothing (names_from count least)
unfolding names_from
names_from_scans count least room =
    rising_scans GoodName transaction next_name NameRoom (λ more least. name_at least (last_name more)) names_from (λ least bytes. refl) (λ more least bytes. refl)
    (λ more least room. name_scans least (last_name more) (room.has.is_name more refl) (last_is_name more (omega (arith, room.few))) (room.has.room more refl))
    (λ more least tx room good. record { few = omega (arith, room.few); has = next_has_room more least tx (omega (arith, room.few)) good }) count least room

abbrev are_named : List TxId → Bool
are_named txs = list_all tx_has_spelling txs

abbrev pub ArePredecessors : List TxId → Type 0
ArePredecessors txs = (leb (length txs) 1024 && are_named txs && txs_rise txs) ≡ true

record RisingNames (count : ℕ) (least : TxId) (txs : List TxId) : Type 0 where
  length_is : length txs ≡ count
  named : are_named txs ≡ true
  rise : txs_rise (least ∷ txs) ≡ true

-- the names that follow rise, where the one before isn't too high
follow : (count : ℕ) (tx : TxId) (txs : List TxId) → count < 1024 → IsName tx → rank tx ≤ rank (last_name count) → Rises GoodName transaction next_name count (next_name tx) txs → RisingNames count tx txs
follow zero tx txs few n h r = subst (RisingNames 0 tx) (sym r) (record { length_is = refl; named = refl; rise = refl })
follow (suc count) tx [] few n h r = absurd r
follow (suc count) tx (u ∷ txs) few n h r =
    let s = follow count u txs (omega (arith, few)) r.0.is_name r.0.most_is r.1 in
    let next = next_is_least tx n (omega (arith, h, few)) in
    let lt : is_lt (tx_cmp tx u) ≡ true = names_rise tx u n r.0.is_name (omega (arith, next.above, r.0.least_is)) in
    record { length_is = ap suc s.length_is; named = rw (name_spelled u r.0.is_name, s.named) refl; rise = rw (lt, s.rise) refl }

-- and back
leaves_names : (count : ℕ) (tx : TxId) (txs : List TxId) → count < 1024 → IsName tx → RisingNames count tx txs → rank tx ≤ rank (last_name count)
leaves_names count tx [] few n s = subst (λ (k : ℕ). rank tx ≤ rank (last_name k)) s.length_is (last_is_most tx n)
leaves_names zero tx (u ∷ txs) few n s = let e = s.length_is in absurd cc
leaves_names (suc count) tx (u ∷ txs) few n s =
    let named = both_true (tx_has_spelling u) (are_named txs) s.named in
    let rise = both_true (is_lt (tx_cmp tx u)) (txs_rise (u ∷ txs)) s.rise in
    let m = spelled_name u named.0 in
    let high = leaves_names count u txs (omega (arith, few)) m (record { length_is = omega (arith, s.length_is); named = named.1; rise = rise.1 }) in
    omega (arith, ranks_rise tx u n m rise.0, high, few)

follow_again : (count : ℕ) (tx : TxId) (txs : List TxId) → count < 1024 → IsName tx → RisingNames count tx txs → Rises GoodName transaction next_name count (next_name tx) txs
follow_again zero tx [] few n s = refl
follow_again zero tx (u ∷ txs) few n s = let e = s.length_is in absurd cc
follow_again (suc count) tx [] few n s = let e = s.length_is in absurd cc
follow_again (suc count) tx (u ∷ txs) few n s =
    let named = both_true (tx_has_spelling u) (are_named txs) s.named in
    let rise = both_true (is_lt (tx_cmp tx u)) (txs_rise (u ∷ txs)) s.rise in
    let m = spelled_name u named.0 in
    let after : RisingNames count u txs = record { length_is = omega (arith, s.length_is); named = named.1; rise = rise.1 } in
    let lt = ranks_rise tx u n m rise.0 in
    let high = leaves_names count u txs (omega (arith, few)) m after in
    let next = next_is_least tx n (omega (arith, lt, high, few)) in
    (record { is_name = m; least_is = next.least u m lt; most_is = high }, follow_again count u txs (omega (arith, few)) m after)

are_predecessors : (count : ℕ) (txs : List TxId) → count ≤ 1024 → Rises GoodName transaction next_name count first_name txs → ArePredecessors txs × (length txs ≡ count)
are_predecessors zero txs few r = subst (λ (ts : List TxId). ArePredecessors ts × (length ts ≡ 0)) (sym r) (refl, refl)
are_predecessors (suc count) [] few r = absurd r
are_predecessors (suc count) (t ∷ txs) few r =
    let s = follow count t txs (omega (arith, few)) r.0.is_name r.0.most_is r.1 in
    let len : suc (length txs) ≡ suc count = ap suc s.length_is in
    (rw (le-leb (suc (length txs)) 1024 (omega (arith, len, few)), name_spelled t r.0.is_name, s.named, s.rise) refl, len)

predecessors_again : (txs : List TxId) → ArePredecessors txs → (length txs ≤ 1024) × Rises GoodName transaction next_name (length txs) first_name txs
predecessors_again [] a = (omega arith, refl)
predecessors_again (t ∷ txs) a =
    let b = both_true (leb (suc (length txs)) 1024 && are_named (t ∷ txs)) (txs_rise (t ∷ txs)) a in
    let c = both_true (leb (suc (length txs)) 1024) (are_named (t ∷ txs)) b.0 in
    let few : suc (length txs) ≤ 1024 = leb-true (suc (length txs)) 1024 c.0 in
    let named = both_true (tx_has_spelling t) (are_named txs) c.1 in
    let n = spelled_name t named.0 in
    let s : RisingNames (length txs) t txs = record { length_is = refl; named = named.1; rise = b.1 } in
    (few, (record { is_name = n; least_is = first_is_least t n; most_is = leaves_names (length txs) t txs (omega (arith, few)) n s }, follow_again (length txs) t txs (omega (arith, few)) n s))

first_has_room : (count : ℕ) → count ≤ 1024 → NameRoom count first_name
first_has_room count few =
    record { few = few; has = record { is_name = λ k e. first_is_name; room = λ k e. first_is_least (last_name k) (last_is_name k (omega (arith, e, few))) } }

pub names_scans : Scans ArePredecessors (several transaction) nothing names_at
unfolding names_at several
names_scans =
    let count = number_scans 4 0 1024 (omega arith) (omega arith) in
    let both = scans_then (Bounded 0 1024) (λ n. Rises GoodName transaction next_name n first_name) (number 4) (λ n. flat_map transaction) itself (λ n xs. tt) (number_at 4 0 1024) (λ n. names_from n first_name) count
    (λ n good. names_from_scans n first_name (first_has_room n good.1)) in
    scans_as (λ (x : ℕ × List TxId). Bounded 0 1024 x.0 × Rises GoodName transaction next_name x.0 first_name x.1) ArePredecessors (λ x. number 4 x.0 ++ flat_map transaction x.1) (several transaction) nothing nothing
    (λ x. x.1) (λ txs. (length txs, txs)) names_at both
    (λ x good. let a = are_predecessors x.0 x.1 good.0.1 good.1 in (a.0, ap (λ (n : ℕ). number 4 n ++ flat_map transaction x.1) a.1, refl))
    (λ txs good. let a = predecessors_again txs good in (((omega arith, a.0), a.1), refl, refl))
