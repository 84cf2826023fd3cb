-- A name between two others is scanned.
use Rattle.std.proofs.Common.{◌≡◌, ◌≢◌, ◌⊎◌, ℕ, ◌+◌, ◌-◌, ◌^◌, ◌<◌, ◌≤◌, Bool, true, false, eqb, List, ◌++◌, Ok, refl, arith, inl, inr}
use Rattle.std.proofs.lemmas.Bool.{eqb-true, eq-eqb}
use Rattle.clv_base.specs.declared.names.TxId.{TxId}
use Rattle.log_records.specs.Spelling.{number, transaction}
use Rattle.record_stream.specs.Scanning.{◌>>=◌, Scan, number_at, name_at, any_name_at, long_at, first_name, last_name, least_session, most_session, least_serial, most_serial}
use Rattle.record_stream.specs.Naming.{IsName, IsBetween, rank}
use Rattle.record_stream.proofs.Scans.{Scans, scans_then, scans_as, scans_made}
use Rattle.record_stream.proofs.NumberScans.{Bounded, itself, number_scans}

pub decided : (a b : ℕ) → ((eqb a b ≡ true) × (a ≡ b)) ⊎ ((eqb a b ≡ false) × (a ≢ b))
decided a b = at (eqb a b) refl
  where
    at : (c : Bool) → eqb a b ≡ c → ((eqb a b ≡ true) × (a ≡ b)) ⊎ ((eqb a b ≡ false) × (a ≢ b))
    at true e = inl (e, eqb-true a b e)
    at false e = inr (e, λ same. let t = eq-eqb a b same in cc)

-- ---- the bounds of the fields, and the order of names

-- where a name's run and session stand to those of a bound
data Place (run session : ℕ) (x : TxId) : Type 0 where
  here : run ≡ x.run → session ≡ x.session → least_session run x ≡ x.session → most_session run x ≡ x.session
      → least_serial run session x ≡ x.serial → most_serial run session x ≡ x.serial → Place run session x
  in_run : run ≡ x.run → session ≢ x.session → least_session run x ≡ x.session → most_session run x ≡ x.session
      → least_serial run session x ≡ 1 → most_serial run session x ≡ 2 ^ 64 - 1 → Place run session x
  apart : run ≢ x.run → least_session run x ≡ 1 → most_session run x ≡ 64
      → least_serial run session x ≡ 1 → most_serial run session x ≡ 2 ^ 64 - 1 → Place run session x

place : (run session : ℕ) (x : TxId) → Place run session x
place run session x =
    elim (decided run x.run) [
      | inl r ↦ elim (decided session x.session) [
        | inl s ↦ here r.1 s.1 (rw r.0 refl) (rw r.0 refl) (rw (r.0, s.0) refl) (rw (r.0, s.0) refl)
        | inr s ↦ in_run r.1 s.1 (rw r.0 refl) (rw r.0 refl) (rw (r.0, s.0) refl) (rw (r.0, s.0) refl)
      ]
      | inr r ↦ apart r.1 (rw r.0 refl) (rw r.0 refl) (rw r.0 refl) (rw r.0 refl)
    ]

record Above (least tx : TxId) : Type 0 where
  session_is : 1 ≤ tx.session
  serial_is : 1 ≤ tx.serial
  rank_is : rank least ≤ rank tx

record Below (most tx : TxId) : Type 0 where
  session_is : tx.session ≤ 64
  serial_is : tx.serial ≤ 2 ^ 64 - 1
  rank_is : rank tx ≤ rank most

is_above : (least tx : TxId) → IsName least → least.run ≤ tx.run → least_session tx.run least ≤ tx.session → least_serial tx.run tx.session least ≤ tx.serial → Above least tx
is_above least tx l run session serial =
    elim (place tx.run tx.session least) [
      | here r s ls ms le me ↦ record { session_is = omega (arith, s, l.session_least); serial_is = omega (arith, le, serial, l.serial_least); rank_is = omega (arith, r, s, le, serial) }
      | in_run r s ls ms le me ↦ record { session_is = omega (arith, ls, session, l.session_least); serial_is = omega (arith, le, serial); rank_is = omega (arith, r, s, ls, le, session, serial, l.serial_most) }
      | apart r ls ms le me ↦ record { session_is = omega (arith, ls, session); serial_is = omega (arith, le, serial); rank_is = omega (arith, run, r, ls, le, session, serial, l.session_most, l.serial_most) }
    ]

is_below : (most tx : TxId) → IsName most → 1 ≤ tx.session → tx.run ≤ most.run → tx.session ≤ most_session tx.run most → tx.serial ≤ most_serial tx.run tx.session most → Below most tx
is_below most tx m one run session serial =
    elim (place tx.run tx.session most) [
      | here r s ls ms le me ↦ record { session_is = omega (arith, s, m.session_most); serial_is = omega (arith, me, serial, m.serial_most); rank_is = omega (arith, r, s, me, serial) }
      | in_run r s ls ms le me ↦ record { session_is = omega (arith, ms, session, m.session_most); serial_is = omega (arith, me, serial); rank_is = omega (arith, r, s, ms, me, session, serial, m.serial_least) }
      | apart r ls ms le me ↦ record { session_is = omega (arith, ms, session); serial_is = omega (arith, me, serial); rank_is = omega (arith, run, r, ms, me, session, serial, m.session_least, m.serial_least) }
    ]

-- and back
abbrev Fields : TxId → TxId → TxId → Type 0
Fields least most tx =
    Bounded least.run most.run tx.run × (Bounded (least_session tx.run least) (most_session tx.run most) tx.session
    × Bounded (least_serial tx.run tx.session least) (most_serial tx.run tx.session most) tx.serial)

runs_rise : (a b : TxId) → IsName a → IsName b → rank a ≤ rank b → a.run ≤ b.run
runs_rise a b l m h = omega (arith, h, l.session_least, l.serial_least, m.session_most, m.serial_most)

least_bounds : (least tx : TxId) → IsName least → IsName tx → rank least ≤ rank tx → (least_session tx.run least ≤ tx.session) × (least_serial tx.run tx.session least ≤ tx.serial)
least_bounds least tx l t h =
    elim (place tx.run tx.session least) [
      | here r s ls ms le me ↦ (omega (arith, ls, s), omega (arith, le, h, r, s))
      | in_run r s ls ms le me ↦ (omega (arith, ls, h, r, l.serial_least, t.serial_most), omega (arith, le, t.serial_least))
      | apart r ls ms le me ↦ (omega (arith, ls, t.session_least), omega (arith, le, t.serial_least))
    ]

most_bounds : (most tx : TxId) → IsName most → IsName tx → rank tx ≤ rank most → (tx.session ≤ most_session tx.run most) × (tx.serial ≤ most_serial tx.run tx.session most)
most_bounds most tx m t h =
    elim (place tx.run tx.session most) [
      | here r s ls ms le me ↦ (omega (arith, ms, s), omega (arith, me, h, r, s))
      | in_run r s ls ms le me ↦ (omega (arith, ms, h, r, t.serial_least, m.serial_most), omega (arith, me, t.serial_most))
      | apart r ls ms le me ↦ (omega (arith, ms, t.session_most), omega (arith, me, t.serial_most))
    ]

pub between : (least most tx : TxId) → IsName least → IsName most → Fields least most tx → IsBetween least most tx
between least most tx l m f =
    let a = is_above least tx l f.0.0 f.1.0.0 f.1.1.0 in
    let b = is_below most tx m a.session_is f.0.1 f.1.0.1 f.1.1.1 in
    record {
      is_name = record { run_least = omega (arith, f.0.0, l.run_least); run_most = omega (arith, f.0.1, m.run_most); session_least = a.session_is; session_most = b.session_is; serial_least = a.serial_is; serial_most = b.serial_is };
      least_is = a.rank_is;
      most_is = b.rank_is;
    }

fields_of : (least most tx : TxId) → IsName least → IsName most → IsBetween least most tx → Fields least most tx
fields_of least most tx l m b =
    let low = least_bounds least tx l b.is_name b.least_is in
    let high = most_bounds most tx m b.is_name b.most_is in
    ((runs_rise least tx l b.is_name b.least_is, runs_rise tx most b.is_name m b.most_is), ((low.0, high.0), (low.1, high.1)))

-- ---- there is always such a name

sessions_meet : (least most : TxId) (run : ℕ) → IsName least → IsName most → rank least ≤ rank most → Bounded least.run most.run run → least_session run least ≤ most_session run most
sessions_meet least most run l m h b =
    elim (place run 0 least) [
      | here r s ls ms le me ↦ absurd (omega (arith, s, l.session_least))
      | in_run r s ls ms le me ↦ elim (place run 0 most) [
        | here r' s' ls' ms' le' me' ↦ absurd (omega (arith, s', m.session_least))
        | in_run r' s' ls' ms' le' me' ↦ omega (arith, ls, ms', r, r', h, l.serial_least, m.serial_most)
        | apart r' ls' ms' le' me' ↦ omega (arith, ls, ms', l.session_most)
      ]
      | apart r ls ms le me ↦ elim (place run 0 most) [
        | here r' s' ls' ms' le' me' ↦ absurd (omega (arith, s', m.session_least))
        | in_run r' s' ls' ms' le' me' ↦ omega (arith, ls, ms', m.session_least)
        | apart r' ls' ms' le' me' ↦ omega (arith, ls, ms')
      ]
    ]

serials_meet : (least most : TxId) (run session : ℕ) → IsName least → IsName most → rank least ≤ rank most → least_serial run session least ≤ most_serial run session most
serials_meet least most run session l m h =
    elim (place run session least) [
      | here r s ls ms le me ↦ elim (place run session most) [
        | here r' s' ls' ms' le' me' ↦ omega (arith, le, me', r, r', s, s', h)
        | in_run r' s' ls' ms' le' me' ↦ omega (arith, le, me', l.serial_most)
        | apart r' ls' ms' le' me' ↦ omega (arith, le, me', l.serial_most)
      ]
      | in_run r s ls ms le me ↦ one_meets le
      | apart r ls ms le me ↦ one_meets le
    ]
  where
    one_meets : least_serial run session least ≡ 1 → least_serial run session least ≤ most_serial run session most
    one_meets le = elim (place run session most) [
      | here r' s' ls' ms' le' me' ↦ omega (arith, le, me', m.serial_least)
      | in_run r' s' ls' ms' le' me' ↦ omega (arith, le, me')
      | apart r' ls' ms' le' me' ↦ omega (arith, le, me')
    ]

session_fits : (most : TxId) (run : ℕ) → IsName most → most_session run most < 256 ^ 4
session_fits most run m = elim (place run 0 most) [
  | here r s ls ms le me ↦ omega (arith, ms, m.session_most)
  | in_run r s ls ms le me ↦ omega (arith, ms, m.session_most)
  | apart r ls ms le me ↦ omega (arith, ms)
]

serial_fits : (most : TxId) (run session : ℕ) → IsName most → most_serial run session most < 256 ^ 8
serial_fits most run session m = elim (place run session most) [
  | here r s ls ms le me ↦ omega (arith, me, m.serial_most)
  | in_run r s ls ms le me ↦ omega (arith, me)
  | apart r ls ms le me ↦ omega (arith, me)
]

-- ---- the scan

module _ (least most : TxId) (l : IsName least) (m : IsName most) (h : rank least ≤ rank most) where
  abbrev name_of : ℕ → ℕ → ℕ → TxId
  name_of run session serial = record { run = run; session = session; serial = serial }

  abbrev serials : ℕ → ℕ → List ℕ → Scan TxId
  serials run session bytes = number_at 8 (least_serial run session least) (most_serial run session most) bytes >>= λ serial. Ok (name_of run session serial.0, serial.1)

  abbrev sessions : ℕ → List ℕ → Scan TxId
  sessions run bytes = number_at 4 (least_session run least) (most_session run most) bytes >>= λ session. serials run session.0 session.1

  abbrev runs : List ℕ → Scan TxId
  runs bytes = number_at 4 least.run most.run bytes >>= λ run. sessions run.0 run.1

  abbrev GoodSerial : ℕ → ℕ → ℕ → Type 0
  GoodSerial run session = Bounded (least_serial run session least) (most_serial run session most)

  abbrev GoodSession : ℕ → ℕ × ℕ → Type 0
  GoodSession run x = Bounded (least_session run least) (most_session run most) x.0 × GoodSerial run x.0 x.1

  serials_scan : (run session : ℕ) → Scans (GoodSerial run session) (number 8) (λ serial. name_of run session serial) (serials run session)
  serials_scan run session =
      scans_made (GoodSerial run session) (number 8) itself (name_of run session) (number_at 8 (least_serial run session least) (most_serial run session most))
      (number_scans 8 (least_serial run session least) (most_serial run session most) (serials_meet least most run session l m h) (serial_fits most run session m))

  sessions_scan : (run : ℕ) → Bounded least.run most.run run
      → Scans (GoodSession run) (λ x. number 4 x.0 ++ number 8 x.1) (λ x. name_of run x.0 x.1) (sessions run)
  sessions_scan run b =
      scans_then (Bounded (least_session run least) (most_session run most)) (GoodSerial run) (number 4) (λ session. number 8) itself (name_of run)
      (number_at 4 (least_session run least) (most_session run most)) (serials run)
      (number_scans 4 (least_session run least) (most_session run most) (sessions_meet least most run l m h b) (session_fits most run m)) (λ session good. serials_scan run session)

  runs_scan : Scans (λ (x : ℕ × (ℕ × ℕ)). Bounded least.run most.run x.0 × GoodSession x.0 x.1) (λ x. number 4 x.0 ++ (number 4 x.1.0 ++ number 8 x.1.1)) (λ x. name_of x.0 x.1.0 x.1.1) runs
  runs_scan =
      scans_then (Bounded least.run most.run) GoodSession (number 4) (λ run x. number 4 x.0 ++ number 8 x.1) itself (λ run x. name_of run x.0 x.1)
      (number_at 4 least.run most.run) sessions
      (number_scans 4 least.run most.run (runs_rise least most l m h) (omega (arith, m.run_most))) (λ run good. sessions_scan run good)

  pub name_scans : Scans (IsBetween least most) transaction itself (name_at least most)
  unfolding name_at transaction
  name_scans =
      scans_as (λ (x : ℕ × (ℕ × ℕ)). Bounded least.run most.run x.0 × GoodSession x.0 x.1) (IsBetween least most)
      (λ x. number 4 x.0 ++ (number 4 x.1.0 ++ number 8 x.1.1)) transaction (λ x. name_of x.0 x.1.0 x.1.1) itself
      (λ x. name_of x.0 x.1.0 x.1.1) (λ tx. (tx.run, (tx.session, tx.serial))) runs runs_scan
      (λ x good. (between least most (name_of x.0 x.1.0 x.1.1) l m good, refl, refl))
      (λ tx good. (fields_of least most tx l m good, refl, refl))

-- ---- all names, and any number of 8 bytes

pub first_is_name : IsName first_name
first_is_name = record { run_least = omega arith; run_most = omega arith; session_least = omega arith; session_most = omega arith; serial_least = omega arith; serial_most = omega arith }

pub last_is_name : (above : ℕ) → above < 2 ^ 32 → IsName (last_name above)
last_is_name above lt = record { run_least = omega arith; run_most = omega arith; session_least = omega arith; session_most = omega arith; serial_least = omega (arith, lt); serial_most = omega arith }

pub first_is_least : (tx : TxId) → IsName tx → rank first_name ≤ rank tx
first_is_least tx t = omega (arith, t.run_least, t.session_least, t.serial_least)

pub last_is_most : (tx : TxId) → IsName tx → rank tx ≤ rank (last_name 0)
last_is_most tx t = omega (arith, t.run_most, t.session_most, t.serial_most)

abbrev pub nothing : {X : Type 0} → X → Unit {0}
nothing x = tt

pub any_name_scans : Scans IsName transaction nothing any_name_at
unfolding any_name_at
any_name_scans =
    let last = last_name 0 in
    let named = last_is_name 0 (omega arith) in
    let all = name_scans first_name last first_is_name named (first_is_least last named) in
    let made = scans_made (IsBetween first_name last) transaction itself nothing (name_at first_name last) all in
    scans_as (IsBetween first_name last) IsName transaction transaction nothing nothing itself itself any_name_at made
    (λ tx good. (good.is_name, refl, refl))
    (λ tx good. (record { is_name = good; least_is = first_is_least tx good; most_is = last_is_most tx good }, refl, refl))

abbrev pub IsLong : ℕ → Type 0
IsLong n = n < 2 ^ 64

pub long_scans : Scans IsLong (number 8) nothing long_at
unfolding long_at
long_scans =
    let all = number_scans 8 0 (2 ^ 64 - 1) (omega arith) (omega arith) in
    let made = scans_made (Bounded 0 (2 ^ 64 - 1)) (number 8) itself nothing (number_at 8 0 (2 ^ 64 - 1)) all in
    scans_as (Bounded 0 (2 ^ 64 - 1)) IsLong (number 8) (number 8) nothing nothing itself itself long_at made
    (λ n good. (omega (arith, good.1), refl, refl))
    (λ n good. ((omega arith, omega (arith, good)), refl, refl))
