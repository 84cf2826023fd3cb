-- The entries of a transaction that tell what it did are numbered from 1 without a gap; two of one number are parts of one scan, or of one going back.
use Rattle.std.proofs.Common.{◌≡◌, ◌⊎◌, inl, inr, refl, sym, ap, subst, ◌∙◌, ℕ, suc, ◌<◌, Bool, true, false, cond, not, ◌&&◌, ◌==◌, nat_lt, List, [], ◌∷◌, Option, Some, None, arith, eqb-true}
use Rattle.std.specs.Prelude.{⊤}
use Rattle.std.specs.List.{filter}
use Rattle.std.specs.Map.{lookup}
use Rattle.std.proofs.lemmas.Bool.{both_ways, and_parts, or_cases, cases_order, ltb-true}
use Rattle.clv_base.specs.declared.names.TxId.{TxId}
use Rattle.clv_base.specs.declared.names.Birth.{Birth}
use Rattle.clv_base.specs.declared.ops.Op.{Op}
use Rattle.clv_base.specs.declared.ops.Op.TheVariants.{Get, Put, Del, Scan, Add}
use Rattle.clv_base.specs.declared.ops.Answer.{Answer}
use Rattle.clv_base.specs.declared.events.Event.{Event}
use Rattle.clv_base.specs.declared.events.Event.TheVariants.{Op as OpEvent, RollTo, Request, Look, Drop}
use Rattle.clv_base.specs.declared.events.Outcome.{Outcome}
use Rattle.clv_base.specs.declared.events.Outcome.TheVariants.{Answered, Rolled, Dead, Asked, Acknowledged, Aborted}
use Rattle.clv_base.specs.Orders.{tx_same}
use Rattle.clv_base.specs.LogRules.{same_option}
use Rattle.clv_base.specs.Journals.{History, own}
use Rattle.clv_base.specs.Sessions.{Phase, Touching, Ended, Standing, Told as ToldPhase, Refused, SessionState, no_session, scan_shard, goes_on_scan, is_number, lies_in, is_touching, goes_on, begins, begun, session_for, op_answered, op_in_session, goes_on_back, back_for, back_in_session, same_touched, is_lowest, requested, looked, stands_at, may_drop, after_drop, session_after, makes_from, is_whole_now, follows_birth, numbered, is_of_session}
use Rattle.clv_base.specs.Backs.{stands_for_back}
use Rattle.clv_base.proofs.SameNames.{tx_true, tx_eq, tx_ne, same_fields}
use Rattle.history_cases.proofs.Merging.{Placed}
use Rattle.session_books.specs.declared.told.Told.{Told}
use Rattle.session_books.specs.Done.{Done, Did, WentBack}
use Rattle.session_books.specs.Told.{told_by, with_told, told_in}

-- ---- entries in turn

pub data AreAlike (x y : Done) : Type 0 where
  scans : (lo hi lo2 hi2 : ℕ) (a b : Answer) → x ≡ Did (Scan lo hi) a → y ≡ Did (Scan lo2 hi2) b → AreAlike x y
  backs : (upto : ℕ) → x ≡ WentBack upto → y ≡ WentBack upto → AreAlike x y

abbrev pub NextBy : Option Told → Told → Type 0
NextBy None t = t.nth ≡ 1
NextBy (Some l) t = (t.nth ≡ suc l.nth) ⊎ ((t.nth ≡ l.nth) × AreAlike l.done t.done)

abbrev pub AreNumbered : Option Told → List Told → Type 0
AreNumbered l [] = ⊤
AreNumbered l (t ∷ ts) = NextBy l t × AreNumbered (Some t) ts

abbrev number_of : Option Told → ℕ
number_of None = 0
number_of (Some l) = l.nth

abbrev LastDid : Option Told → Done → Type 0
LastDid None d = ⊥
LastDid (Some l) d = l.done ≡ d

-- what the session keeps of what was told last
record Tracks (l : Option Told) (nth : ℕ) (scanned : Option ℕ) (went_to : Option (ℕ × ℕ)) : Type 0 where
  number : nth ≡ number_of l
  scan : (m : ℕ) → scanned ≡ Some m → (lo : ℕ) × (hi : ℕ) × (a : Answer) × LastDid l (Did (Scan lo hi) a)
  back : (b : ℕ × ℕ) → went_to ≡ Some b → LastDid l (WentBack b.1)

new_number : (l : Option Told) (t : Told) (nth : ℕ) → nth ≡ number_of l → t.nth ≡ suc nth → NextBy l t
new_number None t nth e f = f ∙ ap suc e
new_number (Some l) t nth e f = inl (f ∙ ap suc e)

no_none : {A : Type 0} {a : A} → None ≡ Some a → ⊥
no_none e = cc

-- an operation of a number that another had is a scan
scan_of : (n : ℕ) (op : Op) (m : ℕ) → scan_shard n op ≡ Some m → (lo : ℕ) × (hi : ℕ) × (op ≡ Scan lo hi)
scan_of n (Scan lo hi) m e = (lo, hi, refl)
scan_of n (Get k) m e = absurd (no_none e)
scan_of n (Put k v) m e = absurd (no_none e)
scan_of n (Del k) m e = absurd (no_none e)
scan_of n (Add k by) m e = absurd (no_none e)

scans_on : (a b : Option ℕ) → goes_on_scan a b ≡ true → ((m : ℕ) × (a ≡ Some m)) × ((m : ℕ) × (b ≡ Some m))
scans_on (Some a) (Some b) e = ((a, refl), (b, refl))
scans_on (Some a) None e = absurd (both_ways false refl e)
scans_on None b e = absurd (both_ways false refl e)

again_scan : (l : Option Told) (t : Told) (lo hi lo2 hi2 : ℕ) (a b : Answer) → t.nth ≡ number_of l → LastDid l (Did (Scan lo hi) a) → t.done ≡ Did (Scan lo2 hi2) b → NextBy l t
again_scan None t lo hi lo2 hi2 a b e f g = absurd f
again_scan (Some l) t lo hi lo2 hi2 a b e f g = inr (e, scans lo hi lo2 hi2 a b f g)

again_back : (l : Option Told) (t : Told) (upto : ℕ) → t.nth ≡ number_of l → LastDid l (WentBack upto) → t.done ≡ WentBack upto → NextBy l t
again_back None t upto e f g = absurd f
again_back (Some l) t upto e f g = inr (e, backs upto f g)

-- a number of an operation is the next one, or goes on with a scan
op_next : (l : Option Told) (n nth : ℕ) (op : Op) (answer : Answer) (s : SessionState) → Tracks l s.nth s.scanned s.back → is_number s n nth op ≡ true → NextBy l (record { nth = nth; done = Did op answer })
op_next l n nth op answer s k e = at (or_cases (nth == suc s.nth) ((nth == s.nth) && goes_on_scan s.scanned (scan_shard n op)) e)
  where
    at : ((nth == suc s.nth) ≡ true) ⊎ (((nth == s.nth) && goes_on_scan s.scanned (scan_shard n op)) ≡ true) → NextBy l (record { nth = nth; done = Did op answer })
    at (inl new) = new_number l (record { nth = nth; done = Did op answer }) s.nth k.number (eqb-true nth (suc s.nth) new)
    at (inr same) =
        let p = and_parts (nth == s.nth) (goes_on_scan s.scanned (scan_shard n op)) same in
        let q = scans_on s.scanned (scan_shard n op) p.1 in
        let x = k.scan (q.0).0 (q.0).1 in
        let y = scan_of n op (q.1).0 (q.1).1 in
        again_scan l (record { nth = nth; done = Did op answer }) x.0 x.1 y.0 y.1 x.2 answer (eqb-true nth s.nth p.0 ∙ k.number) x.3 (ap (λ (o : Op). Did o answer) y.2)

op_tracks : (n nth : ℕ) (op : Op) (answer : Answer) → Tracks (Some (record { nth = nth; done = Did op answer })) nth (scan_shard n op) None
op_tracks n nth op answer =
    record {
      number = refl;
      scan = λ m e. let y = scan_of n op m e in (y.0, y.1, answer, ap (λ (o : Op). Did o answer) y.2);
      back = λ b e. absurd (no_none e);
    }

-- ---- where the session is

data Where (t : TxId) (l : Option Told) (s : SessionState) : Type 0 where
  ahead : (s.tx).run ≡ t.run → (s.tx).session ≡ t.session → (s.tx).serial < t.serial → l ≡ None → Where t l s
  at_it : s.tx ≡ t → Tracks l s.nth s.scanned s.back → Where t l s
  over : s.tx ≡ t → is_touching s.phase ≡ false → Where t l s
  past : t.serial < (s.tx).serial → Where t l s

data Step (t : TxId) (l : Option Told) (e : Event) (o : Outcome) : Option SessionState → Type 0 where
  gone : Step t l e o None
  quiet : {u : SessionState} → ((ts : List Told) → with_told t (told_by e o) ts ≡ ts) → Where t l u → Step t l e o (Some u)
  tells : {u : SessionState} (d : Told) → ((ts : List Told) → with_told t (told_by e o) ts ≡ d ∷ ts) → NextBy l d → Where t (Some d) u → Step t l e o (Some u)

step_if : (t : TxId) (l : Option Told) (e : Event) (o : Outcome) (c : Bool) (v : Option SessionState) → (c ≡ true → Step t l e o v) → Step t l e o (cond c v None)
step_if t l e o true v k = k refl
step_if t l e o false v k = gone

other_serial : (t u : TxId) → (u.serial ≡ t.serial → ⊥) → tx_same u t ≡ false
other_serial t u n = tx_ne u t (λ e. n (ap (λ z. z.serial) e))

told_other : (t u : TxId) (d : Told) (ts : List Told) → (u.serial ≡ t.serial → ⊥) → cond (tx_same u t) (d ∷ ts) ts ≡ ts
told_other t u d ts n = ap (λ b. cond b (d ∷ ts) ts) (other_serial t u n)

told_own : (t u : TxId) (d : Told) (ts : List Told) → u ≡ t → cond (tx_same u t) (d ∷ ts) ts ≡ d ∷ ts
told_own t u d ts e = ap (λ b. cond b (d ∷ ts) ts) (tx_eq u t e)

-- ---- an operation

-- whose session it finds: the one that there was, or a new one
data Finds (s : SessionState) (tx : TxId) (birth : Birth) : Option SessionState → Type 0 where
  nobody : Finds s tx birth None
  same_one : tx ≡ s.tx → is_touching s.phase ≡ true → Finds s tx birth (Some s)
  new_one : tx.run ≡ (s.tx).run → tx.session ≡ (s.tx).session → (s.tx).serial < tx.serial → Finds s tx birth (Some (begun s tx birth))

find_on : (s : SessionState) (tx : TxId) (birth : Birth) (c : Bool) → goes_on s tx birth ≡ c → tx ≡ s.tx → Finds s tx birth (cond c (Some s) None)
find_on s tx birth true e own = same_one own (and_parts (is_touching s.phase) _ e).0
find_on s tx birth false e own = nobody

find_new : (s : SessionState) (tx : TxId) (birth : Birth) (c : Bool) → begins s tx birth ≡ c → Finds s tx birth (cond c (Some (begun s tx birth)) None)
find_new s tx birth true e =
    let p = and_parts ((tx.run == (s.tx).run) && (tx.session == (s.tx).session) && nat_lt (s.tx).serial tx.serial && (birth.session == tx.session)) (follows_birth s.birth birth s.phase) e in
    let q = and_parts ((tx.run == (s.tx).run) && (tx.session == (s.tx).session) && nat_lt (s.tx).serial tx.serial) (birth.session == tx.session) p.0 in
    let r = and_parts ((tx.run == (s.tx).run) && (tx.session == (s.tx).session)) (nat_lt (s.tx).serial tx.serial) q.0 in
    let w = and_parts (tx.run == (s.tx).run) (tx.session == (s.tx).session) r.0 in
    new_one (eqb-true _ _ w.0) (eqb-true _ _ w.1) (ltb-true (s.tx).serial tx.serial r.1)
find_new s tx birth false e = nobody

find_by : (s : SessionState) (tx : TxId) (birth : Birth) (c : Bool) → tx_same tx s.tx ≡ c → Finds s tx birth (cond c (cond (goes_on s tx birth) (Some s) None) (cond (begins s tx birth) (Some (begun s tx birth)) None))
find_by s tx birth true e = find_on s tx birth (goes_on s tx birth) refl (tx_true tx s.tx e)
find_by s tx birth false e = find_new s tx birth (begins s tx birth) refl

-- where it is before the transaction, at it or behind it, by a name of its session
data Side (t tx : TxId) : Type 0 where
  lower : tx.serial < t.serial → Side t tx
  itself : tx ≡ t → Side t tx
  higher : t.serial < tx.serial → Side t tx

side_of : (t tx : TxId) → tx.run ≡ t.run → tx.session ≡ t.session → Side t tx
side_of t tx e f = at (cases_order tx.serial t.serial)
  where
    at : (tx.serial ≡ t.serial) ⊎ ((tx.serial < t.serial) ⊎ (t.serial < tx.serial)) → Side t tx
    at (inl same) = itself (same_fields tx.run tx.session tx.serial t.run t.session t.serial e f same)
    at (inr (inl l)) = lower l
    at (inr (inr g)) = higher g

fresh : (l : Option Told) → l ≡ None → Tracks l 0 None None
fresh l e = record { number = ap number_of (sym e); scan = λ m f. absurd (no_none f); back = λ b f. absurd (no_none f) }

module _ (t : TxId) (l : Option Told) (n : ℕ) (s : SessionState) (tx : TxId) (birth : Birth) (nth : ℕ) (seen : Option ℕ) (op : Op) where
  abbrev event : Event
  event = OpEvent tx birth nth seen op

  -- of another transaction
  answered_other : (answer : Answer) (epoch : ℕ) (u0 : SessionState) → u0.tx ≡ tx → (tx.serial ≡ t.serial → ⊥) → ((u : SessionState) → u.tx ≡ tx → Where t l u) → Step t l event (Answered answer epoch) (op_answered n nth op u0 (Answered answer epoch))
  answered_other answer epoch u0 own apart there = quiet (λ ts. told_other t tx (record { nth = nth; done = Did op answer }) ts apart) (there _ own)

  -- of this one
  answered_own : (answer : Answer) (epoch : ℕ) (u0 : SessionState) → u0.tx ≡ tx → tx ≡ t → Tracks l u0.nth u0.scanned u0.back → is_number u0 n nth op ≡ true → Step t l event (Answered answer epoch) (op_answered n nth op u0 (Answered answer epoch))
  answered_own answer epoch u0 own same k e =
      tells (record { nth = nth; done = Did op answer }) (λ ts. told_own t tx (record { nth = nth; done = Did op answer }) ts same) (op_next l n nth op answer u0 k e) (at_it (own ∙ same) (op_tracks n nth op answer))

  -- whichever it is, after the session was found
  by_outcome :
      (o : Outcome) (u0 : SessionState) → u0.tx ≡ tx → is_number u0 n nth op ≡ true
      → ((tx.serial ≡ t.serial → ⊥) × ((u : SessionState) → u.tx ≡ tx → Where t l u)) ⊎ ((tx ≡ t) × Tracks l u0.nth u0.scanned u0.back)
      → Step t l event o (op_answered n nth op u0 o)
  by_outcome (Answered answer epoch) u0 own e (inl (apart, there)) = answered_other answer epoch u0 own apart there
  by_outcome (Answered answer epoch) u0 own e (inr (same, k)) = answered_own answer epoch u0 own same k e
  by_outcome (Dead cause) u0 own e (inl (apart, there)) = quiet (λ ts. refl) (there _ own)
  by_outcome (Dead cause) u0 own e (inr (same, k)) = quiet (λ ts. refl) (over (own ∙ same) refl)
  by_outcome _ u0 own e k = gone

  abbrev Case : SessionState → Type 0
  Case u0 = ((tx.serial ≡ t.serial → ⊥) × ((u : SessionState) → u.tx ≡ tx → Where t l u)) ⊎ ((tx ≡ t) × Tracks l u0.nth u0.scanned u0.back)

  is_past : t.serial < tx.serial → (u0 : SessionState) → Case u0
  is_past h u0 = inl ((λ e. omega (arith, h, e)), (λ u e. past (subst (λ z. t.serial < z.serial) (sym e) h)))

  is_ahead : tx.run ≡ t.run → tx.session ≡ t.session → tx.serial < t.serial → l ≡ None → (u0 : SessionState) → Case u0
  is_ahead a b h none u0 =
      inl ((λ e. omega (arith, h, e)), (λ u e. ahead (ap (λ z. z.run) e ∙ a) (ap (λ z. z.session) e ∙ b) (subst (λ z. z.serial < t.serial) (sym e) h) none))

  same_case : Where t l s → tx ≡ s.tx → is_touching s.phase ≡ true → Case s
  same_case (ahead a b h none) own touching = is_ahead (ap (λ z. z.run) own ∙ a) (ap (λ z. z.session) own ∙ b) (subst (λ z. z.serial < t.serial) (sym own) h) none s
  same_case (at_it e k) own touching = inr (own ∙ e, k)
  same_case (over e f) own touching = absurd (both_ways _ f touching)
  same_case (past h) own touching = is_past (subst (λ z. t.serial < z.serial) (sym own) h) s

  new_case : Where t l s → tx.run ≡ (s.tx).run → tx.session ≡ (s.tx).session → (s.tx).serial < tx.serial → Case (begun s tx birth)
  new_case (ahead a b h none) e f g = at (side_of t tx (e ∙ a) (f ∙ b))
    where
      at : Side t tx → Case (begun s tx birth)
      at (lower k) = is_ahead (e ∙ a) (f ∙ b) k none (begun s tx birth)
      at (itself same) = inr (same, fresh l none)
      at (higher k) = is_past k (begun s tx birth)
  new_case (at_it own k) e f g = is_past (subst (λ z. z.serial < tx.serial) own g) (begun s tx birth)
  new_case (over own k) e f g = is_past (subst (λ z. z.serial < tx.serial) own g) (begun s tx birth)
  new_case (past h) e f g = is_past (omega (arith, h, g)) (begun s tx birth)

  op_step : (splits : List ℕ) (o : Outcome) (v : Option SessionState) → Where t l s → Finds s tx birth v → Step t l event o (op_in_session splits n nth seen op o v)
  op_step splits o None w f = gone
  op_step splits o (Some u) w (same_one own touching) =
      step_if t l event o (is_number u n nth op && lies_in splits n op && same_option seen (lookup (◌==◌ n) u.touched)) (op_answered n nth op u o)
      (λ e.
      let p = and_parts (is_number u n nth op && lies_in splits n op) (same_option seen (lookup (◌==◌ n) u.touched)) e in
      by_outcome o u (sym own) (and_parts (is_number u n nth op) (lies_in splits n op) p.0).0 (same_case w own touching))
  op_step splits o (Some u) w (new_one e f g) =
      step_if t l event o (is_number u n nth op && lies_in splits n op && same_option seen (lookup (◌==◌ n) u.touched)) (op_answered n nth op u o)
      (λ c.
      let p = and_parts (is_number u n nth op && lies_in splits n op) (same_option seen (lookup (◌==◌ n) u.touched)) c in
      by_outcome o u refl (and_parts (is_number u n nth op) (lies_in splits n op) p.0).0 (new_case w e f g))

-- ---- a going back

-- as it finds the session: under the next number, or under that of a going back to the same place
data Begins (s : SessionState) (n nth upto : ℕ) : Option SessionState → Type 0 where
  nowhere : Begins s n nth upto None
  next_one : {u : SessionState} → u.tx ≡ s.tx → nth ≡ suc s.nth → u.nth ≡ nth → u.scanned ≡ None → Begins s n nth upto (Some u)
  same_again : nth ≡ s.nth → ((b : ℕ × ℕ) × (s.back ≡ Some b) × (b.1 ≡ upto)) → Begins s n nth upto (Some s)

abbrev HasTx : SessionState → Option SessionState → Type 0
HasTx s None = ⊤
HasTx s (Some u) = u.tx ≡ s.tx

keeps_tx : (s : SessionState) (n nth upto : ℕ) (v : Option SessionState) → Begins s n nth upto v → HasTx s v
keeps_tx s n nth upto _ nowhere = tt
keeps_tx s n nth upto _ (next_one same number is none) = same
keeps_tx s n nth upto _ (same_again number k) = refl

back_on : (b : Option (ℕ × ℕ)) (n upto : ℕ) → goes_on_back b n upto ≡ true → (c : ℕ × ℕ) × (b ≡ Some c) × (c.1 ≡ upto)
back_on None n upto e = absurd (both_ways false refl e)
back_on (Some b) n upto e = (b, refl, eqb-true b.1 upto (and_parts (nat_lt b.0 n) (b.1 == upto) e).1)

begins_back : (s : SessionState) (n nth upto : ℕ) → Begins s n nth upto (back_for s n nth upto)
begins_back s n nth upto = at (nth == suc s.nth) (nat_lt upto nth) ((nth == s.nth) && goes_on_back s.back n upto) refl refl
  where
    at : (a b c : Bool) → (nth == suc s.nth) ≡ a → ((nth == s.nth) && goes_on_back s.back n upto) ≡ c
        → Begins s n nth upto (cond a (cond b (Some (record (numbered nth s) { is_whole = is_whole_now s && stands_for_back nth upto s.backs; backs = (nth, upto) ∷ s.backs })) None) (cond c (Some s) None))
    at true true c e f = next_one refl (eqb-true nth (suc s.nth) e) refl refl
    at true false c e f = nowhere
    at false b true e f = (let p = and_parts (nth == s.nth) (goes_on_back s.back n upto) f in same_again (eqb-true nth s.nth p.0) (back_on s.back n upto p.1))
    at false b false e f = nowhere

apart_done : (l : Option Told) (lo hi upto : ℕ) (a : Answer) → LastDid l (Did (Scan lo hi) a) → LastDid l (WentBack upto) → ⊥
apart_done None lo hi upto a e f = e
apart_done (Some l) lo hi upto a e f = no (sym e ∙ f)
  where
    no : Did (Scan lo hi) a ≡ WentBack upto → ⊥
    no g = cc

some_eq : {A : Type 0} {a b : A} → Some a ≡ Some b → a ≡ b
some_eq e = cc

module _ (t : TxId) (l : Option Told) (n : ℕ) (s : SessionState) (tx : TxId) (nth seen upto : ℕ) where
  abbrev went : Told
  went = record { nth = nth; done = WentBack upto }

  rolled_own : (u : SessionState) → u.tx ≡ s.tx → NextBy l went → u.nth ≡ nth → u.scanned ≡ None → s.tx ≡ t → tx ≡ s.tx → Step t l (RollTo tx nth seen upto) Rolled (back_in_session n upto Rolled (Some u))
  rolled_own u same next number none own e =
      tells went (λ ts. told_own t tx went ts (e ∙ own)) next
      (at_it (same ∙ own) (record { number = number; scan = λ m f. absurd (no_none (sym none ∙ f)); back = λ b f. ap (λ (x : ℕ × ℕ). WentBack x.1) (some_eq f) }))

  rolled_other : (u : SessionState) → u.tx ≡ s.tx → tx ≡ s.tx → (tx.serial ≡ t.serial → ⊥) → ((x : SessionState) → x.tx ≡ tx → Where t l x) → Step t l (RollTo tx nth seen upto) Rolled (back_in_session n upto Rolled (Some u))
  rolled_other u same e apart there = quiet (λ ts. told_other t tx went ts apart) (there _ (same ∙ sym e))

  back_step : (o : Outcome) (v : Option SessionState) → Where t l s → tx ≡ s.tx → is_touching s.phase ≡ true → Begins s n nth upto v → Step t l (RollTo tx nth seen upto) o (back_in_session n upto o v)
  back_step o None w e touching f = gone
  back_step o (Some u) (over its k) e touching f = absurd (both_ways _ k touching)
  back_step Rolled (Some u) (at_it its k) e touching (next_one same number is none) = rolled_own u same (new_number l went s.nth k.number number) is none its e
  back_step Rolled (Some u) (at_it its k) e touching (same_again number (b, has, there)) =
      let did = subst (λ (x : ℕ). LastDid l (WentBack x)) there (k.back b has) in
      rolled_own s refl (again_back l went upto (number ∙ k.number) did refl) (sym number) (no_scan s.scanned refl) its e
    where
      no_scan : (c : Option ℕ) → s.scanned ≡ c → s.scanned ≡ None
      no_scan None f = f
      no_scan (Some m) f = (let x = k.scan m f in absurd (apart_done l x.0 x.1 b.1 x.2 x.3 (k.back b has)))
  back_step Rolled (Some u) (ahead a b h none) e touching f =
      rolled_other u (keeps_tx s n nth upto (Some u) f) e (λ g. omega (arith, h, g, serial_of)) (λ x same. ahead (ap (λ z. z.run) (same ∙ e) ∙ a) (ap (λ z. z.session) (same ∙ e) ∙ b) (subst (λ z. z.serial < t.serial) (sym (same ∙ e)) h) none)
    where
      serial_of : tx.serial ≡ (s.tx).serial
      serial_of = ap (λ z. z.serial) e
  back_step Rolled (Some u) (past h) e touching f = rolled_other u (keeps_tx s n nth upto (Some u) f) e (λ g. omega (arith, h, g, serial_of)) (λ x same. past (subst (λ z. t.serial < z.serial) (sym (same ∙ e)) h))
    where
      serial_of : tx.serial ≡ (s.tx).serial
      serial_of = ap (λ z. z.serial) e
  back_step (Dead cause) (Some u) w e touching f = quiet (λ ts. refl) (dead w)
    where
      dead : Where t l s → Where t l (record u { back = Some (n, upto); phase = Ended })
      dead (ahead a b h none) = ahead (ap (λ z. z.run) (keeps_tx s n nth upto (Some u) f) ∙ a) (ap (λ z. z.session) (keeps_tx s n nth upto (Some u) f) ∙ b) (subst (λ z. z.serial < t.serial) (sym (keeps_tx s n nth upto (Some u) f)) h) none
      dead (at_it own k) = over (keeps_tx s n nth upto (Some u) f ∙ own) refl
      dead (over own k) = over (keeps_tx s n nth upto (Some u) f ∙ own) refl
      dead (past h) = past (subst (λ z. t.serial < z.serial) (sym (keeps_tx s n nth upto (Some u) f)) h)
  back_step _ (Some u) w e touching f = gone

-- ---- all events

-- only the phase changes, and no operation is taken in the new one
new_phase : (t : TxId) (l : Option Told) (s : SessionState) (p : Phase) → (is_touching s.phase ≡ false → is_touching p ≡ false) → Where t l s → Where t l (record s { phase = p })
new_phase t l s p k (ahead a b h none) = ahead a b h none
new_phase t l s p k (at_it own tracks) = at_it own tracks
new_phase t l s p k (over own e) = over own (k e)
new_phase t l s p k (past h) = past h

dropped_phase : (p : Phase) → is_touching p ≡ false → is_touching (after_drop p) ≡ false
dropped_phase Touching e = refl
dropped_phase Ended e = refl
dropped_phase (Standing home) e = refl
dropped_phase ToldPhase e = refl
dropped_phase Refused e = refl

step : (splits : List ℕ) (t : TxId) (l : Option Told) (n : ℕ) (s : SessionState) (e : Event) (o : Outcome) → Where t l s → Step t l e o (session_after splits n s e o)
step splits t l n s (OpEvent tx birth nth seen op) o w = op_step t l n s tx birth nth seen op splits o (session_for s tx birth) w (find_by s tx birth (tx_same tx s.tx) refl)
step splits t l n s (RollTo tx nth seen upto) o w =
    step_if t l (RollTo tx nth seen upto) o (tx_same tx s.tx && is_touching s.phase && same_option (Some seen) (lookup (◌==◌ n) s.touched)) (back_in_session n upto o (back_for s n nth upto))
    (λ e.
    let p = and_parts (tx_same tx s.tx && is_touching s.phase) (same_option (Some seen) (lookup (◌==◌ n) s.touched)) e in
    let q = and_parts (tx_same tx s.tx) (is_touching s.phase) p.0 in
    back_step t l n s tx nth seen upto o (back_for s n nth upto) w (tx_true tx s.tx q.0) q.1 (begins_back s n nth upto))
step splits t l n s (Request tx ts) o w =
    step_if t l (Request tx ts) o (tx_same tx s.tx && is_touching s.phase && is_whole_now s && same_touched ts s.touched && is_lowest n ts) (requested n s o) (λ e. at o)
  where
    at : (p : Outcome) → Step t l (Request tx ts) p (requested n s p)
    at Asked = quiet (λ k. refl) (new_phase t l s (Standing n) (λ f. refl) w)
    at (Dead cause) = quiet (λ k. refl) (new_phase t l s Ended (λ f. refl) w)
    at _ = gone
step splits t l n s (Look tx) o w = step_if t l (Look tx) o (tx_same tx s.tx && stands_at n s.phase) (looked s o) (λ e. at o)
  where
    at : (p : Outcome) → Step t l (Look tx) p (looked s p)
    at Acknowledged = quiet (λ k. refl) (new_phase t l s ToldPhase (λ f. refl) w)
    at (Aborted cause) = quiet (λ k. refl) (new_phase t l s Refused (λ f. refl) w)
    at _ = gone
step splits t l n s (Drop tx) o w =
    step_if t l (Drop tx) o (tx_same tx s.tx && may_drop s.phase && not ((s.tx).serial == 0)) (Some (record s { phase = after_drop s.phase }))
    (λ e. quiet (λ k. refl) (new_phase t l s (after_drop s.phase) (dropped_phase s.phase) w))
step splits t l n s _ o w = quiet (λ k. refl) w

numbered_by :
    (splits : List ℕ) (t : TxId) (l : Option Told) (e : Event) (o : Outcome) (v : Option SessionState) (es : List Placed) → Step t l e o v → makes_from splits v es ≡ true
    → ((k : Option Told) (u : SessionState) → Where t k u → makes_from splits (Some u) es ≡ true → AreNumbered k (told_in t es)) → AreNumbered l (with_told t (told_by e o) (told_in t es))
numbered_by splits t l e o None es gone h rec = absurd (both_ways false refl h)
numbered_by splits t l e o (Some u) es (quiet same w) h rec = subst (AreNumbered l) (sym (same (told_in t es))) (rec l u w h)
numbered_by splits t l e o (Some u) es (tells d more next w) h rec = subst (AreNumbered l) (sym (more (told_in t es))) (next, rec (Some d) u w h)

numbered_from_here : (splits : List ℕ) (t : TxId) (es : List Placed) (l : Option Told) (s : SessionState) → Where t l s → makes_from splits (Some s) es ≡ true → AreNumbered l (told_in t es)
numbered_from_here splits t [] l s w h = tt
numbered_from_here splits t (z ∷ zs) l s w h =
    numbered_by splits t l (z.1).event (z.1).outcome (session_after splits z.0 s (z.1).event (z.1).outcome) zs (step splits t l z.0 s (z.1).event (z.1).outcome w) h (λ k u v f. numbered_from_here splits t zs k u v f)

-- of a session's entries
pub numbered_in : (splits : List ℕ) (run walker : ℕ) (es : List Placed) (t : TxId) → t.run ≡ run → t.session ≡ walker → makes_from splits (Some (no_session run walker)) es ≡ true → AreNumbered None (told_in t es)
numbered_in splits run walker es t e f h = numbered_from_here splits t es None (no_session run walker) (start (cases_order 0 t.serial)) h
  where
    start : (0 ≡ t.serial) ⊎ ((0 < t.serial) ⊎ (t.serial < 0)) → Where t None (no_session run walker)
    start (inl zero_) = over (same_fields run walker 0 t.run t.session t.serial (sym e) (sym f) zero_) refl
    start (inr (inl some)) = ahead (sym e) (sym f) some refl
    start (inr (inr never)) = absurd (omega (arith, never))

-- ---- of a history's

told_alone : (t : TxId) (e : Event) (o : Outcome) (ts : List Told) → is_of_session e ≡ false → with_told t (told_by e o) ts ≡ ts
told_alone t (OpEvent tx birth nth seen op) o ts e = absurd (both_ways true e refl)
told_alone t (RollTo tx nth seen upto) o ts e = absurd (both_ways true e refl)
told_alone t _ o ts e = refl

pub told_by_sessions : (t : TxId) (es : History) → told_in t (filter (λ (x : Placed). is_of_session (x.1).event) es) ≡ told_in t es
told_by_sessions t [] = refl
told_by_sessions t (e ∷ es) = at (is_of_session (e.1).event) refl (told_by_sessions t es)
  where
    at : (b : Bool) → is_of_session (e.1).event ≡ b → told_in t (filter (λ (x : Placed). is_of_session (x.1).event) es) ≡ told_in t es
        → told_in t (cond b (e ∷ filter (λ (x : Placed). is_of_session (x.1).event) es) (filter (λ (x : Placed). is_of_session (x.1).event) es)) ≡ with_told t (told_by (e.1).event (e.1).outcome) (told_in t es)
    at true f ih = ap (with_told t (told_by (e.1).event (e.1).outcome)) ih
    at false f ih = ih ∙ sym (told_alone t (e.1).event (e.1).outcome (told_in t es) f)
