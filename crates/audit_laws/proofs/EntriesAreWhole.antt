-- The entries of an acknowledged transaction are numbered from 1 without a gap, and the parts of each scan are the whole of it.
use Rattle.std.proofs.Common.{◌≡◌, ◌⊎◌, ℕ, suc, ◌≤◌, Bool, true, false, cond, ◌==◌, eq-eqb, List, [], ◌∷◌, Option, Some, None, inl, inr, refl, sym, ap, ◌∙◌, subst, arith}
use Rattle.std.specs.Prelude.{⊤}
use Rattle.std.proofs.lemmas.Bool.{both_ways}
use Rattle.clv_base.specs.declared.names.TxId.{TxId}
use Rattle.clv_base.specs.declared.ops.Op.TheVariants.{Scan}
use Rattle.clv_base.specs.declared.ops.Answer.{Answer}
use Rattle.clv_base.specs.declared.logs.LogRecord.{LogRecord}
use Rattle.clv_base.specs.declared.events.Event.{Event}
use Rattle.clv_base.specs.declared.events.Event.TheVariants.{Op as OpEvent, RollTo}
use Rattle.clv_base.specs.declared.events.Outcome.{Outcome}
use Rattle.clv_base.specs.declared.events.Outcome.TheVariants.{Answered, Rolled}
use Rattle.clv_base.specs.Orders.{tx_same}
use Rattle.clv_base.specs.Restarts.{run_after}
use Rattle.clv_base.specs.Journals.{History, own}
use Rattle.clv_base.specs.History.{Legal, is_acknowledgement, acknowledged_in}
use Rattle.clv_base.proofs.SameNames.{tx_ne}
use Rattle.protocol_laws.specs.SessionLaws.{tx_of}
use Rattle.history_laws.proofs.NeverTakenBack.{walker_of, together_by_walker}
use Rattle.history_laws.proofs.NeverTakenBack.LaterHistoriesHoldMembers.{any_among}
use Rattle.history_cases.proofs.Merging.{Placed}
use Rattle.session_books.specs.declared.told.Told.{Told}
use Rattle.session_books.specs.Done.{Done, Did, WentBack}
use Rattle.session_books.specs.Told.{told_by, with_told, told_in}
use Rattle.session_books.proofs.Laws.{IsOfWalker, AreTheirs, are_theirs}
use Rattle.audit_laws.specs.Reports.{ScansAreWhole}
use Rattle.audit_laws.proofs.NumbersHaveNoGap.{scans, backs, NextBy, AreNumbered, numbered_in}
use Rattle.audit_laws.proofs.AllAreTold.{acknowledgement_is}

-- two entries of one number: a scan's next part begins where the one before it ended, and a going back is the same one on another shard
pub data FollowsOn (x y : Done) : Type 0 where
  part_of_scan : (lo hi hi2 : ℕ) (a b : Answer) → x ≡ Did (Scan lo hi) a → y ≡ Did (Scan (suc hi) hi2) b → lo ≤ suc hi → hi ≤ hi2 → FollowsOn x y
  same_back : (upto : ℕ) → x ≡ WentBack upto → y ≡ WentBack upto → FollowsOn x y

abbrev pub IsNext : Option Told → Told → Type 0
IsNext None t = t.nth ≡ 1
IsNext (Some l) t = (t.nth ≡ suc l.nth) ⊎ ((t.nth ≡ l.nth) × FollowsOn l.done t.done)

abbrev pub AreWhole : Option Told → List Told → Type 0
AreWhole last [] = ⊤
AreWhole last (t ∷ ts) = IsNext last t × AreWhole (Some t) ts

abbrev ScansBehind : Option Told → List Told → Type 0
ScansBehind None ts = ScansAreWhole ts
ScansBehind (Some l) ts = ScansAreWhole (l ∷ ts)

next_whole : (l : Option Told) (t : Told) (ts : List Told) → NextBy l t → ScansBehind l (t ∷ ts) → IsNext l t
next_whole None t ts e s = e
next_whole (Some l) t ts (inl e) s = inl e
next_whole (Some l) t ts (inr (e, backs upto x y)) s = inr (e, same_back upto x y)
next_whole (Some l) t ts (inr (e, scans lo hi lo2 hi2 a b x y)) s =
    let p = s.0 (sym e) lo hi lo2 hi2 a b x y in
    let some = p.0 in
    let begin = p.1 in
    let more = p.2 in
    inr (e, part_of_scan lo hi hi2 a b x (y ∙ ap (λ (k : ℕ). Did (Scan k hi2) b) begin) (omega arith) (omega arith))

behind : (l : Option Told) (ts : List Told) → ScansBehind l ts → ScansAreWhole ts
behind None ts s = s
behind (Some l) ts s = s.1

whole_by : (l : Option Told) (ts : List Told) → AreNumbered l ts → ScansBehind l ts → AreWhole l ts
whole_by l [] n s = tt
whole_by l (t ∷ ts) n s = (next_whole l t ts n.0 s, whole_by (Some t) ts n.1 (behind l (t ∷ ts) s))

-- ---- what a walker's own entries tell of its transaction

other_name : (t u : TxId) (v w : ℕ) → t.session ≡ w → u.session ≡ v → (v == w) ≡ false → tx_same u t ≡ false
other_name t u v w e f n = tx_ne u t (λ s. both_ways (v == w) n (eq-eqb v w (sym f ∙ ap (λ (x : TxId). x.session) s ∙ e)))

others_tell_nothing : (t : TxId) (v w : ℕ) (e : Event) (o : Outcome) (ts : List Told) → t.session ≡ w → IsOfWalker v e → (v == w) ≡ false → with_told t (told_by e o) ts ≡ ts
others_tell_nothing t v w (OpEvent tx birth nth seen op) (Answered answer epoch) ts n i f = ap (λ b. cond b (record { nth = nth; done = Did op answer } ∷ ts) ts) (other_name t tx v w n i.0 f)
others_tell_nothing t v w (OpEvent tx birth nth seen op) _ ts n i f = refl
others_tell_nothing t v w (RollTo tx nth seen upto) Rolled ts n i f = ap (λ b. cond b (record { nth = nth; done = WentBack upto } ∷ ts) ts) (other_name t tx v w n i f)
others_tell_nothing t v w (RollTo tx nth seen upto) _ ts n i f = refl
others_tell_nothing t v w _ o ts n i f = refl

told_of_own : (t : TxId) (w : ℕ) → t.session ≡ w → (h : History) → AreTheirs h → told_in t (own w h) ≡ told_in t h
told_of_own t w n [] theirs = refl
told_of_own t w n (e ∷ es) theirs = at ((e.1).walker == w) refl (told_of_own t w n es (λ x m. theirs x (inr m)))
  where
    at : (b : Bool) → ((e.1).walker == w) ≡ b → told_in t (own w es) ≡ told_in t es → told_in t (cond b (e ∷ own w es) (own w es)) ≡ told_in t (e ∷ es)
    at true f k = ap (with_told t (told_by (e.1).event (e.1).outcome)) k
    at false f k = k ∙ sym (others_tell_nothing t (e.1).walker w (e.1).event (e.1).outcome (told_in t es) n (theirs e (inl refl)) f)

-- they are numbered without a gap
pub entries_are_numbered : (splits : List ℕ) (before : List (List LogRecord)) (h : History) (after : List (List LogRecord)) (t : TxId) → Legal splits before h after → acknowledged_in h t ≡ true → AreNumbered None (told_in t h)
entries_are_numbered splits before h after t l acked =
    let a = any_among (λ (e : Placed). is_acknowledgement t (e.1).event (e.1).outcome) h acked in
    let x = a.0 in
    let w = (x.1).walker in
    let look = (acknowledgement_is t (x.1).event (x.1).outcome a.2).0 in
    let whose = walker_of splits before after h x t l a.1 (ap tx_of look) in
    let c = together_by_walker splits before after h x x l a.1 a.1 refl in
    let own_told : told_in t (own w h) ≡ told_in t h = told_of_own t w whose.1 h (are_theirs splits before h after l) in
    subst (AreNumbered None) own_told (numbered_in splits (run_after before) w (own w h) t whose.0 whose.1 c.session)

pub entries_are_whole : (splits : List ℕ) (before : List (List LogRecord)) (h : History) (after : List (List LogRecord)) (t : TxId) → Legal splits before h after → acknowledged_in h t ≡ true → ScansAreWhole (told_in t h) → AreWhole None (told_in t h)
entries_are_whole splits before h after t l acked scans_are = whole_by None (told_in t h) (entries_are_numbered splits before h after t l acked) scans_are
