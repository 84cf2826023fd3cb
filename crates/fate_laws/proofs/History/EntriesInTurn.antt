-- Two entries of one transaction, in turn.
use Rattle.std.proofs.Common.{◌≡◌, ⊎_elim, refl, sym, ap, subst, ℕ, true, List, [], ◌∷◌, Option, Some}
use Rattle.std.specs.List.{AllByRecursion}
use Rattle.std.proofs.lemmas.Bool.{both_ways, eq-eqb}
use Rattle.clv_base.specs.declared.names.TxId.{TxId}
use Rattle.clv_base.specs.declared.names.Birth.{Birth}
use Rattle.clv_base.specs.declared.ops.Op.{Op}
use Rattle.clv_base.specs.declared.logs.LogRecord.{LogRecord}
use Rattle.clv_base.specs.declared.events.Event.TheVariants.{Op as OpEvent, Request as RequestEvent, RollTo}
use Rattle.clv_base.specs.Sessions.{is_session, no_session, is_lowest}
use Rattle.clv_base.specs.Restarts.{run_after}
use Rattle.clv_base.specs.Journals.{History, own}
use Rattle.clv_base.specs.History.{Legal}
use Rattle.protocol_laws.specs.SessionLaws.{tx_of, works_on, ended_by}
use Rattle.protocol_laws.proofs.SessionsKeepOrder.{sessions_keep_order}
use Rattle.history_cases.proofs.Merging.{Placed, Before, in_order, Among, Precedes, in_turn, precedes_before, before_then, not_before_itself, own_in_order}
use Rattle.history_laws.proofs.Entries.NothingFollowsRequests.{nothing_follows}
use Rattle.history_cases.proofs.Telling.{IsRequest}
use Rattle.history_laws.proofs.NeverTakenBack.{together}
use Rattle.history_laws.proofs.Entries.WalkedEntryByEntry.{Behind, from_own, first_among}
use Rattle.history_laws.proofs.RequestsNameWhatAnswered.SessionsFollowTheirOperations.{OpAt, AnswersAt, has_seen}
use Rattle.history_laws.proofs.RequestsNameWhatAnswered.NamedShardsAnswered.{AnsweredAt, Named, request_names_all}

-- an entry of a history, and one behind it
pub record Turn (h : History) (x y : Placed) : Type 0 where
  pub first : Among x h
  pub second : Among y h
  pub before : Before x y

pub own_precedes : (splits : List ℕ) (before after : List (List LogRecord)) (h : History) (x y : Placed) (t : TxId) → Legal splits before h after → Turn h x y → tx_of (x.1).event ≡ Some t → tx_of (y.1).event ≡ Some t
    → Precedes x y (own (x.1).walker h) × (is_session splits (run_after before) (x.1).walker (own (x.1).walker h) ≡ true)
own_precedes splits before after h x y t l c e f =
    let p = together splits before after h x y t l c.first c.second e f in
    let o = own_in_order (x.1).walker h (in_order h l.ordered) in (
      ⊎_elim (λ q. absurd (not_before_itself x y q c.before))
          (λ q. ⊎_elim (λ a. a) (λ a. absurd (not_before_itself x x refl (before_then x y x c.before (precedes_before y x (own (x.1).walker h) o a)))) q)
          (in_turn x y (own (x.1).walker h) p.first p.second),
      p.session,
    )

-- after its request a transaction does nothing more
pub no_work : (splits : List ℕ) (before after : List (List LogRecord)) (h : History) (r x : Placed) (t : TxId) (ts : List (ℕ × ℕ)) → Legal splits before h after → Turn h r x → IsRequest t ts r → tx_of (x.1).event ≡ Some t → works_on t.serial (x.1).event ≡ true → ⊥
no_work splits before after h r x t ts l c q e w =
    let p = own_precedes splits before after h r x t l c (ap tx_of q.0) e in
    let k = (sessions_keep_order splits (run_after before) (r.1).walker (own (r.1).walker h) p.1).2 in
    both_ways _ (nothing_follows (own (r.1).walker h) r x t.serial k p.0 (ap (λ z. ended_by z (r.1).outcome) q.0)) w

-- two operations of a transaction on a shard: the later has seen the epoch of the earlier, and is of its birth
pub same_epoch : (splits : List ℕ) (before after : List (List LogRecord)) (h : History) (y x : Placed) (t : TxId) (b birth : Birth) (e : ℕ) (seen : Option ℕ) → Legal splits before h after → Turn h y x → y.0 ≡ x.0 → AnswersAt y t b e → OpAt x t birth seen
    → (seen ≡ Some e) × (b ≡ birth)
same_epoch splits before after h y x t b birth e seen l c q a o =
    let p = own_precedes splits before after h y x t l c (ap tx_of (a.at).is) (ap tx_of o.is) in
    has_seen splits (own (y.1).walker h) (no_session (run_after before) (y.1).walker) y x t b birth e seen p.1 p.0 q a o

-- ---- what a request names: operations before it, on the shard and in the epoch that it says

abbrev pub NamedBefore : History → Placed → TxId → List (ℕ × ℕ) → Type 0
NamedBefore h r t ts = AllByRecursion (λ k. (y : Placed) × Turn h y r × AnsweredAt y t k.0 k.1) ts

named_before : (splits : List ℕ) (before after : List (List LogRecord)) (h : History) (r : Placed) (t : TxId) (ts : List (ℕ × ℕ)) → Legal splits before h after → Among r h → Named t r (own (r.1).walker h) ts → NamedBefore h r t ts
named_before splits before after h r t [] l i n = tt
named_before splits before after h r t (k ∷ ks) l i n =
    let y = (n.0).0 in
    let p = (n.0).1 in
    let w = own (r.1).walker h in (
      (y, record { first = from_own (r.1).walker y h (first_among y r w p); second = i; before = precedes_before y r w (own_in_order (r.1).walker h (in_order h l.ordered)) p }, (n.0).2),
      named_before splits before after h r t ks l i n.1,
    )

pub named_at : (splits : List ℕ) (before after : List (List LogRecord)) (h : History) (r : Placed) (t : TxId) (ts : List (ℕ × ℕ)) → Legal splits before h after → Among r h → (r.1).event ≡ RequestEvent t ts → NamedBefore h r t ts × (is_lowest r.0 ts ≡ true)
named_at splits before after h r t ts l i e =
    let p = together splits before after h r r t l i i (ap tx_of e) (ap tx_of e) in
    let q = request_names_all splits (own (r.1).walker h) (no_session (run_after before) (r.1).walker) r t ts refl p.session p.first e in
    (named_before splits before after h r t ts l i q.0, q.1)

-- ---- the entry behind a front of the history

pub turn_of : (h pre : History) (x y : Placed) → Behind h pre x → Among y pre → Turn h y x
turn_of h pre x y n i = let p = n.turn y i in record { first = p.0; second = n.here; before = p.1 }

-- a request that was taken
abbrev pub Requested : History → TxId → ℕ → Type 0
Requested pre t n = (r : Placed) × (ts : List (ℕ × ℕ)) × Among r pre × IsRequest t ts r × (r.0 ≡ n)

-- an operation's transaction made none before it
pub op_no_request : (splits : List ℕ) (before after : List (List LogRecord)) (h pre : History) (x : Placed) (t : TxId) (b : Birth) (nth : ℕ) (seen : Option ℕ) (op : Op) (n : ℕ) → Legal splits before h after → Behind h pre x → (x.1).event ≡ OpEvent t b nth seen op → Requested pre t n → ⊥
op_no_request splits before after h pre x t b nth seen op n l k e (r, ts, i, q, z) =
    no_work splits before after h r x t ts l (turn_of h pre x r k i) q (ap tx_of e) (subst (λ z. works_on t.serial z ≡ true) (sym e) (eq-eqb t.serial t.serial refl))

-- nor a going back
pub back_no_request : (splits : List ℕ) (before after : List (List LogRecord)) (h pre : History) (x : Placed) (t : TxId) (nth seen upto n : ℕ) → Legal splits before h after → Behind h pre x → (x.1).event ≡ RollTo t nth seen upto → Requested pre t n → ⊥
back_no_request splits before after h pre x t nth seen upto n l k e (r, ts, i, q, z) =
    no_work splits before after h r x t ts l (turn_of h pre x r k i) q (ap tx_of e) (subst (λ z. works_on t.serial z ≡ true) (sym e) (eq-eqb t.serial t.serial refl))

-- a request is the first
pub request_no_request : (splits : List ℕ) (before after : List (List LogRecord)) (h pre : History) (x : Placed) (t : TxId) (ts : List (ℕ × ℕ)) (n : ℕ) → Legal splits before h after → Behind h pre x → (x.1).event ≡ RequestEvent t ts → Requested pre t n → ⊥
request_no_request splits before after h pre x t ts n l k e (r, us, i, q, z) =
    no_work splits before after h r x t us l (turn_of h pre x r k i) q (ap tx_of e) (subst (λ z. works_on t.serial z ≡ true) (sym e) (eq-eqb t.serial t.serial refl))
