-- A session's transactions, one after another.
use Rattle.std.proofs.Common.{◌≡◌, refl, sym, ap, subst, ◌∙◌, ◌⊎◌, inl, inr, ℕ, ◌+◌, ◌<◌, ◌≤◌, true, ◌&&◌, List, [], ◌∷◌, ◌++◌, take, drop, length, get_or, length-append, append_assoc, append-nil, Option, Some, None, arith}
use Rattle.std.proofs.lemmas.Bool.{lt-ltb}
use Rattle.std.proofs.lemmas.List.{map-append, take-append-drop, take_more, take_all}
use Rattle.clv_base.specs.FileRules.{numbers_rise}
use Rattle.script_lang.specs.Bodies.{Body}
use Rattle.script_runs.specs.declared.ends.StopCause.{StopCause}
use Rattle.script_runs.specs.declared.ends.StopCause.TheVariants.{Worn}
use Rattle.script_runs.specs.Sessions.{Transaction, IsTransaction, AreTransactions, all_done, not_begun, stopped, done, entries_of, tries_of}
use Rattle.script_runs.specs.Dropped.{LetsGo, AllLetGo}
use Rattle.script_runs.specs.Seen.{Seen, Misses, Keeps, GrowsFrom, GrowsIn}
use Rattle.script_runs.specs.Ran.{Rise, serials, stamps, Ran, NotBegun, FollowsFrom, Follows}
use Rattle.script_runs.specs.Laws.{SessionsGoOn, SessionsStop}
use Rattle.law_base.proofs.Lists.{all_append}
use Rattle.script_runs.proofs.Doing.{grows_over, grows_as}
use Rattle.script_runs.proofs.Dropped.{kept_so, all_let_go_later}
use Rattle.script_runs.proofs.Tries.{rise_later, rise_on, entries_more}

risen : (lo : ℕ) (ns : List ℕ) (hi : ℕ) → Rise lo ns hi → numbers_rise ns ≡ true
risen lo [] hi r = refl
risen lo (n ∷ []) hi r = refl
risen lo (n ∷ m ∷ ns) hi r = ap (λ b. b && numbers_rise (m ∷ ns)) (lt-ltb n m (r.1).0) ∙ risen n (m ∷ ns) hi r.1

pub tries_more : (trs us : List Transaction) → tries_of (trs ++ us) ≡ tries_of trs ++ tries_of us
tries_more [] us = refl
tries_more (tr ∷ trs) us = ap (λ ts. tr.tries ++ ts) (tries_more trs us) ∙ sym (append_assoc tr.tries (tries_of trs) (tries_of us))

-- the transactions so far, each done
pub record Running (missed : Misses) (bodies : List Body) (most : Option ℕ) (u v : Seen) : Type 0 where
  pub transactions : List Transaction
  pub front : (more : List Body) (trs : List Transaction) (cause : Option StopCause) → AreTransactions u.splits u.run u.walker most more trs cause
      → AreTransactions u.splits u.run u.walker most (bodies ++ more) (transactions ++ trs) cause
  pub grows : GrowsIn (length (tries_of transactions)) (entries_of (tries_of transactions)) u v
  pub births_rise : Rise u.clock (stamps transactions) v.clock
  pub serials_rise : Rise u.serial (serials (tries_of transactions)) v.serial
  pub dropped : AllLetGo missed v.clock (tries_of transactions)

-- what is known of drops stays known
pub running_later : (missed later : Misses) (bodies : List Body) (most : Option ℕ) (u v : Seen) → Keeps missed later → Running missed bodies most u v → Running later bodies most u v
running_later missed later bodies most u v keeps d =
    record {
      transactions = d.transactions;
      front = d.front;
      grows = d.grows;
      births_rise = d.births_rise;
      serials_rise = d.serials_rise;
      dropped = all_let_go_later missed later v.clock v.clock (tries_of d.transactions) keeps (omega arith) d.dropped;
    }

-- with one transaction more, however it ended
record HasRun (missed : Misses) (base : ℕ) (u w : Seen) (trs : List Transaction) : Type 0 where
  grows : GrowsFrom base (length (tries_of trs)) (entries_of (tries_of trs)) u w
  births_rise : Rise u.clock (stamps trs) w.clock
  serials_rise : Rise u.serial (serials (tries_of trs)) w.serial
  dropped : AllLetGo missed w.clock (tries_of trs)

abbrev as_run : (missed : Misses) (body : Body) (most : Option ℕ) (cause : Option StopCause) (v w : Seen) → Ran missed body most cause v w → Transaction
as_run missed body most cause v w r = record { body = body; birth = r.birth; tries = r.tries }

one_run : (missed : Misses) (bodies : List Body) (body : Body) (most : Option ℕ) (cause : Option StopCause) (u v w : Seen) (d : Running missed bodies most u v) (r : Ran missed body most cause v w) → HasRun missed u.clock u w (d.transactions ++ as_run missed body most cause v w r ∷ [])
one_run missed bodies body most cause u v w d r =
    let tr = as_run missed body most cause v w r in
    let tries_are : tries_of (d.transactions ++ tr ∷ []) ≡ tries_of d.transactions ++ r.tries = tries_more d.transactions (tr ∷ []) ∙ ap (λ ts. tries_of d.transactions ++ ts) (append-nil r.tries) in
    record {
      grows =
          grows_as u.clock (length (tries_of d.transactions) + length r.tries) (length (tries_of (d.transactions ++ tr ∷ []))) (entries_of (tries_of d.transactions) ++ entries_of r.tries) (entries_of (tries_of (d.transactions ++ tr ∷ []))) u w
          (sym (ap length tries_are ∙ length-append (tries_of d.transactions) r.tries)) (sym (ap entries_of tries_are ∙ entries_more (tries_of d.transactions) r.tries))
          (grows_over u.clock (length (tries_of d.transactions)) (length r.tries) (entries_of (tries_of d.transactions)) (entries_of r.tries) u v w d.grows r.grows);
      births_rise =
          subst (λ ns. Rise u.clock ns w.clock) (sym (map-append (λ x. (x.birth).stamp) d.transactions (tr ∷ [])))
          (rise_on u.clock v.clock w.clock (stamps d.transactions) ((r.birth).stamp ∷ []) d.births_rise (r.later, r.earlier));
      serials_rise =
          subst (λ ns. Rise u.serial ns w.serial) (sym (ap serials tries_are ∙ map-append (λ x. (x.tx).serial) (tries_of d.transactions) r.tries))
          (rise_on u.serial v.serial w.serial (serials (tries_of d.transactions)) (serials r.tries) d.serials_rise r.serials_rise);
      dropped =
          subst (AllLetGo missed w.clock) (sym tries_are)
          (all_append (λ t. LetsGo missed w.clock t t.end) (tries_of d.transactions) r.tries
          (all_let_go_later missed missed v.clock w.clock (tries_of d.transactions) (kept_so missed) (r.grows).clock_rises d.dropped) r.dropped);
    }

is_so : (missed : Misses) (bodies : List Body) (body : Body) (most : Option ℕ) (cause : Option StopCause) (u v w : Seen) (d : Running missed bodies most u v) (r : Ran missed body most cause v w)
    → IsTransaction u.splits u.run u.walker most (as_run missed body most cause v w r) cause
is_so missed bodies body most cause u v w d r =
    subst (λ s. IsTransaction s u.run u.walker most (as_run missed body most cause v w r) cause) (d.grows).splits_are
    (subst (λ n. IsTransaction v.splits n u.walker most (as_run missed body most cause v w r) cause) (d.grows).run_is
    (subst (λ n. IsTransaction v.splits v.run n most (as_run missed body most cause v w r) cause) (d.grows).walker_is r.is_transaction))

follows_so : (missed : Misses) (bodies : List Body) (most : Option ℕ) (cause : Option StopCause) (base : ℕ) (u w : Seen) (trs : List Transaction) → HasRun missed base u w trs → AreTransactions u.splits u.run u.walker most bodies trs cause
    → FollowsFrom base missed bodies most cause u w
follows_so missed bodies most cause base u w trs h are = (
  entries_of (tries_of trs),
  record {
    transactions = trs;
    in_order = are;
    entries_are = refl;
    births_rise = risen u.clock (stamps trs) w.clock h.births_rise;
    serials_rise = risen u.serial (serials (tries_of trs)) w.serial h.serials_rise;
  },
  h.grows,
  h.births_rise,
  h.serials_rise,
  h.dropped,
)

-- it is done
ran_more : (missed : Misses) (bodies : List Body) (body : Body) (most : Option ℕ) (u v w : Seen) (d : Running missed bodies most u v) → Ran missed body most None v w → Running missed (bodies ++ body ∷ []) most u w
ran_more missed bodies body most u v w d r =
    let tr = as_run missed body most None v w r in
    let h = one_run missed bodies body most None u v w d r in
    record {
      transactions = d.transactions ++ tr ∷ [];
      front =
          λ more trs cause are.
          subst (λ bs. AreTransactions u.splits u.run u.walker most bs ((d.transactions ++ tr ∷ []) ++ trs) cause) (sym (append_assoc bodies (body ∷ []) more))
          (subst (λ ts. AreTransactions u.splits u.run u.walker most (bodies ++ body ∷ more) ts cause) (sym (append_assoc d.transactions (tr ∷ []) trs))
          (d.front (body ∷ more) (tr ∷ trs) cause (done tr more trs cause (is_so missed bodies body most None u v w d r) are)));
      grows = h.grows;
      births_rise = h.births_rise;
      serials_rise = h.serials_rise;
      dropped = h.dropped;
    }

goes_on : (missed : Misses) (bodies : List Body) (body : Body) (most : Option ℕ) (u v w : Seen) → Running missed bodies most u v → Ran missed body most None v w ⊎ NotBegun None v w → Running missed (bodies ++ body ∷ []) most u w
goes_on missed bodies body most u v w d (inl r) = ran_more missed bodies body most u v w d r
goes_on missed bodies body most u v w d (inr (at, is, grows)) = absurd cc

-- all are done
all_follow : (missed : Misses) (bodies : List Body) (most : Option ℕ) (u v : Seen) → Running missed bodies most u v → Follows missed bodies most None u v
all_follow missed bodies most u v d =
    follows_so missed bodies most None u.clock u v d.transactions (record { grows = d.grows; births_rise = d.births_rise; serials_rise = d.serials_rise; dropped = d.dropped })
    (subst (λ bs. AreTransactions u.splits u.run u.walker most bs d.transactions None) (append-nil bodies)
    (subst (λ ts. AreTransactions u.splits u.run u.walker most (bodies ++ []) ts None) (append-nil d.transactions) (d.front [] [] None all_done)))

-- it is stopped in a transaction, or before it
stops : (missed : Misses) (bodies : List Body) (body : Body) (later : List Body) (most : Option ℕ) (cause : StopCause) (u v w : Seen) → Running missed bodies most u v → Ran missed body most (Some cause) v w ⊎ NotBegun (Some cause) v w
    → Follows missed (bodies ++ body ∷ later) most (Some cause) u w
stops missed bodies body later most cause u v w d (inl r) =
    let tr = as_run missed body most (Some cause) v w r in
    follows_so missed (bodies ++ body ∷ later) most (Some cause) u.clock u w (d.transactions ++ tr ∷ []) (one_run missed bodies body most (Some cause) u v w d r)
    (d.front (body ∷ later) (tr ∷ []) (Some cause) (stopped tr later cause (is_so missed bodies body most (Some cause) u v w d r)))
stops missed bodies body later most cause u v w d (inr (at, is, grows)) =
    let clock_up = grows.clock_rises in
    let serial_up : v.serial ≤ w.serial = (let s = grows.serial_is in omega arith) in
    follows_so missed (bodies ++ body ∷ later) most (Some cause) u.clock u w d.transactions
    (record {
      grows =
          grows_as u.clock (length (tries_of d.transactions) + 0) (length (tries_of d.transactions)) (entries_of (tries_of d.transactions) ++ []) (entries_of (tries_of d.transactions)) u w (omega arith) (append-nil (entries_of (tries_of d.transactions)))
          (grows_over u.clock (length (tries_of d.transactions)) 0 (entries_of (tries_of d.transactions)) [] u v w d.grows grows);
      births_rise = rise_later u.clock (stamps d.transactions) v.clock w.clock d.births_rise clock_up;
      serials_rise = rise_later u.serial (serials (tries_of d.transactions)) v.serial w.serial d.serials_rise serial_up;
      dropped = all_let_go_later missed missed v.clock w.clock (tries_of d.transactions) (kept_so missed) clock_up d.dropped;
    })
    (subst (λ x. AreTransactions u.splits u.run u.walker most (bodies ++ body ∷ later) d.transactions x) (sym is)
    (subst (λ ts. AreTransactions u.splits u.run u.walker most (bodies ++ body ∷ later) ts (Some (Worn at))) (append-nil d.transactions)
    (d.front (body ∷ later) [] (Some (Worn at)) (not_begun body later at))))

-- ---- by places of the list

front_more : (bodies : List Body) (i : ℕ) (body : Body) → i < length bodies → body ≡ get_or bodies i body → take (i + 1) bodies ≡ take i bodies ++ body ∷ []
front_more bodies i body within is = take_more bodies i body within ∙ ap (λ x. take i bodies ++ x ∷ []) (sym is)

parted : (bodies : List Body) (i : ℕ) (body : Body) → i < length bodies → body ≡ get_or bodies i body → bodies ≡ take i bodies ++ body ∷ drop (i + 1) bodies
parted bodies i body within is =
    sym (take-append-drop (i + 1) bodies) ∙ ap (λ xs. xs ++ drop (i + 1) bodies) (front_more bodies i body within is) ∙ append_assoc (take i bodies) (body ∷ []) (drop (i + 1) bodies)

pub goes_on_at : (missed : Misses) (bodies : List Body) (i : ℕ) (body : Body) (most : Option ℕ) (u v w : Seen) → i < length bodies → body ≡ get_or bodies i body → Running missed (take i bodies) most u v → Ran missed body most None v w ⊎ NotBegun None v w
    → Running missed (take (i + 1) bodies) most u w
goes_on_at missed bodies i body most u v w within is d r = subst (λ bs. Running missed bs most u w) (sym (front_more bodies i body within is)) (goes_on missed (take i bodies) body most u v w d r)

pub stops_at : (missed : Misses) (bodies : List Body) (i : ℕ) (body : Body) (most : Option ℕ) (cause : StopCause) (u v w : Seen) → i < length bodies → body ≡ get_or bodies i body → Running missed (take i bodies) most u v
    → Ran missed body most (Some cause) v w ⊎ NotBegun (Some cause) v w → Follows missed bodies most (Some cause) u w
stops_at missed bodies i body most cause u v w within is d r =
    subst (λ bs. Follows missed bs most (Some cause) u w) (sym (parted bodies i body within is)) (stops missed (take i bodies) body (drop (i + 1) bodies) most cause u v w d r)

pub ends_at : (missed : Misses) (bodies : List Body) (i : ℕ) (most : Option ℕ) (u v : Seen) → length bodies ≤ i → Running missed (take i bodies) most u v → Follows missed bodies most None u v
ends_at missed bodies i most u v past d = all_follow missed bodies most u v (subst (λ bs. Running missed bs most u v) (take_all i bodies past) d)

-- ---- one part after another

are_more : (s : List ℕ) (r k : ℕ) (most : Option ℕ) (xs ys : List Body) (ts us : List Transaction) (c cause : Option StopCause) → AreTransactions s r k most xs ts c → c ≡ None → AreTransactions s r k most ys us cause
    → AreTransactions s r k most (xs ++ ys) (ts ++ us) cause
are_more s r k most _ ys _ us _ cause all_done none more = more
are_more s r k most _ ys _ us _ cause (not_begun body bodies at) none more = absurd cc
are_more s r k most _ ys _ us _ cause (stopped tr bodies why is) none more = absurd cc
are_more s r k most _ ys _ us _ cause (done tr bodies trs c is are) none more = done tr (bodies ++ ys) (trs ++ us) cause is (are_more s r k most bodies ys trs us c cause are none more)

are_stopped : (s : List ℕ) (r k : ℕ) (most : Option ℕ) (xs ys : List Body) (ts : List Transaction) (c : Option StopCause) (cause : StopCause) → AreTransactions s r k most xs ts c → c ≡ Some cause
    → AreTransactions s r k most (xs ++ ys) ts c
are_stopped s r k most _ ys _ _ cause all_done some = absurd cc
are_stopped s r k most _ ys _ _ cause (not_begun body bodies at) some = not_begun body (bodies ++ ys) at
are_stopped s r k most _ ys _ _ cause (stopped tr bodies why is) some = stopped tr (bodies ++ ys) why is
are_stopped s r k most _ ys _ _ cause (done tr bodies trs c is are) some = done tr (bodies ++ ys) trs c is (are_stopped s r k most bodies ys trs c cause are some)

both_run : (missed later : Misses) (base : ℕ) (u v w : Seen) (ts us : List Transaction) → Keeps missed later → HasRun missed base u v ts → HasRun later v.clock v w us → HasRun later base u w (ts ++ us)
both_run missed later base u v w ts us keeps h g =
    record {
      grows =
          grows_as base (length (tries_of ts) + length (tries_of us)) (length (tries_of (ts ++ us))) (entries_of (tries_of ts) ++ entries_of (tries_of us)) (entries_of (tries_of (ts ++ us))) u w
          (sym (ap length (tries_more ts us) ∙ length-append (tries_of ts) (tries_of us))) (sym (ap entries_of (tries_more ts us) ∙ entries_more (tries_of ts) (tries_of us)))
          (grows_over base (length (tries_of ts)) (length (tries_of us)) (entries_of (tries_of ts)) (entries_of (tries_of us)) u v w h.grows g.grows);
      births_rise =
          subst (λ ns. Rise u.clock ns w.clock) (sym (map-append (λ x. (x.birth).stamp) ts us)) (rise_on u.clock v.clock w.clock (stamps ts) (stamps us) h.births_rise g.births_rise);
      serials_rise =
          subst (λ ns. Rise u.serial ns w.serial) (sym (ap serials (tries_more ts us) ∙ map-append (λ x. (x.tx).serial) (tries_of ts) (tries_of us)))
          (rise_on u.serial v.serial w.serial (serials (tries_of ts)) (serials (tries_of us)) h.serials_rise g.serials_rise);
      dropped =
          subst (AllLetGo later w.clock) (sym (tries_more ts us))
          (all_append (λ t. LetsGo later w.clock t t.end) (tries_of ts) (tries_of us) (all_let_go_later missed later v.clock w.clock (tries_of ts) keeps (g.grows).clock_rises h.dropped) g.dropped);
    }

abbrev transactions_in : (missed : Misses) (bodies : List Body) (most : Option ℕ) (cause : Option StopCause) (u v : Seen) → Follows missed bodies most cause u v → List Transaction
transactions_in missed bodies most cause u v f = (f.1).transactions

as_has_run : (missed : Misses) (bodies : List Body) (most : Option ℕ) (cause : Option StopCause) (u v : Seen) (f : Follows missed bodies most cause u v) → HasRun missed u.clock u v (transactions_in missed bodies most cause u v f)
as_has_run missed bodies most cause u v f = record { grows = subst (λ es. GrowsIn (length (tries_of (f.1).transactions)) es u v) (f.1).entries_are f.2; births_rise = f.3; serials_rise = f.4; dropped = f.5 }

pub sessions_go_on : {S : Type 0} (missed_by : S → Misses) → SessionsGoOn missed_by
sessions_go_on missed_by old new front behind most cause u v w keeps f g =
    let missed = missed_by old in
    let later = missed_by new in
    let are : AreTransactions u.splits u.run u.walker most behind (g.1).transactions cause =
    subst (λ s. AreTransactions s u.run u.walker most behind (g.1).transactions cause) (f.2).splits_are
    (subst (λ n. AreTransactions v.splits n u.walker most behind (g.1).transactions cause) (f.2).run_is
    (subst (λ n. AreTransactions v.splits v.run n most behind (g.1).transactions cause) (f.2).walker_is (g.1).in_order)) in
    follows_so later (front ++ behind) most cause u.clock u w ((f.1).transactions ++ (g.1).transactions)
    (both_run missed later u.clock u v w (f.1).transactions (g.1).transactions keeps (as_has_run missed front most None u v f) (as_has_run later behind most cause v w g))
    (are_more u.splits u.run u.walker most front behind (f.1).transactions (g.1).transactions None cause (f.1).in_order refl are)

pub sessions_stop : {S : Type 0} (missed_by : S → Misses) → SessionsStop missed_by
sessions_stop missed_by old front behind most cause u v f =
    let missed = missed_by old in
    follows_so missed (front ++ behind) most (Some cause) u.clock u v (f.1).transactions (as_has_run missed front most (Some cause) u v f)
    (are_stopped u.splits u.run u.walker most front behind (f.1).transactions (Some cause) cause (f.1).in_order refl)
