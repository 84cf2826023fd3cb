-- An acknowledged transaction numbered its acts in order, and went back only to where it still could.
use Rattle.std.proofs.Common.{◌≡◌, refl, ap, subst, ◌∙◌, ℕ, suc, ◌<◌, Bool, true, false, cond, ◌&&◌, nat_le, nat_lt, List, [], ◌∷◌, ◌++◌, Option, Some, None, arith}
use Rattle.std.proofs.lemmas.Bool.{and_parts, and_from, le-leb, lt-ltb}
use Rattle.clv_base.specs.declared.names.TxId.{TxId}
use Rattle.clv_base.specs.declared.ops.Op.{Op}
use Rattle.clv_base.specs.declared.logs.LogRecord.{LogRecord}
use Rattle.clv_base.specs.declared.events.Event.{Event}
use Rattle.clv_base.specs.declared.events.Event.TheVariants.{Op as OpEvent, RollTo, Request}
use Rattle.clv_base.specs.declared.events.Outcome.{Outcome}
use Rattle.clv_base.specs.declared.events.Outcome.TheVariants.{Answered, Rolled, Asked}
use Rattle.clv_base.specs.Orders.{tx_same}
use Rattle.clv_base.specs.Maps.{Acts, Operates, GoesBack}
use Rattle.clv_base.specs.Backs.{is_next, stands_for_back, are_numbered}
use Rattle.clv_base.specs.Journals.{History}
use Rattle.clv_base.specs.History.{Legal, DoneAct, act_of, put_act, acts_in}
use Rattle.history_cases.proofs.Merging.{Placed, Among, among_is}
use Rattle.serial_laws.specs.Shares.{ShardAct, OnShard, BackOn, whole, numbered as numbered_acts}
use Rattle.serial_laws.proofs.PartsAreNumbered.{parts_are_numbered}
use Rattle.history_laws.specs.Going.{act_on, shard_acts_in}
use Rattle.history_laws.proofs.RequestsGoWhole.{requests_go_whole}
use Rattle.session_books.specs.Done.{Done}
use Rattle.script_runs.specs.Operations.{parts_of}
use Rattle.script_runs.specs.Acts.{numbered, numbered_parts}
use Rattle.script_runs.specs.TriesTell.{ArePartsOf, no_act, operation, going_back}
use Rattle.report_reading.specs.Told.{numbered_from}

-- ---- what the history tells of it

one_whole : (t : TxId) (n : ℕ) (e : Event) (o : Outcome) (xs : List ShardAct) (ps : List DoneAct) → whole xs ≡ ps
    → whole (elim (act_on t n e o) [ Some x ↦ x ∷ xs | None ↦ xs ]) ≡ elim (act_of t e o) [ Some p ↦ put_act p ps | None ↦ ps ]
one_whole t n (OpEvent tx birth nth seen op) (Answered a epoch) xs ps e = at (tx_same t tx)
  where
    at : (b : Bool) → whole (elim (cond {A = Option ShardAct} b (Some (OnShard n nth op a)) None) [ Some x ↦ x ∷ xs | None ↦ xs ]) ≡ elim (cond {A = Option DoneAct} b (Some (nth, Operates op, Some a)) None) [ Some p ↦ put_act p ps | None ↦ ps ]
    at true = ap (put_act (nth, Operates op, Some a)) e
    at false = e
one_whole t n (RollTo tx nth seen upto) Rolled xs ps e = at (tx_same t tx)
  where
    at : (b : Bool) → whole (elim (cond {A = Option ShardAct} b (Some (BackOn n nth upto)) None) [ Some x ↦ x ∷ xs | None ↦ xs ]) ≡ elim (cond {A = Option DoneAct} b (Some (nth, GoesBack upto, None)) None) [ Some p ↦ put_act p ps | None ↦ ps ]
    at true = ap (put_act (nth, GoesBack upto, None)) e
    at false = e
one_whole t n _ o xs ps e = e

whole_is : (t : TxId) (h : History) → whole (shard_acts_in t h) ≡ acts_in t h
whole_is t [] = refl
whole_is t (e ∷ es) = one_whole t e.0 (e.1).event (e.1).outcome (shard_acts_in t es) (acts_in t es) (whole_is t es)

same_numbered : (ps : List DoneAct) → numbered_acts ps ≡ numbered ps
same_numbered [] = refl
same_numbered (p ∷ ps) = ap (λ (l : Acts). (p.0, p.1) ∷ l) (same_numbered ps)

-- where it made its request
pub asked_acts : (splits : List ℕ) (before : List (List LogRecord)) (h : History) (after : List (List LogRecord)) (x : Placed) (t : TxId) (ts : List (ℕ × ℕ)) → Legal splits before h after
    → Among x h → (x.1).event ≡ Request t ts → (x.1).outcome ≡ Asked → are_numbered 0 [] (numbered (acts_in t h)) ≡ true
asked_acts splits before h after x t ts l i e o =
    subst (λ (as_ : Acts). are_numbered 0 [] as_ ≡ true) (ap numbered_acts (whole_is t h) ∙ same_numbered (acts_in t h))
    (parts_are_numbered (shard_acts_in t h) (requests_go_whole splits before h after x.0 x.1 t ts l (among_is x.0 x.1 h i) e o)).1

-- ---- the acts of a try, of which these are the parts

numbered_append : (ps qs : List DoneAct) → numbered (ps ++ qs) ≡ numbered ps ++ numbered qs
numbered_append [] qs = refl
numbered_append (p ∷ ps) qs = ap (λ (l : Acts). (p.0, p.1) ∷ l) (numbered_append ps qs)

-- behind an operation's parts
behind_parts : (nth : ℕ) (parts : List (ℕ × Op)) (rest : Acts) (last : ℕ) (backs : List (ℕ × ℕ)) → are_numbered last backs (numbered_parts nth parts ++ rest) ≡ true → (l : ℕ) × (are_numbered l backs rest ≡ true)
behind_parts nth [] rest last backs e = (last, e)
behind_parts nth (p ∷ parts) rest last backs e = behind_parts nth parts rest nth backs (and_parts (nat_le last nth) (are_numbered nth backs (numbered_parts nth parts ++ rest)) e).1

pub parts_number : (splits : List ℕ) (nth : ℕ) (ds : List Done) (as_ : List DoneAct) → ArePartsOf splits nth ds as_ → (last low : ℕ) (backs : List (ℕ × ℕ)) → low < nth → are_numbered last backs (numbered as_) ≡ true
    → are_numbered low backs (numbered_from nth ds) ≡ true
parts_number splits _ _ _ (no_act nth) last low backs l e = refl
parts_number splits _ _ _ (operation nth op answer ds here behind all is parts given more) last low backs l e =
    let f = subst (λ (as_ : Acts). are_numbered last backs as_ ≡ true) (ap numbered is ∙ numbered_append here behind ∙ ap (λ (as_ : Acts). as_ ++ numbered behind) parts) e in
    let b = behind_parts nth (parts_of splits op) (numbered behind) last backs f in
    and_from (nat_le low nth) (are_numbered nth backs (numbered_from (suc nth) ds)) (le-leb low nth (omega arith)) (parts_number splits (suc nth) ds behind more b.0 nth backs (omega arith) b.1)
parts_number splits _ _ _ (going_back nth upto ds behind more) last low backs l e =
    let both = and_parts (is_next last nth (GoesBack upto) backs) (are_numbered nth ((nth, upto) ∷ backs) (numbered behind)) e in
    let stands = (and_parts (nat_lt last nth) (stands_for_back nth upto backs) both.0).1 in
    and_from (nat_lt low nth && stands_for_back nth upto backs) (are_numbered nth ((nth, upto) ∷ backs) (numbered_from (suc nth) ds))
    (and_from (nat_lt low nth) (stands_for_back nth upto backs) (lt-ltb low nth l) stands) (parts_number splits (suc nth) ds behind more nth nth ((nth, upto) ∷ backs) (omega arith) both.1)
