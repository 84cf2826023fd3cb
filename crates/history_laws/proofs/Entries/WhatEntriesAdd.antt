-- What an entry adds to the lists of a history.
use Rattle.std.proofs.Common.{◌≡◌, ⊎_elim, refl, sym, ap, ◌∙◌, ℕ, ◌+◌, true, false, cond, Bool, List, [], ◌∷◌, ◌++◌, map, Option, Some, None, ◌&&◌, ◌||◌, length, append-nil}
use Rattle.std.proofs.lemmas.Bool.{both_ways, and_parts, or_cases}
use Rattle.std.proofs.lemmas.List.Folds.{list_any-append}
use Rattle.std.proofs.lemmas.List.Elements.{filter-append}
use Rattle.clv_base.specs.declared.names.TxId.{TxId}
use Rattle.clv_base.specs.declared.names.Birth.{Birth}
use Rattle.clv_base.specs.declared.ops.Op.{Op}
use Rattle.clv_base.specs.declared.ops.Answer.{Answer}
use Rattle.clv_base.specs.declared.events.Event.{Event}
use Rattle.clv_base.specs.declared.events.Event.TheVariants.{Op as OpEvent, RollTo, Look}
use Rattle.clv_base.specs.declared.events.Outcome.{Outcome}
use Rattle.clv_base.specs.declared.events.Outcome.TheVariants.{Answered, Rolled, Acknowledged}
use Rattle.clv_base.specs.declared.events.Entry.{Entry}
use Rattle.clv_base.specs.Orders.{tx_same, tx_in}
use Rattle.clv_base.specs.OneShard.{violated_here}
use Rattle.clv_base.specs.Maps.{Operates, GoesBack}
use Rattle.clv_base.specs.State.{Shard}
use Rattle.clv_base.specs.Journals.{History}
use Rattle.clv_base.specs.History.{DoneAct, is_acknowledgement, acknowledged_in, act_of}
use Rattle.clv_base.proofs.SameNames.{tx_true}
use Rattle.law_base.specs.Items.{Deed, Did, WentBack}
use Rattle.law_base.proofs.Sets.{same_flip}
use Rattle.shard_laws.specs.OneShard.{doer, deeds_of, with_one, new_deed, new_met, has_met, new_told}
use Rattle.history_laws.specs.Telling.{told_in, told_by}
use Rattle.law_base.proofs.Lists.{map_append}

pub with_none : {X : Type 0} (xs : List X) (o : Option X) → with_one xs o ≡ xs ++ with_one [] o
with_none xs None = sym (append-nil xs)
with_none xs (Some x) = refl

-- what an entry tells, before what the later ones tell
abbrev pub with_told : Option DoneAct → List DoneAct → List DoneAct
with_told o ps = elim o as (λ z. List DoneAct) [ Some p ↦ p ∷ ps | None ↦ ps ]

told_more : (o : Option DoneAct) (ps qs : List DoneAct) → with_told o (ps ++ qs) ≡ with_told o ps ++ qs
told_more None ps qs = refl
told_more (Some p) ps qs = refl

pub told_append : (t : TxId) (xs ys : History) → told_in t (xs ++ ys) ≡ told_in t xs ++ told_in t ys
told_append t [] ys = refl
told_append t (x ∷ xs) ys = ap (with_told (act_of t (x.1).event (x.1).outcome)) (told_append t xs ys) ∙ told_more (act_of t (x.1).event (x.1).outcome) (told_in t xs) (told_in t ys)

-- what the entry adds to what was done
one_deed : (s : Shard) (e : Event) (o : Outcome) (t : TxId) → with_told (act_of t e o) [] ≡ map told_by (deeds_of t (with_one [] (new_deed s e o)))
one_deed s (OpEvent tx birth nth seen op) (Answered a n) t = at (tx_same t tx) (tx_same tx t) (same_flip t tx)
  where
    it : Deed
    it = Did (record { tx = tx; number = nth; op = op; answer = a; lsn = 0 + length s.local.log })

    at : (b c : Bool) → b ≡ c → with_told (cond b (Some (nth, Operates op, Some a)) None) [] ≡ map told_by (cond c (it ∷ []) [])
    at true true e = refl
    at true false e = absurd (both_ways true e refl)
    at false true e = absurd (both_ways true (sym e) refl)
    at false false e = refl
one_deed s (OpEvent tx birth nth seen op) _ t = refl
one_deed s (RollTo tx nth seen upto) Rolled t = at (tx_same t tx) (tx_same tx t) (same_flip t tx)
  where
    at : (b c : Bool) → b ≡ c → with_told (cond b (Some (nth, GoesBack upto, None)) None) [] ≡ map told_by (cond c (WentBack tx nth upto ∷ []) [])
    at true true e = refl
    at true false e = absurd (both_ways true e refl)
    at false true e = absurd (both_ways true (sym e) refl)
    at false false e = refl
one_deed s (RollTo tx nth seen upto) _ t = refl
one_deed s _ o t = refl

pub deeds_next : (n : ℕ) (pre : History) (x : Entry) (s : Shard) (all : List Deed) (t : TxId) → told_in t pre ≡ map told_by (deeds_of t all)
    → told_in t (pre ++ (n, x) ∷ []) ≡ map told_by (deeds_of t (with_one all (new_deed s x.event x.outcome)))
deeds_next n pre x s all t e =
    told_append t pre ((n, x) ∷ [])
    ∙ ap (λ l. l ++ told_in t ((n, x) ∷ [])) e
    ∙ ap (λ l. map told_by (deeds_of t all) ++ l) (one_deed s x.event x.outcome t)
    ∙ sym (map_append told_by (deeds_of t all) (deeds_of t (with_one [] (new_deed s x.event x.outcome))))
    ∙ ap (map told_by) (sym (filter-append (λ d. tx_same (doer d) t) all (with_one [] (new_deed s x.event x.outcome))))
    ∙ ap (λ l. map told_by (deeds_of t l)) (sym (with_none all (new_deed s x.event x.outcome)))

-- what it adds to those that are told
one_told : (e : Event) (o : Outcome) (t : TxId) → tx_in t (with_one [] (new_told e o)) ≡ (is_acknowledgement t e o || false)
one_told (Look tx) Acknowledged t = ap (λ b. b || false) (same_flip tx t)
one_told _ o t = refl

pub told_next : (pre : History) (x : Entry) (told : List TxId) (t : TxId) → tx_in t told ≡ acknowledged_in pre t → tx_in t (with_one told (new_told x.event x.outcome)) ≡ acknowledged_in (pre ++ (0, x) ∷ []) t
told_next pre x told t e =
    ap (tx_in t) (with_none told (new_told x.event x.outcome))
    ∙ list_any-append (λ y. tx_same y t) told (with_one [] (new_told x.event x.outcome))
    ∙ ap (λ b. b || tx_in t (with_one [] (new_told x.event x.outcome))) e
    ∙ ap (λ b. acknowledged_in pre t || b) (one_told x.event x.outcome t)
    ∙ sym (list_any-append (λ y. is_acknowledgement t (y.1).event (y.1).outcome) pre ((0, x) ∷ []))

-- whose meetings it adds
mapped_met : (tx t p : TxId) (ps : List TxId) → has_met (map (λ q. (tx, q)) ps) t p ≡ true → t ≡ tx
mapped_met tx t p [] e = absurd (both_ways false refl e)
mapped_met tx t p (q ∷ qs) e = ⊎_elim (λ a. tx_true t tx (and_parts (tx_same t tx) (tx_same p q) a).0) (λ a. mapped_met tx t p qs a) (or_cases (tx_same t tx && tx_same p q) (has_met (map (λ q. (tx, q)) qs) t p) e)

pub one_met : (s : Shard) (e : Event) (o : Outcome) (t p : TxId) → has_met (new_met s e o) t p ≡ true
    → (birth : Birth) × (nth : ℕ) × (seen : Option ℕ) × (op : Op) × (a : Answer) × (n : ℕ) × (e ≡ OpEvent t birth nth seen op) × (o ≡ Answered a n)
one_met s (OpEvent tx birth nth seen op) (Answered a n) t p e =
    let q : t ≡ tx = mapped_met tx t p (violated_here s.local tx op) e in
    (birth, nth, seen, op, a, n, ap (λ z. OpEvent z birth nth seen op) (sym q), refl)
one_met s (OpEvent tx birth nth seen op) _ t p e = absurd (both_ways false refl e)
one_met s _ o t p e = absurd (both_ways false refl e)
