-- What is kept of transactions that have a PREPARE.
use Rattle.std.proofs.Common.{◌≡◌, ◌⊎◌, inl, inr, refl, sym, ap, subst, ◌∙◌, ◌<◌, Bool, true, false, cond, ◌||◌, List, [], ◌∷◌, ◌++◌, Option, Some, None, append-nil, append_assoc, ℕ, ⊎_elim}
use Rattle.std.proofs.lemmas.Bool.{both_ways, cond-true, cond-false, or_cases, or_from}
use Rattle.std.proofs.lemmas.List.Folds.{list_any-append}
use Rattle.clv_base.specs.declared.changes.Change.{Change}
use Rattle.clv_base.specs.declared.changes.Change.TheVariants.{Sets, Adds}
use Rattle.clv_base.specs.OneShard.{update_of}
use Rattle.clv_base.specs.declared.names.TxId.{TxId}
use Rattle.clv_base.specs.declared.logs.LogRecord.{LogRecord}
use Rattle.clv_base.specs.declared.logs.LogRecord.TheVariants.{Update, Clr, Prepare, Commit, Abort, End, Restart, Add, Unadd, Forgotten, Check}
use Rattle.clv_base.specs.declared.state.Stage.TheVariants.{Active}
use Rattle.clv_base.specs.declared.state.Held.{Held}
use Rattle.clv_base.specs.Orders.{Table, tx_same, tx_in}
use Rattle.clv_base.specs.Logs.{is_prepare_of, is_commit_of, prepared_in, wrote_in, prepare_of, commit_lsn, prepare_lsn}
use Rattle.clv_base.specs.LogRules.{listed_in}
use Rattle.clv_base.proofs.SameNames.{or_left, tx_self}
use Rattle.law_base.specs.Items.{Item, Deed, Did, WentBack, held, Reaches}
use Rattle.law_base.proofs.Lists.{all_of}
use Rattle.law_base.proofs.Tables.{stage_in, is_pair}
use Rattle.law_base.proofs.Commits.{place_keeps}
use Rattle.protocol_laws.specs.Order.{Unprepared, Sealed}
use Rattle.shard_laws.specs.OneShard.{deeds_by_chosen}
use Rattle.shard_laws.proofs.Keeping.DeedsThatHold.{AllMet, met_mono, met_push, met_chosen}
use Rattle.clv_base.proofs.Folding.{or_left as or_false_left, or_right as or_false_right}

-- the PREPARE lists it, or its COMMIT stands before the PREPARE
abbrev pub IsListed : List LogRecord → TxId → TxId → Type 0
IsListed log t p = (tx_in p (listed_in log t) ≡ true) ⊎ ((n : ℕ) × (m : ℕ) × (commit_lsn log p ≡ Some n) × (prepare_lsn log t ≡ Some m) × (n < m))

abbrev pub Lists : List LogRecord → TxId → TxId → Type 0
Lists log t p = prepared_in log t ≡ true → IsListed log t p

-- what a prepared one reached, its PREPARE lists, or it was committed before
abbrev pub Listing : List LogRecord → Item → Item → Type 0
Listing log x y = Reaches x y → (x.tx ≡ y.tx) ⊎ Lists log y.tx x.tx

pub record Prepared (done : List Deed) (met : List (TxId × TxId)) (parts : Table Held) (log : List LogRecord) : Type 0 where
  -- an active part has none, and nothing is written behind one
  pub unprepared : (t : TxId) → stage_in parts t ≡ Some Active → prepared_in log t ≡ false
  pub sealed : Sealed [] log
  pub causes : AllMet (Listing log) done
  -- and so for whom it met
  pub recover : (t p : TxId) → is_pair met t p ≡ true → Lists log t p

-- the first PREPARE of a transaction is the one behind records that have none
pub prepare_here : (before rest : List LogRecord) (t : TxId) (home : ℕ) (ps : List TxId) → prepared_in before t ≡ false → prepare_of (before ++ Prepare t home ps ∷ rest) t ≡ Some (home, ps)
prepare_here [] rest t home ps e = cond-true (tx_same t t) (Some (home, ps)) (prepare_of rest t) (tx_self t)
prepare_here (Prepare tx h qs ∷ rs) rest t home ps e = cond-false (tx_same t tx) (Some (h, qs)) (prepare_of (rs ++ Prepare t home ps ∷ rest) t) (or_false_left _ _ e) ∙ prepare_here rs rest t home ps (or_false_right (tx_same t tx) _ e)
prepare_here (Update tx q b a ∷ rs) rest t home ps e = prepare_here rs rest t home ps e
prepare_here (Clr tx u q a ∷ rs) rest t home ps e = prepare_here rs rest t home ps e
prepare_here (Commit tx qs ∷ rs) rest t home ps e = prepare_here rs rest t home ps e
prepare_here (Abort tx ∷ rs) rest t home ps e = prepare_here rs rest t home ps e
prepare_here (End tx ∷ rs) rest t home ps e = prepare_here rs rest t home ps e
prepare_here (Restart run epoch ∷ rs) rest t home ps e = prepare_here rs rest t home ps e
prepare_here (Add tx q by ∷ rs) rest t home ps e = prepare_here rs rest t home ps e
prepare_here (Unadd tx u q by ∷ rs) rest t home ps e = prepare_here rs rest t home ps e
prepare_here (Forgotten ∷ rs) rest t home ps e = prepare_here rs rest t home ps e
prepare_here (Check run' epoch' upto base ∷ rs) rest t home ps e = prepare_here rs rest t home ps e

-- ---- more records

pub prepared_append : (log more : List LogRecord) (t : TxId) → prepared_in (log ++ more) t ≡ (prepared_in log t || prepared_in more t)
prepared_append log more t = list_any-append (is_prepare_of t) log more

pub unprepared_append : (log more : List LogRecord) (t : TxId) → prepared_in log t ≡ false → prepared_in more t ≡ false → prepared_in (log ++ more) t ≡ false
unprepared_append log more t e f = prepared_append log more t ∙ or_from _ _ e f

pub prepared_from : (log more : List LogRecord) (t : TxId) → prepared_in more t ≡ false → prepared_in (log ++ more) t ≡ true → prepared_in log t ≡ true
prepared_from log more t none e = ⊎_elim (λ h. h) (λ h. absurd (both_ways _ none h)) (or_cases (prepared_in log t) (prepared_in more t) (sym (prepared_append log more t) ∙ e))

keeps_case : (b : Bool) (x : ℕ × List TxId) (o p : Option (ℕ × List TxId)) (c : Bool) → (b || c) ≡ true → (c ≡ true → o ≡ p) → cond b (Some x) o ≡ cond b (Some x) p
keeps_case true x o p c e k = refl
keeps_case false x o p c e k = k e

pub prepare_keeps : (log more : List LogRecord) (t : TxId) → prepared_in log t ≡ true → prepare_of (log ++ more) t ≡ prepare_of log t
prepare_keeps [] more t e = absurd (both_ways false refl e)
prepare_keeps (Prepare tx home ps ∷ rs) more t e = keeps_case (tx_same t tx) (home, ps) (prepare_of (rs ++ more) t) (prepare_of rs t) (prepared_in rs t) e (prepare_keeps rs more t)
prepare_keeps (Update tx k b a ∷ rs) more t e = prepare_keeps rs more t e
prepare_keeps (Clr tx u k a ∷ rs) more t e = prepare_keeps rs more t e
prepare_keeps (Commit tx ps ∷ rs) more t e = prepare_keeps rs more t e
prepare_keeps (Abort tx ∷ rs) more t e = prepare_keeps rs more t e
prepare_keeps (End tx ∷ rs) more t e = prepare_keeps rs more t e
prepare_keeps (Restart run epoch ∷ rs) more t e = prepare_keeps rs more t e
prepare_keeps (Add tx k by ∷ rs) more t e = prepare_keeps rs more t e
prepare_keeps (Unadd tx u k by ∷ rs) more t e = prepare_keeps rs more t e
prepare_keeps (Forgotten ∷ rs) more t e = prepare_keeps rs more t e
prepare_keeps (Check run' epoch' upto base ∷ rs) more t e = prepare_keeps rs more t e

abbrev pub by_prepare : Option (ℕ × List TxId) → List TxId
by_prepare o = elim o [ Some p ↦ p.1 | None ↦ [] ]

pub listed_keeps : (log more : List LogRecord) (t : TxId) → prepared_in log t ≡ true → listed_in (log ++ more) t ≡ listed_in log t
listed_keeps log more t e = ap by_prepare (prepare_keeps log more t e)

pub is_listed_more : (log more : List LogRecord) (t p : TxId) → prepared_in log t ≡ true → IsListed log t p → IsListed (log ++ more) t p
is_listed_more log more t p e (inl i) = inl (ap (tx_in p) (listed_keeps log more t e) ∙ i)
is_listed_more log more t p e (inr (n, m, f, g, l)) = inr (n, m, place_keeps 0 (is_commit_of p) log more n f, place_keeps 0 (is_prepare_of t) log more m g, l)

pub lists_more : (log more : List LogRecord) (t p : TxId) → prepared_in more t ≡ false → Lists log t p → Lists (log ++ more) t p
lists_more log more t p none l e = let old = prepared_from log more t none e in is_listed_more log more t p old (l old)

pub sealed_append : (before xs ys : List LogRecord) → Sealed before xs → Sealed (before ++ xs) ys → Sealed before (xs ++ ys)
sealed_append before [] ys t u = subst (λ l. Sealed l ys) (append-nil before) u
sealed_append before (x ∷ xs) ys t u = (t.0, sealed_append (before ++ x ∷ []) xs ys t.1 (subst (λ l. Sealed l ys) (sym (append_assoc before (x ∷ []) xs)) u))

no_update : (before : List LogRecord) (r : LogRecord) (rs : List LogRecord) → ((t : TxId) → wrote_in (r ∷ rs) t ≡ false) → ((t : TxId) → prepared_in (r ∷ rs) t ≡ false) → Unprepared before r
no_update before (Update tx k b a) rs none unp = absurd (both_ways _ (none tx) (or_left (tx_same tx tx) (wrote_in rs tx) (tx_self tx)))
no_update before (Add tx k by) rs none unp = absurd (both_ways _ (none tx) (or_left (tx_same tx tx) (wrote_in rs tx) (tx_self tx)))
no_update before (Prepare tx home ps) rs none unp = absurd (both_ways _ (unp tx) (or_left (tx_same tx tx) (prepared_in rs tx) (tx_self tx)))
no_update before _ rs none unp = tt

sealed_none : (before rs : List LogRecord) → ((t : TxId) → wrote_in rs t ≡ false) → ((t : TxId) → prepared_in rs t ≡ false) → Sealed before rs
sealed_none before [] none unp = tt
sealed_none before (r ∷ rs) none unp = (no_update before r rs none unp, sealed_none (before ++ r ∷ []) rs (λ t. or_false_right _ (wrote_in rs t) (none t)) (λ t. or_false_right _ (prepared_in rs t) (unp t)))

pub sealed_more : (log more : List LogRecord) → Sealed [] log → ((t : TxId) → wrote_in more t ≡ false) → ((t : TxId) → prepared_in more t ≡ false) → Sealed [] (log ++ more)
sealed_more log more s none unp = sealed_append [] log more s (sealed_none log more none unp)

pub sealed_later : (before xs ys : List LogRecord) → Sealed before (xs ++ ys) → Sealed (before ++ xs) ys
sealed_later before [] ys t = subst (λ l. Sealed l ys) (sym (append-nil before)) t
sealed_later before (x ∷ xs) ys t = subst (λ l. Sealed l ys) (append_assoc before (x ∷ []) xs) (sealed_later (before ++ x ∷ []) xs ys t.1)

listing_more : (log more : List LogRecord) → ((t : TxId) → prepared_in more t ≡ false) → (x y : Item) → Listing log x y → Listing (log ++ more) x y
listing_more log more np x y h r = ⊎_elim (λ s. inl s) (λ l. inr (lists_more log more y.tx x.tx (np y.tx) l)) (h r)

pub prepared_more : (done : List Deed) (met : List (TxId × TxId)) (parts : Table Held) (log more : List LogRecord) → Prepared done met parts log → ((t : TxId) → wrote_in more t ≡ false) → ((t : TxId) → prepared_in more t ≡ false) → Prepared done met parts (log ++ more)
prepared_more done met parts log more k nw np = record {
  unprepared = λ t a. unprepared_append log more t (k.unprepared t a) (np t);
  sealed = sealed_more log more k.sealed nw np;
  causes = met_mono _ _ (listing_more log more np) done k.causes;
  recover = λ t p e. lists_more log more t p (np t) (k.recover t p e);
}

pub prepared_parts : (done : List Deed) (met : List (TxId × TxId)) (parts parts2 : Table Held) (log : List LogRecord) → Prepared done met parts log → ((t : TxId) → stage_in parts2 t ≡ Some Active → stage_in parts t ≡ Some Active) → Prepared done met parts2 log
prepared_parts done met parts parts2 log k back = record { unprepared = λ t a. k.unprepared t (back t a); sealed = k.sealed; causes = k.causes; recover = k.recover }

pub prepared_kept : (f : TxId → Bool) (done : List Deed) (met : List (TxId × TxId)) (parts : Table Held) (log : List LogRecord) → Prepared done met parts log → Prepared (deeds_by_chosen f done) met parts log
prepared_kept f done met parts log k = record { unprepared = k.unprepared; sealed = k.sealed; causes = met_mono _ _ (λ x y h. h.0) (deeds_by_chosen f done) (met_chosen _ f done k.causes); recover = k.recover }

-- a deed more, of which nothing is said
pub prepared_back : (done : List Deed) (met : List (TxId × TxId)) (parts : Table Held) (log : List LogRecord) (tx : TxId) (number upto : ℕ) → Prepared done met parts log → Prepared (done ++ WentBack tx number upto ∷ []) met parts log
prepared_back done met parts log tx number upto k = record { unprepared = k.unprepared; sealed = k.sealed; causes = met_push (Listing log) done (WentBack tx number upto) k.causes tt; recover = k.recover }

-- an operation more of one that has none, and what it violated
pub prepared_item :
    (done : List Deed) (met met2 : List (TxId × TxId)) (parts parts2 : Table Held) (log : List LogRecord) (item : Item) → Prepared done met parts log → prepared_in log item.tx ≡ false
    → ((t : TxId) → stage_in parts2 t ≡ Some Active → (t ≡ item.tx) ⊎ (stage_in parts t ≡ Some Active)) → ((t p : TxId) → is_pair met2 t p ≡ true → (t ≡ item.tx) ⊎ (is_pair met t p ≡ true)) → Prepared (done ++ Did item ∷ []) met2 parts2 log
prepared_item done met met2 parts parts2 log item k new active meets = record {
  unprepared = λ t a. ⊎_elim (λ s. ap (prepared_in log) s ∙ new) (λ b. k.unprepared t b) (active t a);
  sealed = k.sealed;
  causes = met_push (Listing log) done (Did item) k.causes (all_of (λ x. Listing log x item) (λ x r. inr (λ e. absurd (both_ways _ new e))) (held done));
  recover = λ t p m. ⊎_elim (λ s e. absurd (both_ways _ (ap (prepared_in log) s ∙ new) e)) (λ old. k.recover t p old) (meets t p m);
}

-- and its UPDATE or ADD
pub prepared_update : (done : List Deed) (met : List (TxId × TxId)) (parts : Table Held) (log : List LogRecord) (tx : TxId) (key : ℕ) (change : Change) → Prepared done met parts log → prepared_in log tx ≡ false → Prepared done met parts (log ++ update_of tx key change ∷ [])
prepared_update done met parts log tx key (Sets before after) k new = record {
  unprepared = λ t a. unprepared_append log (Update tx key before after ∷ []) t (k.unprepared t a) refl;
  sealed = sealed_append [] log (Update tx key before after ∷ []) k.sealed (new, tt);
  causes = met_mono _ _ (listing_more log (Update tx key before after ∷ []) (λ t. refl)) done k.causes;
  recover = λ t p e. lists_more log (Update tx key before after ∷ []) t p refl (k.recover t p e);
}
prepared_update done met parts log tx key (Adds by) k new = record {
  unprepared = λ t a. unprepared_append log (Add tx key by ∷ []) t (k.unprepared t a) refl;
  sealed = sealed_append [] log (Add tx key by ∷ []) k.sealed (new, tt);
  causes = met_mono _ _ (listing_more log (Add tx key by ∷ []) (λ t. refl)) done k.causes;
  recover = λ t p e. lists_more log (Add tx key by ∷ []) t p refl (k.recover t p e);
}
