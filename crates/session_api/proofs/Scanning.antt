-- The entries of a scan.
use Rattle.std.proofs.Common.{◌≡◌, ◌≢◌, ◌∙◌, refl, sym, ap, subst, ℕ, zero, suc, ◌+◌, ◌-◌, ◌<◌, ◌≤◌, ◌^◌, Bool, true, false, cond, max, min, nat_le, nat_lt, ◌||◌, ◌==◌, List, [], ◌∷◌, ◌++◌, append_assoc, append-nil, length, Option, Some, None, Result, Ok, Err, inl, inr, arith, eqb-true, eq-eqb}
use Rattle.std.specs.Prelude.{◌⊎◌, IsTrue}
use Rattle.std.specs.Map.{lookup}
use Rattle.std.proofs.lemmas.Bool.{both_ways, and_parts, leb-true, ltb-true, le-leb}
use Rattle.std.proofs.lemmas.List.Folds.{list_any-append}
use Rattle.clv_base.specs.declared.values.Value.{Value as ValueType}
use Rattle.clv_base.specs.declared.names.TxId.{TxId}
use Rattle.clv_base.specs.declared.names.Birth.{Birth}
use Rattle.clv_base.specs.declared.names.Point.{Point}
use Rattle.clv_base.specs.declared.ops.Op.{Op as Operation}
use Rattle.clv_base.specs.declared.ops.Op.TheVariants.{Scan}
use Rattle.clv_base.specs.declared.ops.Answer.{Answer}
use Rattle.clv_base.specs.declared.ops.Answer.TheVariants.{Value, Pairs, Added}
use Rattle.clv_base.specs.declared.events.Event.TheVariants.{Op}
use Rattle.clv_base.specs.declared.events.Outcome.{Outcome}
use Rattle.clv_base.specs.declared.events.Outcome.TheVariants.{Answered, Dead}
use Rattle.clv_base.specs.declared.events.Entry.{Entry}
use Rattle.clv_base.specs.Journals.{History}
use Rattle.clv_base.specs.Shards.{shard_of, shard_count, span, lies_within, in_span, are_splits}
use Rattle.clv_base.specs.Sessions.{SessionState, lies_in}
use Rattle.clv_base.proofs.Spans.{span_keys}
use Rattle.clv_base.proofs.SameNames.{or_left, or_right}
use Rattle.cluster_turns.specs.Dates.{IsDated}
use Rattle.cluster_turns.specs.declared.shards.Shards.{Shards}
use Rattle.cluster_turns.specs.declared.shards.Walker.{Walker}
use Rattle.cluster_turns.specs.Walkers.{IsSameWalker, kept}
use Rattle.session_ops.specs.declared.operating.OpError.{OpError}
use Rattle.session_ops.specs.declared.operating.OpError.TheVariants as op
use Rattle.session_ops.specs.Operated.{PlacedBy}
use Rattle.session_ops.specs.Parts.{has_died}
use Rattle.session_ops.specs.Scanned.{part_within, part_on}
use Rattle.session_ops.specs.Stepped.{all_pairs, PartMade, PartsMade, no_shard, passed_by, one_part, Fails, PartFailed, PartsTold}
use Rattle.script_runs.specs.Operations.{scan_within, part_at, scan_parts, pairs_of, IsPart, ArePartsAnswered, no_part, part, IsBegun}
use Rattle.script_runs.specs.Sessions.{session_entries}
use Rattle.script_runs.specs.Tries.{is_touched}
use Rattle.script_runs.specs.Seen.{Standing, Idle, Active, AreStamped, Grows}
use Rattle.script_runs.proofs.Laws.{stamped_on}
use Rattle.script_runs.specs.Told.{AreDropsOf, TouchesBy, TouchesJust, IsUnanswered, OperateTold}
use Rattle.session_api.specs.Seeing.{seen_as, touched_in, is_active, unless_dead, pairs_end}
use Rattle.session_api.specs.ToldLaws.{ScansTell}
use Rattle.session_api.proofs.Following.{made_in, made_in_more}
use Rattle.session_api.proofs.ToldOperating.{IsLastOn, EntriesBy}
use Rattle.session_api.proofs.Pointing.{touches_just_one, touches_just_none, touches_none, seen_grows, asked_entries, others_drop, made_asking}
use Rattle.law_base.proofs.Lists.{is_shard}

-- ---- parts

pub part_is : (splits : List ℕ) (n lo hi : ℕ) (x : ℕ × ℕ) → part_on splits n lo hi ≡ Some x → part_at n (scan_within lo hi (span splits n)) ≡ (n, Scan x.0 x.1) ∷ []
part_is splits n lo hi x h = at (span splits n) h
  where
    within : (b : Bool) (s : ℕ × ℕ) → cond b (Some (max lo s.0, min hi s.1)) None ≡ Some x → part_at n (cond b (Some (Scan (max lo s.0) (min hi s.1))) None) ≡ (n, Scan x.0 x.1) ∷ []
    within true s k = let same : (max lo s.0, min hi s.1) ≡ x = cc in ap (λ (y : ℕ × ℕ). (n, Scan y.0 y.1) ∷ []) same
    within false s k = absurd cc

    at : (o : Option (ℕ × ℕ)) → part_within lo hi o ≡ Some x → part_at n (scan_within lo hi o) ≡ (n, Scan x.0 x.1) ∷ []
    at None k = absurd cc
    at (Some s) k = within (nat_le (max lo s.0) (min hi s.1)) s k

pub part_none : (splits : List ℕ) (n lo hi : ℕ) → part_on splits n lo hi ≡ None → part_at n (scan_within lo hi (span splits n)) ≡ []
part_none splits n lo hi h = at (span splits n) h
  where
    within : (b : Bool) (s : ℕ × ℕ) → ◌≡◌ {A = Option (ℕ × ℕ)} (cond b (Some (max lo s.0, min hi s.1)) None) None → part_at n (cond b (Some (Scan (max lo s.0) (min hi s.1))) None) ≡ []
    within true s k = absurd cc
    within false s k = refl

    at : (o : Option (ℕ × ℕ)) → part_within lo hi o ≡ None → part_at n (scan_within lo hi o) ≡ []
    at None k = refl
    at (Some s) k = within (nat_le (max lo s.0) (min hi s.1)) s k

pub parts_split : (splits : List ℕ) (lo hi a i k : ℕ) → scan_parts splits lo hi a (i + k) ≡ scan_parts splits lo hi a i ++ scan_parts splits lo hi (a + i) k
parts_split splits lo hi a zero k =
    ap (scan_parts splits lo hi a) (let e : 0 + k ≡ k = omega arith in e) ∙ ap (λ b. scan_parts splits lo hi b k) (let e : a ≡ a + 0 = omega arith in e)
parts_split splits lo hi a (suc i) k =
    ap (scan_parts splits lo hi a) (let e : suc i + k ≡ suc (i + k) = omega arith in e)
    ∙ ap (λ l. part_at a (scan_within lo hi (span splits a)) ++ l) (parts_split splits lo hi (suc a) i k ∙ ap (λ b. scan_parts splits lo hi (suc a) i ++ scan_parts splits lo hi b k) (let e : suc a + i ≡ a + suc i = omega arith in e))
    ∙ sym (append_assoc (part_at a (scan_within lo hi (span splits a))) (scan_parts splits lo hi (suc a) i) (scan_parts splits lo hi (a + suc i) k))

-- up to a shard, and with it
pub parts_upto : (splits : List ℕ) (lo hi n : ℕ) → scan_parts splits lo hi 0 (suc n) ≡ scan_parts splits lo hi 0 n ++ part_at n (scan_within lo hi (span splits n))
parts_upto splits lo hi n =
    ap (scan_parts splits lo hi 0) (let e : suc n ≡ n + 1 = omega arith in e) ∙ parts_split splits lo hi 0 n 1
    ∙ ap (λ b. scan_parts splits lo hi 0 n ++ scan_parts splits lo hi b 1) (let e : 0 + n ≡ n = omega arith in e)
    ∙ ap (λ l. scan_parts splits lo hi 0 n ++ l) (append-nil (part_at n (scan_within lo hi (span splits n))))

-- the shards behind it
pub parts_behind : (splits : List ℕ) (lo hi n count : ℕ) → n < count → scan_parts splits lo hi 0 count ≡ scan_parts splits lo hi 0 (suc n) ++ scan_parts splits lo hi (suc n) (count - suc n)
parts_behind splits lo hi n count below =
    ap (scan_parts splits lo hi 0) (let e : count ≡ suc n + (count - suc n) = omega arith in e) ∙ parts_split splits lo hi 0 (suc n) (count - suc n)
    ∙ ap (λ b. scan_parts splits lo hi 0 (suc n) ++ scan_parts splits lo hi b (count - suc n)) (let e : 0 + suc n ≡ suc n = omega arith in e)

parts_at : (splits : List ℕ) (lo hi n count : ℕ) (x : ℕ × ℕ) → n < count → part_on splits n lo hi ≡ Some x
    → scan_parts splits lo hi 0 count ≡ scan_parts splits lo hi 0 n ++ (n, Scan x.0 x.1) ∷ scan_parts splits lo hi (suc n) (count - suc n)
parts_at splits lo hi n count x below is =
    parts_behind splits lo hi n count below
    ∙ ap (λ l. l ++ scan_parts splits lo hi (suc n) (count - suc n)) (parts_upto splits lo hi n ∙ ap (λ l. scan_parts splits lo hi 0 n ++ l) (part_is splits n lo hi x is))
    ∙ append_assoc (scan_parts splits lo hi 0 n) ((n, Scan x.0 x.1) ∷ []) (scan_parts splits lo hi (suc n) (count - suc n))

pub parts_push : (tx : TxId) (birth : Birth) (nth : ℕ) (parts : List (ℕ × Operation)) (answers : List Answer) (es : History) (x : ℕ × Operation) (answer : Answer) (epoch : ℕ) (e : ℕ × Entry) → ArePartsAnswered tx birth nth parts answers es
    → IsPart tx birth nth x (Answered answer epoch) e → ArePartsAnswered tx birth nth (parts ++ x ∷ []) (answers ++ answer ∷ []) (es ++ e ∷ [])
parts_push tx birth nth _ _ _ x answer epoch e no_part is = part x answer epoch e [] [] [] is no_part
parts_push tx birth nth _ _ _ x answer epoch e (part y a ep f parts answers es first more) is =
    part y a ep f (parts ++ x ∷ []) (answers ++ answer ∷ []) (es ++ e ∷ []) first (parts_push tx birth nth parts answers es x answer epoch e more is)

pairs_are : (answers : List Answer) → all_pairs answers ≡ pairs_of answers
pairs_are [] = refl
pairs_are (Value v ∷ answers) = pairs_are answers
pairs_are (Pairs ps ∷ answers) = ap (λ l. ps ++ l) (pairs_are answers)
pairs_are (Added found ∷ answers) = pairs_are answers

-- ---- a range meets a shard, and each of its parts no other

within_hi : (lo hi : ℕ) (o : Option (ℕ × ℕ)) (x : ℕ × ℕ) → part_within lo hi o ≡ Some x → (x.0 ≤ x.1) × (x.1 ≤ hi)
within_hi lo hi None x h = absurd cc
within_hi lo hi (Some s) x h = at (nat_le (max lo s.0) (min hi s.1)) refl h
  where
    at : (b : Bool) → nat_le (max lo s.0) (min hi s.1) ≡ b → cond b (Some (max lo s.0, min hi s.1)) None ≡ Some x → (x.0 ≤ x.1) × (x.1 ≤ hi)
    at true is k =
        let same : (max lo s.0, min hi s.1) ≡ x = cc in
        let l = leb-true (max lo s.0) (min hi s.1) is in
        subst (λ (y : ℕ × ℕ). (y.0 ≤ y.1) × (y.1 ≤ hi)) same (l, omega arith)
    at false is k = absurd cc

only_there : (splits : List ℕ) (n lo hi : ℕ) → IsTrue (are_splits splits) → lo < 2 ^ 64 → lies_in splits n (Scan lo hi) ≡ true → IsLastOn splits n (Scan lo hi)
only_there splits n lo hi rise small h m k =
    let here : n ≡ shard_of splits lo = sym (eqb-true (shard_of splits lo) n (sym (span_keys splits n lo rise small) ∙ (and_parts (in_span splits n lo) (in_span splits n hi) h).0)) in
    let there : m ≡ shard_of splits lo = sym (eqb-true (shard_of splits lo) m (sym (span_keys splits m lo rise small) ∙ (and_parts (in_span splits m lo) (in_span splits m hi) k).0)) in
    ap (λ z. nat_lt n z) (there ∙ sym here) ∙ not_less n
  where
    not_less : (n : ℕ) → nat_lt n n ≡ false
    not_less n = at (nat_lt n n) refl
      where
        at : (b : Bool) → nat_lt n n ≡ b → b ≡ false
        at true is = absurd (let l = ltb-true n n is in let never : ⊥ = omega arith in never)
        at false is = refl

-- ---- touched shards

then_touches : (es fs : History) (before middle after : ℕ → Bool) → TouchesBy before es middle → TouchesBy middle fs after → TouchesBy before (es ++ fs) after
then_touches es fs before middle after a b k h = at (b k h)
  where
    behind : (is_touched es k || is_touched fs k) ≡ true → is_touched (es ++ fs) k ≡ true
    behind t = list_any-append (λ e. e.0 == k) es fs ∙ t

    first : (before k ≡ true) ⊎ (is_touched es k ≡ true) → (before k ≡ true) ⊎ (is_touched (es ++ fs) k ≡ true)
    first (inl t) = inl t
    first (inr t) = inr (behind (or_left (is_touched es k) (is_touched fs k) t))

    at : (middle k ≡ true) ⊎ (is_touched fs k ≡ true) → (before k ≡ true) ⊎ (is_touched (es ++ fs) k ≡ true)
    at (inl t) = first (a k t)
    at (inr t) = inr (behind (or_right (is_touched es k) (is_touched fs k) t))

then_touches_just : (es fs : History) (before middle after : ℕ → Bool) → TouchesJust before es middle → TouchesJust middle fs after → TouchesJust before (es ++ fs) after
then_touches_just es fs before middle after a b = record {
  only = then_touches es fs before middle after a.only b.only;
  stay = λ k h. b.stay k (a.stay k h);
  new = λ k h. at k (either (is_touched es k) (is_touched fs k) (sym (list_any-append (λ e. e.0 == k) es fs) ∙ h));
}
  where
    either : (x y : Bool) → (x || y) ≡ true → (x ≡ true) ⊎ (y ≡ true)
    either true y h = inl refl
    either false y h = inr h

    at : (k : ℕ) → (is_touched es k ≡ true) ⊎ (is_touched fs k ≡ true) → after k ≡ true
    at k (inl t) = b.stay k (a.new k t)
    at k (inr t) = b.new k t

-- ---- the parts so far

module _ {M S G : Type 0} (sh : Shards M S G) (asked : Point) (birth : Birth) (lo hi : ℕ) (w : Walker M S G) (p : SessionState) (rise : IsTrue (are_splits sh.splits)) (small : hi < 2 ^ 64) (has : p.birth ≡ Some birth) where
  pub record SoFar (n : ℕ) (answers : List Answer) (u : Walker M S G) (m : SessionState) : Type 0 where
    pub es : History
    pub entries : session_entries (kept u.passes.items) ≡ session_entries (kept w.passes.items) ++ es
    pub same : IsSameWalker w u
    pub clock : w.clock ≤ u.clock
    pub stamped : AreStamped w.clock u.clock es
    pub dated : IsDated w.clock w.passes.items u.clock u.passes.items
    pub parts : ArePartsAnswered p.tx birth (suc p.nth) (scan_parts sh.splits lo hi 0 n) answers es
    pub touches : TouchesJust (touched_in p.touched) es (touched_in m.touched)
    pub tx : m.tx ≡ p.tx
    pub born : m.birth ≡ Some birth
    pub numbered : (answers ≡ []) ⊎ (m.nth ≡ suc p.nth)

  -- one part more
  module _ (n : ℕ) (x : ℕ × ℕ) (answers : List Answer) (u v : Walker M S G) (m q : SessionState) (s : SoFar n answers u m) (meets : part_on sh.splits n lo hi ≡ Some x) where
    its_entries : (answer : Result Answer OpError) (made : PartMade sh birth (p.nth + 1) n x u m answer v q) → EntriesBy n (Op m.tx birth (p.nth + 1) (lookup (◌==◌ n) m.touched) (Scan x.0 x.1)) answer (made_in made.turns.asking)
    its_entries answer made =
        let bounds = within_hi lo hi (span sh.splits n) x meets in
        asked_entries sh u v n (p.nth + 1) birth (Scan x.0 x.1) m q answer made.active s.born made.same.0 (λ k l. only_there sh.splits k x.0 x.1 rise (omega arith) l) made.turns made.place made.stands

    its_part : (y : Entry) (o : Outcome) → y.event ≡ Op m.tx birth (p.nth + 1) (lookup (◌==◌ n) m.touched) (Scan x.0 x.1) → y.outcome ≡ o → IsPart p.tx birth (suc p.nth) (n, Scan x.0 x.1) o (n, y)
    its_part y o event outcome = record {
      shard = refl;
      seen = lookup (◌==◌ n) m.touched;
      event =
          event ∙ ap (λ t. Op t birth (p.nth + 1) (lookup (◌==◌ n) m.touched) (Scan x.0 x.1)) s.tx
          ∙ ap (λ k. Op p.tx birth k (lookup (◌==◌ n) m.touched) (Scan x.0 x.1)) (let e : p.nth + 1 ≡ suc p.nth = omega arith in e);
      outcome = outcome;
    }

    -- all entries then
    grown : (answer : Result Answer OpError) (made : PartMade sh birth (p.nth + 1) n x u m answer v q) (en : Standing) (fs : History) → made_in (made.turns.asking ++ made.turns.leaving) ≡ fs → Grows (s.es ++ fs) (seen_as sh w asked (is_active p birth)) (seen_as sh v asked en)
    grown answer made en fs is =
        let g = seen_grows sh u v asked asked (is_active p birth) en (made.turns.asking ++ made.turns.leaving) made.same made.turns.took in
        let c = g.clock_rises in
        let old = s.clock in
        let k = s.same.1 in
        let l = made.same.1 in
        record {
          splits_are = refl;
          run_is = refl;
          walker_is = made.same.0 ∙ s.same.0;
          entries_are = g.entries_are ∙ ap (λ l. l ++ made_in (made.turns.asking ++ made.turns.leaving)) s.entries ∙ append_assoc (session_entries (kept w.passes.items)) s.es (made_in (made.turns.asking ++ made.turns.leaving))
              ∙ ap (λ l. session_entries (kept w.passes.items) ++ (s.es ++ l)) is;
          clock_rises = (omega arith);
          serial_is = (omega arith);
          latest_rises = (let a = s.dated.0 in let b = g.latest_rises in omega arith);
          dated = (let a = s.dated.1 in let b = g.dated in let l = g.latest_rises in omega arith);
          stamped = stamped_on s.es fs w.clock u.clock v.clock s.clock g.clock_rises s.stamped (subst (AreStamped u.clock v.clock) is g.stamped);
        }

    quiet_makes : (answer : Result Answer OpError) (made : PartMade sh birth (p.nth + 1) n x u m answer v q) (fs : History) → has_died answer ≡ false → made_in made.turns.asking ≡ fs → made_in (made.turns.asking ++ made.turns.leaving) ≡ fs
    quiet_makes answer made fs not_so is = made_asking sh u v (length sh.locks.items) n m (Op m.tx birth (p.nth + 1) (lookup (◌==◌ n) m.touched) (Scan x.0 x.1)) answer made.turns not_so ∙ is

    with_part : (answer : Answer) → PartMade sh birth (p.nth + 1) n x u m (Ok answer) v q → SoFar (suc n) (answers ++ answer ∷ []) v q
    with_part answer made = at (its_entries (Ok answer) made) made.place
      where
        at : EntriesBy n (Op m.tx birth (p.nth + 1) (lookup (◌==◌ n) m.touched) (Scan x.0 x.1)) (Ok answer) (made_in made.turns.asking) → PlacedBy n (p.nth + 1) (Scan x.0 x.1) m (Ok (Some answer)) q → SoFar (suc n) (answers ++ answer ∷ []) v q
        at (y, epoch, is, event, outcome, fits) (epoch', place) =
            let g = grown (Ok answer) made (is_active q birth) ((n, y) ∷ []) (quiet_makes (Ok answer) made ((n, y) ∷ []) refl is) in
            record {
              es = s.es ++ (n, y) ∷ [];
              entries = g.entries_are;
              same = (made.same.0 ∙ s.same.0, made.same.1 ∙ s.same.1);
              clock = g.clock_rises;
              stamped = g.stamped;
              dated = (g.latest_rises, (let d = g.dated in omega arith));
              parts =
                  subst (λ l. ArePartsAnswered p.tx birth (suc p.nth) l (answers ++ answer ∷ []) (s.es ++ (n, y) ∷ [])) (sym (parts_upto sh.splits lo hi n ∙ ap (λ l. scan_parts sh.splits lo hi 0 n ++ l) (part_is sh.splits n lo hi x meets)))
                  (parts_push p.tx birth (suc p.nth) (scan_parts sh.splits lo hi 0 n) answers s.es (n, Scan x.0 x.1) answer epoch (n, y) s.parts (its_part y (Answered answer epoch) event outcome));
              touches = then_touches_just s.es ((n, y) ∷ []) (touched_in p.touched) (touched_in m.touched) (touched_in q.touched) s.touches (touches_just_one n epoch' m.touched q.touched y (ap (λ z. z.touched) place));
              tx = ap (λ z. z.tx) place ∙ s.tx;
              born = ap (λ z. z.birth) place ∙ s.born;
              numbered = inr (ap (λ z. z.nth) place ∙ (let e : p.nth + 1 ≡ suc p.nth = omega arith in e));
            }

  pub so_far : (n : ℕ) (answers : List Answer) (u : Walker M S G) (m : SessionState) → PartsMade sh birth (p.nth + 1) lo hi w p n answers u m → SoFar n answers u m
  so_far _ _ _ _ no_shard =
      record {
        es = [];
        entries = sym (append-nil (session_entries (kept w.passes.items)));
        same = (refl, refl);
        clock = (omega arith);
        stamped = tt;
        dated = (omega arith, omega arith);
        parts = no_part;
        touches = touches_just_none (touched_in p.touched);
        tx = refl;
        born = has;
        numbered = inl refl;
      }
  so_far _ _ _ _ (passed_by n answers u m before none) =
      let s = so_far n answers u m before in
      record {
        es = s.es;
        entries = s.entries;
        same = s.same;
        clock = s.clock;
        stamped = s.stamped;
        dated = s.dated;
        parts =
            subst (λ l. ArePartsAnswered p.tx birth (suc p.nth) l answers s.es)
            (sym (parts_upto sh.splits lo hi n ∙ ap (λ l. scan_parts sh.splits lo hi 0 n ++ l) (part_none sh.splits n lo hi none) ∙ append-nil (scan_parts sh.splits lo hi 0 n))) s.parts;
        touches = s.touches;
        tx = s.tx;
        born = s.born;
        numbered = s.numbered;
      }
  so_far _ _ _ _ (one_part n answers u v m q x answer before meets made) = with_part n x answers u v m q (so_far n answers u m before) meets answer made

  -- ---- its end

  -- the whole scan
  all_told : (answers : List Answer) (pairs : List (ℕ × ValueType)) (v : Walker M S G) (q : SessionState) → SoFar (shard_count sh.splits) answers v q → answers ≢ [] → pairs ≡ all_pairs answers
      → OperateTold p.tx birth p.nth (touched_in p.touched) (Scan lo hi) (Ok (Pairs pairs)) (seen_as sh w asked (is_active p birth)) (seen_as sh v asked (is_active q birth))
  all_told answers pairs v q s some is = (
    s.es,
    touched_in q.touched,
    record { answers = answers; parts = s.parts; whole = ap (λ l. Pairs l) (is ∙ pairs_are answers) },
    s.touches,
    whole_grows s (is_active q birth),
    ap (λ t. Active t birth q.nth (touched_in q.touched)) s.tx ∙ ap (λ k. Active p.tx birth k (touched_in q.touched)) (last s.numbered),
  )
    where
      last : (answers ≡ []) ⊎ (q.nth ≡ suc p.nth) → q.nth ≡ suc p.nth
      last (inl none) = absurd (some none)
      last (inr k) = k

      whole_grows : (s : SoFar (shard_count sh.splits) answers v q) (en : Standing) → Grows s.es (seen_as sh w asked (is_active p birth)) (seen_as sh v asked en)
      whole_grows s en = let k = s.same.1 in record { splits_are = refl; run_is = refl; walker_is = s.same.0; entries_are = s.entries; clock_rises = s.clock; serial_is = (omega arith); latest_rises = s.dated.0; dated = (let d = s.dated.1 in omega arith); stamped = s.stamped }

  -- one part failed
  module _ (v : Walker M S G) (q : SessionState) (n : ℕ) (x : ℕ × ℕ) (answers : List Answer) (u : Walker M S G) (m : SessionState) (s : SoFar n answers u m) (meets : part_on sh.splits n lo hi ≡ Some x)
      (below : n < shard_count sh.splits) where
    begun : IsBegun sh.splits p.tx birth (suc p.nth) (Scan lo hi) s.es
    begun = record {
      done = scan_parts sh.splits lo hi 0 n;
      next = (n, Scan x.0 x.1);
      left = scan_parts sh.splits lo hi (suc n) (shard_count sh.splits - suc n);
      parts = parts_at sh.splits lo hi n (shard_count sh.splits) x below meets;
      answers = answers;
      answered = s.parts;
    }

    unmade : (answer : Result Answer OpError) (made : PartMade sh birth (p.nth + 1) n x u m answer v q) (en : Standing) → has_died answer ≡ false → made_in made.turns.asking ≡ [] → Grows s.es (seen_as sh w asked (is_active p birth)) (seen_as sh v asked en)
    unmade answer made en not_so none =
        subst (λ l. Grows l (seen_as sh w asked (is_active p birth)) (seen_as sh v asked en)) (append-nil s.es) (grown n x answers u v m q s meets answer made en [] (quiet_makes n x answers u v m q s meets answer made [] not_so none))

    pub failed_told : (e : OpError) (made : PartMade sh birth (p.nth + 1) n x u m (Err e) v q) → EntriesBy n (Op m.tx birth (p.nth + 1) (lookup (◌==◌ n) m.touched) (Scan x.0 x.1)) (Err e) (made_in made.turns.asking)
        → PlacedBy n (p.nth + 1) (Scan x.0 x.1) m (Err e) q
        → OperateTold p.tx birth p.nth (touched_in p.touched) (Scan lo hi) (pairs_end (Err e)) (seen_as sh w asked (is_active p birth)) (seen_as sh v asked (unless_dead q birth (has_died {A = List (ℕ × ValueType)} (Err e))))
    failed_told (op.Aborted cause) made (y, is, event, outcome) place = (
      s.es ++ (n, y) ∷ [],
      made_in made.turns.leaving,
      n,
      touched_in m.touched,
      record {
        done = scan_parts sh.splits lo hi 0 n;
        next = (n, Scan x.0 x.1);
        left = scan_parts sh.splits lo hi (suc n) (shard_count sh.splits - suc n);
        parts = parts_at sh.splits lo hi n (shard_count sh.splits) x below meets;
        answers = answers;
        before = s.es;
        last = (n, y);
        entries = refl;
        answered = s.parts;
        died = its_part n x answers u v m q s meets y (Dead cause) event outcome;
        shard = refl;
      },
      then_touches s.es ((n, y) ∷ []) (touched_in p.touched) (touched_in m.touched) (touched_in m.touched) s.touches.only (touches_none (touched_in m.touched) ((n, y) ∷ [])),
      subst (λ t. AreDropsOf t (touched_in m.touched) (Some n) (made_in made.turns.leaving)) s.tx
          (others_drop sh u v (length sh.locks.items) n m (Op m.tx birth (p.nth + 1) (lookup (◌==◌ n) m.touched) (Scan x.0 x.1)) (Err (op.Aborted cause)) made.turns),
      subst (λ l. Grows l (seen_as sh w asked (is_active p birth)) (seen_as sh v asked (Idle (Some birth)))) (sym (append_assoc s.es ((n, y) ∷ []) (made_in made.turns.leaving)))
          (grown n x answers u v m q s meets (Err (op.Aborted cause)) made (Idle (Some birth)) ((n, y) ∷ made_in made.turns.leaving)
          (made_in_more made.turns.asking made.turns.leaving ∙ ap (λ l. l ++ made_in made.turns.leaving) is)),
      refl,
    )
    failed_told (op.Down k) made none place = (
      s.es,
      touched_in q.touched,
      begun,
      subst (λ z. TouchesJust (touched_in p.touched) s.es (touched_in z.touched)) (sym place) s.touches,
      unmade (Err (op.Down k)) made (is_active q birth) refl none,
      (q.nth, ap (λ t. Active t birth q.nth (touched_in q.touched)) (ap (λ z. z.tx) place ∙ s.tx)),
    )
    failed_told (op.Worn at) made none place = (
      s.es,
      touched_in q.touched,
      begun,
      subst (λ z. TouchesJust (touched_in p.touched) s.es (touched_in z.touched)) (sym place) s.touches,
      unmade (Err (op.Worn at)) made (is_active q birth) refl none,
      (q.nth, ap (λ t. Active t birth q.nth (touched_in q.touched)) (ap (λ z. z.tx) place ∙ s.tx)),
    )
    failed_told op.Memory made none place = (
      s.es,
      touched_in q.touched,
      inl begun,
      subst (λ z. TouchesJust (touched_in p.touched) s.es (touched_in z.touched)) (sym place) s.touches,
      unmade (Err op.Memory) made (is_active q birth) refl none,
      (q.nth, ap (λ t. Active t birth q.nth (touched_in q.touched)) (ap (λ z. z.tx) place ∙ s.tx)),
    )

    -- no memory for the pairs of an answered part
    pub forgotten : (answer : Answer) (made : PartMade sh birth (p.nth + 1) n x u m (Ok answer) v q) (t : SoFar (suc n) (answers ++ answer ∷ []) v q)
        → OperateTold p.tx birth p.nth (touched_in p.touched) (Scan lo hi) (pairs_end (Err op.Memory)) (seen_as sh w asked (is_active p birth)) (seen_as sh v asked (is_active q birth))
    forgotten answer made t = (
      t.es,
      touched_in q.touched,
      at (scan_parts sh.splits lo hi (suc n) (shard_count sh.splits - suc n)) refl,
      t.touches,
      whole,
      (q.nth, ap (λ x. Active x birth q.nth (touched_in q.touched)) t.tx),
    )
      where
        whole : Grows t.es (seen_as sh w asked (is_active p birth)) (seen_as sh v asked (is_active q birth))
        whole = let k = t.same.1 in record { splits_are = refl; run_is = refl; walker_is = t.same.0; entries_are = t.entries; clock_rises = t.clock; serial_is = (omega arith); latest_rises = t.dated.0; dated = (let d = t.dated.1 in omega arith); stamped = t.stamped }

        at : (l : List (ℕ × Operation)) → scan_parts sh.splits lo hi (suc n) (shard_count sh.splits - suc n) ≡ l
            → IsBegun sh.splits p.tx birth (suc p.nth) (Scan lo hi) t.es ⊎ IsUnanswered sh.splits p.tx birth (suc p.nth) (Scan lo hi) t.es
        at [] is =
            inr (
              answers ++ answer ∷ [],
              subst (λ l. ArePartsAnswered p.tx birth (suc p.nth) l (answers ++ answer ∷ []) t.es)
                  (sym (parts_behind sh.splits lo hi n (shard_count sh.splits) below ∙ ap (λ l. scan_parts sh.splits lo hi 0 (suc n) ++ l) is ∙ append-nil (scan_parts sh.splits lo hi 0 (suc n)))) t.parts,
            )
        at (next ∷ left) is =
            inl (record {
              done = scan_parts sh.splits lo hi 0 (suc n);
              next = next;
              left = left;
              parts = parts_behind sh.splits lo hi n (shard_count sh.splits) below ∙ ap (λ l. scan_parts sh.splits lo hi 0 (suc n) ++ l) is;
              answers = answers ++ answer ∷ [];
              answered = t.parts;
            })

-- ---- some shard is met

meets_first : (splits : List ℕ) (lo hi : ℕ) → IsTrue (are_splits splits) → lo ≤ hi → hi < 2 ^ 64 → (x : ℕ × ℕ) × (part_on splits (shard_of splits lo) lo hi ≡ Some x)
meets_first splits lo hi rise falls small = at (span splits (shard_of splits lo)) (span_keys splits (shard_of splits lo) lo rise (omega arith) ∙ eq-eqb (shard_of splits lo) (shard_of splits lo) refl)
  where
    at : (o : Option (ℕ × ℕ)) → lies_within o lo ≡ true → (x : ℕ × ℕ) × (part_within lo hi o ≡ Some x)
    at None h = absurd (both_ways false refl h)
    at (Some s) h =
        let k = and_parts (nat_le s.0 lo) (nat_le lo s.1) h in
        let a = leb-true s.0 lo k.0 in
        let b = leb-true lo s.1 k.1 in
        ((max lo s.0, min hi s.1), ap (λ c. cond c (Some (max lo s.0, min hi s.1)) None) (le-leb (max lo s.0) (min hi s.1) (omega arith)))

no_answers : (tx : TxId) (birth : Birth) (nth : ℕ) (parts : List (ℕ × Operation)) (es : History) → ArePartsAnswered tx birth nth parts [] es → parts ≡ []
no_answers tx birth nth _ _ no_part = refl

some_behind : {A : Type 0} (xs ys : List A) (x : A) → xs ++ x ∷ ys ≢ []
some_behind [] ys x h = cc
some_behind (y ∷ xs) ys x h = cc

module _ (M S G : Type 0) where
  pub scans_tell : ScansTell M S G
  scans_tell sh w v asked p q birth lo hi r rise falls small active has told stands = at r told
    where
      count : length sh.locks.items ≡ shard_count sh.splits
      count = active.ready.walker.count

      failed : (e : OpError) → PartFailed sh birth (p.nth + 1) lo hi w p e v q
          → OperateTold p.tx birth p.nth (touched_in p.touched) (Scan lo hi) (pairs_end (Err e)) (seen_as sh w asked (is_active p birth)) (seen_as sh v asked (unless_dead q birth (has_died {A = List (ℕ × ValueType)} (Err e))))
      failed e f = by f.fails f.made
        where
          s : SoFar sh asked birth lo hi w p rise small has f.shard f.answers f.walker f.middle
          s = so_far sh asked birth lo hi w p rise small has f.shard f.answers f.walker f.middle f.before

          below : f.shard < shard_count sh.splits
          below = let b = f.below in let c = count in omega arith

          by : Fails f.answer e → PartMade sh birth (p.nth + 1) f.shard f.part f.walker f.middle f.answer v q
              → OperateTold p.tx birth p.nth (touched_in p.touched) (Scan lo hi) (pairs_end (Err e)) (seen_as sh w asked (is_active p birth)) (seen_as sh v asked (unless_dead q birth (has_died {A = List (ℕ × ValueType)} (Err e))))
          by (inl is) made =
              let own = subst (λ a. PartMade sh birth (p.nth + 1) f.shard f.part f.walker f.middle a v q) is made in
              failed_told sh asked birth lo hi w p rise small has v q f.shard f.part f.answers f.walker f.middle s f.meets below e own
              (its_entries sh asked birth lo hi w p rise small has f.shard f.part f.answers f.walker v f.middle q s f.meets (Err e) own) own.place
          by (inr ((a, is), wants)) made =
              let own = subst (λ z. PartMade sh birth (p.nth + 1) f.shard f.part f.walker f.middle z v q) is made in
              subst (λ z. OperateTold p.tx birth p.nth (touched_in p.touched) (Scan lo hi) (pairs_end (Err z)) (seen_as sh w asked (is_active p birth)) (seen_as sh v asked (unless_dead q birth (has_died {A = List (ℕ × ValueType)} (Err z))))) (sym wants)
              (forgotten sh asked birth lo hi w p rise small has v q f.shard f.part f.answers f.walker f.middle s f.meets below a own
              (with_part sh asked birth lo hi w p rise small has f.shard f.part f.answers f.walker v f.middle q s f.meets a own))

      at : (r : Result (List (ℕ × ValueType)) OpError) → PartsTold sh birth (p.nth + 1) lo hi w p r v q
          → OperateTold p.tx birth p.nth (touched_in p.touched) (Scan lo hi) (pairs_end r) (seen_as sh w asked (is_active p birth)) (seen_as sh v asked (unless_dead q birth (has_died r)))
      at (Ok pairs) (answers, made, is) =
          let s = subst (λ k. SoFar sh asked birth lo hi w p rise small has k answers v q) count (so_far sh asked birth lo hi w p rise small has (length sh.locks.items) answers v q made) in
          all_told sh asked birth lo hi w p rise small has answers pairs v q s (some answers s) is
        where
          some : (answers : List Answer) → SoFar sh asked birth lo hi w p rise small has (shard_count sh.splits) answers v q → answers ≢ []
          some answers s none =
              let m = meets_first sh.splits lo hi rise falls small in
              some_behind (scan_parts sh.splits lo hi 0 (shard_of sh.splits lo)) (scan_parts sh.splits lo hi (suc (shard_of sh.splits lo)) (shard_count sh.splits - suc (shard_of sh.splits lo))) (shard_of sh.splits lo, Scan m.0.0 m.0.1)
              (sym (parts_at sh.splits lo hi (shard_of sh.splits lo) (shard_count sh.splits) m.0 (is_shard sh.splits lo) m.1)
              ∙ no_answers p.tx birth (suc p.nth) (scan_parts sh.splits lo hi 0 (shard_count sh.splits)) s.es (subst (λ l. ArePartsAnswered p.tx birth (suc p.nth) (scan_parts sh.splits lo hi 0 (shard_count sh.splits)) l s.es) none s.parts))
      at (Err e) f = failed e f
