-- A run over all shards, seen from one of them: how far the shard's own run is, and that it agrees with the whole one.
use Rattle.std.proofs.Common.{◌≡◌, refl, sym, ap, subst, ◌∙◌, ℕ, ◌<◌, ◌≤◌, ◌⊎◌, inl, inr, ⊎_elim, Bool, true, false, cond, not, ◌&&◌, List, [], ◌∷◌, ◌++◌, Some, None, is_some, ◌==◌, nat_lt, nat_le, eqb-true, eq-eqb, arith, le_trans, le_refl}
use Rattle.std.specs.List.{AllByRecursion, filter, list_any}
use Rattle.std.proofs.lemmas.Bool.{both_ways, false_from_ne_true, and_parts, and_from, or_cases, or_parts, or_left, or_right, ltb-true, ltb-false, leb-true, le-leb, cond-true, cond-false}
use Rattle.clv_base.specs.declared.ops.Op.{Op}
use Rattle.clv_base.specs.declared.ops.Answer.{Answer}
use Rattle.clv_base.specs.Maps.{KeyMap, Trail, map_get, Operates, GoesBack, op_answer, op_after, map_now, map_up_to, acts_after, acts_answers}
use Rattle.clv_base.specs.Folding.{IsRising}
use Rattle.clv_base.specs.Backs.{has_written}
use Rattle.clv_base.specs.Sessions.{with_written}
use Rattle.clv_base.specs.History.{DoneAct, answers_given}
use Rattle.clv_base.proofs.Folding.{same_map, rising_after}
use Rattle.law_base.proofs.Lists.{all_mono, all_push, all_filter, later_push, later_mono, later_filter}
use Rattle.serial_laws.specs.Shares.{ShardAct, OnShard, BackOn, numbered, kept_on}
use Rattle.serial_laws.proofs.Held.OperationsAtPlaces.{HeldOp, after_ops, after_append, Runs, runs_both, runs_first, runs_rest, rising_ops}
use Rattle.serial_laws.proofs.Held.OperationsPassOthers.{unwritten}
use Rattle.serial_laws.proofs.Held.TrailsAreHeldMaps.{up_to, beyond, AreSorted, split_at, stands, Kept, kept_op, kept_back, kept_later, GoneBack}
use Rattle.serial_laws.proofs.ReplayByShards.OperationsOnSpans.{AgreeOn, MeetsOnly, MeetsNoneOf, answers_agree, after_agree, after_elsewhere}

-- ---- what a side has of a transaction

abbrev pub part_by : (ℕ → Bool) → List ShardAct → List DoneAct
part_by mine [] = []
part_by mine (OnShard s k o a ∷ xs) = cond (mine s) ((k, Operates o, Some a) ∷ part_by mine xs) (part_by mine xs)
part_by mine (BackOn s k u ∷ xs) = cond (mine s) ((k, GoesBack u, None) ∷ part_by mine xs) (part_by mine xs)

-- a write that holds here is noted
abbrev pub Noted : (ℕ → Bool) → List (ℕ × ℕ) → HeldOp → Type 0
Noted mine ws d = has_written d.op d.answer ≡ true → list_any (λ w. mine w.0 && (w.1 == d.number)) ws ≡ true

abbrev pub AreLowMaps : ℕ → Trail → Type 0
AreLowMaps last trail = AllByRecursion (λ q. q.0 ≤ last) trail

-- its own run from its map: the trail, what holds, what is still to come, up to its last map; and the whole run has its values at its keys, now
-- and wherever one may go back to
pub record Side (P : ℕ → Type 0) (mine : ℕ → Bool) (first last : KeyMap) (nth : ℕ) (backs ws : List (ℕ × ℕ)) (m : KeyMap) (whole_trail : Trail) (xs : List ShardAct) : Type 0 where
  pub trail : Trail
  pub held : List HeldOp
  pub rises : IsRising first
  pub kept : Kept nth backs first trail held
  pub low : AreLowMaps nth trail
  pub runs : Runs first held
  pub sorted : AreSorted held
  pub noted : AllByRecursion (Noted mine ws) held
  pub answers : acts_answers (numbered (part_by mine xs)) first trail ≡ answers_given (part_by mine xs)
  pub ends : acts_after (numbered (part_by mine xs)) first trail ≡ last
  pub now : AgreeOn P (map_now m whole_trail) (map_now first trail)
  pub back_to : (u : ℕ) → AgreeOn P (map_up_to u m whole_trail) (map_up_to u first trail)

up_now : (u last : ℕ) (m : KeyMap) (trail : Trail) → AreLowMaps last trail → last ≤ u → map_up_to u m trail ≡ map_now m trail
up_now u last m [] a l = refl
up_now u last m (q ∷ qs) a l = cond-true (nat_le q.0 u) q.1 (map_up_to u m qs) (le-leb q.0 u (le_trans a.0 l))

low_later : (last nth : ℕ) (trail : Trail) → last ≤ nth → AreLowMaps last trail → AreLowMaps nth trail
low_later last nth trail l a = all_mono (λ q. q.0 ≤ last) (λ q. q.0 ≤ nth) (λ q h. le_trans h l) trail a

first_two : {X : Type 0} (x y : X) (xs ys : List X) → x ∷ xs ≡ y ∷ ys → (x ≡ y) × (xs ≡ ys)
first_two x y xs ys e = (cc, cc)

-- ---- notes

still_there : (f keep : ℕ × ℕ → Bool) (ws : List (ℕ × ℕ)) → ((w : ℕ × ℕ) → f w ≡ true → keep w ≡ true) → list_any f ws ≡ true → list_any f (filter keep ws) ≡ true
still_there f keep [] h e = e
still_there f keep (w ∷ ws) h e = at (keep w) refl (or_cases (f w) (list_any f ws) e) (λ a. still_there f keep ws h a)
  where
    at : (b : Bool) → keep w ≡ b → (f w ≡ true) ⊎ (list_any f ws ≡ true) → (list_any f ws ≡ true → list_any f (filter keep ws) ≡ true) → list_any f (cond b (w ∷ filter keep ws) (filter keep ws)) ≡ true
    at true t (inl a) rest = or_left (f w) _ a
    at true t (inr a) rest = or_right (f w) _ (rest a)
    at false t (inl a) rest = absurd (both_ways (keep w) t (h w a))
    at false t (inr a) rest = rest a

note_pushed : (f : ℕ × ℕ → Bool) (s k : ℕ) (b : Bool) (ws : List (ℕ × ℕ)) → list_any f ws ≡ true → list_any f (with_written s k b ws) ≡ true
note_pushed f s k true ws e = or_right (f (s, k)) (list_any f ws) e
note_pushed f s k false ws e = e

note_made : (mine : ℕ → Bool) (s k : ℕ) (b : Bool) (ws : List (ℕ × ℕ)) → mine s ≡ true → b ≡ true → list_any (λ w. mine w.0 && (w.1 == k)) (with_written s k b ws) ≡ true
note_made mine s k true ws here e = or_left (mine s && (k == k)) _ (and_from (mine s) (k == k) here (eq-eqb k k refl))
note_made mine s k false ws here e = absurd (both_ways false refl e)

-- those up to the number that is gone back to stay noted
kept_note : (mine : ℕ → Bool) (s v n : ℕ) (ws : List (ℕ × ℕ)) → n ≤ v → list_any (λ w. mine w.0 && (w.1 == n)) ws ≡ true → list_any (λ w. mine w.0 && (w.1 == n)) (kept_on s v ws) ≡ true
kept_note mine s v n ws l e =
    still_there (λ w. mine w.0 && (w.1 == n)) (λ w. not ((w.0 == s) && nat_lt v w.1)) ws
    (λ w t. ap not (false_from_ne_true ((w.0 == s) && nat_lt v w.1) (λ g.
    let a : w.1 ≡ n = eqb-true w.1 n (and_parts (mine w.0) (w.1 == n) t).1 in
    let b : v < w.1 = ltb-true v w.1 (and_parts (w.0 == s) (nat_lt v w.1) g).1 in
    omega arith)))
    e

-- and those of others than the shard that goes back
other_note : (mine : ℕ → Bool) (s v n : ℕ) (ws : List (ℕ × ℕ)) → mine s ≡ false → list_any (λ w. mine w.0 && (w.1 == n)) ws ≡ true → list_any (λ w. mine w.0 && (w.1 == n)) (kept_on s v ws) ≡ true
other_note mine s v n ws away e =
    still_there (λ w. mine w.0 && (w.1 == n)) (λ w. not ((w.0 == s) && nat_lt v w.1)) ws
    (λ w t. ap not (false_from_ne_true ((w.0 == s) && nat_lt v w.1) (λ g.
    both_ways (mine s) away (subst (λ i. mine i ≡ true) (eqb-true w.0 s (and_parts (w.0 == s) (nat_lt v w.1) g).0) (and_parts (mine w.0) (w.1 == n) t).0))))
    e

noted_low : (mine : ℕ → Bool) (v n : ℕ) (ws : List (ℕ × ℕ)) → list_any (λ w. nat_lt v w.1) ws ≡ false → list_any (λ w. mine w.0 && (w.1 == n)) ws ≡ true → n ≤ v
noted_low mine v n [] none e = absurd (both_ways false refl e)
noted_low mine v n (w ∷ ws) none e =
    let p = or_parts (nat_lt v w.1) (list_any (λ w. nat_lt v w.1) ws) none in
    ⊎_elim
    (λ h. let a : w.1 ≡ n = eqb-true w.1 n (and_parts (mine w.0) (w.1 == n) h).1 in let b : w.1 ≤ v = ltb-false v w.1 p.0 in omega arith)
    (λ h. noted_low mine v n ws p.1 h)
    (or_cases (mine w.0 && (w.1 == n)) (list_any (λ w. mine w.0 && (w.1 == n)) ws) e)

-- ---- an operation

abbrev one : ℕ → Op → Answer → HeldOp
one k o a = record { place = 0; number = k; op = o; answer = a }

module _ (P : ℕ → Type 0) (mine : ℕ → Bool) (first last : KeyMap) (nth : ℕ) (backs ws : List (ℕ × ℕ)) (m : KeyMap) (t : Trail) where
  pub op_here : (s k : ℕ) (o : Op) (a : Answer) (xs : List ShardAct) → Side P mine first last nth backs ws m t (OnShard s k o a ∷ xs) → mine s ≡ true → MeetsOnly P o → IsRising (map_now m t) → nth ≤ k
      → (op_answer o (map_now m t) ≡ a) × Side P mine first last k backs (with_written s k (has_written o a) ws) m ((k, op_after o (map_now m t)) ∷ t) xs
  op_here s k o a xs side here only rising l =
      let part : part_by mine (OnShard s k o a ∷ xs) ≡ (k, Operates o, Some a) ∷ part_by mine xs = cond-true (mine s) _ _ here in
      let both = first_two _ _ _ _ (subst (λ ps. acts_answers (numbered ps) first side.trail ≡ answers_given ps) part side.answers) in
      let ends = subst (λ ps. acts_after (numbered ps) first side.trail ≡ last) part side.ends in
      let own : IsRising (map_now first side.trail) = subst IsRising (sym side.kept.now) (rising_ops first side.held side.rises) in
      let alike : op_answer o (map_now m t) ≡ op_answer o (map_now first side.trail) = answers_agree P o (map_now m t) (map_now first side.trail) rising own only side.now in
      let after : AgreeOn P (op_after o (map_now m t)) (op_after o (map_now first side.trail)) = after_agree P o (map_now m t) (map_now first side.trail) only side.now in (
        alike ∙ both.0,
        record {
          trail = (k, op_after o (map_now first side.trail)) ∷ side.trail;
          held = side.held ++ one k o a ∷ [];
          rises = side.rises;
          kept = kept_op nth backs first side.trail side.held (one k o a) side.kept l;
          low = (le_refl k, low_later nth k side.trail l side.low);
          runs = runs_both first side.held (one k o a ∷ []) side.runs (sym both.0 ∙ ap (op_answer o) side.kept.now, tt);
          sorted = later_push (λ x y. x.number ≤ y.number) side.held (one k o a) side.sorted (all_mono (λ x. x.number ≤ nth) (λ x. x.number ≤ k) (λ x h. le_trans h l) side.held side.kept.low);
          noted =
              all_push (Noted mine (with_written s k (has_written o a) ws)) side.held (one k o a)
              (all_mono (Noted mine ws) (Noted mine (with_written s k (has_written o a) ws)) (λ d h w. note_pushed (λ w. mine w.0 && (w.1 == d.number)) s k (has_written o a) ws (h w)) side.held side.noted)
              (λ w. note_made mine s k (has_written o a) ws here w);
          answers = both.1;
          ends = ends;
          now = after;
          back_to = λ u i j. at u (nat_le k u) (λ x h. after x h) i j;
        },
      )
    where
      at : (u : ℕ) (b : Bool) → AgreeOn P (op_after o (map_now m t)) (op_after o (map_now first side.trail)) → AgreeOn P (cond b (op_after o (map_now m t)) (map_up_to u m t)) (cond b (op_after o (map_now first side.trail)) (map_up_to u first side.trail))
      at u true e = e
      at u false e = side.back_to u

  pub op_elsewhere : (s k : ℕ) (o : Op) (a : Answer) (xs : List ShardAct) → Side P mine first last nth backs ws m t (OnShard s k o a ∷ xs) → mine s ≡ false → MeetsNoneOf P o → nth ≤ k
      → Side P mine first last k backs (with_written s k (has_written o a) ws) m ((k, op_after o (map_now m t)) ∷ t) xs
  op_elsewhere s k o a xs side away none l =
      let part : part_by mine (OnShard s k o a ∷ xs) ≡ part_by mine xs = cond-false (mine s) _ _ away in
      record {
        trail = side.trail;
        held = side.held;
        rises = side.rises;
        kept = kept_later nth k backs backs first side.trail side.held side.kept l (λ u h. h);
        low = low_later nth k side.trail l side.low;
        runs = side.runs;
        sorted = side.sorted;
        noted = all_mono (Noted mine ws) (Noted mine (with_written s k (has_written o a) ws)) (λ d h w. note_pushed (λ w. mine w.0 && (w.1 == d.number)) s k (has_written o a) ws (h w)) side.held side.noted;
        answers = subst (λ ps. acts_answers (numbered ps) first side.trail ≡ answers_given ps) part side.answers;
        ends = subst (λ ps. acts_after (numbered ps) first side.trail ≡ last) part side.ends;
        now = after;
        back_to = λ u. at u (nat_le k u) refl;
      }
    where
      after : AgreeOn P (op_after o (map_now m t)) (map_now first side.trail)
      after i j = after_elsewhere P o (map_now m t) none i j ∙ side.now i j

      at : (u : ℕ) (b : Bool) → nat_le k u ≡ b → AgreeOn P (cond b (op_after o (map_now m t)) (map_up_to u m t)) (map_up_to u first side.trail)
      at u true e i j = after i j ∙ ap (map_get i) (sym (up_now u nth first side.trail side.low (le_trans l (leb-true k u e))))
      at u false e i j = side.back_to u i j

  -- a greater number, and a going back more
  pub announced : (k : ℕ) (later : List (ℕ × ℕ)) (xs : List ShardAct) → Side P mine first last nth backs ws m t xs → nth ≤ k → ((u : ℕ) → stands u later ≡ true → stands u backs ≡ true) → Side P mine first last k later ws m t xs
  announced k later xs side l g =
      record {
        trail = side.trail;
        held = side.held;
        rises = side.rises;
        kept = kept_later nth k backs later first side.trail side.held side.kept l g;
        low = low_later nth k side.trail l side.low;
        runs = side.runs;
        sorted = side.sorted;
        noted = side.noted;
        answers = side.answers;
        ends = side.ends;
        now = side.now;
        back_to = side.back_to;
      }

-- ---- a going back

-- the last going back is under this number, to there
pub record AtBack (k v : ℕ) (backs : List (ℕ × ℕ)) : Type 0 where
  pub stood : stands v backs ≡ true
  pub gone : GoneBack k v backs backs
  pub lower : nat_le k v ≡ false

-- one trail is another one with a going back more
pub record GoesOn (k v : ℕ) (m : KeyMap) (t later : Trail) : Type 0 where
  pub now : map_now m later ≡ map_up_to v m t
  pub behind : (u : ℕ) → nat_le k u ≡ true → map_up_to u m later ≡ map_up_to v m t
  pub before : (u : ℕ) → nat_le k u ≡ false → map_up_to u m later ≡ map_up_to u m t

abbrev pub gone_to : ℕ → ℕ → KeyMap → Trail → Trail
gone_to k v m t = (k, map_up_to v m t) ∷ t

pub goes_first : (k v : ℕ) (m : KeyMap) (t : Trail) → GoesOn k v m t (gone_to k v m t)
goes_first k v m t = record { now = refl; behind = λ u e. cond-true (nat_le k u) _ _ e; before = λ u e. cond-false (nat_le k u) _ _ e }

pub goes_again : (k v : ℕ) (m : KeyMap) (t : Trail) → nat_le k v ≡ false → GoesOn k v m (gone_to k v m t) (gone_to k v m t)
goes_again k v m t l =
    let e : map_up_to v m (gone_to k v m t) ≡ map_up_to v m t = cond-false (nat_le k v) _ _ l in
    record { now = sym e; behind = λ u h. cond-true (nat_le k u) _ _ h ∙ sym e; before = λ u h. refl }

-- what wrote nothing leaves the map
idle : (m : KeyMap) (ds : List HeldOp) → IsRising m → Runs m ds → AllByRecursion (λ d. has_written d.op d.answer ≡ false) ds → after_ops m ds ≡ m
idle m [] h r a = refl
idle m (d ∷ ds) h r a =
    let e : op_after d.op m ≡ m = same_map (op_after d.op m) m (rising_after d.op m h) h (λ q. unwritten d.op d.answer m q r.0 (λ w. both_ways (has_written d.op d.answer) a.0 (ap is_some w))) in
    ap (λ n. after_ops n ds) e ∙ idle m ds h (subst (λ n. Runs n ds) e r.1) a.1

module _ (P : ℕ → Type 0) (mine : ℕ → Bool) (first last : KeyMap) (k v : ℕ) (backs ws : List (ℕ × ℕ)) (m : KeyMap) (t later : Trail) where
  -- a side that goes back
  pub enters : (s : ℕ) (xs : List ShardAct) → Side P mine first last k backs ws m t (BackOn s k v ∷ xs) → mine s ≡ true → AtBack k v backs → GoesOn k v m t later → Side P mine first last k backs (kept_on s v ws) m later xs
  enters s xs side here b g =
      let part : part_by mine (BackOn s k v ∷ xs) ≡ (k, GoesBack v, None) ∷ part_by mine xs = cond-true (mine s) _ _ here in
      record {
        trail = (k, map_up_to v first side.trail) ∷ side.trail;
        held = up_to v side.held;
        rises = side.rises;
        kept = kept_back k backs backs first side.trail side.held k v side.kept (le_refl k) b.stood b.gone;
        low = (le_refl k, side.low);
        runs = runs_first first (up_to v side.held) (beyond v side.held) (subst (Runs first) (sym (split_at v side.held side.sorted)) side.runs);
        sorted = later_mono _ (λ x y. x.number ≤ y.number) (λ x y h. h.0) (up_to v side.held) (later_filter (λ x y. x.number ≤ y.number) (λ d. nat_le d.number v) side.held side.sorted);
        noted =
            all_mono (λ d. Noted mine ws d × (nat_le d.number v ≡ true)) (Noted mine (kept_on s v ws)) (λ d h w. kept_note mine s v d.number ws (leb-true d.number v h.1) (h.0 w)) (up_to v side.held)
            (all_filter (Noted mine ws) (λ d. nat_le d.number v) side.held side.noted);
        answers = subst (λ ps. acts_answers (numbered ps) first side.trail ≡ answers_given ps) part side.answers;
        ends = subst (λ ps. acts_after (numbered ps) first side.trail ≡ last) part side.ends;
        now = λ i j. ap (map_get i) g.now ∙ side.back_to v i j;
        back_to = λ u. at u (nat_le k u) refl;
      }
    where
      at : (u : ℕ) (c : Bool) → nat_le k u ≡ c → AgreeOn P (map_up_to u m later) (cond c (map_up_to v first side.trail) (map_up_to u first side.trail))
      at u true e i j = ap (map_get i) (g.behind u e) ∙ side.back_to v i j
      at u false e i j = ap (map_get i) (g.before u e) ∙ side.back_to u i j

  -- one of another shard
  pub skips : (s : ℕ) (xs : List ShardAct) → Side P mine first last k backs ws m t (BackOn s k v ∷ xs) → mine s ≡ false → Side P mine first last k backs (kept_on s v ws) m t xs
  skips s xs side away =
      let part : part_by mine (BackOn s k v ∷ xs) ≡ part_by mine xs = cond-false (mine s) _ _ away in
      record {
        trail = side.trail;
        held = side.held;
        rises = side.rises;
        kept = side.kept;
        low = side.low;
        runs = side.runs;
        sorted = side.sorted;
        noted = all_mono (Noted mine ws) (Noted mine (kept_on s v ws)) (λ d h w. other_note mine s v d.number ws away (h w)) side.held side.noted;
        answers = subst (λ ps. acts_answers (numbered ps) first side.trail ≡ answers_given ps) part side.answers;
        ends = subst (λ ps. acts_after (numbered ps) first side.trail ≡ last) part side.ends;
        now = side.now;
        back_to = side.back_to;
      }

  -- where no write beyond it is left, going back there changes nothing
  pub stays : (xs : List ShardAct) → Side P mine first last k backs ws m t xs → AtBack k v backs → list_any (λ w. nat_lt v w.1) ws ≡ false → GoesOn k v m t later → Side P mine first last k backs ws m later xs
  stays xs side b none g =
      record {
        trail = side.trail;
        held = side.held;
        rises = side.rises;
        kept = side.kept;
        low = side.low;
        runs = side.runs;
        sorted = side.sorted;
        noted = side.noted;
        answers = side.answers;
        ends = side.ends;
        now = λ i j. ap (map_get i) g.now ∙ side.back_to v i j ∙ ap (map_get i) unchanged;
        back_to = λ u. at u (nat_le k u) refl;
      }
    where
      both : Runs first (up_to v side.held ++ beyond v side.held)
      both = subst (Runs first) (sym (split_at v side.held side.sorted)) side.runs

      unwritten_beyond : AllByRecursion (λ d. has_written d.op d.answer ≡ false) (beyond v side.held)
      unwritten_beyond =
          all_mono (λ d. Noted mine ws d × (nat_lt v d.number ≡ true)) (λ d. has_written d.op d.answer ≡ false)
          (λ d h. false_from_ne_true (has_written d.op d.answer) (λ w. let a : d.number ≤ v = noted_low mine v d.number ws none (h.0 w) in let c : v < d.number = ltb-true v d.number h.1 in omega arith))
          (beyond v side.held) (all_filter (Noted mine ws) (λ d. nat_lt v d.number) side.held side.noted)

      unchanged : map_up_to v first side.trail ≡ map_now first side.trail
      unchanged =
          side.kept.back_to v b.stood
          ∙ sym (idle (after_ops first (up_to v side.held)) (beyond v side.held) (rising_ops first (up_to v side.held) side.rises) (runs_rest first (up_to v side.held) (beyond v side.held) both) unwritten_beyond)
          ∙ sym (after_append first (up_to v side.held) (beyond v side.held))
          ∙ ap (after_ops first) (split_at v side.held side.sorted)
          ∙ sym side.kept.now

      at : (u : ℕ) (c : Bool) → nat_le k u ≡ c → AgreeOn P (map_up_to u m later) (map_up_to u first side.trail)
      at u true e i j = ap (map_get i) (g.behind u e) ∙ side.back_to v i j ∙ ap (map_get i) (unchanged ∙ sym (up_now u k first side.trail side.low (leb-true k u e)))
      at u false e i j = ap (map_get i) (g.before u e) ∙ side.back_to u i j
