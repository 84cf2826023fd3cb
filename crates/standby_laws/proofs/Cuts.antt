-- Streams that are cuts of logs that may be opened.
use Rattle.std.proofs.Common.{◌≡◌, ℕ, zero, suc, ◌+◌, ◌<◌, arith, ⊎_elim, Bool, true, false, cond, ◌&&◌, ◌||◌, ◌==◌, List, [], ◌∷◌, ◌++◌, length, Option, Some, None, is_some, is_none, refl, sym, ap, subst, ◌∙◌, eqb-true}
use Rattle.std.specs.Prelude.{take, drop}
use Rattle.std.specs.List.{list_all}
use Rattle.std.proofs.lemmas.Bool.{both_ways, and_parts, and_from, or_cases, or_from, false_from_ne_true}
use Rattle.std.proofs.lemmas.List.{take-append-drop}
use Rattle.clv_base.specs.declared.names.TxId.{TxId}
use Rattle.clv_base.specs.declared.logs.LogRecord.{LogRecord}
use Rattle.clv_base.specs.declared.logs.LogRecord.TheVariants.{Update, Clr, Prepare, Commit, Abort, End, Restart, Add, Unadd, Forgotten, Check}
use Rattle.clv_base.specs.Orders.{tx_same, tx_in, nat_in}
use Rattle.clv_base.specs.Logs.{is_prepare_of, committed_in, prepared_in, prepare_of, commit_parts}
use Rattle.clv_base.specs.LogRules.{log_of, home_is, agrees_at, part_of, disorder, all_logs_from, apart}
use Rattle.clv_base.specs.FileRules.{may_open, log_passes}
use Rattle.clv_base.proofs.SameNames.{tx_true}
use Rattle.law_base.specs.Coming.{may_come, Comes, AllCome}
use Rattle.law_base.proofs.Bools.{not_true}
use Rattle.law_base.proofs.Commits.{parts_keep, committed_keeps}
use Rattle.law_base.proofs.Logs.{no_prepare, passes_at}
use Rattle.law_base.proofs.Parts.{in_order_comes}
use Rattle.law_base.proofs.Options.{none_of, some_of, some_once, some_inj}
use Rattle.law_base.proofs.Sets.{list_all_at}
use Rattle.protocol_laws.proofs.LogsInOrder.OneRecordMore.{committed_there}
use Rattle.shard_laws.proofs.Keeping.ChangesKeepPrepared.{prepare_keeps, unprepared_append}
use Rattle.shard_laws.proofs.Cuts.WhatCutsHold.{cut_keeps}
use Rattle.fate_laws.proofs.Homes.FoundCommitsHaveHomes.{home_of, nat_at, committed_stays, named_part, part_agreed}
use Rattle.headline_laws.proofs.EndedAreCommitted.EndsStandBehindCommits.{parts_there}
use Rattle.headline_laws.proofs.ReadersPass.FrontsWithoutWrites.{comes_behind}
use Rattle.standby_base.specs.Standby.{whole_with, whole_from, whole_on, first_list, commits_before, keeps_on, keeps, standby_members}
use Rattle.standby_base.proofs.Greatest.{members_keep, kept_whole}

-- each stream is a first piece of its log
pub record AreCuts (splits : List ℕ) (logs streams : List (List LogRecord)) : Type 0 where
  pub opens : may_open splits logs ≡ true
  pub cut : (n : ℕ) → (k : ℕ) × (log_of streams n ≡ take k (log_of logs n))

-- ---- one log and a first piece of it

pub whole_log : (k : ℕ) (log : List LogRecord) → take k log ++ drop k log ≡ log
whole_log k log = take-append-drop k log

-- a PREPARE doesn't follow the COMMIT
unprepared_behind : (shard : ℕ) (part before rs : List LogRecord) (t : TxId) → Comes shard part before rs → committed_in before t ≡ true → prepared_in rs t ≡ false
unprepared_behind shard part before [] t f c = refl
unprepared_behind shard part before (r ∷ rs) t f c =
    or_from _ _ (one r f.0) (unprepared_behind shard part (before ++ r ∷ []) rs t f.1 (keeps_more r))
  where
    keeps_more : (r : LogRecord) → committed_in (before ++ r ∷ []) t ≡ true
    keeps_more r = committed_keeps before (r ∷ []) t c

    one : (r : LogRecord) → may_come shard part before r ≡ true → is_prepare_of t r ≡ false
    one (Prepare tx home listed) m =
        let y = and_parts _ _ (and_parts _ _ m).0 in let z = and_parts _ _ y.0 in let v = and_parts _ _ z.0 in
        false_from_ne_true _ (λ s. both_ways _ (not_true _ v.1) (subst (λ u. committed_in before u ≡ true) (tx_true t tx s) c))
    one _ m = refl

pub prepare_cut : (shard k : ℕ) (log : List LogRecord) (t : TxId) → disorder shard log ≡ None → committed_in (take k log) t ≡ true → prepare_of (take k log) t ≡ prepare_of log t
prepare_cut shard k log t d c = at (prepared_in (take k log) t) refl
  where
    behind : (xs ys : List LogRecord) → committed_in xs t ≡ true → AllCome shard (part_of log) (xs ++ ys) → Comes shard (part_of log) xs ys
    behind [] ys e f = absurd (both_ways false refl e)
    behind (x ∷ xs) ys e f = comes_behind shard (part_of log) (x ∷ []) xs ys f.1

    f : Comes shard (part_of log) (take k log) (drop k log)
    f = behind (take k log) (drop k log) c (subst (AllCome shard (part_of log)) (sym (whole_log k log)) (in_order_comes shard log d))

    at : (b : Bool) → prepared_in (take k log) t ≡ b → prepare_of (take k log) t ≡ prepare_of log t
    at true e = subst (λ l. prepare_of (take k log) t ≡ prepare_of l t) (whole_log k log) (sym (prepare_keeps (take k log) (drop k log) t e))
    at false e =
        no_prepare (take k log) t e
        ∙ sym (subst (λ l. prepare_of l t ≡ None) (whole_log k log) (no_prepare (take k log ++ drop k log) t (unprepared_append (take k log) (drop k log) t e (unprepared_behind shard (part_of log) (take k log) (drop k log) t f c))))

pub parts_cut : (k : ℕ) (log : List LogRecord) (t : TxId) → committed_in (take k log) t ≡ true → commit_parts (take k log) t ≡ commit_parts log t
parts_cut k log t c =
    let p = parts_there (take k log) t c in
    p.1 ∙ sym (subst (λ l. commit_parts l t ≡ Some p.0) (whole_log k log) (parts_keep (take k log) (drop k log) t p.0 p.1))

-- who was committed before a COMMIT stays so
pub before_keeps : (log more : List LogRecord) (t : TxId) → committed_in log t ≡ true → commits_before t (log ++ more) ≡ commits_before t log
before_keeps [] more t c = absurd (both_ways false refl c)
before_keeps (Commit tx parts ∷ rs) more t c =
    ⊎_elim (λ s. ap (λ b. cond b [] (tx ∷ commits_before t (rs ++ more))) s ∙ sym (ap (λ b. cond b [] (tx ∷ commits_before t rs)) s))
    (λ e. ap (λ l. cond (tx_same t tx) [] (tx ∷ l)) (before_keeps rs more t e))
    (or_cases (tx_same t tx) (committed_in rs t) c)
before_keeps (Update tx a b d ∷ rs) more t c = before_keeps rs more t c
before_keeps (Clr tx a b d ∷ rs) more t c = before_keeps rs more t c
before_keeps (Prepare tx a b ∷ rs) more t c = before_keeps rs more t c
before_keeps (Abort tx ∷ rs) more t c = before_keeps rs more t c
before_keeps (End tx ∷ rs) more t c = before_keeps rs more t c
before_keeps (Restart run epoch ∷ rs) more t c = before_keeps rs more t c
before_keeps (Add tx a by ∷ rs) more t c = before_keeps rs more t c
before_keeps (Unadd tx a b by ∷ rs) more t c = before_keeps rs more t c
before_keeps (Forgotten ∷ rs) more t c = before_keeps rs more t c
before_keeps (Check run epoch upto base ∷ rs) more t c = before_keeps rs more t c

pub before_cut : (k : ℕ) (log : List LogRecord) (t : TxId) → committed_in (take k log) t ≡ true → commits_before t log ≡ commits_before t (take k log)
before_cut k log t c = subst (λ l. commits_before t l ≡ commits_before t (take k log)) (whole_log k log) (before_keeps (take k log) (drop k log) t c)

-- ---- logs

zero_plus : (m : ℕ) → 0 + m ≡ m
zero_plus m = omega arith

pub committed_within : (logs : List (List LogRecord)) (m : ℕ) (t : TxId) → committed_in (log_of logs m) t ≡ true → m < length logs
committed_within [] m t p = absurd (both_ways false refl p)
committed_within (log ∷ logs) zero t p = omega arith
committed_within (log ∷ logs) (suc m) t p = let k = committed_within logs m t p in omega (arith, k)

-- the home and the parts of a transaction
pub record Home (logs : List (List LogRecord)) (t : TxId) : Type 0 where
  pub at : ℕ
  pub parts : List ℕ
  pub names : commit_parts (log_of logs at) t ≡ Some parts
  pub agrees : agrees_at logs t at (log_of logs at) parts ≡ true

pub has_home : (splits : List ℕ) (logs : List (List LogRecord)) (m : ℕ) (t : TxId) → may_open splits logs ≡ true → committed_in (log_of logs m) t ≡ true → Home logs t
has_home splits logs m t o c = let a = home_of splits logs m t o c in by a.0 (commit_parts (log_of logs a.0) t) refl a.1
  where
    by : (h : ℕ) (o : Option (List ℕ)) → commit_parts (log_of logs h) t ≡ o → elim o [ Some ps ↦ agrees_at logs t h (log_of logs h) ps | None ↦ false ] ≡ true → Home logs t
    by h None e a = absurd (both_ways false refl a)
    by h (Some ps) e a = record { at = h; parts = ps; names = e; agrees = a }

pub home_own : {logs : List (List LogRecord)} {t : TxId} (h : Home logs t) → home_is h.at (prepare_of (log_of logs h.at) t) ≡ true
home_own h = (and_parts _ _ (and_parts _ _ (and_parts _ _ h.agrees).0).0).0

-- where it is committed is its home or a part
pub is_of_home : {logs : List (List LogRecord)} {t : TxId} (h : Home logs t) (n : ℕ) → committed_in (log_of logs n) t ≡ true → nat_in n (h.at ∷ h.parts) ≡ true
is_of_home {logs} {t} h n c = at (n == h.at) refl
  where
    at : (b : Bool) → (n == h.at) ≡ b → ((n == h.at) || nat_in n h.parts) ≡ true
    at true e = ap (λ b. b || nat_in n h.parts) e
    at false e = ap (λ b. b || nat_in n h.parts) e ∙ named_part logs t h.at n h.parts (committed_within logs n t c) h.agrees e (committed_stays (log_of logs n) t c)

same_home : (n m : ℕ) (o : Option (ℕ × List TxId)) → is_some o ≡ true → home_is n o ≡ true → home_is m o ≡ true → n ≡ m
same_home n m None s a b = absurd (both_ways false refl s)
same_home n m (Some p) s a b = sym (eqb-true p.0 n a) ∙ eqb-true p.0 m b

-- a shard where it is committed and whose PREPARE of it, if any, names this shard, is its home
pub only_home : {logs : List (List LogRecord)} {t : TxId} (h : Home logs t) (n : ℕ) → committed_in (log_of logs n) t ≡ true → home_is n (prepare_of (log_of logs n) t) ≡ true → n ≡ h.at
only_home {logs} {t} h n c own = at (n == h.at) refl
  where
    at : (b : Bool) → (n == h.at) ≡ b → n ≡ h.at
    at true e = eqb-true n h.at e
    at false e =
        let a = part_agreed logs t h.at n h.parts (committed_within logs n t c) h.agrees e (committed_stays (log_of logs n) t c) in
        let x = and_parts _ _ (and_parts _ _ a).0 in
        let y = and_parts _ _ x.0 in
        same_home n h.at (prepare_of (log_of logs n) t) y.0 own y.1

-- ---- who is whole, among any streams

-- what makes a transaction whole at a shard
pub record WholeAt (streams : List (List LogRecord)) (tx : TxId) (n : ℕ) (log : List LogRecord) (ns : List ℕ) : Type 0 where
  pub parts : List ℕ
  pub names : commit_parts log tx ≡ Some parts
  pub own : home_is n (prepare_of log tx) ≡ true
  pub come : list_all (λ s. committed_in (log_of streams s) tx) parts ≡ true
  pub is : ns ≡ n ∷ parts

whole_at : (streams : List (List LogRecord)) (tx : TxId) (n : ℕ) (log : List LogRecord) (ns : List ℕ) (o : Option (List ℕ)) → commit_parts log tx ≡ o → whole_with streams tx n log o ≡ Some ns → WholeAt streams tx n log ns
whole_at streams tx n log ns None e w = absurd cc
whole_at streams tx n log ns (Some parts) e w = at (home_is n (prepare_of log tx) && list_all (λ s. committed_in (log_of streams s) tx) parts) refl w
  where
    at : (b : Bool) → (home_is n (prepare_of log tx) && list_all (λ s. committed_in (log_of streams s) tx) parts) ≡ b → ◌≡◌ {A = Option (List ℕ)} (cond b (Some (n ∷ parts)) None) (Some ns) → WholeAt streams tx n log ns
    at true c q = let p = and_parts (home_is n (prepare_of log tx)) _ c in record { parts = parts; names = e; own = p.0; come = p.1; is = sym (some_inj (n ∷ parts) ns q) }
    at false c q = absurd cc

whole_where : (streams : List (List LogRecord)) (tx : TxId) (n : ℕ) (logs : List (List LogRecord)) (ns : List ℕ) → whole_from streams tx n logs ≡ Some ns
    → (i : ℕ) × WholeAt streams tx (n + i) (log_of logs i) ns
whole_where streams tx n [] ns w = absurd cc
whole_where streams tx n (log ∷ logs) ns w = at (whole_with streams tx n log (commit_parts log tx)) refl w (λ q. whole_where streams tx (suc n) logs ns q)
  where
    at : (o : Option (List ℕ)) → whole_with streams tx n log (commit_parts log tx) ≡ o → first_list o (whole_from streams tx (suc n) logs) ≡ Some ns
        → (whole_from streams tx (suc n) logs ≡ Some ns → (i : ℕ) × WholeAt streams tx (suc n + i) (log_of logs i) ns) → (i : ℕ) × WholeAt streams tx (n + i) (log_of (log ∷ logs) i) ns
    at (Some ms) e q k = (0, subst (λ j. WholeAt streams tx j log ns) (omega arith) (whole_at streams tx n log ns (commit_parts log tx) refl (e ∙ q)))
    at None e q k = let r = k q in (suc r.0, subst (λ j. WholeAt streams tx j (log_of logs r.0) ns) (omega arith) r.1)

some_first : (a b : Option (List ℕ)) → is_some b ≡ true → is_some (first_list a b) ≡ true
some_first None b s = s
some_first (Some ns) b s = refl

first_some : (a b : Option (List ℕ)) → is_some a ≡ true → is_some (first_list a b) ≡ true
first_some None b s = absurd (both_ways false refl s)
first_some (Some ns) b s = refl

whole_some : (streams : List (List LogRecord)) (tx : TxId) (n : ℕ) (logs : List (List LogRecord)) (i : ℕ) → is_some (whole_with streams tx (n + i) (log_of logs i) (commit_parts (log_of logs i) tx)) ≡ true
    → is_some (whole_from streams tx n logs) ≡ true
whole_some streams tx n [] i s = absurd (both_ways false refl s)
whole_some streams tx n (log ∷ logs) zero s =
    first_some _ (whole_from streams tx (suc n) logs) (subst (λ k. is_some (whole_with streams tx k log (commit_parts log tx)) ≡ true) (omega arith) s)
whole_some streams tx n (log ∷ logs) (suc i) s =
    some_first (whole_with streams tx n log (commit_parts log tx)) _ (whole_some streams tx (suc n) logs i (subst (λ k. is_some (whole_with streams tx k (log_of logs i) (commit_parts (log_of logs i) tx)) ≡ true) (omega arith) s))

-- ---- who is whole, among cuts

module _ {splits : List ℕ} {logs streams : List (List LogRecord)} (cuts : AreCuts splits logs streams) where
  pub from_stream : (n : ℕ) (t : TxId) → committed_in (log_of streams n) t ≡ true → committed_in (log_of logs n) t ≡ true
  from_stream n t c = let k = cuts.cut n in cut_keeps k.0 (log_of logs n) t (subst (λ l. committed_in l t ≡ true) k.1 c)

  in_order : (n : ℕ) → n < length logs → disorder n (log_of logs n) ≡ None
  in_order n l =
      none_of (disorder n (log_of logs n)) (subst (λ k. is_none (disorder k (log_of logs n)) ≡ true) (zero_plus n)
      (and_parts _ _ (passes_at (log_passes splits) 0 n logs (and_parts (all_logs_from 0 (log_passes splits) logs) (is_none (apart logs)) cuts.opens).0 l)).1)

  stream_prepare : (n : ℕ) (t : TxId) → committed_in (log_of streams n) t ≡ true → prepare_of (log_of streams n) t ≡ prepare_of (log_of logs n) t
  stream_prepare n t c =
      let k = cuts.cut n in
      subst (λ l. prepare_of l t ≡ prepare_of (log_of logs n) t) (sym k.1)
      (prepare_cut n k.0 (log_of logs n) t (in_order n (committed_within logs n t (from_stream n t c))) (subst (λ l. committed_in l t ≡ true) k.1 c))

  stream_parts : (n : ℕ) (t : TxId) → committed_in (log_of streams n) t ≡ true → commit_parts (log_of streams n) t ≡ commit_parts (log_of logs n) t
  stream_parts n t c = let k = cuts.cut n in subst (λ l. commit_parts l t ≡ commit_parts (log_of logs n) t) (sym k.1) (parts_cut k.0 (log_of logs n) t (subst (λ l. committed_in l t ≡ true) k.1 c))

  -- all its COMMITs have come
  pub record HasCome {t : TxId} (h : Home logs t) : Type 0 where
    pub at_home : committed_in (log_of streams h.at) t ≡ true
    pub at_parts : list_all (λ s. committed_in (log_of streams s) t) h.parts ≡ true

  -- who is whole has a home in the logs, and its COMMITs there have come
  pub whole_home : (t : TxId) (ns : List ℕ) → whole_on streams t ≡ Some ns → (h : Home logs t) × (ns ≡ h.at ∷ h.parts) × HasCome h
  whole_home t ns w =
      let r = whole_where streams t 0 streams ns w in
      let i = r.0 in
      let a : WholeAt streams t i (log_of streams i) ns = subst (λ k. WholeAt streams t k (log_of streams i) ns) (omega arith) r.1 in
      let c : committed_in (log_of streams i) t ≡ true = committed_there (log_of streams i) t a.parts a.names in
      let h : Home logs t = has_home splits logs i t cuts.opens (from_stream i t c) in
      let s : i ≡ h.at = only_home h i (from_stream i t c) (subst (λ o. home_is i o ≡ true) (stream_prepare i t c) a.own) in
      let q : a.parts ≡ h.parts = some_once a.parts h.parts (commit_parts (log_of logs h.at) t) (subst (λ k. commit_parts (log_of logs k) t ≡ Some a.parts) s (sym (stream_parts i t c) ∙ a.names)) h.names in (
        h,
        a.is ∙ ap (λ k. k ∷ a.parts) s ∙ ap (λ ps. h.at ∷ ps) q,
        record { at_home = subst (λ k. committed_in (log_of streams k) t ≡ true) s c; at_parts = subst (λ ps. list_all (λ s. committed_in (log_of streams s) t) ps ≡ true) q a.come },
      )

  homes_same : (t : TxId) (g h : Home logs t) → (g.at ∷ g.parts) ≡ (h.at ∷ h.parts)
  homes_same t g h =
      let s : g.at ≡ h.at = only_home h g.at (committed_there (log_of logs g.at) t g.parts g.names) (home_own g) in
      ap (λ k. k ∷ g.parts) s ∙ ap (λ ps. h.at ∷ ps) (some_once g.parts h.parts (commit_parts (log_of logs h.at) t) (subst (λ k. commit_parts (log_of logs k) t ≡ Some g.parts) s g.names) h.names)

  -- and the other way round
  pub come_whole : (t : TxId) (h : Home logs t) → HasCome h → whole_on streams t ≡ Some (h.at ∷ h.parts)
  come_whole t h come =
      let r = some_of (whole_on streams t) (whole_some streams t 0 streams h.at (subst (λ k. is_some (whole_with streams t k (log_of streams h.at) (commit_parts (log_of streams h.at) t)) ≡ true) (omega arith) is_whole)) in
      let q = whole_home t r.0 r.1 in
      r.1 ∙ ap Some (q.1 ∙ homes_same t q.0 h)
    where
      is_whole : is_some (whole_with streams t h.at (log_of streams h.at) (commit_parts (log_of streams h.at) t)) ≡ true
      is_whole =
          ap (λ o. is_some (whole_with streams t h.at (log_of streams h.at) o)) (stream_parts h.at t come.at_home ∙ h.names)
          ∙ ap (λ b. is_some (cond {A = Option (List ℕ)} b (Some (h.at ∷ h.parts)) None))
          (and_from _ _ (subst (λ o. home_is h.at o ≡ true) (sym (stream_prepare h.at t come.at_home)) (home_own h)) come.at_parts)

  -- a member has a home, its COMMITs have come, and on each of its streams who is committed before it is a member
  pub record IsMember (t : TxId) : Type 0 where
    pub home : Home logs t
    pub come : HasCome home
    pub keeps_all : list_all (λ n. list_all (λ p. tx_in p (standby_members streams)) (commits_before t (log_of streams n))) (home.at ∷ home.parts) ≡ true

  pub member_is : (t : TxId) → tx_in t (standby_members streams) ≡ true → IsMember t
  member_is t i =
      let k = list_all_at (keeps streams (standby_members streams)) t (standby_members streams) (members_keep streams) i in
      let w = kept_whole streams (standby_members streams) t k in
      let q = whole_home t w.0 w.1 in
      record {
        home = q.0;
        come = q.2;
        keeps_all = subst (λ o. keeps_on streams (standby_members streams) t o ≡ true) (w.1 ∙ ap Some q.1) k;
      }

  -- on each stream with its COMMIT who is committed before it is a member
  pub before_member : (t p : TxId) (n : ℕ) → tx_in t (standby_members streams) ≡ true → committed_in (log_of streams n) t ≡ true → tx_in p (commits_before t (log_of streams n)) ≡ true → tx_in p (standby_members streams) ≡ true
  before_member t p n i c b =
      let m = member_is t i in
      list_all_at (λ u. tx_in u (standby_members streams)) p (commits_before t (log_of streams n))
      (nat_at (λ k. list_all (λ u. tx_in u (standby_members streams)) (commits_before t (log_of streams k))) n ((m.home).at ∷ (m.home).parts) m.keeps_all (is_of_home m.home n (from_stream n t c))) b
