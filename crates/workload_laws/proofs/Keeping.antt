-- A workload's transactions, one after another.
use Rattle.std.proofs.Common.{◌≡◌, refl, sym, ap, subst, ◌∙◌, ◌⊎◌, inl, inr, ℕ, zero, suc, ◌≤◌, nat_le, Bool, true, false, cond, List, [], ◌∷◌, ◌++◌, map, arith}
use Rattle.std.specs.List.{AllByRecursion, list_all}
use Rattle.clv_base.specs.declared.logs.LogRecord.{LogRecord}
use Rattle.clv_base.specs.declared.ops.Op.{Op}
use Rattle.clv_base.specs.declared.ops.Answer.{Answer}
use Rattle.clv_base.specs.Logs.{stands, stands_from, committed_somewhere}
use Rattle.clv_base.specs.Maps.{KeyMap, ops_after, ops_answers, Act, Operates, GoesBack, Acts, Trail, map_now, map_up_to, act_after, act_answers, acts_after, acts_answers, replay_map, replay_answers}
use Rattle.clv_base.specs.History.{DoneAct, Member, answers_given, serial_acts, serial_answers}
use Rattle.clv_base.specs.Folding.{IsRising}
use Rattle.clv_base.proofs.Folding.{rising_after}
use Rattle.law_base.proofs.Logs.{fold_rises}
use Rattle.clv_base.specs.declared.names.TxId.{TxId}
use Rattle.script_lang.specs.declared.actions.Action.TheVariants.{Move}
use Rattle.script_lang.specs.declared.actions.Action.{Action}
use Rattle.script_lang.specs.Loads.{fill}
use Rattle.script_lang.proofs.Laws.{all_ops, is_plain, plain_acts}
use Rattle.script_lang.specs.WorkloadLaws.{TransfersKeepToAccounts}
use Rattle.workload_laws.specs.Sums.{Follows, Fills, Transfers, WorkloadsKeepTheirSum}
use Rattle.workload_laws.proofs.Held.{sum_is_held}
use Rattle.workload_laws.proofs.Moving.{IsBalanced, filled, transferred}

-- ---- keys rise

abbrev AllRise : Trail → Type 0
AllRise trail = AllByRecursion (λ p. IsRising p.1) trail

now_rises : (m : KeyMap) (trail : Trail) → IsRising m → AllRise trail → IsRising (map_now m trail)
now_rises m [] h all = h
now_rises m (p ∷ ps) h all = all.0

either_rises : (b : Bool) (m n : KeyMap) → IsRising m → IsRising n → IsRising (cond b m n)
either_rises true m n h k = h
either_rises false m n h k = k

up_to_rises : (u : ℕ) (m : KeyMap) (trail : Trail) → IsRising m → AllRise trail → IsRising (map_up_to u m trail)
up_to_rises u m [] h all = h
up_to_rises u m (p ∷ ps) h all = either_rises (nat_le p.0 u) p.1 (map_up_to u m ps) all.0 (up_to_rises u m ps h all.1)

act_rises : (a : Act) (m : KeyMap) (trail : Trail) → IsRising m → AllRise trail → IsRising (act_after a m trail)
act_rises (Operates op) m trail h all = rising_after op (map_now m trail) (now_rises m trail h all)
act_rises (GoesBack upto) m trail h all = up_to_rises upto m trail h all

acts_rise : (as_ : Acts) (m : KeyMap) (trail : Trail) → IsRising m → AllRise trail → IsRising (acts_after as_ m trail)
acts_rise [] m trail h all = now_rises m trail h all
acts_rise (a ∷ as_) m trail h all = acts_rise as_ m ((a.0, act_after a.1 m trail) ∷ trail) h (act_rises a.1 m trail h all, all)

pub replay_rises : (ts : List Acts) (m : KeyMap) → IsRising m → IsRising (replay_map m ts)
replay_rises [] m h = h
replay_rises (t ∷ ts) m h = replay_rises ts (acts_after t m []) (acts_rise t m [] h tt)

logs_rise : (keep : TxId → Bool) (logs : List (List LogRecord)) (m : KeyMap) → IsRising m → IsRising (stands_from keep logs m)
logs_rise keep [] m h = h
logs_rise keep (log ∷ logs) m h = logs_rise keep logs _ (fold_rises keep log m h)

-- ---- lines without savepoints

abbrev did_in : List DoneAct → Acts
did_in ps = map (λ p. (p.0, p.1)) ps

only_acts : (ps : List DoneAct) → map (λ a. a.1) (did_in ps) ≡ map (λ p. p.1) ps
only_acts [] = refl
only_acts (p ∷ ps) = ap (λ l. p.1 ∷ l) (only_acts ps)

-- operations alone go on from the map that is there
plain_after : (as_ : Acts) (ops : List Op) (m : KeyMap) (trail : Trail) → map (λ a. a.1) as_ ≡ map Operates ops → acts_after as_ m trail ≡ ops_after ops (map_now m trail)
plain_after [] [] m trail is = refl
plain_after [] (o ∷ os) m trail is = absurd cc
plain_after (a ∷ as_) [] m trail is = absurd cc
plain_after (a ∷ as_) (o ∷ os) m trail is =
    let here : a.1 ≡ Operates o = cc in
    let rest : map (λ b. b.1) as_ ≡ map Operates os = cc in
    plain_after as_ os m ((a.0, act_after a.1 m trail) ∷ trail) rest ∙ ap (λ x. ops_after os (act_after x m trail)) here

plain_answers : (as_ : Acts) (ops : List Op) (m : KeyMap) (trail : Trail) → map (λ a. a.1) as_ ≡ map Operates ops → acts_answers as_ m trail ≡ ops_answers ops (map_now m trail)
plain_answers [] [] m trail is = refl
plain_answers [] (o ∷ os) m trail is = absurd cc
plain_answers (a ∷ as_) [] m trail is = absurd cc
plain_answers (a ∷ as_) (o ∷ os) m trail is =
    let here : a.1 ≡ Operates o = cc in
    let rest : map (λ b. b.1) as_ ≡ map Operates os = cc in
    ap (λ l. act_answers a.1 (map_now m trail) ++ l) (plain_answers as_ os m ((a.0, act_after a.1 m trail) ∷ trail) rest)
    ∙ ap (λ x. act_answers x (map_now m trail) ++ ops_answers os (act_after x m trail)) here

fill_is_plain : (k n : ℕ) → list_all is_plain (fill k n) ≡ true
fill_is_plain k zero = refl
fill_is_plain k (suc n) = fill_is_plain (suc k) n

-- ---- transactions

abbrev pub did : Member → Acts
did m = did_in m.acts

abbrev pub told : Member → List Answer
told m = answers_given m.acts

-- what a member did that follows such lines are their operations
plain_did : (lines : List Action) (t : Member) → list_all is_plain lines ≡ true → Follows lines t → map (λ a. a.1) (did t) ≡ map Operates (all_ops lines (told t))
plain_did lines t plain is = only_acts t.acts ∙ is ∙ plain_acts lines (told t) plain

module _ (keeps : TransfersKeepToAccounts) (accounts : ℕ) (two : 2 ≤ accounts) where
  after_filling : (t : Member) (m : KeyMap) → Fills accounts t → IsBalanced accounts (acts_after (did t) m [])
  after_filling t m is =
      let lines = fill 0 accounts in
      subst (IsBalanced accounts) (sym (plain_after (did t) (all_ops lines (told t)) m [] (plain_did lines t (fill_is_plain 0 accounts) is))) (filled accounts (told t) m)

  after_transfer : (t : Member) (m : KeyMap) → Transfers accounts t → acts_answers (did t) m [] ≡ told t → IsBalanced accounts m → IsBalanced accounts (acts_after (did t) m [])
  after_transfer t m (x, is) answers balanced =
      let (from, to, amount, same, from_in, to_in, apart, some, few) = keeps accounts x two in
      let lines : List Action = Move from to amount ∷ [] in
      let follows : Follows lines t = subst (λ (a : Action). Follows (a ∷ []) t) same is in
      let ops = plain_did lines t refl follows in
      subst (IsBalanced accounts) (sym (plain_after (did t) (all_ops lines (told t)) m [] ops))
      (transferred accounts from to amount m from_in to_in apart balanced (told t) (sym (plain_answers (did t) (all_ops lines (told t)) m [] ops) ∙ answers))

  stays_balanced : (ts : List Member) (m : KeyMap) → replay_answers m (serial_acts ts) ≡ serial_answers ts → AllByRecursion (λ t. Fills accounts t ⊎ Transfers accounts t) ts → IsBalanced accounts m → IsBalanced accounts (replay_map m (serial_acts ts))
  stays_balanced [] m answers all balanced = balanced
  stays_balanced (t ∷ ts) m answers (kind, all) balanced =
      let here : acts_answers (did t) m [] ≡ told t = cc in
      let rest : replay_answers (acts_after (did t) m []) (serial_acts ts) ≡ serial_answers ts = cc in
      stays_balanced ts (acts_after (did t) m []) rest all (at kind here)
    where
      at : Fills accounts t ⊎ Transfers accounts t → acts_answers (did t) m [] ≡ told t → IsBalanced accounts (acts_after (did t) m [])
      at (inl fills) here = after_filling t m fills
      at (inr transfers) here = after_transfer t m transfers here balanced

  pub gets_balanced : (front behind : List Member) (f : Member) (m : KeyMap) → replay_answers m (serial_acts (front ++ f ∷ behind)) ≡ serial_answers (front ++ f ∷ behind) → AllByRecursion (λ t. Fills accounts t ⊎ Transfers accounts t) behind → Fills accounts f
      → IsBalanced accounts (replay_map m (serial_acts (front ++ f ∷ behind)))
  gets_balanced [] behind f m answers all fills =
      let rest : replay_answers (acts_after (did f) m []) (serial_acts behind) ≡ serial_answers behind = cc in
      stays_balanced behind (acts_after (did f) m []) rest all (after_filling f m fills)
  gets_balanced (t ∷ front) behind f m answers all fills =
      let rest : replay_answers (acts_after (did t) m []) (serial_acts (front ++ f ∷ behind)) ≡ serial_answers (front ++ f ∷ behind) = cc in
      gets_balanced front behind f (acts_after (did t) m []) rest all fills

pub workloads_keep : TransfersKeepToAccounts → WorkloadsKeepTheirSum
workloads_keep keeps accounts logs front behind f two answers all fills =
    let end = replay_map (stands logs) (serial_acts (front ++ f ∷ behind)) in
    let is = gets_balanced keeps accounts two front behind f (stands logs) answers all fills in
    let sum = sum_is_held accounts end (omega arith) (replay_rises (serial_acts (front ++ f ∷ behind)) (stands logs) (logs_rise (committed_somewhere logs) logs [] tt)) is.filled in
    let total = is.sum in
    omega arith
