-- Members of streams.
use Rattle.std.proofs.Common.{◌≡◌, inl, inr, ⊎_elim, ℕ, zero, suc, ◌<◌, ◌≤◌, arith, Bool, true, List, [], ◌∷◌, length, refl, sym, ap, subst, ◌∙◌}
use Rattle.std.specs.Prelude.{take}
use Rattle.std.specs.List.{list_all}
use Rattle.std.proofs.lemmas.Bool.{and_parts, and_from, cases_lt}
use Rattle.clv_base.specs.declared.names.TxId.{TxId}
use Rattle.clv_base.specs.declared.logs.LogRecord.{LogRecord}
use Rattle.clv_base.specs.Orders.{tx_in}
use Rattle.clv_base.specs.Shards.{shard_count}
use Rattle.clv_base.specs.Logs.{committed_in}
use Rattle.clv_base.specs.LogRules.{log_of}
use Rattle.clv_base.specs.Journals.{History, final_of}
use Rattle.clv_base.specs.History.{logs_left}
use Rattle.law_base.proofs.Names.{all_from}
use Rattle.history_laws.proofs.LogsLeftPass.{left_length}
use Rattle.history_laws.proofs.NeverTakenBack.{log_now}
use Rattle.fate_laws.proofs.Homes.DecidedStaysDecided.{commits_are_members}
use Rattle.shard_laws.proofs.Cuts.WhatCutsHold.{cut_keeps}
use Rattle.headline_laws.proofs.LogsLeftMayBeOpened.{logs_left_may_be_opened}
use Rattle.headline_laws.proofs.MembersReplayWhereHere.{left_run}
use Rattle.headline_laws.proofs.AtOpening.EarlierOnesStoodThere.{somewhere_at_opening}
use Rattle.standby_base.specs.Standby.{commits_before, keeps_on, keeps, standby_members}
use Rattle.standby_base.proofs.Greatest.{kept_are_members}
use Rattle.standby_laws.specs.Streams.{Fed, none_kept, MembersStand, MembersStay}
use Rattle.standby_laws.proofs.Fronts.{take_less}
use Rattle.standby_laws.proofs.Cuts.{AreCuts, committed_within, before_cut, from_stream, come_whole, member_is}

-- ---- streams of a legal history are cuts of the logs that a crash leaves which keeps nothing

pub beyond : (logs : List (List LogRecord)) (n : ℕ) → length logs ≤ n → log_of logs n ≡ []
beyond [] n l = refl
beyond (log ∷ logs) zero l = absurd (omega (arith, l))
beyond (log ∷ logs) (suc n) l = beyond logs n (omega (arith, l))

pub fed_cuts : {splits : List ℕ} {before after streams : List (List LogRecord)} {h : History} → Fed splits before h after streams → AreCuts splits (logs_left splits before h after none_kept) streams
fed_cuts {splits} {before} {after} {streams} {h} f = record { opens = logs_left_may_be_opened splits before h after none_kept f.legal; cut = cut }
  where
    inside : (n : ℕ) → n < shard_count splits → (k : ℕ) × (log_of streams n ≡ take k (log_of (logs_left splits before h after none_kept) n))
    inside n l =
        let s = f.streams_of n l in
        (s.0, s.2 ∙ take_less s.0 (final_of before h after n).durable (final_of before h after n).local.log s.1 ∙ ap (take s.0) (sym (log_now splits before h after none_kept n l)))

    cut : (n : ℕ) → (k : ℕ) × (log_of streams n ≡ take k (log_of (logs_left splits before h after none_kept) n))
    cut n = ⊎_elim (λ l. inside n l) (λ l. (0, beyond streams n (let e = f.each in omega (arith, e, l)))) (cases_lt n (shard_count splits))

-- ---- members stand

pub members_stand : MembersStand
members_stand splits before after streams h tx f i =
    let cuts = fed_cuts f in
    let m = member_is cuts tx i in
    let n = (m.home).at in
    let c : committed_in (log_of (logs_left splits before h after none_kept) n) tx ≡ true = from_stream cuts n tx (m.come).at_home in
    let l : n < shard_count splits = (let e = left_length splits before h after none_kept in let w = committed_within (logs_left splits before h after none_kept) n tx c in omega (arith, e, w)) in
    ⊎_elim (λ r. inl (commits_are_members splits before h after none_kept n tx f.legal l r c)) (λ r. inr (somewhere_at_opening f.legal none_kept n tx l r c))
    (left_run f.legal none_kept n tx l c)

-- ---- members stay

all_come : (P Q : ℕ → Bool) (ns : List ℕ) → ((n : ℕ) → P n ≡ true → Q n ≡ true) → list_all P ns ≡ true → list_all Q ns ≡ true
all_come P Q [] k a = refl
all_come P Q (n ∷ ns) k a = let p = and_parts (P n) (list_all P ns) a in and_from (Q n) (list_all Q ns) (k n p.0) (all_come P Q ns k p.1)

all_both_come : (P Q R : ℕ → Bool) (ns : List ℕ) → ((n : ℕ) → P n ≡ true → Q n ≡ true → R n ≡ true) → list_all P ns ≡ true → list_all Q ns ≡ true → list_all R ns ≡ true
all_both_come P Q R [] k a b = refl
all_both_come P Q R (n ∷ ns) k a b =
    let p = and_parts (P n) (list_all P ns) a in let q = and_parts (Q n) (list_all Q ns) b in and_from (R n) (list_all R ns) (k n p.0 q.0) (all_both_come P Q R ns k p.1 q.1)

module _ {splits : List ℕ} {logs streams more : List (List LogRecord)} (cuts : AreCuts splits logs streams) (later : AreCuts splits logs more)
    (grows : (n : ℕ) → (k : ℕ) × (log_of streams n ≡ take k (log_of more n))) where
  comes : (n : ℕ) (t : TxId) → committed_in (log_of streams n) t ≡ true → committed_in (log_of more n) t ≡ true
  comes n t c = let k = grows n in cut_keeps k.0 (log_of more n) t (subst (λ l. committed_in l t ≡ true) k.1 c)

  same_before : (n : ℕ) (t : TxId) → committed_in (log_of streams n) t ≡ true → commits_before t (log_of more n) ≡ commits_before t (log_of streams n)
  same_before n t c = let k = grows n in before_cut k.0 (log_of more n) t (subst (λ l. committed_in l t ≡ true) k.1 c) ∙ ap (commits_before t) (sym k.1)

  still_kept : (t : TxId) → tx_in t (standby_members streams) ≡ true → keeps more (standby_members streams) t ≡ true
  still_kept t i =
      let m = member_is cuts t i in
      let home = m.home in
      let come = m.come in
      let there : list_all (λ s. committed_in (log_of streams s) t) (home.at ∷ home.parts) ≡ true = and_from _ _ come.at_home come.at_parts in
      ap (keeps_on more (standby_members streams) t) (come_whole later t home (record { at_home = comes home.at t come.at_home; at_parts = all_come _ _ home.parts (λ n c. comes n t c) come.at_parts }))
      ∙ all_both_come (λ s. committed_in (log_of streams s) t) (λ n. list_all (λ p. tx_in p (standby_members streams)) (commits_before t (log_of streams n))) (λ n. list_all (λ p. tx_in p (standby_members streams)) (commits_before t (log_of more n)))
      (home.at ∷ home.parts) (λ n c k. subst (λ l. list_all (λ p. tx_in p (standby_members streams)) l ≡ true) (sym (same_before n t c)) k) there m.keeps_all

  pub stay : (t : TxId) → tx_in t (standby_members streams) ≡ true → tx_in t (standby_members more) ≡ true
  stay t i = kept_are_members more (standby_members streams) (all_from (keeps more (standby_members streams)) (standby_members streams) still_kept) t i

pub members_stay : MembersStay
members_stay splits before after streams more h tx f g grows i = stay (fed_cuts f) (fed_cuts g) all tx i
  where
    all : (n : ℕ) → (k : ℕ) × (log_of streams n ≡ take k (log_of more n))
    all n = ⊎_elim (λ l. grows n l) (λ l. (0, beyond streams n (let e = f.each in omega (arith, e, l)))) (cases_lt n (shard_count splits))
