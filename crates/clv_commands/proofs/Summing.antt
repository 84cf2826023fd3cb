-- What the accounts of a workload hold behind it.
use Rattle.std.proofs.Common.{◌≡◌, refl, sym, ap, subst, ◌∙◌, ◌⊎◌, inl, inr, ⊎_elim, ℕ, zero, suc, ◌≤◌, Bool, true, false, List, [], ◌∷◌, ◌++◌, map, Option, Some, None, slice_get, arith}
use Rattle.std.specs.List.{AllByRecursion}
use Rattle.std.proofs.lemmas.Bool.{both_ways, or_cases}
use Rattle.clv_base.specs.declared.names.TxId.{TxId}
use Rattle.clv_base.specs.Orders.{tx_same, tx_in}
use Rattle.clv_base.specs.Logs.{stands}
use Rattle.clv_base.specs.Maps.{replay_map, replay_answers}
use Rattle.clv_base.specs.Journals.{History}
use Rattle.clv_base.specs.History.{Member, answers_given, serial_acts, serial_answers, acknowledged_in, acts_in}
use Rattle.clv_base.proofs.SameNames.{tx_true}
use Rattle.law_base.proofs.Lists.{all_mono}
use Rattle.io_model.specs.Sides.{Stories}
use Rattle.history_replay.specs.Entries.{Kept}
use Rattle.cluster_runs.specs.Ran.{RanAll}
use Rattle.command_line.specs.declared.status.Status.TheVariants.{Fine}
use Rattle.script_runs.specs.declared.threads.Start.TheVariants.{FirstAlone}
use Rattle.history_replay.specs.Replayed.{replayed}
use Rattle.cluster_runs.specs.Histories.{entries, members_by}
use Rattle.cluster_runs.specs.Members.{IsOfScript, MembersAreOfScript}
use Rattle.cluster_runs.specs.Replays.{RunsReplay}
use Rattle.cluster_runs.specs.Completing.{HasEnded, acknowledged, empty, by_line, given_up, TransactionEnded}
use Rattle.script_lang.specs.declared.actions.Ending.TheVariants.{Commit}
use Rattle.script_lang.specs.declared.actions.Action.{Action}
use Rattle.script_lang.specs.Bodies.{Body}
use Rattle.script_lang.specs.Grammar.{body}
use Rattle.script_lang.specs.Following.{all_acts}
use Rattle.script_lang.specs.Loads.{fill, session, load}
use Rattle.script_runs.specs.Sessions.{Transaction}
use Rattle.session_books.specs.Done.{Done}
use Rattle.script_runs.specs.Acts.{acts_of, answers_in, next_of, numbered}
use Rattle.script_runs.specs.Tries.{Try}
use Rattle.script_runs.specs.TriesLaws.{all_parts}
use Rattle.workload_laws.specs.Sums.{accounts_sum, Follows, Fills, Transfers, WorkloadsKeepTheirSum}
use Rattle.clv_commands.specs.Sums.{LoadsKeepTheirSum}
use Rattle.clv_commands.proofs.Lines.{IsLine, fills, transfers_by, in_load, AreWhole, parts_whole, parts_alone, only_acts, fill_alike}

-- ---- a member

follows : (lines : List Action) (ds : List Done) (m : Member) → acts_of ds ≡ all_acts lines (answers_in ds) → AreWhole ds m.acts → Follows lines m
follows lines ds m all w = w.acts_are ∙ all ∙ ap (all_acts lines) (sym w.answers_are)

kind : (accounts : ℕ) (lines : List Action) (m : Member) → IsLine accounts lines → Follows lines m → Fills accounts m ⊎ Transfers accounts m
kind accounts lines m (fills is) f = inl (subst (λ l. Follows l m) is f)
kind accounts lines m (transfers_by x is) f = inr (x, subst (λ l. Follows l m) is f)

of_workload : (splits : List ℕ) (seed sessions accounts count : ℕ) (h : History) (m : Member) → IsOfScript splits (load seed sessions accounts count) h m → Fills accounts m ⊎ Transfers accounts m
of_workload splits seed sessions accounts count h m is =
    let line = in_load seed sessions accounts count is.session is.number is.bodies is.body is.session_is is.body_is in
    let lines = (is.body).actions in
    kind accounts lines m line (follows lines is.acts m is.all (parts_whole splits accounts lines is.acts m.tx h m.acts line is.all is.told is.parts))

-- ---- the filling

record Filled (splits : List ℕ) (h : History) (accounts : ℕ) : Type 0 where
  tx : TxId
  told : acknowledged_in h tx ≡ true
  answers : _
  acts : numbered (acts_in tx h) ≡ all_parts splits 1 (all_acts (fill 0 accounts) answers)

fill_ended : (splits : List ℕ) (h : History) (accounts : ℕ) (b : Body) (count : ℕ) (last : Try) → 1 ≤ accounts → b ≡ body (fill 0 accounts) Commit → HasEnded splits h None b count last → Filled splits h accounts
fill_ended splits h accounts b count last some is (acknowledged ending so a) =
    record { tx = last.tx; told = a.told; answers = answers_in last.acts; acts = a.acts ∙ ap (λ x. all_parts splits 1 (all_acts x.actions (answers_in last.acts))) is }
fill_ended splits h zero b count last some is (empty ending so none) = absurd (omega arith)
fill_ended splits h (suc n) b count last some is (empty ending so none) = absurd (let e = sym (ap (λ x. next_of x.actions []) is) ∙ none in cc)
fill_ended splits h accounts b count last some is (by_line ending so none) = absurd (let e = sym (ap (λ x. x.ending) is) ∙ ending in cc)
fill_ended splits h accounts b count last some is (given_up older so most) = absurd cc

first_filled : (splits : List ℕ) (h : History) (accounts : ℕ) (bodies : List Body) (trs : List Transaction) → 1 ≤ accounts → map (λ tr. tr.body) trs ≡ body (fill 0 accounts) Commit ∷ bodies → AllByRecursion (TransactionEnded splits h None) trs → Filled splits h accounts
first_filled splits h accounts bodies [] some are each = absurd cc
first_filled splits h accounts bodies (tr ∷ trs) some are each = fill_ended splits h accounts tr.body _ (each.0).last some (let e : tr.body ≡ body (fill 0 accounts) Commit = cc in e) (each.0).ended

-- among members
record IsIn (tx : TxId) (ms : List Member) (P : Member → Type 0) : Type 0 where
  front : List Member
  m : Member
  behind : List Member
  at : ms ≡ front ++ m ∷ behind
  same : m.tx ≡ tx
  is : P m

find_member : (tx : TxId) (P : Member → Type 0) (ms : List Member) → AllByRecursion P ms → tx_in tx (map (λ m. m.tx) ms) ≡ true → IsIn tx ms P
find_member tx P [] all h = absurd (both_ways false refl h)
find_member tx P (m ∷ ms) all h =
    ⊎_elim
    (λ a. record { front = []; m = m; behind = ms; at = refl; same = tx_true m.tx tx a; is = all.0 })
    (λ b. let r = find_member tx P ms all.1 b in record { front = m ∷ r.front; m = r.m; behind = r.behind; at = ap (λ l. m ∷ l) r.at; same = r.same; is = r.is })
    (or_cases (tx_same m.tx tx) (tx_in tx (map (λ x. x.tx) ms)) h)

-- what holds of all holds of those behind one
all_behind : {A : Type 0} (P : A → Type 0) (front : List A) (x : A) (behind : List A) → AllByRecursion P (front ++ x ∷ behind) → AllByRecursion P behind
all_behind P [] x behind all = all.1
all_behind P (y ∷ front) x behind all = all_behind P front x behind all.1

filling_is : (splits : List ℕ) (h : History) (script : List (List Body)) (accounts : ℕ) (f : Filled splits h accounts) (m : Member) → m.tx ≡ f.tx → IsOfScript splits script h m → Fills accounts m
filling_is splits h script accounts f m same is =
    let told : acts_in f.tx h ≡ m.acts = ap (λ t. acts_in t h) (sym same) ∙ sym is.told in
    sym (only_acts m.acts) ∙ ap (λ l. map (λ q. q.1) (numbered l)) (sym told) ∙ ap (map (λ q. q.1)) f.acts ∙ parts_alone splits accounts (fill 0 accounts) f.answers (fills refl)
    ∙ fill_alike accounts f.answers (answers_given m.acts)

-- the first session of a workload begins with the filling
first_session : (seed sessions accounts count : ℕ) → 1 ≤ sessions → slice_get (load seed sessions accounts count) 0 ≡ Some (session seed accounts count 1)
first_session seed zero accounts count some = absurd (omega arith)
first_session seed (suc n) accounts count some = refl

-- the members by what a crash leaves: one fills the accounts, and each behind it does so or is a transfer
record HasFilling (accounts : ℕ) (ms : List Member) : Type 0 where
  front : List Member
  filling : Member
  behind : List Member
  at : ms ≡ front ++ filling ∷ behind
  kinds : AllByRecursion (λ x. Fills accounts x ⊎ Transfers accounts x) behind
  fills : Fills accounts filling

all_kept : ℕ → Bool
all_kept n = true

module _
    (are : MembersAreOfScript) (seed sessions accounts count : ℕ) (before now : ℕ → Option Stories) (counts counts_now : ℕ → ℕ) (kept : Kept) (some : 1 ≤ sessions) (two : 2 ≤ accounts)
    (r : RanAll before now counts counts_now None FirstAlone (load seed sessions accounts count) kept Fine) where
  abbrev ms : List Member
  ms = members_by r.splits kept ((r.promised).keeps).left all_kept

  has_filling : HasFilling accounts ms
  has_filling =
      let script = load seed sessions accounts count in
      let h = entries kept in
      let all = are r.splits before now counts counts_now None script r.went kept all_kept r.opens r.promised r.told.1 in
      let s = r.ended tt 0 (session seed accounts count 1) (first_session seed sessions accounts count some) in
      let f = first_filled r.splits h accounts _ s.transactions (omega arith) s.bodies_are s.each in
      let m = find_member f.tx (IsOfScript r.splits script h) ms all ((((r.promised).keeps).promised all_kept).acknowledged f.tx f.told) in
      let kinds = all_mono (IsOfScript r.splits script h) (λ x. Fills accounts x ⊎ Transfers accounts x) (of_workload r.splits seed sessions accounts count h) ms all in
      record {
        front = m.front;
        filling = m.m;
        behind = m.behind;
        at = m.at;
        kinds = all_behind (λ x. Fills accounts x ⊎ Transfers accounts x) m.front m.m m.behind (subst (AllByRecursion (λ x. Fills accounts x ⊎ Transfers accounts x)) m.at kinds);
        fills = filling_is r.splits h script accounts f m.m m.same m.is;
      }

  -- what the members were told is what they find
  told : (f : HasFilling accounts ms) → replay_answers (stands kept.found) (serial_acts (f.front ++ f.filling ∷ f.behind)) ≡ serial_answers (f.front ++ f.filling ∷ f.behind)
  told f = subst (λ l. replay_answers (stands kept.found) (serial_acts l) ≡ serial_answers l) f.at (((r.promised).keeps).promised all_kept).answers

pub loads_keep : MembersAreOfScript → RunsReplay → WorkloadsKeepTheirSum → LoadsKeepTheirSum
loads_keep are replay keep seed sessions accounts count before now counts counts_now kept some two r =
    let f = has_filling are seed sessions accounts count before now counts counts_now kept some two r in
    let promised = ((r.promised).keeps).promised all_kept in
    let sum = keep accounts kept.found f.front f.behind f.filling two (told are seed sessions accounts count before now counts counts_now kept some two r f) f.kinds f.fills in
    let map_is : replayed kept ≡ replay_map (stands kept.found) (serial_acts (f.front ++ f.filling ∷ f.behind)) =
    sym (replay r.splits before now counts counts_now None (load seed sessions accounts count) r.went kept r.opens r.promised r.told.1 all_kept) ∙ sym promised.map ∙ ap (λ l. replay_map (stands kept.found) (serial_acts l)) f.at in
    ap (accounts_sum accounts) map_is ∙ sum
