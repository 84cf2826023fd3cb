-- Runs whose sessions all went through.
use Rattle.std.proofs.Common.{◌≡◌, inl, inr, refl, ap, subst, ◌∙◌, ℕ, Bool, true, false, cond, not, ◌&&◌, List, [], ◌∷◌, map, Option, Some, None}
use Rattle.std.specs.List.{AllByRecursion}
use Rattle.std.proofs.lemmas.Bool.{both_ways, or_cases}
use Rattle.clv_base.specs.declared.names.TxId.{TxId}
use Rattle.clv_base.specs.declared.names.Birth.{Birth}
use Rattle.clv_base.specs.Orders.{tx_same, tx_in}
use Rattle.clv_base.specs.Journals.{History}
use Rattle.clv_base.specs.History.{Member, has_request, acts_in}
use Rattle.clv_base.proofs.SameNames.{tx_true}
use Rattle.session_books.specs.Told.{has_birth, has_look, told_in, try_of}
use Rattle.session_books.specs.declared.counts.Counts.{Counts}
use Rattle.session_books.specs.Counts.{has_acknowledged_try, is_open, counted, count_try, counts_in}
use Rattle.script_runs.specs.Acts.{numbered}
use Rattle.audit_laws.specs.Reports.{ReportsAreTrue}
use Rattle.audit_laws.proofs.EntriesAreWhole.{entries_are_numbered}
use Rattle.audit_laws.proofs.ReportsAreTrue.{acts_are_told}
use Rattle.cluster_runs.specs.Histories.{entries, members_by}
use Rattle.cluster_runs.specs.Members.{IsOfScript, MembersAreOfScript}
use Rattle.cluster_runs.specs.Replays.{RequestsAreTold}
use Rattle.run_audit_laws.specs.Runs.{NothingIsUnsettled, ScansStandWhole, ReportsOfRunsAreTrue}
use Rattle.run_audit_laws.proofs.Looking.{requests_are_looked_for}
use Rattle.run_audit_laws.proofs.Parts.{ActsAreWhole, acts_are_whole}
use Rattle.run_audit_laws.proofs.Scans.{scans_are_whole}

-- ---- scans

record Found (P : Member → Type 0) (t : TxId) : Type 0 where
  member : Member
  named : member.tx ≡ t
  holds : P member

find : (P : Member → Type 0) (t : TxId) (ms : List Member) → AllByRecursion P ms → tx_in t (map (λ (m : Member). m.tx) ms) ≡ true → Found P t
find P t [] all is = absurd (both_ways false refl is)
find P t (m ∷ ms) all is =
    elim (or_cases (tx_same m.tx t) (tx_in t (map (λ (k : Member). k.tx) ms)) is) [
      | inl here ↦ record { member = m; named = tx_true m.tx t here; holds = all.0 }
      | inr later ↦ find P t ms all.1 later
    ]

pub scans_stand_whole : MembersAreOfScript → ScansStandWhole
scans_stand_whole law splits before now counts counts_now most script went kept may p gone t acked =
    let choice : ℕ → Bool = λ n. true in
    let h = entries kept in
    let legal = ((p.keeps).legal).legal in
    let f = find (IsOfScript splits script h) t (members_by splits kept (p.keeps).left choice) (law splits before now counts counts_now most script went kept choice may p gone) (((p.keeps).promised choice).acknowledged t acked) in
    let m = f.holds in
    let whole : ActsAreWhole (numbered (f.member).acts) = acts_are_whole splits legal.splits_rise 1 m.acts (f.member).acts m.parts in
    let acts_are = m.told ∙ ap (λ (u : TxId). acts_in u h) f.named ∙ acts_are_told t h in
    scans_are_whole None (told_in t h) (entries_are_numbered splits kept.found h (p.keeps).left t legal acked) (subst (λ l. ActsAreWhole (numbered l)) acts_are whole)

-- ---- counts

not_open : (h : History) (t : TxId) → (has_request t h ≡ true → has_look t h ≡ true) → is_open h t ≡ false
not_open h t f = at (has_request t h) (has_look t h) f
  where
    at : (a b : Bool) → (a ≡ true → b ≡ true) → (a && not b) ≡ false
    at false b g = refl
    at true true g = refl
    at true false g = absurd (both_ways false refl (g refl))

still_settled : (h : History) → ((t : TxId) → is_open h t ≡ false) → (o : Option (TxId × Birth)) (later : History) (c : Counts) → c.unsettled ≡ 0 → (count_try h o later c).unsettled ≡ 0
still_settled h none None later c e = e
still_settled h none (Some q) later c e = at (has_birth q.1 later) (has_acknowledged_try h q.1 h) (is_open h q.0) (none q.0)
  where
    at : (a b d : Bool) → d ≡ false → (cond a c (counted b d c)).unsettled ≡ 0
    at true b d f = e
    at false true d f = e
    at false false true f = absurd (both_ways true f refl)
    at false false false f = e

all_settled : (h : History) → ((t : TxId) → is_open h t ≡ false) → (es : History) → (counts_in h es).unsettled ≡ 0
all_settled h none [] = refl
all_settled h none (e ∷ es) = still_settled h none (try_of (e.1).event) es (counts_in h es) (all_settled h none es)

pub nothing_is_unsettled : RequestsAreTold → NothingIsUnsettled
nothing_is_unsettled law splits before now counts counts_now most script went kept p gone =
    let h = entries kept in
    all_settled h
    (λ t. not_open h t (requests_are_looked_for splits kept.found h (p.keeps).left ((p.keeps).legal).legal (law splits before now counts counts_now most script went kept p gone) t)) h

-- ---- the report

pub reports_of_runs_are_true : ReportsAreTrue → ScansStandWhole → NothingIsUnsettled → ReportsOfRunsAreTrue
reports_of_runs_are_true law scans settled splits before now counts counts_now most script went kept choice r may p gone told =
    law splits kept.found (entries kept) (p.keeps).left choice r (record { opens = may; legal = ((p.keeps).legal).legal })
    (settled splits before now counts counts_now most script went kept p gone) (scans splits before now counts counts_now most script went kept may p gone) told
