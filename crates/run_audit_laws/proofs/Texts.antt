-- The text of a run's report, and of what was shown before it.
use Rattle.std.proofs.Common.{◌≡◌, true, refl, sym, ap, subst, ◌∙◌, ℕ, suc, ◌<◌, List, [], ◌∷◌, ◌++◌, append_assoc, map, length, arith}
use Rattle.std.specs.List.{list_all}
use Rattle.std.proofs.lemmas.Bool.{and_parts, and_from}
use Rattle.std.proofs.lemmas.List.Folds.{list_all-append}
use Rattle.clv_base.specs.Maps.{KeyMap}
use Rattle.clv_base.specs.Logs.{stands}
use Rattle.law_base.proofs.Lists.{append_nil}
use Rattle.session_books.specs.declared.books.Row.{Row}
use Rattle.session_books.specs.Counts.{counts_in}
use Rattle.session_books.specs.Books.{rows}
use Rattle.report_text.specs.Lines.{line, pair, transaction}
use Rattle.report_text.specs.Counts.{summary}
use Rattle.report_text.specs.Report.{row_lines, report, pairs_text}
use Rattle.report_reading.specs.declared.told.Line.{Line}
use Rattle.report_reading.specs.declared.told.Line.TheVariants.{Sums}
use Rattle.report_reading.specs.Texts.{line_text, can_stand, fits_counts, counts_of, pair_lines, tx_lines, texts_of, joined}
use Rattle.report_reading.specs.declared.told.ReportedTx.{ReportedTx}
use Rattle.report_reading.specs.Told.{fits_pair, can_be_told}
use Rattle.clv_audit.proofs.Laws.{stands_rises}
use Rattle.audit_laws.specs.Reports.{reported_of}
use Rattle.cluster_runs.specs.Histories.{entries}
use Rattle.cluster_runs.specs.Replays.{RunsReplay, NothingIsReplayed}
use Rattle.cluster_runs.specs.Following.{LeftLogsAreFound}
use Rattle.run_audit_laws.proofs.Fitting.{stands_fit, all_spelled}
use Rattle.run_audit_laws.specs.Runs.{told_by, ShownIsFound, ReportsAreTexts, RunsCanBeTold, TextsAreReports}

pub shown_is_found : LeftLogsAreFound → RunsReplay → NothingIsReplayed → ShownIsFound
shown_is_found law replay nothing splits splits' before now next counts counts_now most went kept found may p again held =
    let f = (law splits splits' before now next kept found p.keeps again held).1 in
    ap stands f.1 ∙ replay splits before now counts counts_now most [] went kept may p (λ k low. absurd (omega (arith, low))) f.0
    ∙ nothing splits before now counts counts_now most went kept p

joined_append : (xs ys : List Line) → joined (texts_of (xs ++ ys)) ≡ joined (texts_of xs) ++ joined (texts_of ys)
joined_append [] ys = refl
joined_append (x ∷ xs) ys = ap (λ (t : List ℕ). line_text x ++ t) (joined_append xs ys) ∙ sym (append_assoc (line_text x) (joined (texts_of xs)) (joined (texts_of ys)))

of_pairs : (ps : KeyMap) → joined (texts_of (pair_lines ps)) ≡ pairs_text ps
of_pairs [] = refl
of_pairs (p ∷ ps) = ap (λ (t : List ℕ). line (pair p) ++ t) (of_pairs ps)

of_rows : (rs : List Row) → joined (texts_of (tx_lines (map reported_of rs))) ≡ row_lines rs
of_rows [] = refl
of_rows (r ∷ rs) = ap (λ (t : List ℕ). line (transaction r.tx r.ops) ++ t) (of_rows rs)

same_length : (rs : List Row) → length (map reported_of rs) ≡ length rs
same_length [] = refl
same_length (r ∷ rs) = ap suc (same_length rs)

pub reports_are_texts : ReportsAreTexts
reports_are_texts kept counted =
    let h = entries kept in
    let c = counts_in h h in
    let r = told_by kept in
    let sums : line (summary (counts_of r)) ≡ line (summary c) = ap (λ (n : ℕ). line (summary (record { acknowledged = n; unsettled = c.unsettled; aborted = c.aborted }))) (same_length (rows h) ∙ sym counted) in
    let behind : joined (texts_of (tx_lines r.txs ++ Sums (counts_of r) ∷ [])) ≡ report h =
    joined_append (tx_lines r.txs) (Sums (counts_of r) ∷ []) ∙ ap (λ (t : List ℕ). t ++ joined (texts_of (Sums (counts_of r) ∷ []))) (of_rows (rows h))
    ∙ ap (λ (t : List ℕ). row_lines (rows h) ++ t) (append_nil (line (summary (counts_of r))) ∙ sums) in
    sym (joined_append (pair_lines r.pairs) (tx_lines r.txs ++ Sums (counts_of r) ∷ []) ∙ ap (λ (t : List ℕ). t ++ joined (texts_of (tx_lines r.txs ++ Sums (counts_of r) ∷ []))) (of_pairs (stands kept.found))
    ∙ ap (λ (t : List ℕ). pairs_text (stands kept.found) ++ t) behind)

-- ---- lines that may stand

pairs_stand : (ps : KeyMap) → list_all fits_pair ps ≡ true → list_all can_stand (pair_lines ps) ≡ true
pairs_stand [] h = refl
pairs_stand (p ∷ ps) h = let both = and_parts (fits_pair p) (list_all fits_pair ps) h in and_from _ _ both.0 (pairs_stand ps both.1)

txs_stand : (ts : List ReportedTx) → list_all can_be_told ts ≡ true → list_all can_stand (tx_lines ts) ≡ true
txs_stand [] h = refl
txs_stand (t ∷ ts) h = let both = and_parts (can_be_told t) (list_all can_be_told ts) h in and_from _ _ both.0 (txs_stand ts both.1)

counts_stand : (a b u c : ℕ) → a ≡ b → fits_counts (record { acknowledged = b; unsettled = u; aborted = c }) ≡ true → fits_counts (record { acknowledged = a; unsettled = u; aborted = c }) ≡ true
counts_stand a b u c e h = ap (λ (n : ℕ). fits_counts (record { acknowledged = n; unsettled = u; aborted = c })) e ∙ h

pub texts_are_reports : ReportsAreTexts → RunsCanBeTold → TextsAreReports
texts_are_reports law tells splits before now counts counts_now most script went kept bytes held may p gone is short =
    let r = told_by kept in
    let c = counts_in (entries kept) (entries kept) in
    let can = tells splits before now counts counts_now most script went kept bytes held may p gone is in
    let spelled = all_spelled kept.found (λ n l. (held.each n (subst (λ (k : ℕ). n < k) held.count l)).spelled) in
    let last : list_all can_stand (Sums (counts_of r) ∷ []) ≡ true =
    and_from _ _ (counts_stand (length r.txs) c.acknowledged c.unsettled c.aborted (same_length (rows (entries kept)) ∙ sym can.counted) can.counts) refl in
    let behind = list_all-append can_stand (tx_lines r.txs) (Sums (counts_of r) ∷ []) ∙ and_from _ _ (txs_stand r.txs can.each) last in
    let all = list_all-append can_stand (pair_lines r.pairs) (tx_lines r.txs ++ Sums (counts_of r) ∷ []) ∙ and_from _ _ (pairs_stand r.pairs (stands_fit kept.found spelled)) behind in
    record { short = short; can = record { rises = stands_rises kept.found; each = all }; text = law kept can.counted }
