use Rattle.std.proofs.Common.{[], ◌∷◌, ◌++◌, map, List, ℕ, sym, ap, subst, ◌∙◌}
use Rattle.std.proofs.lemmas.List.{map-append}
use Rattle.std.specs.List.{AllByRecursion}
use Rattle.log_records.specs.FileSpelling.{file_spelling}
use Rattle.checkpoint_taking.specs.Cut.{FitsBatch, fits_behind, joined}
use Rattle.checkpoint_taking.proofs.Sizes.{spelling_fits}
use Rattle.checkpoint_taking.proofs.Joining.{joins_last, begins_next, another_fits, longer_fits, one_more_fits}
use Rattle.checkpoint_taking.proofs.batches.Batches.put.Goals as goal

pub invariant_of-self-then-fits_behind : goal.invariant_of-self-then-fits_behind
invariant_of-self-then-fits_behind c =
    let full : List (List ℕ) = map (λ v. v.items) c.self.inside.full.items in
    let fits = sym c.if-fits_behind.true ∙ c.fits_behind.ensures ∙ ap (λ l. fits_behind l (file_spelling c.args.r.now)) c.as_slice.ensures.value in
    subst (λ l. AllByRecursion FitsBatch (full ++ l ∷ [])) (sym c.in_ok-encode_in_file.ensures.appended)
    (longer_fits full c.self.inside.last.items (file_spelling c.args.r.now) c.self.invariant fits)

pub returns-then-fits_behind : goal.returns-then-fits_behind
returns-then-fits_behind c =
    let full : List (List ℕ) = map (λ v. v.items) c.self.inside.full.items in
    let fits = sym c.if-fits_behind.true ∙ c.fits_behind.ensures ∙ ap (λ l. fits_behind l (file_spelling c.args.r.now)) c.as_slice.ensures.value in
    ap (λ l. full ++ l ∷ []) c.in_ok-encode_in_file.ensures.appended
    ∙ joins_last full c.self.inside.last.items (file_spelling c.args.r.now) fits
    ∙ ap (λ ps. joined ps (file_spelling c.args.r.now)) c.self.view_is

pub invariant_of-self-in_err-push : goal.invariant_of-self-in_err-push
invariant_of-self-in_err-push c =
    let full : List (List ℕ) = map (λ v. v.items) c.self.inside.full.items in
    let next = ap (λ v. v.items) c.replace.ensures.after ∙ c.in_ok-next.ensures in
    subst (λ vs. AllByRecursion FitsBatch (map (λ v. v.items) vs ++ c.replace.new.dest.items ∷ [])) (sym c.in_err-push.ensures.items)
    (subst (λ l. AllByRecursion FitsBatch (full ++ l ∷ [])) (sym next)
    (another_fits full c.self.inside.last.items (file_spelling c.args.r.now) c.self.invariant (spelling_fits c.length_is_size_in_file.ensures c.args.r.now c.requires)))

pub invariant_of-self-2 : goal.invariant_of-self-2
invariant_of-self-2 c =
    let full : List (List ℕ) = map (λ v. v.items) c.self.inside.full.items in
    let pushed = ap (map (λ v. v.items)) (c.in_ok-push.ensures.items ∙ ap (λ v. c.self.inside.full.items ++ v ∷ []) c.replace.ensures.value)
    ∙ map-append (λ v. v.items) c.self.inside.full.items (c.self.inside.last ∷ []) in
    let next = ap (λ v. v.items) c.replace.ensures.after ∙ c.in_ok-next.ensures in
    subst (λ ps. AllByRecursion FitsBatch (ps ++ c.replace.new.dest.items ∷ [])) (sym pushed)
    (subst (λ l. AllByRecursion FitsBatch ((full ++ c.self.inside.last.items ∷ []) ++ l ∷ [])) (sym next)
    (one_more_fits full c.self.inside.last.items (file_spelling c.args.r.now) c.self.invariant (spelling_fits c.length_is_size_in_file.ensures c.args.r.now c.requires)))

pub returns : goal.returns
returns c =
    let full : List (List ℕ) = map (λ v. v.items) c.self.inside.full.items in
    let pushed = ap (map (λ v. v.items)) (c.in_ok-push.ensures.items ∙ ap (λ v. c.self.inside.full.items ++ v ∷ []) c.replace.ensures.value)
    ∙ map-append (λ v. v.items) c.self.inside.full.items (c.self.inside.last ∷ []) in
    let next = ap (λ v. v.items) c.replace.ensures.after ∙ c.in_ok-next.ensures in
    let fits = sym c.if-fits_behind.false ∙ c.fits_behind.ensures ∙ ap (λ l. fits_behind l (file_spelling c.args.r.now)) c.as_slice.ensures.value in
    ap (λ ps. ps ++ c.replace.new.dest.items ∷ []) pushed ∙ ap (λ l. (full ++ c.self.inside.last.items ∷ []) ++ l ∷ []) next
    ∙ begins_next full c.self.inside.last.items (file_spelling c.args.r.now) fits ∙ ap (λ ps. joined ps (file_spelling c.args.r.now)) c.self.view_is
