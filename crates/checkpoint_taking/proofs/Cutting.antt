-- What is put one after another is cut between records.
use Rattle.std.proofs.Common.{◌≡◌, ℕ, Bool, true, false, cond, List, [], ◌∷◌, ◌++◌, refl, sym, ap, subst, ◌∙◌, append_assoc}
use Rattle.std.proofs.lemmas.List.{append-nil}
use Rattle.clv_base.specs.declared.shard_log.FileRecord.{FileRecord}
use Rattle.log_records.specs.FileSpelling.{file_spelling}
use Rattle.checkpoint_taking.specs.Cut.{spellings, IsCut, fits_behind, joined, cut}

spellings_push : (rs : List FileRecord) (r : FileRecord) → spellings (rs ++ r ∷ []) ≡ spellings rs ++ file_spelling r
spellings_push [] r = append-nil (file_spelling r)
spellings_push (q ∷ rs) r = ap (λ l. file_spelling q ++ l) (spellings_push rs r) ∙ sym (append_assoc (file_spelling q) (spellings rs) (file_spelling r))

cut_push : (records : List FileRecord) (ps : List (List ℕ)) (r : FileRecord) → IsCut records ps → IsCut (records ++ r ∷ []) (joined ps (file_spelling r))
cut_push records [] r c = (r ∷ [], [], ap (λ (l : List FileRecord). l ++ r ∷ []) c, sym (append-nil (file_spelling r)), refl)
cut_push records (p ∷ []) r c = at (fits_behind p (file_spelling r)) (cut_push c.1 [] r c.4)
  where
    at : (b : Bool) → IsCut (c.1 ++ r ∷ []) (file_spelling r ∷ []) → IsCut (records ++ r ∷ []) (cond b ((p ++ file_spelling r) ∷ []) (p ∷ file_spelling r ∷ []))
    at true more =
        let is : records ≡ c.0 = c.2 ∙ ap (λ l. c.0 ++ l) c.4 ∙ append-nil c.0 in
        (c.0 ++ r ∷ [], [], ap (λ (l : List FileRecord). l ++ r ∷ []) is ∙ sym (append-nil (c.0 ++ r ∷ [])), ap (λ l. l ++ file_spelling r) c.3 ∙ sym (spellings_push c.0 r), refl)
    at false more = (c.0, c.1 ++ r ∷ [], ap (λ (l : List FileRecord). l ++ r ∷ []) c.2 ∙ append_assoc c.0 c.1 (r ∷ []), c.3, more)
cut_push records (p ∷ q ∷ ps) r c = (c.0, c.1 ++ r ∷ [], ap (λ (l : List FileRecord). l ++ r ∷ []) c.2 ∙ append_assoc c.0 c.1 (r ∷ []), c.3, cut_push c.1 (q ∷ ps) r c.4)

cut_more : (records more : List FileRecord) (ps : List (List ℕ)) → IsCut records ps → IsCut (records ++ more) (cut ps more)
cut_more records [] ps c = subst (λ l. IsCut l ps) (sym (append-nil records)) c
cut_more records (r ∷ rs) ps c =
    subst (λ l. IsCut l (cut (joined ps (file_spelling r)) rs)) (append_assoc records (r ∷ []) rs) (cut_more (records ++ r ∷ []) rs (joined ps (file_spelling r)) (cut_push records ps r c))

pub is_cut : (records : List FileRecord) → IsCut records (cut [] records)
is_cut records = cut_more [] records [] refl

-- some records, and then others
pub cut_both : (ps : List (List ℕ)) (rs more : List FileRecord) → cut (cut ps rs) more ≡ cut ps (rs ++ more)
cut_both ps [] more = refl
cut_both ps (r ∷ rs) more = cut_both (joined ps (file_spelling r)) rs more
