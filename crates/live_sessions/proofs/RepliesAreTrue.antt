-- What replies tell one by one is so.
use Rattle.std.proofs.Common.{◌≡◌, ◌⊎◌, inl, inr, refl, sym, subst, ap, ◌∙◌, ℕ, true, false, ◌||◌, List, [], ◌∷◌, ◌++◌, append_assoc, append-nil, arith}
use Rattle.std.specs.List.{Contains}
use Rattle.std.proofs.lemmas.Bool.{both_ways, or_cases}
use Rattle.std.proofs.lemmas.List.Folds.{list_any-append}
use Rattle.std.proofs.lemmas.List.Elements.{Contains-append_left, Contains-push, Contains-push_cases}
use Rattle.clv_base.specs.declared.names.TxId.{TxId}
use Rattle.clv_base.specs.declared.events.Event.TheVariants.{Look}
use Rattle.clv_base.specs.declared.events.Outcome.TheVariants.{Acknowledged}
use Rattle.clv_base.specs.declared.events.Entry.{Entry}
use Rattle.clv_base.specs.Orders.{tx_same}
use Rattle.clv_base.specs.Journals.{History}
use Rattle.clv_base.specs.History.{acknowledged_in, is_acknowledgement}
use Rattle.clv_base.proofs.SameNames.{tx_true, tx_self, or_left, or_right}
use Rattle.live_lines.specs.declared.calls.Reply.{Reply}
use Rattle.live_lines.specs.declared.calls.Reply.TheVariants.{Begun, Answered, Saved, WentBack, Committed, Empty, Aborted, Down, Unsettled, Worn, Memory, Refused}
use Rattle.script_runs.specs.Operations.{parts_of}
use Rattle.script_runs.specs.Tries.{IsLook}
use Rattle.live_sessions.specs.Replies.{AcknowledgeNone, Acknowledges, Made, InTurn, no_reply, reply, TellCommits, TellAllCommits, TellAnswers, RepliesAreTrue}
use Rattle.live_sessions.proofs.RepliesTellEntries.{parts_none, rolls_none}

-- ---- acknowledgements

acknowledged_left : (a b : History) (tx : TxId) → acknowledged_in a tx ≡ true → acknowledged_in (a ++ b) tx ≡ true
acknowledged_left a b tx h = list_any-append (λ e. is_acknowledgement tx (e.1).event (e.1).outcome) a b ∙ or_left (acknowledged_in a tx) (acknowledged_in b tx) h

acknowledged_right : (a b : History) (tx : TxId) → acknowledged_in b tx ≡ true → acknowledged_in (a ++ b) tx ≡ true
acknowledged_right a b tx h = list_any-append (λ e. is_acknowledgement tx (e.1).event (e.1).outcome) a b ∙ or_right (acknowledged_in a tx) (acknowledged_in b tx) h

acknowledged_cases : (a b : History) (tx : TxId) → acknowledged_in (a ++ b) tx ≡ true → (acknowledged_in a tx ≡ true) ⊎ (acknowledged_in b tx ≡ true)
acknowledged_cases a b tx h = or_cases (acknowledged_in a tx) (acknowledged_in b tx) (sym (list_any-append (λ e. is_acknowledgement tx (e.1).event (e.1).outcome) a b) ∙ h)

-- the look's entry, of which transaction it tells
look_is : (tx t : TxId) (home : ℕ) (e : ℕ × Entry) → IsLook tx home Acknowledged e → is_acknowledgement t (e.1).event (e.1).outcome ≡ tx_same t tx
look_is tx t home e l = ap (λ x. is_acknowledgement t x (e.1).outcome) l.event ∙ ap (is_acknowledgement t (Look tx)) l.outcome

acknowledges_it : (serial : ℕ) (es : History) → Acknowledges serial es → (tx : TxId) × (tx.serial ≡ serial) × (acknowledged_in es tx ≡ true)
acknowledges_it serial es (tx, home, asked, told, is, requests, looks, are) = (
  tx,
  is,
  ap (λ l. acknowledged_in l tx) are ∙ or_right (is_acknowledgement tx (asked.1).event (asked.1).outcome) (acknowledged_in (told ∷ []) tx)
      (or_left (is_acknowledgement tx (told.1).event (told.1).outcome) false (look_is tx tx home told looks ∙ tx_self tx)),
)

acknowledges_only : (serial : ℕ) (es : History) → Acknowledges serial es → (t : TxId) → acknowledged_in es t ≡ true → t.serial ≡ serial
acknowledges_only serial es (tx, home, asked, told, is, requests, looks, are) t h =
    let request : is_acknowledgement t (asked.1).event (asked.1).outcome ≡ false = ap (λ x. is_acknowledgement t x (asked.1).outcome) requests.event in
    let both : acknowledged_in (asked ∷ told ∷ []) t ≡ true = sym (ap (λ l. acknowledged_in l t) are) ∙ h in
    let last : acknowledged_in (told ∷ []) t ≡ true = sym (ap (λ b. b || acknowledged_in (told ∷ []) t) request) ∙ both in
    let same : tx_same t tx || false ≡ true = sym (ap (λ b. b || false) (look_is tx t home told looks)) ∙ last in
    ap (λ (x : TxId). x.serial) (tx_true t tx (elim (or_cases (tx_same t tx) false same) as (λ z. tx_same t tx ≡ true) [ inl e ↦ e | inr e ↦ absurd (both_ways false refl e) ])) ∙ is

-- ---- what one reply tells

none_there : {X : Type 0} (es : History) (t : TxId) → AcknowledgeNone es → acknowledged_in es t ≡ true → X
none_there es t f h = absurd (both_ways (acknowledged_in es t) (f t) h)

none_empty : {X : Type 0} (es : History) (t : TxId) → es ≡ [] → acknowledged_in es t ≡ true → X
none_empty es t is h = none_there es t (λ tx. ap (λ l. acknowledged_in l tx) is) h

tells_it : (splits : List ℕ) (r : Reply) (es : History) (t : TxId) → Made splits r es → acknowledged_in es t ≡ true → r ≡ Committed t.serial
tells_it splits (Answered op answer) es t (tx, birth, nth, o) h = none_there es t (parts_none tx birth nth (parts_of splits op) o.answers es o.parts) h
tells_it splits (Committed serial) es t made h = ap (λ n. Committed n) (sym (acknowledges_only serial es made t h))
tells_it splits (Saved number) es t made h = none_empty es t made h
tells_it splits (WentBack number) es t (tx, nth, upto, rolled) h = none_there es t (rolls_none tx nth upto es rolled.0) h
tells_it splits (Begun serial) es t made h = none_empty es t made h
tells_it splits (Empty serial) es t made h = none_empty es t made h
tells_it splits (Refused why) es t made h = none_empty es t made h
tells_it splits (Aborted cause) es t made h = none_there es t made h
tells_it splits (Down n) es t made h = none_there es t made h
tells_it splits (Unsettled n) es t made h = none_there es t made h
tells_it splits (Worn at) es t made h = none_there es t made h
tells_it splits Memory es t made h = none_there es t made h

-- ---- all of them

no_reply_in : {X : Type 0} (r : Reply) → Contains [] r → X
no_reply_in r (k, lt, is) = absurd (let no : ⊥ = omega arith in no)

commits : (splits : List ℕ) (replies : List Reply) (es : History) → InTurn splits replies es → TellCommits replies es
commits splits _ _ no_reply = λ serial c. no_reply_in (Committed serial) c
commits splits _ _ (reply replies r es here before made) =
    λ serial c. elim (Contains-push_cases replies r (Committed serial) c) [
      | inl earlier ↦ (let f = commits splits replies es before serial earlier in (f.0, f.1, acknowledged_left es here f.0 f.2))
      | inr is ↦ (let f = acknowledges_it serial here (subst (λ x. Made splits x here) is made) in (f.0, f.1, acknowledged_right es here f.0 f.2))
    ]

all_commits : (splits : List ℕ) (replies : List Reply) (es : History) → InTurn splits replies es → TellAllCommits replies es
all_commits splits _ _ no_reply = λ t h. absurd (both_ways false refl h)
all_commits splits _ _ (reply replies r es here before made) =
    λ t h. elim (acknowledged_cases es here t h) [
      | inl earlier ↦ Contains-append_left replies (r ∷ []) (Committed t.serial) (all_commits splits replies es before t earlier)
      | inr last ↦ subst (λ x. Contains (replies ++ r ∷ []) x) (tells_it splits r here t made last) (Contains-push replies r)
    ]

answers : (splits : List ℕ) (replies : List Reply) (es : History) → InTurn splits replies es → TellAnswers splits replies es
answers splits _ _ no_reply = λ op answer c. no_reply_in (Answered op answer) c
answers splits _ _ (reply replies r es here before made) =
    λ op answer c. elim (Contains-push_cases replies r (Answered op answer) c) [
      | inl earlier ↦ (let f = answers splits replies es before op answer earlier in
          record {
            before = f.before;
            here = f.here;
            behind = f.behind ++ here;
            among = ap (λ l. l ++ here) f.among ∙ (append_assoc f.before (f.here ++ f.behind) here ∙ ap (λ l. f.before ++ l) (append_assoc f.here f.behind here));
            operated = f.operated;
          })
      | inr is ↦ record {
        before = es;
        here = here;
        behind = [];
        among = ap (λ l. es ++ l) (sym (append-nil here));
        operated = subst (λ x. Made splits x here) is made;
      }
    ]

-- behind them stand those of the end
commits_end : (replies : List Reply) (es end : History) → TellCommits replies es → TellCommits replies (es ++ end)
commits_end replies es end f = λ serial c. (let x = f serial c in (x.0, x.1, acknowledged_left es end x.0 x.2))

all_end : (replies : List Reply) (es end : History) → AcknowledgeNone end → TellAllCommits replies es → TellAllCommits replies (es ++ end)
all_end replies es end none f = λ t h. elim (acknowledged_cases es end t h) [ inl earlier ↦ f t earlier | inr last ↦ none_there end t none last ]

answers_end : (splits : List ℕ) (replies : List Reply) (es end : History) → TellAnswers splits replies es → TellAnswers splits replies (es ++ end)
answers_end splits replies es end g =
    λ op answer c. (let f = g op answer c in
    record {
      before = f.before;
      here = f.here;
      behind = f.behind ++ end;
      among = ap (λ l. l ++ end) f.among ∙ (append_assoc f.before (f.here ++ f.behind) end ∙ ap (λ l. f.before ++ l) (append_assoc f.here f.behind end));
      operated = f.operated;
    })

pub replies_are_true : RepliesAreTrue
replies_are_true asked replies u w t none =
    let are : t.es ++ t.end ≡ w.entries = sym ((t.grows).entries_are ∙ ap (λ l. l ++ (t.es ++ t.end)) none) in
    subst (λ l. TellCommits replies l × TellAllCommits replies l × TellAnswers u.splits replies l) are (
      commits_end replies t.es t.end (commits u.splits replies t.es t.in_turn),
      all_end replies t.es t.end t.ended (all_commits u.splits replies t.es t.in_turn),
      answers_end u.splits replies t.es t.end (answers u.splits replies t.es t.in_turn),
    )
