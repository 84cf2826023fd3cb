-- A try as it is kept in a session's book.
use Rattle.std.proofs.Common.{◌≡◌, refl, sym, ap, subst, ◌∙◌, inl, inr, ℕ, suc, ◌==◌, Bool, true, List, [], ◌∷◌, ◌++◌, length, append-nil, append_assoc, eq-eqb, Option, Some, None, Err}
use Rattle.clv_base.specs.declared.names.TxId.{TxId}
use Rattle.clv_base.specs.declared.names.Birth.{Birth}
use Rattle.clv_base.specs.declared.ops.Op.{Op}
use Rattle.clv_base.specs.Maps.{Operates, GoesBack}
use Rattle.clv_base.specs.Journals.{History}
use Rattle.script_lang.specs.declared.actions.Ending.{Ending}
use Rattle.script_lang.specs.declared.actions.Ending.TheVariants.{Commit, Abort}
use Rattle.script_lang.specs.Bodies.{Body}
use Rattle.script_lang.specs.Following.{all_acts}
use Rattle.session_books.specs.Done.{Done}
use Rattle.script_runs.specs.declared.ends.StopCause.TheVariants.{Down, Unsettled, Worn, Memory}
use Rattle.script_runs.specs.declared.ends.TryEnd.{TryEnd}
use Rattle.script_runs.specs.declared.ends.TryEnd.TheVariants.{Acknowledged, Empty, Asked, Aborted, Stopped}
use Rattle.script_runs.specs.Operations.{ArePartsAnswered, IsBegun, IsDeath, parts_of}
use Rattle.script_runs.specs.Acts.{acts_of, answers_in, next_of, written_by, IsBackBegun, IsBackDeath}
use Rattle.script_runs.specs.Tries.{IsDone, IsUnderWay, EndsBy, is_touched, operation_begun, back_begun, request_next, acknowledged, nothing, by_line, in_operation, in_going_back, at_request, at_look, down, unsettled, wanting_before, wanting_behind, wanting_between, unanswered, worn_at_line, IsRequest, IsLook}
use Rattle.script_runs.specs.Dropped.{LetsGo}
use Rattle.script_runs.specs.Seen.{Active, Seen, Misses, Grows, IsTouching}
use Rattle.script_runs.specs.Told.{OperateTold, BackTold, AreOn, CommitTold, GivenUp, LineAborts, TouchesJust, StaysActive, place_of}
use Rattle.script_runs.specs.Lines.{HasDone, Fails, at_operation, at_going_back, between}
use Rattle.script_runs.specs.Tried.{LeftBy}
use Rattle.script_runs.proofs.Doing.{grows_on, grows_none, touches_on, touches_all}
use Rattle.script_runs.proofs.Stepping.{past_acts}
use Rattle.std.specs.List.{list_all, AllByRecursion}
use Rattle.std.proofs.lemmas.Bool.{both_ways}
use Rattle.std.proofs.lemmas.List.Folds.{list_any-append}
use Rattle.std.specs.Prelude.{false, is_some}
use Rattle.clv_base.specs.declared.names.Point.{Point}
use Rattle.clv_base.specs.declared.events.Entry.{Entry}
use Rattle.clv_base.specs.Shards.{are_splits}
use Rattle.clv_base.proofs.SameNames.{or_left, or_right}
use Rattle.script_lang.specs.Laws.{is_narrow}
use Rattle.session_books.specs.declared.books.Row.{Row}
use Rattle.session_books.specs.Told.{try_of}
use Rattle.session_books.specs.Books.{Book, rows}
use Rattle.script_runs.specs.declared.fates.Fate.{Fate}
use Rattle.script_runs.specs.TriesLaws.{DidItsLines}
use Rattle.clv_base.specs.declared.causes.AbortCause.{AbortCause}
use Rattle.clv_base.specs.declared.events.Outcome.TheVariants.{Dead, Asked as AskedOut, Acknowledged as AcknowledgedOut, Aborted as AbortedOut}
use Rattle.script_runs.specs.Books.{has_op, is_acknowledged}
use Rattle.script_runs.specs.Keeping.{TouchedBy, is_asked, fate_told, row_told, AddsRows, CommitKept, EndKept, EndMade, TriedKept}
use Rattle.script_runs.proofs.Ending.{tried, try_with, drops_as, let_go, let_go_or, none_done, more_touched, done_as}
use Rattle.script_runs.proofs.Wholes.{told_whole}
use Rattle.script_runs.proofs.EntryKinds.{AreActsOf, AreOpsOf, acts_are, parts_are_ops}
use Rattle.script_runs.proofs.TryBooks.{acts_have_bounds, acknowledged_rows, others_have_none}
use Rattle.script_runs.proofs.Open.{first_op, IsOpened, acts_opened, opened_ops, opened_on, acts_touched, IsNoOp, request_no_op, look_no_op, drops_no_op, no_op_behind, stands, open_by}

module _ (missed : Misses) (body : Body) (tx : TxId) (birth : Birth) (u w v : Seen) (d : HasDone tx birth body.actions u w) (fate : Option Fate) (old new : Book) (some : Bool) where
  before_acts : AreActsOf tx birth d.entries
  before_acts = acts_are tx birth u.splits 1 [] d.acts d.entries d.acts_are

  opened : IsOpened d.entries
  opened = acts_opened u.splits tx birth 1 [] d.acts d.entries d.acts_are refl

  abbrev Ends : TryEnd → History → Type 0
  Ends end behind = EndsBy u.splits body tx birth d.acts d.entries end behind

  kept_as : (end : TryEnd) (behind : History) (x : Ends end behind) → Grows behind w v → LeftBy birth end v.standing → LetsGo missed v.clock (try_with body tx birth end u w d behind) end → has_op (d.entries ++ behind) ≡ some
      → fate ≡ fate_told some end (stands tx birth u.splits body d.acts d.entries end behind x) → AddsRows (rows (d.entries ++ behind)) old new → TriedKept missed body tx birth end fate old new u v
  kept_as end behind x grows left drops ops is adds =
      record {
        tried = tried missed body tx birth end u w v d behind x grows left drops;
        fate_is =
            is ∙ ap (λ b. fate_told b end (stands tx birth u.splits body d.acts d.entries end behind x)) (sym ops)
            ∙ ap (fate_told (has_op (d.entries ++ behind)) end) (sym (open_by tx birth u.splits body d.acts d.entries before_acts end behind x));
        adds = adds;
      }

  other_kept : (end : TryEnd) (behind : History) (x : Ends end behind) → Grows behind w v → LeftBy birth end v.standing → LetsGo missed v.clock (try_with body tx birth end u w d behind) end → has_op (d.entries ++ behind) ≡ some
      → fate ≡ fate_told some end (stands tx birth u.splits body d.acts d.entries end behind x) → is_acknowledged end ≡ false → AddsRows [] old new → TriedKept missed body tx birth end fate old new u v
  other_kept end behind x grows left drops ops is other adds =
      kept_as end behind x grows left drops ops is
      (subst (λ l. AddsRows l old new)
      (sym (others_have_none u.splits body birth (try_with body tx birth end u w d behind) (tried missed body tx birth end u w v d behind x grows left drops).is_try (λ h. both_ways (is_acknowledged end) other (ap is_acknowledged h))))
      adds)

  -- ---- each line was done

  abbrev row_at : Point → List Done → List Row
  row_at point ops = record { tx = tx; point = point; ops = ops } ∷ []

  module _ (touching : IsTouching d.touched some) where
    quiet : (behind : History) → AllByRecursion IsNoOp behind → has_op (d.entries ++ behind) ≡ some
    quiet behind n = no_op_behind d.entries behind n ∙ acts_touched d.entries d.touched some opened d.only d.all touching

    all_done : IsDone body Commit d.acts → acts_of d.acts ≡ all_acts body.actions (answers_in d.acts)
    all_done all = d.follows ∙ past_acts (all_acts body.actions (answers_in d.acts)) (length d.acts) all.all

    abbrev did : (home : ℕ) (asked told : ℕ × Entry) → IsDone body Commit d.acts → IsRequest tx home AskedOut asked → IsLook tx home AcknowledgedOut told
        → DidItsLines u.splits body birth (try_with body tx birth Acknowledged u w d (asked ∷ told ∷ []))
    did home asked told all a l =
        record {
          ending_is = all.ending_is;
          before = d.entries;
          home = home;
          asked = asked;
          told = told;
          entries_are = refl;
          all = all_done all;
          acts_are = d.acts_are;
          asked_is = a;
          told_is = l;
        }

    committed : (end : TryEnd) (x : Seen) (asks : Bool) (ops : List Done) → IsDone body Commit d.acts → CommitTold tx birth (length d.acts) d.touched end w x → GivenUp missed end x v → asks ≡ is_asked x.standing → fate ≡ fate_told some end asks
        → AddsRows (row_told end tx x.asked ops) old new → ops ≡ d.acts → are_splits u.splits ≡ true → list_all is_narrow body.actions ≡ true → TriedKept missed body tx birth end fate old new u v
    committed Acknowledged x asks ops all (home, asked, told, a, l, grows, idle, place) g f is adds ops_are splits narrow =
        let t = did home asked told all a l in
        kept_as Acknowledged (asked ∷ told ∷ []) (acknowledged home asked told all a l) (subst (Grows (asked ∷ told ∷ []) w) (sym g) grows) (ap (λ s. s.standing) g ∙ idle) tt
        (quiet (asked ∷ told ∷ []) (request_no_op tx home AskedOut asked a, (look_no_op tx home AcknowledgedOut told l, tt))) (is ∙ ap (fate_told some Acknowledged) (f ∙ ap is_asked idle))
        (subst (λ r. AddsRows r old new)
        (ap (λ p. row_at p ops) place ∙ ap (row_at (place_of asked)) ops_are
        ∙ sym (acknowledged_rows u.splits body birth (try_with body tx birth Acknowledged u w d (asked ∷ told ∷ [])) t
        (told_whole u.splits tx birth d.acts d.entries splits (acts_have_bounds body.actions d.acts narrow (all_done all)) d.acts_are)))
        adds)
    committed Empty x asks ops all (zero_nth, grows, idle) g f is adds ops_are splits narrow =
        other_kept Empty [] (nothing all (none_done d.acts zero_nth)) (subst (Grows [] w) (sym g) grows) (ap (λ s. s.standing) g ∙ idle) tt (quiet [] tt) (is ∙ ap (fate_told some Empty) (f ∙ ap is_asked idle)) refl adds
    committed Asked x asks ops all t g f is adds ops_are splits narrow = absurd t
    committed (Aborted cause) x asks ops all (inl (home, asked, drops, a, are, grows), idle) g f is adds ops_are splits narrow =
        let dropped = drops_as tx d.touched d.entries (Some home) drops d.only are in
        other_kept (Aborted cause) (asked ∷ drops) (at_request home cause asked drops all a dropped) (subst (Grows (asked ∷ drops) w) (sym g) grows) (ap (λ s. s.standing) g ∙ idle) tt
        (quiet (asked ∷ drops) (request_no_op tx home (Dead cause) asked a, drops_no_op tx d.entries (Some home) drops dropped)) (is ∙ ap (fate_told some (Aborted cause)) (f ∙ ap is_asked idle)) refl adds
    committed (Aborted cause) x asks ops all (inr (home, asked, told, drops, a, l, are, grows), idle) g f is adds ops_are splits narrow =
        let dropped = drops_as tx d.touched d.entries (Some home) drops d.only are in
        other_kept (Aborted cause) (asked ∷ told ∷ drops) (at_look home cause asked told drops all a l dropped) (subst (Grows (asked ∷ told ∷ drops) w) (sym g) grows) (ap (λ s. s.standing) g ∙ idle) tt
        (quiet (asked ∷ told ∷ drops) (request_no_op tx home AskedOut asked a, (look_no_op tx home (AbortedOut cause) told l, drops_no_op tx d.entries (Some home) drops dropped)))
        (is ∙ ap (fate_told some (Aborted cause)) (f ∙ ap is_asked idle)) refl adds
    committed (Stopped (Down n)) x asks ops all (grows, (nth, active)) g f is adds ops_are splits narrow =
        let h = g tx birth nth d.touched active in
        let dropped = drops_as tx d.touched (d.entries ++ []) None h.0 (more_touched d.touched d.entries d.only) h.1 in
        other_kept (Stopped (Down n)) h.0 (down n [] h.0 (request_next all) dropped) (grows_on [] h.0 w x v grows h.2) tt
        (let_go_or missed d.touched (try_with body tx birth (Stopped (Down n)) u w d h.0) u.entries (d.entries ++ []) h.0 x.entries v (ap (λ es. es ++ h.0) (sym (append-nil d.entries))) dropped
        (λ k t. d.all k (ap (λ l. is_touched l k) (sym (append-nil d.entries)) ∙ t)) (grows_on d.entries [] u w x d.grows grows).entries_are h.3)
        (quiet h.0 (drops_no_op tx (d.entries ++ []) None h.0 dropped)) (is ∙ ap (fate_told some (Stopped (Down n))) (f ∙ ap is_asked active)) refl adds
    committed (Stopped (Unsettled n)) x asks ops all ((home, asked, a, grows), stands_asked) g f is adds ops_are splits narrow =
        other_kept (Stopped (Unsettled n)) (asked ∷ []) (unsettled n home asked all a) (subst (Grows (asked ∷ []) w) (sym g) grows) tt tt (quiet (asked ∷ []) (request_no_op tx home AskedOut asked a, tt))
        (is ∙ ap (fate_told some (Stopped (Unsettled n))) (f ∙ ap is_asked stands_asked)) refl adds
    committed (Stopped (Worn at)) x asks ops all (inl (grows, (nth, active))) g f is adds ops_are splits narrow =
        other_kept (Stopped (Worn at)) [] (wanting_before (Worn at) [] refl (request_next all)) (subst (Grows [] w) (sym g) grows) tt tt (quiet [] tt) (is ∙ ap (fate_told some (Stopped (Worn at))) (f ∙ ap is_asked active)) refl adds
    committed (Stopped (Worn at)) x asks ops all (inr ((home, asked, a, grows), stands_asked)) g f is adds ops_are splits narrow =
        other_kept (Stopped (Worn at)) (asked ∷ []) (wanting_behind (Worn at) home asked refl all a) (subst (Grows (asked ∷ []) w) (sym g) grows) tt tt (quiet (asked ∷ []) (request_no_op tx home AskedOut asked a, tt))
        (is ∙ ap (fate_told some (Stopped (Worn at))) (f ∙ ap is_asked stands_asked)) refl adds
    committed (Stopped Memory) x asks ops all (inl (grows, (nth, active))) g f is adds ops_are splits narrow =
        other_kept (Stopped Memory) [] (wanting_before Memory [] refl (request_next all)) (subst (Grows [] w) (sym g) grows) tt tt (quiet [] tt) (is ∙ ap (fate_told some (Stopped Memory)) (f ∙ ap is_asked active)) refl adds
    committed (Stopped Memory) x asks ops all (inr ((home, asked, a, grows), stands_asked)) g f is adds ops_are splits narrow =
        other_kept (Stopped Memory) (asked ∷ []) (wanting_behind Memory home asked refl all a) (subst (Grows (asked ∷ []) w) (sym g) grows) tt tt (quiet (asked ∷ []) (request_no_op tx home AskedOut asked a, tt))
        (is ∙ ap (fate_told some (Stopped Memory)) (f ∙ ap is_asked stands_asked)) refl adds

    line_aborted : (end : TryEnd) → IsDone body Abort d.acts → LineAborts missed tx birth d.touched end w v → fate ≡ fate_told some end false → AddsRows [] old new → TriedKept missed body tx birth end fate old new u v
    line_aborted Asked all (drops, are, grows, idle, each) is adds =
        let dropped = drops_as tx d.touched d.entries None drops d.only are in
        other_kept Asked drops (by_line drops all dropped) grows idle (let_go missed d.touched (try_with body tx birth Asked u w d drops) u.entries d.entries drops w.entries refl dropped d.all (d.grows).entries_are each)
        (quiet drops (drops_no_op tx d.entries None drops dropped)) is refl adds
    line_aborted (Stopped (Worn at)) all (drops, are, grows, worn) is adds =
        let dropped = drops_as tx d.touched d.entries None drops d.only are in
        other_kept (Stopped (Worn at)) drops (worn_at_line at drops all dropped) grows tt tt (quiet drops (drops_no_op tx d.entries None drops dropped)) is refl adds
    line_aborted (Stopped (Down n)) all t is adds = absurd t
    line_aborted (Stopped (Unsettled n)) all t is adds = absurd t
    line_aborted (Stopped Memory) all t is adds = absurd t
    line_aborted Acknowledged all t is adds = absurd t
    line_aborted Empty all t is adds = absurd t
    line_aborted (Aborted cause) all t is adds = absurd t

  -- ---- the next step wasn't done

  as_begun : (op : Op) (here : History) → IsBegun w.splits tx birth (suc (length d.acts)) op here → IsBegun u.splits tx birth (suc (length d.acts)) op here
  as_begun op here begun = subst (λ s. IsBegun s tx birth (suc (length d.acts)) op here) (d.grows).splits_are begun

  begun_ops : (op : Op) (here : History) → IsBegun u.splits tx birth (suc (length d.acts)) op here → AreOpsOf tx birth here
  begun_ops op here b = parts_are_ops tx birth (suc (length d.acts)) b.done b.answers here b.answered

  -- the shards touched after it
  module _ (x : Seen) (here : History) (after : ℕ → Bool) (by : TouchesJust d.touched here after) (open_on : IsOpened (d.entries ++ here)) (active : StaysActive tx birth after x) (touched : TouchedBy x.standing some) where
    here_touched : has_op (d.entries ++ here) ≡ some
    here_touched =
        acts_touched (d.entries ++ here) after some open_on (touches_on d.touched after d.entries here d.only by.only) (touches_all d.touched after d.entries here d.all by) (subst (λ st. TouchedBy st some) active.1 touched)

  -- a shard was down: the transaction was dropped
  down_kept : (n : ℕ) (x : Seen) (here : History) (after : ℕ → Bool) → IsUnderWay u.splits body tx birth d.acts here → TouchesJust d.touched here after → IsOpened (d.entries ++ here) → Grows here w x → StaysActive tx birth after x
      → GivenUp missed (Stopped (Down n)) x v → TouchedBy x.standing some → fate ≡ fate_told some (Stopped (Down n)) false → AddsRows [] old new → TriedKept missed body tx birth (Stopped (Down n)) fate old new u v
  down_kept n x here after way by open_on grows (nth, active) g touched is adds =
      let h = g tx birth nth after active in
      let dropped = drops_as tx after (d.entries ++ here) None h.0 (touches_on d.touched after d.entries here d.only by.only) h.1 in
      other_kept (Stopped (Down n)) (here ++ h.0) (down n here h.0 way dropped) (grows_on here h.0 w x v grows h.2) tt
      (let_go_or missed after (try_with body tx birth (Stopped (Down n)) u w d (here ++ h.0)) u.entries (d.entries ++ here) h.0 x.entries v (sym (append_assoc d.entries here h.0)) dropped (touches_all d.touched after d.entries here d.all by)
      (grows_on d.entries here u w x d.grows grows).entries_are h.3)
      (ap has_op (sym (append_assoc d.entries here h.0)) ∙ no_op_behind (d.entries ++ here) h.0 (drops_no_op tx (d.entries ++ here) None h.0 dropped) ∙ here_touched x here after by open_on (nth, active) touched)
      is refl adds

  died_op : (op : Op) (cause : AbortCause) (n : ℕ) (here drops : History) → IsDeath w.splits tx birth (suc (length d.acts)) op cause n here → has_op (d.entries ++ (here ++ drops)) ≡ true
  died_op op cause n here drops x =
      list_any-append (λ e. is_some (try_of (e.1).event)) d.entries (here ++ drops)
      ∙ or_right (has_op d.entries) (has_op (here ++ drops)) (list_any-append (λ e. is_some (try_of (e.1).event)) here drops ∙ or_left (has_op here) (has_op drops) last_is)
    where
      last_is : has_op here ≡ true
      last_is =
          ap has_op x.entries ∙ list_any-append (λ e. is_some (try_of (e.1).event)) x.before (x.last ∷ [])
          ∙ or_right (has_op x.before) (has_op (x.last ∷ [])) (first_op tx birth x.last [] (record { nth = suc (length d.acts); seen = (x.died).seen; op = (x.next).1; event = (x.died).event }))

  op_kept : (end : TryEnd) (x : Seen) (op : Op) → next_of body.actions d.acts ≡ Some (Operates op) → OperateTold tx birth (length d.acts) d.touched op (Err end) w x → GivenUp missed end x v → TouchedBy x.standing some → fate ≡ fate_told some end false
      → AddsRows [] old new → TriedKept missed body tx birth end fate old new u v
  op_kept (Aborted cause) x op next (here, drops, n, after, died, by, are, grows, idle) g touched is adds =
      let dropped = drops_as tx after (d.entries ++ here) (Some n) drops (touches_on d.touched after d.entries here d.only by) are in
      other_kept (Aborted cause) (here ++ drops) (in_operation op cause n here drops next (subst (λ s. IsDeath s tx birth (suc (length d.acts)) op cause n here) (d.grows).splits_are died) dropped)
      (subst (Grows (here ++ drops) w) (sym g) grows) (ap (λ s. s.standing) g ∙ idle) tt (died_op op cause n here drops died ∙ sym (subst (λ st. TouchedBy st some) idle touched)) is refl adds
  op_kept (Stopped (Down n)) x op next (here, after, begun, by, grows, active) g touched is adds =
      let b = as_begun op here begun in
      down_kept n x here after (operation_begun op here next b) by (opened_ops tx birth d.entries here opened (begun_ops op here b)) grows active g touched is adds
  op_kept (Stopped (Worn at)) x op next (here, after, begun, by, grows, active) g touched is adds =
      let b = as_begun op here begun in
      other_kept (Stopped (Worn at)) here (wanting_before (Worn at) here refl (operation_begun op here next b)) (subst (Grows here w) (sym g) grows) tt tt
      (here_touched x here after by (opened_ops tx birth d.entries here opened (begun_ops op here b)) active touched) is refl adds
  op_kept (Stopped Memory) x op next (here, after, inl begun, by, grows, active) g touched is adds =
      let b = as_begun op here begun in
      other_kept (Stopped Memory) here (wanting_before Memory here refl (operation_begun op here next b)) (subst (Grows here w) (sym g) grows) tt tt
      (here_touched x here after by (opened_ops tx birth d.entries here opened (begun_ops op here b)) active touched) is refl adds
  op_kept (Stopped Memory) x op next (here, after, inr (parts, are), by, grows, active) g touched is adds =
      let all = subst (λ s. ArePartsAnswered tx birth (suc (length d.acts)) (parts_of s op) parts here) (d.grows).splits_are are in
      other_kept (Stopped Memory) here (unanswered op parts here next all) (subst (Grows here w) (sym g) grows) tt tt
      (here_touched x here after by (opened_ops tx birth d.entries here opened (parts_are_ops tx birth (suc (length d.acts)) (parts_of u.splits op) parts here all)) active touched) is refl adds
  op_kept (Stopped (Unsettled n)) x op next t g touched is adds = absurd t
  op_kept Acknowledged x op next t g touched is adds = absurd t
  op_kept Empty x op next t g touched is adds = absurd t
  op_kept Asked x op next t g touched is adds = absurd t

  -- a going back touches no shard more
  on_just : (here : History) → AreOn d.touched here → TouchesJust d.touched here d.touched
  on_just here on = record { only = λ n h. inl h; stay = λ n h. h; new = on }

  opened_back : (here : History) → AreOn d.touched here → IsOpened (d.entries ++ here)
  opened_back here on = opened_on d.entries here opened (λ n t. d.only n (on n t))

  died_back : (upto : ℕ) (ws : List (ℕ × ℕ)) (cause : AbortCause) (n : ℕ) (here drops : History) → IsBackDeath tx (suc (length d.acts)) upto ws cause n here → AreOn d.touched here → has_op (d.entries ++ (here ++ drops)) ≡ true
  died_back upto ws cause n here drops x on =
      list_any-append (λ e. is_some (try_of (e.1).event)) d.entries (here ++ drops) ∙ or_left (has_op d.entries) (has_op (here ++ drops)) (opened (x.last).0 (d.only (x.last).0 (on (x.last).0 last_on)))
    where
      last_on : is_touched here (x.last).0 ≡ true
      last_on =
          ap (λ l. is_touched l (x.last).0) x.entries ∙ list_any-append (λ e. e.0 == (x.last).0) x.before (x.last ∷ [])
          ∙ or_right (is_touched x.before (x.last).0) (is_touched (x.last ∷ []) (x.last).0) (or_left ((x.last).0 == (x.last).0) false (eq-eqb (x.last).0 (x.last).0 refl))

  as_written : (P : List (ℕ × ℕ) → Type 0) → P (written_by w.splits d.acts) → P (written_by u.splits d.acts)
  as_written P h = subst (λ s. P (written_by s d.acts)) (d.grows).splits_are h

  back_kept : (end : TryEnd) (x : Seen) (upto : ℕ) → next_of body.actions d.acts ≡ Some (GoesBack upto) → BackTold tx birth (length d.acts) d.touched upto (written_by w.splits d.acts) (Err end) w x → GivenUp missed end x v
      → TouchedBy x.standing some → fate ≡ fate_told some end false → AddsRows [] old new → TriedKept missed body tx birth end fate old new u v
  back_kept (Aborted cause) x upto next (here, drops, n, died, on, are, grows, idle) g touched is adds =
      let dropped = drops_as tx d.touched (d.entries ++ here) (Some n) drops (touches_on d.touched d.touched d.entries here d.only (λ n h. inl h)) are in
      other_kept (Aborted cause) (here ++ drops) (in_going_back upto cause n here drops next (as_written (λ ws. IsBackDeath tx (suc (length d.acts)) upto ws cause n here) died) dropped) (subst (Grows (here ++ drops) w) (sym g) grows)
      (ap (λ s. s.standing) g ∙ idle) tt (died_back upto _ cause n here drops died on ∙ sym (subst (λ st. TouchedBy st some) idle touched)) is refl adds
  back_kept (Stopped (Down n)) x upto next (here, begun, on, grows, active) g touched is adds =
      down_kept n x here d.touched (back_begun upto n here next (as_written (λ ws. IsBackBegun tx (suc (length d.acts)) upto ws n here) begun)) (on_just here on) (opened_back here on) grows active g touched is adds
  back_kept (Stopped (Worn at)) x upto next (here, n, begun, on, grows, active) g touched is adds =
      other_kept (Stopped (Worn at)) here (wanting_before (Worn at) here refl (back_begun upto n here next (as_written (λ ws. IsBackBegun tx (suc (length d.acts)) upto ws n here) begun)))
      (subst (Grows here w) (sym g) grows) tt tt (here_touched x here d.touched (on_just here on) (opened_back here on) active touched) is refl adds
  back_kept (Stopped (Unsettled n)) x upto next t g touched is adds = absurd t
  back_kept (Stopped Memory) x upto next t g touched is adds = absurd t
  back_kept Acknowledged x upto next t g touched is adds = absurd t
  back_kept Empty x upto next t g touched is adds = absurd t
  back_kept Asked x upto next t g touched is adds = absurd t

  lacked : (x : Seen) → x ≡ w → GivenUp missed (Stopped Memory) x v → TouchedBy x.standing some → fate ≡ fate_told some (Stopped Memory) false → AddsRows [] old new → TriedKept missed body tx birth (Stopped Memory) fate old new u v
  lacked x same g touched is adds =
      let active : x.standing ≡ Active tx birth (length d.acts) d.touched = ap (λ s. s.standing) same ∙ d.standing_is in
      other_kept (Stopped Memory) [] wanting_between (subst (Grows [] w) (sym (g ∙ same)) (grows_none w)) tt tt
      (no_op_behind d.entries [] tt ∙ acts_touched d.entries d.touched some opened d.only d.all (subst (λ st. TouchedBy st some) active touched)) is refl adds

  part_kept : (end : TryEnd) (x : Seen) → Fails tx birth body.actions d.acts d.touched end w x → GivenUp missed end x v → TouchedBy x.standing some → fate ≡ fate_told some end false → AddsRows [] old new → TriedKept missed body tx birth end fate old new u v
  part_kept end x (at_operation op next t) g touched is adds = op_kept end x op next t g touched is adds
  part_kept end x (at_going_back upto next t) g touched is adds = back_kept end x upto next t g touched is adds
  part_kept end x (between lack same) g touched is adds =
      subst (λ e. TriedKept missed body tx birth e fate old new u v) (sym lack)
      (lacked x same (subst (λ e. GivenUp missed e x v) lack g) touched (is ∙ ap (λ e. fate_told some e false) lack) adds)

ended : (missed : Misses) (body : Body) (tx : TxId) (birth : Birth) (ending : Ending) (end : TryEnd) (fate : Option Fate) (old new : Book) (ops : List Done) (u w v : Seen) (d : HasDone tx birth body.actions u w) → next_of body.actions d.acts ≡ None
    → body.ending ≡ ending → ops ≡ d.acts → are_splits u.splits ≡ true → list_all is_narrow body.actions ≡ true → EndMade missed tx birth (length d.acts) d.touched ops ending end fate old new w v
    → TriedKept missed body tx birth end fate old new u v
ended missed body tx birth Commit end fate old new ops u w v d all is ops_are splits narrow m =
    let k = m.ended in
    committed missed body tx birth u w v d fate old new m.some m.touching end k.now m.asked ops (done_as body Commit d.acts all is) k.told k.given k.asked_is m.fate_is k.adds ops_are splits narrow
ended missed body tx birth Abort end fate old new ops u w v d all is ops_are splits narrow m =
    let k = m.ended in
    line_aborted missed body tx birth u w v d fate old new m.some m.touching end (done_as body Abort d.acts all is) k.0 (m.fate_is ∙ ap (fate_told m.some end) k.1) k.2

-- each line was done, and then the end that was asked for
pub kept_whole : (missed : Misses) (body : Body) (tx : TxId) (birth : Birth) (ending : Ending) (end : TryEnd) (fate : Option Fate) (old new : Book) (ops : List Done) (u w v : Seen) (d : HasDone tx birth body.actions u w)
    → next_of body.actions d.acts ≡ None → ending ≡ body.ending → ops ≡ d.acts → are_splits u.splits ≡ true → list_all is_narrow body.actions ≡ true
    → ((tx : TxId) (birth : Birth) (nth : ℕ) (touched : ℕ → Bool) → w.standing ≡ Active tx birth nth touched → EndMade missed tx birth nth touched ops ending end fate old new w v) → TriedKept missed body tx birth end fate old new u v
kept_whole missed body tx birth ending end fate old new ops u w v d all is ops_are splits narrow m =
    ended missed body tx birth ending end fate old new ops u w v d all (sym is) ops_are splits narrow (m tx birth (length d.acts) d.touched d.standing_is)

-- the next step wasn't done
pub kept_part : (missed : Misses) (body : Body) (tx : TxId) (birth : Birth) (end : TryEnd) (fate : Option Fate) (old new : Book) (some : Bool) (u w x v : Seen) (d : HasDone tx birth body.actions u w) → Fails tx birth body.actions d.acts d.touched end w x
    → GivenUp missed end x v → TouchedBy x.standing some → fate ≡ fate_told some end false → AddsRows [] old new → TriedKept missed body tx birth end fate old new u v
kept_part missed body tx birth end fate old new some u w x v d f g touched is adds = part_kept missed body tx birth u w v d fate old new some end x f g touched is adds

-- ---- books

pub adds_none : (b : Book) → AddsRows [] b b
adds_none b = record { rows_are = sym (append-nil b.rows); counts_are = refl; keeps_same = refl }

-- ---- ends

pub end_committed : (missed : Misses) (tx : TxId) (birth : Birth) (nth : ℕ) (touched : ℕ → Bool) (ops : List Done) (ending : Ending) (end : TryEnd) (fate : Option Fate) (some asked : Bool) (old new : Book) (u v : Seen) → ending ≡ Commit
    → u.standing ≡ Active tx birth nth touched → TouchedBy u.standing some → fate ≡ fate_told some end asked → CommitKept missed tx birth nth touched ops end asked old new u v → EndMade missed tx birth nth touched ops ending end fate old new u v
end_committed missed tx birth nth touched ops ending end fate some asked old new u v is active t f k =
    record {
      some = some;
      touching = subst (λ st. TouchedBy st some) active t;
      asked = asked;
      fate_is = f;
      ended = subst (λ x. EndKept missed tx birth nth touched ops x end asked old new u v) (sym is) k;
    }

pub end_aborted : (missed : Misses) (tx : TxId) (birth : Birth) (nth : ℕ) (touched : ℕ → Bool) (ops : List Done) (ending : Ending) (end : TryEnd) (fate : Option Fate) (some : Bool) (book : Book) (u v : Seen) → ending ≡ Abort
    → u.standing ≡ Active tx birth nth touched → TouchedBy u.standing some → fate ≡ fate_told some end false → LineAborts missed tx birth touched end u v → EndMade missed tx birth nth touched ops ending end fate book book u v
end_aborted missed tx birth nth touched ops ending end fate some book u v is active t f k =
    record {
      some = some;
      touching = subst (λ st. TouchedBy st some) active t;
      asked = false;
      fate_is = f;
      ended = subst (λ x. EndKept missed tx birth nth touched ops x end false book book u v) (sym is) (k, refl, adds_none book);
    }
