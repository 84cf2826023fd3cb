-- The request of a transaction names each shard that answered an operation of it.
use Rattle.std.proofs.Common.{◌≡◌, ⊎_elim, refl, sym, ap, subst, ◌∙◌, ℕ, true, false, cond, Bool, ◌||◌, ◌==◌, List, [], ◌∷◌, map, Some, inl, inr, arith}
use Rattle.std.specs.Prelude.{is_some}
use Rattle.std.specs.Map.{lookup}
use Rattle.std.proofs.lemmas.Bool.{both_ways, or_left, or_right, eq-eqb}
use Rattle.clv_base.specs.declared.events.Event.TheVariants.{Op as OpEvent, Request as RequestEvent}
use Rattle.clv_base.specs.Orders.{nat_in}
use Rattle.clv_base.specs.Restarts.{run_after}
use Rattle.clv_base.specs.Sessions.{no_session}
use Rattle.clv_base.specs.Journals.{own, History}
use Rattle.clv_base.specs.declared.logs.LogRecord.{LogRecord}
use Rattle.clv_base.specs.declared.names.TxId.{TxId}
use Rattle.clv_base.specs.History.{Legal}
use Rattle.protocol_laws.specs.SessionLaws.{tx_of, works_on, ended_by}
use Rattle.protocol_laws.proofs.SessionsKeepOrder.{sessions_keep_order}
use Rattle.history_cases.proofs.Merging.{is_among, in_turn, Among, among_is}
use Rattle.history_laws.proofs.NeverTakenBack.{Together, together}
use Rattle.history_laws.proofs.Entries.NothingFollowsRequests.{has, nothing_follows, request_names}
use Rattle.headline_laws.specs.Named.{RequestsNameTheirShards}
use Rattle.fate_laws.specs.Decisions.{IsHome}
use Rattle.fate_laws.proofs.Origins.FrontsKeepOrigins.{DidOrOld}

has_in : (n : ℕ) (ts : List (ℕ × ℕ)) → has n ts ≡ true → nat_in n (map (λ t. t.0) ts) ≡ true
has_in n [] h = absurd (both_ways false refl h)
has_in n (r ∷ rs) h = at (n == r.0) refl h (has_in n rs)
  where
    at : (b : Bool) → (n == r.0) ≡ b → is_some (cond b (Some r.1) (lookup (◌==◌ n) rs)) ≡ true → (has n rs ≡ true → nat_in n (map (λ t. t.0) rs) ≡ true) → ((n == r.0) || nat_in n (map (λ t. t.0) rs)) ≡ true
    at true e k f = or_left (n == r.0) _ e
    at false e k f = or_right (n == r.0) _ (f k)

pub requests_name_their_shards : RequestsNameTheirShards
requests_name_their_shards splits before h after m home x e tx birth nth seen op a epoch ts l i ev out j rq =
    has_in m ts
    (⊎_elim (λ q. absurd (differ (sym rq ∙ ap (λ z. (z.1).event) q ∙ ev)))
    (λ q. ⊎_elim
    (λ b. absurd (both_ways _ (nothing_follows (own e.walker h) (home, e) (m, x) tx.serial (sessions_keep_order splits (run_after before) e.walker (own e.walker h) p.session).2 b (ap (λ z. ended_by z e.outcome) rq)) (subst (λ z. works_on tx.serial z ≡ true) (sym ev) (eq-eqb tx.serial tx.serial refl))))
    (λ b. request_names splits (own e.walker h) (no_session (run_after before) e.walker) (m, x) (home, e) tx birth nth seen op a epoch ts p.session b ev out rq)
    q)
    (in_turn (home, e) (m, x) (own e.walker h) p.first p.second))
  where
    p : Together splits before h (home, e) (m, x)
    p = together splits before after h (home, e) (m, x) tx l (is_among home e h j) (is_among m x h i) (ap tx_of rq) (ap tx_of ev)

    differ : RequestEvent tx ts ≡ OpEvent tx birth nth seen op → ⊥
    differ z = absurd cc

-- a request names each shard that answered an operation of its transaction
pub names_shard : (splits : List ℕ) (before after : List (List LogRecord)) (h : History) (n home : ℕ) (t : TxId) (r : IsHome h t home) → Legal splits before h after → t.run ≡ run_after before → DidOrOld (run_after before) h n t → nat_in n (map (λ p. p.0) r.1) ≡ true
names_shard splits before after h n home t r l run (inl (ep, (b, (y, k, p, a)))) =
    requests_name_their_shards splits before h after n home y.1 r.0 t b (a.at).nth a.seen (a.at).op a.answer ep r.1 l (among_is n y.1 h (subst (λ q. Among (q, y.1) h) p k)) (a.at).is a.outcome r.2 r.3
names_shard splits before after h n home t r l run (inr old) = absurd (omega (arith, old, run))
