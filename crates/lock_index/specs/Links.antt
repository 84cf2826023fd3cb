-- Each transaction's anchors as a thread: from its first anchor to the next one, and on to the last.
use Rattle.std.specs.Prelude.{◌≡◌, ℕ, ◌+◌, ◌*◌, ◌^◌, ◌%◌, ◌⊎◌, Bool, true, false, cond, not, ◌&&◌, ◌||◌, List, [], ◌∷◌, Option, Some, None, is_some}
use Rattle.std.specs.Option.{option_flatten}
use Rattle.std.specs.Map.{lookup}
use Rattle.clv_base.specs.declared.names.TxId.{TxId}
use Rattle.clv_base.specs.declared.modes.Anchor.{Anchor}
use Rattle.clv_base.specs.declared.modes.Anchor.TheVariants.{Low as LowAnchor, At as AtAnchor}
use Rattle.clv_base.specs.Orders.{tx_same, anchor_same}
use Rattle.lock_index.specs.declared.links.Spot.{Spot}
use Rattle.lock_index.specs.declared.links.Spot.TheVariants.{First, Low, At}
use Rattle.lock_index.specs.declared.links.Link.{Link}

abbrev pub Links : Type 0
Links = List (Link × Option Anchor)

-- a place in a thread: before its first anchor, or an anchor
abbrev pub spot_of : Option Anchor → Spot
spot_of None = First
spot_of (Some LowAnchor) = Low
spot_of (Some (AtAnchor k)) = At k

abbrev pub place_of : Spot → Option Anchor
place_of First = None
place_of Low = Some LowAnchor
place_of (At k) = Some (AtAnchor k)

abbrev pub link_of : TxId → Option Anchor → Link
link_of t p = record { run = t.run; session = t.session; serial = t.serial; spot = spot_of p }

-- a spot as one number, and a link as one, which tell them apart but for few
abbrev pub number : Spot → ℕ
number First = 0
number Low = 1
number (At k) = (k + 2) % 2 ^ 64

abbrev pub mixed : Link → ℕ
mixed l =
    ((((l.serial * 64) % 2 ^ 64 + l.session) % 2 ^ 64 + (l.run * 11400714819323198485) % 2 ^ 64) % 2 ^ 64
    + (number l.spot * 14029467366897019727) % 2 ^ 64) % 2 ^ 64

abbrev pub tx_of : Link → TxId
tx_of l = record { run = l.run; session = l.session; serial = l.serial }

abbrev pub same_place : Option Anchor → Option Anchor → Bool
same_place None None = true
same_place None (Some b) = false
same_place (Some a) None = false
same_place (Some a) (Some b) = anchor_same a b

abbrev pub is_link : TxId → Option Anchor → Link → Bool
is_link t p l = tx_same t (tx_of l) && same_place p (place_of l.spot)

-- what follows a place in the transaction's thread, where the place is in it
abbrev pub next_of : TxId → Option Anchor → Links → Option (Option Anchor)
next_of t p ls = lookup (is_link t p) ls

-- ---- threads, by what follows each place

abbrev pub Nexts : Type 0
Nexts = TxId → Option Anchor → Option (Option Anchor)

abbrev pub nexts : Links → Nexts
nexts ls t p = next_of t p ls

abbrev pub first : Nexts → TxId → Option Anchor
first N t = option_flatten (N t None)

-- whether the thread has the anchor
abbrev pub has : Nexts → TxId → Anchor → Bool
has N t a = is_some (N t (Some a))

-- from this place the thread goes over these anchors
abbrev pub Path : Nexts → TxId → Option Anchor → List Anchor → Type 0
Path N t p [] = p ≡ None
Path N t p (a ∷ rest) = (p ≡ Some a) × ((n : Option Anchor) × (N t (Some a) ≡ Some n) × Path N t n rest)

abbrev pub Among : Anchor → List Anchor → Type 0
Among a [] = ⊥
Among a (b ∷ bs) = (a ≡ b) ⊎ Among a bs

abbrev pub AllApart : List Anchor → Type 0
AllApart [] = Unit {0}
AllApart (a ∷ rest) = (Among a rest → ⊥) × AllApart rest

-- the thread goes over all its anchors, each once
pub record Thread (N : Nexts) (t : TxId) : Type 0 where
  pub anchors : List Anchor
  pub path : Path N t (first N t) anchors
  pub apart : AllApart anchors
  pub all : (a : Anchor) → has N t a ≡ true → Among a anchors

abbrev pub Threaded : Links → Type 0
Threaded ls = (t : TxId) → Thread (nexts ls) t

-- the anchor that is taken out of a thread, if there is one
abbrev pub TakesOut : TxId → Option Anchor → Nexts → Nexts → Type 0
TakesOut u (Some a) N M = (has N u a ≡ true) × ((t : TxId) (b : Anchor) → has M t b ≡ (not (anchor_same a b && tx_same u t) && has N t b))
TakesOut u None N M = ((b : Anchor) → has N u b ≡ false) × ((t : TxId) (b : Anchor) → has M t b ≡ has N t b)

-- what follows one place becomes w, and what follows the others stays
abbrev pub Changes : TxId → Option Anchor → Option (Option Anchor) → Links → Links → Type 0
Changes u q w before after = (t : TxId) (p : Option Anchor) → next_of t p after ≡ cond (tx_same u t && same_place q p) w (next_of t p before)

-- the transaction's thread has the anchor now too
abbrev pub PutsIn : TxId → Anchor → Nexts → Nexts → Type 0
PutsIn u a N M = (t : TxId) (b : Anchor) → has M t b ≡ ((anchor_same a b && tx_same u t) || has N t b)
