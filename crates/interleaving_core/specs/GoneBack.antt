-- What a transaction of a session went back over: these parts of the session's state.
use Rattle.std.specs.Prelude.{ℕ, Bool, true, ◌&&◌, List, [], Option, None}
use Rattle.clv_base.specs.Sessions.{is_back_whole}

pub record GoneBack : Type 0 where
  pub back : Option (ℕ × ℕ)
  pub written : List (ℕ × ℕ)
  pub backs : List (ℕ × ℕ)
  pub is_whole : Bool

abbrev pub no_going_back : GoneBack
no_going_back = record { back = None; written = []; backs = []; is_whole = true }

abbrev pub is_whole_now : GoneBack → Bool
is_whole_now g = g.is_whole && is_back_whole g.back g.written
