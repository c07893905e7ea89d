-- What a clause reads of a turn and of its seats.
use Rattle.std.specs.Prelude.{◌≡◌, ℕ, List, Some}
use Rattle.lapi_turn.specs.declared.kept.Kept.{Ghosts}
use Rattle.lapi_turn.specs.declared.seat.Seat.{Seat}
use Rattle.lapi_turn.specs.declared.turn.Turn.{Turn}
use Rattle.lapi_turn.specs.Entries.{Entry, Follows}

module _ {V F : Type 0} where
  -- the fixed part of the value that the turn was made with
  abbrev pub fixed_of : (V → F) → Turn V F → F
  fixed_of fixed turn = fixed turn.table.shared.key.value

module _ {V F : Type 0} {g : Ghosts V F} where
  -- the list that the seat has seen
  abbrev pub seen_of : Seat V F g → List Entry
  seen_of seat = seat.place.me.0.seen

  -- the seat's rights: bit i is right i
  abbrev pub rights_of : Seat V F g → ℕ
  rights_of seat = seat.place.me.0.rights

  -- the seat is of the turn, and has its fixed part
  abbrev pub IsSeatOf : (V → F) → Turn V F → Seat V F g → Type 0
  IsSeatOf fixed turn seat = (seat.place.table_id ≡ turn.table.shared.table_id) × (seat.place.me.0.fixed ≡ Some (fixed_of fixed turn))

  -- the list begins with what the seat has seen, and its later entries need no right of the seat
  abbrev pub FollowsSeat : Seat V F g → List Entry → Type 0
  FollowsSeat seat list = Follows (seen_of seat) (rights_of seat) list
