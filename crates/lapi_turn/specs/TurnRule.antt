-- The rule of the table under a turn, which each step keeps.
--
--   word 0  ticket    how many tickets were drawn     modulo 2^64
--   word 1  serving   how many turns were served      modulo 2^64
--   word 2  count     how many entries the list has   modulo 2^64
--   slot 0            the value, or nothing while a seat has its turn
--
--   tickets   0  1  2  3  4  5  6  7
--             served ..|  |waiting |  not drawn yet
--                       ^           ^
--                       serving     ticket
--
-- Here three seats have the tickets 3, 4 and 5. The seat with ticket 3 may take the value out, and
-- the two others wait. There are at most 16 of them, since each has a right that no other has.
use Rattle.std.specs.Prelude.{◌≡◌, ◌≢◌, ◌⊎◌, ℕ, ◌+◌, ◌%◌, ◌^◌, ◌<◌, ◌≤◌, Bool, true, false, List, [], ◌∷◌, ◌++◌, length, Option, Some, None}
use Rattle.std.specs.Int.{bit_at}
use mathlib.Core.Option.{some, none}
use lib.ListN.{get_elem?}
use Rattle.atomic_table.specs.Table.{State}
use Rattle.lapi_turn.specs.declared.rule.Stage.{Stage}
use Rattle.lapi_turn.specs.declared.rule.Stage.TheVariants.{Rests, Joined, Waits, HasTurn}
use Rattle.lapi_turn.specs.declared.rule.View.{View}
use Rattle.lapi_turn.specs.Entries.{Entry, HasRight, Begins, Follows, AllBelow16}

-- the 16 rights
abbrev pub all_rights : ℕ
all_rights = 65535

module _ {F : Type 0} where
  abbrev pub view : F → List Entry → ℕ → Stage → View F
  view fixed seen rights stage = record { fixed = Some fixed; seen = seen; rights = rights; stage = stage }

  -- what the first seat knows
  abbrev pub first_view : F → View F
  first_view fixed = view fixed [] all_rights Rests

  -- what a seat that was joined into another leaves
  abbrev pub spent_view : View F
  spent_view = record { fixed = None; seen = []; rights = 0; stage = Rests }

-- the ticket that a seat has, if any
abbrev pub ticket_of : Stage → Option ℕ
ticket_of Rests = None
ticket_of (Joined other theirs) = None
ticket_of (Waits ticket) = Some ticket
ticket_of (HasTurn ticket base counted) = Some ticket

-- whether a seat has its turn and has counted its entry
abbrev pub counted_of : Stage → Bool
counted_of (HasTurn ticket base counted) = counted
counted_of _ = false

-- what the words and the slot stand for
pub record TicketLock : Type 0 where
  -- how many tickets were drawn, and how many turns were served
  pub drawn : ℕ
  pub served : ℕ
  -- the seat that drew each ticket
  pub owner : ℕ → ℕ
  -- whether a seat has its turn, and the value is out
  pub taken : Bool
  -- the list before the turn
  pub base : List Entry
  -- the list, with the entry of the turn once it was counted
  pub log : List Entry

-- where it was counted, the seat has seen the list, which is the base and one entry; else it is the base
abbrev pub IsInTurn : List Entry → List Entry → List Entry → Bool → Type 0
IsInTurn log seen base true = (seen ≡ log) × ((e : Entry) × (log ≡ base ++ e ∷ []))
IsInTurn log seen base false = log ≡ base

-- the rule at the stage of one seat
abbrev pub StageRule : TicketLock → ℕ → List Entry → ℕ → Stage → Type 0
StageRule lock seat seen rights Rests = Unit {0}
StageRule lock seat seen rights (Joined other theirs) = Follows other theirs lock.log × (length other ≤ length seen) × ((right : ℕ) → HasRight theirs right → HasRight rights right)
StageRule lock seat seen rights (Waits ticket) = (lock.served ≤ ticket) × (ticket < lock.drawn) × (lock.owner ticket ≡ seat) × (lock.taken ≡ true → ticket ≢ lock.served)
StageRule lock seat seen rights (HasTurn ticket base counted) =
    (ticket ≡ lock.served) × (ticket < lock.drawn) × (lock.owner ticket ≡ seat) × (lock.taken ≡ true) × IsInTurn lock.log seen base counted × (base ≡ lock.base)

-- the rule at one seat
pub record SeatRule {F : Type 0} (f : F) (lock : TicketLock) (seat : ℕ) (v : View F) : Type 0 where
  -- it has the fixed part, or is spent
  pub known : (v.fixed ≡ Some f) ⊎ (v ≡ spent_view)
  -- no entry after what it has seen needs a right of it
  pub follows : Follows v.seen v.rights lock.log
  pub low : (right : ℕ) → HasRight v.rights right → right < 16
  pub stage : StageRule lock seat v.seen v.rights v.stage
  -- only the seat that counted has seen more than the base
  pub early : counted_of v.stage ≡ false → Begins v.seen lock.base

-- the rule at one ticket that isn't served yet: a seat has it, and at least one right
pub record TicketRule {F : Type 0} (views : List (View F)) (owner right : ℕ → ℕ) (number : ℕ) : Type 0 where
  pub holder : View F
  pub at : get_elem? views (owner number) ≡ some holder
  pub ticket : ticket_of holder.stage ≡ Some number
  pub has : HasRight holder.rights (right number)

-- no two views have a right in common
abbrev pub Apart : {F : Type 0} → List (View F) → Type 0
Apart {F} views =
    (i j : ℕ) (v w : View F) → i ≢ j → get_elem? views i ≡ some v → get_elem? views j ≡ some w → (r : ℕ) → HasRight v.rights r → bit_at w.rights r ≡ 0

-- the rule
pub record TurnRule {X F : Type 0} (list : X → List Entry) (fixed : X → F) (f : F) (s : State (Option X) (View F)) : Type 0 where
  pub lock : TicketLock
  -- a right of the seat that drew each ticket
  pub right : ℕ → ℕ
  pub words : s.words ≡ (lock.drawn % 2 ^ 64) ∷ (lock.served % 2 ^ 64) ∷ (length lock.log % 2 ^ 64) ∷ []
  pub order : lock.served ≤ lock.drawn
  pub few : lock.drawn ≤ lock.served + 16
  pub low : AllBelow16 lock.log
  -- with no turn taken the value is at home, with the list and the fixed part
  pub home : lock.taken ≡ false → (x : X) × (s.homes ≡ some (Some x) ∷ []) × (list x ≡ lock.log) × (fixed x ≡ f)
  pub same : lock.taken ≡ false → lock.base ≡ lock.log
  -- in a turn it is out, and a ticket waits to be served
  pub away : lock.taken ≡ true → (s.homes ≡ none ∷ []) × (lock.served < lock.drawn)
  pub each_ticket : (ticket : ℕ) → lock.served ≤ ticket → ticket < lock.drawn → TicketRule s.views lock.owner right ticket
  pub each_seat : (seat : ℕ) (v : View F) → get_elem? s.views seat ≡ some v → SeatRule f lock seat v
  pub apart : Apart s.views
