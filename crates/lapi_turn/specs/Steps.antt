-- What each step changes, and tells the seat that steps.
--
--   step    word or slot        what changes in what the seat knows
--   ------  ------------------  -------------------------------------------------------------------
--   draw    ticket, add 1       a seat with a right and no ticket has the ticket drawn
--   look    serving, load       where the word is its ticket: it has its turn, the base is the list
--                               of the value, and it takes the slot; else nothing
--   count   count, add 1        in its turn: it has seen the base and one entry, for which it has the
--                               right
--   serve   serving, add 1      it gives the slot home, and has no ticket; where it hasn't counted, it
--                               has seen the base
--   split   ticket, load        with no ticket: a new seat has seen the same, and has the rights that
--                               are handed over; the old one has the others
--   join    ticket, load        with no ticket at both: it has seen the longer list, has the rights of
--                               both, and remembers the shorter; the other is spent
--   check   ticket, load        after a join: no entry of the longer list after the shorter needs a
--                               right of the seat that had seen the shorter
--
-- Between look and serve the seat has the slot to itself. It moves the value out and back there, which
-- is no step. In the definitions m and m' are what the seat knows and the slots that it holds, before
-- the step and after it, and n is the word that was found.
use Rattle.std.specs.Prelude.{◌≡◌, ◌≢◌, ℕ, ◌%◌, ◌^◌, leb, Bool, true, false, List, [], ◌∷◌, length, Option, Some, bit_or, bit_xor}
use Rattle.atomic_table.specs.Table.{Me, Step, rest}
use Rattle.lapi_turn.specs.declared.rule.Stage.{Stage}
use Rattle.lapi_turn.specs.declared.rule.Stage.TheVariants.{Rests, Joined, Waits, HasTurn}
use Rattle.lapi_turn.specs.declared.rule.View.{View}
use Rattle.lapi_turn.specs.Entries.{Entry, Follows}

module _ {F : Type 0} where
  -- the view at this stage
  abbrev pub at_stage : View F → Stage → View F
  at_stage v stage = record v { stage = stage }

  -- the view that has seen this list, at this stage
  abbrev pub having_seen : View F → List Entry → Stage → View F
  having_seen v seen stage = record v { seen = seen; stage = stage }

-- what a seat has seen after its turn
abbrev pub seen_after : Bool → List Entry → List Entry → List Entry
seen_after true seen base = seen
seen_after false seen base = base

-- what a seat knows, and the slots that it holds
abbrev pub SeatState : Type 0 → Type 0 → Type 0
SeatState X F = Me (Option X) (View F)

abbrev StepAt : Type 0 → Type 0
StepAt X = Step (Option X)

module _ {X F : Type 0} where
  abbrev pub DrawTells : StepAt X → SeatState X F → ℕ → SeatState X F → Type 0
  DrawTells st m n m' = (ticket : ℕ) × (ticket % 2 ^ 64 ≡ n) × (m' ≡ (at_stage m.0 (Waits ticket), m.1))

  abbrev pub LookTells : (X → List Entry) → (X → F) → StepAt X → SeatState X F → ℕ → SeatState X F → Type 0
  LookTells list fixed st m n m' = (ticket : ℕ) → m.0.stage ≡ Waits ticket
      → (n ≡ ticket % 2 ^ 64
      → (x : X) × (m' ≡ (at_stage m.0 (HasTurn ticket (list x) false), (0, Some x) ∷ m.1)) × Follows m.0.seen m.0.rights (list x) × (m.0.fixed ≡ Some (fixed x)))
      × (n ≢ ticket % 2 ^ 64 → m' ≡ m)

  abbrev pub CountTells : (X → List Entry) → StepAt X → SeatState X F → ℕ → SeatState X F → Type 0
  CountTells list st m n m' = (ticket : ℕ) (base : List Entry) (x : X) → m.0.stage ≡ HasTurn ticket base false → m.1 ≡ (0, Some x) ∷ []
      → m' ≡ (having_seen m.0 (list x) (HasTurn ticket base true), m.1)

  abbrev pub ServeTells : StepAt X → SeatState X F → ℕ → SeatState X F → Type 0
  ServeTells st m n m' = (ticket : ℕ) (base : List Entry) (counted : Bool) → m.0.stage ≡ HasTurn ticket base counted
      → m' ≡ (having_seen m.0 (seen_after counted m.0.seen base) Rests, rest m.1)

  abbrev pub CheckTells : StepAt X → SeatState X F → ℕ → SeatState X F → Type 0
  CheckTells st m n m' = (other : List Entry) (theirs : ℕ) → m.0.stage ≡ Joined other theirs → (m' ≡ (at_stage m.0 Rests, m.1)) × Follows other theirs m.0.seen

module _ {F : Type 0} where
  -- what a split leaves, with the rights that aren't handed over
  abbrev pub kept_part : ℕ → View F → View F
  kept_part mask v = record v { rights = bit_xor v.rights mask }

  -- what a split gives, with the rights that are handed over
  abbrev pub given_part : ℕ → View F → View F
  given_part mask v = record v { rights = mask; stage = Rests }

  -- where the flag is true the second list is the longer, else the first
  abbrev pub joined_by : Bool → View F → View F → View F
  joined_by true v w = record { fixed = v.fixed; seen = w.seen; rights = bit_or v.rights w.rights; stage = Joined v.seen v.rights }
  joined_by false v w = record { fixed = v.fixed; seen = v.seen; rights = bit_or v.rights w.rights; stage = Joined w.seen w.rights }

  -- what a join leaves
  abbrev pub joined_view : View F → View F → View F
  joined_view v w = joined_by (leb (length v.seen) (length w.seen)) v w
