-- What holds of the rounds of collective calls: the fences over all tasks, and the rounds that give an address. These are
-- words of this project for its laws.
use Rattle.std.specs.Prelude.{◌≡◌, ◌↔◌, ℕ, ◌<◌, ◌||◌, true, List, length, filter, nat_lt, slice_get, Some, Bool, false, ◌∷◌, ◌==◌, ◌&&◌, not}
use Rattle.lapi_base.specs.declared.script.Script.{Script}
use Rattle.lapi_base.specs.declared.rule.Rules.{Rules}
use Rattle.lapi_base.specs.declared.address.Addr.TheVariants.{Table}
use Rattle.lapi_base.specs.declared.message.Leg.TheVariants.{Join}
use Rattle.lapi_base.specs.declared.event.Event.{Event}
use Rattle.lapi_base.specs.declared.head.Head.TheVariants as heads
use Rattle.lapi_base.specs.declared.packet.Packet.TheVariants.{Data}
use Rattle.lapi_base.specs.declared.packet.DataPacket.{DataPacket}
use Rattle.lapi_base.specs.Record.Names.{message, Passed}
use Rattle.lapi_base.specs.Record.Operations.{statements, statement, is_gfence, is_table, table_rounds, entry, is_addr}
use Rattle.lapi_base.specs.Record.Refusals.{next, gfence_rounds, rounds_like, round_of, joined, is_known, join_landed}
use Rattle.lapi_base.specs.Record.Wires.{Run, IsEntry}
use Rattle.lapi_base.specs.Laws.Headline.{Happened}
use Rattle.lapi_base.specs.declared.statement.Statement.{Statement}
use Rattle.lapi_base.specs.declared.event.Event.TheVariants.{Land}

-- statement a.i is one of the task's rounds
abbrev pub HasRound : Script → (task statement : ℕ) → Type 0
HasRound script a i = (i < length (statements script a)) × ((is_gfence (statement script a i) || is_table script (statement script a i)) ≡ true)

-- A statement's round is the place where it stands among its task's rounds, and no other place.
abbrev pub RoundsAreInOrder : Type 0
RoundsAreInOrder = (script : Script) (a i round : ℕ) → HasRound script a i →
    (slice_get (rounds_like script (statement script a i) a) round ≡ Some i) ↔ (round ≡ round_of script a i)

module _ (script : Script) (rules : Rules) where
  -- a packet is of the Join of this statement of its origin
  abbrev pub IsJoinOf : DataPacket → (statement from to : ℕ) → Type 0
  IsJoinOf p i a b = p.name ≡ message a i (Join b)

  -- A Join with a fence's head is of the statement that has this round among the origin's fences,
  abbrev pub FencesAreJoined : Run → Type 0
  FencesAreJoined r = (a b k round : ℕ) (p : DataPacket) → IsEntry r a b k (Data p) → p.head ≡ heads.Gfence round →
      (i : ℕ) × IsJoinOf p i a b × (slice_get (gfence_rounds script a) round ≡ Some i)

  -- and one with an address of the statement that has this round among those that give one: it brings the origin's entry.
  abbrev pub TablesAreJoined : Run → Type 0
  TablesAreJoined r = (a b k round at : ℕ) (p : DataPacket) → IsEntry r a b k (Data p) → p.head ≡ heads.Addr round at →
      (i : ℕ) × IsJoinOf p i a b × (slice_get (table_rounds script a) round ≡ Some i) × (at ≡ entry script round a)

  -- the Join to task t of the round of task d, of this statement's kind, has landed
  abbrev pub has_joined : List Event → Statement → (to from round : ℕ) → Bool
  has_joined J s t d round = join_landed J t d (slice_get (rounds_like script s d) round)

  -- A Join lands once for its round,
  abbrev pub JoinsOnce : List Event → Type 0
  JoinsOnce J = (a i b : ℕ) (K : List Event) → HasRound script a i → J ≡ Land (message a i (Join b)) ∷ K →
      has_joined K (statement script a i) b a (round_of script a i) ≡ false

  -- joins its origin to that round and nobody to another,
  abbrev pub JoinsItsRound : List Event → Type 0
  JoinsItsRound J = (a i b t d round : ℕ) (K : List Event) → HasRound script a i → J ≡ Land (message a i (Join b)) ∷ K →
      let s = statement script a i in
      has_joined J s t d round ≡ (has_joined K s t d round || ((t == b && d == a) && round == round_of script a i))

  -- and nobody to a round of the other kind.
  abbrev pub JoinsNoOther : List Event → Type 0
  JoinsNoOther J = (a i b t d round : ℕ) (s : Statement) (K : List Event) → HasRound script a i → J ≡ Land (message a i (Join b)) ∷ K →
      is_gfence s ≡ not (is_gfence (statement script a i)) → has_joined J s t d round ≡ has_joined K s t d round

  -- A round of addresses that a task has passed was joined by every other task,
  abbrev pub PassedAreJoined : List Event → Type 0
  PassedAreJoined J = (a i : ℕ) → is_addr (statement script a i) ≡ true → Happened (Passed a i) J → joined script J a i ≡ true

  -- and a task knows the entries of a round exactly where it is past as many of its own.
  abbrev pub KnownArePassed : List Event → Type 0
  KnownArePassed J = (a round offset : ℕ) →
      is_known script J a (Table round offset) ≡ nat_lt round (length (filter (λ i. nat_lt i (next J a)) (table_rounds script a)))
