-- Quiet records, in which nothing is under way; those whose packets were all delivered; and final journals, in
-- which whatever was begun has all its events. This is the project's own.
use Rattle.std.specs.Prelude.{◌≡◌, ◌↔◌, ℕ, ◌<◌, Bool, true, false, ◌&&◌, not, List, [], ◌∷◌, Option, Some, None, is_some}
use Rattle.lapi_base.specs.declared.script.Script.{Script}
use Rattle.lapi_base.specs.declared.rule.Rules.{Rules}
use Rattle.lapi_base.specs.declared.event.Event.{Event}
use Rattle.lapi_base.specs.declared.schedule.Act.{Act}
use Rattle.lapi_base.specs.declared.reply.Bad.{Bad}
use Rattle.lapi_base.specs.declared.packet.Packet.{Packet}
use Rattle.lapi_base.specs.declared.packet.Packet.TheVariants.{Data, Ack}
use Rattle.lapi_base.specs.declared.message.Leg.TheVariants.{Join}
use Rattle.lapi_base.specs.Record.Below.{every_below}
use Rattle.lapi_base.specs.Record.Names.{Issued, Entered, Copied, happened}
use Rattle.lapi_base.specs.Record.Operations.{statement, is_data, has_leg}
use Rattle.lapi_base.specs.Record.Handlers.{answers}
use Rattle.lapi_base.specs.Record.Jobs.{queue, runs}
use Rattle.lapi_base.specs.Record.Wires.{Run, is_sent, is_delivered, is_acked, to_send}
use Rattle.lapi_base.specs.Record.Acts.{ready, after}
use Rattle.lapi_base.specs.Record.Atomic.{chain, join_chain}
use Rattle.lapi_base.specs.Record.Valid.{ValidAct, IsNoStep}
use Rattle.std.specs.List.{list_all, AllByRecursion, Contains}

-- the last acknowledgement on a wire
abbrev pub or_first : Packet → Option Packet → Option Packet
or_first p (Some q) = Some q
or_first (Ack layout from to base bits) None = Some (Ack layout from to base bits)
or_first (Data p) None = None

unfoldable pub last_ack : List Packet → Option Packet
last_ack [] = None
last_ack (p ∷ ps) = or_first p (last_ack ps)

abbrev pub is_empty : {X : Type 0} → List X → Bool
is_empty [] = true
is_empty (x ∷ xs) = false

module _ (script : Script) (rules : Rules) where
  -- no job waits or runs, and a Poll of any task would copy nothing and send no data
  pub record Resting (r : Run) : Type 0 where
    pub none_waits : (t : ℕ) → t < script.tasks → queue script rules r.journal t ≡ []
    pub none_runs : (t w : ℕ) → t < script.tasks → w < script.workers → runs r.journal t w ≡ None
    pub no_copy : (t : ℕ) → t < script.tasks → list_all (λ m. happened (Copied m) r.journal) (ready script r.journal t) ≡ true
    pub no_entry : (a b : ℕ) → a < script.tasks → b < script.tasks → to_send script rules r r.journal a b ≡ []

  -- nor would a Poll acknowledge anything
  abbrev pub NoneOwed : Run → Type 0
  NoneOwed r = (a b : ℕ) → a < script.tasks → b < script.tasks → r.owed a b ≡ false

  pub record Quiet (r : Run) : Type 0 where
    pub acked : (a b n : ℕ) → is_sent r a b n ≡ true → is_acked r a b n ≡ true
    pub resting : Resting r
    pub none_owed : NoneOwed r

  -- The same as a test, over the tasks and the workers that there are.
  abbrev pub is_told : Run → (from to : ℕ) → Packet → Bool
  is_told r a b (Data p) = is_acked r a b p.seq
  is_told r a b (Ack layout from to base bits) = true

  -- all that is on the wire from a to b is acknowledged, a Poll would add nothing to it, and no acknowledgement is owed on the link
  unfoldable pub is_settled : Run → (from to : ℕ) → Bool
  is_settled r a b = list_all (is_told r a b) (r.wire a b) && is_empty (to_send script rules r r.journal a b) && not (r.owed a b)

  -- no job of task t waits or runs, and a Poll would copy nothing
  unfoldable pub is_idle : Run → (task : ℕ) → Bool
  is_idle r t =
      (is_empty (queue script rules r.journal t) && every_below script.workers (λ w. not (is_some (runs r.journal t w))))
      && list_all (λ m. happened (Copied m) r.journal) (ready script r.journal t)

  unfoldable pub is_quiet : Run → Bool
  is_quiet r = every_below script.tasks (is_idle r) && every_below script.tasks (λ a. every_below script.tasks (is_settled r a))

  abbrev pub WasHanded : Run → (from to : ℕ) → Option Packet → Type 0
  WasHanded r a b None = Unit {0}
  WasHanded r a b (Some p) = Contains (r.handed a b) p

  pub record AllDelivered (r : Run) : Type 0 where
    pub delivered : (a b n : ℕ) → is_sent r a b n ≡ true → is_delivered r a b n ≡ true
    pub told : (a b : ℕ) → WasHanded r a b (last_ack (r.wire a b))
    pub resting : Resting r
    pub none_owed : NoneOwed r

  -- every issued data operation has all its events, and every entered statement has all of its Joins
  pub record Final (J : List Event) : Type 0 where
    pub operations : (a i : ℕ) → is_data (statement script a i) ≡ true → happened (Issued a i) J ≡ true → list_all (λ d. happened d J) (chain script rules a i) ≡ true
    pub entered : (a i d : ℕ) → happened (Entered a i) J ≡ true → has_leg script (answers script rules a i) a (Join d) (statement script a i) ≡ true → list_all (λ x. happened x J) (join_chain a i d) ≡ true

  -- Laws of every record: once everything is delivered it is quiet; then its journal is final; and from then on no line but a Step adds an event.
  abbrev pub DeliveredIsQuiet : Run → Type 0
  DeliveredIsQuiet r = AllDelivered r → Quiet r

  abbrev pub QuietIsFinal : Run → Type 0
  QuietIsFinal r = Quiet r → Final r.journal

  abbrev pub QuietStays : Run → Type 0
  QuietStays r =
      Quiet r → (spells : List ℕ → Bool) (size : Packet → ℕ) (refusal : List ℕ → Bad) (more : List Act)
      → AllByRecursion (ValidAct script spells) more → AllByRecursion IsNoStep more → (after script rules size refusal r more).journal ≡ r.journal

  -- and the test says the same
  abbrev pub QuietIsTested : Run → Type 0
  QuietIsTested r = (is_quiet r ≡ true) ↔ Quiet r
