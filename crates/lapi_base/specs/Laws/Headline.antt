-- What an atomic journal keeps, in the words of those who use it: messages land once, handlers run in order,
-- fences wait, counters add up. These follow from the atomic machine; each is a law of this project.
use Rattle.std.specs.Prelude.{◌≡◌, ℕ, ◌+◌, ◌<◌, ◌≤◌, ◌==◌, ◌&&◌, Bool, true, false, cond, List, [], ◌∷◌, ◌++◌, reverse}
use Rattle.std.specs.List.{AllByRecursion, sum_by, count_by, zip}
use Rattle.lapi_base.specs.declared.statement.Statement.{Statement}
use Rattle.lapi_base.specs.declared.statement.Statement.TheVariants.{Wait, Set, Fence, Gfence}
use Rattle.lapi_base.specs.declared.script.Script.{Script}
use Rattle.lapi_base.specs.declared.rule.Rules.{Rules}
use Rattle.lapi_base.specs.declared.message.Leg.TheVariants.{Go}
use Rattle.lapi_base.specs.declared.message.MsgName.{MsgName}
use Rattle.lapi_base.specs.declared.event.Event.{Event}
use Rattle.lapi_base.specs.declared.event.Event.TheVariants.{Issue, Pass}
use Rattle.lapi_base.specs.declared.schedule.Act.{Act}
use Rattle.lapi_base.specs.declared.reply.Bad.{Bad}
use Rattle.lapi_base.specs.declared.packet.Packet.{Packet}
use Rattle.lapi_base.specs.Packet.Layout.{holds_back}
use Rattle.lapi_base.specs.Record.Names.{message, EventKey, Issued, Entered, Copied, Headed, Landed, Begun, Ended, key_of, key_eq, happened}
use Rattle.lapi_base.specs.Record.Operations.{statement, is_data, is_am}
use Rattle.lapi_base.specs.Record.Counters.{tells, count}
use Rattle.lapi_base.specs.Record.Refusals.{round_of}
use Rattle.lapi_base.specs.Record.Wires.{Run}
use Rattle.lapi_base.specs.Record.Acts.{run_of, deliveries, owes}
use Rattle.lapi_base.specs.Record.Atomic.{Atomic, data_landed}
use Rattle.lapi_base.specs.Record.Valid.{ValidAct}

-- this stands in the journal
abbrev pub Happened : EventKey → List Event → Type 0
Happened d J = happened d J ≡ true

-- how often it stands there
abbrev pub times : EventKey → List Event → ℕ
times d J = count_by (λ e. key_eq d (key_of e)) J

-- this event stands in the journal after these, which are all that stand before it
abbrev pub StandsAfter : List Event → Event → List Event → Type 0
StandsAfter before e J = (later : List Event) × (J ≡ later ++ e ∷ before)

-- wherever the second stands, the first stands before it
abbrev pub Precedes : EventKey → EventKey → List Event → Type 0
Precedes first second J = (before : List Event) (e : Event) → key_of e ≡ second → StandsAfter before e J → Happened first before

-- what a statement takes from counter c
abbrev pub taken_by : Statement → (c : ℕ) → ℕ
taken_by (Wait counter value) c = cond (counter == c) value 0
taken_by _ c = 0

module _ (script : Script) (rules : Rules) where
  -- a message lands at most once
  abbrev pub LandsOnce : List Event → Type 0
  LandsOnce J = (m : MsgName) → times (Landed m) J ≤ 1

  -- a message has at most one call of its header handler, and at most one begin and one end of its completion handler
  abbrev pub HandlersOnce : List Event → Type 0
  HandlersOnce J = (m : MsgName) → (times (Headed m) J ≤ 1) × (times (Begun m) J ≤ 1) × (times (Ended m) J ≤ 1)

  -- a message is copied before its header handler is called; that is before an active message's data land; what lands, lands before its completion handler begins; and that begins before it ends
  abbrev pub HandlersInOrder : List Event → Type 0
  HandlersInOrder J =
      ((m : MsgName) → Precedes (Copied m) (Headed m) J)
      × ((a i : ℕ) → is_am (statement script a i) ≡ true → Precedes (Headed (message a i Go)) (Landed (message a i Go)) J)
      × ((m : MsgName) → Precedes (Landed m) (Begun m) J)
      × ((m : MsgName) → Precedes (Begun m) (Ended m) J)

  -- the data of every operation that task a issued before its statement i have landed
  abbrev pub EarlierLanded : List Event → (a i : ℕ) → Type 0
  EarlierLanded J a i = (j : ℕ) → j < i → is_data (statement script a j) ≡ true → Happened (Issued a j) J → data_landed script rules J a j ≡ true

  -- a fence passes only where the data of the task's earlier operations have landed
  abbrev pub FencesWait : List Event → Type 0
  FencesWait J = (before : List Event) (a i : ℕ) → statement script a i ≡ Fence → StandsAfter before (Pass a i) J → EarlierLanded before a i

  -- task d has entered its global fence of the same round as a.i, with the data of its earlier operations landed
  abbrev pub HasJoined : List Event → (a i d : ℕ) → Type 0
  HasJoined J a i d = (k : ℕ) × (statement script d k ≡ Gfence) × (round_of script d k ≡ round_of script a i) × Happened (Entered d k) J × EarlierLanded J d k

  -- a global fence passes only where every task has entered its own of the same round, and all data from before those have landed
  abbrev pub GlobalFencesWait : List Event → Type 0
  GlobalFencesWait J = (before : List Event) (a i d : ℕ) → statement script a i ≡ Gfence → StandsAfter before (Pass a i) J → d < script.tasks → HasJoined before a i d

  -- how often counter c of task t was announced
  abbrev pub announced : List Event → (t c : ℕ) → ℕ
  announced J t c = count_by (λ e. tells script rules e t c) J

  -- what an event takes from it
  abbrev pub taken_at : Event → (t c : ℕ) → ℕ
  taken_at (Pass a i) t c = cond (a == t) (taken_by (statement script a i) c) 0
  taken_at _ t c = 0

  -- and what all of them take
  abbrev pub taken : List Event → (t c : ℕ) → ℕ
  taken J t c = sum_by (λ e. taken_at e t c) J

  -- no event sets it
  abbrev pub IsNotSet : List Event → (t c : ℕ) → Type 0
  IsNotSet J t c = (i value : ℕ) → statement script t i ≡ Set c value → Happened (Issued t i) J → ⊥

  -- the last event sets it to this value, or there is none and the value is 0
  abbrev pub StartsAt : List Event → (t c value : ℕ) → Type 0
  StartsAt [] t c value = value ≡ 0
  StartsAt (Issue a i ∷ J) t c value = (a ≡ t) × (statement script a i ≡ Set c value)
  StartsAt _ t c value = ⊥

  -- a counter is the last value that was set, or 0, and the announcements after that, less what waits took after it
  abbrev pub CountersAddUp : List Event → Type 0
  CountersAddUp J = (t c value : ℕ) (later before : List Event) → J ≡ later ++ before → StartsAt before t c value → IsNotSet later t c → count script rules J t c + taken later t c ≡ value + announced later t c

  -- every journal has such a value to start at: it ends with what came after the last set, or nothing sets the counter
  abbrev pub CountersStart : List Event → Type 0
  CountersStart J = (t c : ℕ) → (value : ℕ) × (later : List Event) × (before : List Event) × (J ≡ later ++ before) × StartsAt before t c value × IsNotSet later t c

-- this holds of every atomic journal
abbrev pub HoldsOfAtomic : (Script → Rules → List Event → Type 0) → Type 0
HoldsOfAtomic P = (script : Script) (rules : Rules) (J : List Event) → Atomic script rules J → P script rules J

-- this holds of every run, whatever lines its schedule has
abbrev pub HoldsOfRuns : (Script → Rules → Run → Type 0) → Type 0
HoldsOfRuns P = (script : Script) (rules : Rules) (spells : List ℕ → Bool) (size : Packet → ℕ) (refusal : List ℕ → Bad) (acts : List Act) → AllByRecursion (ValidAct script spells) acts → P script rules (run_of script rules size refusal acts)

-- and this of every run's journal
abbrev pub HoldsOfJournals : (Script → Rules → List Event → Type 0) → Type 0
HoldsOfJournals P = HoldsOfRuns (λ script rules r. P script rules r.journal)

-- what a record lists as handed over are the entries that its lines delivered, the latest first
abbrev pub HandedAreDeliveries : Type 0
HandedAreDeliveries = (script : Script) (rules : Rules) (size : Packet → ℕ) (refusal : List ℕ → Bad) (acts : List Act) (a b : ℕ) →
    let r = run_of script rules size refusal acts in
    r.handed a b ≡ reverse (deliveries (r.wire a b) a b acts r.replies)

-- what it tells to be owed is, where the layout holds acknowledgements back, what these lines leave owed
abbrev pub OwedByDeliveries : Type 0
OwedByDeliveries = (script : Script) (rules : Rules) (size : Packet → ℕ) (refusal : List ℕ → Bad) (acts : List Act) (a b : ℕ) →
    let r = run_of script rules size refusal acts in
    r.owed a b ≡ (holds_back script && owes (r.wire a b) a b (zip acts r.replies) false)
