-- What a record tells by its part at one task alone, and how parts grow. These are words of this project for its
-- laws.
use Rattle.std.specs.Prelude.{◌≡◌, ℕ, ◌==◌, false, List, [], ◌∷◌, ◌++◌, slice_get, Option, None}
use Rattle.std.specs.List.{AllByRecursion}
use Rattle.lapi_base.specs.declared.script.Script.{Script}
use Rattle.lapi_base.specs.declared.rule.Rules.{Rules}
use Rattle.lapi_base.specs.declared.message.MsgName.{MsgName}
use Rattle.lapi_base.specs.declared.event.Event.{Event}
use Rattle.lapi_base.specs.declared.schedule.Act.{Act}
use Rattle.lapi_base.specs.declared.schedule.Act.TheVariants.{Deliver, Cut}
use Rattle.lapi_base.specs.declared.reply.Reply.{Reply}
use Rattle.lapi_base.specs.declared.packet.Packet.{Packet}
use Rattle.lapi_base.specs.Record.Names.{EventKey, happened}
use Rattle.lapi_base.specs.Record.Operations.{receiver}
use Rattle.lapi_base.specs.Record.Values.{values}
use Rattle.lapi_base.specs.Record.Counters.{count, reads}
use Rattle.lapi_base.specs.Record.Refusals.{next, joined, refusal_of, refusals}
use Rattle.lapi_base.specs.Record.Jobs.{queue, runs}
use Rattle.lapi_base.specs.Record.Wires.{Run, numbered, base, data_done, data_clear, packets, to_resend, sends}
use Rattle.lapi_base.specs.Record.Acts.{ready, copy_each}
use Rattle.lapi_base.specs.Record.WorldView.{IsRecord, performed}
use Rattle.lapi_base.specs.Record.TaskPart.{place_of, place_of_key, events_at, part_at, actor}

module _ (script : Script) (rules : Rules) where
  -- the journal of a Poll, with its Copy events
  abbrev pub copied : Run → (task : ℕ) → List Event
  copied r t = copy_each r.journal (ready script r.journal t)

  -- what a Poll of t puts on its wire to b, and what a Tick does
  abbrev pub polled : Run → (from to : ℕ) → List Packet
  polled r t b = sends script rules r (copied r t) t b

  abbrev pub ticked : Run → (from to : ℕ) → List Packet
  ticked r t b = packets script rules r.journal t b (to_resend script rules r t b)

  -- The records r and s tell the same of task t: of what happened there and of its statements,
  pub record SameStatements (t : ℕ) (r s : Run) : Type 0 where
    pub same_events : (d : EventKey) → place_of_key script d ≡ t → happened d r.journal ≡ happened d s.journal
    pub next : next r.journal t ≡ next s.journal t
    pub refused : (i : ℕ) → refusal_of script rules r.journal t i ≡ refusal_of script rules s.journal t i
    pub refusals : refusals r.journal t ≡ refusals s.journal t
    pub counters : (c : ℕ) → count script rules r.journal t c ≡ count script rules s.journal t c
    pub reads : reads script rules r.journal t ≡ reads script rules s.journal t
    pub joined : (i : ℕ) → joined script r.journal t i ≡ joined script s.journal t i
    pub data_done : (i : ℕ) → data_done script r t i ≡ data_done script s t i
    pub clear : (i : ℕ) → data_clear script r t i ≡ data_clear script s t i

  -- of the links from it,
  pub record SameLinks (t : ℕ) (r s : Run) : Type 0 where
    pub numbers : (b : ℕ) → numbered script r.journal t b ≡ numbered script s.journal t b
    pub base : (b : ℕ) → base script r t b ≡ base script s t b
    pub ready : ready script r.journal t ≡ ready script s.journal t
    pub copied : events_at script t (copied r t) ≡ events_at script t (copied s t)
    pub polled : (b : ℕ) → polled r t b ≡ polled s t b
    pub ticked : (b : ℕ) → ticked r t b ≡ ticked s t b

  -- of its jobs, each with its buffer as it stood when it began,
  pub record SameJobs (t : ℕ) (r s : Run) : Type 0 where
    pub waiting : queue script rules r.journal t ≡ queue script rules s.journal t
    pub running : (w : ℕ) → runs r.journal t w ≡ runs s.journal t w
    pub held : (m : MsgName) → receiver script m ≡ t → (values script rules r.journal).held m ≡ (values script rules s.journal).held m

  -- and of its memory.
  abbrev pub SameMemory : (task : ℕ) → Run → Run → Type 0
  SameMemory t r s = (x : ℕ) → (values script rules r.journal).memory t x ≡ (values script rules s.journal).memory t x

-- This two records tell alike, where they have the same part at the task.
abbrev pub IsToldByPart : (Script → Rules → ℕ → Run → Run → Type 0) → Type 0
IsToldByPart P = (script : Script) (rules : Rules) (t : ℕ) (r s : Run) → IsRecord script rules r → IsRecord script rules s → part_at script t r ≡ part_at script t s → P script rules t r s

-- the entry that an act of the switch takes
abbrev pub entry_of : Act → Run → Option Packet
entry_of (Deliver a b k) r = slice_get (r.wire a b) k
entry_of (Cut a b k n) r = slice_get (r.wire a b) k
entry_of act r = None

module _ (script : Script) (rules : Rules) where
  -- An act at task t has the same reply in r and s, and leaves them with the same part at t. Where the switch hands an entry over, it is the same entry.
  abbrev pub ActsAlike : (task : ℕ) → Run → Run → Type 0
  ActsAlike t r s = (act : Act) → actor act ≡ t → entry_of act r ≡ entry_of act s →
      (reply : Reply)
      × ((performed script rules r act).replies ≡ r.replies ++ reply ∷ [])
      × ((performed script rules s act).replies ≡ s.replies ++ reply ∷ [])
      × (part_at script t (performed script rules r act) ≡ part_at script t (performed script rules s act))

  -- a line leaves the parts of all tasks but its own
  abbrev pub OthersStay : Run → Type 0
  OthersStay r = (act : Act) (u : ℕ) → (actor act == u) ≡ false → part_at script u (performed script rules r act) ≡ part_at script u r

  -- the events that it adds are all at its task
  abbrev pub EventsAreOwn : Run → Type 0
  EventsAreOwn r = (act : Act) → (added : List Event) × ((performed script rules r act).journal ≡ added ++ r.journal) × AllByRecursion (λ e. place_of script e ≡ actor act) added
