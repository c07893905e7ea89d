-- A flush of a task: a Poll of it, and then a served part for each of its links that the Poll added data packets to.
-- This is the project's own.
use Rattle.std.specs.Prelude.{◌≡◌, ℕ, zero, suc, ◌+◌, ◌-◌, ◌*◌, ◌<◌, ◌≤◌, nat_lt, true, false, List, [], ◌∷◌, ◌++◌, length}
use Rattle.lapi_base.specs.declared.script.Script.{Script}
use Rattle.lapi_base.specs.declared.rule.Rules.{Rules}
use Rattle.lapi_base.specs.declared.message.MsgName.{MsgName}
use Rattle.lapi_base.specs.declared.event.Event.{Event}
use Rattle.lapi_base.specs.declared.schedule.Act.{Act}
use Rattle.lapi_base.specs.declared.schedule.Act.TheVariants.{Poll}
use Rattle.lapi_base.specs.declared.packet.Packet.{Packet}
use Rattle.lapi_base.specs.declared.packet.Packet.TheVariants.{Data, Ack}
use Rattle.lapi_base.specs.Packet.Layout.{window_of, holds_back}
use Rattle.lapi_base.specs.Record.Names.{Copied, Landed}
use Rattle.lapi_base.specs.Record.Operations.{sender, receiver}
use Rattle.lapi_base.specs.Packet.Spelling.{refusal}
use Rattle.lapi_base.specs.Packet.PacketBytes.{packet_size}
use Rattle.lapi_base.specs.Record.Wires.{Run, numbered, is_sent, is_acked}
use Rattle.lapi_base.specs.Record.Acts.{ready, copy_each, after, poll}
use Rattle.lapi_base.specs.Laws.Headline.{Happened}
use Rattle.lapi_flush.specs.Served.{AddsEvents, served}

-- how many of these are data packets
unfoldable pub data_count : List Packet → ℕ
data_count [] = 0
data_count (Data p ∷ ps) = suc (data_count ps)
data_count (Ack layout from to base bits ∷ ps) = data_count ps

-- the numbers sent on a link are those below top, each once, and all of them are acknowledged
pub record IsCalm (r : Run) (a b top : ℕ) : Type 0 where
  pub sent : (m : ℕ) → is_sent r a b m ≡ nat_lt m top
  pub acked : (m : ℕ) → m < top → is_acked r a b m ≡ true
  pub once : data_count (r.wire a b) ≤ top

-- f 0 + .. + f (n - 1)
unfoldable pub sum_to : (n : ℕ) → (ℕ → ℕ) → ℕ
sum_to zero f = 0
sum_to (suc n) f = sum_to n f + f n

-- the data packets on all wires between so many tasks
abbrev pub all_data : (tasks : ℕ) → Run → ℕ
all_data tasks r = sum_to tasks (λ a. sum_to tasks (λ b. data_count (r.wire a b)))

module _ (script : Script) (rules : Rules) where
  -- the journal of a Poll of task t
  abbrev pub polled : Run → (t : ℕ) → List Event
  polled r t = copy_each r.journal (ready script r.journal t)

  -- a served part of so many entries from first on, and no line where there are none
  abbrev pub part_acts : Run → (a b first count : ℕ) → List Act
  part_acts r a b first zero = []
  part_acts r a b first (suc last) = served r a b first last

  -- after a Poll of t: served parts of what it added to the wires from t to the first n tasks
  unfoldable pub link_acts : Run → (t n : ℕ) → List Act
  link_acts r t zero = []
  link_acts r t (suc b) =
      let acts = link_acts r t b in
      let now = after script rules packet_size refusal (poll script rules r t) acts in
      acts ++ part_acts now t b (length (r.wire t b)) (length ((poll script rules r t).wire t b) - length (r.wire t b))

  -- the lines of a flush of task t
  abbrev pub flush : Run → (t : ℕ) → List Act
  flush r t = Poll t ∷ link_acts r t script.tasks

  -- What a flush of t leaves: the links of t are calm with all numbers that they had by its Poll, each message of t
  -- that was copied by then has landed, and calm links of others still are.
  pub record IsFlushed (r s : Run) (t : ℕ) : Type 0 where
    pub own : (b : ℕ) → b < script.tasks → IsCalm s t b (length (numbered script (polled r t) t b))
    pub others : (a b top : ℕ) → (a ≡ t → ⊥) → IsCalm r a b top → IsCalm s a b top
    pub landed : (m : MsgName) → sender script m ≡ t → receiver script m < script.tasks
        → Happened (Copied m) (polled r t) → Happened (Landed m) s.journal
    pub events : AddsEvents (polled r t) s.journal
    -- it has no more than two lines for each data packet that it adds, and one
    pub lines : length (flush r t) + 2 * all_data script.tasks r ≤ 1 + 2 * all_data script.tasks s

  -- where acknowledgements go numbered at once, the links of t are calm, and a Poll adds to each no more than the window has
  abbrev pub FlushesAreFlushed : Run → Type 0
  FlushesAreFlushed r = holds_back script ≡ false → (t : ℕ) (tops : ℕ → ℕ)
      → t < script.tasks
      → ((b : ℕ) → b < script.tasks → IsCalm r t b (tops b))
      → ((b : ℕ) → b < script.tasks → length (numbered script (polled r t) t b) ≤ tops b + window_of script)
      → IsFlushed r (after script rules packet_size refusal r (flush r t)) t
