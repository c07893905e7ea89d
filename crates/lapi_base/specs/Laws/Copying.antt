-- What holds of the messages that were copied: their statements, the Joins of a collective call, and when the data of an
-- operation are done, by a count. These are words of this project for its laws.
use Rattle.std.specs.Prelude.{◌≡◌, ℕ, ◌+◌, ◌<◌, ◌==◌, ◌&&◌, not, Bool, true, false, List, length, slice_get, None}
use Rattle.lapi_base.specs.declared.script.Script.{Script}
use Rattle.lapi_base.specs.declared.rule.Rules.{Rules}
use Rattle.lapi_base.specs.declared.message.Leg.TheVariants.{Go, Join}
use Rattle.lapi_base.specs.declared.message.MsgName.{MsgName}
use Rattle.lapi_base.specs.declared.event.Event.{Event}
use Rattle.lapi_base.specs.declared.schedule.Act.TheVariants.{Deliver}
use Rattle.lapi_base.specs.declared.packet.Packet.TheVariants.{Ack}
use Rattle.lapi_base.specs.Record.Below.{below}
use Rattle.lapi_base.specs.Record.Names.{message, Copied, happened}
use Rattle.lapi_base.specs.Record.Operations.{statement, has_back, receiver, fragment_count}
use Rattle.lapi_base.specs.Record.Refusals.{refusal_by}
use Rattle.lapi_base.specs.Record.Wires.{Run, IsEntry, numbered, is_of, covers, is_acked, data_done}
use Rattle.lapi_base.specs.Record.WorldView.{performed}
use Rattle.lapi_base.specs.Laws.Headline.{Happened}
use Rattle.lapi_base.specs.declared.schedule.Act.{Act}
use Rattle.lapi_base.specs.Packet.Spelling.{spells_packet}
use Rattle.lapi_base.specs.Record.Valid.{ValidAct}

module _ (script : Script) (rules : Rules) where
  -- The statement of a message that was copied is one that nothing refuses, where every address is known.
  abbrev pub CopiedAreAccepted : List Event → Type 0
  CopiedAreAccepted J = (m : MsgName) → Happened (Copied m) J → refusal_by script rules (λ _. true) m.origin m.statement ≡ None

  -- The Joins of a collective call to the other tasks were all copied, or none was.
  abbrev pub JoinsAreCopiedTogether : Run → Type 0
  JoinsAreCopiedTogether r = (a i d e : ℕ) → d < script.tasks → e < script.tasks → (d == a) ≡ false → (e == a) ≡ false →
      happened (Copied (message a i (Join d))) r.journal ≡ happened (Copied (message a i (Join e))) r.journal

  -- how many numbers of the message pass this test
  unfoldable pub numbers_that : Run → MsgName → (ℕ → Bool) → ℕ
  numbers_that r m passes =
      let pairs = numbered script r.journal m.origin (receiver script m) in
      length (below (length pairs) (λ n. is_of script m (slice_get pairs n) && passes n))

  -- how many numbers of the data of operation a.i are not acknowledged
  abbrev pub unacknowledged : Run → (task statement : ℕ) → ℕ
  unacknowledged r a i = let m = message a i Go in numbers_that r m (λ n. not (is_acked r a (receiver script m) n))

  -- Data that nothing brings back are done where they were copied and none of their numbers is unacknowledged;
  abbrev pub DoneByCount : Run → Type 0
  DoneByCount r = (a i : ℕ) → has_back (statement script a i) ≡ false →
      data_done script r a i ≡ (happened (Copied (message a i Go)) r.journal && unacknowledged r a i == 0)

  -- and an acknowledgement lowers that by the numbers that it covers and none covered before.
  abbrev pub AcksLowerCounts : Run → Type 0
  AcksLowerCounts r = (a i k layout from to least bits : ℕ) →
      let m = message a i Go in
      let b = receiver script m in
      let ack = Ack layout from to least bits in
      IsEntry r b a k ack →
      unacknowledged (performed script rules r (Deliver b a k)) a i + numbers_that r m (λ n. covers n ack && not (is_acked r a b n)) ≡ unacknowledged r a i

  -- The line acknowledges nothing more of what a sent to b.
  abbrev pub AcksNothing : Run → Act → (from to : ℕ) → Type 0
  AcksNothing r act a b = (n : ℕ) → is_acked (performed script rules r act) a b n ≡ is_acked r a b n

  -- Where it copies data, all their fragments are unacknowledged after it,
  abbrev pub CopiesCountAll : Run → Type 0
  CopiesCountAll r = (act : Act) (a i : ℕ) → ValidAct script spells_packet act →
      let m = message a i Go in
      happened (Copied m) r.journal ≡ false → Happened (Copied m) (performed script rules r act).journal → AcksNothing r act a (receiver script m) →
      unacknowledged (performed script rules r act) a i ≡ fragment_count script m

  -- and of data that were copied before, as many as before.
  abbrev pub CountsStay : Run → Type 0
  CountsStay r = (act : Act) (a i : ℕ) → ValidAct script spells_packet act →
      let m = message a i Go in
      Happened (Copied m) r.journal → AcksNothing r act a (receiver script m) →
      unacknowledged (performed script rules r act) a i ≡ unacknowledged r a i
