-- What is bounded on a link: how far numbers run ahead, how many messages are there in part, how great numbers
-- get; and what the numbers that were delivered say of messages. These are words of this project for its laws.
use Rattle.std.specs.Prelude.{◌≡◌, ◌↔◌, ℕ, ◌+◌, ◌^◌, ◌<◌, ◌≤◌, true, false, List, [], ◌∷◌, length, slice_get, Some}
use Rattle.std.specs.List.{AllByRecursion, IsDistinct}
use Rattle.lapi_base.specs.declared.script.Script.{Script}
use Rattle.lapi_base.specs.declared.rule.Rules.{Rules}
use Rattle.lapi_base.specs.declared.message.Leg.TheVariants.{Go}
use Rattle.lapi_base.specs.declared.message.MsgName.{MsgName}
use Rattle.lapi_base.specs.declared.event.Event.{Event}
use Rattle.lapi_base.specs.declared.packet.Packet.{Packet}
use Rattle.lapi_base.specs.Packet.Layout.{window_of, holds_back}
use Rattle.lapi_base.specs.Record.Names.{name_eq, Copied, Headed, Landed}
use Rattle.lapi_base.specs.Record.Operations.{statement, is_am, sender, receiver}
use Rattle.lapi_base.specs.Record.Wires.{Run, numbered, least_undelivered, base, is_sent, is_delivered, is_acked, data_done, data_clear, packets, to_send, sends}
use Rattle.lapi_base.specs.Record.Acts.{at_once}
use Rattle.lapi_base.specs.Record.Atomic.{data_landed}
use Rattle.lapi_base.specs.Laws.Headline.{Happened, EarlierLanded}
use Rattle.lapi_base.specs.Record.Valid.{ValidScript}

module _ (script : Script) (rules : Rules) where
  -- what is acknowledged was delivered
  abbrev pub AckedAreDelivered : Run → Type 0
  AckedAreDelivered r = (a b n : ℕ) → is_acked r a b n ≡ true → is_delivered r a b n ≡ true

  -- every number on a wire is below the least that isn't acknowledged, plus the window
  abbrev pub SentAreInWindow : Run → Type 0
  SentAreInWindow r = (a b n : ℕ) → is_sent r a b n ≡ true → n < base script r a b + window_of script

  -- an acknowledgement is owed under a layout that holds them back alone, and between tasks that there are
  abbrev pub OwedAreHeldBack : Run → Type 0
  OwedAreHeldBack r = (a b : ℕ) → r.owed a b ≡ true → (holds_back script ≡ true) × (a < script.tasks) × (b < script.tasks)

  -- Where the layout holds nothing back, nothing is owed: each delivery of a data packet puts its acknowledgement on the wire, and a Poll sends data alone.
  abbrev pub TellsAtOnce : Run → Type 0
  TellsAtOnce r =
      holds_back script ≡ false
      → ((a b : ℕ) → r.owed a b ≡ false) × ((told : Packet) → at_once script rules told ≡ told ∷ []) × ((J : List Event) (a b : ℕ) → sends script rules r J a b ≡ packets script rules J a b (to_send script rules r J a b))

  -- number n of the link is one of message m
  abbrev pub IsNumberOf : Run → (from to : ℕ) → MsgName → ℕ → Type 0
  IsNumberOf r a b m n = (j : ℕ) × (slice_get (numbered script r.journal a b) n ≡ Some (m, j))

  -- one number of the message was delivered, and one wasn't
  abbrev pub IsPartlyDelivered : Run → (from to : ℕ) → MsgName → Type 0
  IsPartlyDelivered r a b m = (n : ℕ) × (k : ℕ) × IsNumberOf r a b m n × (is_delivered r a b n ≡ true) × IsNumberOf r a b m k × (is_delivered r a b k ≡ false)

  -- every number on a wire is below the least that wasn't delivered, plus the window
  abbrev pub StaysInWindow : Run → Type 0
  StaysInWindow r = (a b n : ℕ) → is_sent r a b n ≡ true → n < least_undelivered script r a b + window_of script

  -- on each link at most as many different messages are partly delivered as the window has numbers
  abbrev pub FewArePartial : Run → Type 0
  FewArePartial r = (a b : ℕ) (ms : List MsgName) → IsDistinct name_eq ms → AllByRecursion (IsPartlyDelivered r a b) ms → length ms ≤ window_of script

  -- a link of a valid script has at most 2^22 numbers, sent or not
  abbrev pub NumbersAreFew : Run → Type 0
  NumbersAreFew r = ValidScript script → (a b : ℕ) → length (numbered script r.journal a b) ≤ 2 ^ 22

  -- so every number on a wire is below 2^22, and fits in four bytes
  abbrev pub NumbersAreSmall : Run → Type 0
  NumbersAreSmall r = ValidScript script → (a b n : ℕ) → is_sent r a b n ≡ true → n < 2 ^ 22

  -- number n is one of message m on its link, and was delivered there
  abbrev pub HasNumber : Run → MsgName → ℕ → Type 0
  HasNumber r m n = IsNumberOf r (sender script m) (receiver script m) m n

  abbrev pub WasDelivered : Run → MsgName → ℕ → Type 0
  WasDelivered r m n = is_delivered r (sender script m) (receiver script m) n ≡ true

  -- a message has landed exactly where it was copied and all its numbers were delivered
  abbrev pub LandsWhenAllCame : Run → Type 0
  LandsWhenAllCame r = (m : MsgName) → Happened (Landed m) r.journal ↔ (Happened (Copied m) r.journal × ((n : ℕ) → HasNumber r m n → WasDelivered r m n))

  -- it carries the data of an active message
  abbrev pub IsActive : MsgName → Type 0
  IsActive m = (m.leg ≡ Go) × (is_am (statement script m.origin m.statement) ≡ true)

  -- a header handler was called exactly where the message is an active one's and one of its numbers was delivered
  abbrev pub HeadsWhenOneCame : Run → Type 0
  HeadsWhenOneCame r = (m : MsgName) → Happened (Headed m) r.journal ↔ (IsActive m × (n : ℕ) × HasNumber r m n × WasDelivered r m n)

  -- where an operation is data-done, its data have landed
  abbrev pub DoneHaveLanded : Run → Type 0
  DoneHaveLanded r = (a i : ℕ) → data_done script r a i ≡ true → data_landed script rules r.journal a i ≡ true

  -- so where a task is data-clear before a statement, the data of all its earlier operations have landed
  abbrev pub ClearHaveLanded : Run → Type 0
  ClearHaveLanded r = (a i : ℕ) → data_clear script r a i ≡ true → EarlierLanded script rules r.journal a i
