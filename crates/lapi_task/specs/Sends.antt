-- How the sending end of a link stands for its record.
use Rattle.std.specs.Prelude.{◌≡◌, ℕ, zero, suc, ◌+◌, ◌<◌, nat_lt, false, List, [], ◌++◌, length, slice_get, Option, None, Some, option_map}
use Rattle.lapi_base.specs.declared.script.Script.{Script}
use Rattle.lapi_base.specs.declared.rule.Rules.{Rules}
use Rattle.lapi_base.specs.declared.message.MsgName.{MsgName}
use Rattle.lapi_base.specs.declared.event.Event.{Event}
use Rattle.lapi_base.specs.declared.wire.WireEntry.{WireEntry}
use Rattle.lapi_base.specs.Packet.Layout.{window_of}
use Rattle.lapi_base.specs.Record.Packets.{data_packet}
use Rattle.lapi_base.specs.Packet.PacketBytes as written
use Rattle.lapi_base.specs.Record.Wires.{Run, numbered, is_sent, is_acked}
use Rattle.lapi_base.specs.Laws.Entries.{carried}
use Rattle.lapi_window.specs.SendWindow.{Sending, sent_count, bytes_of}
use Rattle.lapi_window.specs.SendWindow as window
use Rattle.lapi_link.specs.Sender.{SendingEnd, entries_to}
use Rattle.lapi_link.specs.Sender as link
use Rattle.lapi_task.specs.Outgoing.{outgoing, tag_of}

-- the bytes of the packet with number n, which is of this message and fragment
abbrev pub spelled : Script → Rules → List Event → (n : ℕ) → MsgName × ℕ → List ℕ
spelled script rules J n pair = written.packet (data_packet script pair.0 n pair.1 (carried script rules J pair.0))

-- the bytes of number n of the link from a to b
unfoldable pub packet_at : Script → Rules → List Event → (from to n : ℕ) → Option (List ℕ)
packet_at script rules J a b n = option_map (spelled script rules J n) (slice_get (numbered script J a b) n)

-- the tag of number n of the link from a to b: that of its message
abbrev pub message_tag : Script → Option (MsgName × ℕ) → Option ℕ
message_tag script None = None
message_tag script (Some pair) = tag_of (outgoing script pair.0)

unfoldable pub tag_at : Script → List Event → (from to n : ℕ) → Option ℕ
tag_at script J a b n = message_tag script (slice_get (numbered script J a b) n)

-- Each number that may have to be acknowledged has the tag of its message.
pub record HasTags (script : Script) (s : SendingEnd) (J : List Event) (a b : ℕ) : Type 0 where
  pub count : s.window.acked.base + length s.tags ≡ s.window.numbers
  pub tags : (n : ℕ) → n < s.window.numbers → window.is_acked s.window n ≡ false → link.tag_of s n ≡ tag_at script J a b n

-- The window has the numbers of the link from a to b, those sent and those acknowledged;
pub record HasNumbers (script : Script) (w : Sending) (r : Run) (a b : ℕ) : Type 0 where
  pub size : w.window ≡ window_of script
  pub numbers : w.numbers ≡ length (numbered script r.journal a b)
  pub sent : (n : ℕ) → is_sent r a b n ≡ nat_lt n (sent_count w)
  pub acked : (n : ℕ) → is_acked r a b n ≡ window.is_acked w n

-- the packets that may have to be sent again are kept, those that were not sent wait, and the numbers have their tags.
pub record SendsFor (script : Script) (rules : Rules) (s : SendingEnd) (r : Run) (a b : ℕ) : Type 0 where
  pub numbers : HasNumbers script s.window r a b
  pub whole : sent_count s.window + length s.waiting ≡ s.window.numbers
  pub kept : (n : ℕ) → n < sent_count s.window → window.is_acked s.window n ≡ false → bytes_of s.window n ≡ packet_at script rules r.journal a b n
  pub waiting : (i : ℕ) → slice_get s.waiting i ≡ packet_at script rules r.journal a b (sent_count s.window + i)
  pub tags : HasTags script s r.journal a b

-- what f gives of an end, where it is there
abbrev pub of_end : (SendingEnd → List (List ℕ)) → Option SendingEnd → List (List ℕ)
of_end f None = []
of_end f (Some s) = f s

-- what f gives of the first n ends, each as entries of its wire
unfoldable pub entries_of : (SendingEnd → List (List ℕ)) → List SendingEnd → (n : ℕ) → List WireEntry
entries_of f ends zero = []
entries_of f ends (suc b) = entries_of f ends b ++ entries_to b (of_end f (slice_get ends b))
