-- What a record has on its wires: the entries, the numbers of each link, which were sent, delivered and
-- acknowledged, and what a task would send. This is the project's own.
use Rattle.std.specs.Prelude.{◌≡◌, ℕ, ◌+◌, ◌-◌, ◌==◌, nat_lt, Bool, false, cond, ◌&&◌, ◌||◌, not, List, [], ◌∷◌, ◌++◌, length, slice_get, Option, Some, None}
use Rattle.std.specs.List.{list_any, flat_map}
use Rattle.lapi_base.specs.declared.script.Script.{Script}
use Rattle.lapi_base.specs.declared.rule.Rules.{Rules}
use Rattle.lapi_base.specs.declared.message.Leg.TheVariants.{Go, Back}
use Rattle.lapi_base.specs.declared.message.MsgName.{MsgName}
use Rattle.lapi_base.specs.declared.event.Event.{Event}
use Rattle.lapi_base.specs.declared.event.Event.TheVariants.{Copy}
use Rattle.lapi_base.specs.declared.reply.Reply.{Reply}
use Rattle.lapi_base.specs.declared.packet.Packet.{Packet}
use Rattle.lapi_base.specs.declared.packet.Packet.TheVariants.{Data, Ack}
use Rattle.lapi_base.specs.Packet.Layout.{window_of}
use Rattle.lapi_base.specs.Record.Below.{every_below, below, least_missing, has_bit, bits_of}
use Rattle.lapi_base.specs.Record.Names.{message, name_eq, Issued, Copied, Landed, happened}
use Rattle.lapi_base.specs.Record.Operations.{statement, is_data, has_back, sender, receiver, fragments}
use Rattle.lapi_base.specs.Record.Values.{values}
use Rattle.lapi_base.specs.Record.Packets.{data_packet}

-- After some lines: the replies in order, each wire's entries in order, those handed over on each wire (the latest first), whether the receiver owes an acknowledgement of them, and the journal (the latest first).
pub record Run : Type 0 where
  pub replies : List Reply
  pub wire : (from to : ℕ) → List Packet
  pub handed : (from to : ℕ) → List Packet
  pub owed : (from to : ℕ) → Bool
  pub journal : List Event

abbrev pub start : Run
start = record { replies = []; wire = λ a b. []; handed = λ a b. []; owed = λ a b. false; journal = [] }

-- the packet is the entry of this place of the wire from a to b
abbrev pub IsEntry : Run → (from to place : ℕ) → Packet → Type 0
IsEntry r a b k p = slice_get (r.wire a b) k ≡ Some p

-- Numbers on a link.

-- the messages that were copied on the link from a to b, with each fragment: the place of a pair is its number
unfoldable pub numbered : Script → List Event → (from to : ℕ) → List (MsgName × ℕ)
numbered script [] a b = []
numbered script (Copy m ∷ J) a b = cond (sender script m == a && receiver script m == b) (numbered script J a b ++ fragments script m) (numbered script J a b)
numbered script (e ∷ J) a b = numbered script J a b

abbrev pub is_number : ℕ → Packet → Bool
is_number n (Data p) = p.seq == n
is_number n (Ack layout from to base bits) = false

-- an acknowledgement tells of every number below its base, and of base + i for each bit i that is set
abbrev pub covers : ℕ → Packet → Bool
covers n (Data p) = false
covers n (Ack layout from to base bits) = nat_lt n base || has_bit bits (n - base)

-- among these packets one has this number; one of them acknowledges it
unfoldable pub has_number : List Packet → ℕ → Bool
has_number packets n = list_any (is_number n) packets

unfoldable pub has_ack : List Packet → ℕ → Bool
has_ack packets n = list_any (covers n) packets

abbrev pub is_sent : Run → (from to : ℕ) → ℕ → Bool
is_sent r a b = has_number (r.wire a b)

abbrev pub is_delivered : Run → (from to : ℕ) → ℕ → Bool
is_delivered r a b = has_number (r.handed a b)

abbrev pub is_acked : Run → (from to : ℕ) → ℕ → Bool
is_acked r a b = has_ack (r.handed b a)

module _ (script : Script) where
  -- the least number that is not acknowledged to a
  unfoldable pub base : Run → (from to : ℕ) → ℕ
  base r a b = least_missing (length (numbered script r.journal a b)) (is_acked r a b)

  -- the least number of the link from a to b that wasn't delivered
  abbrev pub least_undelivered : Run → (from to : ℕ) → ℕ
  least_undelivered r a b = least_missing (length (numbered script r.journal a b)) (is_delivered r a b)

  -- the pair with number n is of message m
  abbrev pub is_of : MsgName → Option (MsgName × ℕ) → Bool
  is_of m None = false
  is_of m (Some pair) = name_eq m pair.0

  -- every number of message m is in the set, and some number of it is
  unfoldable pub all_numbers : List (MsgName × ℕ) → MsgName → (ℕ → Bool) → Bool
  all_numbers pairs m set = every_below (length pairs) (λ n. not (is_of m (slice_get pairs n)) || set n)

  unfoldable pub some_number : List (MsgName × ℕ) → MsgName → (ℕ → Bool) → Bool
  some_number pairs m set = not (every_below (length pairs) (λ n. not (is_of m (slice_get pairs n) && set n)))

  -- Data-done: the data were copied and all their numbers are acknowledged; where data come back, they have landed.
  unfoldable pub data_done : Run → ℕ → ℕ → Bool
  data_done r a i =
      cond (has_back (statement script a i))
      (happened (Landed (message a i Back)) r.journal)
      (let m = message a i Go in happened (Copied m) r.journal && all_numbers (numbered script r.journal a (receiver script m)) m (is_acked r a (receiver script m)))

  -- every issued data operation of a before statement i is data-done
  unfoldable pub data_clear : Run → ℕ → ℕ → Bool
  data_clear r a i = every_below i (λ j. not (is_data (statement script a j) && happened (Issued a j) r.journal) || data_done r a j)

module _ (script : Script) (rules : Rules) where
  -- the packet of number n on the link from a to b
  abbrev pub packet_of : List Event → ℕ → Option (MsgName × ℕ) → List Packet
  packet_of J n None = []
  packet_of J n (Some pair) = data_packet script pair.0 n pair.1 ((values script rules J).bytes pair.0) ∷ []

  unfoldable pub packets : List Event → (from to : ℕ) → List ℕ → List Packet
  packets J a b numbers = flat_map (λ n. packet_of J n (slice_get (numbered script J a b) n)) numbers

  -- Poll: the numbers that it sends, the journal being the one with its Copy events.
  unfoldable pub to_send : Run → List Event → (from to : ℕ) → List ℕ
  to_send r J a b = below (length (numbered script J a b)) (λ n. not (is_sent r a b n) && nat_lt n (base script (record r { journal = J }) a b + window_of script))

  -- Tick: the numbers that it sends again.
  unfoldable pub to_resend : Run → (from to : ℕ) → List ℕ
  to_resend r a b = below (length (numbered script r.journal a b)) (λ n. is_sent r a b n && not (is_acked r a b n))

  -- the acknowledgement of what was delivered on the link from a to b, and the one that b owes to a, if it owes one
  unfoldable pub ack : Run → (from to : ℕ) → Packet
  ack r a b =
      let least = least_undelivered script r a b in
      Ack script.layout b a least (bits_of (window_of script) (λ i. is_delivered r a b (least + i)))

  unfoldable pub owed_ack : Run → (from to : ℕ) → List Packet
  owed_ack r a b = cond (r.owed a b) (ack r a b ∷ []) []

  -- so a Poll puts on the wire from a to b its new numbers, and then what a owes to b
  abbrev pub sends : Run → List Event → (from to : ℕ) → List Packet
  sends r J a b = packets J a b (to_send r J a b) ++ owed_ack r b a
