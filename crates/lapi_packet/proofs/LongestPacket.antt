-- A packet of each layout whose spelling has the most bytes.
use Rattle.std.proofs.Common.{◌≡◌, ℕ, ◌/◌, length, zero, suc, Bool, true, List, [], ◌∷◌, None, refl, arith, replicate}
use Rattle.std.specs.Prelude.{nat_lt, ◌&&◌}
use Rattle.std.proofs.lemmas.Bool.{and_parts, ltb-true}
use Rattle.lapi_base.specs.declared.span.Span.{Span}
use Rattle.lapi_base.specs.declared.head.Head.TheVariants as heads
use Rattle.lapi_base.specs.declared.message.Leg.TheVariants.{Go}
use Rattle.lapi_base.specs.declared.packet.Packet.{Packet}
use Rattle.lapi_base.specs.declared.packet.Packet.TheVariants as packets
use Rattle.lapi_base.specs.Laws.Entries.{layout_in}
use Rattle.lapi_base.specs.Packet.Layout.{Layout, First, Second, layout_of, longest_packet, unit}
use Rattle.lapi_base.specs.Packet.Format.{bytes_form, repeated}
use Rattle.lapi_base.specs.Packet.Fields.{counter_form, count_form, span_form}
use Rattle.lapi_base.specs.Packet.Heads.{putv_form, operation_form, head_form}
use Rattle.lapi_base.specs.Packet.Spelling.{task_form, kind_form, front_form, leg_form, name_form, length_form, fragment_form, data_form, packet_form, Spells}
use Rattle.lapi_base.specs.Packet.PacketBytes as written
use Rattle.lapi_base.proofs.FormNumbers.{IsBytes}
use Rattle.lapi_base.proofs.FormLaws.{found}

-- one of 16 pieces of a whole fragment
abbrev piece : Layout → Span
piece layout = record { at = 0; len = unit layout / 16 }

abbrev number : Layout → ℕ
number First = 1
number Second = 2

abbrev pub longest_one : Layout → Packet
longest_one layout = packets.Data (record {
  layout = number layout;
  from = 0;
  to = 1;
  seq = 0;
  name = record { origin = 0; statement = 0; leg = Go };
  head = heads.Putv None None (replicate 16 (piece layout));
  length = unit layout;
  fragment = 0;
  payload = replicate (unit layout) 0;
})

abbrev pub longest_bytes : Layout → List ℕ
longest_bytes layout = written.packet (longest_one layout)

abbrev all_bytes : List ℕ → Bool
all_bytes [] = true
all_bytes (b ∷ bytes) = nat_lt b 256 && all_bytes bytes

bytes_fit : (bytes : List ℕ) → all_bytes bytes ≡ true → IsBytes bytes
bytes_fit [] e i = omega arith
bytes_fit (b ∷ bytes) e zero = ltb-true b 256 (and_parts (nat_lt b 256) (all_bytes bytes) e).0
bytes_fit (b ∷ bytes) e (suc i) = bytes_fit bytes (and_parts (nat_lt b 256) (all_bytes bytes) e).1 i

pub longest_spelled : (layout : Layout) → Spells (longest_one layout) (longest_bytes layout)
unfolding packet_form front_form kind_form task_form data_form name_form leg_form operation_form length_form fragment_form head_form putv_form counter_form count_form span_form repeated bytes_form
longest_spelled First = found packet_form (longest_one First) (longest_bytes First) (bytes_fit (longest_bytes First) refl) refl
longest_spelled Second = found packet_form (longest_one Second) (longest_bytes Second) (bytes_fit (longest_bytes Second) refl) refl

pub longest_layout : (layout : Layout) → layout_of (layout_in (longest_one layout)) ≡ layout
longest_layout First = refl
longest_layout Second = refl

pub longest_length : (layout : Layout) → length (longest_bytes layout) ≡ longest_packet layout
longest_length First = refl
longest_length Second = refl
