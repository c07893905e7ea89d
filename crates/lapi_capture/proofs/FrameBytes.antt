-- The bytes of a frame, and what it hands over.
use Rattle.std.proofs.Common.{◌≡◌, ℕ, ◌%◌, ◌≤◌, true, false, List, length, Some, None, Ok, Err, refl, sym, ap, ◌∙◌, arith}
use Rattle.std.specs.Prelude.{Result, is_ok, ◌==◌, ◌&&◌}
use Rattle.std.proofs.lemmas.Bool.{false≢true, and_from, eq-eqb}
use Rattle.lapi_base.specs.declared.packet.Packet.{Packet}
use Rattle.lapi_base.specs.declared.packet.Packet.TheVariants.{Data, Ack}
use Rattle.lapi_base.specs.declared.packet.DataPacket.{DataPacket}
use Rattle.lapi_base.specs.declared.reply.Bad.{Bad}
use Rattle.lapi_base.specs.Laws.Entries.{GoesFrom}
use Rattle.lapi_base.specs.Output.CaptureBytes.{frame}
use Rattle.lapi_base.specs.Packet.PacketBytes.{packet}
use Rattle.lapi_base.specs.Packet.Spelling.{decoded, spells_packet}
use Rattle.lapi_capture.specs.declared.part.Part.{Part}
use Rattle.lapi_capture.specs.Captures.{IsFrame}
use Rattle.lapi_capture.specs.Format.{size_of, part_by, part_of, is_addressed_by, is_addressed}

module _ (a b : ℕ) (bytes : List ℕ) where
  size-is : length bytes ≤ 1280 → size_of (frame a b bytes) ≡ length bytes
  size-is few = omega (arith, few)

  pub frame-is : a ≤ 7 → b ≤ 7 → length bytes ≤ 1280 → IsFrame (frame a b bytes)
  frame-is la lb few = record {
    begun = record {
      from = omega (arith, la);
      to = λ _. omega (arith, lb);
      size = λ _. omega (arith, size-is few, few);
    };
    whole = omega (arith, size-is few);
  }

  -- bytes that spell no packet
  none-told : (d : Result Packet Bad) → decoded bytes ≡ d → is_ok d ≡ false → (part_of (frame a b bytes) ≡ None) × (is_addressed (frame a b bytes) ≡ true)
  unfolding part_of is_addressed
  none-told (Ok p) e unspelled = absurd (false≢true (sym unspelled))
  none-told (Err bad) e unspelled = (ap part_by e, ap (is_addressed_by (a % 256) (b % 256)) e)

  pub no-part : spells_packet bytes ≡ false → (part_of (frame a b bytes) ≡ None) × (is_addressed (frame a b bytes) ≡ true)
  unfolding spells_packet
  no-part unspelled = none-told (decoded bytes) refl unspelled

-- a data packet's part
abbrev pub part_in : DataPacket → Part
part_in p = record { message = record { name = p.name; to = p.to }; layout = p.layout; length = p.length; fragment = p.fragment }

module _ (a b : ℕ) (la : a ≤ 7) (lb : b ≤ 7) where
  ends-are : (x y : ℕ) → x ≡ a → y ≡ b → (x == (a % 256) && y == (b % 256)) ≡ true
  ends-are x y is also = and_from _ _ (eq-eqb x (a % 256) (let e : x ≡ a % 256 = omega (arith, la, is) in e)) (eq-eqb y (b % 256) (let e : y ≡ b % 256 = omega (arith, lb, also) in e))

  pub data-told : (p : DataPacket) → GoesFrom a b (Data p) → decoded (packet (Data p)) ≡ Ok (Data p)
      → (part_of (frame a b (packet (Data p))) ≡ Some (part_in p)) × (is_addressed (frame a b (packet (Data p))) ≡ true)
  unfolding part_of is_addressed
  data-told p goes read = (ap part_by read, ap (is_addressed_by (a % 256) (b % 256)) read ∙ ends-are p.from p.to goes.0 goes.1)

  pub ack-told : (layout x y base bits : ℕ) → GoesFrom a b (Ack layout x y base bits) → decoded (packet (Ack layout x y base bits)) ≡ Ok (Ack layout x y base bits)
      → (part_of (frame a b (packet (Ack layout x y base bits))) ≡ None) × (is_addressed (frame a b (packet (Ack layout x y base bits))) ≡ true)
  unfolding part_of is_addressed
  ack-told layout x y base bits goes read = (ap part_by read, ap (is_addressed_by (a % 256) (b % 256)) read ∙ ends-are x y goes.0 goes.1)
