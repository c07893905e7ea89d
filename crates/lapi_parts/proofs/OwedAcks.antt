-- What is owed on a link is held back by the layout, and what pays it is told by the packets that were handed over.
use Rattle.std.proofs.Common.{◌≡◌, ℕ, ◌+◌, ◌*◌, ◌^◌, ◌<◌, ◌≤◌, Bool, true, false, cond, List, [], ◌∷◌, ap, ◌∙◌, subst, arith}
use Rattle.std.proofs.lemmas.Bool.{cond-true}
use Rattle.lapi_base.specs.declared.script.Script.{Script}
use Rattle.lapi_base.specs.declared.rule.Rules.{Rules}
use Rattle.lapi_base.specs.declared.packet.Packet.{Packet}
use Rattle.lapi_base.specs.declared.event.Event.{Event}
use Rattle.lapi_base.specs.Packet.Format.{byte_count}
use Rattle.lapi_base.specs.Packet.Layout.{is_version, layout_of, bits_size, window_of, holds_back}
use Rattle.lapi_base.specs.Packet.PacketBytes as written
use Rattle.lapi_base.specs.Packet.Spelling.{Spells, HasSpelling}
use Rattle.lapi_base.specs.Record.Below.{bits_of}
use Rattle.lapi_base.specs.Record.Arrived.{least_number, ack_of}
use Rattle.lapi_base.specs.Record.Wires.{Run, has_number, packets, to_send, owed_ack, sends}
use Rattle.lapi_base.specs.Record.Acts.{at_once}
use Rattle.lapi_base.specs.Record.WorldView.{IsRecord}
use Rattle.lapi_base.specs.Laws.Links.{OwedAreHeldBack, TellsAtOnce}
use Rattle.lapi_base.proofs.BitLaws.{bits_of-even, bits_of-lt}
use Rattle.lapi_base.proofs.LayoutLaws.{window-bits}
use Rattle.lapi_base.proofs.PacketNumbers.{least-absent}
use Rattle.lapi_laws.proofs.Owed.{run-owed, run-told}
use Rattle.lapi_parts.proofs.Records.{of-runs}
use Rattle.lapi_parts.proofs.ArrivingPackets.{acks-told}
use Rattle.lapi_parts.proofs.SpelledPackets.{acknowledgement-spelled}

-- where acknowledgements are held back, one that is told doesn't go out at once
pub told-later : (script : Script) (rules : Rules) (p : Packet) → holds_back script ≡ true → at_once script rules p ≡ []
unfolding at_once
told-later script rules p later = cond-true (holds_back script) [] (p ∷ []) later

module _ (script : Script) (rules : Rules) (r : Run) (is : IsRecord script rules r) where
  -- an acknowledgement is owed where the layout holds it back, and between tasks that there are
  pub owed-held : (a b : ℕ) → r.owed a b ≡ true → (holds_back script ≡ true) × (a < script.tasks) × (b < script.tasks)
  owed-held = of-runs OwedAreHeldBack run-owed script rules r is

  -- where the layout holds nothing back, nothing is owed, and a Poll sends data alone
  pub none-owed : holds_back script ≡ false → (a b : ℕ) → r.owed a b ≡ false
  none-owed now = (of-runs TellsAtOnce run-told script rules r is now).0

  pub sends-data : holds_back script ≡ false → (J : List Event) (a b : ℕ) → sends script rules r J a b ≡ packets script rules J a b (to_send script rules r J a b)
  sends-data now = (of-runs TellsAtOnce run-told script rules r is now).2

  -- what b owes to a, a Poll pays by what was handed to b
  pub owed-paid : (a b : ℕ) → owed_ack script rules r a b ≡ cond (r.owed a b) (ack_of script (r.handed a b) a b ∷ []) []
  unfolding owed_ack
  owed-paid a b = ap (λ p. cond (r.owed a b) (p ∷ []) []) (acks-told script rules r is a b)

-- Its bits are one for each packet of the window: they fit in the layout's size, and the lowest is clear.
pub bits-fit : (script : Script) (set : ℕ → Bool) → bits_of (window_of script) set < 2 ^ (8 * byte_count (bits_size (layout_of script.layout)))
unfolding window_of
bits-fit script set = subst (λ w. bits_of (window_of script) set < 2 ^ w) (window-bits (layout_of script.layout)) (bits_of-lt (window_of script) set)

-- so it has a spelling, between tasks of a valid script and with a base of four bytes
pub ack_of-spells : (script : Script) → is_version script.layout ≡ true → (ps : List Packet) (a b : ℕ) → a ≤ 7 → b ≤ 7 → least_number ps < 2 ^ 32 → Spells (ack_of script ps a b) (written.packet (ack_of script ps a b))
unfolding ack_of
ack_of-spells script known ps a b la lb base =
    let least = least_number ps in
    let first : least + 0 ≡ least = omega arith in
    acknowledgement-spelled script.layout b a least _ known lb la base (bits-fit script _) (bits_of-even (window_of script) (λ i. has_number ps (least + i)) (ap (has_number ps) first ∙ least-absent ps))

pub ack_of-spelled : (script : Script) → is_version script.layout ≡ true → (ps : List Packet) (a b : ℕ) → a ≤ 7 → b ≤ 7 → least_number ps < 2 ^ 32 → HasSpelling (ack_of script ps a b)
ack_of-spelled script known ps a b la lb base = (written.packet (ack_of script ps a b), ack_of-spells script known ps a b la lb base)
