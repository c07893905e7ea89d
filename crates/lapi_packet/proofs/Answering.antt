-- What an answer says of the bytes.
use Rattle.std.proofs.Common.{◌≡◌, ℕ, ◌≤◌, List, length, Result, Ok, Err, sym, ap, subst, ◌∙◌, arith}
use Rattle.std.specs.Prelude.{IfOk, IfErr}
use Rattle.lapi_base.specs.declared.packet.Packet.{Packet}
use Rattle.lapi_base.specs.declared.reply.Bad.{Bad}
use Rattle.lapi_base.specs.declared.layout.TheConstants.{FRAME_ROOM}
use Rattle.lapi_base.specs.Packet.Spelling.{packet_form, Spells, HasSpelling, Refuses, decoded}
use Rattle.lapi_base.specs.Packet.PacketBytes as written
use Rattle.lapi_base.proofs.Spellings.{spelling_is, ok, ok_is}
use Rattle.lapi_base.proofs.FormLaws.{found, refused, at_most_spelling}
use Rattle.lapi_base.proofs.FormNumbers.{IsBytes}
use Rattle.lapi_packet.proofs.Lengths.{at_most_packet}

pub found_if : (r : Result Packet Bad) (bytes : List ℕ) → IsBytes bytes → r ≡ decoded bytes → IfOk r (λ p. Spells p bytes)
found_if (Ok p) bytes fits e = found packet_form p bytes fits (sym e)
found_if (Err bad) bytes fits e = tt

pub refused_if : (r : Result Packet Bad) (bytes : List ℕ) → IsBytes bytes → r ≡ decoded bytes → IfErr r (Refuses bytes)
refused_if (Ok p) bytes fits e = tt
refused_if (Err bad) bytes fits e = refused Packet packet_form bad bytes fits (sym e)

-- ---- a packet's own bytes, read again

-- a frame has room for what has a spelling
pub room_is : (p : Packet) → HasSpelling p → length (written.packet p) ≤ FRAME_ROOM
room_is p spelled =
    let longest : length spelled.0 ≤ 1175 = at_most_spelling packet_form 1175 p spelled.0 at_most_packet spelled.1 in
    omega (arith, longest, ap length (spelling_is p spelled.0 spelled.1))

own_bytes : (p : Packet) (bytes : List ℕ) → bytes ≡ written.packet p → HasSpelling p → Spells p bytes
own_bytes p bytes e spelled = subst (λ (l : List ℕ). Spells p l) (sym (e ∙ spelling_is p spelled.0 spelled.1)) spelled.1

-- what is written where a frame has room
abbrev pub IsRaw : Packet → List ℕ → Type 0
IsRaw p bytes = length (written.packet p) ≤ FRAME_ROOM → bytes ≡ written.packet p

pub raw_spelled : (p : Packet) (bytes : List ℕ) → IsRaw p bytes → HasSpelling p → Spells p bytes
raw_spelled p bytes raw spelled = own_bytes p bytes (raw (room_is p spelled)) spelled

abbrev err : Bad → Result Packet Bad
err bad = Err bad

not_both : (bad : Bad) (p : Packet) → err bad ≡ ok p → ⊥
not_both bad p e = cc

pub has_one : (q p : Packet) (bytes : List ℕ) → q ≡ p → Spells q bytes → HasSpelling p
has_one q p bytes same s = (bytes, subst (λ (r : Packet). Spells r bytes) same s)

pub is_answer : (q p : Packet) (bytes : List ℕ) → IsRaw p bytes → (r : Result Packet Bad) → r ≡ Ok q → (Spells p bytes → r ≡ Ok p) → HasSpelling p → q ≡ p
is_answer q p bytes raw r is only spelled = ok_is q p (sym is ∙ only (raw_spelled p bytes raw spelled))

pub has_none : (bad : Bad) (p : Packet) (bytes : List ℕ) → IsRaw p bytes → (r : Result Packet Bad) → r ≡ Err bad → (Spells p bytes → r ≡ Ok p) → HasSpelling p → ⊥
has_none bad p bytes raw r is only spelled = not_both bad p (sym is ∙ only (raw_spelled p bytes raw spelled))
