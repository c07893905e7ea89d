-- The packets of a file, one after another.
use Rattle.std.proofs.Common.{◌≡◌, ℕ, zero, suc, min, List, [], ◌∷◌, length, map, take, Some, refl, sym}
use Rattle.std.specs.Prelude.{option_to_list, slice_get}
use Rattle.std.specs.List.{flat_map}
use Rattle.std.proofs.lemmas.List.{append-nil, take_min}
use Rattle.lapi_base.specs.declared.packet.Packet.{Packet}
use Rattle.lapi_base.specs.declared.schedule.Line.{Line}
use Rattle.lapi_base.specs.declared.script.Script.{Script}
use Rattle.lapi_base.specs.Packet.PacketBytes.{packet}
use Rattle.lapi_base.specs.Packet.Spelling.{spells_packet}
use Rattle.lapi_base.specs.Record.Valid.{ValidAct, ValidLine, ValidSchedule, ValidScript}
use Rattle.lapi_base.proofs.ListLaws.{all-get}
use Rattle.lapi_views.specs.Pcap.{pcap_record}
use Rattle.lapi_views.specs.PcapParts.{cut_record, whole_record}

pub taken_front : (n : ℕ) (xs : List ℕ) → take (min n (length xs)) xs ≡ take n xs
taken_front n xs = take_min n xs

-- an entry of a wire, looked up among packets or among their bytes
pub whole_entry : (n : ℕ) (entries : List Packet) (k : ℕ) → whole_record n (slice_get (map packet entries) k) ≡ flat_map (pcap_record n) (map packet (option_to_list (slice_get entries k)))
whole_entry n [] k = refl
whole_entry n (p ∷ entries) zero = sym (append-nil (pcap_record n (packet p)))
whole_entry n (p ∷ entries) (suc k) = whole_entry n entries k

pub cut_entry : (n count : ℕ) (entries : List Packet) (k : ℕ) → cut_record n count (slice_get (map packet entries) k) ≡ flat_map (pcap_record n) (map (take count) (map packet (option_to_list (slice_get entries k))))
cut_entry n count [] k = refl
cut_entry n count (p ∷ entries) zero = sym (append-nil (pcap_record n (take count (packet p))))
cut_entry n count (p ∷ entries) (suc k) = cut_entry n count entries k

-- the act of a valid schedule's line is valid
pub line_valid : (script : Script) (schedule : List Line) (n : ℕ) (line : Line) → ValidScript script × ValidSchedule script spells_packet schedule → slice_get schedule n ≡ Some line → ValidAct script spells_packet line.act
line_valid script schedule n line valid at = (all-get (ValidLine script spells_packet) schedule n line valid.1.lines at).1
