-- What the switch handed over, as a file of the pcap format: the packets one after another, each whole. This is the
-- project's own, and so is the use of the link type that is left to users.
use Rattle.std.specs.Prelude.{ℕ, List, [], ◌∷◌, ◌++◌, length, map, take, Option, Some, None}
use Rattle.std.specs.Int.{w32, to_be_bytes}
use Rattle.std.specs.List.{flat_map, zip}
use Rattle.lapi_base.specs.declared.reply.Reply.{Reply}
use Rattle.lapi_base.specs.declared.reply.Reply.TheVariants.{Did, Bad}
use Rattle.lapi_base.specs.declared.schedule.Act.{Act}
use Rattle.lapi_base.specs.declared.schedule.Act.TheVariants.{Deliver, Cut, Inject}
use Rattle.lapi_base.specs.declared.schedule.Line.{Line}
use Rattle.lapi_base.specs.Output.CaptureBytes.{entry_bytes}
use Rattle.lapi_base.specs.Record.Wires.{Run}
use Rattle.lapi_base.specs.Record.WorldView.{act_at}

-- What a line with this reply handed over: an entry, the first bytes of one, or bytes that are no packet.
abbrev pub handed_by : Run → Act → Reply → List (List ℕ)
handed_by r (Deliver a b k) Did = entry_bytes r a b k
handed_by r (Cut a b k n) (Bad bad) = map (take n) (entry_bytes r a b k)
handed_by r (Inject a b bytes) reply = bytes ∷ []
handed_by r act reply = []

abbrev pub four : ℕ → List ℕ
four n = to_be_bytes w32 n

-- One packet: seconds and microseconds, the bytes that are here and those that there were, and the bytes. The time is the
-- number of the line, counted from 0.
unfoldable pub pcap_record : (line : ℕ) → List ℕ → List ℕ
pcap_record n bytes = (four n ++ (four 0 ++ (four (length bytes) ++ four (length bytes)))) ++ bytes

abbrev pub handed_records : Run → (line : ℕ) → Option Act → Reply → List ℕ
handed_records r n None reply = []
handed_records r n (Some act) reply = flat_map (pcap_record n) (handed_by r act reply)

-- of a line that was taken, by its number
abbrev pub taken_records : Run → List Line → ℕ × Reply → List ℕ
taken_records r schedule taken = handed_records r taken.0 (act_at schedule taken.0) taken.1

-- The format's number, its version 2.4, no time zone and no accuracy told, the most bytes of a packet, and the link type 147.
abbrev pub pcap_head : List ℕ
pcap_head = 161 ∷ 178 ∷ 195 ∷ 212 ∷ 0 ∷ 2 ∷ 0 ∷ 4 ∷ 0 ∷ 0 ∷ 0 ∷ 0 ∷ 0 ∷ 0 ∷ 0 ∷ 0 ∷ 0 ∷ 0 ∷ 255 ∷ 255 ∷ 0 ∷ 0 ∷ 0 ∷ 147 ∷ []

unfoldable pub pcap_bytes : Run → List Line → (taken : List ℕ) → List ℕ
pcap_bytes r schedule taken = pcap_head ++ flat_map (taken_records r schedule) (zip taken r.replies)
