-- The packets of a file, looked up among the bytes on a wire.
use Rattle.std.specs.Prelude.{ℕ, List, [], take, Option, Some, None}
use Rattle.lapi_views.specs.Pcap.{pcap_record}

-- an entry as a packet, if there is one, and its first bytes
abbrev pub whole_record : (line : ℕ) → Option (List ℕ) → List ℕ
whole_record n None = []
whole_record n (Some entry) = pcap_record n entry

abbrev pub cut_record : (line count : ℕ) → Option (List ℕ) → List ℕ
cut_record n count None = []
cut_record n count (Some entry) = pcap_record n (take count entry)
