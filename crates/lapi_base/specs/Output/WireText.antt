-- The text of the wires: a line for each entry, wire by wire. This is the project's own.
use Rattle.std.specs.Prelude.{ℕ, ◌+◌, List, [], ◌∷◌, ◌++◌, map, codes}
use Rattle.std.specs.List.{flat_map}
use Rattle.std.specs.Fmt.{decimal}
use Rattle.hex.specs.Hex.{encode_lower}
use Rattle.lapi_base.specs.declared.script.Script.{Script}
use Rattle.lapi_base.specs.Record.Operations.{numbers_below}
use Rattle.lapi_base.specs.Record.Wires.{Run}
use Rattle.lapi_base.specs.Packet.PacketBytes as written

-- wire A B K HEX
abbrev pub entry_line : (from to number : ℕ) → List ℕ → List ℕ
entry_line a b k entry =
    codes "wire " ++ decimal a ++ codes " " ++ decimal b ++ codes " " ++ decimal k ++ codes " " ++ encode_lower entry ++ codes "\n"

-- the entries of one wire, of which the first has number k
abbrev pub entry_lines : (from to number : ℕ) → List (List ℕ) → List ℕ
entry_lines a b k [] = []
entry_lines a b k (entry ∷ entries) = entry_line a b k entry ++ entry_lines a b (k + 1) entries

abbrev pub one_wire_text : Run → (from to : ℕ) → List ℕ
one_wire_text r a b = entry_lines a b 0 (map written.packet (r.wire a b))

-- the wires from one task to each, and those from all tasks
abbrev pub wires_from_text : Script → Run → (from : ℕ) → List ℕ
wires_from_text script r a = flat_map (one_wire_text r a) (numbers_below script.tasks)

unfoldable pub wire_text : Script → Run → List ℕ
wire_text script r = flat_map (wires_from_text script r) (numbers_below script.tasks)
