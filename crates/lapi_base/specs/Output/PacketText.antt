-- The text of a packet: its fields in order, each by its name, or why bytes are no packet. This is the project's own.
use Rattle.std.specs.Prelude.{ℕ, List, ◌++◌, map, codes, Result, Ok, Err}
use Rattle.std.specs.List.{join_with_byte}
use Rattle.std.specs.Fmt.{decimal}
use Rattle.lapi_base.specs.declared.head.Head.{Head}
use Rattle.lapi_base.specs.declared.head.Head.TheVariants as heads
use Rattle.lapi_base.specs.declared.head.NoteOp.{NoteOp}
use Rattle.lapi_base.specs.declared.head.NoteOp.TheVariants as notes
use Rattle.lapi_base.specs.declared.packet.Packet.{Packet}
use Rattle.lapi_base.specs.declared.packet.Packet.TheVariants as packets
use Rattle.lapi_base.specs.declared.packet.DataPacket.{DataPacket}
use Rattle.lapi_base.specs.declared.reply.Bad.{Bad}
use Rattle.lapi_base.specs.declared.span.Span.{Span}
use Rattle.lapi_base.specs.Input.Rows.{operation_word}
use Rattle.lapi_base.specs.Packet.Layout.{Layout, First, Second, layout_of}
use Rattle.lapi_base.specs.Packet.Spelling.{decoded}
use Rattle.lapi_base.specs.Output.TextParts.{message_text, counter_word, hex_word, eight_digits, sixteen_digits, reason_number, reason_name}

abbrev pub note_name : NoteOp → List ℕ
note_name notes.Put = codes "put"
note_name notes.Putv = codes "putv"
note_name notes.Am = codes "am"

-- the operation that a head is of
abbrev pub head_name : Head → List ℕ
head_name (heads.Put _ _ _) = codes "put"
head_name (heads.GetGo _ _ _ _ _) = codes "get"
head_name (heads.GetBack _ _) = codes "get"
head_name (heads.Putv _ _ _) = codes "putv"
head_name (heads.GetvGo _ _ _ _) = codes "getv"
head_name (heads.GetvBack _ _) = codes "getv"
head_name (heads.RmwGo _ _ _ _ _ _) = codes "rmw"
head_name (heads.RmwBack _ _) = codes "rmw"
head_name (heads.Am _ _ _ _) = codes "am"
head_name (heads.Echo _ _) = codes "am"
head_name (heads.Note op _) = note_name op
head_name (heads.Gfence _) = codes "gfence"
head_name (heads.Addr _ _) = codes "addr"

-- AT:LEN, between commas
abbrev pub span_word : Span → List ℕ
span_word span = decimal span.at ++ codes ":" ++ decimal span.len

abbrev pub spans_word : List Span → List ℕ
spans_word spans = join_with_byte 44 (map span_word spans)

-- The fields of a head in the order of its bytes; the counts of spans and of a user header's bytes are left out.
abbrev pub head_text : Head → List ℕ
head_text (heads.Put at tgt cmpl) = codes " at " ++ decimal at ++ codes " tgt " ++ counter_word tgt ++ codes " cmpl " ++ counter_word cmpl
head_text (heads.GetGo asked source dest tgt org) =
    codes " asked " ++ decimal asked ++ codes " source " ++ decimal source ++ codes " dest " ++ decimal dest ++ codes " tgt " ++ counter_word tgt ++ codes " org " ++ counter_word org
head_text (heads.GetBack dest org) = codes " dest " ++ decimal dest ++ codes " org " ++ counter_word org
head_text (heads.Putv tgt cmpl pieces) = codes " tgt " ++ counter_word tgt ++ codes " cmpl " ++ counter_word cmpl ++ codes " pieces " ++ spans_word pieces
head_text (heads.GetvGo tgt org source dest) =
    codes " tgt " ++ counter_word tgt ++ codes " org " ++ counter_word org ++ codes " source " ++ spans_word source ++ codes " dest " ++ spans_word dest
head_text (heads.GetvBack org dest) = codes " org " ++ counter_word org ++ codes " pieces " ++ spans_word dest
head_text (heads.RmwGo op at in1 in2 prev org) =
    codes " operation " ++ operation_word op ++ codes " at " ++ decimal at ++ codes " in1 " ++ decimal in1 ++ codes " in2 " ++ decimal in2 ++ codes " prev " ++ decimal prev ++ codes " org " ++ counter_word org
head_text (heads.RmwBack dest org) = codes " dest " ++ decimal dest ++ codes " org " ++ counter_word org
head_text (heads.Am handler tgt cmpl header) =
    codes " handler " ++ decimal handler ++ codes " tgt " ++ counter_word tgt ++ codes " cmpl " ++ counter_word cmpl ++ codes " header " ++ hex_word header
head_text (heads.Echo dest cmpl) = codes " dest " ++ decimal dest ++ codes " cmpl " ++ counter_word cmpl
head_text (heads.Note op cmpl) = codes " cmpl " ++ decimal cmpl
head_text (heads.Gfence round) = codes " round " ++ decimal round
head_text (heads.Addr round address) = codes " round " ++ decimal round ++ codes " address " ++ decimal address

-- the first word and the bits tell the layout
abbrev pub data_word : Layout → List ℕ
data_word First = codes "data"
data_word Second = codes "data2"

abbrev pub ack_word : Layout → List ℕ
ack_word First = codes "ack"
ack_word Second = codes "ack2"

abbrev pub bits_word : Layout → ℕ → List ℕ
bits_word First bits = eight_digits bits
bits_word Second bits = sixteen_digits bits

-- data from A to B seq N message O.S LEG op NAME length L fragment J
abbrev pub data_front : DataPacket → List ℕ
data_front d =
    data_word (layout_of d.layout) ++ codes " from " ++ decimal d.from ++ codes " to " ++ decimal d.to ++ codes " seq " ++ decimal d.seq ++ codes " message " ++ message_text d.name
    ++ codes " op " ++ head_name d.head ++ codes " length " ++ decimal d.length ++ codes " fragment " ++ decimal d.fragment

abbrev pub packet_line : Packet → List ℕ
packet_line (packets.Data d) = data_front d ++ head_text d.head ++ codes " payload " ++ hex_word d.payload ++ codes "\n"
packet_line (packets.Ack layout from to base bits) =
    ack_word (layout_of layout) ++ codes " from " ++ decimal from ++ codes " to " ++ decimal to ++ codes " base " ++ decimal base
    ++ codes " bits " ++ bits_word (layout_of layout) bits ++ codes "\n"

-- bad P N NAME
abbrev pub bad_line : Bad → List ℕ
bad_line bad = codes "bad " ++ decimal bad.place ++ codes " " ++ decimal (reason_number bad.reason) ++ codes " " ++ reason_name bad.reason ++ codes "\n"

abbrev pub answer_line : Result Packet Bad → List ℕ
answer_line (Ok packet) = packet_line packet
answer_line (Err bad) = bad_line bad

-- the packet that the bytes spell, or their first fault
unfoldable pub packet_text : List ℕ → List ℕ
packet_text bytes = answer_line (decoded bytes)
