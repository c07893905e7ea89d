-- What the lines of the output texts are made of: names, numbers and places. This is the project's own.
use Rattle.std.specs.Prelude.{ℕ, ◌%◌, ◌^◌, List, ◌++◌, codes, Option}
use Rattle.std.specs.Fmt.{decimal}
use Rattle.std.specs.Int.{w16, w32, w64, to_be_bytes}
use Rattle.hex.specs.Hex.{encode_lower}
use Rattle.lapi_base.specs.declared.message.Leg.{Leg}
use Rattle.lapi_base.specs.declared.message.MsgName.{MsgName}
use Rattle.lapi_base.specs.declared.refusal.Refusal.{Refusal}
use Rattle.lapi_base.specs.declared.refusal.Refusal.TheVariants.{BadTask, BadTargetRange, BadOriginRange, BadCounter, TooLong, NoTable, BadHandler, BadUserHeader, VecCount, VecLength, StrideBelowBlock, Misaligned}
use Rattle.lapi_base.specs.declared.reply.Reason.{Reason}
use Rattle.lapi_base.specs.declared.reply.Reason.TheVariants as reasons
use Rattle.lapi_base.specs.Input.Tokens.{Counter, OptionalHex, Dotted, LegWord, canonical}

-- T.S: statement S of task T, or worker S of it
abbrev pub dotted : (task number : ℕ) → List ℕ
dotted t s = canonical Dotted (t, s)

abbrev pub leg_text : Leg → List ℕ
leg_text leg = canonical LegWord leg

-- O.S LEG
abbrev pub message_text : MsgName → List ℕ
message_text m = dotted m.origin m.statement ++ codes " " ++ leg_text m.leg

-- a counter's number, or - for none
abbrev pub counter_word : Option ℕ → List ℕ
counter_word c = canonical Counter c

-- hexadecimal text, or - for no bytes
abbrev pub hex_word : List ℕ → List ℕ
hex_word bytes = canonical OptionalHex bytes

-- the last four hexadecimal digits of a number, and the eight of one of 32 bits
abbrev pub four_digits : ℕ → List ℕ
four_digits n = encode_lower (to_be_bytes w16 (n % 2 ^ 16))

abbrev pub eight_digits : ℕ → List ℕ
eight_digits n = encode_lower (to_be_bytes w32 n)

-- the sixteen of one of 64 bits
abbrev pub sixteen_digits : ℕ → List ℕ
sixteen_digits n = encode_lower (to_be_bytes w64 n)

-- Why a statement is refused: N NAME.
abbrev pub refusal_number : Refusal → ℕ
refusal_number BadTask = 1
refusal_number BadTargetRange = 2
refusal_number BadOriginRange = 3
refusal_number BadCounter = 4
refusal_number TooLong = 5
refusal_number NoTable = 6
refusal_number BadHandler = 7
refusal_number BadUserHeader = 8
refusal_number VecCount = 9
refusal_number VecLength = 10
refusal_number StrideBelowBlock = 11
refusal_number Misaligned = 12

abbrev pub refusal_name : Refusal → List ℕ
refusal_name BadTask = codes "BadTask"
refusal_name BadTargetRange = codes "BadTargetRange"
refusal_name BadOriginRange = codes "BadOriginRange"
refusal_name BadCounter = codes "BadCounter"
refusal_name TooLong = codes "TooLong"
refusal_name NoTable = codes "NoTable"
refusal_name BadHandler = codes "BadHandler"
refusal_name BadUserHeader = codes "BadUserHeader"
refusal_name VecCount = codes "VecCount"
refusal_name VecLength = codes "VecLength"
refusal_name StrideBelowBlock = codes "StrideBelowBlock"
refusal_name Misaligned = codes "Misaligned"

abbrev pub refusal_text : Refusal → List ℕ
refusal_text why = decimal (refusal_number why) ++ codes " " ++ refusal_name why

-- Why bytes are no packet: N NAME.
abbrev pub reason_number : Reason → ℕ
reason_number reasons.Short = 1
reason_number reasons.Long = 2
reason_number reasons.Magic = 3
reason_number reasons.Version = 4
reason_number reasons.Kind = 5
reason_number reasons.Task = 6
reason_number reasons.Field = 7
reason_number reasons.NotCanonical = 8

abbrev pub reason_name : Reason → List ℕ
reason_name reasons.Short = codes "Short"
reason_name reasons.Long = codes "Long"
reason_name reasons.Magic = codes "Magic"
reason_name reasons.Version = codes "Version"
reason_name reasons.Kind = codes "Kind"
reason_name reasons.Task = codes "Task"
reason_name reasons.Field = codes "Field"
reason_name reasons.NotCanonical = codes "NotCanonical"
