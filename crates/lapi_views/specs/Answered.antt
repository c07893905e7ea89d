-- What the program did to its source and its sink. This is the project's own.
use Rattle.std.specs.Prelude.{◌≡◌, ℕ, ◌+◌, ◌≤◌, ◌⊎◌, List, [], length, codes, Option, Some, None}
use Rattle.std.specs.Io.KnownBytes.{Appends, Consumes, IsAtEnd}
use Rattle.lapi_base.specs.declared.input.Input.{Input}
use Rattle.lapi_base.specs.declared.input.ReadFault.{ReadFault}
use Rattle.lapi_base.specs.declared.input.ReadFault.TheVariants as faults
use Rattle.lapi_base.specs.declared.input.LineError.TheVariants as why
use Rattle.lapi_base.specs.declared.rule.Rules.{Rules}
use Rattle.lapi_base.specs.declared.status.Status.{Status}
use Rattle.lapi_base.specs.declared.status.Status.TheVariants as status
use Rattle.lapi_base.specs.Input.Reading.{most_input, read}
use Rattle.lapi_base.specs.Output.CommandAnswers.{Answer, fault_answer, input_answer, recorded}
use Rattle.lapi_base.specs.Record.Operations.{numbers_below}
use Rattle.lapi_io.specs.Writes.{AppendsFront}
use Rattle.lapi_views.specs.declared.asked.Asked.{Asked}
use Rattle.lapi_views.specs.declared.asked.Asked.TheVariants.{Packets, Chart}
use Rattle.lapi_views.specs.Chart.{chart_of}
use Rattle.lapi_views.specs.Pcap.{pcap_bytes}

-- the sink refused, or memory ran out
abbrev pub IsCutShort : Status → Type 0
IsCutShort status.SinkFault = Unit {0}
IsCutShort status.Memory = Unit {0}
IsCutShort _ = ⊥

-- the status of the answer, and its text was appended; or it was cut short, and a front of that text was
abbrev pub CommandGives : Answer → (held now : Option (List ℕ)) → Status → Type 0
CommandGives answer held now result = ((result ≡ answer.status) × Appends held now answer.text) ⊎ (IsCutShort result × AppendsFront held now answer.text)

-- the source refused, or memory ran out
abbrev pub IsUnread : Status → Type 0
IsUnread status.SourceFault = Unit {0}
IsUnread status.Memory = Unit {0}
IsUnread _ = ⊥

-- nothing was written
abbrev pub IsSilent : Status → (held now : Option (List ℕ)) → Type 0
IsSilent result held now = IsUnread result × (now ≡ held)

-- all that was left was read; or, of a source with more bytes than an input may have, one byte more than those
abbrev pub WasRead : (left rest : Option (List ℕ)) → List ℕ → Type 0
WasRead left rest bytes = Consumes left rest bytes × (length bytes ≤ most_input + 1) × (length bytes ≤ most_input → IsAtEnd rest)

-- What is told of a fault of the input; where memory ran out that is nothing.
abbrev pub refused_answer : ReadFault → Answer
refused_answer (faults.Syntax line) = fault_answer (why.Syntax, line)
refused_answer (faults.Limit which line) = fault_answer (why.Limit which, line)
refused_answer faults.Memory = record { status = status.Memory; text = [] }

-- the packets that were handed over in all lines of the input, in order
abbrev pub packets_text : Rules → Input → List ℕ
packets_text rules x = pcap_bytes (recorded rules x) x.schedule (numbers_below (length x.schedule))

-- what was asked for of an input
abbrev pub asked_text : Rules → Asked → Input → List ℕ
asked_text rules Packets x = packets_text rules x
asked_text rules (Chart part) x = chart_of rules part x

abbrev pub usage_answer : Answer
usage_answer = record { status = status.Usage; text = codes "usage: lapi_view pcap | chart [--from LINE] [--to LINE]\n" }

-- the source couldn't be read, and nothing was written; or it was read, and this was told of its input
abbrev pub IsToldOf : (text : Input → List ℕ) → (left rest held now : Option (List ℕ)) → Status → Type 0
IsToldOf text left rest held now result =
    IsSilent result held now ⊎ ((bytes : List ℕ) × WasRead left rest bytes × CommandGives (input_answer text (read bytes)) held now result)

abbrev pub IsAnswered : Rules → Option Asked → (left rest held now : Option (List ℕ)) → Status → Type 0
IsAnswered rules None left rest held now result = CommandGives usage_answer held now result × (rest ≡ left)
IsAnswered rules (Some asked) left rest held now result = IsToldOf (asked_text rules asked) left rest held now result
