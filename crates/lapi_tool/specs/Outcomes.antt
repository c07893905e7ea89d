-- What a command did to its source and its sink. This is the project's own.
use Rattle.std.specs.Prelude.{◌≡◌, ℕ, ◌+◌, ◌≤◌, ◌⊎◌, List, length, Option}
use Rattle.std.specs.Io.KnownBytes.{Appends, Consumes, IsAtEnd}
use Rattle.lapi_base.specs.declared.status.Status.{Status}
use Rattle.lapi_base.specs.declared.status.Status.TheVariants as status
use Rattle.lapi_base.specs.Input.Reading.{most_input}
use Rattle.lapi_base.specs.Output.CommandAnswers.{Answer}
use Rattle.lapi_io.specs.Writes.{AppendsFront}

-- the sink refused, or memory ran out
abbrev pub IsCutShort : Status → Type 0
IsCutShort status.SinkFault = Unit {0}
IsCutShort status.Memory = Unit {0}
IsCutShort _ = ⊥

-- the status of the answer, and its text was appended; or it was cut short, and a front of that text was
abbrev pub CommandGives : Answer → (held now : Option (List ℕ)) → Status → Type 0
CommandGives answer held now result = ((result ≡ answer.status) × Appends held now answer.text) ⊎ (IsCutShort result × AppendsFront held now answer.text)

-- the source refused, or memory ran out
abbrev pub IsUnread : Status → Type 0
IsUnread status.SourceFault = Unit {0}
IsUnread status.Memory = Unit {0}
IsUnread _ = ⊥

-- nothing was written
abbrev pub IsSilent : Status → (held now : Option (List ℕ)) → Type 0
IsSilent result held now = IsUnread result × (now ≡ held)

-- all that was left was read; or, of a source with more bytes than an input may have, one byte more than those
abbrev pub WasRead : (left rest : Option (List ℕ)) → List ℕ → Type 0
WasRead left rest bytes = Consumes left rest bytes × (length bytes ≤ most_input + 1) × (length bytes ≤ most_input → IsAtEnd rest)
