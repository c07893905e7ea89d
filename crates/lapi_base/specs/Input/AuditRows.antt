-- The grammar of an audit's text: a script as an input has it, and behind the line `journal` a line for each event.
-- This is the project's own.
use Rattle.std.specs.Prelude.{◌≡◌, ℕ, ◌≤◌, List, [], ◌∷◌, ◌++◌, length, map, codes, IsTrue}
use Rattle.std.specs.List.{AllZip, AllByRecursion, flat_map}
use Rattle.lapi_base.specs.declared.message.Leg.TheVariants.{Go}
use Rattle.lapi_base.specs.declared.event.Event.{Event}
use Rattle.lapi_base.specs.declared.event.Event.TheVariants.{Issue, Refuse, Enter, Pass, Copy, Head, Land, Begin, End}
use Rattle.lapi_base.specs.declared.script.Script.{Script}
use Rattle.lapi_base.specs.declared.audit_input.AuditInput.{AuditInput}
use Rattle.lapi_base.specs.Input.Lines.{lines_of, is_clean, read_words}
use Rattle.lapi_base.specs.Input.FirstFaults.{IsFirstFaultBy}
use Rattle.lapi_base.specs.Input.Tokens.{Dotted, LegWord}
use Rattle.lapi_base.specs.Input.Rows.{Column, Word, Field, IsRow, number, script_rows, done_row, row_text}
use Rattle.lapi_base.specs.Record.Valid.{ValidScript}
use Rattle.lapi_base.specs.Output.TextParts.{refusal_number, refusal_name}

-- T.S
abbrev pub dotted_part : (task number : ℕ) → Column
dotted_part t s = Field Dotted (t, s)

-- an event as a journal's text has it; of a head, a begin and an end no leg is told
abbrev pub event_row : Event → List Column
event_row (Issue t s) = Word (codes "issue") ∷ dotted_part t s ∷ []
event_row (Refuse t s why) = Word (codes "refuse") ∷ dotted_part t s ∷ number (refusal_number why) ∷ Word (refusal_name why) ∷ []
event_row (Enter t s) = Word (codes "enter") ∷ dotted_part t s ∷ []
event_row (Pass t s) = Word (codes "pass") ∷ dotted_part t s ∷ []
event_row (Copy m) = Word (codes "copy") ∷ dotted_part m.origin m.statement ∷ Field LegWord m.leg ∷ []
event_row (Head m) = Word (codes "head") ∷ dotted_part m.origin m.statement ∷ []
event_row (Land m) = Word (codes "land") ∷ dotted_part m.origin m.statement ∷ Field LegWord m.leg ∷ []
event_row (Begin m t w) = Word (codes "begin") ∷ dotted_part m.origin m.statement ∷ dotted_part t w ∷ []
event_row (End m t w) = Word (codes "end") ∷ dotted_part m.origin m.statement ∷ dotted_part t w ∷ []

-- a head, a begin and an end are those of a request
abbrev pub IsOfRequest : Event → Type 0
IsOfRequest (Head m) = m.leg ≡ Go
IsOfRequest (Begin m t w) = m.leg ≡ Go
IsOfRequest (End m t w) = m.leg ≡ Go
IsOfRequest _ = Unit {0}

abbrev pub journal_row : List Column
journal_row = Word (codes "journal") ∷ []

abbrev pub audit_rows : AuditInput → List (List Column)
audit_rows x = script_rows x.script ++ (journal_row ∷ (map event_row x.journal ++ done_row ∷ []))

-- the most events of a journal that is audited
abbrev pub most_events : ℕ
most_events = 100000

-- The lines that aren't skipped have the rows of the script and the events, which keep all limits.
pub record IsAuditRead (x : AuditInput) (lines : List (List ℕ)) : Type 0 where
  pub clean : AllByRecursion (λ line. IsTrue (is_clean line)) lines
  pub rows : AllZip IsRow (audit_rows x) (read_words lines)
  pub script : ValidScript x.script
  pub few : length x.journal ≤ most_events
  pub requests : AllByRecursion IsOfRequest x.journal

abbrev pub IsAuditText : AuditInput → List ℕ → Type 0
IsAuditText x bytes = IsAuditRead x (lines_of bytes)

abbrev pub IsFirstAuditFault : List (List ℕ) → ℕ → Type 0
IsFirstAuditFault lines l = IsFirstFaultBy IsAuditRead lines l

-- the canonical lines of a script, and behind the line `journal` a journal's text
abbrev pub audit_text : Script → (journal : List ℕ) → List ℕ
audit_text script journal = flat_map row_text (script_rows script) ++ (row_text journal_row ++ (journal ++ row_text done_row))
