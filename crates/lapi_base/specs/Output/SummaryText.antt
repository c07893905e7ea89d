-- The summary of a record, one line: how many events, entries and landings it has, and whether all is quiet.
-- This is the project's own.
use Rattle.std.specs.Prelude.{ℕ, Bool, true, false, List, ◌++◌, length, filter, codes}
use Rattle.std.specs.List.{sum_by}
use Rattle.std.specs.Fmt.{decimal}
use Rattle.lapi_base.specs.declared.event.Event.{Event}
use Rattle.lapi_base.specs.declared.event.Event.TheVariants.{Land}
use Rattle.lapi_base.specs.declared.script.Script.{Script}
use Rattle.lapi_base.specs.declared.rule.Rules.{Rules}
use Rattle.lapi_base.specs.Record.Operations.{numbers_below}
use Rattle.lapi_base.specs.Record.Wires.{Run}
use Rattle.lapi_base.specs.Record.Final.{is_quiet}
use Rattle.lapi_base.specs.Output.ReportText.{quiet_line}

-- the entries on the wires from one task to each, and on all wires
abbrev pub entries_from : Script → Run → (from : ℕ) → ℕ
entries_from script r a = sum_by (λ b. length (r.wire a b)) (numbers_below script.tasks)

abbrev pub entries_of : Script → Run → ℕ
entries_of script r = sum_by (entries_from script r) (numbers_below script.tasks)

abbrev pub is_landing : Event → Bool
is_landing (Land m) = true
is_landing _ = false

abbrev pub landings_of : List Event → ℕ
landings_of journal = length (filter is_landing journal)

-- summary N lines L events E entries W landed M quiet yes, or no
abbrev pub summary_line : (number lines events entries landed : ℕ) → (quiet : Bool) → List ℕ
summary_line number lines events entries landed quiet =
    codes "summary " ++ decimal number ++ codes " lines " ++ decimal lines ++ codes " events " ++ decimal events
    ++ codes " entries " ++ decimal entries ++ codes " landed " ++ decimal landed ++ codes " " ++ quiet_line quiet

-- of a record after so many lines
unfoldable pub summary_text : Script → Rules → Run → (number lines : ℕ) → List ℕ
summary_text script rules r number lines =
    summary_line number lines (length r.journal) (entries_of script r) (landings_of r.journal) (is_quiet script rules r)
