-- What is told of a capture: its landings and counts, or its first fault.
use Rattle.std.specs.Prelude.{ℕ, List, [], ◌++◌, length, codes}
use Rattle.std.specs.List.{flat_map}
use Rattle.lapi_base.specs.Output.LandingsText.{landing_line, landing_counts, flaw_line, frames_limit_line}
use Rattle.lapi_capture.specs.declared.feed_fault.FeedFault.{FeedFault}
use Rattle.lapi_capture.specs.declared.feed_fault.FeedFault.TheVariants.{Bad, Limit, Memory}
use Rattle.lapi_capture.specs.declared.flaw.Flaw.{Flaw}
use Rattle.lapi_capture.specs.declared.flaw.Flaw.TheVariants.{Magic, Task, Size, Early, After, Clash}
use Rattle.lapi_capture.specs.declared.landing.Landing.{Landing}

abbrev pub line_of : Landing → List ℕ
line_of landing = landing_line landing.name landing.to landing.frame

unfoldable pub landings_text : (frames : ℕ) → List Landing → List ℕ
landings_text frames landings = flat_map line_of landings ++ landing_counts frames (length landings)

-- N NAME
abbrev pub flaw_number : Flaw → ℕ
flaw_number Magic = 1
flaw_number Task = 2
flaw_number Size = 3
flaw_number Early = 4
flaw_number After = 5
flaw_number Clash = 6

abbrev pub flaw_name : Flaw → List ℕ
flaw_name Magic = codes "Magic"
flaw_name Task = codes "Task"
flaw_name Size = codes "Size"
flaw_name Early = codes "Early"
flaw_name After = codes "After"
flaw_name Clash = codes "Clash"

abbrev pub fault_text : FeedFault → List ℕ
fault_text (Bad place flaw) = flaw_line place (flaw_number flaw) (flaw_name flaw)
fault_text (Limit place) = frames_limit_line place
fault_text Memory = []
