-- A world under a turn: its lines are the entries of the turn's list, each with its lane as the right that it needs.
use Rattle.std.specs.Prelude.{◌≡◌, ℕ, List, [], ◌∷◌, ◌++◌, false, map, Result, IfOk, Option}
use Rattle.std.specs.List.{AllByRecursion}
use Rattle.lapi_base.specs.declared.memory.Memory.{Memory}
use Rattle.lapi_base.specs.declared.reply.Reply.{Reply}
use Rattle.lapi_base.specs.declared.schedule.Line.{Line}
use Rattle.lapi_base.specs.Record.Lanes.{lane_of}
use Rattle.lapi_base.specs.Record.WorldView.{WorldView}
use Rattle.lapi_handlers.specs.declared.begun.Begun.{Begun}
use Rattle.lapi_handlers.specs.declared.finished.Finished.{Finished}
use Rattle.lapi_turn.specs.Entries.{Entry}
use Rattle.lapi_world.specs.Jobs.{IsEndWith, HandsOut, begun_reply}
use Rattle.lapi_live.specs.Histories.{record_after}

-- the world before its first line
abbrev pub plan_of_world : WorldView → WorldView
plan_of_world w = record w { taken = []; spent = false }

-- a line as an entry, and back
abbrev pub entry_of : List Line → ℕ → Entry
entry_of schedule n = (n, lane_of schedule n)

abbrev pub entries_of : List Line → List ℕ → List Entry
entries_of schedule lines = map (entry_of schedule) lines

abbrev pub numbers_of : List Entry → List ℕ
numbers_of list = map (λ (e : Entry). e.0) list

-- each entry needs the right of its line
abbrev pub IsLined : List Line → List Entry → Type 0
IsLined schedule list = AllByRecursion (λ (e : Entry). e.1 ≡ lane_of schedule e.0) list

-- the reply to line n after these entries
abbrev pub Replies : WorldView → List Entry → ℕ → Reply → Type 0
Replies plan list n reply = (record_after plan (numbers_of list ++ n ∷ [])).replies ≡ (record_after plan (numbers_of list)).replies ++ reply ∷ []

-- What the world may be asked at a list, and may answer.
abbrev pub MayLine : WorldView → List Entry → ℕ → Result Reply Memory → Type 0
MayLine plan list n answer = IsLined plan.schedule list × IfOk answer (λ reply. Replies plan list n reply)

abbrev pub MayBegin : WorldView → List Entry → ℕ → Result Begun Memory → Type 0
MayBegin plan list n answer =
    IsLined plan.schedule list × IfOk answer (λ begun. Replies plan list n (begun_reply begun) × HandsOut (record plan { taken = numbers_of list ++ n ∷ [] }) n begun)

abbrev pub LawfulEnd : WorldView → List Entry → ℕ → Option Finished → Type 0
LawfulEnd plan list n finished = IsLined plan.schedule list → IsEndWith (record plan { taken = numbers_of list }) n finished
