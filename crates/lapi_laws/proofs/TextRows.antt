-- The texts of small runs, computed by the definitions alone.
use Rattle.std.proofs.Common.{◌≡◌, ℕ, List, [], ◌∷◌, map, length, refl, Some, None}
use Rattle.std.specs.Prelude.{codes}
use Rattle.std.specs.Fmt.{digits}
use Rattle.hex.specs.Hex.{encode_with}
use Rattle.lapi_base.specs.declared.address.Addr.TheVariants.{Plain, Table}
use Rattle.lapi_base.specs.declared.vector.Vector.{Vector}
use Rattle.lapi_base.specs.declared.vector.Vector.TheVariants.{Stride}
use Rattle.lapi_base.specs.declared.statement.Statement.{Statement}
use Rattle.lapi_base.specs.declared.statement.Statement.TheVariants.{Store, Put, Putv, Am, Wait, Set, Read, Fence}
use Rattle.lapi_base.specs.declared.schedule.Act.{Act}
use Rattle.lapi_base.specs.declared.schedule.Act.TheVariants.{Step, Poll, Deliver}
use Rattle.lapi_base.specs.Record.Operations.{numbers_below}
use Rattle.lapi_base.specs.Record.Below.{below}
use Rattle.lapi_base.specs.Record.Refusals.{refusals}
use Rattle.lapi_base.specs.Record.Values.{memory_bytes}
use Rattle.lapi_base.specs.Record.Jobs.{busy}
use Rattle.lapi_base.specs.Record.Final.{is_quiet, is_idle, is_settled}
use Rattle.lapi_base.specs.Output.JournalText.{journal_text}
use Rattle.lapi_base.specs.Output.WireText.{wire_text}
use Rattle.lapi_base.specs.Output.ReportText.{report_text, task_text}
use Rattle.lapi_base.specs.Output.TraceText.{trace_text}
use Rattle.lapi_laws.proofs.WorkedRuns.{builtin, Row, run, two_tasks, piece, smallest_run, no_bytes_three_counters}

-- the report, journal, wires and trace of all lines of a row
unfoldable report : Row → List ℕ
unfolding run report_text task_text numbers_below below encode_with memory_bytes refusals busy is_quiet is_idle is_settled digits
report row = report_text row.script builtin (run row) (length row.lines)

unfoldable journal : Row → List ℕ
unfolding run journal_text digits
journal row = journal_text (run row)

unfoldable wires : Row → List ℕ
unfolding run wire_text numbers_below below encode_with digits
wires row = wire_text row.script (run row)

unfoldable trace : Row → List ℕ
unfolding run trace_text numbers_below below encode_with digits
trace row = trace_text (map (λ act. record { lane = 0; act = act }) row.lines) (numbers_below (length row.lines)) (run row).replies

smallest-journal : journal smallest_run ≡ codes "issue 0.0\nissue 0.1\ncopy 0.1 go\nland 0.1 go\n"
unfolding journal
smallest-journal = refl

smallest-wires :
    wires smallest_run ≡ codes "wire 0 1 0 4c0101000100000000000001010100000008000000000010ffff6162636465666768\nwire 1 0 0 4c010201000000000100000000\n"
unfolding wires
smallest-wires = refl

smallest-report :
    report smallest_run
    ≡ codes "lines 5\nevents 4\ntask 0 at 2 of 2 queued 0 running 0\nmemory 0 0000 61626364656667680000000000000000\ntask 1 at 0 of 0 queued 0 running 0\nmemory 1 0010 61626364656667680000000000000000\nquiet yes\n"
unfolding report
smallest-report = refl

-- nothing at all
abbrev nothing : Row
nothing = two_tasks 64 [] [] []

nothing-report : report nothing ≡ codes "lines 0\nevents 0\ntask 0 at 0 of 0 queued 0 running 0\ntask 1 at 0 of 0 queued 0 running 0\nquiet yes\n"
unfolding report
nothing-report = refl

counters-report :
    report no_bytes_three_counters
    ≡ codes "lines 7\nevents 5\ntask 0 at 1 of 1 queued 0 running 0\ncounter 0 0 2\ntask 1 at 0 of 0 queued 0 running 0\ncounter 1 0 1\nquiet yes\n"
unfolding report
counters-report = refl

-- a put lands over the buffer of a running handler
abbrev over_buffer : Row
over_buffer =
    two_tasks 64
    (Store 0 (1 ∷ 2 ∷ 3 ∷ 4 ∷ []) ∷ Am 1 1 (0 ∷ 0 ∷ 0 ∷ 16 ∷ 0 ∷ 0 ∷ 0 ∷ 32 ∷ 0 ∷ 0 ∷ 0 ∷ 1 ∷ []) 0 4 (Some 0) None (Some 0) ∷ Put 1 (Plain 16) 4 4 None None None ∷ [])
    []
    (Step 0 ∷ Step 0 ∷ Step 0 ∷ Poll 0 ∷ Deliver 0 1 0 ∷ Act.Begin 1 0 ∷ Deliver 0 1 1 ∷ Act.End 1 0 ∷ [])

over_buffer-journal :
    journal over_buffer
    ≡ codes "issue 0.0\nissue 0.1\nissue 0.2\ncopy 0.1 go\ncopy 0.2 go\nhead 0.1\nland 0.1 go\nbegin 0.1 1.0\nland 0.2 go\nend 0.1 1.0\ncopy 0.1 note\n"
unfolding journal
over_buffer-journal = refl

over_buffer-report :
    report over_buffer
    ≡ codes "lines 8\nevents 11\ntask 0 at 3 of 3 queued 0 running 0\nmemory 0 0000 01020304000000000000000000000000\ntask 1 at 0 of 0 queued 0 running 0\ncounter 1 0 1\nmemory 1 0020 0000000a000000000000000000000000\nquiet no\n"
unfolding report
over_buffer-report = refl

-- a fence passes with a handler pending
abbrev pending : Row
pending =
    two_tasks 64
    (Am 1 1 (0 ∷ 0 ∷ 0 ∷ 16 ∷ 0 ∷ 0 ∷ 0 ∷ 32 ∷ 0 ∷ 0 ∷ 0 ∷ 1 ∷ []) 0 4 (Some 0) (Some 0) (Some 1) ∷ Fence ∷ [])
    []
    (Step 0 ∷ Step 0 ∷ Poll 0 ∷ Deliver 0 1 0 ∷ Step 0 ∷ Deliver 1 0 0 ∷ Step 0 ∷ [])

pending-trace :
    trace pending ≡ codes "0 step 0 : did\n0 step 0 : blocked\n0 poll 0 : did\n0 deliver 0 1 0 : did\n0 step 0 : blocked\n0 deliver 1 0 0 : did\n0 step 0 : did\n"
unfolding trace
pending-trace = refl

pending-report :
    report pending ≡ codes "lines 7\nevents 5\ntask 0 at 2 of 2 queued 0 running 0\ncounter 0 0 1\ntask 1 at 0 of 0 queued 1 running 0\nquiet no\n"
unfolding report
pending-report = refl

-- a stride below its block is refused
abbrev vectors : Row
vectors =
    two_tasks 64
    (Store 0 (numbers_below 16) ∷ Putv 1 (Stride (Plain 0) 4 4 4) (Stride (Plain 0) 4 4 4) (Some 0) None None
    ∷ Putv 1 (Stride (Plain 32) 2 4 4) (Vector.List (piece 0 2 ∷ piece 2 2 ∷ piece 4 2 ∷ piece 6 2 ∷ [])) None None None
    ∷ Putv 1 (Stride (Plain 0) 8 4 2) (Stride (Plain 0) 8 8 2) None None None ∷ [])
    []
    (Step 0 ∷ Step 0 ∷ Step 0 ∷ Step 0 ∷ Poll 0 ∷ Deliver 0 1 0 ∷ Deliver 0 1 1 ∷ [])

vectors-report :
    report vectors
    ≡ codes "lines 7\nevents 8\ntask 0 at 4 of 4 queued 0 running 0\nrefused 0 3 11 StrideBelowBlock\nmemory 0 0000 000102030405060708090a0b0c0d0e0f\ntask 1 at 0 of 0 queued 0 running 0\ncounter 1 0 1\nmemory 1 0000 000102030405060708090a0b0c0d0e0f\nmemory 1 0020 00010000020300000405000006070000\nquiet no\n"
unfolding report
vectors-report = refl

-- an address table
abbrev table : Row
table =
    two_tasks 64
    (Put 1 (Table 0 4) 0 4 None None None ∷ Statement.Addr 8 ∷ Store 0 (10 ∷ 11 ∷ 12 ∷ 13 ∷ []) ∷ Put 1 (Table 0 4) 0 4 None None None ∷ [])
    (Statement.Addr 24 ∷ [])
    (Step 0 ∷ Step 0 ∷ Step 1 ∷ Poll 0 ∷ Poll 1 ∷ Deliver 0 1 0 ∷ Deliver 1 0 0 ∷ Step 0 ∷ Step 0 ∷ Step 0 ∷ Poll 0 ∷ Deliver 0 1 2 ∷ [])

table-journal :
    journal table
    ≡ codes "refuse 0.0 6 NoTable\nenter 0.1\nenter 1.0\ncopy 0.1 join-1\ncopy 1.0 join-0\nland 0.1 join-1\nland 1.0 join-0\npass 0.1\nissue 0.2\nissue 0.3\ncopy 0.3 go\nland 0.3 go\n"
unfolding journal
table-journal = refl

table-report :
    report table
    ≡ codes "lines 12\nevents 12\ntask 0 at 4 of 4 queued 0 running 0\nrefused 0 0 6 NoTable\nmemory 0 0000 0a0b0c0d000000000000000000000000\ntask 1 at 0 of 1 queued 0 running 0\nmemory 1 0010 0000000000000000000000000a0b0c0d\nquiet no\n"
unfolding report
table-report = refl

-- a wait that lowers its counter, and one that waits
abbrev waits : Row
waits = two_tasks 64 (Set 0 5 ∷ Wait 0 0 ∷ Wait 0 3 ∷ Read 0 ∷ Wait 0 9 ∷ []) [] (Step 0 ∷ Step 0 ∷ Step 0 ∷ Step 0 ∷ Step 0 ∷ [])

waits-report :
    report waits
    ≡ codes "lines 5\nevents 4\ntask 0 at 4 of 5 queued 0 running 0\nread 0 3 2\ncounter 0 0 2\ntask 1 at 0 of 0 queued 0 running 0\nquiet yes\n"
unfolding report
waits-report = refl
