use Rattle.std.proofs.Common.{◌≡◌, ℕ, ◌++◌, List, sym, ap, ◌∙◌, subst}
use Rattle.lapi_base.specs.Packet.Spelling.{spells_packet}
use Rattle.lapi_base.specs.Record.Lanes.{lane_lines}
use Rattle.lapi_base.specs.Record.Valid.{ValidSchedule}
use Rattle.lapi_base.specs.Record.WorldView.{WorldView}
use Rattle.lapi_turn.specs.Entries.{HasRight}
use Rattle.lapi_live.specs.declared.lane_set.OneLane.{OneLane}
use Rattle.lapi_live.specs.Passes.{plan_of, seen_by, lanes_of}
use Rattle.lapi_live.specs.Running.{AreOwn, lines_at}
use Rattle.lapi_live.proofs.BeginsEnds.{no_jobs}
use Rattle.lapi_live.proofs.Interleavings.{interleaved}
use Rattle.lapi_live.proofs.LaneSets.{set_own, set_at, all_has}
use Rattle.lapi_live.proofs.live.run_world.Goals as goal

pub run_lanes-requires-clause-own : goal.run_lanes-requires-clause-own
run_lanes-requires-clause-own g c κs = λ bounds.
    let e = c.in_ok-shared.ensures in
    let set = c.args.set.now in
    let a = subst (AreOwn c.args.world.schedule _) (sym c.requires.set) (set_own c.args.world.schedule) in
    let b = subst (λ (lanes : ℕ). AreOwn c.args.world.schedule lanes set) (sym e.lanes) a in
    subst (λ (plan : WorldView). AreOwn plan.schedule (lanes_of c.in_ok-shared.pass) set) (sym e.plan) b

pub run_lanes-requires-clause-idle : goal.run_lanes-requires-clause-idle
run_lanes-requires-clause-idle g c κs = λ bounds. no_jobs (plan_of c.in_ok-shared.shared.turn) (lanes_of c.in_ok-shared.pass) (seen_by c.in_ok-shared.pass) c.in_ok-shared.ensures.seen

pub returns-clause-taken : goal.returns-clause-taken
returns-clause-taken g c =
    let e = c.in_ok-shared.ensures in
    let schedule = c.args.world.schedule in
    let valid = subst (λ (plan : WorldView). ValidSchedule plan.script spells_packet plan.schedule) e.plan e.pass.shareable.valid in
    interleaved c.args.world.script schedule c.close.result.taken valid (λ lane lt.
    let has = subst (λ (lanes : ℕ). HasRight lanes lane) (sym e.lanes) (all_has lane lt) in
    let ran = c.in_ok-pass.ensures.lines lane has in
    let here = subst (λ (plan : WorldView). lane_lines plan.schedule lane (seen_by c.in_ok-pass.pass) ≡ lane_lines plan.schedule lane (seen_by c.in_ok-shared.pass) ++ lines_at c.args.set.now lane) e.plan ran in
    ap (lane_lines schedule lane) c.close.ensures.taken
    ∙ here
    ∙ ap (λ (l : List ℕ). lane_lines schedule lane l ++ lines_at c.args.set.now lane) e.seen
    ∙ ap (λ (s : List OneLane). lines_at s lane) c.requires.set
    ∙ set_at schedule lane lt)
