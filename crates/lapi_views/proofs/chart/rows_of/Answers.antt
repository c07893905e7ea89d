use Rattle.std.proofs.Common.{◌≡◌, [], length, ap, ◌∙◌, rules}
use Rattle.lapi_base.specs.Record.WorldView.{WorldView}
use Rattle.lapi_views.specs.Chart.{taken_rows}
use Rattle.lapi_views.proofs.EachNumber.{none_yet}
use Rattle.lapi_views.proofs.KeptJobs.{first_kept}
use Rattle.lapi_views.proofs.LinesInOrder.{first_lines, next_line}
use Rattle.lapi_views.proofs.RunRows.{all_rows, next_rows}
use Rattle.lapi_views.proofs.chart.rows_of.Goals as goal

pub loop-n-init : goal.loop-n-init
loop-n-init g c =
    let first = ap (λ (w : WorldView). w.taken) c.in_ok-world.ensures in
    let w = c.in_ok-world.world in
    record {
      world = first_lines w first;
      jobs = first_kept w c.in_ok-jobs.jobs first c.in_ok-jobs.ensures;
      rows = c.new-rows.ensures ∙ none_yet (taken_rows w.script w.rules w.schedule) [];
    }

pub loop-n-preserved : goal.loop-n-preserved
loop-n-preserved g c =
    let w = c.in_ok-world.world in
    let next = next_line c.loop-n.world w c.loop-n.n c.add_line.new.world c.loop-n.invariant.world c.in-Ok.ensures.world in
    record {
      world = next;
      jobs = c.in-Ok.ensures.jobs;
      rows = next_rows w c.loop-n.world c.add_line.new.world c.loop-n.n c.loop-n.rows c.add_line.new.rows c.loop-n.invariant.world next c.loop-n.invariant.rows c.in-Ok.ensures.rows;
    }

pub returns : goal.returns
returns g c =
    let count : c.loop-n.n ≡ length c.args.input.schedule = search rules in
    all_rows c.args.input.script _ c.args.input.schedule c.in_ok-world.world c.loop-n.n _ c.in_ok-world.ensures count c.loop-n.invariant.rows
