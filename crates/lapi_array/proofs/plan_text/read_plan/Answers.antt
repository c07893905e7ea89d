use Rattle.lapi_array.proofs.PlanOnward.{plan_found, plan_only, plan_first}
use Rattle.lapi_array.proofs.plan_text.read_plan.Goals as goal

pub returns-clause-found : goal.returns-clause-found
returns-clause-found c = plan_found c.args.bytes.now c.read_lines.result c.read_lines.ensures

pub returns-clause-only : goal.returns-clause-only
returns-clause-only c plan few reads = plan_only c.args.bytes.now c.read_lines.result plan few reads c.read_lines.ensures

pub returns-clause-first : goal.returns-clause-first
returns-clause-first c few = plan_first c.args.bytes.now c.read_lines.result few c.read_lines.ensures
