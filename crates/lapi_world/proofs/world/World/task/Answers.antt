use Rattle.std.proofs.Common.{◌≡◌, ◌<◌, false, sym, subst}
use Rattle.lapi_base.specs.Record.WorldView.{WorldView, view_record}
use Rattle.lapi_task.specs.HasEffect.{IsAt}
use Rattle.lapi_world.proofs.WorldLaws.{task-stands}
use Rattle.lapi_world.proofs.world.World.task.Goals as goal

pub returns : goal.returns
returns c = λ free.
    let w = c.self.inside in
    subst (λ (v : WorldView). IsAt v.script v.rules c.args.t c.task.result.now (view_record v)) c.self.view_is
    (task-stands w.script w.rules w.schedule w.network w.taken w.replies w.spent c.args.t c.task.result.now c.self.invariant (subst (λ (v : WorldView). v.spent ≡ false) (sym c.self.view_is) free) (subst (λ (v : WorldView). c.args.t < v.script.tasks) (sym c.self.view_is) c.requires) c.task.ensures)
