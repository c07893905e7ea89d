use Rattle.std.proofs.Common.{◌≡◌, false, subst, sym}
use Rattle.lapi_base.specs.Record.WorldView.{WorldView}
use Rattle.lapi_base.specs.Record.Atomic.{AtomicInTime}
use Rattle.lapi_world.proofs.WorldLaws.{world-atomic}
use Rattle.lapi_world.proofs.world.World.journal.Goals as goal

pub returns-clause-atomic : goal.returns-clause-atomic
returns-clause-atomic c = λ free.
    let w = c.self.inside in
    subst (λ (v : WorldView). AtomicInTime v.script v.rules c.journal.result.now) c.self.view_is
    (world-atomic w.script w.rules c.journal_is_atomic.ensures.in_time w.schedule w.network w.taken w.replies w.spent c.journal.result.now c.self.invariant (subst (λ (v : WorldView). v.spent ≡ false) (sym c.self.view_is) free) c.journal.ensures)
