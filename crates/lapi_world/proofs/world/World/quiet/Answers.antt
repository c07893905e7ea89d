use Rattle.std.proofs.Common.{◌≡◌, ◌↔◌, IsTrue, false, sym, ap, ◌∙◌, subst}
use Rattle.lapi_base.specs.Record.Final.{is_quiet, Quiet}
use Rattle.lapi_base.specs.Record.WorldView.{WorldView, record_at, view_record}
use Rattle.lapi_world.specs.Settled.{IsSettled}
use Rattle.lapi_world.proofs.WorldLaws.{recorded, is-quiet, is-settled}
use Rattle.lapi_world.proofs.world.World.quiet.Goals as goal

pub returns-clause-tested : goal.returns-clause-tested
returns-clause-tested c = λ free.
    let w = c.self.inside in
    c.is_quiet.ensures w.script w.rules (record_at w.script w.rules w.schedule w.taken) (recorded w.script w.rules w.schedule w.network w.taken w.replies w.spent c.self.invariant) (c.self.invariant.stands (subst (λ (v : WorldView). v.spent ≡ false) (sym c.self.view_is) free))
    ∙ ap (λ (v : WorldView). is_quiet v.script v.rules (view_record v)) c.self.view_is

pub returns-clause-quiet : goal.returns-clause-quiet
returns-clause-quiet c = λ free.
    let w = c.self.inside in
    let told = c.is_quiet.ensures w.script w.rules (record_at w.script w.rules w.schedule w.taken) (recorded w.script w.rules w.schedule w.network w.taken w.replies w.spent c.self.invariant) (c.self.invariant.stands (subst (λ (v : WorldView). v.spent ≡ false) (sym c.self.view_is) free)) in
    subst (λ (v : WorldView). IsTrue c.is_quiet.result ↔ Quiet v.script v.rules (view_record v)) c.self.view_is
    (is-quiet w.script w.rules c.quiet_is_tested.ensures w.schedule w.network w.taken w.replies w.spent c.is_quiet.result c.self.invariant told)

pub returns-clause-settled : goal.returns-clause-settled
returns-clause-settled c = λ free yes.
    let w = c.self.inside in
    let told = c.is_quiet.ensures w.script w.rules (record_at w.script w.rules w.schedule w.taken) (recorded w.script w.rules w.schedule w.network w.taken w.replies w.spent c.self.invariant) (c.self.invariant.stands (subst (λ (v : WorldView). v.spent ≡ false) (sym c.self.view_is) free)) in
    subst (λ (v : WorldView). IsSettled v.script v.rules (view_record v)) c.self.view_is
    (is-settled w.script w.rules c.quiet_is_tested.ensures c.delivered_is_final.ensures.complete c.delivered_is_final.ensures.still w.schedule w.network w.taken w.replies w.spent c.is_quiet.result c.self.invariant told yes)
