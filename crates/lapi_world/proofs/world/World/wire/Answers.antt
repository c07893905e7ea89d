use Rattle.std.proofs.Common.{◌≡◌, false, map, refl, sym, ap, ◌∙◌, subst}
use Rattle.lapi_base.specs.Record.WorldView.{WorldView, record_at, view_record}
use Rattle.lapi_base.specs.Packet.PacketBytes as written
use Rattle.lapi_world.proofs.world.World.wire.Goals as goal

pub returns : goal.returns
returns c = λ free.
    let w = c.self.inside in
    c.entries.ensures w.script w.rules (record_at w.script w.rules w.schedule w.taken) refl (c.self.invariant.stands (subst (λ (v : WorldView). v.spent ≡ false) (sym c.self.view_is) free))
    ∙ ap (λ (v : WorldView). map written.packet ((view_record v).wire c.args.a c.args.b)) c.self.view_is
