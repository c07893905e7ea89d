use Rattle.std.proofs.Common.{◌≡◌, ◌∷◌, [], ◌++◌, length, ap, ◌∙◌}
use Rattle.std.proofs.lemmas.List.{length-map}
use Rattle.lapi_base.specs.Packet.PacketBytes as written
use Rattle.lapi_base.specs.Record.WorldView.{view_record}
use Rattle.lapi_views.proofs.EachNumber.{nothing_yet, thing_added}
use Rattle.lapi_views.proofs.before.entries_from.Goals as goal

pub loop-b-init : goal.loop-b-init
loop-b-init c = c.new-entries.ensures.items ∙ nothing_yet (λ b. length ((view_record c.args.world.now).wire c.args.a b))

pub loop-b-preserved : goal.loop-b-preserved
loop-b-preserved c =
    let put = (view_record c.args.world.now).wire c.args.a c.loop-b.b in
    let size : length c.wire.result.now ≡ length put = ap length (c.wire.ensures c.requires.spent) ∙ length-map put written.packet in
    thing_added (λ b. length ((view_record c.args.world.now).wire c.args.a b)) c.loop-b.b _ _ c.loop-b.invariant (c.in_ok-push.ensures.items ∙ ap (λ n. c.loop-b.entries.items ++ n ∷ []) size)
