use Rattle.std.proofs.Common.{◌<◌, ◌^◌, ◌*◌, sym, ap, ◌∙◌, subst, arith}
use Rattle.std.proofs.Math.Pow.{pow_mono}
use Rattle.lapi_base.specs.Packet.Format.{byte_count}
use Rattle.lapi_base.specs.Packet.Layout.{layout_of, bits_size}
use Rattle.lapi_base.specs.Packet.PacketBytes as written
use Rattle.lapi_base.specs.declared.packet.Packet.TheVariants.{Ack}
use Rattle.lapi_base.specs.Packet.Spelling.{HasSpelling}
use Rattle.lapi_base.proofs.ListLaws.{found-at}
use Rattle.lapi_base.proofs.Results.{on-ok}
use Rattle.lapi_parts.proofs.SpelledPackets.{acknowledgement-spelled}
use Rattle.lapi_task.proofs.Following.AnswerLaws.{told-alone, answer-put}
use Rattle.lapi_task.proofs.task.Task.acknowledge.Goals as goal

pub spelled-requires : goal.spelled-requires
spelled-requires c =
    let task = c.args.self.now in
    let layout = task.sizes.layout in
    let number = task.state.number in
    let base = c.ack-base.result.0 in
    let bits = c.ack-base.result.1 in
    let end = c.index.result.now in
    let wide = pow_mono (c.requires.window end (found-at task.receivers.items c.args.from end c.requires.there c.index.ensures)) in
    let fits = c.ack-base.ensures.fits.0 in
    let few : bits < 2 ^ (8 * byte_count (bits_size (layout_of layout))) = omega (arith, fits, wide) in
    subst HasSpelling (sym c.acknowledgement-packet.ensures.packet)
    (written.packet (Ack layout number c.args.from base bits), acknowledgement-spelled layout number c.args.from base bits c.requires.version c.requires.own c.requires.other c.acknowledgement-packet.ensures.small.0 few c.ack-base.ensures.fits.1)

pub returns-clause-alone : goal.returns-clause-alone
returns-clause-alone c =
    let task = c.args.self.now in
    let end = c.index.result.now in
    let here = found-at task.receivers.items c.args.from end c.requires.there c.index.ensures in
    on-ok _ _ c.push.result (λ put. told-alone task c.args.from end here c.ack-base.result.0 c.ack-base.result.1 c.ack-base.ensures.base c.ack-base.ensures.bits c.args.entries.now c.push.new.self c.in_ok-bytes.bytes (c.in_ok-bytes.ensures.bytes ∙ ap written.packet c.acknowledgement-packet.ensures.packet) put) c.push.ensures.ok

pub returns-clause-packets : goal.returns-clause-packets
returns-clause-packets c = on-ok _ _ c.push.result (λ put script t ps taken. answer-put script t c.args.self.now c.args.from ps taken c.index.result.now c.index.ensures c.ack-base.result.0 c.ack-base.result.1 (c.ack-base.ensures.packets script ps) c.args.entries.now c.push.new.self c.in_ok-bytes.bytes (c.in_ok-bytes.ensures.bytes ∙ ap written.packet c.acknowledgement-packet.ensures.packet) put) c.push.ensures.ok
