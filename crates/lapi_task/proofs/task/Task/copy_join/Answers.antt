use Rattle.std.proofs.Common.{ℕ, ◌≤◌, [], Some, refl, ap, ◌∙◌, subst, sym, arith}
use Rattle.lapi_base.specs.declared.layout.TheConstants.{PAYLOAD_ROOM}
use Rattle.lapi_base.specs.declared.packet.DataPacket.{DataPacket}
use Rattle.lapi_base.proofs.Results.{on-ok}
use Rattle.lapi_reassembly.specs.Partial.{IsUnit}
use Rattle.lapi_task.specs.Copies.{join_of}
use Rattle.lapi_task.specs.Landed.{MayLeave, with_follower}
use Rattle.lapi_task.proofs.Copying.CopyJoins.{round-known, unit-here, some-statement, found-join, join-made, join-leaves}
use Rattle.lapi_task.proofs.Copying.Units.{unit-sizes}
use Rattle.lapi_task.proofs.task.Task.copy_join.Goals as goal

pub unreachable-requires : goal.unreachable-requires
unreachable-requires c = let x = c.requires in some-statement x.0 x.1 x.2 c.args.i c.args.self.now x.3 c.args.d x.4 _ c.in_default.ensures refl

pub index-requires : goal.index-requires
index-requires c =
    let x = c.requires in
    let known = round-known x.0 x.1 x.2 c.args.i c.args.self.now x.3 c.args.d x.4 in
    let size = c.args.self.now.rounds.ok.0 in
    omega (arith, known, size)

pub join_head-head-requires : goal.join_head-head-requires
join_head-head-requires c = let x = c.requires in found-join x.0 x.1 x.2 c.args.i c.args.self.now x.3 c.args.d x.4 c.in-Some.statement.now c.in-Some.ensures

pub send-requires-clause-link : goal.send-requires-clause-link
send-requires-clause-link c =
    let to = ap (λ (p : DataPacket). p.to) c.follower_packet-packet.ensures in
    let link = c.requires.4.link in
    omega (arith, to, link)

pub send-requires-clause-unit : goal.send-requires-clause-unit
send-requires-clause-unit c =
    let x = c.requires in
    let unit = c.unit.ensures.unit ∙ unit-here x.0 x.1 x.2 c.args.i c.args.self.now x.3 c.args.d x.4 in
    subst (λ (u : ℕ). IsUnit u × (u ≤ PAYLOAD_ROOM)) (sym unit) (unit-sizes x.0)

pub send-requires-clause-allowed : goal.send-requires-clause-allowed
send-requires-clause-allowed c =
    let x = c.requires in
    let task = c.args.self.now in
    let unit = c.unit.ensures.unit ∙ unit-here x.0 x.1 x.2 c.args.i task x.3 c.args.d x.4 in
    let made = join-made x.0 x.1 x.2 c.args.i task x.3 c.args.d x.4 c.in-Some.statement.now c.in-Some.ensures c.index.result.now c.join_head-head.result c.follower_packet-packet.result c.index.ensures c.join_head-head.ensures c.follower_packet-packet.ensures in
    subst (λ (p : DataPacket). MayLeave c.unit.result (record { packet = p; bytes = [] })) (sym made)
    (subst (λ u. MayLeave u (join_of x.0 x.2 c.args.i c.args.d)) (sym unit) (join-leaves x.0 x.1 x.2 c.args.i task x.3 c.args.d x.4))

pub returns-clause-senders : goal.returns-clause-senders
returns-clause-senders c = on-ok _ _ c.send.result (λ put. λ script rules t J m.
    let task = c.args.self.now in
    let unit = c.unit.ensures.unit ∙ unit-here script rules t c.args.i task J c.args.d m in
    let made = join-made script rules t c.args.i task J c.args.d m c.in-Some.statement.now c.in-Some.ensures c.index.result.now c.join_head-head.result c.follower_packet-packet.result c.index.ensures c.join_head-head.ensures c.follower_packet-packet.ensures in
    put ∙ (λ k. with_follower (unit k) (Some (record { packet = made k; bytes = [] })) task.senders.items)) c.send.ensures.senders
