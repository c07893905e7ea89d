use Rattle.std.proofs.Common.{arith}
use Rattle.lapi_packet.proofs.Lengths.{fault_near, rest_near}
use Rattle.lapi_packet.proofs.decoding.answer.Goals as goal

pub bad_at-requires-clause-within : goal.bad_at-requires-clause-within
bad_at-requires-clause-within c = (fault_near c.args.bytes.now c.in-Err.fault.left c.in-Err.fault.reason (λ i. omega (arith, c.type_inv.bytes i)) c.in-Err.ensures).0

pub bad_at-requires-clause-near : goal.bad_at-requires-clause-near
bad_at-requires-clause-near c =
    let near = (fault_near c.args.bytes.now c.in-Err.fault.left c.in-Err.fault.reason (λ i. omega (arith, c.type_inv.bytes i)) c.in-Err.ensures).1 in
    omega (arith, near)

pub bad_at-requires-else-is_empty-clause-within : goal.bad_at-requires-else-is_empty-clause-within
bad_at-requires-else-is_empty-clause-within c = (rest_near c.args.bytes.now c.in-Ok.packet c.in-Ok.rest.now (λ i. omega (arith, c.type_inv.bytes i)) c.in-Ok.ensures).0

pub bad_at-requires-else-is_empty-clause-near : goal.bad_at-requires-else-is_empty-clause-near
bad_at-requires-else-is_empty-clause-near c =
    let near = (rest_near c.args.bytes.now c.in-Ok.packet c.in-Ok.rest.now (λ i. omega (arith, c.type_inv.bytes i)) c.in-Ok.ensures).1 in
    omega (arith, near)
