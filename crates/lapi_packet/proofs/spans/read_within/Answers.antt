use Rattle.std.proofs.Common.{◌-◌, ◌+◌, [], ◌∷◌, arith}
use Rattle.std.proofs.lemmas.List.{length-append}
use Rattle.lapi_base.specs.Packet.Format.{reading}
use Rattle.lapi_base.specs.Packet.Fields.{within_form, within_span, left_behind}
use Rattle.lapi_base.proofs.FormLists.{begins, goes_on, ends, is_done}
use Rattle.lapi_packet.proofs.spans.read_within.Goals as goal

pub loop-init : goal.loop-init
loop-init c = rw c.new-spans.ensures (record {
  reads = begins within_span left_behind c.args.most c.args.count (c.args.count - 0) c.args.bytes.now (omega arith);
  len = omega arith;
})

pub returns-in-Err : goal.returns-in-Err
returns-in-Err c = ends within_span left_behind c.loop.left (c.args.count - c.loop.counter) (c.args.count - (c.loop.counter + 1)) c.loop.spans c.loop.rest.now
    (c.in-Err.fault.left, c.in-Err.fault.reason) (reading (within_form c.args.most c.args.count) c.args.bytes.now) (omega arith) c.in-Err.ensures.read c.loop.invariant.reads

pub loop-preserved : goal.loop-preserved
loop-preserved c = rw c.push.ensures (record {
  reads = goes_on within_span left_behind c.loop.left (c.args.count - c.loop.counter) (c.args.count - (c.loop.counter + 1)) c.loop.spans c.loop.rest.now
      c.in-Ok.span c.in-Ok.after.now (reading (within_form c.args.most c.args.count) c.args.bytes.now) (omega arith) c.in-Ok.ensures.read c.loop.invariant.reads;
  len = omega (arith, length-append c.loop.spans (c.in-Ok.span ∷ []));
})

pub returns : goal.returns
returns c = is_done within_span left_behind c.loop.left (c.args.count - c.loop.counter) c.loop.spans c.loop.rest.now (reading (within_form c.args.most c.args.count) c.args.bytes.now) (omega arith) c.loop.invariant.reads
