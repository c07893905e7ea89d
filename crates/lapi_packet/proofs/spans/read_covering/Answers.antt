use Rattle.std.proofs.Common.{◌-◌, ◌+◌, [], ◌∷◌, arith}
use Rattle.std.proofs.lemmas.List.{length-append}
use Rattle.lapi_base.specs.Packet.Format.{reading}
use Rattle.lapi_base.specs.Packet.Fields.{covering_form, covering_span, left_behind}
use Rattle.lapi_base.proofs.FormLists.{begins, goes_on, ends, is_done}
use Rattle.lapi_packet.proofs.spans.read_covering.Goals as goal

pub loop-i-init : goal.loop-i-init
loop-i-init c = rw c.new-spans.ensures (record {
  reads = begins covering_span left_behind c.args.total c.args.count (c.args.count - 0) c.args.bytes.now (omega arith);
  len = omega arith;
})

pub returns-in-Err : goal.returns-in-Err
returns-in-Err c = ends covering_span left_behind c.loop-i.left (c.args.count - c.loop-i.i) (c.args.count - (c.loop-i.i + 1)) c.loop-i.spans c.loop-i.rest.now
    (c.in-Err.fault.left, c.in-Err.fault.reason) (reading (covering_form c.args.total c.args.count) c.args.bytes.now) (omega arith)
    (rw c.least_of-least.ensures at c.in-Err.ensures.read) c.loop-i.invariant.reads

pub loop-i-preserved : goal.loop-i-preserved
loop-i-preserved c = rw c.push.ensures (record {
  reads = goes_on covering_span left_behind c.loop-i.left (c.args.count - c.loop-i.i) (c.args.count - (c.loop-i.i + 1)) c.loop-i.spans c.loop-i.rest.now
      c.in-Ok.span c.in-Ok.after.now (reading (covering_form c.args.total c.args.count) c.args.bytes.now) (omega arith)
      (rw c.least_of-least.ensures at c.in-Ok.ensures.read) c.loop-i.invariant.reads;
  len = omega (arith, length-append c.loop-i.spans (c.in-Ok.span ∷ []));
})

pub returns : goal.returns
returns c = is_done covering_span left_behind c.loop-i.left (c.args.count - c.loop-i.i) c.loop-i.spans c.loop-i.rest.now (reading (covering_form c.args.total c.args.count) c.args.bytes.now) (omega arith) c.loop-i.invariant.reads
