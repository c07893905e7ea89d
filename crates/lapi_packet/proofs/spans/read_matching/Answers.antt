use Rattle.std.proofs.Common.{◌≡◌, ℕ, ◌-◌, ◌++◌, Ok, Err, subst, ◌+◌, List, [], ◌∷◌, length, drop, arith}
use Rattle.std.proofs.lemmas.List.{length-append}
use Rattle.lapi_base.specs.Packet.Format.{reading, repeated}
use Rattle.lapi_base.specs.Packet.Fields.{matching_form, matching_span, behind}
use Rattle.lapi_base.specs.declared.reply.Reason.{Reason}
use Rattle.lapi_base.specs.declared.span.Span.{Span}
use Rattle.lapi_packet.proofs.MatchingSpans.{span_at, behind_at}
use Rattle.lapi_base.proofs.FormLists.{with_front, begins, goes_on, ends, is_done}
use Rattle.lapi_packet.proofs.spans.read_matching.Goals as goal

pub loop-other-init : goal.loop-other-init
loop-other-init c = rw c.new-spans.ensures (record {
  reads = begins matching_span behind c.args.others.now (length c.args.others.now) (length c.args.others.now - 0) c.args.bytes.now (omega arith);
  len = omega arith;
})

pub returns-in-Err : goal.returns-in-Err
returns-in-Err c =
    let i = c.loop-other.other-index in
    let following = length c.args.others.now - (i + 1) in
    let fault : ℕ × Reason = (c.in-Err.fault.left, c.in-Err.fault.reason) in
    let here = span_at c.args.others.now i following (record { at = 0; len = 0 }) c.loop-other.rest.now (Err fault) c.loop-other-test.true c.in-Err.ensures.read in
    ends matching_span behind (drop i c.args.others.now) (length c.args.others.now - i) following c.loop-other.spans c.loop-other.rest.now
    fault (reading (matching_form c.args.others.now) c.args.bytes.now) (omega arith) here c.loop-other.invariant.reads

pub loop-other-preserved : goal.loop-other-preserved
loop-other-preserved c =
    let i = c.loop-other.other-index in
    let none : Span = record { at = 0; len = 0 } in
    let following = length c.args.others.now - (i + 1) in
    let total = reading (matching_form c.args.others.now) c.args.bytes.now in
    let here = span_at c.args.others.now i following none c.loop-other.rest.now (Ok (c.in-Ok.span, c.in-Ok.after.now)) c.loop-other-test.true c.in-Ok.ensures.read in
    let next = goes_on matching_span behind (drop i c.args.others.now) (length c.args.others.now - i) following c.loop-other.spans c.loop-other.rest.now
    c.in-Ok.span c.in-Ok.after.now total (omega arith) here c.loop-other.invariant.reads in
    let moved = behind_at c.args.others.now i c.in-Ok.span none c.loop-other-test.true in
    rw c.push.ensures (record {
      reads = subst (λ (l : List Span). with_front (c.loop-other.spans ++ c.in-Ok.span ∷ []) (reading (repeated matching_span behind l following) c.in-Ok.after.now) ≡ total) moved next;
      len = omega (arith, length-append c.loop-other.spans (c.in-Ok.span ∷ []));
    })

pub returns : goal.returns
returns c = is_done matching_span behind (drop c.loop-other.other-index c.args.others.now) (length c.args.others.now - c.loop-other.other-index) c.loop-other.spans c.loop-other.rest.now (reading (matching_form c.args.others.now) c.args.bytes.now) (omega arith) c.loop-other.invariant.reads
