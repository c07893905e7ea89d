use Rattle.std.proofs.Common.{rules, ◌≡◌, ◌<◌, ◌≤◌, length, get_or, sym, ◌∙◌}
use Rattle.lapi_base.specs.declared.span.Span.{Span}
use Rattle.lapi_vector.proofs.Steps.{this_piece, rest_left, piece_written, byte_written, all_written, all_bytes_written}
use Rattle.lapi_vector.proofs.pieces.Pieces.scatter.Goals as goal

pub loop-span-preserved : goal.loop-span-preserved
loop-span-preserved c =
    let spans = c.args.self.now.spans in
    let i = c.loop-span.span-index in
    let lt : i < length spans = search rules in
    let p : Span = get_or c.spans-span-items.result.now i (record { at = 0; len = 0 }) in
    let this : p ≡ get_or spans i p = this_piece c.spans-span-items.result.now spans i (record { at = 0; len = 0 }) c.spans-span-items.ensures.items lt in
    record {
      size = c.write.ensures.size ∙ c.loop-span.invariant.size;
      left = rest_left c.loop-span.rest.now c.split_at.result.1.now spans i p lt this c.split_at.ensures.back_len c.loop-span.invariant.left;
      writes = c.loop-span.invariant.writes ∙ piece_written c.loop-span.memory c.write.new.self c.loop-span.rest.now c.split_at.result.0.now c.split_at.result.1.now spans i p lt this c.split_at.ensures.front c.split_at.ensures.back c.write.ensures.all;
      byte = λ x. c.loop-span.invariant.byte x ∙ byte_written (get_or c.loop-span.memory x 0) (get_or c.write.new.self x 0) x c.loop-span.rest.now c.split_at.result.0.now c.split_at.result.1.now spans i p lt this c.split_at.ensures.front c.split_at.ensures.back (c.write.ensures.byte x);
    }

pub returns-clause-writes : goal.returns-clause-writes
returns-clause-writes c =
    let past : length c.args.self.now.spans ≤ c.loop-span.span-index = search rules in
    sym (c.loop-span.invariant.writes ∙ all_written c.loop-span.memory c.loop-span.rest.now c.args.self.now.spans c.loop-span.span-index past)

pub returns-clause-byte : goal.returns-clause-byte
returns-clause-byte c = λ x.
    let past : length c.args.self.now.spans ≤ c.loop-span.span-index = search rules in
    sym (c.loop-span.invariant.byte x ∙ all_bytes_written x _ c.loop-span.rest.now c.args.self.now.spans c.loop-span.span-index past)
