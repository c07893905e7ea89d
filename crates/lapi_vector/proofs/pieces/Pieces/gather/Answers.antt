use Rattle.std.proofs.Common.{rules, ◌≡◌, [], ◌++◌, ◌<◌, length, get_or, sym, ap, ◌∙◌, arith}
use Rattle.std.proofs.lemmas.List.{take_all}
use Rattle.std.specs.List.{flat_map}
use Rattle.lapi_base.specs.declared.span.Span.{Span}
use Rattle.lapi_memory.specs.TaskMemory.{bytes_at}
use Rattle.lapi_vector.proofs.Steps.{this_piece, piece_read, piece_gathered, nothing_gathered}
use Rattle.lapi_vector.proofs.pieces.Pieces.gather.Goals as goal

pub loop-span-init : goal.loop-span-init
loop-span-init c =
    let none : c.in_ok-bytes.bytes.items ≡ [] = search rules in
    record { pieces = none; source = λ memories t same. none ∙ sym (nothing_gathered memories t) }

pub loop-span-preserved : goal.loop-span-preserved
loop-span-preserved c =
    let spans = c.args.self.now.spans in
    let i = c.loop-span.span-index in
    let lt : i < length spans = search rules in
    let p : Span = get_or c.spans-span-items.result.now i (record { at = 0; len = 0 }) in
    let this : p ≡ get_or spans i p = this_piece c.spans-span-items.result.now spans i (record { at = 0; len = 0 }) c.spans-span-items.ensures.items lt in
    let more : c.extend_from_slice.new.self.items ≡ c.loop-span.bytes.items ++ c.read.result.now = search rules in
    record {
      pieces = piece_read c.args.memory.now c.loop-span.bytes.items c.extend_from_slice.new.self.items c.read.result.now spans i p lt this more c.read.ensures.bytes c.loop-span.invariant.pieces;
      source = λ memories t same. piece_gathered memories t c.loop-span.bytes.items c.extend_from_slice.new.self.items c.read.result.now spans i p lt this more (c.read.ensures.source memories t same) (c.loop-span.invariant.source memories t same);
    }

pub returns-clause-pieces : goal.returns-clause-pieces
returns-clause-pieces c =
    let spans = c.args.self.now.spans in
    let len = ap (length {A = Span}) c.spans-span-items.ensures.items in
    c.from.ensures ∙ c.loop-span.invariant.pieces ∙ ap (flat_map (λ p. bytes_at c.args.memory.now p.at p.len)) (take_all c.loop-span.span-index spans (omega (arith, len, c.loop-span-test.false)))
