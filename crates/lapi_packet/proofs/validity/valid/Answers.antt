use Rattle.std.proofs.Common.{◌∙◌}
use Rattle.lapi_packet.proofs.Answering.{IsRaw, has_one, is_answer, has_none}
use Rattle.lapi_packet.proofs.Equality.{same_packet}
use Rattle.lapi_packet.proofs.validity.valid.Goals as goal

pub returns-in-Ok : goal.returns-in-Ok
returns-in-Ok c =
    let raw : IsRaw c.args.p.now c.as_slice.result.now = λ room. c.as_slice.ensures.items ∙ c.write.ensures room in
    let decides = same_packet c.in-Ok.packet c.args.p.now c.eq.result c.eq.ensures in (
      λ same. has_one c.in-Ok.packet c.args.p.now c.as_slice.result.now (decides.0 same) c.in-Ok.ensures.found,
      λ spelled. decides.1 (is_answer c.in-Ok.packet c.args.p.now c.as_slice.result.now raw c.decode.result c.in-Ok.is (c.decode.ensures.only c.args.p.now) spelled),
    )

pub returns-in-Err : goal.returns-in-Err
returns-in-Err c =
    let raw : IsRaw c.args.p.now c.as_slice.result.now = λ room. c.as_slice.ensures.items ∙ c.write.ensures room in (
      λ same. absurd cc,
      λ spelled. absurd (has_none c.in-Err.field-0 c.args.p.now c.as_slice.result.now raw c.decode.result c.in-Err.is (c.decode.ensures.only c.args.p.now) spelled),
    )
