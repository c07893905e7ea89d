use Rattle.std.proofs.Common.{◌∙◌, arith}
use Rattle.lapi_base.specs.Packet.Spelling.{packet_form}
use Rattle.lapi_base.proofs.FormLaws.{answer_spelled}
use Rattle.lapi_packet.proofs.Answering.{found_if, refused_if}
use Rattle.lapi_packet.proofs.decoding.decode.Goals as goal

pub returns-clause-found : goal.returns-clause-found
returns-clause-found c = found_if c.answer.result c.args.bytes.now (λ i. omega (arith, c.type_inv.bytes i)) c.answer.ensures

pub returns-clause-only : goal.returns-clause-only
returns-clause-only c = λ p s. c.answer.ensures ∙ answer_spelled packet_form p c.args.bytes.now s

pub returns-clause-refused : goal.returns-clause-refused
returns-clause-refused c = refused_if c.answer.result c.args.bytes.now (λ i. omega (arith, c.type_inv.bytes i)) c.answer.ensures
