use Rattle.std.proofs.Common.{◌∙◌, sym}
use Rattle.lapi_base.specs.Packet.Spelling.{packet_form}
use Rattle.lapi_base.proofs.FormLaws.{answer_spelled, no_prefix}
use Rattle.lapi_packet.proofs.Lengths.{longest_of_layout}
use Rattle.lapi_base.proofs.Spellings.{spelling_is, one_packet}
use Rattle.lapi_packet.proofs.Faults.{cut_answer, refused_answer}
use Rattle.lapi_packet.proofs.LongestPacket.{longest_bytes, longest_layout, longest_length, longest_one, longest_spelled}
use Rattle.lapi_packet.proofs.laws.spelling_laws.Goals as goal

pub returns-clause-one_spelling : goal.returns-clause-one_spelling
returns-clause-one_spelling c = λ p a b s t. sym (spelling_is p a s) ∙ spelling_is p b t

pub returns-clause-one_packet : goal.returns-clause-one_packet
returns-clause-one_packet c = one_packet

pub returns-clause-round_trip : goal.returns-clause-round_trip
returns-clause-round_trip c = λ p bytes s. answer_spelled packet_form p bytes s

pub returns-clause-cut : goal.returns-clause-cut
returns-clause-cut c = λ p front more s some. cut_answer packet_form p front more s some

pub returns-clause-no_prefix : goal.returns-clause-no_prefix
returns-clause-no_prefix c = λ p q bytes more s t. no_prefix packet_form p q bytes more s t

pub returns-clause-one_fault : goal.returns-clause-one_fault
returns-clause-one_fault c = λ bytes bad s. refused_answer packet_form bytes bad s

pub returns-clause-longest : goal.returns-clause-longest
returns-clause-longest c = longest_of_layout

pub returns-clause-reached : goal.returns-clause-reached
returns-clause-reached c = λ layout. (longest_one layout, longest_bytes layout, longest_spelled layout, longest_layout layout, longest_length layout)
