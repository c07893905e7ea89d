use Rattle.lapi_parts.proofs.Receivable.{sent-numbers, acked-sent}
use Rattle.lapi_parts.proofs.SentFront.{sent-front}
use Rattle.lapi_parts.proofs.sending.numbers_go_out_in_order.Goals as goal

pub returns-clause-front : goal.returns-clause-front
returns-clause-front c = sent-front

pub returns-clause-numbers : goal.returns-clause-numbers
returns-clause-numbers c = sent-numbers

pub returns-clause-acked : goal.returns-clause-acked
returns-clause-acked c = acked-sent
