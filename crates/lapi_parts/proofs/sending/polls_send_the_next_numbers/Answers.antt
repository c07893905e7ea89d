use Rattle.lapi_parts.proofs.SentFront.{sent-bound, polls-next}
use Rattle.lapi_parts.proofs.sending.polls_send_the_next_numbers.Goals as goal

pub returns-clause-bound : goal.returns-clause-bound
returns-clause-bound c = sent-bound

pub returns-clause-next : goal.returns-clause-next
returns-clause-next c = polls-next
