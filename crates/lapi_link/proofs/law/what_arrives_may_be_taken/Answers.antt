use Rattle.lapi_link.proofs.ArrivalLaws.{may-take, whole-is}
use Rattle.lapi_link.proofs.law.what_arrives_may_be_taken.Goals as goal

pub returns-clause-taken : goal.returns-clause-taken
returns-clause-taken c = may-take

pub returns-clause-whole : goal.returns-clause-whole
returns-clause-whole c = whole-is
