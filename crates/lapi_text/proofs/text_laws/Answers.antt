use Rattle.lapi_text.proofs.Whole.{read_found, read_only, read_one, read_first, read_kind, read_long, written_reads, round_trip}
use Rattle.lapi_text.proofs.text_laws.Goals as goal

pub returns-clause-found : goal.returns-clause-found
returns-clause-found c = read_found

pub returns-clause-only : goal.returns-clause-only
returns-clause-only c = read_only

pub returns-clause-one_input : goal.returns-clause-one_input
returns-clause-one_input c = read_one

pub returns-clause-first : goal.returns-clause-first
returns-clause-first c = read_first

pub returns-clause-kind : goal.returns-clause-kind
returns-clause-kind c = read_kind

pub returns-clause-long : goal.returns-clause-long
returns-clause-long c = read_long

pub returns-clause-written : goal.returns-clause-written
returns-clause-written c = written_reads

pub returns-clause-round_trip : goal.returns-clause-round_trip
returns-clause-round_trip c = round_trip
