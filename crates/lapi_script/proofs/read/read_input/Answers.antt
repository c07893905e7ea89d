use Rattle.lapi_script.proofs.Onward.{gives_found, gives_only, gives_first}
use Rattle.lapi_script.proofs.read.read_input.Goals as goal

pub returns-clause-found : goal.returns-clause-found
returns-clause-found c = gives_found c.args.bytes.now c.read_lines.result (c.text_laws.ensures.found c.args.bytes.now) c.read_lines.ensures

pub returns-clause-only : goal.returns-clause-only
returns-clause-only c x few reads = gives_only x c.args.bytes.now c.read_lines.result (c.text_laws.ensures.only c.args.bytes.now x few reads) c.read_lines.ensures

pub returns-clause-first : goal.returns-clause-first
returns-clause-first c few = gives_first c.args.bytes.now c.read_lines.result (λ why l. c.text_laws.ensures.first c.args.bytes.now why l few) c.read_lines.ensures
