use Rattle.std.proofs.Common.{rules}
use Rattle.lapi_base.specs.Record.Refusals.{first_reason}
use Rattle.lapi_vector.proofs.Vectors.{why_of_sides}
use Rattle.lapi_vector.proofs.pieces.Pieces.check.Goals as goal

pub returns-then-to-from-clause-sides : goal.returns-then-to-from-clause-sides
unfolding first_reason
returns-then-to-from-clause-sides c = search rules

pub returns-then-to-from-clause-vectors : goal.returns-then-to-from-clause-vectors
returns-then-to-from-clause-vectors c = why_of_sides _ c.args.tgt.now c.args.org.now (returns-then-to-from-clause-sides c)

pub returns-then-lengths_differ-clause-sides : goal.returns-then-lengths_differ-clause-sides
unfolding first_reason
returns-then-lengths_differ-clause-sides c = search rules

pub returns-then-lengths_differ-clause-vectors : goal.returns-then-lengths_differ-clause-vectors
returns-then-lengths_differ-clause-vectors c = why_of_sides _ c.args.tgt.now c.args.org.now (returns-then-lengths_differ-clause-sides c)

pub returns-then-tgt-clause-sides : goal.returns-then-tgt-clause-sides
unfolding first_reason
returns-then-tgt-clause-sides c = search rules

pub returns-then-tgt-clause-vectors : goal.returns-then-tgt-clause-vectors
returns-then-tgt-clause-vectors c = why_of_sides _ c.args.tgt.now c.args.org.now (returns-then-tgt-clause-sides c)

pub returns-clause-sides : goal.returns-clause-sides
unfolding first_reason
returns-clause-sides c = search rules

pub returns-clause-vectors : goal.returns-clause-vectors
returns-clause-vectors c = why_of_sides _ c.args.tgt.now c.args.org.now (returns-clause-sides c)
