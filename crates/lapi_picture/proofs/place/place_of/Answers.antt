use Rattle.std.proofs.Common.{sym, ◌∙◌}
use Rattle.lapi_picture.proofs.EachRow.{is_found, is_passed, none_left}
use Rattle.lapi_picture.proofs.place.place_of.Goals as goal

pub returns-then-is-clause-place : goal.returns-then-is-clause-place
returns-then-is-clause-place c = sym (c.loop-j.invariant ∙ is_found c.args.wanted c.loop-j.j c.args.rows.now _ c.loop-j-test.true (sym c.is.ensures ∙ c.if-is.true))

pub loop-j-preserved : goal.loop-j-preserved
loop-j-preserved c = c.loop-j.invariant ∙ is_passed c.args.wanted c.loop-j.j c.args.rows.now _ c.loop-j-test.true (sym c.is.ensures ∙ c.if-is.false)

pub returns-clause-place : goal.returns-clause-place
returns-clause-place c = sym (c.loop-j.invariant ∙ none_left c.args.wanted c.loop-j.j c.args.rows.now c.loop-j-test.false)
