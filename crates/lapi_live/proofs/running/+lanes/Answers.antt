use borrow.Author.Rules.{rules}
use Rattle.std.proofs.Common.{sym, subst}
use Rattle.std.proofs.lemmas.Result.{IfOk-at_ok}
use Rattle.lapi_live.specs.Running.{MayRun, HasRun}
use Rattle.lapi_live.proofs.Splitting.{may_split, may_first, may_rest, has_run}
use Rattle.lapi_live.proofs.running.+lanes.Goals as goal

pub split_pass-mine-requires-clause-lanes : goal.split_pass-mine-requires-clause-lanes
split_pass-mine-requires-clause-lanes g t c =
    let may = subst (MayRun c.args.turn.now c.args.kinds.now c.args.pass) c.in-Some.ensures.cases.0 c.requires.may in
    may_split c.args.turn.now c.args.kinds.now c.args.pass c.in-Some.first.now c.in-Some.rest.now c.mask_of.result may c.mask_of.ensures

pub join-one-requires-after_bounds : goal.join-one-requires-after_bounds
join-one-requires-after_bounds g t c κs = λ bounds.
    let may = subst (MayRun c.args.turn.now c.args.kinds.now c.args.pass) c.in-Some.ensures.cases.0 c.requires.may in
    let s = c.split_pass-mine.ensures in
    let first = may_first c.args.turn.now c.args.kinds.now c.args.pass c.in-Some.first.now c.in-Some.rest.now c.mask_of.result may c.mask_of.ensures c.split_pass-mine.result s.passes.1 s.seen.1 s.given in
    let rest = may_rest c.args.turn.now c.args.kinds.now c.args.pass c.in-Some.first.now c.in-Some.rest.now c.mask_of.result may c.mask_of.ensures c.split_pass-mine.new.pass s.passes.0 s.seen.0 s.left in (
      (search rules, c.requires.called c.split_pass-mine.result c.in-Some.first first),
      (search rules, (search rules, (search rules, ((search rules, search rules, c.requires.called, c.requires.runs, rest), (search rules, search rules))))),
    )

pub join_passes-requires-clause-other : goal.join_passes-requires-clause-other
join_passes-requires-clause-other g t c =
    let may = subst (MayRun c.args.turn.now c.args.kinds.now c.args.pass) c.in-Some.ensures.cases.0 c.requires.may in
    let s = c.split_pass-mine.ensures in
    let first = may_first c.args.turn.now c.args.kinds.now c.args.pass c.in-Some.first.now c.in-Some.rest.now c.mask_of.result may c.mask_of.ensures c.split_pass-mine.result s.passes.1 s.seen.1 s.given in
    let ran = c.requires.runs c.split_pass-mine.result c.in-Some.first c.join-one.result.0 first c.join-one.ensures.first in
    (IfOk-at_ok (HasRun c.args.turn.now _ c.split_pass-mine.result) c.in_ok-one.was ran).stays.0

pub returns : goal.returns
returns g t c =
    let may = subst (MayRun c.args.turn.now c.args.kinds.now c.args.pass) c.in-Some.ensures.cases.0 c.requires.may in
    let s = c.split_pass-mine.ensures in
    let first = may_first c.args.turn.now c.args.kinds.now c.args.pass c.in-Some.first.now c.in-Some.rest.now c.mask_of.result may c.mask_of.ensures c.split_pass-mine.result s.passes.1 s.seen.1 s.given in
    let ran = IfOk-at_ok (HasRun c.args.turn.now _ c.split_pass-mine.result) c.in_ok-one.was (c.requires.runs c.split_pass-mine.result c.in-Some.first c.join-one.result.0 first c.join-one.ensures.first) in
    let others = IfOk-at_ok (HasRun c.args.turn.now _ c.split_pass-mine.new.pass) c.in_ok-others.was c.join-one.ensures.second in
    let j = c.join_passes.ensures in
    subst (λ set. HasRun c.args.turn.now set c.args.pass c.join_passes.result) (sym c.in-Some.ensures.cases.0)
    (has_run c.args.turn.now c.args.kinds.now c.args.pass c.in-Some.first.now c.in-Some.rest.now c.mask_of.result may c.mask_of.ensures c.split_pass-mine.result c.split_pass-mine.new.pass c.in_ok-one.one c.in_ok-others.others c.join_passes.result s.seen.1 s.seen.0 s.given s.left ran others j.pass j.lanes j.goes_on.0 j.goes_on.1)
