use Rattle.std.proofs.Common.{rules, ◌<◌, ◌≤◌, ◌+◌, sym, ap, ◌∙◌, subst}
use Rattle.std.specs.Prelude.{length}
use Rattle.lapi_base.specs.declared.rule.Rules.{Rules}
use Rattle.lapi_base.specs.Record.Counters.{reads}
use Rattle.lapi_base.specs.Record.Operations.{statements}
use Rattle.lapi_base.specs.Record.Refusals.{refusals}
use Rattle.lapi_base.specs.Record.WorldView.{view_record}
use Rattle.lapi_base.specs.Laws.Rising.{RiseFrom}
use Rattle.lapi_base.specs.Output.ReportText.{statement_text}
use Rattle.lapi_report.specs.OfStatements.{said_of, from_on}
use Rattle.lapi_report.proofs.Progress.{starts, refused}
use Rattle.lapi_report.proofs.Numbers.{number_written, number_stops, numbers_done}
use Rattle.lapi_report.proofs.OfStatements.{all_from, from_rises, from_next, statement_told}
use Rattle.lapi_report.proofs.task.write_statements.Goals as goal

pub loop-s-init : goal.loop-s-init
loop-s-init g c =
    let w = c.args.world.now in
    let J = (view_record w).journal in
    let at = c.task-task.ensures c.requires.spent in
    let rise = c.statements_rise.ensures w.script w.rules (view_record w) at.recorded c.args.t in
    let reads-rise = rise.1 in
    let read = c.reads-reads.ensures w.script w.rules c.args.t (view_record w) at.stands in
    record {
      written = starts _ _;
      refused = c.refusals-refusals.ensures w.script w.rules c.args.t (view_record w) at.stands ∙ sym (all_from (refusals J c.args.t) rise.0);
      read = read ∙ sym (all_from (reads w.script w.rules J c.args.t) reads-rise);
      later = search rules;
      room = search rules;
    }

pub take_at-why-requires : goal.take_at-why-requires
take_at-why-requires g c =
    let w = c.args.world.now in
    let at = c.task-task.ensures c.requires.spent in
    let rise = c.statements_rise.ensures w.script w.rules (view_record w) at.recorded c.args.t in
    subst (RiseFrom c.loop-s.s) (sym c.loop-s.invariant.refused) (from_rises 0 c.loop-s.s (refusals (view_record w).journal c.args.t) rise.0)

pub take_at-value-requires : goal.take_at-value-requires
take_at-value-requires g c =
    let w = c.args.world.now in
    let J = (view_record w).journal in
    let at = c.task-task.ensures c.requires.spent in
    let rise = c.statements_rise.ensures w.script w.rules (view_record w) at.recorded c.args.t in
    let reads-rise = rise.1 in
    subst (RiseFrom c.loop-s.s) (sym c.loop-s.invariant.read) (from_rises 0 c.loop-s.s (reads w.script w.rules J c.args.t) reads-rise)

pub returns-in_err-write_statement : goal.returns-in_err-write_statement
returns-in_err-write_statement g c =
    let w = c.args.world.now in
    let J = (view_record w).journal in
    let lt : c.loop-s.s < length (statements w.script c.args.t) = search rules in
    let told = statement_told c.args.t c.loop-s.s (refusals J c.args.t) (reads w.script w.rules J c.args.t) c.take_at-why.result.0 c.take_at-value.result.0
    (c.take_at-why.ensures.said ∙ ap (said_of c.loop-s.s) c.loop-s.invariant.refused) (c.take_at-value.ensures.said ∙ ap (said_of c.loop-s.s) c.loop-s.invariant.read) in
    record {
      text = refused _ _ _ _ c.from_residual.ensures.0 (number_stops (statement_text c.args.t (refusals J c.args.t) (reads w.script w.rules J c.args.t)) _ _ _ _ _ _ lt c.loop-s.invariant.written (rw told at c.in_err-write_statement.ensures.text));
      cause = search rules;
      room = search rules;
    }

pub loop-s-preserved : goal.loop-s-preserved
loop-s-preserved g c =
    let w = c.args.world.now in
    let J = (view_record w).journal in
    let lt : c.loop-s.s < length (statements w.script c.args.t) = search rules in
    let told = statement_told c.args.t c.loop-s.s (refusals J c.args.t) (reads w.script w.rules J c.args.t) c.take_at-why.result.0 c.take_at-value.result.0
    (c.take_at-why.ensures.said ∙ ap (said_of c.loop-s.s) c.loop-s.invariant.refused) (c.take_at-value.ensures.said ∙ ap (said_of c.loop-s.s) c.loop-s.invariant.read) in
    record {
      written = number_written (statement_text c.args.t (refusals J c.args.t) (reads w.script w.rules J c.args.t)) _ _ _ _ _ _ lt c.loop-s.invariant.written (rw told at c.in_ok-write_statement.ensures.text);
      refused = c.take_at-why.ensures.later ∙ ap (from_on (c.loop-s.s + 1)) c.loop-s.invariant.refused ∙ from_next c.loop-s.s (refusals J c.args.t);
      read = c.take_at-value.ensures.later ∙ ap (from_on (c.loop-s.s + 1)) c.loop-s.invariant.read ∙ from_next c.loop-s.s (reads w.script w.rules J c.args.t);
      later = search rules;
      room = search rules;
    }

pub returns : goal.returns
returns g c =
    let w = c.args.world.now in
    let J = (view_record w).journal in
    let ge : length (statements w.script c.args.t) ≤ c.loop-s.s = search rules in
    record {
      text = numbers_done (statement_text c.args.t (refusals J c.args.t) (reads w.script w.rules J c.args.t)) _ _ _ _ _ ge c.loop-s.invariant.written;
      cause = search rules;
      room = search rules;
    }
