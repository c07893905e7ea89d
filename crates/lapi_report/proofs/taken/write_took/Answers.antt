use Rattle.std.proofs.Common.{◌≡◌, ◌++◌, rules}
use Rattle.std.specs.Prelude.{codes}
use Rattle.std.specs.Fmt.{decimal}
use Rattle.lapi_report.proofs.ScheduleLines.{took_first}
use Rattle.lapi_report.proofs.Progress.{refused, stops_early, with_more, last_piece}
use Rattle.lapi_report.proofs.taken.write_took.Goals as goal

pub returns-in_err-add_act : goal.returns-in_err-add_act
returns-in_err-add_act g c =
    let begun : c.text.new.self ≡ codes "took " ++ decimal c.args.line.now.lane ++ codes " " = search rules in
    let act = rw (took_first c.args.line.now _ begun) at c.in_err-add_act.ensures.written.text in
    record {
      text = refused _ _ _ _ c.from_residual.ensures.0 (stops_early _ _ _ _ act);
      cause = search rules;
      room = search rules;
    }

pub returns : goal.returns
returns g c =
    let begun : c.text.new.self ≡ codes "took " ++ decimal c.args.line.now.lane ++ codes " " = search rules in
    let act = rw (took_first c.args.line.now _ begun) at c.in_ok-add_act.ensures.written.text in
    let whole = rw (c.text-2.ensures) at c.write.ensures.text in
    record {
      text = last_piece _ _ _ _ _ _ (with_more _ _ _ _ _ act) whole;
      cause = search rules;
      room = search rules;
    }
