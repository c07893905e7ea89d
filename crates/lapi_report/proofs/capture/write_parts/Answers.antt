use Rattle.std.proofs.Common.{rules, sym}
use Rattle.std.specs.List.{zip}
use Rattle.lapi_base.specs.Output.CaptureBytes.{capture_of, capture_taken}
use Rattle.lapi_base.specs.Record.WorldView.{view_record}
use Rattle.lapi_report.proofs.Frames.{taken_lines}
use Rattle.lapi_report.proofs.Progress.{refused, stops_early, stops_later, then_wrote}
use Rattle.lapi_report.proofs.capture.write_parts.Goals as goal

pub returns-in_err-write_all : goal.returns-in_err-write_all
unfolding capture_taken capture_of
returns-in_err-write_all g c = record {
  text = refused _ _ _ _ c.from_residual.ensures.0 (stops_early _ _ _ _ c.in_err-write_all.ensures.text);
  cause = search rules;
  room = search rules;
}

pub returns-in_err-write_lines : goal.returns-in_err-write_lines
unfolding capture_taken capture_of
returns-in_err-write_lines g c =
    let lines = rw (c.taken.ensures, c.replies.ensures c.requires, sym (taken_lines (view_record c.args.world.now) c.args.world.now.schedule (zip c.args.world.now.taken (view_record c.args.world.now).replies))) at c.in_err-write_lines.ensures.text in
    record {
      text = refused _ _ _ _ c.from_residual-in_err-write_lines.ensures.0 (stops_later _ _ _ _ _ c.in_ok-write_all.ensures.text (stops_early _ _ _ _ lines));
      cause = search rules;
      room = search rules;
    }

pub returns : goal.returns
unfolding capture_taken capture_of
returns g c =
    let lines = rw (c.taken.ensures, c.replies.ensures c.requires, sym (taken_lines (view_record c.args.world.now) c.args.world.now.schedule (zip c.args.world.now.taken (view_record c.args.world.now).replies))) at c.in_ok-write_lines.ensures.text in
    record {
      text = then_wrote _ _ _ _ _ _ c.in_ok-write_all.ensures.text (then_wrote _ _ _ _ _ _ lines c.write_all-2.ensures.text);
      cause = search rules;
      room = search rules;
    }
