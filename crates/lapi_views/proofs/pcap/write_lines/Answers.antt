use Rattle.std.proofs.Common.{◌≡◌, rules}
use Rattle.std.proofs.lemmas.List.{length_push}
use Rattle.std.proofs.lemmas.Slice.Zip.{zip_turn, zip_end}
use Rattle.std.specs.Slice.Iter.{iter_rest}
use Rattle.std.specs.Iterator.Adapters.{zip_first, zip_second}
use Rattle.lapi_base.specs.Record.WorldView.{view_record}
use Rattle.lapi_views.specs.Pcap.{taken_records}
use Rattle.lapi_views.proofs.Pairs.{pair_written, pair_stops, pairs_done}
use Rattle.lapi_views.proofs.Progress.{refused}
use Rattle.lapi_views.proofs.pcap.write_lines.Goals as goal

pub loop-n-preserved : goal.loop-n-preserved
loop-n-preserved g c =
    let first : iter_rest (zip_first c.into_iter-n-iterator.result) ≡ c.args.taken.now = search rules in
    let second : iter_rest (zip_second c.into_iter-n-iterator.result) ≡ c.args.replies.now = search rules in
    let turn = zip_turn _ _ _ _ _ c.next.new.self _ first second c.loop-n.yielded_by (c.in-Some.n, c.in-Some.reply) c.in-Some.is c.next.ensures.steps in
    record {
      written =
          rw (length_push c.loop-n.yielded (c.in-Some.n, c.in-Some.reply)) (
          pair_written (taken_records (view_record c.args.world.now) c.args.world.now.schedule) _ _ _ _ _ _ _ _ _ turn.0 turn.1 (turn.2 _) (turn.3 _) c.loop-n.invariant.written c.in_ok-write_line.ensures.text
          );
      later = search rules;
      room = search rules;
    }

pub returns-in_err-write_line : goal.returns-in_err-write_line
returns-in_err-write_line g c =
    let first : iter_rest (zip_first c.into_iter-n-iterator.result) ≡ c.args.taken.now = search rules in
    let second : iter_rest (zip_second c.into_iter-n-iterator.result) ≡ c.args.replies.now = search rules in
    let turn = zip_turn _ _ _ _ _ c.next.new.self _ first second c.loop-n.yielded_by (c.in-Some.n, c.in-Some.reply) c.in-Some.is c.next.ensures.steps in
    record {
      text = refused _ _ _ _ c.from_residual.ensures.0 (
          pair_stops (taken_records (view_record c.args.world.now) c.args.world.now.schedule) _ _ _ _ _ _ _ _ _ turn.0 turn.1 (turn.2 _) (turn.3 _) c.loop-n.invariant.written c.in_err-write_line.ensures.text
          );
      cause = search rules;
      room = search rules;
    }

pub returns : goal.returns
returns g c =
    let first : iter_rest (zip_first c.into_iter-n-iterator.result) ≡ c.args.taken.now = search rules in
    let second : iter_rest (zip_second c.into_iter-n-iterator.result) ≡ c.args.replies.now = search rules in
    let all = zip_end _ _ _ _ _ c.next.new.self _ first second c.loop-n.yielded_by c.in-None.is c.next.ensures.steps in
    record {
      text = pairs_done (taken_records (view_record c.args.world.now) c.args.world.now.schedule) _ _ _ _ _ _ all c.loop-n.invariant.written;
      cause = search rules;
      room = search rules;
    }
