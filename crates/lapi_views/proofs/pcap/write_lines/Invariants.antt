use Rattle.std.proofs.Common.{◌≡◌, ◌≤◌, drop, length}
use Rattle.std.specs.List.{flat_map, zip}
use Rattle.lapi_base.specs.Record.WorldView.{view_record}
use Rattle.lapi_views.specs.Pcap.{taken_records}
use Rattle.lapi_views.specs.Progress.{Progress}
use Rattle.lapi_views.proofs.pcap.write_lines.Given as goal

abbrev pub invariant-loop-n : goal.invariant-loop-n
invariant-loop-n g l = record {
  written :
      Progress (g.K.Sink.held l.fn.sink) (g.K.Sink.held l.sink) (flat_map (taken_records (view_record l.world) l.world.schedule) (zip l.taken l.replies)) (flat_map (taken_records (view_record l.world) l.world.schedule) (drop (length l.yielded) (zip l.taken l.replies)));
  later : g.K.Sink.faults l.fn.sink ≤ g.K.Sink.faults l.sink;
  room : g.K.Sink.room l.sink ≡ g.K.Sink.room l.fn.sink;
}
