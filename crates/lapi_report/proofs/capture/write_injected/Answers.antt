use Rattle.std.proofs.Common.{subst, sym}
use Rattle.std.proofs.lemmas.List.{append-nil}
use Rattle.lapi_base.specs.Output.CaptureBytes.{frame}
use Rattle.lapi_io.specs.Writes.{Writes}
use Rattle.lapi_report.proofs.capture.write_injected.Goals as goal

pub returns : goal.returns
returns g c =
    subst (λ text. Writes g.K.Sink.held g.K.Sink.faults g.K.Sink.room c.args.sink.now c.write_frame.new.sink text c.write_frame.result)
    (sym (append-nil (frame c.args.a c.args.b c.args.bytes.now)))
    c.write_frame.ensures
