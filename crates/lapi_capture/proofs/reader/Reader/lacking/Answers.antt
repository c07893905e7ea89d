use Rattle.std.proofs.Common.{ap, ◌∙◌, arith}
use Rattle.std.proofs.lemmas.Bool.Decides.{nat_tests}
use Rattle.std.specs.List.{fold}
use Rattle.lapi_capture.specs.Steps.{byte}
use Rattle.lapi_capture.proofs.Together.{taken_together}
use Rattle.lapi_capture.proofs.reader.Reader.lacking.Goals as goal

pub returns-clause-same : goal.returns-clause-same
returns-clause-same c =
    ap (λ r. fold byte r c.split_at.result.1.now) c.in_ok-further.ensures
    ∙ taken_together c.args.self.now c.split_at.result.0.now c.split_at.result.1.now c.args.bytes.now c.requires.stage c.requires.front (grind (arith, nat_tests)) (grind (arith, nat_tests)) c.split_at.ensures.by_index.0
