use Rattle.std.proofs.Common.{append_assoc}
use Rattle.lapi_report.proofs.head.add_rmw_go.Goals as goal

pub returns-clause-text : goal.returns-clause-text
returns-clause-text c =
    rw (
      c.add_counter.ensures.text,
      c.add_number-3.ensures.text,
      c.add_number-2.ensures.text,
      c.add_number.ensures.text,
      c.add_operation.ensures.text,
    ) (simp append_assoc)
