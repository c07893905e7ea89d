use Rattle.lapi_task.proofs.Stepping.FenceLaws.{clear-is}
use Rattle.lapi_task.proofs.task.Task.is_clear.Goals as goal

pub returns : goal.returns
returns c = λ script rules t r h. clear-is script rules t c.args.self.now.unfinished r c.args.self.now.state.next c.clear_before.result h.unfinished c.clear_before.ensures
