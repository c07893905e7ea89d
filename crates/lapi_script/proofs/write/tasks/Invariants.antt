use Rattle.std.proofs.Common.{◌≡◌, ◌++◌, drop}
use Rattle.lapi_script.proofs.Texts.{tasks_text}
use Rattle.lapi_script.proofs.write.tasks.Given as goal

abbrev pub invariant-loop-list : goal.invariant-loop-list
invariant-loop-list l = record {
  text : l.out.items ++ tasks_text l.t (drop l.list-index l.lists) ≡ l.fn.out.items ++ tasks_text 0 l.lists;
  count : l.t ≡ l.list-index;
}
