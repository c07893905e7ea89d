use Rattle.std.proofs.Common.{◌≡◌, ◌<◌, ℕ, length}
use Rattle.std.specs.Prelude.{slice_get}
use Rattle.lapi_base.specs.declared.rule.Rules.{Rules}
use Rattle.lapi_base.specs.Record.Wires.{start}
use Rattle.lapi_world.specs.Stands.{HaveRules, TaskAt}
use Rattle.lapi_world.proofs.network.new_tasks.Given as goal

abbrev pub invariant-loop-t : goal.invariant-loop-t
invariant-loop-t l = record {
  count : length l.tasks.items ≡ l.t;
  stand : (rules : Rules) → HaveRules rules l.header_count → (t : ℕ) → t < l.t → TaskAt l.script rules start t (slice_get l.tasks.items t);
}
