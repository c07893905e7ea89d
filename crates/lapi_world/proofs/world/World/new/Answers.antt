use Rattle.std.proofs.Common.{sym, subst, ◌∙◌}
use Rattle.lapi_base.specs.declared.rule.Rules.{Rules}
use Rattle.lapi_base.specs.Record.WorldView.{record_at}
use Rattle.lapi_base.specs.Record.Valid.{ValidRules}
use Rattle.lapi_handlers.specs.Handlers.{rules_of}
use Rattle.lapi_world.specs.Stands.{Stands}
use Rattle.lapi_world.proofs.WorldLaws.{first-stands, first-replies}
use Rattle.lapi_world.proofs.world.World.new.Goals as goal

pub invariant_of-result : goal.invariant_of-result
invariant_of-result g c =
    let rules = rules_of c.args.handlers.now in
    let same = sym c.in_ok-rules.ensures.copy in
    let valid = c.in_ok-rules.ensures.valid in
    let first = c.in_ok-network.ensures rules (valid, sym c.header_count.ensures.count) in
    record {
      script_performed = c.requires.script;
      rules_valid = subst ValidRules same valid;
      schedule_valid = c.requires.schedule;
      task_count = first.task_count;
      stands = λ _.
          subst (λ (x : Rules). Stands c.args.script x c.in_ok-network.network (record_at c.args.script x c.args.schedule c.new-2.result)) same
          (first-stands c.args.script rules c.args.schedule c.in_ok-network.network c.new-2.result c.new-2.ensures first);
      answers = λ _. c.new-3.ensures ∙ first-replies c.args.script c.in_ok-rules.rules c.args.schedule c.new-2.result c.new-2.ensures;
    }
