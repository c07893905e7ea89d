use Rattle.std.proofs.Common.{◌≡◌, List, ◌++◌, OnOk, length, ap, sym, subst, ◌∙◌}
use Rattle.lapi_base.specs.declared.rule.Rules.{Rules}
use Rattle.lapi_base.specs.Record.Valid.{ValidRules}
use Rattle.lapi_base.specs.declared.schedule.Line.{Line}
use Rattle.lapi_base.specs.Record.WorldView.{WorldView, act_at}
use Rattle.lapi_views.specs.ChartParts.{Mark}
use Rattle.lapi_views.proofs.RunRows.{line_added, mark_counters, mark_wires}
use Rattle.lapi_views.proofs.chart.add_line.Goals as goal

pub add_rows-requires-clause-wires : goal.add_rows-requires-clause-wires
add_rows-requires-clause-wires g c =
    ap (λ (m : Mark). length m.entries) c.in_ok-before.ensures
    ∙ mark_wires _ _ _ _
    ∙ sym (ap (λ (v : WorldView). v.script.tasks) c.in_ok-take_line.ensures.world)

pub add_rows-requires-clause-counters : goal.add_rows-requires-clause-counters
add_rows-requires-clause-counters g c =
    ap (λ (m : Mark). length m.counters) c.in_ok-before.ensures
    ∙ mark_counters _ _ _ _
    ∙ sym (ap (λ (v : WorldView). v.script.counters) c.in_ok-take_line.ensures.world)

pub returns-clause-rows : goal.returns-clause-rows
returns-clause-rows g c =
    let told = c.told_at-task.ensures in
    subst (λ more. OnOk c.add_rows.result (c.add_rows.new.rows ≡ c.args.rows.now ++ more))
    (line_added c.packets_are_spelled.ensures.written c.records_go_on.ensures.taken c.spelling_laws.ensures.round_trip c.args.world.now _ c.args.n _ _ _ told.0 c.schedule.ensures.valid (subst (λ (x : Rules). ValidRules x) c.requires.rules c.rules_are_valid.ensures) (sym (ap (λ (xs : List Line). act_at xs c.args.n) c.schedule.ensures.same) ∙ told.1) told.2 told.3 c.in_ok-before.ensures c.in_ok-take_line.ensures.world)
    c.add_rows.ensures
