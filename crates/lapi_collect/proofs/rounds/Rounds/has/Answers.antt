use Rattle.std.proofs.Common.{◌≡◌, ◌≤◌, length, [], ap, sym, ◌∙◌, arith}
use Rattle.std.proofs.lemmas.Bool.{ltb-true, ltb-false}
use Rattle.lapi_collect.specs.Rounds.{joined}
use Rattle.lapi_collect.proofs.Joining.{in_table, joined_past, joined_unknown}
use Rattle.lapi_collect.proofs.rounds.Rounds.has.Goals as goal

pub returns-then-task-self : goal.returns-then-task-self
returns-then-task-self c =
    let rows = c.self.inside.rounds.items in
    let table = in_table c.self.inside.tasks rows c.args.self.now c.self.view_is in
    let same : c.len.result ≡ length rows = c.len.ensures ∙ c.self.inside.rounds.ok.0 in
    record {
      known = λ e. (omega (arith, table, c.if-task-self.true), (let lt = ltb-true c.args.round c.len.result e in omega (arith, table, same, lt)));
      none = λ e.
          ap (λ joins. joined joins c.args.task c.args.round) (sym c.self.view_is)
          ∙ joined_past c.self.inside.tasks rows c.args.task c.args.round (let ge = ltb-false c.args.round c.len.result e in omega (arith, same, ge));
    }

pub returns-else-task-self : goal.returns-else-task-self
returns-else-task-self c =
    let past : c.self.inside.tasks ≤ c.args.task = c.if-task-self.false in
    record {
      known = λ e. absurd (let lt = ltb-true c.args.task c.self.inside.tasks e in omega (arith, lt, past));
      none = λ _.
          ap (λ joins. joined joins c.args.task c.args.round) (sym c.self.view_is)
          ∙ joined_unknown c.self.inside.tasks c.self.inside.rounds.items c.args.task c.args.round (record { joined = 0; values = [] }) past;
    }
