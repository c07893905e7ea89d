use Rattle.std.proofs.Common.{rules, ◌<◌, length, set, Some, cond, ◌&&◌, ◌==◌, ap, sym, ◌∙◌, arith}
use Rattle.std.proofs.lemmas.List.{length-set}
use Rattle.lapi_collect.specs.Rounds.{joins_of, joined}
use Rattle.lapi_collect.proofs.Joining.{in_table, length-joins, joined_more, still_rounds, with_join}
use Rattle.lapi_collect.proofs.rounds.Rounds.join.Goals as goal

pub index_mut-row-requires : goal.index_mut-row-requires
index_mut-row-requires c =
    let table = in_table c.self.inside.tasks c.self.inside.rounds.items c.args.self.now c.self.view_is in
    let known = c.requires.known in
    let lt : c.args.round < length c.self.inside.rounds.items = omega (arith, table, known) in
    search (rules, lt)

pub overflow_cast-row : goal.overflow_cast-row
overflow_cast-row c =
    let table = in_table c.self.inside.tasks c.self.inside.rounds.items c.args.self.now c.self.view_is in
    omega (arith, table, c.requires.known, c.self.invariant.few)

pub overflow_shl-row : goal.overflow_shl-row
overflow_shl-row c =
    let table = in_table c.self.inside.tasks c.self.inside.rounds.items c.args.self.now c.self.view_is in
    omega (arith, table, c.requires.known, c.self.invariant.few)

pub bounds-row-task : goal.bounds-row-task
bounds-row-task c =
    let table = in_table c.self.inside.tasks c.self.inside.rounds.items c.args.self.now c.self.view_is in
    omega (arith, table, c.requires.known, c.self.invariant.few)

pub invariant_of-self : goal.invariant_of-self
invariant_of-self c =
    let table = in_table c.self.inside.tasks c.self.inside.rounds.items c.args.self.now c.self.view_is in
    let known : c.args.task < c.self.inside.tasks = omega (arith, table, c.requires.known) in
    let lt : c.args.round < length c.self.inside.rounds.items = omega (arith, table, c.requires.known) in
    still_rounds c.self.inside.tasks c.args.task c.args.round c.args.value c.self.inside.rounds.items c.index_mut-row.result.now c.self.invariant known lt c.index_mut-row.ensures.value

pub returns-clause-joined : goal.returns-clause-joined
returns-clause-joined c = λ t r.
    let table = in_table c.self.inside.tasks c.self.inside.rounds.items c.args.self.now c.self.view_is in
    let known : c.args.task < c.self.inside.tasks = omega (arith, table, c.requires.known) in
    let lt : c.args.round < length c.self.inside.rounds.items = omega (arith, table, c.requires.known) in
    joined_more c.self.inside.tasks c.args.task c.args.round c.args.value c.self.inside.rounds.items c.index_mut-row.result.now c.self.invariant known lt c.index_mut-row.ensures.value t r
    ∙ ap (λ joins. cond (t == c.args.task && r == c.args.round) (Some c.args.value) (joined joins t r)) c.self.view_is

pub returns-clause-size : goal.returns-clause-size
unfolding joins_of
returns-clause-size c =
    let rows = c.self.inside.rounds.items in
    let row = with_join c.index_mut-row.result.now c.args.task c.args.value in
    let table = in_table c.self.inside.tasks rows c.args.self.now c.self.view_is in
    (sym table.0, length-joins c.self.inside.tasks (set rows c.args.round row) ∙ length-set rows c.args.round row ∙ sym table.1)
