use Rattle.std.proofs.Common.{rules, ◌<◌, length, ap, ◌∙◌, arith}
use Rattle.lapi_collect.specs.Rounds.{is_complete}
use Rattle.lapi_collect.proofs.Joining.{in_table, complete_byte}
use Rattle.lapi_collect.proofs.rounds.Rounds.complete.Goals as goal

pub index-requires : goal.index-requires
index-requires c =
    let table = in_table c.self.inside.tasks c.self.inside.rounds.items c.args.self.now c.self.view_is in
    let lt : c.args.round < length c.self.inside.rounds.items = omega (arith, table, c.requires) in
    search (rules, lt)

pub returns : goal.returns
returns c =
    let table = in_table c.self.inside.tasks c.self.inside.rounds.items c.args.self.now c.self.view_is in
    let lt : c.args.round < length c.self.inside.rounds.items = omega (arith, table, c.requires) in
    complete_byte c.self.inside.tasks c.args.round c.self.inside.rounds.items c.index.result.now c.self.invariant c.index.ensures lt ∙ ap (λ joins. is_complete joins c.args.round) c.self.view_is
