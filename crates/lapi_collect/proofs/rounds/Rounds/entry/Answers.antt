use Rattle.std.proofs.Common.{rules, ◌≡◌, ◌<◌, length, true, None, cond, ap, sym, ◌∙◌, refl, arith}
use Rattle.std.proofs.lemmas.Bool.{cond_both}
use Rattle.lapi_collect.specs.Rounds.{is_complete, joined}
use Rattle.lapi_collect.proofs.Joining.{in_table, entry_there}
use Rattle.lapi_collect.proofs.rounds.Rounds.entry.Goals as goal

pub returns-then-not-has : goal.returns-then-not-has
returns-then-not-has c =
    cond_both (is_complete c.args.self.now c.args.round) (joined c.args.self.now c.args.task c.args.round) None (λ x. None ≡ x)
    (λ _. sym (c.has.ensures.none c.if-not-has.true)) (λ _. refl)

pub complete-requires : goal.complete-requires
complete-requires c = (c.has.ensures.known c.if-not-has.false).1

pub index-requires : goal.index-requires
index-requires c =
    let table = in_table c.self.inside.tasks c.self.inside.rounds.items c.args.self.now c.self.view_is in
    let known = c.has.ensures.known c.if-not-has.false in
    let lt : c.args.round < length c.self.inside.rounds.items = omega (arith, table, known) in
    search (rules, lt)

pub bounds-index-task : goal.bounds-index-task
bounds-index-task c =
    let table = in_table c.self.inside.tasks c.self.inside.rounds.items c.args.self.now c.self.view_is in
    let known = c.has.ensures.known c.if-not-has.false in
    omega (arith, table, known, c.self.invariant.few)

pub returns-then-complete : goal.returns-then-complete
returns-then-complete c =
    let table = in_table c.self.inside.tasks c.self.inside.rounds.items c.args.self.now c.self.view_is in
    let has = c.has.ensures.known c.if-not-has.false in
    let known : c.args.task < c.self.inside.tasks = omega (arith, table, has) in
    let lt : c.args.round < length c.self.inside.rounds.items = omega (arith, table, has) in
    let complete : is_complete c.args.self.now c.args.round ≡ true = search rules in
    let there = entry_there c.self.inside.tasks c.args.task c.args.round c.self.inside.rounds.items c.index.result.now c.index.ensures known lt (ap (λ joins. is_complete joins c.args.round) c.self.view_is ∙ complete) in
    there
    ∙ ap (λ joins. joined joins c.args.task c.args.round) c.self.view_is
    ∙ sym (ap (λ b. cond b (joined c.args.self.now c.args.task c.args.round) None) complete)
