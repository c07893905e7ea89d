use Rattle.std.proofs.Common.{rules, ◌≡◌, ◌/◌, ◌∙◌, ap, get_or, set, false, Some}
use Rattle.std.proofs.lemmas.List.{get_or_read}
use Rattle.lapi_collect.proofs.Open.{in_room, flags_done, another_done, least_one_done}
use Rattle.lapi_collect.proofs.outstanding.Outstanding.done.Goals as goal

pub index_mut-requires : goal.index_mut-requires
index_mut-requires c =
    let room = in_room c.self.inside.statements c.args.statement c.self.inside.words.items c.args.self.now c.self.view_is c.self.invariant.room.0 c.requires in
    search (rules, room.1)

pub invariant_of-self : goal.invariant_of-self
invariant_of-self c =
    let words = c.self.inside.words.items in
    let s = c.args.statement in
    let room = in_room c.self.inside.statements s words c.args.self.now c.self.view_is c.self.invariant.room.0 c.requires in
    let read : c.index_mut.result.now ≡ get_or words (s / 64) 0 = get_or_read words (s / 64) c.index_mut.result.now room.1 c.index_mut.ensures.value 0 in
    let this : c.self.inside.least ≡ Some s = search rules in
    least_one_done c.self.inside.statements c.self.inside.used s c.index_mut.result.now words c.self.inside.least c.least_between-self-inside.result c.self.invariant room.1 read this (search rules)

pub invariant_of-self-else-eq : goal.invariant_of-self-else-eq
invariant_of-self-else-eq c =
    let words = c.self.inside.words.items in
    let s = c.args.statement in
    let room = in_room c.self.inside.statements s words c.args.self.now c.self.view_is c.self.invariant.room.0 c.requires in
    let read : c.index_mut.result.now ≡ get_or words (s / 64) 0 = get_or_read words (s / 64) c.index_mut.result.now room.1 c.index_mut.ensures.value 0 in
    another_done c.self.inside.statements c.self.inside.used s c.index_mut.result.now words c.self.inside.least c.self.invariant room.1 read (search rules)

pub returns-then-eq : goal.returns-then-eq
returns-then-eq c =
    let words = c.self.inside.words.items in
    let s = c.args.statement in
    let room = in_room c.self.inside.statements s words c.args.self.now c.self.view_is c.self.invariant.room.0 c.requires in
    let read : c.index_mut.result.now ≡ get_or words (s / 64) 0 = get_or_read words (s / 64) c.index_mut.result.now room.1 c.index_mut.ensures.value 0 in
    flags_done c.self.inside.statements s c.index_mut.result.now words room.0 room.1 read ∙ ap (λ flags. set flags s false) c.self.view_is

pub returns-else-eq : goal.returns-else-eq
returns-else-eq c =
    let words = c.self.inside.words.items in
    let s = c.args.statement in
    let room = in_room c.self.inside.statements s words c.args.self.now c.self.view_is c.self.invariant.room.0 c.requires in
    let read : c.index_mut.result.now ≡ get_or words (s / 64) 0 = get_or_read words (s / 64) c.index_mut.result.now room.1 c.index_mut.ensures.value 0 in
    flags_done c.self.inside.statements s c.index_mut.result.now words room.0 room.1 read ∙ ap (λ flags. set flags s false) c.self.view_is
