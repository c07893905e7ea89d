use Rattle.std.proofs.Common.{rules, ◌≡◌, ◌/◌, ◌∙◌, ap, min, get_or, set, true, MatchOption}
use Rattle.std.proofs.lemmas.List.{get_or_read}
use Rattle.lapi_collect.proofs.Open.{in_room, flags_begun, begun}
use Rattle.lapi_collect.proofs.outstanding.Outstanding.begin.Goals as goal

pub index_mut-requires : goal.index_mut-requires
index_mut-requires c =
    let room = in_room c.self.inside.statements c.args.statement c.self.inside.words.items c.args.self.now c.self.view_is c.self.invariant.room.0 c.requires in
    search (rules, room.1)

pub invariant_of-self : goal.invariant_of-self
invariant_of-self c =
    let words = c.self.inside.words.items in
    let s = c.args.statement in
    let room = in_room c.self.inside.statements s words c.args.self.now c.self.view_is c.self.invariant.room.0 c.requires in
    let read : c.index_mut.result.now ≡ get_or words (s / 64) 0 = get_or_read words (s / 64) c.index_mut.result.now room.1 c.index_mut.ensures.value 0 in
    let lower : MatchOption c.self.inside.least (c.map_or.result ≡ s) (λ l. c.map_or.result ≡ min l s) = search rules in
    begun c.self.inside.statements c.self.inside.used c.max-self-inside.result s c.map_or.result c.index_mut.result.now words c.self.inside.least c.self.invariant room.0 room.1 read c.max-self-inside.ensures lower

pub returns : goal.returns
returns c =
    let words = c.self.inside.words.items in
    let s = c.args.statement in
    let room = in_room c.self.inside.statements s words c.args.self.now c.self.view_is c.self.invariant.room.0 c.requires in
    let read : c.index_mut.result.now ≡ get_or words (s / 64) 0 = get_or_read words (s / 64) c.index_mut.result.now room.1 c.index_mut.ensures.value 0 in
    flags_begun c.self.inside.statements s c.index_mut.result.now words room.0 room.1 read ∙ ap (λ flags. set flags s true) c.self.view_is
