use Rattle.std.proofs.Common.{◌≡◌, Bool, Option, is_some, sym, ap, ◌∙◌, subst}
use Rattle.lapi_task.proofs.Following.FollowerParts.{MayFollow}
use Rattle.lapi_task.proofs.task.Task.land.Goals as goal

pub follow-requires-clause-allowed : goal.follow-requires-clause-allowed
follow-requires-clause-allowed g c =
    let task = c.args.self.now in
    let m = c.args.message.now in
    let later : c.is_some.result ≡ is_some c.completion-completion.result = c.is_some.ensures in
    subst (λ (b : Bool). MayFollow task.sizes.layout task.state.number c.args.from m.name b task.state.memory m.head)
    (sym (later ∙ ap (λ (o : Option _). is_some o) c.completion-completion.ensures)) c.requires.follows
