use Rattle.std.proofs.Common.{ℕ, Bool, Option, Some, ap, ◌∙◌, subst}
use Rattle.lapi_base.specs.declared.head.Head.TheVariants as heads
use Rattle.lapi_base.specs.declared.head.NoteOp.{NoteOp}
use Rattle.lapi_task.specs.Landed.{note_of, follower}
use Rattle.lapi_task.proofs.Following.FollowerParts.{MayFollow, back-may-leave}
use Rattle.lapi_task.proofs.task.Task.follow.Goals as goal

pub note-requires-clause-allowed : goal.note-requires-clause-allowed
note-requires-clause-allowed c = λ k e.
    let task = c.args.self.now in
    let x = c.in-Put in
    subst (MayFollow task.sizes.layout task.state.number c.args.from c.args.name c.args.completion task.state.memory) x.is c.requires.allowed
    (note_of task.sizes.layout task.state.number c.args.from c.args.name (heads.Note NoteOp.Put k))
    (ap (λ o. follower task.sizes.layout task.state.number c.args.from c.args.name (heads.Put x.at x.tgt o) c.args.completion task.state.memory) e)

pub note-requires-in-Putv-clause-allowed : goal.note-requires-in-Putv-clause-allowed
note-requires-in-Putv-clause-allowed c = λ k e.
    let task = c.args.self.now in
    let x = c.in-Putv in
    subst (MayFollow task.sizes.layout task.state.number c.args.from c.args.name c.args.completion task.state.memory) x.is c.requires.allowed
    (note_of task.sizes.layout task.state.number c.args.from c.args.name (heads.Note NoteOp.Putv k))
    (ap (λ o. follower task.sizes.layout task.state.number c.args.from c.args.name (heads.Putv x.tgt o x.pieces) c.args.completion task.state.memory) e)

pub note-requires-in-Am-clause-allowed : goal.note-requires-in-Am-clause-allowed
note-requires-in-Am-clause-allowed c = λ k e.
    let task = c.args.self.now in
    let x = c.in-Am in
    let after = λ (o : Option ℕ) (later : Bool). follower task.sizes.layout task.state.number c.args.from c.args.name (heads.Am x.handler x.tgt o x.header) later task.state.memory in
    subst (MayFollow task.sizes.layout task.state.number c.args.from c.args.name c.args.completion task.state.memory) x.is c.requires.allowed
    (note_of task.sizes.layout task.state.number c.args.from c.args.name (heads.Note NoteOp.Am k))
    (ap (λ o. after o c.args.completion) e ∙ ap (after (Some k)) c.if-not-completion.true)

pub answer_asked-requires-clause-allowed : goal.answer_asked-requires-clause-allowed
answer_asked-requires-clause-allowed c =
    let task = c.args.self.now in
    back-may-leave task.sizes.layout task.state.number c.args.from c.args.name c.args.completion task.state.memory c.args.head.now c.requires.allowed

pub answer_asked-requires-in-RmwGo-clause-allowed : goal.answer_asked-requires-in-RmwGo-clause-allowed
answer_asked-requires-in-RmwGo-clause-allowed c =
    let task = c.args.self.now in
    back-may-leave task.sizes.layout task.state.number c.args.from c.args.name c.args.completion task.state.memory c.args.head.now c.requires.allowed

pub answer_asked-requires-in-GetvGo-clause-allowed : goal.answer_asked-requires-in-GetvGo-clause-allowed
answer_asked-requires-in-GetvGo-clause-allowed c =
    let task = c.args.self.now in
    back-may-leave task.sizes.layout task.state.number c.args.from c.args.name c.args.completion task.state.memory c.args.head.now c.requires.allowed
