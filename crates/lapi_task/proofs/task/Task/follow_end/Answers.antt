use Rattle.std.proofs.Common.{None, sym, ap, ◌∙◌}
use Rattle.lapi_base.specs.declared.head.Head.TheVariants as heads
use Rattle.lapi_base.specs.declared.head.NoteOp.{NoteOp}
use Rattle.lapi_task.specs.Landed.{note_of, echo_of}
use Rattle.lapi_task.specs.Working.{end_follower}
use Rattle.lapi_task.proofs.task.Task.follow_end.Goals as goal

pub echo-requires-clause-allowed : goal.echo-requires-clause-allowed
echo-requires-clause-allowed c =
    let task = c.args.self.now in
    c.requires.allowed (echo_of task.sizes.layout task.state.number c.args.name.origin c.args.name c.in-Some.at c.in-Some.value c.args.cmpl)
    (ap (λ word. end_follower task.sizes.layout task.state.number c.args.name word c.args.cmpl) (sym c.word_back.ensures ∙ c.in-Some.is))

pub note-requires-clause-allowed : goal.note-requires-clause-allowed
note-requires-clause-allowed c = λ k e.
    let task = c.args.self.now in
    c.requires.allowed (note_of task.sizes.layout task.state.number c.args.name.origin c.args.name (heads.Note NoteOp.Am k))
    (ap (λ word. end_follower task.sizes.layout task.state.number c.args.name word c.args.cmpl) (sym c.word_back.ensures ∙ c.in-None.is) ∙ ap (end_follower task.sizes.layout task.state.number c.args.name None) e)
