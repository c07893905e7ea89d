use Rattle.std.proofs.Common.{[], ◌∷◌, ◌++◌, List, take, sym, ap, ◌∙◌}
use Rattle.lapi_base.specs.declared.wire.WireEntry.{WireEntry}
use Rattle.lapi_link.specs.Sender.{SendingEnd, sent, entries_to}
use Rattle.lapi_link.proofs.SenderLaws.{sent_one_more, entries_one_more}
use Rattle.lapi_link.proofs.sender.Sender.send.Goals as goal

pub loop-preserved : goal.loop-preserved
loop-preserved c =
    let entry = sym (ap (λ (s : SendingEnd). entries_to c.args.to (take 1 s.waiting)) c.loop.invariant.sent) ∙ c.in_ok-entry.ensures.entry in
    record {
      sent = c.in_ok-entry.ensures.sent ∙ ap (λ (s : SendingEnd). sent s 1) c.loop.invariant.sent ∙ sent_one_more c.args.self.now c.loop.counter;
      entries =
          c.in_ok-push.ensures.ok
          ∙ ap (λ (es : List WireEntry). es ++ c.in_ok-entry.entry ∷ []) c.loop.invariant.entries
          ∙ entries_one_more c.args.entries.now c.args.to c.loop.counter c.args.self.now.waiting c.in_ok-entry.entry entry;
      room = c.loop.invariant.room;
    }
