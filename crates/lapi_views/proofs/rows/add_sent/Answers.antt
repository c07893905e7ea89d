use Rattle.lapi_views.proofs.SentRows.{entries_done, entry_added}
use Rattle.lapi_views.proofs.rows.add_sent.Goals as goal

pub loop-k-preserved : goal.loop-k-preserved
loop-k-preserved c =
    entry_added c.args.a c.args.b c.loop-k.k c.args.entries.now c.index-entries-k.result c.as_slice.result.now c.cargo.result _ _ _ c.loop-k-test.true c.index-entries-k.is c.as_slice.ensures c.cargo.ensures c.loop-k.invariant c.in_ok-push.ensures.ok

pub returns : goal.returns
returns c = entries_done c.args.a c.args.b c.loop-k.k c.args.entries.now _ _ c.loop-k-test.false c.loop-k.invariant
