-- What waits in a queue has landed, and what runs was begun.
use Rattle.std.proofs.Common.{◌≡◌, ◌==◌, ◌&&◌, not, true}
use Rattle.std.specs.Prelude.{nat_lt}
use Rattle.std.proofs.lemmas.Bool.{and_parts, and_from, not-true, ltb-true}
use Rattle.lapi_base.specs.declared.message.Leg.TheVariants.{Go}
use Rattle.lapi_base.specs.Record.Names.{leg_eq, Begun, happened}
use Rattle.lapi_base.specs.Record.Operations.{receiver, statement, is_am}
use Rattle.lapi_base.specs.Record.Jobs.{is_job, queue}
use Rattle.lapi_base.specs.Record.Atomic.{has_message}
use Rattle.lapi_base.specs.Laws.Headline.{HoldsOfAtomic}
use Rattle.lapi_base.specs.Laws.Working.{IsWaiting, QueuedAreWaiting, RunningWereBegun}
use Rattle.lapi_base.proofs.ListLaws.{all-weaker}
use Rattle.lapi_laws.proofs.Workers.{Waiting, queue-waiting, begun, unended}

pub queued-waiting : HoldsOfAtomic QueuedAreWaiting
queued-waiting script rules J h = λ t.
    all-weaker (λ m. Waiting script rules J t m × (not (happened (Begun m) J) ≡ true)) (IsWaiting script rules J t) (λ m w. (w.0.0, w.0.1, not-true _ w.1)) (queue script rules J t) (queue-waiting script rules J t)

pub running-begun : HoldsOfAtomic RunningWereBegun
unfolding is_job
running-begun script rules J h = λ t w m at.
    let b = begun script rules J t w m h at in
    let job = and_parts (has_message script rules m && (leg_eq m.leg Go && is_am (statement script m.origin m.statement))) (receiver script m == t && (nat_lt t script.tasks && nat_lt w script.workers)) b.1 in
    let place = and_parts _ _ job.1 in
    let go = (and_parts _ _ (and_parts _ _ job.0).1).0 in
    (and_from _ _ go (and_from _ _ b.2 place.0), ltb-true w script.workers (and_parts _ _ place.1).1, b.0, unended script rules J t w m h at)
