-- What Begin and End lines make of what a worker runs.
use Rattle.std.proofs.Common.{◌≡◌, ℕ, List, [], ◌∷◌, ◌++◌, None, sym, ap, ◌∙◌}
use Rattle.lapi_base.specs.declared.event.Event.{Event}
use Rattle.lapi_base.specs.declared.reply.Reply.TheVariants.{Did}
use Rattle.lapi_base.specs.declared.schedule.Act.{Act}
use Rattle.lapi_base.specs.Record.Jobs.{runs}
use Rattle.lapi_base.specs.Record.Values.{values}
use Rattle.lapi_base.specs.Record.Wires.{Run}
use Rattle.lapi_base.specs.Record.WorldView.{WorldView, record_at}
use Rattle.lapi_handlers.specs.declared.begun.Begun.{Begun}
use Rattle.lapi_handlers.specs.declared.begun.Begun.TheVariants.{Job as IsAJob, Idle, Busy}
use Rattle.lapi_parts.proofs.LinesTaken.{record-more}
use Rattle.lapi_parts.proofs.WorkerLines.{freed, no-event, none-runs}
use Rattle.lapi_world.specs.Jobs.{BeginsAt, EndsAt, begun_reply}
use Rattle.lapi_live.specs.Histories.{NoJobs, record_after, job_after, IsNoJob, GoesOn, IsShareable, SameJobs}
use Rattle.lapi_live.proofs.OtherLines.{same_jobs}

did-not : (b : Begun) → IsNoJob b → Did ≡ begun_reply b → ⊥
did-not (IsAJob job) unbegun e = unbegun
did-not Idle unbegun e = absurd (cc)
did-not Busy unbegun e = absurd (cc)

pub freed_after : (plan : WorldView) (history : List ℕ) (n t w : ℕ) → EndsAt plan.schedule n t w → job_after plan (history ++ n ∷ []) t w ≡ None
freed_after plan history n t w e =
    ap (λ (q : Run). runs q.journal t w) (record-more plan.script plan.rules plan.schedule history n (Act.End t w) e) ∙ freed plan.script plan.rules (record_at plan.script plan.rules plan.schedule history) t w

no-more-events : (plan : WorldView) (history : List ℕ) (n t w : ℕ) (b : Begun) → BeginsAt plan.schedule n t w → IsNoJob b → (record_after plan (history ++ n ∷ [])).replies ≡ (record_after plan history).replies ++ begun_reply b ∷ []
    → (record_after plan (history ++ n ∷ [])).journal ≡ (record_after plan history).journal
no-more-events plan history n t w b e unbegun told =
    let is = record-more plan.script plan.rules plan.schedule history n (Act.Begin t w) e in
    ap (λ (q : Run). q.journal) is
    ∙ no-event plan.script plan.rules (record_at plan.script plan.rules plan.schedule history) t w (begun_reply b) (did-not b unbegun) (ap (λ (q : Run). q.replies) (sym is) ∙ told)

-- a Begin that gives no job leaves what every worker runs
pub same_idle : (plan : WorldView) (lanes : ℕ) (old history new : List ℕ) (n t w : ℕ) (b : Begun) → IsShareable plan → GoesOn plan.schedule lanes old history → new ≡ history ++ n ∷ [] → BeginsAt plan.schedule n t w → IsNoJob b
    → (record_after plan (history ++ n ∷ [])).replies ≡ (record_after plan history).replies ++ begun_reply b ∷ [] → SameJobs plan lanes old new
same_idle plan lanes old history new n t w b s g is e unbegun told = λ a v has.
    let before = same_jobs plan lanes old history s g a v has in
    let same : (record_after plan new).journal ≡ (record_after plan history).journal = ap (λ (l : List ℕ). (record_after plan l).journal) is ∙ no-more-events plan history n t w b e unbegun told in (
      ap (λ (J : List Event). runs J a v) same ∙ before.0,
      λ m at. ap (λ (J : List Event). (values plan.script plan.rules J).held m) same ∙ before.1 m at,
    )

-- nothing runs before the first line
pub no_jobs : (plan : WorldView) (lanes : ℕ) (lines : List ℕ) → lines ≡ [] → NoJobs plan lanes lines
no_jobs plan lanes lines e = λ t w has. none-runs (record plan { taken = lines }) t w e
