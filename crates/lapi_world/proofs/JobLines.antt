-- A line that begins a job, or ends one.
use Rattle.std.proofs.Common.{◌≡◌, ℕ, ◌==◌, ◌&&◌, true, List, [], ◌∷◌, ◌++◌, Option, Some, None, is_some, refl, sym, ap, ◌∙◌, subst}
use Rattle.std.proofs.lemmas.Bool.{and_from, eq-eqb, cond-true, false≢true}
use Rattle.lapi_base.specs.declared.script.Script.{Script}
use Rattle.lapi_base.specs.declared.rule.Rules.{Rules}
use Rattle.lapi_base.specs.declared.message.MsgName.{MsgName}
use Rattle.lapi_base.specs.declared.schedule.Act.TheVariants as acts
use Rattle.lapi_base.specs.declared.reply.Reply.TheVariants as replies
use Rattle.lapi_base.specs.Record.Acts.{perform, begin_first, begin_at, begin, end_at, end, followed, reply_with}
use Rattle.lapi_base.specs.Record.Jobs.{queue, runs}
use Rattle.lapi_base.specs.Record.Values.{values}
use Rattle.lapi_base.specs.Record.Wires.{Run}
use Rattle.lapi_base.specs.Record.WorldView.{performed}
use Rattle.lapi_handlers.specs.declared.begun.Begun.{Begun}
use Rattle.lapi_handlers.specs.declared.begun.Begun.TheVariants.{Job as IsAJob, Idle, Busy}
use Rattle.lapi_handlers.specs.declared.finished.Finished.{Finished}
use Rattle.lapi_handlers.specs.declared.job.Job.{Job}
use Rattle.lapi_task.specs.Working.{IsBegun}
use Rattle.lapi_world.specs.declared.network.Network.{Network}
use Rattle.lapi_world.specs.Jobs.{begun_reply, IsOfWorker, RunsJob}
use Rattle.lapi_world.specs.Stands.{Stands}
use Rattle.lapi_world.proofs.Delivering.{network-with}

module _ (script : Script) (rules : Rules) where
  pub performed-begin : (r : Run) (t w : ℕ) → performed script rules r (acts.Begin t w) ≡ begin script rules r t w
  unfolding performed perform
  performed-begin r t w = refl

  pub performed-end : (r : Run) (t w : ℕ) → performed script rules r (acts.End t w) ≡ end script rules r t w
  unfolding performed perform
  performed-end r t w = refl

  -- What a Begin replies.
  busy-told : (r : Run) (t w : ℕ) (o : Option MsgName) → is_some o ≡ true → (begin_at script rules r t w o).replies ≡ r.replies ++ replies.Busy ∷ []
  busy-told r t w None e = absurd (false≢true e)
  busy-told r t w (Some m) e = refl

  first-told : (r : Run) (t w : ℕ) (b : Begun) → IsBegun script rules t w r b → (begin script rules r t w).replies ≡ r.replies ++ begun_reply b ∷ []
  unfolding begin
  first-told r t w Busy h = busy-told r t w (runs r.journal t w) h
  first-told r t w Idle h =
      ap (λ (o : Option MsgName). (begin_at script rules r t w o).replies) h.0
      ∙ ap (λ (ms : List MsgName). (begin_first script rules r t w ms).replies) h.1
  first-told r t w (IsAJob job) h =
      ap (λ (o : Option MsgName). (begin_at script rules r t w o).replies) h.0
      ∙ ap (λ (ms : List MsgName). (begin_first script rules r t w ms).replies) h.1.first

  pub begin-replies : (r : Run) (t w : ℕ) (b : Begun) → IsBegun script rules t w r b → (performed script rules r (acts.Begin t w)).replies ≡ r.replies ++ begun_reply b ∷ []
  begin-replies r t w b h = ap (λ (q : Run). q.replies) (performed-begin r t w) ∙ first-told r t w b h

  -- The job that begins is what its worker runs then.
  runs-first : (r : Run) (t w : ℕ) (m : MsgName) (ms : List MsgName) → runs r.journal t w ≡ None → queue script rules r.journal t ≡ m ∷ ms → runs (begin script rules r t w).journal t w ≡ Some m
  unfolding begin followed runs
  runs-first r t w m ms free first =
      ap (λ (o : Option MsgName). runs (begin_at script rules r t w o).journal t w) free
      ∙ ap (λ (waiting : List MsgName). runs (begin_first script rules r t w waiting).journal t w) first
      ∙ cond-true (t == t && w == w) (Some m) (runs r.journal t w) (and_from (t == t) (w == w) (eq-eqb t t refl) (eq-eqb w w refl))

  pub job-runs : (r : Run) (t w : ℕ) (job : Job) → IsBegun script rules t w r (IsAJob job) → RunsJob script rules (performed script rules r (acts.Begin t w)) job
  job-runs r t w job h =
      let first = h.1 in
      let after = performed-begin r t w in
      record {
        running =
            ap (λ (q : Run). runs q.journal job.task job.worker) after
            ∙ ap (λ (a : ℕ). runs (begin script rules r t w).journal a job.worker) first.place.0
            ∙ ap (λ (v : ℕ). runs (begin script rules r t w).journal t v) first.place.1
            ∙ runs-first r t w job.name first.rest h.0 first.first;
        completion = first.completion;
        user = first.user;
        buffer = first.buffer ∙ ap (λ (q : Run). (values script rules q.journal).held job.name) (sym after);
        known = first.known;
        short = first.short;
      }

  -- An End, where the worker runs nothing, and where it runs a job.
  idle-end : (r : Run) (t w : ℕ) → runs r.journal t w ≡ None → performed script rules r (acts.End t w) ≡ reply_with script rules r replies.Idle
  unfolding end
  idle-end r t w free = performed-end r t w ∙ ap (end_at script rules r t w) free

  pub idle-stands : (r : Run) (t w : ℕ) (network : Network) → runs r.journal t w ≡ None → Stands script rules network r → Stands script rules network (performed script rules r (acts.End t w))
  idle-stands r t w network free h = subst (Stands script rules network) (sym (idle-end r t w free)) (network-with script rules r replies.Idle network h)

  pub idle-replies : (r : Run) (t w : ℕ) → runs r.journal t w ≡ None → (performed script rules r (acts.End t w)).replies ≡ r.replies ++ replies.Idle ∷ []
  idle-replies r t w free = ap (λ (q : Run). q.replies) (idle-end r t w free)

  pub end-replies : (r : Run) (t w : ℕ) (finished : Finished) → IsOfWorker script rules t w r (Some finished) → (performed script rules r (acts.End t w)).replies ≡ r.replies ++ replies.Did ∷ []
  unfolding end
  end-replies r t w finished h =
      ap (λ (q : Run). q.replies) (performed-end r t w)
      ∙ ap (λ (o : Option MsgName). (end_at script rules r t w o).replies) (ap (runs r.journal t) (sym h.0) ∙ h.1.running)

  pub performed-ended : (r : Run) (t w : ℕ) (finished : Finished) → IsOfWorker script rules t w r (Some finished) → performed script rules r (acts.End t w) ≡ end script rules r t finished.worker
  performed-ended r t w finished h = performed-end r t w ∙ ap (end script rules r t) (sym h.0)
