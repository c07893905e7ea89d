-- What comes of telling a worker to begin, and which jobs may end.
use Rattle.std.specs.Prelude.{◌≡◌, ℕ, ◌+◌, ◌%◌, ◌<◌, ◌≤◌, ◌==◌, ◌&&◌, nat_le, Bool, true, cond, List, [], ◌∷◌, length, Option, None, Some, is_some, option_map}
use Rattle.lapi_base.specs.declared.layout.TheConstants.{LONGEST_ACTIVE}
use Rattle.lapi_base.specs.declared.event.Event.{Event}
use Rattle.lapi_base.specs.declared.event.Event.TheVariants.{Copy}
use Rattle.lapi_base.specs.declared.handler.Effect.{Effect}
use Rattle.lapi_base.specs.declared.handler.Effect.TheVariants as effects
use Rattle.lapi_base.specs.declared.head.Head.TheVariants as heads
use Rattle.lapi_base.specs.declared.head.NoteOp.{NoteOp}
use Rattle.lapi_base.specs.declared.message.Leg.TheVariants.{Echo}
use Rattle.lapi_base.specs.declared.message.MsgName.{MsgName}
use Rattle.lapi_base.specs.declared.rule.Rules.{Rules}
use Rattle.lapi_base.specs.declared.script.Script.{Script}
use Rattle.lapi_base.specs.declared.sizes.Sizes.{Sizes}
use Rattle.lapi_base.specs.Packet.Layout.{layout_of, has_echo}
use Rattle.lapi_base.specs.Record.Acts.{begin, end}
use Rattle.lapi_base.specs.Record.Handlers.{completion, completion_answer, rule_named, user}
use Rattle.lapi_base.specs.Record.HeadSays.{noted}
use Rattle.lapi_base.specs.Record.Jobs.{queue, runs}
use Rattle.lapi_base.specs.Record.Names.{message}
use Rattle.lapi_base.specs.Record.Values.{values}
use Rattle.lapi_base.specs.Record.Wires.{Run}
use Rattle.lapi_handlers.specs.declared.begun.Begun.{Begun}
use Rattle.lapi_handlers.specs.declared.begun.Begun.TheVariants.{Job as IsJob, Idle, Busy}
use Rattle.lapi_handlers.specs.declared.finished.Finished.{Finished}
use Rattle.lapi_handlers.specs.declared.job.Job.{Job}
use Rattle.lapi_task.specs.declared.outcome.Outcome.{Outcome}
use Rattle.lapi_task.specs.declared.task.Task.{Task}
use Rattle.lapi_task.specs.HasEffect.{IsAt, HasEffect}
use Rattle.lapi_task.specs.Landed.{Follower, note_of, echo_of}

module _ (script : Script) (rules : Rules) (t : ℕ) where
  -- The job that worker w of task t begins is that of the first message in the queue, with the completion handler, the
  -- user value and the buffer that the record has then. It may be given to its completion handler.
  pub record IsFirstJob (w : ℕ) (r : Run) (job : Job) : Type 0 where
    pub rest : List MsgName
    pub first : queue script rules r.journal t ≡ job.name ∷ rest
    pub place : (job.task ≡ t) × (job.worker ≡ w)
    pub completion : completion script rules job.name ≡ Some job.completion
    pub user : job.user ≡ user script job.name
    pub buffer : job.buffer ≡ (values script rules (begin script rules r t w).journal).held job.name
    pub known : job.completion < length rules.completions
    pub short : length job.buffer ≤ LONGEST_ACTIVE

  -- A worker that runs a job is busy; one that runs none begins the first job, or is idle where none waits.
  abbrev pub IsBegun : (worker : ℕ) → Run → Begun → Type 0
  IsBegun w r Busy = is_some (runs r.journal t w) ≡ true
  IsBegun w r Idle = (runs r.journal t w ≡ None) × (queue script rules r.journal t ≡ [])
  IsBegun w r (IsJob job) = (runs r.journal t w ≡ None) × IsFirstJob w r job

  -- The job that a worker runs, after its completion handler has answered.
  pub record IsFinished (r : Run) (f : Finished) : Type 0 where
    pub running : runs r.journal t f.worker ≡ Some f.name
    pub place : f.task ≡ t
    pub buffer : f.buffer ≡ (values script rules r.journal).held f.name
    pub effect : f.effect ≡ completion_answer (rule_named script rules f.name) (user script f.name) f.buffer

-- for some record that the task stands for
abbrev pub MayEnd : Task → Finished → Type 0
MayEnd task f = (script : Script) × (rules : Rules) × (t : ℕ) × (r : Run) × IsAt script rules t task r × IsFinished script rules t r f

-- where a task stands for a record in which this job has finished, it ends
abbrev pub Ends : Finished → (before after : Task) → (old new : Outcome) → Type 0
Ends f before after old new =
    (script : Script) (rules : Rules) (t : ℕ) (r : Run)
    → IsAt script rules t before r → IsFinished script rules t r f
    → HasEffect script rules t r (end script rules r t f.worker) after old new

-- What follows the end of a job at a task. A completion handler may answer with a word for this place,
abbrev pub may_answer_at : Sizes → (at : ℕ) → Bool
may_answer_at sizes at = has_echo (layout_of sizes.layout) && at % 4 == 0 && nat_le (at + 4) sizes.memory

-- and its effect says the place and the word, if it answers.
abbrev pub word_back : Sizes → Effect → Option (ℕ × ℕ)
word_back sizes (effects.Answer at value) = cond (may_answer_at sizes at) (Some (at, value)) None
word_back sizes _ = None

abbrev pub echoed : MsgName → List Event
echoed m = Copy (message m.origin m.statement Echo) ∷ []

-- The answer goes from task t to the origin, or else the notice, where a counter is named.
abbrev pub end_follower : (layout t : ℕ) → MsgName → (word : Option (ℕ × ℕ)) → (cmpl : Option ℕ) → Option Follower
end_follower layout t m (Some word) cmpl = Some (echo_of layout t m.origin m word.0 word.1 cmpl)
end_follower layout t m None cmpl = option_map (λ c. note_of layout t m.origin m (heads.Note NoteOp.Am c)) cmpl

abbrev pub end_events : MsgName → (word : Option (ℕ × ℕ)) → (cmpl : Option ℕ) → List Event
end_events m (Some word) cmpl = echoed m
end_events m None cmpl = noted m cmpl
