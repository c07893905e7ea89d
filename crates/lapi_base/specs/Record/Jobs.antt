-- Jobs of completion handlers, after a journal: which wait, in the order of their landings, and which runs at
-- a worker. The order and the workers are this project's own.
use Rattle.std.specs.Prelude.{ℕ, ◌==◌, Bool, cond, ◌&&◌, not, List, [], ◌∷◌, ◌++◌, filter, Option, Some, None, is_some}
use Rattle.lapi_base.specs.declared.script.Script.{Script}
use Rattle.lapi_base.specs.declared.rule.Rules.{Rules}
use Rattle.lapi_base.specs.declared.message.Leg.TheVariants.{Go}
use Rattle.lapi_base.specs.declared.message.MsgName.{MsgName}
use Rattle.lapi_base.specs.declared.event.Event.{Event}
use Rattle.lapi_base.specs.declared.event.Event.TheVariants.{Land, Begin, End}
use Rattle.lapi_base.specs.Record.Below.{below}
use Rattle.lapi_base.specs.Record.Names.{Begun, happened, leg_eq}
use Rattle.lapi_base.specs.Record.Operations.{receiver}
use Rattle.lapi_base.specs.Record.Handlers.{has_completion}

-- the message is an active message to t that has a completion
unfoldable pub is_job : Script → Rules → ℕ → MsgName → Bool
is_job script rules t m = leg_eq m.leg Go && (has_completion script rules m.origin m.statement && receiver script m == t)

-- the jobs of t in the order of their landings
unfoldable pub landed_jobs : Script → Rules → List Event → ℕ → List MsgName
landed_jobs script rules [] t = []
landed_jobs script rules (Land m ∷ J) t = cond (is_job script rules t m) (landed_jobs script rules J t ++ m ∷ []) (landed_jobs script rules J t)
landed_jobs script rules (e ∷ J) t = landed_jobs script rules J t

-- those that no worker has begun
unfoldable pub queue : Script → Rules → List Event → ℕ → List MsgName
queue script rules J t = filter (λ m. not (happened (Begun m) J)) (landed_jobs script rules J t)

-- the message with Begin and without End at this worker
unfoldable pub runs : List Event → (task worker : ℕ) → Option MsgName
runs [] t w = None
runs (Begin m a v ∷ J) t w = cond (a == t && v == w) (Some m) (runs J t w)
runs (End m a v ∷ J) t w = cond (a == t && v == w) None (runs J t w)
runs (e ∷ J) t w = runs J t w

-- the workers of a task that run a job, rising
unfoldable pub busy : Script → List Event → (task : ℕ) → List ℕ
busy script J t = below script.workers (λ w. is_some (runs J t w))
