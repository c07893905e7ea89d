-- What the end of a job makes of what stands for a record in which it has finished.
use Rattle.std.specs.Prelude.{◌≡◌, ℕ, [], ◌∷◌, ◌++◌, Option}
use Rattle.lapi_base.specs.declared.reply.Reply.{Reply}
use Rattle.lapi_base.specs.declared.rule.Rules.{Rules}
use Rattle.lapi_base.specs.declared.schedule.Act.TheVariants.{End}
use Rattle.lapi_base.specs.declared.script.Script.{Script}
use Rattle.lapi_base.specs.Record.Wires.{Run}
use Rattle.lapi_base.specs.Record.WorldView.{IsRecord, performed}
use Rattle.lapi_handlers.specs.declared.finished.Finished.{Finished}
use Rattle.lapi_world.specs.declared.network.Network.{Network}
use Rattle.lapi_world.specs.Jobs.{IsOfWorker}
use Rattle.lapi_world.specs.Stands.{Stands}

module _ (script : Script) (t w : ℕ) (finished : Option Finished) where
  -- the network stands for a record in which worker w of task t has finished this
  pub record HasFinished (rules : Rules) (network : Network) (r : Run) : Type 0 where
    pub recorded : IsRecord script rules r
    pub stands : Stands script rules network r
    pub ended : IsOfWorker script rules t w r finished

  -- it does so for some record;
  abbrev pub IsOfSome : Network → Type 0
  IsOfSome network = (rules : Rules) × (r : Run) × HasFinished rules network r

  -- then it stands for each such record with the End,
  abbrev pub KeepsEnd : (old new : Network) → Type 0
  KeepsEnd old new = (rules : Rules) (r : Run) → HasFinished rules old r → Stands script rules new (performed script rules r (End t w))

  -- and this is the reply to it.
  abbrev pub AnswersEnd : Network → Reply → Type 0
  AnswersEnd old reply = (rules : Rules) (r : Run) → HasFinished rules old r → (performed script rules r (End t w)).replies ≡ r.replies ++ reply ∷ []
