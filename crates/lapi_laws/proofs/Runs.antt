-- Whatever lines a schedule has, its record is sound.
use Rattle.std.proofs.Common.{ℕ, Bool, List, Some, None}
use Rattle.std.specs.Prelude.{slice_get}
use Rattle.std.specs.List.{AllByRecursion}
use Rattle.lapi_base.specs.declared.script.Script.{Script}
use Rattle.lapi_base.specs.declared.rule.Rules.{Rules}
use Rattle.lapi_base.specs.declared.schedule.Act.{Act}
use Rattle.lapi_base.specs.declared.schedule.Act.TheVariants.{Step, Poll, Tick, Deliver, Cut, Inject}
use Rattle.lapi_base.specs.declared.reply.Bad.{Bad}
use Rattle.lapi_base.specs.declared.packet.Packet.{Packet}
use Rattle.lapi_base.specs.Record.Names.{Landed, Copied, Headed, Entered}
use Rattle.lapi_base.specs.Record.Valid.{ValidAct}
use Rattle.lapi_base.specs.Record.Wires.{Run, start, numbered}
use Rattle.lapi_base.specs.Record.Acts.{cut_entry, perform, run_of}
use Rattle.lapi_base.specs.Record.Atomic.{Atomic}
use Rattle.lapi_base.proofs.NameLaws.{happened-nil}
use Rattle.lapi_base.proofs.EveryRun.{after-keeps}
use Rattle.lapi_laws.proofs.Lines.{SoundRun, tick-sound, poll-sound, deliver-sound}
use Rattle.lapi_laws.proofs.Turns.{step-sound, begin-sound, end-sound}
use Rattle.std.proofs.lemmas.Bool.{both_ways}

module _ (script : Script) (rules : Rules) where
  pub start-sound : SoundRun script rules start
  unfolding Atomic numbered
  start-sound = record {
    atomic = tt;
    wires = λ a b. tt;
    hands = λ a b. tt;
    landed = λ m h. absurd (both_ways _ (happened-nil (Landed m)) h);
    arrived = λ m h. absurd (both_ways _ (happened-nil (Copied m)) h);
    headed = λ m h. absurd (both_ways _ (happened-nil (Headed m)) h);
    heads = λ m g n x. absurd (cc);
    fences = λ a i g h. absurd (both_ways _ (happened-nil (Entered a i)) h);
  }

  module _ (spells : List ℕ → Bool) (size : Packet → ℕ) (refusal : List ℕ → Bad) where
    pub perform-sound : (r : Run) (act : Act) → ValidAct script spells act → SoundRun script rules r → SoundRun script rules (perform script rules size refusal r act)
    unfolding perform
    perform-sound r (Step t) v s = step-sound script rules r t v s
    perform-sound r (Poll t) v s = poll-sound script rules r t s
    perform-sound r (Tick t) v s = tick-sound script rules r t s
    perform-sound r (Deliver a b k) v s = deliver-sound script rules r a b k s
    perform-sound r (Cut a b k n) v s = elim (slice_get (r.wire a b) k) as (λ o. SoundRun script rules (cut_entry script rules size r n o)) [ Some p ↦ s | None ↦ s ]
    perform-sound r (Inject a b bytes) v s = s
    perform-sound r (Act.Begin t w) v s = begin-sound script rules r t w v.0 v.1 s
    perform-sound r (Act.End t w) v s = end-sound script rules r t w s

    pub run-sound : (acts : List Act) → AllByRecursion (ValidAct script spells) acts → SoundRun script rules (run_of script rules size refusal acts)
    unfolding run_of
    run-sound acts v = after-keeps script rules size refusal (ValidAct script spells) (SoundRun script rules) perform-sound acts start v start-sound
