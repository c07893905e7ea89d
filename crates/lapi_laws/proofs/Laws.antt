-- The laws of whole runs, as the contracts state them.
use Rattle.std.proofs.Common.{◌≡◌, ℕ, ◌+◌, ◌<◌, Bool, true, List, [], ◌∷◌, ◌++◌, reverse, sym, ap, ◌∙◌, subst, append_assoc}
use Rattle.std.specs.List.{AllByRecursion}
use Rattle.std.proofs.lemmas.List.{reverse-reverse, reverse-append}
use Rattle.std.proofs.lemmas.Bool.{false≢true}
use mathlib.Core.List.{reverse-cons}
use Rattle.lapi_base.specs.Packet.Layout.{window_of}
use Rattle.lapi_base.specs.declared.script.Script.{Script}
use Rattle.lapi_base.specs.declared.rule.Rules.{Rules}
use Rattle.lapi_base.specs.declared.event.Event.{Event}
use Rattle.lapi_base.specs.declared.schedule.Act.{Act}
use Rattle.lapi_base.specs.declared.reply.Bad.{Bad}
use Rattle.lapi_base.specs.declared.packet.Packet.{Packet}
use Rattle.lapi_base.specs.Record.Valid.{ValidAct}
use Rattle.lapi_base.specs.Record.Wires.{start, has_number, is_sent, base}
use Rattle.lapi_base.specs.Record.Acts.{after, run_of}
use Rattle.lapi_base.specs.Record.Atomic.{Atomic, AtomicInTime, Keeps}
use Rattle.lapi_base.specs.Record.Final.{AllDelivered, Quiet, Final}
use Rattle.lapi_laws.proofs.Backward.{Atomic-head, Atomic-tail}
use Rattle.lapi_laws.proofs.Runs.{start-sound, run-sound}
use Rattle.lapi_laws.proofs.SentWindow.{run-window}
use Rattle.lapi_laws.proofs.Follows.{run-owes}
use Rattle.lapi_laws.proofs.LastAck.{after-told}
use Rattle.lapi_laws.proofs.Delivered.{delivered-quiet}
use Rattle.lapi_laws.proofs.Ends.{quiet-final}

module _ (script : Script) (rules : Rules) where
  within : (later : List Event) (e : Event) (J : List Event) → Atomic script rules (later ++ e ∷ J) → Keeps script rules J e
  within [] e J h = Atomic-head script rules e J h
  within (x ∷ later) e J h = within later e J (Atomic-tail script rules x (later ++ e ∷ J) h)

  -- newest first or in the order of time
  pub in-time : (J : List Event) → Atomic script rules J → AtomicInTime script rules (reverse J)
  in-time J h before after e same =
      within (reverse after) e (reverse before)
      (subst (Atomic script rules) (sym (reverse-reverse J) ∙ ap reverse same ∙ reverse-append before (e ∷ after) ∙ shape) h)
    where
      shape : reverse (e ∷ after) ++ reverse before ≡ reverse after ++ e ∷ reverse before
      shape = ap (λ xs. xs ++ reverse before) (reverse-cons e after) ∙ append_assoc (reverse after) (e ∷ []) (reverse before)

  module _ (size : Packet → ℕ) (refusal : List ℕ → Bad) where
    pub window : (acts : List Act) (a b n : ℕ) → is_sent (run_of script rules size refusal acts) a b n ≡ true → n < base script (run_of script rules size refusal acts) a b + window_of script
    unfolding base
    window acts a b n h = run-window script rules size refusal acts a b n h

    module _ (spells : List ℕ → Bool) (acts : List Act) (v : AllByRecursion (ValidAct script spells) acts) where
      pub quiet : AllDelivered script rules (run_of script rules size refusal acts) → Quiet script rules (run_of script rules size refusal acts)
      unfolding run_of has_number
      quiet d =
          delivered-quiet script rules (run_of script rules size refusal acts) (run-sound script rules spells size refusal acts v) (run-window script rules size refusal acts)
          (after-told script rules spells size refusal acts start v (start-sound script rules) (λ a b e n h. absurd (false≢true h))) d

      pub complete : Quiet script rules (run_of script rules size refusal acts) → Final script rules (run_of script rules size refusal acts).journal
      complete q = quiet-final script rules (run_of script rules size refusal acts) (run-sound script rules spells size refusal acts v) (run-owes script rules size refusal acts) q
