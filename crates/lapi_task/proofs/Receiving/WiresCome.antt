-- What stands on a wire may come to its task.
use Rattle.std.proofs.Common.{ℕ, ◌<◌, sym, ap, ◌∙◌, subst, arith}
use Rattle.std.proofs.lemmas.Option.{get_or_from_slice_get}
use Rattle.lapi_base.specs.declared.script.Script.{Script}
use Rattle.lapi_base.specs.declared.rule.Rules.{Rules}
use Rattle.lapi_base.specs.declared.packet.Packet.{Packet}
use Rattle.lapi_base.specs.declared.packet.Packet.TheVariants.{Data, Ack}
use Rattle.lapi_base.specs.Laws.Entries.{GoesFrom}
use Rattle.lapi_base.specs.Record.Wires.{Run, IsEntry}
use Rattle.lapi_link.specs.Receiver.{WhatArrivesMayBeTaken, WholeIsComplete}
use Rattle.lapi_parts.proofs.SpelledPackets.{packets-placed, packets-have-layout}
use Rattle.lapi_task.specs.declared.task.Task.{Task}
use Rattle.lapi_task.specs.HasEffect.{IsAt}
use Rattle.lapi_task.specs.MayReceive.{Fits, WiresMayCome}
use Rattle.lapi_task.proofs.Acknowledging.ArrivingAcks.{covers-sent}
use Rattle.lapi_task.proofs.Receiving.ReceiveLaws.{data-fits}

module _ (may-take : WhatArrivesMayBeTaken) (whole-is : WholeIsComplete) where
  entry-fits : (script : Script) (rules : Rules) (t : ℕ) (task : Task) (r : Run) (a k : ℕ) (p : Packet) → IsAt script rules t task r → a < script.tasks → IsEntry r a t k p → Fits task a p
  entry-fits script rules t task r a k (Data p) at known entry = λ end here. data-fits script rules t r task at a k known p entry may-take whole-is end here
  entry-fits script rules t task r a k (Ack l x y base bits) at known entry = λ end here.
      covers-sent script rules r a t k l x y base bits task at known entry end (sym (get_or_from_slice_get task.senders.items a end end here))

  pub wires-come : WiresMayCome
  wires-come script rules t task r a k p at entry =
      let placed = packets-placed script rules r at.recorded a t k p entry in
      let tasks = ap (λ (z : _). z.tasks) at.stands.calls.sizes in
      let known = placed.0 in
      record {
        known = omega (arith, tasks, known);
        goes = subst (λ n. GoesFrom a n p) (sym at.stands.holds.number) placed.2;
        layout = packets-have-layout script rules r at.recorded a t k p entry ∙ sym (ap (λ (z : _). z.layout) at.stands.calls.sizes);
        fits = entry-fits script rules t task r a k p at known entry;
      }
