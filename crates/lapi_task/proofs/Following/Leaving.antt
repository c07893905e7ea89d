-- A message that follows a landing or the end of a job, as the record has it, and that it may leave.
use Rattle.std.proofs.Common.{◌≡◌, ℕ, ◌<◌, List, [], ◌∷◌, length, sym, ap, ◌∙◌, subst, arith}
use Rattle.std.proofs.lemmas.Bool.{cond-true}
use Rattle.lapi_base.specs.declared.script.Script.{Script}
use Rattle.lapi_base.specs.declared.rule.Rules.{Rules}
use Rattle.lapi_base.specs.declared.event.Event.{Event}
use Rattle.lapi_base.specs.declared.event.Event.TheVariants.{Copy}
use Rattle.lapi_base.specs.declared.head.Head.{Head}
use Rattle.lapi_base.specs.declared.message.Leg.TheVariants.{Note}
use Rattle.lapi_base.specs.declared.message.MsgName.{MsgName}
use Rattle.lapi_base.specs.declared.packet.Packet.{Packet}
use Rattle.lapi_base.specs.declared.packet.Packet.TheVariants.{Data, Ack}
use Rattle.lapi_base.specs.declared.packet.DataPacket.{DataPacket}
use Rattle.lapi_base.specs.Packet.Layout.{layout_of, unit_of, longest_of}
use Rattle.lapi_base.specs.Packet.Spelling.{HasSpelling}
use Rattle.lapi_base.specs.Record.Atomic.{Atomic}
use Rattle.lapi_base.specs.Record.Fragments.{fragments_in}
use Rattle.lapi_base.specs.Record.Names.{message, name_eq}
use Rattle.lapi_base.specs.Record.Operations.{fragment_count, message_length}
use Rattle.lapi_base.specs.Record.Packets.{data_packet}
use Rattle.lapi_base.specs.Record.Valid.{ValidRules, ValidScript}
use Rattle.lapi_base.specs.Record.Values.{values}
use Rattle.lapi_base.specs.Laws.Answering.{IsSentAs}
use Rattle.lapi_base.specs.Laws.Entries.{carried}
use Rattle.lapi_base.proofs.LayoutLaws.{longest-fragments}
use Rattle.lapi_base.proofs.NameLaws.{name_eq-refl, happened-head}
use Rattle.lapi_laws.proofs.Shorts.{copied-short}
use Rattle.lapi_parts.proofs.CarriedLengths.{carried-length}
use Rattle.lapi_parts.proofs.SpelledPackets.{message-spelled}
use Rattle.lapi_task.specs.Landed.{Follower, MayLeave}
use Rattle.lapi_task.specs.Outgoing.{outgoing, packet_of}
use Rattle.lapi_task.proofs.Copying.MessageCopies.{packet-is}

-- what the packets have in common with this one
common : DataPacket → Packet → DataPacket
common o (Data p) = record p { seq = 0; fragment = 0; payload = [] }
common o (Ack layout from to base bits) = o

module _ (script : Script) (rules : Rules) where
  -- This goes from task t to task a, and is the message of the record that is copied after these events.
  pub record Follows (J : List Event) (t a : ℕ) (x : Follower) : Type 0 where
    pub from : x.packet.from ≡ t
    pub to : x.packet.to ≡ a
    pub is : outgoing script x.packet.name ≡ x.packet
    pub bytes : x.bytes ≡ carried script rules (Copy x.packet.name ∷ J) x.packet.name

  pub sent-is : (m : MsgName) (t a len : ℕ) (head : Head) → IsSentAs script rules m t a head len → outgoing script m ≡ record { layout = script.layout; from = t; to = a; seq = 0; name = m; head = head; length = len; fragment = 0; payload = [] }
  unfolding common data_packet
  sent-is m t a len head sent = ap (common (outgoing script m)) (sent 0 0 [])

  pub note-carries : (m : MsgName) (J : List Event) → let n = message m.origin m.statement Note in [] ≡ carried script rules (Copy n ∷ J) n
  unfolding values
  note-carries m J = let n = message m.origin m.statement Note in sym (cond-true (name_eq n n) [] (carried script rules J n) (name_eq-refl n))

  -- It may leave, once it is copied.
  pub may-leave : ValidScript script → ValidRules rules → (before : List Event) (t a : ℕ) (x : Follower) → Follows before t a x → Atomic script rules (Copy x.packet.name ∷ before) → MayLeave (unit_of script) x
  unfolding fragment_count unit_of longest_of
  may-leave valid ok before t a x f atomic =
      let m = x.packet.name in
      let K = Copy m ∷ before in
      let copied = happened-head (Copy m) before in
      let size : message_length script m ≡ x.packet.length = ap (λ (o : DataPacket). o.length) f.is in
      let short = copied-short script rules K m atomic copied in
      let longest = longest-fragments (layout_of script.layout) in
      record {
        size = ap length f.bytes ∙ carried-length script rules K m atomic copied ∙ size;
        short = omega (arith, short, longest, size);
        spelled = λ n j few lj.
            let spells = message-spelled script rules valid ok K m n j atomic copied few (subst (λ (o : DataPacket). j < fragments_in (unit_of script) o.length) (sym f.is) lj) in
            subst HasSpelling (packet-is script rules m n j (carried script rules K m) ∙ (λ i. packet_of (f.is i) (unit_of script) n j (sym f.bytes i))) (_, spells);
      }
