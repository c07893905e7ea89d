use Rattle.std.proofs.Common.{length, map, subst}
use Rattle.std.proofs.lemmas.List.{length-reverse}
use Rattle.lapi_base.proofs.ListLaws.{all-map}
use Rattle.lapi_base.specs.declared.event.Event.{Event}
use Rattle.lapi_base.specs.declared.schedule.Line.{Line}
use Rattle.lapi_base.specs.Output.CommandAnswers.{recorded}
use Rattle.lapi_base.specs.Packet.PacketBytes.{packet_size}
use Rattle.lapi_base.specs.Packet.Spelling.{spells_packet, refusal}
use Rattle.lapi_base.specs.Record.Valid.{ValidAct, ValidLine}
use Rattle.lapi_base.specs.Record.WorldView.{record_of}
use Rattle.lapi_audit.specs.declared.rule.Verdict.{Verdict}
use Rattle.lapi_tool.specs.Answered.{AuditTells, verdict_answer}
use Rattle.lapi_tool.specs.Outcomes.{CommandGives}
use Rattle.lapi_tool.proofs.audited.journals_are_told_atomic.Goals as goal

pub returns : goal.returns
unfolding record_of
returns c = λ rules x script schedule held now status short tells.
    let acts = map (λ (line : Line). line.act) x.schedule in
    let valid = all-map (ValidLine x.script spells_packet) (ValidAct x.script spells_packet) (λ (line : Line). line.act) x.schedule schedule.lines (λ line h. h.1) in
    let laws = c.journals_are_audited.ensures in
    let J = (recorded rules x).journal in
    let told = subst (λ r. AuditTells rules r held now status) (laws.read x.script rules spells_packet packet_size refusal acts valid script short) tells in
    let is = (laws.atomic x.script rules spells_packet packet_size refusal acts valid told.0).0 told.1 in
    subst (λ (v : Verdict). CommandGives (verdict_answer (length J) v) held now status) is
    (subst (λ n. CommandGives (verdict_answer n told.0) held now status) (length-reverse {A = Event} J) told.2)
