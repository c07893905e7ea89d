use Rattle.std.proofs.Common.{◌≡◌, Ok, ap, ⊎_elim}
use Rattle.lapi_base.specs.declared.reply.Bad.{Bad}
use Rattle.lapi_base.specs.declared.reply.Reply.TheVariants as replies
use Rattle.lapi_base.specs.Packet.Spelling.{refusal}
use Rattle.lapi_task.specs.declared.received.Received.TheVariants as received
use Rattle.lapi_world.proofs.Refusing.{is-refused, none-spelled}
use Rattle.lapi_world.proofs.network.refuse.Goals as goal

pub receive-requires-clause-stands : goal.receive-requires-clause-stands
receive-requires-clause-stands g c = λ p spells. absurd (none-spelled c.args.bytes.now p c.requires (c.spelling_laws.ensures.round_trip p c.args.bytes.now spells))

pub receive-requires-clause-may : goal.receive-requires-clause-may
receive-requires-clause-may g c = λ p spells. absurd (none-spelled c.args.bytes.now p c.requires (c.spelling_laws.ensures.round_trip p c.args.bytes.now spells))

pub returns-in_err-bad : goal.returns-in_err-bad
returns-in_err-bad g c =
    let told = c.receive.ensures.refused (refusal c.args.bytes.now) (is-refused c.args.bytes.now c.requires) in
    let done = told.0 in
    let failed = c.in_err-bad.was in
    absurd (cc)

pub unreachable-requires : goal.unreachable-requires
unreachable-requires g c =
    let told = c.receive.ensures.refused (refusal c.args.bytes.now) (is-refused c.args.bytes.now c.requires) in
    let done = told.0 in
    let was = c.in_ok-bad.was in
    ⊎_elim (λ (e : c.in_ok-bad.field-0 ≡ received.Data). cc) (λ (e : c.in_ok-bad.field-0 ≡ received.Ack). cc) c.in-Data.is

pub returns : goal.returns
returns g c =
    let told = c.receive.ensures.refused (refusal c.args.bytes.now) (is-refused c.args.bytes.now c.requires) in
    let done = told.0 in
    let was = c.in_ok-bad.was in
    let named = c.in-Refused.is in
    let same : c.in-Refused.bad ≡ refusal c.args.bytes.now = cc in
    (ap (λ (bad : Bad). Ok (replies.Bad bad)) same, told.1)
