use Rattle.std.proofs.Common.{◌≡◌, ℕ, ◌+◌, ◌<◌, Option, map, max, refl, sym, ap, ◌∙◌, subst, arith}
use Rattle.lapi_base.specs.declared.packet.DataPacket.{DataPacket}
use Rattle.lapi_base.specs.declared.packet.Packet.TheVariants.{Data}
use Rattle.lapi_base.specs.Record.Fragments.{fragments_in}
use Rattle.lapi_base.specs.Record.Operations.{numbers_below}
use Rattle.lapi_base.specs.Packet.Spelling.{HasSpelling}
use Rattle.lapi_base.specs.Packet.PacketBytes as written
use Rattle.lapi_link.specs.Sender.{SendingEnd, appended}
use Rattle.lapi_task.specs.Outgoing.{packet_of, bytes_of, extended}
use Rattle.lapi_task.proofs.Sending.MessagePackets.{extended-none, extended-more, extended-count, fragment-count}
use Rattle.lapi_task.proofs.packet.append_message.Goals as goal

pub append-requires : goal.append-requires
append-requires c =
    let o = c.args.packet in
    let j = c.loop-fragment.fragment in
    let lt : j < fragments_in c.args.unit o.length = (let e = fragment-count c.args.unit o.length c.requires.unit.0 in let f = c.div_ceil.ensures in let g = c.max-fragment-end.ensures in let h = c.loop-fragment-test.true in subst (λ (k : ℕ). j < k) (g ∙ ap (λ (k : ℕ). max k 1) f ∙ e) h) in
    let same : packet_of c.loop-fragment.packet c.args.unit c.numbers.result j c.args.bytes.now ≡ packet_of o c.args.unit c.numbers.result j c.args.bytes.now = ap (λ (p : DataPacket). packet_of p c.args.unit c.numbers.result j c.args.bytes.now) c.loop-fragment.invariant.common in
    let payload : Data (record c.loop-fragment.packet { seq = c.numbers.result; fragment = j; payload = c.payload_of-packet.result }) ≡ packet_of c.loop-fragment.packet c.args.unit c.numbers.result j c.args.bytes.now = ap (λ (bytes : _). Data (record c.loop-fragment.packet { seq = c.numbers.result; fragment = j; payload = bytes })) c.payload_of-packet.ensures in
    subst HasSpelling (sym (payload ∙ same)) (c.requires.spelled c.numbers.result j c.numbers.type_inv lt)

pub loop-fragment-preserved : goal.loop-fragment-preserved
loop-fragment-preserved c =
    let o = c.args.packet in
    let s = c.args.sender.now in
    let bytes = c.args.bytes.now in
    let j = c.loop-fragment.fragment in
    let f = bytes_of o c.args.unit s.window.numbers bytes in
    let seq : c.numbers.result ≡ s.window.numbers + j = c.numbers.ensures ∙ ap (λ (w : _). w.numbers) c.window.ensures ∙ ap (λ (x : SendingEnd). x.window.numbers) c.loop-fragment.invariant.sent ∙ extended-count s c.tag_of-tag.result f j in
    let packet : Data (record c.loop-fragment.packet { seq = c.numbers.result; fragment = j; payload = c.payload_of-packet.result }) ≡ packet_of o c.args.unit (s.window.numbers + j) j bytes =
    (λ k. Data (record c.loop-fragment.packet { seq = c.numbers.result; fragment = j; payload = c.payload_of-packet.ensures k }))
    ∙ ap (λ (p : DataPacket). packet_of p c.args.unit c.numbers.result j bytes) c.loop-fragment.invariant.common
    ∙ ap (λ (n : ℕ). packet_of o c.args.unit n j bytes) seq in
    record {
      sent =
          c.in_ok-append.ensures
          ∙ (λ k. appended (c.loop-fragment.invariant.sent k) (written.packet (packet k)) c.tag_of-tag.result)
          ∙ extended-more s c.tag_of-tag.result f j;
      common = ap (λ (p : DataPacket). record p { seq = c.numbers.result; fragment = j; payload = c.payload_of-packet.result }) c.loop-fragment.invariant.common;
    }

pub loop-fragment-init : goal.loop-fragment-init
loop-fragment-init c = record { sent = extended-none c.args.sender.now c.tag_of-tag.result (bytes_of c.args.packet c.args.unit c.args.sender.now.window.numbers c.args.bytes.now); common = refl }

pub returns : goal.returns
returns c =
    let o = c.args.packet in
    let s = c.args.sender.now in
    let f = bytes_of o c.args.unit s.window.numbers c.args.bytes.now in
    let end : c.max-fragment-end.result ≡ fragments_in c.args.unit o.length = c.max-fragment-end.ensures ∙ ap (λ (k : ℕ). max k 1) c.div_ceil.ensures ∙ fragment-count c.args.unit o.length c.requires.unit.0 in
    c.loop-fragment.invariant.sent ∙ ap (λ (k : ℕ). extended s c.tag_of-tag.result (map f (numbers_below k))) (let e : c.loop-fragment.fragment ≡ fragments_in c.args.unit o.length = omega (arith, c.loop-fragment-test.false, c.loop-fragment.auto.fragment-end, end) in e) ∙ ap (λ (x : Option ℕ). extended s x (map f (numbers_below (fragments_in c.args.unit o.length)))) c.tag_of-tag.ensures
