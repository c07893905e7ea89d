-- A packet on a wire may come to those that were handed over on it.
use Rattle.std.proofs.Common.{◌≡◌, ℕ, ◌*◌, ◌<◌, ◌≤◌, true, false, List, [], ◌∷◌, take, drop, Some, sym, ap, ◌∙◌, subst, arith}
use Rattle.std.specs.Prelude.{slice_get}
use Rattle.std.specs.List.{AllByRecursion}
use Rattle.std.proofs.lemmas.Bool.{both_ways, false_from_ne_true}
use Rattle.lapi_base.specs.declared.script.Script.{Script}
use Rattle.lapi_base.specs.declared.rule.Rules.{Rules}
use Rattle.lapi_base.specs.declared.message.MsgName.{MsgName}
use Rattle.lapi_base.specs.declared.event.Event.{Event}
use Rattle.lapi_base.specs.declared.packet.Packet.{Packet}
use Rattle.lapi_base.specs.declared.packet.Packet.TheVariants.{Data, Ack}
use Rattle.lapi_base.specs.declared.packet.DataPacket.{DataPacket}
use Rattle.lapi_base.specs.Record.Arrived.{has_some, has_fragment, whole_by, is_whole, count_of}
use Rattle.lapi_base.specs.Laws.Entries.{carried}
use Rattle.lapi_base.specs.Packet.Layout.{layout_of, unit_of, longest_of}
use Rattle.lapi_base.specs.Record.Operations.{message_length}
use Rattle.lapi_base.specs.Record.Packets.{data_packet}
use Rattle.lapi_base.specs.Laws.Receiving.{FitsScript, IsThereInPart}
use Rattle.lapi_base.specs.Record.Wires.{Run, is_delivered}
use Rattle.lapi_base.specs.Record.WorldView.{IsRecord}
use Rattle.lapi_laws.proofs.Out.{numbered-copied}
use Rattle.lapi_laws.proofs.Shorts.{copied-short}
use Rattle.lapi_laws.proofs.Sound.{Fits as IsOf}
use Rattle.lapi_link.specs.Receiver.{is_complete, IsPartOnly, MayArrive}
use Rattle.lapi_base.proofs.HeldPackets.{packet-found}
use Rattle.lapi_parts.proofs.ArrivingPackets.{counts-is, length-is, repeats-known}
use Rattle.lapi_parts.proofs.ExactBytes.{Exact, record-exact}
use Rattle.lapi_parts.proofs.InReach.{packets-in-reach}
use Rattle.lapi_parts.proofs.Receivable.{packets-fit, heads-agree, new-open, new-room}
use Rattle.lapi_parts.proofs.Records.{record-sound}
use Rattle.lapi_base.specs.Record.Valid.{ValidScript, ValidRules}
use Rattle.lapi_base.proofs.BelowLaws.{every_below-at}
use Rattle.lapi_base.proofs.LayoutLaws.{longest-fragments}
use Rattle.lapi_base.proofs.ListLaws.{all-get}
use Rattle.lapi_base.proofs.PacketNumbers.{some-there}

payload_in : Packet → List ℕ
payload_in (Data p) = p.payload
payload_in (Ack layout from to base bits) = []

module _ (script : Script) (rules : Rules) where
  payload-is : (J : List Event) (p : DataPacket) → Exact script rules J (Data p) → p.payload ≡ take (unit_of script) (drop (unit_of script * p.fragment) (carried script rules J p.name))
  unfolding data_packet payload_in
  payload-is J p x = ap payload_in x

  -- packets of one name and fragment carry the same bytes
  same-payload : (J : List Event) (p q : DataPacket) → Exact script rules J (Data p) → Exact script rules J (Data q) → q.name ≡ p.name → q.fragment ≡ p.fragment → q.payload ≡ p.payload
  same-payload J p q x y name fragment =
      payload-is J q y
      ∙ ap (λ (m : MsgName). take (unit_of script) (drop (unit_of script * q.fragment) (carried script rules J m))) name
      ∙ ap (λ (j : ℕ). take (unit_of script) (drop (unit_of script * j) (carried script rules J p.name))) fragment
      ∙ sym (payload-is J p x)

  fits-size : (n : ℕ) → n ≤ longest_of script → n ≤ 64 * unit_of script
  unfolding unit_of longest_of
  fits-size n l = let longest = longest-fragments (layout_of script.layout) in omega (arith, l, longest)

  -- a message with a fragment missing isn't complete
  is-open : (ps : List Packet) (m : MsgName) (len j : ℕ) → j < count_of script len → has_fragment ps m j ≡ false → is_complete script ps m len ≡ false
  unfolding whole_by
  is-open ps m len j l missing = false_from_ne_true _ (λ whole. both_ways _ missing (every_below-at (count_of script len) (has_fragment ps m) j whole l))

  -- What is there in part by the length of its packets is there in part.
  in-part : (J : List Event) (ps : List Packet) (m : MsgName) → AllByRecursion (Exact script rules J) ps → IsPartOnly script ps m → IsThereInPart script rules ps m
  unfolding is_whole
  in-part J ps m exact part =
      let q = part.0 in
      let at = packet-found ps m q part.1 in
      let size : q.length ≡ message_length script m = length-is script rules J q (all-get (Exact script rules J) ps at.0 (Data q) exact at.1) ∙ ap (message_length script) at.2 in (
        subst (λ (n : MsgName). has_some ps n ≡ true) at.2 (some-there ps at.0 q at.1),
        ap (λ n. whole_by n ps m) (counts-is script rules m ∙ ap (count_of script) (sym size)) ∙ part.2,
      )

  all-in-part : (J : List Event) (ps : List Packet) (ms : List MsgName) → AllByRecursion (Exact script rules J) ps → AllByRecursion (IsPartOnly script ps) ms → AllByRecursion (IsThereInPart script rules ps) ms
  all-in-part J ps [] exact all = tt
  all-in-part J ps (m ∷ ms) exact all = (in-part J ps m exact all.0, all-in-part J ps ms exact all.1)

  pub arriving-fits : ValidScript script → ValidRules rules → (r : Run) (a b k : ℕ) (p : DataPacket) → IsRecord script rules r → slice_get (r.wire a b) k ≡ Some (Data p) → MayArrive script (r.handed a b) p
  arriving-fits valid ok r a b k p is at =
      let J = r.journal in
      let ps = r.handed a b in
      let sound = record-sound script rules r is in
      let exact = record-exact script rules r is in
      let own = all-get (Exact script rules J) (r.wire a b) k (Data p) (exact.wires a b) at in
      let copied = (numbered-copied script J a b p.seq (p.name, p.fragment) (all-get (IsOf script rules J r.handed a b) (r.wire a b) k (Data p) (sound.wires a b) at)).0 in
      let fits : FitsScript script rules p = packets-fit script rules r is valid ok a b k p at in
      let missing : is_delivered r a b p.seq ≡ false → has_fragment ps p.name p.fragment ≡ false = λ fresh. (new-open script rules r is a b k p at fresh).1 in
      record {
        number = fits.number;
        reach = packets-in-reach script rules r is a b k p at;
        size = fits-size p.length (subst (λ (n : ℕ). n ≤ longest_of script) (sym (length-is script rules J p own)) (copied-short script rules J p.name sound.atomic copied));
        fragment = fits.fragment;
        payload = fits.payload;
        heads = λ j q there name. heads-agree script rules r is a b k j p q at there name;
        payloads = λ j q there name fragment. same-payload J p q own (all-get (Exact script rules J) ps j (Data q) (exact.hands a b) there) name fragment;
        known = repeats-known script rules r is a b k p at;
        open_message = λ fresh. is-open ps p.name p.length p.fragment fits.fragment (missing fresh);
        missing = missing;
        room = λ fresh none ms apart all. new-room script rules r is a b k p ms at fresh none apart (all-in-part J ps ms (exact.hands a b) all);
      }
