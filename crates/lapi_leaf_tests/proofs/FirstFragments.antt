-- The later of two fragments may be the first that comes to a link.
use Rattle.std.proofs.Common.{◌≡◌, ◌-◌, ◌*◌, ◌<◌, min, false, List, [], ◌∷◌, length, refl, sym, ◌∙◌, subst, arith}
use Rattle.std.specs.List.{AllByRecursion}
use Rattle.std.proofs.lemmas.Bool.{false≢true}
use Rattle.lapi_base.specs.declared.script.Script.{Script}
use Rattle.lapi_base.specs.declared.message.MsgName.{MsgName}
use Rattle.lapi_base.specs.declared.packet.DataPacket.{DataPacket}
use Rattle.lapi_base.specs.Packet.Layout.{unit_of, window_of}
use Rattle.lapi_base.specs.Record.Below.{least_missing, every_below}
use Rattle.lapi_base.specs.Record.Wires.{has_number}
use Rattle.lapi_base.specs.Record.Arrived.{has_fragment, some_packet, whole_by, number_bound, least_number, count_of}
use Rattle.lapi_link.specs.Receiver.{is_complete, IsPartOnly, MayArrive}

abbrev pub script : Script
script = record { layout = 1; tasks = 2; memory = 64; counters = 0; workers = 0; lists = [] }

pub has-window : window_of script ≡ 32
unfolding window_of
has-window = refl

pub has-unit : unit_of script ≡ 256
unfolding unit_of
has-unit = refl

none-missing : least_number [] ≡ 0
unfolding least_number number_bound least_missing
none-missing = refl

two-fragments : count_of script 257 ≡ 2
unfolding count_of unit_of
two-fragments = refl

in-part : (m : MsgName) → is_complete script [] m 257 ≡ false
unfolding count_of unit_of whole_by every_below has_fragment
in-part m = refl

few : (ms : List MsgName) → AllByRecursion (IsPartOnly script []) ms → length ms < 32
unfolding some_packet
few [] all = omega arith
few (m ∷ ms) all = absurd (cc)

pub may-arrive : (p : DataPacket) → p.seq ≡ 0 → p.length ≡ 257 → p.fragment ≡ 1 → length p.payload ≡ 1 → MayArrive script [] p
unfolding has_number has_fragment
may-arrive p seq len part size =
    let w = has-window in
    let u = has-unit in
    let l = none-missing in
    let c = two-fragments in
    record {
      number = omega (arith, seq);
      reach = omega (arith, seq, w, l);
      size = omega (arith, len, u);
      fragment = subst (λ n. p.fragment < count_of script n) (sym len) (omega (arith, part, c));
      payload = size ∙ sym (λ i. min (u i) (len i - u i * part i));
      heads = λ k q at. absurd (cc);
      payloads = λ k q at. absurd (cc);
      known = λ h. absurd (false≢true h);
      open_message = λ _. subst (λ n. is_complete script [] p.name n ≡ false) (sym len) (in-part p.name);
      missing = λ _. refl;
      room = λ _ _ ms _ all. subst (λ n. length ms < n) (sym w) (few ms all);
    }
