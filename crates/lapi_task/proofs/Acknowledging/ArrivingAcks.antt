-- What an acknowledgement that comes in tells the sending end of the link.
use Rattle.std.proofs.Common.{◌≡◌, ℕ, ◌+◌, ◌<◌, ◌==◌, true, false, cond, ◌&&◌, ◌||◌, List, [], ◌∷◌, length, map, get_or, Option, Some, None, refl, sym, ap, ◌∙◌, subst}
use Rattle.std.specs.Prelude.{slice_get, slice_set, nat_lt}
use Rattle.std.specs.Vec.{with_item}
use Rattle.std.proofs.Math.Bool.{or_comm}
use Rattle.std.proofs.lemmas.Bool.{cond-true, and_from, or_parts, eqb-true, eqb-false, ltb-true}
use Rattle.std.proofs.lemmas.List.{append-nil, length-set}
use Rattle.lapi_base.specs.declared.script.Script.{Script}
use Rattle.lapi_base.specs.declared.rule.Rules.{Rules}
use Rattle.lapi_base.specs.declared.message.MsgName.{MsgName}
use Rattle.lapi_base.specs.declared.packet.Packet.{Packet}
use Rattle.lapi_base.specs.declared.packet.Packet.TheVariants.{Ack}
use Rattle.lapi_base.specs.declared.packet.DataPacket.{DataPacket}
use Rattle.lapi_base.specs.declared.reply.Reply.TheVariants.{Did}
use Rattle.lapi_base.specs.Record.Arrived.{has_fragment, some_packet, payload_of, whole_by}
use Rattle.lapi_base.specs.Record.Wires.{Run, has_number, has_ack}
use Rattle.lapi_base.specs.Record.Acts.{with_handed, hand_over, deliver_entry, deliver, reply_with, followed}
use Rattle.lapi_base.specs.Packet.PacketBytes as written
use Rattle.lapi_base.proofs.ListLaws.{at-place, get-set, get-set-other}
use Rattle.lapi_base.proofs.TestLaws.{eqb-refl}
use Rattle.lapi_link.specs.Receiver.{ReceivingEnd, partial_by, partial_of, ReceivesFor}
use Rattle.lapi_link.specs.Sender.{SendingEnd, IsAcked}
use Rattle.lapi_parts.proofs.Receivable.{acks-cover-sent}
use Rattle.lapi_window.specs.NumberSet.{is_covered}
use Rattle.lapi_window.specs.SendWindow.{sent_count}
use Rattle.lapi_window.specs.SendWindow as window
use Rattle.lapi_task.specs.declared.outcome.Outcome.{Outcome}
use Rattle.lapi_task.specs.declared.task.Task.{Task}
use Rattle.lapi_task.specs.HasEffect.{IsAt, HasEffect}
use Rattle.lapi_task.specs.Sends.{SendsFor, packet_at}
use Rattle.lapi_task.specs.StandsFor.{SenderAt, ReceiverAt, StandsFor}
use Rattle.lapi_task.proofs.Standing.Tags.{tags-acked}
use Rattle.lapi_task.specs.declared.unfinished.Unfinished.{Unfinished}
use Rattle.lapi_task.specs.Unfinished.{Tracks}

module _ (script : Script) (ps : List Packet) (l x y base bits : ℕ) where
  -- Among packets that were handed over, an acknowledgement tells of no number and of no fragment,
  same-partial : (m : MsgName) (o : Option DataPacket) → partial_by script ps m o ≡ partial_by script (Ack l x y base bits ∷ ps) m o
  unfolding has_fragment payload_of whole_by
  same-partial m None = refl
  same-partial m (Some p) = refl

  receives-ack : (s : ReceivingEnd) → ReceivesFor script s ps → ReceivesFor script s (Ack l x y base bits ∷ ps)
  unfolding has_number some_packet partial_of
  receives-ack s h = record {
    window = h.window;
    sizes = h.sizes;
    taken = h.taken;
    numbers = h.numbers;
    partials = λ m. h.partials m ∙ same-partial m (some_packet ps m);
  }

  receiver-ack : (rules : Rules) (o : Option ReceivingEnd) → ReceiverAt script rules ps o → ReceiverAt script rules (Ack l x y base bits ∷ ps) o
  receiver-ack rules None h = absurd h
  receiver-ack rules (Some s) h = (receives-ack s h.0, h.1)

  -- but of what it covers.
  acks-more : (n : ℕ) → has_ack (Ack l x y base bits ∷ ps) n ≡ (is_covered base bits n || has_ack ps n)
  unfolding has_ack is_covered
  acks-more n = refl

module _ (script : Script) (rules : Rules) (r : Run) (from t k l x y base bits : ℕ) where
  -- the record with the acknowledgement handed over
  abbrev pub noted : Run
  noted = reply_with script rules (with_handed script rules r from t (Ack l x y base bits)) Did

  pub delivered : slice_get (r.wire from t) k ≡ Some (Ack l x y base bits) → deliver script rules r from t k ≡ noted
  unfolding deliver hand_over
  delivered entry = ap (deliver_entry script rules r from t) entry

  pub handed-own : noted.handed from t ≡ Ack l x y base bits ∷ r.handed from t
  handed-own = cond-true (from == from && t == t) (Ack l x y base bits ∷ r.handed from t) (r.handed from t) (and_from _ _ (eqb-refl from) (eqb-refl t))

  pub handed-other : (b : ℕ) → (b == from) ≡ false → noted.handed b t ≡ r.handed b t
  handed-other b apart = ap (λ c. cond (c && t == t) (Ack l x y base bits ∷ r.handed b t) (r.handed b t)) apart

  -- Its own link has what it covers acknowledged too, and other links stay.
  sends-own : (old new : SendingEnd) → IsAcked old new base bits → SendsFor script rules old r t from → SendsFor script rules new noted t from
  sends-own old new g h = record {
    numbers = record {
      size = g.size ∙ h.numbers.size;
      numbers = g.numbers ∙ h.numbers.numbers;
      sent = λ n. h.numbers.sent n ∙ ap (nat_lt n) (sym g.sent);
      acked = λ n.
          ap (λ (ps : List Packet). has_ack ps n) handed-own
          ∙ acks-more script (r.handed from t) l x y base bits n
          ∙ ap (λ b. is_covered base bits n || b) (h.numbers.acked n)
          ∙ or_comm (is_covered base bits n) (window.is_acked old.window n)
          ∙ sym (g.acked n);
    };
    whole = (λ i. g.sent i + length (g.waiting i)) ∙ h.whole ∙ sym g.numbers;
    kept = λ n lt left. g.bytes n left ∙ h.kept n (subst (λ m. n < m) g.sent lt) (or_parts (window.is_acked old.window n) (is_covered base bits n) (sym (g.acked n) ∙ left)).0;
    waiting = λ i. ap (λ (ws : List (List ℕ)). slice_get ws i) g.waiting ∙ h.waiting i ∙ ap (λ m. packet_at script rules r.journal t from (m + i)) (sym g.sent);
    tags = tags-acked script old new base bits r.journal t from g h.tags;
  }

  sends-other : (b : ℕ) → (b == from) ≡ false → (s : SendingEnd) → SendsFor script rules s r t b → SendsFor script rules s noted t b
  sends-other b apart s h = record {
    numbers = record {
      size = h.numbers.size;
      numbers = h.numbers.numbers;
      sent = h.numbers.sent;
      acked = λ n. ap (λ (ps : List Packet). has_ack ps n) (handed-other b apart) ∙ h.numbers.acked n;
    };
    whole = h.whole;
    kept = h.kept;
    waiting = h.waiting;
    tags = h.tags;
  }

  sender-other : (b : ℕ) → (b == from) ≡ false → (o : Option SendingEnd) → SenderAt script rules r t b o → SenderAt script rules noted t b o
  sender-other b apart None h = absurd h
  sender-other b apart (Some s) h = sends-other b apart s h

  receiver-after : (a : ℕ) (o : Option ReceivingEnd) → ReceiverAt script rules (r.handed a t) o → ReceiverAt script rules (noted.handed a t) o
  receiver-after a o h =
      elim (a == from) as (λ c. (a == from) ≡ c → ReceiverAt script rules (noted.handed a t) o) [
        | true ↦ λ e. subst (λ n. ReceiverAt script rules (r.handed n t) o → ReceiverAt script rules (noted.handed n t) o) (sym (eqb-true a from e)) (λ own. subst (λ ps. ReceiverAt script rules ps o) (sym handed-own) (receiver-ack script (r.handed from t) l x y base bits rules o own)) h
        | false ↦ λ e. subst (λ ps. ReceiverAt script rules ps o) (sym (handed-other a e)) h
      ] refl

  -- the task with another end of the link, and with what is not done then
  abbrev pub with_sender : Task → SendingEnd → Unfinished → Task
  with_sender task new u = record task { senders = with_item task.senders from new; unfinished = u }

  stands-after : (task : Task) (old new : SendingEnd) (u : Unfinished) → Tracks script rules t u noted → slice_get task.senders.items from ≡ Some old → IsAcked old new base bits → SendsFor script rules old r t from → StandsFor script rules t task r → StandsFor script rules t (with_sender task new u) noted
  stands-after task old new u tracks there g own h =
      let ends = task.senders.items in
      record {
        calls = record { valid = h.calls.valid; rules_valid = h.calls.rules_valid; sizes = h.calls.sizes; statements = h.calls.statements; limits = h.calls.limits; rounds = h.calls.rounds };
        holds = h.holds;
        unfinished = tracks;
        sender_count = length-set ends from new ∙ h.sender_count;
        receiver_count = h.receiver_count;
        senders = λ b lt.
            elim (b == from) as (λ c. (b == from) ≡ c → SenderAt script rules noted t b (slice_get (slice_set ends from new) b)) [
              | true ↦ λ e.
                  subst (λ n. SenderAt script rules noted t n (slice_get (slice_set ends from new) n)) (sym (eqb-true b from e))
                  (subst (SenderAt script rules noted t from) (sym (get-set ends from old new there)) (sends-own old new g own))
              | false ↦ λ e. subst (SenderAt script rules noted t b) (sym (get-set-other ends from b new (eqb-false b from e))) (sender-other b e (slice_get ends b) (h.senders b lt))
            ] refl;
        receivers = λ a lt. receiver-after a (slice_get task.receivers.items a) (h.receivers a lt);
        owed_count = h.owed_count;
        owed = h.owed;
      }

  same-journal : noted.journal ≡ followed r.journal []
  unfolding followed
  same-journal = refl

  noted-does : (task : Task) (out : Outcome) → StandsFor script rules t task noted → HasEffect script rules t r noted task out out
  noted-does task out h = record {
    events = [];
    entries = [];
    stands = h;
    journal = same-journal;
    events_added = sym (append-nil out.events);
    put = λ b lt. sym (append-nil (map written.packet (r.wire t b)));
    entries_added = sym (append-nil out.entries);
    ends = tt;
  }

  module _ (task : Task) (at : IsAt script rules t task r) (known : from < script.tasks) (entry : slice_get (r.wire from t) k ≡ Some (Ack l x y base bits)) (end : SendingEnd) (read : end ≡ get_or task.senders.items from end) where
    pub here : (slice_get task.senders.items from ≡ Some end) × SendsFor script rules end r t from
    here =
        let ends = task.senders.items in
        elim (slice_get ends from) as (λ o. slice_get ends from ≡ o → SenderAt script rules r t from o → (o ≡ Some end) × SendsFor script rules end r t from) [
          | None ↦ λ _ h. absurd h
          | Some s ↦ λ e h. let same = at-place ends from s end e read in (ap Some (sym same), subst (λ z. SendsFor script rules z r t from) (sym same) h)
        ] refl (at.stands.senders from known)

    -- It covers numbers alone that were sent,
    pub covers-sent : (n : ℕ) → is_covered base bits n ≡ true → n < sent_count end.window
    unfolding is_covered
    covers-sent n covered = ltb-true n (sent_count end.window) (sym (here.1.numbers.sent n) ∙ acks-cover-sent script rules r at.recorded from t k n (Ack l x y base bits) entry covered)

    -- and so the task is told of it.
    pub acked-does : (new : SendingEnd) (u : Unfinished) → Tracks script rules t u noted → IsAcked end new base bits → (out : Outcome) → HasEffect script rules t r (deliver script rules r from t k) (with_sender task new u) out out
    acked-does new u tracks g out =
        subst (λ s. HasEffect script rules t r s (with_sender task new u) out out) (sym (delivered entry))
        (noted-does (with_sender task new u) out (stands-after task end new u tracks here.0 g here.1 at.stands))
