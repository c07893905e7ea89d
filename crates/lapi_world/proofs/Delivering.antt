-- A delivery, by what stands on the wire.
use Rattle.std.proofs.Common.{◌≡◌, ℕ, ◌+◌, ◌*◌, ◌<◌, List, [], ◌∷◌, ◌++◌, map, get_or, Option, Some, None, refl, sym, ap, ◌∙◌, subst, arith}
use Rattle.std.specs.Prelude.{slice_get, option_map}
use Rattle.std.proofs.lemmas.Option.{slice_get-map}
use Rattle.std.proofs.lemmas.Nat.{mul-add-lt}
use Rattle.lapi_base.specs.declared.script.Script.{Script}
use Rattle.lapi_base.specs.declared.rule.Rules.{Rules}
use Rattle.lapi_base.specs.declared.schedule.Act.TheVariants.{Deliver}
use Rattle.lapi_base.specs.declared.packet.Packet.{Packet}
use Rattle.lapi_base.specs.declared.packet.Packet.TheVariants.{Data, Ack}
use Rattle.lapi_base.specs.declared.reply.Reply.{Reply}
use Rattle.lapi_base.specs.declared.reply.Reply.TheVariants.{Did, Absent}
use Rattle.lapi_base.specs.Record.Wires.{Run}
use Rattle.lapi_base.specs.Record.Acts.{deliver, deliver_entry, hand_over, reply_with}
use Rattle.lapi_base.specs.Record.Valid.{ValidRules, ValidScript}
use Rattle.lapi_base.specs.Record.WorldView.{IsRecord, performed}
use Rattle.lapi_base.specs.Packet.Spelling.{Spells}
use Rattle.lapi_base.specs.Packet.PacketBytes as written
use Rattle.lapi_base.proofs.ListLaws.{found-at}
use Rattle.lapi_link.specs.Sender.{SendingEnd}
use Rattle.lapi_base.proofs.Spellings.{one_packet}
use Rattle.lapi_parts.proofs.SpelledPackets.{packets-written}
use Rattle.lapi_task.specs.declared.task.Task.{Task}
use Rattle.lapi_task.specs.MayReceive.{MayReceive, WiresMayCome}
use Rattle.lapi_task.specs.StandsFor.{SenderAt}
use Rattle.lapi_world.specs.declared.network.Network.{Network}
use Rattle.lapi_world.specs.Stands.{TaskAt, Stands}
use Rattle.lapi_world.proofs.Acts.{task-found, task-read, performed-deliver}
use Rattle.lapi_base.specs.Laws.Copying.{numbers_that}
use Rattle.lapi_base.specs.Record.Wires.{data_done, all_numbers}
use Rattle.lapi_task.specs.declared.unfinished.Unfinished.{Unfinished}
use Rattle.lapi_task.specs.Unfinished.{Tracks}

module _ (script : Script) (rules : Rules) where
  deliver-none : (r : Run) (a b k : ℕ) → slice_get (r.wire a b) k ≡ None → performed script rules r (Deliver a b k) ≡ reply_with script rules r Absent
  unfolding deliver
  deliver-none r a b k e = performed-deliver script rules r a b k ∙ ap (deliver_entry script rules r a b) e

  deliver-some : (r : Run) (a b k : ℕ) (p : Packet) → slice_get (r.wire a b) k ≡ Some p → performed script rules r (Deliver a b k) ≡ reply_with script rules (hand_over script rules r a b p) Did
  unfolding deliver
  deliver-some r a b k p e = performed-deliver script rules r a b k ∙ ap (deliver_entry script rules r a b) e

  -- Where there is no entry, the reply is all that is added.
  module _ (r : Run) (reply : Reply) where
    abbrev replied : Run
    replied = reply_with script rules r reply

    sender-with : (a b : ℕ) (o : Option SendingEnd) → SenderAt script rules r a b o → SenderAt script rules replied a b o
    sender-with a b None h = absurd h
    sender-with a b (Some s) h = record {
      numbers = record { size = h.numbers.size; numbers = h.numbers.numbers; sent = h.numbers.sent; acked = h.numbers.acked };
      whole = h.whole;
      kept = h.kept;
      waiting = h.waiting;
      tags = h.tags;
    }

    unfinished-with : (t : ℕ) (u : Unfinished) → Tracks script rules t u r → Tracks script rules t u replied
    unfolding data_done all_numbers numbers_that
    unfinished-with t u h = record { size = h.size; undone = h.undone; left = h.left }

    task-with : (t : ℕ) (o : Option Task) → TaskAt script rules r t o → TaskAt script rules replied t o
    task-with t None h = absurd h
    task-with t (Some task) h = record {
      calls = h.calls;
      holds = h.holds;
      unfinished = unfinished-with t task.unfinished h.unfinished;
      sender_count = h.sender_count;
      receiver_count = h.receiver_count;
      senders = λ b l. sender-with t b (slice_get task.senders.items b) (h.senders b l);
      receivers = h.receivers;
      owed_count = h.owed_count;
      owed = h.owed;
    }

    pub network-with : (network : Network) → Stands script rules network r → Stands script rules network replied
    network-with network h = record {
      journal = h.journal;
      task_count = h.task_count;
      wire_count = h.wire_count;
      tasks = λ t l. task-with t (slice_get network.tasks.items t) (h.tasks t l);
      wires = h.wires;
    }

  -- The wire that is read.
  read-wire : (network : Network) (r : Run) (a b place : ℕ) (wire : List (List ℕ)) → Stands script rules network r → a < script.tasks → b < script.tasks → place ≡ a * script.tasks + b → wire ≡ get_or network.wires.items place wire → wire ≡ map written.packet (r.wire a b)
  read-wire network r a b place wire h la lb is e =
      let room = mul-add-lt a script.tasks b script.tasks la lb in
      let found = found-at network.wires.items place wire (omega (arith, room, is, h.wire_count)) e in
      let told = h.wires a b la lb in
      let same : Some wire ≡ Some (map written.packet (r.wire a b)) = sym found ∙ ap (slice_get network.wires.items) is ∙ told in
      cc

  no-packet : (o : Option Packet) → option_map written.packet o ≡ None → o ≡ None
  no-packet None e = refl
  no-packet (Some p) e = absurd (cc)

  some-packet : (o : Option Packet) (bytes : List ℕ) → option_map written.packet o ≡ Some bytes → (p : Packet) × (o ≡ Some p) × (bytes ≡ written.packet p)
  some-packet None bytes e = absurd (cc)
  some-packet (Some p) bytes e = (p, refl, (let q : bytes ≡ written.packet p = cc in q))

  module _ (network : Network) (r : Run) (a b k place : ℕ) (wire : List (List ℕ)) (h : Stands script rules network r) (la : a < script.tasks) (lb : b < script.tasks) (at : place ≡ a * script.tasks + b) (e : wire ≡ get_or network.wires.items place wire) where
    entry-is : option_map written.packet (slice_get (r.wire a b) k) ≡ slice_get wire k
    entry-is = sym (slice_get-map written.packet (r.wire a b) k) ∙ ap (λ (ws : List (List ℕ)). slice_get ws k) (sym (read-wire network r a b place wire h la lb at e))

    pub none-there : slice_get wire k ≡ None → slice_get (r.wire a b) k ≡ None
    none-there none = no-packet (slice_get (r.wire a b) k) (entry-is ∙ none)

    pub absent-stands : slice_get wire k ≡ None → Stands script rules network (performed script rules r (Deliver a b k))
    absent-stands none = subst (Stands script rules network) (sym (deliver-none r a b k (none-there none))) (network-with r Absent network h)

    pub absent-replies : slice_get wire k ≡ None → (performed script rules r (Deliver a b k)).replies ≡ r.replies ++ Absent ∷ []
    absent-replies none = ap (λ (q : Run). q.replies) (deliver-none r a b k (none-there none))

    valid-rules : ValidRules rules
    valid-rules = let some = task-found script rules r b network h lb in (subst (TaskAt script rules r b) some.1 (h.tasks b lb)).calls.rules_valid

    -- The entry that is read spells the packet at its place.
    pub entry-spells : ValidScript script → IsRecord script rules r → (bytes : List ℕ) → slice_get wire k ≡ Some bytes → (p : Packet) × (slice_get (r.wire a b) k ≡ Some p) × Spells p bytes
    entry-spells perf is bytes found =
        let some = some-packet (slice_get (r.wire a b) k) bytes (entry-is ∙ found) in
        (some.0, some.1, subst (Spells some.0) (sym some.2) (packets-written script rules r is perf valid-rules a b k some.0 some.1))

    pub may-come : WiresMayCome → ValidScript script → IsRecord script rules r → (bytes : List ℕ) → slice_get wire k ≡ Some bytes → (task : Task) → task ≡ get_or network.tasks.items b task → (p : Packet) → Spells p bytes → MayReceive task a p
    may-come law perf is bytes found task read p spells =
        let entry = entry-spells perf is bytes found in
        law script rules b task r a k p (task-read script rules r b network task is h lb read) (entry.1 ∙ ap Some (one_packet entry.0 p bytes entry.2 spells))

  hand-replies : (r : Run) (a b : ℕ) (p : Packet) → (hand_over script rules r a b p).replies ≡ r.replies
  unfolding hand_over
  hand-replies r a b (Data p) = refl
  hand-replies r a b (Ack layout from to base bits) = refl

  pub did-replies : (r : Run) (a b k : ℕ) (p : Packet) → slice_get (r.wire a b) k ≡ Some p → (performed script rules r (Deliver a b k)).replies ≡ r.replies ++ Did ∷ []
  did-replies r a b k p e = ap (λ (q : Run). q.replies) (deliver-some r a b k p e) ∙ ap (λ (rs : List Reply). rs ++ Did ∷ []) (hand-replies r a b p)
