-- Two records with the same part at a task go on alike there.
use Rattle.std.proofs.Common.{◌≡◌, ℕ, ◌==◌, true, false, cond, ◌&&◌, ◌||◌, not, List, [], ◌∷◌, ◌++◌, length, Option, Some, None, refl, sym, ap, ◌∙◌, subst}
use Rattle.std.specs.Prelude.{slice_get, nat_lt, nat_le}
use Rattle.lapi_base.specs.declared.script.Script.{Script}
use Rattle.lapi_base.specs.declared.rule.Rules.{Rules}
use Rattle.lapi_base.specs.declared.statement.Statement.{Statement}
use Rattle.lapi_base.specs.declared.statement.Statement.TheVariants.{Wait, Fence, Gfence}
use Rattle.lapi_base.specs.declared.message.MsgName.{MsgName}
use Rattle.lapi_base.specs.declared.refusal.Refusal.{Refusal}
use Rattle.lapi_base.specs.declared.event.Event.{Event}
use Rattle.lapi_base.specs.declared.event.Event.TheVariants.{Enter, Pass}
use Rattle.lapi_base.specs.declared.schedule.Act.{Act}
use Rattle.lapi_base.specs.declared.schedule.Act.TheVariants.{Step, Poll, Tick, Deliver, Cut, Inject}
use Rattle.lapi_base.specs.declared.reply.Reply.{Reply}
use Rattle.lapi_base.specs.declared.reply.Reply.TheVariants.{Did, Blocked, Absent, Idle, Busy}
use Rattle.lapi_base.specs.declared.packet.Packet.{Packet}
use Rattle.lapi_base.specs.declared.packet.Packet.TheVariants.{Data, Ack}
use Rattle.lapi_base.specs.declared.packet.DataPacket.{DataPacket}
use Rattle.lapi_base.specs.Packet.Layout.{holds_back}
use Rattle.lapi_base.specs.Packet.Spelling.{refusal}
use Rattle.lapi_base.specs.Packet.PacketBytes.{packet_size}
use Rattle.lapi_base.specs.Record.Names.{Entered, happened}
use Rattle.lapi_base.specs.Record.Operations.{statements, statement}
use Rattle.lapi_base.specs.Record.Refusals.{next, joined, refusal_of}
use Rattle.lapi_base.specs.Record.Jobs.{queue, runs}
use Rattle.lapi_base.specs.Record.Wires.{Run, has_number, is_delivered, data_clear, ack}
use Rattle.lapi_base.specs.Record.Acts.{followed, first_delivery, at_once, with_handed, with_events, hand_over, deliver_entry, deliver, reply_with, event_if, proposed, unless_refused, add_event, step, poll, tick, begin_first, begin_at, begin, end_at, end, after_end, cut_entry, perform}
use Rattle.lapi_base.specs.Record.WorldView.{IsRecord, performed}
use Rattle.lapi_base.specs.Record.TaskPart.{is_at, events_at, part_at, actor}
use Rattle.lapi_base.specs.Record.Arrived.{ack_of, comes}
use Rattle.lapi_base.specs.Laws.Locality.{polled, ticked, SameStatements, SameLinks, SameJobs, IsToldByPart, entry_of, ActsAlike}
use Rattle.lapi_parts.proofs.SameParts.{SamePart, same-part, told-statements, told-links, told-jobs}
use Rattle.lapi_parts.proofs.ArrivingPackets.{next-acks-told, arrivals-told}

module _ (script : Script) (rules : Rules) (t : ℕ) (r s : Run) where
  -- q and p come of r and s with one reply, and have the same part at t
  pub record Alike (q p : Run) : Type 0 where
    pub reply : Reply
    pub first : q.replies ≡ r.replies ++ reply ∷ []
    pub second : p.replies ≡ s.replies ++ reply ∷ []
    pub part : SamePart script rules t q p

  module _ (same : SamePart script rules t r s) where
    -- the same reply alone
    only-reply : (reply : Reply) → Alike (reply_with script rules r reply) (reply_with script rules s reply)
    only-reply reply = record { reply = reply; first = refl; second = refl; part = record { events = same.events; put = same.put; handed = same.handed; owed = same.owed } }

    -- the same events
    events-more : (es J K : List Event) → events_at script t J ≡ events_at script t K → events_at script t (followed J es) ≡ events_at script t (followed K es)
    unfolding followed events_at
    events-more [] J K h = h
    events-more (e ∷ es) J K h = events-more es (e ∷ J) (e ∷ K) (ap (λ L. cond (is_at script t e) (e ∷ L) L) h)

    with-alike : (es : List Event) (reply : Reply) → Alike (reply_with script rules (with_events script rules r es) reply) (reply_with script rules (with_events script rules s es) reply)
    with-alike es reply = record { reply = reply; first = refl; second = refl; part = record { events = events-more es r.journal s.journal same.events; put = same.put; handed = same.handed; owed = same.owed } }

    -- Step.
    proposed-same : SameStatements script rules t r s → (i : ℕ) (st : Statement) → proposed script rules r t i st ≡ proposed script rules s t i st
    proposed-same h i (Wait counter value) = ap (λ n. event_if script rules (nat_le value n) (Pass t i)) (h.counters counter)
    proposed-same h i Fence = ap (λ b. event_if script rules b (Pass t i)) (h.clear i)
    proposed-same h i Gfence =
        ap (λ b. cond b (event_if script rules (joined script r.journal t i) (Pass t i)) (event_if script rules (data_clear script r t i) (Enter t i))) (h.same_events (Entered t i) refl)
        ∙ ap (λ b. cond (happened (Entered t i) s.journal) (event_if script rules b (Pass t i)) (event_if script rules (data_clear script r t i) (Enter t i))) (h.joined i)
        ∙ ap (λ b. cond (happened (Entered t i) s.journal) (event_if script rules (joined script s.journal t i) (Pass t i)) (event_if script rules b (Enter t i))) (h.clear i)
    proposed-same h i (Statement.Addr at) =
        ap (λ b. cond b (event_if script rules (joined script r.journal t i) (Pass t i)) (Some (Enter t i))) (h.same_events (Entered t i) refl)
        ∙ ap (λ b. cond (happened (Entered t i) s.journal) (event_if script rules b (Pass t i)) (Some (Enter t i))) (h.joined i)
    proposed-same h i _ = refl

    unless-same : SameStatements script rules t r s → (i : ℕ) (o : Option Refusal) → unless_refused script rules r t i o ≡ unless_refused script rules s t i o
    unless-same h i (Some reason) = refl
    unless-same h i None = proposed-same h i (statement script t i)

    add-alike : (o : Option Event) → Alike (add_event script rules r o) (add_event script rules s o)
    add-alike None = only-reply Blocked
    add-alike (Some e) = with-alike (e ∷ []) Did

    step-alike : SameStatements script rules t r s → Alike (step script rules r t) (step script rules s t)
    unfolding step
    step-alike h =
        let next-event = λ (q : Run) (i : ℕ). unless_refused script rules q t i (refusal_of script rules q.journal t i) in
        let go = λ (q : Run) (i : ℕ) (o : Option Event). cond (nat_lt i (length (statements script t))) (add_event script rules q o) (reply_with script rules q Idle) in
        let i = next s.journal t in
        let event : next-event r i ≡ next-event s i = ap (unless_refused script rules r t i) (h.refused i) ∙ unless-same h i (refusal_of script rules s.journal t i) in
        let left : step script rules r t ≡ go r i (next-event s i) = ap (λ (k : ℕ). go r k (next-event r k)) h.next ∙ ap (go r i) event in
        subst (λ (q : Run). Alike q (step script rules s t)) (sym left)
        (elim (nat_lt i (length (statements script t))) as (λ b. Alike (cond b (add_event script rules r (next-event s i)) (reply_with script rules r Idle)) (cond b (add_event script rules s (next-event s i)) (reply_with script rules s Idle))) [
          | true ↦ add-alike (next-event s i)
          | false ↦ only-reply Idle
        ])

    -- Poll and Tick.
    put-alike : (b : ℕ) (new old : List Packet) → new ≡ old → cond (t == t) (r.wire t b ++ new) (r.wire t b) ≡ cond (t == t) (s.wire t b ++ old) (s.wire t b)
    put-alike b new old e =
        ap (λ (ps : List Packet). cond (t == t) (ps ++ new) ps) (same.put b) ∙ ap (λ (ps : List Packet). cond (t == t) (s.wire t b ++ ps) (s.wire t b)) e

    poll-alike : SameLinks script rules t r s → Alike (poll script rules r t) (poll script rules s t)
    unfolding poll
    poll-alike h = record {
      reply = Did;
      first = refl;
      second = refl;
      part = record { events = h.copied; put = λ b. put-alike b (polled script rules r t b) (polled script rules s t b) (h.polled b); handed = same.handed; owed = λ a. ap (λ o. not (t == t) && o) (same.owed a) };
    }

    tick-alike : SameLinks script rules t r s → Alike (tick script rules r t) (tick script rules s t)
    unfolding tick
    tick-alike h = record {
      reply = Did;
      first = refl;
      second = refl;
      part = record { events = same.events; put = λ b. put-alike b (ticked script rules r t b) (ticked script rules s t b) (h.ticked b); handed = same.handed; owed = same.owed };
    }

    -- Begin and End.
    begun : Run → ℕ → Option MsgName → List MsgName → Run
    begun q w (Some m) ms = reply_with script rules q Busy
    begun q w None ms = begin_first script rules q t w ms

    begun-is : (q : Run) (w : ℕ) (o : Option MsgName) → begin_at script rules q t w o ≡ begun q w o (queue script rules q.journal t)
    unfolding begun
    begun-is q w (Some m) = refl
    begun-is q w None = refl

    begun-alike : (w : ℕ) (o : Option MsgName) (ms : List MsgName) → Alike (begun r w o ms) (begun s w o ms)
    unfolding begun
    begun-alike w (Some m) ms = only-reply Busy
    begun-alike w None [] = only-reply Idle
    begun-alike w None (m ∷ ms) = with-alike (Event.Begin m t w ∷ []) Did

    begin-alike : SameJobs script rules t r s → (w : ℕ) → Alike (begin script rules r t w) (begin script rules s t w)
    unfolding begin
    begin-alike h w =
        let o = runs s.journal t w in
        let ms = queue script rules s.journal t in
        let left : begin script rules r t w ≡ begun r w o ms = begun-is r w (runs r.journal t w) ∙ ap (λ x. begun r w x (queue script rules r.journal t)) (h.running w) ∙ ap (begun r w o) h.waiting in
        subst (λ (q : Run). Alike q (begin script rules s t w)) (sym left) (subst (λ (p : Run). Alike (begun r w o ms) p) (sym (begun-is s w o)) (begun-alike w o ms))

    ended : (w : ℕ) (o : Option MsgName) → Alike (end_at script rules r t w o) (end_at script rules s t w o)
    ended w None = only-reply Idle
    ended w (Some m) = with-alike (Event.End m t w ∷ after_end script rules m) Did

    end-alike : SameJobs script rules t r s → (w : ℕ) → Alike (end script rules r t w) (end script rules s t w)
    unfolding end
    end-alike h w = subst (λ o. Alike (end_at script rules r t w o) (end script rules s t w)) (sym (h.running w)) (ended w (runs s.journal t w))

    -- Deliver.
    handed-alike : (a : ℕ) (p : Packet) (x : ℕ) → cond (x == a && t == t) (p ∷ r.handed x t) (r.handed x t) ≡ cond (x == a && t == t) (p ∷ s.handed x t) (s.handed x t)
    handed-alike a p x = ap (λ (ps : List Packet). cond (x == a && t == t) (p ∷ ps) ps) (same.handed x)

    -- the events and the acknowledgement of a packet are told alike
    pub record ToldAlike (a : ℕ) (p : DataPacket) : Type 0 where
      pub events : first_delivery script rules r a t p.name p.seq ≡ first_delivery script rules s a t p.name p.seq
      pub ack : ack script rules (with_handed script rules r a t (Data p)) a t ≡ ack script rules (with_handed script rules s a t (Data p)) a t

    data-alike : (a : ℕ) (p : DataPacket) → ToldAlike a p → Alike (reply_with script rules (hand_over script rules r a t (Data p)) Did) (reply_with script rules (hand_over script rules s a t (Data p)) Did)
    unfolding hand_over
    data-alike a p told =
        let events = λ (q : Run). cond (is_delivered q a t p.seq) [] (first_delivery script rules q a t p.name p.seq) in
        let new = λ (q : Run). ack script rules (with_handed script rules q a t (Data p)) a t in
        let alike : events r ≡ events s = ap (λ (ps : List Packet). cond (has_number ps p.seq) [] (first_delivery script rules r a t p.name p.seq)) (same.handed a) ∙ ap (λ es. cond (is_delivered s a t p.seq) [] es) told.events in
        record {
          reply = Did;
          first = refl;
          second = refl;
          part = record {
            events = ap (λ es. events_at script t (followed r.journal es)) alike ∙ events-more (events s) r.journal s.journal same.events;
            put = λ y.
                ap (λ (ps : List Packet). cond (t == t && y == a) (ps ++ at_once script rules (new r)) ps) (same.put y) ∙ ap (λ (k : Packet). cond (t == t && y == a) (s.wire t y ++ at_once script rules k) (s.wire t y)) told.ack;
            handed = handed-alike a (Data p);
            owed = λ x. ap (λ o. (holds_back script && (x == a && t == t)) || o) (same.owed x);
          };
        }

    ack-alike : (a layout from to base bits : ℕ) → Alike (reply_with script rules (hand_over script rules r a t (Ack layout from to base bits)) Did) (reply_with script rules (hand_over script rules s a t (Ack layout from to base bits)) Did)
    unfolding hand_over
    ack-alike a layout from to base bits = record { reply = Did; first = refl; second = refl; part = record { events = same.events; put = same.put; handed = handed-alike a (Ack layout from to base bits); owed = same.owed } }

    entry-alike : (a : ℕ) (o : Option Packet) → ((p : DataPacket) → o ≡ Some (Data p) → ToldAlike a p) → Alike (deliver_entry script rules r a t o) (deliver_entry script rules s a t o)
    entry-alike a None told = only-reply Absent
    entry-alike a (Some (Data p)) told = data-alike a p (told p refl)
    entry-alike a (Some (Ack layout from to base bits)) told = ack-alike a layout from to base bits

    deliver-alike : IsRecord script rules r → IsRecord script rules s → (a k : ℕ) → slice_get (r.wire a t) k ≡ slice_get (s.wire a t) k → Alike (deliver script rules r a t k) (deliver script rules s a t k)
    unfolding deliver
    deliver-alike ir is a k e =
        subst (λ o. Alike (deliver_entry script rules r a t o) (deliver script rules s a t k)) (sym e)
        (entry-alike a (slice_get (s.wire a t) k) (λ p at.
        let here = e ∙ at in
        record {
          events = arrivals-told script rules r ir a t k p here ∙ ap (λ (ps : List Packet). comes script rules ps p) (same.handed a) ∙ sym (arrivals-told script rules s is a t k p at);
          ack = next-acks-told script rules r ir a t k p here ∙ ap (λ (ps : List Packet). ack_of script (Data p ∷ ps) a t) (same.handed a) ∙ sym (next-acks-told script rules s is a t k p at);
        }))

    -- Each act at the task.
    cut-alike : (n : ℕ) (o : Option Packet) → Alike (cut_entry script rules packet_size r n o) (cut_entry script rules packet_size s n o)
    cut-alike n None = only-reply Absent
    cut-alike n (Some p) = only-reply _

    act-alike : IsRecord script rules r → IsRecord script rules s → SameStatements script rules t r s → SameLinks script rules t r s → SameJobs script rules t r s → (act : Act) → actor act ≡ t → entry_of act r ≡ entry_of act s → Alike (perform script rules packet_size refusal r act) (perform script rules packet_size refusal s act)
    unfolding perform
    act-alike ir is hs hl hj (Step u) at e = subst (λ x. Alike (step script rules r x) (step script rules s x)) (sym at) (step-alike hs)
    act-alike ir is hs hl hj (Poll u) at e = subst (λ x. Alike (poll script rules r x) (poll script rules s x)) (sym at) (poll-alike hl)
    act-alike ir is hs hl hj (Tick u) at e = subst (λ x. Alike (tick script rules r x) (tick script rules s x)) (sym at) (tick-alike hl)
    act-alike ir is hs hl hj (Deliver a b k) at e = subst (λ x. slice_get (r.wire a x) k ≡ slice_get (s.wire a x) k → Alike (deliver script rules r a x k) (deliver script rules s a x k)) (sym at) (deliver-alike ir is a k) e
    act-alike ir is hs hl hj (Cut a b k n) at e = subst (λ o. Alike (cut_entry script rules packet_size r n o) (cut_entry script rules packet_size s n (slice_get (s.wire a b) k))) (sym e) (cut-alike n (slice_get (s.wire a b) k))
    act-alike ir is hs hl hj (Inject a b bytes) at e = only-reply _
    act-alike ir is hs hl hj (Act.Begin u w) at e = subst (λ x. Alike (begin script rules r x w) (begin script rules s x w)) (sym at) (begin-alike hj w)
    act-alike ir is hs hl hj (Act.End u w) at e = subst (λ x. Alike (end script rules r x w) (end script rules s x w)) (sym at) (end-alike hj w)

part-of : (script : Script) (rules : Rules) (t : ℕ) (q p : Run) → SamePart script rules t q p → part_at script t q ≡ part_at script t p
unfolding part_at
part-of script rules t q p h = λ i. record { events = h.events i; put = λ b. h.put b i; handed = λ a. h.handed a i; owed = λ a. h.owed a i }

pub acts-alike : IsToldByPart ActsAlike
unfolding performed
acts-alike script rules t r s ir is e = λ act at entry.
    let a = act-alike script rules t r s (same-part script rules t r s e) ir is (told-statements script rules t r s ir is e) (told-links script rules t r s ir is e) (told-jobs script rules t r s ir is e) act at entry in
    (a.reply, a.first, a.second, part-of script rules t (perform script rules packet_size refusal r act) (perform script rules packet_size refusal s act) a.part)
