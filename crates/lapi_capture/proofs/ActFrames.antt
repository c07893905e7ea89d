-- Each act keeps what is told of the frames of a record.
use Rattle.std.proofs.Common.{◌≡◌, ◌≢◌, ℕ, ◌+◌, ◌<◌, ◌≤◌, ◌==◌, Bool, true, false, cond, ◌&&◌, nat_lt, List, [], ◌∷◌, ◌++◌, length, map, take, drop, Option, Some, None, Ok, Err, refl, sym, ap, ◌∙◌, subst, append_assoc, arith}
use Rattle.std.specs.Prelude.{is_ok, option_to_list, reverse, slice_get}
use Rattle.std.specs.List.{filter_map, zip, AllByRecursion}
use Rattle.std.proofs.lemmas.Bool.{and_from, eq-eqb, ltb-true}
use Rattle.std.proofs.lemmas.List.{append-nil, length-append, length-drop, length-take, map-append, take-append-drop}
use Rattle.lapi_base.specs.declared.capture.TheConstants.{CAPTURE_END, CAPTURE_MAGIC}
use Rattle.lapi_base.specs.declared.message.MsgName.{MsgName}
use Rattle.lapi_base.specs.declared.packet.DataPacket.{DataPacket}
use Rattle.lapi_base.specs.declared.packet.Packet.{Packet}
use Rattle.lapi_base.specs.declared.packet.Packet.TheVariants.{Data, Ack}
use Rattle.lapi_base.specs.declared.reply.Bad.{Bad as Fault}
use Rattle.lapi_base.specs.declared.reply.Reason.TheVariants.{Short}
use Rattle.lapi_base.specs.declared.reply.Reply.{Reply}
use Rattle.lapi_base.specs.declared.reply.Reply.TheVariants.{Did, Absent, Bad}
use Rattle.lapi_base.specs.declared.rule.Rules.{Rules}
use Rattle.lapi_base.specs.declared.schedule.Act.{Act}
use Rattle.lapi_base.specs.declared.schedule.Act.TheVariants.{Step, Poll, Tick, Deliver, Cut, Inject}
use Rattle.lapi_base.specs.declared.script.Script.{Script}
use Rattle.lapi_base.specs.Output.CaptureBytes.{bytes_of, capture, capture_of, frame, frames, frames_of}
use Rattle.lapi_base.specs.Packet.Layout.{Layout, First, Second, layout_of, longest_packet, most_injected, unit, unit_of}
use Rattle.lapi_base.specs.Laws.Entries.{IsOfNumber, layout_in}
use Rattle.lapi_base.specs.Packet.PacketBytes.{packet, packet_size}
use Rattle.lapi_base.specs.Packet.Spelling.{Spells, decoded, refusal, spells_packet}
use Rattle.lapi_base.specs.Record.Acts.{after, cut_entry, deliver, deliver_entry, first_delivery, hand_over, handed_by, perform, reply_with, run_of}
use Rattle.lapi_base.specs.Record.Arrived.{count_of, has_fragment}
use Rattle.lapi_base.specs.Record.Fragments.{fragments_in}
use Rattle.lapi_base.specs.Record.Operations.{receiver, sender}
use Rattle.lapi_base.specs.Record.Packets.{data_packet}
use Rattle.lapi_base.specs.Record.Valid.{ValidAct, ValidRules, ValidScript}
use Rattle.lapi_base.specs.Record.Wires.{Run, IsEntry, is_delivered, start}
use Rattle.lapi_base.specs.Record.WorldView.{IsRecord, performed, record_of}
use Rattle.lapi_base.proofs.HeldPackets.{fragment-there}
use Rattle.lapi_base.proofs.ListLaws.{all-get}
use Rattle.lapi_laws.proofs.HandedOver.{perform-adds}
use Rattle.lapi_parts.proofs.ArrivingPackets.{arrivals-told, repeats-known}
use Rattle.lapi_parts.proofs.Deliveries.{delivered, facts}
use Rattle.lapi_parts.proofs.ExactBytes.{put-of-number}
use Rattle.lapi_parts.proofs.LineEvents.{IsDelivery, line-adds}
use Rattle.lapi_parts.proofs.LinesTaken.{more-record, start-record}
use Rattle.lapi_parts.proofs.Receivable.{new-open, packets-fit}
use Rattle.lapi_parts.proofs.SpelledPackets.{packets-placed, packets-written}
use Rattle.lapi_capture.specs.declared.part.Part.{Part}
use Rattle.lapi_capture.specs.Captures.{AreFrames, IsFrame, landings, parts_of, through}
use Rattle.lapi_capture.specs.Parts.{count, has, landing, lands}
use Rattle.lapi_capture.specs.Records.{HasFrames, found, landed}
use Rattle.lapi_capture.proofs.Fragments.{IsOfScript, Same, agrees, known-lands, new-lands, same-ack, same-data, whole-same}
use Rattle.lapi_capture.proofs.FrameBytes.{ack-told, data-told, frame-is, no-part, part_in}
use Rattle.lapi_capture.proofs.LandedEvents.{comes-landed, landed-followed, landed-in, landed-same}
use Rattle.lapi_capture.proofs.LineFrames.{IsThere, Longer, entry-later}
use Rattle.lapi_capture.proofs.RecordFrames.{Goes, Told, no-frame, one-frame, plain-frame, stays}

and-refl : (a b : ℕ) → (a == a && b == b) ≡ true
and-refl a b = and_from _ _ (eq-eqb a a refl) (eq-eqb b b refl)

most : (layout : Layout) → longest_packet layout ≤ 1280
most First = omega arith
most Second = omega arith

-- what laws of spellings say
module _
    (round_trip : (p : Packet) (bytes : List ℕ) → Spells p bytes → decoded bytes ≡ Ok p)
    (cuts : (p : Packet) (front more : List ℕ) → Spells p (front ++ more) → more ≢ [] → decoded front ≡ Err (record { place = length front; reason = Short }))
    (longest : (p : Packet) (bytes : List ℕ) → Spells p bytes → length bytes ≤ longest_packet (layout_of (layout_in p)))
    (script : Script) (rules : Rules) (valid : ValidScript script) (few : ValidRules rules)
  where
    short : (p : Packet) (bytes : List ℕ) → Spells p bytes → length bytes ≤ 1280
    short p bytes spelled = let l = longest p bytes spelled in let m = most (layout_of (layout_in p)) in omega arith

    small : (a : ℕ) → a < script.tasks → a ≤ 7
    small a lt = let tasks : script.tasks ≤ 8 = valid.tasks.1 in omega arith

    -- ---- an entry that is cut

    no-rest : (bytes : List ℕ) (n : ℕ) → n < length bytes → drop n bytes ≢ []
    no-rest bytes n lt none = absurd (omega (arith, lt, length-drop n bytes, ap length none))

    front-spells-none : (p : Packet) (n : ℕ) → Spells p (packet p) → n < packet_size p → spells_packet (take n (packet p)) ≡ false
    unfolding packet_size spells_packet
    front-spells-none p n spelled lt =
        ap is_ok (cuts p (take n (packet p)) (drop n (packet p)) (subst (Spells p) (sym (take-append-drop n (packet p))) spelled) (no-rest (packet p) n lt))

    front-short : (p : Packet) (n : ℕ) → Spells p (packet p) → length (take n (packet p)) ≤ 1280
    front-short p n spelled = let l = short p (packet p) spelled in omega (arith, l, length-take n (packet p))

    module _ (acts : List Act) (r : Run) (is : IsRecord script rules r) (t : Told script acts r) (room : length acts < 20000) where
      module _ (a b : ℕ) (la : a < script.tasks) (lb : b < script.tasks) where
        cut-told : (k n : ℕ) (o : Option Packet) → slice_get (r.wire a b) k ≡ o → Told script (acts ++ Cut a b k n ∷ []) (cut_entry script rules packet_size r n o)
        cut-told k n None at = no-frame script acts (Cut a b k n) r (reply_with script rules r Absent) t (stays script rules r (Cut a b k n) Absent tt) refl t.parts refl
        cut-told k n (Some p) at =
            let bad : Fault = record { place = n; reason = Short } in
            let act = Cut a b k n in
            let spelled = packets-written script rules r is valid few a b k p at in
            elim (nat_lt n (packet_size p)) as (λ c. nat_lt n (packet_size p) ≡ c → Told script (acts ++ act ∷ []) (reply_with script rules r (cond c (Bad bad) Absent))) [
              | true ↦ λ lt.
                  plain-frame script acts act r (reply_with script rules r (Bad bad)) t (stays script rules r act (Bad bad) (p, at)) (frame a b (take n (packet p)))
                  (ap (λ o. map (λ bytes. frame a b (take n bytes)) (map packet (option_to_list o))) at) room
                  (frame-is a b (take n (packet p)) (small a la) (small b lb) (front-short p n spelled))
                  (no-part a b (take n (packet p)) (front-spells-none p n spelled (ltb-true n (packet_size p) lt)))
                  t.parts refl
              | false ↦ λ ge. no-frame script acts act r (reply_with script rules r Absent) t (stays script rules r act Absent tt) refl t.parts refl
            ] refl

        inject-told : (bytes : List ℕ) → length bytes ≤ most_injected → spells_packet bytes ≡ false → Told script (acts ++ Inject a b bytes ∷ []) (reply_with script rules r (Bad (refusal bytes)))
        inject-told bytes fits none =
            plain-frame script acts (Inject a b bytes) r (reply_with script rules r (Bad (refusal bytes))) t (stays script rules r (Inject a b bytes) (Bad (refusal bytes)) tt) (frame a b bytes) refl room
            (frame-is a b bytes (small a la) (small b lb) fits) (no-part a b bytes none) t.parts refl

        -- ---- an entry that is handed over

        module _ (k : ℕ) (p : Packet) (at : IsEntry r a b k p) where
          after-delivery : Run
          after-delivery = performed script rules r (Deliver a b k)

          by-entry : after-delivery ≡ reply_with script rules (hand_over script rules r a b p) Did
          unfolding after-delivery performed perform deliver
          by-entry = ap (deliver_entry script rules r a b) at

          replies-by : (q : Packet) → (reply_with script rules (hand_over script rules r a b q) Did).replies ≡ r.replies ++ Did ∷ []
          unfolding hand_over
          replies-by (Data q) = refl
          replies-by (Ack layout x y base bits) = refl

          handed-by : (q : Packet) → (reply_with script rules (hand_over script rules r a b q) Did).handed ≡ (λ x y. cond (x == a && y == b) (q ∷ r.handed x y) (r.handed x y))
          unfolding hand_over
          handed-by (Data q) = refl
          handed-by (Ack layout x y base bits) = refl

          journal-by : (layout x y base bits : ℕ) → (reply_with script rules (hand_over script rules r a b (Ack layout x y base bits)) Did).journal ≡ r.journal
          unfolding hand_over
          journal-by layout x y base bits = refl

          longer : Longer r after-delivery
          unfolding after-delivery performed
          longer = (perform-adds script rules packet_size refusal r (Deliver a b k)).wire

          goes : Goes script r (Deliver a b k) after-delivery
          goes = record {
            reply = Did;
            replies = ap (λ (s : Run). s.replies) by-entry ∙ replies-by p;
            longer = longer;
            there = (p, entry-later r after-delivery longer a b k p at);
          }

          handed-is : after-delivery.handed ≡ (λ x y. cond (x == a && y == b) (p ∷ r.handed x y) (r.handed x y))
          handed-is = ap (λ (s : Run). s.handed) by-entry ∙ handed-by p

          frame-one : frames_of after-delivery (Deliver a b k) Did ≡ frame a b (packet p) ∷ []
          frame-one = ap (λ o. map (frame a b) (map packet (option_to_list o))) (entry-later r after-delivery longer a b k p at)

          spelled : Spells p (packet p)
          spelled = packets-written script rules r is valid few a b k p at

          frame-fits : IsFrame (frame a b (packet p))
          frame-fits = frame-is a b (packet p) (small a la) (small b lb) (short p (packet p) spelled)

        ack-delivered : (k layout x y base bits : ℕ) → IsEntry r a b k (Ack layout x y base bits) → Told script (acts ++ Deliver a b k ∷ []) (performed script rules r (Deliver a b k))
        unfolding after-delivery goes performed
        ack-delivered k layout x y base bits at =
            let p = Ack layout x y base bits in
            let s = performed script rules r (Deliver a b k) in
            plain-frame script acts (Deliver a b k) r s t (goes k p at) (frame a b (packet p)) (frame-one k p at) room (frame-fits k p at)
            (ack-told a b (small a la) (small b lb) layout x y base bits (packets-placed script rules r is a b k p at).2 (round_trip p (packet p) (spelled k p at)))
            (subst (Same script (parts_of t.whole)) (sym (handed-is k p at)) (same-ack script (parts_of t.whole) r.handed a b layout x y base bits t.parts))
            (ap (λ (s : Run). s.journal) (by-entry k p at) ∙ journal-by k p at layout x y base bits)

        module _ (k : ℕ) (p : DataPacket) (at : IsEntry r a b k (Data p)) where
          abbrev s : Run
          s = performed script rules r (Deliver a b k)

          came : p.to ≡ receiver script p.name
          came = (packets-placed script rules r is a b k (Data p) at).2.1 ∙ sym (facts script rules r is a b k p at).place

          laid-out : p.layout ≡ script.layout
          unfolding data_packet
          laid-out = ap layout_in (all-get (IsOfNumber script rules r.journal a b) (r.wire a b) k (Data p) (put-of-number script rules r is a b) at).1

          of-script : IsOfScript script (part_in p)
          of-script = (laid-out, (facts script rules r is a b k p at).size)

          abbrev ps : List Part
          ps = parts_of t.whole

          -- the fragments before the delivery, and with it
          before : (j : ℕ) → has ps (part_in p).message j ≡ has_fragment (r.handed a b) p.name j
          before j =
              ap (λ n. has ps (record { name = p.name; to = n }) j) came
              ∙ t.parts p.name j
              ∙ ap (λ x. has_fragment (r.handed x (receiver script p.name)) p.name j) (facts script rules r is a b k p at).sent
              ∙ ap (λ y. has_fragment (r.handed a y) p.name j) (facts script rules r is a b k p at).place

          parts-after : Same script (part_in p ∷ ps) (λ x y. cond (x == a && y == b) (Data p ∷ r.handed x y) (r.handed x y))
          parts-after = same-data script p came ps r.handed a b (facts script rules r is a b k p at).sent (facts script rules r is a b k p at).place t.parts

          with-it : (j : ℕ) → has (part_in p ∷ ps) (part_in p).message j ≡ has_fragment (Data p ∷ r.handed a b) p.name j
          with-it j =
              ap (λ n. has (part_in p ∷ ps) (record { name = p.name; to = n }) j) came
              ∙ parts-after p.name j
              ∙ ap (λ x. has_fragment (cond (x == a && receiver script p.name == b) (Data p ∷ r.handed x (receiver script p.name)) (r.handed x (receiver script p.name))) p.name j) (facts script rules r is a b k p at).sent
              ∙ ap (λ y. has_fragment (cond (a == a && y == b) (Data p ∷ r.handed a y) (r.handed a y)) p.name j) (facts script rules r is a b k p at).place
              ∙ ap (λ c. has_fragment (cond c (Data p ∷ r.handed a b) (r.handed a b)) p.name j) (and-refl a b)

          abbrev here : MsgName × ℕ
          here = (p.name, receiver script p.name)

          count-same : count_of script p.length ≡ count (part_in p)
          unfolding count_of unit_of
          count-same = ap (λ l. fragments_in (unit (layout_of l)) p.length) (sym laid-out)

          -- what the frame lands is what its delivery adds to the journal
          lands-are : (known : Bool) → is_delivered r a b p.seq ≡ known → cond (lands ps (part_in p)) (here ∷ []) [] ≡ filter_map (landed script) (cond known [] (first_delivery script rules r a b p.name p.seq))
          lands-are true e =
              let held = repeats-known script rules r is a b k p at e in
              ap (λ c. cond c (here ∷ []) []) (known-lands script p came ps (before p.fragment ∙ fragment-there (r.handed a b) held.0 p held.1))
          lands-are false e =
              let missing = (new-open script rules r is a b k p at e).1 in
              let lt = (packets-fit script rules r is valid few a b k p at).fragment in
              ap (λ c. cond c (here ∷ []) []) (
              new-lands script p came ps (before p.fragment ∙ missing) (subst (λ n. p.fragment < n) count-same lt)
              ∙ whole-same script p came (part_in p ∷ ps) (Data p ∷ r.handed a b) laid-out with-it
              )
              ∙ sym (ap (filter_map (landed script)) (arrivals-told script rules r is a b k p at) ∙ comes-landed script rules (r.handed a b) p)

          found-are : map found (cond (lands ps (part_in p)) (landing (length t.whole) (part_in p) ∷ []) []) ≡ cond (lands ps (part_in p)) (here ∷ []) []
          found-are =
              elim (lands ps (part_in p)) as (λ c. map found (cond c (landing (length t.whole) (part_in p) ∷ []) []) ≡ cond c (here ∷ []) []) [
                | true ↦ ap (λ n. (p.name, n) ∷ []) came
                | false ↦ refl
              ]

          journal-lands : map found (landings t.whole ++ cond (lands ps (part_in p)) (landing (length t.whole) (part_in p) ∷ []) []) ≡ landed-in script s.journal
          journal-lands =
              map-append found (landings t.whole) (cond (lands ps (part_in p)) (landing (length t.whole) (part_in p) ∷ []) [])
              ∙ ap (λ xs. xs ++ map found (cond (lands ps (part_in p)) (landing (length t.whole) (part_in p) ∷ []) [])) t.lands
              ∙ ap (λ xs. landed-in script r.journal ++ xs) (found-are ∙ lands-are (is_delivered r a b p.seq) refl)
              ∙ sym (ap (landed-in script) (delivered script rules r a b k p at) ∙ landed-followed script (cond (is_delivered r a b p.seq) [] (first_delivery script rules r a b p.name p.seq)) r.journal)

          data-delivered : Told script (acts ++ Deliver a b k ∷ []) s
          unfolding after-delivery goes performed
          data-delivered =
              let told = data-told a b (small a la) (small b lb) p (packets-placed script rules r is a b k (Data p) at).2 (round_trip (Data p) (packet (Data p)) (spelled k (Data p) at)) in
              one-frame script acts (Deliver a b k) r s t (goes k (Data p) at) (frame a b (packet (Data p))) (Some (part_in p)) (frame-one k (Data p) at) room (record {
                frame = frame-fits k (Data p) at;
                part = told.0;
                addressed = told.1;
                apart = agrees script (part_in p) ps of-script t.agree;
                parts = subst (Same script (part_in p ∷ ps)) (sym (handed-is k (Data p) at)) parts-after;
                agree = (of-script, t.agree);
                lands = journal-lands;
              })

        absent : (k : ℕ) → slice_get (r.wire a b) k ≡ None → performed script rules r (Deliver a b k) ≡ reply_with script rules r Absent
        unfolding performed perform deliver
        absent k at = ap (deliver_entry script rules r a b) at

        deliver-told : (k : ℕ) (o : Option Packet) → slice_get (r.wire a b) k ≡ o → Told script (acts ++ Deliver a b k ∷ []) (performed script rules r (Deliver a b k))
        deliver-told k None at =
            subst (Told script (acts ++ Deliver a b k ∷ [])) (sym (absent k at))
            (no-frame script acts (Deliver a b k) r (reply_with script rules r Absent) t (stays script rules r (Deliver a b k) Absent tt) refl t.parts refl)
        deliver-told k (Some (Data p)) at = data-delivered k p at
        deliver-told k (Some (Ack layout x y base bits)) at = ack-delivered k layout x y base bits at

      -- ---- all other acts

      quiet-told : (act : Act) → ((wire : List Packet) (a b : ℕ) (reply : Reply) → handed_by wire a b act reply ≡ []) → ((s : Run) (reply : Reply) → frames_of s act reply ≡ []) → ((s : Run) (reply : Reply) → IsThere s act reply) → (IsDelivery act → ⊥)
          → Told script (acts ++ act ∷ []) (performed script rules r act)
      unfolding performed
      quiet-told act none no-frames there other =
          let s = performed script rules r act in
          let adds = perform-adds script rules packet_size refusal r act in
          let events = line-adds script rules packet_size refusal r act in
          no-frame script acts act r s t (record { reply = adds.reply; replies = adds.replies; longer = adds.wire; there = there s adds.reply })
          (no-frames s adds.reply)
          (λ m j. t.parts m j ∙ sym (ap (λ hs. has_fragment hs m j) (adds.handed (sender script m) (receiver script m) ∙ ap (λ xs. reverse xs ++ r.handed (sender script m) (receiver script m)) (none (r.wire (sender script m) (receiver script m)) (sender script m) (receiver script m) adds.reply))))
          (ap (landed-in script) events.1 ∙ landed-same script rules r act other events.0 r.journal events.2)

      act-told : (act : Act) → ValidAct script spells_packet act → Told script (acts ++ act ∷ []) (performed script rules r act)
      unfolding performed perform
      act-told (Deliver a b k) v = deliver-told a b v.0 v.1 k (slice_get (r.wire a b) k) refl
      act-told (Cut a b k n) v = cut-told a b v.0 v.1 k n (slice_get (r.wire a b) k) refl
      act-told (Inject a b bytes) v = inject-told a b v.0 v.1 bytes v.2 v.4
      act-told (Step t) v = quiet-told (Step t) (λ wire a b reply. refl) (λ s reply. refl) (λ s reply. tt) (λ d. d)
      act-told (Poll t) v = quiet-told (Poll t) (λ wire a b reply. refl) (λ s reply. refl) (λ s reply. tt) (λ d. d)
      act-told (Tick t) v = quiet-told (Tick t) (λ wire a b reply. refl) (λ s reply. refl) (λ s reply. tt) (λ d. d)
      act-told (Act.Begin t w) v = quiet-told (Act.Begin t w) (λ wire a b reply. refl) (λ s reply. refl) (λ s reply. tt) (λ d. d)
      act-told (Act.End t w) v = quiet-told (Act.End t w) (λ wire a b reply. refl) (λ s reply. refl) (λ s reply. tt) (λ d. d)

    acts-told : (acts before : List Act) (r : Run) → IsRecord script rules r → AllByRecursion (ValidAct script spells_packet) acts → length before + length acts ≤ 20000 → Told script before r
        → Told script (before ++ acts) (after script rules packet_size refusal r acts)
    unfolding after performed
    acts-told [] before r is v room t = subst (λ acts. Told script acts r) (sym (append-nil before)) t
    acts-told (act ∷ acts) before r is v room t =
        subst (λ all. Told script all (after script rules packet_size refusal (performed script rules r act) acts)) (append_assoc before (act ∷ []) acts)
        (acts-told acts (before ++ act ∷ []) (performed script rules r act) (more-record script rules r act is v.0) v.1 (omega (arith, room, length-append before (act ∷ []))) (act-told before r is t (omega (arith, room)) act v.0))

    nothing-told : Told script [] start
    unfolding through parts_of landings AreFrames frames has_fragment
    nothing-told = record {
      whole = [];
      few = omega arith;
      are = omega arith;
      count = refl;
      there = tt;
      bytes = refl;
      parts = λ m j. refl;
      agree = tt;
      lands = refl;
    }

    pub frames-told : (acts : List Act) → AllByRecursion (ValidAct script spells_packet) acts → length acts ≤ 20000 → (whole : List (List ℕ)) × HasFrames script (record_of script rules acts) acts whole
    unfolding record_of run_of capture capture_of
    frames-told acts v room =
        let t = acts-told acts [] start (start-record script rules) v (omega (arith, room)) nothing-told in (
          t.whole,
          record {
            are = t.are;
            bytes = sym (append_assoc CAPTURE_MAGIC (bytes_of (frames (record_of script rules acts) (zip acts (record_of script rules acts).replies))) (CAPTURE_END ∷ [])) ∙ ap (λ bytes. bytes ++ CAPTURE_END ∷ []) (sym t.bytes);
            landings = t.lands;
          },
        )
