-- What comes in fits the script and what came before it.
use Rattle.std.proofs.Common.{◌≡◌, ℕ, ◌+◌, ◌-◌, ◌*◌, ◌<◌, ◌≤◌, eqb, min, true, false, List, [], ◌∷◌, length, take, drop, Some, refl, sym, ap, ◌∙◌, subst, ⊎_elim, arith, Bool}
use Rattle.std.specs.Prelude.{slice_get, is_some, nat_lt, ◌==◌}
use Rattle.std.specs.List.{AllByRecursion, IsDistinct, list_any}
use Rattle.std.proofs.lemmas.Bool.{false≢true, both_ways, and_parts, eqb-true, ltb-true, false_from_ne_true, cases_lt, ltb-false, or_parts, cond_both}
use Rattle.std.proofs.lemmas.List.{length-take, length-drop}
use Rattle.std.proofs.lemmas.Option.{slice_get_within}
use Rattle.std.proofs.lemmas.Map.Steps.{length-le_from_distinct_below}
use Rattle.lapi_base.specs.declared.script.Script.{Script}
use Rattle.lapi_base.specs.declared.piece.Piece.{Piece}
use Rattle.lapi_base.specs.declared.statement.Statement.{Statement}
use Rattle.lapi_base.specs.declared.statement.Statement.TheVariants.{Put, Get, Putv, Getv, Rmw, Am, Gfence}
use Rattle.lapi_base.specs.declared.rule.Rules.{Rules}
use Rattle.lapi_base.specs.declared.message.Leg.{Leg}
use Rattle.lapi_base.specs.declared.message.Leg.TheVariants.{Go, Back, Note, Echo, Join}
use Rattle.lapi_base.specs.declared.message.MsgName.{MsgName}
use Rattle.lapi_base.specs.declared.event.Event.{Event}
use Rattle.lapi_base.specs.declared.packet.Packet.{Packet}
use Rattle.lapi_base.specs.declared.packet.Packet.TheVariants.{Data, Ack}
use Rattle.lapi_base.specs.declared.packet.DataPacket.{DataPacket}
use Rattle.lapi_base.specs.Packet.Layout.{unit_of, window_of, longest_of, longest_active_of, First, Second, longest as most}
use Rattle.lapi_base.specs.Record.Below.{least_missing}
use Rattle.lapi_base.specs.Record.Names.{name_eq, Copied}
use Rattle.lapi_base.specs.Record.Operations.{statements, statement, target, address, spans, pieces_of, sender, receiver, has_leg, length_by, message_length, cmpl_counter, is_am, total}
use Rattle.lapi_base.specs.Record.Refusals.{round_of, is_long}
use Rattle.lapi_base.specs.Record.Packets.{head_by, data_packet}
use Rattle.lapi_base.specs.Record.Wires.{Run, numbered, covers, is_number, has_number, is_sent, is_delivered, least_undelivered}
use Rattle.lapi_base.specs.Record.Atomic.{Atomic}
use Rattle.lapi_base.specs.Record.Valid.{ValidScript}
use Rattle.lapi_base.specs.Laws.Links.{IsPartlyDelivered, StaysInWindow}
use Rattle.lapi_base.specs.Record.WorldView.{HoldsOfRecords}
use Rattle.lapi_base.specs.Laws.Entries.{carried}
use Rattle.lapi_base.specs.Record.Arrived.{is_fragment, has_some, has_fragment, count_of}
use Rattle.lapi_base.specs.Laws.Receiving.{IsWord, IsThereInPart, SpansAreInMemory, HeadFits, AcksCoverSent, FitsScript, PacketsFitScript, HeadsAgree, NewAreOpen, NewHaveRoom, longest_with}
use Rattle.lapi_base.specs.Laws.Sending.{SentAreNumbers, AckedAreSent}
use Rattle.lapi_base.specs.Record.Handlers.{answers, user}
use Rattle.lapi_base.proofs.BelowLaws.{least_missing-below}
use Rattle.lapi_base.proofs.ListLaws.{all-get, any-all, any-find, any-get}
use Rattle.lapi_base.proofs.NameLaws.{name_eq-true}
use Rattle.lapi_base.proofs.TestLaws.{eqb-refl}
use Rattle.lapi_laws.proofs.Out.{numbered-copied}
use Rattle.lapi_laws.proofs.Backward.{there}
use Rattle.lapi_laws.proofs.Sound.{Fits, number-known, acked-delivered}
use Rattle.lapi_laws.proofs.Lines.{SoundRun}
use Rattle.lapi_laws.proofs.Reach.{SentRun, run-sent, sent-reach}
use Rattle.lapi_laws.proofs.Partial.{offsets, offsets-length, offsets-below, offsets-new, offsets-apart}
use Rattle.lapi_laws.proofs.Shorts.{statements-few, numbers-few, copied-few}
use Rattle.lapi_parts.proofs.Records.{of-runs, record-sound}
use Rattle.lapi_parts.proofs.ExactBytes.{Exact, record-exact}
use Rattle.lapi_parts.proofs.CarriedLengths.{carried-length}
use Rattle.lapi_parts.proofs.Accepted.{LiesWithin, Accepted, copied-accepted}
use Rattle.lapi_parts.proofs.MessageHeads.{round-small, answer-word, spans-total, spans-same, same-total}
use Rattle.lapi_parts.proofs.HandedPackets.{fragment-fit, numbered-below, numbered-unique}
use Rattle.lapi_parts.proofs.ArrivingPackets.{head-is, length-is, counts-is}
use Rattle.lapi_parts.proofs.InReach.{part-delivered}

-- ---- heads

spans-inside : (script : Script) (d : ℕ) (ps : List Piece) → AllByRecursion (LiesWithin script d) ps → SpansAreInMemory script (spans script d ps)
spans-inside script d [] h = tt
spans-inside script d (p ∷ ps) h = (h.0, spans-inside script d ps h.1)

word-short : (script : Script) → 4 ≤ longest_of script
unfolding longest_of
word-short script = cond_both (script.layout == 2) Second First (λ l. 4 ≤ most l) (λ _. omega arith) (λ _. omega arith)

module _ (script : Script) (rules : Rules) (m : MsgName) where
  note-fits : (s : Statement) → is_some (cmpl_counter s) ≡ true → Accepted script rules (target script m.origin m.statement) s → HeadFits script rules 0 (head_by script m Note s)
  note-fits (Put task to from len tgt org (Some c)) g h = h.cmpl
  note-fits (Putv task to from tgt org (Some c)) g h = h.cmpl
  note-fits (Am task handler header from len tgt org (Some c)) g h = h.cmpl
  note-fits _ g h = absurd (false≢true g)

  echo-fits : (s : Statement) → (is_am s ≡ true) × IsWord script (user script m) → Accepted script rules (target script m.origin m.statement) s → HeadFits script rules 4 (head_by script m Echo s)
  echo-fits (Am task handler header from len tgt org cmpl) w h = (w.1, h.cmpl)
  echo-fits _ w h = absurd (false≢true w.0)

  -- the head of each message that a script has keeps to it
  head-fits : (answers : Bool) (leg : Leg) (s : Statement) → (answers ≡ true → (is_am s ≡ true) × IsWord script (user script m)) → has_leg script answers m.origin leg s ≡ true → Accepted script rules (target script m.origin m.statement) s → round_of script m.origin m.statement ≤ 511 → HeadFits script rules (length_by leg s) (head_by script m leg s)
  unfolding address
  head-fits ans Go (Put task to from len tgt org cmpl) w g h r = (h.to.0, h.tgt, h.cmpl)
  head-fits ans Go (Get task from to len tgt org) w g h r = (h.to.0, h.from.0, h.tgt, h.org)
  head-fits ans Go (Putv task to from tgt org cmpl) w g h r =
      let d = target script m.origin m.statement in
      let same = spans-same script d (pieces_of to) (pieces_of from) (h.count refl) (h.lengths refl) in
      (spans-inside script d (pieces_of to) h.to, same-total _ _ same ∙ spans-total script d (pieces_of from), h.tgt, h.cmpl)
  head-fits ans Go (Getv task from to tgt org) w g h r =
      let d = target script m.origin m.statement in
      let same = spans-same script d (pieces_of from) (pieces_of to) (h.count refl) (h.lengths refl) in
      (spans-inside script d (pieces_of from) h.to, spans-inside script d (pieces_of to) h.from, same-total _ _ same, h.tgt, h.org)
  head-fits ans Go (Rmw task op at in1 in2 prev org) w g h r = let w = h.words refl in ((h.to.0, w.0.0), (h.from.0, w.1.0), h.org)
  head-fits ans Go (Am task handler header from len tgt org cmpl) w g h r = (h.handler refl, h.tgt, h.cmpl)
  head-fits ans Back (Get task from to len tgt org) w g h r = (h.from.0, h.org)
  head-fits ans Back (Getv task from to tgt org) w g h r =
      let d = target script m.origin m.statement in
      let same = spans-same script d (pieces_of from) (pieces_of to) (h.count refl) (h.lengths refl) in
      (spans-inside script d (pieces_of to) h.from, sym (same-total _ _ same) ∙ spans-total script d (pieces_of from), h.org)
  head-fits ans Back (Rmw task op at in1 in2 prev org) w g h r = let w = h.words refl in ((h.from.0, w.1.0), h.org)
  head-fits ans Note s w g h r = note-fits s (and_parts _ _ g).0 h
  head-fits ans Echo s w g h r = echo-fits s (w g) h
  head-fits ans (Join d) Gfence w g h r = r
  head-fits ans (Join d) (Statement.Addr at) w g h r = let within : at + 0 ≤ script.memory = h.from.0 in (r, omega arith)
  head-fits ans _ s w g h r = absurd (false≢true g)

  -- and no message is too long for it
  head-short : (answers : Bool) (leg : Leg) (s : Statement) → has_leg script answers m.origin leg s ≡ true → Accepted script rules (target script m.origin m.statement) s → length_by leg s ≤ longest_with script (head_by script m leg s)
  head-short ans Go (Put task to from len tgt org cmpl) g h = ltb-false (longest_of script) len h.short
  head-short ans Go (Get task from to len tgt org) g h = omega arith
  head-short ans Go (Putv task to from tgt org cmpl) g h = ltb-false (longest_of script) (total (pieces_of from)) (or_parts (is_long script (pieces_of to)) (is_long script (pieces_of from)) h.short).1
  head-short ans Go (Getv task from to tgt org) g h = omega arith
  head-short ans Go (Rmw task op at in1 in2 prev org) g h = omega arith
  head-short ans Go (Am task handler header from len tgt org cmpl) g h = ltb-false (longest_active_of script) len h.short
  head-short ans Back (Get task from to len tgt org) g h = ltb-false (longest_of script) len h.short
  head-short ans Back (Getv task from to tgt org) g h = ltb-false (longest_of script) (total (pieces_of from)) (or_parts (is_long script (pieces_of from)) (is_long script (pieces_of to)) h.short).0
  head-short ans Back (Rmw task op at in1 in2 prev org) g h = word-short script
  head-short ans Note s g h = omega arith
  head-short ans Echo s g h = word-short script
  head-short ans (Join d) s g h = omega arith
  head-short ans _ s g h = absurd (false≢true g)

-- ---- packets

payload_in : Packet → List ℕ
payload_in (Data p) = p.payload
payload_in (Ack layout from to base bits) = []

module _ (script : Script) (rules : Rules) where
  head-keeps : (m : MsgName) → has_leg script (answers script rules m.origin m.statement) m.origin m.leg (statement script m.origin m.statement) ≡ true → Accepted script rules (target script m.origin m.statement) (statement script m.origin m.statement) → round_of script m.origin m.statement ≤ 511 → HeadFits script rules (message_length script m) (head_by script m m.leg (statement script m.origin m.statement))
  unfolding message_length
  head-keeps m g h r = head-fits script rules m (answers script rules m.origin m.statement) m.leg (statement script m.origin m.statement) (answer-word script rules m) g h r

  keeps-short : (m : MsgName) → has_leg script (answers script rules m.origin m.statement) m.origin m.leg (statement script m.origin m.statement) ≡ true → Accepted script rules (target script m.origin m.statement) (statement script m.origin m.statement) → message_length script m ≤ longest_with script (head_by script m m.leg (statement script m.origin m.statement))
  unfolding message_length
  keeps-short m g h = head-short script rules m (answers script rules m.origin m.statement) m.leg (statement script m.origin m.statement) g h

  payload-is : (J : List Event) (p : DataPacket) → Exact script rules J (Data p) → p.payload ≡ take (unit_of script) (drop (unit_of script * p.fragment) (carried script rules J p.name))
  unfolding data_packet payload_in
  payload-is J p x = ap payload_in x

  fits-script : ValidScript script → (J : List Event) (handed : ℕ → ℕ → List Packet) (a b : ℕ) (p : DataPacket) → Atomic script rules J → Fits script rules J handed a b (Data p) → Exact script rules J (Data p) → FitsScript script rules p
  fits-script valid J handed a b p h f x =
      let m = p.name in
      let unit = unit_of script in
      let copied = (numbered-copied script J a b p.seq (m, p.fragment) f).0 in
      let room = slice_get_within (numbered script J a b) p.seq (m, p.fragment) f in
      let few = numbers-few script rules valid J a b h (λ n d. copied-few script rules J n h d) in
      let is = and_parts _ _ (there script rules (Copied m) J h copied) in
      let place = and_parts (nat_lt m.origin script.tasks) (nat_lt m.statement (length (statements script m.origin))) is.0 in
      let at = ltb-true m.statement (length (statements script m.origin)) place.1 in
      let most = statements-few script rules valid m.origin in
      let size = length-is script rules J p x in
      let fine = copied-accepted script rules J m h copied in
      let keeps = head-keeps m is.1 fine (round-small script m.origin m.statement (omega (arith, at, most))) in
      let bytes = carried script rules J m in
      record {
        number = omega (arith, room, few);
        origin = ltb-true m.origin script.tasks place.0;
        statement = at;
        head = subst (λ k. HeadFits script rules p.length k) (sym (head-is script rules J p x)) (subst (λ n. HeadFits script rules n (head_by script m m.leg (statement script m.origin m.statement))) (sym size) keeps);
        short = subst (λ k. p.length ≤ longest_with script k) (sym (head-is script rules J p x)) (subst (λ n. n ≤ longest_with script (head_by script m m.leg (statement script m.origin m.statement))) (sym size) (keeps-short m is.1 fine));
        fragment = subst (λ (n : ℕ). p.fragment < n) (counts-is script rules m ∙ ap (count_of script) (sym size)) (numbered-below script J a b p.seq (m, p.fragment) f);
        payload =
            ap length (payload-is J p x)
            ∙ length-take unit (drop (unit * p.fragment) bytes)
            ∙ ap (λ k. min unit k) (length-drop (unit * p.fragment) bytes ∙ ap (λ k. k - unit * p.fragment) (carried-length script rules J m h copied ∙ sym size));
      }

  acks-cover : (r : Run) → SoundRun script rules r → SentRun script rules r → (a b n : ℕ) (p : Packet) → Fits script rules r.journal r.handed a b p → covers n p ≡ true → is_sent r b a n ≡ true
  acks-cover r s sent a b n (Data p) f c = absurd (false≢true c)
  acks-cover r s sent a b n (Ack layout from to base bits) f c = sent b a n (f n c)

  -- a packet that wasn't delivered has a number above the least of those
  not-below : (r : Run) (a b n : ℕ) → is_delivered r a b n ≡ false → least_missing (length (numbered script r.journal a b)) (is_delivered r a b) ≤ n
  not-below r a b n d =
      let low = least_missing (length (numbered script r.journal a b)) (is_delivered r a b) in
      ⊎_elim
      (λ (x : n < low). absurd (both_ways _ d (least_missing-below (length (numbered script r.journal a b)) (is_delivered r a b) n x)))
      (λ (x : low ≤ n). x)
      (cases_lt n low)

  cons-distinct : (n : ℕ) (ns : List ℕ) → AllByRecursion (λ k. eqb n k ≡ false) ns → IsDistinct eqb ns → IsDistinct eqb (n ∷ ns)
  unfolding IsDistinct
  cons-distinct n ns h d = (h, d)

  other-names : (packets : List Packet) (m : MsgName) (ms : List MsgName) → has_some packets m ≡ false → AllByRecursion (IsThereInPart script rules packets) ms → AllByRecursion (λ c. name_eq m c ≡ false) ms
  other-names packets m [] none h = tt
  other-names packets m (c ∷ ms) none h = (false_from_ne_true _ (λ same. both_ways _ none (subst (λ (v : MsgName). has_some packets v ≡ true) (sym (name_eq-true m c same)) h.0.0)), other-names packets m ms none h.1)

  in-part : (r : Run) → SoundRun script rules r → (a b : ℕ) (ms : List MsgName) → AllByRecursion (IsThereInPart script rules (r.handed a b)) ms → AllByRecursion (IsPartlyDelivered script rules r a b) ms
  in-part r s a b [] h = tt
  in-part r s a b (m ∷ ms) h = (part-delivered script rules r s a b m h.0, in-part r s a b ms h.1)

  have-room : (r : Run) (a b : ℕ) (p : DataPacket) (ms : List MsgName) → SoundRun script rules r → ((n : ℕ) → is_delivered r a b n ≡ true → n < least_undelivered script r a b + window_of script) → p.seq < least_undelivered script r a b + window_of script → Fits script rules r.journal r.handed a b (Data p) → is_delivered r a b p.seq ≡ false → has_some (r.handed a b) p.name ≡ false → IsDistinct name_eq ms → AllByRecursion (IsThereInPart script rules (r.handed a b)) ms → length ms < window_of script
  have-room r a b p ms s reach near f d none apart all =
      let low = least_undelivered script r a b in
      let window = window_of script in
      let partial = in-part r s a b ms all in
      let places = offsets script rules r a b s.atomic reach ms partial in
      let above = not-below r a b p.seq d in
      let i = p.seq - low in
      let sum : p.seq ≡ low + i = omega (arith, above) in
      let number : slice_get (numbered script r.journal a b) (low + i) ≡ Some (p.name, p.fragment) = subst (λ (n : ℕ). slice_get (numbered script r.journal a b) n ≡ Some (p.name, p.fragment)) sum f in
      let new = offsets-new script rules r a b s.atomic reach p.name i (p.fragment, number) ms partial (other-names (r.handed a b) p.name ms none all) in
      let distinct = offsets-apart script rules r a b s.atomic reach ms partial apart in
      let below : AllByRecursion (λ n. n < window) (i ∷ places) = (omega (arith, near, above), offsets-below script rules r a b s.atomic reach ms partial) in
      let count = length-le_from_distinct_below (i ∷ places) window (cons-distinct i places new distinct) (λ q found. let t = any-all (eqb q) (λ n. n < window) (i ∷ places) below found in subst (λ k. k < window) (sym (eqb-true q t.0 t.2)) t.1) in
      omega (arith, count, offsets-length script rules r a b s.atomic reach ms partial)

-- ---- the laws

sent-run : HoldsOfRecords SentRun
sent-run = of-runs SentRun (λ script rules spells size refusal acts v. run-sent script rules spells size refusal acts)

pub acks-cover-sent : HoldsOfRecords AcksCoverSent
acks-cover-sent script rules r is = λ a b k n p at c.
    let s = record-sound script rules r is in
    acks-cover script rules r s (sent-run script rules r is) a b n p (all-get (Fits script rules r.journal r.handed a b) (r.wire a b) k p (s.wires a b) at) c

pub packets-fit : HoldsOfRecords PacketsFitScript
packets-fit script rules r is = λ valid few a b k p at.
    let s = record-sound script rules r is in
    let x = record-exact script rules r is in
    fits-script script rules valid r.journal r.handed a b p s.atomic (all-get (Fits script rules r.journal r.handed a b) (r.wire a b) k (Data p) (s.wires a b) at) (all-get (Exact script rules r.journal) (r.wire a b) k (Data p) (x.wires a b) at)

pub heads-agree : HoldsOfRecords HeadsAgree
heads-agree script rules r is = λ a b k j p q at there' same.
    let x = record-exact script rules r is in
    let J = r.journal in
    let one = all-get (Exact script rules J) (r.wire a b) k (Data p) (x.wires a b) at in
    let two = all-get (Exact script rules J) (r.handed a b) j (Data q) (x.hands a b) there' in (
      head-is script rules J q two ∙ ap (λ (m : MsgName). head_by script m m.leg (statement script m.origin m.statement)) same ∙ sym (head-is script rules J p one),
      length-is script rules J q two ∙ ap (message_length script) same ∙ sym (length-is script rules J p one),
    )

pub new-open : HoldsOfRecords NewAreOpen
unfolding has_fragment has_number
new-open script rules r is = λ a b k p at d.
    let s = record-sound script rules r is in
    let fit = all-get (Fits script rules r.journal r.handed a b) (r.wire a b) k (Data p) (s.wires a b) at in
    let ends = numbered-copied script r.journal a b p.seq (p.name, p.fragment) fit in (
      false_from_ne_true _ (λ landed.
          let here : slice_get (numbered script r.journal (sender script p.name) (receiver script p.name)) p.seq ≡ Some (p.name, p.fragment) = subst (λ (x : ℕ). slice_get (numbered script r.journal x (receiver script p.name)) p.seq ≡ Some (p.name, p.fragment)) (sym ends.1) (subst (λ (y : ℕ). slice_get (numbered script r.journal a y) p.seq ≡ Some (p.name, p.fragment)) (sym ends.2) fit) in
          let got = s.landed p.name landed p.seq (p.fragment, here) in
          both_ways _ d (subst (λ (x : ℕ). is_delivered r x b p.seq ≡ true) ends.1 (subst (λ (y : ℕ). is_delivered r (sender script p.name) y p.seq ≡ true) ends.2 got))),
      false_from_ne_true _ (λ has.
          let q = any-find (is_fragment p.name p.fragment) (Fits script rules r.journal r.handed a b) (r.handed a b) (s.hands a b) has in
          let number = fragment-fit script rules r.journal r.handed a b p.name p.fragment q.0 q.2 q.1 in
          let same = numbered-unique script rules r.journal s.atomic a b number.0 p.seq (p.name, p.fragment) number.2 fit in
          both_ways _ d (subst (λ (n : ℕ). list_any (is_number n) (r.handed a b) ≡ true) same (q.3 (is_number number.0) number.1))),
    )

pub new-room : HoldsOfRecords NewHaveRoom
unfolding has_number
new-room script rules r is = λ a b k p ms at d none apart all.
    let s = record-sound script rules r is in
    let fit = all-get (Fits script rules r.journal r.handed a b) (r.wire a b) k (Data p) (s.wires a b) at in
    let reach = of-runs StaysInWindow sent-reach script rules r is in
    let sent = any-get (is_number p.seq) (r.wire a b) k (Data p) at (eqb-refl p.seq) in
    have-room script rules r a b p ms s (λ n got. reach a b n (sent-run script rules r is a b n got)) (reach a b p.seq sent) fit d none apart all

pub sent-numbers : HoldsOfRecords SentAreNumbers
unfolding has_number
sent-numbers script rules r is = λ a b n h.
    let s = record-sound script rules r is in
    let p = any-all (is_number n) (Fits script rules r.journal r.handed a b) (r.wire a b) (s.wires a b) h in
    let x = number-known script rules r.journal r.handed a b n p.0 p.1 p.2 in
    slice_get_within (numbered script r.journal a b) n x.0 x.1

pub acked-sent : HoldsOfRecords AckedAreSent
acked-sent script rules r is = λ a b n h. sent-run script rules r is a b n (acked-delivered script rules r.journal r.wire r.handed (record-sound script rules r is) a b n h)
