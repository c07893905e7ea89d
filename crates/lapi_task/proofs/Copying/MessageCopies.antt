-- The copy of a message: what its link has then, whatever its kind.
use Rattle.std.proofs.Common.{◌≡◌, ◌≢◌, ℕ, zero, suc, ◌+◌, ◌-◌, ◌<◌, ◌≤◌, ◌==◌, ◌&&◌, List, [], ◌∷◌, ◌++◌, map, length, set, Option, Some, None, refl, sym, ap, ◌∙◌, subst, ⊎_elim, arith}
use Rattle.std.specs.Prelude.{slice_get, option_map}
use Rattle.std.proofs.lemmas.Bool.{cond-false, and_right, cases_lt, cases_eq, ne_eqb}
use Rattle.std.proofs.lemmas.List.{length-append, length-map}
use Rattle.std.proofs.lemmas.Option.{slice_get-map}
use Rattle.lapi_base.specs.declared.script.Script.{Script}
use Rattle.lapi_base.specs.declared.rule.Rules.{Rules}
use Rattle.lapi_base.specs.declared.event.Event.{Event}
use Rattle.lapi_base.specs.declared.event.Event.TheVariants.{Copy}
use Rattle.lapi_base.specs.declared.message.MsgName.{MsgName}
use Rattle.lapi_base.specs.declared.packet.Packet.{Packet}
use Rattle.lapi_base.specs.Record.Atomic.{Atomic}
use Rattle.lapi_base.specs.Record.Below.{below}
use Rattle.lapi_base.specs.Laws.Entries.{carried}
use Rattle.lapi_base.specs.Packet.Layout.{unit_of}
use Rattle.lapi_base.specs.Record.Fragments.{fragments_in}
use Rattle.lapi_base.specs.Record.Operations.{numbers_below, sender, receiver, fragment_count, fragments}
use Rattle.lapi_base.specs.Record.Packets.{data_packet}
use Rattle.lapi_base.specs.Record.Wires.{Run, numbered}
use Rattle.lapi_base.specs.Packet.PacketBytes as written
use Rattle.lapi_base.proofs.ListLaws.{get-after, get-before, get-set, get-set-other, get-some}
use Rattle.lapi_base.proofs.UptoLaws.{numbers_below-length}
use Rattle.lapi_link.specs.Sender.{SendingEnd}
use Rattle.lapi_window.specs.SendWindow.{sent_count, bytes_of}
use Rattle.lapi_task.specs.Sends.{packet_at, SendsFor}
use Rattle.lapi_task.specs.StandsFor.{SenderAt}
use Rattle.lapi_laws.proofs.Places.{fragments-length}
use Rattle.lapi_task.proofs.Standing.Tags.{tags-same, tags-copied}
use Rattle.lapi_task.proofs.Sending.Packets.{packet-stays, packet-same, packet-new, numbered-own}
use Rattle.lapi_task.specs.Outgoing.{outgoing, tag_of, packet_of, packets_of, extended, with_message}
use Rattle.lapi_task.specs.Outgoing as leaving

numbers_below-at : (c k j : ℕ) → slice_get (numbers_below c) k ≡ Some j → j ≡ k
unfolding numbers_below below
numbers_below-at zero k j h = absurd (cc)
numbers_below-at (suc c) k j h =
    ⊎_elim
    (λ (lt : k < c). numbers_below-at c k j (sym (get-before (numbers_below c) (c ∷ []) k (let n = numbers_below-length c in omega (arith, lt, n))) ∙ h))
    (λ (ge : c ≤ k).
    let at : k ≡ length (numbers_below c) + (k - c) = (let n = numbers_below-length c in omega (arith, ge, n)) in
    last (k - c) (sym (get-after (numbers_below c) (c ∷ []) (k - c)) ∙ ap (slice_get (numbers_below c ++ c ∷ [])) (sym at) ∙ h) (omega arith))
    (cases_lt k c)
  where
    last : (d : ℕ) → slice_get (c ∷ []) d ≡ Some j → c + d ≡ k → j ≡ k
    last zero e at = (let q : c ≡ j = cc in omega (arith, q, at))
    last (suc d) e at = absurd (cc)

module _ (script : Script) (rules : Rules) (m : MsgName) where
  abbrev from : ℕ
  from = sender script m

  abbrev to : ℕ
  to = receiver script m

  -- its packets are those of the message that leaves
  pub packet-is : (n j : ℕ) (bytes : List ℕ) → data_packet script m n j bytes ≡ packet_of (outgoing script m) (unit_of script) n j bytes
  unfolding data_packet
  packet-is n j bytes = refl

  pub count-is : fragment_count script m ≡ fragments_in (unit_of script) (outgoing script m).length
  unfolding fragment_count
  count-is = refl

  -- The link that it goes on.
  abbrev spelled-fragment : List Event → ℕ → ℕ → List ℕ
  spelled-fragment J n j = leaving.bytes_of (outgoing script m) (unit_of script) n (carried script rules (Copy m ∷ J) m) j

  abbrev pieces : ℕ
  pieces = fragments_in (unit_of script) (outgoing script m).length

  new-packet : (J : List Event) (k : ℕ) → let n = length (numbered script J from to) in packet_at script rules (Copy m ∷ J) from to (n + k) ≡ slice_get (map (spelled-fragment J n) (numbers_below pieces)) k
  new-packet J k =
      let n = length (numbered script J from to) in
      let js = numbers_below pieces in
      packet-new script rules m J k
      ∙ ap (λ (c : ℕ). option_map (λ j. written.packet (data_packet script m (n + k) j (carried script rules (Copy m ∷ J) m))) (slice_get (numbers_below c) k)) count-is
      ∙ at-place (slice_get js k) refl
      ∙ sym (slice_get-map (spelled-fragment J n) js k)
    where
      at-place : (o : Option ℕ) → slice_get (numbers_below pieces) k ≡ o → option_map (λ j. written.packet (data_packet script m (length (numbered script J from to) + k) j (carried script rules (Copy m ∷ J) m))) o ≡ option_map (spelled-fragment J (length (numbered script J from to))) o
      at-place None h = refl
      at-place (Some j) h =
          let n = length (numbered script J from to) in
          ap (λ (p : Packet). Some (written.packet p)) (packet-is (n + k) j (carried script rules (Copy m ∷ J) m))
          ∙ ap (λ (x : ℕ). Some (written.packet (packet_of (outgoing script m) (unit_of script) (n + x) j (carried script rules (Copy m ∷ J) m)))) (sym (numbers_below-at pieces k j h))

  -- The end of the link, where the message was copied.
  module _ (r : Run) (s : SendingEnd) (h : SendsFor script rules s r from to) (atomic : Atomic script rules (Copy m ∷ r.journal)) where
    abbrev J : List Event
    J = r.journal

    abbrev K : List Event
    K = Copy m ∷ J

    abbrev xs : List (List ℕ)
    xs = map (spelled-fragment J (length (numbered script J from to))) (numbers_below pieces)

    abbrev tag : Option ℕ
    tag = tag_of (outgoing script m)

    xs-length : length xs ≡ fragment_count script m
    xs-length = length-map (numbers_below pieces) (spelled-fragment J (length (numbered script J from to))) ∙ numbers_below-length pieces ∙ sym count-is

    numbered-length : length (numbered script K from to) ≡ length (numbered script J from to) + length xs
    numbered-length = ap length (numbered-own script rules m J) ∙ length-append (numbered script J from to) (fragments script m) ∙ ap (λ k. length (numbered script J from to) + k) (fragments-length script m ∙ sym xs-length)

    waits : (k : ℕ) → slice_get (s.waiting ++ xs) k ≡ packet_at script rules K from to (sent_count s.window + k)
    waits k =
        let n = length (numbered script J from to) in
        let counted : sent_count s.window + length s.waiting ≡ n = h.whole ∙ h.numbers.numbers in
        ⊎_elim
        (λ (lt : k < length s.waiting).
        get-before s.waiting xs k lt ∙ h.waiting k ∙ sym (packet-stays script rules (Copy m) J from to (sent_count s.window + k) atomic (omega (arith, counted))))
        (λ (ge : length s.waiting ≤ k).
        let d = k - length s.waiting in
        let at : k ≡ length s.waiting + d = omega arith in
        ap (slice_get (s.waiting ++ xs)) at ∙ get-after s.waiting xs d ∙ sym (new-packet J d) ∙ ap (packet_at script rules K from to) (let q : n + d ≡ sent_count s.window + k = omega (arith, counted) in q))
        (cases_lt k (length s.waiting))

    extended-now : SendsFor script rules (extended s tag xs) (record r { journal = K }) from to
    unfolding bytes_of
    extended-now = record {
      numbers = record { size = h.numbers.size; numbers = ap (λ k. k + length xs) h.numbers.numbers ∙ sym numbered-length; sent = h.numbers.sent; acked = h.numbers.acked };
      whole = (let w = h.whole in let l = length-append s.waiting xs in omega (arith, w, l));
      kept = λ n l u. h.kept n l u ∙ sym (packet-stays script rules (Copy m) J from to n atomic (let w = h.whole in let c = h.numbers.numbers in omega (arith, w, c, l)));
      waiting = waits;
      tags = tags-copied script rules m s J xs h.numbers.numbers xs-length h.tags;
    }

    pub copied-sends : (bytes : List ℕ) → bytes ≡ carried script rules K m → SendsFor script rules (with_message (unit_of script) (outgoing script m) bytes s) (record r { journal = K }) from to
    copied-sends bytes same = subst (λ (ys : List (List ℕ)). SendsFor script rules (extended s tag ys) (record r { journal = K }) from to) (λ k. packets_of (outgoing script m) (unit_of script) (sym h.numbers.numbers k) (sym same k)) extended-now

  -- Another link stays as it was.
  numbered-other : (J : List Event) (t b : ℕ) → b ≢ to → numbered script (Copy m ∷ J) t b ≡ numbered script J t b
  unfolding numbered
  numbered-other J t b ne = cond-false (sender script m == t && receiver script m == b) _ (numbered script J t b) (and_right (sender script m == t) (receiver script m == b) (ne_eqb (receiver script m) b (λ same. ne (sym same))))

  pub other-sends : (r : Run) (t b : ℕ) (o : Option SendingEnd) → b ≢ to → Atomic script rules (Copy m ∷ r.journal) → SenderAt script rules r t b o → SenderAt script rules (record r { journal = Copy m ∷ r.journal }) t b o
  other-sends r t b None ne atomic h = absurd h
  other-sends r t b (Some s) ne atomic h =
      let same = numbered-other r.journal t b ne in
      record {
        numbers = record { size = h.numbers.size; numbers = h.numbers.numbers ∙ sym (ap length same); sent = h.numbers.sent; acked = h.numbers.acked };
        whole = h.whole;
        kept = λ n l u. h.kept n l u ∙ sym (packet-same script rules (Copy m) r.journal t b atomic same n);
        waiting = λ k. h.waiting k ∙ sym (packet-same script rules (Copy m) r.journal t b atomic same (sent_count s.window + k));
        tags = tags-same script s r.journal (Copy m ∷ r.journal) t b same h.tags;
      }

  -- All ends of its task.
  pub copied-ends : (r : Run) (t : ℕ) (old new : List SendingEnd) (sender : SendingEnd) (bytes : List ℕ) →
      from ≡ t → to < length old → new ≡ set old to sender → Atomic script rules (Copy m ∷ r.journal) →
      bytes ≡ carried script rules (Copy m ∷ r.journal) m →
      ((s : SendingEnd) → slice_get old to ≡ Some s → sender ≡ with_message (unit_of script) (outgoing script m) bytes s) →
      ((b : ℕ) → b < script.tasks → SenderAt script rules r t b (slice_get old b)) →
      (b : ℕ) → b < script.tasks → SenderAt script rules (record r { journal = Copy m ∷ r.journal }) t b (slice_get new b)
  copied-ends r t old new sender bytes own there same atomic carries change all b l =
      let L = Copy m ∷ r.journal in
      subst (λ (xs : List SendingEnd). SenderAt script rules (record r { journal = L }) t b (slice_get xs b)) (sym same)
      (⊎_elim
      (λ (here : b ≡ to).
      let some = get-some old to there in
      let known : to < script.tasks = subst (λ (k : ℕ). k < script.tasks) here l in
      let was : SendsFor script rules some.0 r from to = subst (λ (k : ℕ). SendsFor script rules some.0 r k to) (sym own) (subst (SenderAt script rules r t to) some.1 (all to known)) in
      subst (λ k. SenderAt script rules (record r { journal = L }) t k (slice_get (set old to sender) k)) (sym here)
      (subst (SenderAt script rules (record r { journal = L }) t to) (sym (get-set old to some.0 sender some.1))
      (subst (λ (x : SendingEnd). SendsFor script rules x (record r { journal = L }) t to) (sym (change some.0 some.1))
      (subst (λ (k : ℕ). SendsFor script rules (with_message (unit_of script) (outgoing script m) bytes some.0) (record r { journal = L }) k to) own
      (copied-sends r some.0 was atomic bytes carries)))))
      (λ (apart : b ≡ to → ⊥).
      subst (SenderAt script rules (record r { journal = L }) t b) (sym (get-set-other old to b sender apart))
      (other-sends r t b (slice_get old b) apart atomic (all b l)))
      (cases_eq b to))
