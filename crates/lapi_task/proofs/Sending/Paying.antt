-- What a poll pays of the acknowledgements that its task owes.
use Rattle.std.proofs.Common.{◌≡◌, ℕ, zero, suc, ◌+◌, ◌*◌, ◌<◌, ◌≤◌, ◌==◌, Bool, true, false, cond, List, [], ◌∷◌, ◌++◌, map, length, set, Option, Some, None, refl, sym, ap, ◌∙◌, subst, ⊎_elim, arith, append_assoc, add-one}
use Rattle.std.specs.Prelude.{slice_get}
use Rattle.std.specs.List.{AllByRecursion}
use Rattle.std.proofs.lemmas.Bool.{cases_lt, cases_eq, ne_eqb}
use Rattle.std.proofs.lemmas.List.{append-nil}
use Rattle.lapi_base.specs.declared.script.Script.{Script}
use Rattle.lapi_base.specs.declared.rule.Rules.{Rules}
use Rattle.lapi_base.specs.declared.event.Event.{Event}
use Rattle.lapi_base.specs.declared.packet.Packet.{Packet}
use Rattle.lapi_base.specs.declared.packet.Packet.TheVariants.{Ack}
use Rattle.lapi_base.specs.declared.wire.WireEntry.{WireEntry}
use Rattle.lapi_base.specs.Packet.Format.{byte_count}
use Rattle.lapi_base.specs.Packet.Layout.{layout_of, bits_size, is_version, window_of}
use Rattle.lapi_base.specs.Packet.PacketBytes as written
use Rattle.lapi_base.specs.Record.Arrived.{ack_of}
use Rattle.lapi_base.specs.Record.Wires.{Run, owed_ack}
use Rattle.lapi_base.specs.Record.WorldView.{IsRecord}
use Rattle.lapi_base.proofs.LayoutLaws.{window-bits}
use Rattle.lapi_base.proofs.ListLaws.{all-append, get-past, get-set, get-set-other, get-some}
use Rattle.lapi_link.specs.Receiver.{ReceivingEnd, ReceivesFor}
use Rattle.lapi_link.specs.Sender.{entries_to}
use Rattle.lapi_link.proofs.LeastNumbers.{base-is, bits-are}
use Rattle.lapi_parts.proofs.OwedAcks.{owed-paid}
use Rattle.lapi_task.specs.declared.task.Task.{Task}
use Rattle.lapi_task.specs.Acknowledging.{MayAnswer, MayPay, owed_to, owed_below}
use Rattle.lapi_task.specs.Alone.{answer_by, answer_now, is_owed, owes}
use Rattle.lapi_task.specs.HasEffect.{bytes_to}
use Rattle.lapi_task.specs.StandsFor.{ReceiverAt, StandsFor}
use Rattle.lapi_task.proofs.Sending.SenderLaws.{bytes-append, bytes-here, bytes-there, entries-known}

-- ---- one task after another

-- the first n tasks were told what they were owed
pub record SomePaid (n : ℕ) (first now : Task) (old new : List WireEntry) : Type 0 where
  pub entries : new ≡ old ++ owed_below first n
  pub paid : (b : ℕ) → b < n → owes now b ≡ false
  pub left : (b : ℕ) → n ≤ b → slice_get now.owed.items b ≡ slice_get first.owed.items b
  pub count : length now.owed.items ≡ length first.owed.items
  pub rest : now ≡ record first { owed = now.owed }

pub none-paid : (task : Task) (old : List WireEntry) → SomePaid 0 task task old old
unfolding owed_below
none-paid task old = record { entries = sym (append-nil old); paid = λ b l. absurd (omega arith); left = λ b l. refl; count = refl; rest = refl }

-- where another one may be told as at first
pub may-still : (first now : Task) (to : ℕ) → now ≡ record first { owed = now.owed } → MayAnswer first to → MayAnswer now to
may-still first now to rest h = subst (λ (x : Task). MayAnswer x to) (sym rest) (record { version = h.version; own = h.own; other = h.other; there = h.there; window = h.window })

pub one-paid : (n : ℕ) (first now after : Task) (old entries new : List WireEntry) → SomePaid n first now old entries → n < length now.owed.items → after.owed.items ≡ set now.owed.items n false → length after.owed.items ≡ length now.owed.items → after ≡ record now { owed = after.owed } → new ≡ entries ++ owed_to now n → SomePaid (n + 1) first after old new
unfolding owed_below
one-paid n first now after old entries new h there flags count rest put =
    let own = get-some now.owed.items n there in
    let at = λ (b : ℕ). ap (λ (os : List Bool). slice_get os b) flags in
    record {
      entries =
          put
          ∙ (λ i. h.entries i ++ same i)
          ∙ append_assoc old (owed_below first n) (owed_to first n)
          ∙ ap (λ (k : ℕ). old ++ owed_below first k) (sym (add-one n));
      paid = λ b l.
          ⊎_elim
          (λ (here : b ≡ n). ap is_owed (at b ∙ ap (slice_get (set now.owed.items n false)) here ∙ get-set now.owed.items n own.0 false own.1))
          (λ (apart : b ≡ n → ⊥). ap is_owed (at b ∙ get-set-other now.owed.items n b false apart) ∙ h.paid b (omega (arith, apart)))
          (cases_eq b n);
      left = λ b l. at b ∙ get-set-other now.owed.items n b false (λ here. absurd (omega arith)) ∙ h.left b (omega arith);
      count = count ∙ h.count;
      rest = rest ∙ ap (λ (x : Task). record x { owed = after.owed }) h.rest;
    }
  where
    same : owed_to now n ≡ owed_to first n
    same =
        ap (λ (b : Bool). cond b (answer_now now n) []) (ap is_owed (h.left n (omega arith)))
        ∙ ap (λ (x : Task). cond (owes first n) (answer_now x n) []) h.rest

-- and once all were, nothing is owed
pub all-paid : (n : ℕ) (first now : Task) (old new : List WireEntry) → SomePaid n first now old new → length first.owed.items ≡ n → (b : ℕ) → owes now b ≡ false
all-paid n first now old new h size b =
    ⊎_elim
    (λ (lt : b < n). h.paid b lt)
    (λ (ge : n ≤ b). ap is_owed (get-past now.owed.items b (let e = h.count in omega (arith, e, size, ge))))
    (cases_lt b n)

-- A task owes nothing more, and told the first n tasks what they were owed.
pub record IsPaid (n : ℕ) (before after : Task) (old new : List WireEntry) : Type 0 where
  pub entries : new ≡ old ++ owed_below before n
  pub paid : (b : ℕ) → owes after b ≡ false
  pub count : length after.owed.items ≡ length before.owed.items
  pub rest : after ≡ record before { owed = after.owed }

-- ---- the wires of the answers

module _ (task : Task) where
  -- the bytes that one task is told
  abbrev pub told_bytes : (to : ℕ) → List (List ℕ)
  told_bytes to = map (λ (e : WireEntry). e.bytes) (owed_to task to)

  one-wire : (layout number to : ℕ) (o : Option ReceivingEnd) → answer_by layout number to o ≡ entries_to to (map (λ (e : WireEntry). e.bytes) (answer_by layout number to o))
  one-wire layout number to None = refl
  one-wire layout number to (Some end) = refl

  own-wire : (to : ℕ) → owed_to task to ≡ entries_to to (told_bytes to)
  own-wire to = elim (owes task to) as (λ b. cond b (answer_now task to) [] ≡ entries_to to (map (λ (e : WireEntry). e.bytes) (cond b (answer_now task to) []))) [
    | true ↦ one-wire task.sizes.layout task.state.number to (slice_get task.receivers.items to)
    | false ↦ refl
  ]

  pub owed-within : (m n : ℕ) → n ≤ m → AllByRecursion (λ (e : WireEntry). e.to < m) (owed_below task n)
  unfolding owed_below
  owed-within m zero l = tt
  owed-within m (suc b) l =
      all-append (λ (e : WireEntry). e.to < m) (owed_below task b) (owed_to task b) (owed-within m b (let q : b ≤ m = omega arith in q))
      (subst (AllByRecursion (λ (e : WireEntry). e.to < m)) (sym (own-wire b)) (entries-known m b (told_bytes b) (let q : b < m = omega arith in q)))

  own-bytes : (b : ℕ) → bytes_to b (owed_to task b) ≡ told_bytes b
  own-bytes b = ap (bytes_to b) (own-wire b) ∙ bytes-here b (told_bytes b)

  other-bytes : (c b : ℕ) → (c == b) ≡ false → bytes_to b (owed_to task c) ≡ []
  other-bytes c b apart = ap (bytes_to b) (own-wire c) ∙ bytes-there c b (told_bytes c) apart

  bytes-later : (b n : ℕ) → n ≤ b → bytes_to b (owed_below task n) ≡ []
  unfolding owed_below
  bytes-later b zero l = refl
  bytes-later b (suc n) l =
      bytes-append b (owed_below task n) (owed_to task n)
      ∙ ap (λ xs. xs ++ bytes_to b (owed_to task n)) (bytes-later b n (let q : n ≤ b = omega arith in q))
      ∙ other-bytes n b (ne_eqb n b (λ same. absurd (omega arith)))

  pub bytes-paid : (b n : ℕ) → b < n → bytes_to b (owed_below task n) ≡ told_bytes b
  unfolding owed_below
  bytes-paid b zero l = absurd (omega arith)
  bytes-paid b (suc n) l =
      bytes-append b (owed_below task n) (owed_to task n)
      ∙ ⊎_elim
      (λ (lt : b < n).
      ap (λ xs. xs ++ bytes_to b (owed_to task n)) (bytes-paid b n lt)
      ∙ ap (λ xs. told_bytes b ++ xs) (other-bytes n b (ne_eqb n b (λ same. absurd (omega arith))))
      ∙ append-nil (told_bytes b))
      (λ (ge : n ≤ b).
      let same : n ≡ b = omega arith in
      ap (λ xs. xs ++ bytes_to b (owed_to task n)) (bytes-later b n ge)
      ∙ ap (λ k. bytes_to b (owed_to task k)) same
      ∙ own-bytes b)
      (cases_lt b n)

-- ---- by the record

module _ (script : Script) (rules : Rules) (t : ℕ) where
  -- the answer by the end of a link is the acknowledgement of what was handed over on it
  answer-is : (ps : List Packet) (layout number to : ℕ) (o : Option ReceivingEnd) → layout ≡ script.layout → number ≡ t → ReceiverAt script rules ps o → map (λ (e : WireEntry). e.bytes) (answer_by layout number to o) ≡ written.packet (ack_of script ps to t) ∷ []
  unfolding ack_of
  answer-is ps layout number to None own same h = absurd h
  answer-is ps layout number to (Some end) own same h =
      let base = base-is end.window ps h.0.taken h.0.numbers in
      let bits = bits-are end.window ps (window_of script) h.0.window h.0.taken h.0.numbers in
      λ i. written.packet (Ack (own i) (same i) to (base i) (bits i)) ∷ []

  module _ (r : Run) (recorded : IsRecord script rules r) (J : List Event) (task : Task) (stands : StandsFor script rules t task (record r { journal = J })) where
    -- what a task owes is what the record says that it owes
    pub owed-told : (b : ℕ) → b < script.tasks → told_bytes task b ≡ map written.packet (owed_ack script rules r b t)
    owed-told b l =
        let bytes = map (λ (e : WireEntry). e.bytes) in
        let layout = ap (λ (z : _). z.layout) stands.calls.sizes in
        ap (λ (o : Bool). bytes (cond o (answer_now task b) [])) (ap is_owed (stands.owed b l))
        ∙ each (r.owed b t) (answer-is (r.handed b t) task.sizes.layout task.state.number b (slice_get task.receivers.items b) layout stands.holds.number (stands.receivers b l))
        ∙ sym (ap (map written.packet) (owed-paid script rules r recorded b t))
      where
        each : (o : Bool) → map (λ (e : WireEntry). e.bytes) (answer_now task b) ≡ written.packet (ack_of script (r.handed b t) b t) ∷ [] → map (λ (e : WireEntry). e.bytes) (cond o (answer_now task b) []) ≡ map written.packet (cond o (ack_of script (r.handed b t) b t ∷ []) [])
        each true e = e
        each false e = refl

  -- so it may pay
  pub may-pay : (r : Run) (task : Task) → t < script.tasks → StandsFor script rules t task r → MayPay task
  unfolding window_of
  may-pay r task known stands =
      let tasks = ap (λ (z : _). z.tasks) stands.calls.sizes in
      let most = stands.calls.valid.tasks.1 in
      record {
        tasks = λ to l. record {
          version = ap (λ (z : _). is_version z.layout) stands.calls.sizes ∙ stands.calls.valid.layout;
          own = (let e = stands.holds.number in omega (arith, e, known, most));
          other = omega (arith, l, tasks, most);
          there = (let e = stands.receiver_count in omega (arith, l, tasks, e));
          window = λ end here. wide to end here (subst (λ n. to < n) tasks l);
        };
        owed = stands.owed_count ∙ sym tasks;
      }
    where
      width-of : (ps : List Packet) (o : Option ReceivingEnd) (end : ReceivingEnd) → o ≡ Some end → ReceiverAt script rules ps o → end.window.window ≡ window_of script
      width-of ps o end here h = (subst (ReceiverAt script rules ps) here h).0.window

      wide : (to : ℕ) (end : ReceivingEnd) → slice_get task.receivers.items to ≡ Some end → to < script.tasks → end.window.window ≤ 8 * byte_count (bits_size (layout_of task.sizes.layout))
      wide to end here l =
          let width = width-of (r.handed to t) (slice_get task.receivers.items to) end here (stands.receivers to l) in
          let bits = width ∙ window-bits (layout_of script.layout) ∙ ap (λ (z : _). 8 * byte_count (bits_size (layout_of z.layout))) (sym stands.calls.sizes) in
          omega (arith, bits)

-- and after its links have sent
pub may-pay-sent : (task sent : Task) → sent ≡ record task { senders = sent.senders } → MayPay task → MayPay sent
may-pay-sent task sent rest h = subst MayPay (sym rest) (record {
  tasks = λ to l. let one = h.tasks to l in record { version = one.version; own = one.own; other = one.other; there = one.there; window = one.window };
  owed = h.owed;
})
