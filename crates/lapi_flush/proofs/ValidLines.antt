-- Lines that name entries which are there are valid, where no wire gets too long; and how long wires get.
use Rattle.std.proofs.Common.{◌≡◌, ℕ, suc, ◌+◌, ◌^◌, ◌<◌, ◌≤◌, ◌==◌, Bool, ◌&&◌, List, [], ◌∷◌, ◌++◌, length, Some, None, refl, sym, ap, ◌∙◌, arith}
use Rattle.std.specs.Prelude.{nat_lt, slice_get}
use Rattle.std.specs.List.{AllByRecursion}
use Rattle.std.proofs.lemmas.Bool.{cond_both}
use Rattle.std.proofs.lemmas.List.{length-append, append-nil}
use Rattle.lapi_base.specs.declared.script.Script.{Script}
use Rattle.lapi_base.specs.declared.rule.Rules.{Rules}
use Rattle.lapi_base.specs.declared.schedule.Act.{Act}
use Rattle.lapi_base.specs.declared.schedule.Act.TheVariants.{Step, Poll, Tick, Deliver, Cut, Inject}
use Rattle.lapi_base.specs.declared.reply.Reply.TheVariants.{Idle}
use Rattle.lapi_base.specs.declared.packet.Packet.{Packet}
use Rattle.lapi_base.specs.declared.packet.Packet.TheVariants.{Data, Ack}
use Rattle.lapi_base.specs.Record.Operations.{statements}
use Rattle.lapi_base.specs.Packet.Spelling.{refusal}
use Rattle.lapi_base.specs.Packet.PacketBytes.{packet_size}
use Rattle.lapi_base.specs.Record.Refusals.{next, refusal_of}
use Rattle.lapi_base.specs.Record.Valid.{ValidAct}
use Rattle.lapi_base.specs.Packet.Layout.{holds_back}
use Rattle.lapi_base.specs.Record.Wires.{Run, packets, to_send, ack, owed_ack}
use Rattle.lapi_base.specs.Record.Acts.{ready, copy_each, with_handed, at_once, hand_over, deliver_entry, deliver, reply_with, unless_refused, add_event, step, poll, perform, after}
use Rattle.lapi_flush.specs.Served.{IsNamed, AllNamed}
use Rattle.lapi_flush.specs.Flushed.{data_count}
use Rattle.lapi_laws.proofs.LastAck.{IsData, packets-data}
use Rattle.lapi_flush.proofs.FlushedTasks.{count-append, count-data}

-- a wire has data packets more, and one entry at most
abbrev Extends : List Packet → List Packet → Type 0
Extends old new = (more : List Packet) × (last : List Packet) × (new ≡ old ++ (more ++ last)) × AllByRecursion IsData more × (length last ≤ 1)

same-wire : (wire : List Packet) → Extends wire wire
same-wire wire = ([], [], sym (append-nil wire), tt, omega arith)

longer : (old new : List Packet) → Extends old new → length old ≤ length new
longer old new x = let e = ap length x.2 ∙ length-append old (x.0 ++ x.1) in omega arith

exceeds : (old new : List Packet) (n : ℕ) → Extends old new → length old ≤ data_count old + n → length new ≤ data_count new + suc n
exceeds old new n x h =
    let e = ap length x.2 ∙ length-append old (x.0 ++ x.1) in
    let c = ap data_count x.2 ∙ count-append old (x.0 ++ x.1) in
    let q = count-data x.0 x.3 in
    sums (length new) (length old) (length (x.0 ++ x.1)) (length x.0) (length x.1) (data_count new) (data_count old) (data_count (x.0 ++ x.1)) (data_count x.0) (data_count x.1) n e (length-append x.0 x.1) c (count-append x.0 x.1) q x.4 h
  where
    sums : (a o m l k b p q r s n : ℕ) → a ≡ o + m → m ≡ l + k → b ≡ p + q → q ≡ r + s → r ≡ l → k ≤ 1 → o ≤ p + n → a ≤ b + suc n
    sums a o m l k b p q r s n x1 x2 x3 x4 x5 x6 x7 = omega arith

module _ (script : Script) (rules : Rules) where
  at_once-short : (told : Packet) → length (at_once script rules told) ≤ 1
  unfolding at_once
  at_once-short told = cond_both (holds_back script) [] (told ∷ []) (λ ps. length ps ≤ 1) (λ _. omega arith) (λ _. omega arith)

  owed-short : (r : Run) (a b : ℕ) → length (owed_ack script rules r a b) ≤ 1
  unfolding owed_ack
  owed-short r a b = cond_both (r.owed a b) (ack script rules r a b ∷ []) [] (λ ps. length ps ≤ 1) (λ _. omega arith) (λ _. omega arith)

  handed-extends : (r : Run) (x y : ℕ) (p : Packet) (a b : ℕ) → Extends (r.wire a b) ((hand_over script rules r x y p).wire a b)
  unfolding hand_over
  handed-extends r x y (Ack layout from to least bits) a b = same-wire (r.wire a b)
  handed-extends r x y (Data p) a b =
      let q = ack script rules (with_handed script rules r x y (Data p)) x y in
      cond_both (a == y && b == x) (r.wire a b ++ at_once script rules q) (r.wire a b) (Extends (r.wire a b)) (λ _. ([], at_once script rules q, refl, tt, at_once-short q)) (λ _. same-wire (r.wire a b))

  act-extends : (r : Run) (act : Act) (a b : ℕ) → IsNamed script rules r act → Extends (r.wire a b) ((perform script rules packet_size refusal r act).wire a b)
  unfolding perform step poll deliver
  act-extends r (Step t) a b h =
      let i = next r.journal t in
      cond_both (nat_lt i (length (statements script t))) (add_event script rules r (unless_refused script rules r t i (refusal_of script rules r.journal t i))) (reply_with script rules r Idle) (λ s. Extends (r.wire a b) (s.wire a b))
      (λ _. elim (unless_refused script rules r t i (refusal_of script rules r.journal t i)) as (λ o. Extends (r.wire a b) ((add_event script rules r o).wire a b)) [ None ↦ same-wire (r.wire a b) | Some e ↦ same-wire (r.wire a b) ])
      (λ _. same-wire (r.wire a b))
  act-extends r (Poll t) a b h =
      let J = copy_each r.journal (ready script r.journal t) in
      let more = packets script rules J a b (to_send script rules r J a b) in
      let owed = owed_ack script rules r b a in
      cond_both (a == t) (r.wire a b ++ (more ++ owed)) (r.wire a b) (Extends (r.wire a b)) (λ _. (more, owed, refl, packets-data script rules J a b (to_send script rules r J a b), owed-short r b a)) (λ _. same-wire (r.wire a b))
  act-extends r (Deliver x y k) a b h =
      elim (slice_get (r.wire x y) k) as (λ o. Extends (r.wire a b) ((deliver_entry script rules r x y o).wire a b)) [
        | None ↦ same-wire (r.wire a b)
        | Some p ↦ handed-extends r x y p a b
      ]
  act-extends r (Tick t) a b h = absurd h
  act-extends r (Cut x y k n) a b h = absurd h
  act-extends r (Inject x y bytes) a b h = absurd h
  act-extends r (Act.Begin t w) a b h = absurd h
  act-extends r (Act.End t w) a b h = absurd h

  all-longer : (acts : List Act) (r : Run) (a b : ℕ) → AllNamed script rules r acts → length (r.wire a b) ≤ length ((after script rules packet_size refusal r acts).wire a b)
  unfolding after
  all-longer [] r a b h = omega arith
  all-longer (act ∷ acts) r a b h =
      let s = perform script rules packet_size refusal r act in
      let one = longer (r.wire a b) (s.wire a b) (act-extends r act a b h.0) in
      let more = all-longer acts s a b h.1 in
      omega arith

  pub all-exceeds : (acts : List Act) (r : Run) (a b n : ℕ) → AllNamed script rules r acts → length (r.wire a b) ≤ data_count (r.wire a b) + n →
      let s = after script rules packet_size refusal r acts in
      length (s.wire a b) ≤ data_count (s.wire a b) + (n + length acts)
  unfolding after
  all-exceeds [] r a b n h l = omega arith
  all-exceeds (act ∷ acts) r a b n h l =
      let s = perform script rules packet_size refusal r act in
      let one = exceeds (r.wire a b) (s.wire a b) n (act-extends r act a b h.0) l in
      let more = all-exceeds acts s a b (suc n) h.1 one in
      let t = after script rules packet_size refusal s acts in
      moved (length (t.wire a b)) (data_count (t.wire a b)) n (length acts) more
    where
      moved : (x d n m : ℕ) → x ≤ d + (suc n + m) → x ≤ d + (n + suc m)
      moved x d n m h = omega arith

  -- so they are valid where the wires stay short
  pub named-valid : (spells : List ℕ → Bool) (acts : List Act) (r : Run) → AllNamed script rules r acts → ((a b : ℕ) → a < script.tasks → b < script.tasks → length ((after script rules packet_size refusal r acts).wire a b) < 2 ^ 32) → AllByRecursion (ValidAct script spells) acts
  unfolding after
  named-valid spells [] r h short = tt
  named-valid spells (act ∷ acts) r h short = (one act h.0 (λ a b la lb. whole a b la lb), named-valid spells acts (perform script rules packet_size refusal r act) h.1 short)
    where
      whole : (a b : ℕ) → a < script.tasks → b < script.tasks → length (r.wire a b) < 2 ^ 32
      whole a b la lb = let up = all-longer (act ∷ acts) r a b h in let s = short a b la lb in omega arith

      one : (x : Act) → IsNamed script rules r x → ((a b : ℕ) → a < script.tasks → b < script.tasks → length (r.wire a b) < 2 ^ 32) → ValidAct script spells x
      one (Step t) n l = n
      one (Poll t) n l = n
      one (Deliver a b k) n l = let s = l a b n.0 n.1 in let q = n.2 in (n.0, n.1, let z : k < 2 ^ 32 = omega arith in z)
      one (Tick t) n l = absurd n
      one (Cut x y k m) n l = absurd n
      one (Inject x y bytes) n l = absurd n
      one (Act.Begin t w) n l = absurd n
      one (Act.End t w) n l = absurd n
