-- The data of an operation are done where no number of them is unacknowledged, and an acknowledgement lowers that count.
use Rattle.std.proofs.Common.{◌≡◌, ℕ, zero, suc, ◌+◌, ◌==◌, Bool, true, false, cond, ◌&&◌, ◌||◌, not, List, ◌∷◌, length, refl, sym, ap, ◌∙◌, arith, add-zero}
use Rattle.std.specs.Prelude.{slice_get}
use Rattle.std.proofs.lemmas.Bool.{cond-true, cond-false, and_from, false_from_ne_true, eqb-true}
use Rattle.lapi_base.specs.declared.script.Script.{Script}
use Rattle.lapi_base.specs.declared.rule.Rules.{Rules}
use Rattle.lapi_base.specs.declared.message.Leg.TheVariants.{Go, Back}
use Rattle.lapi_base.specs.declared.packet.Packet.{Packet}
use Rattle.lapi_base.specs.declared.packet.Packet.TheVariants.{Ack}
use Rattle.lapi_base.specs.Record.Below.{every_below, below}
use Rattle.lapi_base.specs.Record.Names.{message, Copied, Landed, happened}
use Rattle.lapi_base.specs.Record.Operations.{statement, has_back, receiver}
use Rattle.lapi_base.specs.Record.Wires.{Run, numbered, is_of, covers, has_ack, is_acked, all_numbers, data_done}
use Rattle.lapi_base.specs.Record.Acts.{hand_over, deliver_entry, deliver, perform}
use Rattle.lapi_base.specs.Record.WorldView.{performed, HoldsOfRecords}
use Rattle.lapi_base.specs.Laws.Copying.{numbers_that, unacknowledged, DoneByCount, AcksLowerCounts}
use Rattle.lapi_base.proofs.BelowLaws.{length-below-none, length-below-suc}
use Rattle.lapi_base.proofs.TestLaws.{eqb-refl}

-- where of each number just one of two tests holds, or neither, as a third does or not, so many pass that as pass the two
pub count-parts : (n : ℕ) (p q s : ℕ → Bool) → ((k : ℕ) → cond (p k) 1 0 + cond (q k) 1 0 ≡ cond (s k) 1 0) → length (below n p) + length (below n q) ≡ length (below n s)
count-parts zero p q s h = let x = length-below-none 0 p (λ k l. absurd (omega arith)) in let y = length-below-none 0 q (λ k l. absurd (omega arith)) in let z = length-below-none 0 s (λ k l. absurd (omega arith)) in omega arith
count-parts (suc n) p q s h =
    let old = count-parts n p q s h in
    let here = h n in
    let x = length-below-suc n p in
    let y = length-below-suc n q in
    let z = length-below-suc n s in
    omega arith

-- no number passes the first test and not the second where each that passes the first passes the second
pub count-none : (n : ℕ) (p q : ℕ → Bool) → every_below n (λ k. not (p k) || q k) ≡ (length (below n (λ k. p k && not (q k))) == 0)
unfolding every_below
count-none zero p q = ap (λ k. k == 0) (sym (length-below-none 0 (λ k. p k && not (q k)) (λ k l. absurd (omega arith))))
count-none (suc n) p q =
    ap (λ b. b && (not (p n) || q n)) (count-none n p q)
    ∙ last (length (below n (λ k. p k && not (q k)))) (p n) (q n)
    ∙ ap (λ k. k == 0) (sym (length-below-suc n (λ k. p k && not (q k))))
  where
    and-true : (x : Bool) → (x && true) ≡ x
    and-true true = refl
    and-true false = refl

    and-false : (x : Bool) → (x && false) ≡ false
    and-false true = refl
    and-false false = refl

    not-zero : (k : ℕ) → (k + 1 == 0) ≡ false
    not-zero k = false_from_ne_true _ (λ h. let e = eqb-true (k + 1) 0 h in absurd (omega arith))

    same-zero : (k : ℕ) → ((k == 0) && true) ≡ (k + 0 == 0)
    same-zero k = and-true (k == 0) ∙ ap (λ n. n == 0) (sym (add-zero k))

    last : (k : ℕ) (x y : Bool) → ((k == 0) && (not x || y)) ≡ (k + cond (x && not y) 1 0 == 0)
    last k true true = same-zero k
    last k true false = and-false (k == 0) ∙ sym (not-zero k)
    last k false true = same-zero k
    last k false false = same-zero k

one-of : (m c o : Bool) → cond (m && not (c || o)) 1 0 + cond (m && (c && not o)) 1 0 ≡ cond (m && not o) 1 0
one-of false c o = refl
one-of true true true = refl
one-of true true false = refl
one-of true false true = refl
one-of true false false = refl

module _ (script : Script) (rules : Rules) where
  pub done-is : (r : Run) (a i : ℕ) → has_back (statement script a i) ≡ false → data_done script r a i ≡ (happened (Copied (message a i Go)) r.journal && unacknowledged script rules r a i == 0)
  unfolding data_done all_numbers numbers_that
  done-is r a i h =
      let m = message a i Go in
      let pairs = numbered script r.journal a (receiver script m) in
      cond-false (has_back (statement script a i)) (happened (Landed (message a i Back)) r.journal) (happened (Copied m) r.journal && all_numbers script pairs m (is_acked r a (receiver script m))) h
      ∙ ap (λ b. happened (Copied m) r.journal && b) (count-none (length pairs) (λ n. is_of script m (slice_get pairs n)) (is_acked r a (receiver script m)))

  -- an acknowledgement adds to what is acknowledged, and nothing else
  abbrev acked-by : Run → (a b : ℕ) → Packet → Run
  acked-by r a b p = hand_over script rules r b a p

  handed-ack : (r : Run) (a b layout from to least bits n : ℕ) → is_acked (hand_over script rules r b a (Ack layout from to least bits)) a b n ≡ (covers n (Ack layout from to least bits) || is_acked r a b n)
  unfolding hand_over has_ack
  handed-ack r a b layout from to least bits n = ap (λ (ps : List Packet). has_ack ps n) (cond-true (b == b && a == a) (Ack layout from to least bits ∷ r.handed b a) (r.handed b a) (and_from _ _ (eqb-refl b) (eqb-refl a)))

  lowered : (r : Run) (a i layout from to least bits : ℕ) →
      let m = message a i Go in
      let ack = Ack layout from to least bits in
      unacknowledged script rules (hand_over script rules r (receiver script m) a ack) a i + numbers_that script rules r m (λ n. covers n ack && not (is_acked r a (receiver script m) n)) ≡ unacknowledged script rules r a i
  unfolding numbers_that hand_over
  lowered r a i layout from to least bits =
      let m = message a i Go in
      let b = receiver script m in
      let ack = Ack layout from to least bits in
      let pairs = numbered script r.journal a b in
      count-parts (length pairs) (λ n. is_of script m (slice_get pairs n) && not (is_acked (hand_over script rules r b a ack) a b n)) (λ n. is_of script m (slice_get pairs n) && (covers n ack && not (is_acked r a b n))) (λ n. is_of script m (slice_get pairs n) && not (is_acked r a b n))
      (λ n.
      let x = is_of script m (slice_get pairs n) in
      let c = covers n ack in
      let o = is_acked r a b n in
      ap (λ y. cond (x && not y) 1 0 + cond (x && (c && not o)) 1 0) (handed-ack r a b layout from to least bits n) ∙ one-of x c o)

pub done-by-count : HoldsOfRecords DoneByCount
done-by-count script rules r is = λ a i h. done-is script rules r a i h

pub acks-lower : HoldsOfRecords AcksLowerCounts
unfolding performed perform deliver hand_over numbers_that
acks-lower script rules r is = λ a i k layout from to least bits at.
    let m = message a i Go in
    let b = receiver script m in
    ap (λ o. unacknowledged script rules (deliver_entry script rules r b a o) a i + numbers_that script rules r m (λ n. covers n (Ack layout from to least bits) && not (is_acked r a b n))) at
    ∙ lowered script rules r a i layout from to least bits
