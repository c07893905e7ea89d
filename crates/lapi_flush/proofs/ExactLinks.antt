-- How many numbers a link has, exactly, by which of its messages were copied.
use Rattle.std.proofs.Common.{◌≡◌, ◌⊎◌, ℕ, ◌+◌, ◌==◌, Bool, true, false, cond, ◌&&◌, ◌||◌, List, [], ◌∷◌, ◌++◌, length, refl, sym, ap, ◌∙◌, subst, ⊎_elim, inl, inr, arith}
use Rattle.std.proofs.lemmas.Bool.{and_parts, and_from, both_ways, cond-true, cond-false, eqb-true, eq-eqb, false_from_ne_true}
use Rattle.std.proofs.lemmas.List.{length-append}
use Rattle.lapi_base.specs.declared.script.Script.{Script}
use Rattle.lapi_base.specs.declared.rule.Rules.{Rules}
use Rattle.lapi_base.specs.declared.message.MsgName.{MsgName}
use Rattle.lapi_base.specs.declared.event.Event.{Event}
use Rattle.lapi_base.specs.declared.event.Event.TheVariants.{Issue, Refuse, Enter, Pass, Copy, Head, Land, Begin, End}
use Rattle.lapi_base.specs.Record.Names.{Copied, happened}
use Rattle.lapi_base.specs.Record.Operations.{sender, receiver, fragments, fragment_count}
use Rattle.lapi_base.specs.Record.Wires.{numbered}
use Rattle.lapi_base.specs.Record.Atomic.{Atomic}
use Rattle.lapi_base.proofs.NameLaws.{name_eq-false, happened-cons, happened-head, happened-later}
use Rattle.lapi_laws.proofs.Backward.{Atomic-head, Atomic-tail}
use Rattle.lapi_flush.specs.Rounds.{In}
use Rattle.lapi_flush.proofs.SettledRecords.{fragments-length}

-- no message stands twice among these
abbrev pub Distinct : List MsgName → Type 0
Distinct [] = Unit {0}
Distinct (m ∷ ms) = (In ms m → ⊥) × Distinct ms

-- the copy of one message is none of another
copied-other : (m n : MsgName) (K : List Event) → (n ≡ m → ⊥) → happened (Copied n) (Copy m ∷ K) ≡ happened (Copied n) K
copied-other m n K h = happened-cons (Copied n) (Copy m) K ∙ ap (λ b. b || happened (Copied n) K) (name_eq-false n m h)

module _ (script : Script) where
  -- how many numbers those of these messages have that were copied
  unfoldable pub tally : List Event → List MsgName → ℕ
  tally K [] = 0
  tally K (m ∷ ms) = cond (happened (Copied m) K) (fragment_count script m) 0 + tally K ms

  tally-same : (K L : List Event) (ms : List MsgName) → ((m : MsgName) → In ms m → happened (Copied m) L ≡ happened (Copied m) K) → tally L ms ≡ tally K ms
  unfolding tally
  tally-same K L [] h = refl
  tally-same K L (m ∷ ms) h =
      let one = h m (inl refl) in
      let rest = tally-same K L ms (λ n w. h n (inr w)) in
      λ i. cond (one i) (fragment_count script m) 0 + rest i

  tally-none : (K : List Event) (ms : List MsgName) → ((m : MsgName) → In ms m → happened (Copied m) K ≡ false) → tally K ms ≡ 0
  unfolding tally
  tally-none K [] h = refl
  tally-none K (m ∷ ms) h =
      let one = cond-false (happened (Copied m) K) (fragment_count script m) 0 (h m (inl refl)) in
      let rest = tally-none K ms (λ n w. h n (inr w)) in
      omega arith

  tally-copy : (K : List Event) (m : MsgName) (ms : List MsgName) → happened (Copied m) K ≡ false → Distinct ms → In ms m → tally (Copy m ∷ K) ms ≡ tally K ms + fragment_count script m
  unfolding tally
  tally-copy K m [] gone d w = absurd w
  tally-copy K m (x ∷ xs) gone d w =
      ⊎_elim
      (λ (here : x ≡ m).
      let rest = tally-same K (Copy m ∷ K) xs (λ n wn. copied-other m n K (λ same. d.0 (subst (In xs) (same ∙ sym here) wn))) in
      let now = cond-true (happened (Copied x) (Copy m ∷ K)) (fragment_count script x) 0 (subst (λ y. happened (Copied y) (Copy m ∷ K) ≡ true) (sym here) (happened-head (Copy m) K)) in
      let old = cond-false (happened (Copied x) K) (fragment_count script x) 0 (subst (λ y. happened (Copied y) K ≡ false) (sym here) gone) in
      let size = ap (fragment_count script) here in
      sums _ _ _ _ _ _ now old size rest)
      (λ (later : In xs m).
      let one = ap (λ c. cond c (fragment_count script x) 0) (copied-other m x K (λ same. d.0 (subst (In xs) (sym same) later))) in
      let rest = tally-copy K m xs gone d.1 later in
      more _ _ _ _ _ one rest)
      w
    where
      sums : (a b x m p q : ℕ) → a ≡ x → b ≡ 0 → x ≡ m → p ≡ q → a + p ≡ (b + q) + m
      sums a b x m p q e f g h = omega arith

      more : (a b p q m : ℕ) → a ≡ b → p ≡ q + m → a + p ≡ (b + q) + m
      more a b p q m e h = omega arith

  module _ (rules : Rules) where
    -- A link has so many numbers more: those of its messages that were copied since, where these are all that may be.
    pub exact : (later J : List Event) (a b : ℕ) (ms : List MsgName) → Atomic script rules (later ++ J) → Distinct ms
        → ((m : MsgName) → In ms m → (happened (Copied m) J ≡ false) × (sender script m ≡ a) × (receiver script m ≡ b))
        → ((m : MsgName) → happened (Copied m) (later ++ J) ≡ true → happened (Copied m) J ≡ false → sender script m ≡ a → receiver script m ≡ b → In ms m)
        → length (numbered script (later ++ J) a b) ≡ length (numbered script J a b) + tally (later ++ J) ms
    unfolding numbered
    exact [] J a b ms h d each new = let none = tally-none J ms (λ m w. (each m w).0) in omega arith
    exact (Copy m ∷ later) J a b ms h d each new =
        let K = later ++ J in
        let once = (Atomic-head script rules (Copy m) K h).once in
        let old = exact later J a b ms (Atomic-tail script rules (Copy m) K h) d each (λ n c absent from to. new n (happened-later (Copied n) (Copy m) K c) absent from to) in
        ⊎_elim
        (λ (on : (sender script m == a && receiver script m == b) ≡ true).
        let ends = and_parts (sender script m == a) (receiver script m == b) on in
        let w = new m (happened-head (Copy m) K) (not-before later J m once) (eqb-true (sender script m) a ends.0) (eqb-true (receiver script m) b ends.1) in
        let grown = tally-copy K m ms once d w in
        let now = ap length (cond-true (sender script m == a && receiver script m == b) (numbered script K a b ++ fragments script m) (numbered script K a b) on) ∙ length-append (numbered script K a b) (fragments script m) in
        let size = fragments-length script m in
        sums _ _ _ _ _ _ _ now size old grown)
        (λ (off : (sender script m == a && receiver script m == b) ≡ false).
        let now = ap length (cond-false (sender script m == a && receiver script m == b) (numbered script K a b ++ fragments script m) (numbered script K a b) off) in
        let same = tally-same K (Copy m ∷ K) ms (λ n w. copied-other m n K (λ e. both_ways _ off (and_from (sender script m == a) (receiver script m == b) (eq-eqb (sender script m) a (ap (sender script) (sym e) ∙ (each n w).1)) (eq-eqb (receiver script m) b (ap (receiver script) (sym e) ∙ (each n w).2))))) in
        let q = now ∙ old in
        q ∙ ap (λ x. length (numbered script J a b) + x) (sym same))
        (either (sender script m == a && receiver script m == b))
      where
        either : (c : Bool) → (c ≡ true) ⊎ (c ≡ false)
        either true = inl refl
        either false = inr refl

        not-before : (later J : List Event) (m : MsgName) → happened (Copied m) (later ++ J) ≡ false → happened (Copied m) J ≡ false
        not-before [] J m h = h
        not-before (e ∷ later) J m h = not-before later J m (false_from_ne_true _ (λ x. both_ways _ h (happened-later (Copied m) e (later ++ J) x)))

        sums : (all k f c j t u : ℕ) → all ≡ k + f → f ≡ c → k ≡ j + t → u ≡ t + c → all ≡ j + u
        sums all k f c j t u p q r s = omega arith
    exact (Issue t i ∷ later) J a b ms h d each new = exact later J a b ms (Atomic-tail script rules (Issue t i) (later ++ J) h) d each (λ n c absent from to. new n (happened-later (Copied n) (Issue t i) (later ++ J) c) absent from to) ∙ ap (λ x. length (numbered script J a b) + x) (sym (tally-same (later ++ J) (Issue t i ∷ later ++ J) ms (λ n _. happened-cons (Copied n) (Issue t i) (later ++ J))))
    exact (Refuse t i y ∷ later) J a b ms h d each new = exact later J a b ms (Atomic-tail script rules (Refuse t i y) (later ++ J) h) d each (λ n c absent from to. new n (happened-later (Copied n) (Refuse t i y) (later ++ J) c) absent from to) ∙ ap (λ x. length (numbered script J a b) + x) (sym (tally-same (later ++ J) (Refuse t i y ∷ later ++ J) ms (λ n _. happened-cons (Copied n) (Refuse t i y) (later ++ J))))
    exact (Enter t i ∷ later) J a b ms h d each new = exact later J a b ms (Atomic-tail script rules (Enter t i) (later ++ J) h) d each (λ n c absent from to. new n (happened-later (Copied n) (Enter t i) (later ++ J) c) absent from to) ∙ ap (λ x. length (numbered script J a b) + x) (sym (tally-same (later ++ J) (Enter t i ∷ later ++ J) ms (λ n _. happened-cons (Copied n) (Enter t i) (later ++ J))))
    exact (Pass t i ∷ later) J a b ms h d each new = exact later J a b ms (Atomic-tail script rules (Pass t i) (later ++ J) h) d each (λ n c absent from to. new n (happened-later (Copied n) (Pass t i) (later ++ J) c) absent from to) ∙ ap (λ x. length (numbered script J a b) + x) (sym (tally-same (later ++ J) (Pass t i ∷ later ++ J) ms (λ n _. happened-cons (Copied n) (Pass t i) (later ++ J))))
    exact (Head m ∷ later) J a b ms h d each new = exact later J a b ms (Atomic-tail script rules (Head m) (later ++ J) h) d each (λ n c absent from to. new n (happened-later (Copied n) (Head m) (later ++ J) c) absent from to) ∙ ap (λ x. length (numbered script J a b) + x) (sym (tally-same (later ++ J) (Head m ∷ later ++ J) ms (λ n _. happened-cons (Copied n) (Head m) (later ++ J))))
    exact (Land m ∷ later) J a b ms h d each new = exact later J a b ms (Atomic-tail script rules (Land m) (later ++ J) h) d each (λ n c absent from to. new n (happened-later (Copied n) (Land m) (later ++ J) c) absent from to) ∙ ap (λ x. length (numbered script J a b) + x) (sym (tally-same (later ++ J) (Land m ∷ later ++ J) ms (λ n _. happened-cons (Copied n) (Land m) (later ++ J))))
    exact (Begin m t w ∷ later) J a b ms h d each new = exact later J a b ms (Atomic-tail script rules (Begin m t w) (later ++ J) h) d each (λ n c absent from to. new n (happened-later (Copied n) (Begin m t w) (later ++ J) c) absent from to) ∙ ap (λ x. length (numbered script J a b) + x) (sym (tally-same (later ++ J) (Begin m t w ∷ later ++ J) ms (λ n _. happened-cons (Copied n) (Begin m t w) (later ++ J))))
    exact (End m t w ∷ later) J a b ms h d each new = exact later J a b ms (Atomic-tail script rules (End m t w) (later ++ J) h) d each (λ n c absent from to. new n (happened-later (Copied n) (End m t w) (later ++ J) c) absent from to) ∙ ap (λ x. length (numbered script J a b) + x) (sym (tally-same (later ++ J) (End m t w ∷ later ++ J) ms (λ n _. happened-cons (Copied n) (End m t w) (later ++ J))))
