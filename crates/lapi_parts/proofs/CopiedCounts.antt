-- How many numbers of a message pass a test stays while others are copied; and its own Copy gives it its fragments.
use Rattle.std.proofs.Common.{◌≡◌, ℕ, zero, suc, ◌+◌, ◌<◌, ◌≤◌, ◌==◌, Bool, true, false, cond, ◌&&◌, not, List, [], ◌∷◌, ◌++◌, length, refl, sym, ap, ◌∙◌, subst, ⊎_elim, arith}
use Rattle.std.specs.Prelude.{slice_get}
use Rattle.std.proofs.lemmas.Bool.{both_ways, cond-true, and_from, false_from_ne_true}
use Rattle.std.proofs.lemmas.List.{length-append}
use Rattle.lapi_base.specs.declared.script.Script.{Script}
use Rattle.lapi_base.specs.declared.rule.Rules.{Rules}
use Rattle.lapi_base.specs.declared.message.Leg.TheVariants.{Go}
use Rattle.lapi_base.specs.declared.message.MsgName.{MsgName}
use Rattle.lapi_base.specs.declared.event.Event.{Event}
use Rattle.lapi_base.specs.declared.event.Event.TheVariants.{Issue, Refuse, Enter, Pass, Copy, Head, Land, Begin, End}
use Rattle.lapi_base.specs.Packet.Spelling.{refusal}
use Rattle.lapi_base.specs.Packet.PacketBytes.{packet_size}
use Rattle.lapi_base.specs.Record.Below.{below}
use Rattle.lapi_base.specs.Record.Names.{message, name_eq, Copied, key_of, happened}
use Rattle.lapi_base.specs.Record.Operations.{sender, receiver, fragments, fragment_count}
use Rattle.lapi_base.specs.Record.Wires.{Run, numbered, is_of, is_acked}
use Rattle.lapi_base.specs.Record.Atomic.{Atomic}
use Rattle.lapi_base.specs.Record.WorldView.{performed, HoldsOfRecords}
use Rattle.lapi_base.specs.Laws.Copying.{numbers_that, unacknowledged, CopiesCountAll, CountsStay}
use Rattle.lapi_base.proofs.BelowLaws.{below-same, length-below-none, length-below-suc}
use Rattle.lapi_base.proofs.ListLaws.{get-before, get-after, get-some}
use Rattle.lapi_base.proofs.NameLaws.{happened-cases, happened-grown, name_eq-refl, name_eq-true}
use Rattle.lapi_base.proofs.TestLaws.{eqb-refl}
use Rattle.lapi_laws.proofs.Backward.{Atomic-head, Atomic-tail}
use Rattle.lapi_laws.proofs.Out.{numbered-copied, numbered-copy}
use Rattle.lapi_laws.proofs.Places.{fragments-get, fragments-length}
use Rattle.lapi_laws.proofs.SentWindow.{grows-cons}
use Rattle.lapi_parts.proofs.LineEvents.{line-adds}
use Rattle.lapi_parts.proofs.LinesTaken.{more-record}
use Rattle.lapi_parts.proofs.LocalQuestions.{by_points}
use Rattle.lapi_parts.proofs.Receivable.{sent-numbers, acked-sent}
use Rattle.lapi_parts.proofs.Records.{record-sound}

-- ---- counts of parts

below-split : (n k : ℕ) (p : ℕ → Bool) → length (below (n + k) p) ≡ length (below n p) + length (below k (λ i. p (n + i)))
below-split n zero p = let none = length-below-none 0 (λ i. p (n + i)) (λ i l. absurd (omega arith)) in let e : n + 0 ≡ n = omega arith in ap (λ x. length (below x p)) e ∙ (let q : length (below n p) ≡ length (below n p) + length (below 0 (λ i. p (n + i))) = omega arith in q)
below-split n (suc k) p =
    let old = below-split n k p in
    let here = length-below-suc k (λ i. p (n + i)) in
    let e : n + suc k ≡ suc (n + k) = omega arith in
    ap (λ x. length (below x p)) e ∙ length-below-suc (n + k) p ∙ (let q : length (below (n + k) p) + cond (p (n + k)) 1 0 ≡ length (below n p) + length (below (suc k) (λ i. p (n + i))) = omega arith in q)

below-every : (n : ℕ) (p : ℕ → Bool) → ((k : ℕ) → k < n → p k ≡ true) → length (below n p) ≡ n
below-every zero p h = length-below-none 0 p (λ k l. absurd (omega arith))
below-every (suc n) p h =
    let old = below-every n p (λ k l. h k (omega arith)) in
    let one : cond {A = ℕ} (p n) 1 0 ≡ 1 = ap (λ b. cond b 1 0) (h n (omega arith)) in
    length-below-suc n p ∙ (let q : length (below n p) + cond (p n) 1 0 ≡ suc n = omega arith in q)

module _ (script : Script) (m : MsgName) where
  -- the numbers of the message in a list of pairs that pass
  unfoldable pub count_in : List (MsgName × ℕ) → (ℕ → Bool) → ℕ
  count_in pairs passes = length (below (length pairs) (λ n. is_of script m (slice_get pairs n) && passes n))

  count-append : (xs ys : List (MsgName × ℕ)) (passes : ℕ → Bool) → count_in (xs ++ ys) passes ≡ count_in xs passes + count_in ys (λ n. passes (length xs + n))
  unfolding count_in
  count-append xs ys passes =
      let all = λ (n : ℕ). is_of script m (slice_get (xs ++ ys) n) && passes n in
      ap (λ n. length (below n all)) (length-append xs ys)
      ∙ below-split (length xs) (length ys) all
      ∙ ap (λ (l : List ℕ). length l + length (below (length ys) (λ i. all (length xs + i)))) (below-same (length xs) all (λ n. is_of script m (slice_get xs n) && passes n) (λ n l. ap (λ o. is_of script m o && passes n) (get-before xs ys n l)))
      ∙ ap (λ (l : List ℕ). length (below (length xs) (λ n. is_of script m (slice_get xs n) && passes n)) + length l) (below-same (length ys) (λ i. all (length xs + i)) (λ i. is_of script m (slice_get ys i) && passes (length xs + i)) (λ i l. ap (λ o. is_of script m o && passes (length xs + i)) (get-after xs ys i)))

  -- fragments of another message, and its own
  others-count : (x : MsgName) (passes : ℕ → Bool) → name_eq m x ≡ false → count_in (fragments script x) passes ≡ 0
  unfolding count_in
  others-count x passes differ =
      length-below-none (length (fragments script x)) (λ n. is_of script m (slice_get (fragments script x) n) && passes n) (λ n l.
      ap (λ o. is_of script m o && passes n) (fragments-get script x n (let e = fragments-length script x in omega arith))
      ∙ ap (λ b. b && passes n) differ)

  own-count : (passes : ℕ → Bool) → ((n : ℕ) → passes n ≡ true) → count_in (fragments script m) passes ≡ fragment_count script m
  unfolding count_in
  own-count passes all =
      below-every (length (fragments script m)) (λ n. is_of script m (slice_get (fragments script m) n) && passes n) (λ n l.
      ap (λ o. is_of script m o && passes n) (fragments-get script m n (let e = fragments-length script m in omega arith))
      ∙ and_from _ _ (name_eq-refl m) (all n))
      ∙ fragments-length script m

  abbrev link : List Event → List (MsgName × ℕ)
  link J = numbered script J (sender script m) (receiver script m)

  here : (sender script m == sender script m && receiver script m == receiver script m) ≡ true
  here = and_from _ _ (eqb-refl (sender script m)) (eqb-refl (receiver script m))

  -- a Copy of another message, and its own
  other-copy : (x : MsgName) (J : List Event) (passes : ℕ → Bool) → name_eq m x ≡ false → count_in (link (Copy x ∷ J)) passes ≡ count_in (link J) passes
  other-copy x J passes differ =
      ap (λ ps. count_in ps passes) (numbered-copy script x J (sender script m) (receiver script m))
      ∙ elim (sender script x == sender script m && receiver script x == receiver script m) as (λ b. count_in (cond b (link J ++ fragments script x) (link J)) passes ≡ count_in (link J) passes) [
        | true ↦ count-append (link J) (fragments script x) passes ∙ (let none = others-count x (λ n. passes (length (link J) + n)) differ in let q : count_in (link J) passes + count_in (fragments script x) (λ n. passes (length (link J) + n)) ≡ count_in (link J) passes = omega arith in q)
        | false ↦ refl
      ]

  pub own-copy : (J : List Event) (passes : ℕ → Bool) → count_in (link J) passes ≡ 0 → ((n : ℕ) → length (link J) ≤ n → passes n ≡ true) → count_in (link (Copy m ∷ J)) passes ≡ fragment_count script m
  own-copy J passes none all =
      ap (λ ps. count_in ps passes) (numbered-copy script m J (sender script m) (receiver script m) ∙ cond-true _ (link J ++ fragments script m) (link J) here)
      ∙ count-append (link J) (fragments script m) passes
      ∙ (let own = own-count (λ n. passes (length (link J) + n)) (λ n. all (length (link J) + n) (omega arith)) in let q : count_in (link J) passes + count_in (fragments script m) (λ n. passes (length (link J) + n)) ≡ fragment_count script m = omega arith in q)

  -- no number is of a message that wasn't copied
  pub uncopied-count : (J : List Event) (passes : ℕ → Bool) → happened (Copied m) J ≡ false → count_in (link J) passes ≡ 0
  unfolding count_in
  uncopied-count J passes new =
      length-below-none (length (link J)) (λ n. is_of script m (slice_get (link J) n) && passes n) (λ n l.
      let x = get-some (link J) n l in
      ap (λ o. is_of script m o && passes n) x.1
      ∙ ap (λ b. b && passes n) (false_from_ne_true (name_eq m x.0.0) (λ same. both_ways _ new (subst (λ (k : MsgName). happened (Copied k) J ≡ true) (sym (name_eq-true m x.0.0 same)) (numbered-copied script J (sender script m) (receiver script m) n x.0 x.1).0))))

  module _ (rules : Rules) (passes : ℕ → Bool) where
    -- one event more
    pub step-count : (e : Event) (J : List Event) → Atomic script rules (e ∷ J) → happened (Copied m) J ≡ true → count_in (link (e ∷ J)) passes ≡ count_in (link J) passes
    unfolding numbered
    step-count (Copy x) J h d = other-copy x J passes (false_from_ne_true (name_eq m x) (λ same. both_ways _ (Atomic-head script rules (Copy x) J h).once (subst (λ (k : MsgName). happened (Copied k) J ≡ true) (name_eq-true m x same) d)))
    step-count (Issue a i) J h d = refl
    step-count (Refuse a i why) J h d = refl
    step-count (Enter a i) J h d = refl
    step-count (Pass a i) J h d = refl
    step-count (Head x) J h d = refl
    step-count (Land x) J h d = refl
    step-count (Begin x t w) J h d = refl
    step-count (End x t w) J h d = refl

    -- more events leave the count of a message that was copied
    stays-count : (added J : List Event) → Atomic script rules (added ++ J) → happened (Copied m) J ≡ true → count_in (link (added ++ J)) passes ≡ count_in (link J) passes
    stays-count [] J h d = refl
    stays-count (e ∷ es) J h d = step-count e (es ++ J) h (happened-grown es J (Copied m) d) ∙ stays-count es J (Atomic-tail script rules e (es ++ J) h) d

    -- and where it is copied among them, all its fragments pass
    module _ (J : List Event) (new : happened (Copied m) J ≡ false) (all : (n : ℕ) → length (link J) ≤ n → passes n ≡ true) where
      longer : (es : List Event) → length (link J) ≤ length (link (es ++ J))
      longer [] = omega arith
      longer (e ∷ es) = let one = grows-cons script rules e (es ++ J) (sender script m) (receiver script m) in let old = longer es in omega arith

      copied-count : (es : List Event) → Atomic script rules (es ++ J) → happened (Copied m) (es ++ J) ≡ true → count_in (link (es ++ J)) passes ≡ fragment_count script m
      copied-count [] h d = absurd (both_ways _ new d)
      copied-count (e ∷ es) h d =
          elim (happened (Copied m) (es ++ J)) as (λ b. happened (Copied m) (es ++ J) ≡ b → count_in (link (e ∷ es ++ J)) passes ≡ fragment_count script m) [
            | true ↦ λ old. step-count e (es ++ J) h old ∙ copied-count es (Atomic-tail script rules e (es ++ J) h) old
            | false ↦ λ old.
                ⊎_elim
                (λ (x : Copied m ≡ key_of e). now e x old)
                (λ (x : happened (Copied m) (es ++ J) ≡ true). absurd (both_ways _ old x))
                (happened-cases (Copied m) e (es ++ J) d)
          ] refl
        where
          now : (f : Event) → Copied m ≡ key_of f → happened (Copied m) (es ++ J) ≡ false → count_in (link (f ∷ es ++ J)) passes ≡ fragment_count script m
          now (Copy x) same old =
              let is : m ≡ x = cc in
              subst (λ (k : MsgName). count_in (link (Copy k ∷ es ++ J)) passes ≡ fragment_count script m) is
              (own-copy (es ++ J) passes (uncopied-count (es ++ J) passes old) (λ n l. all n (let up = longer es in omega arith)))
          now (Issue a i) same old = absurd (let y : ⊥ = cc in y)
          now (Refuse a i why) same old = absurd (let y : ⊥ = cc in y)
          now (Enter a i) same old = absurd (let y : ⊥ = cc in y)
          now (Pass a i) same old = absurd (let y : ⊥ = cc in y)
          now (Head x) same old = absurd (let y : ⊥ = cc in y)
          now (Land x) same old = absurd (let y : ⊥ = cc in y)
          now (Begin x t w) same old = absurd (let y : ⊥ = cc in y)
          now (End x t w) same old = absurd (let y : ⊥ = cc in y)

-- the laws
module _ (script : Script) (rules : Rules) where
  pub count-is : (r : Run) (a i : ℕ) → unacknowledged script rules r a i ≡ count_in script (message a i Go) (numbered script r.journal a (receiver script (message a i Go))) (λ n. not (is_acked r a (receiver script (message a i Go)) n))
  unfolding numbers_that count_in
  count-is r a i = refl

  pub counted-same : (s : Run) (a i : ℕ) (told : ℕ → Bool) → ((n : ℕ) → is_acked s a (receiver script (message a i Go)) n ≡ told n) → unacknowledged script rules s a i ≡ count_in script (message a i Go) (numbered script s.journal a (receiver script (message a i Go))) (λ n. not (told n))
  counted-same s a i told same = count-is s a i ∙ ap (count_in script (message a i Go) (numbered script s.journal a (receiver script (message a i Go)))) (by_points _ _ (λ n. ap not (same n)))

pub counts-stay : HoldsOfRecords CountsStay
unfolding performed
counts-stay script rules r is = λ act a i valid d same.
    let m = message a i Go in
    let b = receiver script m in
    let s = performed script rules r act in
    let g = line-adds script rules packet_size refusal r act in
    let h = (record-sound script rules s (more-record script rules r act is valid)).atomic in
    counted-same script rules s a i (is_acked r a b) same
    ∙ ap (λ J. count_in script m (numbered script J a b) (λ n. not (is_acked r a b n))) g.1
    ∙ stays-count script m rules (λ n. not (is_acked r a b n)) g.0 r.journal (subst (Atomic script rules) g.1 h) d
    ∙ sym (count-is script rules r a i)

pub copies-count : HoldsOfRecords CopiesCountAll
unfolding performed
copies-count script rules r is = λ act a i valid new d same.
    let m = message a i Go in
    let b = receiver script m in
    let s = performed script rules r act in
    let g = line-adds script rules packet_size refusal r act in
    let h = (record-sound script rules s (more-record script rules r act is valid)).atomic in
    let beyond : (n : ℕ) → length (numbered script r.journal a b) ≤ n → not (is_acked r a b n) ≡ true = λ n l. ap not (false_from_ne_true _ (λ told. let room = sent-numbers script rules r is a b n (acked-sent script rules r is a b n told) in absurd (omega arith))) in
    counted-same script rules s a i (is_acked r a b) same
    ∙ ap (λ J. count_in script m (numbered script J a b) (λ n. not (is_acked r a b n))) g.1
    ∙ copied-count script m rules (λ n. not (is_acked r a b n)) r.journal new beyond g.0 (subst (Atomic script rules) g.1 h) (subst (λ J. happened (Copied m) J ≡ true) g.1 d)
