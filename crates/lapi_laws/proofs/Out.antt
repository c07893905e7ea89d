-- The numbers of a link: what stands at them, and how they grow with the journal.
use Rattle.std.proofs.Common.{◌≡◌, ◌⊎◌, ℕ, zero, suc, ◌≤◌, ◌==◌, true, false, cond, ◌&&◌, List, [], ◌∷◌, ◌++◌, length, map, Some, refl, sym, ap, subst, ⊎_elim, inl, inr, arith}
use Rattle.std.specs.Prelude.{slice_get}
use Rattle.std.specs.List.{AllByRecursion}
use Rattle.std.proofs.lemmas.Bool.{and_parts, and_from, cond-true, eqb-true, cond_both}
use Rattle.lapi_base.specs.declared.script.Script.{Script}
use Rattle.lapi_base.specs.declared.message.MsgName.{MsgName}
use Rattle.lapi_base.specs.declared.event.Event.{Event}
use Rattle.lapi_base.specs.declared.event.Event.TheVariants.{Issue, Refuse, Enter, Pass, Copy, Head, Land, Begin, End}
use Rattle.lapi_base.specs.Record.Below.{below}
use Rattle.lapi_base.specs.Record.Names.{Copied, happened}
use Rattle.lapi_base.specs.Record.Operations.{numbers_below, sender, receiver, fragment_count, fragments}
use Rattle.lapi_base.specs.Record.Wires.{numbered}
use Rattle.lapi_base.proofs.ListLaws.{get-front, get-parts, get-back, all-get}
use Rattle.lapi_base.proofs.NameLaws.{happened-head, happened-later}
use Rattle.lapi_base.proofs.TestLaws.{eqb-refl}

-- each pair of a message's fragments names the message
pairs-of : (m : MsgName) (js : List ℕ) → AllByRecursion (λ (pair : MsgName × ℕ). m ≡ pair.0) (map (λ j. (m, j)) js)
pairs-of m [] = tt
pairs-of m (j ∷ js) = (refl, pairs-of m js)

fragments-of : (script : Script) (m : MsgName) → AllByRecursion (λ (pair : MsgName × ℕ). m ≡ pair.0) (fragments script m)
unfolding fragments
fragments-of script m = pairs-of m (numbers_below (fragment_count script m))

push-some : {X : Type 0} (xs : List X) (y : X) → (x : X) × (rest : List X) × (xs ++ y ∷ [] ≡ x ∷ rest)
push-some [] y = (y, [], refl)
push-some (x ∷ xs) y = (x, xs ++ y ∷ [], refl)

-- a message has a fragment
numbers_below-some : (n : ℕ) → 1 ≤ n → (j : ℕ) × (rest : List ℕ) × (numbers_below n ≡ j ∷ rest)
unfolding numbers_below below
numbers_below-some zero l = absurd (omega arith)
numbers_below-some (suc n) l = push-some (numbers_below n) n

fragments-some : (script : Script) (m : MsgName) → (j : ℕ) × (rest : List (MsgName × ℕ)) × (fragments script m ≡ (m, j) ∷ rest)
unfolding fragments fragment_count
fragments-some script m =
    let r = numbers_below-some (fragment_count script m) (omega arith) in
    (r.0, map (λ j. (m, j)) r.1, ap (map (λ j. (m, j))) r.2)

module _ (script : Script) where
  pub numbered-copy : (m : MsgName) (J : List Event) (a b : ℕ) → numbered script (Copy m ∷ J) a b ≡ cond (sender script m == a && receiver script m == b) (numbered script J a b ++ fragments script m) (numbered script J a b)
  unfolding numbered
  numbered-copy m J a b = refl

  -- a number keeps its pair
  pub numbered-later : (e : Event) (J : List Event) (a b n : ℕ) (x : MsgName × ℕ) → slice_get (numbered script J a b) n ≡ Some x → slice_get (numbered script (e ∷ J) a b) n ≡ Some x
  unfolding numbered
  numbered-later (Copy m) J a b n x h =
      cond_both (sender script m == a && receiver script m == b) (numbered script J a b ++ fragments script m) (numbered script J a b) (λ xs. slice_get xs n ≡ Some x)
      (λ _. get-front (numbered script J a b) (fragments script m) n x h)
      (λ _. h)
  numbered-later (Issue t i) J a b n x h = h
  numbered-later (Refuse t i reason) J a b n x h = h
  numbered-later (Enter t i) J a b n x h = h
  numbered-later (Pass t i) J a b n x h = h
  numbered-later (Head m) J a b n x h = h
  numbered-later (Land m) J a b n x h = h
  numbered-later (Begin m t w) J a b n x h = h
  numbered-later (End m t w) J a b n x h = h

  -- a pair of a link is of a message that was copied on it
  pub numbered-copied : (J : List Event) (a b n : ℕ) (x : MsgName × ℕ) → slice_get (numbered script J a b) n ≡ Some x → (happened (Copied x.0) J ≡ true) × (sender script x.0 ≡ a) × (receiver script x.0 ≡ b)
  unfolding numbered
  numbered-copied [] a b n x h = absurd (cc)
  numbered-copied (Copy m ∷ J) a b n x h =
      elim (sender script m == a && receiver script m == b) as (λ t. (sender script m == a && receiver script m == b) ≡ t → slice_get (cond t (numbered script J a b ++ fragments script m) (numbered script J a b)) n ≡ Some x → (happened (Copied x.0) (Copy m ∷ J) ≡ true) × (sender script x.0 ≡ a) × (receiver script x.0 ≡ b)) [
        | true ↦ λ e h'.
            ⊎_elim
            (λ (old : slice_get (numbered script J a b) n ≡ Some x). let r = numbered-copied J a b n x old in (happened-later (Copied x.0) (Copy m) J r.0, r.1, r.2))
            (λ (new : (k : ℕ) × (slice_get (fragments script m) k ≡ Some x)).
            let same = all-get (λ (pair : MsgName × ℕ). m ≡ pair.0) (fragments script m) new.0 x (fragments-of script m) new.1 in
            let ends = and_parts _ _ e in
            subst (λ y. (happened (Copied y) (Copy m ∷ J) ≡ true) × (sender script y ≡ a) × (receiver script y ≡ b)) same (happened-head (Copy m) J, eqb-true _ a ends.0, eqb-true _ b ends.1))
            (get-parts (numbered script J a b) (fragments script m) n x h')
        | false ↦ λ e h'. let r = numbered-copied J a b n x h' in (happened-later (Copied x.0) (Copy m) J r.0, r.1, r.2)
      ] refl h
  numbered-copied (Issue t i ∷ J) a b n x h = let r = numbered-copied J a b n x h in (happened-later (Copied x.0) (Issue t i) J r.0, r.1, r.2)
  numbered-copied (Refuse t i reason ∷ J) a b n x h = let r = numbered-copied J a b n x h in (happened-later (Copied x.0) (Refuse t i reason) J r.0, r.1, r.2)
  numbered-copied (Enter t i ∷ J) a b n x h = let r = numbered-copied J a b n x h in (happened-later (Copied x.0) (Enter t i) J r.0, r.1, r.2)
  numbered-copied (Pass t i ∷ J) a b n x h = let r = numbered-copied J a b n x h in (happened-later (Copied x.0) (Pass t i) J r.0, r.1, r.2)
  numbered-copied (Head m ∷ J) a b n x h = let r = numbered-copied J a b n x h in (happened-later (Copied x.0) (Head m) J r.0, r.1, r.2)
  numbered-copied (Land m ∷ J) a b n x h = let r = numbered-copied J a b n x h in (happened-later (Copied x.0) (Land m) J r.0, r.1, r.2)
  numbered-copied (Begin m t w ∷ J) a b n x h = let r = numbered-copied J a b n x h in (happened-later (Copied x.0) (Begin m t w) J r.0, r.1, r.2)
  numbered-copied (End m t w ∷ J) a b n x h = let r = numbered-copied J a b n x h in (happened-later (Copied x.0) (End m t w) J r.0, r.1, r.2)

  -- what a Copy adds is of its message
  pub numbered-added : (m : MsgName) (J : List Event) (a b n : ℕ) (x : MsgName × ℕ) → slice_get (numbered script (Copy m ∷ J) a b) n ≡ Some x → (slice_get (numbered script J a b) n ≡ Some x) ⊎ (m ≡ x.0)
  unfolding numbered
  numbered-added m J a b n x h =
      cond_both (sender script m == a && receiver script m == b) (numbered script J a b ++ fragments script m) (numbered script J a b) (λ xs. slice_get xs n ≡ Some x → (slice_get (numbered script J a b) n ≡ Some x) ⊎ (m ≡ x.0))
      (λ _ h'.
      ⊎_elim
      (λ (old : slice_get (numbered script J a b) n ≡ Some x). inl old)
      (λ (new : (k : ℕ) × (slice_get (fragments script m) k ≡ Some x)). inr (all-get (λ (pair : MsgName × ℕ). m ≡ pair.0) (fragments script m) new.0 x (fragments-of script m) new.1))
      (get-parts (numbered script J a b) (fragments script m) n x h'))
      (λ _ h'. inl h')
      h

  -- and a Copy adds one number at least
  pub numbered-new : (m : MsgName) (J : List Event) → (j : ℕ) × (slice_get (numbered script (Copy m ∷ J) (sender script m) (receiver script m)) (length (numbered script J (sender script m) (receiver script m))) ≡ Some (m, j))
  unfolding numbered
  numbered-new m J =
      let a = sender script m in
      let b = receiver script m in
      let some = fragments-some script m in
      let test : (a == a && b == b) ≡ true = and_from _ _ (eqb-refl a) (eqb-refl b) in (
        some.0,
        subst (λ xs. slice_get xs (length (numbered script J a b)) ≡ Some (m, some.0)) (sym (cond-true (a == a && b == b) (numbered script J a b ++ fragments script m) (numbered script J a b) test))
            (subst (λ xs. slice_get (numbered script J a b ++ xs) (length (numbered script J a b)) ≡ Some (m, some.0)) (sym some.2) (get-back (numbered script J a b) some.1 (m, some.0))),
      )
