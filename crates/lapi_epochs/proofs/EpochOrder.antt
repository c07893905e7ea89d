-- In an atomic journal the epochs of all tasks come one after another.
use Rattle.std.proofs.Common.{◌≡◌, ◌⊎◌, ℕ, zero, suc, ◌+◌, ◌<◌, ◌≤◌, Bool, true, false, cond, List, [], ◌∷◌, ◌++◌, length, Some, None, refl, sym, ap, ◌∙◌, subst, ⊎_elim, append_assoc, arith}
use Rattle.std.specs.Prelude.{nat_lt, filter}
use Rattle.std.proofs.lemmas.Bool.{false≢true, and_parts, both_ways, cond_both, cases_lt, ltb-true}
use Rattle.std.proofs.lemmas.List.{length_push}
use Rattle.lapi_base.specs.declared.script.Script.{Script}
use Rattle.lapi_base.specs.declared.statement.Statement.{Statement}
use Rattle.lapi_base.specs.declared.statement.Statement.TheVariants.{Gfence}
use Rattle.lapi_base.specs.declared.rule.Rules.{Rules}
use Rattle.lapi_base.specs.declared.event.Event.{Event}
use Rattle.lapi_base.specs.declared.event.Event.TheVariants.{Issue, Refuse, Enter, Pass, Copy, Head, Land, Begin, End}
use Rattle.lapi_base.specs.Record.Below.{below}
use Rattle.lapi_base.specs.Record.Names.{EventKey, Issued, Refused, Entered, Passed, key_of, happened}
use Rattle.lapi_base.specs.Record.Operations.{statements, statement, is_data, is_gfence}
use Rattle.lapi_base.specs.Record.Refusals.{next, gfence_rounds, round_of, first_reason, refusal_by, refusal_of}
use Rattle.lapi_base.specs.Record.Atomic.{Atomic, Keeps, has_statement, is_issued, data_landed}
use Rattle.lapi_base.specs.Laws.Headline.{StandsAfter, HoldsOfAtomic}
use Rattle.lapi_base.proofs.BelowLaws.{below-front}
use Rattle.lapi_base.proofs.NameLaws.{happened-nil, happened-cases, happened-grown}
use Rattle.lapi_laws.proofs.Backward.{Atomic-head, Atomic-tail, there, behind, next-later}
use Rattle.lapi_laws.proofs.Once.{atomic-end}
use Rattle.lapi_laws.proofs.Fences.{gfence-is, global-fences-wait}
use Rattle.lapi_epochs.specs.Epochs.{epoch, Has, IsOver, EpochsWait}
use Rattle.lapi_laws.proofs.TakenStatements.{taken, kind}

-- ---- numbers

-- epochs rise
pub epoch-rises : (script : Script) (a i j : ℕ) → i ≤ j → epoch script a i ≤ epoch script a j
unfolding epoch
epoch-rises script a i zero l = let e : i ≡ 0 = omega arith in subst (λ k. epoch script a k ≤ epoch script a 0) (sym e) (let q : epoch script a 0 ≤ epoch script a 0 = omega arith in q)
epoch-rises script a i (suc j) l =
    ⊎_elim
    (λ (lt : i < suc j). let h = epoch-rises script a i j (omega arith) in let q : epoch script a i ≤ epoch script a j + cond (is_gfence (statement script a j)) 1 0 = omega arith in q)
    (λ (ge : suc j ≤ i). let e : i ≡ suc j = omega arith in subst (λ k. epoch script a k ≤ epoch script a (suc j)) (sym e) (let q : epoch script a (suc j) ≤ epoch script a (suc j) = omega arith in q))
    (cases_lt i (suc j))

-- a global fence ends its epoch
pub epoch-fence : (script : Script) (a g : ℕ) → is_gfence (statement script a g) ≡ true → epoch script a (suc g) ≡ suc (epoch script a g)
unfolding epoch
epoch-fence script a g h = let e = ap (λ b. epoch script a g + cond b 1 0) h in omega arith

pub epoch-other : (script : Script) (a i : ℕ) → is_gfence (statement script a i) ≡ false → epoch script a (suc i) ≡ epoch script a i
unfolding epoch
epoch-other script a i h = let e = ap (λ b. epoch script a i + cond b 1 0) h in omega arith

-- before a statement of a later epoch stands the fence that ends an earlier one
pub fence-between : (script : Script) (a j r : ℕ) → r < epoch script a j → (g : ℕ) × (g < j) × (is_gfence (statement script a g) ≡ true) × (epoch script a g ≡ r)
unfolding epoch
fence-between script a zero r l = absurd (omega arith)
fence-between script a (suc j) r l =
    ⊎_elim
    (λ (lt : r < epoch script a j). let f = fence-between script a j r lt in (f.0, omega (arith, f.1), f.2, f.3))
    (λ (ge : epoch script a j ≤ r).
    elim (is_gfence (statement script a j)) as (λ b. is_gfence (statement script a j) ≡ b → r < epoch script a j + cond b 1 0 → (g : ℕ) × (g < suc j) × (is_gfence (statement script a g) ≡ true) × (epoch script a g ≡ r)) [
      | true ↦ λ h q. (j, omega arith, h, omega arith)
      | false ↦ λ h q. absurd (omega arith)
    ] refl l)
    (cases_lt r (epoch script a j))

-- the epoch of a statement is how many fences there are below it
one-fence : (b : Bool) (n e : ℕ) → b ≡ true → n ≡ e → n + 1 ≡ e + cond b 1 0
one-fence true n e h q = omega arith
one-fence false n e h q = absurd (false≢true h)

no-fence : (b : Bool) (n e : ℕ) → b ≡ false → n ≡ e → n ≡ e + cond b 1 0
no-fence true n e h q = absurd (false≢true (sym h))
no-fence false n e h q = omega arith

epoch-below : (script : Script) (a i : ℕ) → length (below i (λ j. is_gfence (statement script a j))) ≡ epoch script a i
unfolding epoch below
epoch-below script a zero = refl
epoch-below script a (suc i) =
    let fence = is_gfence (statement script a i) in
    let xs = below i (λ j. is_gfence (statement script a j)) in
    cond_both fence (xs ++ i ∷ []) xs (λ ys. length ys ≡ epoch script a i + cond fence 1 0)
    (λ h. length_push xs i ∙ one-fence fence (length xs) (epoch script a i) h (epoch-below script a i))
    (λ h. no-fence fence (length xs) (epoch script a i) h (epoch-below script a i))

-- the round of a global fence is its epoch
pub round-epoch : (script : Script) (a g : ℕ) → g < length (statements script a) → is_gfence (statement script a g) ≡ true → round_of script a g ≡ epoch script a g
unfolding round_of gfence_rounds
round-epoch script a g l h =
    ap (λ b. length (filter (λ j. nat_lt j g) (cond b (gfence_rounds script a) (Rattle.lapi_base.specs.Record.Operations.table_rounds script a)))) h
    ∙ ap length (below-front (length (statements script a)) (λ j. is_gfence (statement script a j)) g (let q : g ≤ length (statements script a) = omega arith in q))
    ∙ epoch-below script a g

-- ---- statements that were taken

fence-not_issued : (s : Statement) → is_gfence s ≡ true → is_issued s ≡ true → ⊥
fence-not_issued Gfence h i = false≢true i
fence-not_issued _ h i = false≢true h

fence-not_data : (s : Statement) → is_gfence s ≡ true → is_data s ≡ false
fence-not_data Gfence h = refl
fence-not_data _ h = absurd (false≢true h)

module _ (script : Script) (rules : Rules) where
  -- no global fence is refused
  pub fence-kept : (J : List Event) (a g : ℕ) → is_gfence (statement script a g) ≡ true → refusal_of script rules J a g ≡ None
  unfolding refusal_of refusal_by first_reason
  fence-kept J a g h = rw (gfence-is (statement script a g) h) refl

  -- one that was taken was passed
  pub fence-passed : (J : List Event) (a g : ℕ) → Atomic script rules J → is_gfence (statement script a g) ≡ true → g < next J a → happened (Passed a g) J ≡ true
  fence-passed J a g h is l =
      ⊎_elim
      (λ (x : happened (Issued a g) J ≡ true). absurd (fence-not_issued (statement script a g) is (kind script rules (Issued a g) J h x)))
      (λ (y : (happened (Refused a g) J ≡ true) ⊎ (happened (Passed a g) J ≡ true)).
      ⊎_elim
      (λ (x : happened (Refused a g) J ≡ true). let k = kind script rules (Refused a g) J h x in absurd (let e : None ≡ Some k.1 = sym (fence-kept k.0 a g is) ∙ k.2 in cc))
      (λ (x : happened (Passed a g) J ≡ true). x)
      y)
      (taken script rules J h a g l)

  -- ---- what a passed fence shows

  -- where an event stands
  pub stood : (d : EventKey) (J : List Event) → happened d J ≡ true → (e : Event) × (before : List Event) × (key_of e ≡ d) × StandsAfter before e J
  stood d [] h = absurd (both_ways _ (happened-nil d) h)
  stood d (e ∷ J) h =
      ⊎_elim
      (λ (x : d ≡ key_of e). (e, J, sym x, ([], refl)))
      (λ (x : happened d J ≡ true). let r = stood d J x in (r.0, r.1, r.2, (e ∷ r.3.0, ap (λ K. e ∷ K) r.3.1)))
      (happened-cases d e J h)

  pub grown-next : (later J : List Event) (a : ℕ) → next J a ≤ next (later ++ J) a
  grown-next [] J a = omega arith
  grown-next (e ∷ later) J a = let h = grown-next later J a in let q = next-later e (later ++ J) a in omega arith

  pass-is : (e : Event) (a i : ℕ) → key_of e ≡ Passed a i → e ≡ Pass a i
  pass-is (Pass b k) a i h = let x : b ≡ a = cc in let y : k ≡ i = cc in λ j. Pass (x j) (y j)
  pass-is (Issue b k) a i h = absurd (cc)
  pass-is (Refuse b k refusal_of) a i h = absurd (cc)
  pass-is (Enter b k) a i h = absurd (cc)
  pass-is (Copy m) a i h = absurd (cc)
  pass-is (Head m) a i h = absurd (cc)
  pass-is (Land m) a i h = absurd (cc)
  pass-is (Begin m t w) a i h = absurd (cc)
  pass-is (End m t w) a i h = absurd (cc)

  -- an issue comes at its own turn
  pub issue-turn : (e : Event) (J : List Event) (a i : ℕ) → Keeps script rules J e → Issued a i ≡ key_of e → i ≡ next J a
  issue-turn (Issue b k) J a i h same = let x : b ≡ a = cc in let y : k ≡ i = cc in let q = h.order.0 in let r = ap (next J) x in omega arith
  issue-turn (Refuse b k refusal_of) J a i h same = absurd (cc)
  issue-turn (Enter b k) J a i h same = absurd (cc)
  issue-turn (Pass b k) J a i h same = absurd (cc)
  issue-turn (Copy m) J a i h same = absurd (cc)
  issue-turn (Head m) J a i h same = absurd (cc)
  issue-turn (Land m) J a i h same = absurd (cc)
  issue-turn (Begin m t w) J a i h same = absurd (cc)
  issue-turn (End m t w) J a i h same = absurd (cc)

  -- so what is issued was issued before its task went on
  issued-early : (later J : List Event) (a i : ℕ) → Atomic script rules (later ++ J) → i < next J a → happened (Issued a i) (later ++ J) ≡ true → happened (Issued a i) J ≡ true
  issued-early [] J a i h l d = d
  issued-early (e ∷ later) J a i h l d =
      ⊎_elim
      (λ (x : Issued a i ≡ key_of e). let turn = issue-turn e (later ++ J) a i (Atomic-head script rules e (later ++ J) h) x in let g = grown-next later J a in absurd (omega arith))
      (λ (x : happened (Issued a i) (later ++ J) ≡ true). issued-early later J a i (Atomic-tail script rules e (later ++ J) h) l x)
      (happened-cases (Issued a i) e (later ++ J) d)

  pub has-of : (a i : ℕ) → has_statement script rules a i ≡ true → Has script a i
  has-of a i h = let hs = and_parts _ _ h in (ltb-true a script.tasks hs.0, ltb-true i (length (statements script a)) hs.1)

  -- an earlier statement than a fence that was entered is over
  over-before : (later before : List Event) (a i k : ℕ) → Atomic script rules (later ++ before) → Atomic script rules before → i < k → happened (Entered a k) before ≡ true → ((j : ℕ) → j < k → is_data (statement script a j) ≡ true → happened (Issued a j) before ≡ true → data_landed script rules before a j ≡ true) → IsOver script rules (later ++ before) a i
  over-before later before a i k h hb l entered earlier =
      let come : k ≤ next before a = behind script rules (Entered a k) before hb entered in
      let grown = grown-next later before a in
      (omega arith, λ moved issued. happened-grown later before _ (earlier i l moved (issued-early later before a i h (omega arith) issued)))

  -- a statement of a fence's epoch stands before it
  in-epoch : (a i k : ℕ) → is_gfence (statement script a k) ≡ true → is_gfence (statement script a i) ≡ false → epoch script a i ≤ epoch script a k → i < k
  in-epoch a i k fence other l =
      ⊎_elim
      (λ (lt : i < k). lt)
      (λ (ge : k ≤ i).
      ⊎_elim
      (λ (later : k < i). let up = epoch-rises script a (suc k) i later in let one = epoch-fence script a k fence in absurd (omega arith))
      (λ (same : i ≤ k). let e : i ≡ k = omega arith in absurd (both_ways _ (subst (λ x. is_gfence (statement script a x) ≡ false) e other) fence))
      (cases_lt k i))
      (cases_lt i k)

  fence-true : (a k : ℕ) → statement script a k ≡ Gfence → is_gfence (statement script a k) ≡ true
  fence-true a k e = ap is_gfence e

  -- where a fence was passed, every statement of its epoch is over, at all tasks
  pub passed-over : (J : List Event) (b g a i : ℕ) → Atomic script rules J → is_gfence (statement script b g) ≡ true → happened (Passed b g) J ≡ true → Has script a i → is_gfence (statement script a i) ≡ false → epoch script a i ≤ epoch script b g → IsOver script rules J a i
  passed-over J b g a i h fence passed has other l =
      let at = stood (Passed b g) J passed in
      let before = at.1 in
      let stands = subst (λ e. StandsAfter before e J) (pass-is at.0 b g at.2) at.3 in
      let hJ = subst (Atomic script rules) stands.1 h in
      let hb = atomic-end script rules (stands.0 ++ Pass b g ∷ []) before (subst (Atomic script rules) (sym (append_assoc stands.0 (Pass b g ∷ []) before)) hJ) in
      let joined = global-fences-wait script rules J h before b g a (gfence-is (statement script b g) fence) stands has.0 in
      let k = joined.0 in
      let kf = fence-true a k joined.1 in
      let khas = has-of a k (there script rules (Entered a k) before hb joined.3) in
      let ghas = has-of b g (there script rules (Passed b g) J h passed) in
      let ek = round-epoch script a k khas.1 kf in
      let eg = round-epoch script b g ghas.1 fence in
      let same = joined.2 in
      let whole : J ≡ (stands.0 ++ Pass b g ∷ []) ++ before = stands.1 ∙ sym (append_assoc stands.0 (Pass b g ∷ []) before) in
      subst (λ K. IsOver script rules K a i) (sym whole)
      (over-before (stands.0 ++ Pass b g ∷ []) before a i k (subst (Atomic script rules) whole h) hb (in-epoch a i k kf other (omega arith)) joined.3 joined.4)

-- the law, of every atomic journal
pub epochs-wait : HoldsOfAtomic EpochsWait
epochs-wait script rules J h = λ b j a i come has other l.
    let f = fence-between script b j (epoch script a i) l in
    passed-over script rules J b f.0 a i h f.2 (fence-passed script rules J b f.0 h f.2 (omega arith)) has other (omega arith)
