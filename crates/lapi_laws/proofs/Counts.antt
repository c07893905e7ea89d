-- In an atomic journal a counter adds up: no wait takes more than is there.
use Rattle.std.proofs.Common.{◌≡◌, ◌⊎◌, ℕ, ◌+◌, ◌-◌, ◌≤◌, ◌==◌, true, false, cond, ◌&&◌, List, [], ◌∷◌, ◌++◌, refl, sym, ap, ◌∙◌, subst, ⊎_elim, inl, inr, arith}
use Rattle.std.specs.Prelude.{nat_le}
use Rattle.std.proofs.lemmas.Bool.{and_parts, and_from, cond-true, cond_both, cases_Bool, both_ways, eqb-true, eq-eqb, leb-true}
use Rattle.std.proofs.lemmas.List.Sums.{sum_by-cons}
use Rattle.lapi_base.specs.declared.statement.Statement.{Statement}
use Rattle.lapi_base.specs.declared.statement.Statement.TheVariants.{Wait, Set}
use Rattle.lapi_base.specs.declared.script.Script.{Script}
use Rattle.lapi_base.specs.declared.rule.Rules.{Rules}
use Rattle.lapi_base.specs.declared.event.Event.{Event}
use Rattle.lapi_base.specs.declared.event.Event.TheVariants.{Issue, Pass}
use Rattle.lapi_base.specs.Record.Names.{Issued, key_of, happened}
use Rattle.lapi_base.specs.Record.Operations.{statement}
use Rattle.lapi_base.specs.Record.Counters.{tells, issued_count, passed_count, count}
use Rattle.lapi_base.specs.Record.Atomic.{Atomic, Keeps, pass_allowed}
use Rattle.lapi_base.specs.Laws.Headline.{taken_by, announced, taken_at, taken, IsNotSet, StartsAt, CountersAddUp, HoldsOfAtomic}
use Rattle.lapi_base.proofs.NameLaws.{happened-cases, happened-head, happened-later, happened-nil}
use Rattle.lapi_base.proofs.TestLaws.{eqb-refl}
use Rattle.lapi_laws.proofs.Backward.{Atomic-head, Atomic-tail}

-- a statement sets the counter or not
set-or-not : (s : Statement) (c : ℕ) → ((value : ℕ) × (s ≡ Set c value)) ⊎ ((value : ℕ) → s ≡ Set c value → ⊥)
set-or-not (Set counter value) c =
    ⊎_elim
    (λ (e : (counter == c) ≡ true). inl (value, ap (λ x. Set x value) (eqb-true counter c e)))
    (λ (e : (counter == c) ≡ false). inr (λ v same. both_ways _ e (eq-eqb counter c (let q : counter ≡ c = cc in q))))
    (cases_Bool (counter == c))
set-or-not s c = inr (λ v same. let q : ⊥ = cc in q)

module _ (script : Script) (rules : Rules) where
  -- a statement that doesn't set the counter keeps it
  issue-keeps : (s : Statement) (a t c n : ℕ) → ((value : ℕ) → a ≡ t → s ≡ Set c value → ⊥) → issued_count script rules s a t c n ≡ n
  issue-keeps (Set counter value) a t c n none =
      cond_both (a == t && counter == c) value n (λ x. x ≡ n)
      (λ e. let both = and_parts (a == t) (counter == c) e in absurd (none value (eqb-true a t both.0) (ap (λ x. Set x value) (eqb-true counter c both.1))))
      (λ _. refl)
  issue-keeps _ a t c n none = refl

  -- a set of the counter makes it the value
  issue-sets : (s : Statement) (a t c n value : ℕ) → a ≡ t → s ≡ Set c value → issued_count script rules s a t c n ≡ value
  issue-sets s a t c n value here is = ap (λ x. issued_count script rules x a t c n) is ∙ cond-true (a == t && c == c) value n (and_from _ _ (ap (λ x. a == x) (sym here) ∙ eqb-refl a) (eqb-refl c))

  -- what a wait takes was there
  pass-takes : (s : Statement) (a i t c : ℕ) (J : List Event) → pass_allowed script rules J a i s ≡ true → passed_count script rules s a t c (count script rules J t c) + cond (a == t) (taken_by s c) 0 ≡ count script rules J t c
  pass-takes (Wait counter value) a i t c J h =
      let n = count script rules J t c in
      elim (a == t) as (λ b. (a == t) ≡ b → cond (b && counter == c) (n - value) n + cond b (cond (counter == c) value 0) 0 ≡ n) [
        | true ↦ λ here.
            elim (counter == c) as (λ b. (counter == c) ≡ b → cond b (n - value) n + cond b value 0 ≡ n) [
              | true ↦ λ this.
                  let room : value ≤ n = leb-true value n (subst (λ x. nat_le value (count script rules J t x) ≡ true) (eqb-true counter c this) (subst (λ x. nat_le value (count script rules J x counter) ≡ true) (eqb-true a t here) h)) in
                  omega arith
              | false ↦ λ _. omega arith
            ] refl
        | false ↦ λ _. omega arith
      ] refl
  pass-takes s a i t c J h = cond_both (a == t) 0 0 (λ x. count script rules J t c + x ≡ count script rules J t c) (λ _. omega arith) (λ _. omega arith)

  -- one more event that doesn't set the counter
  one-more : (e : Event) (J : List Event) (t c : ℕ) → Keeps script rules J e → ((i value : ℕ) → statement script t i ≡ Set c value → Issued t i ≡ key_of e → ⊥) → count script rules (e ∷ J) t c + taken_at script rules e t c ≡ cond (tells script rules e t c) 1 0 + count script rules J t c
  unfolding count tells
  one-more (Issue a i) J t c k none =
      let same = issue-keeps (statement script a i) a t c (count script rules J t c) (λ value here is. none i value (subst (λ x. statement script x i ≡ Set c value) here is) (ap (λ x. Issued x i) (sym here))) in
      omega arith
  one-more (Pass a i) J t c k none = let r = pass-takes (statement script a i) a i t c J k.waits in omega arith
  one-more e J t c k none = omega arith

  -- where the counting starts
  started : (J : List Event) (t c value : ℕ) → StartsAt script rules J t c value → count script rules J t c ≡ value
  unfolding count
  started [] t c value h = sym h
  started (Issue a i ∷ J) t c value h = issue-sets (statement script a i) a t c (count script rules J t c) value h.0 h.1
  started (e ∷ J) t c value h = absurd h

  -- a counter from where its counting starts
  add-up : (later before : List Event) (t c value : ℕ) → Atomic script rules (later ++ before) → StartsAt script rules before t c value → IsNotSet script rules later t c → count script rules (later ++ before) t c + taken script rules later t c ≡ value + announced script rules later t c
  add-up [] before t c value h start none = let e = started before t c value start in omega arith
  add-up (e ∷ later) before t c value h start none =
      let rest = add-up later before t c value (Atomic-tail script rules e (later ++ before) h) start (λ i v is d. none i v is (happened-later (Issued t i) e later d)) in
      let one = one-more e (later ++ before) t c (Atomic-head script rules e (later ++ before) h) (λ i v is same. none i v is (subst (λ d. happened d (e ∷ later) ≡ true) (sym same) (happened-head e later))) in
      let took = sum_by-cons (λ x. taken_at script rules x t c) e later in
      let told = sum_by-cons (λ x. cond (tells script rules x t c) 1 0) e later in
      omega arith

  -- a value to start at
  abbrev Start : List Event → (t c : ℕ) → Type 0
  Start J t c = (value : ℕ) × (later : List Event) × (before : List Event) × (J ≡ later ++ before) × StartsAt script rules before t c value × IsNotSet script rules later t c

  -- an event that doesn't set the counter keeps it
  start-later : (e : Event) (J : List Event) (t c : ℕ) → ((i value : ℕ) → statement script t i ≡ Set c value → Issued t i ≡ key_of e → ⊥) → Start J t c → Start (e ∷ J) t c
  start-later e J t c none (value, later, before, same, start, not_set) = (
    value,
    e ∷ later,
    before,
    ap (λ x. e ∷ x) same,
    start,
    λ i v is d. ⊎_elim (λ (x : Issued t i ≡ key_of e). none i v is x) (λ (x : happened (Issued t i) later ≡ true). not_set i v is x) (happened-cases (Issued t i) e later d),
  )

  -- every journal has one: what the last set of the counter set, or 0
  pub counters-start : (J : List Event) (t c : ℕ) → Start J t c
  counters-start [] t c = (0, [], [], refl, refl, λ i v is d. both_ways _ (happened-nil (Issued t i)) d)
  counters-start (Issue a i ∷ J) t c =
      let old = λ (none : (value : ℕ) → a ≡ t → statement script a i ≡ Set c value → ⊥). start-later (Issue a i) J t c (λ k v is same. none v (let q : a ≡ t = cc in q) (let q : statement script a i ≡ Set c v = cc in q)) (counters-start J t c) in
      ⊎_elim
      (λ (here : (a == t) ≡ true).
      ⊎_elim
      (λ (sets : (value : ℕ) × (statement script a i ≡ Set c value)). (sets.0, [], Issue a i ∷ J, refl, (eqb-true a t here, sets.1), λ k v is d. both_ways _ (happened-nil (Issued t k)) d))
      (λ (keeps : (value : ℕ) → statement script a i ≡ Set c value → ⊥). old (λ v _ is. keeps v is))
      (set-or-not (statement script a i) c))
      (λ (away : (a == t) ≡ false). old (λ v same _. both_ways _ away (eq-eqb a t same)))
      (cases_Bool (a == t))
  counters-start (e ∷ J) t c = start-later e J t c (λ i v is same. let q : ⊥ = cc in q) (counters-start J t c)

-- the law, of every atomic journal
pub counters-add-up : HoldsOfAtomic CountersAddUp
counters-add-up script rules J h = λ t c value later before same start none. subst (λ x. count script rules x t c + taken script rules later t c ≡ value + announced script rules later t c) (sym same) (add-up script rules later before t c value (subst (Atomic script rules) same h) start none)
