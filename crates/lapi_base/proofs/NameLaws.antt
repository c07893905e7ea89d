-- Names and deeds: their tests, and what stands in a journal.
use Rattle.std.proofs.Common.{◌≡◌, ◌⊎◌, ℕ, true, false, ◌==◌, ◌&&◌, ◌||◌, List, [], ◌∷◌, refl, sym, ap, ◌∙◌, ⊎_elim, inl, inr, ◌≢◌, Bool, ◌++◌}
use Rattle.std.specs.List.{AllByRecursion}
use Rattle.std.proofs.lemmas.Bool.{false≢true, and_parts, and_from, or_cases, or_left, or_right, eqb-true}
use Rattle.lapi_base.specs.declared.message.Leg.{Leg}
use Rattle.lapi_base.specs.declared.message.Leg.TheVariants.{Go, Back, Note, Echo, Join}
use Rattle.lapi_base.specs.declared.message.MsgName.{MsgName}
use Rattle.lapi_base.specs.declared.event.Event.{Event}
use Rattle.lapi_base.specs.Record.Names.{leg_eq, name_eq, EventKey, Issued, Refused, Entered, Passed, Copied, Headed, Landed, Begun, Ended, key_of, key_eq, happened}
use Rattle.lapi_base.proofs.TestLaws.{eqb-refl}

pub leg_eq-refl : (l : Leg) → leg_eq l l ≡ true
leg_eq-refl Go = refl
leg_eq-refl Back = refl
leg_eq-refl Note = refl
leg_eq-refl Echo = refl
leg_eq-refl (Join d) = eqb-refl d

pub leg_eq-true : (l k : Leg) → leg_eq l k ≡ true → l ≡ k
leg_eq-true Go Go h = refl
leg_eq-true Back Back h = refl
leg_eq-true Note Note h = refl
leg_eq-true Echo Echo h = refl
leg_eq-true (Join d) (Join e) h = ap Join (eqb-true d e h)
leg_eq-true _ _ h = absurd (false≢true h)

pub name_eq-refl : (m : MsgName) → name_eq m m ≡ true
unfolding name_eq
name_eq-refl m = and_from _ _ (and_from _ _ (eqb-refl m.origin) (eqb-refl m.statement)) (leg_eq-refl m.leg)

pub name_eq-true : (m n : MsgName) → name_eq m n ≡ true → m ≡ n
unfolding name_eq
name_eq-true m n h =
    let h1 = and_parts (m.origin == n.origin && m.statement == n.statement) (leg_eq m.leg n.leg) h in
    let h2 = and_parts (m.origin == n.origin) (m.statement == n.statement) h1.0 in
    let a = eqb-true m.origin n.origin h2.0 in
    let b = eqb-true m.statement n.statement h2.1 in
    let c = leg_eq-true m.leg n.leg h1.1 in
    λ i. record { origin = a i; statement = b i; leg = c i }

pub name_eq-false : (m n : MsgName) → m ≢ n → name_eq m n ≡ false
name_eq-false m n differ = by_test (name_eq m n) refl
  where
    by_test : (b : Bool) → name_eq m n ≡ b → b ≡ false
    by_test true e = absurd (differ (name_eq-true m n e))
    by_test false e = refl

pub deed_eq-refl : (d : EventKey) → key_eq d d ≡ true
deed_eq-refl (Issued a i) = and_from _ _ (eqb-refl a) (eqb-refl i)
deed_eq-refl (Refused a i) = and_from _ _ (eqb-refl a) (eqb-refl i)
deed_eq-refl (Entered a i) = and_from _ _ (eqb-refl a) (eqb-refl i)
deed_eq-refl (Passed a i) = and_from _ _ (eqb-refl a) (eqb-refl i)
deed_eq-refl (Copied m) = name_eq-refl m
deed_eq-refl (Headed m) = name_eq-refl m
deed_eq-refl (Landed m) = name_eq-refl m
deed_eq-refl (Begun m) = name_eq-refl m
deed_eq-refl (Ended m) = name_eq-refl m

pair : (f : ℕ → ℕ → EventKey) (a b i j : ℕ) → (a == b && i == j) ≡ true → f a i ≡ f b j
pair f a b i j h = let hs = and_parts (a == b) (i == j) h in let p = eqb-true a b hs.0 in let q = eqb-true i j hs.1 in λ k. f (p k) (q k)

pub deed_eq-true : (d e : EventKey) → key_eq d e ≡ true → d ≡ e
deed_eq-true (Issued a i) (Issued b j) h = pair Issued a b i j h
deed_eq-true (Refused a i) (Refused b j) h = pair Refused a b i j h
deed_eq-true (Entered a i) (Entered b j) h = pair Entered a b i j h
deed_eq-true (Passed a i) (Passed b j) h = pair Passed a b i j h
deed_eq-true (Copied m) (Copied n) h = ap Copied (name_eq-true m n h)
deed_eq-true (Headed m) (Headed n) h = ap Headed (name_eq-true m n h)
deed_eq-true (Landed m) (Landed n) h = ap Landed (name_eq-true m n h)
deed_eq-true (Begun m) (Begun n) h = ap Begun (name_eq-true m n h)
deed_eq-true (Ended m) (Ended n) h = ap Ended (name_eq-true m n h)
deed_eq-true _ _ h = absurd (false≢true h)

pub happened-nil : (d : EventKey) → happened d [] ≡ false
unfolding happened
happened-nil d = refl

pub happened-cons : (d : EventKey) (e : Event) (J : List Event) → happened d (e ∷ J) ≡ (key_eq d (key_of e) || happened d J)
unfolding happened
happened-cons d e J = refl

pub happened-head : (e : Event) (J : List Event) → happened (key_of e) (e ∷ J) ≡ true
happened-head e J = happened-cons (key_of e) e J ∙ or_left _ _ (deed_eq-refl (key_of e))

pub happened-later : (d : EventKey) (e : Event) (J : List Event) → happened d J ≡ true → happened d (e ∷ J) ≡ true
happened-later d e J h = happened-cons d e J ∙ or_right _ _ h

-- and after any more events
pub happened-grown : (later J : List Event) (d : EventKey) → happened d J ≡ true → happened d (later ++ J) ≡ true
happened-grown [] J d h = h
happened-grown (e ∷ later) J d h = happened-later d e (later ++ J) (happened-grown later J d h)

pub happened-cases : (d : EventKey) (e : Event) (J : List Event) → happened d (e ∷ J) ≡ true → (d ≡ key_of e) ⊎ (happened d J ≡ true)
happened-cases d e J h =
    ⊎_elim
    (λ (x : key_eq d (key_of e) ≡ true). inl (deed_eq-true d (key_of e) x))
    (λ (x : happened d J ≡ true). inr x)
    (or_cases _ _ (sym (happened-cons d e J) ∙ h))

-- a key_of of another kind or name than e's stands after e where it stood before
pub happened-other : (d : EventKey) (e : Event) (J : List Event) → key_eq d (key_of e) ≡ false → happened d (e ∷ J) ≡ happened d J
happened-other d e J h = happened-cons d e J ∙ ap (λ b. b || happened d J) h

pub happened-all-later : (ds : List EventKey) (e : Event) (J : List Event) → AllByRecursion (λ d. happened d J ≡ true) ds → AllByRecursion (λ d. happened d (e ∷ J) ≡ true) ds
happened-all-later [] e J h = tt
happened-all-later (d ∷ ds) e J h = (happened-later d e J h.0, happened-all-later ds e J h.1)
