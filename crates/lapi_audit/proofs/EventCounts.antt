-- A journal has few events: no two of them have one kind and name, and a statement has few kinds and names.
use Rattle.std.proofs.Common.{◌≡◌, ℕ, ◌+◌, ◌-◌, ◌*◌, ◌<◌, ◌≤◌, ◌==◌, Bool, true, false, cond, ◌&&◌, not, List, [], ◌∷◌, length, map, refl, sym, ap, ◌∙◌, subst, get_or, arith}
use Rattle.std.specs.Prelude.{nat_lt, is_some}
use Rattle.std.specs.List.{AllByRecursion, IsDistinct, list_any}
use Rattle.std.proofs.lemmas.Bool.{cond-true, cond-false, and_parts, both_ways, false≢true, false_from_ne_true, eqb-true, ltb-true, lt-ltb, le-ltb, or_left, or_right}
use Rattle.std.proofs.lemmas.List.{length-map}
use Rattle.std.proofs.lemmas.Map.Steps.{length-le_from_distinct_below}
use Rattle.lapi_base.specs.declared.script.Script.{Script}
use Rattle.lapi_base.specs.declared.rule.Rules.{Rules}
use Rattle.lapi_base.specs.declared.statement.Statement.{Statement}
use Rattle.lapi_base.specs.declared.statement.Statement.TheVariants.{Gfence}
use Rattle.lapi_base.specs.declared.message.Leg.{Leg}
use Rattle.lapi_base.specs.declared.message.Leg.TheVariants.{Go, Back, Note, Echo, Join}
use Rattle.lapi_base.specs.declared.message.MsgName.{MsgName}
use Rattle.lapi_base.specs.declared.event.Event.{Event}
use Rattle.lapi_base.specs.declared.event.Event.TheVariants.{Issue, Refuse, Enter, Pass, Copy, Head, Land, Begin, End}
use Rattle.lapi_base.specs.Record.Names.{leg_eq, message, EventKey, Issued, Refused, Entered, Passed, Copied, Headed, Landed, Begun, Ended, key_of, key_eq, happened}
use Rattle.lapi_base.specs.Record.Operations.{statement, statements, has_join, has_back, is_data, is_am, has_leg, cmpl_counter}
use Rattle.lapi_base.specs.Record.Handlers.{answers, has_completion}
use Rattle.lapi_base.specs.Record.Valid.{ValidScript}
use Rattle.lapi_base.specs.Record.Atomic.{Atomic, is_there, is_issued, has_message}
use Rattle.lapi_base.proofs.ListLaws.{all-map, any-all}
use Rattle.lapi_base.proofs.NameLaws.{deed_eq-refl, happened-cons, leg_eq-true}
use Rattle.lapi_base.proofs.ValidLaws.{list-valid}
use Rattle.lapi_laws.proofs.Backward.{Atomic-head, Atomic-tail}
use Rattle.lapi_laws.proofs.Lines.{answer-completion}
use Rattle.lapi_calls.specs.Places.{task_of, statement_of}
use Rattle.lapi_audit.proofs.NotedLaws.{there-place}

-- a place for each kind and name of one statement, which has joins or has not
abbrev copied_slot : Leg → ℕ
copied_slot Go = 6
copied_slot Back = 7
copied_slot Note = 8
copied_slot Echo = 9
copied_slot (Join d) = 3 + d

abbrev landed_slot : Leg → ℕ
landed_slot Go = 10
landed_slot Back = 11
landed_slot Note = 12
landed_slot Echo = 13
landed_slot (Join d) = 11 + d

abbrev slot : EventKey → ℕ
slot (Issued a i) = 2
slot (Refused a i) = 0
slot (Entered a i) = 2
slot (Passed a i) = 1
slot (Copied m) = copied_slot m.leg
slot (Headed m) = 3
slot (Landed m) = landed_slot m.leg
slot (Begun m) = 4
slot (Ended m) = 5

-- the kind and name at a place
abbrev plain_at : (a i s : ℕ) → EventKey
plain_at a i s =
    get_or
    (Refused a i ∷ Passed a i ∷ Issued a i ∷ Headed (message a i Go) ∷ Begun (message a i Go) ∷ Ended (message a i Go)
    ∷ Copied (message a i Go) ∷ Copied (message a i Back) ∷ Copied (message a i Note) ∷ Copied (message a i Echo)
    ∷ Landed (message a i Go) ∷ Landed (message a i Back) ∷ Landed (message a i Note) ∷ Landed (message a i Echo) ∷ [])
    s (Refused a i)

abbrev joined_at : (a i s : ℕ) → EventKey
joined_at a i s =
    cond (nat_lt s 3) (get_or (Refused a i ∷ Passed a i ∷ Entered a i ∷ []) s (Refused a i))
    (cond (nat_lt s 11) (Copied (message a i (Join (s - 3)))) (Landed (message a i (Join (s - 11)))))

abbrev key_at : (joins : Bool) (a i s : ℕ) → EventKey
key_at true a i s = joined_at a i s
key_at false a i s = plain_at a i s

-- a kind and name that a statement may have
abbrev FitsLeg : Bool → Leg → Type 0
FitsLeg joins (Join d) = (joins ≡ true) × (d < 8)
FitsLeg joins _ = joins ≡ false

abbrev Fits : Bool → EventKey → Type 0
Fits joins (Issued a i) = joins ≡ false
Fits joins (Refused a i) = Unit {0}
Fits joins (Entered a i) = joins ≡ true
Fits joins (Passed a i) = Unit {0}
Fits joins (Copied m) = FitsLeg joins m.leg
Fits joins (Headed m) = (joins ≡ false) × (m.leg ≡ Go)
Fits joins (Landed m) = FitsLeg joins m.leg
Fits joins (Begun m) = (joins ≡ false) × (m.leg ≡ Go)
Fits joins (Ended m) = (joins ≡ false) × (m.leg ≡ Go)

-- is found at its place again
refused-at : (joins : Bool) (a i : ℕ) → key_at joins a i 0 ≡ Refused a i
refused-at true a i = refl
refused-at false a i = refl

passed-at : (joins : Bool) (a i : ℕ) → key_at joins a i 1 ≡ Passed a i
passed-at true a i = refl
passed-at false a i = refl

join-copied-at : (a i d : ℕ) → d < 8 → joined_at a i (3 + d) ≡ Copied (message a i (Join d))
join-copied-at a i d l =
    let past : nat_lt (3 + d) 3 ≡ false = le-ltb (3 + d) 3 (omega arith) in
    let within : nat_lt (3 + d) 11 ≡ true = lt-ltb (3 + d) 11 (omega arith) in
    let same : 3 + d - 3 ≡ d = omega arith in
    cond-false (nat_lt (3 + d) 3) (get_or (Refused a i ∷ Passed a i ∷ Entered a i ∷ []) (3 + d) (Refused a i)) (cond (nat_lt (3 + d) 11) (Copied (message a i (Join (3 + d - 3)))) (Landed (message a i (Join (3 + d - 11))))) past
    ∙ cond-true (nat_lt (3 + d) 11) (Copied (message a i (Join (3 + d - 3)))) (Landed (message a i (Join (3 + d - 11)))) within
    ∙ ap (λ k. Copied (message a i (Join k))) same

join-landed-at : (a i d : ℕ) → joined_at a i (11 + d) ≡ Landed (message a i (Join d))
join-landed-at a i d =
    let past : nat_lt (11 + d) 3 ≡ false = le-ltb (11 + d) 3 (omega arith) in
    let beyond : nat_lt (11 + d) 11 ≡ false = le-ltb (11 + d) 11 (omega arith) in
    let same : 11 + d - 11 ≡ d = omega arith in
    cond-false (nat_lt (11 + d) 3) (get_or (Refused a i ∷ Passed a i ∷ Entered a i ∷ []) (11 + d) (Refused a i)) (cond (nat_lt (11 + d) 11) (Copied (message a i (Join (11 + d - 3)))) (Landed (message a i (Join (11 + d - 11))))) past
    ∙ cond-false (nat_lt (11 + d) 11) (Copied (message a i (Join (11 + d - 3)))) (Landed (message a i (Join (11 + d - 11)))) beyond
    ∙ ap (λ k. Landed (message a i (Join k))) same

copied-at : (joins : Bool) (a i : ℕ) (leg : Leg) → FitsLeg joins leg → key_at joins a i (copied_slot leg) ≡ Copied (message a i leg)
copied-at joins a i Go f = ap (λ b. key_at b a i 6) f
copied-at joins a i Back f = ap (λ b. key_at b a i 7) f
copied-at joins a i Note f = ap (λ b. key_at b a i 8) f
copied-at joins a i Echo f = ap (λ b. key_at b a i 9) f
copied-at joins a i (Join d) f = ap (λ b. key_at b a i (3 + d)) f.0 ∙ join-copied-at a i d f.1

landed-at : (joins : Bool) (a i : ℕ) (leg : Leg) → FitsLeg joins leg → key_at joins a i (landed_slot leg) ≡ Landed (message a i leg)
landed-at joins a i Go f = ap (λ b. key_at b a i 10) f
landed-at joins a i Back f = ap (λ b. key_at b a i 11) f
landed-at joins a i Note f = ap (λ b. key_at b a i 12) f
landed-at joins a i Echo f = ap (λ b. key_at b a i 13) f
landed-at joins a i (Join d) f = ap (λ b. key_at b a i (11 + d)) f.0 ∙ join-landed-at a i d

at-slot : (joins : Bool) (k : EventKey) → Fits joins k → key_at joins (task_of k) (statement_of k) (slot k) ≡ k
at-slot joins (Issued a i) f = ap (λ b. key_at b a i 2) f
at-slot joins (Refused a i) f = refused-at joins a i
at-slot joins (Entered a i) f = ap (λ b. key_at b a i 2) f
at-slot joins (Passed a i) f = passed-at joins a i
at-slot joins (Copied m) f = copied-at joins m.origin m.statement m.leg f
at-slot joins (Headed m) f = ap (λ b. key_at b m.origin m.statement 3) f.0 ∙ ap (λ leg. Headed (message m.origin m.statement leg)) (sym f.1)
at-slot joins (Landed m) f = landed-at joins m.origin m.statement m.leg f
at-slot joins (Begun m) f = ap (λ b. key_at b m.origin m.statement 4) f.0 ∙ ap (λ leg. Begun (message m.origin m.statement leg)) (sym f.1)
at-slot joins (Ended m) f = ap (λ b. key_at b m.origin m.statement 5) f.0 ∙ ap (λ leg. Ended (message m.origin m.statement leg)) (sym f.1)

-- and there are nineteen places
copied-few : (joins : Bool) (leg : Leg) → FitsLeg joins leg → copied_slot leg < 19
copied-few joins Go f = omega arith
copied-few joins Back f = omega arith
copied-few joins Note f = omega arith
copied-few joins Echo f = omega arith
copied-few joins (Join d) f = let l = f.1 in omega arith

landed-few : (joins : Bool) (leg : Leg) → FitsLeg joins leg → landed_slot leg < 19
landed-few joins Go f = omega arith
landed-few joins Back f = omega arith
landed-few joins Note f = omega arith
landed-few joins Echo f = omega arith
landed-few joins (Join d) f = let l = f.1 in omega arith

slots-few : (joins : Bool) (k : EventKey) → Fits joins k → slot k < 19
slots-few joins (Issued a i) f = omega arith
slots-few joins (Refused a i) f = omega arith
slots-few joins (Entered a i) f = omega arith
slots-few joins (Passed a i) f = omega arith
slots-few joins (Copied m) f = copied-few joins m.leg f
slots-few joins (Headed m) f = omega arith
slots-few joins (Landed m) f = landed-few joins m.leg f
slots-few joins (Begun m) f = omega arith
slots-few joins (Ended m) f = omega arith

-- what a statement is that has such an event
issued-plain : (s : Statement) → is_issued s ≡ true → has_join s ≡ false
issued-plain Gfence h = absurd (false≢true h)
issued-plain (Statement.Addr at) h = absurd (false≢true h)
issued-plain _ h = refl

data-plain : (s : Statement) → is_data s ≡ true → has_join s ≡ false
data-plain Gfence h = absurd (false≢true h)
data-plain (Statement.Addr at) h = absurd (false≢true h)
data-plain _ h = refl

am-plain : (s : Statement) → is_am s ≡ true → has_join s ≡ false
am-plain Gfence h = absurd (false≢true h)
am-plain (Statement.Addr at) h = absurd (false≢true h)
am-plain _ h = refl

back-plain : (s : Statement) → has_back s ≡ true → has_join s ≡ false
back-plain Gfence h = absurd (false≢true h)
back-plain (Statement.Addr at) h = absurd (false≢true h)
back-plain _ h = refl

note-plain : (s : Statement) → is_some (cmpl_counter s) ≡ true → has_join s ≡ false
note-plain Gfence h = absurd (false≢true h)
note-plain (Statement.Addr at) h = absurd (false≢true h)
note-plain _ h = refl

-- each event of an atomic journal is there
pub all-there : (script : Script) (rules : Rules) (J : List Event) → Atomic script rules J → AllByRecursion (λ e. is_there script rules e ≡ true) J
all-there script rules [] h = tt
all-there script rules (e ∷ J) h = ((Atomic-head script rules e J h).there, all-there script rules J (Atomic-tail script rules e J h))

module _ (script : Script) (rules : Rules) (valid : ValidScript script) where
  answer-plain : (a i : ℕ) → answers script rules a i ≡ true → has_join (statement script a i) ≡ false
  unfolding has_completion
  answer-plain a i h = am-plain (statement script a i) (and_parts _ _ (answer-completion script rules a i h)).0

  leg-fits : (a i : ℕ) (leg : Leg) → has_leg script (answers script rules a i) a leg (statement script a i) ≡ true → FitsLeg (has_join (statement script a i)) leg
  leg-fits a i Go h = data-plain (statement script a i) h
  leg-fits a i Back h = back-plain (statement script a i) h
  leg-fits a i Note h = note-plain (statement script a i) (and_parts _ _ h).0
  leg-fits a i Echo h = answer-plain a i h
  leg-fits a i (Join d) h =
      let both = and_parts (has_join (statement script a i)) (nat_lt d script.tasks && not (d == a)) h in
      let below : d < script.tasks = ltb-true d script.tasks (and_parts _ _ both.1).0 in
      let few = valid.tasks.1 in
      (both.0, let q : d < 8 = omega arith in q)

  request-fits : (m : MsgName) → (leg_eq m.leg Go && is_am (statement script m.origin m.statement)) ≡ true → (has_join (statement script m.origin m.statement) ≡ false) × (m.leg ≡ Go)
  request-fits m h =
      let both = and_parts (leg_eq m.leg Go) (is_am (statement script m.origin m.statement)) h in
      (am-plain (statement script m.origin m.statement) both.1, leg_eq-true m.leg Go both.0)

  fits : (e : Event) → is_there script rules e ≡ true → Fits (has_join (statement script (task_of (key_of e)) (statement_of (key_of e)))) (key_of e)
  fits (Issue a i) h = issued-plain (statement script a i) (and_parts _ _ h).1
  fits (Refuse a i y) h = tt
  fits (Enter a i) h = (and_parts _ _ h).1
  fits (Pass a i) h = tt
  fits (Copy m) h = leg-fits m.origin m.statement m.leg (and_parts _ _ h).1
  fits (Head m) h = request-fits m (and_parts (has_message script rules m) (leg_eq m.leg Go && is_am (statement script m.origin m.statement)) h).1
  fits (Land m) h = leg-fits m.origin m.statement m.leg (and_parts _ _ h).1
  fits (Begin m t w) h = request-fits m (and_parts (has_message script rules m) (leg_eq m.leg Go && is_am (statement script m.origin m.statement)) (and_parts _ _ h).0).1
  fits (End m t w) h = request-fits m (and_parts (has_message script rules m) (leg_eq m.leg Go && is_am (statement script m.origin m.statement)) (and_parts _ _ h).0).1

  -- the number of an event's kind and name
  abbrev number : Event → ℕ
  number e = (task_of (key_of e) * 512 + statement_of (key_of e)) * 19 + slot (key_of e)

  record Bounds (e : Event) : Type 0 where
    task : task_of (key_of e) < 8
    statement : statement_of (key_of e) < 512
    slot : slot (key_of e) < 19

  bounds : (e : Event) → is_there script rules e ≡ true → Bounds e
  bounds e h =
      let a = task_of (key_of e) in
      let i = statement_of (key_of e) in
      let both = and_parts (nat_lt a script.tasks) (nat_lt i (length (statements script a))) (there-place script rules valid e h) in
      let la : a < script.tasks = ltb-true a script.tasks both.0 in
      let li : i < length (statements script a) = ltb-true i (length (statements script a)) both.1 in
      let tasks = valid.tasks.1 in
      let few = (list-valid script valid a).0 in
      record {
        task = let q : a < 8 = omega arith in q;
        statement = let q : i < 512 = omega arith in q;
        slot = slots-few (has_join (statement script a i)) (key_of e) (fits e h);
      }

  number-few : (e : Event) → is_there script rules e ≡ true → number e < 77824
  number-few e h = let b = bounds e h in let x = b.task in let y = b.statement in let z = b.slot in omega arith

  apart : (a b i j s t : ℕ) → i < 512 → j < 512 → s < 19 → t < 19 → (a * 512 + i) * 19 + s ≡ (b * 512 + j) * 19 + t → (a ≡ b) × (i ≡ j) × (s ≡ t)
  apart a b i j s t li lj ls lt same = ((let q : a ≡ b = omega arith in q), (let q : i ≡ j = omega arith in q), (let q : s ≡ t = omega arith in q))

  -- tells them apart
  one-key : (e f : Event) → is_there script rules e ≡ true → is_there script rules f ≡ true → number e ≡ number f → key_of e ≡ key_of f
  one-key e f he hf same =
      let b = bounds e he in
      let c = bounds f hf in
      let parts = apart (task_of (key_of e)) (task_of (key_of f)) (statement_of (key_of e)) (statement_of (key_of f)) (slot (key_of e)) (slot (key_of f)) b.statement c.statement b.slot c.slot same in
      sym (at-slot (has_join (statement script (task_of (key_of e)) (statement_of (key_of e)))) (key_of e) (fits e he))
      ∙ (λ k. key_at (has_join (statement script (parts.0 k) (parts.1 k))) (parts.0 k) (parts.1 k) (parts.2 k))
      ∙ at-slot (has_join (statement script (task_of (key_of f)) (statement_of (key_of f)))) (key_of f) (fits f hf)

  new-number : (e : Event) (J : List Event) → is_there script rules e ≡ true → Atomic script rules J → happened (key_of e) J ≡ false → AllByRecursion (λ n. (number e == n) ≡ false) (map number J)
  new-number e [] there h new = tt
  new-number e (f ∷ J) there h new =
      let split = happened-cons (key_of e) f J in
      let not_this : key_eq (key_of e) (key_of f) ≡ false = false_from_ne_true _ (λ y. both_ways _ new (split ∙ or_left _ _ y)) in
      let not_those : happened (key_of e) J ≡ false = false_from_ne_true _ (λ y. both_ways _ new (split ∙ or_right _ _ y)) in (
        false_from_ne_true _ (λ y. both_ways _ not_this (subst (λ k. key_eq (key_of e) k ≡ true) (one-key e f there (Atomic-head script rules f J h).there (eqb-true (number e) (number f) y)) (deed_eq-refl (key_of e)))),
        new-number e J there (Atomic-tail script rules f J h) not_those,
      )

  numbers-distinct : (J : List Event) → Atomic script rules J → IsDistinct (λ n m. n == m) (map number J)
  unfolding IsDistinct
  numbers-distinct [] h = tt
  numbers-distinct (e ∷ J) h =
      let k = Atomic-head script rules e J h in
      (new-number e J k.there (Atomic-tail script rules e J h) k.once, numbers-distinct J (Atomic-tail script rules e J h))

  numbers-below : (J : List Event) → Atomic script rules J → (q : ℕ) → list_any (λ n. q == n) (map number J) ≡ true → q < 77824
  numbers-below J h q has =
      let found = any-all (λ n. q == n) (λ n. n < 77824) (map number J) (all-map (λ e. is_there script rules e ≡ true) (λ n. n < 77824) number J (all-there script rules J h) (λ e there. number-few e there)) has in
      subst (λ n. n < 77824) (sym (eqb-true q found.0 found.2)) found.1

  -- a journal has at most nineteen events for each of 4,096 statements
  pub few-events : (J : List Event) → Atomic script rules J → length J ≤ 77824
  few-events J h =
      let few = length-le_from_distinct_below (map number J) 77824 (numbers-distinct J h) (λ q has. numbers-below J h q has) in
      let same = length-map J number in
      omega arith
