-- Each message is copied once and is short, and there are not many, so the numbers of a link are few.
use Rattle.std.proofs.Common.{◌≡◌, ℕ, zero, suc, ◌+◌, ◌*◌, ◌/◌, ◌<◌, ◌≤◌, ◌==◌, eqb, max, Bool, true, false, cond, ◌&&◌, not, List, [], ◌∷◌, ◌++◌, length, Some, None, refl, sym, ap, ◌∙◌, subst, arith}
use Rattle.std.specs.Prelude.{slice_index_or, nat_lt}
use Rattle.std.specs.List.{AllByRecursion, IsDistinct}
use Rattle.std.proofs.lemmas.Bool.{both_ways, and_parts, cond_both, eqb-true, ltb-true, ltb-false, false_from_ne_true, or_parts}
use Rattle.std.proofs.lemmas.List.{length-append}
use Rattle.std.proofs.lemmas.Map.Steps.{length-le_from_distinct_below}
use Rattle.std.proofs.lemmas.Option.{slice_get_within}
use Rattle.lapi_base.specs.Packet.Layout.{Layout, First, Second, layout_of, unit, longest, longest_active, unit_of, longest_of, longest_active_of}
use Rattle.lapi_base.specs.declared.script.Script.{Script}
use Rattle.lapi_base.specs.declared.statement.Statement.{Statement}
use Rattle.lapi_base.specs.declared.statement.Statement.TheVariants.{Put, Get, Putv, Getv, Am}
use Rattle.lapi_base.specs.declared.rule.Rules.{Rules}
use Rattle.lapi_base.specs.declared.message.Leg.{Leg}
use Rattle.lapi_base.specs.declared.message.Leg.TheVariants.{Go, Back, Note, Echo, Join}
use Rattle.lapi_base.specs.declared.message.MsgName.{MsgName}
use Rattle.lapi_base.specs.declared.refusal.Refusal.{Refusal}
use Rattle.lapi_base.specs.declared.event.Event.{Event}
use Rattle.lapi_base.specs.declared.event.Event.TheVariants.{Issue, Copy}
use Rattle.lapi_base.specs.Record.Names.{EventKey, Issued, Copied, Landed, Begun, Ended, key_of, happened, message}
use Rattle.lapi_base.specs.Record.Operations.{statements, statement, sender, receiver, has_leg, has_join, total, pieces_of, length_by, message_length, fragment_count, fragments}
use Rattle.lapi_base.specs.Record.Fragments.{fragments_in}
use Rattle.lapi_base.specs.Record.Handlers.{has_completion}
use Rattle.lapi_base.specs.Record.Refusals.{too_long, first_reason, refusal_by, refusal_of}
use Rattle.lapi_base.specs.Record.Wires.{numbered, is_number, has_number}
use Rattle.lapi_base.specs.Record.Atomic.{Atomic, Keeps, has_message, needs, copy_needs, only_if, to_land}
use Rattle.lapi_base.specs.Record.Valid.{ValidScript, ValidStatement}
use Rattle.lapi_base.specs.Laws.Headline.{HoldsOfRuns}
use Rattle.lapi_base.specs.Laws.Links.{NumbersAreFew, NumbersAreSmall}
use Rattle.lapi_base.proofs.ListLaws.{any-all}
use Rattle.lapi_base.proofs.NameLaws.{happened-head, happened-later}
use Rattle.lapi_laws.proofs.Places.{fragments-length}
use Rattle.lapi_laws.proofs.Backward.{Atomic-head, Atomic-tail, closed, shown}
use Rattle.lapi_laws.proofs.Sound.{Lists, Fits, Sound, number-known}
use Rattle.lapi_laws.proofs.Runs.{run-sound}

-- a number for each name
pub leg_code : Leg → ℕ
leg_code Go = 0
leg_code Back = 1
leg_code Note = 2
leg_code Echo = 3
leg_code (Join d) = 4 + d

-- and of a message
code : MsgName → ℕ
code m = (m.origin * 512 + m.statement) * 16 + leg_code m.leg

-- different legs have different numbers
leg-one : (k l : Leg) → leg_code k ≡ leg_code l → k ≡ l
unfolding leg_code
leg-one Go Go h = refl
leg-one Back Back h = refl
leg-one Note Note h = refl
leg-one Echo Echo h = refl
leg-one (Join d) (Join e) h = ap Join (omega arith)
leg-one _ _ h = absurd (omega arith)

-- what a message of a valid script is below
pub InRange : MsgName → Type 0
InRange m = (m.origin < 8) × (m.statement < 512) × (leg_code m.leg < 16)

-- different messages have different numbers
code-one : (m n : MsgName) → InRange m → InRange n → code m ≡ code n → m ≡ n
unfolding code InRange
code-one m n h g e =
    let hs : m.statement < 512 = h.1 in
    let hl : leg_code m.leg < 16 = h.2 in
    let gs : n.statement < 512 = g.1 in
    let gl : leg_code n.leg < 16 = g.2 in
    let o : m.origin ≡ n.origin = omega arith in
    let s : m.statement ≡ n.statement = omega arith in
    let l : leg_code m.leg ≡ leg_code n.leg = omega arith in
    let k = leg-one m.leg n.leg l in
    λ i. record { origin = o i; statement = s i; leg = k i }

-- and they are small
code-below : (m : MsgName) → InRange m → code m < 65536
unfolding code InRange
code-below m h = omega (arith, h.0, h.1, h.2)

-- the codes of the messages that were copied
copies : List Event → List ℕ
copies [] = []
copies (Copy m ∷ J) = code m ∷ copies J
copies (e ∷ J) = copies J

module _ (script : Script) (rules : Rules) (valid : ValidScript script) where
  -- a task has few statements
  pub statements-few : (a : ℕ) → length (statements script a) ≤ 512
  statements-few a = index script.lists a valid.lists
    where
      index : (ls : List (List Statement)) (k : ℕ) → AllByRecursion (λ (s : List Statement). (length s ≤ 512) × AllByRecursion ValidStatement s) ls → length (slice_index_or ls k []) ≤ 512
      index [] k h = omega arith
      index (s ∷ ls) zero h = h.0.0
      index (s ∷ ls) (suc k) h = index ls k h.1

  -- a leg that a statement has is in range
  leg-range : (answers : Bool) (a : ℕ) (leg : Leg) (s : Statement) → has_leg script answers a leg s ≡ true → leg_code leg < 16
  unfolding leg_code
  leg-range answers a (Join d) s h = let l : d < script.tasks = ltb-true d script.tasks (and_parts (nat_lt d script.tasks) (not (d == a)) (and_parts (has_join s) (nat_lt d script.tasks && not (d == a)) h).1).0 in let t : script.tasks ≤ 8 = valid.tasks.1 in omega arith
  leg-range answers a _ s h = omega arith

  -- a message that is there is in range
  pub in-range : (m : MsgName) → has_message script rules m ≡ true → InRange m
  unfolding InRange
  in-range m h =
      let both = and_parts _ _ h in
      let place = and_parts _ _ both.0 in
      let o : m.origin < script.tasks = ltb-true m.origin script.tasks place.0 in
      let t : script.tasks ≤ 8 = valid.tasks.1 in
      let s : m.statement < length (statements script m.origin) = ltb-true m.statement (length (statements script m.origin)) place.1 in
      let f = statements-few m.origin in
      (omega arith, omega arith, leg-range _ m.origin m.leg (statement script m.origin m.statement) both.1)

  -- this is the code of a message that was copied
  abbrev Known : List Event → ℕ → Type 0
  Known J c = (m : MsgName) × (c ≡ code m) × InRange m × (happened (Copied m) J ≡ true)

  -- what is known stays so
  known-later : (e : Event) (J : List Event) (cs : List ℕ) → AllByRecursion (Known J) cs → AllByRecursion (Known (e ∷ J)) cs
  known-later e J [] h = tt
  known-later e J (c ∷ cs) h = ((h.0.0, h.0.1, h.0.2, happened-later (Copied h.0.0) e J h.0.3), known-later e J cs h.1)

  -- each code is of a message that was copied
  known : (J : List Event) → Atomic script rules J → AllByRecursion (Known J) (copies J)
  unfolding copies
  known [] h = tt
  known (Copy m ∷ J) h = ((m, refl, in-range m (Atomic-head script rules (Copy m) J h).there, happened-head (Copy m) J), known-later (Copy m) J (copies J) (known J (Atomic-tail script rules (Copy m) J h)))
  known (e ∷ J) h = known-later e J (copies J) (known J (Atomic-tail script rules e J h))

  -- of a message that isn't copied yet, the code is new
  new-code : (m : MsgName) (J : List Event) (cs : List ℕ) → InRange m → happened (Copied m) J ≡ false → AllByRecursion (Known J) cs → AllByRecursion (λ c. eqb (code m) c ≡ false) cs
  new-code m J [] r d h = tt
  new-code m J (c ∷ cs) r d h =
      (false_from_ne_true _ (λ same. both_ways _ d (subst (λ (v : MsgName). happened (Copied v) J ≡ true) (sym (code-one m h.0.0 r h.0.2 (eqb-true (code m) c same ∙ h.0.1))) h.0.3)), new-code m J cs r d h.1)

  -- so no code stands twice
  distinct : (J : List Event) → Atomic script rules J → IsDistinct eqb (copies J)
  unfolding copies IsDistinct
  distinct [] h = tt
  distinct (Copy m ∷ J) h = let k = Atomic-head script rules (Copy m) J h in (new-code m J (copies J) (in-range m k.there) k.once (known J (Atomic-tail script rules (Copy m) J h)), distinct J (Atomic-tail script rules (Copy m) J h))
  distinct (e ∷ J) h = distinct J (Atomic-tail script rules e J h)

  -- and there are few
  few-copies : (J : List Event) → Atomic script rules J → length (copies J) ≤ 65536
  few-copies J h = length-le_from_distinct_below (copies J) 65536 (distinct J h) (λ q found.
      let r = any-all (eqb q) (Known J) (copies J) (known J h) found in
      let same : q ≡ code r.1.0 = eqb-true q r.0 r.2 ∙ r.1.1 in
      subst (λ c. c < 65536) (sym same) (code-below r.1.0 r.1.2))

  -- Where each message has at most 64 fragments, the numbers of a link are at most 64 for each message that was copied.
  numbered-few : (J : List Event) (a b : ℕ) → ((m : MsgName) → happened (Copied m) J ≡ true → fragment_count script m ≤ 64) → length (numbered script J a b) ≤ 64 * length (copies J)
  unfolding numbered copies
  numbered-few [] a b h = omega arith
  numbered-few (Copy m ∷ J) a b h =
      let old : length (numbered script J a b) ≤ 64 * length (copies J) = numbered-few J a b (λ n d. h n (happened-later (Copied n) (Copy m) J d)) in
      let own : fragment_count script m ≤ 64 = h m (happened-head (Copy m) J) in
      cond_both (sender script m == a && receiver script m == b) (numbered script J a b ++ fragments script m) (numbered script J a b) (λ xs. length xs ≤ 64 * suc (length (copies J)))
      (λ _. let e : length (numbered script J a b ++ fragments script m) ≡ length (numbered script J a b) + fragment_count script m = length-append (numbered script J a b) (fragments script m) ∙ ap (λ n. length (numbered script J a b) + n) (fragments-length script m) in omega arith)
      (λ _. omega arith)
  numbered-few (e ∷ J) a b h = numbered-few J a b (λ n d. h n (happened-later (Copied n) e J d))

  -- The numbers of a link stay far below 2^32.
  pub numbers-few : (J : List Event) (a b : ℕ) → Atomic script rules J → ((m : MsgName) → happened (Copied m) J ≡ true → fragment_count script m ≤ 64) → length (numbered script J a b) ≤ 4194304
  numbers-few J a b h small =
      let one : length (numbered script J a b) ≤ 64 * length (copies J) = numbered-few J a b small in
      let two : length (copies J) ≤ 65536 = few-copies J h in
      omega arith

-- where no reason is found, no test holds
pub none-tests : (lines : List (Bool × Refusal)) → first_reason lines ≡ None → AllByRecursion (λ (l : Bool × Refusal). l.0 ≡ false) lines
unfolding first_reason
none-tests [] h = tt
none-tests (l ∷ ls) h =
    elim (l.0) as (λ b. l.0 ≡ b → cond b (Some l.1) (first_reason ls) ≡ None → AllByRecursion (λ (k : Bool × Refusal). k.0 ≡ false) (l ∷ ls)) [
      | true ↦ λ e g. absurd (let x : ⊥ = cc in x)
      | false ↦ λ e g. (e, none-tests ls g)
    ] refl h

-- In each layout a longest message is 64 units, and no active message is longer.
few-units : (l : Layout) (n : ℕ) → n ≤ longest l → fragments_in (unit l) n ≤ 64
few-units First n h = let g : max 1 ((n + 255) / 256) ≤ 64 = omega arith in g
few-units Second n h = let g : max 1 ((n + 1023) / 1024) ≤ 64 = omega arith in g

longest-least : (script : Script) → 4 ≤ longest_of script
unfolding longest_of
longest-least script = each (layout_of script.layout)
  where
    each : (l : Layout) → 4 ≤ longest l
    each First = omega arith
    each Second = omega arith

longest-most : (script : Script) → longest_active_of script ≤ longest_of script
unfolding longest_of longest_active_of
longest-most script = each (layout_of script.layout)
  where
    each : (l : Layout) → longest_active l ≤ longest l
    each First = omega arith
    each Second = omega arith

module _ (script : Script) (rules : Rules) where
  -- a message of an operation that isn't too long is short
  length-short : (leg : Leg) (s : Statement) → too_long script s ≡ false → length_by leg s ≤ longest_of script
  length-short Go (Put target to from len tgt org cmpl) h = ltb-false (longest_of script) len h
  length-short Go (Putv target to from tgt org cmpl) h = ltb-false (longest_of script) (total (pieces_of from)) (or_parts _ _ h).1
  length-short Go (Am target handler header from len tgt org cmpl) h = let l = ltb-false (longest_active_of script) len h in omega (arith, l, longest-most script)
  length-short Back (Get target from to len tgt org) h = ltb-false (longest_of script) len h
  length-short Back (Getv target from to tgt org) h = ltb-false (longest_of script) (total (pieces_of from)) (or_parts _ _ h).0
  length-short _ _ h = omega (arith, longest-least script)

  -- An issued operation isn't too long.
  abbrev IsShort : EventKey → Type 0
  IsShort (Issued a i) = too_long script (statement script a i) ≡ false
  IsShort _ = Unit {0}

  -- what isn't refused isn't too long
  why-short : (J : List Event) (a i : ℕ) → refusal_of script rules J a i ≡ None → too_long script (statement script a i) ≡ false
  unfolding refusal_of refusal_by
  why-short J a i h = (none-tests _ h).1.1.1.1.0

  -- what is issued isn't refused
  short-now : (e : Event) (J : List Event) → Keeps script rules J e → IsShort (key_of e)
  short-now (Issue a i) J k = why-short J a i k.order.1
  short-now e J k = tt

  -- what holds of all of two lists holds of the second's
  pub last-of : (P : EventKey → Type 0) (xs ys : List EventKey) → AllByRecursion P (xs ++ ys) → AllByRecursion P ys
  last-of P [] ys h = h
  last-of P (x ∷ xs) ys h = last-of P xs ys h.1

  -- Go and Back come after an Issue; an Echo carries a word, and a Note and a Join nothing.
  needs-short : (J : List Event) (a i : ℕ) (leg : Leg) → Atomic script rules J → AllByRecursion (λ d. happened d J ≡ true) (copy_needs script rules a i leg) → length_by leg (statement script a i) ≤ longest_of script
  needs-short J a i Go h n = length-short Go (statement script a i) (shown script rules IsShort short-now (Issued a i) J h n.0)
  needs-short J a i Back h n =
      let rest = last-of (λ d. happened d J ≡ true) (only_if (has_completion script rules a i) (Begun (message a i Go) ∷ Ended (message a i Go) ∷ [])) (Landed (message a i Go) ∷ to_land script rules a i) n in
      length-short Back (statement script a i) (shown script rules IsShort short-now (Issued a i) J h rest.1.0)
  needs-short J a i _ h n = omega (arith, longest-least script)

  -- so every message that was copied is short
  pub copied-short : (J : List Event) (m : MsgName) → Atomic script rules J → happened (Copied m) J ≡ true → message_length script m ≤ longest_of script
  unfolding message_length needs
  copied-short J m h d = needs-short J m.origin m.statement m.leg h (closed script rules (Copied m) J h d)

  -- and has few fragments
  pub copied-few : (J : List Event) (m : MsgName) → Atomic script rules J → happened (Copied m) J ≡ true → fragment_count script m ≤ 64
  unfolding fragment_count unit_of longest_of
  copied-few J m h d = few-units (layout_of script.layout) (message_length script m) (copied-short J m h d)

  -- so every number on a wire is small
  sent-small : (J : List Event) (wire handed : Lists) → ValidScript script → Sound script rules J wire handed → (a b n : ℕ) → has_number (wire a b) n ≡ true → n < 4194304
  unfolding has_number
  sent-small J wire handed valid s a b n h =
      let p = any-all (is_number n) (Fits script rules J handed a b) (wire a b) (s.wires a b) h in
      let x = number-known script rules J handed a b n p.0 p.1 p.2 in
      let room : n < length (numbered script J a b) = slice_get_within (numbered script J a b) n x.0 x.1 in
      let few = numbers-few script rules valid J a b s.atomic (λ m d. copied-few J m s.atomic d) in
      omega arith

-- the laws, of every run
pub links-few : HoldsOfRuns NumbersAreFew
links-few script rules spells size refusal acts v valid a b =
    let s = run-sound script rules spells size refusal acts v in
    numbers-few script rules valid _ a b s.atomic (λ m d. copied-few script rules _ m s.atomic d)

pub numbers-small : HoldsOfRuns NumbersAreSmall
numbers-small script rules spells size refusal acts v = λ valid a b n h. let s = run-sound script rules spells size refusal acts v in sent-small script rules _ _ _ valid s a b n h
