-- What an event makes of the states of the operations stands for the journal with the event.
use Rattle.std.proofs.Common.{◌≡◌, ℕ, ◌<◌, ◌==◌, Bool, true, false, cond, ◌&&◌, ◌||◌, List, [], ◌∷◌, length, refl, sym, ap, ◌∙◌, subst, ⊎_elim, get_or, set, length-set, get_or-set_same, get_or-set_other, arith}
use Rattle.std.specs.Prelude.{nat_lt}
use Rattle.std.proofs.Math.Bool.{and_comm}
use Rattle.std.proofs.lemmas.Bool.{cases_Bool, ltb-true, cond-true, cond-false, cond_both, eqb-true, eq-eqb, and_parts, both_ways}
use Rattle.lapi_base.specs.declared.script.Script.{Script}
use Rattle.lapi_base.specs.declared.message.Leg.{Leg}
use Rattle.lapi_base.specs.declared.message.Leg.TheVariants.{Go, Back, Note, Echo, Join}
use Rattle.lapi_base.specs.declared.message.MsgName.{MsgName}
use Rattle.lapi_base.specs.declared.event.Event.{Event}
use Rattle.lapi_base.specs.declared.event.Event.TheVariants.{Issue, Refuse, Enter, Pass, Copy, Head, Land, Begin, End}
use Rattle.lapi_base.specs.Record.Names.{leg_eq, name_eq, EventKey, Issued, Refused, Entered, Passed, Copied, Headed, Landed, Begun, Ended, key_of, key_eq}
use Rattle.lapi_base.specs.declared.rule.Rules.{Rules}
use Rattle.lapi_base.specs.declared.statement.Statement.{Statement}
use Rattle.lapi_base.specs.Record.Operations.{statements, statement, has_leg, is_am}
use Rattle.lapi_base.specs.Record.Handlers.{answers}
use Rattle.lapi_base.specs.Record.Atomic.{is_there, has_statement, has_message}
use Rattle.lapi_base.specs.Record.Valid.{ValidScript}
use Rattle.lapi_base.proofs.NameLaws.{leg_eq-true, happened-cons}
use Rattle.lapi_audit.specs.declared.operation.Transit.{Transit}
use Rattle.lapi_audit.specs.declared.operation.Operation.{Operation}
use Rattle.lapi_audit.specs.Noted.{still, blank, transit_of, with_transit, noted, after, JoinIsBelow, HasJoinBelow, operation, with_operation, noted_in, stood, HasStates, OperationsStand}
use Rattle.lapi_calls.specs.Places.{task_of, statement_of}

-- a list with one element replaced
pub get-set : {X : Type 0} (xs : List X) (i j : ℕ) (x d : X) → i < length xs → get_or (set xs i x) j d ≡ cond (j == i) x (get_or xs j d)
get-set {X} xs i j x d l =
    ⊎_elim
    (λ (e : (j == i) ≡ true). subst (λ k. get_or (set xs i x) k d ≡ x) (sym (eqb-true j i e)) (get_or-set_same xs i x d l) ∙ sym (cond-true (j == i) x (get_or xs j d) e))
    (λ (e : (j == i) ≡ false). get_or-set_other xs i j x d (λ same. both_ways _ e (eq-eqb j i same)) ∙ sym (cond-false (j == i) x (get_or xs j d) e))
    (cases_Bool (j == i))

-- a table with one state replaced
pub operation-set : (t : List (List Operation)) (a i b j : ℕ) (o : Operation) → a < length t → i < length (get_or t a []) → operation (with_operation t a i o) b j ≡ cond (b == a && j == i) o (operation t b j)
operation-set t a i b j o la li =
    let row = set (get_or t a []) i o in
    ap (λ r. get_or r j (blank [])) (get-set t a b row [] la)
    ∙ ⊎_elim
    (λ (e : (b == a) ≡ true).
    ap (λ r. get_or r j (blank [])) (cond-true (b == a) row (get_or t b []) e)
    ∙ get-set (get_or t a []) i j o (blank []) li
    ∙ ap (λ n. cond (j == i) o (operation t n j)) (sym (eqb-true b a e))
    ∙ ap (λ x. cond (x && j == i) o (operation t b j)) (sym e))
    (λ (e : (b == a) ≡ false).
    ap (λ r. get_or r j (blank [])) (cond-false (b == a) row (get_or t b []) e)
    ∙ ap (λ x. cond (x && j == i) o (operation t b j)) (sym e))
    (cases_Bool (b == a))

-- Deeds by their kind and their operation.
abbrev pub same_kind : EventKey → EventKey → Bool
same_kind (Issued a i) (Issued b j) = true
same_kind (Refused a i) (Refused b j) = true
same_kind (Entered a i) (Entered b j) = true
same_kind (Passed a i) (Passed b j) = true
same_kind (Copied m) (Copied n) = leg_eq m.leg n.leg
same_kind (Headed m) (Headed n) = leg_eq m.leg n.leg
same_kind (Landed m) (Landed n) = leg_eq m.leg n.leg
same_kind (Begun m) (Begun n) = leg_eq m.leg n.leg
same_kind (Ended m) (Ended n) = leg_eq m.leg n.leg
same_kind _ _ = false

abbrev pub same_place : EventKey → EventKey → Bool
same_place d e = task_of d == task_of e && statement_of d == statement_of e

names-parts : (m n : MsgName) → name_eq m n ≡ (leg_eq m.leg n.leg && (m.origin == n.origin && m.statement == n.statement))
unfolding name_eq
names-parts m n = and_comm (m.origin == n.origin && m.statement == n.statement) (leg_eq m.leg n.leg)

deed_eq-parts : (d e : EventKey) → key_eq d e ≡ (same_kind d e && same_place d e)
deed_eq-parts (Issued a i) (Issued b j) = refl
deed_eq-parts (Refused a i) (Refused b j) = refl
deed_eq-parts (Entered a i) (Entered b j) = refl
deed_eq-parts (Passed a i) (Passed b j) = refl
deed_eq-parts (Copied m) (Copied n) = names-parts m n
deed_eq-parts (Headed m) (Headed n) = names-parts m n
deed_eq-parts (Landed m) (Landed n) = names-parts m n
deed_eq-parts (Begun m) (Begun n) = names-parts m n
deed_eq-parts (Ended m) (Ended n) = names-parts m n
deed_eq-parts _ _ = refl

-- an event that its operation can note
abbrev pub Suits : Event → Operation → Type 0
Suits (Copy m) o = JoinIsBelow m.leg (length o.joins)
Suits (Land m) o = JoinIsBelow m.leg (length o.joins)
Suits (Head m) o = m.leg ≡ Go
Suits (Begin m t w) o = m.leg ≡ Go
Suits (End m t w) o = m.leg ≡ Go
Suits _ o = Unit {0}

transit-after : (o : Operation) (l k : Leg) (t : Transit) → JoinIsBelow k (length o.joins) → transit_of (with_transit o k t) l ≡ cond (leg_eq l k) t (transit_of o l)
transit-after o (Join d) (Join e) t b = get-set o.joins e d t still b
transit-after o Go Go t b = refl
transit-after o Back Back t b = refl
transit-after o Note Note t b = refl
transit-after o Echo Echo t b = refl
transit-after o _ _ t b = refl

-- with one mark more
copied-after : (b : Bool) (t u : Transit) → (b ≡ true → u ≡ t) → (cond b (record u { copied = true }) t).copied ≡ (b || t.copied)
copied-after true t u h = refl
copied-after false t u h = refl

landed-after : (b : Bool) (t u : Transit) → (b ≡ true → u ≡ t) → (cond b (record u { landed = true }) t).landed ≡ (b || t.landed)
landed-after true t u h = refl
landed-after false t u h = refl

copied-kept : (b : Bool) (t u : Transit) → (b ≡ true → u ≡ t) → (cond b (record u { landed = true }) t).copied ≡ t.copied
copied-kept true t u h = ap (λ (x : Transit). x.copied) (h refl)
copied-kept false t u h = refl

landed-kept : (b : Bool) (t u : Transit) → (b ≡ true → u ≡ t) → (cond b (record u { copied = true }) t).landed ≡ t.landed
landed-kept true t u h = ap (λ (x : Transit). x.landed) (h refl)
landed-kept false t u h = refl

same-transit : (o : Operation) (l k : Leg) → leg_eq l k ≡ true → transit_of o k ≡ transit_of o l
same-transit o l k e = ap (transit_of o) (sym (leg_eq-true l k e))

-- a state with a leg that was copied, and with one that landed
copies : (o : Operation) (l k : Leg) → JoinIsBelow k (length o.joins) → (transit_of (with_transit o k (record (transit_of o k) { copied = true })) l).copied ≡ (leg_eq l k || (transit_of o l).copied)
copies o l k b =
    ap (λ (x : Transit). x.copied) (transit-after o l k (record (transit_of o k) { copied = true }) b)
    ∙ copied-after (leg_eq l k) (transit_of o l) (transit_of o k) (same-transit o l k)

copies-apart : (o : Operation) (l k : Leg) → JoinIsBelow k (length o.joins) → (transit_of (with_transit o k (record (transit_of o k) { copied = true })) l).landed ≡ (transit_of o l).landed
copies-apart o l k b =
    ap (λ (x : Transit). x.landed) (transit-after o l k (record (transit_of o k) { copied = true }) b)
    ∙ landed-kept (leg_eq l k) (transit_of o l) (transit_of o k) (same-transit o l k)

lands : (o : Operation) (l k : Leg) → JoinIsBelow k (length o.joins) → (transit_of (with_transit o k (record (transit_of o k) { landed = true })) l).landed ≡ (leg_eq l k || (transit_of o l).landed)
lands o l k b =
    ap (λ (x : Transit). x.landed) (transit-after o l k (record (transit_of o k) { landed = true }) b)
    ∙ landed-after (leg_eq l k) (transit_of o l) (transit_of o k) (same-transit o l k)

lands-apart : (o : Operation) (l k : Leg) → JoinIsBelow k (length o.joins) → (transit_of (with_transit o k (record (transit_of o k) { landed = true })) l).copied ≡ (transit_of o l).copied
lands-apart o l k b =
    ap (λ (x : Transit). x.copied) (transit-after o l k (record (transit_of o k) { landed = true }) b)
    ∙ copied-kept (leg_eq l k) (transit_of o l) (transit_of o k) (same-transit o l k)

go-alone : (l k : Leg) (b : Bool) → k ≡ Go → (leg_eq l Go && true) ≡ (leg_eq l k || (leg_eq l Go && b))
go-alone l k b e = subst (λ k. (leg_eq l Go && true) ≡ (leg_eq l k || (leg_eq l Go && b))) (sym e) (by_test (leg_eq l Go) b)
  where
    by_test : (x b : Bool) → (x && true) ≡ (x || (x && b))
    by_test true b = refl
    by_test false b = refl

-- a key_of that isn't of a message's way
abbrev IsStill : EventKey → Type 0
IsStill (Copied m) = ⊥
IsStill (Landed m) = ⊥
IsStill d = Unit {0}

-- what else an operation has stays where a message moves
moved : (o : Operation) (k : Leg) (t : Transit) (d : EventKey) → IsStill d → noted (with_transit o k t) d ≡ noted o d
moved o Go t (Copied m) h = absurd h
moved o Go t (Landed m) h = absurd h
moved o Go t d h = refl
moved o Back t (Copied m) h = absurd h
moved o Back t (Landed m) h = absurd h
moved o Back t d h = refl
moved o Note t (Copied m) h = absurd h
moved o Note t (Landed m) h = absurd h
moved o Note t d h = refl
moved o Echo t (Copied m) h = absurd h
moved o Echo t (Landed m) h = absurd h
moved o Echo t d h = refl
moved o (Join e) t (Copied m) h = absurd h
moved o (Join e) t (Landed m) h = absurd h
moved o (Join e) t d h = refl

-- which deeds of its operation stand after an event
noted-after : (o : Operation) (e : Event) (d : EventKey) → Suits e o → noted (after e o) d ≡ (same_kind d (key_of e) || noted o d)
noted-after o (Issue a i) (Issued b j) s = refl
noted-after o (Issue a i) _ s = refl
noted-after o (Refuse a i y) (Refused b j) s = refl
noted-after o (Refuse a i y) _ s = refl
noted-after o (Enter a i) (Entered b j) s = refl
noted-after o (Enter a i) _ s = refl
noted-after o (Pass a i) (Passed b j) s = refl
noted-after o (Pass a i) _ s = refl
noted-after o (Head m) (Headed n) s = go-alone n.leg m.leg o.headed s
noted-after o (Head m) _ s = refl
noted-after o (Begin m t w) (Begun n) s = go-alone n.leg m.leg o.begun s
noted-after o (Begin m t w) _ s = refl
noted-after o (End m t w) (Ended n) s = go-alone n.leg m.leg o.ended s
noted-after o (End m t w) _ s = refl
noted-after o (Copy m) (Copied n) s = copies o n.leg m.leg s
noted-after o (Copy m) (Landed n) s = copies-apart o n.leg m.leg s
noted-after o (Copy m) d s = moved o m.leg (record (transit_of o m.leg) { copied = true }) d tt
noted-after o (Land m) (Landed n) s = lands o n.leg m.leg s
noted-after o (Land m) (Copied n) s = lands-apart o n.leg m.leg s
noted-after o (Land m) d s = moved o m.leg (record (transit_of o m.leg) { landed = true }) d tt

stood-after : (t : List (List Operation)) (e : Event) (d : EventKey) → task_of (key_of e) < length t → statement_of (key_of e) < length (get_or t (task_of (key_of e)) []) → Suits e (operation t (task_of (key_of e)) (statement_of (key_of e))) → stood (noted_in t e) d ≡ (key_eq d (key_of e) || stood t d)
unfolding stood
stood-after t e d la li s =
    let a = task_of (key_of e) in
    let i = statement_of (key_of e) in
    let o = operation t a i in
    ap (λ x. noted x d) (operation-set t a i (task_of d) (statement_of d) (after e o) la li)
    ∙ elim (same_place d (key_of e)) as (λ b. same_place d (key_of e) ≡ b → noted (cond b (after e o) (operation t (task_of d) (statement_of d))) d ≡ ((same_kind d (key_of e) && b) || noted (operation t (task_of d) (statement_of d)) d)) [
      | true ↦ λ same.
          let places = and_parts (task_of d == a) (statement_of d == i) same in
          let here : operation t (task_of d) (statement_of d) ≡ o = λ k. operation t (eqb-true (task_of d) a places.0 k) (eqb-true (statement_of d) i places.1 k) in
          noted-after o e d s
          ∙ ap (λ x. x || noted o d) (and_true (same_kind d (key_of e)))
          ∙ ap (λ x. (same_kind d (key_of e) && true) || noted x d) (sym here)
      | false ↦ λ _. ap (λ x. x || noted (operation t (task_of d) (statement_of d)) d) (and_false (same_kind d (key_of e)))
    ] refl
    ∙ ap (λ x. x || stood t d) (sym (deed_eq-parts d (key_of e)))
  where
    and_true : (x : Bool) → x ≡ (x && true)
    and_true true = refl
    and_true false = refl

    and_false : (x : Bool) → false ≡ (x && false)
    and_false true = refl
    and_false false = refl

joins-with : (o : Operation) (l : Leg) (t : Transit) → length (with_transit o l t).joins ≡ length o.joins
joins-with o (Join d) t = length-set o.joins d t
joins-with o _ t = refl

joins-after : (o : Operation) (e : Event) → length (after e o).joins ≡ length o.joins
joins-after o (Copy m) = joins-with o m.leg (record (transit_of o m.leg) { copied = true })
joins-after o (Land m) = joins-with o m.leg (record (transit_of o m.leg) { landed = true })
joins-after o _ = refl

module _ (script : Script) (rules : Rules) (valid : ValidScript script) where
  -- an event that is there lies at a statement
  pub there-place : (e : Event) → is_there script rules e ≡ true → has_statement script rules (task_of (key_of e)) (statement_of (key_of e)) ≡ true
  there-place (Issue a i) h = (and_parts _ _ h).0
  there-place (Refuse a i y) h = h
  there-place (Enter a i) h = (and_parts _ _ h).0
  there-place (Pass a i) h = (and_parts _ _ h).0
  there-place (Copy m) h = (and_parts _ _ h).0
  there-place (Head m) h = (and_parts _ _ (and_parts _ _ h).0).0
  there-place (Land m) h = (and_parts _ _ h).0
  there-place (Begin m t w) h = (and_parts _ _ (and_parts _ _ (and_parts _ _ h).0).0).0
  there-place (End m t w) h = (and_parts _ _ (and_parts _ _ (and_parts _ _ h).0).0).0

  join-below : (answers : Bool) (a : ℕ) (l : Leg) (s : Statement) → has_leg script answers a l s ≡ true → JoinIsBelow l 8
  join-below answers a (Join d) s h =
      let below = ltb-true d script.tasks (and_parts _ _ (and_parts _ _ h).1).0 in
      let few = valid.tasks.1 in
      omega arith
  join-below answers a Go s h = tt
  join-below answers a Back s h = tt
  join-below answers a Note s h = tt
  join-below answers a Echo s h = tt

  pub there-suits : (e : Event) → is_there script rules e ≡ true → HasJoinBelow e 8
  there-suits (Copy m) h = join-below (answers script rules m.origin m.statement) m.origin m.leg (statement script m.origin m.statement) (and_parts _ _ h).1
  there-suits (Land m) h = join-below (answers script rules m.origin m.statement) m.origin m.leg (statement script m.origin m.statement) (and_parts _ _ h).1
  there-suits _ h = tt

  -- the table has the place of an event that is there
  pub place-in : (t : List (List Operation)) (e : Event) → HasStates script t → is_there script rules e ≡ true → (task_of (key_of e) < length t) × (statement_of (key_of e) < length (get_or t (task_of (key_of e)) [])) × (length (operation t (task_of (key_of e)) (statement_of (key_of e))).joins ≡ 8)
  place-in t e fits h =
      let a = task_of (key_of e) in
      let i = statement_of (key_of e) in
      let both = and_parts (nat_lt a script.tasks) (nat_lt i (length (statements script a))) (there-place e h) in
      let la : a < script.tasks = ltb-true a script.tasks both.0 in
      let li : i < length (statements script a) = ltb-true i (length (statements script a)) both.1 in
      let count : length t ≡ script.tasks = fits.tasks in
      let list : length (get_or t a []) ≡ length (statements script a) = fits.lists a la in
      ((let q : a < length t = omega arith in q), (let q : i < length (get_or t a []) = omega arith in q), fits.joins a i la li)

  suits-there : (o : Operation) (e : Event) → length o.joins ≡ 8 → is_there script rules e ≡ true → Suits e o
  suits-there o (Copy m) j h = subst (JoinIsBelow m.leg) (sym j) (there-suits (Copy m) h)
  suits-there o (Land m) j h = subst (JoinIsBelow m.leg) (sym j) (there-suits (Land m) h)
  suits-there o (Head m) j h = leg_eq-true m.leg Go (and_parts _ _ (and_parts (has_message script rules m) (leg_eq m.leg Go && is_am (statement script m.origin m.statement)) h).1).0
  suits-there o (Begin m t w) j h = leg_eq-true m.leg Go (and_parts _ _ (and_parts (has_message script rules m) (leg_eq m.leg Go && is_am (statement script m.origin m.statement)) (and_parts _ _ h).0).1).0
  suits-there o (End m t w) j h = leg_eq-true m.leg Go (and_parts _ _ (and_parts (has_message script rules m) (leg_eq m.leg Go && is_am (statement script m.origin m.statement)) (and_parts _ _ h).0).1).0
  suits-there o _ j h = tt

  -- after an event there is a state for each operation still
  pub states-after : (t : List (List Operation)) (e : Event) → HasStates script t → is_there script rules e ≡ true → HasStates script (noted_in t e)
  states-after t e fits h =
      let a = task_of (key_of e) in
      let i = statement_of (key_of e) in
      let o = operation t a i in
      let at = place-in t e fits h in
      record {
        tasks = length-set t a (set (get_or t a []) i (after e o)) ∙ fits.tasks;
        lists = λ b lb.
            ap length (get-set t a b (set (get_or t a []) i (after e o)) [] at.0)
            ∙ cond_both (b == a) (set (get_or t a []) i (after e o)) (get_or t b []) (λ r. length r ≡ length (statements script b))
            (λ e'. length-set (get_or t a []) i (after e o) ∙ ap (λ n. length (get_or t n [])) (sym (eqb-true b a e')) ∙ fits.lists b lb)
            (λ _. fits.lists b lb);
        joins = λ b j lb lj.
            ap (λ (x : Operation). length x.joins) (operation-set t a i b j (after e o) at.0 at.1)
            ∙ cond_both (b == a && j == i) (after e o) (operation t b j) (λ (x : Operation). length x.joins ≡ 8)
            (λ _. joins-after o e ∙ at.2)
            (λ _. fits.joins b j lb lj);
      }

  -- and the states stand for the journal with it
  pub operations-after : (t : List (List Operation)) (J : List Event) (e : Event) → OperationsStand script t J → is_there script rules e ≡ true → OperationsStand script (noted_in t e) (e ∷ J)
  operations-after t J e s h =
      let a = task_of (key_of e) in
      let i = statement_of (key_of e) in
      let o = operation t a i in
      let at = place-in t e s.fits h in
      record {
        fits = states-after t e s.fits h;
        deeds = λ d. stood-after t e d at.0 at.1 (suits-there o e at.2 h) ∙ ap (λ x. key_eq d (key_of e) || x) (s.deeds d) ∙ sym (happened-cons d e J);
      }
