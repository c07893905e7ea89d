-- The test by the state of an operation is the one over all that has to stand.
use Rattle.std.proofs.Common.{◌≡◌, ℕ, Bool, true, false, ◌&&◌, ◌||◌, not, List, [], ◌∷◌, ◌++◌, refl, ap, ◌∙◌}
use Rattle.std.specs.List.{list_all}
use Rattle.std.proofs.Math.Bool.{and_assoc}
use Rattle.lapi_base.specs.declared.script.Script.{Script}
use Rattle.lapi_base.specs.declared.rule.Rules.{Rules}
use Rattle.lapi_base.specs.declared.message.Leg.{Leg}
use Rattle.lapi_base.specs.declared.message.Leg.TheVariants.{Go, Back, Note, Echo, Join}
use Rattle.lapi_base.specs.declared.event.Event.{Event}
use Rattle.lapi_base.specs.declared.event.Event.TheVariants.{Issue, Refuse, Enter, Pass, Copy, Head, Land, Begin, End}
use Rattle.lapi_base.specs.Record.Names.{leg_eq, message, EventKey, Headed, Landed, Begun, Ended, key_of}
use Rattle.lapi_base.specs.Record.Operations.{statement, is_am}
use Rattle.lapi_base.specs.Record.Handlers.{has_completion}
use Rattle.lapi_base.specs.Record.Atomic.{needs, to_land, to_follow, copy_needs, land_needs, only_if}
use Rattle.lapi_audit.specs.declared.operation.Operation.{Operation}
use Rattle.lapi_audit.specs.Noted.{operation, stood, transit_of}
use Rattle.lapi_calls.specs.Places.{task_of, statement_of}
use Rattle.lapi_audit.specs.Order.{may_land, may_follow, may_copy, leg_may_land, is_after}

last : (x : Bool) → x ≡ (x && true)
last true = refl
last false = refl

-- one key_of, or two, that an operation may have
if-one : (f : EventKey → Bool) (b : Bool) (d : EventKey) (ds : List EventKey) → ((not b || f d) && list_all f ds) ≡ list_all f (only_if b (d ∷ []) ++ ds)
if-one f true d ds = refl
if-one f false d ds = refl

if-two : (f : EventKey → Bool) (b : Bool) (d e : EventKey) (ds : List EventKey) → ((not b || (f d && f e)) && list_all f ds) ≡ list_all f (only_if b (d ∷ e ∷ []) ++ ds)
if-two f true d e ds = and_assoc (f d) (f e) (list_all f ds)
if-two f false d e ds = refl

if-last : (f : EventKey → Bool) (b : Bool) (d : EventKey) → (not b || f d) ≡ list_all f (only_if b (d ∷ []))
if-last f true d = last (f d)
if-last f false d = refl

module _ (script : Script) (rules : Rules) (t : List (List Operation)) where
  lands : (a i : ℕ) → may_land (operation t a i) (is_am (statement script a i)) ≡ list_all (stood t) (to_land script rules a i)
  unfolding stood
  lands a i = ap (λ x. (operation t a i).issued && ((operation t a i).go.copied && x)) (if-last (stood t) (is_am (statement script a i)) (Headed (message a i Go)))

  begins : (a i : ℕ) → ((operation t a i).go.landed && may_land (operation t a i) (is_am (statement script a i))) ≡ list_all (stood t) (Landed (message a i Go) ∷ to_land script rules a i)
  unfolding stood
  begins a i = ap (λ x. (operation t a i).go.landed && x) (lands a i)

  follows : (a i : ℕ) → may_follow (operation t a i) (is_am (statement script a i)) (has_completion script rules a i) ≡ list_all (stood t) (to_follow script rules a i)
  unfolding stood
  follows a i =
      ap (λ x. (not (has_completion script rules a i) || ((operation t a i).begun && (operation t a i).ended)) && x) (begins a i)
      ∙ if-two (stood t) (has_completion script rules a i) (Begun (message a i Go)) (Ended (message a i Go)) (Landed (message a i Go) ∷ to_land script rules a i)

  copies : (a i : ℕ) (leg : Leg) → may_copy (operation t a i) (is_am (statement script a i)) (has_completion script rules a i) leg ≡ list_all (stood t) (copy_needs script rules a i leg)
  unfolding stood
  copies a i Go = last (operation t a i).issued
  copies a i (Join d) = last (operation t a i).entered
  copies a i Back = follows a i
  copies a i Note = follows a i
  copies a i Echo = follows a i

  leg-lands : (a i : ℕ) (leg : Leg) → leg_may_land (operation t a i) (is_am (statement script a i)) (has_completion script rules a i) leg ≡ list_all (stood t) (land_needs script rules a i leg)
  unfolding stood
  leg-lands a i Go = lands a i
  leg-lands a i (Join d) = ap (λ x. (transit_of (operation t a i) (Join d)).copied && x) (copies a i (Join d))
  leg-lands a i Back = ap (λ x. (operation t a i).back.copied && x) (copies a i Back)
  leg-lands a i Note = ap (λ x. (operation t a i).note.copied && x) (copies a i Note)
  leg-lands a i Echo = ap (λ x. (operation t a i).echo.copied && x) (copies a i Echo)

  pub after-needs : (e : Event) → is_after (operation t (task_of (key_of e)) (statement_of (key_of e))) (is_am (statement script (task_of (key_of e)) (statement_of (key_of e)))) (has_completion script rules (task_of (key_of e)) (statement_of (key_of e))) e ≡ list_all (stood t) (needs script rules (key_of e))
  unfolding stood needs
  after-needs (Issue a i) = refl
  after-needs (Refuse a i y) = refl
  after-needs (Enter a i) = refl
  after-needs (Pass a i) = refl
  after-needs (Copy m) = copies m.origin m.statement m.leg
  after-needs (Head m) = ap (λ x. (operation t m.origin m.statement).issued && x) (last (transit_of (operation t m.origin m.statement) m.leg).copied)
  after-needs (Land m) = leg-lands m.origin m.statement m.leg
  after-needs (Begin m b w) = ap (λ x. (transit_of (operation t m.origin m.statement) m.leg).landed && x) (lands m.origin m.statement)
  after-needs (End m b w) =
      ap (λ x. (not (has_completion script rules m.origin m.statement) || (leg_eq m.leg Go && (operation t m.origin m.statement).begun)) && ((transit_of (operation t m.origin m.statement) m.leg).landed && x)) (lands m.origin m.statement)
      ∙ if-one (stood t) (has_completion script rules m.origin m.statement) (Begun m) (Landed m ∷ to_land script rules m.origin m.statement)
