-- In an atomic journal a fence passes only where earlier data have landed, and a global fence only where all tasks' have.
use Rattle.std.proofs.Common.{◌≡◌, ℕ, ◌<◌, true, cond, List, length, Some, None, refl, ap, ◌∙◌, subst}
use Rattle.std.specs.Prelude.{nat_lt, slice_get, filter}
use Rattle.std.proofs.lemmas.Bool.{false≢true, and_parts}
use Rattle.lapi_base.specs.declared.statement.Statement.{Statement}
use Rattle.lapi_base.specs.declared.statement.Statement.TheVariants.{Fence, Gfence}
use Rattle.lapi_base.specs.declared.script.Script.{Script}
use Rattle.lapi_base.specs.declared.rule.Rules.{Rules}
use Rattle.lapi_base.specs.declared.event.Event.{Event}
use Rattle.lapi_base.specs.declared.event.Event.TheVariants.{Pass}
use Rattle.lapi_base.specs.Record.Names.{Entered, happened}
use Rattle.lapi_base.specs.Record.Operations.{statements, statement, is_gfence, table_rounds}
use Rattle.lapi_base.specs.Record.Refusals.{gfence_rounds, round_of, partner}
use Rattle.lapi_base.specs.Record.Atomic.{Atomic, landed_before, all_cleared, partner_cleared, pass_allowed}
use Rattle.lapi_base.specs.Laws.Headline.{StandsAfter, FencesWait, HasJoined, GlobalFencesWait, HoldsOfAtomic}
use Rattle.lapi_base.proofs.BelowLaws.{below-all, every_below-at}
use Rattle.lapi_base.proofs.ListLaws.{all-get}
use Rattle.lapi_laws.proofs.Sound.{landed_before-at}
use Rattle.lapi_laws.proofs.Places.{place-below}
use Rattle.lapi_laws.proofs.Once.{keeps-at}

-- the test of a global fence
pub gfence-is : (s : Statement) → is_gfence s ≡ true → s ≡ Gfence
gfence-is Gfence h = refl
gfence-is _ h = absurd (false≢true h)

module _ (script : Script) (rules : Rules) where
  -- what a statement passes by
  allowed : (J before : List Event) (a i : ℕ) (s : Statement) → Atomic script rules J → statement script a i ≡ s → StandsAfter before (Pass a i) J → pass_allowed script rules before a i s ≡ true
  allowed J before a i s h same at = subst (λ x. pass_allowed script rules before a i x ≡ true) same (keeps-at script rules J before (Pass a i) h at).waits

  -- the round of a global fence is its place among those of its task
  fence-round : (a i : ℕ) → statement script a i ≡ Gfence → round_of script a i ≡ length (filter (λ j. nat_lt j i) (gfence_rounds script a))
  unfolding round_of
  fence-round a i g = ap (λ s. length (filter (λ j. nat_lt j i) (cond (is_gfence s) (gfence_rounds script a) (table_rounds script a)))) g

  -- the partner of a global fence stands in its task's list of them, at the place of the round
  fence-partner : (a i d k : ℕ) → statement script a i ≡ Gfence → partner script a i d ≡ Some k → slice_get (gfence_rounds script d) (round_of script a i) ≡ Some k
  unfolding partner
  fence-partner a i d k g e = subst (λ s. slice_get (cond (is_gfence s) (gfence_rounds script d) (table_rounds script d)) (round_of script a i) ≡ Some k) g e

  -- the partner of a global fence is one too, of the same round
  partner-is : (a i d k : ℕ) → statement script a i ≡ Gfence → partner script a i d ≡ Some k → (statement script d k ≡ Gfence) × (round_of script d k ≡ round_of script a i)
  unfolding gfence_rounds
  partner-is a i d k g e =
      let place = fence-partner a i d k g e in
      let test = λ (j : ℕ). is_gfence (statement script d j) in
      let is = gfence-is (statement script d k) (all-get (λ j. (j < length (statements script d)) × (test j ≡ true)) (gfence_rounds script d) (round_of script a i) k (below-all (length (statements script d)) test) place).1 in
      (is, fence-round d k is ∙ place-below (length (statements script d)) test (round_of script a i) k place)

  -- what the test of one task says
  joined-by : (J : List Event) (a i d : ℕ) → statement script a i ≡ Gfence → partner_cleared script rules J d (partner script a i d) ≡ true → HasJoined script rules J a i d
  joined-by J a i d g h =
      elim (partner script a i d) as (λ o. partner script a i d ≡ o → partner_cleared script rules J d o ≡ true → HasJoined script rules J a i d) [
        | None ↦ λ e c. absurd (false≢true c)
        | Some k ↦ λ e c.
            let both = and_parts (happened (Entered d k) J) (landed_before script rules J d k) c in
            let is = partner-is a i d k g e in
            (k, is.0, is.1, both.0, λ j l operates issued. landed_before-at script rules J d k j both.1 l operates issued)
      ] refl h

-- the laws, of every atomic journal
pub fences-wait : HoldsOfAtomic FencesWait
fences-wait script rules J h = λ before a i s at j l operates issued. landed_before-at script rules before a i j (allowed script rules J before a i Fence h s at) l operates issued

-- what the test of all tasks says of each
all-joined : (script : Script) (rules : Rules) (J : List Event) (a i d : ℕ) → statement script a i ≡ Gfence → all_cleared script rules J a i ≡ true → d < script.tasks → HasJoined script rules J a i d
unfolding all_cleared
all-joined script rules J a i d g h l = joined-by script rules J a i d g (every_below-at script.tasks (λ x. partner_cleared script rules J x (partner script a i x)) d h l)

-- a global fence waits for all tasks
pub global-fences-wait : HoldsOfAtomic GlobalFencesWait
global-fences-wait script rules J h = λ before a i d s at l. all-joined script rules before a i d s (allowed script rules J before a i Gfence h s at) l
