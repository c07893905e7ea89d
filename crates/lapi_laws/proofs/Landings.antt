-- A message has landed exactly where all its numbers were delivered, and data that are happened have landed.
use Rattle.std.proofs.Common.{◌≡◌, ℕ, true, List, ap}
use Rattle.std.specs.List.{AllByRecursion}
use Rattle.std.proofs.lemmas.Bool.{and_parts, and_from}
use Rattle.lapi_base.specs.declared.script.Script.{Script}
use Rattle.lapi_base.specs.declared.rule.Rules.{Rules}
use Rattle.lapi_base.specs.declared.message.Leg.{Leg}
use Rattle.lapi_base.specs.declared.message.Leg.TheVariants.{Go, Back, Note, Echo, Join}
use Rattle.lapi_base.specs.declared.message.MsgName.{MsgName}
use Rattle.lapi_base.specs.declared.event.Event.{Event}
use Rattle.lapi_base.specs.declared.event.Event.TheVariants.{Head}
use Rattle.lapi_base.specs.Record.Names.{leg_eq, EventKey, Copied, Headed, Landed, key_of, happened, message}
use Rattle.lapi_base.specs.Record.Atomic.{Atomic, Keeps, needs, land_needs}
use Rattle.lapi_base.specs.Laws.Headline.{HoldsOfRuns}
use Rattle.lapi_base.specs.Laws.Links.{IsActive, LandsWhenAllCame, HeadsWhenOneCame, DoneHaveLanded, ClearHaveLanded}
use Rattle.lapi_base.proofs.NameLaws.{leg_eq-true}
use Rattle.lapi_laws.proofs.Backward.{closed, shown}
use Rattle.lapi_laws.proofs.Sound.{landed_before-at}
use Rattle.lapi_laws.proofs.Turns.{happened-landed, clear-landed}
use Rattle.lapi_laws.proofs.Runs.{run-sound}

module _ (script : Script) (rules : Rules) where
  -- what lands was copied
  needs-copied : (J : List Event) (a i : ℕ) (leg : Leg) → AllByRecursion (λ x. happened x J ≡ true) (land_needs script rules a i leg) → happened (Copied (message a i leg)) J ≡ true
  needs-copied J a i Go h = h.1.0
  needs-copied J a i Back h = h.0
  needs-copied J a i Note h = h.0
  needs-copied J a i Echo h = h.0
  needs-copied J a i (Join d) h = h.0

  landed-copied : (J : List Event) (m : MsgName) → Atomic script rules J → happened (Landed m) J ≡ true → happened (Copied m) J ≡ true
  unfolding needs
  landed-copied J m h d = needs-copied J m.origin m.statement m.leg (closed script rules (Landed m) J h d)

  -- a header handler is called for an active message alone
  abbrev HasHead : EventKey → Type 0
  HasHead (Headed m) = IsActive script rules m
  HasHead _ = Unit {0}

  head-now : (e : Event) (J : List Event) → Keeps script rules J e → HasHead (key_of e)
  head-now (Head m) J k = let both = and_parts _ _ (and_parts _ _ k.there).1 in (leg_eq-true m.leg Go both.0, both.1)
  head-now e J k = tt

  headed-active : (J : List Event) (m : MsgName) → Atomic script rules J → happened (Headed m) J ≡ true → IsActive script rules m
  headed-active J m h d = shown script rules HasHead head-now (Headed m) J h d

-- the laws, of every run
pub lands-when-all-came : HoldsOfRuns LandsWhenAllCame
lands-when-all-came script rules spells size refusal acts v m =
    let s = run-sound script rules spells size refusal acts v in
    (λ d. (landed-copied script rules _ m s.atomic d, s.landed m d), λ h. s.arrived m h.0 h.1)

pub heads-when-one-came : HoldsOfRuns HeadsWhenOneCame
heads-when-one-came script rules spells size refusal acts v m =
    let s = run-sound script rules spells size refusal acts v in
    (λ d. let x = s.headed m d in (headed-active script rules _ m s.atomic d, x.0, x.1.0, x.1.1), λ h. s.heads m (and_from _ _ h.0.1 (ap (λ l. leg_eq l Go) h.0.0)) h.1 h.2 h.3)

pub happened-have-landed : HoldsOfRuns DoneHaveLanded
happened-have-landed script rules spells size refusal acts v a i h = happened-landed script rules _ a i (run-sound script rules spells size refusal acts v) h

pub clear-have-landed : HoldsOfRuns ClearHaveLanded
clear-have-landed script rules spells size refusal acts v a i h j l operates issued =
    landed_before-at script rules _ a i j (clear-landed script rules _ a i (run-sound script rules spells size refusal acts v) h) l operates issued
