-- What was refused and what was read of a task, by statements. These are laws of this project.
use Rattle.std.specs.Prelude.{ℕ, suc, ◌≤◌, List, [], ◌∷◌}
use Rattle.lapi_base.specs.declared.script.Script.{Script}
use Rattle.lapi_base.specs.declared.rule.Rules.{Rules}
use Rattle.lapi_base.specs.declared.event.Event.{Event}
use Rattle.lapi_base.specs.Record.Refusals.{refusals}
use Rattle.lapi_base.specs.Record.Counters.{reads}

-- each is of this statement or a later one, and of a later one than that before it
abbrev pub RiseFrom : {X : Type 0} → (statement : ℕ) → List (ℕ × X) → Type 0
RiseFrom s [] = Unit {0}
RiseFrom s (x ∷ xs) = (s ≤ x.0) × RiseFrom (suc x.0) xs

-- what was refused of a task, and what it read, stand by rising statement
abbrev pub StatementsRise : Script → Rules → List Event → Type 0
StatementsRise script rules J = (t : ℕ) → RiseFrom 0 (refusals J t) × RiseFrom 0 (reads script rules J t)
