-- What a command gives where no write fails but for want of room. This is the project's own.
use Rattle.std.specs.Prelude.{◌≡◌, ℕ, ◌+◌, ◌<◌, ◌⊎◌, List, ◌++◌, length, Some}
use Rattle.lapi_base.specs.declared.status.Status.{Status}
use Rattle.lapi_base.specs.declared.status.Status.TheVariants as status
use Rattle.lapi_base.specs.Output.CommandAnswers.{Answer}
use Rattle.lapi_tool.specs.Outcomes.{CommandGives}

-- the status of the answer, and its text was appended whole; or memory ran out
abbrev pub GivesWhole : Answer → (held now : List ℕ) → Status → Type 0
GivesWhole answer held now result = ((result ≡ answer.status) × (now ≡ held ++ answer.text)) ⊎ (result ≡ status.Memory)

-- what was given was given whole, where the room is above its end
abbrev pub GivesWholeWithin : (room : ℕ) → (held now : List ℕ) → Status → Type 0
GivesWholeWithin room held now result =
    (answer : Answer) → CommandGives answer (Some held) (Some now) result → length held + length answer.text < room → GivesWhole answer held now result
