-- Lists that stand by rising statement, taken statement by statement.
use Rattle.std.specs.Prelude.{ℕ, ◌==◌, nat_le, List, map, filter, Option, option_to_list}
use Rattle.std.specs.List.{flat_map}
use Rattle.lapi_base.specs.declared.refusal.Refusal.{Refusal}
use Rattle.lapi_base.specs.Output.ReportText.{refused_line, read_line}

-- what is said of statement s, each time
abbrev pub said_of : {X : Type 0} → (statement : ℕ) → List (ℕ × X) → List X
said_of s xs = map (λ x. x.1) (filter (λ x. x.0 == s) xs)

-- those of statement s and of later ones
abbrev pub from_on : {X : Type 0} → (statement : ℕ) → List (ℕ × X) → List (ℕ × X)
from_on s xs = filter (λ x. nat_le s x.0) xs

-- the line of statement s, if it was refused, and if it read
abbrev pub refused_text : (task statement : ℕ) → Option Refusal → List ℕ
refused_text t s why = flat_map (λ reason. refused_line t (s, reason)) (option_to_list why)

abbrev pub read_text : (task statement : ℕ) → Option ℕ → List ℕ
read_text t s value = flat_map (λ n. read_line t (s, n)) (option_to_list value)
