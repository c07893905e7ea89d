-- What was appended to what a sink holds.
use Rattle.std.proofs.Common.{ℕ, List, [], ◌++◌, sym, ap, ◌∙◌, append_assoc, Option, Some, None}
use Rattle.std.proofs.lemmas.List.{append-nil}
use Rattle.std.specs.Io.KnownBytes.{Appends}

pub nothing_appended : (old : Option (List ℕ)) → Appends old old []
nothing_appended None = tt
nothing_appended (Some xs) = sym (append-nil xs)

pub appended_twice : (old now next : Option (List ℕ)) (a b : List ℕ) → Appends old now a → Appends now next b → Appends old next (a ++ b)
appended_twice None now next a b h k = tt
appended_twice (Some xs) None next a b h k = absurd h
appended_twice (Some xs) (Some ys) None a b h k = absurd k
appended_twice (Some xs) (Some ys) (Some zs) a b h k = k ∙ ap (λ s. s ++ b) h ∙ append_assoc xs a b
