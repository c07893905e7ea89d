-- The lines that lanes took, and behind them the report.
use Rattle.std.proofs.Common.{◌≡◌, ℕ, List, ◌++◌, sym, ap, ◌∙◌, append_assoc, Option, Result, Ok, Err}
use Rattle.std.specs.Prelude.{IsErr}
use Rattle.std.specs.Io.KnownBytes.{Appends}
use Rattle.lapi_base.proofs.Appended.{appended_twice}
use Rattle.lapi_io.specs.Writes.{AppendsFront, Wrote}

-- a refusal in the first text
pub refused_first : {T E : Type 0} (old now : Option (List ℕ)) (a b : List ℕ) (r : Result T E) → IsErr r → AppendsFront old now a → Wrote old now (a ++ b) r
refused_first old now a b (Ok x) is f = absurd (cc)
refused_first old now a b (Err e) is f = (f.0, f.1 ++ b, ap (λ s. s ++ b) f.2 ∙ append_assoc f.0 f.1 b, f.3)

-- one text, and then another
pub both_wrote : {T E : Type 0} (old now next : Option (List ℕ)) (a b : List ℕ) (r : Result T E) → Appends old now a → Wrote now next b r → Wrote old next (a ++ b) r
both_wrote old now next a b (Ok x) h w = appended_twice old now next a b h w
both_wrote old now next a b (Err e) h w = (a ++ w.0, w.1, ap (λ s. a ++ s) w.2 ∙ sym (append_assoc a w.0 w.1), appended_twice old now next a w.0 h w.3)
