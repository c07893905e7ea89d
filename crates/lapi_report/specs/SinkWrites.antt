-- What a writer of text did to its sink, where `Writes` of lapi_io isn't all.
use Rattle.std.specs.Prelude.{◌≡◌, ℕ, ◌≤◌, List, ◌++◌, Option, Result, MatchResult, IsErrOf}
use Rattle.std.specs.Io.KnownBytes.{Appends}
use Rattle.lapi_base.specs.declared.status.WriteFault.{WriteFault}
use Rattle.lapi_base.specs.declared.status.WriteFault.TheVariants.{Failed}
use Rattle.lapi_io.specs.Causes.{HasCause, Rose}
use Rattle.lapi_io.specs.Writes.{AppendsFront, Wrote}

-- some front of the text was appended, and this rest of it is left
pub record Progress (old new : Option (List ℕ)) (text rest : List ℕ) : Type 0 where
  pub front : List ℕ
  pub appended : Appends old new front
  pub whole : front ++ rest ≡ text

-- the text was appended but for this rest, or a front of it where the writer refused
abbrev pub WroteUpTo : {T E : Type 0} → (old new : Option (List ℕ)) → (text rest : List ℕ) → Result T E → Type 0
WroteUpTo old new text rest result =
    MatchResult result (λ _. Progress old new text rest) (λ _. AppendsFront old new text)

-- as `Writes`, but for this rest of the words
pub record WritesUpTo {K T E : Type 0} (held : K → Option (List ℕ)) (faults : K → ℕ) (sure : K → Option ℕ)
    (old new : K) (words rest : List ℕ) (result : Result T E) : Type 0 where
  pub text : WroteUpTo (held old) (held new) words rest result
  pub cause : HasCause (faults old) (faults new) result
  pub room : sure new ≡ sure old

-- the sink's count of faults didn't fall, and it rose where the sink refused
pub record HasWriteCause {T : Type 0} (before now : ℕ) (result : Result T WriteFault) : Type 0 where
  pub later : before ≤ now
  pub failed : IsErrOf result Failed → Rose before now

-- as `Writes`, where memory may run out too
pub record WritesWithMemory {K T : Type 0} (held : K → Option (List ℕ)) (faults : K → ℕ) (sure : K → Option ℕ)
    (old new : K) (words : List ℕ) (result : Result T WriteFault) : Type 0 where
  pub text : Wrote (held old) (held new) words result
  pub cause : HasWriteCause (faults old) (faults new) result
  pub room : sure new ≡ sure old
