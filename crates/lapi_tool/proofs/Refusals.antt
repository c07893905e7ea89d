-- What is told of a fault is the answer to the input that has it.
use Rattle.std.proofs.Common.{◌≡◌, ℕ, ◌+◌, List, [], ◌∷◌, ◌++◌, arith, Option, Err, Result, refl, sym, subst, ap, inl, inr, ◌∙◌}
use Rattle.std.specs.Prelude.{length, nat_lt, if◌then◌else◌}
use Rattle.std.specs.Io.KnownBytes.{Appends}
use Rattle.lapi_base.specs.declared.input.ReadFault.{ReadFault}
use Rattle.lapi_base.specs.declared.input.ReadFault.TheVariants as faults
use Rattle.lapi_base.specs.declared.status.Status.{Status}
use Rattle.lapi_base.specs.declared.status.Status.TheVariants as status
use Rattle.lapi_base.specs.Output.CommandAnswers.{Answer, fault_answer}
use Rattle.lapi_base.specs.Input.Lines.{lines_of}
use Rattle.lapi_base.specs.Input.Reading.{Fault, First, most_input, read, read_from}
use Rattle.lapi_base.specs.declared.input.LineError.TheVariants as why
use Rattle.lapi_base.specs.declared.input.Which.TheVariants as which
use Rattle.lapi_array.specs.PlanReading.{read_plan, read_plan_from}
use Rattle.lapi_array.specs.PlanReading as plans
use Rattle.lapi_script.specs.ReaderAnswers.{GivesText}
use Rattle.lapi_tool.specs.Answered.{refused_answer}
use Rattle.lapi_tool.specs.Outcomes.{IsCutShort, CommandGives}

-- where memory ran out nothing was written, which is a front of any text
cut_short : (answer : Answer) (held now : Option (List ℕ)) (result : Status) → CommandGives (record { status = status.Memory; text = [] }) held now result → CommandGives answer held now result
cut_short answer held now result (inl told) = inr (subst IsCutShort (sym told.0) tt, ([], answer.text, refl, told.1))
cut_short answer held now result (inr (cut, wrote)) = inr (cut, ([], answer.text, refl, subst (λ xs. Appends held now xs) (empty wrote.0 wrote.1 wrote.2) wrote.3))
  where
    empty : (front rest : List ℕ) → [] ≡ front ++ rest → front ≡ []
    empty [] rest e = refl
    empty (b ∷ front) rest e = absurd (omega (arith, ap length e))

-- of what was read, where each fault is told as such
pub refused_is : {T : Type 0} (answer : Result T Fault → Answer) → ((fault : Fault) → answer (Err fault) ≡ fault_answer fault)
    → (fault : ReadFault) (reading : Result T Fault) (held now : Option (List ℕ)) (result : Status)
    → GivesText (Err fault) reading → CommandGives (refused_answer fault) held now result → CommandGives (answer reading) held now result
refused_is answer same (faults.Syntax line) reading held now result e told = subst (λ a. CommandGives a held now result) (sym (ap answer e ∙ same (why.Syntax, line))) told
refused_is answer same (faults.Limit which line) reading held now result e told = subst (λ a. CommandGives a held now result) (sym (ap answer e ∙ same (why.Limit which, line))) told
refused_is answer same faults.Memory reading held now result e told = cut_short (answer reading) held now result told

-- one byte more than an input may have
pub too_long : (bytes : List ℕ) → length bytes ≡ most_input + 1 → read bytes ≡ Err (why.Limit which.Input, 0)
too_long bytes e = ap (λ n. if nat_lt most_input n then Err (why.Limit which.Input, 0) else read_from 1 First (lines_of bytes)) e

pub plan-too-long : (bytes : List ℕ) → length bytes ≡ most_input + 1 → read_plan bytes ≡ Err (why.Limit which.Input, 0)
plan-too-long bytes e = ap (λ n. if nat_lt most_input n then Err (why.Limit which.Input, 0) else read_plan_from 1 plans.First (lines_of bytes)) e
