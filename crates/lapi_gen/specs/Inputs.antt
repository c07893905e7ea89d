-- The generated input. This is the project's own.
use Rattle.std.specs.Prelude.{ℕ}
use Rattle.lapi_base.specs.declared.input.Input.{Input}
use Rattle.lapi_gen.specs.Scripts.{script_of}
use Rattle.lapi_gen.specs.Schedules.{schedule_of}

abbrev pub generated_input : (number : ℕ) → Input
generated_input number = record { script = script_of number; schedule = schedule_of number }
