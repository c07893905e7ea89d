-- What a reader returned, beside what reading gives.
use Rattle.std.specs.Prelude.{◌≡◌, Result, Ok, Err}
use Rattle.lapi_base.specs.declared.input.LineError.{LineError}
use Rattle.lapi_script.specs.declared.fault.LineFault.{LineFault}
use Rattle.lapi_script.specs.declared.fault.LineFault.TheVariants.{Memory, Wrong}

-- Reading has this fault, unless memory ran out.
abbrev pub Fails : {Y : Type 0} → LineFault → Result Y LineError → Type 0
Fails Memory read = Unit {0}
Fails (Wrong why) read = read ≡ Err why

-- Seen by view, it is what reading gives.
abbrev pub Gives : {X Y : Type 0} → (X → Y) → Result X LineFault → Result Y LineError → Type 0
Gives view (Ok x) read = read ≡ Ok (view x)
Gives view (Err fault) read = Fails fault read
