-- What a reader of the code answers.
use Rattle.std.specs.Prelude.{◌≡◌, ℕ, List, Result, Ok, Err}
use Rattle.std.specs.Borrow.{Bor}
use Rattle.lapi_base.specs.declared.reply.Reason.{Reason}
use Rattle.lapi_base.specs.Packet.Format.{Format, reading}
use Rattle.lapi_packet.specs.declared.fault.Fault.{Fault}

-- seen by view, it is what reading a form gives
abbrev pub ReaderGives : {X Y : Type 0} → (X → Y) → Result X Fault → Result Y (ℕ × Reason) → Type 0
ReaderGives view (Ok x) reading = reading ≡ Ok (view x)
ReaderGives view (Err fault) reading = reading ≡ Err (fault.left, fault.reason)

-- the value that a form has at the front of bytes and the bytes behind it, or the fault there
abbrev pub Reads : {A : Type 0} → Format A → List ℕ → Result (A × Bor (List ℕ)) Fault → Type 0
Reads form bytes result = ReaderGives (λ x. (x.0, x.1.now)) result (reading form bytes)
