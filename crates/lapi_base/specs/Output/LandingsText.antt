-- What is told of a capture: a line for each landing and the counts, or its first fault. This is the project's own.
use Rattle.std.specs.Prelude.{ℕ, List, ◌++◌, codes}
use Rattle.std.specs.Fmt.{decimal}
use Rattle.lapi_base.specs.declared.message.MsgName.{MsgName}
use Rattle.lapi_base.specs.Output.TextParts.{message_text}

-- land O.S LEG at T frame F
abbrev pub landing_line : MsgName → (task frame : ℕ) → List ℕ
landing_line m t f = codes "land " ++ message_text m ++ codes " at " ++ decimal t ++ codes " frame " ++ decimal f ++ codes "\n"

-- frames N landings M
abbrev pub landing_counts : (frames landings : ℕ) → List ℕ
landing_counts n m = codes "frames " ++ decimal n ++ codes " landings " ++ decimal m ++ codes "\n"

-- bad P N NAME
abbrev pub flaw_line : (place number : ℕ) (name : List ℕ) → List ℕ
flaw_line place number name = codes "bad " ++ decimal place ++ codes " " ++ decimal number ++ codes " " ++ name ++ codes "\n"

-- limit frames P
abbrev pub frames_limit_line : (place : ℕ) → List ℕ
frames_limit_line place = codes "limit frames " ++ decimal place ++ codes "\n"
