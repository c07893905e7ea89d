-- The lines of events as they are read, word by word. This is the project's own.
use Rattle.std.specs.Prelude.{ℕ, ◌==◌, ◌&&◌, if◌then◌else◌, List, [], ◌∷◌, codes, Option, Some, None, option_map}
use Rattle.lapi_base.specs.declared.refusal.Refusal.{Refusal}
use Rattle.lapi_base.specs.declared.refusal.Refusal.TheVariants.{BadTask, BadTargetRange, BadOriginRange, BadCounter, TooLong, NoTable, BadHandler, BadUserHeader, VecCount, VecLength, StrideBelowBlock, Misaligned}
use Rattle.lapi_base.specs.declared.message.Leg.{Leg}
use Rattle.lapi_base.specs.declared.message.Leg.TheVariants.{Go}
use Rattle.lapi_base.specs.declared.message.MsgName.{MsgName}
use Rattle.lapi_base.specs.declared.event.Event.{Event}
use Rattle.lapi_base.specs.declared.event.Event.TheVariants.{Issue, Refuse, Enter, Pass, Copy, Head, Land, Begin, End}
use Rattle.lapi_base.specs.Record.Names.{message}
use Rattle.lapi_base.specs.Input.Tokens.{Dotted, LegWord, same_text}
use Rattle.lapi_base.specs.Input.Forms.{Form, End as Ended, Wrong, Next, Take, choose, ◌>>=◌, number, word}
use Rattle.lapi_base.specs.Output.TextParts.{refusal_number, refusal_name}

abbrev pub dotted : Form (ℕ × ℕ)
dotted = Take Dotted (λ x. Ended x)

abbrev pub leg : Form Leg
leg = Take LegWord (λ l. Ended l)

-- the value, if there is one
abbrev pub given : {A : Type 0} → Option A → Form A
given None = Wrong
given (Some x) = Ended x

abbrev pub refusals : List Refusal
refusals =
    BadTask ∷ BadTargetRange ∷ BadOriginRange ∷ BadCounter ∷ TooLong ∷ NoTable
    ∷ BadHandler ∷ BadUserHeader ∷ VecCount ∷ VecLength ∷ StrideBelowBlock ∷ Misaligned ∷ []

-- the one of these that has this number and this name
abbrev pub refusal_among : List Refusal → ℕ → List ℕ → Option Refusal
refusal_among [] n name = None
refusal_among (why ∷ others) n name = if n == refusal_number why && same_text name (refusal_name why) then Some why else refusal_among others n name

-- what happens with a statement
unfoldable pub statement_event_form : (ℕ → ℕ → Event) → Form Event
statement_event_form event = do
  at ← dotted
  Ended (event at.0 at.1)

unfoldable pub refuse_form : Form Event
refuse_form = do
  at ← dotted
  n ← number
  name ← word
  given (option_map (λ why. Refuse at.0 at.1 why) (refusal_among refusals n name))

-- what happens with a message
unfoldable pub message_event_form : (MsgName → Event) → Form Event
message_event_form event = do
  at ← dotted
  l ← leg
  Ended (event (message at.0 at.1 l))

-- what happens with a request, of which no leg is told
unfoldable pub request_event_form : (MsgName → Event) → Form Event
request_event_form event = do
  at ← dotted
  Ended (event (message at.0 at.1 Go))

-- and at a worker
unfoldable pub job_event_form : (MsgName → ℕ → ℕ → Event) → Form Event
job_event_form event = do
  at ← dotted
  place ← dotted
  Ended (event (message at.0 at.1 Go) place.0 place.1)

abbrev pub events : List (List ℕ × Form Event)
events =
    (codes "issue", statement_event_form (λ t s. Issue t s))
    ∷ (codes "refuse", refuse_form)
    ∷ (codes "enter", statement_event_form (λ t s. Enter t s))
    ∷ (codes "pass", statement_event_form (λ t s. Pass t s))
    ∷ (codes "copy", message_event_form (λ m. Copy m))
    ∷ (codes "head", request_event_form (λ m. Head m))
    ∷ (codes "land", message_event_form (λ m. Land m))
    ∷ (codes "begin", job_event_form (λ m t w. Begin m t w))
    ∷ (codes "end", job_event_form (λ m t w. End m t w))
    ∷ []

abbrev pub event_form : List ℕ → Form Event
event_form word = choose events word

abbrev pub event_line_form : Form Event
event_line_form = Next event_form
