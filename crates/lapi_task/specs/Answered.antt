-- What is answered to the headers of active messages, and what an answer says of the landing.
use Rattle.std.specs.Prelude.{◌≡◌, ℕ, Bool, false, List, [], slice_get, Option, None, Some, is_some, option_map}
use Rattle.lapi_base.specs.declared.handler.HeaderIn.{HeaderIn}
use Rattle.lapi_base.specs.declared.handler.HeaderOut.{HeaderOut}
use Rattle.lapi_base.specs.declared.head.Head.{Head}
use Rattle.lapi_base.specs.declared.head.Head.TheVariants as heads
use Rattle.lapi_base.specs.declared.message.MsgName.{MsgName}
use Rattle.lapi_base.specs.declared.rule.Rules.{Rules}
use Rattle.lapi_base.specs.declared.span.Span.{Span}
use Rattle.lapi_base.specs.Record.HeadSays.{announces}
use Rattle.lapi_base.specs.Record.Handlers.{header_answer, header_rule, kept_place, kept_choice}
use Rattle.lapi_reassembly.specs.Partial.{Gathered}
use Rattle.lapi_reassembly.specs.Partials.{partial}
use Rattle.lapi_link.specs.Receiver.{ReceivingEnd, answer_of}
use Rattle.lapi_jobs.specs.declared.pending.Pending.{Pending}

-- what the header handler answers to a message with this head and so many bytes, where it is an active message
abbrev pub answer_to : Rules → MsgName → Head → (length : ℕ) → Option HeaderOut
answer_to rules m (heads.Am handler tgt cmpl header) len =
    let given : HeaderIn = record { origin = m.origin; header = header; length = len } in
    Some (header_answer (header_rule rules handler) given)
answer_to rules m _ len = None

abbrev pub answer_for : Rules → Option Gathered → Option HeaderOut
answer_for rules None = None
answer_for rules (Some g) = answer_to rules g.name g.head g.length

-- for each message that is there in part, an end keeps what was answered to it, and nothing else
abbrev pub KeepsAnswers : Rules → ReceivingEnd → Type 0
KeepsAnswers rules s = (m : MsgName) → answer_of s m ≡ answer_for rules (partial s.partials m)

-- the completion handler that an answer names, of so many, if it names one
abbrev pub completion_in : (count : ℕ) → Option HeaderOut → Option ℕ
completion_in count None = None
completion_in count (Some out) = kept_choice count out.completion

abbrev pub completes_in : (count : ℕ) → Option HeaderOut → Bool
completes_in count out = is_some (completion_in count out)

-- where so many bytes are kept by the answer: nowhere, where they are discarded
abbrev pub kept_pieces : (memory length : ℕ) → Option HeaderOut → List Span
kept_pieces memory len None = []
kept_pieces memory len (Some out) = kept_place memory len out.place

abbrev pub user_in : Option HeaderOut → ℕ
user_in None = 0
user_in (Some out) = out.user

-- the counter at the origin that a notice of the message names
abbrev pub completion_counter : Head → Option ℕ
completion_counter (heads.Am handler tgt cmpl header) = cmpl
completion_counter _ = None

-- the job of a completion handler after a message with so many bytes
abbrev pub job_with : (memory : ℕ) → MsgName → Head → (length : ℕ) → Option HeaderOut → (completion : ℕ) → Pending
job_with memory m head len out completion = record {
  name = m;
  completion = completion;
  user = user_in out;
  buffer = slice_get (kept_pieces memory len out) 0;
  target_counter = announces head false;
  completion_counter = completion_counter head;
}

-- if the answer names one
abbrev pub job_in : (memory count : ℕ) → MsgName → Head → (length : ℕ) → Option HeaderOut → Option Pending
job_in memory count m head len out = option_map (job_with memory m head len out) (completion_in count out)
