-- What header and completion handlers answer, by their rules, and what follows for an active message: its
-- buffer, whether it has a completion, and the effect. That a header handler names buffer, completion handler and
-- user value follows the RSCT LAPI Programming Guide, SA22-7936, in outline; the rules are this project's own.
use Rattle.std.specs.Prelude.{ℕ, ◌+◌, ◌*◌, ◌%◌, ◌/◌, ◌^◌, ◌==◌, nat_le, nat_lt, Bool, true, false, cond, ◌&&◌, List, [], ◌∷◌, length, take, drop, reverse, slice_index_or, Option, Some, None, unwrap_or, is_some}
use Rattle.std.specs.List.{sum, fold}
use Rattle.lapi_base.specs.declared.span.Span.{Span}
use Rattle.lapi_base.specs.declared.statement.Statement.{Statement}
use Rattle.lapi_base.specs.declared.statement.Statement.TheVariants.{Am}
use Rattle.lapi_base.specs.declared.script.Script.{Script}
use Rattle.lapi_base.specs.declared.message.Leg.TheVariants.{Go}
use Rattle.lapi_base.specs.declared.message.MsgName.{MsgName}
use Rattle.lapi_base.specs.declared.rule.Rules.{Rules}
use Rattle.lapi_base.specs.declared.rule.HeaderRule.{HeaderRule}
use Rattle.lapi_base.specs.declared.rule.CompletionRule.{CompletionRule}
use Rattle.lapi_base.specs.declared.rule.CompletionRule.TheVariants.{Nothing, Sum, Same, Reversed, Answer}
use Rattle.lapi_base.specs.declared.rule.Place.{Place}
use Rattle.lapi_base.specs.declared.rule.Place.TheVariants.{PerOrigin, Fixed, Nowhere}
use Rattle.lapi_base.specs.declared.rule.Choice.{Choice}
use Rattle.lapi_base.specs.declared.rule.Choice.TheVariants.{Never, Always}
use Rattle.lapi_base.specs.declared.handler.HeaderIn.{HeaderIn}
use Rattle.lapi_base.specs.declared.handler.HeaderOut.{HeaderOut}
use Rattle.lapi_base.specs.declared.handler.Effect.{Effect}
use Rattle.lapi_base.specs.declared.handler.Effect.TheVariants as effects
use Rattle.lapi_base.specs.Packet.Layout.{may_answer}
use Rattle.lapi_base.specs.Record.Operations.{statement, is_am, message_length}

-- Words are four bytes, the highest first.
unfoldable pub number_of : List ℕ → ℕ
number_of bytes = fold (λ n b. 256 * n + b) 0 bytes

unfoldable pub word_bytes : ℕ → List ℕ
word_bytes n = n / 2 ^ 24 % 256 ∷ n / 2 ^ 16 % 256 ∷ n / 2 ^ 8 % 256 ∷ n % 256 ∷ []

unfoldable pub header_word : List ℕ → ℕ → Option ℕ
header_word header i = cond (nat_le (4 * i + 4) (length header)) (Some (number_of (take 4 (drop (4 * i) header)))) None

abbrev pub place_by : Place → (origin : ℕ) → (header : List ℕ) → Option ℕ
place_by Place.Word origin header = header_word header 0
place_by (PerOrigin base step) origin header = Some (base + origin * step)
place_by (Fixed at) origin header = Some at
place_by Nowhere origin header = None

abbrev pub choice_by : Choice → (header : List ℕ) → Option ℕ
choice_by Never header = None
choice_by (Always n) header = Some n
choice_by Choice.Word header = header_word header 2

abbrev pub user_by : (header : List ℕ) → ℕ
user_by header = unwrap_or (header_word header 1) 0

-- what a header handler answers, by its rule
abbrev pub header_answer : HeaderRule → HeaderIn → HeaderOut
header_answer rule given =
    record {
      place = place_by rule.place given.origin given.header;
      completion = choice_by rule.choice given.header;
      user = user_by given.header;
    }

-- what a completion handler answers, by its rule, for a user value and a buffer
abbrev pub completion_answer : CompletionRule → (user : ℕ) → (buffer : List ℕ) → Effect
completion_answer Nothing at bytes = effects.Nothing
completion_answer Sum at bytes = effects.Word at (sum bytes % 2 ^ 32)
completion_answer Same at bytes = effects.Same at
completion_answer Reversed at bytes = effects.Reversed at
completion_answer Answer at bytes = effects.Answer at (sum bytes % 2 ^ 32)

-- the rules by the handlers' numbers
abbrev pub no_rule : HeaderRule
no_rule = record { place = Nowhere; choice = Never }

abbrev pub header_rule : Rules → ℕ → HeaderRule
header_rule rules n = slice_index_or rules.headers n no_rule

abbrev pub completion_rule : Rules → ℕ → CompletionRule
completion_rule rules n = slice_index_or rules.completions n Nothing

-- The answers for an active message.
abbrev pub handler_of : Statement → ℕ
handler_of (Am target handler header from len tgt org cmpl) = handler
handler_of _ = 0

abbrev pub user_header : Statement → List ℕ
user_header (Am target handler header from len tgt org cmpl) = header
user_header _ = []

abbrev pub rule_of : Rules → Statement → HeaderRule
rule_of rules s = header_rule rules (handler_of s)

-- what its header handler is given, and answers
abbrev pub header_in : Script → MsgName → HeaderIn
header_in script m = record { origin = m.origin; header = user_header (statement script m.origin m.statement); length = message_length script m }

abbrev pub header_out : Script → Rules → MsgName → HeaderOut
header_out script rules m = header_answer (rule_of rules (statement script m.origin m.statement)) (header_in script m)

abbrev pub kept_place : (memory length : ℕ) → Option ℕ → List Span
kept_place memory len None = []
kept_place memory len (Some at) = cond (nat_le (at + len) memory) (record { at = at; len = len } ∷ []) []

-- the buffer: no piece where the data are discarded
unfoldable pub buffer : Script → Rules → MsgName → List Span
buffer script rules m = kept_place script.memory (message_length script m) (header_out script rules m).place

abbrev pub kept_choice : (completions : ℕ) → Option ℕ → Option ℕ
kept_choice count None = None
kept_choice count (Some n) = cond (nat_lt n count) (Some n) None

-- the completion handler that the header handler names
unfoldable pub completion : Script → Rules → MsgName → Option ℕ
completion script rules m = kept_choice (length rules.completions) (header_out script rules m).completion

unfoldable pub user : Script → MsgName → ℕ
user script m = user_by (user_header (statement script m.origin m.statement))

-- operation a.i has an active message with a completion
unfoldable pub has_completion : Script → Rules → ℕ → ℕ → Bool
has_completion script rules a i = is_am (statement script a i) && is_some (completion script rules (record { origin = a; statement = i; leg = Go }))

-- What an effect writes, with the buffer of its completion handler: a place and bytes.
abbrev pub written : Effect → (buffer : List ℕ) → List (ℕ × List ℕ)
written effects.Nothing bytes = []
written (effects.Word at value) bytes = (at, word_bytes value) ∷ []
written (effects.Same at) bytes = (at, bytes) ∷ []
written (effects.Reversed at) bytes = (at, reverse bytes) ∷ []
written (effects.Answer at value) bytes = []

-- what a completion handler writes, by its rule
abbrev pub effect : CompletionRule → (user : ℕ) → (buffer : List ℕ) → List (ℕ × List ℕ)
effect rule at bytes = written (completion_answer rule at bytes) bytes

-- the completion rule of an active message
unfoldable pub rule_named : Script → Rules → MsgName → CompletionRule
rule_named script rules m = completion_rule rules (unwrap_or (completion script rules m) 0)

unfoldable pub effect_of : Script → Rules → MsgName → List ℕ → List (ℕ × List ℕ)
effect_of script rules m bytes = effect (rule_named script rules m) (user script m) bytes

-- Operation a.i answers: its completion handler has a word for the origin, and there is a place for it.
abbrev pub is_answer : CompletionRule → Bool
is_answer Answer = true
is_answer _ = false

unfoldable pub answers : Script → Rules → ℕ → ℕ → Bool
answers script rules a i =
    let m : MsgName = record { origin = a; statement = i; leg = Go } in
    may_answer script && has_completion script rules a i && is_answer (rule_named script rules m) && (user script m % 4 == 0 && nat_le (user script m + 4) script.memory)

-- the bytes of that word, and where they go
abbrev pub sent_back : Effect → List ℕ
sent_back (effects.Answer at value) = word_bytes value
sent_back _ = []

unfoldable pub answer_of : Script → Rules → MsgName → List ℕ → List ℕ
answer_of script rules m bytes = sent_back (completion_answer (rule_named script rules m) (user script m) bytes)

abbrev pub answer_pieces : Script → MsgName → List Span
answer_pieces script m = record { at = user script m; len = 4 } ∷ []
