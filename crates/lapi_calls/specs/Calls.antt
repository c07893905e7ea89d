-- A statement as a call of one task, which knows its limits and some addresses: what it is of a script and of a
-- record, and when its message can be sent.
use Rattle.std.specs.Prelude.{◌≡◌, ℕ, ◌^◌, ◌<◌, ◌≤◌, true, Bool, List, length, map, unwrap_or}
use Rattle.std.specs.List.{AllByRecursion}
use Rattle.lapi_base.specs.declared.piece.Piece.{Piece}
use Rattle.lapi_base.specs.declared.span.Span.{Span}
use Rattle.lapi_base.specs.declared.statement.Statement.{Statement}
use Rattle.lapi_base.specs.declared.script.Script.{Script}
use Rattle.lapi_base.specs.declared.event.Event.{Event}
use Rattle.lapi_base.specs.declared.message.Leg.TheVariants.{Go}
use Rattle.lapi_base.specs.Record.Handlers.{user_header}
use Rattle.lapi_base.specs.Record.Operations.{statement, spans, target_of, target_pieces, length_by}
use Rattle.lapi_base.specs.Record.Refusals.{round_passed}
use Rattle.lapi_calls.specs.declared.limits.Limits.{Limits}
use Rattle.lapi_calls.specs.Limits.{AreU32}
use Rattle.lapi_calls.specs.Entries.{is_told, address_by, AreGiven}

-- the task at which the call of a task works
abbrev pub peer_of : (task : ℕ) → Statement → ℕ
peer_of a s = unwrap_or (target_of s) a

-- the call is statement i of the task, in a script whose tasks gave what is known
pub record IsCall (script : Script) (known : ℕ → Bool) (given : ℕ → ℕ → ℕ) (a i : ℕ) (s : Statement) : Type 0 where
  pub is_statement : s ≡ statement script a i
  pub are_given : AreGiven script known given

-- what is known are the address rounds that the task has passed
abbrev pub KnowsPassed : Script → List Event → (task : ℕ) → (known : ℕ → Bool) → Type 0
KnowsPassed script J a known = (round : ℕ) → known round ≡ round_passed script J a round

-- each address is known
abbrev pub AreTold : (known : ℕ → Bool) → List Piece → Type 0
AreTold known pieces = AllByRecursion (λ p. is_told known p.at ≡ true) pieces

-- where the pieces lie at task d, by what each task gave
abbrev pub spans_by : (given : ℕ → ℕ → ℕ) → (d : ℕ) → List Piece → List Span
spans_by given d pieces = map (λ p. record { at = address_by given d p.at; len = p.len }) pieces

-- they lie where the script's addresses are, where each address is known
abbrev pub AreSpans : (known : ℕ → Bool) → (given : ℕ → ℕ → ℕ) → (d : ℕ) → List Piece → List Span → Type 0
AreSpans known given d pieces found = (script : Script) → AreGiven script known given → AreTold known pieces → found ≡ spans script d pieces

-- a message to task d has room in packets: its addresses are known and of 32 bits, and so is its length
pub record HasRoom (known : ℕ → Bool) (given : ℕ → ℕ → ℕ) (d : ℕ) (s : Statement) : Type 0 where
  pub told : AreTold known (target_pieces s)
  pub places : AllByRecursion (λ p. address_by given d p.at < 2 ^ 32) (target_pieces s)
  pub short : length_by Go s < 2 ^ 32
  pub header : length (user_header s) ≤ 64

-- the call of a task can be sent
abbrev pub IsSendable : (known : ℕ → Bool) → (given : ℕ → ℕ → ℕ) → (task : ℕ) → Statement → Type 0
IsSendable known given a s = HasRoom known given (peer_of a s) s

-- also where this rests on its limits being numbers of 32 bits
abbrev pub MaySend : Limits → (known : ℕ → Bool) → (given : ℕ → ℕ → ℕ) → (task : ℕ) → Statement → Type 0
MaySend limits known given a s = AreU32 limits → IsSendable known given a s
