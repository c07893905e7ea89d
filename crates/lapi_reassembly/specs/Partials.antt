-- What the partial messages of a link stand for: what has come of each message, by the messages' names.
use Rattle.std.specs.Prelude.{◌≡◌, ℕ, ◌<◌, ◌≤◌, Bool, true, cond, List, [], ◌∷◌, length, Option, Some, None, is_some, IfSome, unwrap_or}
use Rattle.std.specs.List.{AllByRecursion, IsDistinct}
use Rattle.slab.specs.Slab.{Slab, get}
use Rattle.lapi_base.specs.declared.message.MsgName.{MsgName}
use Rattle.lapi_base.specs.declared.head.Head.{Head}
use Rattle.lapi_base.specs.Record.Names.{name_eq}
use Rattle.lapi_reassembly.specs.Partial.{Gathered, IsUnit, nothing_of, fragment, with_fragment, is_whole, message}
use Rattle.lapi_reassembly.specs.declared.message.Message.{Message}
use Rattle.lapi_reassembly.specs.declared.put.Put.{Put}
use Rattle.lapi_reassembly.specs.declared.put.Put.TheVariants.{First, More, Whole, FirstWhole}

-- how many messages there may be, the payload of each fragment but the last, and what has come
pub record Gathering : Type 0 where
  pub names : ℕ
  pub unit : ℕ
  pub partials : List Gathered

unfoldable pub found : MsgName → List Gathered → Option Gathered
found name [] = None
found name (g ∷ rest) = cond (name_eq g.name name) (Some g) (found name rest)

-- what has come of the message of this name
abbrev pub partial : Gathering → MsgName → Option Gathered
partial s name = found name s.partials

abbrev pub is_there : Gathering → MsgName → Bool
is_there s name = is_some (partial s name)

-- fewer different names are there than may be
abbrev pub HasRoom : Gathering → Type 0
HasRoom s = (ms : List MsgName) → IsDistinct name_eq ms → AllByRecursion (λ m. is_there s m ≡ true) ms → length ms < s.names

-- head and length are those of what has come under this name
abbrev pub Agrees : Gathering → MsgName → Head → (length : ℕ) → Type 0
Agrees s name head len = IfSome (partial s name) (λ g. (g.head ≡ head) × (g.length ≡ len))

-- this fragment has not come
abbrev pub IsMissing : Gathering → MsgName → ℕ → Type 0
IsMissing s name j = IfSome (partial s name) (λ g. fragment g j ≡ None)

-- what has come of a message, with this fragment
abbrev pub gathered : Gathering → MsgName → Head → (length j : ℕ) → List ℕ → Gathered
gathered s name head len j payload = with_fragment (unwrap_or (partial s name) (nothing_of s.unit name head len)) j payload

-- the answer, where the name was there or not, and this much has come now
abbrev pub put_of : (there : Bool) → Gathered → Put
put_of there g = cond (is_whole g) (cond there (Whole (message g)) (FirstWhole (message g))) (cond there More First)

-- the message that came whole, if one did
abbrev pub whole_of : Put → Option Message
whole_of First = None
whole_of More = None
whole_of (Whole m) = Some m
whole_of (FirstWhole m) = Some m

-- what is kept of it: nothing of a whole message
abbrev pub kept_of : Gathered → Option Gathered
kept_of g = cond (is_whole g) None (Some g)

abbrev pub NamesDiffer : Slab Gathered → Type 0
NamesDiffer slots = (k l : ℕ) (g h : Gathered) → get slots k ≡ Some g → get slots l ≡ Some h → g.name ≡ h.name → k ≡ l

-- The slab has room for as many messages as there may be, each under one key.
pub record IsGathering (most size : ℕ) (slots : Slab Gathered) : Type 0 where
  pub unit : IsUnit size
  pub room : most ≤ slots.capacity
  pub units : (key : ℕ) (g : Gathered) → get slots key ≡ Some g → g.unit ≡ size
  pub names_differ : NamesDiffer slots
