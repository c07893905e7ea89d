-- What a partial message stands for: the fragments that have come of one message.
use Rattle.std.specs.Prelude.{◌≡◌, ◌⊎◌, ℕ, ◌*◌, ◌≤◌, Bool, ◌==◌, cond, List, [], map, length, replicate, slice_index_or, slice_set, Option, Some, None, is_some, unwrap_or}
use Rattle.std.specs.Int.{bit_at}
use Rattle.std.specs.List.{range_with_len, list_all, flat_map}
use Rattle.lapi_base.specs.declared.message.MsgName.{MsgName}
use Rattle.lapi_base.specs.declared.head.Head.{Head}
use Rattle.lapi_base.specs.declared.handler.HeaderOut.{HeaderOut}
use Rattle.lapi_base.specs.Record.Fragments.{fragments_in, fragment_bytes}
use Rattle.lapi_reassembly.specs.declared.message.Message.{Message}

-- a message's name, head and length, the payload of each fragment but the last, the payloads that have come, by
-- the fragments' numbers, and the answer that is kept for its header
pub record Gathered : Type 0 where
  pub name : MsgName
  pub head : Head
  pub unit : ℕ
  pub length : ℕ
  pub fragments : List (Option (List ℕ))
  pub out : Option HeaderOut

-- a message of which no fragment has come
abbrev pub nothing_of : (unit : ℕ) → MsgName → Head → (length : ℕ) → Gathered
nothing_of unit name head len = record { name = name; head = head; unit = unit; length = len; fragments = replicate (fragments_in unit len) None; out = None }

abbrev pub fragment : Gathered → ℕ → Option (List ℕ)
fragment g j = slice_index_or g.fragments j None

abbrev pub with_fragment : Gathered → ℕ → List ℕ → Gathered
with_fragment g j payload = record g { fragments = slice_set g.fragments j (Some payload) }

abbrev pub is_whole : Gathered → Bool
is_whole g = list_all is_some g.fragments

-- the payloads in the order of the fragments' numbers
abbrev pub joined : Gathered → List ℕ
joined g = flat_map (λ payload. unwrap_or payload []) g.fragments

abbrev pub message : Gathered → Message
message g = record { name = g.name; head = g.head; bytes = joined g; out = g.out }

-- the message has this name, this head and so many bytes
pub record IsMessageOf (this_name : MsgName) (this_head : Head) (count : ℕ) (m : Message) : Type 0 where
  pub name : m.name ≡ this_name
  pub head : m.head ≡ this_head
  pub bytes : length m.bytes ≡ count

-- The fields: bit j tells whether fragment j has come, and then its payload stands at its place.
unfoldable pub fragments_of : (unit received : ℕ) → List ℕ → List (Option (List ℕ))
fragments_of unit received bytes =
    map (λ j. cond (bit_at received j == 1) (Some (fragment_bytes unit j bytes)) None) (range_with_len 0 (fragments_in unit (length bytes)))

-- fragments are of 256 or 1024 bytes
abbrev pub IsUnit : ℕ → Type 0
IsUnit unit = (unit ≡ 256) ⊎ (unit ≡ 1024)

-- a word has a bit for each fragment
pub record IsPartial (size len : ℕ) : Type 0 where
  pub unit : IsUnit size
  pub length : len ≤ 64 * size
