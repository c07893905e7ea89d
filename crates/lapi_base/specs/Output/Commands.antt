-- The words of a command, and what they ask for. This is the project's own.
use Rattle.std.specs.Prelude.{ℕ, Bool, false, nat_le, if◌then◌else◌, List, [], ◌∷◌, length, codes, Option, Some, None, option_map, option_and_then}
use Rattle.lapi_base.specs.declared.command.View.{View}
use Rattle.lapi_base.specs.declared.command.View.TheVariants.{Report, Journal, Wires, Trace, Capture}
use Rattle.lapi_base.specs.declared.command.Command.{Command}
use Rattle.lapi_base.specs.declared.command.Command.TheVariants as commands
use Rattle.lapi_base.specs.Input.Tokens.{same_text, hex_of, number_of}

-- the most bytes that are shown
abbrev pub most_shown : ℕ
most_shown = 1280

abbrev pub few_bytes : List ℕ → Option (List ℕ)
few_bytes bytes = if nat_le (length bytes) most_shown then Some bytes else None

-- the bytes that a word spells, one of 2 to 2,560 digits, an even number of them
abbrev pub shown_of : List ℕ → Option (List ℕ)
shown_of word = option_and_then few_bytes (hex_of word)

abbrev pub view_of : List ℕ → Option View
view_of word =
    if same_text word (codes "run") then Some Report
    else if same_text word (codes "journal") then Some Journal
    else if same_text word (codes "wire") then Some Wires
    else if same_text word (codes "trace") then Some Trace
    else if same_text word (codes "capture") then Some Capture
    else None

abbrev pub read_of : List ℕ → Option Command
read_of word =
    if same_text word (codes "check") then Some commands.Check
    else if same_text word (codes "audit") then Some commands.Audit
    else if same_text word (codes "landings") then Some commands.Landings
    else if same_text word (codes "array") then Some commands.Array
    else option_map (λ view. commands.Read view) (view_of word)

-- a packet's bytes, or a number as an input has it
abbrev pub with_argument : (word argument : List ℕ) → Option Command
with_argument word argument =
    if same_text word (codes "show") then option_map (λ bytes. commands.Show bytes) (shown_of argument)
    else if same_text word (codes "gen") then option_map (λ n. commands.Gen n) (number_of argument)
    else if same_text word (codes "sum") then option_map (λ n. commands.Sum n) (number_of argument)
    else None

unfoldable pub command_of : List (List ℕ) → Option Command
command_of [] = None
command_of (word ∷ []) = read_of word
command_of (word ∷ argument ∷ []) = with_argument word argument
command_of (word ∷ argument ∷ more ∷ words) = None

-- the one command whose lanes run on threads
unfoldable pub is_live : List (List ℕ) → Bool
is_live [] = false
is_live (word ∷ []) = same_text word (codes "live")
is_live (word ∷ argument ∷ words) = false
