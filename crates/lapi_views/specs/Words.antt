-- The words of the command, and what they ask for.
use Rattle.std.specs.Prelude.{ℕ, ◌+◌, nat_lt, nat_le, min, ◌&&◌, if◌then◌else◌, List, [], ◌∷◌, codes, Option, Some, None, option_and_then}
use Rattle.lapi_base.specs.Input.Tokens.{number_of, same_text}
use Rattle.lapi_views.specs.declared.asked.Asked.{Asked}
use Rattle.lapi_views.specs.declared.asked.Asked.TheVariants.{Packets, Chart}

-- the most lines on one chart
abbrev pub most_charted : ℕ
most_charted = 200

-- from one line on until before another, where that is some lines and few
abbrev pub few_lines : (from until : ℕ) → Option Asked
few_lines from until = if nat_lt from until && nat_le until (from + most_charted) then Some (Chart (record { from = from; until = until })) else None

-- as many lines as there may be, as far as a number of 32 bits tells
abbrev pub end_after : (from : ℕ) → ℕ
end_after from = min (from + most_charted) 4294967295

abbrev pub from_on : List ℕ → Option Asked
from_on word = option_and_then (λ from. few_lines from (end_after from)) (number_of word)

abbrev pub up_to : List ℕ → Option Asked
up_to word = option_and_then (λ until. few_lines 0 until) (number_of word)

abbrev pub between : (first last : List ℕ) → Option Asked
between first last = option_and_then (λ from. option_and_then (λ until. few_lines from until) (number_of last)) (number_of first)

-- pcap, or chart
abbrev pub by_one : List ℕ → Option Asked
by_one word =
    if same_text word (codes "pcap") then Some Packets
    else if same_text word (codes "chart") then few_lines 0 most_charted
    else None

-- chart --from N, or chart --to N
abbrev pub by_three : (word option number : List ℕ) → Option Asked
by_three word option number =
    if same_text word (codes "chart") then
    if same_text option (codes "--from") then from_on number
    else if same_text option (codes "--to") then up_to number
    else None
    else None

-- chart --from N --to N
abbrev pub by_five : (word from first to last : List ℕ) → Option Asked
by_five word from first to last =
    if same_text word (codes "chart") && (same_text from (codes "--from") && same_text to (codes "--to")) then between first last else None

unfoldable pub asked_for : List (List ℕ) → Option Asked
asked_for [] = None
asked_for (word ∷ []) = by_one word
asked_for (word ∷ option ∷ []) = None
asked_for (word ∷ option ∷ number ∷ []) = by_three word option number
asked_for (word ∷ option ∷ number ∷ next ∷ []) = None
asked_for (word ∷ from ∷ first ∷ to ∷ last ∷ []) = by_five word from first to last
asked_for (word ∷ from ∷ first ∷ to ∷ last ∷ more ∷ words) = None
