-- Parts that several heads have: counters, ranges, words and lists of spans. This is the project's own.
use Rattle.std.specs.Prelude.{ℕ, ◌+◌, ◌-◌, ◌%◌, Bool, ◌&&◌, ◌||◌, List, [], ◌∷◌, length, Option, Some, None, nat_lt, nat_le, ◌==◌, if◌then◌else◌}
use Rattle.lapi_base.specs.declared.reply.Reason.TheVariants as reasons
use Rattle.lapi_base.specs.declared.span.Span.{Span}
use Rattle.lapi_base.specs.Packet.Format.{Format, Done, ◌>>=◌, field, One, Four, repeated}

-- the bytes of the largest memory
abbrev pub memory : ℕ
memory = 65536

-- count bytes from an address on lie in the largest memory
abbrev pub fits : ℕ → ℕ → Bool
fits at count = nat_le (at + count) memory

-- a number below 64, or 255 for none
unfoldable pub counter_form : Format (Option ℕ)
counter_form = do
  n ← field One reasons.Field (λ n. nat_lt n 64 || n == 255)
  Done (if n == 255 then None else Some n)

-- an address from which count bytes lie in the largest memory
unfoldable pub range_form : ℕ → Format ℕ
range_form count = field Four reasons.Field (λ n. fits n count)

-- an address of a word
unfoldable pub word_form : Format ℕ
word_form = field Four reasons.Field (λ n. n % 4 == 0 && nat_le n 65532)

-- how many spans follow
unfoldable pub count_form : Format ℕ
count_form = field One reasons.Field (λ n. nat_le 1 n && nat_le n 16)

-- a span whose length lies between two numbers
unfoldable pub span_form : ℕ → ℕ → Format Span
span_form least most = do
  at ← field Four reasons.Field (λ n. nat_le n memory)
  len ← field Four reasons.Field (λ n. fits at n && nat_le least n && nat_le n most)
  Done (record { at = at; len = len })

-- what is left of a number behind a span
abbrev pub left_behind : ℕ → Span → ℕ
left_behind left span = left - span.len

-- spans whose lengths have a sum of at most a number
abbrev pub within_span : ℕ → ℕ → Format Span
within_span left following = span_form 0 left

abbrev pub within_form : ℕ → ℕ → Format (List Span)
within_form most count = repeated within_span left_behind most count

-- spans whose lengths have a number as their sum: the last has all that is left
abbrev pub covering_span : ℕ → ℕ → Format Span
covering_span left following = span_form (if following == 0 then left else 0) left

abbrev pub covering_form : ℕ → ℕ → Format (List Span)
covering_form total count = repeated covering_span left_behind total count

-- spans of the same lengths as others
abbrev pub matching_span : List Span → ℕ → Format Span
matching_span [] following = span_form 0 0
matching_span (other ∷ others) following = span_form other.len other.len

abbrev pub behind : List Span → Span → List Span
behind [] span = []
behind (other ∷ others) span = others

abbrev pub matching_form : List Span → Format (List Span)
matching_form others = repeated matching_span behind others (length others)
