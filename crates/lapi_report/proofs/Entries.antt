-- The lines of the entries of a wire, one after another.
use Rattle.std.proofs.Common.{◌≡◌, ℕ, ◌+◌, ◌<◌, List, ◌++◌, length, drop, get_or, sym, ap, ◌∙◌, subst, Option}
use Rattle.std.proofs.lemmas.List.{drop_more}
use Rattle.std.specs.Io.KnownBytes.{Appends}
use Rattle.lapi_base.specs.Output.WireText.{entry_line, entry_lines}
use Rattle.lapi_io.specs.Writes.{AppendsFront}
use Rattle.lapi_report.specs.SinkWrites.{Progress}
use Rattle.lapi_report.proofs.Progress.{goes_on, stops}

next_entry : (a b k : ℕ) (entries : List (List ℕ)) (entry : List ℕ) → k < length entries → entry ≡ get_or entries k entry
    → entry_lines a b k (drop k entries) ≡ entry_line a b k entry ++ entry_lines a b (k + 1) (drop (k + 1) entries)
next_entry a b k entries entry h is =
    ap (λ es. entry_lines a b k es) (drop_more entries k entry h)
    ∙ ap (λ t. entry_line a b k t ++ entry_lines a b (k + 1) (drop (k + 1) entries)) (sym is)

pub entry_written : (a b k : ℕ) (entries : List (List ℕ)) (entry : List ℕ) (old now next : Option (List ℕ)) (text : List ℕ)
    → k < length entries → entry ≡ get_or entries k entry → Progress old now text (entry_lines a b k (drop k entries)) → Appends now next (entry_line a b k entry)
    → Progress old next text (entry_lines a b (k + 1) (drop (k + 1) entries))
entry_written a b k entries entry old now next text h is p w = goes_on old now next text _ _ (subst (λ s. Progress old now text s) (next_entry a b k entries entry h is) p) w

pub entry_stops : (a b k : ℕ) (entries : List (List ℕ)) (entry : List ℕ) (old now next : Option (List ℕ)) (text : List ℕ)
    → k < length entries → entry ≡ get_or entries k entry → Progress old now text (entry_lines a b k (drop k entries)) → AppendsFront now next (entry_line a b k entry)
    → AppendsFront old next text
entry_stops a b k entries entry old now next text h is p w = stops old now next text _ _ (subst (λ s. Progress old now text s) (next_entry a b k entries entry h is) p) w
