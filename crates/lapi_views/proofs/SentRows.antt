-- The rows of the entries of a wire, one after another.
use Rattle.std.proofs.Common.{◌≡◌, ℕ, ◌+◌, ◌<◌, ◌≤◌, List, [], ◌∷◌, ◌++◌, length, drop, get_or, sym, ap, ◌∙◌, append_assoc}
use Rattle.std.proofs.lemmas.List.{append-nil, drop_all, drop_more}
use Rattle.lapi_base.specs.Packet.Spelling.{decoded}
use Rattle.lapi_picture.specs.declared.cargo.Cargo.{Cargo}
use Rattle.lapi_picture.specs.declared.row.Row.{Row}
use Rattle.lapi_picture.specs.declared.row.Row.TheVariants as rows
use Rattle.lapi_views.specs.ChartParts.{cargo_by, entry_rows}

-- one entry more
pub entry_added : (a b k : ℕ) (entries : List (List ℕ)) (entry bytes : List ℕ) (cargo : Cargo) (all now next : List Row)
    → k < length entries → entry ≡ get_or entries k entry → bytes ≡ entry → cargo ≡ cargo_by (decoded bytes) → all ≡ now ++ entry_rows a b k (drop k entries) → next ≡ now ++ rows.Sent a b k cargo ∷ []
    → all ≡ next ++ entry_rows a b (k + 1) (drop (k + 1) entries)
unfolding entry_rows
entry_added a b k entries entry bytes cargo all now next lt is same told before pushed =
    let rest = entry_rows a b (k + 1) (drop (k + 1) entries) in
    before
    ∙ ap (λ es. now ++ entry_rows a b k es) (drop_more entries k entry lt)
    ∙ ap (λ (c : Cargo). now ++ rows.Sent a b k c ∷ rest) (sym (told ∙ ap (λ x. cargo_by (decoded x)) (same ∙ is)))
    ∙ sym (append_assoc now (rows.Sent a b k cargo ∷ []) rest)
    ∙ ap (λ s. s ++ rest) (sym pushed)

-- and after the last
pub entries_done : (a b k : ℕ) (entries : List (List ℕ)) (all now : List Row) → length entries ≤ k → all ≡ now ++ entry_rows a b k (drop k entries) → now ≡ all
unfolding entry_rows
entries_done a b k entries all now past before = sym (before ∙ ap (λ es. now ++ entry_rows a b k es) (drop_all k entries past) ∙ append-nil now)
