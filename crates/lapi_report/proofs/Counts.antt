-- Counts of a record that are made one by one.
use Rattle.std.proofs.Common.{◌≡◌, ℕ, ◌+◌, List, reverse, sym, ap, ◌∙◌}
use Rattle.std.proofs.lemmas.List.Sorted.{sum_by-IsPermutation, IsPermutation-reverse}
use Rattle.std.proofs.lemmas.List.Sums.{length-filter, sum_by_push}
use Rattle.std.specs.List.{sum_by}
use Rattle.std.specs.Prelude.{cond}
use Rattle.lapi_base.proofs.UptoLaws.{numbers_below-none, numbers_below-more}
use Rattle.lapi_base.specs.Output.SummaryText.{is_landing, landings_of}
use Rattle.lapi_base.specs.Record.Operations.{numbers_below}
use Rattle.lapi_base.specs.declared.event.Event.{Event}

pub sum_none : (f : ℕ → ℕ) → 0 ≡ sum_by f (numbers_below 0)
sum_none f = sym (ap (sum_by f) numbers_below-none)

pub sum_next : (f : ℕ → ℕ) (n : ℕ) → sum_by f (numbers_below n) + f n ≡ sum_by f (numbers_below (n + 1))
sum_next f n = sym (ap (sum_by f) (numbers_below-more n) ∙ sum_by_push f (numbers_below n) n)

-- from the first to the last, or from the last to the first
pub landings_turned : (journal : List Event) → landings_of (reverse journal) ≡ landings_of journal
landings_turned journal =
    length-filter is_landing (reverse journal) ∙ sum_by-IsPermutation (λ e. cond (is_landing e) 1 0) journal (reverse journal) (IsPermutation-reverse journal) ∙ sym (length-filter is_landing journal)
