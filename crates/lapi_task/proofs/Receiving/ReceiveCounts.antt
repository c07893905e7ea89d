-- The counters after an event was counted.
use Rattle.std.proofs.Common.{◌≡◌, ℕ, ◌+◌, ◌<◌, ◌==◌, true, cond, List, length, Option, Some, None, refl, sym, ap, ◌∙◌, subst, ⊎_elim, add-zero}
use Rattle.std.specs.Prelude.{slice_index}
use Rattle.std.proofs.lemmas.Bool.{cond-true, cond-false, cases_eq, ne_eqb}
use Rattle.std.proofs.lemmas.List.{length-set, get_or-set_same, get_or-set_other}
use Rattle.lapi_base.specs.Record.Refusals.{option_any}
use Rattle.lapi_base.proofs.TestLaws.{eqb-refl}
use Rattle.lapi_task.specs.Counting.{announced}

pub announced-length : (counters : List ℕ) (o : Option ℕ) → length (announced counters o) ≡ length counters
announced-length counters None = refl
announced-length counters (Some c) = length-set counters c (slice_index counters c + 1)

pub announced-at : (counters : List ℕ) (o : Option ℕ) (d : ℕ) → d < length counters → slice_index (announced counters o) d ≡ slice_index counters d + cond (option_any (λ c. c == d) o) 1 0
announced-at counters None d l = sym (add-zero (slice_index counters d))
announced-at counters (Some c) d l =
    ⊎_elim
    (λ (same : d ≡ c).
    ap (slice_index (announced counters (Some c))) same
    ∙ get_or-set_same counters c (slice_index counters c + 1) 0 (subst (λ x. x < length counters) same l)
    ∙ ap (λ x. slice_index counters x + 1) (sym same)
    ∙ ap (λ n. slice_index counters d + n) (sym (cond-true (c == d) 1 0 (subst (λ x. (x == d) ≡ true) same (eqb-refl d)))))
    (λ (apart : d ≡ c → ⊥).
    get_or-set_other counters c d (slice_index counters c + 1) 0 apart
    ∙ sym (add-zero (slice_index counters d))
    ∙ ap (λ n. slice_index counters d + n) (sym (cond-false (c == d) 1 0 (ne_eqb c d (λ e. apart (sym e))))))
    (cases_eq d c)
