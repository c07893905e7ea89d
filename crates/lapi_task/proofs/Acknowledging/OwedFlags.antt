-- Which tasks are owed an acknowledgement, where one more may be.
use Rattle.std.proofs.Common.{◌≡◌, ℕ, ◌<◌, ◌==◌, Bool, true, false, cond, ◌&&◌, ◌||◌, List, length, set, Some, refl, sym, ap, ◌∙◌, ⊎_elim}
use Rattle.std.specs.Prelude.{slice_get}
use Rattle.std.proofs.lemmas.Bool.{cases_eq, and_from, and_left, eq-eqb, ne_eqb}
use Rattle.std.proofs.lemmas.List.{length-set}
use Rattle.lapi_base.proofs.ListLaws.{get-some, get-set, get-set-other}
use Rattle.lapi_base.proofs.TestLaws.{eqb-refl}
use Rattle.lapi_task.specs.Alone.{is_owed}

-- The flag of one task is set, by a layout that waits for the next poll.
abbrev pub flags_then : List Bool → (a : ℕ) → (waits : Bool) → List Bool
flags_then flags a waits = cond waits (set flags a true) flags

pub flags-length : (flags : List Bool) (a : ℕ) (waits : Bool) → length (flags_then flags a waits) ≡ length flags
flags-length flags a true = length-set flags a true
flags-length flags a false = refl

module _ (flags : List Bool) (a : ℕ) (there : a < length flags) where
  own : slice_get (set flags a true) a ≡ Some true
  own = let old = get-some flags a there in get-set flags a old.0 true old.1

  -- So that one is owed, and the others as before,
  pub owes-more : (waits : Bool) (b : ℕ) → is_owed (slice_get (flags_then flags a waits) b) ≡ ((waits && b == a) || is_owed (slice_get flags b))
  owes-more false b = refl
  owes-more true b =
      let or = λ (c : Bool). c || is_owed (slice_get flags b) in
      ⊎_elim
      (λ (same : b ≡ a). ap (λ x. is_owed (slice_get (set flags a true) x)) same ∙ ap is_owed own ∙ sym (ap or (eq-eqb b a same)))
      (λ (apart : b ≡ a → ⊥). ap is_owed (get-set-other flags a b true apart) ∙ sym (ap or (ne_eqb b a apart)))
      (cases_eq b a)

  -- as the record has it after a delivery at task t.
  pub owed-more : (waits : Bool) (t : ℕ) (owed : ℕ → Bool) (b : ℕ) → slice_get flags b ≡ Some (owed b) → slice_get (flags_then flags a waits) b ≡ Some ((waits && (b == a && t == t)) || owed b)
  owed-more false t owed b e = e
  owed-more true t owed b e =
      let or = λ (c : Bool). Some (c || owed b) in
      ⊎_elim
      (λ (same : b ≡ a). ap (slice_get (set flags a true)) same ∙ own ∙ sym (ap or (and_from (b == a) (t == t) (eq-eqb b a same) (eqb-refl t))))
      (λ (apart : b ≡ a → ⊥). get-set-other flags a b true apart ∙ e ∙ sym (ap or (and_left (b == a) (t == t) (ne_eqb b a apart))))
      (cases_eq b a)
