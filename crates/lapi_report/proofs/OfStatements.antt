-- Lists that stand by rising statement.
use Rattle.std.proofs.Common.{◌≡◌, ◌≢◌, ℕ, zero, suc, ◌+◌, ◌<◌, ◌≤◌, ◌==◌, true, false, cond, List, [], ◌∷◌, ◌++◌, map, filter, refl, sym, ap, ◌∙◌, subst, arith, Option}
use Rattle.std.specs.Prelude.{nat_le, option_to_list}
use Rattle.std.specs.List.{flat_map}
use Rattle.std.proofs.lemmas.Bool.{eqb-true, ne_eqb, leb-true, leb-false, le-leb, lt-leb}
use Rattle.lapi_base.specs.declared.refusal.Refusal.{Refusal}
use Rattle.lapi_base.specs.Output.ReportText.{refused_line, read_line, statement_text}
use Rattle.lapi_base.specs.Laws.Rising.{RiseFrom}
use Rattle.lapi_base.proofs.TestLaws.{eqb-refl}
use Rattle.lapi_report.specs.OfStatements.{said_of, from_on, refused_text, read_text}

module _ {X : Type 0} where
  -- one entry more
  said-now : (s i : ℕ) (v : X) (xs : List (ℕ × X)) → i ≡ s → said_of s ((i, v) ∷ xs) ≡ v ∷ said_of s xs
  said-now s i v xs e = ap (λ b. map (λ (x : ℕ × X). x.1) (cond b ((i, v) ∷ filter (λ (x : ℕ × X). x.0 == s) xs) (filter (λ (x : ℕ × X). x.0 == s) xs))) (ap (λ k. k == s) e ∙ eqb-refl s)

  said-other : (s i : ℕ) (v : X) (xs : List (ℕ × X)) → i ≢ s → said_of s ((i, v) ∷ xs) ≡ said_of s xs
  said-other s i v xs n = ap (λ b. map (λ (x : ℕ × X). x.1) (cond b ((i, v) ∷ filter (λ (x : ℕ × X). x.0 == s) xs) (filter (λ (x : ℕ × X). x.0 == s) xs))) (ne_eqb i s n)

  said-first : (s i : ℕ) (v : X) (xs : List (ℕ × X)) → said_of s ((i, v) ∷ xs) ≡ cond (i == s) (v ∷ said_of s xs) (said_of s xs)
  said-first s i v xs = elim (i == s) as (λ b. map (λ (x : ℕ × X). x.1) (cond b ((i, v) ∷ filter (λ (x : ℕ × X). x.0 == s) xs) (filter (λ (x : ℕ × X). x.0 == s) xs)) ≡ cond b (v ∷ said_of s xs) (said_of s xs)) [
    | true ↦ refl
    | false ↦ refl
  ]

  kept-now : (s i : ℕ) (v : X) (xs : List (ℕ × X)) → s ≤ i → from_on s ((i, v) ∷ xs) ≡ (i, v) ∷ from_on s xs
  kept-now s i v xs h = ap (λ b. cond b ((i, v) ∷ from_on s xs) (from_on s xs)) (le-leb s i h)

  gone-now : (s i : ℕ) (v : X) (xs : List (ℕ × X)) → i < s → from_on s ((i, v) ∷ xs) ≡ from_on s xs
  gone-now s i v xs h = ap (λ b. cond b ((i, v) ∷ from_on s xs) (from_on s xs)) (lt-leb s i h)

  -- those that rise from s on are all of k or later, for a k up to s
  all-stay : (k s : ℕ) (xs : List (ℕ × X)) → k ≤ s → RiseFrom s xs → from_on k xs ≡ xs
  all-stay k s [] le h = refl
  all-stay k s ((i, v) ∷ xs) le h =
      kept-now k i v xs (let a = h.0 in omega (arith, le, a)) ∙ ap (λ ys. (i, v) ∷ ys) (all-stay k (suc i) xs (let a = h.0 in omega (arith, le, a)) h.1)

  -- and none is of an earlier one
  none-earlier : (k s : ℕ) (xs : List (ℕ × X)) → k < s → RiseFrom s xs → said_of k xs ≡ []
  none-earlier k s [] lt h = refl
  none-earlier k s ((i, v) ∷ xs) lt h =
      said-other k i v xs (λ e. let a = h.0 in absurd (omega (arith, lt, a, e))) ∙ none-earlier k (suc i) xs (let a = h.0 in omega (arith, lt, a)) h.1

  -- What is taken at statement s: the first entry, where it is of s; or none.
  pub first_said : (s : ℕ) (x : ℕ × X) (xs later : List (ℕ × X)) → xs ≡ x ∷ later → x.0 ≡ s → RiseFrom s xs → x.1 ∷ [] ≡ said_of s xs
  first_said s x xs later is same h =
      let now = subst (RiseFrom s) is h in
      sym (ap (said_of s) is ∙ said-now s x.0 x.1 later same ∙ ap (λ vs. x.1 ∷ vs) (none-earlier s (suc x.0) later (let a = now.0 in omega (arith, same, a)) now.1))

  pub first_later : (s : ℕ) (x : ℕ × X) (xs later : List (ℕ × X)) → xs ≡ x ∷ later → x.0 ≡ s → RiseFrom s xs → later ≡ from_on (s + 1) xs
  first_later s x xs later is same h =
      let now = subst (RiseFrom s) is h in
      sym (ap (from_on (s + 1)) is ∙ gone-now (s + 1) x.0 x.1 later (omega (arith, same)) ∙ all-stay (s + 1) (suc x.0) later (omega (arith, same)) now.1)

  pub none_said : (s : ℕ) (xs : List (ℕ × X)) → RiseFrom (suc s) xs → [] ≡ said_of s xs
  none_said s xs h = sym (none-earlier s (suc s) xs (omega arith) h)

  pub none_gone : (s : ℕ) (xs : List (ℕ × X)) → RiseFrom (suc s) xs → xs ≡ from_on (s + 1) xs
  none_gone s xs h = sym (all-stay (s + 1) (suc s) xs (omega arith) h)

  pub all_from : (xs : List (ℕ × X)) → RiseFrom 0 xs → from_on 0 xs ≡ xs
  all_from xs h = all-stay 0 0 xs (omega arith) h

  -- Those from s on still rise, say the same of s, and are those from which the next are.
  pub from_rises : (k s : ℕ) (xs : List (ℕ × X)) → RiseFrom k xs → RiseFrom s (from_on s xs)
  from_rises k s [] h = tt
  from_rises k s ((i, v) ∷ xs) h = elim (nat_le s i) as (λ b. nat_le s i ≡ b → RiseFrom s (cond b ((i, v) ∷ from_on s xs) (from_on s xs))) [
    | true ↦ λ e. let le = leb-true s i e in (le, subst (RiseFrom (suc i)) (sym (all-stay s (suc i) xs (omega (arith, le)) h.1)) h.1)
    | false ↦ λ e. from_rises (suc i) s xs h.1
  ] refl

  pub said_from : (s : ℕ) (xs : List (ℕ × X)) → said_of s (from_on s xs) ≡ said_of s xs
  said_from s [] = refl
  said_from s ((i, v) ∷ xs) = elim (nat_le s i) as (λ b. nat_le s i ≡ b → said_of s (cond b ((i, v) ∷ from_on s xs) (from_on s xs)) ≡ said_of s ((i, v) ∷ xs)) [
    | true ↦ λ e. said-first s i v (from_on s xs) ∙ ap (λ vs. cond (i == s) (v ∷ vs) vs) (said_from s xs) ∙ sym (said-first s i v xs)
    | false ↦ λ e. let lt = leb-false s i e in said_from s xs ∙ sym (said-other s i v xs (λ same. absurd (omega (arith, lt, same))))
  ] refl

  pub from_next : (s : ℕ) (xs : List (ℕ × X)) → from_on (s + 1) (from_on s xs) ≡ from_on (s + 1) xs
  from_next s [] = refl
  from_next s ((i, v) ∷ xs) = elim (nat_le s i) as (λ b. nat_le s i ≡ b → from_on (s + 1) (cond b ((i, v) ∷ from_on s xs) (from_on s xs)) ≡ from_on (s + 1) ((i, v) ∷ xs)) [
    | true ↦ λ e. ap (λ ys. cond (nat_le (s + 1) i) ((i, v) ∷ ys) ys) (from_next s xs)
    | false ↦ λ e. let lt = leb-false s i e in from_next s xs ∙ sym (gone-now (s + 1) i v xs (omega (arith, lt)))
  ] refl

  -- the text of those that are of s
  pub of_said : (g : ℕ × X → List ℕ) (s : ℕ) (xs : List (ℕ × X)) → flat_map (λ (x : ℕ × X). cond (x.0 == s) (g x) []) xs ≡ flat_map (λ v. g (s, v)) (said_of s xs)
  of_said g s [] = refl
  of_said g s ((i, v) ∷ xs) = elim (i == s) as (λ b. (i == s) ≡ b → cond b (g (i, v)) [] ++ flat_map (λ (x : ℕ × X). cond (x.0 == s) (g x) []) xs ≡ flat_map (λ w. g (s, w)) (map (λ (x : ℕ × X). x.1) (cond b ((i, v) ∷ filter (λ (x : ℕ × X). x.0 == s) xs) (filter (λ (x : ℕ × X). x.0 == s) xs)))) [
    | true ↦ λ e. ap (λ k. g (k, v) ++ flat_map (λ (x : ℕ × X). cond (x.0 == s) (g x) []) xs) (eqb-true i s e) ∙ ap (λ t. g (s, v) ++ t) (of_said g s xs)
    | false ↦ λ e. of_said g s xs
  ] refl

-- what is written at statement s, from what is left of both lists
pub statement_told : (t s : ℕ) (refused : List (ℕ × Refusal)) (read : List (ℕ × ℕ)) (why : Option Refusal) (value : Option ℕ)
    → option_to_list why ≡ said_of s (from_on s refused) → option_to_list value ≡ said_of s (from_on s read) → refused_text t s why ++ read_text t s value ≡ statement_text t refused read s
statement_told t s refused read why value a b =
    ap (λ reasons. flat_map (λ reason. refused_line t (s, reason)) reasons ++ read_text t s value) (a ∙ said_from s refused)
    ∙ ap (λ values. flat_map (λ reason. refused_line t (s, reason)) (said_of s refused) ++ flat_map (λ n. read_line t (s, n)) values) (b ∙ said_from s read)
    ∙ ap (λ text. text ++ flat_map (λ n. read_line t (s, n)) (said_of s read)) (sym (of_said (refused_line t) s refused))
    ∙ ap (λ text. flat_map (λ (x : ℕ × Refusal). cond (x.0 == s) (refused_line t x) []) refused ++ text) (sym (of_said (read_line t) s read))
