-- The round of each statement of a task, counted one statement after another.
use Rattle.std.proofs.Common.{◌≡◌, ℕ, ◌+◌, ◌≤◌, Bool, true, false, cond, List, [], ◌∷◌, ◌++◌, length, map, filter, Some, refl, sym, ap, ◌∙◌, arith, add-one}
use Rattle.std.specs.Prelude.{nat_lt, slice_get}
use Rattle.std.proofs.lemmas.List.{map-append}
use Rattle.std.proofs.lemmas.Option.{slice_get_within}
use mir.Val.{bool_byte}
use Rattle.lapi_base.specs.declared.script.Script.{Script}
use Rattle.lapi_base.specs.declared.statement.Statement.{Statement}
use Rattle.lapi_base.specs.Record.Below.{below}
use Rattle.lapi_base.specs.Record.Operations.{numbers_below, statements, statement, is_gfence, is_table, table_rounds}
use Rattle.lapi_base.specs.Record.Refusals.{gfence_rounds, round_of}
use Rattle.lapi_base.proofs.BelowLaws.{below-front, length-below-none, length-below-suc}
use Rattle.lapi_base.proofs.UptoLaws.{numbers_below-none, numbers_below-more}
use Rattle.lapi_task.proofs.Stepping.Forms.{statement-is}

-- a test as a number
pub byte-is : (b : Bool) → bool_byte b ≡ cond b 1 0
byte-is true = refl
byte-is false = refl

-- the rounds of the first n statements, and how many rounds of each kind those have
pub record AreNumbered (listed : List Statement) (memory n : ℕ) (made : List ℕ) (fences tables : ℕ) : Type 0 where
  pub few : (fences ≤ n) × (tables ≤ n)
  pub rounds : (script : Script) (task : ℕ) → listed ≡ statements script task → script.memory ≡ memory → made ≡ map (round_of script task) (numbers_below n)
  pub fence_count : (script : Script) (task : ℕ) → listed ≡ statements script task → script.memory ≡ memory → fences ≡ length (below n (λ i. is_gfence (statement script task i)))
  pub table_count : (script : Script) (task : ℕ) → listed ≡ statements script task → script.memory ≡ memory → tables ≡ length (below n (λ i. is_table script (statement script task i)))

-- The round of a statement is how many of its kind stand before it.
pub round-counts : (script : Script) (task i : ℕ) → i ≤ length (statements script task) → round_of script task i ≡ cond (is_gfence (statement script task i)) (length (below i (λ k. is_gfence (statement script task k)))) (length (below i (λ k. is_table script (statement script task k))))
unfolding round_of gfence_rounds table_rounds
round-counts script task i l =
    let count = length (statements script task) in
    let fence = λ (k : ℕ). is_gfence (statement script task k) in
    let table = λ (k : ℕ). is_table script (statement script task k) in
    elim (is_gfence (statement script task i)) as (λ g. length (filter (λ j. nat_lt j i) (cond g (below count fence) (below count table))) ≡ cond g (length (below i fence)) (length (below i table))) [
      | true ↦ ap length (below-front count fence i l)
      | false ↦ ap length (below-front count table i l)
    ]

pub numbered-none : (listed : List Statement) (memory : ℕ) → AreNumbered listed memory 0 [] 0 0
numbered-none listed memory = record {
  few = (omega arith, omega arith);
  rounds = λ script task same room. sym (ap (map (round_of script task)) numbers_below-none);
  fence_count = λ script task same room. sym (length-below-none 0 (λ i. is_gfence (statement script task i)) (λ k l. absurd (omega (arith, l))));
  table_count = λ script task same room. sym (length-below-none 0 (λ i. is_table script (statement script task i)) (λ k l. absurd (omega (arith, l))));
}

-- One statement more.
module _ (listed : List Statement) (memory n : ℕ) (made : List ℕ) (fences tables : ℕ) (s : Statement) (at : slice_get listed n ≡ Some s) (h : AreNumbered listed memory n made fences tables) (fence table : Bool) (is-fence : fence ≡ is_gfence s) (is-round : (script : Script) → script.memory ≡ memory → table ≡ is_table script s) where
  one : (b : Bool) → cond {A = ℕ} b 1 0 ≤ 1
  one true = omega arith
  one false = omega arith

  module _ (script : Script) (task : ℕ) (same : listed ≡ statements script task) (room : script.memory ≡ memory) where
    there : slice_get (statements script task) n ≡ Some s
    there = ap (λ (xs : List Statement). slice_get xs n) (sym same) ∙ at

    own : statement script task n ≡ s
    own = statement-is script task n s there

    within : n ≤ length (statements script task)
    within = let l = slice_get_within (statements script task) n s there in omega (arith, l)

    own-round : round_of script task n ≡ cond fence fences tables
    own-round =
        round-counts script task n within
        ∙ (λ k. cond (sym (is-fence ∙ ap is_gfence (sym own)) k) (sym (h.fence_count script task same room) k) (sym (h.table_count script task same room) k))

    more-made : made ++ cond fence fences tables ∷ [] ≡ map (round_of script task) (numbers_below (n + 1))
    more-made =
        (λ k. h.rounds script task same room k ++ sym own-round k ∷ [])
        ∙ sym (map-append (round_of script task) (numbers_below n) (n ∷ []))
        ∙ ap (map (round_of script task)) (sym (numbers_below-more n))

    more-fences : fences + cond fence 1 0 ≡ length (below (n + 1) (λ i. is_gfence (statement script task i)))
    more-fences =
        (λ k. h.fence_count script task same room k + cond ((is-fence ∙ ap is_gfence (sym own)) k) 1 0)
        ∙ sym (length-below-suc n (λ i. is_gfence (statement script task i)))
        ∙ ap (λ m. length (below m (λ i. is_gfence (statement script task i)))) (sym (add-one n))

    more-tables : tables + cond table 1 0 ≡ length (below (n + 1) (λ i. is_table script (statement script task i)))
    more-tables =
        (λ k. h.table_count script task same room k + cond ((is-round script room ∙ ap (is_table script) (sym own)) k) 1 0)
        ∙ sym (length-below-suc n (λ i. is_table script (statement script task i)))
        ∙ ap (λ m. length (below m (λ i. is_table script (statement script task i)))) (sym (add-one n))

  pub numbered-more : AreNumbered listed memory (n + 1) (made ++ cond fence fences tables ∷ []) (fences + cond fence 1 0) (tables + cond table 1 0)
  numbered-more = record {
    few = (let l = h.few.0 in let o = one fence in omega (arith, l, o), let l = h.few.1 in let o = one table in omega (arith, l, o));
    rounds = more-made;
    fence_count = more-fences;
    table_count = more-tables;
  }
