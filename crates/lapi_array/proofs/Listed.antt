-- The lists of a plan's script, as they grow.
use Rattle.std.proofs.Common.{◌≡◌, ℕ, suc, ◌+◌, ◌==◌, Bool, true, false, cond, List, [], ◌∷◌, ◌++◌, map, slice_get, Some, refl, sym, ap, ◌∙◌, append_assoc, arith}
use Rattle.std.proofs.lemmas.List.{append-nil, map_push}
use Rattle.std.proofs.lemmas.Bool.{cond-true, cond-false, eq-eqb}
use Rattle.lapi_base.specs.declared.statement.Statement.{Statement}
use Rattle.lapi_base.specs.declared.statement.Statement.TheVariants.{Gfence}
use Rattle.lapi_base.specs.Record.Below.{below}
use Rattle.lapi_base.specs.Record.Operations.{numbers_below}
use Rattle.std.specs.List.{flat_map}
use Rattle.lapi_base.proofs.ListLaws.{flat_map-push}
use Rattle.lapi_base.proofs.UptoLaws.{numbers_below-none, numbers_below-more}
use Rattle.lapi_blocks.specs.declared.plan.Op.{Op}
use Rattle.lapi_blocks.specs.declared.plan.Plan.{Plan}
use Rattle.lapi_blocks.specs.Plans.{patch_of, tasks_of, part_of, is_nonempty, moves, stores, owners, own_statements, op_statements, first_statements}
use Rattle.lapi_array.specs.Owned.{moves_below}

next : (n : ℕ) → n + 1 ≡ suc n
next n = omega arith

-- one item for each number
pub map_first : {A : Type 0} (f : ℕ → A) → [] ≡ map f (numbers_below 0)
map_first f = sym (ap (map f) numbers_below-none)

pub map_more : {A : Type 0} (f : ℕ → A) (n : ℕ) → map f (numbers_below n) ++ f n ∷ [] ≡ map f (numbers_below (n + 1))
map_more f n = sym (map_push f (numbers_below n) n) ∙ ap (map f) (sym (numbers_below-more n))

-- an operation more, and the fence after it
pub none_first : (plan : Plan) (t : ℕ) → [] ≡ first_statements plan 0 t
unfolding first_statements
none_first plan t = refl

pub one_more : (plan : Plan) (k t : ℕ) → (first_statements plan k t ++ op_statements plan k (slice_get plan.ops k) t) ++ Gfence ∷ [] ≡ first_statements plan (k + 1) t
unfolding first_statements
one_more plan k t =
    append_assoc (first_statements plan k t) (op_statements plan k (slice_get plan.ops k) t) (Gfence ∷ [])
    ∙ ap (λ n. first_statements plan n t) (sym (next k))

-- a part more
module _ (plan : Plan) (k : ℕ) (op : Op) where
  owns : ℕ → Bool
  owns t = is_nonempty (part_of plan (patch_of op) t)

  move : ℕ → Statement
  move t = moves plan k op (part_of plan (patch_of op) t)

  pub none_owned : (front : List Statement) → front ≡ front ++ moves_below plan k op 0
  unfolding moves_below below
  none_owned front = sym (append-nil front)

  below_more : (n : ℕ) → below (n + 1) owns ≡ cond (owns n) (below n owns ++ n ∷ []) (below n owns)
  unfolding below owns
  below_more n = ap (λ m. below m owns) (next n)

  pub owned_more : (front : List Statement) (n : ℕ) → is_nonempty (part_of plan (patch_of op) n) ≡ true
      → (front ++ moves_below plan k op n) ++ moves plan k op (part_of plan (patch_of op) n) ∷ [] ≡ front ++ moves_below plan k op (n + 1)
  unfolding moves_below owns move
  owned_more front n some =
      append_assoc front (map move (below n owns)) (move n ∷ [])
      ∙ ap (λ xs. front ++ xs) (sym (map_push move (below n owns) n))
      ∙ ap (λ ns. front ++ map move ns) (sym (below_more n ∙ cond-true (owns n) (below n owns ++ n ∷ []) (below n owns) some))

  pub owned_less : (front : List Statement) (n : ℕ) → is_nonempty (part_of plan (patch_of op) n) ≡ false → front ++ moves_below plan k op n ≡ front ++ moves_below plan k op (n + 1)
  unfolding moves_below owns move
  owned_less front n none = ap (λ ns. front ++ map move ns) (sym (below_more n ∙ cond-false (owns n) (below n owns ++ n ∷ []) (below n owns) none))

  -- those of all parts, behind a set's store
  pub all_owned : (front : List Statement) → (front ++ stores k op) ++ moves_below plan k op (tasks_of plan) ≡ front ++ own_statements plan k op
  unfolding moves_below owners
  all_owned front = append_assoc front (stores k op) (moves_below plan k op (tasks_of plan))

  -- all statements of the operation, at its task
  pub at_own : (t : ℕ) (old mid list : List Statement) → slice_get plan.ops k ≡ Some op → (patch_of op).task ≡ t → mid ≡ old ++ stores k op → list ≡ mid ++ moves_below plan k op (tasks_of plan)
      → list ≡ old ++ op_statements plan k (slice_get plan.ops k) t
  at_own t old mid list there is stored moved =
      moved
      ∙ ap (λ xs. xs ++ moves_below plan k op (tasks_of plan)) stored
      ∙ all_owned old
      ∙ ap (λ xs. old ++ xs) (sym (ap (λ o. op_statements plan k o t) there ∙ cond-true (t == (patch_of op).task) (own_statements plan k op) [] (eq-eqb t (patch_of op).task (sym is))))

-- several items for each number, also behind a front
pub flat_first : {A : Type 0} (f : ℕ → List A) → [] ≡ flat_map f (numbers_below 0)
flat_first f = sym (ap (flat_map f) numbers_below-none)

pub flat_more : {A : Type 0} (f : ℕ → List A) (n : ℕ) → flat_map f (numbers_below n) ++ f n ≡ flat_map f (numbers_below (n + 1))
flat_more f n = sym (flat_map-push f (numbers_below n) n) ∙ ap (flat_map f) (sym (numbers_below-more n))

pub flat_none : {A : Type 0} (f : ℕ → List A) (front : List A) → front ≡ front ++ flat_map f (numbers_below 0)
flat_none f front = sym (ap (λ ns. front ++ flat_map f ns) numbers_below-none ∙ append-nil front)

pub flat_behind : {A : Type 0} (f : ℕ → List A) (front : List A) (n : ℕ) → (front ++ flat_map f (numbers_below n)) ++ f n ≡ front ++ flat_map f (numbers_below (n + 1))
flat_behind f front n = append_assoc front (flat_map f (numbers_below n)) (f n) ∙ ap (λ xs. front ++ xs) (flat_more f n)
